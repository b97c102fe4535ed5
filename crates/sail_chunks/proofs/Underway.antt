-- A change at a prefix that is under way: the list and the owners are the new ones, and the cells still the old ones, but for those of a
-- chunk that is closed. Then no live cell is wrong but those that the change made stale.
use mathlib.Core.Path.{◌≡◌, refl, sym, ◌∙◌, ap}
use mathlib.Core.List.{List}
use Prim.Native.Nat.{ℕ}
use native.Mathlib.Omega.{arith}
use lib.ListN.{get_or}
use Rattle.routes.specs.Route.{Prefix}
use Rattle.routes.specs.declared.Route.{Route}
use Rattle.chain.specs.Words.{routes_of_words}
use Rattle.chain.specs.Cover.{ChainReady}
use Rattle.sail.specs.Lent.{Lent, Cells}
use Rattle.sail.specs.Level.{Chunks, chunks_of, no_chunks, level1, level2, level3}
use Rattle.sail.specs.Sizes.{Sized, Celled}
use Rattle.sail.specs.declared.geometry.Geometry.{Geometry}
use Rattle.sail_theory.specs.Render.{rendered}
use Rattle.sail_theory.specs.Alters.{Frame}
use Rattle.sail_theory.proofs.places.Pools.{pool-shown}
use Rattle.sail_paint.specs.Stale.{meets, stale_below, RightButStale, Stale, Repainted, AsAsked}
use Rattle.sail_paint.proofs.Rights.{repainted-asked}
use Rattle.sail_chunks.proofs.Still.{meets-none, PoolUnderway, held-right}

-- l is what was lent before the change, u the cells and owners under way, and rs the routes that then stand
pub record Underway (g : Geometry) (a len : ℕ) (rs : List Route) (l : Lent) (u : Cells) : Type 0 where
  pub sized : Sized g l
  pub prefix : Prefix a len
  pub room : ℕ
  pub frame : Frame g a len l (rendered g room rs u.own2 u.own3)
  pub first : u.first ≡ l.first
  pub second : PoolUnderway rs a len (level1 g) (level1 g) g.p2 l.own2 u.own2 l.second u.second
  pub third : PoolUnderway rs a len (level2 g (chunks_of l.own2)) (level2 g (chunks_of u.own2)) 32 l.own3 u.own3 l.third u.third

module _ (g : Geometry) (a len : ℕ) (rs : List Route) (l : Lent) (u : Cells) (w : Underway g a len rs l u) where
  still-celled : Celled g u
  still-celled =
      let z = w.sized in
      record {
        valid = z.valid;
        cells1 = rw w.first z.cells1;
        few2 = rw w.second.many z.few2;
        cells2 = w.second.size ∙ rw w.second.many z.cells2;
        few3 = rw w.third.many z.few3;
        cells3 = w.third.size ∙ rw w.third.many z.cells3;
      }

  abbrev k2 : Chunks
  k2 = chunks_of u.own2

  abbrev k3 : Chunks
  k3 = chunks_of u.own3

  right1 : RightButStale rs (level1 g) k2 (meets a len g.p1) u.first
  right1 = record {
    right = λ q i e m.
        let v = w.sized.valid in
        let none = meets-none a len g.p1 q w.prefix.len_ok (omega arith) m in
        ap (λ (x : List ℕ). get_or x q 0) w.first ∙ sym (w.frame.first.stays q i (record { live = refl; at = λ _. refl }) (λ _. none))
        ∙ pool-shown rs (level1 g) k2 q i e;
  }

  right2 : RightButStale rs (level2 g k2) k3 (stale_below a len (level1 g) k2 g.p2) u.second
  right2 =
      let v = w.sized.valid in
      held-right rs a len w.prefix.len_ok (level1 g) (level1 g) g.p2 (omega arith) (omega arith) _ _ _ _ w.second k3 w.frame.second

  right3 : RightButStale rs (level3 g k2 k3) no_chunks (stale_below a len (level2 g k2) k3 32) u.third
  right3 =
      let v = w.sized.valid in
      held-right rs a len w.prefix.len_ok (level2 g (chunks_of l.own2)) (level2 g k2) 32 (omega arith) (omega arith) _ _ _ _ w.third no_chunks
      w.frame.third

  -- the routes of the words are those that then stand
  pub underway-stale : (ws par : List ℕ) → ChainReady ws par → routes_of_words ws ≡ rs → Stale g ws par a len u
  underway-stale ws par ready e = record {
    ready = ready;
    celled = still-celled;
    prefix = w.prefix;
    fits2 = rw e w.second.fits;
    fits3 = rw e w.third.fits;
    right1 = rw e right1;
    right2 = rw e right2;
    right3 = rw e right3;
  }

  -- and once it is painted again, the cells are those that the routes and owners ask for
  pub underway-asked : (first second third : List ℕ) → Repainted g rs u first second third → AsAsked g rs u first second third
  underway-asked = repainted-asked g rs u still-celled w.second.clear w.third.clear
