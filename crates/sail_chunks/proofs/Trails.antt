-- The cells of an address where the first two levels serve the routes.
use mathlib.Core.Path.{◌≡◌, sym, ◌∙◌, ap}
use mathlib.Core.Bool.{true, false, not, true≢false}
use mathlib.Core.List.{List}
use Prim.Native.Nat.{ℕ, ◌+◌, ◌*◌, ◌%◌, ◌^◌, ◌≤◌, ◌<◌}
use native.Mathlib.Omega.{arith}
use lib.ListN.{get_or, length}
use borrow.Author.Tests.{le-leb, lt-leb, not-true, not-false}
use Rattle.bits.specs.Slot.{slot}
use Rattle.standing.specs.Cells.{long}
use Rattle.routes.specs.declared.Route.{Route}
use Rattle.sail.specs.Geometry.{bits2}
use Rattle.sail.specs.Lent.{Lent}
use Rattle.sail.specs.Level.{Level, entry, chunks_of, level1, level2}
use Rattle.sail.specs.Sound.{Shows, Sound, standing}
use Rattle.sail.specs.Walk.{cell_place}
use Rattle.sail.specs.declared.geometry.Geometry.{Geometry}
use Rattle.sail.specs.declared.table.Table.{Table}
use Rattle.sail.proofs.Places.{names-exactly}
use Rattle.standing.proofs.TwoLevels.{slot-down, short-down}
use Rattle.sail_theory.proofs.places.Places.{LiveFor, top-served, below-served}
use Rattle.sail_theory.proofs.places.Pools.{shown-node, shows-fits, shows-shown}
use Rattle.sail_chunks.specs.Trail.{CellTells, Serving, Trailed}

-- in a sound table they do
pub serving-of : (t : Table) (l : Lent) → Sound t l → Serving t.geometry (standing t l) l.first l.second l.own2 l.own3
serving-of t l s =
    let z = s.sized in
    record { valid = z.valid; cells1 = z.cells1; few2 = z.few2; cells2 = z.cells2; few3 = z.few3; shows1 = s.serves.first; shows2 = s.serves.second }

-- the cell at the place that serves an address, in a level whose cells are right
told : (rs : List Route) (v : Level) (cells : ℕ → ℕ) (own : List ℕ) → length own ≤ 4096 → Shows rs v (chunks_of own) cells → (a : ℕ) → LiveFor v a
    → CellTells rs v own a (cells (v.serving a))
told rs v cells own few s a p = record {
  leaf = names-exactly rs v (chunks_of own) cells s (omega arith) (v.serving a) p.inside p.used ∙ ap (λ (i : ℕ). not (long rs v.bits i)) p.stands;
  node = λ d. shows-shown rs v (chunks_of own) cells s (v.serving a) p.inside p.used ∙ shown-node rs v (chunks_of own) (v.serving a) (rw p.stands d);
}

module _ (g : Geometry) (rs : List Route) (first second own2 own3 : List ℕ) (s : Serving g rs first second own2 own3) (a : ℕ) (small : a < 2 ^ 32) where
  served1 : LiveFor (level1 g) a
  served1 = let v = s.valid in top-served g.p1 a (omega arith) small

  pub first-there : (i : ℕ) → i ≡ slot g.p1 a → i < length first
  first-there i e = rw (e, s.cells1) served1.inside

  module _ (i : ℕ) (e : i ≡ slot g.p1 a) where
    abbrev x : ℕ
    x = get_or first i 0

    first-told : CellTells rs (level1 g) own2 a x
    first-told = rw e (told rs (level1 g) (entry first) own2 s.few2 s.shows1 a served1)

    -- the first cell is a leaf
    pub trail-short : 32768 ≤ x → Trailed g rs own2 own3 a x 32768
    trail-short h = record { first = first-told; second = record { leaf = rw none; node = λ d. absurd (true≢false (sym d ∙ none)) } }
      where
        none : long rs g.p2 (slot g.p2 a) ≡ false
        none =
            let v = s.valid in
            let short : long rs g.p1 (slot g.p1 a) ≡ false = not-true _ (sym first-told.leaf ∙ le-leb 32768 x h) in
            short-down rs g.p1 g.p2 (slot g.p2 a) (omega arith) (omega arith) (rw (slot-down g.p1 g.p2 a (omega arith) (omega arith)) at short)

    -- or names a chunk
    module _ (h : x < 32768) where
      deeper : long rs g.p1 (slot g.p1 a) ≡ true
      deeper = not-false _ (sym first-told.leaf ∙ lt-leb 32768 x h)

      pub named_small : (1 ≤ x) × (x ≤ 4096)
      named_small = let n = s.shows1.node (slot g.p1 a) served1.inside served1.used deeper in rw e (n.one, omega (arith, n.last, s.few2))

      module _ (q : ℕ) (p : q ≡ cell_place (bits2 g) x (slot g.p2 a)) where
        is-place : q ≡ (level2 g (chunks_of own2)).serving a
        is-place = let n = first-told.node deeper in p ∙ ap (λ (y : ℕ). y * 2 ^ bits2 g + slot g.p2 a % 2 ^ bits2 g) (omega arith)

        served2 : LiveFor (level2 g (chunks_of own2)) a
        served2 =
            let v = s.valid in
            below-served rs (level1 g) (chunks_of own2) (shows-fits rs (level1 g) (chunks_of own2) (entry first) s.shows1) g.p2 a (omega arith)
            (omega arith) served1 deeper

        pub second-there : q < length second
        second-there = rw (is-place, s.cells2) served2.inside

        pub trail-long : Trailed g rs own2 own3 a x (get_or second q 0)
        trail-long = record {
          first = first-told;
          second = rw is-place (told rs (level2 g (chunks_of own2)) (entry second) own3 s.few3 s.shows2 a served2);
        }
