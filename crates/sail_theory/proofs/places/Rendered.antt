-- A table is sound exactly when its sizes are right, its list is good, its owners fit, and its cells and counts are those that are rendered.
-- Level by level, by proofs/places/Pools.antt: live cells that show what the routes ask, with zeros at the other places, are the level's pool.
use mathlib.Core.Path.{◌≡◌, sym, ◌∙◌, ap, subst}
use mathlib.Core.Bool.{true≢false}
use mathlib.Core.List.{List}
use Prim.Native.Nat.{ℕ, ◌≤◌}
use native.Mathlib.Omega.{arith}
use native.Mathlib.Nat.{not-suc-le-zero}
use lib.ListN.{length}
use Rattle.routes.specs.Route.{Good}
use Rattle.routes.specs.Record.{Listed}
use Rattle.routes.specs.declared.Route.{Route}
use Rattle.standing.proofs.Need.{none_longer}
use Rattle.counts.proofs.Stored.{length-tallies, tallies-counted, counted-tallies}
use Rattle.routes.proofs.Rows.{records-good, length-written, routes-written, written_listed}
use Rattle.sail.specs.Geometry.{Valid}
use Rattle.sail.specs.Lent.{Lent}
use Rattle.sail.specs.Level.{Level, Chunks, entry, chunks_of, no_chunks, top, below, level1, level2, level3}
use Rattle.sail.specs.Sizes.{Sized}
use Rattle.sail.specs.Sound.{Shows, AllLeaves, Clear, Sound, standing}
use Rattle.sail.specs.declared.geometry.Geometry.{Geometry}
use Rattle.sail.specs.declared.table.Table.{Table}
use Rattle.sail_theory.specs.Render.{pool, rendered, Fits, Rendered}
use Rattle.sail_theory.proofs.places.Pools.{length-pool, pool-clear, pool-leaf, pool-shows, shows-fits, shows-pool}

-- every cell of the first level is live
pub top-clear : (p : ℕ) (cells : ℕ → ℕ) → Clear (top p) cells
top-clear p cells = record { blank = λ q h e. absurd (true≢false e) }

-- no route is longer than 32: in a level of 32 bits no cell is deep, so that no chunk hangs from it, and its live cells are leaves
module _ (rs : List Route) (good : Good rs) (v : Level) (k : Chunks) where
  pub last_fits : Fits rs (below v k 32) no_chunks
  last_fits = record {
    lies = λ c q l e. absurd (not-suc-le-zero l);
    has = λ q l e d. absurd (true≢false (sym d ∙ none_longer rs _ good));
    once = λ c q l e. absurd (not-suc-le-zero l);
  }

  last-leaves : AllLeaves rs (below v k 32) (entry (pool rs (below v k 32) no_chunks))
  last-leaves = record { leaf = λ q l e. pool-leaf rs (below v k 32) no_chunks q l e (none_longer rs _ good) }

  last-shows : (cells : ℕ → ℕ) → AllLeaves rs (below v k 32) cells → Shows rs (below v k 32) no_chunks cells
  last-shows cells s = record {
    node = λ q l e d. absurd (true≢false (sym d ∙ none_longer rs _ good));
    leaf = λ q l e d. s.leaf q l e;
    owned = λ c q l e. absurd (not-suc-le-zero l);
  }

module _ (t : Table) (l : Lent) where
  abbrev g : Geometry
  g = t.geometry

  abbrev rs : List Route
  rs = standing t l

  abbrev own2 : List ℕ
  own2 = l.own2

  abbrev own3 : List ℕ
  own3 = l.own3

  pub listed-good : Listed l.list t.count → Good rs
  listed-good h = records-good l.list t.count h.records

  -- the three levels, and the chunks that hang from the first two
  abbrev v1 : Level
  v1 = level1 g

  abbrev v2 : Level
  v2 = level2 g (chunks_of own2)

  abbrev v3 : Level
  v3 = level3 g (chunks_of own2) (chunks_of own3)

  -- From the levels: this is what a program that looks at every cell shows. What `Shows` says of a level's cells fixes them, and its chunks fit.
  pub sound-rendered : Sound t l → Rendered t l
  sound-rendered s = record {
    sized = s.sized;
    listed = s.listed;
    fits2 = shows-fits rs v1 (chunks_of own2) (entry l.first) s.serves.first;
    fits3 = shows-fits rs v2 (chunks_of own3) (entry l.second) s.serves.second;
    is_first = shows-pool rs v1 (chunks_of own2) l.first s.serves.first s.sized.cells1 (top-clear g.p1 (entry l.first));
    is_second = shows-pool rs v2 (chunks_of own3) l.second s.serves.second s.sized.cells2 s.clear2;
    is_third =
        shows-pool rs v3 no_chunks l.third (last-shows rs (listed-good s.listed) v2 (chunks_of own3) (entry l.third) s.serves.third)
        s.sized.cells3 s.clear3;
    is_long1 = counted-tallies rs v1.bits v1.places v1.live v1.at l.long1 s.sized.counts1 s.counted1;
    is_long2 = counted-tallies rs v2.bits v2.places v2.live v2.at l.long2 (s.sized.counts2 ∙ s.sized.cells2) s.counted2;
  }

  -- And back: a pool shows what its level asks, and is 0 where no place is live; at the third level no cell is deep, so all are leaves.
  pub rendered-sound : Rendered t l → Sound t l
  rendered-sound w = record {
    sized = w.sized;
    listed = w.listed;
    serves = record {
      first = rw w.is_first (pool-shows rs v1 (chunks_of own2) w.fits2);
      second = rw w.is_second (pool-shows rs v2 (chunks_of own3) w.fits3);
      third = rw w.is_third (last-leaves rs (listed-good w.listed) v2 (chunks_of own3));
    };
    clear2 = rw w.is_second (pool-clear rs v2 (chunks_of own3));
    clear3 = rw w.is_third (pool-clear rs v3 no_chunks);
    counted1 = rw w.is_long1 (tallies-counted rs v1.bits v1.places v1.live v1.at);
    counted2 = rw w.is_long2 (tallies-counted rs v2.bits v2.places v2.live v2.at);
  }

-- A table can be rendered: good routes within its room, and sizes within the limits.
pub record Renders (g : Geometry) (room : ℕ) (rs : List Route) (own2 own3 : List ℕ) : Type 0 where
  pub valid : Valid g
  pub few : room ≤ 4096
  pub good : Good rs
  pub roomy : length rs ≤ room
  pub few2 : length own2 ≤ 4096
  pub few3 : length own3 ≤ 4096

-- It is then sound where the owners fit, and its list holds the routes: what is written is read back, and the rest is what was to be rendered.
module _ (g : Geometry) (room : ℕ) (rs : List Route) (own2 own3 : List ℕ) (k : Renders g room rs own2 own3) where
  abbrev now : Table
  now = record { geometry = g; count = length rs }

  abbrev shape : Lent
  shape = rendered g room rs own2 own3

  pub render-standing : standing now shape ≡ rs
  render-standing = routes-written rs room k.good k.roomy

  pub render-sized : Sized g shape
  render-sized =
      let w = length-written rs room in
      record {
        valid = k.valid;
        whole = omega arith;
        room = omega (arith, k.few);
        cells1 = length-pool rs (level1 g) (chunks_of own2);
        few2 = k.few2;
        cells2 = length-pool rs (level2 g (chunks_of own2)) (chunks_of own3);
        few3 = k.few3;
        cells3 = length-pool rs (level3 g (chunks_of own2) (chunks_of own3)) no_chunks;
        counts1 = length-tallies rs _ _ _ _;
        counts2 = length-tallies rs _ _ _ _ ∙ sym (length-pool rs (level2 g (chunks_of own2)) (chunks_of own3));
      }

  pub render-sound : Fits rs (level1 g) (chunks_of own2) → Fits rs (level2 g (chunks_of own2)) (chunks_of own3) → Sound now shape
  render-sound f2 f3 = rendered-sound now shape (record {
    sized = render-sized;
    listed = written_listed rs room k.good k.roomy k.few;
    fits2 = subst (λ (x : List Route). Fits x (level1 g) (chunks_of own2)) (sym render-standing) f2;
    fits3 = subst (λ (x : List Route). Fits x (level2 g (chunks_of own2)) (chunks_of own3)) (sym render-standing) f3;
    is_first = ap {B = List ℕ} (λ (x : List Route). (rendered g room x own2 own3).first) (sym render-standing);
    is_second = ap {B = List ℕ} (λ (x : List Route). (rendered g room x own2 own3).second) (sym render-standing);
    is_third = ap {B = List ℕ} (λ (x : List Route). (rendered g room x own2 own3).third) (sym render-standing);
    is_long1 = ap {B = List ℕ} (λ (x : List Route). (rendered g room x own2 own3).long1) (sym render-standing);
    is_long2 = ap {B = List ℕ} (λ (x : List Route). (rendered g room x own2 own3).long2) (sym render-standing);
  })
