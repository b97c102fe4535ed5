-- The walk of the code is that of the definition: a record longer than 16 bits decides, and otherwise the maps do.
use mathlib.Core.Path.{◌≡◌, sym, ap, ◌∙◌, subst}
use mathlib.Core.Bool.{true, false}
use mathlib.Core.List.{List}
use Prim.Native.Nat.{ℕ, suc, ◌-◌, ◌/◌, ◌≤◌, ◌<◌}
use native.Mathlib.Omega.{arith}
use lib.ListN.{length}
use Rattle.std.specs.Prelude.{Option, Some, None}
use Rattle.routes.specs.Route.{Good}
use Rattle.routes.specs.Record.{record_at, Records, GoodInput, routes_in}
use Rattle.routes.specs.declared.Route.{Route}
use Rattle.routes.proofs.Rows.{record-listed, listed-record, records-good}
use Rattle.standing.specs.Cells.{covers, Longest}
use Rattle.standing.specs.Down.{down}
use Rattle.standing.proofs.Downs.{down-none, down-some}
use Rattle.longest.specs.Longest.{LongestRecord}
use Rattle.basic.specs.Walk.{mapped, as_met, basic_walk}
use Rattle.basic.proofs.Walks.{walk-maps, walk-list}

-- a turn of the loop down through the maps, where the levels from m on said nothing
module _ (f : ℕ → ℕ) (n m : ℕ) (e : down f n ≡ down f m) (u : 0 < m) where
  next : down f n ≡ down f (suc (m - 1))
  next = e ∙ ap (down f) (omega arith)

  pub turn-some : (h : ℕ) → as_met (Some h) ≡ f (m - 1) → as_met (Some h) ≡ down f n
  turn-some h q = q ∙ sym (next ∙ down-some f (m - 1) (λ z. omega (arith, q, z)))

  pub turn-none : as_met None ≡ f (m - 1) → down f n ≡ down f (m - 1)
  turn-none q = next ∙ down-none f (m - 1) (sym q)

pub turns-done : (f : ℕ → ℕ) (n m : ℕ) → down f n ≡ down f m → m ≤ 0 → as_met None ≡ down f n
unfolding down
turns-done f n m e h = let z : m ≡ 0 = omega arith in sym (e ∙ ap (down f) z)

-- the code's longest record is the longest route
module _ (s : List ℕ) (n a : ℕ) (ok : GoodInput s n) (bs cs : List ℕ) where
  all : n ≡ length s / 8
  all = omega (arith, ok.whole)

  pub walk-long : (k : ℕ) → LongestRecord s n a 17 (Some k) → (r : Route) → r ≡ record_at s k
      → as_met (Some r.hop) ≡ basic_walk (routes_in s) bs cs a
  walk-long _ (LongestRecord.one k u x) r er = sym (walk-list (routes_in s) bs cs a good r.hop longest (omega (arith, x.enough)))
    where
      good : Good (routes_in s)
      good = records-good s (length s / 8) (subst (Records s) all ok.records)

      no_longer : (r' : Route) → (j : ℕ) × (j < length s / 8) × (record_at s j ≡ r') → covers 32 a r' ≡ true → r'.len ≤ (record_at s k).len
      no_longer r' q c =
          rw (ap (λ (y : Route). y.len) q.2) at (x.longest q.0 (rw all q.1) (ap (covers 32 a) q.2 ∙ c))

      longest : Longest (routes_in s) 32 a r.hop
      longest = record {
        route = record_at s k;
        listed = record-listed s (length s / 8) k (rw (← all) u);
        covering = x.covering;
        longest = λ r' m c. no_longer r' (listed-record s (length s / 8) r' m) c;
        its_hop = ap (λ (y : Route). y.hop) er;
      }

  pub walk-short : LongestRecord s n a 17 None → (met : Option ℕ) → as_met met ≡ down (mapped bs cs a) 17
      → as_met met ≡ basic_walk (routes_in s) bs cs a
  walk-short (LongestRecord.none clear) met e =
      e ∙ sym (walk-maps (routes_in s) bs cs a (λ r m h. none r (listed-record s (length s / 8) r m) h))
    where
      none : (r : Route) → (j : ℕ) × (j < length s / 8) × (record_at s j ≡ r) → 16 < r.len → covers 32 a r ≡ false
      none r q h = ap (covers 32 a) (sym q.2) ∙ clear q.0 (rw all q.1) (rw (ap (λ (y : Route). y.len) q.2) h)
