-- The need of good records, counted one by one: what is kept after the first k of them, and after one more.
use mathlib.Core.Path.{◌≡◌, refl, sym, ap, ◌∙◌}
use mathlib.Core.Logic.{◌≢◌}
use mathlib.Core.Bool.{Bool, true, false, not, true≢false}
use mathlib.Core.List.{List, [], ◌∷◌, ◌++◌}
use Prim.Native.Nat.{ℕ, suc, ◌+◌, ◌≤◌, ◌<◌}
use native.Mathlib.Omega.{arith}
use lib.Dec.{eqb}
use borrow.Author.Tests.{lt-ltb, le-ltb, eq-eqb, eqb-true, not-false}
use Rattle.std.specs.Prelude.{Option, None, Some}
use Rattle.std.specs.Option.{option_eq}
use Rattle.bits.specs.Slot.{slot}
use Rattle.bits.specs.Tab.{tabulate}
use Rattle.routes.specs.Route.{Good}
use Rattle.standing.specs.Cells.{need}
use Rattle.routes.specs.Record.{record_at, routes_of, Records}
use Rattle.routes.specs.declared.Route.{Route}
use Rattle.routes.proofs.Rows.{records-good, routes-snoc}
use Rattle.sail_need.specs.LastLong.{last_long}
use Rattle.sail_need.proofs.NeedPass.{last_snoc, need-short, need-had, need-new}

-- 1 + a cell, and 0 for none, as `last_long` has it
abbrev pub numbered : Option ℕ → ℕ
numbered None = 0
numbered (Some o) = suc o

-- the need for chunks of level p, and the cell of the last route that is longer than p
pub record NeedCounted (rs : List Route) (p m : ℕ) (last : Option ℕ) : Type 0 where
  pub number : m ≡ need rs p
  pub latest : numbered last ≡ last_long p 0 rs

pub counted_none : (s : List ℕ) (p : ℕ) → NeedCounted (routes_of s 0) p 0 None
unfolding routes_of tabulate need last_long
counted_none s p = record { number = refl; latest = refl }

of_number : (last : Option ℕ) (o : ℕ) → numbered last ≡ suc o → last ≡ Some o
of_number None o e = absurd (omega arith)
of_number (Some x) o e = let q : x ≡ o = omega arith in rw q

-- the code's test of the last cell
module _ (b : Bool) (last : Option ℕ) (o : ℕ) (is : b ≡ not (option_eq eqb last (Some o))) where
  pub other : b ≡ true → last ≢ Some o
  other t e = true≢false (sym t ∙ is ∙ rw (e, eq-eqb o o refl))

  pub same_cell : b ≡ false → last ≡ Some o
  same_cell f = go last (not-false _ (sym is ∙ f))
    where
      go : (x : Option ℕ) → option_eq eqb x (Some o) ≡ true → x ≡ Some o
      go None e = absurd (true≢false (sym e))
      go (Some x) e = let q = eqb-true x o e in rw q

-- record k, as it is read
module _ (s : List ℕ) (n k p m : ℕ) (last : Option ℕ) (records : Records s n) (l : k < n) (level : p ≤ 32) (was : NeedCounted (routes_of s k) p m last)
    (r : Route) (read : r ≡ record_at s k) where
  abbrev rs : List Route
  rs = routes_of s k

  more : routes_of s (k + 1) ≡ rs ++ (r ∷ [])
  more = let e : k + 1 ≡ suc k = omega arith in rw (e, read) (routes-snoc s k)

  good : Good (rs ++ (r ∷ []))
  good =
      rw more at (records-good s (k + 1) (record {
        room = omega (arith, records.room);
        few = omega (arith, records.few);
        each = λ j h. records.each j (omega arith);
        rises = λ i j h u. records.rises i j h (omega arith);
      }))

  pub counted-short : r.len ≤ p → NeedCounted (routes_of s (k + 1)) p m last
  counted-short h = rw more (record {
    number = was.number ∙ sym (need-short rs r [] good p level h);
    latest = was.latest ∙ sym (last_snoc p 0 rs r ∙ rw (le-ltb p r.len h));
  })

  -- its cell is o
  module _ (h : p < r.len) (o : ℕ) (cell : o ≡ slot p r.addr) where
    latest : suc o ≡ last_long p 0 (rs ++ (r ∷ []))
    latest = ap suc cell ∙ sym (last_snoc p 0 rs r ∙ rw (lt-ltb p r.len h))

    pub counted-had : last ≡ Some o → NeedCounted (routes_of s (k + 1)) p m last
    counted-had e =
        let was-last : suc o ≡ last_long p 0 rs = rw e at was.latest in
        rw more (record { number = was.number ∙ sym (need-had rs r [] good p level (omega arith)); latest = rw e latest })

    pub counted-new : last ≢ Some o → NeedCounted (routes_of s (k + 1)) p (m + 1) (Some o)
    counted-new e =
        let one_more = need-new rs r [] good p level h (λ q. e (of_number last o (was.latest ∙ q ∙ ap suc (sym cell)))) in
        rw more (record { number = omega (arith, was.number, one_more); latest = latest })
