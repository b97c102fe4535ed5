-- What make leaves and answers, by the cases of specs/PairCases.antt (crate pair).
use mathlib.Core.Path.{◌≡◌, sym, ap}
use mathlib.Core.Logic.{◌⊎◌, inl, inr}
use mathlib.Core.Bool.{Bool, true, false, not}
use mathlib.Core.List.{List, []}
use Prim.Native.Nat.{ℕ, ◌+◌, ◌≤◌, ◌<◌}
use native.Mathlib.Omega.{arith}
use lib.ListN.{length, replicate}
use Rattle.bits.specs.Tab.{Tells}
use Rattle.bits.proofs.Bools.{below?}
use Rattle.bits.proofs.Tells.{passed, refuted}
use Rattle.routes.specs.Said.{Said, accepted, refused}
use Rattle.sail.specs.Lent.{Lent, lent}
use Rattle.sail.specs.Sound.{fresh_lent}
use Rattle.sail_theory.proofs.Judges.{or-said}
use Rattle.pair.specs.PairLent.{PairLent, pair_lent, side}
use Rattle.pair.specs.Party.{one}
use Rattle.pair.specs.PairSound.{pair_sizes_fault, PairSizesTold}
use Rattle.pair.specs.PairCalls.{pair_out, pair_outcome, fresh_pair, fresh_pair_lent, pair_make_said, pair_made}
use Rattle.pair.specs.PairCases.{PairMake}
use Rattle.pair.specs.declared.Pair.{Pair}
use Rattle.pair.proofs.PairJudged.{pair-make-only}

-- every array as a fresh box has it
pub blank-box : (b : PairLent) (list1 first1 long11 list2 first2 long12 second third own2 own3 long2 : List ℕ)
    → lent list1 first1 second third own2 own3 long11 long2 ≡ fresh_lent (side one b)
    → list2 ≡ replicate (length b.list2) 0 → first2 ≡ replicate (length b.first2) 32768 → long12 ≡ replicate (length b.long12) 0
    → pair_lent list1 first1 long11 list2 first2 long12 second third own2 own3 long2 ≡ fresh_pair_lent b
unfolding fresh_pair_lent fresh_lent
blank-box b list1 first1 long11 list2 first2 long12 second third own2 own3 long2 e l f c =
    λ i. record {
      list1 = (e i).list;
      first1 = (e i).first;
      long11 = (e i).long1;
      list2 = l i;
      first2 = f i;
      long12 = c i;
      second = (e i).second;
      third = (e i).third;
      own2 = (e i).own2;
      own3 = (e i).own3;
      long2 = (e i).long2;
    }

module _ (t : Pair) (b : PairLent) (z : ℕ) (check : PairSizesTold z t.geometry b) where
  -- the limits of both fit the pools
  abbrev Fit : Type 0
  Fit = (t.one.most2 + t.two.most2 ≤ length b.own2) × (t.one.most3 + t.two.most3 ≤ length b.own3)

  pub make-off : (z ≡ 0 → ⊥) → pair_out (refused z) t b ≡ pair_made t b
  unfolding pair_made pair_make_said
  make-off h = sym (ap (λ (s : Said). pair_outcome s t b (fresh_pair t) (fresh_pair_lent b)) (or-said (pair_sizes_fault t.geometry b) z _ check.number h))

  -- by the case that holds
  ends : (s : Said) → PairMake t b s → pair_outcome s t b (fresh_pair t) (fresh_pair_lent b) ≡ pair_made t b
  unfolding pair_made
  ends s c = sym (ap (λ (x : Said). pair_outcome x t b (fresh_pair t) (fresh_pair_lent b)) (pair-make-only t b s c))

  module _ (h : z ≡ 0) (fit : Bool) (tells : Tells fit Fit) where
    pub make-over : not fit ≡ true → pair_out (refused 24) t b ≡ pair_made t b
    make-over e = ends (refused 24) (PairMake.over (check.facts h) (some (refuted tells e (λ (f : Fit). f)).1))
      where
        some : (Fit → ◌≡◌ {A = Bool} false true) → (length b.own2 < t.one.most2 + t.two.most2) ⊎ (length b.own3 < t.one.most3 + t.two.most3)
        some f = go (below? (length b.own2) (t.one.most2 + t.two.most2)) (below? (length b.own3) (t.one.most3 + t.two.most3))
          where
            go : (length b.own2 < t.one.most2 + t.two.most2) ⊎ (t.one.most2 + t.two.most2 ≤ length b.own2)
                → (length b.own3 < t.one.most3 + t.two.most3) ⊎ (t.one.most3 + t.two.most3 ≤ length b.own3)
                → (length b.own2 < t.one.most2 + t.two.most2) ⊎ (length b.own3 < t.one.most3 + t.two.most3)
            go (inl x) y = inl x
            go (inr x) (inl y) = inr y
            go (inr x) (inr y) = absurd (mathlib.Core.Bool.false≢true (f (x, y)))

    pub make-on : not fit ≡ false → (v : PairLent) → v ≡ fresh_pair_lent b → pair_out (accepted []) (fresh_pair t) v ≡ pair_made t b
    make-on e v q = let f = passed tells e in rw q (ends (accepted []) (PairMake.done (check.facts h) f.0 f.1))
