-- A plan whose zeros became what the part holds.
use mathlib.Core.Path.{◌≡◌, refl, sym, ap, subst, ◌∙◌}
use mathlib.Core.Logic.{◌⊎◌, inl, inr}
use mathlib.Core.Bool.{Bool, true, false, cond, not, ◌||◌, ◌&&◌, and-true, and-false, or-true, false≢true}
use mathlib.Core.List.{List, map-append}
use Prim.Native.Nat.{ℕ, ◌+◌, ◌-◌, ◌/◌, ◌^◌, ◌<◌, ◌≤◌}
use native.Mathlib.Numerals.{add-one}
use native.Mathlib.Omega.{arith}
use lib.Dec.{eqb}
use lib.ListN.{length, get_or, set, take}
use lib.Seq.{take-suc, take_all, ext_get_or}
use borrow.Author.Tests.{not-true, not-false, eq-eqb, ne_eqb, eqb-true, lt-ltb, le-ltb}
use Rattle.bits.specs.Tab.{Tells}
use Rattle.bits.proofs.Tabs.{length-tabulate, get_d_tabulate, tabulate-ext, is-tabulate, set-tabulate}
use Rattle.bits.proofs.Bools.{decided, or_split}
use Rattle.standing.specs.Cells.{within, any, long, covers, last_hop}
use Rattle.routes.specs.declared.Route.{Route}
use Rattle.chain.specs.Words.{addr_of, len_of, route_of_word, routes_of_words}
use Rattle.plan.specs.Plan.{plan_from, planned_from}
use Rattle.plan_test.specs.Part.{NamesBack, Named, settled, Settled, Matches}
use Rattle.plan.proofs.Plans.{any_snoc}
use Rattle.bits.proofs.Tells.{is-no, is-yes, tells-same}

-- v beside the owner of the chunk that it numbers
pub names-tested : (v o c x : ℕ) (own : List ℕ) → c ≡ v → (c ≡ 0 → ⊥) → c ≤ length own → x ≡ get_or own (c - 1) 0 → Tells (eqb x o) (NamesBack v own o)
names-tested v o c x own e z l g = (
  λ t. record { one = omega arith; few = omega arith; back = rw (← e, ← g) (eqb-true x o t) },
  λ n. eq-eqb x o (g ∙ rw e n.back),
)

length-settled : (f : ℕ → Bool) (part want : List ℕ) → length (settled f part want) ≡ length want
unfolding settled
length-settled f part want = length-tabulate (length want) _

pub settled-length : {f : ℕ → Bool} {part own : List ℕ} {o : ℕ} {want after : List ℕ} {b : Bool} → Settled f part own o want after b → length after
    ≡ length want
settled-length {f} {part} {own} {o} {want} s = ap length s.becomes ∙ length-settled f part want

module _ (part own : List ℕ) (o : ℕ) (want : List ℕ) where
  -- no cell passes
  pub settled-none : (f : ℕ → Bool) → ((j : ℕ) → j < length want → f j ≡ false) → Settled f part own o want want true
  unfolding settled
  settled-none f h = record {
    becomes = is-tabulate 0 want (length want) _ refl (λ j l. rw (h j l));
    told = is-yes (record { each = λ j l e. absurd (false≢true (sym (h j l) ∙ e)) });
  }

  -- cell x alone passes
  pub settled-one : (f : ℕ → Bool) (x : ℕ) (b : Bool) → x < length want → ((j : ℕ) → j < length want → f j ≡ eqb j x) → Tells b
      (NamesBack (get_or part x 0) own (o + x))
      → Settled f part own o want (set want x (get_or part x 0)) b
  unfolding settled
  settled-one f x b u h t = record {
    becomes =
        ap (λ (l : List ℕ). set l x (get_or part x 0)) (is-tabulate 0 want (length want) (λ i. get_or want i 0) refl (λ i g. refl))
        ∙ set-tabulate (length want) (λ i. get_or want i 0) x (get_or part x 0)
        ∙ tabulate-ext (length want) _ _ (λ j l. rw (h j l) (go j (eqb j x) refl));
    told = tells-same
        (λ n. record { each = λ j l e. let q : j ≡ x = eqb-true j x (sym (h j l) ∙ e) in rw q n })
        (λ n. n.each x u (h x u ∙ eq-eqb x x refl)) t;
  }
    where
      go : (j : ℕ) (c : Bool) → eqb j x ≡ c → cond c (get_or part x 0) (get_or want j 0) ≡ cond c (get_or part j 0) (get_or want j 0)
      go j true e = let q : j ≡ x = eqb-true j x e in rw q
      go j false e = refl

  -- the test may be put otherwise
  pub settled-as : (f g : ℕ → Bool) (after : List ℕ) (b : Bool) → ((j : ℕ) → f j ≡ g j) → Settled f part own o want after b → Settled g part own o want after b
  unfolding settled
  settled-as f g after b h s = record {
    becomes = s.becomes ∙ tabulate-ext (length want) _ _ (λ j l. rw (h j));
    told = tells-same (λ n. record { each = λ j l e. n.each j l (h j ∙ e) }) (λ n. record { each = λ j l e. n.each j l (sym (h j) ∙ e) }) s.told;
  }

  -- two settlings, one after the other
  module _ (f g : ℕ → Bool) (mid after : List ℕ) (a b : Bool) (one : Settled f part own o want mid a) (two : Settled g part own o mid after b) where
    abbrev either : ℕ → Bool
    either j = f j || g j

    twice : after ≡ settled either part want
    unfolding settled
    twice =
        two.becomes
        ∙ rw (one.becomes, length-tabulate (length want) _)
        (tabulate-ext (length want) _ _ (λ j l. rw (get_d_tabulate {A = ℕ} (length want) _ j 0) (go (f j) (g j) j)))
      where
        go : (x y : Bool) (j : ℕ) → cond y (get_or part j 0) (cond x (get_or part j 0) (get_or want j 0)) ≡ cond (x || y) (get_or part j 0) (get_or want j 0)
        go true true j = refl
        go true false j = refl
        go false true j = refl
        go false false j = refl

    second : Named either part own o (length want) → Named g part own o (length mid)
    second n = record { each = λ j l e. n.each j (rw (settled-length one) at l) (rw e (or-true (f j))) }

    -- the second fails: so do both
    pub then-no : b ≡ false → Settled either part own o want after false
    then-no e = record { becomes = twice; told = is-no (λ n. false≢true (sym e ∙ two.told.1 (second n))) }

    -- the second passes: the first decides
    pub then-yes : b ≡ true → Settled either part own o want after a
    then-yes e = record {
      becomes = twice;
      told = tells-same
          (λ n. record { each = λ j l w. go n j l (or_split (f j) (g j) w) })
          (λ n. record { each = λ j l w. n.each j l (rw w) }) one.told;
    }
      where
        go : Named f part own o (length want) → (j : ℕ) → j < length want → (f j ≡ true) ⊎ (g j ≡ true) → NamesBack (get_or part j 0) own (o + j)
        go n j l (inl w) = n.each j l w
        go n j l (inr w) = (two.told.0 e).each j (rw (settled-length one) l) w

-- one word: the cells of the part that its route lies within
module _ (w p base : ℕ) (part own : List ℕ) (o : ℕ) (want : List ℕ) where
  abbrev cell : ℕ
  cell = addr_of w / 2 ^ (32 - p)

  abbrev hit : ℕ → Bool
  hit j = within p (base + j) (route_of_word w)

  missed : p < len_of w → ((j : ℕ) → j < length want → cell ≡ base + j → ⊥) → Settled hit part own o want want true
  missed h n = settled-none part own o want hit (λ j l. rw (lt-ltb p (len_of w) h) (ne_eqb cell (base + j) (n j l)))

  -- it is no longer than the level; its cell lies before the part, or after it, or in it
  pub one-short : len_of w ≤ p → Settled hit part own o want want true
  one-short h = settled-none part own o want hit (λ j l. rw (le-ltb p (len_of w) h))

  pub one_below : p < len_of w → cell < base → Settled hit part own o want want true
  one_below h m = missed h (λ j l e. omega arith)

  pub one-above : p < len_of w → base ≤ cell → length want ≤ cell - base → Settled hit part own o want want true
  one-above h m q = missed h (λ j l e. omega arith)

  pub one_in : (b : Bool) → p < len_of w → base ≤ cell → cell - base < length want → Tells b (NamesBack (get_or part (cell - base) 0) own (o + (cell - base)))
      → Settled hit part own o want (set want (cell - base) (get_or part (cell - base) 0)) b
  one_in b h m u t = settled-one part own o want hit (cell - base) b u (λ j l. rw (lt-ltb p (len_of w) h) (go j (decided (eqb j (cell - base))))) t
    where
      go : (j : ℕ) → (eqb j (cell - base) ≡ true) ⊎ (eqb j (cell - base) ≡ false) → eqb cell (base + j) ≡ eqb j (cell - base)
      go j (inl e) = let q : j ≡ cell - base = eqb-true j (cell - base) e in eq-eqb cell (base + j) (omega arith) ∙ sym e
      go j (inr e) = ne_eqb cell (base + j) (λ q. false≢true (sym e ∙ eq-eqb j (cell - base) (omega arith))) ∙ sym e

-- the words of a run, one by one
module _ (run : List ℕ) (p base : ℕ) (part own : List ℕ) (o : ℕ) (want : List ℕ) where
  abbrev by : ℕ → ℕ → Bool
  by k j = long (routes_of_words (take k run)) p (base + j)

  abbrev at : ℕ → ℕ → Bool
  at k j = within p (base + j) (route_of_word (get_or run k 0))

  by-more : (k j : ℕ) → k < length run → (by k j || at k j) ≡ by (k + 1) j
  by-more k j l = sym (rw (add-one, take-suc run k 0 l, map-append) (any_snoc (within p (base + j)) (routes_of_words (take k run)) (route_of_word (get_or run k 0))))

  pub run_none : Settled (by 0) part own o want want true
  unfolding any
  run_none = settled-none part own o want (by 0) (λ j l. refl)

  module _ (k : ℕ) (mid after : List ℕ) (ok b : Bool) (l : k < length run) (was : Settled (by k) part own o want mid ok)
      (one : Settled (at k) part own o mid after b) where
    pub run-more : Settled (by (k + 1)) part own o want after (ok && b)
    run-more = settled-as part own o want _ _ after (ok && b) (λ j. by-more k j l) (go b refl)
      where
        go : (x : Bool) → b ≡ x → Settled (λ j. by k j || at k j) part own o want after (ok && x)
        go true e = rw (and-true ok) (then-yes part own o want (by k) (at k) mid after ok b was one e)
        go false e = rw (and-false ok) (then-no part own o want (by k) (at k) mid after ok b was one e)

  pub run-all : (k : ℕ) (after : List ℕ) (ok : Bool) → length run ≤ k → Settled (by k) part own o want after ok
      → Settled (λ j. long (routes_of_words run) p (base + j)) part own o want after ok
  run-all k after ok l s = subst (λ (r : List ℕ). Settled (λ j. long (routes_of_words r) p (base + j)) part own o want after ok) (take_all k run l) s

-- where the plan is 0 exactly at the cells that pass
module _ (f : ℕ → Bool) (part own : List ℕ) (o : ℕ) (want : List ℕ) (same : length part ≡ length want)
    (at-node : (j : ℕ) → j < length want → f j ≡ true → get_or want j 0 ≡ 0)
    (at_leaf : (j : ℕ) → j < length want → f j ≡ false → get_or want j 0 ≡ 0 → ⊥)
  where
    settled_at : (j : ℕ) → j < length want → get_or (settled f part want) j 0 ≡ cond (f j) (get_or part j 0) (get_or want j 0)
    unfolding settled
    settled_at j l = get_d_tabulate (length want) _ j 0 l

    -- the part matches its plan where it is the settled plan, and what was settled names back
    matches-of : Named f part own o (length want) → part ≡ settled f part want → Matches part o want own
    matches-of n e = record { leaf = λ j l z. leaf j l z (decided (f j)); node = λ j l z. node j l z (decided (f j)) }
      where
        leaf : (j : ℕ) → j < length want → (get_or want j 0 ≡ 0 → ⊥) → (f j ≡ true) ⊎ (f j ≡ false) → get_or part j 0 ≡ get_or want j 0
        leaf j l z (inl q) = absurd (z (at-node j l q))
        leaf j l z (inr q) = ap (λ (t : List ℕ). get_or t j 0) e ∙ settled_at j l ∙ rw q

        node : (j : ℕ) → j < length want → get_or want j 0 ≡ 0 → (f j ≡ true) ⊎ (f j ≡ false) → NamesBack (get_or part j 0) own (o + j)
        node j l z (inl q) = n.each j l q
        node j l z (inr q) = absurd (at_leaf j l q z)

    named-of : Matches part o want own → Named f part own o (length want)
    named-of m = record { each = λ j l e. m.node j l (at-node j l e) }

    same_of : Matches part o want own → part ≡ settled f part want
    same_of m = ext_get_or 0 _ _ (same ∙ sym (length-settled f part want)) (λ j u. let l : j < length want = rw same at u in go j l (decided (f j)))
      where
        go : (j : ℕ) → j < length want → (f j ≡ true) ⊎ (f j ≡ false) → get_or part j 0 ≡ get_or (settled f part want) j 0
        go j l (inl q) = sym (settled_at j l ∙ rw q)
        go j l (inr q) = m.leaf j l (at_leaf j l q) ∙ sym (settled_at j l ∙ rw q)

    -- the settling's answer, and the comparison's
    settle-no : (after : List ℕ) → Settled f part own o want after false → Tells false (Matches part o want own)
    settle-no after s = is-no (λ m. false≢true (s.told.1 (named-of m)))

    settle-yes : (after : List ℕ) (r : Bool) → Settled f part own o want after true → Tells r (part ≡ after) → Tells r (Matches part o want own)
    settle-yes after r s = tells-same (λ e. matches-of (s.told.0 refl) (e ∙ s.becomes)) (λ m. same_of m ∙ sym s.becomes)

-- the same of the plan of a run, with the code's tests
module _ (h : ℕ) (rs : List Route) (p base n : ℕ) (part own : List ℕ) (o : ℕ) (same : length part ≡ n) where
  abbrev plan : List ℕ
  plan = planned_from h rs p base n

  abbrev deep : ℕ → Bool
  deep j = long rs p (base + j)

  length-plan : length plan ≡ n
  unfolding planned_from
  length-plan = length-tabulate n _

  plan-at : (j : ℕ) (b : Bool) → j < length plan → deep j ≡ b → get_or plan j 0 ≡ cond b 0 (32768 + last_hop (covers p (base + j)) rs h)
  unfolding planned_from plan_from
  plan-at j b l e = get_d_tabulate n _ j 0 (rw length-plan at l) ∙ rw e

  at_leaf : (j : ℕ) → j < length plan → deep j ≡ false → get_or plan j 0 ≡ 0 → ⊥
  at_leaf j l e z = let v = plan-at j false l e in omega arith

  module _ (want after : List ℕ) (b : Bool) (is : want ≡ plan) (done : Settled deep part own o want after b) where
    with-plan : Settled deep part own o plan after b
    with-plan = subst (λ (l : List ℕ). Settled deep part own o l after b) is done

    pub judged-no : not b ≡ true → Tells false (Matches part o plan own)
    judged-no e = settle-no deep part own o plan (same ∙ sym length-plan) (λ j l. plan-at j true l) at_leaf after (rw (not-true b e) at with-plan)

    pub judged-yes : (r : Bool) → not b ≡ false → Tells r (part ≡ after) → Tells r (Matches part o plan own)
    judged-yes r e = settle-yes deep part own o plan (same ∙ sym length-plan) (λ j l. plan-at j true l) at_leaf after r (rw (not-false b e) at with-plan)
