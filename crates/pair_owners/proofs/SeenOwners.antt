-- The laws of what a party sees, one owner after the other.
use mathlib.Core.Path.{◌≡◌, refl, sym, ◌∙◌, ap}
use mathlib.Core.Logic.{◌⊎◌, inl, inr}
use mathlib.Core.Bool.{Bool, true, false, true≢false, false≢true}
use mathlib.Core.List.{List}
use Prim.Native.Nat.{ℕ, ◌-◌, ◌≤◌, ◌<◌}
use native.Mathlib.Omega.{arith}
use lib.ListN.{length, get_or}
use lib.Seq.{ext_get_or}
use borrow.Author.Tests.{lt-ltb, le-ltb}
use Rattle.std.specs.Prelude.{MatchBool}
use Rattle.std.specs.List.{AllWithin, HoldsAt}
use Rattle.bits.specs.Tab.{Tells}
use Rattle.bits.proofs.Bools.{below?}
use Rattle.pair.specs.Party.{Party, one, two, party_of, seen, view}
use Rattle.pair.specs.PairSound.{Nobodys}
use Rattle.pair.proofs.Views.{length-view, get_d-view}

-- one owner
module _ (o : ℕ) where
  pub second_none : (b : Bool) → b ≡ true → o < 2147483648 → 0 ≡ seen (party_of b) o
  unfolding seen
  second_none true e h = omega arith
  second_none false e h = absurd (false≢true e)

  pub second-own : (b : Bool) → b ≡ true → 2147483648 ≤ o → o - 2147483648 ≡ seen (party_of b) o
  unfolding seen
  second-own true e h = refl
  second-own false e h = absurd (false≢true e)

  pub first-own : (b : Bool) → b ≡ false → o < 2147483648 → o ≡ seen (party_of b) o
  unfolding seen
  first-own true e h = absurd (true≢false e)
  first-own false e h = rw (lt-ltb o 2147483648 h)

  pub first-none : (b : Bool) → b ≡ false → 2147483648 ≤ o → 0 ≡ seen (party_of b) o
  unfolding seen
  first-none true e h = absurd (true≢false e)
  first-none false e h = rw (le-ltb o 2147483648 h)

-- all of them
pub viewed : (w : Party) (own out : List ℕ) → length out ≡ length own → ((k : ℕ) → k < length own → get_or out k 0 ≡ seen w (get_or own k 0)) → out ≡ view w own
viewed w own out e h = ext_get_or 0 out (view w own) (e ∙ sym (length-view w own)) (λ k l. h k (rw e at l) ∙ sym (get_d-view w own k))

-- an owner that is neither's is 0 or the top bit alone
top-alone : seen one 2147483648 ≡ 0
unfolding seen
top-alone = refl

top-alone2 : seen two 2147483648 ≡ 0
unfolding seen
top-alone2 = refl

neither : (o : ℕ) → seen one o ≡ 0 → seen two o ≡ 0 → (o ≡ 2147483648 → ⊥) → o ≡ 0
unfolding seen
neither o x y n = go (below? o 2147483648) x y
  where
    go : (o < 2147483648) ⊎ (2147483648 ≤ o) → mathlib.Core.Bool.cond (lib.Dec.ltb o 2147483648) o 0 ≡ 0 → o - 2147483648 ≡ 0 → o ≡ 0
    go (inl l) x y = rw (lt-ltb o 2147483648 l) at x
    go (inr l) x y = absurd (n (omega arith))

module _ (own : List ℕ) where
  stray : (c : ℕ) → c < length own → get_or own c 0 ≡ 2147483648 → Tells false (Nobodys own)
  stray c l e = (
    (λ f. absurd (false≢true f)),
    (λ n. absurd (omega (arith, e, n.zero c l (ap (seen one) e ∙ top-alone) (ap (seen two) e ∙ top-alone2)))),
  )

  no_stray : ((k : ℕ) → k < length own → get_or own k 0 ≡ 2147483648 → ⊥) → Tells true (Nobodys own)
  no_stray k = ((λ _. record { zero = λ c l x y. neither (get_or own c 0) x y (k c l) }), (λ _. refl))

  -- what `all` says of the owners
  pub nobodys : (r : Bool)
      → MatchBool r (AllWithin (λ o. o ≡ 2147483648 → ⊥) own 0 (length own)) ((k : ℕ) × (k < length own) × HoldsAt (λ o. o ≡ 2147483648) own k)
      → Tells r (Nobodys own)
  nobodys true h = no_stray (λ k l. h k 0 (omega arith) l)
  nobodys false h = stray h.0 h.1 (h.2 0)
