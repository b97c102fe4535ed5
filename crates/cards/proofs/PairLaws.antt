-- Packed answers with what is lent for two parties. The state and the party come from their numbers: t0 and w0 are what the call inside is given.
use mathlib.Core.Path.{◌≡◌, refl, ◌∙◌, ap, ap₂, subst}
use mathlib.Core.Bool.{not}
use mathlib.Core.List.{List}
use Prim.Native.Nat.{ℕ, zero, suc, min}
use native.Mathlib.Omega.{arith}
use lib.Dec.{eqb}
use borrow.Author.Tests.{ne_eqb}
use Rattle.routes.specs.Said.{Said}
use Rattle.sail.specs.Word.{pack_found, Word}
use Rattle.sail_theory.specs.Calls.{route}
use Rattle.packing.specs.Pack.{pack_report, pack_change}
use Rattle.pair.specs.Party.{Party, one, party_of}
use Rattle.pair.specs.PairLent.{PairLent}
use Rattle.pair.specs.PairSound.{share_of}
use Rattle.pair.specs.PairCalls.{PairOut, pair_out, pair_made, pair_announced, pair_withdrawn, pair_loaded, pair_reported, pair_lookup_said}
use Rattle.pair.specs.declared.Pair.{Pair}
use Rattle.packets.specs.Contract.{MeetsPairStep}
use Rattle.cards.specs.Pairs.{pair_card, pair_card_of, party_at}
use Rattle.std.specs.Prelude.{Result}
use Rattle.std.specs.Result.{result_unwrap_or}
use Rattle.sail_theory.specs.After.{state_after}
use Rattle.cards.proofs.Laws.{or-after}
use Rattle.cards.proofs.PairNarrow.{pair-announced-narrow, pair-withdrawn-narrow}

-- the party by its number
pub party-is : (n : ℕ) → party_of (not (eqb n 0)) ≡ party_at n
unfolding party_at
party-is zero = refl
party-is (suc n) = rw (ne_eqb (suc n) 0 (λ e. omega (arith, e)))

-- the count of a party after a call that answers with the new state, or why there is none
pub count-after : {E : Type 0} (w : Party) (t : Pair) (x : Result Pair E) (n : ℕ) {u : Pair} → n ≡ (share_of w u).count → u ≡ result_unwrap_or x t
    → n ≡ (share_of w (state_after t x)).count
count-after w t x n q e = q ∙ ap (λ (v : Pair). (share_of w v).count) (e ∙ or-after t x)

pub pair-card-is : (w : Party) (s : Said) (u : Pair) (v : PairLent) (o : PairOut) (n r : ℕ) → pair_out s u v ≡ o → n ≡ (share_of w u).count
    → r ≡ pack_change n s → pair_card r v ≡ pair_card_of w o
unfolding pair_card_of
pair-card-is w s u v o n r e c q = ap (λ (x : ℕ). pair_card x v) (q ∙ ap (λ (m : ℕ). pack_change m s) c) ∙ ap (pair_card_of w) e

module _ (t0 t : Pair) (e : t0 ≡ t) (b : PairLent) where
  pub pair-make-card : (s : Said) (u : Pair) (v : PairLent) (n r : ℕ) → pair_out s u v ≡ pair_made t0 b → n ≡ (share_of one u).count → r ≡ pack_change n s
      → pair_card r v ≡ pair_card_of one (pair_made t b)
  pair-make-card s u v n r is = pair-card-is one s u v _ n r (is ∙ ap (λ (x : Pair). pair_made x b) e)

  module _ (w0 w : Party) (f : w0 ≡ w) where
    pub pair-report-card : (s : Said) (r : ℕ) → s ≡ pair_reported w0 t0 b → r ≡ pack_report s → r ≡ pack_report (pair_reported w t b)
    pair-report-card s r is q = q ∙ ap pack_report (is ∙ ap₂ (λ (x : Party) (y : Pair). pair_reported x y b) f e)

    pub pair-lookup-card : (a r : ℕ) → Word r (pair_lookup_said w0 t0 b a) → r ≡ pack_found (pair_lookup_said w t b a)
    pair-lookup-card a r h = h.packs ∙ ap pack_found (ap₂ (λ (x : Party) (y : Pair). pair_lookup_said x y b a) f e)

    pub pair-step-card : (p : List ℕ) (r : ℕ) (q : List ℕ) → MeetsPairStep w0 t0 b p r q → MeetsPairStep w t b p r q
    pair-step-card p r q h = subst (λ (x : Party). MeetsPairStep x t b p r q) f (subst (λ (y : Pair). MeetsPairStep w0 y b p r q) e h)

    -- a call of a party that changes the box: what it ends with, and the count of the party that it is given
    module _ (s : Said) (u : Pair) (v : PairLent) (n r : ℕ) (c : n ≡ (share_of w0 u).count) (q : r ≡ pack_change n s) where
      pair-change-card : (o : Party → Pair → PairOut) → pair_out s u v ≡ o w0 t0 → pair_card r v ≡ pair_card_of w (o w t)
      pair-change-card o is = pair-card-is w s u v _ n r (is ∙ ap₂ o f e) (c ∙ ap {B = ℕ} (λ (x : Party). (share_of x u).count) f) q

      pub pair-load-card : (input : List ℕ) → pair_out s u v ≡ pair_loaded w0 t0 b input → pair_card r v ≡ pair_card_of w (pair_loaded w t b input)
      pair-load-card input = pair-change-card (λ (p : Party) (m : Pair). pair_loaded p m b input)

      -- the same of calls whose numbers were narrowed
      pub pair-announce-card : (a len i hop j mark k : ℕ) → i ≡ min len 255 → j ≡ min hop 65535 → k ≡ min mark 255
          → pair_out s u v ≡ pair_announced w0 t0 b (route a i j k) → pair_card r v ≡ pair_card_of w (pair_announced w t b (route a len hop mark))
      pair-announce-card a len i hop j mark k x y z is =
          pair-change-card (λ (p : Party) (m : Pair). pair_announced p m b (route a len hop mark))
          (is ∙ pair-announced-narrow w0 t0 b a len hop mark i j k x y z)

      pub pair-withdraw-card : (a len i : ℕ) → i ≡ min len 255 → pair_out s u v ≡ pair_withdrawn w0 t0 b a i
          → pair_card r v ≡ pair_card_of w (pair_withdrawn w t b a len)
      pair-withdraw-card a len i x is =
          pair-change-card (λ (p : Party) (m : Pair). pair_withdrawn p m b a len) (is ∙ pair-withdrawn-narrow w0 t0 b a len i x)
