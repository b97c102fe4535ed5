-- The calls of a party at the boundary take numbers of 32 bits too. What a call returns and leaves is the same for every length over 32, for every hop over
-- 32,767 and for every mark over 1: such a number is refused, and nothing else is done with it.
use mathlib.Core.Path.{◌≡◌, refl, sym, ◌∙◌, ap}
use mathlib.Core.Logic.{◌⊎◌, inl, inr}
use mathlib.Core.Bool.{false}
use Prim.Native.Nat.{ℕ, zero, suc, ◌≤◌, ◌<◌, min}
use native.Mathlib.Omega.{arith}
use Rattle.bits.specs.Slot.{cut}
use Rattle.routes.specs.Cases.{WrongRoute}
use Rattle.routes.specs.Route.{Prefix}
use Rattle.routes.specs.Said.{Said, refused, accepts}
use Rattle.routes.specs.declared.Route.{Route}
use Rattle.routes.proofs.Meaning.{wrong-fault}
use Rattle.sail_theory.specs.Calls.{route, or_say, withdraw_fault, cut_route, cleared, with_flag}
use Rattle.sail_theory.specs.CallRuns.{announce, withdraw}
use Rattle.sail_theory.proofs.calls.Cleared.{telling-off}
use Rattle.pair.specs.Party.{Party}
use Rattle.pair.specs.PairLent.{PairLent}
use Rattle.pair.specs.PairSound.{pair_sizes_fault}
use Rattle.pair.specs.PairCalls.{PairOut, pair_out, pair_announce_said, pair_withdraw_said, pair_announced, pair_withdrawn}
use Rattle.pair.specs.PairRuns.{pair_done}
use Rattle.pair.specs.declared.Pair.{Pair}
use Rattle.pair.proofs.PairSteps.{announce-said, withdraw-said, refused-left}
use Rattle.cards.specs.Narrow.{AlikeOver}
use Rattle.cards.proofs.Narrow.{narrowed, prefix?, hop?, long-prefix}

module _ (w : Party) (t : Pair) (b : PairLent) where
  -- 1 or 2 if the sizes ask for it, else this number
  abbrev refusal : ℕ → Said
  refusal m = or_say (pair_sizes_fault t.geometry b) (refused m)

  refusal-off : (m : ℕ) → accepts (refusal m) ≡ false
  refusal-off m = go (pair_sizes_fault t.geometry b)
    where
      go : (n : ℕ) → accepts (or_say n (refused m)) ≡ false
      go zero = refl
      go (suc n) = refl

  -- what is refused leaves all
  left : (o : PairOut) (s : Said) → o.said ≡ s → (o.state ≡ t) × (o.lent ≡ b) → o ≡ pair_out s t b
  left o s e f = let x = f.0 in let y = f.1 in λ i. record { said = e i; state = x i; lent = y i }

  announced-wrong : (r : Route) {n : ℕ} → WrongRoute (cut_route r) n → pair_announced w t b r ≡ pair_out (refusal n) t b
  unfolding pair_announce_said pair_done
  announced-wrong r {n} x =
      let said : (pair_announced w t b r).said ≡ refusal n
      = announce-said w t b r ∙ ap (with_flag (cleared r.len r.addr)) (is x) ∙ telling-off _ (refusal n) (refusal-off n) in
      left (pair_announced w t b r) (refusal n) said (refused-left w t b (announce r) (ap accepts said ∙ refusal-off n))
    where
      is : {n : ℕ} → WrongRoute (cut_route r) n → pair_announce_said w t b (cut_route r) ≡ refusal n
      is (WrongRoute.prefix h) = rw (wrong-fault (cut_route r) 3 (WrongRoute.prefix h))
      is (WrongRoute.hop p h) = rw (wrong-fault (cut_route r) 4 (WrongRoute.hop p h))
      is (WrongRoute.mark p a c h) = rw (wrong-fault (cut_route r) 10 (WrongRoute.mark p a c h))

  wrong-alike : (r s : Route) {n : ℕ} → WrongRoute (cut_route r) n → WrongRoute (cut_route s) n → pair_announced w t b r ≡ pair_announced w t b s
  wrong-alike r s x y = announced-wrong r x ∙ sym (announced-wrong s y)

  withdrawn-three : (a len : ℕ) → 32 < len → pair_withdrawn w t b a len ≡ pair_out (refusal 3) t b
  unfolding pair_withdraw_said withdraw_fault pair_done
  withdrawn-three a len h =
      let is : pair_withdraw_said w t b (cut len a) len ≡ refusal 3 = rw (long-prefix (cut len a) len h) in
      let said : (pair_withdrawn w t b a len).said ≡ refusal 3
      = withdraw-said w t b a len ∙ ap (with_flag (cleared len a)) is ∙ telling-off _ (refusal 3) (refusal-off 3) in
      left (pair_withdrawn w t b a len) (refusal 3) said (refused-left w t b (withdraw a len) (ap accepts said ∙ refusal-off 3))

  announced-long : (a hop mark : ℕ) → AlikeOver 32 (λ (len : ℕ). pair_announced w t b (route a len hop mark))
  announced-long a hop mark x y h k =
      wrong-alike (route a x hop mark) (route a y hop mark) (WrongRoute.prefix (λ p. omega (arith, p.len_ok)))
      (WrongRoute.prefix (λ p. omega (arith, p.len_ok)))

  announced-high : (a len mark : ℕ) → AlikeOver 32767 (λ (hop : ℕ). pair_announced w t b (route a len hop mark))
  announced-high a len mark x y h k = go (prefix? (cut len a) len)
    where
      alike : {n : ℕ} → WrongRoute (cut_route (route a len x mark)) n → WrongRoute (cut_route (route a len y mark)) n
          → pair_announced w t b (route a len x mark) ≡ pair_announced w t b (route a len y mark)
      alike = wrong-alike (route a len x mark) (route a len y mark)

      go : Prefix (cut len a) len ⊎ (Prefix (cut len a) len → ⊥) → pair_announced w t b (route a len x mark) ≡ pair_announced w t b (route a len y mark)
      go (inl p) = alike (WrongRoute.hop p (λ _ u. omega arith)) (WrongRoute.hop p (λ _ u. omega arith))
      go (inr e) = alike (WrongRoute.prefix e) (WrongRoute.prefix e)

  announced-marked : (a len hop : ℕ) → AlikeOver 1 (λ (mark : ℕ). pair_announced w t b (route a len hop mark))
  announced-marked a len hop x y h k = go (prefix? (cut len a) len) (hop? hop)
    where
      alike : {n : ℕ} → WrongRoute (cut_route (route a len hop x)) n → WrongRoute (cut_route (route a len hop y)) n
          → pair_announced w t b (route a len hop x) ≡ pair_announced w t b (route a len hop y)
      alike = wrong-alike (route a len hop x) (route a len hop y)

      go : Prefix (cut len a) len ⊎ (Prefix (cut len a) len → ⊥) → ((1 ≤ hop) × (hop ≤ 32767)) ⊎ (1 ≤ hop → hop ≤ 32767 → ⊥)
          → pair_announced w t b (route a len hop x) ≡ pair_announced w t b (route a len hop y)
      go (inl p) (inl c) = alike (WrongRoute.mark p c.0 c.1 h) (WrongRoute.mark p c.0 c.1 k)
      go (inl p) (inr e) = alike (WrongRoute.hop p e) (WrongRoute.hop p e)
      go (inr e) c = alike (WrongRoute.prefix e) (WrongRoute.prefix e)

  withdrawn-long : (a : ℕ) → AlikeOver 32 (λ (len : ℕ). pair_withdrawn w t b a len)
  withdrawn-long a x y h k = withdrawn-three a x h ∙ sym (withdrawn-three a y k)

  -- with every number narrowed
  pub pair-announced-narrow : (a len hop mark n m k : ℕ) → n ≡ min len 255 → m ≡ min hop 65535 → k ≡ min mark 255
      → pair_announced w t b (route a n m k) ≡ pair_announced w t b (route a len hop mark)
  pair-announced-narrow a len hop mark n m k e q u =
      narrowed (λ (x : ℕ). pair_announced w t b (route a x m k)) 32 255 (omega arith) (announced-long a m k) len n e
      ∙ narrowed (λ (x : ℕ). pair_announced w t b (route a len x k)) 32767 65535 (omega arith) (announced-high a len k) hop m q
      ∙ narrowed (λ (x : ℕ). pair_announced w t b (route a len hop x)) 1 255 (omega arith) (announced-marked a len hop) mark k u

  pub pair-withdrawn-narrow : (a len n : ℕ) → n ≡ min len 255 → pair_withdrawn w t b a n ≡ pair_withdrawn w t b a len
  pair-withdrawn-narrow a len n e = narrowed (λ (x : ℕ). pair_withdrawn w t b a x) 32 255 (omega arith) (withdrawn-long a) len n e
