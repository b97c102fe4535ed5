-- What is wrong with a message: the steps and the cases agree, and each way out of the check has its law.
use mathlib.Core.Path.{◌≡◌, sym, ◌∙◌}
use mathlib.Core.Logic.{◌⊎◌, inl, inr}
use mathlib.Core.Bool.{Bool, true, false, not, true≢false}
use mathlib.Core.List.{List}
use Prim.Native.Nat.{ℕ}
use native.Mathlib.Omega.{arith}
use borrow.Author.Tests.{not-true, not-false}
use Rattle.bits.proofs.Bools.{decided, untrue}
use Rattle.routes.specs.Input.{hop_fine}
use Rattle.routes.proofs.Meaning.{hop-true, true-hop}
use Rattle.fields.specs.Field.{broken, entries, field_fault}
use Rattle.fields.specs.Message.{BothFields, HopOk, message_fault, MessageFault, MessageChecked}
use Rattle.fields.proofs.Fields.{field_told, told-field}
use Rattle.fields.proofs.Reading.{from_start}

-- a fault of a field is 17, and then it is broken
broken-of : (s : List ℕ) (f : ℕ) → f ≡ field_fault s → (f ≡ 0 → ⊥) → broken s ≡ true
unfolding field_fault
broken-of s f e n = go (decided (broken s))
  where
    go : (broken s ≡ true) ⊎ (broken s ≡ false) → broken s ≡ true
    go (inl b) = b
    go (inr b) = absurd (n (e ∙ rw b))

fault-is : (s : List ℕ) (f : ℕ) → f ≡ field_fault s → (f ≡ 0 → ⊥) → f ≡ 17
unfolding field_fault
fault-is s f e n = e ∙ rw (broken-of s f e n)

module _ (wd re : List ℕ) (hop : ℕ) where
  -- the number, by the first condition that holds
  gone-is : broken wd ≡ true → 17 ≡ message_fault wd re hop
  unfolding message_fault
  gone-is b = rw b

  module _ (w : broken wd ≡ false) where
    come-is : broken re ≡ true → 17 ≡ message_fault wd re hop
    unfolding message_fault
    come-is b = rw (w, b)

    module _ (r : broken re ≡ false) where
      hop_is : hop_fine hop ≡ false → 4 ≡ message_fault wd re hop
      unfolding message_fault
      hop_is b = rw (w, r, b)

      none_is : hop_fine hop ≡ true → 0 ≡ message_fault wd re hop
      unfolding message_fault
      none_is b = rw (w, r, b)

      both-whole : BothFields wd re
      both-whole = record { gone = (entries wd, told-field wd w); come = (entries re, told-field re r) }

  -- one case holds, and it is the one of the number
  whole-both : BothFields wd re → (broken wd ≡ false) × (broken re ≡ false)
  whole-both b = ((field_told b.gone.1).0, (field_told b.come.1).0)

  hop-no : (HopOk hop → ⊥) → hop_fine hop ≡ false
  hop-no n = untrue (hop_fine hop) (λ e. let b = hop-true hop e in n (record { one = b.0; most = b.1 }))

  no_both : (broken wd ≡ true) ⊎ (broken re ≡ true) → BothFields wd re → ⊥
  no_both (inl e) b = true≢false (sym e ∙ (whole-both b).0)
  no_both (inr e) b = true≢false (sym e ∙ (whole-both b).1)

  pub message-fault-is : MessageFault wd re hop (message_fault wd re hop)
  message-fault-is = go (decided (broken wd)) (decided (broken re)) (decided (hop_fine hop))
    where
      go : (broken wd ≡ true) ⊎ (broken wd ≡ false) → (broken re ≡ true) ⊎ (broken re ≡ false) → (hop_fine hop ≡ true) ⊎ (hop_fine hop ≡ false)
          → MessageFault wd re hop (message_fault wd re hop)
      go (inl w) x y = rw (sym (gone-is w)) (MessageFault.no_field (no_both (inl w)))
      go (inr w) (inl x) y = rw (sym (come-is w x)) (MessageFault.no_field (no_both (inr x)))
      go (inr w) (inr x) (inl y) =
          let h = hop-true hop y in
          rw (sym (none_is w x y)) (MessageFault.none (both-whole w x) (record { one = h.0; most = h.1 }))
      go (inr w) (inr x) (inr y) =
          rw (sym (hop_is w x y)) (MessageFault.no_hop (both-whole w x) (λ h. true≢false (sym (true-hop hop h.one h.most) ∙ y)))

  pub message-fault-only : (n : ℕ) → MessageFault wd re hop n → message_fault wd re hop ≡ n
  message-fault-only _ (MessageFault.no_field h) = go (decided (broken wd)) (decided (broken re))
    where
      go : (broken wd ≡ true) ⊎ (broken wd ≡ false) → (broken re ≡ true) ⊎ (broken re ≡ false) → message_fault wd re hop ≡ 17
      go (inl w) x = sym (gone-is w)
      go (inr w) (inl x) = sym (come-is w x)
      go (inr w) (inr x) = absurd (h (both-whole w x))
  message-fault-only _ (MessageFault.no_hop b n) = let w = whole-both b in sym (hop_is w.0 w.1 (hop-no n))
  message-fault-only _ (MessageFault.none b h) = let w = whole-both b in sym (none_is w.0 w.1 (true-hop hop h.one h.most))

  -- the ways out of the check
  off : (r : ℕ) → (r ≡ 0 → ⊥) → r ≡ message_fault wd re hop → MessageChecked wd re hop r
  off r n e = record { number = e; on = λ z. absurd (n z) }

  module _ (f : ℕ) (ef : f ≡ field_fault wd) where
    pub stop-gone : (f ≡ 0 → ⊥) → MessageChecked wd re hop f
    stop-gone n = off f n (fault-is wd f ef n ∙ gone-is (broken-of wd f ef n))

    module _ (zf : f ≡ 0) (g : ℕ) (eg : g ≡ field_fault re) where
      pub stop-come : (g ≡ 0 → ⊥) → MessageChecked wd re hop g
      stop-come n = off g n (fault-is re g eg n ∙ come-is (from_start wd f ef zf).whole (broken-of re g eg n))

      module _ (zg : g ≡ 0) (b : Bool) (eb : b ≡ hop_fine hop) where
        pub stop-hop : not b ≡ true → MessageChecked wd re hop 4
        stop-hop n = off 4 (λ q. omega arith) (hop_is (from_start wd f ef zf).whole (from_start re g eg zg).whole (sym eb ∙ not-true b n))

        pub goes_on : not b ≡ false → MessageChecked wd re hop 0
        goes_on n =
            let fine = sym eb ∙ not-false b n in
            let h = hop-true hop fine in
            record {
              number = none_is (from_start wd f ef zf).whole (from_start re g eg zg).whole fine;
              on = λ _. record { gone = from_start wd f ef zf; come = from_start re g eg zg; hop_ok = record { one = h.0; most = h.1 } };
            }
