-- The step by any lookup `look`: what each way through it answers, which case of `Step` it is, and what it does to the packet.
use mathlib.Core.Path.{◌≡◌, refl, sym, ap, ap₂, ◌∙◌, subst}
use mathlib.Core.Logic.{◌⊎◌, inl, inr, ◌≢◌, ◌↔◌}
use mathlib.Core.Bool.{Bool, true, false, cond, true≢false}
use mathlib.Core.List.{List}
use Prim.Native.Nat.{ℕ, ◌+◌, ◌-◌, ◌*◌, ◌^◌, ◌<◌}
use native.Mathlib.Omega.{arith}
use lib.Dec.{eqb}
use lib.ListN.{length, get_or}
use borrow.Author.Tests.{eq-eqb, ne_eqb, le-ltb}
use Rattle.bits.proofs.Bools.{decided}
use Rattle.routes.specs.Said.{Said, accepted, refused, refused_at, accepts}
use Rattle.sail.specs.Word.{packed, pack_found, Word, has_hop, hop_in_word}
use Rattle.sail.proofs.Words.{word-hop}
use Rattle.header.specs.Sums.{half_of, ones_sum, right_sum, fresh_sum}
use Rattle.header.specs.Header.{header_fault, lowered, Packet}
use Rattle.header.specs.Step.{StepOut, step_out, destination, hopped, stepped, step_card, step_card_of}
use Rattle.header.specs.Cases.{FineHeader, SameHeader, Step}
use Rattle.header.proofs.Sums.{sum_same}
use Rattle.header.proofs.Faults.{Judged, header-judged, wrong-some, wrong-fault, fine-fault}
use Rattle.header.proofs.Lowers.{lowered-length, lowered-other, lowered-life, mended-fresh, mended-right}

-- the destination is an address
pub destination-small : (p : List ℕ) → Packet p → destination p < 2 ^ 32
destination-small p b = omega (arith, b.byte 16, b.byte 17, b.byte 18, b.byte 19)

-- a lowered header is another one
pub lowered-differs : (p : List ℕ) → FineHeader p → lowered p ≢ p
lowered-differs p h e = omega (arith, lowered-life p h.room, ap (λ (q : List ℕ). get_or q 8 0) e, h.alive)

-- what is refused has no hop
pub refused-no-hop : (s : Said) → accepts s ≡ false → has_hop s ≡ false
refused-no-hop (accepted vs) e = absurd (true≢false e)
refused-no-hop (refused n) e = refl
refused-no-hop (refused_at n k) e = refl

module _ (look : ℕ → Said) (p : List ℕ) where
  abbrev found : Said
  found = look (destination p)

  -- the two ways through the step, as the code takes them: f is what is wrong with the header
  module _ (f : ℕ) (e : f ≡ header_fault p) where
    pub step-refused : (f ≡ 0 → ⊥) → (r : ℕ) → r ≡ f → step_card r p ≡ step_card_of (stepped look p)
    unfolding stepped step_card_of packed
    step-refused z r q = rw (← e, ne_eqb f 0 z) (ap (λ (x : ℕ). step_card x p) q)

    pub step-looked : f ≡ 0 → (a : ℕ) → a ≡ destination p → (w : ℕ) → Word w (look a) → (ys : List ℕ) → ys ≡ cond (hop_in_word w) (lowered p) p
        → step_card w ys ≡ step_card_of (stepped look p)
    unfolding stepped step_card_of
    step-looked z a ea w h ys q =
        let left : ys ≡ cond (has_hop found) (lowered p) p
        = q ∙ ap (λ (b : Bool). cond b (lowered p) p) (word-hop w (look a) h ∙ ap (λ (x : ℕ). has_hop (look x)) ea) in
        let packs : w ≡ pack_found found = h.packs ∙ ap (λ (x : ℕ). pack_found (look x)) ea in
        rw (← e, eq-eqb f 0 z) (ap (λ (x : ℕ). step_card x ys) packs ∙ ap (step_card _) left)

  -- what the step answers and leaves by what is wrong with the header
  abbrev out : ℕ → StepOut
  out n = cond (eqb n 0) (hopped found p) (step_out (refused n) p)

  out-is : stepped look p ≡ out (header_fault p)
  unfolding stepped
  out-is = refl

  pub said-is : (stepped look p).said ≡ cond (eqb (header_fault p) 0) found (refused (header_fault p))
  said-is = ap (λ (o : StepOut). o.said) out-is ∙ go (eqb (header_fault p) 0)
    where
      go : (b : Bool) → (cond b (hopped found p) (step_out (refused (header_fault p)) p)).said ≡ cond b found (refused (header_fault p))
      go true = refl
      go false = refl

  -- it is one case of `Step`,
  pub step-judged : Step look p (stepped look p)
  step-judged = rw out-is (go (header-judged p))
    where
      hop : FineHeader p → (has_hop found ≡ true) ⊎ (has_hop found ≡ false) → Step look p (hopped found p)
      hop h (inl e) = rw e (Step.lowers h e)
      hop h (inr e) = rw e (Step.left h e)

      go : {n : ℕ} → Judged p n → Step look p (out n)
      go {n} (Judged.wrong w) = rw (ne_eqb n 0 (λ z. omega (arith, (wrong-some w).0))) (Step.wrong n w)
      go (Judged.fine h) = hop h (decided (has_hop found))

  -- and no other
  pub step-only : (o : StepOut) → Step look p o → stepped look p ≡ o
  step-only o (Step.wrong n w) = out-is ∙ ap out (wrong-fault w) ∙ rw (ne_eqb n 0 (λ z. omega (arith, (wrong-some w).0)))
  step-only o (Step.left h e) = out-is ∙ ap out (fine-fault h) ∙ rw e
  step-only o (Step.lowers h e) = out-is ∙ ap out (fine-fault h) ∙ rw e

  pub step-exactly : (o : StepOut) → (stepped look p ≡ o) ↔ Step look p o
  step-exactly o = ((λ e. subst (Step look p) e step-judged), step-only o)

  -- a fine header: the lookup's own answer
  pub fine-said : FineHeader p → (stepped look p).said ≡ found
  fine-said h = ap (λ (o : StepOut). o.said) (out-is ∙ ap out (fine-fault h))

  -- with a hop the header was fine, and is lowered
  pub hop-lowers : has_hop (stepped look p).said ≡ true → FineHeader p × ((stepped look p).packet ≡ lowered p)
  hop-lowers e = go step-judged e
    where
      go : {o : StepOut} → Step look p o → has_hop o.said ≡ true → FineHeader p × (o.packet ≡ lowered p)
      go (Step.wrong n w) q = absurd (true≢false (sym q))
      go (Step.left h n) q = absurd (true≢false (sym q ∙ n))
      go (Step.lowers h n) q = (h, refl)

  pub fine-lowered : FineHeader p → has_hop found ≡ true → (stepped look p).packet ≡ lowered p
  fine-lowered h e = ap (λ (o : StepOut). o.packet) (step-only _ (Step.lowers h e))

  -- "No route leaves the header as it was", and so does every refusal
  pub no-hop-leaves : has_hop (stepped look p).said ≡ false → (stepped look p).packet ≡ p
  no-hop-leaves e = go step-judged e
    where
      go : {o : StepOut} → Step look p o → has_hop o.said ≡ false → o.packet ≡ p
      go (Step.wrong n w) q = refl
      go (Step.left h n) q = refl
      go (Step.lowers h n) q = absurd (true≢false (sym n ∙ q))

  abbrev packet' : List ℕ
  packet' = (stepped look p).packet

  -- what holds of the packet as it was and as it is lowered holds of it after the step
  after : (P : List ℕ → Type 0) → P p → P (lowered p) → P packet'
  after P x y = go (decided (has_hop (stepped look p).said))
    where
      go : (has_hop (stepped look p).said ≡ true) ⊎ (has_hop (stepped look p).said ≡ false) → P packet'
      go (inl e) = subst P (sym (hop-lowers e).1) y
      go (inr e) = subst P (sym (no-hop-leaves e)) x

  -- "no byte but those three differs", and there are as many
  pub step-frame : (j : ℕ) → j ≢ 8 → j ≢ 10 → j ≢ 11 → get_or packet' j 0 ≡ get_or p j 0
  step-frame j a b c = after (λ (q : List ℕ). get_or q j 0 ≡ get_or p j 0) refl (lowered-other p j a b c)

  pub step-length : length packet' ≡ length p
  step-length = after (λ (q : List ℕ). length q ≡ length p) refl (lowered-length p)

  -- "lowers the time to live by one and mends the checksum": the checksum is then right, and the very number worked out afresh
  pub step-mends : Packet p → has_hop (stepped look p).said ≡ true
      → (get_or packet' 8 0 ≡ get_or p 8 0 - 1) × (right_sum packet' ≡ true) × (half_of packet' 5 ≡ fresh_sum packet')
  step-mends b e = let h = hop-lowers e in rw h.1 (lowered-life p h.0.room, mended-right p b h.0, mended-fresh p b h.0)

-- "Given a packet's first 20 bytes": what is answered depends on no other
module _ (look : ℕ → Said) {p q : List ℕ} (s : SameHeader p q) where
  same-halves : ones_sum (half_of p) 10 ≡ ones_sum (half_of q) 10
  same-halves =
      sum_same (half_of p) (half_of q) 10
      (λ i l. ap₂ (λ (x y : ℕ). x * 256 + y) (s.bytes (2 * i) (omega arith)) (s.bytes (2 * i + 1) (omega arith)))

  same-fault : header_fault p ≡ header_fault q
  unfolding header_fault
  same-fault =
      rw (le-ltb (length p) 20 s.room, le-ltb (length q) 20 s.room', s.bytes 0 (omega arith), same-halves, s.bytes 8 (omega arith))

  same-destination : destination p ≡ destination q
  same-destination =
      omega (arith, s.bytes 16 (omega arith), s.bytes 17 (omega arith), s.bytes 18 (omega arith), s.bytes 19 (omega arith))

  pub step-blind : (stepped look p).said ≡ (stepped look q).said
  step-blind =
      said-is look p ∙ ap₂ (λ (n a : ℕ). cond (eqb n 0) (look a) (refused n)) same-fault same-destination ∙ sym (said-is look q)
