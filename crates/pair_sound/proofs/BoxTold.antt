-- The answers of the test of a whole box.
use mathlib.Core.Path.{◌≡◌, sym, ◌∙◌}
use mathlib.Core.Bool.{Bool, true, false, not, true≢false, false≢true}
use mathlib.Core.List.{List}
use Prim.Native.Nat.{ℕ, ◌+◌, ◌≤◌, ◌<◌}
use native.Mathlib.Omega.{arith}
use lib.Dec.{leb}
use lib.ListN.{length}
use borrow.Author.Tests.{leb-true, le-leb}
use Rattle.chain.specs.List.{Scratch}
use Rattle.bits.specs.Tab.{Tells}
use Rattle.bits.proofs.Bools.{same}
use Rattle.bits.proofs.Tells.{refuted, passed}
use Rattle.sail.specs.declared.geometry.Geometry.{Geometry}
use Rattle.pair.specs.Party.{Party, one, two, party_of}
use Rattle.pair.specs.PairLent.{PairLent, side}
use Rattle.pair.specs.PairSound.{share_of, table_for, PairSound, pair_sound?}
use Rattle.pair.specs.declared.Pair.{Pair}
use Rattle.pair.proofs.PairTest.{pair-sound-tells}
use Rattle.pair_sound.specs.BoxTest.{PartyRight, PartyTold, PoolsRight, PoolsReady, Sight, BothSized, BoxSight, BoxTold}
use Rattle.pair_sound.proofs.Boxes.{box-sound, sound-own, sound-pools}

-- the limits
module _ (a b n c d m : ℕ) where
  pub over-second : n < a + b → Tells false ((a + b ≤ n) × (c + d ≤ m))
  over-second h = ((λ f. absurd (false≢true f)), (λ p. absurd (omega (arith, h, p.0))))

  pub second_fits : (n < a + b → ⊥) → (r : Bool) → r ≡ leb (c + d) m → Tells r ((a + b ≤ n) × (c + d ≤ m))
  second_fits h r e = (
    (λ f. (omega arith, leb-true (c + d) m (sym e ∙ f))),
    (λ p. e ∙ le-leb (c + d) m p.1),
  )

-- room that was written to is room still
pub sight-kept : {own2 own3 see2 see3 see2' see3' : List ℕ} → Sight own2 own3 see2 see3 → length see2' ≡ length see2 → length see3' ≡ length see3
    → Sight own2 own3 see2' see3'
sight-kept s e f = record { room2 = e ∙ s.room2; room3 = f ∙ s.room3 }

pub scratch-kept : {ws par ws' par' : List ℕ} → Scratch ws par → length ws' ≡ length ws → length par' ≡ length par → Scratch ws' par'
scratch-kept s e f = record { words = e ∙ s.words; chain = f ∙ s.chain }

-- what the pools' test rests on
pub pools-ready : (g : Geometry) (b : PairLent) → BothSized g b → PoolsReady g b.second b.third b.own2 b.own3 b.long2
pools-ready g b z =
    let s = z.each one in
    let v = s.valid in
    record {
      valid = v;
      chunked2 = record { small = v.near; few = s.few2; chunks = s.cells2 };
      chunked3 = record { small = omega arith; few = s.few3; chunks = s.cells3 };
      counts = s.counts2;
    }

module _ (t : Pair) (b : PairLent) (z : BothSized t.geometry b) where
  abbrev Fit : Type 0
  Fit = (t.one.most2 + t.two.most2 ≤ length b.own2) × (t.one.most3 + t.two.most3 ≤ length b.own3)

  abbrev Pools : Type 0
  Pools = PoolsRight t.geometry b.second b.third b.own2 b.own3 b.long2

  abbrev Own : Party → Type 0
  Own w = PartyRight w (table_for w t) (share_of w t).most2 (share_of w t).most3 (side w b)

  is-test : (r : Bool) → Tells r (PairSound t b) → r ≡ pair_sound? t b
  is-test r x = same r (pair_sound? t b) (λ e. (pair-sound-tells t b).1 (x.0 e)) (λ e. x.1 ((pair-sound-tells t b).0 e))

  -- a part that fails decides
  module _ {w : Party} {see2 see3 ws par : List ℕ} where
    off : Tells false (PairSound t b) → BoxTold false w t b see2 see3 ws par
    off x = record { tells = x; is = is-test false x; sight = λ f. absurd (false≢true f) }

    pub no-fit : (a : Bool) → Tells a Fit → not a ≡ true → BoxTold false w t b see2 see3 ws par
    no-fit a x e = off (refuted x e (λ s. (s.fit2, s.fit3)))

    pub no-pools : (a : Bool) → Tells a Pools → not a ≡ true → BoxTold false w t b see2 see3 ws par
    no-pools a x e = off (refuted x e (λ s. sound-pools t b z.each s))

    pub no-first : (a : Bool) → Tells a (Own one) → not a ≡ true → BoxTold false w t b see2 see3 ws par
    no-first a x e = off (refuted x e (λ s. sound-own t b z.each s one))

    pub no_second : (a : Bool) → Tells a (Own two) → not a ≡ true → BoxTold false w t b see2 see3 ws par
    no_second a x e = off (refuted x e (λ s. sound-own t b z.each s two))

  -- and where the others pass, the calling party's own
  module _ (a : Bool) (fit : Tells a Fit) (fits : not a ≡ false) (c : Bool) (pools : Tells c Pools) (pass : not c ≡ false) (d : Bool) where
    all : Own one → Own two → PairSound t b
    all p q = box-sound t b z.each p q (passed pools pass) (passed fit fits).0 (passed fit fits).1

    told : (w : Party) (r : Bool) (see2 see3 ws par : List ℕ) → (Own w → PairSound t b)
        → PartyTold r w (table_for w t) (share_of w t).most2 (share_of w t).most3 (side w b) see2 see3 ws par → BoxTold r w t b see2 see3 ws par
    told w r see2 see3 ws par on p =
        let x : Tells r (PairSound t b) = ((λ e. on (p.tells.0 e)), (λ s. p.tells.1 (sound-own t b z.each s w))) in
        record { tells = x; is = is-test r x; sight = λ e. sight w see2 see3 ws par p.seen2 p.seen3 (p.chained e) }
      where
        sight : (w : Party) (see2 see3 ws par : List ℕ) → see2 ≡ Rattle.pair.specs.Party.view w (side w b).own2
            → see3 ≡ Rattle.pair.specs.Party.view w (side w b).own3
            → Rattle.chain.specs.List.ChainedFront (side w b).list (share_of w t).count ws par → BoxSight w t b see2 see3 ws par
        sight one see2 see3 ws par e f c = record { seen2 = e; seen3 = f; chain = c }
        sight two see2 see3 ws par e f c = record { seen2 = e; seen3 = f; chain = c }

    pub second-told : Tells d (Own one) → not d ≡ false → (guest : Bool) → guest ≡ true → (r : Bool) (see2 see3 ws par : List ℕ)
        → PartyTold r two (table_for two t) t.two.most2 t.two.most3 (side two b) see2 see3 ws par → BoxTold r (party_of guest) t b see2 see3 ws par
    second-told own ok true e r see2 see3 ws par p = told two r see2 see3 ws par (λ q. all (passed own ok) q) p
    second-told own ok false e r see2 see3 ws par p = absurd (false≢true e)

    pub first-told : Tells d (Own two) → not d ≡ false → (guest : Bool) → guest ≡ false → (r : Bool) (see2 see3 ws par : List ℕ)
        → PartyTold r one (table_for one t) t.one.most2 t.one.most3 (side one b) see2 see3 ws par → BoxTold r (party_of guest) t b see2 see3 ws par
    first-told own ok true e r see2 see3 ws par p = absurd (true≢false e)
    first-told own ok false e r see2 see3 ws par p = told one r see2 see3 ws par (λ q. all q (passed own ok)) p
