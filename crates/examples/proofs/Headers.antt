-- Packets and tables that meet what the theorems on the header step suppose, and answers that its statement refuses: on list A's table a packet to
-- 10.1.2.200 is lowered, and with /0 withdrawn one to 192.0.2.1 is left.
use mathlib.Core.Path.{◌≡◌, refl, sym, ◌∙◌, ap}
use mathlib.Core.Logic.{◌≢◌}
use mathlib.Core.Bool.{Bool, true, ◌&&◌}
use mathlib.Core.List.{List, [], ◌∷◌, ◌++◌}
use Prim.Native.Nat.{ℕ, zero, suc, ◌<◌}
use native.Mathlib.Omega.{arith}
use lib.Dec.{ltb}
use lib.ListN.{get_or, length-append, get_or-append}
use borrow.Author.Tests.{ltb-true}
use Rattle.bits.proofs.Bools.{and_split}
use Rattle.routes.specs.Said.{Said, packed, hop_after, no_route_after}
use Rattle.sail.specs.Sound.{standing}
use Rattle.sail.specs.Walk.{lookup_said}
use Rattle.header.specs.Sums.{ones_sum, mended_sum, SameValue}
use Rattle.header.specs.Header.{lowered, Packet}
use Rattle.header.specs.Step.{StepOut, step_out, stepped, step_card_of}
use Rattle.header.specs.Cases.{FineHeader, SameHeader, Step}
use Rattle.header.proofs.Steps.{step-only}
use Rattle.packets.specs.Contract.{MeetsStep}
use Rattle.demands.specs.Covered.{Covered}
use Rattle.demands.proofs.Headers.{one-answer-step, lowered-exactly}
use Rattle.examples.specs.Lines.{ip}
use Rattle.examples.specs.Starred.{loaded_a, without0, answer, starred}
use Rattle.examples.proofs.Witness.{line, t, l, sound_a}

-- from 192.0.2.1 to 10.1.2.200, as it came and lowered; and from 10.1.2.5 to 192.0.2.1
abbrev pub to200 : ℕ → ℕ → ℕ → List ℕ
to200 life high low =
    0x45 ∷ 0x00 ∷ 0x00 ∷ 0x28 ∷ 0x6C ∷ 0xFB ∷ 0x40 ∷ 0x00 ∷ life ∷ 0x11 ∷ high ∷ low ∷ 0xC0 ∷ 0x00 ∷ 0x02 ∷ 0x01 ∷ 0x0A ∷ 0x01 ∷ 0x02 ∷ 0xC8 ∷ []

abbrev pub to192 : List ℕ
to192 =
    0x45 ∷ 0x00 ∷ 0x00 ∷ 0x28 ∷ 0x00 ∷ 0x01 ∷ 0x40 ∷ 0x00 ∷ 0x40 ∷ 0x06 ∷ 0x6C ∷ 0xC8 ∷ 0x0A ∷ 0x01 ∷ 0x02 ∷ 0x05 ∷ 0xC0 ∷ 0x00 ∷ 0x02 ∷ 0x01 ∷ []

fine200 : FineHeader (to200 0x40 0xFE 0xFF)
unfolding ones_sum
fine200 = record { room = omega arith; version = record { version = refl; words = refl }; right = refl; alive = omega arith }

fine192 : FineHeader to192
unfolding ones_sum
fine192 = record { room = omega arith; version = record { version = refl; words = refl }; right = refl; alive = omega arith }

-- bytes
unfoldable bytes? : List ℕ → Bool
bytes? [] = true
bytes? (x ∷ xs) = ltb x 256 && bytes? xs

byte_of : (xs : List ℕ) → bytes? xs ≡ true → (j : ℕ) → get_or xs j 0 < 256
unfolding bytes?
byte_of [] e j = omega arith
byte_of (x ∷ xs) e zero = ltb-true x 256 (and_split (ltb x 256) (bytes? xs) e).0
byte_of (x ∷ xs) e (suc j) = byte_of xs (and_split (ltb x 256) (bytes? xs) e).1 j

packet200 : Packet (to200 0x40 0xFE 0xFF)
unfolding bytes?
packet200 = record { byte = byte_of (to200 0x40 0xFE 0xFF) refl }

-- what the lookups of the two destinations answer
found200 : lookup_said (t loaded_a) (l loaded_a) (ip 10 1 2 200) ≡ hop_after 3 57
unfolding starred answer
found200 = line 1

found192 : lookup_said (t without0) (l without0) (ip 192 0 2 1) ≡ no_route_after 1
unfolding starred answer
found192 = line 10

lowered200 : lowered (to200 0x40 0xFE 0xFF) ≡ to200 0x3F 0x00 0x00
unfolding lowered mended_sum
lowered200 = refl

-- the step: "a hop" lowers, "no route" leaves
pub step200 : stepped (lookup_said (t loaded_a) (l loaded_a)) (to200 0x40 0xFE 0xFF) ≡ step_out (hop_after 3 57) (to200 0x3F 0x00 0x00)
step200 =
    step-only (lookup_said (t loaded_a) (l loaded_a)) (to200 0x40 0xFE 0xFF) _ (Step.lowers fine200 (rw found200)) ∙ rw (found200, lowered200)

pub step192 : stepped (lookup_said (t without0) (l without0)) to192 ≡ step_out (no_route_after 1) to192
step192 = step-only (lookup_said (t without0) (l without0)) to192 _ (Step.left fine192 (rw found192)) ∙ rw found192

-- the words that the statement allows, and one that it does not
pub meets200 : MeetsStep (t loaded_a) (l loaded_a) (to200 0x40 0xFE 0xFF) 0x00390300 (to200 0x3F 0x00 0x00)
unfolding step_card_of packed
meets200 = rw step200

pub meets192 : MeetsStep (t without0) (l without0) to192 0x00000100 to192
unfolding step_card_of packed
meets192 = rw step192

pub unlowered-refused : MeetsStep (t loaded_a) (l loaded_a) (to200 0x40 0xFE 0xFF) 0x00390300 (to200 0x40 0xFE 0xFF) → ⊥
unlowered-refused m =
    let e = (one-answer-step (t loaded_a) (l loaded_a) (to200 0x40 0xFE 0xFF) _ _ _ _ meets200 m).1 in
    let z : ◌≡◌ {A = ℕ} 0x3F 0x40 = ap (λ (q : List ℕ). get_or q 8 0) e in
    omega arith

-- the packet is another than it was, so a standing route covers its destination
changed200 : (stepped (lookup_said (t loaded_a) (l loaded_a)) (to200 0x40 0xFE 0xFF)).packet ≢ to200 0x40 0xFE 0xFF
changed200 e =
    let z : ◌≡◌ {A = ℕ} 0x3F 0x40 = ap (λ (q : List ℕ). get_or q 8 0) (sym (ap (λ (o : StepOut). o.packet) step200) ∙ e) in
    omega arith

pub covered200 : Covered (standing (t loaded_a) (l loaded_a)) (ip 10 1 2 200)
covered200 = ((lowered-exactly (t loaded_a) (l loaded_a) (to200 0x40 0xFE 0xFF) sound_a packet200).0 changed200).1

-- a packet with more after its header is answered alike
pub longer200 : (xs : List ℕ) → SameHeader (to200 0x40 0xFE 0xFF ++ xs) (to200 0x40 0xFE 0xFF)
longer200 xs = record {
  room = rw (length-append (to200 0x40 0xFE 0xFF) xs) (omega arith);
  room' = omega arith;
  bytes = λ j h. get_or-append (to200 0x40 0xFE 0xFF) xs 0 j h;
}

-- "ones' complement value": 0000 and FFFF, and nothing else but equals
value-apart : SameValue 0 1 → ⊥
value-apart v = go v refl refl
  where
    go : {x y : ℕ} → SameValue x y → x ≡ 0 → y ≡ 1 → ⊥
    go SameValue.equal e q = omega arith
    go SameValue.low_high e q = omega arith
    go SameValue.high_low e q = omega arith
