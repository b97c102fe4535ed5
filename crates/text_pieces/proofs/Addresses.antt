-- An address as text: the digits of its bytes, and how long it is.
use mathlib.Core.Path.{◌≡◌, refl}
use mathlib.Core.List.{List, ◌∷◌, ◌++◌}
use Prim.Native.Nat.{ℕ, ◌+◌, ◌/◌, ◌%◌, ◌^◌, ◌≤◌, ◌<◌}
use native.Mathlib.Omega.{arith}
use lib.ListN.{length, get_or, length-append}
use Rattle.std.specs.Int.{w32, to_be_bytes}
use Rattle.bits.specs.Bytes.{above1, above2, above3, byte}
use Rattle.text_pieces.specs.Digits.{digits_of}
use Rattle.text_pieces.specs.declared.page.Page.{Page}
use Rattle.text_pieces.specs.Page.{Writes}
use Rattle.text_pieces.specs.Pieces.{ascii, labelled, dotted}
use Rattle.text_pieces.specs.Wrote.{TextRoom}
use Rattle.text_pieces.proofs.Digits.{digits-few}

pub length-dotted : (a : ℕ) → length (dotted a) ≡ length (digits_of (above3 a)) + (1 + length (digits_of (byte (above2 a)))) +
    (1 + length (digits_of (byte (above1 a)))) + (1 + length (digits_of (byte a)))
unfolding dotted labelled ascii
length-dotted a = simp length-append (omega arith)

-- and how long it may be
pub dotted-few : (a : ℕ) → a < 2 ^ 32 → length (dotted a) ≤ 15
dotted-few a h =
    rw length-dotted
    (omega (
      arith,
      digits-few 2 (above3 a) (omega arith),
      digits-few 2 (byte (above2 a)) (omega arith),
      digits-few 2 (byte (above1 a))
          (omega arith),
      digits-few 2 (byte a) (omega arith),
    ))

-- by the bytes that stand in memory, the highest first
module _ (a : ℕ) (bs : List ℕ) where
  abbrev pub bytes-dotted : List ℕ
  bytes-dotted = digits_of (get_or bs 0 0) ++ (46 ∷ digits_of (get_or bs 1 0)) ++ (46 ∷ digits_of (get_or bs 2 0)) ++ (46 ∷ digits_of (get_or bs 3 0))

  module _ (e : bs ≡ to_be_bytes w32 a) (h : a < 2 ^ 32) where
    dotted-bytes : dotted a ≡ bytes-dotted
    unfolding dotted labelled ascii
    dotted-bytes =
        let b3 : a / 16777216 % 256 ≡ a / 16777216 = omega arith in
        rw (e, b3) refl

    pub room-bytes : {o : List ℕ} {at : ℕ} → TextRoom o at (dotted a) → TextRoom o at bytes-dotted
    room-bytes r = rw dotted-bytes at r

    pub writes-bytes : {p q : Page} → Writes p bytes-dotted q → Writes p (dotted a) q
    writes-bytes w = rw dotted-bytes w
