-- A part of a list of records is a list of records, with the same records; and where the list's are good, a good input.
use mathlib.Core.Path.{◌≡◌, ap, ◌∙◌}
use mathlib.Core.List.{List, [], ◌∷◌}
use Prim.Native.Nat.{ℕ, ◌+◌, ◌*◌, ◌≤◌, ◌<◌}
use native.Mathlib.Omega.{arith}
use lib.ListN.{length, get_or, drop, length-drop}
use lib.Seq.{get_or-take, get_or-drop, length-take-le}
use Rattle.routes.specs.Record.{record_at, part, Records}
use Rattle.routes.specs.Said.{accepted}
use Rattle.routes.specs.Input.{input_said}
use Rattle.routes.proofs.Meaning.{good-input}

module _ (s : List ℕ) (i n : ℕ) where
  part-byte : (x y : ℕ) → x < n * 8 → i * 8 + x ≡ y → get_or (part s i n) x 0 ≡ get_or s y 0
  part-byte x y l e = get_or-take (n * 8) (drop (i * 8) s) x 0 l ∙ get_or-drop (i * 8) s x 0 ∙ ap (λ (z : ℕ). get_or s z 0) e

  pub part-record : (j : ℕ) → j < n → record_at (part s i n) j ≡ record_at s (i + j)
  unfolding record_at
  part-record j l =
      cc (
        part-byte (j * 8) ((i + j) * 8) (omega arith) (omega arith),
        part-byte (j * 8 + 1) ((i + j) * 8 + 1) (omega arith) (omega arith),
        part-byte (j * 8 + 2) ((i + j) * 8 + 2) (omega arith) (omega arith),
        part-byte (j * 8 + 3) ((i + j) * 8 + 3) (omega arith) (omega arith),
        part-byte (j * 8 + 4) ((i + j) * 8 + 4) (omega arith) (omega arith),
        part-byte (j * 8 + 5) ((i + j) * 8 + 5) (omega arith) (omega arith),
        part-byte (j * 8 + 6) ((i + j) * 8 + 6) (omega arith) (omega arith),
        part-byte (j * 8 + 6 + 1) ((i + j) * 8 + 6 + 1) (omega arith) (omega arith),
      )

  pub part_length : i * 8 + n * 8 ≤ length s → length (part s i n) ≡ n * 8
  part_length h = length-take-le (n * 8) (drop (i * 8) s) (rw (length-drop (i * 8) s) (omega arith))

  -- a part of good records is a good input
  pub part-good : (m : ℕ) → i + n ≤ m → Records s m → input_said (part s i n) ≡ accepted (n ∷ [])
  part-good m u r =
      let w = part_length (omega (arith, r.room)) in
      good-input (part s i n) n w (record {
        room = omega arith;
        few = omega (arith, r.few);
        each = λ k l. rw (part-record k l) (r.each (i + k) (omega arith));
        rises = λ j k l h. rw (part-record j (omega arith), part-record k h) (r.rises (i + j) (i + k) (omega arith) (omega arith));
      })
