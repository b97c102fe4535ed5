-- What the writer and a message answer is read back, and nothing else is in it; and the routes after a message, also where it stopped.
use mathlib.Core.Path.{◌≡◌, refl}
use mathlib.Core.List.{List, [], ◌∷◌}
use Prim.Native.Nat.{ℕ, ◌+◌, ◌*◌, ◌%◌, ◌^◌, ◌≤◌, ◌<◌}
use native.Mathlib.Nat.{mod-eq_of_lt}
use native.Mathlib.Omega.{arith}
use borrow.Author.Tests.{ne_eqb}
use Rattle.routes.specs.Said.{Said, accepted, refused, refused_at, packed}
use Rattle.packing.specs.Unpack.{field, refusal_of, unpacked, count_of, FitsWord}
use Rattle.packing.specs.Parts.{parts}
use Rattle.packing.proofs.Unpacks.{field_is, ReadsAccepted, said_read}
use Rattle.packing.proofs.Parts.{Sums, said-parts}
use Rattle.packing_fields.specs.Answers.{
  pack_written,
  pack_update,
  high_values,
  unpack_written,
  unpack_update,
  WrittenFits,
  UpdateFits,
  written_parts,
  update_parts,
}

-- The writer.
module _ (n x : ℕ) (h : n < 2 ^ 32) (e : x ≡ pack_written (accepted (n ∷ []))) where
  bytes_at : field 32 32 x ≡ n
  unfolding packed
  bytes_at = let r : n % 2 ^ 32 ≡ n = mod-eq_of_lt h in field_is 32 32 0 n 0 x (omega arith) h (omega arith)

  written-values : ReadsAccepted high_values x (n ∷ [])
  unfolding packed high_values
  written-values = record { none = omega arith; back = rw bytes_at }

  written-sum : Sums written_parts x
  unfolding packed written_parts
  written-sum = let r : n % 2 ^ 32 ≡ n = mod-eq_of_lt h in record { none = omega arith; sum = rw bytes_at (omega arith) }

module _ (most : ℕ) (few : most ≤ 2 ^ 32) where
  pub written_read : (s : Said) → FitsWord most WrittenFits s → unpack_written (pack_written s) ≡ s
  unfolding packed
  written_read = said_read most few WrittenFits _ high_values go
    where
      go : (vs : List ℕ) → WrittenFits vs → ReadsAccepted high_values (pack_written (accepted vs)) vs
      go _ (WrittenFits.bytes n h) = written-values n _ h refl

  pub written-parts : (s : Said) → FitsWord most WrittenFits s → pack_written s ≡ parts written_parts (pack_written s)
  unfolding packed
  written-parts = said-parts most few WrittenFits _ written_parts go
    where
      go : (vs : List ℕ) → WrittenFits vs → Sums written_parts (pack_written (accepted vs))
      go _ (WrittenFits.bytes n h) = written-sum n _ h refl

-- A message: n is the number, 0 where it is accepted, and b whether bit 8 is set.
pub record Laid (n b count k x : ℕ) : Type 0 where
  pub number : field 0 8 x ≡ n
  pub mark : field 8 1 x ≡ b
  pub routes : field 16 16 x ≡ count
  pub entries : field 32 32 x ≡ k

laid : (n b count k x : ℕ) → n < 2 ^ 8 → b < 2 → count < 2 ^ 16 → k < 2 ^ 32 → x ≡ n + b * 256 + (count * 65536 + k * 2 ^ 32) → Laid n b count k x
laid n b count k x i j c h e = record {
  number = field_is 0 8 0 n (b + (count * 256 + k * 2 ^ 24)) x (omega arith) i (omega arith);
  mark = field_is 8 1 n b (count * 128 + k * 2 ^ 23) x (omega arith) j (omega arith);
  routes = field_is 16 16 (n + b * 256) count k x (omega arith) c (omega arith);
  entries = field_is 32 32 (n + b * 256 + count * 65536) k 0 x (omega arith) h (omega arith);
}

module _ (count : ℕ) where
  done-laid : (k : ℕ) → k < 2 ^ 32 → count < 2 ^ 16 → Laid 0 0 count k (pack_update count (accepted (k ∷ [])))
  unfolding pack_update
  done-laid k h c = let r : count % 65536 ≡ count = mod-eq_of_lt c in laid 0 0 count k _ (omega arith) (omega arith) c h (omega arith)

  stopped-laid : (n k : ℕ) → n < 2 ^ 8 → k < 2 ^ 32 → count < 2 ^ 16 → Laid n 1 count k (pack_update count (refused_at n k))
  unfolding pack_update
  stopped-laid n k i h c = let r : count % 65536 ≡ count = mod-eq_of_lt c in laid n 1 count k _ i (omega arith) c h (omega arith)

  off-laid : (n : ℕ) → n < 2 ^ 8 → Laid n 0 0 0 (pack_update count (refused n))
  unfolding pack_update
  off-laid n i = laid n 0 0 0 _ i (omega arith) (omega arith) (omega arith) (omega arith)

  pub update-read : (s : Said) → UpdateFits count s → unpack_update (pack_update count s) ≡ s
  unfolding unpacked high_values refusal_of
  update-read _ (UpdateFits.done k h c) = let w = done-laid k h c in rw (w.number, w.entries)
  update-read _ (UpdateFits.stopped n k a i h c) =
      let w = stopped-laid n k i h c in
      rw (w.number, w.mark, w.entries, ne_eqb n 0 (λ z. omega arith))
  update-read _ (UpdateFits.off n a i) = let w = off-laid n i in rw (w.number, w.mark, ne_eqb n 0 (λ z. omega arith))

  -- the routes after a message that was dealt with, wholly or up to a stop
  pub done-routes : (k : ℕ) → UpdateFits count (accepted (k ∷ [])) → count_of (pack_update count (accepted (k ∷ []))) ≡ count
  done-routes k (UpdateFits.done _ h c) = (done-laid k h c).routes

  pub stopped-routes : (n k : ℕ) → UpdateFits count (refused_at n k) → count_of (pack_update count (refused_at n k)) ≡ count
  stopped-routes n k (UpdateFits.stopped _ _ a i h c) = (stopped-laid n k i h c).routes

  done-sum : (k : ℕ) → count < 2 ^ 16 → pack_update count (accepted (k ∷ [])) ≡ count * 2 ^ 16 + k * 2 ^ 32
  unfolding pack_update
  done-sum k c = let r : count % 65536 ≡ count = mod-eq_of_lt c in omega arith

  stopped-sum : (n k : ℕ) → count < 2 ^ 16 → pack_update count (refused_at n k) ≡ n + 2 ^ 8 + count * 2 ^ 16 + k * 2 ^ 32
  unfolding pack_update
  stopped-sum n k c = let r : count % 65536 ≡ count = mod-eq_of_lt c in omega arith

  off-sum : (n : ℕ) → pack_update count (refused n) ≡ n
  unfolding pack_update
  off-sum n = refl

  pub update-parts : (s : Said) → UpdateFits count s → pack_update count s ≡ update_parts (pack_update count s)
  unfolding update_parts
  update-parts _ (UpdateFits.done k h c) = let w = done-laid k h c in rw (w.number, w.routes, w.entries) (done-sum k c)
  update-parts _ (UpdateFits.stopped n k a i h c) =
      let w = stopped-laid n k i h c in
      rw (w.number, w.mark, w.routes, w.entries, ne_eqb n 0 (λ z. omega arith)) (stopped-sum n k c)
  update-parts _ (UpdateFits.off n a i) = let w = off-laid n i in rw (w.number, w.mark, ne_eqb n 0 (λ z. omega arith)) (off-sum n)
