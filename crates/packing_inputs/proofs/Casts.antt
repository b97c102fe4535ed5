-- What a broadcast answers is read back, and nothing else is in it.
use mathlib.Core.Path.{◌≡◌, refl}
use mathlib.Core.List.{List, [], ◌∷◌}
use Prim.Native.Nat.{ℕ, ◌^◌, ◌≤◌, ◌<◌}
use native.Mathlib.Omega.{arith}
use Rattle.routes.specs.Said.{Said, accepted, packed}
use Rattle.packing.specs.Unpack.{field, FitsWord}
use Rattle.packing.specs.Parts.{parts}
use Rattle.packing_inputs.specs.Casts.{pack_cast, cast_values, unpack_cast, CastFits, cast_parts}
use Rattle.packing.proofs.Unpacks.{ReadsAccepted, said_read}
use Rattle.packing.proofs.Parts.{Sums, said-parts}

module _ (b x : ℕ) (h : b < 2) (e : x ≡ pack_cast (accepted (b ∷ []))) where
  bit-8 : field 8 1 x ≡ b
  unfolding packed
  bit-8 = omega arith

  cast-values : ReadsAccepted cast_values x (b ∷ [])
  unfolding packed cast_values
  cast-values = record { none = omega arith; back = rw bit-8 }

  cast-sum : Sums cast_parts x
  unfolding packed cast_parts
  cast-sum = record { none = omega arith; sum = rw bit-8 (omega arith) }

module _ (most : ℕ) (few : most ≤ 2 ^ 32) where
  pub cast-read : (s : Said) → FitsWord most CastFits s → unpack_cast (pack_cast s) ≡ s
  unfolding packed
  cast-read = said_read most few CastFits _ cast_values go
    where
      go : (vs : List ℕ) → CastFits vs → ReadsAccepted cast_values (pack_cast (accepted vs)) vs
      go _ (CastFits.which b h) = cast-values b _ h refl

  pub cast-parts : (s : Said) → FitsWord most CastFits s → pack_cast s ≡ parts cast_parts (pack_cast s)
  unfolding packed
  cast-parts = said-parts most few CastFits _ cast_parts go
    where
      go : (vs : List ℕ) → CastFits vs → Sums cast_parts (pack_cast (accepted vs))
      go _ (CastFits.which b h) = cast-sum b _ h refl
