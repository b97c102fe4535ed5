-- What an announcement on an image answers is read back, and nothing else is in its number.
use mathlib.Core.Path.{◌≡◌, refl}
use mathlib.Core.List.{List, [], ◌∷◌}
use Prim.Native.Nat.{ℕ, ◌+◌, ◌*◌, ◌%◌, ◌^◌, ◌≤◌, ◌<◌}
use native.Mathlib.Nat.{mod-eq_of_lt}
use native.Mathlib.Omega.{arith}
use Rattle.routes.specs.Said.{Said, accepted, packed}
use Rattle.packing.specs.Unpack.{field, FitsWord}
use Rattle.packing.specs.Parts.{parts}
use Rattle.packing.specs.ImageAnswers.{pack_image, image_values, unpack_image, ImageFits, image_parts}
use Rattle.packing.proofs.Unpacks.{field_is, ReadsAccepted, said_read}
use Rattle.packing.proofs.Parts.{Sums, said-parts}

-- the three fields of an accepted answer
record Fields (b nodes hops x : ℕ) : Type 0 where
  none : field 0 8 x ≡ 0
  flag : field 8 1 x ≡ b
  low : field 16 16 x ≡ hops
  high : field 32 32 x ≡ nodes
  kept : hops % 65536 ≡ hops

image-fields : (b nodes hops x : ℕ) → b < 2 → nodes < 2 ^ 32 → hops < 2 ^ 16 → x ≡ pack_image (accepted (b ∷ nodes ∷ hops ∷ [])) → Fields b nodes hops x
unfolding packed
image-fields b nodes hops x h i j e =
    let r : hops % 65536 ≡ hops = mod-eq_of_lt j in
    record {
      none = omega arith;
      flag = omega arith;
      low = field_is 16 16 (b * 256) hops nodes x (omega arith) j (omega arith);
      high = field_is 32 32 (b * 256 + hops * 65536) nodes 0 x (omega arith) i (omega arith);
      kept = r;
    }

image-values : (b nodes hops x : ℕ) → b < 2 → nodes < 2 ^ 32 → hops < 2 ^ 16 → x ≡ pack_image (accepted (b ∷ nodes ∷ hops ∷ []))
    → ReadsAccepted image_values x (b ∷ nodes ∷ hops ∷ [])
unfolding image_values
image-values b nodes hops x h i j e =
    let f = image-fields b nodes hops x h i j e in
    record { none = f.none; back = rw (f.flag, f.low, f.high) refl }

image-sum : (b nodes hops x : ℕ) → b < 2 → nodes < 2 ^ 32 → hops < 2 ^ 16 → x ≡ pack_image (accepted (b ∷ nodes ∷ hops ∷ [])) → Sums image_parts x
unfolding packed image_parts
image-sum b nodes hops x h i j e =
    let f = image-fields b nodes hops x h i j e in
    record { none = f.none; sum = rw (f.flag, f.low, f.high) (omega (arith, f.kept)) }

module _ (most : ℕ) (few : most ≤ 2 ^ 32) where
  pub image-read : (s : Said) → FitsWord most ImageFits s → unpack_image (pack_image s) ≡ s
  unfolding packed
  image-read = said_read most few ImageFits _ image_values go
    where
      go : (vs : List ℕ) → ImageFits vs → ReadsAccepted image_values (pack_image (accepted vs)) vs
      go _ (ImageFits.which b nodes hops h i j) = image-values b nodes hops _ h i j refl

  pub image-parts : (s : Said) → FitsWord most ImageFits s → pack_image s ≡ parts image_parts (pack_image s)
  unfolding packed
  image-parts = said-parts most few ImageFits _ image_parts go
    where
      go : (vs : List ℕ) → ImageFits vs → Sums image_parts (pack_image (accepted vs))
      go _ (ImageFits.which b nodes hops h i j) = image-sum b nodes hops _ h i j refl
