-- What the calls on bit maps answer is read back, and nothing else is in it.
use mathlib.Core.Path.{◌≡◌, refl, ap, ◌∙◌}
use mathlib.Core.List.{List, [], ◌∷◌}
use Prim.Native.Nat.{ℕ, ◌*◌, ◌^◌, ◌≤◌, ◌<◌}
use native.Mathlib.Nat.{mod-eq_of_lt}
use native.Mathlib.Omega.{arith}
use borrow.Author.Tests.{ne_eqb}
use Rattle.routes.specs.Said.{Said, accepted, packed}
use Rattle.std.specs.Prelude.{Option, Some, None, unwrap_or}
use Rattle.basic.specs.Calls.{pack_hop, hop_word, if_hop}
use Rattle.packing.specs.Pack.{pack_none}
use Rattle.packing.specs.Unpack.{field, no_values, unpack_none, FitsWord}
use Rattle.packing_maps.specs.Hops.{hop_values, unpack_hop, HopFits, hop_parts, NoneFits}
use Rattle.packing.specs.Parts.{parts}
use Rattle.packing.proofs.Unpacks.{ReadsAccepted, said_read}
use Rattle.packing.proofs.Parts.{Sums, said-parts}

hop-values : (h x : ℕ) → 1 ≤ h → h < 2 ^ 16 → x ≡ pack_hop (accepted (h ∷ [])) → ReadsAccepted hop_values x (h ∷ [])
unfolding packed hop_values
hop-values h x a b e =
    let f : field 16 16 x ≡ h = omega arith in
    record { none = omega arith; back = rw (f, ne_eqb h 0 (λ z. omega arith)) }

hop-sum : (h x : ℕ) → h < 2 ^ 16 → x ≡ h * 65536 → Sums hop_parts x
unfolding hop_parts
hop-sum h x b e = record { none = omega arith; sum = omega arith }

module _ (most : ℕ) (few : most ≤ 2 ^ 32) where
  pub hop-read : (s : Said) → FitsWord most HopFits s → unpack_hop (pack_hop s) ≡ s
  unfolding packed hop_values
  hop-read = said_read most few HopFits _ hop_values go
    where
      go : (vs : List ℕ) → HopFits vs → ReadsAccepted hop_values (pack_hop (accepted vs)) vs
      go _ (HopFits.hop h a b) = hop-values h _ a b refl
      go _ HopFits.none = record { none = refl; back = refl }

  pub hop-parts : (s : Said) → FitsWord most HopFits s → pack_hop s ≡ parts hop_parts (pack_hop s)
  unfolding packed
  hop-parts = said-parts most few HopFits _ hop_parts go
    where
      go : (vs : List ℕ) → HopFits vs → Sums hop_parts (pack_hop (accepted vs))
      go _ (HopFits.hop h a b) = hop-sum h _ b refl
      go _ HopFits.none = hop-sum 0 _ (omega arith) refl

  pub nothing_read : (s : Said) → FitsWord most NoneFits s → unpack_none (pack_none s) ≡ s
  unfolding packed no_values
  nothing_read = said_read most few NoneFits _ no_values go
    where
      go : (vs : List ℕ) → NoneFits vs → ReadsAccepted no_values (pack_none (accepted vs)) vs
      go _ NoneFits.none = record { none = refl; back = refl }

-- what carries no index is packed into 32 bits
hop-low : (s : Said) → FitsWord 0 HopFits s → pack_hop s < 2 ^ 32
unfolding packed
hop-low _ (FitsWord.values _ (HopFits.hop h a b)) = omega arith
hop-low _ (FitsWord.values _ HopFits.none) = omega arith
hop-low _ (FitsWord.number n a b) = omega arith
hop-low _ (FitsWord.index n k a b c) = absurd (omega arith)

pub word_read : (s : Said) → FitsWord 0 HopFits s → unpack_hop (hop_word s) ≡ s
word_read s f = ap unpack_hop (mod-eq_of_lt (hop-low s f)) ∙ hop-read 0 (omega arith) s f

-- the code's number of a hop, 0 for no route
pub hop-packed : (o : Option ℕ) (x : ℕ) → x ≡ unwrap_or o 0 → x * 65536 ≡ pack_hop (accepted (if_hop o))
unfolding packed
hop-packed None x e = omega arith
hop-packed (Some h) x e = omega arith
