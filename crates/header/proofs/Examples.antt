-- RFC 1071's and RFC 1624's examples, and a header whose checksum is known.
use mathlib.Core.Path.{◌≡◌, refl}
use mathlib.Core.List.{List, [], ◌∷◌}
use Prim.Native.Nat.{ℕ}
use Rattle.header.specs.Sums.{half_of, ones_sum, fresh_sum, mended_sum}
use Rattle.header.specs.Header.{header_fault, lowered}

-- RFC 1071, section 3: 0001 +' F203 +' F4F5 +' F6F7 is DDF2
rfc-1071 : ones_sum (half_of (0x00 ∷ 0x01 ∷ 0xF2 ∷ 0x03 ∷ 0xF4 ∷ 0xF5 ∷ 0xF6 ∷ 0xF7 ∷ [])) 4 ≡ 0xDDF2
unfolding ones_sum
rfc-1071 = refl

-- RFC 1624, section 4: HC DD2F, m 5555 and m' 3285 give 0000, and not FFFF as RFC 1141's equation does
rfc-1624 : mended_sum 0xDD2F 0x5555 0x3285 ≡ 0
unfolding mended_sum
rfc-1624 = refl

abbrev known : List ℕ
known = 0x45 ∷ 0x00 ∷ 0x00 ∷ 0x73 ∷ 0x00 ∷ 0x00 ∷ 0x40 ∷ 0x00 ∷ 0x40 ∷ 0x11 ∷ 0xB8 ∷ 0x61 ∷ 0xC0 ∷ 0xA8 ∷ 0x00 ∷ 0x01 ∷ 0xC0 ∷ 0xA8 ∷ 0x00 ∷ 0xC7 ∷ []

passes : header_fault known ≡ 0
unfolding header_fault ones_sum
passes = refl

afresh : fresh_sum known ≡ 0xB861
unfolding fresh_sum ones_sum
afresh = refl

becomes : lowered known
    ≡ 0x45 ∷ 0x00 ∷ 0x00 ∷ 0x73 ∷ 0x00 ∷ 0x00 ∷ 0x40 ∷ 0x00 ∷ 0x3F ∷ 0x11 ∷ 0xB9 ∷ 0x61 ∷ 0xC0 ∷ 0xA8 ∷ 0x00 ∷ 0x01 ∷ 0xC0 ∷ 0xA8 ∷ 0x00 ∷ 0xC7 ∷ []
unfolding lowered mended_sum
becomes = refl
