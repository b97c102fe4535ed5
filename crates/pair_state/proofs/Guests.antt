-- Which party the code's flag means.
use mathlib.Core.Path.{◌≡◌, refl}
use mathlib.Core.Bool.{Bool, true, false, true≢false, false≢true}
use Rattle.pair.specs.Party.{one, two, party_of}

pub guest-two : (guest : Bool) → guest ≡ true → party_of guest ≡ two
guest-two true e = refl
guest-two false e = absurd (false≢true e)

pub guest-one : (guest : Bool) → guest ≡ false → party_of guest ≡ one
guest-one true e = absurd (true≢false e)
guest-one false e = refl
