-- Refusals with the same number are the same, so a number says all of a refusal.
use Rattle.std.specs.Prelude.{◌≡◌, ◌<◌, ℕ, cond, eqb, true, false, refl}
use Rattle.std.proofs.Common.{sym, ap, ◌∙◌, eq-eqb, lit<}
use Rattle.refusals.specs.Numbers.{number_of}
use Rattle.refusals.specs.declared.Refusal.{Refusal}
use Rattle.refusals.specs.declared.Refusal.TheVariants as refusal

-- the refusal of a number
pub refusal_of : ℕ → Refusal
refusal_of n =
    cond (eqb n 1) refusal.Geometry (cond (eqb n 2) refusal.Size (cond (eqb n 3) refusal.Prefix (cond (eqb n 4) refusal.Hop
    (cond (eqb n 5) refusal.Unsound (cond (eqb n 6) refusal.Room (cond (eqb n 7) refusal.SecondChunks (cond (eqb n 8) refusal.ThirdChunks
    (cond (eqb n 9) refusal.Absent (cond (eqb n 10) refusal.Record (cond (eqb n 11) refusal.Nodes (cond (eqb n 12) refusal.Hops
    (cond (eqb n 13) refusal.Broken (cond (eqb n 14) refusal.NoRecord (cond (eqb n 15) refusal.Down (cond (eqb n 17) refusal.Field
    (cond (eqb n 18) refusal.FieldRoom (cond (eqb n 19) refusal.Short (cond (eqb n 20) refusal.Header (cond (eqb n 21) refusal.Checksum
    (cond (eqb n 22) refusal.Expired (cond (eqb n 23) refusal.Version refusal.Limits)))))))))))))))))))))

pub refusal-back : (r : Refusal) → refusal_of (number_of r) ≡ r
unfolding refusal_of
refusal-back refusal.Geometry = refl
refusal-back refusal.Size = refl
refusal-back refusal.Prefix = refl
refusal-back refusal.Hop = refl
refusal-back refusal.Unsound = refl
refusal-back refusal.Room = refl
refusal-back refusal.SecondChunks = refl
refusal-back refusal.ThirdChunks = refl
refusal-back refusal.Absent = refl
refusal-back refusal.Record = refl
refusal-back refusal.Nodes = refl
refusal-back refusal.Hops = refl
refusal-back refusal.Broken = refl
refusal-back refusal.NoRecord = refl
refusal-back refusal.Down = refl
refusal-back refusal.Field = refl
refusal-back refusal.FieldRoom = refl
refusal-back refusal.Short = refl
refusal-back refusal.Header = refl
refusal-back refusal.Checksum = refl
refusal-back refusal.Expired = refl
refusal-back refusal.Version = refl
refusal-back refusal.Limits = refl

pub number-injective : (a b : Refusal) → number_of a ≡ number_of b → a ≡ b
number-injective a b e = sym (refusal-back a) ∙ ap refusal_of e ∙ refusal-back b

-- no refusal has the number 0, which says that nothing is wrong
pub number-not_0 : (r : Refusal) → eqb (number_of r) 0 ≡ false
number-not_0 refusal.Geometry = refl
number-not_0 refusal.Size = refl
number-not_0 refusal.Prefix = refl
number-not_0 refusal.Hop = refl
number-not_0 refusal.Unsound = refl
number-not_0 refusal.Room = refl
number-not_0 refusal.SecondChunks = refl
number-not_0 refusal.ThirdChunks = refl
number-not_0 refusal.Absent = refl
number-not_0 refusal.Record = refl
number-not_0 refusal.Nodes = refl
number-not_0 refusal.Hops = refl
number-not_0 refusal.Broken = refl
number-not_0 refusal.NoRecord = refl
number-not_0 refusal.Down = refl
number-not_0 refusal.Field = refl
number-not_0 refusal.FieldRoom = refl
number-not_0 refusal.Short = refl
number-not_0 refusal.Header = refl
number-not_0 refusal.Checksum = refl
number-not_0 refusal.Expired = refl
number-not_0 refusal.Version = refl
number-not_0 refusal.Limits = refl

pub number-above_0 : (r : Refusal) → number_of r ≡ 0 → ⊥
number-above_0 r e = let h = number-not_0 r in let z : eqb (number_of r) 0 ≡ true = eq-eqb (number_of r) 0 e in cc

-- a number fits a byte
pub number-below_256 : (r : Refusal) → number_of r < 256
number-below_256 refusal.Geometry = lit< tt
number-below_256 refusal.Size = lit< tt
number-below_256 refusal.Prefix = lit< tt
number-below_256 refusal.Hop = lit< tt
number-below_256 refusal.Unsound = lit< tt
number-below_256 refusal.Room = lit< tt
number-below_256 refusal.SecondChunks = lit< tt
number-below_256 refusal.ThirdChunks = lit< tt
number-below_256 refusal.Absent = lit< tt
number-below_256 refusal.Record = lit< tt
number-below_256 refusal.Nodes = lit< tt
number-below_256 refusal.Hops = lit< tt
number-below_256 refusal.Broken = lit< tt
number-below_256 refusal.NoRecord = lit< tt
number-below_256 refusal.Down = lit< tt
number-below_256 refusal.Field = lit< tt
number-below_256 refusal.FieldRoom = lit< tt
number-below_256 refusal.Short = lit< tt
number-below_256 refusal.Header = lit< tt
number-below_256 refusal.Checksum = lit< tt
number-below_256 refusal.Expired = lit< tt
number-below_256 refusal.Version = lit< tt
number-below_256 refusal.Limits = lit< tt
