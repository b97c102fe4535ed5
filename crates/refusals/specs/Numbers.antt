-- The number that the documents give a refusal.
use Rattle.std.specs.Prelude.{ℕ, Result, Ok, Err}
use Rattle.refusals.specs.declared.Refusal.{Refusal}
use Rattle.refusals.specs.declared.Refusal.TheVariants as refusal

abbrev pub number_of : Refusal → ℕ
number_of refusal.Geometry = 1
number_of refusal.Size = 2
number_of refusal.Prefix = 3
number_of refusal.Hop = 4
number_of refusal.Unsound = 5
number_of refusal.Room = 6
number_of refusal.SecondChunks = 7
number_of refusal.ThirdChunks = 8
number_of refusal.Absent = 9
number_of refusal.Record = 10
number_of refusal.Nodes = 11
number_of refusal.Hops = 12
number_of refusal.Broken = 13
number_of refusal.NoRecord = 14
number_of refusal.Down = 15
number_of refusal.Field = 17
number_of refusal.FieldRoom = 18
number_of refusal.Short = 19
number_of refusal.Header = 20
number_of refusal.Checksum = 21
number_of refusal.Expired = 22
number_of refusal.Version = 23
number_of refusal.Limits = 24

-- what a check found, as a number: 0 where it found nothing
abbrev pub fault_of : {A : Type 0} → Result A Refusal → ℕ
fault_of (Ok v) = 0
fault_of (Err e) = number_of e
