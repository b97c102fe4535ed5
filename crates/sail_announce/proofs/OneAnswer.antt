-- Two outcomes that the statement of announce allows are the same: its answer, the state, and all that is lent.
use mathlib.Core.Path.{◌≡◌}
use Prim.Native.Nat.{ℕ}
use Rattle.sail.specs.Lent.{Lent}
use Rattle.sail.specs.declared.table.Table.{Table}
use Rattle.sail_theory.proofs.calls.OneEnd.{one_end}
use Rattle.sail_announce.specs.Answers.{means_announce}
use Rattle.sail_announce.specs.Contract.{MeetsAnnounce}
use Rattle.sail_announce.specs.declared.answers.Announced.{Announced}
use Rattle.sail_announce.proofs.Injective.{announce-injective}

pub one-answer-announce : (t : Table) (l : Lent) (addr len hop mark : ℕ) (x y : Announced) (u v : Lent) → MeetsAnnounce t l addr len hop mark x u
    → MeetsAnnounce t l addr len hop mark y v → (x ≡ y) × (u ≡ v)
one-answer-announce t l addr len hop mark x y u v =
    one_end means_announce announce-injective (λ a s. record { answer = a; table = s }) x.answer y.answer x.table y.table u v _
