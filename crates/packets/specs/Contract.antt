-- The statements of the header step over a table and over a party's part of a box, as predicates on what was given, what is answered and the packet at
-- exit (q). Each is its call's `ensures`, and that it leaves one answer is shown of it in proofs/OneAnswer.antt.
use Rattle.std.specs.Prelude.{List, ◌≡◌, ℕ}
use Rattle.routes.specs.Said.{Said}
use Rattle.sail.specs.Lent.{Lent}
use Rattle.sail.specs.Walk.{lookup_said}
use Rattle.sail.specs.declared.table.Table.{Table}
use Rattle.pair.specs.Party.{Party}
use Rattle.pair.specs.PairLent.{PairLent}
use Rattle.pair.specs.PairCalls.{pair_lookup_said}
use Rattle.pair.specs.declared.Pair.{Pair}
use Rattle.header.specs.Step.{stepped, step_card, step_card_of}

-- by any lookup
abbrev pub StepsBy : (ℕ → Said) → List ℕ → ℕ → List ℕ → Type 0
StepsBy look p r q = step_card r q ≡ step_card_of (stepped look p)

abbrev pub MeetsStep : Table → Lent → List ℕ → ℕ → List ℕ → Type 0
MeetsStep t l p r q = StepsBy (lookup_said t l) p r q

abbrev pub MeetsPairStep : Party → Pair → PairLent → List ℕ → ℕ → List ℕ → Type 0
MeetsPairStep w t b p r q = StepsBy (pair_lookup_said w t b) p r q
