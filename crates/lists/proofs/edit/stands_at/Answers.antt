-- `lists::edit::stands_at`. Whether a route of the key p stands in the list's n records: record k, the key's place, then has it.
use Rattle.lists.proofs.EditPlaces.{at_place, past-place}
use Rattle.lists.proofs.edit.stands_at.Goals as goal

pub returns-then-k-n : goal.returns-then-k-n
returns-then-k-n c = search at_place

pub returns : goal.returns
returns c = search past-place
