-- `lists::edit::put_at`. Where the prefix stands, record k has it; where it does not, k is where it belongs.
use Rattle.lists.proofs.EditPlaces.{replace-fits, insert-fits}
use Rattle.lists.proofs.edit.put_at.Goals as goal

pub replace_at-requires : goal.replace_at-requires
replace_at-requires c = search replace-fits

pub insert_at-requires : goal.insert_at-requires
insert_at-requires c = search insert-fits
