-- `lists::edit::insert_at`. `r` becomes record k of the list's n records, and those from k on stand one place further.
use Rattle.lists.proofs.EditBytes.{inserted-at}
use Rattle.lists.proofs.edit.insert_at.Goals as goal

pub returns : goal.returns
returns c =
    rw (c.write_record.ensures, c.up.ensures) (inserted-at _ _ _ _ (λ i. (c.slice_known-1.given i).fits) c.requires)
