-- `lists::edit::remove_at`. Record k is taken out of the list's n records: those after it stand one place nearer, and the last becomes zero bytes.
use Rattle.lists.proofs.EditBytes.{removed-at}
use Rattle.lists.proofs.edit.remove_at.Goals as goal

pub returns : goal.returns
returns c =
    rw (c.write_record.ensures, c.down.ensures) (removed-at _ _ _ (λ i. (c.slice_known-1.given i).fits) c.requires)
