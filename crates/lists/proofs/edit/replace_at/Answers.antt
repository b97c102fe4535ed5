-- `lists::edit::replace_at`. `r` takes the place of record k, which has its prefix.
use Rattle.lists.proofs.EditBytes.{replaced-at}
use Rattle.lists.proofs.edit.replace_at.Goals as goal

pub returns : goal.returns
returns c = rw c.write_record.ensures (replaced-at _ _ _ _ (λ i. (c.slice_known-1.given i).fits) c.requires)
