-- `sail_add::add`: the lowest free chunks are found, and the table alone is itself.
use Rattle.sail_add.proofs.AddsAlone.{add-in, add_is}
use Rattle.sail_add.proofs.add.Goals as goal

pub add_in-requires : goal.add_in-requires
add_in-requires c =
    record { to_add_in = add-in c.requires.to_add c.chunk_named-c2.ensures.0 c.chunk_named-c3.ensures.0; chained_front = c.requires.chained_front }

pub returns : goal.returns
returns c =
    (add_is c.requires.to_add c.chunk_named-c2.ensures.0 c.chunk_named-c3.ensures.0 c.add_in.ensures.0, c.add_in.ensures.1)
