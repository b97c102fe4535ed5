-- Packets and hop records at the limits say and leave what document 02 says.
use mathlib.Core.Path.{◌≡◌, refl}
use Rattle.bits.specs.Tab.{tabulate}
use Rattle.standing.specs.Served.{hop_said}
use Rattle.sail.specs.Word.{packed, said_of}
use Rattle.hop_records.specs.Records.{has_record}
use Rattle.hop_records.specs.Forward.{port_said, records_after, counted_word}
use Rattle.examples.specs.Lines.{Hold}
use Rattle.examples.specs.EdgesHopRecords.{holding, answer, edges}

pub hop-records-hold : Hold answer edges
unfolding Hold answer edges holding tabulate has_record port_said records_after counted_word said_of hop_said packed
hop-records-hold = refl
