-- Every limit of documents 01 and 02 holds, on both sides (`Edges`).
use Rattle.examples.specs.Edges.{Edges}
use Rattle.examples.proofs.EdgesSizes.{sizes-hold}
use Rattle.examples.proofs.EdgesInputs.{inputs-hold}
use Rattle.examples.proofs.EdgesLookups.{lookups-hold}
use Rattle.examples.proofs.EdgesChanges.{blank-hold, runs-hold}
use Rattle.examples.proofs.EdgesImages.{images-hold}
use Rattle.examples.proofs.EdgesTreeChanges.{tree-changes-hold}
use Rattle.examples.proofs.EdgesRepairs.{repairs-hold}
use Rattle.examples.proofs.EdgesHeaders.{headers-hold}
use Rattle.examples.proofs.EdgesHopRecords.{hop-records-hold}

pub edges-hold : Edges
edges-hold = record {
  sizes_of = sizes-hold;
  inputs_of = inputs-hold;
  lookups_of = lookups-hold;
  blank_of = blank-hold;
  runs_of = runs-hold;
  images_of = images-hold;
  tree_changes_of = tree-changes-hold;
  repairs_of = repairs-hold;
  headers_of = headers-hold;
  hop_records_of = hop-records-hold;
}
