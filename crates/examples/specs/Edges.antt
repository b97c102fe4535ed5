-- The limits of documents 01 and 02, each on both sides: every line of the topics holds.
use Rattle.examples.specs.Lines.{Hold}
use Rattle.examples.specs.Blank as blank
use Rattle.examples.specs.EdgesSizes as sizes
use Rattle.examples.specs.EdgesInputs as inputs
use Rattle.examples.specs.EdgesLookups as lookups
use Rattle.examples.specs.EdgesChanges as changes
use Rattle.examples.specs.EdgesImages as images
use Rattle.examples.specs.EdgesTreeChanges as tree_changes
use Rattle.examples.specs.EdgesRepairs as repairs
use Rattle.examples.specs.EdgesHeaders as headers
use Rattle.examples.specs.EdgesHopRecords as hop_records

pub record Edges : Type 0 where
  pub sizes_of : Hold blank.answer sizes.edges
  pub inputs_of : Hold inputs.answer inputs.edges
  pub lookups_of : Hold lookups.answer lookups.edges
  pub blank_of : Hold blank.answer changes.blank_edges
  pub runs_of : Hold changes.answer changes.run_edges
  pub images_of : Hold images.answer images.edges
  pub tree_changes_of : Hold tree_changes.answer tree_changes.edges
  pub repairs_of : Hold repairs.answer repairs.edges
  pub headers_of : Hold headers.answer headers.edges
  pub hop_records_of : Hold hop_records.answer hop_records.edges
