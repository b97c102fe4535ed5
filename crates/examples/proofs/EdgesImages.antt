-- Images at the limits: every line is computed.
use mathlib.Core.Path.{refl}
use lib.Count.{ones}
use Rattle.bits.specs.Bit.{packed_bits}
use Rattle.bits.specs.Slot.{cut}
use Rattle.bits.specs.Search.{first_from, first_of}
use Rattle.bits.specs.Tab.{tabulate, every}
use Rattle.bits.specs.Count.{count}
use Rattle.routes.specs.Record.{record_at, routes_of}
use Rattle.routes.specs.Input.{proper_prefix, hop_fine, route_fault, in_order, fault_at, input_said}
use Rattle.standing.specs.Cells.{any}
use Rattle.standing.specs.Cells as cells
use Rattle.tree_image.specs.Node.{sound, try_bit, deepest_of, better_of}
use Rattle.tree_image.specs.Parts.{picked, gather}
use Rattle.tree_image.specs.Image.{bit_hop, set_bit, word, kids, hops_of, level, up_to, words_from, words, image_by}
use Rattle.tree_image.specs.Image as of_image
use Rattle.tree_image.specs.Walk.{tree_hop_said, fetched_from, walk_from, tree_said}
use Rattle.tree_build.specs.Built.{made_of, built}
use Rattle.tree_same.specs.Order.{exts, ints}
use Rattle.tree_formed.specs.Answers.{tested}
use Rattle.tree_formed.specs.WellFormed.{nodes_used, ordered, all_from, node_ok, hops_ok, blank_from, well_formed}
use Rattle.examples.specs.Lines.{Hold}
use Rattle.examples.specs.EdgesImages.{answer, edges}

pub images-hold : Hold answer edges
unfolding Hold edges answer ones tree_said walk_from sound try_bit deepest_of better_of fetched_from tree_hop_said hop_fine built made_of input_said first_of
    first_from fault_at route_fault in_order proper_prefix record_at cut routes_of tabulate any cells.first picked gather kids level up_to count packed_bits
    bit_hop set_bit word hops_of words_from words of_image.hops image_by tested well_formed ordered nodes_used exts ints every all_from node_ok hops_ok blank_from
images-hold = refl
