-- The limits of geometries and sizes are those of document 01.
use mathlib.Core.Path.{◌≡◌, refl}
use mathlib.Core.Bool.{true}
use Rattle.bits.specs.Slot.{cut}
use Rattle.bits.specs.Search.{first_from, first_of}
use Rattle.routes.specs.Input.{proper_prefix, hop_fine, route_fault, input_said}
use Rattle.sail.specs.Geometry.{valid_geo}
use Rattle.sail.specs.Sizes.{sizes_fit}
use Rattle.sail_theory.specs.Calls.{announce_fault, withdraw_fault, load_fault, chunks_fault}
use Rattle.examples.specs.Lines.{Hold}
use Rattle.examples.specs.Blank.{answer}
use Rattle.examples.specs.EdgesSizes.{edges}
use Rattle.examples.proofs.Lines.{all_serve, lines-hold}
use Rattle.examples.proofs.Blank.{paper, agrees}

served : all_serve answer paper (λ q. true) (λ q e. agrees q) edges ≡ true
unfolding all_serve edges
served = refl

on-paper : Hold paper edges
unfolding Hold edges paper valid_geo sizes_fit announce_fault withdraw_fault load_fault chunks_fault route_fault proper_prefix hop_fine cut input_said first_of first_from
on-paper = refl

pub sizes-hold : Hold answer edges
sizes-hold = lines-hold answer paper (λ q. true) (λ q e. agrees q) edges served on-paper
