-- What an answer says of how much is in use fixes it.
use Rattle.std.specs.Prelude.{◌≡◌, ℕ, List, refl, Result}
use Rattle.refusals.specs.declared.Refusal.{Refusal}
use Rattle.refusals.specs.declared.Refused.{Refused}
use Rattle.routes.specs.Said.{said_by, said_plainly, value}
use Rattle.routes.proofs.Saids.{said-injective, plainly-injective}
use Rattle.tree_image.specs.Reads.{used_values}
use Rattle.tree_image.specs.declared.Used.{Used}

abbrev read_used : List ℕ → Used
read_used vs = record { nodes = value 0 vs; hops = value 1 vs }

pub used-injective : (x y : Result Used Refused) → said_by used_values x ≡ said_by used_values y → x ≡ y
used-injective = said-injective used_values read_used (λ u. refl)

pub used-plainly-injective : (x y : Result Used Refusal) → said_plainly used_values x ≡ said_plainly used_values y → x ≡ y
used-plainly-injective = plainly-injective used_values read_used (λ u. refl)
