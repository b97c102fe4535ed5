-- `pair_owners::seen`. What a party sees in an owner.
use Rattle.pair_owners.proofs.SeenOwners.{second_none, second-own, first-own, first-none}
use Rattle.pair_owners.proofs.seen.Goals as goal

pub returns-then-o-lt2147483648 : goal.returns-then-o-lt2147483648
returns-then-o-lt2147483648 c = search second_none

pub returns-then-guest : goal.returns-then-guest
returns-then-guest c = search second-own

pub returns-then-o-lt2147483648-2 : goal.returns-then-o-lt2147483648-2
returns-then-o-lt2147483648-2 c = search first-own

pub returns : goal.returns
returns c = search first-none
