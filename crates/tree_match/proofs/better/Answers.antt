-- No bit keeps the place found before; a bit gives the hop base and the ones below it.
use Rattle.tree_image.proofs.Walks.{better-none, better-at}
use Rattle.tree_match.proofs.better.Goals as goal

pub returns-in-None : goal.returns-in-None
returns-in-None c = search better-none

pub returns-in-Some : goal.returns-in-Some
returns-in-Some c = search better-at
