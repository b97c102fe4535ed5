-- `sail_owners::owners::own_chunk`: the last chunk has the owner already, or the lowest free chunk gets it.
use mathlib.Core.Path.{sym, ◌∙◌}
use mathlib.Core.Bool.{true≢false}
use Rattle.sail_owners.proofs.Packs.{room, hung-had, hung-new}
use Rattle.sail_owners.proofs.owners.own_chunk.Goals as goal

pub last_is-requires : goal.last_is-requires
last_is-requires c = c.requires.past.few

pub returns-then-last_is : goal.returns-then-last_is
returns-then-last_is c = hung-had _ _ _ c.requires (c.last_is.ensures.0 c.if-last_is.true)

pub bounds-own-c : goal.bounds-own-c
bounds-own-c c =
    room _ _ _ c.requires (λ e. true≢false (sym (c.last_is.ensures.1 e) ∙ c.if-last_is.false)) _ c.next_free-c.ensures.0

pub returns : goal.returns
returns c =
    hung-new _ _ _ c.requires (λ e. true≢false (sym (c.last_is.ensures.1 e) ∙ c.if-last_is.false)) _ c.next_free-c.ensures.0
