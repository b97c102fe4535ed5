-- Each step that fails is one of the parts of `well_formed`, and where none fails all of them hold.
use mathlib.Core.Path.{sym, ◌∙◌}
use Rattle.tree_formed.proofs.Steps.{check-root-in, check-counted, check-none, check-root, check-room, check-few, check-hops, check-words-after, check-hops-after, check-passes}
use Rattle.tree_check.proofs.check.Goals as goal

pub returns-in_err-n : goal.returns-in_err-n
returns-in_err-n c = c.from_residual.ensures ∙ check-none _ _ c.in_err-n.ensures

pub root_ok-requires : goal.root_ok-requires
root_ok-requires c = check-root-in _ _ c.in_ok-n.ensures

pub returns-then-not-root_ok : goal.returns-then-not-root_ok
returns-then-not-root_ok c = check-root _ _ _ c.in_ok-n.ensures _ c.root_ok.ensures c.if-not-root_ok.true

pub hops_in-k-requires : goal.hops_in-k-requires
hops_in-k-requires c = check-counted _ _ c.in_ok-n.ensures

pub returns-then-k-hops : goal.returns-then-k-hops
returns-then-k-hops c = check-room _ _ _ c.in_ok-n.ensures _ c.hops_in-k.ensures c.if-k-hops.true

pub returns-then-k-gt4096 : goal.returns-then-k-gt4096
returns-then-k-gt4096 c = check-few _ _ _ c.in_ok-n.ensures _ c.hops_in-k.ensures c.if-k-gt4096.true

pub returns-then-not-hops_fine : goal.returns-then-not-hops_fine
returns-then-not-hops_fine c =
    check-hops _ _ _ c.in_ok-n.ensures _ c.hops_in-k.ensures _ c.hops_fine.ensures c.if-not-hops_fine.true

pub returns-then-not-zeros : goal.returns-then-not-zeros
returns-then-not-zeros c =
    check-words-after _ _ _ c.in_ok-n.ensures _ c.hops_in-k.ensures _ c.zeros.ensures c.if-not-zeros.true

pub returns-then-not-zeros-2 : goal.returns-then-not-zeros-2
returns-then-not-zeros-2 c =
    check-hops-after _ _ _ c.in_ok-n.ensures _ c.hops_in-k.ensures _ c.zeros-2.ensures c.if-not-zeros-2.true

pub returns : goal.returns
returns c =
    check-passes _ _ _ c.in_ok-n.ensures _ c.hops_in-k.ensures (sym c.root_ok.ensures ∙ c.if-not-root_ok.false) c.if-k-hops.false
    c.if-k-gt4096.false (sym c.hops_fine.ensures ∙ c.if-not-hops_fine.false) (c.zeros.ensures.0 c.if-not-zeros.false)
    (c.zeros-2.ensures.0 c.if-not-zeros-2.false)
