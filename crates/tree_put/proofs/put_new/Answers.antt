-- Each refusal is one of the definition's; where none is met there is room, and the routes then stand.
use mathlib.Core.Path.{refl}
use Rattle.std.proofs.lemmas.Result.{err_from_is_err_and}
use Rattle.tree_put.proofs.PutReturns.{told-six, told-lack, add-ready, add-few, told-added}
use Rattle.tree_put.proofs.put_new.Goals as goal

pub returns-then-k-ge4096 : goal.returns-then-k-ge4096
returns-then-k-ge4096 c = told-six c.requires c.if-k-ge4096.true

pub overflow_sub-more : goal.overflow_sub-more
overflow_sub-more c = c.requires.way.upto

pub returns-in_err-lack : goal.returns-in_err-lack
returns-in_err-lack c =
    let p = err_from_is_err_and c.from_residual.result c.from_residual.ensures.1 in
    rw (p.1, p.2) (told-lack c.requires c.if-k-ge4096.false _ refl _ c.in_err-lack.ensures)

pub add-nodes-requires : goal.add-nodes-requires
add-nodes-requires c = add-ready c.requires c.if-k-ge4096.false _ refl c.in_ok-lack.ensures refl

pub overflow_cast-result : goal.overflow_cast-result
overflow_cast-result c =
    record { fits = (add-few c.requires c.if-k-ge4096.false _ refl c.in_ok-lack.ensures refl c.add-nodes.ensures).0 }

pub returns : goal.returns
returns c =
    told-added c.requires c.if-k-ge4096.false _ refl c.in_ok-lack.ensures refl c.add-nodes.ensures _ _ refl refl
