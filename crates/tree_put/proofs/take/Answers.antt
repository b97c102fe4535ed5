-- The way down tells whether the prefix stands; then it is taken out.
use mathlib.Core.Path.{refl}
use Rattle.tree_put.proofs.PutReturns.{ask-hops, ask-way, is-standing, one-there, one_less, removed-few, told-nine, told-removed}
use Rattle.tree_put.proofs.take.Goals as goal

pub hops_in-k-requires : goal.hops_in-k-requires
hops_in-k-requires c = ask-hops c.requires.0

pub seek-requires : goal.seek-requires
seek-requires c = ask-way c.requires.0 c.requires.1.len_ok

pub returns-in-Err : goal.returns-in-Err
returns-in-Err c = told-nine c.requires.0 c.hops_in-k.ensures c.requires.1 c.in-Err.ensures.lacks

pub overflow_sub-left : goal.overflow_sub-left
overflow_sub-left c = one-there (is-standing c.requires.0 c.hops_in-k.ensures c.requires.1 c.in-Ok.ensures.stands)

pub remove-nodes-requires : goal.remove-nodes-requires
remove-nodes-requires c = one_less (is-standing c.requires.0 c.hops_in-k.ensures c.requires.1 c.in-Ok.ensures.stands)

pub overflow_cast-result : goal.overflow_cast-result
overflow_cast-result c =
    let s = is-standing c.requires.0 c.hops_in-k.ensures c.requires.1 c.in-Ok.ensures.stands in
    record { fits = (removed-few s c.remove-nodes.ensures).0 }

pub overflow_cast-result-in-Ok : goal.overflow_cast-result-in-Ok
overflow_cast-result-in-Ok c =
    let s = is-standing c.requires.0 c.hops_in-k.ensures c.requires.1 c.in-Ok.ensures.stands in
    record { fits = (removed-few s c.remove-nodes.ensures).1 }

pub returns-in-Ok : goal.returns-in-Ok
returns-in-Ok c =
    told-removed (is-standing c.requires.0 c.hops_in-k.ensures c.requires.1 c.in-Ok.ensures.stands) c.remove-nodes.ensures _ _ refl refl
