-- The way down tells whether the prefix stands; then it is replaced, or put in new.
use mathlib.Core.Path.{refl}
use native.Mathlib.Omega.{arith}
use Rattle.tree_put.proofs.PutReturns.{ask-hops, ask-way, is-standing, is-new, told-replaced}
use Rattle.tree_put.proofs.put.Goals as goal

pub hops_in-k-requires : goal.hops_in-k-requires
hops_in-k-requires c = ask-hops c.requires.0

pub seek-requires : goal.seek-requires
seek-requires c = ask-way c.requires.0 c.requires.1.prefix.len_ok

pub replace-requires : goal.replace-requires
replace-requires c =
    (is-standing c.requires.0 c.hops_in-k.ensures c.requires.1.prefix c.in-Ok.ensures.stands, c.requires.1.hop_one, c.requires.1.hop_ok)

pub overflow_cast-result : goal.overflow_cast-result
overflow_cast-result c =
    let s = is-standing c.requires.0 c.hops_in-k.ensures c.requires.1.prefix c.in-Ok.ensures.stands in
    record { fits = omega (arith, s.found.few_nodes) }

pub overflow_cast-result-in-Ok : goal.overflow_cast-result-in-Ok
overflow_cast-result-in-Ok c =
    let s = is-standing c.requires.0 c.hops_in-k.ensures c.requires.1.prefix c.in-Ok.ensures.stands in
    record { fits = omega (arith, s.found.few_hops) }

pub returns-in-Ok : goal.returns-in-Ok
returns-in-Ok c =
    told-replaced (is-standing c.requires.0 c.hops_in-k.ensures c.requires.1.prefix c.in-Ok.ensures.stands) _ c.replace.ensures _ _ refl refl

pub put_new-requires : goal.put_new-requires
put_new-requires c = is-new c.requires.0 c.hops_in-k.ensures c.requires.1.prefix c.in-Err.ensures.lacks c.requires.1
