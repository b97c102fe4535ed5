use Prim.Native.Nat.{◌-◌}
use native.Mathlib.Omega.{arith}
use borrow.Author.Rules.{rules}
use Rattle.chain.proofs.Chains.{all_left, found, none_left, climb-less, climb-on}
use Rattle.chain.proofs.cover.last_cover.Goals as goal

pub loop-m-init : goal.loop-m-init
loop-m-init c = search all_left

pub covering-requires : goal.covering-requires
covering-requires c =
    let q = c.requires in
    (search rules, (q.words.fine (c.loop-m.m - 1) (omega arith)).prefix.len_ok)

pub returns-then-covering : goal.returns-then-covering
returns-then-covering c = search found

pub loop-m-smaller : goal.loop-m-smaller
loop-m-smaller c = search climb-less

pub loop-m-preserved : goal.loop-m-preserved
loop-m-preserved c = search climb-on

pub returns : goal.returns
returns c = search none_left
