-- `repair_levels::count_from`. Each level is counted by its leaves and by the chunks that hang from it; the third has no chunks.
use native.Mathlib.Omega.{arith}
use borrow.Author.Rules.{rules}
use Rattle.repair_levels.proofs.Levels.{first-asks, first-names, second-asks, second-names, third-asks, first_fits, second_fits, levels-differ}
use Rattle.repair_levels.proofs.count_from.Goals as goal

pub off_first-leaves1-requires : goal.off_first-leaves1-requires
off_first-leaves1-requires c = first-asks _ _ _ _ _ c.requires

pub off_names-names1-requires : goal.off_names-names1-requires
off_names-names1-requires c = first-names _ _ _ _ _ c.requires

pub off_pool-leaves2-requires : goal.off_pool-leaves2-requires
off_pool-leaves2-requires c = second-asks _ _ _ _ _ c.requires _ (search rules)

pub off_names-names2-requires : goal.off_names-names2-requires
off_names-names2-requires c = second-names _ _ _ _ _ c.requires

pub off_pool-leaves3-requires : goal.off_pool-leaves3-requires
off_pool-leaves3-requires c = third-asks _ _ _ _ _ c.requires _ (search rules)

pub overflow_add-result : goal.overflow_add-result
overflow_add-result c =
    omega (
      arith,
      first_fits _ _ _ _ _ c.requires _ _ _ _ _ c.off_first-leaves1.ensures c.off_names-names1.ensures c.off_pool-leaves2.ensures c.off_names-names2.ensures
          c.off_pool-leaves3.ensures,
    )

pub overflow_add-result-2 : goal.overflow_add-result-2
overflow_add-result-2 c =
    omega (
      arith,
      second_fits _ _ _ _ _ c.requires _ _ _ _ _ c.off_first-leaves1.ensures c.off_names-names1.ensures c.off_pool-leaves2.ensures c.off_names-names2.ensures
          c.off_pool-leaves3.ensures,
    )

pub returns : goal.returns
returns c =
    levels-differ _ _ _ _ _ c.requires _ _ _ _ _ c.off_first-leaves1.ensures c.off_names-names1.ensures c.off_pool-leaves2.ensures c.off_names-names2.ensures
    c.off_pool-leaves3.ensures
