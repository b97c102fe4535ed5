-- `chain::place::place_between`. Among the words between, the place is where the smaller keys end.
use borrow.Author.Rules.{rules}
use Rattle.std.proofs.Common.{ltb}
use Rattle.std.proofs.lemmas.List.Sorted.{IsPartitionPoint-from_clause, IsPartitionedBy-ltb}
use Rattle.chain.specs.Words.{key_in}
use Rattle.chain.proofs.Places.{words-rise, halved}
use Rattle.chain.proofs.place.place_between.Goals as goal

pub returns : goal.returns
returns c =
    let q = c.requires in
    let p = c.partition_point.ensures in
    let key = c.args.key in
    let rise = IsPartitionedBy-ltb key_in _ key (words-rise q) in
    halved q _ p.bound (IsPartitionPoint-from_clause (λ w. ltb (key_in w) key) _ _ p.partitioned rise (λ a r f k. search rules))
