-- `chain::cover::longest`. The hop of the longest route of at most p bits that covers an address.
use Rattle.bits.proofs.Slots.{slot_lt}
use borrow.Author.Rules.{rules}
use Rattle.chain.proofs.cover.longest.Goals as goal

pub longest_at-requires : goal.longest_at-requires
longest_at-requires c =
    let q = c.requires in record { chain_ready = q.chain_ready; in_level = record { level = q.p_bound; inside = slot_lt _ _ q.p_bound (search rules) } }
