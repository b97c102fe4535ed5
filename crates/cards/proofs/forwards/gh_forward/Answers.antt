-- `cards::forwards::gh_forward`: what the lookup says is in its word, and a word that is counted is what it says, forwarded.
use Rattle.hop_records.proofs.Meanings.{count-forwards}
use Rattle.cards.proofs.forwards.gh_forward.Goals as goal

pub returns : goal.returns
returns c =
    count-forwards c.args.records.now c.look_quick-found.result _ c.look_quick-found.ensures c.args.octets c.gh_count.result c.gh_count.new.records
    c.gh_count.ensures
