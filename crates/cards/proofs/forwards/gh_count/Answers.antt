-- `cards::forwards::gh_count`: the record's place and what is answered without one are worked out from the word, and then it is sent.
use Rattle.hop_records.proofs.Meanings.{count_meets}
use Rattle.cards.proofs.forwards.gh_count.Goals as goal

pub returns : goal.returns
returns c =
    count_meets c.args.records.now c.args.found c.send.new.records c.args.octets _ _ _ c.place-k.ensures c.without_record-none.ensures c.send.ensures.0
    c.send.ensures.1
