-- What the exported calls on route fields answer and leave.
use Rattle.fields.specs.Written.{FieldOut}
use Rattle.sail_theory.specs.Calls.{Out}
use Rattle.packing_fields.specs.Answers.{pack_written, pack_update}
use Rattle.sail_words.specs.Lookups.{WordsCard, words_card}
use Rattle.cards.specs.Cards.{Card, card}

-- the writer: its answer, and the buffer
unfoldable pub written_card_of : FieldOut → WordsCard
written_card_of o = words_card (pack_written o.said) o.out

-- a message: its answer with the routes that then stand, and all that is lent to the table
unfoldable pub update_card_of : Out → Card
update_card_of o = card (pack_update o.table.count o.said) o.lent
