-- What the header step over a table, or over a party's part of a box, can answer, case by case and in order: its own refusals, and for a fine header the cases of the lookup of
-- its destination. It answers what is beside the case that holds (`refused-number-step`).
use Rattle.std.specs.Prelude.{List, ℕ}
use Rattle.routes.specs.Said.{Said, refused}
use Rattle.sail.specs.Lent.{Lent}
use Rattle.sail.specs.Cases.{Lookup}
use Rattle.sail.specs.declared.table.Table.{Table}
use Rattle.pair.specs.Party.{Party}
use Rattle.pair.specs.PairLent.{PairLent}
use Rattle.pair.specs.PairCases.{PairLookup}
use Rattle.pair.specs.declared.Pair.{Pair}
use Rattle.header.specs.Step.{destination}
use Rattle.header.specs.Cases.{WrongHeader, FineHeader}

pub data Stepping (t : Table) (l : Lent) (p : List ℕ) : Said → Type 0 where
  wrong : (n : ℕ) → WrongHeader p n → Stepping t l p (refused n)
  looked : (s : Said) → FineHeader p → Lookup t l (destination p) s → Stepping t l p s

pub data PairStepping (w : Party) (t : Pair) (b : PairLent) (p : List ℕ) : Said → Type 0 where
  wrong : (n : ℕ) → WrongHeader p n → PairStepping w t b p (refused n)
  looked : (s : Said) → FineHeader p → PairLookup w t b (destination p) s → PairStepping w t b p s
