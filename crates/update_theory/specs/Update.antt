-- A message dealt to a table: what it says, and what is then left.
use Rattle.std.specs.Prelude.{cond, List, [], ◌∷◌, ℕ, eqb}
use Rattle.routes.specs.Said.{refused}
use Rattle.sail.specs.Lent.{Lent}
use Rattle.sail.specs.Sizes.{sizes_fault}
use Rattle.sail.specs.declared.table.Table.{Table}
use Rattle.sail_theory.specs.Calls.{Out, out, route, announced, withdrawn}
use Rattle.sail_theory.specs.CallRuns.{Call, announce, withdraw, after}
use Rattle.sail_theory.specs.SoundTest.{sound?}
use Rattle.update_theory.specs.Deal.{Entry, goes, comes, all_entries, Turn, Dealt, deal_by, update_fault, stop_of, dealt_said}

-- what a message is dealt to
pub record Kept : Type 0 where
  pub table : Table
  pub lent : Lent

abbrev pub kept : Table → Lent → Kept
kept t l = record { table = t; lent = l }

abbrev pub kept_of : Out → Kept
kept_of o = kept o.table o.lent

-- "a withdrawal of an absent route is passed over": a refused one leaves all as it was. "Announced routes carry mark 0"; one that is refused stops
unfoldable pub turn : ℕ → Kept → Entry → Turn Kept
turn hop s (goes n) = record { stop = 0; state = kept_of (withdrawn s.table s.lent n.addr n.len) }
turn hop s (comes n) = record {
  stop = stop_of (announced s.table s.lent (route n.addr n.len hop 0)).said;
  state = kept_of (announced s.table s.lent (route n.addr n.len hop 0));
}

-- the number that refuses a message to this table as a whole
abbrev pub fault_of : Table → Lent → List ℕ → List ℕ → ℕ → ℕ
fault_of t l withdrawn reach hop = update_fault (sizes_fault t.geometry l) (sound? t l) withdrawn reach hop

-- what all entries leave, also where one of them stopped the work: "the one exception to demand 1"
abbrev pub dealt_out : Dealt Kept → Out
dealt_out d = out (dealt_said d) d.state.table d.state.lent

unfoldable pub updated : Table → Lent → List ℕ → List ℕ → ℕ → Out
updated t l withdrawn reach hop =
    cond (eqb (fault_of t l withdrawn reach hop) 0)
    (dealt_out (deal_by (turn hop) 0 (kept t l) (all_entries withdrawn reach)))
    (out (refused (fault_of t l withdrawn reach hop)) t l)

-- The calls that entries are: a message is a run of them. The last call stands first, as in `after`.
abbrev pub call_of : ℕ → Entry → Call
call_of hop (goes n) = withdraw n.addr n.len
call_of hop (comes n) = announce (route n.addr n.len hop 0)

unfoldable pub run_on : ℕ → List Entry → List Call → List Call
run_on hop [] cs = cs
run_on hop (e ∷ es) cs = run_on hop es (call_of hop e ∷ cs)

-- what a run left
abbrev pub kept_after : Table → Lent → List Call → Kept
kept_after t l cs = kept_of (after t l cs)
