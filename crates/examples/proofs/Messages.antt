-- Messages that meet what the theorems on them suppose, and what their claims refuse: fields that are none, fields that differ in more than bits of no
-- meaning; the order of refusals; a message that stops with 7 in a second pool of one
-- chunk; the writer at the size of its buffer and one byte below it.
use mathlib.Core.Path.{◌≡◌, refl, ◌∙◌, ap}
use mathlib.Core.Bool.{true, false, true≢false}
use mathlib.Core.List.{List, [], ◌∷◌}
use Prim.Native.Nat.{ℕ}
use native.Mathlib.Nat.{not-suc-le-zero}
use native.Mathlib.Omega.{arith}
use lib.ListN.{replicate}
use Rattle.bits.specs.Search.{first_from, first_of}
use Rattle.bits.specs.Slot.{cut}
use Rattle.bits.specs.Tab.{tabulate}
use Rattle.routes.specs.Input.{proper_prefix, hop_fine, route_fault, in_order, fault_at, input_said}
use Rattle.routes.specs.ListA.{list_a}
use Rattle.routes.specs.Record.{record_at, routes_of}
use Rattle.routes.specs.Said.{Said, accepted, refused, refused_at}
use Rattle.fields.specs.Field.{Net, Field, Alike, broken_in, nets_in, broken, entries, field_of}
use Rattle.fields.specs.Message.{BothFields, HopOk}
use Rattle.fields.specs.Written.{write_said}
use Rattle.fields.proofs.Fields.{field_told, told-field, entries-cut}
use Rattle.sail.specs.Sound.{Sound}
use Rattle.sail_theory.specs.Calls.{Out, route, announced}
use Rattle.sail_theory.specs.CallRuns.{after, done}
use Rattle.sail_theory.proofs.runs.AfterRun.{run_sound}
use Rattle.update_theory.specs.Cases.{ForRoom, Dealable, StopsAt, Update}
use Rattle.update_theory.specs.Deal.{Entry, comes, all_entries, deal_by, dealt_said, stop_of}
use Rattle.update_theory.specs.Update.{kept, turn, updated}
use Rattle.update_theory.proofs.Cases.{update-only, dealable-on}
use Rattle.update_theory.proofs.Deals.{deal-stop}
use Rattle.examples.specs.Lines.{ip}
use Rattle.examples.specs.Starred.{table, arrays, entered, answer, starred}
use Rattle.examples.proofs.Starred.{sized}
use Rattle.examples.proofs.Witness.{line, t, l}

-- Fields: list A's; a length over 32 and an entry that ends early are none.
pub is_field : Field (0 ∷ 8 ∷ 10 ∷ []) (entries (0 ∷ 8 ∷ 10 ∷ []))
unfolding broken_in
is_field = told-field (0 ∷ 8 ∷ 10 ∷ []) refl

pub over-no-field : (ns : List Net) → Field (33 ∷ 1 ∷ 2 ∷ 3 ∷ 4 ∷ 5 ∷ []) ns → ⊥
unfolding broken_in
over-no-field ns f = true≢false (field_told f).0

pub cut-no-field : (ns : List Net) → Field (24 ∷ 10 ∷ 1 ∷ []) ns → ⊥
unfolding broken_in
cut-no-field ns f = true≢false (field_told f).0

-- 10.1.3.0/23 and 10.1.2.0/23 are one prefix, 10.1.3.0/24 and 10.1.2.0/24 are two
pub alike : Alike (23 ∷ 10 ∷ 1 ∷ 3 ∷ []) (23 ∷ 10 ∷ 1 ∷ 2 ∷ [])
alike = Alike.more 23 (10 ∷ 1 ∷ 3 ∷ []) (10 ∷ 1 ∷ 2 ∷ []) [] [] (omega arith) refl refl refl Alike.none

pub unlike : Alike (24 ∷ 10 ∷ 1 ∷ 3 ∷ []) (24 ∷ 10 ∷ 1 ∷ 2 ∷ []) → ⊥
unfolding nets_in cut
unlike a = let same : ◌≡◌ {A = ℕ} 167838464 167838208 = ap first-addr (entries-cut a).1 in omega arith
  where
    first-addr : List Net → ℕ
    first-addr [] = 0
    first-addr (n ∷ ns) = n.addr

-- The order of refusals on a sound table: a broken field before the hop, and either after soundness.
sound-entered : Sound (t entered) (l entered)
sound-entered = run_sound table arrays sized entered

no_hop : HopOk 0 → ⊥
no_hop h = omega (arith, h.one)

high-hop : HopOk 32768 → ⊥
high-hop h = omega (arith, h.most)

no_fields : BothFields [] (24 ∷ 10 ∷ 1 ∷ []) → ⊥
no_fields f = cut-no-field f.come.0 f.come.1

both-empty : BothFields [] []
both-empty = record { gone = ([], Field.none); come = ([], Field.none) }

pub field-before-hop : (updated (t entered) (l entered) [] (24 ∷ 10 ∷ 1 ∷ []) 0).said ≡ refused 17
field-before-hop = update-only (t entered) (l entered) [] (24 ∷ 10 ∷ 1 ∷ []) 0 _ (Update.no_field sound-entered no_fields)

-- "one hop given for the message": it is judged even if nothing is announced
pub hop-judged : ((updated (t entered) (l entered) [] [] 0).said ≡ refused 4) × ((updated (t entered) (l entered) [] [] 32768).said ≡ refused 4)
hop-judged = (
  update-only (t entered) (l entered) [] [] 0 _ (Update.no_hop sound-entered both-empty no_hop),
  update-only (t entered) (l entered) [] [] 32768 _ (Update.no_hop sound-entered both-empty high-hop),
)

pub hop-passes : (hop : ℕ) → HopOk hop → (updated (t entered) (l entered) [] [] hop).said ≡ accepted (0 ∷ [])
unfolding nets_in
hop-passes hop h =
    update-only (t entered) (l entered) [] [] hop _
    (Update.done (record { sound = sound-entered; fields = both-empty; hop_ok = h }) (λ j e k. absurd (not-suc-le-zero k)))

pub hop-limits : HopOk 1 × HopOk 32767
hop-limits = (record { one = omega arith; most = omega arith }, record { one = omega arith; most = omega arith })

-- A stop: the pools have one chunk each, which 10.1.2.0/24 has; 10.2.2.0/24 stops the work with 7, and nothing was dealt with before it.
said-other : (announced (t entered) (l entered) (route (ip 10 2 2 0) 24 45 0)).said ≡ refused 7
unfolding starred answer after done
said-other = line 34

abbrev reach : List ℕ
reach = 24 ∷ 10 ∷ 2 ∷ 2 ∷ []

hop-45 : HopOk 45
hop-45 = record { one = omega arith; most = omega arith }

reach-whole : broken reach ≡ false
unfolding broken_in
reach-whole = refl

dealable : Dealable (t entered) (l entered) [] reach 45
dealable = record {
  sound = sound-entered;
  fields = record { gone = ([], Field.none); come = (entries reach, told-field reach reach-whole) };
  hop_ok = hop-45;
}

entries-reach : all_entries [] reach ≡ comes (record { addr = ip 10 2 2 0; len = 24 }) ∷ []
unfolding nets_in cut
entries-reach = refl

stop_is : (turn 45 (kept (t entered) (l entered)) (comes (record { addr = ip 10 2 2 0; len = 24 }))).stop ≡ 7
unfolding turn
stop_is = ap stop_of said-other

pub stopped : (updated (t entered) (l entered) [] reach 45).said ≡ refused_at 7 0
stopped =
    ap (λ (o : Out). o.said) (dealable-on (t entered) (l entered) [] reach 45 dealable)
    ∙ ap (λ (es : List Entry). dealt_said (deal_by (turn 45) 0 (kept (t entered) (l entered)) es)) entries-reach
    ∙ ap dealt_said (deal-stop (turn 45) 0 (kept (t entered) (l entered)) _ [] (λ z. omega (arith, stop_is, z)))
    ∙ rw stop_is

-- no message stops with a number that is none for room
pub no-other-stop : (wd re : List ℕ) (hop k : ℕ) → StopsAt (t entered) (l entered) wd re hop k 9 → ⊥
no-other-stop wd re hop k s = none s.room refl
  where
    none : {n : ℕ} → ForRoom n → n ≡ 9 → ⊥
    none ForRoom.six e = omega arith
    none ForRoom.seven e = omega arith
    none ForRoom.eight e = omega arith

-- The writer: list A's field has 15 bytes.
abbrev said : ℕ → Said
said n = write_said list_a (replicate n 0)

pub at_size : (said 14 ≡ refused 18) × (said 15 ≡ accepted (15 ∷ []))
unfolding write_said list_a input_said first_of first_from fault_at route_fault in_order record_at routes_of tabulate proper_prefix hop_fine cut field_of
at_size = (refl, refl)
