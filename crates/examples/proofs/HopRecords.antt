-- Packets and records that meet what the theorems on forwarding suppose, with list A loaded; and what the statements refuse: a packet counted twice, in
-- another record, or in a record that is down, a count that stops, and another port.
use mathlib.Core.Path.{◌≡◌, refl, sym, ap, ◌∙◌}
use mathlib.Core.List.{List, [], ◌∷◌}
use Prim.Native.Nat.{ℕ, ◌+◌, ◌*◌, ◌^◌}
use native.Mathlib.Omega.{arith}
use lib.ListN.{get_or}
use Rattle.bits.specs.Tab.{tabulate}
use Rattle.routes.specs.Said.{Said, refused, hop_after}
use Rattle.standing.specs.Served.{hop_said}
use Rattle.sail.specs.Walk.{lookup_said}
use Rattle.sail.specs.Word.{packed, said_of}
use Rattle.sail.specs.Sound.{standing, cells_read}
use Rattle.hop_records.specs.Records.{no_record, has_record}
use Rattle.hop_records.specs.Forward.{port_said, forward_said, records_after, pack_forward, counted_word}
use Rattle.hop_records.specs.Runs.{Packet, records_run, packets_to, octets_to, Counting}
use Rattle.hop_records.specs.Cases.{ForwardServed}
use Rattle.hop_records.specs.Contract.{MeetsForward, MeetsCount}
use Rattle.hop_records.specs.declared.HopRecord.{HopRecord}
use Rattle.demands.proofs.HopRecords as demand
use Rattle.examples.specs.Lines.{ip}
use Rattle.examples.specs.Starred.{loaded_a, answer, starred}
use Rattle.examples.specs.EdgesHopRecords.{hop_record, holding, full}
use Rattle.examples.proofs.Witness.{line, t, l, sound_a}

-- 10.1.2.200 of list A
abbrev said : Said
said = lookup_said (t loaded_a) (l loaded_a) (ip 10 1 2 200)

says-57 : said ≡ hop_after 3 57
unfolding starred answer
says-57 = line 1

-- a packet of 1,500 octets to it: the lookup's answer with port 157, and both counts past their wrap
abbrev after57 : List HopRecord
after57 = holding 57 (hop_record 157 1 0 1204)

counted57 : records_after (holding 57 full) (hop_after 3 57) 1500 ≡ after57
unfolding records_after holding tabulate has_record
counted57 = refl

pub forward-A : MeetsForward (holding 57 full) said 1500 (768 + 57 * 65536 + 157 * 2 ^ 32) after57
unfolding packed port_said has_record holding tabulate
forward-A = (
  ap (λ (s : Said). pack_forward (forward_said (holding 57 full) s)) (sym says-57),
  sym (ap (λ (s : Said). records_after (holding 57 full) s 1500) says-57 ∙ counted57),
)

-- the same by its number, and by numbers that no lookup answers
pub count-A : MeetsCount (holding 57 full) (768 + 57 * 65536) 1500 (768 + 57 * 65536 + 157 * 2 ^ 32) after57
unfolding counted_word records_after said_of hop_said packed port_said has_record holding tabulate
count-A = (refl, refl)

pub count-refusal : MeetsCount (holding 57 full) (10 + 256 + 3 * 2 ^ 32) 1500 (10 + 256 + 3 * 2 ^ 32) (holding 57 full)
unfolding counted_word records_after said_of hop_said packed port_said has_record holding tabulate
count-refusal = (refl, refl)

pub count-high : MeetsCount (holding 57 full) (57 * 65536 + 2 ^ 32) 1500 14 (holding 57 full)
unfolding counted_word records_after said_of hop_said packed port_said has_record holding tabulate
count-high = (refl, refl)

-- on this sound table it is served: the record of hop 57 exists and is up
pub served-A : ForwardServed (standing (t loaded_a) (l loaded_a)) (holding 57 full) (ip 10 1 2 200)
    (cells_read (t loaded_a).geometry (standing (t loaded_a) (l loaded_a)) (ip 10 1 2 200)) (forward_said (holding 57 full) said)
served-A = (demand.forward-serves (holding 57 full) (t loaded_a) (l loaded_a) (ip 10 1 2 200) sound_a (omega arith) _).0 refl

-- a refusal of either kind
pub no-record-A : forward_said (holding 56 full) said ≡ refused 14
unfolding port_said has_record holding tabulate
no-record-A = ap (forward_said (holding 56 full)) says-57

pub down-A : forward_said (holding 57 (hop_record 157 2 0 0)) said ≡ refused 15
unfolding port_said has_record holding tabulate
down-A = ap (forward_said (holding 57 (hop_record 157 2 0 0))) says-57

-- a run of ten packets of 150 octets to one record and two to another, from 4,294,967,290: 4 packets, and 1,204 octets
abbrev to57 : Packet
to57 = record { found = hop_after 3 57; octets = 150 }

abbrev to44 : Packet
to44 = record { found = hop_after 3 44; octets = 40 }

abbrev run : List Packet
run = to57 ∷ to57 ∷ to57 ∷ to57 ∷ to57 ∷ to44 ∷ to57 ∷ to57 ∷ to57 ∷ to57 ∷ to57 ∷ to44 ∷ []

abbrev starting : HopRecord
starting = hop_record 157 1 4294967290 4294967000

pub counting57 : Counting (get_or (holding 57 starting) 56 no_record)
unfolding holding tabulate
counting57 = record { packets = omega arith; octets = omega arith }

pub ran57 : get_or (records_run (holding 57 starting) run) 56 no_record ≡ hop_record 157 1 4 1204
unfolding packets_to octets_to holding tabulate
ran57 = demand.packets-counted run (holding 57 starting) 56 (omega arith) (omega arith) counting57

-- What is not: another number at the end would be this one
abbrev other : ℕ → List HopRecord → Type 0
other r zs = MeetsForward (holding 57 full) said 1500 r zs

its-records : (r : ℕ) (zs : List HopRecord) → other r zs → zs ≡ after57
its-records r zs m = (demand.one-answer-forward (holding 57 full) said 1500 r _ zs after57 m forward-A).1

its-answer : (r : ℕ) (zs : List HopRecord) → other r zs → r ≡ 768 + 57 * 65536 + 157 * 2 ^ 32
its-answer r zs m = (demand.one-answer-forward (holding 57 full) said 1500 r _ zs after57 m forward-A).0

-- a record of the list at exit, by its place
at : (zs : List HopRecord) (k : ℕ) → zs ≡ after57 → get_or zs k no_record ≡ get_or after57 k no_record
at zs k e = ap (λ (ys : List HopRecord). get_or ys k no_record) e

pub counted-twice : (r : ℕ) → other r (holding 57 (hop_record 157 1 1 2704)) → ⊥
unfolding holding tabulate
counted-twice r m = omega (arith, ap (λ (x : HopRecord). x.packets) (at _ 56 (its-records r _ m)))

pub count-stops : (r : ℕ) → other r (holding 57 (hop_record 157 1 4294967295 4294967295)) → ⊥
unfolding holding tabulate
count-stops r m = omega (arith, ap (λ (x : HopRecord). x.packets) (at _ 56 (its-records r _ m)))

pub uncounted : (r : ℕ) → other r (holding 57 full) → ⊥
unfolding holding tabulate
uncounted r m = omega (arith, ap (λ (x : HopRecord). x.octets) (at _ 56 (its-records r _ m)))

pub other-record : (r n : ℕ) (zs : List HopRecord) → get_or zs 43 no_record ≡ hop_record 144 1 1 n → other r zs → ⊥
unfolding holding tabulate
other-record r n zs e m = omega (arith, ap (λ (x : HopRecord). x.packets) (sym e ∙ at zs 43 (its-records r zs m)))

pub other-port : (zs : List HopRecord) → other (768 + 57 * 65536 + 144 * 2 ^ 32) zs → ⊥
other-port zs m = omega (arith, its-answer _ zs m)

pub refused-though-up : (zs : List HopRecord) → other 15 zs → ⊥
refused-though-up zs m = omega (arith, its-answer _ zs m)

abbrev down : HopRecord
down = hop_record 157 2 0 0

left_down : records_after (holding 57 down) (hop_after 3 57) 1500 ≡ holding 57 down
unfolding records_after holding tabulate has_record
left_down = refl

pub counted-though-down : (r : ℕ) → MeetsForward (holding 57 down) said 1500 r (holding 57 (hop_record 157 2 1 1500)) → ⊥
unfolding holding tabulate
counted-though-down r m =
    let e = m.1 ∙ ap (λ (s : Said). records_after (holding 57 down) s 1500) says-57 ∙ left_down in
    omega (arith, ap (λ (zs : List HopRecord). (get_or zs 56 no_record).packets) e)
