-- Bit maps that meet what the theorems on them suppose: those of list A, beside its table; maps that are damaged; and outcomes that meet the
-- statements. So none of the theorems speaks of nothing.
use mathlib.Core.Path.{◌≡◌, refl, sym, ◌∙◌, ap}
use mathlib.Core.Bool.{true, false, not}
use mathlib.Core.List.Memᴰ
use mathlib.Core.List.{List, [], ◌∷◌}
use Prim.Native.Nat.{ℕ, zero, suc, ◌^◌, ◌≤◌, ◌<◌}
use native.Mathlib.Omega.{arith}
use lib.ListN.{replicate, length-replicate}
use borrow.Author.Tests.{not-true}
use Rattle.bits.specs.Tab.{tabulate, every}
use Rattle.bits.specs.Search.{first_from, first_of}
use Rattle.bits.proofs.Tabs.{every_true}
use Rattle.routes.specs.Input.{input_said}
use Rattle.routes.specs.Record.{routes_of, GoodInput}
use Rattle.routes.specs.Said.{accepted, refused, accepts}
use Rattle.routes.proofs.Meaning.{input-good}
use Rattle.sail.specs.Walk.{lookup_said}
use Rattle.routes.specs.Said.{said_plainly}
use Rattle.sail_theory.specs.CallRuns.{after}
use Rattle.basic.specs.Maps.{map_place, map_bit_for}
use Rattle.basic.specs.Calls.{basic_said, basic_many}
use Rattle.basic.specs.Contract.{MeetsBasicLookup, MeetsBasicMany}
use Rattle.basic.specs.Meaning.{Prepared, FirstSet, BasicLookup, BasicLookups}
use Rattle.std.specs.Prelude.{Some, None, Ok, Err}
use Rattle.refusals.specs.declared.Refusal.TheVariants as refusal
use Rattle.routes.specs.Said.{said_by}
use Rattle.basic.proofs.Judged.{lookup-only, many-only}
use Rattle.basic_build.specs.Built.{basic_built, BasicBuild}
use Rattle.basic_build.specs.Contract.{MeetsBasicBuild}
use Rattle.basic_build.proofs.Judged.{build-only}
use Rattle.standing.specs.Served.{uncounted}
use Rattle.demands.proofs.Basic.{table-as-maps}
use Rattle.routes.specs.ListA.{list_a}
use Rattle.examples.specs.Lines.{ip}
use Rattle.examples.specs.Starred.{table, arrays, loaded_a}
use Rattle.examples.proofs.TableA.{good_a}
use Rattle.examples.proofs.Witness.{sound_a, same-routes, found-A}

-- arrays of the right sizes
abbrev no_bits : List ℕ
no_bits = replicate 16384 0

abbrev no_cells : List ℕ
no_cells = replicate 131071 0

-- list A's maps are built
good_input_a : GoodInput list_a 5
good_input_a = let g = input-good list_a 5 good_a in record { records = g.1; whole = g.0 }

prepared-A : Prepared list_a no_bits no_cells
unfolding list_a
prepared-A = record { input = good_input_a; sizes = record { bytes = length-replicate {A = ℕ} 16384 0; hops = length-replicate {A = ℕ} 131071 0 } }

pub builds-A : (basic_built list_a no_bits no_cells).said ≡ accepted []
builds-A = build-only list_a no_bits no_cells (accepted []) (BasicBuild.done prepared-A)

-- and say at every address what its table says
pub same-maps : (a : ℕ) → a < 2 ^ 32 → uncounted (lookup_said (after table arrays loaded_a).table (after table arrays loaded_a).lent a)
    ≡ basic_said list_a (basic_built list_a no_bits no_cells).bits (basic_built list_a no_bits no_cells).cells a
same-maps a h = table-as-maps list_a no_bits no_cells (ap accepts builds-A) a h (after table arrays loaded_a).table
    (after table arrays loaded_a).lent sound_a same-routes

pub maps-57 : basic_said list_a (basic_built list_a no_bits no_cells).bits (basic_built list_a no_bits no_cells).cells (ip 10 1 2 200) ≡ accepted (57 ∷ [])
unfolding said_plainly
maps-57 = sym (same-maps (ip 10 1 2 200) (omega arith)) ∙ ap uncounted (sym found-A)

-- Damaged: the bit of level 0 is set, and its cell holds no hop.
abbrev one_bit : List ℕ
one_bit = 1 ∷ replicate 16383 0

no-input : GoodInput [] 0
unfolding input_said first_of first_from
no-input = let g = input-good [] 0 refl in record { records = g.1; whole = g.0 }

prepared-none : Prepared [] one_bit no_cells
prepared-none = record { input = no-input; sizes = record { bytes = ap suc (length-replicate {A = ℕ} 16383 0); hops = length-replicate {A = ℕ} 131071 0 } }

clear_above : every (λ k. not (map_bit_for one_bit 0 (suc k))) 16 ≡ true
unfolding every map_place
clear_above = refl

level-0 : FirstSet one_bit 0 0
unfolding map_place
level-0 = record { short = omega arith; set = refl; none_longer = λ k l u. above k l u }
  where
    above : (k : ℕ) → 0 < k → k ≤ 16 → map_bit_for one_bit 0 k ≡ false
    above zero l u = absurd (omega arith)
    above (suc k) l u = not-true _ (every_true (λ j. not (map_bit_for one_bit 0 (suc j))) 16 clear_above k (omega arith))

pub refused-maps : basic_said [] one_bit no_cells 0 ≡ refused 13
unfolding map_place routes_of tabulate
refused-maps = lookup-only [] one_bit no_cells 0 (refused 13)
    (BasicLookup.broken prepared-none (λ r m l. absurd (Memᴰ.not-nil m)) 0 level-0 (λ l u. omega arith))

-- One answer: outcomes that meet the statements.
pub maps-A : MeetsBasicBuild list_a no_bits no_cells (Ok tt) (basic_built list_a no_bits no_cells).bits (basic_built list_a no_bits no_cells).cells
unfolding said_by
maps-A i = record { said = sym builds-A i; bits = (basic_built list_a no_bits no_cells).bits; cells = (basic_built list_a no_bits no_cells).cells }

pub found-in-maps : MeetsBasicLookup list_a (basic_built list_a no_bits no_cells).bits (basic_built list_a no_bits no_cells).cells (ip 10 1 2 200) (Ok (Some 57))
unfolding said_by
found-in-maps = sym maps-57

pub broken-maps : MeetsBasicLookup [] one_bit no_cells 0 (Err (record { why = refusal.Broken; at = None }))
unfolding said_by
broken-maps = sym refused-maps

many-none : (basic_many [] one_bit no_cells [] []).said ≡ accepted []
many-none = many-only [] one_bit no_cells [] [] (accepted []) (BasicLookups.done prepared-none refl)

pub many-in-maps : MeetsBasicMany [] one_bit no_cells [] [] (Ok tt) (basic_many [] one_bit no_cells [] []).words
unfolding said_by
many-in-maps i = record { said = sym many-none i; words = (basic_many [] one_bit no_cells [] []).words }
