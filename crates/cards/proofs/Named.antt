-- "Bits that are not named are 0": what each exported call answers is the sum of the fields that the header names for it.
use mathlib.Core.Path.{◌≡◌, refl}
use mathlib.Core.Bool.{Bool, true, false, cond}
use mathlib.Core.List.{List}
use Prim.Native.Nat.{ℕ, ◌^◌, ◌<◌}
use native.Mathlib.Omega.{arith}
use lib.Dec.{eqb}
use lib.ListN.{length, get_or}
use Rattle.bits.specs.Tab.{tabulate}
use Rattle.routes.specs.Input.{input_said}
use Rattle.routes.specs.Answers.{route_said}
use Rattle.routes.specs.declared.Route.{Route}
use Rattle.longest.specs.Said.{longest_said}
use Rattle.runs.specs.Run.{run_said}
use Rattle.runs.specs.Tally.{tally_of}
use Rattle.sail.specs.Lent.{Lent}
use Rattle.sail.specs.Walk.{lookup_said}
use Rattle.sail.specs.Word.{pack_found}
use Rattle.sail.specs.declared.table.Table.{Table}
use Rattle.sail.proofs.Fitting.{Fault, fault-is}
use Rattle.sail_theory.specs.Calls.{made, loaded, announced, withdrawn, reported}
use Rattle.tree_image.specs.Walk.{tree_said}
use Rattle.tree_build.specs.Built.{built}
use Rattle.basic.specs.Calls.{basic_said, pack_hop, basic_many}
use Rattle.basic_build.specs.Built.{basic_built}
use Rattle.packing.specs.Pack.{pack_report, pack_run, pack_none, pack_route}
use Rattle.packing.specs.Unpack.{Cells16}
use Rattle.packing.specs.Parts.{
  refusal_parts,
  parts,
  found_parts,
  report_parts,
  built_parts,
  run_parts,
  route_parts,
  announce_parts,
  withdraw_parts,
  done_parts,
  no_parts,
}
use Rattle.packing.proofs.Parts.{
  found-parts,
  report-parts,
  built-parts,
  run-parts,
  route-parts,
  announce-parts,
  withdraw-parts,
  done-parts,
  none-parts,
}
use Rattle.packing_maps.specs.Hops.{hop_parts}
use Rattle.packing_maps.proofs.Hops.{hop-parts}
use Rattle.cards.specs.Cards.{card_of, image_card_of}
use Rattle.packing_inputs.specs.Tallies.{tally_card}
use Rattle.sail_words.specs.Lookups.{words_card, low_found, many_card}
use Rattle.cards.specs.Maps.{maps_card_of, hops_card}
use Rattle.cards.proofs.Fits.{input-fits, run_fits, route-fits, longest-fits, built-fits, tree-fits, lookup-fits, report-fits}
use Rattle.cards.proofs.Fits.{make-fits, load_fits, announce-fits, withdraw-fits}
use Rattle.cards.proofs.Hops.{maps-fits, hop_fits, many-fits}

-- Tables.
module _ (t : Table) (l : Lent) where
  pub gh-lookup-named : Cells16 l → (a : ℕ) → pack_found (lookup_said t l a) ≡ parts found_parts (pack_found (lookup_said t l a))
  gh-lookup-named cells a = found-parts 0 (omega arith) _ (lookup-fits t l cells a)

  pub gh-report-named : pack_report (reported t l) ≡ parts report_parts (pack_report (reported t l))
  gh-report-named = report-parts 0 (omega arith) _ (report-fits t l)

  pub gh-make-named : (card_of (made t l)).answer ≡ parts done_parts (card_of (made t l)).answer
  unfolding card_of
  gh-make-named = done-parts 0 (omega arith) _ _ (make-fits t l)

  pub gh-load-named : (input : List ℕ) → length input < 2 ^ 35 → (card_of (loaded t l input)).answer ≡ parts done_parts (card_of (loaded t l input)).answer
  unfolding card_of
  gh-load-named input short = done-parts (2 ^ 32) (omega arith) _ _ (load_fits t l input short)

  pub gh-announce-named : (r : Route) → (card_of (announced t l r)).answer ≡ parts announce_parts (card_of (announced t l r)).answer
  unfolding card_of
  gh-announce-named r = announce-parts 0 (omega arith) _ _ (announce-fits t l r)

  pub gh-withdraw-named : (a len : ℕ) → (card_of (withdrawn t l a len)).answer ≡ parts withdraw_parts (card_of (withdrawn t l a len)).answer
  unfolding card_of
  gh-withdraw-named a len = withdraw-parts 0 (omega arith) _ _ (withdraw-fits t l a len)

  pub gh-lookup-many-named : (ads xs : List ℕ) → (many_card t l ads xs).answer ≡ parts no_parts (many_card t l ads xs).answer
  unfolding many_card parts refusal_parts no_parts
  gh-lookup-many-named ads xs = go (fault-is t.geometry l) (eqb (length xs) (length ads))
    where
      said : ℕ → Bool → ℕ
      said n b = (cond (eqb n 0) (cond b (words_card 0 (tabulate (length ads) (λ k. low_found t l (get_or ads k 0)))) (words_card 2 xs)) (words_card n xs)).answer

      go : {n : ℕ} → Fault t.geometry l n → (b : Bool) → said n b ≡ parts no_parts (said n b)
      go (Fault.none z) true = refl
      go (Fault.none z) false = refl
      go (Fault.limits h) b = refl
      go (Fault.size v h) b = refl

-- Images.
pub gh-tree-lookup-named : (ws hs : List ℕ) (a : ℕ) → pack_found (tree_said ws hs a) ≡ parts found_parts (pack_found (tree_said ws hs a))
gh-tree-lookup-named ws hs a = found-parts 0 (omega arith) _ (tree-fits ws hs a)

module _ (s : List ℕ) (short : length s < 2 ^ 35) where
  pub gh-build-named : (ws hs : List ℕ) → (image_card_of (built s ws hs)).answer ≡ parts built_parts (image_card_of (built s ws hs)).answer
  unfolding image_card_of
  gh-build-named ws hs = built-parts (2 ^ 32) (omega arith) _ (built-fits s short ws hs)

  -- Bit maps.
  pub gh-basic-build-named : (bs cs : List ℕ) → (maps_card_of (basic_built s bs cs)).answer ≡ parts no_parts (maps_card_of (basic_built s bs cs)).answer
  unfolding maps_card_of
  gh-basic-build-named bs cs = none-parts (2 ^ 32) (omega arith) _ _ (maps-fits s short bs cs)

  pub gh-basic-lookup-named : (bs cs : List ℕ) (a : ℕ) → pack_hop (basic_said s bs cs a) ≡ parts hop_parts (pack_hop (basic_said s bs cs a))
  gh-basic-lookup-named bs cs a = hop-parts (2 ^ 32) (omega arith) _ (hop_fits s short bs cs a)

  pub gh-basic-lookup-many-named : (bs cs ads ws : List ℕ)
      → (hops_card (basic_many s bs cs ads ws)).answer ≡ parts no_parts (hops_card (basic_many s bs cs ads ws)).answer
  unfolding hops_card
  gh-basic-lookup-many-named bs cs ads ws = none-parts (2 ^ 32) (omega arith) _ _ (many-fits s short bs cs ads ws)

  -- Record inputs.
  pub gh-run-named : (a len : ℕ) → pack_run (run_said s a len) ≡ parts run_parts (pack_run (run_said s a len))
  gh-run-named a len = run-parts (2 ^ 32) (omega arith) _ (run_fits s short a len)

  pub gh-route-named : (k : ℕ) → pack_route (route_said s k) ≡ parts route_parts (pack_route (route_said s k))
  gh-route-named k = route-parts (2 ^ 32) (omega arith) _ (route-fits s short k)

  pub gh-longest-named : (a : ℕ) → pack_route (longest_said s a) ≡ parts route_parts (pack_route (longest_said s a))
  gh-longest-named a = route-parts (2 ^ 32) (omega arith) _ (longest-fits s short a)

  pub gh-tally-named : (xs : List ℕ) → (tally_card s xs).answer ≡ parts no_parts (tally_card s xs).answer
  unfolding tally_card parts refusal_parts no_parts
  gh-tally-named xs = go (eqb (length xs) 33)
    where
      said : Bool → ℕ
      said b = (cond b (words_card (pack_none (input_said s)) (tally_of s)) (words_card 2 xs)).answer

      go : (b : Bool) → said b ≡ parts no_parts (said b)
      go true = none-parts (2 ^ 32) (omega arith) _ (input_said s) (input-fits s short)
      go false = refl
