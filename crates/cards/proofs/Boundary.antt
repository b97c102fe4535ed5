-- For each exported call: a caller that reads the packed answer by the header's fields has exactly what the call inside says. So two calls
-- whose packed answers are equal say the same (`packed-once` of Unpacks, with two of these).
-- What is supposed is what the boundary's types give: cells of 16 bits (`Cells16`). And for the index of a refusal an input shorter than 2^35
-- bytes, which is 32 GiB: a longer one has an index of more than 32 bits.
use mathlib.Core.Path.{◌≡◌, refl, ◌∙◌, ap}
use mathlib.Core.Bool.{Bool, true, false, cond, false≢true}
use mathlib.Core.List.{List, [], ◌∷◌}
use Prim.Native.Nat.{ℕ, ◌/◌, ◌^◌, ◌≤◌, ◌<◌}
use native.Mathlib.Omega.{arith}
use lib.Dec.{eqb}
use lib.ListN.{length, get_or}
use Rattle.bits.specs.Tab.{tabulate}
use Rattle.routes.specs.Input.{input_said}
use Rattle.routes.specs.Answers.{route_said}
use Rattle.routes.specs.Said.{Said, accepted, refused, and_then, accepts}
use Rattle.routes.specs.declared.Route.{Route}
use Rattle.routes.specs.Cases.{Checked}
use Rattle.routes.proofs.Meaning.{input-checked}
use Rattle.longest.specs.Said.{longest_said}
use Rattle.runs.specs.Run.{run_said}
use Rattle.runs.specs.Tally.{tally_of}
use Rattle.sail.specs.Lent.{Lent}
use Rattle.sail.specs.Sizes.{sizes_fault}
use Rattle.sail.specs.Walk.{lookup_said}
use Rattle.sail.specs.declared.table.Table.{Table}
use Rattle.sail.proofs.Fitting.{Fault, fault-is}
use Rattle.sail_theory.specs.Calls.{or_say, made, loaded, announced, withdrawn, reported}
use Rattle.tree_image.specs.Walk.{tree_said}
use Rattle.tree_build.specs.Built.{built}
use Rattle.sail.specs.Word.{pack_found}
use Rattle.packing.specs.Pack.{pack_report, pack_run, pack_none, pack_route}
use Rattle.packing.specs.Unpack.{
  refusal_of,
  unpacked,
  no_values,
  unpack_found,
  unpack_report,
  unpack_built,
  unpack_run,
  unpack_route,
  unpack_announce,
  unpack_withdraw,
  unpack_done,
  unpack_none,
  count_of,
  Cells16,
}
use Rattle.cards.specs.Cards.{card_of, image_card_of}
use Rattle.packing_inputs.specs.Tallies.{tally_card}
use Rattle.sail_words.specs.Lookups.{words_card, low_found, many_card}
use Rattle.packing.proofs.Unpacks.{
  found-read,
  report-read,
  built-read,
  run-read,
  route-read,
  announce-read,
  withdraw-read,
  done-read,
  none_read,
  announce-count,
  withdraw-count,
  done-count,
  found-low,
}
use Rattle.cards.proofs.Fits.{
  input-fits,
  run_fits,
  route-fits,
  longest-fits,
  built-fits,
  tree-fits,
  lookup-fits,
  report-fits,
  make-few,
  make-fits,
  load-few,
  load_fits,
  announce-few,
  announce-fits,
  withdraw-few,
  withdraw-fits,
}

-- Tables.
module _ (t : Table) (l : Lent) where
  pub gh-lookup-read : Cells16 l → (a : ℕ) → unpack_found (pack_found (lookup_said t l a)) ≡ lookup_said t l a
  gh-lookup-read cells a = found-read 0 (omega arith) _ (lookup-fits t l cells a)

  -- the low 32 bits are all of it
  pub gh-lookup-many-read : Cells16 l → (a : ℕ) → unpack_found (low_found t l a) ≡ lookup_said t l a
  gh-lookup-many-read cells a =
      let h = found-low (lookup_said t l a) (lookup-fits t l cells a) in
      let e : low_found t l a ≡ pack_found (lookup_said t l a) = omega arith in
      ap unpack_found e ∙ gh-lookup-read cells a

  pub gh-report-read : unpack_report (pack_report (reported t l)) ≡ reported t l
  gh-report-read = report-read 0 (omega arith) _ (report-fits t l)

  pub gh-make-read : unpack_done (card_of (made t l)).answer ≡ (made t l).said
  unfolding card_of
  gh-make-read = done-read 0 (omega arith) _ _ (make-fits t l)

  pub gh-load-read : (input : List ℕ) → length input < 2 ^ 35 → unpack_done (card_of (loaded t l input)).answer ≡ (loaded t l input).said
  unfolding card_of
  gh-load-read input short = done-read (2 ^ 32) (omega arith) _ _ (load_fits t l input short)

  pub gh-announce-read : (r : Route) → unpack_announce (card_of (announced t l r)).answer ≡ (announced t l r).said
  unfolding card_of
  gh-announce-read r = announce-read 0 (omega arith) _ _ (announce-fits t l r)

  pub gh-withdraw-read : (a len : ℕ) → unpack_withdraw (card_of (withdrawn t l a len)).answer ≡ (withdrawn t l a len).said
  unfolding card_of
  gh-withdraw-read a len = withdraw-read 0 (omega arith) _ _ (withdraw-fits t l a len)

  -- and where a change is accepted, the count of the table that then stands, at most 4,096
  pub gh-make-count : accepts (made t l).said ≡ true → (count_of (card_of (made t l)).answer ≡ (made t l).table.count) × ((made t l).table.count ≤ 4096)
  unfolding card_of
  gh-make-count e = (done-count 0 _ _ (make-fits t l) e, make-few t l e)

  pub gh-load-count : (input : List ℕ) → length input < 2 ^ 35 → accepts (loaded t l input).said ≡ true
      → (count_of (card_of (loaded t l input)).answer ≡ (loaded t l input).table.count) × ((loaded t l input).table.count ≤ 4096)
  unfolding card_of
  gh-load-count input short e = (done-count (2 ^ 32) _ _ (load_fits t l input short) e, load-few t l input e)

  pub gh-announce-count : (r : Route) → accepts (announced t l r).said ≡ true
      → (count_of (card_of (announced t l r)).answer ≡ (announced t l r).table.count) × ((announced t l r).table.count ≤ 4096)
  unfolding card_of
  gh-announce-count r e = (announce-count 0 _ _ (announce-fits t l r) e, announce-few t l r e)

  pub gh-withdraw-count : (a len : ℕ) → accepts (withdrawn t l a len).said ≡ true
      → (count_of (card_of (withdrawn t l a len)).answer ≡ (withdrawn t l a len).table.count) × ((withdrawn t l a len).table.count ≤ 4096)
  unfolding card_of
  gh-withdraw-count a len e = (withdraw-count 0 _ _ (withdraw-fits t l a len) e, withdraw-few t l a len e)

  -- many lookups: 1, 2, or 2 for the two lengths
  pub gh-lookup-many-answer : (ads xs : List ℕ)
      → unpack_none (many_card t l ads xs).answer ≡ or_say (sizes_fault t.geometry l) (cond (eqb (length xs) (length ads)) (accepted []) (refused 2))
  unfolding many_card unpacked refusal_of no_values
  gh-lookup-many-answer ads xs = go (fault-is t.geometry l) (eqb (length xs) (length ads))
    where
      go : {n : ℕ} → Fault t.geometry l n → (b : Bool)
          → unpack_none (cond (eqb n 0) (cond b (words_card 0 (tabulate (length ads) (λ k. low_found t l (get_or ads k 0)))) (words_card 2 xs))
          (words_card n xs)).answer
          ≡ or_say n (cond b (accepted []) (refused 2))
      go (Fault.none z) true = refl
      go (Fault.none z) false = refl
      go (Fault.limits h) b = refl
      go (Fault.size v h) b = refl

-- Images.
pub gh-tree-lookup-read : (ws hs : List ℕ) (a : ℕ) → unpack_found (pack_found (tree_said ws hs a)) ≡ tree_said ws hs a
gh-tree-lookup-read ws hs a = found-read 0 (omega arith) _ (tree-fits ws hs a)

module _ (s : List ℕ) (short : length s < 2 ^ 35) where
  pub gh-build-read : (ws hs : List ℕ) → unpack_built (image_card_of (built s ws hs)).answer ≡ (built s ws hs).said
  unfolding image_card_of
  gh-build-read ws hs = built-read (2 ^ 32) (omega arith) _ (built-fits s short ws hs)

  -- Record inputs.
  pub gh-run-read : (a len : ℕ) → unpack_run (pack_run (run_said s a len)) ≡ run_said s a len
  gh-run-read a len = run-read (2 ^ 32) (omega arith) _ (run_fits s short a len)

  pub gh-route-read : (k : ℕ) → unpack_route (pack_route (route_said s k)) ≡ route_said s k
  gh-route-read k = route-read (2 ^ 32) (omega arith) _ (route-fits s short k)

  pub gh-longest-read : (a : ℕ) → unpack_route (pack_route (longest_said s a)) ≡ longest_said s a
  gh-longest-read a = route-read (2 ^ 32) (omega arith) _ (longest-fits s short a)

  -- the tally's answer: 2 for the length of `out`, or what the input's check says, but for the number of records of a good input
  pub gh-tally-read : (xs : List ℕ) → unpack_none (tally_card s xs).answer ≡ cond (eqb (length xs) 33) (and_then (input_said s) (accepted [])) (refused 2)
  unfolding tally_card unpacked refusal_of no_values
  gh-tally-read xs = go (eqb (length xs) 33)
    where
      go : (b : Bool) → unpack_none (cond b (words_card (pack_none (input_said s)) (tally_of s)) (words_card 2 xs)).answer ≡ cond b
          (and_then (input_said s) (accepted [])) (refused 2)
      go true = none_read (2 ^ 32) (omega arith) _ (input_said s) (input-fits s short)
      go false = refl

-- which the caller has
pub gh-tally-records : (s : List ℕ) → accepts (input_said s) ≡ true → input_said s ≡ accepted (length s / 8 ∷ [])
gh-tally-records s e = go (input-checked s) e
  where
    go : {x : Said} → Checked s x → accepts x ≡ true → x ≡ accepted (length s / 8 ∷ [])
    go (Checked.ragged w) e = absurd (false≢true e)
    go (Checked.stopped k f w l b x p) e = absurd (false≢true e)
    go (Checked.many w b m) e = absurd (false≢true e)
    go (Checked.good n w r) e = let q : n ≡ length s / 8 = omega arith in rw q
