-- Images that meet what the theorems on their test and their changes suppose: list A's, and one of 4,096 routes; calls on them that are accepted and
-- refused; and outcomes that meet the statements. So none of the theorems speaks of nothing.
use Rattle.std.specs.Prelude.{Ok, Err}
use mathlib.Core.Path.{◌≡◌, refl, sym, ◌∙◌, ap, ap₂, subst}
use mathlib.Core.Logic.{◌⊎◌, inl, inr}
use mathlib.Core.Bool.{true, false}
use mathlib.Core.List.{List, [], ◌∷◌, map}
use Prim.Native.Nat.{ℕ, ◌+◌, ◌/◌, ◌^◌, ◌≤◌, ◌<◌}
use native.Mathlib.Omega.{arith}
use lib.Dec.{ltb}
use lib.ListN.{get_or, length, replicate, length-replicate, length-map, get_or-map, get_or-eq_default}
use borrow.Author.Tests.{ltb-true, eqb-true}
use Rattle.bits.specs.Count.{bit, count}
use Rattle.bits.specs.Search.{first_from, first_of}
use Rattle.bits.specs.Slot.{cut}
use Rattle.bits.specs.Tab.{tabulate, every}
use Rattle.bits.proofs.Tabs.{every_true, get_d_tabulate, length-tabulate}
use Rattle.bits.proofs.Bools.{below?, untrue}
use Rattle.routes.specs.Input.{proper_prefix, hop_fine, route_fault, in_order, fault_at, input_said}
use Rattle.routes.specs.ListA.{list_a}
use Rattle.routes.specs.Record.{record_at, Records, routes_of, routes_in, no_route}
use Rattle.routes.specs.Route.{key, key_of, plain, Good}
use Rattle.routes.specs.Said.{Said, accepted, refused, accepts, said_plainly}
use Rattle.routes.specs.declared.Route.{Route}
use Rattle.routes.specs.Cases.{Passes}
use Rattle.routes.proofs.Judged.{good-whole}
use Rattle.routes.proofs.Meaning.{input-checked}
use Rattle.routes.proofs.Rows.{length-routes, records-good, listed_nth}
use Rattle.standing.specs.Cells.{any}
use Rattle.standing.specs.Cells as cells
use Rattle.standing.specs.Standing.{stands, is_at}
use Rattle.standing.proofs.Changed.{insert-adds}
use Rattle.standing.proofs.Standing.{insert-good}
use Rattle.standing.proofs.Marks.{any-plain}
use Rattle.tree_image.specs.Image.{node_stands, hop_for, node_need, bit_hop, set_bit, word, kids, hops_of, level, up_to, words_from, words, image_by}
use Rattle.tree_image.specs.Parts.{picked, gather}
use Rattle.tree_image.proofs.Lies.{any-is}
use Rattle.tree_image.proofs.Needs.{hops-need, nodes-most}
use Rattle.bits.specs.Bit.{packed_bits}
use Rattle.tree_build.specs.Built.{ImageOut, made_of, built}
use Rattle.tree_build.proofs.Serves.{built-accepts}
use Rattle.tree_same.specs.Listed.{routes_held}
use Rattle.tree_same.specs.Order.{exts}
use Rattle.tree_same.proofs.Plain.{plain-good}
use Rattle.tree_same.proofs.Same.{image-held}
use Rattle.tree_hold.proofs.Undone.{image-sizes}
use Rattle.tree_formed.specs.Answers.{tested}
use Rattle.tree_check.specs.Contract.{MeetsTreeTest}
use Rattle.tree_formed.specs.WellFormed.{nodes_used, ordered, well_formed}
use Rattle.refusals.specs.declared.Refusal.TheVariants as refusal
use Rattle.tree_formed.proofs.AsBuilt.{test-as-build}
use Rattle.tree_formed.proofs.Exact.{built-passes}
use Rattle.tree_theory.specs.Cases.{ImageAsked, routes_with, Announcing}
use Rattle.tree_theory.specs.Changed.{unmarked_route, image_announced, image_withdrawn}
use Rattle.tree_change.specs.Contract.{MeetsTreeAnnounce, MeetsTreeWithdraw}
use Rattle.tree_theory.specs.declared.Change.TheVariants as change
use Rattle.tree_theory.proofs.Cases.{is-fine}
use Rattle.tree_theory.proofs.Cases.{case-announced}
use Rattle.tree_formed.specs.Cases.{Narrow}
use Rattle.tree_build.specs.Cases.{Build}
use Rattle.tree_build.proofs.Judged.{build-only}
use Rattle.examples.specs.Lines.{ip, Line, ◌gives◌, Hold}
use Rattle.examples.specs.EdgesInputs.{many}
use Rattle.examples.specs.EdgesTreeChanges as changes
use Rattle.examples.specs.EdgesTreeChanges.{take, changed, image_in, answer, edges}
use Rattle.examples.proofs.EdgesTreeChanges.{tree-changes-hold}
use Rattle.examples.proofs.Many.{nth, many-good, many-routes}

-- a line of the table of changes
line : (k : ℕ) → answer (get_or edges k (changes.any [] [] (take 0 0) gives accepted [])).asked ≡ get_or
    (map (λ (x : Line changes.Asked). x.expected) edges) k (answer (changes.any [] [] (take 0 0)))
unfolding Hold
line k =
    sym (get_or-map (λ (x : Line changes.Asked). answer x.asked) edges k (changes.any [] [] (take 0 0) gives accepted []))
    ∙ ap (λ (ss : List Said). get_or ss k (answer (changes.any [] [] (take 0 0)))) tree-changes-hold

-- list A's image, with room for 13 nodes and 6 hops: its words are of 32 bits
abbrev ws : List ℕ
ws = (image_in list_a 39 6).words

abbrev hs : List ℕ
hs = (image_in list_a 39 6).hops

pub built-39 : (built list_a (replicate 39 0) (replicate 6 0)).said ≡ accepted (7 ∷ 5 ∷ [])
unfolding list_a built made_of input_said first_of first_from fault_at route_fault in_order proper_prefix hop_fine record_at cut routes_of tabulate any
    cells.first picked gather kids level up_to
built-39 = refl

low-words : every (λ j. ltb (get_or ws j 0) (2 ^ 32)) 39 ≡ true
unfolding every image_in list_a built made_of input_said first_of first_from fault_at route_fault in_order proper_prefix hop_fine record_at cut routes_of tabulate
    any cells.first picked gather kids level up_to count packed_bits bit_hop set_bit word hops_of words_from words image_by
low-words = refl

as_long : length ws ≡ 39
unfolding image_in list_a built made_of input_said first_of first_from fault_at route_fault in_order proper_prefix hop_fine record_at cut routes_of tabulate any
    cells.first picked gather kids level up_to count packed_bits bit_hop set_bit word words_from words image_by
as_long = refl

pub narrow-A : Narrow ws
narrow-A j = go (below? j 39)
  where
    go : (j < 39) ⊎ (39 ≤ j) → get_or ws j 0 < 2 ^ 32
    go (inl l) = ltb-true _ _ (every_true (λ i. ltb (get_or ws i 0) (2 ^ 32)) 39 low-words j l)
    go (inr l) = omega (arith, get_or-eq_default ws 0 {n = j} (omega (arith, as_long)))

pub formed-A : well_formed ws hs ≡ true
unfolding image_in
formed-A = built-passes list_a (replicate 39 0) (replicate 6 0) (7 ∷ 5 ∷ []) built-39

-- The test: accepted and refused.
pub tested-A : tested ws hs ≡ accepted (7 ∷ 5 ∷ [])
unfolding image_in
tested-A = test-as-build list_a (replicate 39 0) (replicate 6 0) (7 ∷ 5 ∷ []) built-39

pub refused-test : tested [] [] ≡ refused 13
unfolding tested well_formed ordered nodes_used first_of first_from exts
refused-test = refl

-- The changes: accepted, and refused.
pub added-A : (image_announced ws hs (ip 192 0 2 0) 24 3).said ≡ accepted (0 ∷ 13 ∷ 6 ∷ [])
unfolding edges answer changed
added-A = line 0

pub replaced-A : (image_announced ws hs (ip 10 1 2 0) 24 32767).said ≡ accepted (1 ∷ 7 ∷ 5 ∷ [])
unfolding edges answer changed
replaced-A = line 11

pub refused-tree-announce : accepts (image_announced ws hs (ip 10 1 2 3) 24 0).said ≡ false
unfolding edges answer changed
refused-tree-announce = ap accepts (line 7)

pub removed-A : (image_withdrawn (image_in list_a 21 5).words (image_in list_a 21 5).hops (ip 10 1 2 128) 25).said ≡ accepted (7 ∷ 4 ∷ [])
unfolding edges answer changed
removed-A = line 12

pub refused-tree-withdraw : (image_withdrawn (image_in list_a 21 5).words (image_in list_a 21 5).hops (ip 192 0 2 0) 24).said ≡ refused 9
unfolding edges answer changed
refused-tree-withdraw = line 14

-- One answer: outcomes that meet the statements.
pub test-A : MeetsTreeTest ws hs (Ok (record { nodes = 7; hops = 5 }))
unfolding said_plainly
test-A = sym tested-A

pub test-broken : MeetsTreeTest [] [] (Err refusal.Broken)
unfolding said_plainly
test-broken = sym refused-test

pub announced-A : MeetsTreeAnnounce ws hs (ip 192 0 2 0) 24 3 (Ok (record { change = change.Added; used = record { nodes = 13; hops = 6 } }))
    (image_announced ws hs (ip 192 0 2 0) 24 3).words (image_announced ws hs (ip 192 0 2 0) 24 3).hops
unfolding said_plainly
announced-A i = record { said = sym added-A i; words = (image_announced ws hs (ip 192 0 2 0) 24 3).words; hops = (image_announced ws hs (ip 192 0 2 0) 24 3).hops }

pub withdrawn-A : MeetsTreeWithdraw (image_in list_a 21 5).words (image_in list_a 21 5).hops (ip 10 1 2 128) 25 (Ok (record { nodes = 7; hops = 4 }))
    (image_withdrawn (image_in list_a 21 5).words (image_in list_a 21 5).hops (ip 10 1 2 128) 25).words
    (image_withdrawn (image_in list_a 21 5).words (image_in list_a 21 5).hops (ip 10 1 2 128) 25).hops
unfolding said_plainly
withdrawn-A i = record {
  said = sym removed-A i;
  words = (image_withdrawn (image_in list_a 21 5).words (image_in list_a 21 5).hops (ip 10 1 2 128) 25).words;
  hops = (image_withdrawn (image_in list_a 21 5).words (image_in list_a 21 5).hops (ip 10 1 2 128) 25).hops;
}

-- "6 where more than 4,096 routes would stand": the image of n routes of 16 bits, in arrays with room for one hop more, and 0.0.0.0/0 announced.
module _ (n : ℕ) (few : n ≤ 4096) where
  abbrev image : ImageOut
  image = built (many n) (replicate 98307 0) (replicate 4097 0)

  passes : Passes (many n) n
  passes = rw (many-good n (omega arith) few) at (input-checked (many n))

  so-many : length (routes_in (many n)) ≡ n
  so-many = let w = (good-whole (many n) n passes).0 in length-routes (many n) (length (many n) / 8) ∙ omega arith

  its-good : Good (routes_in (many n))
  its-good =
      let w = good-whole (many n) n passes in
      let e : n ≡ length (many n) / 8 = omega (arith, w.0) in
      records-good (many n) (length (many n) / 8) (subst (Records (many n)) e w.1)

  its-room : node_need (routes_in (many n)) ≤ 32769
  its-room = nodes-most (routes_in (many n)) its-good (omega (arith, so-many))

  builds : image.said ≡ accepted (node_need (routes_in (many n)) ∷ length (routes_in (many n)) ∷ [])
  builds =
      let a = length-replicate {A = ℕ} 98307 0 in
      let b = length-replicate {A = ℕ} 4097 0 in
      build-only (many n) (replicate 98307 0) (replicate 4097 0) _ (Build.done n passes (omega (arith, its-room)) (omega (arith, so-many)))

  holds : routes_held image.words image.hops ≡ map plain (routes_in (many n))
  holds =
      let k = built-accepts (many n) (replicate 98307 0) (replicate 4097 0) _ builds in
      ap₂ routes_held k.words k.hops ∙ image-held (routes_in (many n)) _ _ k.good_routes k.nodes_room k.hops_room

  -- no route of them has length 0
  new : stands (key_of 0 0) (routes_held image.words image.hops) ≡ false
  new =
      ap (stands (key_of 0 0)) holds ∙ any-plain (is_at (key_of 0 0)) (λ r. refl) (routes_in (many n)) ∙ ap (stands (key_of 0 0)) (many-routes n (omega arith))
      ∙ untrue (stands (key_of 0 0) (tabulate n nth)) none
    where
      none : stands (key_of 0 0) (tabulate n nth) ≡ true → ⊥
      none t =
          let f = any-is (is_at (key_of 0 0)) (tabulate n nth) t in
          let p = listed_nth (tabulate n nth) f.0 f.1 in
          let e = get_d_tabulate n nth p.place no_route (omega (arith, p.inside, length-tabulate n nth)) in
          let q : f.0 ≡ nth p.place = sym p.holds ∙ e in
          omega (arith, ap (λ (r : Route). r.len) q, ap (λ (r : Route). r.addr) q, eqb-true (key f.0) (key_of 0 0) f.2)

  one_more : length (routes_with image.words image.hops 0 0 5) ≡ n + 1
  one_more =
      let e = ap length holds in
      let m : length (map plain (routes_in (many n))) ≡ length (routes_in (many n)) = length-map (routes_in (many n)) plain in
      omega (arith, insert-adds (unmarked_route 0 0 5) (routes_held image.words image.hops) new, e, m, so-many)

  asked : ImageAsked image.words image.hops 0 0 5
  unfolding proper_prefix hop_fine cut
  asked = record { prefix = refl; hop = refl; image = built-passes (many n) (replicate 98307 0) (replicate 4097 0) _ builds }

  sizes : (length image.words ≡ 98307) × (length image.hops ≡ 4097)
  sizes =
      let k = built-accepts (many n) (replicate 98307 0) (replicate 4097 0) _ builds in
      let a = length-replicate {A = ℕ} 98307 0 in
      let b = length-replicate {A = ℕ} 4097 0 in
      let z = image-sizes (node_stands (routes_in (many n))) (hop_for (routes_in (many n))) (length {A = ℕ} (replicate 98307 0))
      (length {A = ℕ} (replicate 4097 0)) k.nodes_room (omega (arith, hops-need (routes_in (many n)) its-good, k.hops_room)) in
      (ap length k.words ∙ z.0 ∙ a, ap length k.hops ∙ z.1 ∙ b)

  -- with one more they still are a good list, which needs at most 32,769 nodes
  with-good : Good (routes_with image.words image.hops 0 0 5)
  with-good = insert-good (unmarked_route 0 0 5) _ (is-fine 0 0 5 asked.prefix asked.hop)
      (subst Good (sym holds) (plain-good (routes_in (many n)) its-good))

  with-one : n < 4096 → (image_announced image.words image.hops 0 0 5).said
      ≡ accepted (bit (stands (key_of 0 0) (routes_held image.words image.hops)) ∷ node_need
      (routes_with image.words image.hops 0 0 5) ∷ length (routes_with image.words image.hops 0 0 5) ∷ [])
  with-one l =
      let m = nodes-most (routes_with image.words image.hops 0 0 5) with-good (omega (arith, one_more)) in
      ap (λ (o : ImageOut). o.said) (case-announced _ _ 0 0 5 _
      (Announcing.put_in asked (omega (arith, one_more)) (omega (arith, sizes.0)) (omega (arith, one_more, sizes.1))))

-- 4,095 stand, and one more is taken; 4,096 stand, and it is not
pub taken-4096 : accepts (image_announced (image 4095 (omega arith)).words (image 4095 (omega arith)).hops 0 0 5).said ≡ true
taken-4096 = ap accepts (with-one 4095 (omega arith) (omega arith))

pub refused-six : (image_announced (image 4096 (omega arith)).words (image 4096 (omega arith)).hops 0 0 5).said ≡ refused 6
refused-six = ap (λ (o : ImageOut). o.said) (case-announced _ _ 0 0 5 _
    (Announcing.too_many (asked 4096 (omega arith)) (omega (arith, one_more 4096 (omega arith)))))
