-- What a lookup says in an image, whatever it holds: what stands beside the case that holds (`TreeLookup`, specs/Cases.antt), and nothing else. By
-- the depth of the walk: a node is out of the words, has its bit 15 set, or is right.
use Rattle.std.specs.Prelude.{Option, Some, None, Result, Err}
use mathlib.Core.Path.{◌≡◌, refl, sym, ap, ◌∙◌}
use mathlib.Core.Logic.{◌⊎◌, inl, inr}
use mathlib.Core.Bool.{true, false, true≢false}
use mathlib.Core.List.{List}
use Prim.Native.Nat.{ℕ, zero, suc, ◌+◌, ◌-◌, ◌/◌, ◌≤◌, ◌<◌}
use native.Mathlib.Omega.{arith}
use lib.ListN.{length, get_or}
use borrow.Author.Tests.{lt-ltb, le-ltb, ne_eqb}
use Rattle.bits.proofs.Bools.{decided, below?, untrue}
use Rattle.routes.specs.Input.{hop_fine}
use Rattle.routes.specs.Said.{Said, refused, said_plainly}
use Rattle.routes.proofs.Meaning.{hop-true, true-hop}
use Rattle.tree_image.specs.Node.{bits_of, child_of, is_set, sound, nibble_of, child_at}
use Rattle.tree_image.specs.Cases.{Fetched, RightNode, Walked, TreeLookup}
use Rattle.tree_image.specs.Walk.{tree_hop_said, fetched_from, last_match, inner_match, walk_from, tree_said}
use Rattle.refusals.specs.declared.Refusal.{Refusal}
use Rattle.refusals.specs.declared.Refusal.TheVariants as refusal
use Rattle.routes.specs.Answers.{means_found}
use Rattle.routes.specs.declared.found.Found.{Found}
use Rattle.routes.proofs.OneAnswer.{found-injective}
use Rattle.tree_image.specs.Reads.{TreeAnswer, a_hop, no_route}
use Rattle.tree_image.proofs.ReadCounts.{tree-answers}

-- the one hop that is read after n nodes, at the place of the deepest match; where it is answered, the count is one more
module _ (hs : List ℕ) (n : ℕ) where
  fetched-only : {p : Option ℕ} {s : Said} → Fetched hs n p s → fetched_from hs n p ≡ s
  unfolding fetched_from tree_hop_said
  fetched-only Fetched.no_match = refl
  fetched-only (Fetched.beyond h l) = rw (le-ltb h (length hs) l)
  fetched-only (Fetched.bad_hop h l b) =
      rw (lt-ltb h (length hs) l, untrue (hop_fine (get_or hs h 0)) (λ e. let k = hop-true (get_or hs h 0) e in b k.0 k.1))
  fetched-only (Fetched.match h l a b) = rw (lt-ltb h (length hs) l, true-hop (get_or hs h 0) a b, ne_eqb (get_or hs h 0) 0 (λ z. omega arith))

  fetched-judged : (p : Option ℕ) → Fetched hs n p (fetched_from hs n p)
  fetched-judged None = rw (fetched-only Fetched.no_match) Fetched.no_match
  fetched-judged (Some h) = go (below? h (length hs)) (decided (hop_fine (get_or hs h 0)))
    where
      told' : {s : Said} → Fetched hs n (Some h) s → Fetched hs n (Some h) (fetched_from hs n (Some h))
      told' c = rw (fetched-only c) c

      go : (h < length hs) ⊎ (length hs ≤ h) → (hop_fine (get_or hs h 0) ≡ true) ⊎ (hop_fine (get_or hs h 0) ≡ false)
          → Fetched hs n (Some h) (fetched_from hs n (Some h))
      go (inr l) e = told' (Fetched.beyond h l)
      go (inl l) (inl e) = let k = hop-true (get_or hs h 0) e in told' (Fetched.match h l k.0 k.1)
      go (inl l) (inr e) = told' (Fetched.bad_hop h l (λ a b. true≢false (sym (true-hop (get_or hs h 0) a b) ∙ e)))

-- the walk from node i on, with d levels of nodes below it and the deepest match so far
module _ (ws hs : List ℕ) (a : ℕ) where
  -- the four bits of the address at this depth lead to this node
  abbrev down : ℕ → ℕ → ℕ
  down d i = child_at (bits_of ws i) (child_of ws i) (nibble_of a d)

  right-sound : (i : ℕ) → RightNode ws hs a i → sound ws i ≡ true
  unfolding sound
  right-sound i r = rw (lt-ltb i (length ws / 3) r.lent, r.clear)

  lost-sound : (i : ℕ) → length ws / 3 ≤ i → sound ws i ≡ false
  unfolding sound
  lost-sound i l = rw (le-ltb i (length ws / 3) l)

  marked-sound : (i : ℕ) → i < length ws / 3 → is_set (bits_of ws i) 15 ≡ true → sound ws i ≡ false
  unfolding sound
  marked-sound i l e = rw (lt-ltb i (length ws / 3) l, e)

  broken : (d i : ℕ) (best : Option ℕ) → sound ws i ≡ false → walk_from d ws hs a i best ≡ refused 13
  unfolding walk_from
  broken zero i best e = rw e
  broken (suc d) i best e = rw e

  walked-only : {d i : ℕ} {best : Option ℕ} {s : Said} → Walked ws hs a d i best s → walk_from d ws hs a i best ≡ s
  unfolding walk_from
  walked-only (Walked.lost d i best l) = broken d i best (lost-sound i l)
  walked-only (Walked.marked d i best l e) = broken d i best (marked-sound i l e)
  walked-only (Walked.deepest i best s r f) = rw (right-sound i r) (fetched-only hs 9 f)
  walked-only (Walked.ends d i best s r e f) = rw (right-sound i r, e) (fetched-only hs (8 - d) f)
  walked-only (Walked.goes_on d i best s r e w) = rw (right-sound i r, e) (walked-only w)

  -- one of the three holds of a node
  by-node : (i : ℕ) (P : Type 0) → (length ws / 3 ≤ i → P) → (i < length ws / 3 → is_set (bits_of ws i) 15 ≡ true → P) → (RightNode ws hs a i → P) → P
  by-node i P off on ok = go (below? i (length ws / 3)) (decided (is_set (bits_of ws i) 15))
    where
      go : (i < length ws / 3) ⊎ (length ws / 3 ≤ i) → (is_set (bits_of ws i) 15 ≡ true) ⊎ (is_set (bits_of ws i) 15 ≡ false) → P
      go (inr l) e = off l
      go (inl l) (inl e) = on l e
      go (inl l) (inr e) = ok (record { lent = l; clear = e })

  walked-judged : (d i : ℕ) (best : Option ℕ) → Walked ws hs a d i best (walk_from d ws hs a i best)
  walked-judged zero i best =
      by-node i _ (λ l. told' (Walked.lost zero i best l)) (λ l e. told' (Walked.marked zero i best l e))
      (λ r. told' (Walked.deepest i best _ r (fetched-judged hs 9 (last_match ws i best))))
    where
      told' : {s : Said} → Walked ws hs a zero i best s → Walked ws hs a zero i best (walk_from zero ws hs a i best)
      told' c = rw (walked-only c) c
  walked-judged (suc d) i best =
      by-node i _ (λ l. told' (Walked.lost (suc d) i best l)) (λ l e. told' (Walked.marked (suc d) i best l e))
      (λ r. next r (walked-judged d (down d i) (inner_match ws i (nibble_of a d) best)) (decided (is_set (bits_of ws i) (16 + nibble_of a d))))
    where
      told' : {s : Said} → Walked ws hs a (suc d) i best s → Walked ws hs a (suc d) i best (walk_from (suc d) ws hs a i best)
      told' c = rw (walked-only c) c

      next : RightNode ws hs a i
          → Walked ws hs a d (down d i) (inner_match ws i (nibble_of a d) best) (walk_from d ws hs a (down d i) (inner_match ws i (nibble_of a d) best))
          → (is_set (bits_of ws i) (16 + nibble_of a d) ≡ true) ⊎ (is_set (bits_of ws i) (16 + nibble_of a d) ≡ false)
          → Walked ws hs a (suc d) i best (walk_from (suc d) ws hs a i best)
      next r w (inl e) = told' (Walked.goes_on d i best _ r e w)
      next r w (inr e) = told' (Walked.ends d i best _ r e (fetched-judged hs (8 - d) (inner_match ws i (nibble_of a d) best)))

  pub tree-judged : TreeLookup ws hs a (tree_said ws hs a)
  unfolding tree_said
  tree-judged = walked-judged 8 0 None

  pub tree-only : (s : Said) → TreeLookup ws hs a s → tree_said ws hs a ≡ s
  unfolding tree_said
  tree-only s w = walked-only w

-- what is refused is 13, and the code's answer is then `Broken`
module _ (ws hs : List ℕ) (a : ℕ) (n : ℕ) where
  only-13 : {s : Said} → TreeAnswer s → s ≡ refused n → 13 ≡ n
  only-13 (a_hop k h l u lo hi) e = absurd (let z : ◌≡◌ {A = ℕ} 0 1 = cc in omega arith)
  only-13 (no_route k l u) e = absurd (let z : ◌≡◌ {A = ℕ} 0 1 = cc in omega arith)
  only-13 TreeAnswer.broken e = cc

  pub refused-broken : (r : Result Found Refusal) → means_found r ≡ tree_said ws hs a → tree_said ws hs a ≡ refused n → (n ≡ 13) × (r ≡ Err refusal.Broken)
  unfolding said_plainly
  refused-broken r e q =
      let k = only-13 (tree-answers ws hs a) q in
      (sym k, found-injective r (Err refusal.Broken) (e ∙ q ∙ ap refused (sym k)))
