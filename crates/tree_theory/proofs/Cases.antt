-- Announce on an image, case by case: the outcome is one of the cases, and its condition decides which; a refusal leaves both arrays. And no two
-- answers of announce or of withdraw say the same.
use mathlib.Core.Path.{◌≡◌, refl, sym, ◌∙◌, ap, subst}
use mathlib.Core.Logic.{◌⊎◌, inl, inr, ◌↔◌}
use Rattle.std.specs.Prelude.{Result, eqb}
use mathlib.Core.Bool.{true, false, cond, true≢false}
use mathlib.Core.List.{List, [], ◌∷◌}
use Prim.Native.Nat.{ℕ, ◌/◌, ◌^◌, ◌≤◌, ◌<◌}
use native.Mathlib.Omega.{arith}
use lib.ListN.{length, get_or}
use borrow.Author.Tests.{lt-ltb, le-ltb}
use Rattle.bits.specs.Count.{bit}
use Rattle.bits.proofs.Bools.{decided, below?}
use Rattle.routes.specs.Input.{proper_prefix, hop_fine}
use Rattle.routes.specs.Route.{key_of, Fine}
use Rattle.routes.specs.Said.{accepts, value}
use Rattle.routes.specs.declared.Route.{Route}
use Rattle.routes.proofs.Meaning.{prefix-true, hop-true}
use Rattle.standing.specs.Standing.{stands}
use Rattle.tree_image.specs.Image.{node_need}
use Rattle.tree_build.specs.Built.{ImageOut, made_of}
use Rattle.tree_same.specs.Listed.{routes_held}
use Rattle.tree_formed.specs.WellFormed.{nodes_used, well_formed}
use Rattle.tree_formed.proofs.Meaning.{well-formed-is}
use Rattle.tree_formed.proofs.Held.{held-good, held-nodes, held-hops}
use Rattle.tree_formed.proofs.Exact.{made-fits}
use Rattle.refusals.specs.declared.Refusal.{Refusal}
use Rattle.routes.proofs.Saids.{plainly-injective}
use Rattle.tree_image.specs.Reads.{used_values}
use Rattle.tree_theory.specs.declared.Announced.{Announced}
use Rattle.tree_theory.specs.declared.Change.{Change}
use Rattle.tree_theory.specs.declared.Change.TheVariants.{Added, Replaced}
use Rattle.tree_theory.specs.Changed.{change_number, announced_values, means_tree_announced, unmarked_route, saying, put_to, image_announced}
use Rattle.tree_theory.specs.Cases.{Fitted, ImageAsked, routes_with, image_in}
use Rattle.tree_theory.specs.Cases.{Announcing, wrong_prefix, wrong_hop, wrong_image, too_many, nodes_short, hops_short, put_in}

-- ---- each answer says something else

read_announced : List ℕ → Announced
read_announced vs = record { change = cond (eqb (value 0 vs) 0) Added Replaced; used = record { nodes = value 1 vs; hops = value 2 vs } }

read-announced : (a : Announced) → read_announced (announced_values a) ≡ a
unfolding read_announced
read-announced a = go a.change
  where
    go : (c : Change) → read_announced (change_number c ∷ used_values a.used) ≡ record { change = c; used = a.used }
    go Added = refl
    go Replaced = refl

pub means_tree_announced-injective : (x y : Result Announced Refusal) → means_tree_announced x ≡ means_tree_announced y → x ≡ y
means_tree_announced-injective = plainly-injective announced_values read_announced read-announced

-- ---- what a well-formed image holds (words are of 32 bits by their type)

pub its-fit : (ws hs : List ℕ) → ((j : ℕ) → get_or ws j 0 < 2 ^ 32) → well_formed ws hs ≡ true → Fitted (routes_held ws hs) ws hs
its-fit ws hs narrow formed =
    let w = well-formed-is ws hs formed in
    let n = held-nodes ws hs (nodes_used ws) w narrow in
    let k = held-hops ws hs (nodes_used ws) w narrow in
    record {
      good = held-good ws hs (nodes_used ws) w narrow;
      few = omega (arith, k, w.few);
      nodes = omega (arith, n, w.order.lent);
      hops = omega (arith, k, w.room);
    }

-- a route of a proper prefix and a fine hop
pub is-fine : (a len h : ℕ) → proper_prefix a len ≡ true → hop_fine h ≡ true → Fine (unmarked_route a len h)
is-fine a len h p q = let k = hop-true h q in record { prefix = prefix-true a len p; hop_one = k.0; hop_ok = k.1; mark_ok = omega arith }

-- ---- announce, case by case

module _ (ws hs : List ℕ) (a len h : ℕ) where
  abbrev rs' : List Route
  rs' = routes_with ws hs a len h

  abbrev b : ℕ
  b = bit (stands (key_of a len) (routes_held ws hs))

  -- an image is asked for, and so many routes may stand
  asked-out : ImageAsked ws hs a len h → length rs' ≤ 4096 → image_announced ws hs a len h ≡ saying b (made_of rs' ws hs)
  unfolding image_announced put_to
  asked-out k l = rw (k.prefix, k.hop, k.image, le-ltb 4096 (length rs') l) refl

  pub case-announced : (o : ImageOut) → Announcing ws hs a len h o → image_announced ws hs a len h ≡ o
  unfolding image_announced put_to made_of
  case-announced o (wrong_prefix e) = rw e refl
  case-announced o (wrong_hop e f) = rw (e, f) refl
  case-announced o (wrong_image e f g) = rw (e, f, g) refl
  case-announced o (too_many k l) = rw (k.prefix, k.hop, k.image, lt-ltb 4096 (length rs') l) refl
  case-announced o (nodes_short k l u) = asked-out k l ∙ rw (lt-ltb (length ws / 3) (node_need rs') u) refl
  case-announced o (hops_short k l u v) = asked-out k l ∙ rw (le-ltb (length ws / 3) (node_need rs') u, lt-ltb (length hs) (length rs') v) refl
  case-announced o (put_in k l u v) = asked-out k l ∙ ap (saying b) (made-fits rs' ws hs u v)

  fits-cases : ImageAsked ws hs a len h → length rs' ≤ 4096 → (length ws / 3 < node_need rs') ⊎ (node_need rs' ≤ length ws / 3)
      → (length hs < length rs') ⊎ (length rs' ≤ length hs)
      → (o : ImageOut) × Announcing ws hs a len h o
  fits-cases k l (inl u) v = (_, nodes_short k l u)
  fits-cases k l (inr u) (inl v) = (_, hops_short k l u v)
  fits-cases k l (inr u) (inr v) = (_, put_in k l u v)

  some-case : (proper_prefix a len ≡ true) ⊎ (proper_prefix a len ≡ false) → (hop_fine h ≡ true) ⊎ (hop_fine h ≡ false)
      → (well_formed ws hs ≡ true) ⊎ (well_formed ws hs ≡ false)
      → (o : ImageOut) × Announcing ws hs a len h o
  some-case (inr e) f g = (_, wrong_prefix e)
  some-case (inl e) (inr f) g = (_, wrong_hop e f)
  some-case (inl e) (inl f) (inr g) = (_, wrong_image e f g)
  some-case (inl e) (inl f) (inl g) = few (below? 4096 (length rs'))
    where
      few : (4096 < length rs') ⊎ (length rs' ≤ 4096) → (o : ImageOut) × Announcing ws hs a len h o
      few (inl u) = (_, too_many (record { prefix = e; hop = f; image = g }) u)
      few (inr u) = fits-cases (record { prefix = e; hop = f; image = g }) u (below? (length ws / 3) (node_need rs')) (below? (length hs) (length rs'))

  -- the outcome is one of these cases, and its condition decides which
  pub announce-cases : (o : ImageOut) → (image_announced ws hs a len h ≡ o) ↔ Announcing ws hs a len h o
  announce-cases o = (into, case-announced o)
    where
      into : image_announced ws hs a len h ≡ o → Announcing ws hs a len h o
      into e =
          let c = some-case (decided (proper_prefix a len)) (decided (hop_fine h)) (decided (well_formed ws hs)) in
          subst (Announcing ws hs a len h) (sym (case-announced c.0 c.1) ∙ e) c.1

  abbrev after : ImageOut
  after = image_announced ws hs a len h

  pub announce-leaves : accepts after.said ≡ false → (after.words ≡ ws) × (after.hops ≡ hs)
  announce-leaves f = go after ((announce-cases after).0 refl) f
    where
      go : (o : ImageOut) → Announcing ws hs a len h o → accepts o.said ≡ false → (o.words ≡ ws) × (o.hops ≡ hs)
      go o (wrong_prefix e) u = (refl, refl)
      go o (wrong_hop e g) u = (refl, refl)
      go o (wrong_image e g k) u = (refl, refl)
      go o (too_many k l) u = (refl, refl)
      go o (nodes_short k l v) u = (refl, refl)
      go o (hops_short k l v w) u = (refl, refl)
      go o (put_in k l v w) u = absurd (true≢false u)

  -- what an accepted announcement meets
  pub record Put : Type 0 where
    pub asked : ImageAsked ws hs a len h
    pub few : length rs' ≤ 4096
    pub nodes_fit : node_need rs' ≤ length ws / 3
    pub hops_fit : length rs' ≤ length hs
    pub told : after ≡ image_in rs' ws hs (b ∷ node_need rs' ∷ length rs' ∷ [])

  pub announce-put : accepts after.said ≡ true → Put
  announce-put f = go after refl ((announce-cases after).0 refl) f
    where
      go : (o : ImageOut) → after ≡ o → Announcing ws hs a len h o → accepts o.said ≡ true → Put
      go o q (wrong_prefix e) u = absurd (true≢false (sym u))
      go o q (wrong_hop e g) u = absurd (true≢false (sym u))
      go o q (wrong_image e g k) u = absurd (true≢false (sym u))
      go o q (too_many k l) u = absurd (true≢false (sym u))
      go o q (nodes_short k l v) u = absurd (true≢false (sym u))
      go o q (hops_short k l v w) u = absurd (true≢false (sym u))
      go o q (put_in k l v w) u = record { asked = k; few = l; nodes_fit = v; hops_fit = w; told = q }
