-- What is said where a route is put to a well-formed image or taken from it, and that it is what the definitions say.
use mathlib.Core.Path.{◌≡◌, refl, sym, ◌∙◌, ap, ap₂, subst}
use mathlib.Core.Bool.{Bool, true, false}
use mathlib.Core.List.{List, [], ◌∷◌}
use Prim.Native.Nat.{ℕ, suc, ◌+◌, ◌-◌, ◌*◌, ◌/◌, ◌^◌, ◌≤◌, ◌<◌}
use native.Mathlib.Omega.{arith}
use lib.ListN.{length}
use borrow.Author.Tests.{lt-ltb, le-ltb}
use Rattle.routes.specs.Route.{key_of, Prefix, Fine}
use Rattle.std.specs.Prelude.{Ok, Err}
use Rattle.refusals.specs.Numbers.{number_of}
use Rattle.refusals.specs.declared.Refusal.{Refusal}
use Rattle.refusals.specs.declared.Refusal.TheVariants as refusal
use Rattle.refusals.proofs.Numbers.{number-above_0}
use Rattle.routes.specs.Said.{accepted, refused, said_plainly}
use Rattle.routes.specs.declared.Route.{Route}
use Rattle.standing.specs.Standing.{stands, insert, remove}
use Rattle.standing.proofs.Standing.{insert-replaces}
use Rattle.standing.proofs.Changed.{insert-adds, remove-takes}
use Rattle.tree_image.specs.Image.{node_stands, hop_for, node_need, image_of}
use Rattle.tree_image.proofs.Needs.{hops-need}
use Rattle.tree_build.specs.Built.{image_out, made_of}
use Rattle.tree_room.specs.Lack.{Lack, short_nodes, short_hops, has_room}
use Rattle.tree_room.proofs.Room.{room-is}
use Rattle.tree_same.specs.Order.{ints, Order}
use Rattle.tree_same.specs.Listed.{routes_held}
use Rattle.tree_same.proofs.Holdings.{nodes-are, hops-are}
use Rattle.tree_formed.specs.WellFormed.{ordered, nodes_if}
use Rattle.tree_formed.proofs.Exact.{made-fits}
use Rattle.tree_theory.specs.declared.Change.TheVariants.{Added, Replaced}
use Rattle.tree_theory.specs.Changed.{means_tree_announced, means_tree_withdrawn, unmarked_route, saying, put_to, taken_from}
use Rattle.tree_theory.specs.Stages.{Found, ImageFormed, New, Addable, PathEnds, Standing, Become}
use Rattle.tree_theory.proofs.Places.{shaped, there-is}
use Rattle.tree_theory.proofs.Needs.{fewer-nodes, new-need}

-- what a change that fits leaves and says
module _ {rs : List Route} {ws hs ws' hs' : List ℕ} {n : ℕ} (b : Become rs ws hs ws' hs' n) (fit : n ≤ length ws / 3)
    (k : ℕ) (count : k ≡ length rs) (space : k ≤ length hs) where
  pub made-is : (v : ℕ) → image_out (accepted (v ∷ n ∷ k ∷ [])) ws' hs' ≡ saying v (made_of rs ws hs)
  made-is v =
      ap₂ (λ (x y : List ℕ). image_out (accepted (v ∷ n ∷ k ∷ [])) x y) b.words b.hops
      ∙ ap₂ (λ (x y : ℕ). image_out (accepted (v ∷ x ∷ y ∷ [])) (image_of rs (length ws) (length hs)).words (image_of rs (length ws) (length hs)).hops)
      b.nodes count
      ∙ ap (saying v) (sym (made-fits rs ws hs (omega (arith, b.nodes)) (omega (arith, count))))

  pub made_so : image_out (accepted (n ∷ k ∷ [])) ws' hs' ≡ made_of rs ws hs
  made_so =
      ap₂ (λ (x y : List ℕ). image_out (accepted (n ∷ k ∷ [])) x y) b.words b.hops
      ∙ ap₂ (λ (x y : ℕ). image_out (accepted (x ∷ y ∷ [])) (image_of rs (length ws) (length hs)).words (image_of rs (length ws) (length hs)).hops)
      b.nodes count
      ∙ sym (made-fits rs ws hs (omega (arith, b.nodes)) (omega (arith, count)))

-- the hops of an image are its routes
pub routes-are : {ws hs : List ℕ} {n k : ℕ} → Found ws hs n k → k ≡ length (routes_held ws hs)
routes-are {ws} {hs} {n} {k} s =
    let rs = routes_held ws hs in
    s.hops ∙ hops-are (node_stands (routes_held ws hs)) (hop_for (routes_held ws hs)) ws hs n (shaped s).agree.nine s.holds
    ∙ hops-need (routes_held ws hs) s.good

-- ---- a prefix that does not stand

module _ {ws hs : List ℕ} {n k x m a len h b : ℕ} (r : New ws hs n k x m a len h b) where
  abbrev rs : List Route
  rs = routes_held ws hs

  abbrev r₁ : Route
  r₁ = unmarked_route a len h

  one_more : length (insert r₁ rs) ≡ k + 1
  one_more = insert-adds r₁ rs r.absent ∙ omega (arith, routes-are r.found)

  pub told-six : 4096 ≤ k → image_out (means_tree_announced (Err refusal.Room)) ws hs ≡ put_to rs r₁ ws hs
  unfolding said_plainly put_to
  told-six l = rw (lt-ltb 4096 (length (insert r₁ rs)) (omega (arith, one_more))) refl

  module _ (l : k < 4096) where
    put_some : put_to rs r₁ ws hs ≡ saying 0 (made_of (insert r₁ rs) ws hs)
    unfolding put_to
    put_some = rw (le-ltb 4096 (length (insert r₁ rs)) (omega (arith, one_more)), r.absent) refl

    module _ (more : ℕ) (e : more ≡ len / 4 - m) where
      told-eleven : length ws / 3 < n + more → image_out (means_tree_announced (Err refusal.Nodes)) ws hs ≡ put_to rs r₁ ws hs
      unfolding said_plainly made_of
      told-eleven u = sym (put_some ∙ rw (lt-ltb (length ws / 3) (node_need (insert r₁ rs)) (omega (arith, new-need r))) refl)

      told-twelve : n + more ≤ length ws / 3 → length hs < k + 1 → image_out (means_tree_announced (Err refusal.Hops)) ws hs ≡ put_to rs r₁ ws hs
      unfolding said_plainly made_of
      told-twelve u v =
          let n = le-ltb (length ws / 3) (node_need (insert r₁ rs)) (omega (arith, new-need r)) in
          let k = lt-ltb (length hs) (length (insert r₁ rs)) (omega (arith, one_more)) in
          sym (put_some ∙ rw (n, k) refl)

      no_room : {f : ℕ} → Lack (length ws) (length hs) (n + more) (k + 1) f → (f ≡ 0 → ⊥) → image_out (refused f) ws hs ≡ put_to rs r₁ ws hs
      unfolding said_plainly
      no_room (short_nodes u) z = told-eleven u
      no_room (short_hops u v) z = told-twelve u v
      no_room (has_room u v) z = absurd (z refl)

      pub told-lack : (w : Refusal) → Lack (length ws) (length hs) (n + more) (k + 1) (number_of w)
          → image_out (means_tree_announced (Err w)) ws hs ≡ put_to rs r₁ ws hs
      unfolding said_plainly
      told-lack w l = no_room l (number-above_0 w)

      module _ {f : ℕ} (lack : Lack (length ws) (length hs) (n + more) (k + 1) f) (none : f ≡ 0) where
        pub add-ready : Addable ws hs n k x m a len h b
        add-ready = let room = room-is lack none in record { new = r; words_room = omega (arith, e, room.0); hops_room = room.1 }

        pub add-few : {ws' hs' : List ℕ} {nodes : ℕ} → Become (insert r₁ rs) ws hs ws' hs' nodes → (nodes < 2 ^ 32) × (k + 1 < 2 ^ 32)
        add-few g = (omega (arith, g.nodes, new-need r, r.found.few_nodes, r.fine.prefix.len_ok), omega arith)

        pub told-added : {ws' hs' : List ℕ} {nodes : ℕ} → Become (insert r₁ rs) ws hs ws' hs' nodes → (p q : ℕ) → p ≡ nodes → q ≡ k + 1
            → image_out (means_tree_announced (Ok (record { change = Added; used = record { nodes = p; hops = q } }))) ws' hs' ≡ put_to rs r₁ ws hs
        unfolding said_plainly
        told-added {ws'} {hs'} {nodes} g p q ep eq =
            let room = room-is lack none in
            ap₂ (λ (y z : ℕ). image_out (accepted (0 ∷ y ∷ z ∷ [])) ws' hs') ep eq
            ∙ made-is g (omega (arith, g.nodes, new-need r, e, room.0)) (k + 1) (sym one_more) room.1 0 ∙ sym put_some

-- ---- a prefix that stands

module _ {ws hs : List ℕ} {n k x a len b : ℕ} (r : Standing ws hs n k x a len b) (h : ℕ) where
  abbrev ss : List Route
  ss = routes_held ws hs

  pub told-replaced : {hs' : List ℕ} → Become (insert (unmarked_route a len h) ss) ws hs ws hs' n → (p q : ℕ) → p ≡ n → q ≡ k
      → image_out (means_tree_announced (Ok (record { change = Replaced; used = record { nodes = p; hops = q } }))) ws hs' ≡ put_to ss (unmarked_route a len h) ws hs
  unfolding said_plainly put_to
  told-replaced {hs'} g p q ep eq =
      let c : length (insert (unmarked_route a len h) ss) ≡ k = insert-replaces (unmarked_route a len h) ss r.found.good r.stood ∙ sym
      (routes-are r.found) in
      rw (le-ltb 4096 (length (insert (unmarked_route a len h) ss)) (omega (arith, c, r.found.few_hops)), r.stood)
      (ap₂ (λ (y z : ℕ). image_out (accepted (1 ∷ y ∷ z ∷ [])) ws hs') ep eq
      ∙ made-is g r.found.holds.order.lent k (sym c) (omega (arith, r.found.holds.room, r.found.hops)) 1)

-- ---- the way to the prefix

module _ {ws hs : List ℕ} {n : ℕ} (f : ImageFormed ws hs n) where
  -- what the code asks for on the way
  pub ask-hops : (0 < n) × (3 * n ≤ length ws) × (n ≡ nodes_if (ordered ws) ws)
  ask-hops = (f.lent.0, f.lent.1, f.nodes)

  pub ask-way : {len : ℕ} → len ≤ 32 → Order ws n × (len ≤ 32)
  ask-way l = (f.found.holds.order, l)

-- what is known at the end of the way
module _ {ws hs : List ℕ} {n k a len : ℕ} (f : ImageFormed ws hs n) (hops : k ≡ ints ws n) (prefix : Prefix a len) where
  its-found : Found ws hs n k
  its-found = subst (Found ws hs n) (sym hops) f.found

  module _ {x m b : ℕ} {t : Bool} (end : PathEnds ws n a len x m b t) where
    says : t ≡ stands (key_of a len) (routes_held ws hs)
    says = there-is its-found prefix end.bit end.way t end.tells

  module _ {x m b : ℕ} (end : PathEnds ws n a len x m b false) where
    pub is-new : {h : ℕ} → Fine (unmarked_route a len h) → New ws hs n k x m a len h b
    is-new g = record { found = its-found; fine = g; way = end.way; bit = end.bit; absent = sym (says end) }

    pub told-nine : image_out (means_tree_withdrawn (Err refusal.Absent)) ws hs ≡ taken_from (routes_held ws hs) (key_of a len) ws hs
    unfolding said_plainly taken_from
    told-nine = rw (sym (says end)) refl

  pub is-standing : {x b : ℕ} → PathEnds ws n a len x (len / 4) b true → Standing ws hs n k x a len b
  is-standing end = record { found = its-found; prefix = prefix; way = end.way; bit = end.bit; stood = sym (says end) }

-- ---- a prefix taken out

module _ {ws hs : List ℕ} {n k x a len b : ℕ} (r : Standing ws hs n k x a len b) where
  abbrev us : List Route
  us = routes_held ws hs

  fewer : suc (length (remove (key_of a len) us)) ≡ k
  fewer = remove-takes (key_of a len) us r.found.good r.stood ∙ sym (routes-are r.found)

  pub one-there : 1 ≤ k
  one-there = omega (arith, fewer)

  pub one_less : Standing ws hs n (k - 1 + 1) x a len b
  one_less = let q : k ≡ k - 1 + 1 = omega (arith, fewer) in subst (λ (z : ℕ). Standing ws hs n z x a len b) q r

  its-nodes : node_need us ≡ n
  its-nodes = sym (nodes-are (node_stands us) (hop_for us) ws hs n (shaped r.found).agree.nine r.found.holds)

  module _ {ws' hs' : List ℕ} {nodes : ℕ} (g : Become (remove (key_of a len) us) ws hs ws' hs' nodes) where
    no_more : nodes ≤ n
    no_more = omega (arith, g.nodes, fewer-nodes (key_of a len) us r.found.good r.stood, its-nodes)

    pub removed-few : (nodes < 2 ^ 32) × (k - 1 < 2 ^ 32)
    removed-few = (omega (arith, no_more, r.found.few_nodes), omega (arith, r.found.few_hops))

    pub told-removed : (y z : ℕ) → y ≡ nodes → z ≡ k - 1 → image_out (means_tree_withdrawn (Ok (record { nodes = y; hops = z }))) ws' hs' ≡ taken_from us (key_of a len) ws hs
    unfolding said_plainly taken_from
    told-removed y z ey ez =
        rw r.stood
        (ap₂ (λ (u v : ℕ). image_out (accepted (u ∷ v ∷ [])) ws' hs') ey ez
        ∙ made_so g (omega (arith, no_more, r.found.holds.order.lent)) (k - 1) (omega (arith, fewer))
        (omega (arith, r.found.holds.room, r.found.hops)))
