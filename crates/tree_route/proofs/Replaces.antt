-- The hop of a prefix that stands, replaced by one store.
use mathlib.Core.Path.{◌≡◌, refl, sym, ◌∙◌, ap, ap₂, subst}
use mathlib.Core.Logic.{◌⊎◌, inl, inr}
use mathlib.Core.Bool.{Bool, true}
use mathlib.Core.List.{List}
use Prim.Native.Nat.{ℕ, ◌*◌, ◌/◌, ◌≤◌, ◌<◌}
use native.Mathlib.Omega.{arith}
use lib.Dec.{ltb}
use lib.ListN.{length, get_or, set, length-set}
use borrow.Author.Tests.{ltb-true}
use Rattle.bits.specs.Slot.{slot}
use Rattle.bits.proofs.Bools.{below?}
use Rattle.routes.specs.Route.{Fine}
use Rattle.routes.specs.declared.Route.{Route}
use Rattle.standing.specs.Standing.{insert}
use Rattle.standing.proofs.Standing.{insert-good}
use Rattle.tree_image.specs.Image.{node, bit_hop, inner, node_stands, hop_for}
use Rattle.tree_same.specs.Read.{reached, hop_place_at}
use Rattle.tree_same.specs.Order.{stands_at}
use Rattle.tree_same.specs.Holding.{Holding}
use Rattle.tree_same.specs.Listed.{routes_held}
use Rattle.tree_same.proofs.Back.{Shaped}
use Rattle.tree_hold.specs.More.{down_to, with_hop}
use Rattle.tree_hold.proofs.Each.{past}
use Rattle.tree_hold.proofs.Taken.{len_at, bits_at}
use Rattle.tree_hold.proofs.Replaced.{replace-holds}
use Rattle.tree_hold.proofs.Paths.{insert-nodes, insert-hops, stands-hop}
use Rattle.tree_theory.specs.Changed.{unmarked_route}
use Rattle.tree_theory.specs.Stages.{Standing, Become}
use Rattle.tree_theory.proofs.Places.{bit-len, bit-bits, hop-at-bit, shaped, way-stands}
use Rattle.tree_theory.proofs.Midways.{down-any, become}

module _ {ws hs : List ℕ} {n k x a len b : ℕ} (r : Standing ws hs n k x a len b) where
  abbrev rs : List Route
  rs = routes_held ws hs

  abbrev st : ℕ → ℕ → Bool
  st = node_stands rs

  abbrev hop : ℕ → ℕ → ℕ
  hop = hop_for rs

  abbrev deep : ℕ
  deep = len / 4

  abbrev path : ℕ
  path = slot (4 * deep) a

  short : len ≤ 32
  short = r.prefix.len_ok

  shape : Shaped st hop
  shape = shaped r.found

  pub its-node : stands_at st deep path ≡ true
  its-node = way-stands r.found r.prefix.addr_ok r.way

  pub its_hop : ltb 0 (hop len (slot len a)) ≡ true
  its_hop = sym (stands-hop a len rs r.prefix r.found.good) ∙ r.stood

  pub its-bit : inner hop (node deep path) b ≡ true
  its-bit = ap (ltb 0) (hop-at-bit r.bit short hop) ∙ its_hop

  module _ (h : ℕ) (some : 0 < h) (most : h ≤ 32767) where
    fine : Fine (unmarked_route a len h)
    fine = record { prefix = r.prefix; hop_one = some; hop_ok = most; mark_ok = omega arith }

    pub replace-done : (y : ℕ) → y ≡ hop_place_at ws x b → Become (insert (unmarked_route a len h) rs) ws hs ws (set hs y h) n
    replace-done y e =
        let q : y ≡ hop_place_at ws (reached ws deep path) b = e ∙ ap (λ (z : ℕ). hop_place_at ws z b) r.way.at in
        let p = replace-holds deep path b h shape r.bit.small its-node its-bit some r.found.holds in
        let t : with_hop hop (len_at deep b) (bits_at path b) h ≡ hop_for (insert (unmarked_route a len h) rs) =
        ap₂ (λ (u v : ℕ). with_hop hop u v h) (bit-len r.bit short) (bit-bits r.bit short) ∙ sym
        (insert-hops (unmarked_route a len h) rs fine r.found.good) in
        let g = insert-good (unmarked_route a len h) rs fine r.found.good in
        let s : down_to st a deep ≡ node_stands (insert (unmarked_route a len h) rs) = sym (insert-nodes (unmarked_route a len h) rs fine r.found.good) in
        let o = subst (λ (z : ℕ → ℕ → ℕ). Holding st z ws (set hs (hop_place_at ws (reached ws deep path) b) h) n) t p in
        let d = down-any st hop a deep r.prefix.addr_ok (omega (arith, short)) shape its-node o in
        become g
        (subst (λ (z : ℕ). Holding (node_stands (insert (unmarked_route a len h) rs)) (hop_for (insert (unmarked_route a len h) rs)) ws (set hs z h) n) (sym q)
        (subst (λ (z : ℕ → ℕ → Bool). Holding z (hop_for (insert (unmarked_route a len h) rs)) ws (set hs (hop_place_at ws (reached ws deep path) b) h) n) s d))
        refl (length-set hs y h)

    -- a hop stands there, so the place is lent
    pub replace-room : (y : ℕ) → y ≡ hop_place_at ws x b → y < length hs
    unfolding bit_hop
    replace-room y e = go (below? y (length hs))
      where
        there : get_or hs y 0 ≡ bit_hop hop (node deep path) b
        there =
            ap (λ (z : ℕ). get_or hs z 0) (e ∙ ap (λ (z : ℕ). hop_place_at ws z b) r.way.at) ∙ r.found.holds.put deep path b its-node r.bit.small its-bit

        go : (y < length hs) ⊎ (length hs ≤ y) → y < length hs
        go (inl u) = u
        go (inr u) = absurd (omega (arith, past hs y u, there, ltb-true 0 (bit_hop hop (node deep path) b) its-bit))
