-- No hop cell before the place of the changed one is altered: below the place of a prefix the hops of an image are those of the image of the
-- other routes, whatever its hop is and whether it stands.
use mathlib.Core.Path.{◌≡◌, refl, sym, ◌∙◌, ap, ap₂, subst}
use mathlib.Core.Bool.{Bool, true}
use mathlib.Core.List.{List}
use Prim.Native.Nat.{ℕ, ◌+◌, ◌*◌, ◌/◌, ◌%◌, ◌^◌, ◌≤◌, ◌<◌}
use native.Mathlib.Nat.{mod-lt}
use native.Mathlib.Omega.{arith}
use lib.ListN.{length, get_or}
use lib.Pow.{pow_pos}
use Rattle.bits.specs.Slot.{slot}
use Rattle.bits.proofs.Slots.{slot-up}
use Rattle.routes.specs.Route.{key_of, Prefix, Good}
use Rattle.routes.specs.declared.Route.{Route}
use Rattle.standing.specs.Standing.{stands, remove}
use Rattle.tree_image.specs.Parts.{zero_padded}
use Rattle.tree_image.specs.Image.{node, bit_hop, hops, image_by, node_stands, hop_for}
use Rattle.tree_image.proofs.Lies.{inner-len}
use Rattle.tree_same.specs.Read.{reached, path_of, bit_for, hop_place_at}
use Rattle.tree_same.specs.Order.{stands_at}
use Rattle.tree_same.specs.Holding.{Holding}
use Rattle.tree_same.proofs.Back.{Shaped}
use Rattle.tree_same.proofs.Same.{fits}
use Rattle.tree_same.proofs.Holdings.{holds-image}
use Rattle.tree_hold.specs.More.{down_to, with_hop}
use Rattle.tree_hold.proofs.Paths.{on-path, down-shaped}
use Rattle.tree_hold.proofs.Taken.{len_at, bits_at, Before, before}
use Rattle.tree_theory.specs.Stages.{BitOf}
use Rattle.tree_theory.specs.Changed.{prefix_place}
use Rattle.tree_theory.proofs.Places.{hop-at-bit}
use Rattle.tree_theory.proofs.Needs.{down-hops}
use Rattle.tree_theory.proofs.Without.{Without, without_is, held_with}

-- the path and the bit of a prefix
prefix-path : (a len : ℕ) → len ≤ 32 → path_of len (slot len a) ≡ slot (4 * (len / 4)) a
prefix-path a len l =
    let e : 4 * (len / 4) + len % 4 ≡ len = omega arith in
    ap (λ (z : ℕ). slot z a / 2 ^ (len % 4)) (sym e) ∙ slot-up (4 * (len / 4)) (len % 4) a (omega arith)

bit-of-prefix : (a len : ℕ) → len ≤ 32 → BitOf a len (bit_for len (slot len a))
bit-of-prefix a len l =
    record { small = (inner-len (len % 4) (slot len a % 2 ^ (len % 4)) (omega arith) (mod-lt (slot len a) (pow_pos (len % 4)))).0; is = refl }

module _ (rs : List Route) (a len : ℕ) (good : Good rs) (p : Prefix a len) (stood : stands (key_of a len) rs ≡ true) where
  abbrev deep : ℕ
  deep = len / 4

  abbrev path : ℕ
  path = slot (4 * deep) a

  abbrev b : ℕ
  b = bit_for len (slot len a)

  abbrev st₀ : ℕ → ℕ → Bool
  st₀ = node_stands (remove (key_of a len) rs)

  abbrev hop₀ : ℕ → ℕ → ℕ
  hop₀ = hop_for (remove (key_of a len) rs)

  by : Without rs a len
  by = without_is rs a len good p stood

  bit : BitOf a len b
  bit = bit-of-prefix a len p.len_ok

  shape : Shaped (down_to st₀ a deep) hop₀
  shape = down-shaped st₀ a p.addr_ok hop₀ deep (omega (arith, p.len_ok)) (fits (remove (key_of a len) rs) by.good)

  -- the node of the prefix stands, and its bit there is free
  end-stands : stands_at (down_to st₀ a deep) deep path ≡ true
  end-stands = on-path st₀ a p.addr_ok deep deep (omega arith)

  end-free : bit_hop hop₀ (node deep path) b ≡ 0
  end-free = hop-at-bit bit p.len_ok hop₀ ∙ by.gone

  module _ {ws hs : List ℕ} {n : ℕ} (h : Holding (node_stands rs) (hop_for rs) ws hs n) where
    held : Holding (down_to st₀ a deep) (with_hop hop₀ (len_at deep b) (bits_at path b) by.hop) ws hs n
    held = held_with by p.len_ok bit h

    -- the arrays without the hop
    without-hop : Before deep path b by.hop shape bit.small end-stands end-free by.some held
    without-hop = before deep path b by.hop shape bit.small end-stands end-free by.some held

    -- the place is that in the image of the other routes with the path of the prefix
    pub place-shared : prefix_place ws len (slot len a) ≡ prefix_place (image_by (down_to st₀ a deep) hop₀ (length ws) (length hs)).words len (slot len a)
    place-shared =
        let o = without-hop in
        let w = (holds-image (down_to st₀ a deep) hop₀ o.words o.hops n shape.agree.nine o.holds).0 in
        let e : o.words ≡ (image_by (down_to st₀ a deep) hop₀ (length ws) (length hs)).words =
        w ∙ ap₂ (λ (u v : ℕ). (image_by (down_to st₀ a deep) hop₀ u v).words) (sym o.put.same) (sym o.put.same_hops) in
        let q = prefix-path a len p.len_ok in
        ap (λ (z : ℕ). hop_place_at ws (reached ws deep z) b) q ∙ o.put.place ∙ ap (λ (z : ℕ). hop_place_at o.words z b) o.at
        ∙ ap (λ (v : List ℕ). hop_place_at v (reached v deep path) b) e ∙ ap (λ (z : ℕ). hop_place_at new (reached new deep z) b) (sym q)
      where
        new : List ℕ
        new = (image_by (down_to st₀ a deep) hop₀ (length ws) (length hs)).words

    -- below it the hops are those of the other routes
    pub cells-shared : (j : ℕ) → j < prefix_place ws len (slot len a) → get_or hs j 0 ≡ get_or (zero_padded (length hs) (hops st₀ hop₀)) j 0
    unfolding image_by
    cells-shared j l =
        let o = without-hop in
        let w = (holds-image (down_to st₀ a deep) hop₀ o.words o.hops n shape.agree.nine o.holds).1 in
        let q = prefix-path a len p.len_ok in
        let u : j < hop_place_at ws (reached ws deep path) b =
        subst (λ (z : ℕ). j < hop_place_at ws (reached ws deep z) b) q l in
        o.put.hops_below j u
        ∙ ap (λ (v : List ℕ). get_or v j 0)
        (w ∙ ap₂ (λ (m : ℕ) (v : List ℕ). zero_padded m v) (sym o.put.same_hops)
        (down-hops st₀ hop₀ a p.addr_ok (fits (remove (key_of a len) rs) by.good) deep (omega (arith, p.len_ok))))
