-- The change alters no hop cell before the place of the changed one.
use mathlib.Core.Path.{◌≡◌, refl, sym, ◌∙◌, ap, ap₂}
use mathlib.Core.Logic.{◌⊎◌, inl, inr}
use mathlib.Core.Bool.{true, false}
use mathlib.Core.List.{List}
use Prim.Native.Nat.{ℕ, ◌/◌, ◌^◌, ◌<◌}
use lib.Dec.{ltb}
use lib.ListN.{length, get_or}
use borrow.Author.Tests.{eq-eqb, lt-ltb}
use Rattle.bits.specs.Slot.{slot}
use Rattle.bits.proofs.Bools.{decided}
use Rattle.routes.specs.Route.{key_of, Fine, Good}
use Rattle.routes.specs.Said.{accepts}
use Rattle.routes.specs.declared.Route.{Route}
use Rattle.routes.proofs.Meaning.{prefix-true}
use Rattle.standing.specs.Standing.{stands, remove}
use Rattle.standing.proofs.Changed.{remove_absent}
use Rattle.tree_image.specs.Parts.{zero_padded}
use Rattle.tree_image.specs.Image.{hops, image_by, node_stands, hop_for, node_need}
use Rattle.tree_build.specs.Built.{ImageOut}
use Rattle.tree_same.specs.Holding.{Holding}
use Rattle.tree_same.specs.Listed.{routes_held}
use Rattle.tree_formed.specs.WellFormed.{nodes_used}
use Rattle.tree_formed.proofs.Meaning.{well-formed-is}
use Rattle.tree_formed.proofs.Held.{held-holds, held-image}
use Rattle.tree_hold.specs.More.{down_to, with_hop}
use Rattle.tree_hold.proofs.Paths.{insert-hops, stands-hop}
use Rattle.tree_theory.specs.Changed.{unmarked_route, image_announced, image_withdrawn, prefix_place}
use Rattle.tree_theory.specs.Cases.{ImageAsked, routes_with, ImageLeft}
use Rattle.tree_theory.proofs.Cases.{its-fit, is-fine, announce-put}
use Rattle.tree_theory.proofs.Takes.{TakenOut, withdraw-taken}
use Rattle.tree_theory.proofs.Fresh.{announce-left, change-sizes, change-holds}
use Rattle.tree_theory.proofs.Without.{out-again}
use Rattle.tree_theory.proofs.Frame.{place-shared, cells-shared}

-- the hops of a list's image, in n cells
abbrev cells : List Route → ℕ → ℕ → ℕ
cells rs n j = get_or (zero_padded n (hops (node_stands rs) (hop_for rs))) j 0

-- the words of the other routes with the path of the prefix
abbrev base : List Route → ℕ → ℕ → ℕ → ℕ → List ℕ
base x a len m n = (image_by (down_to (node_stands x) a (len / 4)) (hop_for x) m n).words

with-own : (hop : ℕ → ℕ → ℕ) (l q h : ℕ) → with_hop hop l q h l q ≡ h
unfolding with_hop
with-own hop l q h = rw (eq-eqb l l refl, eq-eqb q q refl) refl

module _ (ws hs : List ℕ) (a len h : ℕ) (narrow : (j : ℕ) → get_or ws j 0 < 2 ^ 32) (ok : accepts (image_announced ws hs a len h).said ≡ true) where
  abbrev after : ImageOut
  after = image_announced ws hs a len h

  abbrev rs : List Route
  rs = routes_held ws hs

  abbrev rs' : List Route
  rs' = routes_with ws hs a len h

  asked : ImageAsked ws hs a len h
  asked = (announce-put ws hs a len h ok).asked

  fine : Fine (unmarked_route a len h)
  fine = is-fine a len h asked.prefix asked.hop

  good : Good rs
  good = (its-fit ws hs narrow asked.image).good

  left : ImageLeft rs' ws hs after
  left = announce-left ws hs a len narrow h ok

  good' : Good rs'
  good' = left.fit.good

  sizes : (length after.words ≡ length ws) × (length after.hops ≡ length hs)
  sizes = change-sizes left

  held' : Holding (node_stands rs') (hop_for rs') after.words after.hops (node_need rs')
  held' = change-holds left

  stood' : stands (key_of a len) rs' ≡ true
  stood' =
      stands-hop a len rs' fine.prefix good'
      ∙ ap (ltb 0) (ap (λ (f : ℕ → ℕ → ℕ). f len (slot len a)) (insert-hops (unmarked_route a len h) rs fine good) ∙ with-own (hop_for rs) len (slot len a) h)
      ∙ lt-ltb 0 h fine.hop_one

  others : remove (key_of a len) rs' ≡ remove (key_of a len) rs
  others = out-again (unmarked_route a len h) rs fine good

  -- the cells of the new image below the place are those of the other routes
  new-cells : (j : ℕ) → j < prefix_place after.words len (slot len a) → get_or after.hops j 0 ≡ cells (remove (key_of a len) rs) (length hs) j
  new-cells j l =
      cells-shared rs' a len good' fine.prefix stood' held' j l ∙ ap₂ (λ (n : ℕ) (x : List Route). cells x n j) sizes.1 others

  held : Holding (node_stands rs) (hop_for rs) ws hs (nodes_used ws)
  held = held-holds ws hs (nodes_used ws) (well-formed-is ws hs asked.image) narrow

  -- and so are those of the old one
  old-cells : (stands (key_of a len) rs ≡ true) ⊎ (stands (key_of a len) rs ≡ false) → (j : ℕ) → j < prefix_place after.words len (slot len a)
      → get_or hs j 0 ≡ cells (remove (key_of a len) rs) (length hs) j
  unfolding image_by
  old-cells (inl s) j l = cells-shared rs a len good fine.prefix s held j (rw same_place l)
    where
      same_place : prefix_place ws len (slot len a) ≡ prefix_place after.words len (slot len a)
      same_place =
          place-shared rs a len good fine.prefix s held
          ∙ sym (place-shared rs' a len good' fine.prefix stood' held' ∙ shared)
        where
          shared : prefix_place (base (remove (key_of a len) rs') a len (length after.words) (length after.hops)) len (slot len a)
              ≡ prefix_place (base (remove (key_of a len) rs) a len (length ws) (length hs)) len (slot len a)
          shared =
              ap₂ (λ (m n : ℕ). prefix_place (base (remove (key_of a len) rs') a len m n) len (slot len a)) sizes.0 sizes.1
              ∙ ap (λ (x : List Route). prefix_place (base x a len (length ws) (length hs)) len (slot len a)) others
  old-cells (inr s) j l =
      ap (λ (v : List ℕ). get_or v j 0) (held-image ws hs (nodes_used ws) (well-formed-is ws hs asked.image) narrow).1
      ∙ ap (λ (x : List Route). cells x (length hs) j) (sym (remove_absent (key_of a len) rs s))

  pub announce-hops-before : (j : ℕ) → j < prefix_place after.words len (slot len a) → get_or after.hops j 0 ≡ get_or hs j 0
  announce-hops-before j l = new-cells j l ∙ sym (old-cells (decided (stands (key_of a len) rs)) j l)

module _ (ws hs : List ℕ) (a len : ℕ) (narrow : (j : ℕ) → get_or ws j 0 < 2 ^ 32) (ok : accepts (image_withdrawn ws hs a len).said ≡ true) where
  taken : TakenOut ws hs a len narrow
  taken = withdraw-taken ws hs a len narrow ok

  pub withdraw-hops-before : (j : ℕ) → j < prefix_place ws len (slot len a) → get_or (image_withdrawn ws hs a len).hops j 0 ≡ get_or hs j 0
  unfolding image_by
  withdraw-hops-before j l =
      ap (λ (o : ImageOut). get_or o.hops j 0) taken.told
      ∙ sym (cells-shared (routes_held ws hs) a len (its-fit ws hs narrow taken.image).good (prefix-true a len taken.prefix) taken.stood
      (held-holds ws hs (nodes_used ws) (well-formed-is ws hs taken.image) narrow) j l)
