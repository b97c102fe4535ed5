-- One image for one set of routes: two builds into arrays of equal lengths leave equal words and hops exactly when their inputs have the same prefixes
-- with the same hops, whatever their marks and whatever the arrays held before. In arrays of other lengths this holds of the part that is used.
use mathlib.Core.Path.{◌≡◌, refl, sym, ◌∙◌, ap, ap₂}
use mathlib.Core.Logic.{◌⊎◌, inl, inr, ◌↔◌}
use mathlib.Core.Bool.{Bool, true}
use mathlib.Core.List.Memᴰ
use mathlib.Core.List.{List, [], ◌∷◌, map, Memᴰ}
use Prim.Native.Nat.{ℕ, ◌+◌, ◌*◌, ◌≤◌, ◌<◌}
use native.Mathlib.Omega.{arith}
use lib.ListN.{length, take}
use lib.Seq.{take-append_seam}
use Rattle.bits.proofs.Bools.{below?}
use Rattle.routes.specs.Record.{routes_in}
use Rattle.routes.specs.Route.{plain, Good}
use Rattle.routes.specs.declared.Route.{Route}
use Rattle.standing.specs.Cells.{here}
use Rattle.tree_image.specs.Parts.{zero_padded}
use Rattle.tree_image.specs.Image.{Image, nodes, words, hops, node_stands, hop_for, image_by, image_of, node_need}
use Rattle.tree_image.proofs.Lies.{any-is, found-any, hop-of}
use Rattle.tree_image.proofs.Marks.{stands_plain, hops-plain}
use Rattle.tree_image.proofs.Needs.{hops-need}
use Rattle.tree_image.proofs.Nodes.{words-length}
use Rattle.tree_build.specs.Built.{ImageOut, built}
use Rattle.tree_build.specs.Cases.{AcceptedBuild}
use Rattle.tree_build.proofs.Serves.{built-accepts}
use Rattle.tree_same.specs.OneImage.{Has, SameRoutes, Builds, SameArrays, SameUsed}
use Rattle.tree_same.proofs.Plain.{plain-mem}
use Rattle.tree_same.proofs.Same.{same_hops, images-same, images-apart}

-- ---- the same prefixes with the same hops: the same list, marks aside

-- a prefix with its hop is found again in a list that has all of the first one's
found-again : (rs ss : List Route) → Good rs → Good ss → ((a l h : ℕ) → Has rs a l h → Has ss a l h) → (l q : ℕ) → 0 < hop_for rs l q → hop_for ss l q
    ≡ hop_for rs l q
found-again rs ss g k f l q h =
    let w = any-is (here l q) rs (found-any (here l q) rs h) in
    let r = w.0 in
    let y = f r.addr r.len r.hop record { route = r; listed = w.1; addr_is = refl; len_is = refl; hop_is = refl } in
    let there : here l q y.route ≡ true = rw (y.addr_is, y.len_is) w.2 in
    hop-of l q ss y.route k y.listed there ∙ y.hop_is ∙ sym (hop-of l q rs r g w.1 w.2)

-- a route without its mark is one of the list without marks
mem-plain : (rs : List Route) (r : Route) → Memᴰ r rs → Memᴰ (plain r) (map plain rs)
mem-plain [] r m = absurd (Memᴰ.not-nil m)
mem-plain (x ∷ rs) r m = go (Memᴰ.cases_cons m) (mem-plain rs r)
  where
    go : (r ≡ x) ⊎ Memᴰ r rs → (Memᴰ r rs → Memᴰ (plain r) (map plain rs)) → Memᴰ (plain r) (map plain (x ∷ rs))
    go (inl e) ih = Memᴰ.head (ap plain e)
    go (inr k) ih = Memᴰ.tail (ih k)

has-plain : (rs ss : List Route) → map plain rs ≡ map plain ss → (a l h : ℕ) → Has rs a l h → Has ss a l h
has-plain rs ss e a l h y =
    let w = plain-mem ss (plain y.route) (rw e at (mem-plain rs y.route y.listed)) in
    record {
      route = w.0;
      listed = w.1;
      addr_is = sym (ap (λ (r : Route). r.addr) w.2) ∙ y.addr_is;
      len_is = sym (ap (λ (r : Route). r.len) w.2) ∙ y.len_is;
      hop_is = sym (ap (λ (r : Route). r.hop) w.2) ∙ y.hop_is;
    }

pub same-routes : (rs ss : List Route) → Good rs → Good ss → SameRoutes rs ss ↔ (map plain rs ≡ map plain ss)
same-routes rs ss g k = (
  (λ f. (same_hops rs ss g k).0 (λ l q. go f l q (below? 0 (hop_for rs l q)) (below? 0 (hop_for ss l q)))),
  (λ e a l h. (has-plain rs ss e a l h, has-plain ss rs (sym e) a l h)),
)
  where
    go : SameRoutes rs ss → (l q : ℕ) → (0 < hop_for rs l q) ⊎ (hop_for rs l q ≤ 0) → (0 < hop_for ss l q) ⊎ (hop_for ss l q ≤ 0) → hop_for rs l q ≡ hop_for ss l q
    go f l q (inl u) v = sym (found-again rs ss g k (λ a l h. (f a l h).0) l q u)
    go f l q (inr u) (inl v) = found-again ss rs k g (λ a l h. (f a l h).1) l q v
    go f l q (inr u) (inr v) = omega arith

-- ---- arrays of equal lengths

module _ (rs ss : List Route) (ws hs vs ws' hs' vs' : List ℕ) (o p : ImageOut) (a : AcceptedBuild rs ws hs vs o) (b : AcceptedBuild ss ws' hs' vs' p)
    (ew : length ws ≡ length ws') (eh : length hs ≡ length hs') where
  second : (p.words ≡ (image_of ss (length ws) (length hs)).words) × (p.hops ≡ (image_of ss (length ws) (length hs)).hops)
  second = (
    b.words ∙ ap₂ (λ (w h : ℕ). (image_of ss w h).words) (sym ew) (sym eh),
    b.hops ∙ ap₂ (λ (w h : ℕ). (image_of ss w h).hops) (sym ew) (sym eh),
  )

  abbrev image : List ℕ → List ℕ → Image
  image x y = record { words = x; hops = y }

  arrays-same : SameArrays o p ↔ (map plain rs ≡ map plain ss)
  arrays-same = (
    (λ e.
        images-apart rs ss (length ws) (length hs) a.good_routes b.good_routes a.nodes_room a.hops_room
        (omega (arith, b.nodes_room)) (omega (arith, b.hops_room))
        (ap₂ image (sym a.words ∙ e.0 ∙ second.0) (sym a.hops ∙ e.1 ∙ second.1))),
    (λ e.
        let i = images-same rs ss (length ws) (length hs) e in
        (a.words ∙ ap (λ (x : Image). x.words) i ∙ sym second.0, a.hops ∙ ap (λ (x : Image). x.hops) i ∙ sym second.1)),
  )

-- Document 02, n: two record inputs, both built into arrays of equal lengths, whatever these held before.
module _ (s t ws hs ws' hs' : List ℕ) (n k n' k' : ℕ) (x : Builds s ws hs n k) (y : Builds t ws' hs' n' k') where
  first-is : AcceptedBuild (routes_in s) ws hs (n ∷ k ∷ []) (built s ws hs)
  first-is = built-accepts s ws hs (n ∷ k ∷ []) x.said

  second_is : AcceptedBuild (routes_in t) ws' hs' (n' ∷ k' ∷ []) (built t ws' hs')
  second_is = built-accepts t ws' hs' (n' ∷ k' ∷ []) y.said

  pub one-image : length ws ≡ length ws' → length hs ≡ length hs' → SameArrays (built s ws hs) (built t ws' hs') ↔
      (map plain (routes_in s) ≡ map plain (routes_in t))
  one-image ew eh = arrays-same (routes_in s) (routes_in t) ws hs _ ws' hs' _ _ _ first-is second_is ew eh

  -- and in the words of the document: the same prefixes with the same hops
  pub one-image-routes : length ws ≡ length ws' → length hs ≡ length hs' → SameArrays (built s ws hs) (built t ws' hs') ↔ SameRoutes (routes_in s) (routes_in t)
  one-image-routes ew eh =
      let i = one-image ew eh in
      let r = same-routes (routes_in s) (routes_in t) first-is.good_routes second_is.good_routes in
      ((λ e. r.1 (i.0 e)), (λ e. i.1 (r.0 e)))

-- ---- the used part, in arrays of any lengths

module _ (rs : List Route) (g : Good rs) (w h : ℕ) where
  used-words : take (3 * node_need rs) (image_of rs w h).words ≡ words (node_stands rs) (hop_for rs)
  unfolding image_by words
  used-words =
      ap (λ (z : ℕ). take z (image_of rs w h).words) (sym (words-length (node_stands rs) (hop_for rs) (nodes (node_stands rs)) 1 0))
      ∙ take-append_seam (words (node_stands rs) (hop_for rs)) _

  used-hops : take (length rs) (image_of rs w h).hops ≡ hops (node_stands rs) (hop_for rs)
  unfolding image_by
  used-hops = ap (λ (z : ℕ). take z (image_of rs w h).hops) (sym (hops-need rs g)) ∙ take-append_seam (hops (node_stands rs) (hop_for rs)) _

-- lists that are the same but for their marks: the same nodes stand, with the same hops
plain-stands : (rs ss : List Route) → map plain rs ≡ map plain ss → (node_stands rs ≡ node_stands ss) × (hop_for rs ≡ hop_for ss)
plain-stands rs ss e = (
  sym (stands_plain rs) ∙ ap node_stands e ∙ stands_plain ss,
  sym (hops-plain rs) ∙ ap hop_for e ∙ hops-plain ss,
)

-- what the images of two lists have in use
used-apart : (rs ss : List Route) → Good rs → Good ss → words (node_stands rs) (hop_for rs) ≡ words (node_stands ss) (hop_for ss)
    → hops (node_stands rs) (hop_for rs) ≡ hops (node_stands ss) (hop_for ss) → map plain rs ≡ map plain ss
unfolding image_by
used-apart rs ss g k e f =
    let w = 3 * node_need rs + 3 * node_need ss in
    let h = length rs + length ss in
    images-apart rs ss w h g k (omega arith) (omega arith) (omega arith) (omega arith) (ap₂ (both-padded w h) e f)
  where
    both-padded : ℕ → ℕ → List ℕ → List ℕ → Image
    both-padded w h x y = record { words = zero_padded w x; hops = zero_padded h y }

module _ (s t ws hs ws' hs' : List ℕ) (n k n' k' : ℕ) (x : Builds s ws hs n k) (y : Builds t ws' hs' n' k') where
  abbrev rs : List Route
  rs = routes_in s

  abbrev ss : List Route
  ss = routes_in t

  its-use : (ws₀ hs₀ : List ℕ) (o : ImageOut) (m j : ℕ) (qs : List Route) → AcceptedBuild qs ws₀ hs₀ (m ∷ j ∷ []) o
      → (m ≡ node_need qs) × (j ≡ length qs) × (take (3 * m) o.words ≡ words (node_stands qs) (hop_for qs)) ×
      (take j o.hops ≡ hops (node_stands qs) (hop_for qs))
  its-use ws₀ hs₀ o m j qs a =
      let v = a.values in
      let p : m ≡ node_need qs = cc in
      let q : j ≡ length qs = cc in (
        p,
        q,
        ap₂ (λ (z : ℕ) (l : List ℕ). take (3 * z) l) p a.words ∙ used-words qs a.good_routes (length ws₀) (length hs₀),
        ap₂ (λ (z : ℕ) (l : List ℕ). take z l) q a.hops ∙ used-hops qs a.good_routes (length ws₀) (length hs₀),
      )

  -- the same prefixes with the same hops: as many nodes and hops, and the same in them; and the other way about
  pub used-part-same : ((n ≡ n') × (k ≡ k') × SameUsed n k (built s ws hs) (built t ws' hs')) ↔ (map plain rs ≡ map plain ss)
  used-part-same =
      let a = first-is s t ws hs ws' hs' n k n' k' x y in
      let b = second_is s t ws hs ws' hs' n k n' k' x y in
      let u = its-use ws hs _ n k rs a in
      let v = its-use ws' hs' _ n' k' ss b in (
        (λ e.
            used-apart rs ss a.good_routes b.good_routes
            (sym u.2 ∙ e.2.0 ∙ ap (λ (z : ℕ). take (3 * z) (built t ws' hs').words) e.0 ∙ v.2)
            (sym u.3 ∙ e.2.1 ∙ ap (λ (z : ℕ). take z (built t ws' hs').hops) e.1 ∙ v.3)),
        (λ e.
            let st = plain-stands rs ss e in
            let p : n ≡ n' = u.0 ∙ ap (λ (f : ℕ → ℕ → Bool). length (nodes f)) st.0 ∙ sym v.0 in
            let q : k ≡ k' = u.1 ∙ sym (hops-need rs a.good_routes) ∙ ap₂ (λ (f : ℕ → ℕ → Bool) (g : ℕ → ℕ → ℕ). length (hops f g)) st.0
            st.1 ∙ hops-need ss b.good_routes ∙ sym v.1 in (
              p,
              q,
              (
                u.2 ∙ ap₂ words st.0 st.1 ∙ sym v.2 ∙ ap (λ (z : ℕ). take (3 * z) (built t ws' hs').words) (sym p),
                u.3 ∙ ap₂ hops st.0 st.1 ∙ sym v.3 ∙ ap (λ (z : ℕ). take z (built t ws' hs').hops) (sym q),
              ),
            )),
      )
