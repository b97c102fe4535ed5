-- Any run of announcements and withdrawals on a built image, refused ones among them: the arrays are the image of the routes then standing, and these
-- are worked out from the accepted calls alone.
use mathlib.Core.Path.{◌≡◌, refl, sym, ◌∙◌, ap, ap₂}
use mathlib.Core.Logic.{◌⊎◌, inl, inr}
use mathlib.Core.Bool.{Bool, true, false, true≢false, cond}
use mathlib.Core.List.{List, [], ◌∷◌, map}
use Prim.Native.Nat.{ℕ}
use native.Mathlib.Omega.{arith}
use lib.ListN.{length, length-map}
use Rattle.bits.proofs.Bools.{decided}
use Rattle.routes.specs.Record.{routes_in}
use Rattle.routes.specs.Route.{key_of, plain}
use Rattle.routes.specs.Said.{accepted, accepts}
use Rattle.routes.specs.declared.Route.{Route}
use Rattle.standing.specs.Standing.{route_at}
use Rattle.standing.proofs.Standing.{insert-stands, remove-stands}
use Rattle.tree_image.specs.Image.{Image, image_of}
use Rattle.tree_image.proofs.Marks.{image-unmarked, nodes-unmarked}
use Rattle.tree_build.specs.Built.{ImageOut, image_out, built}
use Rattle.tree_build.proofs.Serves.{built-accepts}
use Rattle.tree_same.specs.Listed.{routes_held}
use Rattle.tree_same.specs.OneImage.{Builds, SameArrays}
use Rattle.tree_same.proofs.Plain.{plain-good}
use Rattle.tree_formed.proofs.Exact.{accepted-few}
use Rattle.tree_theory.specs.Changed.{unmarked_route, image_announced, image_withdrawn}
use Rattle.tree_theory.specs.Cases.{ImageLeft}
use Rattle.tree_theory.proofs.Cases.{announce-leaves}
use Rattle.tree_theory.proofs.Takes.{withdraw-leaves}
use Rattle.tree_theory.proofs.Fresh.{change-stands, change-sizes, announce-left, withdraw-left}
use Rattle.tree_runs.specs.ImageRuns.{
  ImageCall,
  announce,
  withdraw,
  image_done,
  image_after,
  image_standing_after,
  image_held_after,
  image_held_by_calls,
  image_routes_after,
}
use Rattle.tree_runs.proofs.Narrow.{left-narrow}

-- what a change leaves of arrays as long as others, it leaves of those
resized : {rs : List Route} {ws hs ws' hs' : List ℕ} {o : ImageOut} → length ws ≡ length ws' → length hs ≡ length hs' → ImageLeft rs ws hs o
    → ImageLeft rs ws' hs' o
resized {rs} d e l = record {
  fit = record { good = l.fit.good; few = l.fit.few; nodes = rw d at l.fit.nodes; hops = rw e at l.fit.hops };
  unmarked = l.unmarked;
  words = l.words ∙ ap₂ (λ (m n : ℕ). (image_of rs m n).words) d e;
  hops = l.hops ∙ ap₂ (λ (m n : ℕ). (image_of rs m n).hops) d e;
}

-- the arrays are the image of the routes that they hold
abbrev Itself : List ℕ → List ℕ → Type 0
Itself ws hs = ImageLeft (routes_held ws hs) ws hs (image_out (accepted []) ws hs)

-- ---- one call

-- what it leaves: the image of the routes that would then stand, if it is accepted, and else all as it was
pub record ImageLeaves (ws hs : List ℕ) (c : ImageCall) (o : ImageOut) : Type 0 where
  pub left : ImageLeft (routes_held o.words o.hops) ws hs o
  pub list_so : routes_held o.words o.hops ≡ cond (accepts o.said) (image_routes_after c (routes_held ws hs)) (routes_held ws hs)
  pub kept : accepts o.said ≡ false → (o.words ≡ ws) × (o.hops ≡ hs)

module _ (ws hs : List ℕ) (fine : Itself ws hs) (c : ImageCall) (o : ImageOut) where
  refused-leaves : accepts o.said ≡ false → (o.words ≡ ws) × (o.hops ≡ hs) → ImageLeaves ws hs c o
  refused-leaves e k = record {
    left = record {
      fit = rw (k.0, k.1) fine.fit;
      unmarked = rw (k.0, k.1) fine.unmarked;
      words = rw (k.0, k.1) fine.words;
      hops = rw (k.0, k.1) fine.hops;
    };
    list_so = rw (e, k.0, k.1) refl;
    kept = λ _. k;
  }

  taken-leaves : accepts o.said ≡ true → ImageLeft (image_routes_after c (routes_held ws hs)) ws hs o → ImageLeaves ws hs c o
  taken-leaves e l = record {
    left = rw (change-stands l) l;
    list_so = rw (e, change-stands l) refl;
    kept = λ f. absurd (true≢false (sym e ∙ f));
  }

module _ (ws hs : List ℕ) (fine : Itself ws hs) where
  leaves : (c : ImageCall) → ImageLeaves ws hs c (image_done ws hs c)
  unfolding image_done
  leaves (announce a len h) = go (decided (accepts (image_announced ws hs a len h).said))
    where
      go : (accepts (image_announced ws hs a len h).said ≡ true) ⊎ (accepts (image_announced ws hs a len h).said ≡ false)
          → ImageLeaves ws hs (announce a len h) (image_announced ws hs a len h)
      go (inl e) = taken-leaves ws hs fine (announce a len h) _ e (announce-left ws hs a len (left-narrow fine) h e)
      go (inr e) = refused-leaves ws hs fine (announce a len h) _ e (announce-leaves ws hs a len h e)
  leaves (withdraw a len) = go (decided (accepts (image_withdrawn ws hs a len).said))
    where
      go : (accepts (image_withdrawn ws hs a len).said ≡ true) ⊎ (accepts (image_withdrawn ws hs a len).said ≡ false)
          → ImageLeaves ws hs (withdraw a len) (image_withdrawn ws hs a len)
      go (inl e) = taken-leaves ws hs fine (withdraw a len) _ e (withdraw-left ws hs a len (left-narrow fine) e)
      go (inr e) = refused-leaves ws hs fine (withdraw a len) _ e (withdraw-leaves ws hs a len (left-narrow fine) e)

-- what would stand for a prefix then
says_so : (c : ImageCall) (rs : List Route) (k : ℕ) → route_at k (image_routes_after c rs) ≡ image_held_after c k (route_at k rs)
says_so (announce a len h) rs k = insert-stands k (unmarked_route a len h) rs
says_so (withdraw a len) rs k = remove-stands (key_of a len) k rs

-- ---- the build at the beginning

plain-twice : (rs : List Route) → map plain (map plain rs) ≡ map plain rs
plain-twice [] = refl
plain-twice (r ∷ rs) = ap (λ (x : List Route). plain r ∷ x) (plain-twice rs)

module _ (s ws hs : List ℕ) (n k : ℕ) (b : Builds s ws hs n k) where
  begun : ImageLeft (map plain (routes_in s)) ws hs (built s ws hs)
  begun =
      let a = built-accepts s ws hs (n ∷ k ∷ []) b.said in
      let i = image-unmarked (routes_in s) (length ws) (length hs) in
      let few = accepted-few s ws hs (n ∷ k ∷ []) b.said in
      record {
        fit = record {
          good = plain-good (routes_in s) a.good_routes;
          few = omega (arith, length-map (routes_in s) plain, few);
          nodes = omega (arith, nodes-unmarked (routes_in s), a.nodes_room);
          hops = omega (arith, length-map (routes_in s) plain, a.hops_room);
        };
        unmarked = plain-twice (routes_in s);
        words = a.words ∙ sym (ap (λ (x : Image). x.words) i);
        hops = a.hops ∙ sym (ap (λ (x : Image). x.hops) i);
      }

  -- ---- runs

  pub record ImageRunIs (cs : List ImageCall) : Type 0 where
    pub left : ImageLeft (image_standing_after s ws hs cs) ws hs (image_after s ws hs cs)
    pub stands_so : (j : ℕ) → route_at j (image_standing_after s ws hs cs) ≡ image_held_by_calls s ws hs cs j

  -- the arrays as they are after a run are what is lent to the next call
  lent-next : (cs : List ImageCall) → ImageRunIs cs → Itself (image_after s ws hs cs).words (image_after s ws hs cs).hops
  lent-next cs w =
      let z = change-sizes w.left in
      let l = resized (sym z.0) (sym z.1) w.left in
      record { fit = l.fit; unmarked = l.unmarked; words = l.words; hops = l.hops }

  next : (c : ImageCall) (cs : List ImageCall) → ImageRunIs cs → ImageLeaves (image_after s ws hs cs).words (image_after s ws hs cs).hops c
      (image_after s ws hs (c ∷ cs))
  unfolding image_after
  next c cs w = leaves _ _ (lent-next cs w) c

  -- what stands for a prefix, if the call is accepted and if it is not
  either : (c : ImageCall) (cs : List ImageCall) → ImageRunIs cs → (b : Bool) (j : ℕ)
      → route_at j (cond b (image_routes_after c (image_standing_after s ws hs cs)) (image_standing_after s ws hs cs)) ≡ cond b
      (image_held_after c j (image_held_by_calls s ws hs cs j)) (image_held_by_calls s ws hs cs j)
  either c cs w true j = says_so c (image_standing_after s ws hs cs) j ∙ ap (image_held_after c j) (w.stands_so j)
  either c cs w false j = w.stands_so j

  run_is : (cs : List ImageCall) → ImageRunIs cs
  unfolding image_after image_held_by_calls
  run_is [] = record { left = rw (change-stands begun) begun; stands_so = λ j. ap (route_at j) (change-stands begun) }
  run_is (c ∷ cs) = go (run_is cs)
    where
      go : ImageRunIs cs → ImageRunIs (c ∷ cs)
      go w =
          let z = change-sizes w.left in
          let m = next c cs w in
          record {
            left = resized z.0 z.1 m.left;
            stands_so = λ j. ap (route_at j) m.list_so ∙ either c cs w (accepts (image_after s ws hs (c ∷ cs)).said) j;
          }

  -- After any run the arrays are the image of the routes then standing, which are good, have no marks and fit.
  pub image-run : (cs : List ImageCall) → ImageLeft (image_standing_after s ws hs cs) ws hs (image_after s ws hs cs)
  image-run cs = (run_is cs).left

  pub image-run-standing : (cs : List ImageCall) (j : ℕ) → route_at j (image_standing_after s ws hs cs) ≡ image_held_by_calls s ws hs cs j
  image-run-standing cs = (run_is cs).stands_so

  -- from call to call: what is accepted changes the routes as it says, and what is refused leaves both arrays
  pub image-run-list : (c : ImageCall) (cs : List ImageCall)
      → image_standing_after s ws hs (c ∷ cs) ≡ cond (accepts (image_after s ws hs (c ∷ cs)).said) (image_routes_after c (image_standing_after s ws hs cs))
      (image_standing_after s ws hs cs)
  image-run-list c cs = (next c cs (run_is cs)).list_so

  pub image-run-refused : (c : ImageCall) (cs : List ImageCall) → accepts (image_after s ws hs (c ∷ cs)).said ≡ false → SameArrays
      (image_after s ws hs (c ∷ cs)) (image_after s ws hs cs)
  image-run-refused c cs = (next c cs (run_is cs)).kept
