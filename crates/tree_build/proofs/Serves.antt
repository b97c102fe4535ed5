-- What a build is worth: the image that it leaves serves every address, and a refusal leaves all as it was.
use mathlib.Core.Path.{◌≡◌, refl, subst}
use mathlib.Core.Logic.{◌⊎◌, inl, inr}
use mathlib.Core.List.{List, [], ◌∷◌}
use Prim.Native.Nat.{ℕ, ◌/◌, ◌^◌, ◌≤◌, ◌<◌}
use native.Mathlib.Omega.{arith}
use lib.ListN.{length}
use borrow.Author.Tests.{lt-ltb, le-ltb}
use Rattle.bits.proofs.Bools.{below?}
use Rattle.routes.specs.Route.{Good}
use Rattle.standing.specs.Cells.{best}
use Rattle.routes.specs.Record.{Records, routes_in}
use Rattle.routes.specs.Input.{input_said}
use Rattle.routes.specs.Said.{Said, accepted, refused, refused_at}
use Rattle.routes.specs.declared.Route.{Route}
use Rattle.routes.specs.Cases.{Checked, ragged, stopped, many, good}
use Rattle.routes.proofs.Meaning.{input-checked}
use Rattle.tree_image.specs.Image.{node_need, on_path}
use Rattle.tree_image.specs.Walk.{tree_hop_said, tree_said}
use Rattle.tree_image.proofs.Serves.{image-serves}
use Rattle.tree_build.specs.Built.{made_of, after_input, built}
use Rattle.tree_build.specs.Cases.{AcceptedBuild}
use Rattle.tree_node.proofs.NodeRuns.{good-list}

made-accepts : (rs : List Route) (ws hs vs : List ℕ) → Good rs → (made_of rs ws hs).said ≡ accepted vs → AcceptedBuild rs ws hs vs (made_of rs ws hs)
unfolding made_of
made-accepts rs ws hs vs g e = go (below? (length ws / 3) (node_need rs)) (below? (length hs) (length rs))
  where
    go : (length ws / 3 < node_need rs) ⊎ (node_need rs ≤ length ws / 3) → (length hs < length rs) ⊎ (length rs ≤ length hs)
        → AcceptedBuild rs ws hs vs (made_of rs ws hs)
    go (inl l) v = absurd (let f : refused 11 ≡ accepted vs = rw (lt-ltb (length ws / 3) (node_need rs) l) at e in let z : ◌≡◌ {A = ℕ} 0 1 = cc in omega arith)
    go (inr l) (inl v) = absurd (let f : refused 12 ≡ accepted vs = rw
        (le-ltb (length ws / 3) (node_need rs) l, lt-ltb (length hs) (length rs) v) at e in let z : ◌≡◌ {A = ℕ} 0 1 = cc in omega arith)
    go (inr l) (inr v) =
        let f : accepted (node_need rs ∷ length rs ∷ []) ≡ accepted vs = rw (le-ltb (length ws / 3) (node_need rs) l, le-ltb (length hs) (length rs) v) at e in
        record {
          good_routes = g;
          values = cc;
          nodes_room = omega arith;
          hops_room = v;
          words = rw (le-ltb (length ws / 3) (node_need rs) l, le-ltb (length hs) (length rs) v);
          hops = rw (le-ltb (length ws / 3) (node_need rs) l, le-ltb (length hs) (length rs) v);
        }

pub built-accepts : (s ws hs vs : List ℕ) → (built s ws hs).said ≡ accepted vs → AcceptedBuild (routes_in s) ws hs vs (built s ws hs)
unfolding built
built-accepts s ws hs vs e = go (input-checked s) e
  where
    go : {x : Said} → Checked s x → (after_input x s ws hs).said ≡ accepted vs → AcceptedBuild (routes_in s) ws hs vs (after_input x s ws hs)
    go (ragged w) f = absurd (let z : ◌≡◌ {A = ℕ} 0 1 = cc in omega arith)
    go (stopped k n w l b x p) f = absurd (let z : ◌≡◌ {A = ℕ} 0 1 = cc in omega arith)
    go (many w a m) f = absurd (let z : ◌≡◌ {A = ℕ} 0 1 = cc in omega arith)
    go (good n w r) f =
        let d : n ≡ length s / 8 = omega arith in
        made-accepts (routes_in s) ws hs vs (good-list s (subst (Records s) d r)) f

-- every address, after an accepted build: the hop of the longest route that covers it, or no route, told after the nodes on its path
pub built-serves : (s ws hs vs : List ℕ) (a : ℕ) → (built s ws hs).said ≡ accepted vs → a < 2 ^ 32
    → tree_said (built s ws hs).words (built s ws hs).hops a ≡ tree_hop_said (best (routes_in s) 32 a) (on_path (routes_in s) a)
built-serves s ws hs vs a e l =
    let k = built-accepts s ws hs vs e in
    rw (k.words, k.hops) (image-serves (routes_in s) (length ws) (length hs) a k.good_routes l k.nodes_room k.hops_room)

-- a refusal leaves both arrays as they were
pub refused-leaves : (s ws hs : List ℕ) → ((vs : List ℕ) → (built s ws hs).said ≡ accepted vs → ⊥) → ((built s ws hs).words ≡ ws) × ((built s ws hs).hops ≡ hs)
unfolding built made_of
refused-leaves s ws hs n = go (input_said s) n
  where
    made : ((vs : List ℕ) → (made_of (routes_in s) ws hs).said ≡ accepted vs → ⊥) → (length ws / 3 < node_need (routes_in s)) ⊎
        (node_need (routes_in s) ≤ length ws / 3) → (length hs < length (routes_in s)) ⊎ (length (routes_in s) ≤ length hs)
        → ((made_of (routes_in s) ws hs).words ≡ ws) × ((made_of (routes_in s) ws hs).hops ≡ hs)
    made k (inl l) v = rw (lt-ltb (length ws / 3) (node_need (routes_in s)) l) (refl, refl)
    made k (inr l) (inl v) = rw (le-ltb (length ws / 3) (node_need (routes_in s)) l, lt-ltb (length hs) (length (routes_in s)) v) (refl, refl)
    made k (inr l) (inr v) = absurd (k (node_need (routes_in s) ∷ length (routes_in s) ∷ [])
        (rw (le-ltb (length ws / 3) (node_need (routes_in s)) l, le-ltb (length hs) (length (routes_in s)) v) refl))

    go : (x : Said) → ((vs : List ℕ) → (after_input x s ws hs).said ≡ accepted vs → ⊥) → ((after_input x s ws hs).words ≡ ws) × ((after_input x s ws hs).hops ≡ hs)
    go (accepted vs) k = made k (below? (length ws / 3) (node_need (routes_in s))) (below? (length hs) (length (routes_in s)))
    go (refused f) k = (refl, refl)
    go (refused_at f j) k = (refl, refl)
