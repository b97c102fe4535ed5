-- Midway in a change: the arrays hold routes, and the nodes of one path stand too, down to some depth. A change puts a node to the end of that
-- path, or takes one from it, and it begins and ends where the path stands by the routes alone.
use mathlib.Core.Path.{◌≡◌, sym, ◌∙◌, ap, ap₂}
use mathlib.Core.Bool.{Bool, true}
use mathlib.Core.List.{List}
use Prim.Native.Nat.{ℕ, zero, suc, ◌*◌, ◌^◌, ◌≤◌, ◌<◌}
use native.Mathlib.Omega.{arith}
use lib.ListN.{length}
use Rattle.bits.specs.Slot.{slot}
use Rattle.routes.specs.Route.{Good}
use Rattle.routes.specs.declared.Route.{Route}
use Rattle.tree_image.specs.Image.{Image, image_of, node_stands, hop_for}
use Rattle.tree_image.proofs.Serves.{agree}
use Rattle.tree_same.specs.Read.{reached}
use Rattle.tree_same.specs.Order.{ints, stands_at}
use Rattle.tree_same.specs.Holding.{Holding}
use Rattle.tree_same.proofs.Back.{Shaped}
use Rattle.tree_same.proofs.Same.{fits}
use Rattle.tree_same.proofs.Holdings.{nodes-are, holds-image, stands-found}
use Rattle.tree_hold.specs.More.{down_to}
use Rattle.tree_hold.specs.Edits.{NodeWords}
use Rattle.tree_hold.proofs.Holds.{bits_fit, holding-same}
use Rattle.tree_hold.proofs.Paths.{on-path, down-shaped, down-same, path-stands}
use Rattle.tree_theory.specs.Stages.{Become}

-- the arrays hold the routes rs in n nodes and k hops, and the path of the address a stands down to depth m
pub record Midway (rs : List Route) (a m : ℕ) (ws hs : List ℕ) (n k : ℕ) : Type 0 where
  pub good : Good rs
  pub addr : a < 2 ^ 32
  pub deep : m ≤ 8
  pub holds : Holding (down_to (node_stands rs) a m) (hop_for rs) ws hs n
  pub hops : k ≡ ints ws n

module _ {rs : List Route} {a m : ℕ} {ws hs : List ℕ} {n k : ℕ} (g : Midway rs a m ws hs n k) where
  pub mid-shape : Shaped (down_to (node_stands rs) a m) (hop_for rs)
  mid-shape = down-shaped (node_stands rs) a g.addr (hop_for rs) m g.deep (fits rs g.good)

  -- the end of the path stands, and is one of the nodes
  pub end-stands : stands_at (down_to (node_stands rs) a m) m (slot (4 * m) a) ≡ true
  end-stands = on-path (node_stands rs) a g.addr m m (omega arith)

  pub end-inside : reached ws m (slot (4 * m) a) < n
  end-inside = (stands-found (down_to (node_stands rs) a m) (hop_for rs) ws hs n mid-shape g.holds m (slot (4 * m) a) end-stands).0

  pub mid-words : NodeWords ws n k
  mid-words = record { order = g.holds.order; hops = g.hops; narrow = bits_fit mid-shape.agree.nine g.holds; rest = g.holds.rest }

-- the path that stands changes nothing: no node is added by it
pub down-any : (st : ℕ → ℕ → Bool) (hop : ℕ → ℕ → ℕ) (a m : ℕ) → a < 2 ^ 32 → m ≤ 8 → Shaped st hop → stands_at st m (slot (4 * m) a) ≡ true
    → {f : ℕ → ℕ → ℕ} {ws hs : List ℕ} {n : ℕ} → Holding st f ws hs n → Holding (down_to st a m) f ws hs n
unfolding stands_at
down-any st hop a zero l u s t {f} h = holding-same st (down_to st a 0) f (λ i p. sym (down-same st a l 0 (λ j v. absurd (omega arith)) i p)) h
down-any st hop a (suc m) l u s t {f} h =
    holding-same st (down_to st a (suc m)) f (λ i p. sym (down-same st a l (suc m) (λ j v. path-stands st hop a l s m j (omega arith) t v) i p)) h

-- arrays that hold a good list's routes are its image
pub become : {rs : List Route} {ws hs ws' hs' : List ℕ} {n : ℕ} → Good rs → Holding (node_stands rs) (hop_for rs) ws' hs' n → length ws' ≡ length ws
    → length hs' ≡ length hs
    → Become rs ws hs ws' hs' n
become {rs} {ws} {hs} {ws'} {hs'} {n} g h e f =
    let i = holds-image (node_stands rs) (hop_for rs) ws' hs' n (agree rs g).nine h in
    let q : image_of rs (length ws') (length hs') ≡ image_of rs (length ws) (length hs) = ap₂ (λ (x y : ℕ). image_of rs x y) e f in
    record {
      words = i.0 ∙ ap (λ (x : Image). x.words) q;
      hops = i.1 ∙ ap (λ (x : Image). x.hops) q;
      nodes = nodes-are (node_stands rs) (hop_for rs) ws' hs' n (agree rs g).nine h;
    }
