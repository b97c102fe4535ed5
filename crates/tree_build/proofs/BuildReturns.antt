-- What each answer of a build says, and what it leaves.
use mathlib.Core.Path.{◌≡◌, refl, sym, ◌∙◌, ap, subst}
use mathlib.Core.List.{List, [], ◌∷◌}
use Prim.Native.Nat.{ℕ, ◌/◌, ◌≤◌, ◌<◌}
use native.Mathlib.Omega.{arith}
use lib.ListN.{length}
use borrow.Author.Tests.{lt-ltb, le-ltb}
use Rattle.routes.specs.Record.{Records, GoodInput, routes_in}
use Rattle.std.specs.Prelude.{Option, Some, None, Ok, Err}
use Rattle.refusals.specs.Numbers.{number_of}
use Rattle.refusals.specs.declared.Refusal.{Refusal}
use Rattle.refusals.specs.declared.Refused.{Refused}
use Rattle.refusals.proofs.Numbers.{number-above_0}
use Rattle.routes.specs.Input.{input_said}
use Rattle.routes.specs.Said.{accepted, refused, refused_by, told, said_by}
use Rattle.routes.proofs.Meaning.{input-good}
use Rattle.routes.proofs.Rows.{length-routes}
use Rattle.tree_image.specs.Image.{node_need}
use Rattle.tree_image.proofs.Needs.{hops-need}
use Rattle.tree_room.specs.Lack.{Lack, short_nodes, short_hops, has_room}
use Rattle.tree_room.proofs.Room.{room-is}
use Rattle.tree_build.specs.Built.{means_built, ImageOut, image_out, made_of, after_input, built}
use Rattle.tree_node.specs.Count.{nodes_to}
use Rattle.tree_fill.specs.Fill.{ImageRoom, ImageFilled}
use Rattle.tree_node.proofs.NodeRuns.{good-list}
use Rattle.tree_node.proofs.Levels.{nodes-counted}

-- good records, with the nodes counted
module _ (s : List ℕ) (n : ℕ) (ok : GoodInput s n) (x : ℕ) (ex : (x ≡ nodes_to s n 8) × (x ≤ 32769)) (ws hs : List ℕ) where
  all : n ≡ length s / 8
  all = omega (arith, ok.whole)

  good : Records s (length s / 8)
  good = subst (Records s) all ok.records

  nodes-are : x ≡ node_need (routes_in s)
  nodes-are = ex.0 ∙ ap (λ (k : ℕ). nodes_to s k 8) all ∙ nodes-counted s good 8

  routes-are : length (routes_in s) ≡ n
  routes-are = length-routes s (length s / 8) ∙ sym all

  few_nodes : length ws / 3 < x → image_out (refused 11) ws hs ≡ made_of (routes_in s) ws hs
  unfolding made_of said_by
  few_nodes l = rw (lt-ltb (length ws / 3) (node_need (routes_in s)) (omega (arith, nodes-are)))

  few_hops : x ≤ length ws / 3 → length hs < n → image_out (refused 12) ws hs ≡ made_of (routes_in s) ws hs
  unfolding made_of said_by
  few_hops l u = rw (
    le-ltb (length ws / 3) (node_need (routes_in s)) (omega (arith, nodes-are)),
    lt-ltb (length hs) (length (routes_in s)) (omega (arith, routes-are)),
  )

  no_room : {f : ℕ} → Lack (length ws) (length hs) x n f → (f ≡ 0 → ⊥) → image_out (refused f) ws hs ≡ made_of (routes_in s) ws hs
  no_room (short_nodes l) z = few_nodes l
  no_room (short_hops l u) z = few_hops l u
  no_room (has_room l u) z = absurd (z refl)

  pub lacks : (w : Refusal) → Lack (length ws) (length hs) x n (number_of w) → image_out (means_built (Err (record { why = w; at = None }))) ws hs
      ≡ made_of (routes_in s) ws hs
  unfolding said_by
  lacks w l = no_room l (number-above_0 w)

  module _ {f : ℕ} (lack : Lack (length ws) (length hs) x n f) (none : f ≡ 0) where
    pub roomy : ImageRoom s (length ws) (length hs)
    roomy =
        let h = hops-need (routes_in s) (good-list s good) in
        let room = room-is lack none in
        record {
          records = good;
          whole = omega (arith, ok.whole);
          words_room = omega (arith, nodes-are, room.0);
          hops_room = omega (arith, h, routes-are, room.1);
          words_fit = omega (arith, nodes-are, ex.1);
          hops_fit = omega (arith, h, routes-are, ok.records.few);
        }

    pub made : {ws' hs' : List ℕ} → ImageFilled s ws hs ws' hs' → (a b : ℕ) → a ≡ x → b ≡ n
        → image_out (means_built (Ok (record { nodes = a; hops = b }))) ws' hs' ≡ made_of (routes_in s) ws hs
    unfolding made_of said_by
    made g a b ea eb =
        let room = room-is lack none in
        rw (
          le-ltb (length ws / 3) (node_need (routes_in s)) (omega (arith, nodes-are, room.0)),
          le-ltb (length hs) (length (routes_in s)) (omega (arith, routes-are, room.1)),
          g.words,
          g.hops,
          ea ∙ nodes-are,
          eb ∙ sym routes-are,
        )

-- the arms of the input's check
module _ (s ws hs : List ℕ) where
  module _ (n : ℕ) (e : input_said s ≡ accepted (n ∷ [])) where
    pub good-input : GoodInput s n
    good-input = let g = input-good s n e in record { records = g.1; whole = g.0 }

    pub after-good : (o : ImageOut) → o ≡ made_of (routes_in s) ws hs → o ≡ built s ws hs
    unfolding built
    after-good o m = m ∙ rw e

  pub after-refused : (e : Refused) → input_said s ≡ told e → image_out (means_built (Err e)) ws hs ≡ built s ws hs
  unfolding built said_by
  after-refused e q = rw q (go e.at)
    where
      go : (o : Option ℕ) → image_out (refused_by (number_of e.why) o) ws hs ≡ after_input (refused_by (number_of e.why) o) s ws hs
      go None = refl
      go (Some k) = refl
