-- The demands of the calls on an image itself: its test, and announce and withdraw in place. What is supposed of words is what their type gives,
-- that each has 32 bits.
use Rattle.std.specs.Prelude.{Result}
use mathlib.Core.Path.{◌≡◌, refl}
use mathlib.Core.Logic.{◌↔◌}
use mathlib.Core.Bool.{true, false}
use mathlib.Core.List.{List, Memᴰ}
use Prim.Native.Nat.{ℕ, ◌^◌, ◌<◌}
use lib.ListN.{get_or}
use Rattle.bits.specs.Slot.{slot}
use Rattle.routes.specs.Said.{Said, no_route_after, accepts}
use Rattle.routes.specs.declared.Route.{Route}
use Rattle.routes.proofs.Judged.{exactly}
use Rattle.standing.specs.Cells.{covers}
use Rattle.standing.specs.Served.{Served}
use Rattle.standing.proofs.Served.{none-served}
use Rattle.tree_image.specs.Reads.{tree_reads}
use Rattle.tree_image.specs.Walk.{tree_said}
use Rattle.tree_image.proofs.Serves.{told-served}
use Rattle.tree_same.specs.Listed.{routes_held}
use Rattle.tree_formed.specs.Answers.{tested}
use Rattle.tree_formed.specs.Cases.{Narrow, TreeTest}
use Rattle.tree_check.specs.Contract.{MeetsTreeTest}
use Rattle.tree_formed.specs.WellFormed.{well_formed}
use Rattle.refusals.specs.declared.Refusal.{Refusal}
use Rattle.tree_image.specs.declared.Used.{Used}
use Rattle.tree_formed.proofs.AsBuilt.{formed-good}
use Rattle.tree_formed.proofs.Judged.{tree-test-judged, tree-test-only}
use Rattle.tree_formed.proofs.Serves.{formed-serves}
use Rattle.tree_check.proofs.OneAnswer as test
use Rattle.tree_theory.specs.Cases.{routes_with, routes_without, TreeAnnounce, TreeWithdraw, Anew}
use Rattle.tree_theory.specs.Changed.{prefix_place, image_announced, image_withdrawn}
use Rattle.tree_change.specs.Contract.{MeetsTreeAnnounce, MeetsTreeWithdraw}
use Rattle.tree_theory.specs.declared.Announced.{Announced}
use Rattle.tree_theory.proofs.Cases.{announce-leaves}
use Rattle.tree_theory.proofs.Takes.{withdraw-leaves}
use Rattle.tree_theory.proofs.Judged.{tree-announce-judged, tree-announce-only, tree-withdraw-judged, tree-withdraw-only}
use Rattle.tree_theory.proofs.Fresh.{change-anew, announce-left, withdraw-left}
use Rattle.tree_theory.proofs.Untouched.{announce-hops-before, withdraw-hops-before}
use Rattle.tree_change.proofs.OneAnswer as change

-- Demand 1, "It carries its number": the call says s exactly where the condition that stands beside s holds
module _ (ws hs : List ℕ) (narrow : Narrow ws) where
  -- the test: 13
  pub refused-number-tree-test : (s : Said) → (tested ws hs ≡ s) ↔ TreeTest ws hs s
  refused-number-tree-test = exactly (TreeTest ws hs) _ _ refl (tree-test-judged ws hs narrow) (tree-test-only ws hs narrow)

  -- announce: 3, 4, 13, 6, 11, 12
  pub refused-number-tree-announce : (a len h : ℕ) (s : Said) → ((image_announced ws hs a len h).said ≡ s) ↔ TreeAnnounce ws hs a len h s
  refused-number-tree-announce a len h =
      exactly (TreeAnnounce ws hs a len h) _ _ refl (tree-announce-judged ws hs narrow a len h) (tree-announce-only ws hs narrow a len h)

  -- withdraw: 3, 13, 9
  pub refused-number-tree-withdraw : (a len : ℕ) (s : Said) → ((image_withdrawn ws hs a len).said ≡ s) ↔ TreeWithdraw ws hs a len s
  refused-number-tree-withdraw a len =
      exactly (TreeWithdraw ws hs a len) _ _ refl (tree-withdraw-judged ws hs narrow a len) (tree-withdraw-only ws hs narrow a len)

  -- "The caller's state and buffers stay exactly as they were." (The test takes both arrays by `&`.)
  pub refused-leaves-all-tree-announce : (a len h : ℕ) → accepts (image_announced ws hs a len h).said ≡ false
      → ((image_announced ws hs a len h).words ≡ ws) × ((image_announced ws hs a len h).hops ≡ hs)
  refused-leaves-all-tree-announce = announce-leaves ws hs

  pub refused-leaves-all-tree-withdraw : (a len : ℕ) → accepts (image_withdrawn ws hs a len).said ≡ false
      → ((image_withdrawn ws hs a len).words ≡ ws) × ((image_withdrawn ws hs a len).hops ≡ hs)
  refused-leaves-all-tree-withdraw a len = withdraw-leaves ws hs a len narrow

-- Demand 2. An image that passes the test serves every address by the routes that are read out of it, and no route exactly when none covers.
module _ (ws hs : List ℕ) (narrow : Narrow ws) (formed : well_formed ws hs ≡ true) (x : ℕ) (l : x < 2 ^ 32) where
  pub tested-serves : Served (routes_held ws hs) x (tree_reads (routes_held ws hs) x) (tree_said ws hs x)
  tested-serves = told-served (routes_held ws hs) (formed-good ws hs narrow formed) x (formed-serves ws hs narrow formed x l)

  pub no-route-tested : ((n : ℕ) × (tree_said ws hs x ≡ no_route_after n)) ↔ ((r : Route) → Memᴰ r (routes_held ws hs) → covers 32 x r ≡ false)
  no-route-tested = none-served (routes_held ws hs) (formed-good ws hs narrow formed) x tested-serves

-- An image after an accepted change (`Anew`): it is a fresh build of the routes then standing, these are the routes that are then read out of it, it
-- passes the test again, and it serves every address by them.
module _ (ws hs : List ℕ) (narrow : Narrow ws) where
  pub changed-announce : (a len h : ℕ) → accepts (image_announced ws hs a len h).said ≡ true
      → Anew (routes_with ws hs a len h) ws hs (image_announced ws hs a len h)
  changed-announce a len h ok = change-anew (announce-left ws hs a len narrow h ok)

  pub changed-withdraw : (a len : ℕ) → accepts (image_withdrawn ws hs a len).said ≡ true
      → Anew (routes_without ws hs a len) ws hs (image_withdrawn ws hs a len)
  changed-withdraw a len ok = change-anew (withdraw-left ws hs a len narrow ok)

-- "The change alters no hop cell before the place of the changed one": its place among the hops then, and where it is taken out, before.
module _ (ws hs : List ℕ) (narrow : Narrow ws) (a len : ℕ) where
  pub hops-before-announce : (h : ℕ) → accepts (image_announced ws hs a len h).said ≡ true
      → (j : ℕ) → j < prefix_place (image_announced ws hs a len h).words len (slot len a) → get_or (image_announced ws hs a len h).hops j 0 ≡ get_or hs j 0
  hops-before-announce h ok = announce-hops-before ws hs a len h narrow ok

  pub hops-before-withdraw : accepts (image_withdrawn ws hs a len).said ≡ true
      → (j : ℕ) → j < prefix_place ws len (slot len a) → get_or (image_withdrawn ws hs a len).hops j 0 ≡ get_or hs j 0
  hops-before-withdraw ok = withdraw-hops-before ws hs a len narrow ok

-- "Show that no second answer would satisfy it."
module _ (words hops : List ℕ) where
  pub one-answer-tree-test : (x y : Result Used Refusal) → MeetsTreeTest words hops x → MeetsTreeTest words hops y → x ≡ y
  one-answer-tree-test = test.one-answer-tree-test words hops

  pub one-answer-tree-announce : (addr len hop : ℕ) (x y : Result Announced Refusal) (ws ws' hs hs' : List ℕ)
      → MeetsTreeAnnounce words hops addr len hop x ws hs → MeetsTreeAnnounce words hops addr len hop y ws' hs' → (x ≡ y) × (ws ≡ ws') × (hs ≡ hs')
  one-answer-tree-announce = change.one-answer-tree-announce words hops

  pub one-answer-tree-withdraw : (addr len : ℕ) (x y : Result Used Refusal) (ws ws' hs hs' : List ℕ)
      → MeetsTreeWithdraw words hops addr len x ws hs → MeetsTreeWithdraw words hops addr len y ws' hs' → (x ≡ y) × (ws ≡ ws') × (hs ≡ hs')
  one-answer-tree-withdraw = change.one-answer-tree-withdraw words hops
