-- Each outcome of announce and withdraw on an image with its exact condition, in the order of the refusals: what the definitions in Changed.antt
-- say, case by case (`announce-cases` in proofs/Cases.antt, `withdraw-cases` in proofs/Takes.antt), and then in words (proofs/Judged.antt).
use Rattle.std.specs.Prelude.{true, false, List, [], ◌∷◌, map, ◌≡◌, ℕ, ◌/◌, ◌^◌, ◌≤◌, ◌<◌, length}
use Rattle.bits.specs.Count.{bit}
use Rattle.routes.specs.Input.{proper_prefix, hop_fine}
use Rattle.routes.specs.Route.{key_of, plain, Prefix, Good}
use Rattle.routes.specs.Said.{Said, accepted, refused}
use Rattle.routes.specs.declared.Route.{Route}
use Rattle.standing.specs.Served.{Served}
use Rattle.standing.specs.Standing.{stands, insert, remove}
use Rattle.tree_image.specs.Image.{node_need, image_of}
use Rattle.tree_image.specs.Reads.{tree_reads}
use Rattle.tree_image.specs.Walk.{tree_said}
use Rattle.tree_build.specs.Built.{ImageOut, image_out, built}
use Rattle.tree_same.specs.Listed.{routes_held}
use Rattle.tree_formed.specs.Buildable.{input_of, Buildable}
use Rattle.tree_formed.specs.WellFormed.{well_formed}
use Rattle.tree_theory.specs.Changed.{unmarked_route}

-- a proper prefix, a fine hop and a well-formed image
pub record ImageAsked (ws hs : List ℕ) (a len h : ℕ) : Type 0 where
  pub prefix : proper_prefix a len ≡ true
  pub hop : hop_fine h ≡ true
  pub image : well_formed ws hs ≡ true

-- the routes then standing
abbrev pub routes_with : List ℕ → List ℕ → ℕ → ℕ → ℕ → List Route
routes_with ws hs a len h = insert (unmarked_route a len h) (routes_held ws hs)

abbrev pub routes_without : List ℕ → List ℕ → ℕ → ℕ → List Route
routes_without ws hs a len = remove (key_of a len) (routes_held ws hs)

-- the image of these routes in arrays as long as these, told with the values vs
abbrev pub image_in : List Route → List ℕ → List ℕ → List ℕ → ImageOut
image_in rs ws hs vs = image_out (accepted vs) (image_of rs (length ws) (length hs)).words (image_of rs (length ws) (length hs)).hops

pub data Announcing (ws hs : List ℕ) (a len h : ℕ) : ImageOut → Type 0 where
  wrong_prefix : proper_prefix a len ≡ false → Announcing ws hs a len h (image_out (refused 3) ws hs)
  wrong_hop : proper_prefix a len ≡ true → hop_fine h ≡ false → Announcing ws hs a len h (image_out (refused 4) ws hs)
  wrong_image : proper_prefix a len ≡ true → hop_fine h ≡ true → well_formed ws hs ≡ false → Announcing ws hs a len h (image_out (refused 13) ws hs)
  too_many : ImageAsked ws hs a len h → 4096 < length (routes_with ws hs a len h) → Announcing ws hs a len h (image_out (refused 6) ws hs)
  nodes_short : ImageAsked ws hs a len h → length (routes_with ws hs a len h) ≤ 4096 → length ws / 3 < node_need (routes_with ws hs a len h)
      → Announcing ws hs a len h (image_out (refused 11) ws hs)
  hops_short : ImageAsked ws hs a len h → length (routes_with ws hs a len h) ≤ 4096 → node_need (routes_with ws hs a len h) ≤ length ws / 3
      → length hs < length (routes_with ws hs a len h) → Announcing ws hs a len h (image_out (refused 12) ws hs)
  put_in : ImageAsked ws hs a len h → length (routes_with ws hs a len h) ≤ 4096 → node_need (routes_with ws hs a len h) ≤ length ws / 3
      → length (routes_with ws hs a len h) ≤ length hs
      → Announcing ws hs a len h
      (image_in (routes_with ws hs a len h) ws hs
      (bit (stands (key_of a len) (routes_held ws hs)) ∷ node_need (routes_with ws hs a len h) ∷ length (routes_with ws hs a len h) ∷ []))

-- (11 and 12 cannot be met: the routes left need no more)
pub data Withdrawing (ws hs : List ℕ) (a len : ℕ) : ImageOut → Type 0 where
  no_prefix : proper_prefix a len ≡ false → Withdrawing ws hs a len (image_out (refused 3) ws hs)
  no_image : proper_prefix a len ≡ true → well_formed ws hs ≡ false → Withdrawing ws hs a len (image_out (refused 13) ws hs)
  no_route : proper_prefix a len ≡ true → well_formed ws hs ≡ true → stands (key_of a len) (routes_held ws hs) ≡ false
      → Withdrawing ws hs a len (image_out (refused 9) ws hs)
  taken_out : proper_prefix a len ≡ true → well_formed ws hs ≡ true → stands (key_of a len) (routes_held ws hs) ≡ true
      → Withdrawing ws hs a len (image_in (routes_without ws hs a len) ws hs (node_need (routes_without ws hs a len) ∷ length (routes_without ws hs a len) ∷ []))

-- a good list of routes that fits words and hops as long as these
pub record Fitted (rs : List Route) (ws hs : List ℕ) : Type 0 where
  pub good : Good rs
  pub few : length rs ≤ 4096
  pub nodes : node_need rs ≤ length ws / 3
  pub hops : length rs ≤ length hs

-- What an accepted change of ws and hs leaves: the image of such a list, none of whose routes has a mark. What follows from it is shown once for
-- announce and withdraw (proofs/Fresh.antt).
pub record ImageLeft (rs : List Route) (ws hs : List ℕ) (o : ImageOut) : Type 0 where
  pub fit : Fitted rs ws hs
  pub unmarked : map plain rs ≡ rs
  pub words : o.words ≡ (image_of rs (length ws) (length hs)).words
  pub hops : o.hops ≡ (image_of rs (length ws) (length hs)).hops

-- ---- what each call can say, in document 02's words and order, with all that then holds. An image is in order when some record input builds it
-- (`Buildable`); its routes are those that are read out of it (`routes_held`), and they are that input's, marks aside.

-- a route by itself, for an image
pub record Offered (ws hs : List ℕ) (a len h : ℕ) : Type 0 where
  pub prefix : Prefix a len
  pub hop_one : 1 ≤ h
  pub hop_ok : h ≤ 32767
  pub image : Buildable ws hs

-- announce: 3 in its strict form, 4, 13, 6, 11, 12; what is accepted tells 1 where the prefix stood, and the nodes and the routes then
pub data TreeAnnounce (ws hs : List ℕ) (a len h : ℕ) : Said → Type 0 where
  bad_prefix : (Prefix a len → ⊥) → TreeAnnounce ws hs a len h (refused 3)
  bad_hop : Prefix a len → (1 ≤ h → h ≤ 32767 → ⊥) → TreeAnnounce ws hs a len h (refused 4)
  bad_image : Prefix a len → 1 ≤ h → h ≤ 32767 → (Buildable ws hs → ⊥) → TreeAnnounce ws hs a len h (refused 13)
  too_many : Offered ws hs a len h → 4096 < length (routes_with ws hs a len h) → TreeAnnounce ws hs a len h (refused 6)
  few_nodes : Offered ws hs a len h → length (routes_with ws hs a len h) ≤ 4096 → length ws / 3 < node_need (routes_with ws hs a len h)
      → TreeAnnounce ws hs a len h (refused 11)
  few_hops : Offered ws hs a len h → length (routes_with ws hs a len h) ≤ 4096 → node_need (routes_with ws hs a len h) ≤ length ws / 3
      → length hs < length (routes_with ws hs a len h) → TreeAnnounce ws hs a len h (refused 12)
  done : Offered ws hs a len h → length (routes_with ws hs a len h) ≤ 4096 → node_need (routes_with ws hs a len h) ≤ length ws / 3
      → length (routes_with ws hs a len h) ≤ length hs
      → TreeAnnounce ws hs a len h
      (accepted (bit (stands (key_of a len) (routes_held ws hs)) ∷ node_need (routes_with ws hs a len h) ∷ length (routes_with ws hs a len h) ∷ []))

-- withdraw: 3 in its strict form, 13, 9; what is accepted tells the nodes and the routes then
pub data TreeWithdraw (ws hs : List ℕ) (a len : ℕ) : Said → Type 0 where
  bad_prefix : (Prefix a len → ⊥) → TreeWithdraw ws hs a len (refused 3)
  bad_image : Prefix a len → (Buildable ws hs → ⊥) → TreeWithdraw ws hs a len (refused 13)
  absent : Prefix a len → Buildable ws hs → stands (key_of a len) (routes_held ws hs) ≡ false → TreeWithdraw ws hs a len (refused 9)
  removed : Prefix a len → Buildable ws hs → stands (key_of a len) (routes_held ws hs) ≡ true
      → TreeWithdraw ws hs a len (accepted (node_need (routes_without ws hs a len) ∷ length (routes_without ws hs a len) ∷ []))

-- An image after an accepted change: it is a fresh build of the routes then standing, these are the routes that are then read out of it, it passes
-- the test again, and it serves every address by them.
pub record Anew (rs : List Route) (ws hs : List ℕ) (o : ImageOut) : Type 0 where
  pub as_build : (o.words ≡ (built (input_of rs) ws hs).words) × (o.hops ≡ (built (input_of rs) ws hs).hops)
  pub stands : routes_held o.words o.hops ≡ rs
  pub passes : well_formed o.words o.hops ≡ true
  pub serves : (x : ℕ) → x < 2 ^ 32 → Served rs x (tree_reads rs x) (tree_said o.words o.hops x)
