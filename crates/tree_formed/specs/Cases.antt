-- What the test of an image can say, each answer with all that then holds, in document 02's words. An image is in order when some record input
-- builds it (`Buildable`).
use Rattle.std.specs.Prelude.{List, [], ◌∷◌, ℕ, ◌^◌, ◌<◌, get_or}
use Rattle.routes.specs.Said.{Said, accepted, refused}
use Rattle.tree_formed.specs.Buildable.{Buildable}

-- words are numbers of 32 bits: so of every `&[u32]` that is lent
abbrev pub Narrow : List ℕ → Type 0
Narrow ws = (j : ℕ) → get_or ws j 0 < 2 ^ 32

-- the nodes and the routes that the build of such an image tells, or 13
pub data TreeTest (ws hs : List ℕ) : Said → Type 0 where
  is_well_formed : (b : Buildable ws hs) → TreeTest ws hs (accepted (b.nodes ∷ b.routes ∷ []))
  broken : (Buildable ws hs → ⊥) → TreeTest ws hs (refused 13)
