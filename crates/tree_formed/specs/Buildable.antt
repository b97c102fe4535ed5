-- What the test of an image is to tell: "An image passes the test exactly when some record input builds it into arrays of these sizes."
use Rattle.std.specs.Prelude.{List, [], ◌∷◌, ◌≡◌, ℕ, length}
use Rattle.routes.specs.Record.{written}
use Rattle.routes.specs.Said.{accepted}
use Rattle.routes.specs.declared.Route.{Route}
use Rattle.tree_build.specs.Built.{image_out, built}

-- the input of a list of routes
abbrev pub input_of : List Route → List ℕ
input_of rs = written rs (length rs)

-- some record input builds these words and hops, into any arrays of these sizes
pub record Buildable (ws hs : List ℕ) : Type 0 where
  pub input : List ℕ
  pub nodes : ℕ
  pub routes : ℕ
  pub builds : (ws₀ hs₀ : List ℕ) → length ws₀ ≡ length ws → length hs₀ ≡ length hs → built input ws₀ hs₀ ≡ image_out (accepted (nodes ∷ routes ∷ [])) ws hs
