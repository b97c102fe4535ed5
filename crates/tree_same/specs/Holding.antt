-- Arrays that hold the routes of (st, hop), said by the paths: each path that stands leads to a node with its bits, each of these bits to its hop,
-- and the n nodes stand in the fixed order. `holds-image` (proofs/Holdings.antt) shows that this leaves one image.
use Rattle.std.specs.Prelude.{Bool, true, List, ◌≡◌, ℕ, ◌*◌, ◌≤◌, ◌<◌, length, get_or}
use Rattle.tree_image.specs.Node.{bits_of}
use Rattle.tree_image.specs.Image.{node, inner, bit_hop, word}
use Rattle.tree_same.specs.Read.{reached, hop_place_at}
use Rattle.tree_same.specs.Order.{ints, Order, stands_at}

pub record Holding (st : ℕ → ℕ → Bool) (hop : ℕ → ℕ → ℕ) (ws hs : List ℕ) (n : ℕ) : Type 0 where
  pub order : Order ws n
  pub right : (m p : ℕ) → stands_at st m p ≡ true → bits_of ws (reached ws m p) ≡ word st hop (node m p)
  pub put : (m p b : ℕ) → stands_at st m p ≡ true → b < 15 → inner hop (node m p) b ≡ true
      → get_or hs (hop_place_at ws (reached ws m p) b) 0 ≡ bit_hop hop (node m p) b
  pub room : ints ws n ≤ length hs
  pub rest : (j : ℕ) → 3 * n ≤ j → get_or ws j 0 ≡ 0
  pub blank : (j : ℕ) → ints ws n ≤ j → get_or hs j 0 ≡ 0
