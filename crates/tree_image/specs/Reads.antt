-- The count that a lookup in an image tells, as document 02 has it in c: the nodes read, and one more where a hop is answered, since that hop
-- is fetched. No route counts the nodes alone, and 13 carries no count.
use Rattle.std.specs.Prelude.{cond, List, [], ◌∷◌, ℕ, ◌+◌, ◌≤◌, eqb}
use Rattle.routes.specs.Said.{Said, refused, hop_after, no_route_after}
use Rattle.routes.specs.declared.Route.{Route}
use Rattle.standing.specs.Cells.{best}
use Rattle.tree_image.specs.Image.{on_path}
use Rattle.tree_image.specs.declared.Used.{Used}

-- the count of a lookup that has read n nodes and answers the hop h, 0 for no route
abbrev pub counted : ℕ → ℕ → ℕ
counted h n = cond (eqb h 0) n (n + 1)

-- the count by the routes: the nodes that stand on the path of the address, and one more where a route covers it
abbrev pub tree_reads : List Route → ℕ → ℕ
tree_reads rs a = counted (best rs 32 a) (on_path rs a)

-- What can be said at all: a hop of 1 to 32,767 with a count of 2 to 10, no route with a count of 1 to 9, or 13.
pub data TreeAnswer : Said → Type 0 where
  a_hop : (n h : ℕ) → 2 ≤ n → n ≤ 10 → 1 ≤ h → h ≤ 32767 → TreeAnswer (hop_after n h)
  no_route : (n : ℕ) → 1 ≤ n → n ≤ 9 → TreeAnswer (no_route_after n)
  broken : TreeAnswer (refused 13)

-- the values of an answer that tells how much of the arrays is in use
abbrev pub used_values : Used → List ℕ
used_values u = u.nodes ∷ u.hops ∷ []
