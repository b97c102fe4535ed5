-- A route put into a list whose words stand with their chain at the front of the room for them: what is asked, and what is left.
use Rattle.std.specs.Prelude.{Bool, List, ◌≡◌, ℕ, ◌/◌, ◌≤◌, length}
use Rattle.routes.specs.declared.Route.{Route}
use Rattle.chain.specs.List.{ChainedFront}
use Rattle.lists.specs.Edit.{PutAt, inserted, count_with}

-- s has n routes, and r can be put in at k; b tells whether its prefix stands
pub record PutInReady (s : List ℕ) (n k : ℕ) (b : Bool) (r : Route) (ws par : List ℕ) : Type 0 where
  pub fits : PutAt s n k b r
  pub few : length s / 8 ≤ 4096
  pub chain : ChainedFront s n ws par

-- z is the list then, and m the number of its routes
pub record ListPut (s : List ℕ) (n : ℕ) (b : Bool) (r : Route) (z : List ℕ) (m : ℕ) (ws par : List ℕ) : Type 0 where
  pub list : z ≡ inserted s n r
  pub count : m ≡ count_with b n
  pub few : m ≤ 4096
  pub chain : ChainedFront z m ws par
