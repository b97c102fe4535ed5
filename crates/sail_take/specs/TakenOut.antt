-- A record taken out of a list whose words stand with their chain at the front of the room for them: what is asked, and what is left.
use Rattle.std.specs.Prelude.{List, ◌≡◌, ℕ, ◌-◌, ◌/◌, ◌≤◌, length}
use Rattle.routes.specs.Route.{key}
use Rattle.routes.specs.Record.{record_at}
use Rattle.chain.specs.List.{ChainedFront}
use Rattle.lists.specs.Edit.{RemoveAt, removed}

-- s has n routes, and a record k
pub record TakeOutReady (s : List ℕ) (n k : ℕ) (ws par : List ℕ) : Type 0 where
  pub fits : RemoveAt s n k
  pub few : length s / 8 ≤ 4096
  pub chain : ChainedFront s n ws par

-- z is the list then, and m the number of its routes
pub record ListTaken (s : List ℕ) (n k : ℕ) (z : List ℕ) (m : ℕ) (ws par : List ℕ) : Type 0 where
  pub list : z ≡ removed s n (key (record_at s k))
  pub count : m ≡ n - 1
  pub few : m ≤ 4096
  pub chain : ChainedFront z m ws par
