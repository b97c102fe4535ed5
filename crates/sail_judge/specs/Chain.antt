-- What a judge leaves in the room that it was lent: where it does not refuse, the words of the list s of n routes, with their chain.
use Rattle.std.specs.Prelude.{List, ◌≡◌, ℕ}
use Rattle.chain.specs.List.{ChainedFront}

pub record ChainLeft (number : ℕ) (s : List ℕ) (n : ℕ) (ws par : List ℕ) : Type 0 where
  pub on : number ≡ 0 → ChainedFront s n ws par
