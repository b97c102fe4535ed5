-- Document 01's list A, as a record input: 0.0.0.0/0 to 6; 10.0.0.0/8 to 20; 10.1.0.0/16 to 31; 10.1.2.0/24 to 44; 10.1.2.128/25 to 57.
use Rattle.std.specs.Prelude.{List, [], ◌∷◌, ℕ}

unfoldable pub list_a : List ℕ
list_a =
    0 ∷ 0 ∷ 0 ∷ 0 ∷ 0 ∷ 0 ∷ 0 ∷ 6
    ∷ 10 ∷ 0 ∷ 0 ∷ 0 ∷ 8 ∷ 0 ∷ 0 ∷ 20
    ∷ 10 ∷ 1 ∷ 0 ∷ 0 ∷ 16 ∷ 0 ∷ 0 ∷ 31
    ∷ 10 ∷ 1 ∷ 2 ∷ 0 ∷ 24 ∷ 0 ∷ 0 ∷ 44
    ∷ 10 ∷ 1 ∷ 2 ∷ 128 ∷ 25 ∷ 0 ∷ 0 ∷ 57
    ∷ []
