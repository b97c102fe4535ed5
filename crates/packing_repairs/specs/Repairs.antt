-- A repair's answer at the boundary: a number, and four words beside it.
use Rattle.std.specs.Prelude.{cond, List, [], ℕ, ◌*◌, eqb}
use Rattle.routes.specs.Said.{Said, accepted, refused, refused_at, and_then}
use Rattle.sail.specs.Word.{packed}

-- the route count after the call in bits 16 to 31; the four numbers are told in words
abbrev pub pack_count : ℕ → Said → ℕ
pack_count count = packed (λ vs. count * 65536)

-- what is then in the words: the values of an accepted call; a refusal writes none
abbrev pub told_in : Said → List ℕ → List ℕ
told_in (accepted vs) xs = vs
told_in (refused n) xs = xs
told_in (refused_at n k) xs = xs

-- what the number itself says
abbrev pub number_says : Said → Said
number_says (accepted vs) = accepted []
number_says (refused n) = refused n
number_says (refused_at n k) = refused_at n k

-- z is the fault of the sizes, 1 or 2, which comes first; then 2 where there are not four words
unfoldable pub words_fault : ℕ → ℕ → ℕ
words_fault z n = cond (eqb z 0) (cond (eqb n 4) 0 2) z

-- the same of what the check of the sizes says
abbrev pub words_said : Said → ℕ → Said
words_said s n = and_then s (cond (eqb n 4) (accepted []) (refused 2))
