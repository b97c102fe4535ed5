-- What the calls say, of any input and any arrays.
use Rattle.std.specs.Prelude.{Bool, cond, ◌&&◌, List, [], ◌∷◌, ℕ, ◌*◌, ◌/◌, ◌%◌, ◌^◌, eqb, length, get_or, Option, Some, None, Result}
use Rattle.bits.specs.Tab.{tabulate}
use Rattle.routes.specs.Input.{input_said}
use Rattle.routes.specs.Record.{routes_in}
use Rattle.refusals.specs.declared.Refused.{Refused}
use Rattle.routes.specs.Said.{Said, accepted, refused, refused_at, and_then, said_by, packed, value}
use Rattle.basic.specs.Walk.{basic_walk, met_said}

-- "16,384 bytes", "131,071 hop cells"
unfoldable pub map_sizes_fit : ℕ → ℕ → Bool
map_sizes_fit bits cells = eqb bits 16384 && eqb cells 131071

-- "Refusals, in order: the record input's; 2 for another array size"
unfoldable pub ready_said : List ℕ → ℕ → ℕ → Said
ready_said s bits cells = and_then (input_said s) (cond (map_sizes_fit bits cells) (accepted (length s / 8 ∷ [])) (refused 2))

abbrev pub means_ready : Result ℕ Refused → Said
means_ready = said_by (λ n. n ∷ [])

-- a lookup: those, then the walk's own answer
unfoldable pub basic_said : List ℕ → List ℕ → List ℕ → ℕ → Said
basic_said s bits cells a = and_then (ready_said s (length bits) (length cells)) (met_said (basic_walk (routes_in s) bits cells a))

-- a hop; nothing where there is no route
abbrev pub if_hop : Option ℕ → List ℕ
if_hop None = []
if_hop (Some h) = h ∷ []

abbrev pub means_basic_found : Result (Option ℕ) Refused → Said
means_basic_found = said_by if_hop

-- a call that fills arrays: done, or refused
abbrev pub means_basic_answer : Result (Unit {0}) Refused → Said
means_basic_answer = said_by (λ _. [])

-- a lookup's answer as one number: its hop in bits 16 to 31, 0 there for no route
abbrev pub pack_hop : Said → ℕ
pack_hop = packed (λ vs. value 0 vs * 65536)

-- its low 32 bits. They are all of it, but for the index of a record
abbrev pub hop_word : Said → ℕ
hop_word x = pack_hop x % 2 ^ 32

-- many lookups: what is told, and the words at the end
pub record Many : Type 0 where
  pub said : Said
  pub words : List ℕ

abbrev pub many : Said → List ℕ → Many
many x ws = record { said = x; words = ws }

-- 2 where there is not one word for each address; otherwise the word of each address's lookup
unfoldable pub many_of : List ℕ → List ℕ → List ℕ → List ℕ → List ℕ → Many
many_of s bits cells addrs ws =
    cond (eqb (length ws) (length addrs))
    (many (accepted []) (tabulate (length addrs) (λ k. hop_word (basic_said s bits cells (get_or addrs k 0)))))
    (many (refused 2) ws)

-- before that the input's refusals, and 2 for the sizes of the maps. A refusal leaves the words
abbrev pub many_after : Said → Many → List ℕ → Many
many_after (accepted vs) m ws = m
many_after (refused n) m ws = many (refused n) ws
many_after (refused_at n k) m ws = many (refused_at n k) ws

unfoldable pub basic_many : List ℕ → List ℕ → List ℕ → List ℕ → List ℕ → Many
basic_many s bits cells addrs ws = many_after (ready_said s (length bits) (length cells)) (many_of s bits cells addrs ws) ws
