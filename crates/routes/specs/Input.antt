-- What the check of a record input says.
use Rattle.std.specs.Prelude.{ℕ, ◌-◌, ◌/◌, ◌%◌, ◌^◌, Bool, true, cond, not, ◌&&◌, List, [], ◌∷◌, length, leb, ltb, eqb}
use Rattle.bits.specs.Slot.{cut}
use Rattle.bits.specs.Search.{first_of}
use Rattle.routes.specs.Route.{key}
use Rattle.routes.specs.Record.{record_at}
use Rattle.routes.specs.Said.{Said, accepted, refused, refused_at}
use Rattle.routes.specs.declared.Route.{Route}

-- 3: the length is over 32, or a bit is set after it. (An address is below 2 ^ 32 by its type.)
unfoldable pub proper_prefix : ℕ → ℕ → Bool
proper_prefix a l = leb l 32 && (ltb a (2 ^ 32) && eqb (cut l a) a)

-- 4: the hop is not 1 to 32,767
unfoldable pub hop_fine : ℕ → Bool
hop_fine h = leb 1 h && leb h 32767

-- the number of what is wrong with a route by itself, in order: prefix (3), hop (4), a mark over 1 (10); 0 where nothing is
unfoldable pub route_fault : Route → ℕ
route_fault r =
    cond (not (proper_prefix r.addr r.len)) 3
    (cond (not (hop_fine r.hop)) 4
    (cond (ltb 1 r.mark) 10 0))

-- whether record k comes after the one before it
unfoldable pub in_order : List ℕ → ℕ → Bool
in_order s k = cond (eqb k 0) true (ltb (key (record_at s (k - 1))) (key (record_at s k)))

-- the number of what is wrong with record k: by itself, then its order (10); 0 where nothing is
unfoldable pub fault_at : List ℕ → ℕ → ℕ
fault_at s k =
    cond (eqb (route_fault (record_at s k)) 0)
    (cond (in_order s k) 0 10)
    (route_fault (record_at s k))

abbrev pub is_bad : List ℕ → ℕ → Bool
is_bad s k = not (eqb (fault_at s k) 0)

-- the first record at which something is wrong; the number of whole records where there is none
abbrev pub first_bad : List ℕ → ℕ
first_bad s = first_of (is_bad s) (length s / 8)

-- in order: the length of the input, record by record, then 6. Good inputs say how many records they have
unfoldable pub input_said : List ℕ → Said
input_said s =
    cond (not (eqb (length s % 8) 0)) (refused_at 10 (length s / 8))
    (cond (ltb (first_bad s) (length s / 8)) (refused_at (fault_at s (first_bad s)) (first_bad s))
    (cond (ltb 4096 (length s / 8)) (refused 6)
    (accepted (length s / 8 ∷ []))))
