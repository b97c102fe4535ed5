-- What is lent to every call on a box of two. "Each of the two has his own list, first cells and counts for them; the two pools are shared": and with
-- the pools the owners of their chunks, and the counts for the second pool's cells.
use Rattle.std.specs.Prelude.{Bool, List, ℕ}
use Rattle.sail.specs.Geometry.{bits2, bits3}
use Rattle.sail.specs.Lent.{Lent, lent}
use Rattle.sail.specs.Level.{View, live_in, entry, chunks_of}
use Rattle.sail.specs.declared.geometry.Geometry.{Geometry}
use Rattle.sail_theory.specs.Calls.{Owners}
use Rattle.sail_theory.specs.Render.{laid, room_of}
use Rattle.sail_theory.specs.Shared.{own_part, alone}
use Rattle.pair.specs.Party.{Party, one, two, view}

pub record PairLent : Type 0 where
  pub list1 : List ℕ
  pub first1 : List ℕ
  pub long11 : List ℕ
  pub list2 : List ℕ
  pub first2 : List ℕ
  pub long12 : List ℕ
  pub second : List ℕ
  pub third : List ℕ
  pub own2 : List ℕ
  pub own3 : List ℕ
  pub long2 : List ℕ

abbrev pub pair_lent : List ℕ → List ℕ → List ℕ → List ℕ → List ℕ → List ℕ → List ℕ → List ℕ → List ℕ → List ℕ → List ℕ → PairLent
pair_lent list1 first1 long11 list2 first2 long12 second third own2 own3 long2 = record {
  list1 = list1;
  first1 = first1;
  long11 = long11;
  list2 = list2;
  first2 = first2;
  long12 = long12;
  second = second;
  third = third;
  own2 = own2;
  own3 = own3;
  long2 = long2;
}

-- what is lent to a party, as it is: its own three arrays, and the five that both share
abbrev pub side : Party → PairLent → Lent
side one b = lent b.list1 b.first1 b.second b.third b.own2 b.own3 b.long11 b.long2
side two b = lent b.list2 b.first2 b.second b.third b.own2 b.own3 b.long12 b.long2

abbrev pub pair_owners : PairLent → Owners
pair_owners b = record { own2 = b.own2; own3 = b.own3 }

-- how many records the party's list has room for
abbrev pub room_for : Party → PairLent → ℕ
room_for w b = room_of (side w b)

-- place q of a pool of chunks of 2 ^ d cells lies in a chunk of the party
abbrev pub mine : Party → List ℕ → ℕ → ℕ → Bool
mine w own d q = live_in (entry (view w own)) d q

-- an array over a pool as a party sees it: 0 at the places that are not its own
abbrev pub part : Party → List ℕ → ℕ → List ℕ → List ℕ
part w own d xs = own_part (view w own) d xs

-- what is lent to a party, with the owners as it sees them
abbrev pub viewed : Party → PairLent → Lent
viewed w b = lent (side w b).list (side w b).first b.second b.third (view w b.own2) (view w b.own3) (side w b).long1 b.long2

-- The table that a party sees: its own three arrays, and the pools with every chunk that is not its own free and zero. It is a table like any of one
-- party, so all that is said of those may be said of it. (Of the cells as they are: specs/PairReading.antt.)
abbrev pub sees : Geometry → Party → PairLent → Lent
sees g w b = alone g (viewed w b)

-- The cells as they are, with the owners as a party sees them: what its lookup walks through.
abbrev pub view_of : Party → List ℕ → List ℕ → List ℕ → List ℕ → List ℕ → View
view_of w first second third own2 own3 = record {
  first = entry first;
  second = entry second;
  third = entry third;
  chunks2 = chunks_of (view w own2);
  chunks3 = chunks_of (view w own3);
}

abbrev pub seen_by : Party → PairLent → View
seen_by w b = view_of w (side w b).first b.second b.third b.own2 b.own3

-- an array over a pool, of one for each party: the first party's at its places, and the second party's elsewhere
unfoldable pub joined : List ℕ → ℕ → List ℕ → List ℕ → List ℕ
joined own d xs ys = laid ys (mine one own d) (entry xs)

-- the box of these owners, and of a table for each party: each then sees its own (`sees-own`, proofs/Sees.antt)
abbrev pub box_of : Geometry → Owners → (Party → Lent) → PairLent
box_of g o l =
    pair_lent (l one).list (l one).first (l one).long1 (l two).list (l two).first (l two).long1
    (joined o.own2 (bits2 g) (l one).second (l two).second)
    (joined o.own3 (bits3 g) (l one).third (l two).third)
    o.own2 o.own3
    (joined o.own2 (bits2 g) (l one).long2 (l two).long2)
