-- A party's side of a box is what is lent to it: its own three arrays, and the five that both share. A function that changes a party's table gets this side
-- alone: the other party's three arrays are not in its reach.
use Rattle.std.specs.Prelude.{List, ◌≡◌, ℕ}
use Rattle.routes.specs.declared.Route.{Route}
use Rattle.chain.specs.List.{ChainedFront}
use Rattle.sail.specs.Lent.{Lent, lent}
use Rattle.sail.specs.Sound.{Sound, standing}
use Rattle.sail.specs.declared.geometry.Geometry.{Geometry}
use Rattle.sail_theory.specs.Calls.{Owners}
use Rattle.sail_theory.specs.Render.{rendered, room_of}
use Rattle.sail_theory.specs.Shared.{alone, mixed_in}
use Rattle.pair.specs.Party.{Party, one, two, view}
use Rattle.pair.specs.PairLent.{PairLent, pair_lent}
use Rattle.pair.specs.PairSound.{share_of, table_for}
use Rattle.pair.specs.declared.Pair.{Pair}
use Rattle.pair_sound.specs.BoxTest.{among}

-- the routes of a party, by its side
abbrev pub routes_in : Party → Pair → Lent → List Route
routes_in w t l = standing (table_for w t) l

-- the table that the party sees is sound
abbrev pub SideSound : Party → Pair → Lent → Type 0
SideSound w t l = Sound (table_for w t) (alone t.geometry (among w l))

-- the owners as the party sees them, and the words of its routes with their chain
pub record SideSight (w : Party) (t : Pair) (l : Lent) (see2 see3 ws par : List ℕ) : Type 0 where
  pub seen2 : see2 ≡ view w l.own2
  pub seen3 : see3 ≡ view w l.own3
  pub chain : ChainedFront l.list (share_of w t).count ws par

-- The side after the party's routes became rs and the owners o: in the chunks that are or were its own what these ask for, 0 in those that it closed;
-- what the other holds is as it was.
abbrev pub side_left : Party → Geometry → Lent → List Route → Owners → Lent
side_left w g l rs o =
    let e = mixed_in g (among w l) (rendered g (room_of l) rs (view w o.own2) (view w o.own3)) in
    lent e.list e.first e.second e.third o.own2 o.own3 e.long1 e.long2

-- a box with this side of the party
abbrev pub with_side : Party → Lent → PairLent → PairLent
with_side one e b =
    pair_lent e.list e.first e.long1 b.list2 b.first2 b.long12 e.second e.third e.own2 e.own3 e.long2
with_side two e b =
    pair_lent b.list1 b.first1 b.long11 e.list e.first e.long1 e.second e.third e.own2 e.own3 e.long2

-- what a function on a side answers and leaves: 0 or the number of a refusal, the state, and the side
pub record SideOut : Type 0 where
  pub number : ℕ
  pub state : Pair
  pub lent : Lent

abbrev pub side_out : ℕ → Pair → Lent → SideOut
side_out n t l = record { number = n; state = t; lent = l }
