-- An announcement on a party's side of a box: the number with which it is refused, or 0; the state; and the side that is left.
use Rattle.std.specs.Prelude.{true, List, [], ◌∷◌, ◌≡◌, ℕ, zero, suc, length}
use Rattle.bits.specs.Count.{bit}
use Rattle.routes.specs.Route.{key, Fine}
use Rattle.routes.specs.Said.{Said, accepted}
use Rattle.routes.specs.declared.Route.{Route}
use Rattle.standing.specs.Standing.{stands, insert}
use Rattle.sail.specs.Lent.{Lent}
use Rattle.sail_theory.specs.Calls.{Terms, announce_fault, or_say, owners_of}
use Rattle.sail_judge.specs.Announce.{room_terms, Found}
use Rattle.sail_judge.specs.declared.announce.AnnounceVerdict.{AnnounceVerdict}
use Rattle.pair.specs.Party.{Party}
use Rattle.pair.specs.PairLent.{PairLent, side}
use Rattle.pair.specs.PairSound.{share_of, table_for, PairSound}
use Rattle.pair.specs.PairCalls.{opened_for, with_count}
use Rattle.pair.specs.declared.Pair.{Pair}
use Rattle.pair_cells.specs.Sides.{routes_in, SideSight, side_left, SideOut, side_out}
use Rattle.pair_announce.specs.declared.turn.Turn.{Turn}

-- l is the party's side of a sound box
pub record InBox (w : Party) (t : Pair) (l : Lent) : Type 0 where
  pub box : PairLent
  pub is : side w box ≡ l
  pub sound : PairSound t box

-- the room of the party's list, and its limits
abbrev pub side_terms : Party → Pair → Lent → Terms
side_terms w t l = room_terms (table_for w t) l.list (share_of w t).most2 (share_of w t).most3

-- refused with the number n, all is as it was
abbrev pub side_ends : ℕ → Pair → Lent → Pair → Lent → SideOut
side_ends zero t l t' l' = side_out 0 t' l'
side_ends (suc n) t l t' l' = side_out (suc n) t l

-- the state and the side once the party's route r is added, or in the place of the one of its prefix
abbrev pub state_with : Party → Pair → Lent → Route → Pair
state_with w t l r = with_count w (length (insert r (routes_in w t l))) t

abbrev pub side_with : Party → Pair → Lent → Route → Lent
side_with w t l r = side_left w t.geometry l (insert r (routes_in w t l)) (opened_for w t.geometry (owners_of l) r)

-- 6, 7 and 8 by the party's own room and limits
unfoldable pub side_adding : Party → Pair → Lent → Route → SideOut
side_adding w t l r = side_ends (announce_fault true (side_terms w t l) (routes_in w t l) r) t l (state_with w t l r) (side_with w t l r)

-- What a step asks: a fine route, and a side of a sound box, with what the party sees of it.
pub record TurnReady (w : Party) (t : Pair) (l : Lent) (r : Route) (see2 see3 ws par : List ℕ) : Type 0 where
  pub fine : Fine r
  pub boxed : InBox w t l
  pub sight : SideSight w t l see2 see3 ws par

-- What a step leaves: the side that is asked for, in a sound box again, with what the party then sees of it.
pub record TurnTaken (w : Party) (t : Pair) (l : Lent) (r : Route) (f : Turn) (e : Lent) (see2 see3 ws par : List ℕ) : Type 0 where
  pub left : side_out f.number f.state e ≡ side_adding w t l r
  pub stood : f.number ≡ 0 → f.stood ≡ stands (key r) (routes_in w t l)
  pub boxed : InBox w f.state e
  pub sight : SideSight w f.state e see2 see3 ws par

-- what a step answers
abbrev pub turn_said : Turn → Said
turn_said f = or_say f.number (accepted (bit f.stood ∷ []))

-- Where nothing is refused: this was found of the route.
pub record ToEnter (w : Party) (t : Pair) (l : Lent) (r : Route) (f : AnnounceVerdict) (see2 see3 ws par : List ℕ) : Type 0 where
  pub ready : TurnReady w t l r see2 see3 ws par
  pub free : announce_fault true (side_terms w t l) (routes_in w t l) r ≡ 0
  pub found : Found t.geometry l.list (share_of w t).count see2 r f

-- and then the state u and the side e are those asked for
pub record Entered (w : Party) (t : Pair) (l : Lent) (r : Route) (u : Pair) (e : Lent) (see2 see3 ws par : List ℕ) : Type 0 where
  pub state : u ≡ state_with w t l r
  pub side : e ≡ side_with w t l r
  pub sight : SideSight w u e see2 see3 ws par
