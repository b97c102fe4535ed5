-- Boxes of two parties: makes at their limits, what runs return, owners, and what is not so.
use mathlib.Core.Path.{◌≡◌, refl, sym, ◌∙◌, ap}
use mathlib.Core.Bool.{true, false, true≢false}
use mathlib.Core.List.{[], ◌∷◌}
use native.Mathlib.Omega.{arith}
use lib.ListN.{length}
use Rattle.bits.specs.Slot.{cut}
use Rattle.bits.specs.Search.{first_from, first_of}
use Rattle.routes.specs.Input.{proper_prefix, hop_fine, route_fault}
use Rattle.routes.specs.Said.{Said, accepted, refused, hop_after, accepts}
use Rattle.standing.specs.Cells.{any, first, need, best}
use Rattle.standing.specs.Served.{hop_said}
use Rattle.standing.specs.Standing.{insert, remove}
use Rattle.sail.specs.Geometry.{small_geo, valid_geo}
use Rattle.sail.specs.Level.{chunk_for}
use Rattle.sail.specs.Sizes.{sizes_fit, sizes_fault}
use Rattle.sail_theory.specs.Calls.{Owners, announce_fault, withdraw_fault, chunks_fault}
use Rattle.sail_theory.specs.CallRuns.{announce}
use Rattle.sail_theory.specs.Replies.{reply, stood}
use Rattle.pair.specs.Party.{one, two, seen, foreign, view}
use Rattle.pair.specs.PairLent.{PairLent}
use Rattle.pair.specs.PairSound.{pair_sizes_fault, limits_fit, Nobodys, PairSound}
use Rattle.pair.specs.PairCalls.{grant_for, open_for, opened_for, pair_make_said, pair_made, pair_reported, pair_lookup_said}
use Rattle.pair.specs.PairFrame.{OwnersKept}
use Rattle.pair.specs.PairRuns.{pair_done, pair_after, own, Alike, ToldAlike}
use Rattle.pair.specs.declared.Pair.{Pair}
use Rattle.pair.proofs.PairJudged.{pair-make-said}
use Rattle.pair.proofs.Isolation.{pair-says, pair-finds, pair-reports, isolation}
use Rattle.examples.specs.Lines.{ip}
use Rattle.examples.specs.Pairs.{limits, zeros, state4, box4, state_wide, state12, box12, near, far, idle, first12, busy}

-- "24, the two limits add to more than a pool's chunks, after 2 in make": both sides of the limit, in either pool
abbrev makes : Pair → PairLent → Said
makes t b = pair_make_said t b

pub limits-fit : makes (limits 1 2 3 2) (zeros 8 8 4 4) ≡ accepted []
unfolding pair_make_said pair_sizes_fault sizes_fault valid_geo sizes_fit limits_fit
limits-fit = refl

pub over-second : makes (limits 2 2 3 2) (zeros 8 8 4 4) ≡ refused 24
unfolding pair_make_said pair_sizes_fault sizes_fault valid_geo sizes_fit limits_fit
over-second = refl

pub over-third : makes (limits 1 2 3 3) (zeros 8 8 4 4) ≡ refused 24
unfolding pair_make_said pair_sizes_fault sizes_fault valid_geo sizes_fit limits_fit
over-third = refl

-- limits whose sum has more than 32 bits
pub over-far : makes (limits 4294967295 0 5 0) (zeros 8 8 4 4) ≡ refused 24
unfolding pair_make_said pair_sizes_fault sizes_fault valid_geo sizes_fit limits_fit
over-far = refl

-- 2 before 24: the second party's list is too long
pub size-first : makes (limits 2 2 3 2) (zeros 8 4097 4 4) ≡ refused 2
unfolding pair_make_said pair_sizes_fault sizes_fault valid_geo sizes_fit limits_fit
size-first = refl

-- both boxes are made
pub made4 : accepts (pair_made state4 box4).said ≡ true
unfolding pair_make_said pair_sizes_fault sizes_fault valid_geo sizes_fit limits_fit state4 box4
made4 = ap accepts (pair-make-said state4 box4)

pub made12 : accepts (pair_made state12 box12).said ≡ true
unfolding pair_make_said pair_sizes_fault sizes_fault valid_geo sizes_fit limits_fit state12 box12
made12 = ap accepts (pair-make-said state12 box12)

-- The witness of isolation: an idle and a busy second party, in pools of four and of twelve chunks.
pub alike : Alike one state4 box4 idle state12 box12 busy
unfolding state4 box4 state12 box12 own
alike = record { made = made4; made' = made12; geometry = refl; room = refl; limit2 = refl; limit3 = refl; calls = refl }

pub told-alike : ToldAlike one (pair_after state4 box4 idle) (pair_after state12 box12 busy)
told-alike = isolation one state4 box4 idle state12 box12 busy alike

-- What the first party is told: one chunk is its limit, so 10.32.0.0/24 is refused with 7, though three chunks are free.
pub first-added : (pair_done one (pair_after state4 box4 []).state (pair_after state4 box4 []).lent (announce (near 44))).said ≡ accepted (0 ∷ 0 ∷ [])
unfolding state4 box4 own reply stood announce_fault chunks_fault route_fault proper_prefix hop_fine cut insert any need
first-added = pair-says state4 box4 made4 one [] (announce (near 44))

pub seven-by-limit : (pair_done one (pair_after state4 box4 idle).state (pair_after state4 box4 idle).lent (announce (far 5))).said ≡ refused 7
unfolding state4 box4 own reply stood announce_fault chunks_fault route_fault proper_prefix hop_fine cut insert any need
seven-by-limit = pair-says state4 box4 made4 one idle (announce (far 5))

-- and the second party, whose limit is three, is not
pub second-added : (pair_done two (pair_after state4 box4 idle).state (pair_after state4 box4 idle).lent (announce (far 5))).said ≡ accepted (0 ∷ 0 ∷ [])
unfolding state4 box4 own reply stood announce_fault chunks_fault route_fault proper_prefix hop_fine cut insert any need
second-added = pair-says state4 box4 made4 two idle (announce (far 5))

pub reports-one : pair_reported one (pair_after state4 box4 idle).state (pair_after state4 box4 idle).lent ≡ accepted (2 ∷ 1 ∷ 1 ∷ [])
unfolding state4 box4 own reply stood announce_fault chunks_fault route_fault proper_prefix hop_fine cut insert any need
reports-one = pair-reports state4 box4 made4 one idle

pub reports-two : pair_reported two (pair_after state12 box12 busy).state (pair_after state12 box12 busy).lent ≡ accepted (2 ∷ 2 ∷ 2 ∷ [])
unfolding state12 box12 own reply stood announce_fault withdraw_fault chunks_fault route_fault proper_prefix hop_fine cut insert remove any need
reports-two = pair-reports state12 box12 made12 two busy

-- each is served its own: both after three cells
pub finds-one : pair_lookup_said one (pair_after state12 box12 first12).state (pair_after state12 box12 first12).lent (ip 10 1 2 5) ≡ hop_after 3 44
unfolding state12 box12 own reply stood announce_fault chunks_fault route_fault proper_prefix hop_fine cut insert any need best first hop_said
finds-one = pair-finds state12 box12 made12 one first12 (ip 10 1 2 5) (omega arith)

pub finds-two : pair_lookup_said two (pair_after state12 box12 first12).state (pair_after state12 box12 first12).lent (ip 10 1 2 5) ≡ hop_after 3 9
unfolding state12 box12 own reply stood announce_fault chunks_fault route_fault proper_prefix hop_fine cut insert any need best first hop_said
finds-two = pair-finds state12 box12 made12 two first12 (ip 10 1 2 5) (omega arith)

-- with a limit of two it is not refused: what a party is told does depend on its limits
pub wide-made : accepts (pair_made state_wide box4).said ≡ true
unfolding pair_make_said pair_sizes_fault sizes_fault valid_geo sizes_fit limits_fit state_wide box4
wide-made = ap accepts (pair-make-said state_wide box4)

pub wide-added : (pair_done one (pair_after state_wide box4 idle).state (pair_after state_wide box4 idle).lent (announce (far 5))).said ≡ accepted (0 ∷ 0 ∷ [])
unfolding state_wide box4 own reply stood announce_fault chunks_fault route_fault proper_prefix hop_fine cut insert any need
wide-added = pair-says state_wide box4 wide-made one idle (announce (far 5))

pub not_alike : ToldAlike one (pair_after state4 box4 idle) (pair_after state_wide box4 idle) → ⊥
not_alike k = true≢false (sym (ap accepts (sym seven-by-limit ∙ k.calls (announce (far 5)) ∙ wide-added)))

-- Owners of four chunks: the first party's, and with the second party's after them
abbrev none4 : Owners
none4 = record { own2 = 0 ∷ 0 ∷ 0 ∷ 0 ∷ []; own3 = 0 ∷ 0 ∷ 0 ∷ 0 ∷ [] }

abbrev first4 : Owners
first4 = record { own2 = 161 ∷ 0 ∷ 0 ∷ 0 ∷ []; own3 = 65 ∷ 0 ∷ 0 ∷ 0 ∷ [] }

pub owners-one : opened_for one small_geo none4 (near 44) ≡ first4
unfolding open_for grant_for chunk_for first_of first_from view seen
owners-one = refl

-- 800000A1 and 80000441 hex
pub owners-two : opened_for two small_geo first4 (near 9) ≡ record { own2 = 161 ∷ 2147483809 ∷ 0 ∷ 0 ∷ []; own3 = 65 ∷ 2147484737 ∷ 0 ∷ 0 ∷ [] }
unfolding open_for grant_for chunk_for first_of first_from view seen
owners-two = refl

-- What is not so. 80000000 hex is nobody's and not 0, so no sound box has it;
pub stray-owner : Nobodys (2147483648 ∷ []) → ⊥
unfolding seen
stray-owner n = omega (arith, n.zero 0 (omega arith) refl refl)

-- limits that do not fit are of no sound box;
pub unfit : (b : PairLent) → length b.own2 ≡ 4 → PairSound (limits 2 0 3 0) b → ⊥
unfit b e s = omega (arith, e, s.fit2)

-- a call that gives a chunk of the other's away does not leave what is theirs;
pub taken-away : OwnersKept one (2147483809 ∷ []) (161 ∷ []) → ⊥
unfolding foreign
taken-away k = let z = k.stay 0 (omega arith) refl in omega (arith, z)

-- and whose a chunk is goes by the top bit
pub whose-bits : (foreign one 2147483809 ≡ true) × (foreign two 2147483809 ≡ false) × (foreign one 161 ≡ false) × (foreign two 161 ≡ true)
    × (foreign one 0 ≡ false) × (foreign two 0 ≡ false)
unfolding foreign
whose-bits = (refl, refl, refl, refl, refl, refl)
