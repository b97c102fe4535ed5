-- The demands of the header step (document 02, request h) over a table. The laws behind them are over any lookup (crate header, proofs/Steps.antt).
use mathlib.Core.Path.{◌≡◌, refl, sym, ◌∙◌, subst, ap}
use mathlib.Core.Logic.{◌⊎◌, inl, inr, ◌≢◌, ◌↔◌}
use mathlib.Core.Bool.{true, false, true≢false}
use mathlib.Core.List.{List}
use Prim.Native.Nat.{ℕ, ◌-◌}
use lib.ListN.{length, get_or}
use Rattle.bits.proofs.Bools.{decided}
use Rattle.routes.specs.Said.{Said, accepts, no_route_after}
use Rattle.routes.proofs.Judged.{exactly}
use Rattle.standing.specs.Served.{Served}
use Rattle.sail.specs.Lent.{Lent}
use Rattle.sail.specs.Sound.{Sound, standing, cells_read}
use Rattle.sail.specs.Walk.{lookup_said}
use Rattle.sail.specs.Word.{has_hop}
use Rattle.sail.specs.declared.table.Table.{Table}
use Rattle.header.specs.Sums.{half_of, right_sum, fresh_sum}
use Rattle.header.specs.Header.{lowered, Packet}
use Rattle.header.specs.Step.{StepOut, destination, stepped}
use Rattle.header.specs.Cases.{FineHeader, SameHeader}
use Rattle.header.proofs.Steps as steps
use Rattle.header.proofs.Steps.{destination-small, lowered-differs, refused-no-hop, fine-said, fine-lowered, hop-lowers, no-hop-leaves}
use Rattle.pair.specs.Party.{Party}
use Rattle.pair.specs.PairLent.{PairLent}
use Rattle.pair.specs.PairCalls.{pair_lookup_said}
use Rattle.pair.specs.declared.Pair.{Pair}
use Rattle.packets.specs.Contract.{MeetsStep, MeetsPairStep}
use Rattle.packets.specs.Cases.{Stepping, PairStepping}
use Rattle.packets.proofs.Judged.{stepping-judged, stepping-only, pair-stepping-judged, pair-stepping-only}
use Rattle.packets.proofs.OneAnswer as answer
use Rattle.demands.specs.Covered.{Covered}
use Rattle.demands.proofs.Demand2.{sail-serves}

module _ (t : Table) (l : Lent) (p : List ℕ) where
  abbrev look : ℕ → Said
  look = lookup_said t l

  abbrev done : StepOut
  done = stepped look p

  -- Demand 1. "Carries its number": 19 to 22 in order, then lookup's
  pub refused-number-step : (s : Said) → (done.said ≡ s) ↔ Stepping t l p s
  refused-number-step = exactly (Stepping t l p) _ _ refl (stepping-judged t l p) (stepping-only t l p)

  -- "The caller's state and buffers stay exactly as they were": the table is taken by `&`, and a refusal leaves the packet
  pub refused-leaves-all-step : accepts done.said ≡ false → done.packet ≡ p
  refused-leaves-all-step e = no-hop-leaves look p (refused-no-hop done.said e)

  -- "No route leaves the header as it was."
  pub no-route-leaves : (n : ℕ) → done.said ≡ no_route_after n → done.packet ≡ p
  no-route-leaves n e = no-hop-leaves look p (ap has_hop e)

  -- "Show that no second answer would satisfy it."
  pub one-answer-step : (r s : ℕ) (q u : List ℕ) → MeetsStep t l p r q → MeetsStep t l p s u → (r ≡ s) × (q ≡ u)
  one-answer-step = answer.one-answer-step t l p

  -- "No byte but those three differs", and there are as many
  pub step-frame : (j : ℕ) → j ≢ 8 → j ≢ 10 → j ≢ 11 → get_or done.packet j 0 ≡ get_or p j 0
  step-frame = steps.step-frame look p

  pub step-length : length done.packet ≡ length p
  step-length = steps.step-length look p

  -- "Lowers the time to live by one and mends the checksum .. The mended header has a right checksum, equal .. to one worked out afresh": the
  -- very number
  pub step-mends : Packet p → has_hop done.said ≡ true
      → (get_or done.packet 8 0 ≡ get_or p 8 0 - 1) × (right_sum done.packet ≡ true) × (half_of done.packet 5 ≡ fresh_sum done.packet)
  step-mends = steps.step-mends look p

  -- "Given a packet's first 20 bytes": what is answered depends on no other
  pub step-blind : (q : List ℕ) → SameHeader p q → done.said ≡ (stepped look q).said
  step-blind q s = steps.step-blind look s

  -- some standing route covers the destination
  abbrev Reached : Type 0
  Reached = Covered (standing t l) (destination p)

  -- Demand 2, of a sound table
  module _ (sound : Sound t l) (b : Packet p) where
    found-served : Served (standing t l) (destination p) (cells_read t.geometry (standing t l) (destination p)) (look (destination p))
    found-served = sail-serves t l sound (destination p) (destination-small p b)

    -- a fine header is answered with the hop of the longest standing route that covers its destination, and no route exactly when none does
    pub step-serves : FineHeader p
        → Served (standing t l) (destination p) (cells_read t.geometry (standing t l) (destination p)) done.said
    step-serves h = subst (Served _ _ _) (sym (fine-said look p h)) found-served

    covered-hop : Reached → has_hop (look (destination p)) ≡ true
    covered-hop (r, m, c) = go found-served
      where
        go : {n : ℕ} {s : Said} → Served (standing t l) (destination p) n s → has_hop s ≡ true
        go (Served.hop h w) = refl
        go (Served.no_route z) = absurd (true≢false (sym c ∙ z r m))

    hop-covered : has_hop (look (destination p)) ≡ true → Reached
    hop-covered e = go found-served e
      where
        go : {n : ℕ} {s : Said} → Served (standing t l) (destination p) n s → has_hop s ≡ true → Reached
        go (Served.hop h w) q = (w.route, w.listed, w.covering)
        go (Served.no_route z) q = absurd (true≢false (sym q))

    -- the packet is lowered if its header is fine and a standing route covers its destination,
    pub covered-lowers : FineHeader p → Reached → done.packet ≡ lowered p
    covered-lowers h c = fine-lowered look p h (covered-hop c)

    -- and only then is it another than it was
    pub lowered-exactly : (done.packet ≢ p) ↔ (FineHeader p × Reached)
    lowered-exactly = ((λ n. go n (decided (has_hop done.said))), (λ (h, c). λ e. lowered-differs p h (sym (covered-lowers h c) ∙ e)))
      where
        go : done.packet ≢ p → (has_hop done.said ≡ true) ⊎ (has_hop done.said ≡ false) → FineHeader p × Reached
        go n (inl e) = let h = (hop-lowers look p e).0 in (h, hop-covered (ap has_hop (sym (fine-said look p h)) ∙ e))
        go n (inr e) = absurd (n (no-hop-leaves look p e))

-- The same of a party's step in a box of two (request j): the laws are over any lookup.
module _ (w : Party) (t : Pair) (b : PairLent) (p : List ℕ) where
  abbrev its_look : ℕ → Said
  its_look = pair_lookup_said w t b

  abbrev its_done : StepOut
  its_done = stepped its_look p

  pub refused-number-pair-step : (s : Said) → (its_done.said ≡ s) ↔ PairStepping w t b p s
  refused-number-pair-step = exactly (PairStepping w t b p) _ _ refl (pair-stepping-judged w t b p) (pair-stepping-only w t b p)

  pub refused-leaves-all-pair-step : accepts its_done.said ≡ false → its_done.packet ≡ p
  refused-leaves-all-pair-step e = no-hop-leaves its_look p (refused-no-hop its_done.said e)

  pub one-answer-pair-step : (r s : ℕ) (q u : List ℕ) → MeetsPairStep w t b p r q → MeetsPairStep w t b p s u → (r ≡ s) × (q ≡ u)
  one-answer-pair-step = answer.one-answer-pair-step w t b p

  pub pair-step-frame : (j : ℕ) → j ≢ 8 → j ≢ 10 → j ≢ 11 → get_or its_done.packet j 0 ≡ get_or p j 0
  pair-step-frame = steps.step-frame its_look p

  pub pair-step-mends : Packet p → has_hop its_done.said ≡ true
      → (get_or its_done.packet 8 0 ≡ get_or p 8 0 - 1) × (right_sum its_done.packet ≡ true) × (half_of its_done.packet 5 ≡ fresh_sum its_done.packet)
  pair-step-mends = steps.step-mends its_look p
