-- A call of one party on a sound box: what it says is what the terms and its own routes say; where it is accepted, the box is sound, its routes are
-- those that would then stand, and the other sees what it saw; where it is refused, all is as it was.
use mathlib.Core.Path.{◌≡◌, sym, ◌∙◌, ap, subst}
use mathlib.Core.Bool.{true, false}
use mathlib.Core.List.{List, [], ◌∷◌}
use Prim.Native.Nat.{ℕ, ◌≤◌, ◌<◌}
use native.Mathlib.Omega.{arith}
use lib.ListN.{length}
use Rattle.bits.specs.Count.{bit}
use Rattle.bits.specs.Slot.{cut}
use Rattle.routes.specs.Route.{key_of, key, Fine}
use Rattle.routes.specs.Said.{Said, accepted, accepts}
use Rattle.routes.specs.declared.Route.{Route}
use Rattle.routes.proofs.Rows.{length-routes}
use Rattle.standing.specs.Cells.{within, need}
use Rattle.standing.specs.Standing.{stands, insert, remove}
use Rattle.standing.proofs.Standing.{remove-good, remove-length, remove-any}
use Rattle.sail.specs.declared.geometry.Geometry.{Geometry}
use Rattle.sail_theory.specs.Calls.{Owners, input_routes, cut_route, cleared, with_flag}
use Rattle.sail_theory.specs.CallRuns.{Call, announce, withdraw, load, routes_after}
use Rattle.sail_theory.specs.Replies.{reply}
use Rattle.sail_theory.proofs.calls.Cleared.{telling-accepts}
use Rattle.pair.specs.Party.{Party}
use Rattle.pair.specs.PairLent.{PairLent, side, pair_owners, room_for}
use Rattle.pair.specs.PairSound.{share_of, standing_for, pair_sizes_fault, PairSound, pair_sound?}
use Rattle.pair.specs.PairCalls.{
  opened_for,
  owners_after_for,
  owners_kept_for,
  pair_terms,
  pair_announce_said,
  pair_withdraw_said,
  pair_load_said,
  PairOut,
  pair_out,
  with_count,
  pair_lent_of,
  pair_adding,
  pair_taking,
  pair_announced,
  pair_withdrawn,
  pair_loaded,
}
use Rattle.pair.specs.PairRuns.{pair_done}
use Rattle.pair.specs.declared.Pair.{Pair}
use Rattle.pair.proofs.Sees.{side-sized, Shift, PairHolds, shift-holds}
use Rattle.pair.proofs.Shifts.{routes-good, announce-shift, withdraw-shift, load-shift}
use Rattle.pair.proofs.PairTest.{pair-sound-tells}
use Rattle.pair.proofs.Offers.{OnTerms, announce-offer, load-offer}
use Rattle.pair.proofs.PairFresh.{ends-said, ends-accepted, ends-refused, sizes-none}

module _ (w : Party) (t : Pair) (b : PairLent) where
  abbrev g : Geometry
  g = t.geometry

  abbrev rs : List Route
  rs = standing_for w t b

  pub announce-said : (r : Route) → (pair_announced w t b r).said ≡ with_flag (cleared r.len r.addr) (pair_announce_said w t b (cut_route r))
  unfolding pair_announced pair_adding
  announce-said r = ap (with_flag (cleared r.len r.addr)) (ends-said (pair_announce_said w t b (cut_route r)) t b _ _)

  pub withdraw-said : (a len : ℕ) → (pair_withdrawn w t b a len).said ≡ with_flag (cleared len a) (pair_withdraw_said w t b (cut len a) len)
  unfolding pair_withdrawn pair_taking
  withdraw-said a len = ap (with_flag (cleared len a)) (ends-said (pair_withdraw_said w t b (cut len a) len) t b _ _)

  pub load_said_lem : (input : List ℕ) → (pair_loaded w t b input).said ≡ pair_load_said w t b input
  unfolding pair_loaded
  load_said_lem input = ends-said (pair_load_said w t b input) t b _ _

  pub announce-accepts : (r : Route) → accepts (pair_announced w t b r).said ≡ accepts (pair_announce_said w t b (cut_route r))
  announce-accepts r = ap accepts (announce-said r) ∙ telling-accepts (cleared r.len r.addr) (pair_announce_said w t b (cut_route r))

  pub withdraw-accepts : (a len : ℕ) → accepts (pair_withdrawn w t b a len).said ≡ accepts (pair_withdraw_said w t b (cut len a) len)
  withdraw-accepts a len = ap accepts (withdraw-said a len) ∙ telling-accepts (cleared len a) (pair_withdraw_said w t b (cut len a) len)

  -- Refused, in any box: all as it was.
  abbrev Left : PairOut → Type 0
  Left o = (o.state ≡ t) × (o.lent ≡ b)

  announce-left : (r : Route) → accepts (pair_announced w t b r).said ≡ false → Left (pair_announced w t b r)
  unfolding pair_announced pair_adding
  announce-left r e =
      let q = ends-refused (pair_announce_said w t b (cut_route r)) t b (with_count w _ t) (pair_lent_of w t b _ _) (sym (announce-accepts r) ∙ e) in
      (ap (λ (o : PairOut). o.state) q, ap (λ (o : PairOut). o.lent) q)

  withdraw-left : (a len : ℕ) → accepts (pair_withdrawn w t b a len).said ≡ false → Left (pair_withdrawn w t b a len)
  unfolding pair_withdrawn pair_taking
  withdraw-left a len e =
      let q = ends-refused (pair_withdraw_said w t b (cut len a) len) t b (with_count w _ t) (pair_lent_of w t b _ _) (sym (withdraw-accepts a len) ∙ e) in
      (ap (λ (o : PairOut). o.state) q, ap (λ (o : PairOut). o.lent) q)

  load-left : (input : List ℕ) → accepts (pair_loaded w t b input).said ≡ false → Left (pair_loaded w t b input)
  unfolding pair_loaded
  load-left input e =
      let q = ends-refused (pair_load_said w t b input) t b (with_count w _ t) (pair_lent_of w t b _ _) (sym (ap accepts (load_said_lem input)) ∙ e) in
      (ap (λ (o : PairOut). o.state) q, ap (λ (o : PairOut). o.lent) q)

  pub refused-left : (c : Call) → accepts (pair_done w t b c).said ≡ false → Left (pair_done w t b c)
  unfolding pair_done
  refused-left (announce r) = announce-left r
  refused-left (withdraw a len) = withdraw-left a len
  refused-left (load input) = load-left input

  -- In a sound box:
  module _ (s : PairSound t b) where
    sizes : pair_sizes_fault g b ≡ 0
    sizes = sizes-none g b (λ x. side-sized g x b (s.each x).sized)

    passes : pair_sound? t b ≡ true
    passes = (pair-sound-tells t b).1 s

    pub done-says : (c : Call) → (pair_done w t b c).said ≡ reply (pair_terms w t b) rs c
    unfolding pair_done reply pair_announce_said pair_withdraw_said pair_load_said
    done-says (announce r) = announce-said r ∙ rw (sizes, passes)
    done-says (withdraw a len) = withdraw-said a len ∙ rw (sizes, passes)
    done-says (load input) = load_said_lem input ∙ rw (sizes, passes)

    -- the routes are within the terms
    pub on-terms : OnTerms (pair_terms w t b) rs
    on-terms = record {
      good = routes-good t b s w;
      roomy = omega (arith, length-routes (side w b).list (share_of w t).count, (s.each w).listed.records.room);
      enough2 = s.within2 w;
      enough3 = s.within3 w;
    }

    -- What an accepted announcement rests on, and what it leaves; and what an accepted withdrawal leaves.
    pub announce-offered : (r : Route) → accepts (pair_announced w t b r).said ≡ true
        → Fine (cut_route r) × (length (insert (cut_route r) rs) ≤ room_for w b) × (need (insert (cut_route r) rs) g.p1 ≤ (share_of w t).most2)
        × (need (insert (cut_route r) rs) g.p2 ≤ (share_of w t).most3)
    unfolding pair_announce_said
    announce-offered r e =
        let v = (s.each w).sized.valid in
        let c = cut_route r in
        let said : accepts (pair_announce_said w t b c) ≡ true = sym (announce-accepts r) ∙ e in
        announce-offer (pair_terms w t b) rs on-terms c (omega arith) (omega arith) (bit (stands (key c) rs) ∷ []) (rw (sizes, passes) at said)

    pub announce-lent : (r : Route) → accepts (pair_announced w t b r).said ≡ true
        → (pair_announced w t b r).lent ≡ pair_lent_of w t b (insert (cut_route r) rs) (opened_for w g (pair_owners b) (cut_route r))
    unfolding pair_announced pair_adding
    announce-lent r e =
        ap (λ (o : PairOut). o.lent)
        (ends-accepted (pair_announce_said w t b (cut_route r)) t b (with_count w _ t) (pair_lent_of w t b _ _) (sym (announce-accepts r) ∙ e))

    pub withdraw-lent : (a len : ℕ) → accepts (pair_withdrawn w t b a len).said ≡ true → (pair_withdrawn w t b a len).lent
        ≡ pair_lent_of w t b (remove (key_of (cut len a) len) rs) (owners_kept_for w g (remove (key_of (cut len a) len) rs) (pair_owners b))
    unfolding pair_withdrawn pair_taking
    withdraw-lent a len e =
        ap (λ (o : PairOut). o.lent)
        (ends-accepted (pair_withdraw_said w t b (cut len a) len) t b (with_count w _ t) (pair_lent_of w t b _ _) (sym (withdraw-accepts a len) ∙ e))

    pub prefix-shift : (k : ℕ) → Shift w t b (remove k rs) (owners_kept_for w g (remove k rs) (pair_owners b))
    prefix-shift k =
        withdraw-shift t b s w (remove k rs) (remove-good k rs (routes-good t b s w)) (remove-length k rs) (λ p i h. remove-any (within p i) k rs h)

    -- if it is accepted, what is left holds the routes that would stand
    announce-holds : (r : Route) → accepts (pair_announced w t b r).said ≡ true
        → PairHolds w t b (insert (cut_route r) rs) (pair_announced w t b r).state (pair_announced w t b r).lent
    unfolding pair_announced pair_adding
    announce-holds r e =
        let c = cut_route r in
        let said : accepts (pair_announce_said w t b c) ≡ true = sym (announce-accepts r) ∙ e in
        let f = announce-offered r e in
        subst (λ (o : PairOut). PairHolds w t b (insert c rs) o.state o.lent)
        (sym (ends-accepted (pair_announce_said w t b c) t b _ (pair_lent_of w t b _ (opened_for w g (pair_owners b) c)) said))
        (shift-holds w t b (insert c rs) (opened_for w g (pair_owners b) c) (announce-shift t b s w c f.0 f.1 f.2 f.3))

    withdraw-holds : (a len : ℕ) → accepts (pair_withdrawn w t b a len).said ≡ true
        → PairHolds w t b (remove (key_of (cut len a) len) rs) (pair_withdrawn w t b a len).state (pair_withdrawn w t b a len).lent
    unfolding pair_withdrawn pair_taking
    withdraw-holds a len e =
        let k = key_of (cut len a) len in
        let said : accepts (pair_withdraw_said w t b (cut len a) len) ≡ true = sym (withdraw-accepts a len) ∙ e in
        let left : List Route = remove k rs in
        subst (λ (o : PairOut). PairHolds w t b left o.state o.lent)
        (sym (ends-accepted (pair_withdraw_said w t b (cut len a) len) t b _ (pair_lent_of w t b _ (owners_kept_for w g left (pair_owners b))) said))
        (shift-holds w t b left (owners_kept_for w g left (pair_owners b)) (prefix-shift k))

    pub load-offered : (input : List ℕ) → accepts (pair_loaded w t b input).said ≡ true → OnTerms (pair_terms w t b) (input_routes input)
    unfolding pair_load_said
    load-offered input e =
        let said : accepts (pair_load_said w t b input) ≡ true = sym (ap accepts (load_said_lem input)) ∙ e in
        load-offer (pair_terms w t b) input (rw (sizes, passes) at said)

    load-holds : (input : List ℕ) → accepts (pair_loaded w t b input).said ≡ true
        → PairHolds w t b (input_routes input) (pair_loaded w t b input).state (pair_loaded w t b input).lent
    unfolding pair_loaded
    load-holds input e =
        let said : accepts (pair_load_said w t b input) ≡ true = sym (ap accepts (load_said_lem input)) ∙ e in
        let f = load-offered input e in
        let o : Owners = owners_after_for w g (owners_kept_for w g [] (pair_owners b)) (input_routes input) in
        subst (λ (x : PairOut). PairHolds w t b (input_routes input) x.state x.lent)
        (sym (ends-accepted (pair_load_said w t b input) t b _ (pair_lent_of w t b _ o) said))
        (shift-holds w t b (input_routes input) o (load-shift w t b s (input_routes input) f.good f.roomy f.enough2 f.enough3))

    pub accepted-holds : (c : Call) → accepts (pair_done w t b c).said ≡ true
        → PairHolds w t b (routes_after c rs) (pair_done w t b c).state (pair_done w t b c).lent
    unfolding pair_done
    accepted-holds (announce r) = announce-holds r
    accepted-holds (withdraw a len) = withdraw-holds a len
    accepted-holds (load input) = load-holds input
