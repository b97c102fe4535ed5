-- Runs of both parties. Over tables that began with an accepted make, what a party is told follows from its own calls, its room and limits, and the
-- geometry: in two boxes that agree on these it is told the same, whatever the other did.
use mathlib.Core.Path.{◌≡◌, refl, sym, ◌∙◌, ap, ap₂, subst}
use mathlib.Core.Logic.{◌⊎◌, inl, inr}
use mathlib.Core.Bool.{true, false}
use mathlib.Core.List.{List, [], ◌∷◌}
use Prim.Native.Nat.{ℕ, ◌^◌, ◌<◌}
use lib.ListN.{length}
use Rattle.bits.proofs.Bools.{decided}
use Rattle.routes.specs.Record.{written}
use Rattle.routes.specs.Said.{Said, accepted, accepts}
use Rattle.routes.specs.declared.Route.{Route}
use Rattle.routes.proofs.Rows.{length-routes}
use Rattle.standing.specs.Cells.{best, need}
use Rattle.standing.specs.Served.{hop_said}
use Rattle.sail.specs.Lent.{Lent}
use Rattle.sail.specs.Sound.{standing, cells_read}
use Rattle.sail.specs.declared.geometry.Geometry.{Geometry}
use Rattle.sail_theory.specs.Calls.{Terms}
use Rattle.sail_theory.specs.CallRuns.{Call, routes_after}
use Rattle.sail_theory.specs.Replies.{reply, stood}
use Rattle.pair.specs.Party.{Party, one, two, other, is}
use Rattle.pair.specs.PairLent.{PairLent, side, room_for}
use Rattle.pair.specs.PairSound.{share_of, standing_for, PairSound}
use Rattle.pair.specs.PairCalls.{pair_terms, PairOut, fresh_pair, fresh_pair_lent, pair_made, pair_reported, pair_lookup_said}
use Rattle.pair.specs.PairRuns.{By, pair_done, pair_after, own, Alike, ToldAlike}
use Rattle.pair.specs.declared.Share.{Share}
use Rattle.pair.specs.declared.Pair.{Pair}
use Rattle.pair.proofs.Sees.{for-both, PairHolds}
use Rattle.pair.proofs.PairFresh.{Makeable, fresh-none, fresh-bytes, fresh-rooms, fresh-sound, make-makeable, made-is}
use Rattle.pair.proofs.PairSteps.{refused-left, done-says, accepted-holds}
use Rattle.pair.proofs.Finds.{pair-serves, pair-tells}

-- the other party's routes stay
pub their-routes : (w : Party) (t : Pair) (b : PairLent) (rs : List Route) (u : Pair) (v : PairLent) → PairHolds w t b rs u v
    → standing_for (other w) u v ≡ standing_for (other w) t b
their-routes w t b rs u v h =
    ap₂ (λ (s : Share) (l : Lent). standing (record { geometry = t.geometry; count = s.count }) l) h.share h.theirs

-- terms stay
same-terms : (x : Party) (t : Pair) (b : PairLent) (u : Pair) (v : PairLent) → u.geometry ≡ t.geometry → room_for x v ≡ room_for x b
    → (share_of x u).most2 ≡ (share_of x t).most2 → (share_of x u).most3 ≡ (share_of x t).most3 → pair_terms x u v ≡ pair_terms x t b
same-terms x t b u v e r m n = λ i. record { geometry = e i; room = r i; most2 = m i; most3 = n i }

-- a party's own calls, after a call of its own and after one of the other's
pub is-self : (w : Party) → is w w ≡ true
is-self one = refl
is-self two = refl

pub is-other : (w : Party) → is (other w) w ≡ false
is-other one = refl
is-other two = refl

own-self : (c : By) (cs : List By) → own c.who (c ∷ cs) ≡ c.what ∷ own c.who cs
unfolding own
own-self c cs = rw (is-self c.who)

own-other : (c : By) (cs : List By) → own (other c.who) (c ∷ cs) ≡ own (other c.who) cs
unfolding own
own-other c cs = rw (is-other c.who)

stood_on : (m : Terms) (k : Call) (ks : List Call) → accepts (reply m (stood m ks) k) ≡ true → stood m (k ∷ ks) ≡ routes_after k (stood m ks)
unfolding stood
stood_on m k ks e = rw e

stood-off : (m : Terms) (k : Call) (ks : List Call) → accepts (reply m (stood m ks) k) ≡ false → stood m (k ∷ ks) ≡ stood m ks
unfolding stood
stood-off m k ks e = rw e

module _ (t : Pair) (b : PairLent) where
  -- The box that an outcome leaves is sound, on the terms of the start, and the routes of either party are those that these calls of its own ask for.
  pub record RunHolds (o : PairOut) (calls : Party → List Call) : Type 0 where
    pub sound : PairSound o.state o.lent
    pub terms : (w : Party) → pair_terms w o.state o.lent ≡ pair_terms w t b
    pub routes : (w : Party) → standing_for w o.state o.lent ≡ stood (pair_terms w t b) (calls w)
    pub bytes : (w : Party) → (side w o.lent).list ≡ written (standing_for w o.state o.lent) (room_for w b)

  run-fresh : Makeable t b → RunHolds (pair_made t b) (λ w. [])
  unfolding stood
  run-fresh m = subst (λ (o : PairOut). RunHolds o (λ w. [])) (sym (made-is t b m)) (record {
    sound = fresh-sound t b m;
    terms = for-both (λ w. pair_terms w (fresh_pair t) (fresh_pair_lent b) ≡ pair_terms w t b) one
        (same-terms one t b (fresh_pair t) (fresh_pair_lent b) refl (fresh-rooms t b m one) refl refl)
        (same-terms two t b (fresh_pair t) (fresh_pair_lent b) refl (fresh-rooms t b m two) refl refl);
    routes = fresh-none t b m;
    bytes = λ w. fresh-bytes t b m w ∙ ap (λ (rs : List Route). written rs (room_for w b)) (sym (fresh-none t b m w));
  })

  -- one call more
  module _ (o : PairOut) (calls : Party → List Call) (h : RunHolds o calls) (w : Party) (k : Call) where
    abbrev u : Pair
    u = o.state

    abbrev v : PairLent
    v = o.lent

    abbrev next : PairOut
    next = pair_done w u v k

    pub next-says : next.said ≡ reply (pair_terms w t b) (stood (pair_terms w t b) (calls w)) k
    next-says = done-says w u v h.sound k ∙ ap₂ (λ (m : Terms) (rs : List Route). reply m rs k) (h.terms w) (h.routes w)

    module _ (calls' : Party → List Call) (mine : calls' w ≡ k ∷ calls w) (theirs : calls' (other w) ≡ calls (other w)) where
      abbrev m : Party → Terms
      m x = pair_terms x t b

      taken : accepts next.said ≡ true → RunHolds next calls'
      taken e =
          let p = accepted-holds w u v h.sound k e in
          let said : accepts (reply (m w) (stood (m w) (calls w)) k) ≡ true = sym (ap accepts next-says) ∙ e in
          record {
            sound = p.sound;
            terms = λ x. same-terms x u v next.state next.lent p.geometry (p.rooms x) (p.limits2 x) (p.limits3 x) ∙ h.terms x;
            routes = for-both (λ x. standing_for x next.state next.lent ≡ stood (m x) (calls' x)) w
                (p.routes ∙ ap (routes_after k) (h.routes w) ∙ sym (ap (stood (m w)) mine ∙ stood_on (m w) k (calls w) said))
                (their-routes w u v _ next.state next.lent p ∙ h.routes (other w) ∙ sym (ap (stood (m (other w))) theirs));
            bytes = for-both (λ x. (side x next.lent).list ≡ written (standing_for x next.state next.lent) (room_for x b)) w
                (p.list ∙ ap₂ written (sym p.routes) (ap (λ (z : Terms). z.room) (h.terms w)))
                (ap {B = List ℕ} (λ (l : Lent). l.list) p.theirs ∙ h.bytes (other w)
                ∙ ap (λ (rs : List Route). written rs (room_for (other w) b)) (sym (their-routes w u v _ next.state next.lent p)));
          }

      turned : accepts next.said ≡ false → RunHolds next calls'
      turned e =
          let q = refused-left w u v k e in
          let said : accepts (reply (m w) (stood (m w) (calls w)) k) ≡ false = sym (ap accepts next-says) ∙ e in
          record {
            sound = rw (q.0, q.1) h.sound;
            terms = λ x. rw (q.0, q.1) (h.terms x);
            routes = for-both (λ x. standing_for x next.state next.lent ≡ stood (m x) (calls' x)) w
                (rw (q.0, q.1) (h.routes w ∙ sym (ap (stood (m w)) mine ∙ stood-off (m w) k (calls w) said)))
                (rw (q.0, q.1) (h.routes (other w) ∙ sym (ap (stood (m (other w))) theirs)));
            bytes = λ x. rw (q.0, q.1) (h.bytes x);
          }

      run-next : RunHolds next calls'
      run-next = go (decided (accepts next.said))
        where
          go : (accepts next.said ≡ true) ⊎ (accepts next.said ≡ false) → RunHolds next calls'
          go (inl e) = taken e
          go (inr e) = turned e

  -- any run
  pub run_holds : Makeable t b → (cs : List By) → RunHolds (pair_after t b cs) (λ w. own w cs)
  unfolding pair_after own
  run_holds z [] = run-fresh z
  run_holds z (c ∷ cs) = run-next (pair_after t b cs) (λ w. own w cs) (run_holds z cs) c.who c.what (λ w. own w (c ∷ cs)) (own-self c cs) (own-other c cs)

-- What a party is told in a run: of its next call, of a lookup and of a report.
module _ (t : Pair) (b : PairLent) (made : accepts (pair_made t b).said ≡ true) (w : Party) (cs : List By) where
  abbrev its : Terms
  its = pair_terms w t b

  -- the routes that its own calls ask for
  abbrev rs : List Route
  rs = stood its (own w cs)

  abbrev now : PairOut
  now = pair_after t b cs

  holds : RunHolds t b now (λ x. own x cs)
  holds = run_holds t b (make-makeable t b made) cs

  geometry-same : now.state.geometry ≡ t.geometry
  geometry-same = ap {B = Geometry} (λ (x : Terms). x.geometry) (holds.terms w)

  pub pair-says : (k : Call) → (pair_done w now.state now.lent k).said ≡ reply its rs k
  pair-says k = next-says t b now (λ x. own x cs) holds w k

  pub pair-finds : (a : ℕ) → a < 2 ^ 32 → pair_lookup_said w now.state now.lent a ≡ hop_said (cells_read t.geometry rs a) (best rs 32 a)
  pair-finds a h =
      pair-serves now.state now.lent holds.sound w a h
      ∙ ap₂ (λ (g : Geometry) (xs : List Route). hop_said (cells_read g xs a) (best xs 32 a)) geometry-same (holds.routes w)

  pub pair-reports : pair_reported w now.state now.lent ≡ accepted (length rs ∷ need rs t.geometry.p1 ∷ need rs t.geometry.p2 ∷ [])
  pair-reports =
      pair-tells now.state now.lent holds.sound w
      ∙ ap (λ (n : ℕ). accepted (n ∷ need (standing_for w now.state now.lent) now.state.geometry.p1
      ∷ need (standing_for w now.state now.lent) now.state.geometry.p2 ∷ []))
      (sym (length-routes (side w now.lent).list (share_of w now.state).count))
      ∙ ap₂ (λ (g : Geometry) (xs : List Route). accepted (length xs ∷ need xs g.p1 ∷ need xs g.p2 ∷ [])) geometry-same (holds.routes w)

-- Two boxes in which w has the same room and limits, and made the same calls: what w is told follows from these.
pub isolation : (w : Party) (t : Pair) (b : PairLent) (cs : List By) (t' : Pair) (b' : PairLent) (cs' : List By) → Alike w t b cs t' b' cs'
    → ToldAlike w (pair_after t b cs) (pair_after t' b' cs')
isolation w t b cs t' b' cs' k =
    let e = same-terms w t' b' t b k.geometry k.room k.limit2 k.limit3 in
    let f = ap₂ (λ (x : Terms) (ks : List Call). stood x ks) e k.calls in
    record {
      calls = λ c. pair-says t b k.made w cs c ∙ ap₂ (λ (x : Terms) (xs : List Route). reply x xs c) e f ∙ sym (pair-says t' b' k.made' w cs' c);
      lookups = λ a h.
          pair-finds t b k.made w cs a h
          ∙ ap₂ (λ (g : Geometry) (xs : List Route). hop_said (cells_read g xs a) (best xs 32 a)) k.geometry f
          ∙ sym (pair-finds t' b' k.made' w cs' a h);
      reports =
          pair-reports t b k.made w cs
          ∙ ap₂ (λ (g : Geometry) (xs : List Route). accepted (length xs ∷ need xs g.p1 ∷ need xs g.p2 ∷ [])) k.geometry f
          ∙ sym (pair-reports t' b' k.made' w cs');
    }
