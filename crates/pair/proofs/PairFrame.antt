-- What a party's call changes. Of the other's nothing: what the other sees is as it was, and in a sound box a chunk that is the other's by its owner is
-- one that it sees. Of the party's own cells an announcement or withdrawal alters those that `Alters` allows, in the table that it sees.
use mathlib.Core.Path.{◌≡◌, refl, sym, ◌∙◌, ap, ap₂, subst}
use mathlib.Core.Logic.{◌⊎◌, ◌≢◌, ⊎_elim}
use mathlib.Core.Bool.{true, false, false≢true}
use mathlib.Core.List.{List, [], ◌∷◌}
use Prim.Native.Nat.{ℕ, ◌-◌, ◌*◌, ◌/◌, ◌^◌, ◌<◌}
use native.Mathlib.Nat.{div-lt_iff_lt-mul}
use native.Mathlib.Omega.{arith}
use lib.Dec.{ltb}
use lib.ListN.{get_or, length}
use lib.Pow.{pow_pos}
use borrow.Author.Tests.{leb-true, ltb-true, lt-ltb}
use Rattle.bits.specs.Slot.{cut}
use Rattle.bits.proofs.Bools.{decided, and_split}
use Rattle.routes.specs.Route.{key_of}
use Rattle.routes.specs.Said.{Said, accepts}
use Rattle.routes.specs.declared.Route.{Route}
use Rattle.standing.specs.Cells.{best, need}
use Rattle.standing.specs.Served.{hop_said}
use Rattle.standing.specs.Standing.{insert, remove}
use Rattle.sail.specs.Geometry.{bits2, bits3}
use Rattle.sail.specs.Lent.{Lent}
use Rattle.sail.specs.Level.{chunks_of, level1, level2}
use Rattle.sail.specs.Sound.{cells_read}
use Rattle.sail.specs.declared.geometry.Geometry.{Geometry}
use Rattle.sail_theory.specs.Alters.{Alters}
use Rattle.sail_theory.specs.Calls.{Owners, Out, cut_route}
use Rattle.sail_theory.specs.CallRuns.{Call, announce, withdraw, load}
use Rattle.sail_theory.specs.Facts.{Withdrawable}
use Rattle.sail_theory.specs.Render.{find, rendered}
use Rattle.sail_theory.proofs.calls.Outcomes.{taking-is}
use Rattle.sail_theory.proofs.frames.TableFrame.{at-alters, taking-alters}
use Rattle.pair.specs.Party.{Party, one, two, other, owner_of, seen, foreign, view}
use Rattle.pair.specs.PairLent.{PairLent, mine, part, pair_owners, room_for, sees}
use Rattle.pair.specs.PairSound.{share_of, table_for, standing_for, Nobodys, PairSound}
use Rattle.pair.specs.PairCalls.{opened_for, owners_kept_for, PairOut, pair_announced, pair_withdrawn, pair_reported, pair_lookup_said}
use Rattle.pair.specs.PairCases.{PairAnnounce, PairWithdraw, PairLoad}
use Rattle.pair.specs.PairFrame.{OwnersKept, CellsKept, TheirsStay}
use Rattle.pair.specs.PairRuns.{pair_done}
use Rattle.pair.specs.declared.Share.{Share}
use Rattle.pair.specs.declared.Pair.{Pair}
use Rattle.pair.proofs.Views.{seen_back, length-view, get_d-view, length_part, part-mine}
use Rattle.pair.proofs.Sees.{PairHolds, mine-seen}
use Rattle.pair.proofs.PairOwners.{keep-view}
use Rattle.pair.proofs.Shifts.{announce-at, announce-views, announce-shift}
use Rattle.pair.proofs.Finds.{pair-serves, pair-tells}
use Rattle.pair.proofs.PairJudged.{pair-announce-judged, pair-withdraw-judged, pair-load-judged}
use Rattle.pair.proofs.PairSteps.{
  announce-accepts,
  withdraw-accepts,
  load_said_lem,
  refused-left,
  announce-offered,
  announce-lent,
  withdraw-lent,
  prefix-shift,
  accepted-holds,
}
use Rattle.pair.proofs.Isolation.{their-routes}

-- in a sound box a chunk that is the other's by its owner is one that the other sees
theirs-seen : (w : Party) (o : ℕ) → (seen one o ≡ 0 → seen two o ≡ 0 → o ≡ 0) → foreign w o ≡ true → seen (other w) o ≢ 0
unfolding foreign seen
theirs-seen one o n f z = let h = leb-true 2147483648 o f in omega (arith, h, n (rw (borrow.Author.Tests.le-ltb o 2147483648 h)) z)
theirs-seen two o n f z =
    let a = and_split (ltb 0 o) (ltb o 2147483648) f in
    omega (arith, ltb-true 0 o a.0, rw a.1 at z)

-- an owner is known from what a party sees in it
same-owner : (w : Party) (o o' : ℕ) → seen w o ≢ 0 → seen w o' ≡ seen w o → o' ≡ o
same-owner w o o' h e =
    seen_back w o' (λ z. h (sym e ∙ z)) ∙ ap (λ (x : ℕ). owner_of w (x - 1)) e ∙ sym (seen_back w o h)

module _ (w : Party) (own own' : List ℕ) (n : Nobodys own) (n' : Nobodys own') (len : length own' ≡ length own)
    (same : view (other w) own' ≡ view (other w) own) where
  seen_same : (c : ℕ) → seen (other w) (get_or own' c 0) ≡ seen (other w) (get_or own c 0)
  seen_same c = sym (get_d-view (other w) own' c) ∙ ap (λ (v : List ℕ). get_or v c 0) same ∙ get_d-view (other w) own c

  owners-kept : OwnersKept w own own'
  owners-kept = record {
    many = len;
    stay = λ c l f. same-owner (other w) (get_or own c 0) (get_or own' c 0) (theirs-seen w (get_or own c 0) (n.zero c l) f) (seen_same c);
    none_new = λ c l f.
        sym (same-owner (other w) (get_or own' c 0) (get_or own c 0) (theirs-seen w (get_or own' c 0) (n'.zero c (rw len l)) f) (sym (seen_same c)));
  }

  cells-kept : (d : ℕ) (xs xs' : List ℕ) → length xs ≡ length own * 2 ^ d → part (other w) own' d xs' ≡ part (other w) own d xs → CellsKept w own d xs xs'
  cells-kept d xs xs' size e = record { many = many; stay = stay }
    where
      many : length xs' ≡ length xs
      many = sym (length_part (other w) own' d xs') ∙ ap length e ∙ length_part (other w) own d xs

      stay : (q : ℕ) → q < length xs → foreign w (get_or own (q / 2 ^ d) 0) ≡ true → get_or xs' q 0 ≡ get_or xs q 0
      stay q l f =
          let c : q / 2 ^ d < length own = (div-lt_iff_lt-mul (pow_pos d)).1 (rw size at l) in
          let h = theirs-seen w (get_or own (q / 2 ^ d) 0) (n.zero (q / 2 ^ d) c) f in
          let there : mine (other w) own d q ≡ true
          = lt-ltb 0 (get_or (view (other w) own) (q / 2 ^ d) 0) (omega (arith, get_d-view (other w) own (q / 2 ^ d), h)) in
          let there' : mine (other w) own' d q ≡ true = ap (λ (v : List ℕ). ltb 0 (get_or v (q / 2 ^ d) 0)) same ∙ there in
          sym (part-mine (other w) own' d xs' q (rw many l) there') ∙ ap (λ (ys : List ℕ). get_or ys q 0) e ∙ part-mine (other w) own d xs q l there

-- What is accepted was of a sound box.
module _ (w : Party) (t : Pair) (b : PairLent) where
  announce-was : (r : Route) {s : Said} → PairAnnounce w t b r s → accepts s ≡ true → PairSound t b
  announce-was r (PairAnnounce.sizing n h) e = absurd (false≢true e)
  announce-was r (PairAnnounce.wrong n z x) e = absurd (false≢true e)
  announce-was r (PairAnnounce.unsound z f h) e = absurd (false≢true e)
  announce-was r (PairAnnounce.replaced p x) e = p.sound
  announce-was r (PairAnnounce.full p x k) e = absurd (false≢true e)
  announce-was r (PairAnnounce.second k x) e = absurd (false≢true e)
  announce-was r (PairAnnounce.third k x y) e = absurd (false≢true e)
  announce-was r (PairAnnounce.added k x y) e = k.proper.sound

  withdraw-was : (a len : ℕ) {s : Said} → PairWithdraw w t b a len s → accepts s ≡ true
      → Withdrawable (table_for w t) (sees t.geometry w b) a len × PairSound t b
  withdraw-was a len (PairWithdraw.sizing n h) e = absurd (false≢true e)
  withdraw-was a len (PairWithdraw.bad_prefix z h) e = absurd (false≢true e)
  withdraw-was a len (PairWithdraw.unsound z p h) e = absurd (false≢true e)
  withdraw-was a len (PairWithdraw.absent p k x) e = absurd (false≢true e)
  withdraw-was a len (PairWithdraw.removed p k x) e = (record { prefix = p; sound = k.each w; old = x }, k)

  load-was : (input : List ℕ) {s : Said} → PairLoad w t b input s → accepts s ≡ true → PairSound t b
  load-was input (PairLoad.sizing n h) e = absurd (false≢true e)
  load-was input (PairLoad.unsound z h) e = absurd (false≢true e)
  load-was input (PairLoad.bad_input s k x) e = k
  load-was input (PairLoad.full k r) e = absurd (false≢true e)
  load-was input (PairLoad.second k r x) e = absurd (false≢true e)
  load-was input (PairLoad.third k r x y) e = absurd (false≢true e)
  load-was input (PairLoad.done k r x y) e = k.sound

  pub accepted-sound : (c : Call) → accepts (pair_done w t b c).said ≡ true → PairSound t b
  unfolding pair_done
  accepted-sound (announce r) e = announce-was (cut_route r) (pair-announce-judged w t b (cut_route r)) (sym (announce-accepts w t b r) ∙ e)
  accepted-sound (withdraw a len) e = (withdraw-was (cut len a) len (pair-withdraw-judged w t b (cut len a) len) (sym (withdraw-accepts w t b a len) ∙ e)).1
  accepted-sound (load input) e = load-was input (pair-load-judged w t b input) (sym (ap accepts (load_said_lem w t b input)) ∙ e)

-- Nothing of the other's changes: in any box, by any call.
module _ (w : Party) (t : Pair) (b : PairLent) where
  abbrev g : Geometry
  g = t.geometry

  nothing : TheirsStay g w b b
  nothing = record {
    list = refl;
    first = refl;
    long1 = refl;
    owners2 = record { many = refl; stay = λ c l f. refl; none_new = λ c l f. refl };
    owners3 = record { many = refl; stay = λ c l f. refl; none_new = λ c l f. refl };
    cells2 = record { many = refl; stay = λ q l f. refl };
    cells3 = record { many = refl; stay = λ q l f. refl };
    counts2 = record { many = refl; stay = λ q l f. refl };
  }

  holds_frame : PairSound t b → (rs : List Route) (u : Pair) (v : PairLent) → PairHolds w t b rs u v → TheirsStay g w b v
  holds_frame s rs u v h =
      let e = h.theirs in
      let f2 : view (other w) v.own2 ≡ view (other w) b.own2 = ap {B = List ℕ} (λ (l : Lent). l.own2) e in
      let f3 : view (other w) v.own3 ≡ view (other w) b.own3 = ap {B = List ℕ} (λ (l : Lent). l.own3) e in
      let z = (s.each (other w)).sized in
      let n2 : length b.second ≡ length b.own2 * 2 ^ bits2 g
      = sym (length_part (other w) b.own2 (bits2 g) b.second) ∙ z.cells2 ∙ ap (λ (n : ℕ). n * 2 ^ bits2 g) (length-view (other w) b.own2) in
      let n3 : length b.third ≡ length b.own3 * 2 ^ bits3 g
      = sym (length_part (other w) b.own3 (bits3 g) b.third) ∙ z.cells3 ∙ ap (λ (n : ℕ). n * 2 ^ bits3 g) (length-view (other w) b.own3) in
      let nc : length b.long2 ≡ length b.own2 * 2 ^ bits2 g
      = sym (length_part (other w) b.own2 (bits2 g) b.long2) ∙ z.counts2 ∙ length_part (other w) b.own2 (bits2 g) b.second ∙ n2 in
      record {
        list = ap {B = List ℕ} (λ (l : Lent). l.list) e;
        first = ap {B = List ℕ} (λ (l : Lent). l.first) e;
        long1 = ap {B = List ℕ} (λ (l : Lent). l.long1) e;
        owners2 = owners-kept w b.own2 v.own2 s.nobodys2 h.sound.nobodys2 h.chunks2 f2;
        owners3 = owners-kept w b.own3 v.own3 s.nobodys3 h.sound.nobodys3 h.chunks3 f3;
        cells2 = cells-kept w b.own2 v.own2 s.nobodys2 h.sound.nobodys2 h.chunks2 f2 (bits2 g) b.second v.second n2
            (ap {B = List ℕ} (λ (l : Lent). l.second) e);
        cells3 = cells-kept w b.own3 v.own3 s.nobodys3 h.sound.nobodys3 h.chunks3 f3 (bits3 g) b.third v.third n3
            (ap {B = List ℕ} (λ (l : Lent). l.third) e);
        counts2 = cells-kept w b.own2 v.own2 s.nobodys2 h.sound.nobodys2 h.chunks2 f2 (bits2 g) b.long2 v.long2 nc
            (ap {B = List ℕ} (λ (l : Lent). l.long2) e);
      }

  module _ (c : Call) where
    abbrev next : PairOut
    next = pair_done w t b c

    pub pair-frame : TheirsStay g w b next.lent
    pair-frame =
        ⊎_elim (λ (e : accepts next.said ≡ true).
        let s = accepted-sound w t b c e in holds_frame s _ next.state next.lent (accepted-holds w t b s c e))
        (λ (e : accepts next.said ≡ false). subst (λ (v : PairLent). TheirsStay g w b v) (sym (refused-left w t b c e).1) nothing)
        (decided (accepts next.said))

    -- and in the state nothing but the party's own count
    pub pair-frame-state : (share_of (other w) next.state ≡ share_of (other w) t) × (next.state.geometry ≡ t.geometry)
        × ((share_of w next.state).most2 ≡ (share_of w t).most2) × ((share_of w next.state).most3 ≡ (share_of w t).most3)
    pair-frame-state =
        ⊎_elim (λ (e : accepts next.said ≡ true).
        let h = accepted-holds w t b (accepted-sound w t b c e) c e in (h.share, h.geometry, h.limits2 w, h.limits3 w))
        (λ (e : accepts next.said ≡ false).
        let q = (refused-left w t b c e).0 in (
          ap (share_of (other w)) q,
          ap {B = Geometry} (λ (x : Pair). x.geometry) q,
          ap {B = ℕ} (λ (x : Pair). (share_of w x).most2) q,
          ap {B = ℕ} (λ (x : Pair). (share_of w x).most3) q,
        ))
        (decided (accepts next.said))

    -- so the other's lookups and its report stay
    pub others-lookups : (a : ℕ) → a < 2 ^ 32 → pair_lookup_said (other w) next.state next.lent a ≡ pair_lookup_said (other w) t b a
    others-lookups a l =
        ⊎_elim (λ (e : accepts next.said ≡ true).
        let s = accepted-sound w t b c e in
        let h = accepted-holds w t b s c e in
        pair-serves next.state next.lent h.sound (other w) a l
        ∙ ap₂ (λ (x : Geometry) (xs : List Route). hop_said (cells_read x xs a) (best xs 32 a)) h.geometry
        (their-routes w t b _ next.state next.lent h)
        ∙ sym (pair-serves t b s (other w) a l))
        (λ (e : accepts next.said ≡ false). let q = refused-left w t b c e in
        ap₂ (λ (x : Pair) (v : PairLent). pair_lookup_said (other w) x v a) q.0 q.1)
        (decided (accepts next.said))

    pub others-report : pair_reported (other w) next.state next.lent ≡ pair_reported (other w) t b
    others-report =
        ⊎_elim (λ (e : accepts next.said ≡ true).
        let s = accepted-sound w t b c e in
        let h = accepted-holds w t b s c e in
        pair-tells next.state next.lent h.sound (other w)
        ∙ ap₂ (λ (x : Share) (y : Geometry). Rattle.routes.specs.Said.accepted (x.count
        ∷ need (standing_for (other w) next.state next.lent) y.p1 ∷ need (standing_for (other w) next.state next.lent) y.p2 ∷ []))
        h.share h.geometry
        ∙ ap (λ (xs : List Route). Rattle.routes.specs.Said.accepted ((share_of (other w) t).count ∷ need xs g.p1 ∷ need xs g.p2 ∷ []))
        (their-routes w t b _ next.state next.lent h)
        ∙ sym (pair-tells t b s (other w)))
        (λ (e : accepts next.said ≡ false). let q = refused-left w t b c e in ap₂ (λ (x : Pair) (v : PairLent). pair_reported (other w) x v) q.0 q.1)
        (decided (accepts next.said))

-- The party's own cells, in the table that it sees: those that serve an address under the prefix, and those of chunks that it opens or closes.
module _ (w : Party) (t : Pair) (b : PairLent) where
  abbrev geo : Geometry
  geo = t.geometry

  abbrev mine_seen : Lent
  mine_seen = sees geo w b

  alters-none : (a len : ℕ) (v : PairLent) → v ≡ b → Alters geo a len mine_seen (sees geo w v)
  alters-none a len v e =
      subst (λ (x : PairLent). Alters geo a len mine_seen (sees geo w x)) (sym e)
      (record { first = λ q h n. refl; second = λ q h n o. refl; third = λ q h n o. refl })

  announce-alters : (r : Route) → accepts (pair_announced w t b r).said ≡ true → PairSound t b
      → Alters geo (cut r.len r.addr) r.len mine_seen (sees geo w (pair_announced w t b r).lent)
  announce-alters r e s =
      let c : Route = cut_route r in
      let f = announce-offered w t b s r e in
      let o : Owners = opened_for w geo (pair_owners b) c in
      let rs : List Route = insert c (standing_for w t b) in
      let views = announce-views t b s w c f.0 f.1 f.2 f.3 in
      let is = ap (sees geo w) (announce-lent w t b s r e) ∙ mine-seen w t b rs o (announce-shift t b s w c f.0 f.1 f.2 f.3)
      ∙ ap₂ (λ (x y : List ℕ). rendered geo (room_for w b) rs x y) views.0 views.1 in
      subst (λ (l : Lent). Alters geo c.addr c.len mine_seen l) (sym is)
      (at-alters (table_for w t) mine_seen c (find b.own2 0) (find b.own3 0) (announce-at t b s w c f.0 f.1 f.2 f.3))

  withdraw-alters : (a len : ℕ) → accepts (pair_withdrawn w t b a len).said ≡ true
      → Alters geo (cut len a) len mine_seen (sees geo w (pair_withdrawn w t b a len).lent)
  withdraw-alters a len e =
      let h = withdraw-was w t b (cut len a) len (pair-withdraw-judged w t b (cut len a) len) (sym (withdraw-accepts w t b a len) ∙ e) in
      let s = h.1 in
      let k = key_of (cut len a) len in
      let left : List Route = remove k (standing_for w t b) in
      let o : Owners = owners_kept_for w geo left (pair_owners b) in
      let is = ap (sees geo w) (withdraw-lent w t b s a len e) ∙ mine-seen w t b left o (prefix-shift w t b s k)
      ∙ ap₂ (λ (x y : List ℕ). rendered geo (room_for w b) left x y) (keep-view w left (level1 geo) b.own2)
      (keep-view w left (level2 geo (chunks_of (view w b.own2))) b.own3) in
      subst (λ (l : Lent). Alters geo (cut len a) len mine_seen l)
      (sym (is ∙ sym (ap {B = Lent} (λ (x : Out). x.lent) (taking-is (table_for w t) mine_seen (cut len a) len h.0))))
      (taking-alters (table_for w t) mine_seen (cut len a) len h.0)

  pub pair-alters-announce : (r : Route) → Alters geo (cut r.len r.addr) r.len mine_seen (sees geo w (pair_announced w t b r).lent)
  unfolding pair_done
  pair-alters-announce r =
      ⊎_elim (λ (e : accepts (pair_announced w t b r).said ≡ true). announce-alters r e (accepted-sound w t b (announce r) e))
      (λ (e : accepts (pair_announced w t b r).said ≡ false). alters-none _ _ _ (refused-left w t b (announce r) e).1)
      (decided (accepts (pair_announced w t b r).said))

  pub pair-alters-withdraw : (a len : ℕ) → Alters geo (cut len a) len mine_seen (sees geo w (pair_withdrawn w t b a len).lent)
  unfolding pair_done
  pair-alters-withdraw a len =
      ⊎_elim (λ (e : accepts (pair_withdrawn w t b a len).said ≡ true). withdraw-alters a len e)
      (λ (e : accepts (pair_withdrawn w t b a len).said ≡ false). alters-none _ _ _ (refused-left w t b (withdraw a len) e).1)
      (decided (accepts (pair_withdrawn w t b a len).said))
