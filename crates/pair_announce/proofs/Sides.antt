-- A party's announcement on its side of a box: what each step asks of the side, and what they leave. A side is that of a sound box, so the laws of the box
-- (Enters.antt) hold of it.
use mathlib.Core.Path.{◌≡◌, refl, sym, ◌∙◌, ap, ap₂, subst}
use mathlib.Core.Bool.{Bool, true}
use mathlib.Core.List.{List, [], ◌∷◌}
use Prim.Native.Nat.{ℕ, zero, suc, ◌≤◌}
use native.Mathlib.Omega.{arith}
use lib.ListN.{length}
use Rattle.bits.specs.Count.{bit}
use Rattle.routes.specs.Route.{key, Fine}
use Rattle.routes.specs.Said.{Said, accepted, refused}
use Rattle.routes.specs.declared.Route.{Route}
use Rattle.routes.proofs.Meaning.{fine-fault}
use Rattle.standing.specs.Cells.{need}
use Rattle.standing.specs.Standing.{stands, insert}
use Rattle.chain.specs.List.{ChainedFront}
use Rattle.sail.specs.Geometry.{bits2}
use Rattle.sail.specs.Lent.{Lent, lent}
use Rattle.sail.specs.Level.{level1}
use Rattle.sail.specs.declared.geometry.Geometry.{Geometry}
use Rattle.sail.specs.declared.table.Table.{Table}
use Rattle.sail.proofs.Sounds.{chunks-need}
use Rattle.sail_theory.specs.Render.{find, rendered, room_of}
use Rattle.sail_theory.specs.Calls.{Owners, opened_at, owners_of, announce_fault, or_say}
use Rattle.sail_theory.specs.Shared.{own_part, alone, mixed_in}
use Rattle.sail_theory.proofs.places.Alone.{length-own}
use Rattle.sail_chunks.proofs.SharedCells.{own-agree, serving-agree}
use Rattle.sail_chunks.proofs.Trails.{serving-of}
use Rattle.sail_judge.specs.Announce.{RoomReady, room_terms, RoomJudged, Found}
use Rattle.sail_judge.specs.declared.announce.AnnounceVerdict.{AnnounceVerdict}
use Rattle.sail_add.specs.Added.{ToAddIn, MeetsAddIn}
use Rattle.pair.specs.Party.{Party, one, two, view}
use Rattle.pair.specs.PairLent.{PairLent, side, pair_owners, room_for}
use Rattle.pair.specs.PairSound.{share_of, table_for, standing_for, PairSound}
use Rattle.pair.specs.PairCalls.{opened_for, pair_announce_said, pair_out, pair_outcome, with_count, pair_lent_of, pair_adding}
use Rattle.pair.specs.declared.Pair.{Pair}
use Rattle.pair.specs.declared.Share.{Share}
use Rattle.pair.proofs.Sees.{share-own, side-sized, Shift}
use Rattle.pair.proofs.Offers.{announce-offer}
use Rattle.pair.proofs.PairFresh.{sizes-none}
use Rattle.pair.proofs.PairSteps.{on-terms}
use Rattle.pair.proofs.PairTest.{pair-sound-tells}
use Rattle.pair_sound.specs.BoxTest.{among}
use Rattle.pair_cells.specs.Sides.{routes_in, SideSound, SideSight, with_side, SideOut, side_out}
use Rattle.pair_cells.proofs.Boxes.{side-sound, same-side, shift-box, shift-sound}
use Rattle.pair_announce.specs.Tagged.{tagged, TagReady}
use Rattle.pair_announce.specs.SideAdds.{InBox, side_terms, side_ends, state_with, side_with, side_adding, TurnReady, TurnTaken, ToEnter, Entered, turn_said}
use Rattle.pair_announce.specs.declared.turn.Turn.{Turn}
use Rattle.pair_announce.proofs.Enters as enters

side-with : (w : Party) (e : Lent) (b : PairLent) → side w (with_side w e b) ≡ e
side-with one e b = refl
side-with two e b = refl

side-owners : (w : Party) (b : PairLent) → owners_of (side w b) ≡ pair_owners b
side-owners one b = refl
side-owners two b = refl

-- ---- the box

module _ (t : Pair) (b : PairLent) (s : PairSound t b) (r : Route) (fine : Fine r) where
  -- the terms let the route in
  abbrev Free : Party → Type 0
  Free w = announce_fault true (side_terms w t (side w b)) (standing_for w t b) r ≡ 0

  abbrev Offer : Party → Type 0
  Offer w =
      (length (insert r (standing_for w t b)) ≤ room_for w b)
      × (need (insert r (standing_for w t b)) t.geometry.p1 ≤ (share_of w t).most2)
      × (need (insert r (standing_for w t b)) t.geometry.p2 ≤ (share_of w t).most3)

  offer : (w : Party) → Free w → Offer w
  offer w e =
      let v = (s.each w).sized.valid in
      let o = announce-offer (side_terms w t (side w b)) (standing_for w t b) (on-terms w t b s) r (omega arith) (omega arith) [] (rw (fine-fault r fine, e)) in
      (o.1, o.2, o.3)

  -- the owners then, and as the party sees them
  abbrev then : Party → Lent → Owners
  then w l = opened_for w t.geometry (owners_of l) r

  abbrev seen_then : Party → Lent → Owners
  seen_then w l = opened_at t.geometry (owners_of (among w l)) (find l.own2 0) (find l.own3 0) r

  module _ (f : AnnounceVerdict) where
    -- Of the side of the party: what is asked before the route is put in, what the owners then are, and what may be written.
    pub record OnSide (w : Party) (l : Lent) : Type 0 where
      pub to_add : ToAddIn (table_for w t) (among w l) r f (find l.own2 0) (find l.own3 0)
      pub views : (view w (then w l).own2 ≡ (seen_then w l).own2) × (view w (then w l).own3 ≡ (seen_then w l).own3)
      pub owners2 : tagged w f.opens.second (find l.own2 0) (seen_then w l).own2 l.own2 ≡ (then w l).own2
      pub owners3 : tagged w f.opens.third (find l.own3 0) (seen_then w l).own3 l.own3 ≡ (then w l).own3
      pub tags2 : TagReady f.opens.second (find l.own2 0) (seen_then w l).own2 l.own2
      pub tags3 : TagReady f.opens.third (find l.own3 0) (seen_then w l).own3 l.own3

    abbrev FoundIn : Party → Lent → Type 0
    FoundIn w l = Found t.geometry l.list (share_of w t).count (view w l.own2) r f

    on-side : (w : Party) → Free w → FoundIn w (side w b) → OnSide w (side w b)
    on-side one e k =
        let o = offer one e in
        record {
          to_add = enters.to_add t b s one r fine o.0 o.1 o.2 f k;
          views = enters.views t b s one r fine o.0 o.1 o.2;
          owners2 = enters.owners2 t b s one r fine o.0 o.1 o.2 f k;
          owners3 = enters.owners3 t b s one r fine o.0 o.1 o.2 f k;
          tags2 = enters.tags2 t b s one r fine o.0 o.1 o.2 f k;
          tags3 = enters.tags3 t b s one r fine o.0 o.1 o.2 f k;
        }
    on-side two e k =
        let o = offer two e in
        record {
          to_add = enters.to_add t b s two r fine o.0 o.1 o.2 f k;
          views = enters.views t b s two r fine o.0 o.1 o.2;
          owners2 = enters.owners2 t b s two r fine o.0 o.1 o.2 f k;
          owners3 = enters.owners3 t b s two r fine o.0 o.1 o.2 f k;
          tags2 = enters.tags2 t b s two r fine o.0 o.1 o.2 f k;
          tags3 = enters.tags3 t b s two r fine o.0 o.1 o.2 f k;
        }

  shift_of : (w : Party) → Free w → Shift w t b (insert r (routes_in w t (side w b))) (opened_for w t.geometry (owners_of (side w b)) r)
  shift_of one e = let o = offer one e in enters.shift t b s one r fine o.0 o.1 o.2
  shift_of two e = let o = offer two e in enters.shift t b s two r fine o.0 o.1 o.2

  -- the side with the route is that of a sound box
  side-boxed : (w : Party) → Free w → InBox w (state_with w t (side w b) r) (side_with w t (side w b) r)
  side-boxed w e = record {
    box = with_side w (side_with w t (side w b) r) b;
    is = side-with w (side_with w t (side w b) r) b;
    sound = shift-sound t b (insert r (routes_in w t (side w b))) (opened_for w t.geometry (owners_of (side w b)) r) w (shift_of w e);
  }

  -- ---- what the whole call leaves
  abbrev fault : Party → ℕ
  fault w = announce_fault true (side_terms w t (side w b)) (standing_for w t b) r

  abbrev said : Party → Said
  said w = accepted (bit (stands (key r) (standing_for w t b)) ∷ [])

  said-is : (w : Party) → pair_announce_said w t b r ≡ or_say (fault w) (said w)
  unfolding pair_announce_said
  said-is w = rw (sizes-none t.geometry b (λ x. side-sized t.geometry x b (s.each x).sized), fine-fault r fine, (pair-sound-tells t b).1 s)

  -- what a step on the side leaves is what the announcement leaves of the box
  pub side-adding : (w : Party) (f : Turn) (e : Lent) → side_out f.number f.state e ≡ side_adding w t (side w b) r
      → (f.number ≡ 0 → f.stood ≡ stands (key r) (standing_for w t b)) → pair_out (turn_said f) f.state (with_side w e b) ≡ pair_adding w t b r
  unfolding pair_adding side_adding
  side-adding w f e left stood = go (fault w) refl left ∙ sym (ap (λ (x : Said). pair_outcome x t b state asked) (said-is w))
    where
      state : Pair
      state = with_count w (length (insert r (standing_for w t b))) t

      asked : PairLent
      asked = pair_lent_of w t b (insert r (standing_for w t b)) (opened_for w t.geometry (pair_owners b) r)

      left_is : fault w ≡ 0 → with_side w (side_with w t (side w b) r) b ≡ asked
      left_is z =
          shift-box t b (insert r (routes_in w t (side w b))) (opened_for w t.geometry (owners_of (side w b)) r) w (shift_of w z)
          ∙ ap (λ (o : Owners). pair_lent_of w t b (insert r (standing_for w t b)) (opened_for w t.geometry o r)) (side-owners w b)

      go : (n : ℕ) → fault w ≡ n → side_out f.number f.state e ≡ side_ends n t (side w b) (state_with w t (side w b) r) (side_with w t (side w b) r)
          → pair_out (turn_said f) f.state (with_side w e b) ≡ pair_outcome (or_say n (said w)) t b state asked
      go zero z h =
          let number : f.number ≡ 0 = ap (λ (x : SideOut). x.number) h in
          let same : f.state ≡ state = ap (λ (x : SideOut). x.state) h in
          let lent : e ≡ side_with w t (side w b) r = ap (λ (x : SideOut). x.lent) h in
          rw (number, stood number, same, lent) (ap (λ (x : PairLent). pair_out (said w) state x) (left_is z))
      go (suc n) z h =
          let number : f.number ≡ suc n = ap (λ (x : SideOut). x.number) h in
          let same : f.state ≡ t = ap (λ (x : SideOut). x.state) h in
          let lent : e ≡ side w b = ap (λ (x : SideOut). x.lent) h in
          rw (number, same, lent) (ap (λ (x : PairLent). pair_out (refused (suc n)) t x) (same-side w b))

-- ---- the side

-- what the judge of the room asks of it
module _ {w : Party} {t : Pair} {l : Lent} {r : Route} {see2 see3 ws par : List ℕ} (k : TurnReady w t l r see2 see3 ws par) where
  abbrev g : Geometry
  g = t.geometry

  sound : SideSound w t l
  sound = subst (λ (x : Lent). SideSound w t x) k.boxed.is (side-sound w t k.boxed.box k.boxed.sound)

  within : (need (routes_in w t l) g.p1 ≤ (share_of w t).most2) × (need (routes_in w t l) g.p2 ≤ (share_of w t).most3)
  within = subst (λ (x : Lent). (need (routes_in w t x) g.p1 ≤ (share_of w t).most2) × (need (routes_in w t x) g.p2 ≤ (share_of w t).most3)) k.boxed.is
      (k.boxed.sound.within2 w, k.boxed.sound.within3 w)

  -- x is the state of the party's own table, and y its share
  module _ {x : Table} (table : x ≡ table_for w t) {y : Share} (share : y ≡ share_of w t) where
    pub room-asks : RoomReady x l.list l.first l.second see2 see3 r y.most2 y.most3
    room-asks =
        let n = chunks-need (table_for w t) (alone g (among w l)) sound in
        let own2 : List ℕ = view w l.own2 in
        rw (table, share, k.sight.seen2, k.sight.seen3) (record {
          fine = k.fine;
          listed = sound.listed;
          serving = serving-agree g _ l.first (own_part own2 (bits2 g) l.second) l.second own2 (view w l.own3)
              (own-agree (level1 g) own2 g.p2 l.second (sym (length-own own2 (bits2 g) l.second) ∙ sound.sized.cells2))
              (serving-of (table_for w t) (alone g (among w l)) sound);
          needed2 = n.0;
          needed3 = n.1;
          within2 = omega (arith, n.0, within.0);
          within3 = omega (arith, n.1, within.1);
        })

    pub room_says : {f : AnnounceVerdict} → RoomJudged (room_terms x l.list y.most2 y.most3) l.list x.count see2 r f
        → RoomJudged (side_terms w t l) l.list (share_of w t).count see2 r f
    room_says j = rw (table, share) at j

  -- refused: all is as it was
  pub turn-refused : {f : AnnounceVerdict} → RoomJudged (side_terms w t l) l.list (share_of w t).count see2 r f → (f.number ≡ 0 → ⊥) → (b : Bool)
      → TurnTaken w t l r (record { number = f.number; stood = b; state = t }) l see2 see3 ws par
  unfolding side_adding
  turn-refused {f} j h b = record {
    left = rw (← j.number) (go f.number h);
    stood = λ z. absurd (h z);
    boxed = k.boxed;
    sight = k.sight;
  }
    where
      go : (n : ℕ) → (n ≡ 0 → ⊥) → side_out n t l ≡ side_ends n t l (state_with w t l r) (side_with w t l r)
      go zero h = absurd (h refl)
      go (suc n) h = refl

  -- none: the route may be put in
  pub turn-enters : {f : AnnounceVerdict} → RoomJudged (side_terms w t l) l.list (share_of w t).count see2 r f → f.number ≡ 0
      → ToEnter w t l r f see2 see3 ws par
  turn-enters j z = record { ready = k; free = sym j.number ∙ z; found = j.found z }

  pub turn-entered : {f : AnnounceVerdict} → RoomJudged (side_terms w t l) l.list (share_of w t).count see2 r f → f.number ≡ 0
      → {u : Pair} {e : Lent} {see2' see3' ws' par' : List ℕ} → Entered w t l r u e see2' see3' ws' par'
      → TurnTaken w t l r (record { number = 0; stood = f.stands; state = u }) e see2' see3' ws' par'
  unfolding side_adding
  turn-entered {f} j z {u} {e} d = record {
    left = rw (sym j.number ∙ z, d.state, d.side);
    stood = λ _. (j.found z).stood;
    boxed = rw (d.state, d.side) (boxed-still (sym j.number ∙ z));
    sight = d.sight;
  }
    where
      boxed-still : announce_fault true (side_terms w t l) (routes_in w t l) r ≡ 0 → InBox w (state_with w t l r) (side_with w t l r)
      boxed-still = subst (λ (x : Lent). announce_fault true (side_terms w t x) (routes_in w t x) r ≡ 0 → InBox w (state_with w t x r) (side_with w t x r))
          k.boxed.is (side-boxed t k.boxed.box k.boxed.sound r k.fine w)

-- the steps of putting it in
module _ {w : Party} {t : Pair} {l : Lent} {r : Route} {f : AnnounceVerdict} {see2 see3 ws par : List ℕ} (k : ToEnter w t l r f see2 see3 ws par) where
  abbrev box : InBox w t l
  box = k.ready.boxed

  abbrev sight : SideSight w t l see2 see3 ws par
  sight = k.ready.sight

  on : OnSide t box.box box.sound r k.ready.fine f w l
  on = subst (λ (x : Lent). announce_fault true (side_terms w t x) (routes_in w t x) r ≡ 0
      → Found t.geometry x.list (share_of w t).count (view w x.own2) r f → OnSide t box.box box.sound r k.ready.fine f w x) box.is
      (on-side t box.box box.sound r k.ready.fine f w) k.free (rw sight.seen2 at k.found)

  -- c2 and c3 are the lowest chunks that nobody has, x the state of the party's own table
  module _ {x : Table} (is : x ≡ table_for w t) {c2 c3 : ℕ} (low2 : c2 ≡ find l.own2 0) (low3 : c3 ≡ find l.own3 0) where
    pub enter-adds : ToAddIn x (lent l.list l.first l.second l.third see2 see3 l.long1 l.long2) r f c2 c3
    enter-adds = rw (is, low2, low3, sight.seen2, sight.seen3) on.to_add

    pub enter-chain : ChainedFront l.list x.count ws par
    enter-chain = rw is sight.chain

    -- u and e are left of the party's table
    module _ {u : Table} {e : Lent} (m : MeetsAddIn x (lent l.list l.first l.second l.third see2 see3 l.long1 l.long2) r c2 c3 u e) where
      abbrev next : List Route
      next = insert r (routes_in w t l)

      abbrev now : Owners
      now = opened_for w t.geometry (owners_of l) r

      left : (u.count ≡ length next)
          × (e ≡ mixed_in t.geometry (among w l) (rendered t.geometry (room_of l) next (view w now.own2) (view w now.own3)))
      left =
          let z : MeetsAddIn (table_for w t) (among w l) r (find l.own2 0) (find l.own3 0) u e
          = rw (is, low2, low3, sight.seen2, sight.seen3) at m in (
            ap (λ (y : Table). y.count) z.0,
            z.1 ∙ sym (ap₂ (λ (a b : List ℕ). mixed_in t.geometry (among w l) (rendered t.geometry (room_of l) next a b)) on.views.0 on.views.1),
          )

      pub enter-tags2 : TagReady f.opens.second c2 e.own2 l.own2
      enter-tags2 = rw (left.1, low2, on.views.0) on.tags2

      pub enter-tags3 : TagReady f.opens.third c3 e.own3 l.own3
      enter-tags3 = rw (left.1, low3, on.views.1) on.tags3

      module _ {own2 own3 : List ℕ} (tag2 : own2 ≡ tagged w f.opens.second c2 e.own2 l.own2)
          (tag3 : own3 ≡ tagged w f.opens.third c3 e.own3 l.own3) where
        owners2 : own2 ≡ now.own2
        owners2 = tag2 ∙ rw (left.1, low2, on.views.0) on.owners2

        owners3 : own3 ≡ now.own3
        owners3 = tag3 ∙ rw (left.1, low3, on.views.1) on.owners3

        pub enter-done : {p : Pair} → p ≡ with_count w u.count t → {ws' par' : List ℕ} → ChainedFront e.list u.count ws' par'
            → Entered w t l r p (lent e.list e.first e.second e.third own2 own3 e.long1 e.long2) e.own2 e.own3 ws' par'
        enter-done {p} q {ws'} {par'} c = record {
          state = q ∙ ap (λ (n : ℕ). with_count w n t) left.0;
          side = rw (owners2, owners3)
              (ap (λ (y : Lent). lent y.list y.first y.second y.third now.own2 now.own3 y.long1 y.long2) left.1);
          sight = record {
            seen2 = ap (λ (y : Lent). y.own2) left.1 ∙ ap (view w) (sym owners2);
            seen3 = ap (λ (y : Lent). y.own3) left.1 ∙ ap (view w) (sym owners3);
            chain = subst (λ (n : ℕ). ChainedFront e.list n ws' par')
                (sym (ap (λ (y : Pair). (share_of w y).count) q ∙ ap (λ (y : Share). y.count) (share-own w u.count t))) c;
          };
        }
