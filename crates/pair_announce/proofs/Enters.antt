-- A party's announcement on a sound box that has room for it. What the party sees is a table in which the route may be announced, with the lowest
-- chunks that nobody has; these are blank, for what is nobody's is. The owners that the code writes are those that the announcement asks for.
use mathlib.Core.Path.{◌≡◌, refl, sym, ◌∙◌, ap, subst}
use mathlib.Core.Bool.{true, false}
use mathlib.Core.List.{List}
use Prim.Native.Nat.{ℕ, suc, ◌*◌, ◌^◌, ◌≤◌, ◌<◌}
use native.Mathlib.Nat.{mul-le-mul}
use native.Mathlib.Omega.{arith}
use lib.Dec.{ltb}
use lib.ListN.{get_or, length, set}
use lib.Pow.{pow_mono}
use lib.Seq.{get_or-set_same}
use Rattle.routes.specs.Route.{Fine}
use Rattle.routes.specs.declared.Route.{Route}
use Rattle.standing.specs.Cells.{need}
use Rattle.standing.specs.Standing.{insert}
use Rattle.sail.specs.Geometry.{bits2, bits3}
use Rattle.sail.specs.Level.{Level, chunks_of, level1, level2}
use Rattle.sail.specs.declared.geometry.Geometry.{Geometry}
use Rattle.sail_theory.specs.Render.{find}
use Rattle.sail_theory.specs.Calls.{Owners, open_at}
use Rattle.sail_theory.specs.Shared.{ComesBlank}
use Rattle.sail_theory.proofs.owners.Chunks.{chunk-le}
use Rattle.sail_theory.proofs.owners.OpenAt.{OpenReady, length-open}
use Rattle.sail_theory.proofs.calls.ChangeHolds.{AnnounceableAt}
use Rattle.sail_chunks.specs.Chunks.{with_owner, alone}
use Rattle.sail_chunks.specs.ToOpen.{Openable}
use Rattle.sail_chunks.proofs.ChunkOwners.{alone-parts}
use Rattle.sail_chunks.proofs.AnnounceUnderway.{open-hung, at-openable}
use Rattle.sail_judge.specs.Announce.{Found}
use Rattle.sail_judge.specs.declared.announce.AnnounceVerdict.{AnnounceVerdict}
use Rattle.sail_add.specs.Added.{ToAddIn}
use Rattle.pair.specs.Party.{Party, one, two, other, view}
use Rattle.pair.specs.PairLent.{PairLent, side, pair_owners, room_for, mine, viewed, sees}
use Rattle.pair.specs.PairSound.{share_of, table_for, standing_for, Spare, PairSound}
use Rattle.pair.specs.PairCalls.{open_for, opened_for}
use Rattle.pair.specs.declared.Pair.{Pair}
use Rattle.pair.proofs.Views.{mine-apart, length-view}
use Rattle.pair.proofs.Sees.{Shift}
use Rattle.pair.proofs.Shifts.{announce-at, announce-views, announce-shift}
use Rattle.pair.proofs.Lays.{same-places}
use Rattle.pair_announce.specs.Tagged.{tagged, TagReady}
use Rattle.pair_announce.proofs.TagLaws.{tagged-open}

-- A place that the party has then, and had not before, was nobody's: the other sees the owners that it saw.
comes-spare : (w : Party) (own own' : List ℕ) (d : ℕ) (xs : List ℕ) → Spare own d xs → view (other w) own' ≡ view (other w) own
    → ComesBlank (view w own) (view w own') d xs
comes-spare w own own' d xs s same = record {
  zero = λ q l e f. neither w q l e (sym (same-places (other w) own own' d q same) ∙ mine-apart w own' d q f);
}
  where
    neither : (w : Party) (q : ℕ) → q < length xs → mine w own d q ≡ false → mine (other w) own d q ≡ false → get_or xs q 0 ≡ 0
    neither one q l x y = s.blank q l x y
    neither two q l x y = s.blank q l y x

-- where a chunk is opened at a level, the party sees there 1 + the place that serves the route
opened-seen : (rs : List Route) (r : Route) (v : Level) (own : List ℕ) (c : ℕ) → OpenReady rs r v own c → alone rs v.bits r.addr r.len ≡ true
    → c < length own → get_or (open_at v own c r) c 0 ≡ suc (v.serving r.addr)
unfolding with_owner
opened-seen rs r v own c w e l = rw (open-hung rs r v own c w, e) (get_or-set_same own c (suc (v.serving r.addr)) 0 l)

module _ (t : Pair) (b : PairLent) (s : PairSound t b) (w : Party) (r : Route) (fine : Fine r)
    (roomy : length (insert r (standing_for w t b)) ≤ room_for w b)
    (e2 : need (insert r (standing_for w t b)) t.geometry.p1 ≤ (share_of w t).most2)
    (e3 : need (insert r (standing_for w t b)) t.geometry.p2 ≤ (share_of w t).most3) where
  abbrev g : Geometry
  g = t.geometry

  abbrev rs : List Route
  rs = standing_for w t b

  abbrev c2 : ℕ
  c2 = find b.own2 0

  abbrev c3 : ℕ
  c3 = find b.own3 0

  -- the owners then, as they are and as the party sees them
  abbrev now : Owners
  now = opened_for w g (pair_owners b) r

  abbrev seen2 : List ℕ
  seen2 = open_at (level1 g) (view w b.own2) c2 r

  abbrev seen3 : List ℕ
  seen3 = open_at (level2 g (chunks_of seen2)) (view w b.own3) c3 r

  at : AnnounceableAt (table_for w t) (sees g w b) r c2 c3
  at = announce-at t b s w r fine roomy e2 e3

  pub views : (view w now.own2 ≡ seen2) × (view w now.own3 ≡ seen3)
  views = announce-views t b s w r fine roomy e2 e3

  pub shift : Shift w t b (insert r rs) now
  shift = announce-shift t b s w r fine roomy e2 e3

  few2 : c2 < 65536
  few2 = omega (arith, chunk-le (chunks_of b.own2) 0, (s.each w).sized.few2, length-view w b.own2)

  module _ (f : AnnounceVerdict) (found : Found g (side w b).list (share_of w t).count (view w b.own2) r f) where
    pub to_add : ToAddIn (table_for w t) (viewed w b) r f c2 c3
    to_add = record {
      may = record { fine = fine; sound = at.sound; roomy = at.roomy; free2 = at.first.space; free3 = at.second.space };
      found = found;
      few2 = few2;
      blank2 = subst (λ (x : List ℕ). ComesBlank (view w b.own2) x (bits2 g) b.second) views.0
          (comes-spare w b.own2 now.own2 (bits2 g) b.second s.spare2 shift.same2);
      blank3 = subst (λ (x : List ℕ). ComesBlank (view w b.own3) x (bits3 g) b.third) views.1
          (comes-spare w b.own3 now.own3 (bits3 g) b.third s.spare3 shift.same3);
      uncounted = subst (λ (x : List ℕ). ComesBlank (view w b.own2) x (bits2 g) b.long2) views.0
          (comes-spare w b.own2 now.own2 (bits2 g) b.long2 s.uncounted shift.same2);
    }

    openable : Openable g r f.opens c2 c3 (view w b.own2) (view w b.own3)
    openable = at-openable (table_for w t) (sees g w b) r c2 c3 at few2 f.opens found.opens

    -- what is seen in the chunks that are opened
    hung2 : f.opens.second ≡ true → get_or seen2 c2 0 ≡ suc ((level1 g).serving r.addr)
    hung2 y = opened-seen rs r (level1 g) (view w b.own2) c2 at.first (sym found.opens.second ∙ y) (openable.second.free.some y)

    hung3 : f.opens.third ≡ true → get_or seen3 c3 0 ≡ suc ((level2 g (chunks_of seen2)).serving r.addr)
    hung3 y =
        opened-seen rs r (level2 g (chunks_of seen2)) (view w b.own3) c3 at.second (sym found.opens.third ∙ y) (openable.third.free.some y)

    pub owners2 : tagged w f.opens.second c2 seen2 b.own2 ≡ now.own2
    owners2 = tagged-open w (level1 g) b.own2 r f.opens.second c2 seen2 openable.second.opens refl hung2

    pub owners3 : tagged w f.opens.third c3 seen3 b.own3 ≡ now.own3
    owners3 =
        tagged-open w (level2 g (chunks_of seen2)) b.own3 r f.opens.third c3 seen3 openable.third.opens refl hung3
        ∙ ap (λ (x : List ℕ). open_for w (level2 g (chunks_of x)) b.own3 r) (sym views.0)

    -- and that leaves the top bit free
    small2 : ltb g.p1 r.len ≡ true → suc ((level1 g).serving r.addr) < 2147483648
    small2 e =
        let v = at.sound.sized.valid in
        let m : 2 ^ g.p1 ≤ 2 ^ 16 = pow_mono v.p1_high in
        omega (arith, (at.first.served e).inside, m)

    small3 : ltb g.p2 r.len ≡ true → suc ((level2 g (chunks_of seen2)).serving r.addr) < 2147483648
    small3 e =
        let v = at.sound.sized.valid in
        let few : length seen2 ≤ 4096 = rw length-open at.sound.sized.few2 in
        let m : length seen2 * 2 ^ bits2 g ≤ 4096 * 2 ^ 10 = mul-le-mul few (pow_mono v.near) in
        omega (arith, (at.second.served e).inside, m)

    -- so they may be written
    pub tags2 : TagReady f.opens.second c2 seen2 b.own2
    tags2 = record {
      there = λ y. rw length-view at (openable.second.free.some y);
      seen = λ y. rw length-open (openable.second.free.some y);
      mine = λ y.
          let low = small2 (alone-parts rs g.p1 r.addr r.len (sym found.opens.second ∙ y)).0 in
          record { some = omega (arith, hung2 y); small = omega (arith, hung2 y, low) };
    }

    pub tags3 : TagReady f.opens.third c3 seen3 b.own3
    tags3 = record {
      there = λ y. rw length-view at (openable.third.free.some y);
      seen = λ y. rw length-open (openable.third.free.some y);
      mine = λ y.
          let low = small3 (alone-parts rs g.p2 r.addr r.len (sym found.opens.third ∙ y)).0 in
          record { some = omega (arith, hung3 y); small = omega (arith, hung3 y, low) };
    }
