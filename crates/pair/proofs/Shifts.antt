-- What an announcement, a withdrawal and a load of one party do to its routes and owners, where the box is sound and they are within its room and its
-- limits. A free chunk is there where one is to be opened: as many are in use as both need, the other's need is within its limit, and the limits fit.
use mathlib.Core.Path.{◌≡◌, sym, ◌∙◌, ap, ap₂, subst}
use mathlib.Core.Bool.{true, false, false≢true}
use mathlib.Core.List.{List, [], ◌∷◌, ◌++◌, append_assoc, append-nil}
use Prim.Native.Nat.{ℕ, suc, ◌+◌, ◌-◌, ◌*◌, ◌/◌, ◌^◌, ◌≤◌, ◌<◌}
use native.Mathlib.Omega.{arith}
use native.Mathlib.Nat.{mul-le-mul}
use lib.Dec.{ltb}
use lib.ListN.{get_or, length, length-append}
use lib.Pow.{pow_mono}
use Rattle.routes.specs.Route.{Fine, Good}
use Rattle.routes.specs.declared.Route.{Route}
use Rattle.routes.proofs.Rows.{length-routes}
use Rattle.standing.specs.Cells.{any, within, long, need}
use Rattle.standing.specs.Standing.{insert}
use Rattle.standing.proofs.Standing.{insert-good}
use Rattle.standing.proofs.NeedAfter.{need-more, need-mono}
use Rattle.standing.proofs.ListParts.{good-front, good-next, good-below, insert-end, any-front}
use Rattle.sail.specs.Geometry.{bits2, Valid}
use Rattle.sail.specs.Lent.{Lent}
use Rattle.sail.specs.Level.{chunks_of, level1, level2}
use Rattle.sail.specs.Sound.{used, standing}
use Rattle.sail.specs.declared.geometry.Geometry.{Geometry}
use Rattle.sail.proofs.Sounds.{standing-good, chunks-need}
use Rattle.sail_theory.specs.Render.{find, Fits, Rendered}
use Rattle.sail_theory.specs.Calls.{Owners, open_at, keep}
use Rattle.sail_theory.proofs.places.Places.{top-served, top_apart}
use Rattle.sail_theory.proofs.places.Rendered.{sound-rendered}
use Rattle.sail_theory.proofs.owners.Chunks.{free-zero, used-free}
use Rattle.sail_theory.proofs.owners.StillFit.{fits_kept, below-kept}
use Rattle.sail_theory.proofs.owners.GrantKeep.{keep-closed}
use Rattle.sail_theory.proofs.calls.ChangeHolds.{AnnounceableAt}
use Rattle.sail_theory.proofs.owners.OpenAt.{Space, OpenReady, open-fits, ready-below}
use Rattle.pair.specs.Party.{Party, one, two, other, seen, view}
use Rattle.pair.specs.PairLent.{PairLent, pair_owners, room_for, sees}
use Rattle.pair.specs.PairSound.{share_of, table_for, standing_for, PairSound}
use Rattle.pair.specs.PairCalls.{opened_for, owners_after_for, owners_kept_for, with_count, pair_lent_of}
use Rattle.pair.specs.declared.Pair.{Pair}
use Rattle.pair.proofs.Views.{seen_none, length-view, get_d-view, used-both}
use Rattle.pair.proofs.Sees.{Shift, PairHolds, shift-holds}
use Rattle.pair.proofs.PairOwners.{open-view, open-other, open-length, open-nobodys, keep-view, keep-other, keep-length, keep-nobodys}

-- a party below its limit leaves a chunk free
fewer : (w : Party) (n m : Party → ℕ) (all : ℕ) → ((v : Party) → n v ≤ m v) → m one + m two ≤ all → n w < m w → n one + n two < all
fewer one n m all h s l = omega (arith, h two)
fewer two n m all h s l = omega (arith, h one)

module _ (t : Pair) (b : PairLent) (s : PairSound t b) where
  abbrev g : Geometry
  g = t.geometry

  pub routes-good : (w : Party) → Good (standing_for w t b)
  routes-good w = standing-good (table_for w t) (sees g w b) (s.each w)

  -- as many chunks are in use as both need
  pub used2-is : used b.own2 ≡ need (standing_for one t b) g.p1 + need (standing_for two t b) g.p1
  used2-is = used-both b.own2 s.nobodys2 ∙ ap₂ (λ (x y : ℕ). x + y) (chunks-need _ _ (s.each one)).0 (chunks-need _ _ (s.each two)).0

  pub used3-is : used b.own3 ≡ need (standing_for one t b) g.p2 + need (standing_for two t b) g.p2
  used3-is = used-both b.own3 s.nobodys3 ∙ ap₂ (λ (x y : ℕ). x + y) (chunks-need _ _ (s.each one)).1 (chunks-need _ _ (s.each two)).1

  pub free2 : (w : Party) → need (standing_for w t b) g.p1 < (share_of w t).most2 → find b.own2 0 < length b.own2
  free2 w h =
      used-free (chunks_of b.own2) (omega (
        arith,
        used2-is,
        fewer w (λ v. need (standing_for v t b) g.p1) (λ v. (share_of v t).most2) (length b.own2) s.within2 s.fit2 h,
      ))

  pub free3 : (w : Party) → need (standing_for w t b) g.p2 < (share_of w t).most3 → find b.own3 0 < length b.own3
  free3 w h =
      used-free (chunks_of b.own3) (omega (
        arith,
        used3-is,
        fewer w (λ v. need (standing_for v t b) g.p2) (λ v. (share_of v t).most3) (length b.own3) s.within3 s.fit3 h,
      ))

  module _ (w : Party) where
    abbrev rs : List Route
    rs = standing_for w t b

    abbrev seen2 : List ℕ
    seen2 = view w b.own2

    abbrev seen3 : List ℕ
    seen3 = view w b.own3

    valid : Valid g
    valid = (s.each w).sized.valid

    good : Good rs
    good = routes-good w

    is : Rendered (table_for w t) (sees g w b)
    is = sound-rendered (table_for w t) (sees g w b) (s.each w)

    few2 : length b.own2 ≤ 4096
    few2 = rw length-view at (s.each w).sized.few2

    -- An announcement.
    module _ (r : Route) (fine : Fine r) (roomy : length (insert r rs) ≤ room_for w b) (e2 : need (insert r rs) g.p1 ≤ (share_of w t).most2)
        (e3 : need (insert r rs) g.p2 ≤ (share_of w t).most3) where
      abbrev now : Owners
      now = opened_for w g (pair_owners b) r

      free_seen : (own : List ℕ) → get_or (view w own) (find own 0) 0 ≡ 0
      free_seen own = get_d-view w own (find own 0) ∙ ap (seen w) (free-zero own) ∙ seen_none w

      space2 : Space rs r (level1 g) seen2 (find b.own2 0)
      space2 e f =
          let v = valid in
          let h = free2 w (omega (arith, need-more r rs fine good g.p1 (omega arith) e f, e2)) in
          (rw length-view h, free_seen b.own2)

      pub first-ready : OpenReady rs r (level1 g) seen2 (find b.own2 0)
      first-ready =
          let v = valid in
          record {
            fine = fine;
            good = good;
            fits = is.fits2;
            apart = top_apart g.p1;
            served = λ e. top-served g.p1 r.addr (omega arith) fine.prefix.addr_ok;
            space = space2;
          }

      small1 : ltb g.p1 r.len ≡ true → suc ((level1 g).serving r.addr) < 2147483648
      small1 e =
          let v = valid in
          let m : 2 ^ g.p1 ≤ 2 ^ 16 = pow_mono v.p1_high in
          omega (arith, (first-ready.served e).inside, m)

      view2 : view w now.own2 ≡ open_at (level1 g) seen2 (find b.own2 0) r
      view2 = open-view w (level1 g) b.own2 r small1

      space3 : (own2 : List ℕ) → Space rs r (level2 g (chunks_of own2)) seen3 (find b.own3 0)
      space3 own2 e f =
          let v = valid in
          let h = free3 w (omega (arith, need-more r rs fine good g.p2 (omega arith) e f, e3)) in
          (rw length-view h, free_seen b.own3)

      below-ready : OpenReady rs r (level2 g (chunks_of (open_at (level1 g) seen2 (find b.own2 0) r))) seen3 (find b.own3 0)
      below-ready =
          let v = valid in
          ready-below rs r (level1 g) seen2 (find b.own2 0) first-ready g.p2 (omega arith) (omega arith) seen3 (find b.own3 0) is.fits3
          (space3 (open_at (level1 g) seen2 (find b.own2 0) r))

      -- what the party sees is a table in which the route may be announced, with the lowest chunks that nobody has
      pub announce-at : AnnounceableAt (table_for w t) (sees g w b) r (find b.own2 0) (find b.own3 0)
      announce-at = record { fine = fine; sound = s.each w; roomy = roomy; first = first-ready; second = below-ready }

      pub second-ready : OpenReady rs r (level2 g (chunks_of (view w now.own2))) seen3 (find b.own3 0)
      second-ready = subst (λ (x : List ℕ). OpenReady rs r (level2 g (chunks_of x)) seen3 (find b.own3 0)) (sym view2) below-ready

      len2 : length now.own2 ≡ length b.own2
      len2 = open-length w (level1 g) b.own2 r small1

      small2 : ltb g.p2 r.len ≡ true → suc ((level2 g (chunks_of (view w now.own2))).serving r.addr) < 2147483648
      small2 e =
          let v = valid in
          let few : length (view w now.own2) ≤ 4096 = rw (length-view w now.own2, len2) few2 in
          let m : length (view w now.own2) * 2 ^ bits2 g ≤ 4096 * 2 ^ 10 = mul-le-mul few (pow_mono v.near) in
          omega (arith, (second-ready.served e).inside, m)

      view3 : view w now.own3 ≡ open_at (level2 g (chunks_of (view w now.own2))) seen3 (find b.own3 0) r
      view3 = open-view w (level2 g (chunks_of (view w now.own2))) b.own3 r small2

      -- the owners then, as the party sees them
      pub announce-views : (view w now.own2 ≡ open_at (level1 g) seen2 (find b.own2 0) r)
          × (view w now.own3 ≡ open_at (level2 g (chunks_of (open_at (level1 g) seen2 (find b.own2 0) r))) seen3 (find b.own3 0) r)
      announce-views = (view2, view3 ∙ ap (λ (x : List ℕ). open_at (level2 g (chunks_of x)) seen3 (find b.own3 0) r) view2)

      pub announce-shift : Shift w t b (insert r rs) now
      announce-shift = record {
        sound = s;
        good = insert-good r rs fine good;
        roomy = roomy;
        len2 = len2;
        len3 = open-length w (level2 g (chunks_of (view w now.own2))) b.own3 r small2;
        fits2 = subst (λ (x : List ℕ). Fits (insert r rs) (level1 g) (chunks_of x)) (sym view2) (open-fits rs r (level1 g) seen2 (find b.own2 0) first-ready);
        fits3 = subst (λ (x : List ℕ). Fits (insert r rs) (level2 g (chunks_of (view w now.own2))) (chunks_of x)) (sym view3)
            (open-fits rs r (level2 g (chunks_of (view w now.own2))) seen3 (find b.own3 0) second-ready);
        same2 = open-other w (level1 g) b.own2 r small1;
        same3 = open-other w (level2 g (chunks_of (view w now.own2))) b.own3 r small2;
        nobodys2 = open-nobodys w (level1 g) b.own2 r small1 s.nobodys2;
        nobodys3 = open-nobodys w (level2 g (chunks_of (view w now.own2))) b.own3 r small2 s.nobodys3;
        most2 = e2;
        most3 = e3;
      }

    -- Withdrawals, which leave a part of the routes: one prefix fewer, or none at all.
    module _ (left : List Route) (part : Good left) (fewer : length left ≤ length rs) (less : (p i : ℕ) → long left p i ≡ true → long rs p i ≡ true) where
      abbrev then : Owners
      then = owners_kept_for w g left (pair_owners b)

      kept2 : view w then.own2 ≡ keep left (level1 g) seen2
      kept2 = keep-view w left (level1 g) b.own2

      kept3 : view w then.own3 ≡ keep left (level2 g (chunks_of seen2)) seen3
      kept3 = keep-view w left (level2 g (chunks_of seen2)) b.own3

      kept-fits3 : Fits left (level2 g (chunks_of (keep left (level1 g) seen2))) (chunks_of (keep left (level2 g (chunks_of seen2)) seen3))
      kept-fits3 =
          let v = valid in
          below-kept rs left less (level1 g) (chunks_of seen2) (chunks_of (keep left (level1 g) seen2)) g.p2 (omega arith) (omega arith)
          (keep-closed left (level1 g) seen2) (chunks_of seen3) (chunks_of (keep left (level2 g (chunks_of seen2)) seen3)) is.fits3
          (keep-closed left (level2 g (chunks_of seen2)) seen3)

      fewer-need : (p : ℕ) → p ≤ 32 → need left p ≤ need rs p
      fewer-need p h = need-mono left rs p h part good (λ i e. less p i e)

      pub withdraw-shift : Shift w t b left then
      withdraw-shift =
          let v = valid in
          record {
            sound = s;
            good = part;
            roomy = omega (arith, fewer, length-routes (sees g w b).list (share_of w t).count, (s.each w).listed.records.room);
            len2 = keep-length w left (level1 g) b.own2;
            len3 = keep-length w left (level2 g (chunks_of seen2)) b.own3;
            fits2 = subst (λ (x : List ℕ). Fits left (level1 g) (chunks_of x)) (sym kept2)
                (fits_kept rs left less (level1 g) (chunks_of seen2) (chunks_of (keep left (level1 g) seen2)) is.fits2 (keep-closed left (level1 g) seen2));
            fits3 = subst (λ (x : List ℕ). Fits left (level2 g (chunks_of x)) (chunks_of (view w then.own3))) (sym kept2)
                (subst (λ (x : List ℕ). Fits left (level2 g (chunks_of (keep left (level1 g) seen2))) (chunks_of x)) (sym kept3) kept-fits3);
            same2 = keep-other w left (level1 g) b.own2;
            same3 = keep-other w left (level2 g (chunks_of seen2)) b.own3;
            nobodys2 = keep-nobodys w left (level1 g) b.own2 s.nobodys2;
            nobodys3 = keep-nobodys w left (level2 g (chunks_of seen2)) b.own3 s.nobodys3;
            most2 = omega (arith, fewer-need g.p1 (omega arith), s.within2 w);
            most3 = omega (arith, fewer-need g.p2 (omega arith), s.within3 w);
          }

-- One record more after those that were announced.
module _ (w : Party) (t : Pair) (b : PairLent) (xs : List Route) (r : Route) (ys : List Route) (o : Owners) (k : Shift w t b xs o)
    (all : Good (xs ++ r ∷ ys)) (roomy : length (xs ++ r ∷ ys) ≤ room_for w b) (e2 : need (xs ++ r ∷ ys) t.geometry.p1 ≤ (share_of w t).most2)
    (e3 : need (xs ++ r ∷ ys) t.geometry.p2 ≤ (share_of w t).most3) where
  abbrev u : Pair
  u = with_count w (length xs) t

  abbrev v : PairLent
  v = pair_lent_of w t b xs o

  abbrev xs' : List Route
  xs' = xs ++ (r ∷ [])

  h : PairHolds w t b xs u v
  h = shift-holds w t b xs o k

  fine : Fine r
  fine = good-next xs r ys all

  ended : insert r xs ≡ xs'
  ended = insert-end r xs (good-below xs r ys all)

  regroup : xs' ++ ys ≡ xs ++ r ∷ ys
  regroup = append_assoc xs (r ∷ []) ys

  front : (p : ℕ) → p ≤ 32 → need xs' p ≤ need (xs ++ r ∷ ys) p
  front p l =
      let g : Good (xs' ++ ys) = rw regroup all in
      rw (← regroup) (need-mono xs' (xs' ++ ys) p l (good-front xs' ys g) g (λ i e. any-front (within p i) xs' ys e))

  inserted : insert r (standing_for w u v) ≡ xs'
  inserted = ap (insert r) h.routes ∙ ended

  added : Shift w u v xs' (opened_for w t.geometry o r)
  added =
      let z = (k.sound.each w).sized.valid in
      rw inserted at (announce-shift u v h.sound w r fine
      (rw (inserted, h.rooms w) (omega (arith, roomy, length-append xs (r ∷ ys), length-append xs (r ∷ []))))
      (rw (inserted, h.limits2 w) (omega (arith, front t.geometry.p1 (omega arith), e2)))
      (rw (inserted, h.limits3 w) (omega (arith, front t.geometry.p2 (omega arith), e3))))

  pub shift-next : Shift w t b xs' (opened_for w t.geometry o r)
  shift-next = record {
    sound = k.sound;
    good = added.good;
    roomy = rw (h.rooms w) at added.roomy;
    len2 = added.len2 ∙ k.len2;
    len3 = added.len3 ∙ k.len3;
    fits2 = added.fits2;
    fits3 = added.fits3;
    same2 = added.same2 ∙ k.same2;
    same3 = added.same3 ∙ k.same3;
    nobodys2 = added.nobodys2;
    nobodys3 = added.nobodys3;
    most2 = rw (h.limits2 w) at added.most2;
    most3 = rw (h.limits3 w) at added.most3;
  }

pub shift-all : (w : Party) (t : Pair) (b : PairLent) (ys xs : List Route) (o : Owners) → Shift w t b xs o → Good (xs ++ ys) → length (xs ++ ys) ≤ room_for w b
    → need (xs ++ ys) t.geometry.p1 ≤ (share_of w t).most2 → need (xs ++ ys) t.geometry.p2 ≤ (share_of w t).most3
    → Shift w t b (xs ++ ys) (owners_after_for w t.geometry o ys)
unfolding owners_after_for
shift-all w t b [] xs o k all roomy e2 e3 = rw append-nil k
shift-all w t b (r ∷ ys) xs o k all roomy e2 e3 =
    let re : (xs ++ (r ∷ [])) ++ ys ≡ xs ++ r ∷ ys = append_assoc xs (r ∷ []) ys in
    rw re at (shift-all w t b ys (xs ++ (r ∷ [])) (opened_for w t.geometry o r) (shift-next w t b xs r ys o k all roomy e2 e3)
    (rw re all) (rw re roomy) (rw re e2) (rw re e3))

-- A load: none of the party's routes is left, and then each record is announced.
pub load-shift : (w : Party) (t : Pair) (b : PairLent) → PairSound t b → (rs : List Route) → Good rs → length rs ≤ room_for w b
    → need rs t.geometry.p1 ≤ (share_of w t).most2 → need rs t.geometry.p2 ≤ (share_of w t).most3
    → Shift w t b rs (owners_after_for w t.geometry (owners_kept_for w t.geometry [] (pair_owners b)) rs)
unfolding Good any
load-shift w t b s rs good roomy e2 e3 =
    shift-all w t b rs [] (owners_kept_for w t.geometry [] (pair_owners b))
    (withdraw-shift t b s w [] tt (omega arith) (λ p i e. absurd (false≢true e))) good roomy e2 e3
