-- The pass over the records of a load: after the first k of them the owners are those of announcing these k in order, and what the table sees of them
-- fits these routes. A free chunk is there where one is to be opened: as many are in use as before the load and as the routes need that came.
use mathlib.Core.Path.{◌≡◌, refl, sym, ◌∙◌, ap, subst}
use mathlib.Core.Bool.{true}
use mathlib.Core.List.{List, [], ◌∷◌, ◌++◌, append_assoc}
use Prim.Native.Nat.{ℕ, suc, ◌+◌, ◌*◌, ◌/◌, ◌%◌, ◌^◌, ◌≤◌, ◌<◌}
use native.Mathlib.Omega.{arith}
use native.Mathlib.Nat.{mul-le-mul}
use native.Mathlib.Numerals.{add-one}
use lib.Dec.{ltb}
use lib.ListN.{length, get_or, replicate, take, drop, length-replicate, take-append-drop, length-append}
use lib.Pow.{pow_mono}
use lib.Seq.{take-suc, drop-cons, take_all, ext_get_or}
use borrow.Author.Tests.{lt-ltb}
use Rattle.bits.specs.Slot.{slot}
use Rattle.bits.proofs.Tabs.{get_d-zeros}
use Rattle.routes.specs.Record.{record_at, no_route}
use Rattle.routes.specs.Route.{Fine, Good}
use Rattle.routes.specs.declared.Route.{Route}
use Rattle.routes.proofs.Rows.{length-routes, nth-route, records-good}
use Rattle.standing.specs.Cells.{within, need}
use Rattle.standing.specs.Standing.{insert}
use Rattle.standing.proofs.ListParts.{good-front, good-next, good-below, insert-end, any-front}
use Rattle.standing.proofs.NeedAfter.{need-mono, need-more}
use Rattle.sail.specs.Geometry.{bits2, bits3}
use Rattle.sail.specs.Lent.{Lent, lent}
use Rattle.sail.specs.Level.{Level, chunks_of, level1, level2}
use Rattle.sail.specs.Sizes.{Sized}
use Rattle.sail.specs.Sound.{used}
use Rattle.sail.specs.declared.geometry.Geometry.{Geometry}
use Rattle.sail.specs.declared.table.Table.{Table}
use Rattle.sail.proofs.Sounds.{chunks-need}
use Rattle.sail_theory.specs.Render.{find, Fits}
use Rattle.sail_theory.specs.Calls.{open_at, state_of, lent_of, input_routes}
use Rattle.sail_theory.specs.Facts.{TableHolds}
use Rattle.sail_theory.proofs.places.Places.{top-served, top_apart}
use Rattle.sail_theory.proofs.owners.Chunks.{used-free, free-zero}
use Rattle.sail_theory.proofs.owners.OpenAt.{Space, OpenReady, ready-below}
use Rattle.sail_theory.proofs.calls.ChangeHolds.{render-holds}
use Rattle.sail_theory.proofs.calls.Make.{no-fits}
use Rattle.sail_owners.specs.Owners.{owners, second_from, place_from, owners_from, OpenForReady, Opened, NoneOwn, Between}
use Rattle.sail_owners.specs.declared.owners.Passes.{Passes}
use Rattle.sail_owners.proofs.Froms.{from-snoc}
use Rattle.sail_owners.proofs.Sights.{sight, length-sight, sight-free, sight-none, find-sight, Since, since-start, since-open, used-since}
use Rattle.sail_owners.proofs.RisingOwners.{
  Reached,
  Climbs,
  none-reached,
  top-rises,
  sighted,
  climbs-fits,
  free,
  climbs-next,
  climbs-taken,
  climbs-below,
}

-- a table of this geometry and as many chunks: the laws of announcing speak of one
abbrev state : Geometry → Table
state g = record { geometry = g; count = 0 }

abbrev shape : Geometry → List ℕ → List ℕ → List ℕ → Lent
shape g input own2 own3 =
    lent (replicate (length input / 8 * 8) 0) (replicate (2 ^ g.p1) 0) (replicate (length own2 * 2 ^ bits2 g) 0) (replicate (length own3 * 2 ^ bits3 g) 0)
    own2 own3 (replicate (2 ^ g.p1) 0) (replicate (length own2 * 2 ^ bits2 g) 0)

-- after the first k records
pub record OwnersPassed (top : ℕ) (g : Geometry) (input start2 start3 : List ℕ) (k : ℕ) (own2 own3 : List ℕ) (u : Passes) : Type 0 where
  pub is : owners own2 own3 ≡ owners_from top g (owners start2 start3) (take k (input_routes input))
  pub since2 : Since top start2 own2
  pub since3 : Since top start3 own3
  pub fits2 : Fits (take k (input_routes input)) (level1 g) (chunks_of (sight top own2))
  pub fits3 : Fits (take k (input_routes input)) (level2 g (chunks_of (sight top own2))) (chunks_of (sight top own3))
  pub second : Reached top own2 u.second
  pub third : Reached top own3 u.third

-- a table that sees no chunk of its own fits no routes
none-fits : (top : ℕ) (v : Level) (own : List ℕ) → NoneOwn top own → Fits [] v (chunks_of (sight top own))
none-fits top v own n =
    let zeros : sight top own ≡ replicate (length own) 0
    = ext_get_or 0 _ _ (length-sight top own ∙ sym (length-replicate (length own) 0)) (λ c l. sight-none top own n c ∙ sym (get_d-zeros (length own) c)) in
    subst (λ (x : List ℕ). Fits [] v (chunks_of x)) (sym zeros) (no-fits v (length own))

module _ (top : ℕ) (g : Geometry) (input start2 start3 : List ℕ) (w : Between top g input start2 start3) where
  abbrev rs : List Route
  rs = input_routes input

  abbrev l : Lent
  l = shape g input start2 start3

  whole : length (replicate {A = ℕ} (length input / 8 * 8) 0) ≡ length input / 8 * 8
  whole = length-replicate (length input / 8 * 8) 0

  sized : Sized g l
  sized = record {
    valid = w.valid;
    whole = omega (arith, whole);
    room = omega (arith, whole, w.records.few);
    cells1 = length-replicate (2 ^ g.p1) 0;
    few2 = w.few2;
    cells2 = length-replicate (length start2 * 2 ^ bits2 g) 0;
    few3 = w.few3;
    cells3 = length-replicate (length start3 * 2 ^ bits3 g) 0;
    counts1 = length-replicate (2 ^ g.p1) 0;
    counts2 = length-replicate (length start2 * 2 ^ bits2 g) 0 ∙ sym (length-replicate (length start2 * 2 ^ bits2 g) 0);
  }

  good : Good rs
  good = records-good input (length input / 8) w.records

  -- before the first
  pub passed_none : OwnersPassed top g input start2 start3 0 start2 start3 (record { second = 0; third = 0 })
  unfolding owners_from
  passed_none = record {
    is = refl;
    since2 = since-start top start2;
    since3 = since-start top start3;
    fits2 = none-fits top (level1 g) start2 w.none2;
    fits3 = none-fits top (level2 g (chunks_of (sight top start2))) start3 w.none3;
    second = none-reached top start2 (sight-none top start2 w.none2);
    third = none-reached top start3 (sight-none top start3 w.none3);
  }

  module _ (k : ℕ) (own2 own3 : List ℕ) (u : Passes) (p : OwnersPassed top g input start2 start3 k own2 own3 u) where
    abbrev xs : List Route
    xs = take k rs

    abbrev see2 : List ℕ
    see2 = sight top own2

    abbrev see3 : List ℕ
    see3 = sight top own3

    pub passed-lengths : (length own2 ≡ length start2) × (length own3 ≡ length start3)
    passed-lengths = (p.since2.many, p.since3.many)

    -- after the last
    pub passed-all : length input / 8 ≤ k → owners own2 own3 ≡ owners_from top g (owners start2 start3) rs
    passed-all h = rw (take_all k rs (rw length-routes h)) at p.is

    -- the next record
    module _ (here : k < length input / 8) (r : Route) (read : r ≡ record_at input k) where
      abbrev ys : List Route
      ys = drop (suc k) rs

      inside : k < length rs
      inside = rw length-routes here

      nth : get_or rs k no_route ≡ r
      nth = nth-route input (length input / 8) k here ∙ sym read

      split : xs ++ r ∷ ys ≡ rs
      split = ap (λ (z : List Route). xs ++ z) (rw nth at (sym (drop-cons rs k no_route inside))) ∙ take-append-drop k rs

      all : Good (xs ++ r ∷ ys)
      all = rw split good

      fine : Fine r
      fine = good-next xs r ys all

      front : Good xs
      front = good-front xs (r ∷ ys) all

      ended : insert r xs ≡ xs ++ (r ∷ [])
      ended = insert-end r xs (good-below xs r ys all)

      -- the routes so far need no more than all do
      part : (p : ℕ) → p ≤ 32 → need (insert r xs) p ≤ need rs p
      part p h =
          let re : (xs ++ (r ∷ [])) ++ ys ≡ rs = append_assoc xs (r ∷ []) ys ∙ split in
          let gd : Good ((xs ++ (r ∷ [])) ++ ys) = rw re good in
          omega (
            arith,
            ap (λ (z : List Route). need z p) ended,
            ap (λ (z : List Route). need z p) re,
            need-mono (xs ++ (r ∷ [])) ((xs ++ (r ∷ [])) ++ ys) p h (good-front (xs ++ (r ∷ [])) ys gd) gd
                (λ i e. any-front (within p i) (xs ++ (r ∷ [])) ys e),
          )

      -- what the table sees is a sound table of these routes, so it has as many chunks as they need
      holds : TableHolds (state g) l xs (state_of (state g) xs) (lent_of (state g) l xs (owners see2 see3))
      holds = render-holds (state g) l xs (owners see2 see3) (record {
        sized = sized;
        good = front;
        roomy = omega (arith, whole, length-append xs (r ∷ ys), ap length split, length-routes input (length input / 8));
        len2 = length-sight top own2 ∙ p.since2.many;
        len3 = length-sight top own3 ∙ p.since3.many;
        fits2 = p.fits2;
        fits3 = p.fits3;
      })

      mine : (used see2 ≡ need xs g.p1) × (used see3 ≡ need xs g.p2)
      mine = rw holds.routes at (chunks-need (state_of (state g) xs) (lent_of (state g) l xs (owners see2 see3)) holds.sound)

      free_seen : (own : List ℕ) → get_or (sight top own) (find own 0) 0 ≡ 0
      free_seen own = sight-free top own (find own 0) (free-zero own)

      space2 : Space xs r (level1 g) see2 (find own2 0)
      space2 e f =
          let v = w.valid in
          let more = need-more r xs fine front g.p1 (omega arith) e f in
          let some = used-free (chunks_of own2) (omega (
            arith,
            used-since top start2 own2 p.since2 w.none2,
            mine.0,
            more,
            part g.p1 (omega arith),
            w.enough2,
            p.since2.many,
          )) in
          (omega (arith, some, length-sight top own2), free_seen own2)

      space3 : (v : Level) → v.bits ≡ g.p2 → Space xs r v see3 (find own3 0)
      space3 v b e f =
          let z = w.valid in
          let more = need-more r xs fine front g.p2 (omega arith) (rw b at e) (rw b at f) in
          let some = used-free (chunks_of own3) (omega (
            arith,
            used-since top start3 own3 p.since3 w.none3,
            mine.1,
            more,
            part g.p2 (omega arith),
            w.enough3,
            p.since3.many,
          )) in
          (omega (arith, some, length-sight top own3), free_seen own3)

      -- it climbs at both levels
      ready1 : OpenReady xs r (level1 g) see2 (find own2 0)
      ready1 =
          let v = w.valid in
          record {
            fine = fine;
            good = front;
            fits = p.fits2;
            apart = top_apart g.p1;
            served = λ e. top-served g.p1 r.addr (omega arith) fine.prefix.addr_ok;
            space = space2;
          }

      small1 : suc (slot g.p1 r.addr) < 2147483648
      small1 =
          let v = w.valid in
          let m : 2 ^ g.p1 ≤ 2 ^ 16 = pow_mono v.p1_high in
          omega (arith, (top-served g.p1 r.addr (omega arith) fine.prefix.addr_ok).inside, m)

      climbs1 : Climbs top xs r (level1 g) own2 u.second
      climbs1 = record { ready = ready1; small = λ e. small1; last = good-below xs r ys all; rises = top-rises g.p1; reached = p.second }

      -- the second owners then, and what is seen of them
      abbrev own2' : List ℕ
      own2' = second_from top g own2 r

      abbrev v2 : Level
      v2 = level2 g (chunks_of (sight top own2'))

      ready2 : OpenReady xs r v2 see3 (find own3 0)
      ready2 =
          let v = w.valid in
          subst (λ (x : List ℕ). OpenReady xs r (level2 g (chunks_of x)) see3 (find own3 0)) (sym (sighted top xs r (level1 g) own2 u.second climbs1))
          (ready-below xs r (level1 g) see2 (find own2 0) ready1 g.p2 (omega arith) (omega arith) see3 (find own3 0) p.fits3
          (space3 (level2 g (chunks_of (open_at (level1 g) see2 (find own2 0) r))) refl))

      now2 : Since top start2 own2'
      now2 = since-open top start2 own2 p.since2 g.p1 _ r (λ h. small1)
          (λ h n. free top xs r (level1 g) own2 u.second climbs1 h n)

      small2 : ltb g.p2 r.len ≡ true → suc (v2.serving r.addr) < 2147483648
      small2 e =
          let v = w.valid in
          let few : length (sight top own2') ≤ 4096 = omega (arith, length-sight top own2', now2.many, w.few2) in
          let m : length (sight top own2') * 2 ^ bits2 g ≤ 4096 * 2 ^ 10 = mul-le-mul few (pow_mono v.near) in
          omega (arith, (ready2.served e).inside, m)

      climbs2 : Climbs top xs r v2 own3 u.third
      climbs2 = climbs-below top xs r (level1 g) own2 u.second climbs1 g.p2 own3 u.third ready2 small2 p.third

      -- where its third chunk hangs, by the owners as they are
      place : v2.serving r.addr ≡ place_from top g own2' r
      place =
          ap (λ (c : ℕ). c * 2 ^ bits2 g + slot g.p2 r.addr % 2 ^ bits2 g)
          (sym (find-sight top own2' (slot g.p1 r.addr) small1))

      pub passed-opens : OpenForReady top g r u own2 own3
      passed-opens = record {
        valid = w.valid;
        fine = fine;
        few2 = omega (arith, p.since2.many, w.few2);
        small = w.small;
        second = climbs-next top xs r (level1 g) own2 u.second climbs1;
        third = rw (← place) (climbs-next top xs r v2 own3 u.third climbs2);
      }

      pub passed-more : (s : Passes) (x y : List ℕ) → Opened top g r own2 own3 u s x y → OwnersPassed top g input start2 start3 (k + 1) x y s
      passed-more s x y e =
          let next : take (k + 1) rs ≡ insert r xs = rw (add-one, take-suc rs k no_route inside, nth, ended) in
          let e3 = rw (← place) at e.third in
          let is2 : x ≡ own2' = e.second.is in
          record {
            is = rw (next, ended, from-snoc top g (owners start2 start3) xs r, ← p.is, e.second.is, e.third.is);
            since2 = subst (Since top start2) (sym is2) now2;
            since3 = subst (Since top start3) (sym e3.is) (since-open top start3 own3 p.since3 g.p2 _ r
                (λ h. small2 (lt-ltb g.p2 r.len h)) (λ h n. free top xs r v2 own3 u.third climbs2 h n));
            fits2 = rw next (subst (λ (z : List ℕ). Fits (insert r xs) (level1 g) (chunks_of (sight top z))) (sym is2)
                (climbs-fits top xs r (level1 g) own2 u.second climbs1));
            fits3 = rw next (subst (λ (z : List ℕ). Fits (insert r xs) (level2 g (chunks_of (sight top z))) (chunks_of (sight top y))) (sym is2)
                (subst (λ (z : List ℕ). Fits (insert r xs) v2 (chunks_of (sight top z))) (sym e3.is) (climbs-fits top xs r v2 own3 u.third climbs2)));
            second = climbs-taken top xs r (level1 g) own2 u.second climbs1 s.second x e.second;
            third = climbs-taken top xs r v2 own3 u.third climbs2 s.third y e3;
          }
