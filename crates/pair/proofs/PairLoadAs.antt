-- "An accepted load acts as withdrawing all of one party's routes and then announcing the records". By induction over the routes that are withdrawn: what
-- is left after some of them is the box in which the rest stand, with the owners that are kept for the rest; closing for fewer routes what was kept for
-- more is closing for the fewer (`keep-keep`). And over the records: what is left is the box in which those so far stand (`shift-next`).
use mathlib.Core.Path.{◌≡◌, refl, sym, ◌∙◌, ap, ap₂, subst}
use mathlib.Core.Logic.{◌⊎◌, inl, inr, ◌≢◌}
use mathlib.Core.Bool.{Bool, true, false, ◌||◌, true≢false, false≢true}
use mathlib.Core.List.{List, [], ◌∷◌, ◌++◌, append_assoc, append-nil, Memᴰ}
use Prim.Native.Nat.{ℕ, suc, ◌-◌, ◌/◌, ◌%◌, ◌*◌, ◌+◌, ◌^◌, ◌≤◌, ◌<◌}
use native.Mathlib.Nat.{le_refl}
use native.Mathlib.Omega.{arith}
use lib.ListN.{get_or, length, length-append}
use lib.Seq.{ext_get_or}
use borrow.Author.Tests.{eq-eqb, ne_eqb}
use Rattle.bits.proofs.Bools.{decided, equal?}
use Rattle.routes.specs.Route.{key_of, key, Fine, Good}
use Rattle.routes.specs.Said.{Said, accepted, accepts}
use Rattle.routes.specs.Record.{written}
use Rattle.routes.specs.declared.Route.{Route}
use Rattle.routes.proofs.Rows.{length-routes, length-written, zero-written}
use Rattle.standing.specs.Cells.{long, any, within, need}
use Rattle.standing.specs.Standing.{stands, insert, remove}
use Rattle.standing.proofs.Changed.{remove_absent}
use Rattle.standing.proofs.ListParts.{none-stands, insert-end, good-next, good-below}
use Rattle.sail.specs.Geometry.{bits2, bits3}
use Rattle.sail.specs.Lent.{Lent}
use Rattle.sail.specs.Level.{Level, deep, chunks_of, level1, level2}
use Rattle.sail.specs.declared.geometry.Geometry.{Geometry}
use Rattle.sail_theory.specs.Calls.{Owners, keep, cut_route, input_routes}
use Rattle.sail_theory.specs.Render.{Fits, rendered}
use Rattle.sail_theory.proofs.calls.Cleared.{none-cleared}
use Rattle.sail_theory.proofs.owners.GrantKeep.{keep-closed}
use Rattle.sail_theory.proofs.owners.StillFit.{kept-over}
use Rattle.sail_theory.proofs.places.Rendered.{sound-rendered}
use Rattle.pair.specs.Party.{Party, one, two, other, put, seen, view}
use Rattle.pair.specs.PairLent.{PairLent, side, pair_owners, room_for, sees, box_of}
use Rattle.pair.specs.PairSound.{share_of, table_for, standing_for, PairSound}
use Rattle.pair.specs.PairCalls.{
  keep_for,
  opened_for,
  owners_after_for,
  owners_kept_for,
  PairOut,
  pair_out,
  with_count,
  pair_lent_of,
  pair_adding,
  pair_taking,
  pair_with_flag,
  pair_announced,
  pair_withdrawn,
  pair_loaded,
  pair_load_said,
  pair_announce_said,
  pair_withdraw_said,
}
use Rattle.pair.specs.PairCases.{PairAnnounce, PairWithdraw}
use Rattle.pair.specs.PairRuns.{pair_done, withdraw_all, AllRemoved, announce_each, EachAdded}
use Rattle.pair.specs.declared.Pair.{Pair}
use Rattle.sail_theory.specs.CallRuns.{load}
use Rattle.pair.proofs.Views.{length-view, get_d-view, joined-parts}
use Rattle.pair.proofs.Sees.{Shift, PairHolds, shift-holds}
use Rattle.pair.proofs.PairOwners.{kept, get_d_kept, keep-length, keep-view}
use Rattle.pair.proofs.PairFresh.{ends-accepted}
use Rattle.pair.proofs.Shifts.{routes-good, withdraw-shift, shift-next}
use Rattle.pair.proofs.PairJudged.{pair-announce-only, pair-withdraw-only}
use Rattle.pair.proofs.PairSteps.{load_said_lem, load-offered}
use Rattle.pair.proofs.PairFrame.{accepted-sound}

-- Closing for zs what was kept for ys is closing for zs: what zs keep was kept, and it hangs where it hung.
module _ (w : Party) (ys zs : List Route) (v v' : Level) (own : List ℕ)
    (less : (x : ℕ) → deep zs v x ≡ true → deep ys v x ≡ true)
    (same : (c x : ℕ) → c < length own → seen w (get_or own c 0) ≡ suc x → deep ys v x ≡ true → deep zs v' x ≡ deep zs v x) where
  abbrev was : List ℕ
  was = keep_for w ys v own

  one_kept : (c : ℕ) → c < length own → kept w zs v' (kept w ys v (get_or own c 0)) ≡ kept w zs v (get_or own c 0)
  one_kept c l = go (equal? (seen w (get_or own c 0)) 0) (decided (deep ys v (seen w (get_or own c 0) - 1))) (decided (deep zs v (seen w (get_or own c 0) - 1)))
    where
      o : ℕ
      o = get_or own c 0

      gone : (x : Bool) → seen w 0 ≡ 0
      gone x = Rattle.pair.proofs.Views.seen_none w

      go : (seen w (get_or own c 0) ≡ 0) ⊎ (seen w (get_or own c 0) ≢ 0)
          → (deep ys v (seen w (get_or own c 0) - 1) ≡ true) ⊎ (deep ys v (seen w (get_or own c 0) - 1) ≡ false)
          → (deep zs v (seen w (get_or own c 0) - 1) ≡ true) ⊎ (deep zs v (seen w (get_or own c 0) - 1) ≡ false)
          → kept w zs v' (kept w ys v (get_or own c 0)) ≡ kept w zs v (get_or own c 0)
      go (inl e) y z = rw (eq-eqb _ _ e, eq-eqb _ _ e)
      go (inr n) (inl y) z =
          let at : seen w (get_or own c 0) ≡ suc (seen w (get_or own c 0) - 1) = omega (arith, n) in
          rw (ne_eqb _ _ n, y, ne_eqb _ _ n, same c (seen w (get_or own c 0) - 1) l at y)
      go (inr n) (inr y) (inl z) = absurd (true≢false (sym (less _ z) ∙ y))
      go (inr n) (inr y) (inr z) = rw (ne_eqb _ _ n, y, z, eq-eqb _ _ (gone true))

  keep-keep : keep_for w zs v' was ≡ keep_for w zs v own
  keep-keep =
      ext_get_or 0 (keep_for w zs v' was) (keep_for w zs v own)
      (keep-length w zs v' was ∙ keep-length w ys v own ∙ sym (keep-length w zs v own))
      (λ c l.
      let k : c < length was = rw keep-length at l in
      let j : c < length own = rw keep-length at k in
      get_d_kept w zs v' was c k ∙ ap (kept w zs v') (get_d_kept w ys v own c j) ∙ one_kept c j ∙ sym (get_d_kept w zs v own c j))

-- the same party's table put in place of what a call of its own left
box-same : (g : Geometry) (o : Owners) (w : Party) (x : Lent) (f f' : Party → Lent) → f (other w) ≡ f' (other w)
    → box_of g o (put w x f) ≡ box_of g o (put w x f')
box-same g o one x f f' e = ap (λ (l : Lent). box_of g o (put one x (λ v. l))) e
box-same g o two x f f' e = ap (λ (l : Lent). box_of g o (put two x (λ v. l))) e

count-again : (w : Party) (n m : ℕ) (t : Pair) → with_count w n (with_count w m t) ≡ with_count w n t
count-again one n m t = refl
count-again two n m t = refl

count_same : (w : Party) (n : ℕ) (t : Pair) → (share_of w t).count ≡ n → with_count w n t ≡ t
count_same one n t e = rw (← e)
count_same two n t e = rw (← e)

-- One call more after routes xs of w stand with the owners o: the outcome is that of the box before.
module _ (w : Party) (t : Pair) (b : PairLent) (xs : List Route) (o : Owners) (k : Shift w t b xs o) where
  abbrev u : Pair
  u = with_count w (length xs) t

  abbrev v : PairLent
  v = pair_lent_of w t b xs o

  holds : PairHolds w t b xs u v
  holds = shift-holds w t b xs o k

  lent_again : (rs : List Route) (o' : Owners) → pair_lent_of w u v rs o' ≡ pair_lent_of w t b rs o'
  lent_again rs o' =
      ap (λ (n : ℕ). box_of t.geometry o' (put w (rendered t.geometry n rs (view w o'.own2) (view w o'.own3)) (λ x. sees t.geometry x v)))
      (holds.rooms w)
      ∙ box-same t.geometry o' w (rendered t.geometry (room_for w b) rs (view w o'.own2) (view w o'.own3))
      (λ x. sees t.geometry x v) (λ x. sees t.geometry x b) holds.theirs

  again : (s : Said) (rs : List Route) (o' : Owners)
      → pair_out s (with_count w (length rs) u) (pair_lent_of w u v rs o') ≡ pair_out s (with_count w (length rs) t) (pair_lent_of w t b rs o')
  again s rs o' = ap₂ (λ (x : Pair) (y : PairLent). pair_out s x y) (count-again w (length rs) (length xs) t) (lent_again rs o')

-- Withdrawing the first of the party's routes.
later-none : (k : ℕ) (rs : List Route) → ((s : Route) → Memᴰ s rs → k < key s) → stands k rs ≡ false
unfolding any
later-none k [] h = refl
later-none k (x ∷ xs) h =
    rw (ne_eqb (key x) k (λ q. let z = h x (Memᴰ.head refl) in omega arith)) (later-none k xs (λ s m. h s (Memᴰ.tail m)))

remove_first : (r : Route) (rs : List Route) → Good (r ∷ rs) → remove (key r) (r ∷ rs) ≡ rs
unfolding remove Good
remove_first r rs g = rw (eq-eqb (key r) (key r) refl) (remove_absent (key r) rs (later-none (key r) rs g.1))

first-stands : (r : Route) (rs : List Route) → stands (key r) (r ∷ rs) ≡ true
unfolding any
first-stands r rs = rw (eq-eqb (key r) (key r) refl)

first_fine : (r : Route) (rs : List Route) → Good (r ∷ rs) → Fine r
unfolding Good
first_fine r rs g = g.0

take-first : (w : Party) (u : Pair) (v : PairLent) (r : Route) (zs : List Route) → PairSound u v → standing_for w u v ≡ r ∷ zs → Good (r ∷ zs)
    → pair_withdrawn w u v r.addr r.len
    ≡ pair_out (accepted (0 ∷ [])) (with_count w (length zs) u) (pair_lent_of w u v zs (owners_kept_for w u.geometry zs (pair_owners v)))
unfolding pair_withdrawn pair_taking
take-first w u v r zs s e g =
    let f = first_fine r zs g in
    let said : pair_withdraw_said w u v r.addr r.len ≡ accepted []
    = pair-withdraw-only w u v r.addr r.len _ (PairWithdraw.removed f.prefix s (rw e (first-stands r zs))) in
    let left : remove (key_of r.addr r.len) (standing_for w u v) ≡ zs = ap (remove (key r)) e ∙ remove_first r zs g in
    ap₂ (λ (x : Bool) (a : ℕ). pair_with_flag x (pair_taking w u v a r.len)) (none-cleared r.len r.addr f.prefix.clear) f.prefix.clear
    ∙ rw (said, left)

-- a part of the routes: the rest of them
record Rest (rs ys : List Route) : Type 0 where
  good : Good ys
  fewer : length ys ≤ length rs
  less : (p i : ℕ) → long ys p i ≡ true → long rs p i ≡ true

long-next : (r : Route) (zs : List Route) (p i : ℕ) → long zs p i ≡ true → long (r ∷ zs) p i ≡ true
unfolding any
long-next r zs p i e = go (within p i r)
  where
    go : (x : Bool) → (x || any (within p i) zs) ≡ true
    go true = refl
    go false = e

rest-next : (rs : List Route) (r : Route) (zs : List Route) → Rest rs (r ∷ zs) → Rest rs zs
unfolding Good
rest-next rs r zs k = record { good = k.good.2; fewer = omega (arith, k.fewer); less = λ p i e. k.less p i (long-next r zs p i e) }

module _ (w : Party) (t : Pair) (b : PairLent) (s : PairSound t b) where
  abbrev g : Geometry
  g = t.geometry

  abbrev rs : List Route
  rs = standing_for w t b

  -- the owners that are kept for the rest
  abbrev kept_owners : List Route → Owners
  kept_owners ys = owners_kept_for w g ys (pair_owners b)

  abbrev seen2 : List ℕ
  seen2 = view w b.own2

  fits3 : Fits rs (level2 g (chunks_of seen2)) (chunks_of (view w b.own3))
  fits3 = (sound-rendered (table_for w t) (sees g w b) (s.each w)).fits3

  rest-shift : (ys : List Route) → Rest rs ys → Shift w t b ys (kept_owners ys)
  rest-shift ys k = withdraw-shift t b s w ys k.good k.fewer k.less

  -- closing one after the other, and all at once
  closed-once : (r : Route) (zs : List Route) → Rest rs (r ∷ zs) → owners_kept_for w g zs (kept_owners (r ∷ zs)) ≡ kept_owners zs
  closed-once r zs k =
      let ys = r ∷ zs in
      let z = (s.each w).sized.valid in
      let e2 = keep-keep w ys zs (level1 g) (level1 g) b.own2 (λ x e. long-next r zs g.p1 x e) (λ c x l e d. refl) in
      let over : (c x : ℕ) → c < length b.own3 → seen w (get_or b.own3 c 0) ≡ suc x → deep ys (level2 g (chunks_of seen2)) x ≡ true
      → get_or (view w (kept_owners ys).own2) (x / 2 ^ bits2 g) 0 ≡ get_or seen2 (x / 2 ^ bits2 g) 0
      = λ c x l e d.
      ap (λ (o : List ℕ). get_or o (x / 2 ^ bits2 g) 0) (keep-view w ys (level1 g) b.own2)
      ∙ kept-over rs ys k.less (level1 g) (chunks_of seen2) (chunks_of (keep ys (level1 g) seen2)) g.p2 (omega arith) (omega arith)
      (keep-closed ys (level1 g) seen2) x (fits3.lies c x (rw length-view l) (get_d-view w b.own3 c ∙ e)).1 d in
      let e3 = keep-keep w ys zs (level2 g (chunks_of seen2)) (level2 g (chunks_of (view w (kept_owners ys).own2))) b.own3
      (λ x e. long-next r zs g.p2 _ e)
      (λ c x l e d. ap (λ (n : ℕ). long zs g.p2 ((n - 1) * 2 ^ bits2 g + x % 2 ^ bits2 g)) (over c x l e d)) in
      ap₂ (λ (x y : List ℕ). owners x y) e2 e3
    where
      owners : List ℕ → List ℕ → Owners
      owners x y = record { own2 = x; own3 = y }

  -- all are withdrawn
  record Emptied (o : PairOut) (ys : List Route) : Type 0 where
    state : (withdraw_all w o ys).state ≡ with_count w 0 t
    lent : (withdraw_all w o ys).lent ≡ pair_lent_of w t b [] (kept_owners [])
    each : AllRemoved w o ys

  abbrev at : Said → List Route → PairOut
  at x ys = pair_out x (with_count w (length ys) t) (pair_lent_of w t b ys (kept_owners ys))

  next-out : (x : Said) (r : Route) (zs : List Route) → Rest rs (r ∷ zs)
      → pair_withdrawn w (with_count w (length (r ∷ zs)) t) (pair_lent_of w t b (r ∷ zs) (kept_owners (r ∷ zs))) r.addr r.len ≡ at (accepted (0 ∷ [])) zs
  next-out x r zs k =
      let ys = r ∷ zs in
      let c = rest-shift ys k in
      let h = shift-holds w t b ys (kept_owners ys) c in
      take-first w (with_count w (length ys) t) (pair_lent_of w t b ys (kept_owners ys)) r zs h.sound h.routes k.good
      ∙ again w t b ys (kept_owners ys) c (accepted (0 ∷ [])) zs (owners_kept_for w g zs (kept_owners ys))
      ∙ ap (λ (o : Owners). pair_out (accepted (0 ∷ [])) (with_count w (length zs) t) (pair_lent_of w t b zs o)) (closed-once r zs k)

  then-emptied : (o o' : PairOut) (r : Route) (zs : List Route) → pair_withdrawn w o.state o.lent r.addr r.len ≡ o'
      → o'.said ≡ accepted (0 ∷ []) → Emptied o' zs → Emptied o (r ∷ zs)
  unfolding withdraw_all AllRemoved
  then-emptied o o' r zs e a k = record {
    state = ap {B = Pair} (λ (x : PairOut). (withdraw_all w x zs).state) e ∙ k.state;
    lent = ap {B = PairLent} (λ (x : PairOut). (withdraw_all w x zs).lent) e ∙ k.lent;
    each = (ap {B = Said} (λ (x : PairOut). x.said) e ∙ a, subst (λ (x : PairOut). AllRemoved w x zs) (sym e) k.each);
  }

  empties : (ys : List Route) (x : Said) → Rest rs ys → Emptied (at x ys) ys
  unfolding withdraw_all AllRemoved
  empties [] x k = record { state = refl; lent = refl; each = tt }
  empties (r ∷ zs) x k =
      then-emptied (at x (r ∷ zs)) (at (accepted (0 ∷ [])) zs) r zs (next-out x r zs k) refl (empties zs (accepted (0 ∷ [])) (rest-next rs r zs k))

  -- a box is put together of what each sees
  box-parts : box_of g (pair_owners b) (λ x. sees g x b) ≡ b
  box-parts =
      let e2 = joined-parts b.own2 (bits2 g) b.second s.spare2 in
      let e3 = joined-parts b.own3 (bits3 g) b.third s.spare3 in
      let ec = joined-parts b.own2 (bits2 g) b.long2 s.uncounted in
      λ i. record {
        list1 = b.list1;
        first1 = b.first1;
        long11 = b.long11;
        list2 = b.list2;
        first2 = b.first2;
        long12 = b.long12;
        second = e2 i;
        third = e3 i;
        own2 = b.own2;
        own3 = b.own3;
        long2 = ec i;
      }

  put_same : (w : Party) → box_of g (pair_owners b) (put w (sees g w b) (λ x. sees g x b)) ≡ box_of g (pair_owners b) (λ x. sees g x b)
  put_same one = refl
  put_same two = refl

  -- where none of the party's routes stands, its table is that of no routes
  module _ (none : rs ≡ []) where
    no-count : (share_of w t).count ≡ 0
    no-count = sym (length-routes (side w b).list (share_of w t).count) ∙ ap length none

    not-long : (p i : ℕ) → long rs p i ≡ true → ⊥
    unfolding any
    not-long p i e = false≢true (sym (ap (λ (xs : List Route). long xs p i) none) ∙ e)

    unseen2 : (c : ℕ) → c < length b.own2 → seen w (get_or b.own2 c 0) ≡ 0
    unseen2 c l = go (equal? (seen w (get_or b.own2 c 0)) 0)
      where
        go : (seen w (get_or b.own2 c 0) ≡ 0) ⊎ (seen w (get_or b.own2 c 0) ≢ 0) → seen w (get_or b.own2 c 0) ≡ 0
        go (inl e) = e
        go (inr n) =
            let x = seen w (get_or b.own2 c 0) - 1 in
            let is : get_or (view w b.own2) c 0 ≡ suc x = get_d-view w b.own2 c ∙ omega (arith, n) in
            absurd (not-long _ _ ((s.each w).serves.first.owned c x (rw length-view l) is).2)

    unseen3 : (c : ℕ) → c < length b.own3 → seen w (get_or b.own3 c 0) ≡ 0
    unseen3 c l = go (equal? (seen w (get_or b.own3 c 0)) 0)
      where
        go : (seen w (get_or b.own3 c 0) ≡ 0) ⊎ (seen w (get_or b.own3 c 0) ≢ 0) → seen w (get_or b.own3 c 0) ≡ 0
        go (inl e) = e
        go (inr n) =
            let x = seen w (get_or b.own3 c 0) - 1 in
            let is : get_or (view w b.own3) c 0 ≡ suc x = get_d-view w b.own3 c ∙ omega (arith, n) in
            absurd (not-long _ _ ((s.each w).serves.second.owned c x (rw length-view l) is).2)

    keep-none : (v : Level) (own : List ℕ) → ((c : ℕ) → c < length own → seen w (get_or own c 0) ≡ 0) → keep_for w [] v own ≡ own
    keep-none v own h = ext_get_or 0 (keep_for w [] v own) own (keep-length w [] v own) (λ c l.
        let k : c < length own = rw keep-length at l in
        get_d_kept w [] v own c k ∙ rw (eq-eqb _ _ (h c k)))

    owners-none : kept_owners [] ≡ pair_owners b
    owners-none = ap₂ (λ (x y : List ℕ). owners x y) (keep-none (level1 g) b.own2 unseen2) (keep-none (level2 g (chunks_of seen2)) b.own3 unseen3)
      where
        owners : List ℕ → List ℕ → Owners
        owners x y = record { own2 = x; own3 = y }

    list-none : written [] (room_for w b) ≡ (side w b).list
    list-none =
        let z = (s.each w).listed in
        let n = length-written [] (room_for w b) in
        let m : room_for w b * 8 ≡ length (side w b).list = omega (arith, z.whole) in
        ext_get_or 0 (written [] (room_for w b)) (side w b).list (n ∙ m) (λ j l.
        let k : j < length (side w b).list = rw (n, m) at l in
        zero-written [] (room_for w b) j (omega arith) (omega arith) ∙ sym (z.zeros j (rw no-count (omega arith)) k))

    seen-none-is : rendered g (room_for w b) [] seen2 (view w b.own3) ≡ sees g w b
    seen-none-is =
        let r = sound-rendered (table_for w t) (sees g w b) (s.each w) in
        let by = ap (λ (xs : List Route). rendered g (room_for w b) xs seen2 (view w b.own3)) (sym none) in
        let e1 = ap {B = List ℕ} (λ (l : Lent). l.first) by ∙ sym r.is_first in
        let e2 = ap {B = List ℕ} (λ (l : Lent). l.second) by ∙ sym r.is_second in
        let e3 = ap {B = List ℕ} (λ (l : Lent). l.third) by ∙ sym r.is_third in
        let c1 = ap {B = List ℕ} (λ (l : Lent). l.long1) by ∙ sym r.is_long1 in
        let c2 = ap {B = List ℕ} (λ (l : Lent). l.long2) by ∙ sym r.is_long2 in
        let e0 = list-none in
        λ i. record { list = e0 i; first = e1 i; second = e2 i; third = e3 i; own2 = seen2; own3 = view w b.own3; long1 = c1 i; long2 = c2 i }

    lent_none : pair_lent_of w t b [] (kept_owners []) ≡ b
    lent_none =
        ap (pair_lent_of w t b []) owners-none
        ∙ ap (λ (l : Lent). box_of g (pair_owners b) (put w l (λ x. sees g x b))) seen-none-is
        ∙ put_same w ∙ box-parts

  nothing-out : (x : Said) → rs ≡ [] → Emptied (pair_out x t b) []
  unfolding withdraw_all AllRemoved
  nothing-out x e = record { state = sym (count_same w 0 t (no-count e)); lent = sym (lent_none e); each = tt }

  all-withdrawn : (x : Said) → Emptied (pair_out x t b) rs
  all-withdrawn x = go rs refl
    where
      go : (ys : List Route) → standing_for w t b ≡ ys → Emptied (pair_out x t b) ys
      go [] e = nothing-out x e
      go (r ∷ zs) e =
          let good : Good (r ∷ zs) = subst Good e (routes-good t b s w) in
          let k : Rest rs (r ∷ zs) = record { good = good; fewer = rw e (le_refl _); less = λ p i h. rw e h } in
          then-emptied (pair_out x t b) (at (accepted (0 ∷ [])) zs) r zs (take-first w t b r zs s e good) refl
          (empties zs (accepted (0 ∷ [])) (rest-next rs r zs k))

-- Announcing one record more after those that were.
module _ (w : Party) (t : Pair) (b : PairLent) (xs : List Route) (r : Route) (ys : List Route) (o : Owners) (k : Shift w t b xs o)
    (all : Good (xs ++ r ∷ ys)) (roomy : length (xs ++ r ∷ ys) ≤ room_for w b) (e2 : need (xs ++ r ∷ ys) t.geometry.p1 ≤ (share_of w t).most2)
    (e3 : need (xs ++ r ∷ ys) t.geometry.p2 ≤ (share_of w t).most3) where
  abbrev before : Pair
  before = with_count w (length xs) t

  abbrev box : PairLent
  box = pair_lent_of w t b xs o

  abbrev xs' : List Route
  xs' = xs ++ (r ∷ [])

  h : PairHolds w t b xs before box
  h = shift-holds w t b xs o k

  further : Shift w t b xs' (opened_for w t.geometry o r)
  further = shift-next w t b xs r ys o k all roomy e2 e3

  fine : Fine r
  fine = good-next xs r ys all

  inserted : insert r (standing_for w before box) ≡ xs'
  inserted = ap (insert r) h.routes ∙ insert-end r xs (good-below xs r ys all)

  added-said : pair_announce_said w before box r ≡ accepted (0 ∷ [])
  added-said = pair-announce-only w before box r _ (PairAnnounce.added (record {
    proper = record { fine = fine; sound = h.sound };
    new = rw h.routes (none-stands (key r) xs (good-below xs r ys all));
    room = rw (h.routes, h.rooms w) (omega (arith, further.roomy, length-append xs (r ∷ [])));
  }) (rw (inserted, h.limits2 w) further.most2) (rw (inserted, h.limits3 w) further.most3))

  add-next : pair_announced w before box r
      ≡ pair_out (accepted (0 ∷ 0 ∷ [])) (with_count w (length xs') t) (pair_lent_of w t b xs' (opened_for w t.geometry o r))
  unfolding pair_announced pair_adding
  add-next =
      let same : cut_route r ≡ r = ap (λ (x : ℕ). record { addr = x; len = r.len; mark = r.mark; hop = r.hop }) fine.prefix.clear in
      ap₂ (λ (x : Bool) (y : Route). pair_with_flag x (pair_adding w before box y)) (none-cleared r.len r.addr fine.prefix.clear) same
      ∙ rw (added-said, inserted) (again w t b xs o k (accepted (0 ∷ 0 ∷ [])) xs' (opened_for w t.geometry o r))

module _ (w : Party) (t : Pair) (b : PairLent) where
  abbrev stood : Said → List Route → Owners → PairOut
  stood x xs o = pair_out x (with_count w (length xs) t) (pair_lent_of w t b xs o)

  record Filled (x : PairOut) (xs ys : List Route) (o : Owners) : Type 0 where
    state : (announce_each w x ys).state ≡ with_count w (length (xs ++ ys)) t
    lent : (announce_each w x ys).lent ≡ pair_lent_of w t b (xs ++ ys) (owners_after_for w t.geometry o ys)
    each : EachAdded w x ys

  fills : (ys xs : List Route) (o : Owners) (x : Said) → Shift w t b xs o → Good (xs ++ ys) → length (xs ++ ys) ≤ room_for w b
      → need (xs ++ ys) t.geometry.p1 ≤ (share_of w t).most2 → need (xs ++ ys) t.geometry.p2 ≤ (share_of w t).most3 → Filled (stood x xs o) xs ys o
  unfolding announce_each EachAdded owners_after_for
  fills [] xs o x k all roomy e2 e3 = record { state = rw append-nil; lent = rw append-nil; each = tt }
  fills (r ∷ ys) xs o x k all roomy e2 e3 =
      go (fills ys (xs ++ (r ∷ [])) (opened_for w t.geometry o r) (accepted (0 ∷ 0 ∷ [])) (shift-next w t b xs r ys o k all roomy e2 e3)
      (rw re all) (rw re roomy) (rw re e2) (rw re e3))
    where
      re : (xs ++ (r ∷ [])) ++ ys ≡ xs ++ r ∷ ys
      re = append_assoc xs (r ∷ []) ys

      go : Filled (stood (accepted (0 ∷ 0 ∷ [])) (xs ++ (r ∷ [])) (opened_for w t.geometry o r)) (xs ++ (r ∷ [])) ys (opened_for w t.geometry o r)
          → Filled (stood x xs o) xs (r ∷ ys) o
      go f =
          let step = add-next w t b xs r ys o k all roomy e2 e3 in
          let last : Owners = owners_after_for w t.geometry (opened_for w t.geometry o r) ys in
          record {
            state = ap {B = Pair} (λ (y : PairOut). (announce_each w y ys).state) step ∙ f.state ∙ ap (λ (zs : List Route). with_count w (length zs) t) re;
            lent = ap {B = PairLent} (λ (y : PairOut). (announce_each w y ys).lent) step ∙ f.lent ∙ ap (λ (zs : List Route). pair_lent_of w t b zs last) re;
            each = (ap {B = Said} (λ (y : PairOut). y.said) step, subst (λ (y : PairOut). EachAdded w y ys) (sym step) f.each);
          }

  module _ (input : List ℕ) (e : accepts (pair_loaded w t b input).said ≡ true) where
    abbrev xs : List Route
    xs = input_routes input

    -- the box without the party's routes
    abbrev emptied : PairOut
    emptied = withdraw_all w (pair_out (accepted []) t b) (standing_for w t b)

    sound : PairSound t b
    unfolding pair_done
    sound = accepted-sound w t b (load input) e

    out : Emptied w t b sound (pair_out (accepted []) t b) (standing_for w t b)
    out = all-withdrawn w t b sound (accepted [])

    empty-is : emptied ≡ stood emptied.said [] (kept_owners w t b sound [])
    empty-is = let a = out.state in let c = out.lent in λ i. record { said = emptied.said; state = a i; lent = c i }

    filled : Filled (stood emptied.said [] (kept_owners w t b sound [])) [] xs (kept_owners w t b sound [])
    unfolding Good any
    filled =
        let f = load-offered w t b sound input e in
        fills xs [] (kept_owners w t b sound []) emptied.said
        (withdraw-shift t b sound w [] tt (omega arith) (λ p i x. absurd (false≢true x))) f.good f.roomy f.enough2 f.enough3

    loaded-is : pair_loaded w t b input ≡ stood (pair_load_said w t b input) xs (owners_after_for w t.geometry (kept_owners w t b sound []) xs)
    unfolding pair_loaded
    loaded-is = ends-accepted (pair_load_said w t b input) t b _ _ (sym (ap accepts (load_said_lem w t b input)) ∙ e)

    -- in the state and in all that is lent; and each withdrawal and each announcement is accepted
    pub pair-load-as : ((pair_loaded w t b input).state ≡ (announce_each w emptied xs).state) × ((pair_loaded w t b input).lent ≡ (announce_each w emptied xs).lent)
        × AllRemoved w (pair_out (accepted []) t b) (standing_for w t b) × EachAdded w emptied xs
    pair-load-as = (
      ap {B = Pair} (λ (y : PairOut). y.state) loaded-is ∙ sym (ap {B = Pair} (λ (y : PairOut). (announce_each w y xs).state) empty-is ∙ filled.state),
      ap {B = PairLent} (λ (y : PairOut). y.lent) loaded-is ∙ sym (ap {B = PairLent} (λ (y : PairOut). (announce_each w y xs).lent) empty-is ∙ filled.lent),
      out.each,
      subst (λ (y : PairOut). EachAdded w y xs) (sym empty-is) filled.each,
    )
