-- A box that is put together of a table for each party is seen by each as its own table. So a party whose routes and owners change, within its
-- limits and at chunks that are its own or nobody's, leaves a sound box, in which the other sees what it saw.
use mathlib.Core.Path.{◌≡◌, refl, sym, ◌∙◌, ap, ap₂, subst}
use mathlib.Core.List.{List}
use Prim.Native.Nat.{ℕ, ◌+◌, ◌*◌, ◌/◌, ◌^◌, ◌≤◌, ◌<◌}
use native.Mathlib.Omega.{arith}
use lib.Dec.{ltb}
use lib.ListN.{get_or, length}
use Rattle.routes.specs.Route.{Good}
use Rattle.routes.specs.declared.Route.{Route}
use Rattle.routes.specs.Record.{written}
use Rattle.routes.proofs.Rows.{length-written}
use Rattle.standing.specs.Cells.{need}
use Rattle.counts.proofs.Stored.{length-tallies, tallies-counted}
use Rattle.sail.specs.Geometry.{bits2, bits3}
use Rattle.sail.specs.Lent.{Lent}
use Rattle.sail.specs.Level.{chunks_of, no_chunks, level1, level2, level3}
use Rattle.sail.specs.Sizes.{Sized}
use Rattle.sail.specs.Sound.{Sound, standing}
use Rattle.sail.specs.declared.geometry.Geometry.{Geometry}
use Rattle.sail.specs.declared.table.Table.{Table}
use Rattle.sail_theory.specs.Render.{rendered, Fits}
use Rattle.sail_theory.specs.Calls.{Owners, state_of, lent_of}
use Rattle.sail_theory.specs.Facts.{SameSize, TableHolds}
use Rattle.sail_theory.proofs.places.Pools.{length-pool, pool-clear}
use Rattle.sail_theory.proofs.calls.ChangeHolds.{render-holds}
use Rattle.sail_theory.proofs.calls.SameSizes.{sized_same}
use Rattle.pair.specs.Party.{Party, one, two, other, put, view}
use Rattle.pair.specs.PairLent.{PairLent, side, room_for, mine, part, sees, box_of}
use Rattle.pair.specs.PairSound.{pair_of, share_of, table_for, standing_for, Nobodys, Spare, PairSound}
use Rattle.pair.specs.PairCalls.{counting, with_count, pair_lent_of}
use Rattle.pair.specs.declared.Share.{Share}
use Rattle.pair.specs.declared.Pair.{Pair}
use Rattle.pair.proofs.Views.{length-view, length_part, Blank, part-blank, part-joined1, part-joined2, joined-spare}

-- of one party and of the other
pub for-both : (P : Party → Type 0) (w : Party) → P w → P (other w) → (v : Party) → P v
for-both P one x y one = x
for-both P one x y two = y
for-both P two x y one = y
for-both P two x y two = x

pub put-own : {A : Type 0} (w : Party) (x : A) (f : Party → A) → put w x f w ≡ x
put-own one x f = refl
put-own two x f = refl

pub put_other : {A : Type 0} (w : Party) (x : A) (f : Party → A) → put w x f (other w) ≡ f (other w)
put_other one x f = refl
put_other two x f = refl

share-is : (g : Geometry) (s : Party → Share) (w : Party) → share_of w (pair_of g s) ≡ s w
share-is g s one = refl
share-is g s two = refl

module _ (w : Party) (n : ℕ) (t : Pair) where
  pub share-own : share_of w (with_count w n t) ≡ counting n (share_of w t)
  share-own = share-is t.geometry (put w (counting n (share_of w t)) (λ v. share_of v t)) w ∙ put-own w (counting n (share_of w t)) (λ v. share_of v t)

  pub share_other : share_of (other w) (with_count w n t) ≡ share_of (other w) t
  share_other = share-is t.geometry (put w (counting n (share_of w t)) (λ v. share_of v t)) (other w)
      ∙ put_other w (counting n (share_of w t)) (λ v. share_of v t)

  -- limits stay
  pub limits2 : (v : Party) → (share_of v (with_count w n t)).most2 ≡ (share_of v t).most2
  limits2 = for-both (λ v. (share_of v (with_count w n t)).most2 ≡ (share_of v t).most2) w
      (ap {B = ℕ} (λ s. s.most2) share-own) (ap {B = ℕ} (λ s. s.most2) share_other)

  pub limits3 : (v : Party) → (share_of v (with_count w n t)).most3 ≡ (share_of v t).most3
  limits3 = for-both (λ v. (share_of v (with_count w n t)).most3 ≡ (share_of v t).most3) w
      (ap {B = ℕ} (λ s. s.most3) share-own) (ap {B = ℕ} (λ s. s.most3) share_other)

-- what a party sees has the sizes of what is lent to it
pub seen_size : (g : Geometry) (w : Party) (b : PairLent) → SameSize (sees g w b) (side w b)
seen_size g one b = record {
  list = refl;
  first = refl;
  second = sym (length_part one b.own2 (bits2 g) b.second);
  third = sym (length_part one b.own3 (bits3 g) b.third);
  chunks2 = sym (length-view one b.own2);
  chunks3 = sym (length-view one b.own3);
  counts1 = refl;
  counts2 = sym (length_part one b.own2 (bits2 g) b.long2);
}
seen_size g two b = record {
  list = refl;
  first = refl;
  second = sym (length_part two b.own2 (bits2 g) b.second);
  third = sym (length_part two b.own3 (bits3 g) b.third);
  chunks2 = sym (length-view two b.own2);
  chunks3 = sym (length-view two b.own3);
  counts1 = refl;
  counts2 = sym (length_part two b.own2 (bits2 g) b.long2);
}

pub side-sized : (g : Geometry) (w : Party) (b : PairLent) → Sized g (sees g w b) → Sized g (side w b)
side-sized g w b z = sized_same g (sees g w b) (side w b) z (seen_size g w b)

-- a table that the party w may see in a box of these owners
pub record Seen (g : Geometry) (o : Owners) (w : Party) (l : Lent) : Type 0 where
  pub own2 : l.own2 ≡ view w o.own2
  pub own3 : l.own3 ≡ view w o.own3
  pub size2 : length l.second ≡ length o.own2 * 2 ^ bits2 g
  pub size3 : length l.third ≡ length o.own3 * 2 ^ bits3 g
  pub sizes : length l.long2 ≡ length o.own2 * 2 ^ bits2 g
  pub blank2 : Blank w o.own2 (bits2 g) l.second
  pub blank3 : Blank w o.own3 (bits3 g) l.third
  pub uncounted : Blank w o.own2 (bits2 g) l.long2

module _ (g : Geometry) (o : Owners) (l : Party → Lent) (s : (w : Party) → Seen g o w (l w)) where
  abbrev b : PairLent
  b = box_of g o l

  same2 : length (l one).second ≡ length (l two).second
  same2 = (s one).size2 ∙ sym (s two).size2

  same3 : length (l one).third ≡ length (l two).third
  same3 = (s one).size3 ∙ sym (s two).size3

  sames : length (l one).long2 ≡ length (l two).long2
  sames = (s one).sizes ∙ sym (s two).sizes

  pub sees-own : (w : Party) → sees g w b ≡ l w
  sees-own one =
      let e2 = part-joined1 o.own2 (bits2 g) (l one).second (l two).second same2 (s one).blank2 in
      let e3 = part-joined1 o.own3 (bits3 g) (l one).third (l two).third same3 (s one).blank3 in
      let ec = part-joined1 o.own2 (bits2 g) (l one).long2 (l two).long2 sames (s one).uncounted in
      let f2 = sym (s one).own2 in
      let f3 = sym (s one).own3 in
      λ i. record {
        list = (l one).list;
        first = (l one).first;
        second = e2 i;
        third = e3 i;
        own2 = f2 i;
        own3 = f3 i;
        long1 = (l one).long1;
        long2 = ec i;
      }
  sees-own two =
      let e2 = part-joined2 o.own2 (bits2 g) (l one).second (l two).second same2 (s two).blank2 in
      let e3 = part-joined2 o.own3 (bits3 g) (l one).third (l two).third same3 (s two).blank3 in
      let ec = part-joined2 o.own2 (bits2 g) (l one).long2 (l two).long2 sames (s two).uncounted in
      let f2 = sym (s two).own2 in
      let f3 = sym (s two).own3 in
      λ i. record {
        list = (l two).list;
        first = (l two).first;
        second = e2 i;
        third = e3 i;
        own2 = f2 i;
        own3 = f3 i;
        long1 = (l two).long1;
        long2 = ec i;
      }

  pub box-spare2 : Spare o.own2 (bits2 g) b.second
  box-spare2 = joined-spare o.own2 (bits2 g) (l one).second (l two).second same2 (s two).blank2

  pub box-spare3 : Spare o.own3 (bits3 g) b.third
  box-spare3 = joined-spare o.own3 (bits3 g) (l one).third (l two).third same3 (s two).blank3

  pub box-uncounted : Spare o.own2 (bits2 g) b.long2
  box-uncounted = joined-spare o.own2 (bits2 g) (l one).long2 (l two).long2 sames (s two).uncounted

-- what routes and owners ask may be seen
pub rendered-seen : (g : Geometry) (o : Owners) (w : Party) (room : ℕ) (rs : List Route) → Seen g o w (rendered g room rs (view w o.own2) (view w o.own3))
rendered-seen g o w room rs =
    let k2 = chunks_of (view w o.own2) in
    let k3 = chunks_of (view w o.own3) in
    let s2 = length-pool rs (level2 g k2) k3 in
    let s3 = length-pool rs (level3 g k2 k3) no_chunks in
    let sc = length-tallies rs g.p2 (level2 g k2).places (level2 g k2).live (level2 g k2).at in
    let n2 = ap (λ (n : ℕ). n * 2 ^ bits2 g) (length-view w o.own2) in
    let n3 = ap (λ (n : ℕ). n * 2 ^ bits3 g) (length-view w o.own3) in
    record {
      own2 = refl;
      own3 = refl;
      size2 = s2 ∙ n2;
      size3 = s3 ∙ n3;
      sizes = sc ∙ n2;
      blank2 = record { zero = λ q l e. (pool-clear rs (level2 g k2) k3).blank q (rw s2 at l) e };
      blank3 = record { zero = λ q l e. (pool-clear rs (level3 g k2 k3) no_chunks).blank q (rw s3 at l) e };
      uncounted = record { zero = λ q l e. (tallies-counted rs g.p2 (level2 g k2).places (level2 g k2).live (level2 g k2).at).blank q (rw sc at l) e };
    }

-- so may what is seen of a box, in one with owners that look the same
blank-same : (w : Party) (own own' : List ℕ) (d : ℕ) (xs : List ℕ) → view w own' ≡ view w own → Blank w own d xs → Blank w own' d xs
blank-same w own own' d xs e b = record { zero = λ q l m. b.zero q l (sym (ap (λ (v : List ℕ). ltb 0 (get_or v (q / 2 ^ d) 0)) e) ∙ m) }

pub sees-seen : (g : Geometry) (o : Owners) (w : Party) (b : PairLent) → Sized g (sees g w b) → length o.own2 ≡ length b.own2
    → length o.own3 ≡ length b.own3 → view w o.own2 ≡ view w b.own2 → view w o.own3 ≡ view w b.own3 → Seen g o w (sees g w b)
sees-seen g o w b z l2 l3 e2 e3 =
    let n2 = ap (λ (n : ℕ). n * 2 ^ bits2 g) (length-view w b.own2 ∙ sym l2) in
    let n3 = ap (λ (n : ℕ). n * 2 ^ bits3 g) (length-view w b.own3 ∙ sym l3) in
    record {
      own2 = sym e2;
      own3 = sym e3;
      size2 = z.cells2 ∙ n2;
      size3 = z.cells3 ∙ n3;
      sizes = z.counts2 ∙ z.cells2 ∙ n2;
      blank2 = blank-same w b.own2 o.own2 (bits2 g) _ e2 (part-blank w b.own2 (bits2 g) b.second);
      blank3 = blank-same w b.own3 o.own3 (bits3 g) _ e3 (part-blank w b.own3 (bits3 g) b.third);
      uncounted = blank-same w b.own2 o.own2 (bits2 g) _ e2 (part-blank w b.own2 (bits2 g) b.long2);
    }

-- The routes of w may become rs and the owners o: they fit what w sees then, within its room and its limits, and the other sees no owner change.
pub record Shift (w : Party) (t : Pair) (b : PairLent) (rs : List Route) (o : Owners) : Type 0 where
  pub sound : PairSound t b
  pub good : Good rs
  pub roomy : length rs ≤ room_for w b
  pub len2 : length o.own2 ≡ length b.own2
  pub len3 : length o.own3 ≡ length b.own3
  pub fits2 : Fits rs (level1 t.geometry) (chunks_of (view w o.own2))
  pub fits3 : Fits rs (level2 t.geometry (chunks_of (view w o.own2))) (chunks_of (view w o.own3))
  pub same2 : view (other w) o.own2 ≡ view (other w) b.own2
  pub same3 : view (other w) o.own3 ≡ view (other w) b.own3
  pub nobodys2 : Nobodys o.own2
  pub nobodys3 : Nobodys o.own3
  pub most2 : need rs t.geometry.p1 ≤ (share_of w t).most2
  pub most3 : need rs t.geometry.p2 ≤ (share_of w t).most3

-- A sound box of the same geometry, limits and sizes, in which the routes rs of w stand, and the other sees what it saw.
pub record PairHolds (w : Party) (t : Pair) (b : PairLent) (rs : List Route) (u : Pair) (v : PairLent) : Type 0 where
  pub sound : PairSound u v
  pub routes : standing_for w u v ≡ rs
  pub list : (side w v).list ≡ written rs (room_for w b)
  pub count : (share_of w u).count ≡ length rs
  pub theirs : sees t.geometry (other w) v ≡ sees t.geometry (other w) b
  pub share : share_of (other w) u ≡ share_of (other w) t
  pub geometry : u.geometry ≡ t.geometry
  pub limits2 : (x : Party) → (share_of x u).most2 ≡ (share_of x t).most2
  pub limits3 : (x : Party) → (share_of x u).most3 ≡ (share_of x t).most3
  pub rooms : (x : Party) → room_for x v ≡ room_for x b
  pub chunks2 : length v.own2 ≡ length b.own2
  pub chunks3 : length v.own3 ≡ length b.own3

sound-eq : (x y : Table) (l m : Lent) → x ≡ y → l ≡ m → Sound y m → Sound x l
sound-eq x y l m e f s = subst (λ (z : Table). Sound z l) (sym e) (subst (λ (z : Lent). Sound y z) (sym f) s)

module _ (w : Party) (t : Pair) (b : PairLent) (rs : List Route) (o : Owners) (k : Shift w t b rs o) where
  abbrev g : Geometry
  g = t.geometry

  abbrev u : Pair
  u = with_count w (length rs) t

  abbrev v : PairLent
  v = pair_lent_of w t b rs o

  abbrev asked : Lent
  asked = rendered g (room_for w b) rs (view w o.own2) (view w o.own3)

  abbrev tables : Party → Lent
  tables = put w asked (λ x. sees g x b)

  abbrev owners : Owners
  owners = record { own2 = view w o.own2; own3 = view w o.own3 }

  -- what w's table holds
  mine-holds : TableHolds (table_for w t) (sees g w b) rs (state_of (table_for w t) rs) (lent_of (table_for w t) (sees g w b) rs owners)
  mine-holds = render-holds (table_for w t) (sees g w b) rs owners (record {
    sized = (k.sound.each w).sized;
    good = k.good;
    roomy = roomy;
    len2 = length-view w o.own2 ∙ k.len2 ∙ sym (length-view w b.own2);
    len3 = length-view w o.own3 ∙ k.len3 ∙ sym (length-view w b.own3);
    fits2 = k.fits2;
    fits3 = k.fits3;
  })
    where
      roomy : length rs ≤ room_for w b
      roomy = k.roomy

  seens : (x : Party) → Seen g o x (tables x)
  seens = for-both (λ x. Seen g o x (tables x)) w
      (subst (λ (l : Lent). Seen g o w l) (sym (put-own w asked (λ x. sees g x b))) (rendered-seen g o w (room_for w b) rs))
      (subst (λ (l : Lent). Seen g o (other w) l) (sym (put_other w asked (λ x. sees g x b)))
      (sees-seen g o (other w) b (k.sound.each (other w)).sized k.len2 k.len3 k.same2 k.same3))

  pub mine-seen : sees g w v ≡ asked
  mine-seen = sees-own g o tables seens w ∙ put-own w asked (λ x. sees g x b)

  theirs-seen : sees g (other w) v ≡ sees g (other w) b
  theirs-seen = sees-own g o tables seens (other w) ∙ put_other w asked (λ x. sees g x b)

  table-own : table_for w u ≡ state_of (table_for w t) rs
  table-own = ap (λ (s : Share). record { geometry = g; count = s.count }) (share-own w (length rs) t)

  table-other : table_for (other w) u ≡ table_for (other w) t
  table-other = ap (λ (s : Share). record { geometry = g; count = s.count }) (share_other w (length rs) t)

  routes-own : standing_for w u v ≡ rs
  routes-own = ap₂ (λ (x : Table) (l : Lent). standing x l) table-own mine-seen ∙ mine-holds.routes

  routes-other : standing_for (other w) u v ≡ standing_for (other w) t b
  routes-other = ap₂ (λ (x : Table) (l : Lent). standing x l) table-other theirs-seen

  pub shift-holds : PairHolds w t b rs u v
  shift-holds = record {
    sound = record {
      each = for-both (λ x. Sound (table_for x u) (sees g x v)) w
          (sound-eq _ _ _ _ table-own mine-seen mine-holds.sound)
          (sound-eq _ _ _ _ table-other theirs-seen (k.sound.each (other w)));
      nobodys2 = k.nobodys2;
      nobodys3 = k.nobodys3;
      spare2 = box-spare2 g o tables seens;
      spare3 = box-spare3 g o tables seens;
      uncounted = box-uncounted g o tables seens;
      within2 = for-both (λ x. need (standing_for x u v) g.p1 ≤ (share_of x u).most2) w
          (rw (routes-own, limits2 w (length rs) t w) k.most2)
          (rw (routes-other, limits2 w (length rs) t (other w)) (k.sound.within2 (other w)));
      within3 = for-both (λ x. need (standing_for x u v) g.p2 ≤ (share_of x u).most3) w
          (rw (routes-own, limits3 w (length rs) t w) k.most3)
          (rw (routes-other, limits3 w (length rs) t (other w)) (k.sound.within3 (other w)));
      fit2 = rw (limits2 w (length rs) t one, limits2 w (length rs) t two, k.len2) k.sound.fit2;
      fit3 = rw (limits3 w (length rs) t one, limits3 w (length rs) t two, k.len3) k.sound.fit3;
    };
    routes = routes-own;
    list = ap {B = List ℕ} (λ (l : Lent). l.list) mine-seen;
    count = ap {B = ℕ} (λ (s : Share). s.count) (share-own w (length rs) t);
    theirs = theirs-seen;
    share = share_other w (length rs) t;
    geometry = refl;
    limits2 = limits2 w (length rs) t;
    limits3 = limits3 w (length rs) t;
    rooms = for-both (λ x. room_for x v ≡ room_for x b) w
        (ap {B = ℕ} (λ (l : Lent). length l.list / 8) mine-seen ∙ omega (arith, length-written rs (room_for w b)))
        (ap {B = ℕ} (λ (l : Lent). length l.list / 8) theirs-seen);
    chunks2 = k.len2;
    chunks3 = k.len3;
  }
