-- An accepted announcement or withdrawal alters no cell but those that serve an address under its prefix and those in chunks that it opens
-- or closes; and a chunk that it opens is the lowest that was free. `framed` says it of each level by its cells; a place that keeps its owner
-- stands where it stood, and what stands there is what a lookup reads.
use mathlib.Core.Path.{◌≡◌, refl, sym, ◌∙◌, ap, subst}
use mathlib.Core.Logic.{◌≢◌}
use mathlib.Core.Bool.{Bool, true, false, cond}
use mathlib.Core.List.{List}
use Prim.Native.Nat.{ℕ, zero, suc, ◌+◌, ◌-◌, ◌*◌, ◌/◌, ◌%◌, ◌^◌, ◌<◌}
use native.Mathlib.Omega.{arith}
use lib.Dec.{ltb}
use lib.ListN.{get_or, length}
use borrow.Author.Tests.{ltb-false}
use Rattle.routes.specs.Route.{key_of, Good}
use Rattle.standing.specs.Standing.{insert, remove}
use Rattle.routes.specs.declared.Route.{Route}
use Rattle.standing.proofs.Standing.{insert-good, insert-but, remove-good, remove-but}
use Rattle.standing.proofs.Frame.{SameBut}
use Rattle.sail.specs.Geometry.{bits2, bits3}
use Rattle.sail.specs.Lent.{Lent}
use Rattle.sail.specs.Level.{Level, in_use, entry, chunks_of, no_chunks, level1, level2, level3}
use Rattle.sail.specs.Sound.{Sound, standing}
use Rattle.sail.specs.declared.geometry.Geometry.{Geometry}
use Rattle.sail.specs.declared.table.Table.{Table}
use Rattle.sail.proofs.Sounds.{standing-good}
use Rattle.sail_theory.specs.Render.{find, Rendered}
use Rattle.sail_theory.specs.Calls.{Owners, grant, open_at, opening, opened_at, opened, owners_kept, owners_of, Out, lent_of, adding, taking}
use Rattle.sail_theory.specs.Facts.{Announceable, Withdrawable}
use Rattle.sail_theory.specs.Alters.{Alters, NoneUnder, SamePlace, Frame}
use Rattle.sail_theory.proofs.owners.Chunks.{chunk-before}
use Rattle.sail_theory.proofs.places.Places.{chunk-lt, live-owner}
use Rattle.sail_theory.proofs.places.Rendered.{sound-rendered, listed-good, last_fits}
use Rattle.sail_theory.proofs.owners.StillFit.{kept-over}
use Rattle.sail_theory.proofs.owners.GrantKeep.{length-keep, kept-was, kept-stays, keep-closed, grant-lowest}
use Rattle.sail_theory.proofs.owners.OpenAt.{length-open, open_stays, open-keeps}
use Rattle.sail_theory.proofs.calls.ChangeHolds.{AnnounceableAt, at-fits2, at-fits3, lowest-at, farewell-fits2, farewell-fits3, less}
use Rattle.sail_theory.proofs.calls.Outcomes.{adding-is, taking-is}
use Rattle.sail_theory.proofs.frames.LevelFrame.{LevelMoved, framed, top-bounded, below-bounded, below-same}
use Rattle.sail_theory.proofs.frames.PlacesRead.{reads_second, reads-third}

-- an owner that is kept is the same
same-owner : (a b : ℕ) → ((x : ℕ) → a ≡ suc x → b ≡ suc x) → ltb 0 b ≡ ltb 0 a → b ≡ a
same-owner zero b h e = omega (arith, ltb-false 0 b e)
same-owner (suc a) b h e = h a refl

-- the levels below the first that these owners make
abbrev second : Geometry → Owners → Level
second g o = level2 g (chunks_of o.own2)

abbrev third : Geometry → Owners → Level
third g o = level3 g (chunks_of o.own2) (chunks_of o.own3)

-- owners that are in use before and after are the same; and a second chunk above a third chunk that stays has its owner still
pub record OwnersStay (g : Geometry) (l u : Lent) : Type 0 where
  pub same2 : (c : ℕ) → in_use (entry u.own2) c ≡ in_use (entry l.own2) c → get_or u.own2 c 0 ≡ get_or l.own2 c 0
  pub same3 : (c : ℕ) → in_use (entry u.own3) c ≡ in_use (entry l.own3) c → get_or u.own3 c 0 ≡ get_or l.own3 c 0
  pub over : (c q : ℕ) → c < length l.own3 → get_or l.own3 c 0 ≡ suc q → get_or u.own3 c 0 ≡ suc q
      → get_or u.own2 (q / 2 ^ bits2 g) 0 ≡ get_or l.own2 (q / 2 ^ bits2 g) 0

-- so a place stands where it stood where its chunk keeps its owner
module _ (g : Geometry) (l u : Lent) (o : OwnersStay g l u) where
  pub kept-same2 : (q : ℕ) → get_or u.own2 (q / 2 ^ bits2 g) 0 ≡ get_or l.own2 (q / 2 ^ bits2 g) 0
      → SamePlace (second g (owners_of l)) (second g (owners_of u)) q
  kept-same2 q e = below-same (level1 g) (level1 g) (chunks_of l.own2) (chunks_of u.own2) g.p2 q refl e (λ z _. refl)

  pub kept-same3 : (q : ℕ) → q < length l.own3 * 2 ^ bits3 g → get_or u.own3 (q / 2 ^ bits3 g) 0 ≡ get_or l.own3 (q / 2 ^ bits3 g) 0
      → SamePlace (third g (owners_of l)) (third g (owners_of u)) q
  kept-same3 q h e = below-same (second g (owners_of l)) (second g (owners_of u)) (chunks_of l.own3) (chunks_of u.own3) 32 q refl e
      (λ z y. ap (λ (x : ℕ). (x - 1) * 2 ^ bits2 g + z % 2 ^ bits2 g) (o.over _ z (chunk-lt (bits3 g) (length l.own3) q h) y (e ∙ y)))

-- From the frame by cells to the paper's words: a live place that stands for the cell of an address is read by its lookup, so where no lookup
-- of an address under the prefix reads the place, no such address lies in its cell.
frame-alters : (t : Table) (l : Lent) → Sound t l → (a len : ℕ) (u : Lent) → Frame t.geometry a len l u → OwnersStay t.geometry l u
    → Alters t.geometry a len l u
unfolding NoneUnder
frame-alters t l s a len u f o = record {
  first = λ q h n.
      f.first.stays q (rw s.sized.cells1 at h) (record { live = refl; at = λ _. refl }) (λ _ x b c d. n x b d (record { there = c }));
  second = λ q h n e.
      let i = rw s.sized.cells2 at h in
      f.second.stays q i (kept-same2 t.geometry l u o q (o.same2 _ e)) (λ y x b c d. n x b d (reads_second t l s x b q i y (sym c)));
  third = λ q h n e.
      let i = rw s.sized.cells3 at h in
      let same = kept-same3 t.geometry l u o q i (o.same3 _ e) in
      cc (f.third.stays q i same (λ y x b c d. n x b d (reads-third t l s x b q i y (sym c))));
}

-- what moves at the first level and at the second, where the routes become rs' and the owners o
abbrev Moves1 : Table → Lent → List Route → Owners → Type 0
Moves1 t l rs' o = LevelMoved (standing t l) rs' (level1 t.geometry) (level1 t.geometry) (chunks_of l.own2) (chunks_of o.own2)

abbrev Moves2 : Table → Lent → List Route → Owners → Type 0
Moves2 t l rs' o =
    LevelMoved (standing t l) rs' (second t.geometry (owners_of l)) (second t.geometry o) (chunks_of l.own3) (chunks_of o.own3)

-- A change of one prefix: good routes that differ from those that stand at that prefix alone, and what moves at both levels.
record Change (t : Table) (l : Lent) (a len : ℕ) (rs' : List Route) (o : Owners) : Type 0 where
  is : Rendered t l
  small : a < 2 ^ 32
  good : Good rs'
  but : SameBut a len (standing t l) rs'
  moves1 : Moves1 t l rs' o
  moves2 : Moves2 t l rs' o

-- The frame of the table is that of its three levels. Nothing hangs from the third, so its move follows from that of the second.
module _ (t : Table) (l : Lent) (a len : ℕ) (rs' : List Route) (o : Owners) (w : Change t l a len rs' o) where
  moves3 : LevelMoved (standing t l) rs' (third t.geometry (owners_of l)) (third t.geometry o) no_chunks no_chunks
  moves3 =
      let v = w.is.sized.valid in
      let v2 = second t.geometry (owners_of l) in
      record {
        few = omega arith;
        bounded = below-bounded (standing t l) v2 (chunks_of l.own3) 32 (omega arith) w.is.fits3 w.moves2.bounded;
        bits = refl;
        places = ap (λ (n : ℕ). n * 2 ^ bits3 t.geometry) w.moves2.many;
        was = last_fits (standing t l) (listed-good t l w.is.listed) v2 (chunks_of l.own3);
        now = last_fits rs' w.good (second t.geometry o) (chunks_of o.own3);
        many = refl;
        stay = λ c q e d. e;
      }

  table-frame : Frame t.geometry a len l (lent_of t l rs' o)
  table-frame = record {
    first = rw w.is.is_first (framed _ _ _ _ _ _ w.moves1 a len w.small w.but);
    second = rw w.is.is_second (framed _ _ _ _ _ _ w.moves2 a len w.small w.but);
    third = rw w.is.is_third (framed _ _ _ _ _ _ moves3 a len w.small w.but);
  }

-- Announce, whichever free chunks are opened: a chunk in use keeps its owner, so each level moves as `LevelMoved` asks.
module _ (t : Table) (l : Lent) (r : Route) (c2 c3 : ℕ) (w : AnnounceableAt t l r c2 c3) where
  abbrev g : Geometry
  g = t.geometry

  abbrev rs : List Route
  rs = standing t l

  abbrev o : Owners
  o = opened_at g (owners_of l) c2 c3 r

  abbrev now : Lent
  now = lent_of t l (insert r rs) o

  is : Rendered t l
  is = sound-rendered t l w.sound

  -- a chunk in use has its owner still
  stays2 : (c q : ℕ) → get_or l.own2 c 0 ≡ suc q → get_or o.own2 c 0 ≡ suc q
  stays2 = open-keeps rs r (level1 g) l.own2 c2 w.first

  stays3 : (c q : ℕ) → get_or l.own3 c 0 ≡ suc q → get_or o.own3 c 0 ≡ suc q
  stays3 = open-keeps rs r (second g o) l.own3 c3 w.second

  pub at-moved1 : Moves1 t l (insert r rs) o
  at-moved1 =
      let v = w.sound.sized.valid in
      record {
        few = omega arith;
        bounded = top-bounded g.p1;
        bits = refl;
        places = refl;
        was = is.fits2;
        now = at-fits2 t l r c2 c3 w;
        many = length-open (level1 g) l.own2 c2 r;
        stay = λ c q e _. stays2 c q e;
      }

  pub at-moved2 : Moves2 t l (insert r rs) o
  at-moved2 =
      let v = w.sound.sized.valid in
      record {
        few = omega arith;
        bounded = below-bounded rs (level1 g) (chunks_of l.own2) g.p2 (omega arith) is.fits2 (top-bounded g.p1);
        bits = refl;
        places = ap (λ (n : ℕ). n * 2 ^ bits2 g) at-moved1.many;
        was = is.fits3;
        now = at-fits3 t l r c2 c3 w;
        many = length-open (second g o) l.own3 c3 r;
        stay = λ c q e _. stays3 c q e;
      }

  pub at-frame : Frame g r.addr r.len l now
  at-frame = table-frame t l r.addr r.len (insert r rs) o (record {
    is = is;
    small = w.fine.prefix.addr_ok;
    good = insert-good r rs w.fine (standing-good t l w.sound);
    but = insert-but r rs w.fine (standing-good t l w.sound);
    moves1 = at-moved1;
    moves2 = at-moved2;
  })

  pub at-kept : OwnersStay g l now
  at-kept = record {
    same2 = λ c e. same-owner _ _ (stays2 c) e;
    same3 = λ c e. same-owner _ _ (stays3 c) e;
    over = λ c q h e _.
        let y = live-owner (level1 g) (chunks_of l.own2) g.p2 q (is.fits3.lies c q h e).1 in
        stays2 _ _ y ∙ sym y;
  }

  pub at-alters : Alters g r.addr r.len l now
  at-alters = frame-alters t l w.sound r.addr r.len now at-frame at-kept

-- the lowest ones
module _ (t : Table) (l : Lent) (r : Route) (w : Announceable t l r) where
  abbrev lent_then : Lent
  lent_then = lent_of t l (insert r (standing t l)) (opened t.geometry (owners_of l) r)

  pub announce-moved1 : Moves1 t l (insert r (standing t l)) (opened t.geometry (owners_of l) r)
  announce-moved1 = at-moved1 t l r _ _ (lowest-at t l r w)

  pub announce-moved2 : Moves2 t l (insert r (standing t l)) (opened t.geometry (owners_of l) r)
  announce-moved2 = at-moved2 t l r _ _ (lowest-at t l r w)

  pub announce-frame : Frame t.geometry r.addr r.len l lent_then
  announce-frame = at-frame t l r _ _ (lowest-at t l r w)

  pub announce-kept : OwnersStay t.geometry l lent_then
  announce-kept = at-kept t l r _ _ (lowest-at t l r w)

  welcome-alters : Alters t.geometry r.addr r.len l lent_then
  welcome-alters = at-alters t l r _ _ (lowest-at t l r w)

pub adding-alters : (t : Table) (l : Lent) (r : Route) → Announceable t l r → Alters t.geometry r.addr r.len l (adding t l r).lent
adding-alters t l r w = subst (λ (o : Out). Alters t.geometry r.addr r.len l o.lent) (sym (adding-is t l r w)) (welcome-alters t l r w)

-- Withdraw: a chunk keeps its owner where that is deep still, and no route that is left is longer where none was.
module _ (t : Table) (l : Lent) (a len : ℕ) (w : Withdrawable t l a len) where
  abbrev left : List Route
  left = remove (key_of a len) (standing t l)

  abbrev then : Owners
  then = owners_kept t.geometry left (owners_of l)

  abbrev gone : Lent
  gone = lent_of t l left then

  was : Rendered t l
  was = sound-rendered t l w.sound

  pub withdraw-moved1 : Moves1 t l left then
  withdraw-moved1 =
      let v = w.sound.sized.valid in
      record {
        few = omega arith;
        bounded = top-bounded t.geometry.p1;
        bits = refl;
        places = refl;
        was = was.fits2;
        now = farewell-fits2 t l a len w;
        many = length-keep _ _ l.own2;
        stay = kept-stays left (level1 t.geometry) l.own2;
      }

  pub withdraw-moved2 : Moves2 t l left then
  withdraw-moved2 =
      let v = w.sound.sized.valid in
      let first : Level = level1 t.geometry in
      record {
        few = omega arith;
        bounded = below-bounded (standing t l) first (chunks_of l.own2) t.geometry.p2 (omega arith) was.fits2 (top-bounded t.geometry.p1);
        bits = refl;
        places = ap (λ (n : ℕ). n * 2 ^ bits2 t.geometry) withdraw-moved1.many;
        was = was.fits3;
        now = farewell-fits3 t l a len w;
        many = length-keep _ _ l.own3;
        stay = kept-stays left (second t.geometry (owners_of l)) l.own3;
      }

  pub withdraw-frame : Frame t.geometry a len l gone
  withdraw-frame = table-frame t l a len left then (record {
    is = was;
    small = w.prefix.addr_ok;
    good = remove-good (key_of a len) (standing t l) (standing-good t l w.sound);
    but = remove-but a len (standing t l) w.prefix.len_ok (standing-good t l w.sound);
    moves1 = withdraw-moved1;
    moves2 = withdraw-moved2;
  })

  pub withdraw-kept : OwnersStay t.geometry l gone
  withdraw-kept =
      let v = w.sound.sized.valid in
      let v1 : Level = level1 t.geometry in
      let v2 : Level = second t.geometry (owners_of l) in
      record {
        same2 = λ c e. sym (same-owner _ _ (λ x z. (kept-was left v1 l.own2 c x z).0) (sym e));
        same3 = λ c e. sym (same-owner _ _ (λ x z. (kept-was left v2 l.own3 c x z).0) (sym e));
        over = λ c q h e z.
            let closed = keep-closed left v1 l.own2 in
            let few = less t l a len w in
            kept-over (standing t l) left few v1 (chunks_of l.own2) (chunks_of then.own2) t.geometry.p2 (omega arith) (omega arith) closed q
            (was.fits3.lies c q h e).1 (kept-was left v2 l.own3 c q z).1;
      }

  farewell-alters : Alters t.geometry a len l gone
  farewell-alters = frame-alters t l w.sound a len gone withdraw-frame withdraw-kept

pub taking-alters : (t : Table) (l : Lent) (a len : ℕ) → Withdrawable t l a len → Alters t.geometry a len l (taking t l a len).lent
taking-alters t l a len w = subst (λ (o : Out). Alters t.geometry a len l o.lent) (sym (taking-is t l a len w)) (farewell-alters t l a len w)

-- "A newly opened chunk takes the lowest free number": c was free and is in use, so no chunk before it was free
pub opened-lowest : (v : Level) (own : List ℕ) (r : Route) (c x : ℕ) → get_or own c 0 ≡ 0 → get_or (opening v own r) c 0 ≡ suc x
    → (j : ℕ) → j < c → get_or own j 0 ≢ 0
unfolding open_at
opened-lowest v own r c x was now j h = go (ltb v.bits r.len) now
  where
    go : (b : Bool) → get_or (cond b (grant own (find own 0) (v.serving r.addr)) own) c 0 ≡ suc x → get_or own j 0 ≢ 0
    go true z = let y = grant-lowest own _ c x was z in chunk-before (chunks_of own) 0 j (omega arith)
    go false z = absurd (omega arith)
