-- A load on a party's side of a sound box. What is laid over the pools, once the party's chunks are closed, is the side that is asked for.
use mathlib.Core.Path.{◌≡◌, refl, sym, ◌∙◌, ap, ap₂, subst}
use mathlib.Core.Logic.{◌⊎◌, inl, inr}
use mathlib.Core.Bool.{true, false, cond}
use mathlib.Core.List.{List, []}
use Prim.Native.Nat.{ℕ, ◌+◌, ◌*◌, ◌/◌, ◌^◌, ◌≤◌, ◌<◌}
use native.Mathlib.Omega.{arith}
use lib.ListN.{get_or, length}
use lib.Seq.{ext_get_or}
use Rattle.bits.proofs.Bools.{decided}
use Rattle.routes.specs.declared.Route.{Route}
use Rattle.routes.proofs.Rows.{length-routes, records-good}
use Rattle.standing.specs.Cells.{need}
use Rattle.sail.specs.Geometry.{bits2, bits3}
use Rattle.sail.specs.Lent.{Lent, lent}
use Rattle.sail.specs.Level.{entry, live_in, chunks_of, level1, level2}
use Rattle.sail.specs.Sizes.{Sized}
use Rattle.sail.specs.declared.geometry.Geometry.{Geometry}
use Rattle.sail_theory.specs.Calls.{Owners, input_routes}
use Rattle.sail_theory.specs.Facts.{SameSize}
use Rattle.sail_theory.specs.Render.{rendered, room_of}
use Rattle.sail_theory.specs.Shared.{touched, mixed}
use Rattle.sail_theory.proofs.calls.SameSizes.{sized_same}
use Rattle.sail_theory.proofs.places.Alone as alone
use Rattle.sail_theory.proofs.places.Alone.{length-mixed, mixed-at}
use Rattle.sail_theory.proofs.places.Pools.{length-laid, laid-at}
use Rattle.sail_owners.specs.Owners.{owners, owners_from, Between}
use Rattle.sail_renew.specs.Renew.{WholeRecords, Layable, laid_in}
use Rattle.pair.specs.Party.{Party, one, two, other, view}
use Rattle.pair.specs.PairLent.{PairLent, side, pair_owners, room_for, mine}
use Rattle.pair.specs.PairSound.{share_of, Spare, PairSound}
use Rattle.pair.specs.PairCalls.{owners_kept_for}
use Rattle.pair.specs.declared.Pair.{Pair}
use Rattle.pair.proofs.Views.{mine-apart, length-view}
use Rattle.pair.proofs.Lays.{same-places}
use Rattle.pair.proofs.Sees.{side-sized, Seen, rendered-seen, Shift}
use Rattle.pair.proofs.Shifts.{load-shift}
use Rattle.pair_load.specs.Cleared.{top_of, freed, emptied, ClearReady, SideCleared}
use Rattle.pair_load.specs.SideLoads.{LoadReady, load_owners, side_loaded}
use Rattle.pair_load.proofs.Opens.{freed-kept, kept-between, opened-for}

-- An array over a pool with the chunks of some owners emptied.
module _ (was : List ℕ) (d : ℕ) (old : List ℕ) where
  length-emptied : length (emptied was d old) ≡ length old
  unfolding emptied
  length-emptied = length-laid old _ _

  emptied-at : (q : ℕ) → q < length old → get_or (emptied was d old) q 0 ≡ cond (live_in (entry was) d q) 0 (get_or old q 0)
  unfolding emptied
  emptied-at q l = laid-at old _ _ q l

  -- what is then mixed in by other owners is mixed into what was there before
  emptied-mixed : (own xs : List ℕ) → length xs ≡ length old → alone.Blank own d xs → mixed own own d (emptied was d old) xs ≡ mixed was own d old xs
  emptied-mixed own xs n b =
      ext_get_or 0 _ _ (length-mixed own own d (emptied was d old) xs ∙ length-emptied ∙ sym (length-mixed was own d old xs)) (λ q h.
      let k : q < length (emptied was d old) = rw length-mixed at h in
      let l : q < length old = rw length-emptied at k in
      mixed-at own own d (emptied was d old) xs q k ∙ at q l (decided (live_in (entry was) d q)) (decided (live_in (entry own) d q))
      ∙ sym (mixed-at was own d old xs q l))
    where
      at : (q : ℕ) → q < length old → (live_in (entry was) d q ≡ true) ⊎ (live_in (entry was) d q ≡ false)
          → (live_in (entry own) d q ≡ true) ⊎ (live_in (entry own) d q ≡ false)
          → cond (touched own own d q) (get_or xs q 0) (get_or (emptied was d old) q 0) ≡ cond (touched was own d q) (get_or xs q 0) (get_or old q 0)
      at q l (inl e) (inl f) = rw (e, f)
      at q l (inr e) (inl f) = rw (e, f)
      at q l (inl e) (inr f) = rw (e, f) (emptied-at q l ∙ rw e (sym (b.zero q (rw n l) f)))
      at q l (inr e) (inr f) = rw (e, f) (emptied-at q l ∙ rw e)

-- A place that is the party's after a change: emptied, or nobody's before, and so 0.
emptied-own : (w : Party) (own own' : List ℕ) (d : ℕ) (xs : List ℕ) → Spare own d xs → view (other w) own' ≡ view (other w) own
    → (q : ℕ) → q < length xs → mine w own' d q ≡ true → get_or (emptied (view w own) d xs) q 0 ≡ 0
emptied-own w own own' d xs s same q l e = emptied-at (view w own) d xs q l ∙ go (decided (mine w own d q))
  where
    neither : (w : Party) → mine w own d q ≡ false → mine (other w) own d q ≡ false → get_or xs q 0 ≡ 0
    neither one x y = s.blank q l x y
    neither two x y = s.blank q l y x

    go : (mine w own d q ≡ true) ⊎ (mine w own d q ≡ false) → cond (mine w own d q) 0 (get_or xs q 0) ≡ 0
    go (inl x) = rw x
    go (inr x) = rw x (neither w x (sym (same-places (other w) own own' d q same) ∙ mine-apart w own' d q e))

-- What the code asks and leaves, of a side.
pub record WriteFacts (w : Party) (t : Pair) (input : List ℕ) (l : Lent) : Type 0 where
  pub clear : ClearReady t.geometry l.second l.third l.own2 l.own3 l.long2
  pub opens : {second third z2 z3 long2 : List ℕ}
      → SideCleared w t.geometry l.second l.third l.own2 l.own3 l.long2 second third z2 z3 long2
      → Between (top_of w) t.geometry input z2 z3
  pub lays : {second third z2 z3 long2 own2 own3 see2 see3 : List ℕ}
      → SideCleared w t.geometry l.second l.third l.own2 l.own3 l.long2 second third z2 z3 long2
      → owners own2 own3 ≡ owners_from (top_of w) t.geometry (owners z2 z3) (input_routes input) → see2 ≡ view w own2 → see3 ≡ view w own3
      → Layable t.geometry input (lent l.list l.first second third see2 see3 l.long1 long2)
  pub ends : {second third z2 z3 long2 own2 own3 see2 see3 list first cells2 cells3 counts1 counts2 : List ℕ}
      → SideCleared w t.geometry l.second l.third l.own2 l.own3 l.long2 second third z2 z3 long2
      → owners own2 own3 ≡ owners_from (top_of w) t.geometry (owners z2 z3) (input_routes input) → see2 ≡ view w own2 → see3 ≡ view w own3
      → lent list first cells2 cells3 see2 see3 counts1 counts2
      ≡ laid_in t.geometry input (lent l.list l.first second third see2 see3 l.long1 long2)
      → lent list first cells2 cells3 own2 own3 counts1 counts2 ≡ side_loaded w t l input

module _ (w : Party) (t : Pair) (b : PairLent) (s : PairSound t b) (input : List ℕ) (readable : WholeRecords input)
    (roomy : length (input_routes input) ≤ room_for w b)
    (e2 : need (input_routes input) t.geometry.p1 ≤ (share_of w t).most2) (e3 : need (input_routes input) t.geometry.p2 ≤ (share_of w t).most3)
    (list first long1 : List ℕ) where
  abbrev g : Geometry
  g = t.geometry

  abbrev rs : List Route
  rs = input_routes input

  -- the side, by the box and the party's own arrays
  abbrev l : Lent
  l = lent list first b.second b.third b.own2 b.own3 long1 b.long2

  abbrev o : Owners
  o = load_owners w t (pair_owners b) input

  shift : Shift w t b rs o
  shift = load-shift w t b s rs (records-good input (length input / 8) readable.records) roomy e2 e3

  module _ (z : Sized g l) (room : room_of l ≡ room_for w b) where
    clears : ClearReady g b.second b.third b.own2 b.own3 b.long2
    clears = record {
      valid = z.valid;
      few2 = z.few2;
      few3 = z.few3;
      cells2 = z.cells2;
      cells3 = z.cells3;
      counts2 = z.counts2 ∙ z.cells2;
    }

    module _ {second third z2 z3 long2 : List ℕ}
        (c : SideCleared w g b.second b.third b.own2 b.own3 b.long2 second third z2 z3 long2) where
      is2 : z2 ≡ (owners_kept_for w g [] (pair_owners b)).own2
      is2 = c.freed2 ∙ freed-kept w (level1 g) b.own2

      is3 : z3 ≡ (owners_kept_for w g [] (pair_owners b)).own3
      is3 = c.freed3 ∙ freed-kept w (level2 g (chunks_of (view w b.own2))) b.own3

      between : Between (top_of w) g input z2 z3
      between = rw (is2, is3) (kept-between w t b s input readable.records e2 e3)

      module _ {own2 own3 see2 see3 : List ℕ} (opened : owners own2 own3 ≡ owners_from (top_of w) g (owners z2 z3) rs)
          (v2 : see2 ≡ view w own2) (v3 : see3 ≡ view w own3) where
        owned : owners own2 own3 ≡ o
        owned = opened ∙ rw (is2, is3) (opened-for w t b s input readable.records)

        seen2 : see2 ≡ view w o.own2
        seen2 = v2 ∙ ap {B = List ℕ} (λ (x : Owners). view w x.own2) owned

        seen3 : see3 ≡ view w o.own3
        seen3 = v3 ∙ ap {B = List ℕ} (λ (x : Owners). view w x.own3) owned

        -- what is lent when the routes are laid
        abbrev bare : Lent
        bare = lent list first second third (view w o.own2) (view w o.own3) long1 long2

        bare-size : SameSize l bare
        bare-size = record {
          list = refl;
          first = refl;
          second = ap length c.cells2 ∙ length-emptied (view w b.own2) (bits2 g) b.second;
          third = ap length c.cells3 ∙ length-emptied (view w b.own3) (bits3 g) b.third;
          chunks2 = length-view w o.own2 ∙ shift.len2;
          chunks3 = length-view w o.own3 ∙ shift.len3;
          counts1 = refl;
          counts2 = ap length c.counts2 ∙ length-emptied (view w b.own2) (bits2 g) b.long2;
        }

        idle : (q : ℕ) → q < length long2 → mine w o.own2 (bits2 g) q ≡ true → get_or long2 q 0 ≡ 0
        idle q h e =
            ap (λ (x : List ℕ). get_or x q 0) c.counts2
            ∙ emptied-own w b.own2 o.own2 (bits2 g) b.long2 s.uncounted shift.same2 q (omega (arith, h, bare-size.counts2)) e

        layable-bare : Layable g input bare
        layable-bare = record {
          readable = readable;
          sized = sized_same g l bare z bare-size;
          roomy = omega (arith, roomy, room, length-routes input (length input / 8));
          fits2 = shift.fits2;
          fits3 = shift.fits3;
          uncounted = idle;
        }

        layable : Layable g input (lent list first second third see2 see3 long1 long2)
        layable = rw (seen2, seen3) layable-bare

        -- what routes and owners ask, and its sizes
        abbrev asked : Lent
        asked = rendered g (room_of l) rs (view w o.own2) (view w o.own3)

        seen : Seen g o w asked
        seen = rendered-seen g o w (room_of l) rs

        more2 : length o.own2 * 2 ^ bits2 g ≡ length b.own2 * 2 ^ bits2 g
        more2 = ap (λ (n : ℕ). n * 2 ^ bits2 g) shift.len2

        more3 : length o.own3 * 2 ^ bits3 g ≡ length b.own3 * 2 ^ bits3 g
        more3 = ap (λ (n : ℕ). n * 2 ^ bits3 g) shift.len3

        laid-left : laid_in g input bare ≡ lent (side_loaded w t l input).list (side_loaded w t l input).first (side_loaded w t l input).second
            (side_loaded w t l input).third (view w o.own2) (view w o.own3) (side_loaded w t l input).long1 (side_loaded w t l input).long2
        laid-left = rw (
          c.cells2,
          c.cells3,
          c.counts2,
          emptied-mixed (view w b.own2) (bits2 g) b.second (view w o.own2) asked.second (seen.size2 ∙ more2 ∙ sym z.cells2) seen.blank2,
          emptied-mixed (view w b.own3) (bits3 g) b.third (view w o.own3) asked.third (seen.size3 ∙ more3 ∙ sym z.cells3) seen.blank3,
          emptied-mixed (view w b.own2) (bits2 g) b.long2 (view w o.own2) asked.long2
              (seen.sizes ∙ more2 ∙ sym (z.counts2 ∙ z.cells2)) seen.uncounted,
        )

        module _ {list' first' cells2 cells3 counts1 counts2 : List ℕ}
            (laid : lent list' first' cells2 cells3 see2 see3 counts1 counts2 ≡ laid_in g input (lent list first second third see2 see3 long1 long2)) where
          side-is : lent list' first' cells2 cells3 own2 own3 counts1 counts2 ≡ side_loaded w t l input
          side-is =
              let e = laid ∙ ap₂ (λ (x y : List ℕ). laid_in g input (lent list first second third x y long1 long2)) seen2 seen3 ∙ laid-left in
              λ i. record {
                list = (e i).list;
                first = (e i).first;
                second = (e i).second;
                third = (e i).third;
                own2 = (owned i).own2;
                own3 = (owned i).own3;
                long1 = (e i).long1;
                long2 = (e i).long2;
              }

    facts : WriteFacts w t input l
    facts = record {
      clear = clears;
      opens = λ c. between c;
      lays = λ c o v2 v3. layable c o v2 v3;
      ends = λ c o v2 v3 e. side-is c o v2 v3 e;
    }

side-facts : (w : Party) (t : Pair) (b : PairLent) → PairSound t b → (input : List ℕ) → WholeRecords input
    → length (input_routes input) ≤ room_for w b → need (input_routes input) t.geometry.p1 ≤ (share_of w t).most2
    → need (input_routes input) t.geometry.p2 ≤ (share_of w t).most3 → WriteFacts w t input (side w b)
side-facts one t b s input r k e2 e3 =
    facts one t b s input r k e2 e3 b.list1 b.first1 b.long11 (side-sized t.geometry one b (s.each one).sized) refl
side-facts two t b s input r k e2 e3 =
    facts two t b s input r k e2 e3 b.list2 b.first2 b.long12 (side-sized t.geometry two b (s.each two).sized) refl

pub write-facts : (w : Party) (t : Pair) (l : Lent) (input : List ℕ) → LoadReady w t l input → WriteFacts w t input l
write-facts w t l input r =
    subst (WriteFacts w t input) r.is (side-facts w t r.box r.sound input r.readable r.roomy r.enough2 r.enough3)

-- the code's number is what the party adds
pub top-between : (w : Party) (g : Geometry) (input own2 own3 : List ℕ) (top : ℕ) → top ≡ top_of w → Between (top_of w) g input own2 own3
    → Between top g input own2 own3
top-between w g input own2 own3 top e = subst (λ (x : ℕ). Between x g input own2 own3) (sym e)

pub top-opened : (w : Party) (g : Geometry) (o x : Owners) (rs : List Route) (top : ℕ) → top ≡ top_of w → x ≡ owners_from top g o rs
    → x ≡ owners_from (top_of w) g o rs
top-opened w g o x rs top e is = is ∙ ap (λ (n : ℕ). owners_from n g o rs) e
