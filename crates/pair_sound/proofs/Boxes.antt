-- What the test of a box goes through is its soundness: each party's own, the pools of both, and the limits.
use mathlib.Core.Path.{◌≡◌, refl, sym, ◌∙◌, ap, subst}
use mathlib.Core.Logic.{◌⊎◌, inl, inr}
use mathlib.Core.Bool.{true, false, true≢false}
use mathlib.Core.List.{List}
use Prim.Native.Nat.{ℕ, ◌+◌, ◌-◌, ◌*◌, ◌/◌, ◌%◌, ◌^◌, ◌≤◌, ◌<◌}
use native.Mathlib.Nat.{mod-lt, div-add-mod', div-lt_iff_lt-mul}
use native.Mathlib.Omega.{arith}
use lib.Arith.{digits_div}
use lib.Dec.{ltb}
use lib.ListN.{length, get_or}
use lib.Pow.{pow_pos}
use borrow.Author.Tests.{ltb-false, le-ltb}
use Rattle.bits.proofs.Bools.{decided}
use Rattle.routes.specs.declared.Route.{Route}
use Rattle.standing.specs.Cells.{need}
use Rattle.counts.specs.Counts.{how_many}
use Rattle.counts.proofs.Many.{many-none}
use Rattle.sail.specs.Geometry.{bits2, bits3}
use Rattle.sail.specs.Lent.{Lent, lent}
use Rattle.sail.specs.Level.{Level, Chunks, deep, entry, chunks_of, level2, level3}
use Rattle.sail.specs.Sizes.{Sized}
use Rattle.sail.specs.Sound.{Shows, Sound, standing}
use Rattle.sail.specs.declared.geometry.Geometry.{Geometry}
use Rattle.sail.proofs.Sounds.{chunks-need}
use Rattle.sail_theory.proofs.calls.SameSizes.{size-sym, sized_same}
use Rattle.sail_cells_test.specs.Pool.{FreeAll}
use Rattle.sail_counts_test.specs.CountsTest.{idle, Idle}
use Rattle.sail_counts_test.proofs.Exact.{busy, idle-free, idle-leaf}
use Rattle.pair.specs.Party.{Party, one, two, seen, view}
use Rattle.pair.specs.PairLent.{PairLent, side, mine, part, sees}
use Rattle.pair.specs.PairSound.{share_of, table_for, standing_for, Nobodys, Spare, PairSound}
use Rattle.pair.specs.declared.Pair.{Pair}
use Rattle.pair.proofs.Views.{get_d-view, length-view, length_part, part-mine, part-blank}
use Rattle.pair.proofs.Sees.{for-both, seen_size}
use Rattle.pair.proofs.Finds.{shows-live, party-serves}
use Rattle.pair_sound.specs.BoxTest.{PartyRight, PoolsRight}

-- a live second cell: its count is true exactly where it is true if a chunk hangs from it, and 0 if it names none
module _ (rs : List Route) (v : Level) (k : Chunks) (few : k.many < 32768) (cells counts : ℕ → ℕ) (s : Shows rs v k cells) (q : ℕ) (l : q < v.places)
    (e : v.live q ≡ true) where
  true_of : (deep rs v q ≡ true → counts q ≡ how_many rs v.bits (v.at q)) → (idle (cells q) ≡ true → counts q ≡ 0)
      → counts q ≡ how_many rs v.bits (v.at q)
  true_of t i = go (decided (deep rs v q))
    where
      go : (deep rs v q ≡ true) ⊎ (deep rs v q ≡ false) → counts q ≡ how_many rs v.bits (v.at q)
      go (inl y) = t y
      go (inr n) = let x = s.leaf q l e n in i (idle-leaf (cells q) (omega arith)) ∙ sym (many-none rs v.bits (v.at q) n)

  idle-of : counts q ≡ how_many rs v.bits (v.at q) → idle (cells q) ≡ true → counts q ≡ 0
  idle-of t i = go (decided (deep rs v q))
    where
      go : (deep rs v q ≡ true) ⊎ (deep rs v q ≡ false) → counts q ≡ 0
      go (inr n) = t ∙ many-none rs v.bits (v.at q) n
      go (inl y) = let n = s.node q l e y in absurd (true≢false (sym i ∙ busy (cells q) k.many n.one n.last few))

-- what is neither's: chunks with owner 0
module _ (own : List ℕ) (n : Nobodys own) (d : ℕ) (xs : List ℕ) (size : length xs ≡ length own * 2 ^ d) where
  free-spare : FreeAll d own xs → Spare own d xs
  free-spare f = record {
    blank = λ q l x y.
        let c : q / 2 ^ d < length own = (div-lt_iff_lt-mul (pow_pos d)).1 (rw size at l) in
        let none : (w : Party) → ltb 0 (get_or (view w own) (q / 2 ^ d) 0) ≡ false → seen w (get_or own (q / 2 ^ d) 0) ≡ 0
        = λ w e. omega (arith, ltb-false 0 (get_or (view w own) (q / 2 ^ d) 0) e, get_d-view w own (q / 2 ^ d)) in
        let g : q / 2 ^ d * 2 ^ d + q % 2 ^ d ≡ q = div-add-mod' q (2 ^ d) in
        let m = mod-lt q (pow_pos d) in
        ((f.each (q / 2 ^ d) c).zero (n.zero (q / 2 ^ d) c (none one x) (none two y))).each q (omega arith) (omega arith);
  }

  spare-free : Spare own d xs → FreeAll d own xs
  spare-free s = record {
    each = λ c l. record {
      zero = λ e. record {
        each = λ q a h.
            let j = q - c * 2 ^ d in
            let m : j < 2 ^ d = omega arith in
            let g : q ≡ c * 2 ^ d + j = omega arith in
            let at : q / 2 ^ d ≡ c = ap (λ (x : ℕ). x / 2 ^ d) g ∙ digits_div c m in
            let free : (w : Party) → ltb 0 (get_or (view w own) (q / 2 ^ d) 0) ≡ false
            = λ w. le-ltb 0 (get_or (view w own) (q / 2 ^ d) 0)
            (omega (arith, get_d-view w own (q / 2 ^ d), ap (λ (x : ℕ). seen w (get_or own x 0)) at, ap (seen w) e, Rattle.pair.proofs.Views.seen_none w)) in
            let inside : q < length xs = rw size (rw g (lib.Arith.digits_lt l m)) in
            s.blank q inside (free one) (free two);
      };
    };
  }

-- what is lent to a party, by its parts
side-is : (w : Party) (b : PairLent)
    → side w b ≡ lent (side w b).list (side w b).first b.second b.third b.own2 b.own3 (side w b).long1 b.long2
side-is one b = refl
side-is two b = refl

module _ (t : Pair) (b : PairLent) (z : (w : Party) → Sized t.geometry (side w b)) where
  abbrev g : Geometry
  g = t.geometry

  abbrev Own : Party → Type 0
  Own w = PartyRight w (table_for w t) (share_of w t).most2 (share_of w t).most3 (side w b)

  abbrev Pools : Type 0
  Pools = PoolsRight g b.second b.third b.own2 b.own3 b.long2

  module _ (w : Party) where
    abbrev rs : List Route
    rs = standing_for w t b

    abbrev bare : Lent
    bare = lent (side w b).list (side w b).first b.second b.third b.own2 b.own3 (side w b).long1 b.long2

    abbrev v2 : Level
    v2 = level2 g (chunks_of (view w b.own2))

    abbrev v3 : Level
    v3 = level3 g (chunks_of (view w b.own2)) (chunks_of (view w b.own3))

    sized : Sized g bare
    sized = subst (λ (l : Lent). Sized g l) (side-is w b) (z w)

    seen-sized : Sized g (sees g w b)
    seen-sized = sized_same g (side w b) (sees g w b) (z w) (size-sym (sees g w b) (side w b) (seen_size g w b))

    places2 : length b.second ≡ v2.places
    places2 = sized.cells2 ∙ ap (λ (n : ℕ). n * 2 ^ bits2 g) (sym (length-view w b.own2))

    places3 : length b.third ≡ v3.places
    places3 = sized.cells3 ∙ ap (λ (n : ℕ). n * 2 ^ bits3 g) (sym (length-view w b.own3))

    few3 : length (view w b.own3) < 32768
    few3 = omega (arith, seen-sized.few3)

    at2 : (q : ℕ) → q < v2.places → v2.live q ≡ true → get_or (part w b.own2 (bits2 g) b.second) q 0 ≡ get_or b.second q 0
    at2 q l e = part-mine w b.own2 (bits2 g) b.second q (rw places2 l) e

    atc : (q : ℕ) → q < v2.places → v2.live q ≡ true → get_or (part w b.own2 (bits2 g) b.long2) q 0 ≡ get_or b.long2 q 0
    atc q l e = part-mine w b.own2 (bits2 g) b.long2 q (rw (sized.counts2, places2) l) e

    at3 : (q : ℕ) → q < v3.places → v3.live q ≡ true → get_or (part w b.own3 (bits3 g) b.third) q 0 ≡ get_or b.third q 0
    at3 q l e = part-mine w b.own3 (bits3 g) b.third q (rw places3 l) e

    -- from the test: the table that the party sees is sound
    party-sound : PartyRight w (table_for w t) (share_of w t).most2 (share_of w t).most3 bare → Idle b.second b.long2 → Sound (table_for w t) (sees g w b)
    party-sound p i =
        let r = p.right in
        record {
          sized = seen-sized;
          listed = r.listed;
          serves = record {
            first = r.serves.first;
            second = shows-live rs v2 (chunks_of (view w b.own3)) (entry b.second) _ at2 r.serves.second;
            third = record { leaf = λ q l e. at3 q l e ∙ r.serves.third.leaf q l e };
          };
          clear2 = record {
            blank = λ q l e.
                (part-blank w b.own2 (bits2 g) b.second).zero q (rw (length_part w b.own2 (bits2 g) b.second, places2) l) e;
          };
          clear3 = record {
            blank = λ q l e.
                (part-blank w b.own3 (bits3 g) b.third).zero q (rw (length_part w b.own3 (bits3 g) b.third, places3) l) e;
          };
          counted1 = r.counts.first;
          counted2 = record {
            true_there = λ q l e.
                atc q l e ∙ true_of rs v2 (chunks_of (view w b.own3)) few3 (entry b.second) (entry b.long2) r.serves.second q l e
                (r.counts.deep2 q l e) (i.each q (rw places2 l));
            blank = λ q l e.
                (part-blank w b.own2 (bits2 g) b.long2).zero q (rw (length_part w b.own2 (bits2 g) b.long2, sized.counts2, places2) l) e;
          };
        }

    -- and back
    sound-party : PairSound t b → PartyRight w (table_for w t) (share_of w t).most2 (share_of w t).most3 bare
    sound-party s =
        let n = chunks-need (table_for w t) (sees g w b) (s.each w) in
        record {
          right = record {
            listed = (s.each w).listed;
            serves = party-serves t b s w;
            counts = record {
              first = (s.each w).counted1;
              deep2 = λ q l e _. sym (atc q l e) ∙ (s.each w).counted2.true_there q l e;
            };
          };
          within2 = omega (arith, n.0, s.within2 w);
          within3 = omega (arith, n.1, s.within3 w);
        }

    -- a place of the party's that names no chunk counts 0
    party-idle : PairSound t b → (q : ℕ) → q < length b.second → mine w b.own2 (bits2 g) q ≡ true → idle (get_or b.second q 0) ≡ true
        → get_or b.long2 q 0 ≡ 0
    party-idle s q l e =
        let k : q < v2.places = rw places2 at l in
        idle-of rs v2 (chunks_of (view w b.own3)) few3 (entry b.second) (entry b.long2) (party-serves t b s w).second q k e
        (sym (atc q k e) ∙ (s.each w).counted2.true_there q k e)

  pub own_is : (w : Party) → PartyRight w (table_for w t) (share_of w t).most2 (share_of w t).most3 (bare w) → Own w
  own_is w = subst (λ (l : Lent). PartyRight w (table_for w t) (share_of w t).most2 (share_of w t).most3 l) (sym (side-is w b))

  is-own : (w : Party) → Own w → PartyRight w (table_for w t) (share_of w t).most2 (share_of w t).most3 (bare w)
  is-own w = subst (λ (l : Lent). PartyRight w (table_for w t) (share_of w t).most2 (share_of w t).most3 l) (side-is w b)

  -- The box is sound exactly where each party's own, the pools and the limits are right.
  pub box-sound : Own one → Own two → Pools → t.one.most2 + t.two.most2 ≤ length b.own2 → t.one.most3 + t.two.most3 ≤ length b.own3
      → PairSound t b
  box-sound p1 p2 k f2 f3 =
      let p : (w : Party) → PartyRight w (table_for w t) (share_of w t).most2 (share_of w t).most3 (bare w)
      = for-both (λ w. PartyRight w (table_for w t) (share_of w t).most2 (share_of w t).most3 (bare w)) one (is-own one p1) (is-own two p2) in
      let each : (w : Party) → Sound (table_for w t) (sees g w b) = λ w. party-sound w (p w) k.idle in
      let spare2 = free-spare b.own2 k.nobodys2 (bits2 g) b.second (sized one).cells2 k.free2 in
      record {
        each = each;
        nobodys2 = k.nobodys2;
        nobodys3 = k.nobodys3;
        spare2 = spare2;
        spare3 = free-spare b.own3 k.nobodys3 (bits3 g) b.third (sized one).cells3 k.free3;
        uncounted = record {
          blank = λ q l x y.
              let m : q < length b.second = rw (sized one).counts2 at l in
              k.idle.each q m (idle-free (get_or b.second q 0) (spare2.blank q m x y));
        };
        within2 = λ w. omega (arith, (p w).within2, (chunks-need (table_for w t) (sees g w b) (each w)).0);
        within3 = λ w. omega (arith, (p w).within3, (chunks-need (table_for w t) (sees g w b) (each w)).1);
        fit2 = f2;
        fit3 = f3;
      }

  pub sound-own : PairSound t b → (w : Party) → Own w
  sound-own s w = own_is w (sound-party w s)

  pub sound-pools : PairSound t b → Pools
  sound-pools s = record {
    nobodys2 = s.nobodys2;
    nobodys3 = s.nobodys3;
    free2 = spare-free b.own2 s.nobodys2 (bits2 g) b.second (sized one).cells2 s.spare2;
    free3 = spare-free b.own3 s.nobodys3 (bits3 g) b.third (sized one).cells3 s.spare3;
    idle = record { each = λ q l e. at q l e (decided (mine one b.own2 (bits2 g) q)) (decided (mine two b.own2 (bits2 g) q)) };
  }
    where
      at : (q : ℕ) → q < length b.second → idle (get_or b.second q 0) ≡ true
          → (mine one b.own2 (bits2 g) q ≡ true) ⊎ (mine one b.own2 (bits2 g) q ≡ false)
          → (mine two b.own2 (bits2 g) q ≡ true) ⊎ (mine two b.own2 (bits2 g) q ≡ false) → get_or b.long2 q 0 ≡ 0
      at q l e (inl x) y = party-idle one s q l x e
      at q l e (inr x) (inl y) = party-idle two s q l y e
      at q l e (inr x) (inr y) = s.uncounted.blank q (rw (sized one).counts2 l) x y
