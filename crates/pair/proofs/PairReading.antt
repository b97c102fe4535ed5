-- A box is sound exactly if `BoxReads` says so of its cells, owners and counts as they are: at the places of a party's own chunks it sees them as they are,
-- and at every other place the pools' arrays are 0 for it.
use mathlib.Core.Path.{◌≡◌, sym, ◌∙◌, ap}
use mathlib.Core.Logic.{◌⊎◌, inl, inr, ◌≢◌}
use mathlib.Core.Bool.{true, false}
use mathlib.Core.List.{List}
use Prim.Native.Nat.{ℕ, suc, ◌-◌, ◌*◌, ◌/◌, ◌^◌, ◌≤◌, ◌<◌}
use native.Mathlib.Nat.{div-lt_iff_lt-mul, mul-le-mul}
use native.Mathlib.Omega.{arith}
use lib.Dec.{ltb}
use lib.ListN.{get_or, length}
use lib.Pow.{pow_pos, pow_mono}
use borrow.Author.Tests.{ltb-false, le-ltb}
use Rattle.bits.proofs.Bools.{equal?}
use Rattle.sail.specs.Geometry.{bits2, bits3}
use Rattle.sail.specs.Level.{Level, entry, chunks_of, level2, level3}
use Rattle.sail.specs.Sizes.{Sized}
use Rattle.sail.specs.Sound.{Sound}
use Rattle.sail.specs.declared.geometry.Geometry.{Geometry}
use Rattle.sail_theory.proofs.calls.SameSizes.{size-sym, sized_same}
use Rattle.pair.specs.Party.{Party, one, two, owner_of, seen, view}
use Rattle.pair.specs.PairLent.{PairLent, side, mine, part, sees}
use Rattle.pair.specs.PairSound.{table_for, standing_for, Nobodys, Spare, PairSound}
use Rattle.pair.specs.PairReading.{Whose, FreeBlank, PartyReads, BoxReads}
use Rattle.pair.specs.declared.Pair.{Pair}
use Rattle.pair.proofs.Views.{seen_none, seen-own, seen_back, length-view, get_d-view, length_part, part-mine, part-blank}
use Rattle.pair.proofs.Sees.{seen_size, side-sized}
use Rattle.pair.proofs.Finds.{shows-live, party-serves}

-- whose a chunk is, by what either party sees in its owner
whose : (o : ℕ) → ((w : Party) (q : ℕ) → seen w o ≡ suc q → suc q < 2147483648) → (seen one o ≡ 0 → seen two o ≡ 0 → o ≡ 0) → Whose o
whose o small n = go (equal? (seen one o) 0) (equal? (seen two o) 0)
  where
    is : (w : Party) → seen w o ≢ 0 → Whose o
    is w x = Whose.hangs w (seen w o - 1) (small w (seen w o - 1) (omega (arith, x))) (seen_back w o x)

    go : (seen one o ≡ 0) ⊎ (seen one o ≢ 0) → (seen two o ≡ 0) ⊎ (seen two o ≢ 0) → Whose o
    go (inl x) (inl y) = Whose.nobodys (n x y)
    go (inr x) y = is one x
    go (inl x) (inr y) = is two y

-- a chunk that hangs from a party's place is not nobody's
whose-none : (o : ℕ) → Whose o → seen one o ≡ 0 → seen two o ≡ 0 → o ≡ 0
whose-none o (Whose.nobodys e) x y = e
whose-none o (Whose.hangs one q h e) x y = absurd (omega (arith, seen-own one q h, ap (seen one) e, x))
whose-none o (Whose.hangs two q h e) x y = absurd (omega (arith, seen-own two q h, ap (seen two) e, y))

-- what is neither's is what has owner 0
module _ (own : List ℕ) (d : ℕ) (xs : List ℕ) where
  not-mine : (w : Party) (q : ℕ) → get_or own (q / 2 ^ d) 0 ≡ 0 → mine w own d q ≡ false
  not-mine w q e = le-ltb 0 (get_or (view w own) (q / 2 ^ d) 0) (omega (arith, get_d-view w own (q / 2 ^ d), ap (seen w) e, seen_none w))

  spare-blank : Spare own d xs → FreeBlank own d xs
  spare-blank s = record { blank = λ q l e. s.blank q l (not-mine one q e) (not-mine two q e) }

  blank-spare : Nobodys own → length xs ≡ length own * 2 ^ d → FreeBlank own d xs → Spare own d xs
  blank-spare n size f = record {
    blank = λ q l x y.
        let c : q / 2 ^ d < length own = (div-lt_iff_lt-mul (pow_pos d)).1 (rw size at l) in
        let none : (w : Party) → ltb 0 (get_or (view w own) (q / 2 ^ d) 0) ≡ false → seen w (get_or own (q / 2 ^ d) 0) ≡ 0
        = λ w e. omega (arith, ltb-false 0 (get_or (view w own) (q / 2 ^ d) 0) e, get_d-view w own (q / 2 ^ d)) in
        f.blank q l (n.zero (q / 2 ^ d) c (none one x) (none two y));
  }

module _ (t : Pair) (b : PairLent) where
  abbrev g : Geometry
  g = t.geometry

  -- what a party sees at its own places
  module _ (w : Party) (z : Sized t.geometry (sees t.geometry w b)) where
    abbrev v2 : Level
    v2 = level2 g (chunks_of (view w b.own2))

    abbrev v3 : Level
    v3 = level3 g (chunks_of (view w b.own2)) (chunks_of (view w b.own3))

    places2 : length b.second ≡ v2.places
    places2 = sym (length_part w b.own2 (bits2 g) b.second) ∙ z.cells2

    places3 : length b.third ≡ v3.places
    places3 = sym (length_part w b.own3 (bits3 g) b.third) ∙ z.cells3

    places : length b.long2 ≡ v2.places
    places = sym (length_part w b.own2 (bits2 g) b.long2) ∙ z.counts2 ∙ z.cells2

    at2 : (q : ℕ) → q < v2.places → v2.live q ≡ true → get_or (part w b.own2 (bits2 g) b.second) q 0 ≡ get_or b.second q 0
    at2 q l e = part-mine w b.own2 (bits2 g) b.second q (rw places2 l) e

    at3 : (q : ℕ) → q < v3.places → v3.live q ≡ true → get_or (part w b.own3 (bits3 g) b.third) q 0 ≡ get_or b.third q 0
    at3 q l e = part-mine w b.own3 (bits3 g) b.third q (rw places3 l) e

    atc : (q : ℕ) → q < v2.places → v2.live q ≡ true → get_or (part w b.own2 (bits2 g) b.long2) q 0 ≡ get_or b.long2 q 0
    atc q l e = part-mine w b.own2 (bits2 g) b.long2 q (rw places l) e

    -- there is no place so far on that its owner has the top bit
    small2 : v2.places < 2147483647
    small2 =
        let v = z.valid in
        let m : length (view w b.own2) * 2 ^ bits2 g ≤ 4096 * 2 ^ 10 = mul-le-mul z.few2 (pow_mono v.near) in
        omega (arith, m)

    small1 : 2 ^ g.p1 < 2147483647
    small1 =
        let v = z.valid in
        let m : 2 ^ g.p1 ≤ 2 ^ 16 = pow_mono v.p1_high in
        omega (arith, m)

  -- From `PairSound`.
  module _ (s : PairSound t b) where
    owners2 : (w : Party) (c q : ℕ) → c < length b.own2 → seen w (get_or b.own2 c 0) ≡ suc q → suc q < 2147483648
    owners2 w c q l e =
        let h = (s.each w).serves.first.owned c q (rw length-view l) (get_d-view w b.own2 c ∙ e) in
        omega (arith, h.0, small1 w (s.each w).sized)

    owners3 : (w : Party) (c q : ℕ) → c < length b.own3 → seen w (get_or b.own3 c 0) ≡ suc q → suc q < 2147483648
    owners3 w c q l e =
        let h = (s.each w).serves.second.owned c q (rw length-view l) (get_d-view w b.own3 c ∙ e) in
        omega (arith, h.0, small2 w (s.each w).sized)

    reads : (w : Party) → PartyReads w t b
    reads w =
        let z = (s.each w).sized in
        record {
          listed = (s.each w).listed;
          serves = party-serves t b s w;
          counted1 = (s.each w).counted1;
          counted2 = λ q l e.
              let k : q < (v2 w z).places = rw (places w z) at l in
              sym (atc w z q k e) ∙ (s.each w).counted2.true_there q k e;
        }

    pub sound-reads : BoxReads t b
    sound-reads = record {
      sized = λ w. side-sized g w b (s.each w).sized;
      each = reads;
      whose2 = λ c l. whose (get_or b.own2 c 0) (λ w q e. owners2 w c q l e) (s.nobodys2.zero c l);
      whose3 = λ c l. whose (get_or b.own3 c 0) (λ w q e. owners3 w c q l e) (s.nobodys3.zero c l);
      blank2 = spare-blank b.own2 (bits2 g) b.second s.spare2;
      blank3 = spare-blank b.own3 (bits3 g) b.third s.spare3;
      uncounted = spare-blank b.own2 (bits2 g) b.long2 s.uncounted;
      within2 = s.within2;
      within3 = s.within3;
      fit2 = s.fit2;
      fit3 = s.fit3;
    }

  -- And back.
  module _ (r : BoxReads t b) where
    nobodys2 : Nobodys b.own2
    nobodys2 = record { zero = λ c l. whose-none (get_or b.own2 c 0) (r.whose2 c l) }

    nobodys3 : Nobodys b.own3
    nobodys3 = record { zero = λ c l. whose-none (get_or b.own3 c 0) (r.whose3 c l) }

    seen-sized : (w : Party) → Sized g (sees g w b)
    seen-sized w = sized_same g (side w b) (sees g w b) (r.sized w) (size-sym (sees g w b) (side w b) (seen_size g w b))

    own-sound : (w : Party) → Sound (table_for w t) (sees g w b)
    own-sound w =
        let z = seen-sized w in
        let p = r.each w in
        record {
          sized = z;
          listed = p.listed;
          serves = record {
            first = p.serves.first;
            second = shows-live (standing_for w t b) (v2 w z) (chunks_of (view w b.own3)) (entry b.second) _ (at2 w z) p.serves.second;
            third = record { leaf = λ q l e. at3 w z q l e ∙ p.serves.third.leaf q l e };
          };
          clear2 = record {
            blank = λ q l e.
                (part-blank w b.own2 (bits2 g) b.second).zero q (rw (length_part w b.own2 (bits2 g) b.second, places2 w z) l) e;
          };
          clear3 = record {
            blank = λ q l e.
                (part-blank w b.own3 (bits3 g) b.third).zero q (rw (length_part w b.own3 (bits3 g) b.third, places3 w z) l) e;
          };
          counted1 = p.counted1;
          counted2 = record {
            true_there = λ q l e. atc w z q l e ∙ p.counted2 q (rw (places w z) l) e;
            blank = λ q l e. (part-blank w b.own2 (bits2 g) b.long2).zero q (rw (length_part w b.own2 (bits2 g) b.long2, places w z) l) e;
          };
        }

    pub reads-sound : PairSound t b
    reads-sound =
        let z = r.sized one in
        record {
          each = own-sound;
          nobodys2 = nobodys2;
          nobodys3 = nobodys3;
          spare2 = blank-spare b.own2 (bits2 g) b.second nobodys2 z.cells2 r.blank2;
          spare3 = blank-spare b.own3 (bits3 g) b.third nobodys3 z.cells3 r.blank3;
          uncounted = blank-spare b.own2 (bits2 g) b.long2 nobodys2 (z.counts2 ∙ z.cells2) r.uncounted;
          within2 = r.within2;
          within3 = r.within3;
          fit2 = r.fit2;
          fit3 = r.fit3;
        }

-- In a sound box a chunk whose owner is a party's hangs from the cell of that party which names it: a first cell of its own, or a second cell in a chunk
-- of its own.
module _ (t : Pair) (b : PairLent) (s : PairSound t b) (w : Party) (c q : ℕ) (small : suc q < 2147483648) where
  seen-there : (own : List ℕ) → get_or own c 0 ≡ owner_of w q → get_or (view w own) c 0 ≡ suc q
  seen-there own e = get_d-view w own c ∙ ap (seen w) e ∙ seen-own w q small

  pub named-first : c < length b.own2 → get_or b.own2 c 0 ≡ owner_of w q → get_or (side w b).first q 0 ≡ suc c
  named-first l e = ((party-serves t b s w).first.owned c q (rw length-view l) (seen-there b.own2 e)).3

  pub named-second : c < length b.own3 → get_or b.own3 c 0 ≡ owner_of w q
      → (mine w b.own2 (bits2 t.geometry) q ≡ true) × (get_or b.second q 0 ≡ suc c)
  named-second l e =
      let h = (party-serves t b s w).second.owned c q (rw length-view l) (seen-there b.own3 e) in
      (h.1, h.3)
