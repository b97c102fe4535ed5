-- The test of soundness of a box tells exactly whether it is sound.
use mathlib.Core.Path.{◌≡◌, ◌∙◌}
use mathlib.Core.Logic.{◌⊎◌, inl, inr}
use mathlib.Core.Bool.{Bool, true, false, not, ◌&&◌, ◌||◌}
use mathlib.Core.List.{List}
use Prim.Native.Nat.{ℕ, ◌+◌, ◌≤◌, ◌<◌}
use lib.Dec.{eqb, leb}
use lib.ListN.{get_or, length}
use borrow.Author.Tests.{leb-true, le-leb, eqb-true, eq-eqb}
use Rattle.bits.specs.Tab.{Tells, every}
use Rattle.bits.proofs.Bools.{decided, both, and_split}
use Rattle.bits.proofs.Tabs.{every_true, true-every}
use Rattle.standing.specs.Cells.{need}
use Rattle.sail.specs.Geometry.{bits2, bits3}
use Rattle.sail.specs.Sound.{Sound}
use Rattle.sail_theory.specs.SoundTest.{sound?}
use Rattle.sail_theory.proofs.places.SoundTest.{sound-tells}
use Rattle.pair.specs.Party.{Party, one, two, seen}
use Rattle.pair.specs.PairLent.{PairLent, mine, sees}
use Rattle.pair.specs.PairSound.{share_of, table_for, standing_for, Nobodys, Spare, PairSound, nobodys?, spare?, within?, limits_fit, pair_sound?}
use Rattle.pair.specs.declared.Pair.{Pair}
use Rattle.pair.proofs.Sees.{for-both}

pub nobodys-tells : (own : List ℕ) → Tells (nobodys? own) (Nobodys own)
unfolding nobodys?
nobodys-tells own = (
  (λ e. record { zero = λ c l x y. eqb-true _ _ (simp (eq-eqb _ _ x, eq-eqb _ _ y) at (every_true test (length own) e c l)) }),
  (λ n. true-every test (length own) (λ c l. at c (n.zero c l) (decided (eqb (seen one (get_or own c 0)) 0)) (decided (eqb (seen two (get_or own c 0)) 0)))),
)
  where
    test : ℕ → Bool
    test c = not (eqb (seen one (get_or own c 0)) 0 && eqb (seen two (get_or own c 0)) 0) || eqb (get_or own c 0) 0

    at : (c : ℕ) → (seen one (get_or own c 0) ≡ 0 → seen two (get_or own c 0) ≡ 0 → get_or own c 0 ≡ 0)
        → (eqb (seen one (get_or own c 0)) 0 ≡ true) ⊎ (eqb (seen one (get_or own c 0)) 0 ≡ false)
        → (eqb (seen two (get_or own c 0)) 0 ≡ true) ⊎ (eqb (seen two (get_or own c 0)) 0 ≡ false)
        → (not (eqb (seen one (get_or own c 0)) 0 && eqb (seen two (get_or own c 0)) 0) || eqb (get_or own c 0) 0) ≡ true
    at c n (inr x) y = rw x
    at c n (inl x) (inr y) = rw (x, y)
    at c n (inl x) (inl y) = rw (x, y) (eq-eqb _ _ (n (eqb-true _ _ x) (eqb-true _ _ y)))

pub spare-tells : (own : List ℕ) (d : ℕ) (xs : List ℕ) → Tells (spare? own d xs) (Spare own d xs)
unfolding spare?
spare-tells own d xs = (
  (λ e. record { blank = λ q l x y. eqb-true _ _ (simp (x, y) at (every_true test (length xs) e q l)) }),
  (λ s. true-every test (length xs) (λ q l. at q (s.blank q l) (decided (mine one own d q)) (decided (mine two own d q)))),
)
  where
    test : ℕ → Bool
    test q = (mine one own d q || mine two own d q) || eqb (get_or xs q 0) 0

    at : (q : ℕ) → (mine one own d q ≡ false → mine two own d q ≡ false → get_or xs q 0 ≡ 0)
        → (mine one own d q ≡ true) ⊎ (mine one own d q ≡ false) → (mine two own d q ≡ true) ⊎ (mine two own d q ≡ false)
        → ((mine one own d q || mine two own d q) || eqb (get_or xs q 0) 0) ≡ true
    at q s (inl x) y = rw x
    at q s (inr x) (inl y) = rw (x, y)
    at q s (inr x) (inr y) = rw (x, y) (eq-eqb _ _ (s x y))

module _ (t : Pair) (b : PairLent) where
  pub limits-tells : Tells (limits_fit t b)
      ((t.one.most2 + t.two.most2 ≤ length b.own2) × (t.one.most3 + t.two.most3 ≤ length b.own3))
  unfolding limits_fit
  limits-tells = (
    (λ e. let a = and_split (leb (t.one.most2 + t.two.most2) (length b.own2)) _ e in (leb-true _ _ a.0, leb-true _ _ a.1)),
    (λ f. both (le-leb _ _ f.0) (le-leb _ _ f.1)),
  )

  within-tells : (w : Party) → Tells (within? w t b)
      ((need (standing_for w t b) t.geometry.p1 ≤ (share_of w t).most2) × (need (standing_for w t b) t.geometry.p2 ≤ (share_of w t).most3))
  unfolding within?
  within-tells w = (
    (λ e. let a = and_split (leb (need (standing_for w t b) t.geometry.p1) (share_of w t).most2) _ e in (leb-true _ _ a.0, leb-true _ _ a.1)),
    (λ f. both (le-leb _ _ f.0) (le-leb _ _ f.1)),
  )

  pub pair-sound-tells : Tells (pair_sound? t b) (PairSound t b)
  unfolding pair_sound?
  pair-sound-tells = (
    (λ e.
        let a = and_split (sound? (table_for one t) (sees t.geometry one b)) _ e in
        let c = and_split (sound? (table_for two t) (sees t.geometry two b)) _ a.1 in
        let d = and_split (nobodys? b.own2) _ c.1 in
        let f = and_split (nobodys? b.own3) _ d.1 in
        let h = and_split (spare? b.own2 (bits2 t.geometry) b.second) _ f.1 in
        let i = and_split (spare? b.own3 (bits3 t.geometry) b.third) _ h.1 in
        let j = and_split (spare? b.own2 (bits2 t.geometry) b.long2) _ i.1 in
        let k = and_split (within? one t b) _ j.1 in
        let m = and_split (within? two t b) _ k.1 in
        record {
          each = for-both (λ w. Sound (table_for w t) (sees t.geometry w b)) one ((sound-tells _ _).0 a.0) ((sound-tells _ _).0 c.0);
          nobodys2 = (nobodys-tells b.own2).0 d.0;
          nobodys3 = (nobodys-tells b.own3).0 f.0;
          spare2 = (spare-tells _ _ b.second).0 h.0;
          spare3 = (spare-tells _ _ b.third).0 i.0;
          uncounted = (spare-tells _ _ b.long2).0 j.0;
          within2 = for-both (λ w. need (standing_for w t b) t.geometry.p1 ≤ (share_of w t).most2) one
              ((within-tells one).0 k.0).0 ((within-tells two).0 m.0).0;
          within3 = for-both (λ w. need (standing_for w t b) t.geometry.p2 ≤ (share_of w t).most3) one
              ((within-tells one).0 k.0).1 ((within-tells two).0 m.0).1;
          fit2 = (limits-tells.0 m.1).0;
          fit3 = (limits-tells.0 m.1).1;
        }),
    (λ s.
        both ((sound-tells _ _).1 (s.each one))
        (both ((sound-tells _ _).1 (s.each two))
        (both ((nobodys-tells b.own2).1 s.nobodys2)
        (both ((nobodys-tells b.own3).1 s.nobodys3)
        (both ((spare-tells _ _ b.second).1 s.spare2)
        (both ((spare-tells _ _ b.third).1 s.spare3)
        (both ((spare-tells _ _ b.long2).1 s.uncounted)
        (both ((within-tells one).1 (s.within2 one, s.within3 one))
        (both ((within-tells two).1 (s.within2 two, s.within3 two)) (limits-tells.1 (s.fit2, s.fit3))))))))))),
  )
