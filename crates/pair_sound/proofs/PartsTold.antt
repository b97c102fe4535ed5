-- The answers of the parts.
use mathlib.Core.Path.{◌≡◌, refl, ◌∙◌, ap}
use mathlib.Core.Bool.{Bool, true, false, not, false≢true}
use mathlib.Core.List.{List}
use Prim.Native.Nat.{ℕ, ◌≤◌, ◌<◌}
use native.Mathlib.Omega.{arith}
use lib.ListN.{length}
use Rattle.bits.specs.Tab.{Tells}
use Rattle.bits.proofs.Tells.{tells-same, refuted, passed}
use Rattle.sail.specs.Geometry.{bits2, bits3}
use Rattle.sail.specs.Lent.{Lent}
use Rattle.sail.specs.Sizes.{Sized}
use Rattle.sail.specs.Sound.{used}
use Rattle.sail.specs.declared.geometry.Geometry.{Geometry}
use Rattle.sail.specs.declared.table.Table.{Table}
use Rattle.sail_theory.proofs.calls.SameSizes.{sized_same}
use Rattle.sail_cells_test.specs.Pool.{FreeAll}
use Rattle.sail_counts_test.specs.CountsTest.{Idle}
use Rattle.sail_sound.specs.Seen.{SeenWith}
use Rattle.pair.specs.Party.{Party, view}
use Rattle.pair.specs.PairSound.{Nobodys}
use Rattle.pair.proofs.Views.{length-view}
use Rattle.pair_sound.specs.BoxTest.{among, PartyTold, PoolsRight}

-- a party's own
module _ (g : Geometry) (w : Party) (l : Lent) (z : Sized g l) where
  pub among-sized : Sized g (among w l)
  among-sized = sized_same g l (among w l) z (record {
    list = refl;
    first = refl;
    second = refl;
    third = refl;
    chunks2 = length-view w l.own2;
    chunks3 = length-view w l.own3;
    counts1 = refl;
    counts2 = refl;
  })

  pub seen-sized : (see2 see3 : List ℕ) → see2 ≡ view w l.own2 → see3 ≡ view w l.own3
      → Sized g (record {
        list = l.list;
        first = l.first;
        second = l.second;
        third = l.third;
        own2 = see2;
        own3 = see3;
        long1 = l.long1;
        long2 = l.long2;
      })
  seen-sized see2 see3 e2 e3 = rw (e2, e3) among-sized

module _ (w : Party) (t : Table) (most2 most3 : ℕ) (l : Lent) where
  module _ (see2 see3 : List ℕ) (e2 : see2 ≡ view w l.own2) (e3 : see3 ≡ view w l.own3) where
    pub over2 : (n : ℕ) → n ≡ used see2 → most2 < n → (ws par : List ℕ) → PartyTold false w t most2 most3 l see2 see3 ws par
    over2 n is h ws par = record {
      tells = ((λ f. absurd (false≢true f)), (λ p. absurd (omega (arith, h, is, p.within2, ap used e2))));
      seen2 = e2;
      seen3 = e3;
      chained = λ f. absurd (false≢true f);
    }

    pub over3 : (n : ℕ) → n ≡ used see3 → most3 < n → (ws par : List ℕ) → PartyTold false w t most2 most3 l see2 see3 ws par
    over3 n is h ws par = record {
      tells = ((λ f. absurd (false≢true f)), (λ p. absurd (omega (arith, h, is, p.within3, ap used e3))));
      seen2 = e2;
      seen3 = e3;
      chained = λ f. absurd (false≢true f);
    }

    pub within : (n : ℕ) → n ≡ used see2 → n ≤ most2 → (m : ℕ) → m ≡ used see3 → m ≤ most3 → (r : Bool) (ws par : List ℕ)
        → SeenWith r t (record {
          list = l.list;
          first = l.first;
          second = l.second;
          third = l.third;
          own2 = see2;
          own3 = see3;
          long1 = l.long1;
          long2 = l.long2;
        }) ws par
        → PartyTold r w t most2 most3 l see2 see3 ws par
    within n i2 h2 m i3 h3 r ws par s =
        let s' : SeenWith r t (among w l) ws par = rw (e2, e3) at s in
        record {
          tells = tells-same
              (λ k. record { right = k; within2 = omega (arith, h2, i2, ap used e2); within3 = omega (arith, h3, i3, ap used e3) })
              (λ p. p.right) s'.tells;
          seen2 = e2;
          seen3 = e3;
          chained = s'.chained;
        }

-- the pools
module _ (g : Geometry) (second third own2 own3 long2 : List ℕ) where
  abbrev Pools : Type 0
  Pools = PoolsRight g second third own2 own3 long2

  module _ (a : Bool) (n2 : Tells a (Nobodys own2)) where
    pub stray2 : not a ≡ true → Tells false Pools
    stray2 e = refuted n2 e (λ p. p.nobodys2)

    module _ (b : Bool) (n3 : Tells b (Nobodys own3)) where
      pub stray3 : not b ≡ true → Tells false Pools
      stray3 e = refuted n3 e (λ p. p.nobodys3)

      module _ (c : Bool) (f2 : Tells c (FreeAll (bits2 g) own2 second)) where
        pub dirty2 : not c ≡ true → Tells false Pools
        dirty2 e = refuted f2 e (λ p. p.free2)

        module _ (d : Bool) (f3 : Tells d (FreeAll (bits3 g) own3 third)) where
          pub dirty3 : not d ≡ true → Tells false Pools
          dirty3 e = refuted f3 e (λ p. p.free3)

          pub pools-told : not a ≡ false → not b ≡ false → not c ≡ false → not d ≡ false → (r : Bool) → Tells r (Idle second long2) → Tells r Pools
          pools-told x y z u r = tells-same
              (λ i. record { nobodys2 = passed n2 x; nobodys3 = passed n3 y; free2 = passed f2 z; free3 = passed f3 u; idle = i }) (λ p. p.idle)
