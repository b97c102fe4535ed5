-- What the test of each level rests on: the sizes of what is lent.
use mathlib.Core.Path.{◌≡◌}
use mathlib.Core.Bool.{Bool, true, false, not}
use mathlib.Core.List.{List, []}
use Prim.Native.Nat.{ℕ, zero, suc, ◌-◌, ◌^◌, ◌≤◌, ◌<◌}
use native.Mathlib.Decide.{dec_lt}
use native.Mathlib.Omega.{arith}
use lib.ListN.{length, get_or, get_or-eq_default}
use lib.Pow.{pow_mono}
use Rattle.bits.specs.Tab.{Tells}
use Rattle.routes.specs.declared.Route.{Route}
use Rattle.chain.specs.Cover.{ChainReady}
use Rattle.plan_test.specs.Part.{Right}
use Rattle.bits.proofs.Tells.{tells-same, refuted, passed}
use Rattle.sail.specs.Geometry.{bits2, bits3}
use Rattle.sail.specs.Lent.{cells}
use Rattle.sail.specs.Sizes.{Celled}
use Rattle.sail.specs.declared.geometry.Geometry.{Geometry}
use Rattle.sail_cells_test.specs.Pool.{PoolOk, OwnedPool, FreeAll, FirstTestReady, Chunked, Pooled}
use Rattle.sail_sound.specs.TableTest.{root_owner, Passed, PassedAll}

-- no owner in a right pool names a place past the pool above
pool-owners : (rs : List Route) (p d : ℕ) (above : List ℕ) (live : ℕ → Bool) (at : ℕ → ℕ) (own cells below : List ℕ)
    → PoolOk rs p d above live at own cells below → (c : ℕ) → get_or own c 0 ≤ length above
pool-owners rs p d above live at own cells below k c = go (dec_lt c (length own)) (dec_lt 0 (get_or own c 0))
  where
    go : Dec (c < length own) → Dec (0 < get_or own c 0) → get_or own c 0 ≤ length above
    go (yes a) (yes b) = let h = ((k.each c a).hangs (get_or own c 0 - 1) (omega arith)).inside in omega arith
    go (yes a) (no b) = omega arith
    go (no a) b = let h : length own ≤ c = omega arith in rw (get_or-eq_default own 0 h) (omega arith)

root-owner : (c : ℕ) → get_or root_owner c 0 ≤ 2 ^ 0
root-owner zero = omega arith
root-owner (suc c) = omega arith

module _ (ws par : List ℕ) (ready : ChainReady ws par) (g : Geometry) (first second third own2 own3 : List ℕ)
    (s : Celled g (cells first second third own2 own3)) (want : List ℕ) (room : length want ≡ 1024) where
  pub first-cells : FirstTestReady ws par g.p1 first 1 want
  first-cells =
      let v = s.valid in
      record { ready = ready; low = omega arith; deep = omega arith; cells = s.cells1; few = omega (arith, pow_mono v.p1_high, s.cells1); room = room }

  pub pooled2 : Pooled ws par g.p2 (bits2 g) root_owner g.p1 first second own2 want
  pooled2 =
      let v = s.valid in
      record {
        ready = ready;
        deep = omega arith;
        small = v.near;
        near = v.p1_high;
        top = 0;
        high = omega arith;
        sum = omega arith;
        owners = root-owner;
        places = omega (arith, s.cells1);
        chunks = s.cells2;
        few = s.few2;
        room = room;
      }

  pub pooled3 : (rs : List Route) (b : Bool) → Tells b (OwnedPool rs g.p2 (bits2 g) root_owner g.p1 first own2 second own3) → not b ≡ false
      → Pooled ws par 32 (bits3 g) own2 (bits2 g) second third own3 want
  pooled3 rs b t n =
      let v = s.valid in
      let o = pool-owners rs g.p2 (bits2 g) first _ _ own2 second own3 (passed t n) in
      record {
        ready = ready;
        deep = omega arith;
        small = omega arith;
        near = omega arith;
        top = g.p1;
        high = v.p1_high;
        sum = omega arith;
        owners = λ c. omega (arith, o c, s.cells1);
        places = s.cells2;
        chunks = s.cells3;
        few = s.few3;
        room = room;
      }

-- the pools alone
module _ (g : Geometry) (first second third own2 own3 : List ℕ) (s : Celled g (cells first second third own2 own3)) where
  pub chunked2 : Chunked (bits2 g) own2 second
  chunked2 = record { small = s.valid.near; few = s.few2; chunks = s.cells2 }

  pub chunked3 : Chunked (bits3 g) own3 third
  chunked3 = let v = s.valid in record { small = omega arith; few = s.few3; chunks = s.cells3 }

-- the answers of `live_ok`
module _ (rs : List Route) (g : Geometry) (first second third own2 own3 : List ℕ) (b : Bool)
    (right : Tells b (Right rs g.p1 0 first own2 1 (length first))) where
  pub first-fails : not b ≡ true → Tells false (Passed rs g (cells first second third own2 own3))
  first-fails n = refuted right n (λ h. h.cells1)

  module _ (c : Bool) (pool : Tells c (OwnedPool rs g.p2 (bits2 g) root_owner g.p1 first own2 second own3)) where
    pub second-fails : not c ≡ true → Tells false (Passed rs g (cells first second third own2 own3))
    second-fails n = refuted pool n (λ h. h.pool2)

    pub third-tells : not b ≡ false → not c ≡ false → (r : Bool) → Tells r (OwnedPool rs 32 (bits3 g) own2 (bits2 g) second own3 third []) → Tells r
        (Passed rs g (cells first second third own2 own3))
    third-tells m n r = tells-same (λ k. record { cells1 = passed right m; pool2 = passed pool n; pool3 = k }) (λ h. h.pool3)

-- and those of `levels_ok`
module _ (rs : List Route) (g : Geometry) (first second third own2 own3 : List ℕ) (b : Bool)
    (live : Tells b (Passed rs g (cells first second third own2 own3))) where
  pub live-fails : not b ≡ true → Tells false (PassedAll rs g (cells first second third own2 own3))
  live-fails n = refuted live n (λ h. h.live)

  module _ (c : Bool) (free : Tells c (FreeAll (bits2 g) own2 second)) where
    pub free-fails : not c ≡ true → Tells false (PassedAll rs g (cells first second third own2 own3))
    free-fails n = refuted free n (λ h. h.free2)

    pub free-tells : not b ≡ false → not c ≡ false → (r : Bool) → Tells r (FreeAll (bits3 g) own3 third) → Tells r
        (PassedAll rs g (cells first second third own2 own3))
    free-tells m n r = tells-same (λ k. record { live = passed live m; free2 = passed free n; free3 = k }) (λ h. h.free3)
