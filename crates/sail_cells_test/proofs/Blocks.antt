-- Blocks of cells: what their test rests on, and the first cells by blocks.
use mathlib.Core.Path.{◌≡◌, sym, ap, ◌∙◌}
use mathlib.Core.Bool.{Bool, true, false, not}
use mathlib.Core.List.{List}
use Prim.Native.Nat.{ℕ, ◌+◌, ◌-◌, ◌*◌, ◌/◌, ◌%◌, ◌^◌, ◌≤◌, ◌<◌}
use native.Mathlib.Nat.{mul-le-mul}
use native.Mathlib.Omega.{arith}
use lib.ListN.{length, take, drop}
use lib.Pow.{pow-add, pow_mono, shl_exact}
use lib.Seq.{length-take-le}
use borrow.Rule.Slice.PartMut.{mid_len}
use Rattle.bits.specs.Tab.{Tells}
use Rattle.routes.specs.declared.Route.{Route}
use Rattle.plan_test.specs.Part.{Right}
use Rattle.plan_test.specs.Part.{Tested}
use Rattle.bits.proofs.Tells.{is-yes, refuted, passed}
use Rattle.sail.specs.Geometry.{Power}
use Rattle.sail_cells_test.specs.Pool.{part_at, Blocked, FirstTestReady}
use Rattle.sail_cells_test.proofs.Cells.{UpTo, none_yet, one_more, part_in}

-- the place of a chunk, by a shift
pub start_is : (c d : ℕ) → (c < 4096) × (d ≤ 10) → (c * 2 ^ d % 2 ^ 64 ≡ c * 2 ^ d) × (c * 2 ^ d % 2 ^ 64 < 4194304)
start_is c d h =
    let e = shl_exact 12 d 64 h.0 (omega arith) in
    let l : c ≤ 4095 = omega arith in
    let m = mul-le-mul l (pow_mono h.1) in
    (e, omega arith)

-- the part as the code lends it, with room for its plan
module _ (ws par : List ℕ) (p d i : ℕ) (cells : List ℕ) (a o : ℕ) (want : List ℕ) (b : Blocked ws par p d i cells a o want) (n : ℕ) (w : Power n d 1024) where
  pub plan-room : n ≡ length (take n want)
  plan-room = sym (length-take-le n want (omega arith))

  module _ (base : ℕ) (f : (base ≡ i * 2 ^ d) × (base < 4294967296)) where
    pub block-tested : Tested ws par (p - d) i p base o (take (a + n - a) (drop a cells)) (take n want)
    block-tested =
        let e : p - (p - d) ≡ d = omega arith in
        let m = plan-room in
        record {
          block = record {
            ready = b.ready;
            cell = record { level = omega arith; inside = b.cell };
            deeper = omega arith;
            deep = b.deep;
            from = rw e (omega arith);
            to = rw e (omega arith);
          };
          beside = record { deep = b.deep; same = mid_len a (a + n) cells (omega arith) ∙ (omega arith); few = omega arith };
        }

    pub block-tells : (rs : List Route) (own : List ℕ) (r : Bool) → Tells r (Right rs p base (take (a + n - a) (drop a cells)) own o (length (take n want)))
        → Tells r (Right rs p (i * 2 ^ d) (part_at cells a (2 ^ d)) own o (2 ^ d))
    block-tells rs own r t =
        let e : a + n - a ≡ 2 ^ d = omega arith in
        let m : length (take n want) ≡ 2 ^ d = omega (arith, plan-room) in
        rw (e, f.0, m) at t

-- the first cells, block by block
module _ (ws par : List ℕ) (p : ℕ) (first : List ℕ) (o : ℕ) (want : List ℕ) (h : FirstTestReady ws par p first o want) where
  powers : 2 ^ p ≡ 2 ^ (p - 10) * 1024
  powers = let e : p ≡ p - 10 + 10 = omega arith in ap (λ (n : ℕ). 2 ^ n) e ∙ pow-add 2 (p - 10) 10

  pub block-of-first : (room : List ℕ) → length room ≡ 1024 → (b : ℕ) → b < length first / 1024 → Blocked ws par p 10 b first (b * 1024) (o + b * 1024) room
  block-of-first room r b l =
      let e = powers in
      record {
        ready = h.ready;
        small = omega arith;
        lower = h.low;
        deep = h.deep;
        cell = omega arith;
        inside = omega arith;
        few = omega arith;
        room = r;
      }

  module _ (rs : List Route) (own : List ℕ) where
    abbrev Whole : Type 0
    Whole = UpTo rs p own first o (length first)

    abbrev Block : ℕ → Type 0
    Block b = Right rs p (b * 2 ^ 10) (part_at first (b * 1024) (2 ^ 10)) own (o + b * 1024) (2 ^ 10)

    pub first-none : UpTo rs p own first o (0 * 1024)
    first-none = none_yet rs p own first o

    pub first_more : (b : ℕ) (r : Bool) → UpTo rs p own first o (b * 1024) → Tells r (Block b) → not r ≡ false → UpTo rs p own first o ((b + 1) * 1024)
    first_more b r f t e =
        let s : b * 1024 + 1024 ≡ (b + 1) * 1024 = omega arith in
        rw s at (one_more rs p own first o (b * 1024) 1024 f (passed t e))

    pub first_off : (b : ℕ) (r : Bool) → b < length first / 1024 → Tells r (Block b) → not r ≡ true → Tells false Whole
    first_off b r l t e = refuted t e (part_in rs p own first o (b * 1024) 1024 (length first) (omega arith))

    pub first-all : (b : ℕ) → b ≤ length first / 1024 → length first / 1024 ≤ b → UpTo rs p own first o (b * 1024) → Tells true Whole
    first-all b u l f =
        let e = powers in
        let s : b * 1024 ≡ length first = omega arith in
        is-yes (rw s at f)
