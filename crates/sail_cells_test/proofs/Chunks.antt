-- A chunk in use, and a free one, as the code tests them.
use mathlib.Core.Path.{◌≡◌, sym, ◌∙◌}
use mathlib.Core.Bool.{Bool, true, false, true≢false}
use mathlib.Core.List.{List}
use Prim.Native.Nat.{ℕ, suc, ◌+◌, ◌-◌, ◌*◌, ◌/◌, ◌^◌, ◌≤◌, ◌<◌}
use native.Mathlib.Nat.{mod-lt, mul-le-mul_right, add-mul, one-mul}
use native.Mathlib.Omega.{arith}
use lib.Arith.{digits_lt}
use lib.ListN.{length, get_or}
use lib.Pow.{pow_pos, pow_mono, pow-add}
use borrow.Author.Tests.{ltb-true}
use Rattle.std.specs.Prelude.{None}
use Rattle.bits.specs.Tab.{Tells}
use Rattle.routes.specs.declared.Route.{Route}
use Rattle.buffers.specs.Fill.{Range}
use Rattle.buffers_test.specs.Zeros.{Zeros}
use Rattle.plan_test.specs.Part.{Right}
use Rattle.bits.proofs.Tells.{is-no, is-yes, tells-same}
use Rattle.sail.specs.Geometry.{Power}
use Rattle.sail.specs.Level.{itself, live_in, part_of, entry}
use Rattle.sail_cells_test.specs.Pool.{part_at, OwnedRight, OwnedChunk, FreeIsZero, Chunked, OwnerCellReady, OwnerCell, StandsFor, OwnedReady, Pooled}

-- the answers of `hung_ok`
module _ (rs : List Route) (p d : ℕ) (above cells below : List ℕ) (c o q i v : ℕ) where
  pub not_named : (v ≡ c + 1 → ⊥) → v ≡ get_or above q 0 → Tells false (OwnedRight rs p d above cells below c o q i)
  not_named n at = is-no (λ k. n (omega (arith, k.named)))

  pub named-tells : v ≡ c + 1 → v ≡ get_or above q 0 → q < length above → (a : ℕ) → (a ≡ c * 2 ^ d) × (a < 4194304) → (b : Bool)
      → Tells b (Right rs p (i * 2 ^ d) (part_at cells a (2 ^ d)) below o (2 ^ d)) → Tells b (OwnedRight rs p d above cells below c o q i)
  named-tells e at u a s b t =
      let t' = rw s.0 at t in
      tells-same (λ r. record { inside = u; named = omega arith; right = r }) (λ k. k.right) t'

-- the chunk begins and ends in its pool
pub chunk-room : (c n k : ℕ) → c < n → c * k + k ≤ n * k
chunk-room c n k l =
    let h : c + 1 ≤ n = omega arith in
    rw (add-mul, one-mul) at (mul-le-mul_right k h)

-- what `chunk_ok` knows, and its answers
module _ (ws par : List ℕ) (p d : ℕ) (up : List ℕ) (e : ℕ) (above cells own want : List ℕ) (h : Pooled ws par p d up e above cells own want) where
  pub hooks : OwnerCellReady up e (length above)
  hooks = record { small = h.near; owners = λ c. omega (arith, h.owners c, pow_mono h.high); places = h.places }

  module _ (c : ℕ) (l : c < length own) where
    in-pool : c * 2 ^ d + 2 ^ d ≤ length cells
    in-pool = omega (arith, chunk-room c (length own) (2 ^ d) l)

    module _ (a : ℕ) (s : (a ≡ c * 2 ^ d) × (a < 4194304)) where
      -- the cell that a live place stands for is one of the level above
      cell_in : (q : ℕ) → live_in (entry up) e q ≡ true → part_of (entry up) e itself q < 2 ^ (p - d)
      cell_in q v =
          let x = ltb-true 0 (get_or up (q / 2 ^ e) 0) v in
          let m : get_or up (q / 2 ^ e) 0 - 1 < 2 ^ h.top = omega (arith, h.owners (q / 2 ^ e)) in
          let f : p - d ≡ h.top + e = omega arith in
          rw (f, pow-add) (digits_lt m (mod-lt q (pow_pos e)))

      pub hangs : (q i : ℕ) → StandsFor up e (length above) q i → OwnedReady ws par p d above q i cells c (1 + a) want
      hangs q i k =
          let z = pow_mono h.small in
          record {
            block = record {
              ready = h.ready;
              small = h.small;
              lower = omega arith;
              deep = h.deep;
              cell = rw k.cell (cell_in q k.lives);
              inside = in-pool;
              few = omega arith;
              room = h.room;
            };
            place = k.inside;
            number = omega arith;
          }

module _ (rs : List Route) (p d : ℕ) (up : List ℕ) (e : ℕ) (above cells below : List ℕ) (c o : ℕ) where
  abbrev Whole : Type 0
  Whole = OwnedChunk rs p d up e above cells below c o

  pub free-passes : o ≡ 0 → Tells true Whole
  free-passes z = is-yes (record { lives = λ q k. absurd (omega arith); hangs = λ q k. absurd (omega arith) })

  module _ (a : ℕ) (s : (a ≡ c * 2 ^ d) × (a < 4194304)) (used : o ≡ 0 → ⊥) where
    owner : o ≡ suc (o - 1)
    owner = omega (arith, used)

    pub nowhere : OwnerCell up e (length above) (o - 1) None → Tells false Whole
    nowhere k = is-no (λ w. true≢false (sym (w.lives (o - 1) owner) ∙ k (w.hangs (o - 1) owner).inside))

    pub used-tells : (i : ℕ) → StandsFor up e (length above) (o - 1) i → (b : Bool)
        → Tells b (OwnedRight rs p d above cells below c (1 + a) (o - 1) i) → Tells b Whole
    used-tells i k b t =
        let m : 1 + a ≡ suc (c * 2 ^ d) = omega arith in
        let t' = rw (m, k.cell) at t in
        tells-same
        (λ y. record {
          lives = λ q f. let g : q ≡ o - 1 = omega (arith, owner) in rw g k.lives;
          hangs = λ q f. let g : q ≡ o - 1 = omega (arith, owner) in rw g y;
        })
        (λ w. w.hangs (o - 1) owner) t'

-- the answers of `free_chunk`
module _ (d : ℕ) (own cells : List ℕ) (c : ℕ) where
  pub used-free : (get_or own c 0 ≡ 0 → ⊥) → Tells true (FreeIsZero d cells c (get_or own c 0))
  used-free n = is-yes (record { zero = λ e. absurd (n e) })

  module _ (a : ℕ) (s : (a ≡ c * 2 ^ d) × (a < 4194304)) (n : ℕ) (w : Power n d 1024) where
    pub free-room : Chunked d own cells → c < length own → Range a (a + n) (length cells)
    free-room h l = record { rises = omega arith; fits = omega (arith, chunk-room c (length own) (2 ^ d) l) }

    pub free-zero : get_or own c 0 ≡ 0 → (b : Bool) → Tells b (Zeros cells a (a + n)) → Tells b (FreeIsZero d cells c (get_or own c 0))
    free-zero e b t = let t' = rw (s.0, w.is) at t in tells-same (λ z. record { zero = λ _. z }) (λ f. f.zero e) t'

-- a pool, chunk by chunk
module _ (ws par : List ℕ) (p d : ℕ) (up : List ℕ) (e : ℕ) (above cells own want : List ℕ) (h : Pooled ws par p d up e above cells own want) where
  -- other room for the plan
  pub still-pooled : (room : List ℕ) → length room ≡ 1024 → Pooled ws par p d up e above cells own room
  still-pooled room r = record {
    ready = h.ready;
    deep = h.deep;
    small = h.small;
    near = h.near;
    top = h.top;
    high = h.high;
    sum = h.sum;
    owners = h.owners;
    places = h.places;
    chunks = h.chunks;
    few = h.few;
    room = r;
  }
