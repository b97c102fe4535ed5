-- A block of cells beside its plan, and the first cells block by block.
use mathlib.Core.Path.{◌≡◌, sym, ◌∙◌, ap}
use mathlib.Core.Bool.{Bool}
use mathlib.Core.List.{List, ◌++◌}
use Prim.Native.Nat.{ℕ, ◌+◌, ◌-◌, ◌*◌, ◌/◌, ◌^◌, ◌≤◌, ◌<◌}
use native.Mathlib.Omega.{arith}
use lib.ListN.{length, get_or, take, drop}
use lib.Pow.{pow-add, pow_mono}
use lib.Seq.{length-take-le, take_at, get_or-take, get_or-drop}
use borrow.Rule.Slice.PartMut.{mid_len}
use Rattle.bits.specs.Count.{count}
use Rattle.bits.proofs.Counts.{count-ext}
use Rattle.bits.proofs.Tabs.{get_d_tabulate}
use Rattle.routes.specs.declared.Route.{Route}
use Rattle.plan.specs.Plan.{plan, planned}
use Rattle.plan.specs.Under.{Block}
use Rattle.sail.specs.Level.{always, itself, entry}
use Rattle.repair_leaves.specs.Leaves.{off_plan, off_at, CountIs, DiffBlockReady, DiffFirstReady}
use Rattle.repair_leaves.proofs.Counts.{count_add}

-- the same numbers, counted by another test that says the same of each
pub counted-as : (r : ℕ) (f g : ℕ → Bool) (m n : ℕ) → m ≡ n → ((j : ℕ) → j < n → f j ≡ g j) → CountIs r f m → CountIs r g n
counted-as r f g m n e h k = record { is = k.is ∙ ap (count f) e ∙ count-ext f g n h; few = omega (arith, k.few) }

module _ (ws par : List ℕ) (l i p base : ℕ) (cells : List ℕ) (a e : ℕ) (want : List ℕ) (b : DiffBlockReady ws par l i p base cells a e want) where
  pub block_room : e - a ≡ length (take (e - a) want)
  block_room = sym (length-take-le (e - a) want (omega (arith, b.small, b.room)))

  pub block-asks : Block ws par l i p base (length (take (e - a) want))
  block-asks = rw (← block_room) b.part.block

  -- the plan stands in the front of the room for it
  module _ (ys : List ℕ) (kept : length ys ≡ length (take (e - a) want)) where
    front : take (e - a) (ys ++ drop (e - a) want) ≡ ys
    front = take_at ys (drop (e - a) want) (e - a) (kept ∙ sym block_room)

    pub front-room : e - a ≡ length (take (e - a) (ys ++ drop (e - a) want))
    front-room = block_room ∙ sym kept ∙ ap length (sym front)

    part_length : length (take (e - a) (drop a cells)) ≡ e - a
    part_length = mid_len a e cells b.part.inside

    pub block-beside : length (take (e - a) (drop a cells)) ≡ length (take (e - a) (ys ++ drop (e - a) want))
    block-beside = part_length ∙ front-room

    pub block-counted : (rs : List Route) → ys ≡ planned rs p base (length (take (e - a) want)) → (r : ℕ)
        → CountIs r (λ j. off_plan (get_or (take (e - a) (ys ++ drop (e - a) want)) j 0) (get_or (take (e - a) (drop a cells)) j 0))
        (length (take (e - a) (drop a cells)))
        → CountIs r (λ j. off_plan (plan rs p (base + j)) (get_or cells (a + j) 0)) (e - a)
    unfolding planned
    block-counted rs is r k =
        counted-as r _ _ _ (e - a) part_length
        (λ j h.
        let x : get_or (take (e - a) (ys ++ drop (e - a) want)) j 0 ≡ plan rs p (base + j)
        = ap (λ (t : List ℕ). get_or t j 0) (front ∙ is) ∙ get_d_tabulate _ _ j 0 (rw (← block_room) h) in
        let y : get_or (take (e - a) (drop a cells)) j 0 ≡ get_or cells (a + j) 0 = get_or-take (e - a) (drop a cells) j 0 h ∙ get_or-drop a cells j 0 in
        rw (x, y)) k

-- the first cells
module _ (ws par : List ℕ) (p : ℕ) (first want : List ℕ) (h : DiffFirstReady ws par p first want) where
  powers : 2 ^ p ≡ 2 ^ (p - 10) * 1024
  powers = let z : p ≡ p - 10 + 10 = omega (arith, h.low) in ap (λ (n : ℕ). 2 ^ n) z ∙ pow-add 2 (p - 10) 10

  pub first_block : (room : List ℕ) → length room ≡ 1024 → (b : ℕ) → b < length first / 1024
      → DiffBlockReady ws par (p - 10) b p (b * 1024) first (b * 1024) (b * 1024 + 1024) room
  first_block room r b k =
      let z : p - (p - 10) ≡ 10 = omega (arith, h.low) in
      let w = powers in
      let n = h.cells in
      record {
        part = record {
          rises = omega arith;
          inside = omega arith;
          block = record {
            ready = h.ready;
            cell = record { level = omega (arith, h.deep); inside = omega arith };
            deeper = omega arith;
            deep = h.deep;
            from = rw z (omega arith);
            to = rw z (omega arith);
          };
        };
        small = omega arith;
        room = r;
      }

  pub first_fits : (m b r : ℕ) → m ≤ b * 1024 → b < length first / 1024 → r ≤ b * 1024 + 1024 - b * 1024 → (m + r < 2 ^ 64) × (m + r ≤ (b + 1) * 1024)
  first_fits m b r a k c = (omega (arith, h.cells, pow_mono h.deep), omega arith)

  module _ (rs : List Route) where
    abbrev off : ℕ → Bool
    off = off_at rs p always itself (entry first)

    pub first_more : (m b r : ℕ) → m ≡ count off (b * 1024)
        → CountIs r (λ j. off_plan (plan rs p (b * 1024 + j)) (get_or first (b * 1024 + j) 0)) (b * 1024 + 1024 - b * 1024)
        → m + r ≡ count off ((b + 1) * 1024)
    first_more m b r e k =
        let z : (b + 1) * 1024 ≡ b * 1024 + 1024 = omega arith in
        let s : b * 1024 + 1024 - b * 1024 ≡ 1024 = omega arith in
        rw z (omega (arith, count_add off (b * 1024) 1024, k.is ∙ ap (count (λ j. off (b * 1024 + j))) s))

    pub first-all : (m b : ℕ) → b ≤ length first / 1024 → length first / 1024 ≤ b → m ≤ b * 1024 → m ≡ count off (b * 1024) → CountIs m off (length first)
    first-all m b u l k e =
        let w = powers in
        let z : b * 1024 ≡ length first = omega (arith, h.cells) in
        record { is = e ∙ ap (count off) z; few = omega arith }
