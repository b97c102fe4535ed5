-- The three levels beside what routes and owners ask for: what counting each asks, and what the counts come to.
use mathlib.Core.Path.{◌≡◌, refl, sym, ◌∙◌, ap}
use mathlib.Core.Bool.{Bool}
use mathlib.Core.List.{List}
use Prim.Native.Nat.{ℕ, suc, ◌+◌, ◌-◌, ◌^◌, ◌≤◌, ◌<◌}
use native.Mathlib.Omega.{arith}
use native.Mathlib.Nat.{mul-le-mul}
use lib.ListN.{length, get_or}
use lib.Pow.{pow_mono}
use Rattle.bits.specs.Count.{count}
use Rattle.routes.specs.declared.Route.{Route}
use Rattle.chain.specs.Words.{routes_of_words}
use Rattle.chain.proofs.Decodes.{words-good}
use Rattle.sail.specs.Geometry.{bits2, bits3}
use Rattle.sail.specs.Lent.{Lent, Cells}
use Rattle.sail.specs.Level.{always, itself, live_in, part_of, entry, chunks_of, no_chunks, level1, level2, level3}
use Rattle.sail.specs.declared.geometry.Geometry.{Geometry}
use Rattle.sail_theory.proofs.places.Places.{chunk-lt, live-owner}
use Rattle.sail_theory.proofs.frames.LevelFrame.{top-bounded, below-bounded}
use Rattle.sail_theory.proofs.places.Rendered.{last_fits}
use Rattle.sail_owners.specs.Owners.{owners}
use Rattle.sail_paint.specs.Paint.{stands_for, Above, OwnerInLevel}
use Rattle.sail_paint.proofs.Places.{stands-itself, stands-part}
use Rattle.repair_theory.specs.Repair.{differ}
use Rattle.repair_leaves.specs.Leaves.{off_at, CountIs, DiffFirstReady, DiffPoolReady}
use Rattle.repair_levels.specs.Levels.{off_name, DiffNamesReady, Owned, Differing, wanted}
use Rattle.repair_leaves.proofs.Counts.{count-start}
use Rattle.repair_levels.proofs.Parts.{differ-parts}

module _ (g : Geometry) (ws par : List ℕ) (l : Cells) (want : List ℕ) (w : Owned g ws par l want) where
  abbrev rs : List Route
  rs = routes_of_words ws

  pub first-asks : DiffFirstReady ws par g.p1 l.first want
  first-asks = let v = w.celled.valid in record { ready = w.ready; low = omega arith; deep = omega arith; cells = w.celled.cells1; room = w.room }

  pub first-names : DiffNamesReady l.own2 l.first
  first-names = record { few = w.celled.few2; inside = λ c q k o. rw w.celled.cells1 (w.fits2.lies c q k o).0 }

  pub second-names : DiffNamesReady l.own3 l.second
  second-names = record { few = w.celled.few3; inside = λ c q k o. rw w.celled.cells2 (w.fits3.lies c q k o).0 }

  pub second-asks : (room : List ℕ) → length room ≡ 1024 → DiffPoolReady ws par g.p1 g.p2 l.own2 0 l.own2 l.second room
  second-asks room r =
      let v = w.celled.valid in
      record {
        pool = record {
          levels = record { ready = w.ready; len_ok = omega arith; deeper = omega arith; deep = omega arith; small = v.near };
          hangs = λ c k. record {
            above = λ q o. record { small = omega arith; chunk = λ z. absurd (omega arith); owned = λ z. absurd (omega arith) };
            cell = λ q o. rw (← stands-itself 0 l.own2 q refl) (w.fits2.lies c q k o).0;
          };
          few = w.celled.few2;
          chunks = w.celled.cells2;
        };
        room = r;
      }

  some2 : bits2 g ≡ 0 → ⊥
  some2 z = let v = w.celled.valid in omega arith

  -- a third chunk hangs from a second cell, which stands for a cell of p2 bits
  hangs3 : (c : ℕ) → c < length l.own3 → OwnerInLevel g.p2 l.own2 (bits2 g) (get_or l.own3 c 0)
  hangs3 c k = record { above = above; cell = cell }
    where
      above : (q : ℕ) → get_or l.own3 c 0 ≡ suc q → Above l.own2 (bits2 g) q
      above q o =
          let z = w.fits3.lies c q k o in
          record {
            small = w.celled.valid.near;
            chunk = λ _. chunk-lt (bits2 g) (length l.own2) q z.0;
            owned = λ _. omega (arith, live-owner (level1 g) (chunks_of l.own2) g.p2 q z.1);
          }

      cell : (q : ℕ) → get_or l.own3 c 0 ≡ suc q → stands_for (bits2 g) l.own2 q < 2 ^ g.p2
      cell q o =
          let v = w.celled.valid in
          let z = w.fits3.lies c q k o in
          rw (stands-part (bits2 g) l.own2 q some2)
          (below-bounded rs (level1 g) (chunks_of l.own2) g.p2 (omega arith) w.fits2 (top-bounded g.p1) q z.0 z.1)

  pub third-asks : (room : List ℕ) → length room ≡ 1024 → DiffPoolReady ws par g.p2 32 l.own2 (bits2 g) l.own3 l.third room
  third-asks room r =
      let v = w.celled.valid in
      record {
        pool = record {
          levels = record { ready = w.ready; len_ok = omega arith; deeper = omega arith; deep = omega arith; small = omega arith };
          hangs = hangs3;
          few = w.celled.few3;
          chunks = w.celled.cells3;
        };
        room = r;
      }

  -- what the counts of each level come to
  abbrev asked : Lent
  asked = wanted g rs (owners l.own2 l.own3)

  abbrev off1 : ℕ → Bool
  off1 = off_at rs g.p1 always itself (entry l.first)

  abbrev off2 : (ℕ → ℕ) → ℕ → Bool
  off2 at = off_at rs g.p2 (live_in (entry l.own2) (g.p2 - g.p1)) (part_of (entry l.own2) (g.p2 - g.p1) at) (entry l.second)

  abbrev off3 : (ℕ → ℕ) → ℕ → Bool
  off3 at = off_at rs 32 (live_in (entry l.own3) (32 - g.p2)) (part_of (entry l.own3) (32 - g.p2) at) (entry l.third)

  module _ (a1 n1 a2 n2 a3 : ℕ)
      (leaves1 : CountIs a1 off1 (length l.first)) (names1 : CountIs n1 (off_name (entry l.own2) (entry l.first)) (length l.own2))
      (leaves2 : CountIs a2 (off2 (stands_for 0 l.own2)) (length l.second))
      (names2 : CountIs n2 (off_name (entry l.own3) (entry l.second)) (length l.own3))
      (leaves3 : CountIs a3 (off3 (stands_for (g.p2 - g.p1) l.own2)) (length l.third)) where
    first-is : a1 + n1 ≡ differ l.first asked.first
    first-is =
        let parts = differ-parts rs (level1 g) (chunks_of l.own2) w.fits2 l.first w.celled.cells1 in
        omega (arith, leaves1.is ∙ ap (count off1) w.celled.cells1, names1.is)

    leaves2-are : a2 ≡ count (off2 itself) (level2 g (chunks_of l.own2)).places
    leaves2-are =
        leaves2.is ∙ ap (λ (at : ℕ → ℕ). count (off2 at) (length l.second)) (λ i q. sym (stands-itself 0 l.own2 q refl) i)
        ∙ ap (count (off2 itself)) w.celled.cells2

    second_is : a2 + n2 ≡ differ l.second asked.second
    second_is =
        let parts = differ-parts rs (level2 g (chunks_of l.own2)) (chunks_of l.own3) w.fits3 l.second w.celled.cells2 in
        omega (arith, leaves2-are, names2.is)

    leaves3-are : a3 ≡ count (off3 (level2 g (chunks_of l.own2)).at) (level3 g (chunks_of l.own2) (chunks_of l.own3)).places
    leaves3-are =
        leaves3.is ∙ ap (λ (at : ℕ → ℕ). count (off3 at) (length l.third)) (λ i q. stands-part (bits2 g) l.own2 q some2 i)
        ∙ ap (count (off3 (level2 g (chunks_of l.own2)).at)) w.celled.cells3

    third-is : a3 ≡ differ l.third asked.third
    third-is =
        let good = words-good ws w.ready.words in
        let fits = last_fits rs good (level2 g (chunks_of l.own2)) (chunks_of l.own3) in
        let parts = differ-parts rs (level3 g (chunks_of l.own2) (chunks_of l.own3)) no_chunks fits l.third w.celled.cells3 in
        let none = count-start (off_name no_chunks.own (entry l.third)) in
        omega (arith, leaves3-are)

    -- no sum is over 32 bits
    pub first_fits : a1 + n1 < 2 ^ 32
    first_fits = omega (arith, leaves1.few, names1.few, w.celled.few2, w.celled.cells1, pow_mono w.celled.valid.p1_high)

    pub second_fits : a2 + n2 < 2 ^ 32
    second_fits = omega (arith, leaves2.few, names2.few, w.celled.few3, w.celled.cells2, mul-le-mul w.celled.few2 (pow_mono w.celled.valid.near))

    third-fits : a3 < 2 ^ 32
    third-fits =
        let v = w.celled.valid in
        let z : bits3 g ≤ 10 = omega arith in
        omega (arith, leaves3.few, w.celled.cells3, mul-le-mul w.celled.few3 (pow_mono z))

    pub levels-differ : Differing (record { first = a1 + n1; second = a2 + n2; third = a3 }) l.first l.second l.third asked
    levels-differ = record {
      is_first = first-is;
      is_second = second_is;
      is_third = third-is;
      few_first = first_fits;
      few_second = second_fits;
      few_third = third-fits;
    }
