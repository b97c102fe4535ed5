-- The run of words under a cell.
use mathlib.Core.Path.{◌≡◌, sym, ap, ◌∙◌}
use mathlib.Core.Bool.{true, false}
use mathlib.Core.List.{List}
use Prim.Native.Nat.{ℕ, ◌+◌, ◌-◌, ◌*◌, ◌^◌, ◌<◌, ◌≤◌}
use native.Mathlib.Decide.{dec_lt}
use native.Mathlib.Omega.{arith}
use lib.ListN.{length, get_or}
use lib.Pow.{shr_mono, shl-shr}
use borrow.Author.Tests.{lt-ltb, eq-eqb, ltb-true, eqb-true}
use Rattle.bits.specs.Slot.{slot, cut}
use Rattle.bits.proofs.Bools.{both, and_split, untrue}
use Rattle.bits.proofs.Slots.{cut-is, cut-le, cut-more}
use Rattle.standing.specs.Cells.{within}
use Rattle.chain.specs.Words.{len_of, route_of_word, Words}
use Rattle.chain.specs.Place.{KeysBelow, under_key, RunFrom, Run}
use Rattle.chain.specs.Cover.{addr_in}
use Rattle.chain.proofs.Places.{keys}

-- the words from lo up to k have the bits of cell i
abbrev pub InsideCell : List ℕ → ℕ → ℕ → ℕ → ℕ → Type 0
InsideCell ws p i lo k = (j : ℕ) → lo ≤ j → j < k → slot p (addr_in ws j) ≡ i

pub inside-more : (ws : List ℕ) (p i lo k : ℕ) → InsideCell ws p i lo k → slot p (addr_in ws k) ≡ i → InsideCell ws p i lo (k + 1)
inside-more ws p i lo k h e j l u = go (dec_lt j k)
  where
    go : Dec (j < k) → slot p (addr_in ws j) ≡ i
    go (yes d) = h j l d
    go (no d) = let q : j ≡ k = omega arith in rw q e

module _ {ws : List ℕ} {p i lo : ℕ} (good : Words ws) (start : RunFrom ws p i lo) where
  pl : KeysBelow ws (under_key p i) lo
  pl = start.place

  -- the addresses from the place on are not before the cell
  from_cell : (j : ℕ) → lo ≤ j → j < length ws → i ≤ slot p (addr_in ws j)
  from_cell j a b =
      let k = pl.above j a b in
      let l = (good.fine j b).prefix.len_ok in
      let n : i * 2 ^ (32 - p) ≤ addr_in ws j = omega arith in
      omega (arith, shr_mono (32 - p) n, shl-shr i (32 - p))

  within-parts : (j : ℕ) → within p i (route_of_word (get_or ws j 0)) ≡ true → (p < len_of (get_or ws j 0)) × (slot p (addr_in ws j) ≡ i)
  within-parts j t = let a = and_split _ _ t in (ltb-true _ _ a.0, eqb-true _ _ a.1)

  before-run : (j : ℕ) → j < lo → within p i (route_of_word (get_or ws j 0)) ≡ false
  before-run j a = untrue _ (λ t.
      let e = within-parts j t in
      let f : cut p (addr_in ws j) ≡ i * 2 ^ (32 - p) = cut-is p (addr_in ws j) ∙ ap (λ (x : ℕ). x * 2 ^ (32 - p)) e.1 in
      omega (arith, e.0, cut-le p (addr_in ws j), pl.below j a))

  -- a route of at most p bits with the bits of the cell stands before the place
  longer : (j : ℕ) → lo ≤ j → j < length ws → slot p (addr_in ws j) ≡ i → p < len_of (get_or ws j 0)
  longer j a b e = go (dec_lt p (len_of (get_or ws j 0)))
    where
      go : Dec (p < len_of (get_or ws j 0)) → p < len_of (get_or ws j 0)
      go (yes d) = d
      go (no d) =
          let c = cut-more _ p (addr_in ws j) (omega arith) start.level (good.fine j b).prefix.clear in
          let f : addr_in ws j ≡ i * 2 ^ (32 - p) = sym c ∙ cut-is p (addr_in ws j) ∙ ap (λ (x : ℕ). x * 2 ^ (32 - p)) e in
          absurd (omega (arith, pl.above j a b))

  module _ (r : ℕ) (from : lo ≤ r) (to : r ≤ length ws) (has : InsideCell ws p i lo r) (end : r < length ws → slot p (addr_in ws r) ≡ i → ⊥) where
    past-run : (j : ℕ) → r ≤ j → j < length ws → within p i (route_of_word (get_or ws j 0)) ≡ false
    past-run j a b = untrue _ (λ t. end (omega arith) (omega (arith, (within-parts j t).1, from_cell r from (omega arith), rise (dec_lt r j))))
      where
        rise : Dec (r < j) → slot p (addr_in ws r) ≤ slot p (addr_in ws j)
        rise (yes d) = let k = keys ws good j r d b in shr_mono (32 - p) (omega arith)
        rise (no d) = let e : r ≡ j = omega arith in rw e (omega arith)

    -- where the words that have the bits of the cell end, the run ends
    pub run_is : Run ws p i lo r
    run_is = record {
      from = from;
      to = to;
      before = before-run;
      inside = λ j a b. both (lt-ltb p _ (longer j a (omega arith) (has j a b))) (eq-eqb _ _ (has j a b));
      past = past-run;
    }
