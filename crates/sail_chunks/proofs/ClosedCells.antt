-- The cells of a pool after a chunk was closed: those of chunks in use are as they were, and the others are 0.
use mathlib.Core.Path.{◌≡◌, refl, sym, ◌∙◌, ap}
use mathlib.Core.Logic.{◌⊎◌, inl, inr, ◌≢◌}
use mathlib.Core.Bool.{Bool, true, false, cond, true≢false}
use mathlib.Core.List.{List}
use Prim.Native.Nat.{ℕ, ◌+◌, ◌-◌, ◌*◌, ◌/◌, ◌^◌, ◌≤◌, ◌<◌}
use native.Mathlib.Nat.{div-mul-le_self, lt-div-mul-add}
use native.Mathlib.Omega.{arith}
use lib.Arith.{digits_div}
use lib.Dec.{ltb}
use lib.ListN.{get_or, length, set}
use lib.Pow.{pow_pos}
use lib.Seq.{get_or-set_same, get_or-set_other}
use borrow.Author.Tests.{ltb-true, lt-ltb}
use Rattle.bits.proofs.Bools.{equal?}
use Rattle.bits.proofs.Tabs.{length-tabulate, get_d_tabulate}
use Rattle.buffers.specs.Fill.{between, filled}
use Rattle.buffers.proofs.Ranges.{between_in, between-below, between-above, Side, below, inside, above, side}
use Rattle.sail.specs.Level.{live_in, entry}
use Rattle.sail_chunks.specs.Chunks.{without_owner, blanked}

-- the cell at place q of a pool of chunks of 2 ^ d cells, after chunk c was filled with 0
module _ (cells : List ℕ) (c d q : ℕ) (l : q < length cells) where
  abbrev from : ℕ
  from = c * 2 ^ d

  pub filled_in : q / 2 ^ d ≡ c → get_or (filled cells from (from + 2 ^ d) 0) q 0 ≡ 0
  unfolding filled
  filled_in e =
      let lo : from ≤ q = rw (← e) (div-mul-le_self q (2 ^ d)) in
      let hi : q < from + 2 ^ d = rw (← e) (lt-div-mul-add (pow_pos d)) in
      get_d_tabulate (length cells) _ q 0 l ∙ rw (between_in from (from + 2 ^ d) q lo hi)

  pub filled-out : q / 2 ^ d ≢ c → get_or (filled cells from (from + 2 ^ d) 0) q 0 ≡ get_or cells q 0
  unfolding filled
  filled-out n = get_d_tabulate (length cells) _ q 0 l ∙ go (side from (from + 2 ^ d) q)
    where
      go : Side from (from + 2 ^ d) q → cond (between from (from + 2 ^ d) q) 0 (get_or cells q 0) ≡ get_or cells q 0
      go (below a) = rw (between-below from (from + 2 ^ d) q a)
      go (above a b) = rw (between-above from (from + 2 ^ d) q b)
      go (inside a b) =
          let e : from + (q - from) ≡ q = omega arith in
          absurd (n (ap (λ (x : ℕ). x / 2 ^ d) (sym e) ∙ digits_div c (omega arith)))

pub length-blanked : (b : Bool) (c d : ℕ) (cells : List ℕ) → length (blanked b c d cells) ≡ length cells
unfolding blanked filled
length-blanked true c d cells = length-tabulate (length cells) _
length-blanked false c d cells = refl

-- of a pool in which the cells of free chunks are 0
module _ (b : Bool) (own cells : List ℕ) (c d : ℕ) (one : b ≡ true → c < length own) where
  abbrev own' : List ℕ
  own' = without_owner b c own

  abbrev cells' : List ℕ
  cells' = blanked b c d cells

  pub closed-held : (q : ℕ) → q < length cells → live_in (entry own') d q ≡ true → get_or cells' q 0 ≡ get_or cells q 0
  unfolding without_owner blanked
  closed-held q l e = go b refl
    where
      go : (x : Bool) → b ≡ x → get_or (cond x (filled cells (c * 2 ^ d) (c * 2 ^ d + 2 ^ d) 0) cells) q 0 ≡ get_or cells q 0
      go false h = refl
      go true h = filled-out cells c d q l (λ y.
          let z : 0 < get_or (set own c 0) c 0 = rw (h, y) at (ltb-true 0 (get_or own' (q / 2 ^ d) 0) e) in
          omega (arith, get_or-set_same own c 0 0 (one h)))

  pub closed-blank : (q : ℕ) → q < length cells → (live_in (entry own) d q ≡ false → get_or cells q 0 ≡ 0) → live_in (entry own') d q ≡ false → get_or cells' q 0 ≡ 0
  unfolding without_owner blanked
  closed-blank q l old e = go b refl (equal? (q / 2 ^ d) c)
    where
      go : (x : Bool) → b ≡ x → (q / 2 ^ d ≡ c) ⊎ (q / 2 ^ d ≢ c) → get_or (cond x (filled cells (c * 2 ^ d) (c * 2 ^ d + 2 ^ d) 0) cells) q 0 ≡ 0
      go false h y = old (rw h at e)
      go true h (inl y) = filled_in cells c d q l y
      go true h (inr y) = filled-out cells c d q l y ∙ old (sym (ap (ltb 0) (get_or-set_other own c (q / 2 ^ d) 0 0 y)) ∙ rw h at e)

-- of a pool that others use too: the chunk that is closed was in use
module _ (b : Bool) (own : List ℕ) (c d : ℕ) (one : b ≡ true → c < length own) (used : b ≡ true → 0 < get_or own c 0) where
  -- a chunk that is in use still was so before
  pub closed-live : (q : ℕ) → live_in (entry (without_owner b c own)) d q ≡ true → live_in (entry own) d q ≡ true
  unfolding without_owner
  closed-live q e = go b refl (equal? (q / 2 ^ d) c)
    where
      go : (x : Bool) → b ≡ x → (q / 2 ^ d ≡ c) ⊎ (q / 2 ^ d ≢ c) → ltb 0 (get_or own (q / 2 ^ d) 0) ≡ true
      go false h y = rw h at e
      go true h (inl y) = rw y (lt-ltb 0 (get_or own c 0) (used h))
      go true h (inr y) = sym (ap (ltb 0) (get_or-set_other own c (q / 2 ^ d) 0 0 y)) ∙ rw h at e

  -- what others hold stays
  pub closed-other : (cells : List ℕ) (q : ℕ) → q < length cells → live_in (entry own) d q ≡ false → get_or (blanked b c d cells) q 0 ≡ get_or cells q 0
  unfolding blanked
  closed-other cells q l e = go b refl
    where
      go : (x : Bool) → b ≡ x → get_or (cond x (filled cells (c * 2 ^ d) (c * 2 ^ d + 2 ^ d) 0) cells) q 0 ≡ get_or cells q 0
      go false h = refl
      go true h = filled-out cells c d q l (λ y. true≢false (sym (lt-ltb 0 (get_or own c 0) (used h)) ∙ rw y at e))
