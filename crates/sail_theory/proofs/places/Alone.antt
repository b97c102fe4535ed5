-- A table in pools that others use too: its own part of them, and what a change leaves there. Where nobody else uses them, it is the table itself.
use mathlib.Core.Path.{◌≡◌, sym, ◌∙◌, ap}
use mathlib.Core.Logic.{◌⊎◌, inl, inr}
use mathlib.Core.Bool.{Bool, true, false, cond, ◌||◌}
use mathlib.Core.List.{List}
use Prim.Native.Nat.{ℕ, ◌<◌}
use lib.ListN.{get_or, length}
use lib.Seq.{ext_get_or}
use Rattle.bits.proofs.Bools.{decided}
use Rattle.bits.proofs.Tabs.{length-tabulate, get_d_tabulate}
use Rattle.sail.specs.Geometry.{bits2, bits3}
use Rattle.sail.specs.Lent.{Lent}
use Rattle.sail.specs.Level.{live_in, entry}
use Rattle.sail.specs.Sound.{Sound}
use Rattle.sail.specs.declared.geometry.Geometry.{Geometry}
use Rattle.sail.specs.declared.table.Table.{Table}
use Rattle.sail_theory.specs.Render.{block, laid}
use Rattle.sail_theory.specs.Shared.{own_part, alone, ComesBlank, touched, mixed, mixed_in}
use Rattle.sail_theory.proofs.places.Pools.{length-laid, laid-at}

block_at : (n : ℕ) (live : ℕ → Bool) (value : ℕ → ℕ) (q : ℕ) → q < n → get_or (block n live value) q 0 ≡ cond (live q) (value q) 0
unfolding block
block_at n live value q h = get_d_tabulate n _ q 0 h

-- outside the chunks of these owners the array is 0
pub record Blank (own : List ℕ) (d : ℕ) (xs : List ℕ) : Type 0 where
  pub zero : (q : ℕ) → q < length xs → live_in (entry own) d q ≡ false → get_or xs q 0 ≡ 0

module _ (own : List ℕ) (d : ℕ) (xs : List ℕ) where
  pub length-own : length (own_part own d xs) ≡ length xs
  unfolding own_part block
  length-own = length-tabulate (length xs) _

  pub own_at : (q : ℕ) → q < length xs → get_or (own_part own d xs) q 0 ≡ cond (live_in (entry own) d q) (get_or xs q 0) 0
  unfolding own_part block
  own_at q h = get_d_tabulate (length xs) _ q 0 h

  pub own-blank : Blank own d (own_part own d xs)
  own-blank = record { zero = λ q h e. own_at q (rw length-own at h) ∙ rw e }

  -- an array that is 0 elsewhere is its own part
  pub own_same : Blank own d xs → own_part own d xs ≡ xs
  own_same b = ext_get_or 0 _ _ length-own (λ q h. let k : q < length xs = rw length-own at h in own_at q k ∙ go q k (decided (live_in (entry own) d q)))
    where
      go : (q : ℕ) → q < length xs → (live_in (entry own) d q ≡ true) ⊎ (live_in (entry own) d q ≡ false)
          → cond (live_in (entry own) d q) (get_or xs q 0) 0 ≡ get_or xs q 0
      go q h (inl e) = rw e
      go q h (inr e) = rw e (sym (b.zero q h e))

-- was and own are the owners before and after a change, old and xs an array over their pool
module _ (was own : List ℕ) (d : ℕ) (old xs : List ℕ) where
  pub length-mixed : length (mixed was own d old xs) ≡ length old
  unfolding mixed
  length-mixed = length-laid old _ _

  pub mixed-at : (q : ℕ) → q < length old → get_or (mixed was own d old xs) q 0 ≡ cond (touched was own d q) (get_or xs q 0) (get_or old q 0)
  unfolding mixed
  mixed-at q h = laid-at old _ _ q h

  -- where both are 0 elsewhere, what is left is xs
  pub mixed-same : length xs ≡ length old → Blank was d old → Blank own d xs → mixed was own d old xs ≡ xs
  mixed-same n b c =
      ext_get_or 0 _ _ (length-mixed ∙ sym n)
      (λ q h. let k : q < length old = rw length-mixed at h in mixed-at q k ∙ go q k (decided (live_in (entry was) d q)) (decided (live_in (entry own) d q)))
    where
      go : (q : ℕ) → q < length old → (live_in (entry was) d q ≡ true) ⊎ (live_in (entry was) d q ≡ false)
          → (live_in (entry own) d q ≡ true) ⊎ (live_in (entry own) d q ≡ false)
          → cond (touched was own d q) (get_or xs q 0) (get_or old q 0) ≡ get_or xs q 0
      go q h (inl e) f = rw e
      go q h (inr e) (inl f) = rw (e, f)
      go q h (inr e) (inr f) = rw (e, f) (b.zero q h e ∙ sym (c.zero q (rw n h) f))

-- where nothing else is in use, what comes is blank
pub blank-comes : (was own : List ℕ) (d : ℕ) (old : List ℕ) → Blank was d old → ComesBlank was own d old
blank-comes was own d old b = record { zero = λ q h e _. b.zero q h e }

-- No chunk is closed: what was theirs is so still. Then an array laid over at live places is what a change leaves.
module _ (was own : List ℕ) (d : ℕ) (old : List ℕ) (still : (q : ℕ) → live_in (entry was) d q ≡ true → live_in (entry own) d q ≡ true) where
  pub touched-live : (q : ℕ) → touched was own d q ≡ live_in (entry own) d q
  touched-live q = go (decided (live_in (entry was) d q))
    where
      go : (live_in (entry was) d q ≡ true) ⊎ (live_in (entry was) d q ≡ false) → touched was own d q ≡ live_in (entry own) d q
      go (inl e) = rw e (sym (still q e))
      go (inr e) = rw e

  -- what came is blank: the owners see what they saw
  pub comes-part : ComesBlank was own d old → own_part own d old ≡ own_part was d old
  comes-part b = ext_get_or 0 _ _ (length-own own d old ∙ sym (length-own was d old)) (λ q h.
      let k : q < length old = rw length-own at h in
      own_at own d old q k ∙ go q k (decided (live_in (entry was) d q)) (decided (live_in (entry own) d q)) ∙ sym (own_at was d old q k))
    where
      go : (q : ℕ) → q < length old → (live_in (entry was) d q ≡ true) ⊎ (live_in (entry was) d q ≡ false)
          → (live_in (entry own) d q ≡ true) ⊎ (live_in (entry own) d q ≡ false)
          → cond (live_in (entry own) d q) (get_or old q 0) 0 ≡ cond (live_in (entry was) d q) (get_or old q 0) 0
      go q h (inl e) f = rw (still q e, e)
      go q h (inr e) (inl f) = rw (e, f) (b.zero q h e f)
      go q h (inr e) (inr f) = rw (e, f)

  pub laid-mixed : (value : ℕ → ℕ) (n : ℕ) → length old ≡ n → laid old (live_in (entry own) d) value ≡ mixed was own d old (block n (live_in (entry own) d) value)
  laid-mixed value n size =
      ext_get_or 0 _ _ (length-laid old _ value ∙ sym (length-mixed was own d old _)) (λ q h.
      let k : q < length old = rw length-laid at h in
      laid-at old (live_in (entry own) d) value q k ∙ go q (rw size at k) (decided (live_in (entry own) d q))
      ∙ sym (mixed-at was own d old (block n (live_in (entry own) d) value) q k ∙ ap (λ (b : Bool). cond b (get_or (block n (live_in (entry own) d) value) q 0)
      (get_or old q 0)) (touched-live q)))
    where
      go : (q : ℕ) → q < n → (live_in (entry own) d q ≡ true) ⊎ (live_in (entry own) d q ≡ false)
          → cond (live_in (entry own) d q) (value q) (get_or old q 0)
          ≡ cond (live_in (entry own) d q) (get_or (block n (live_in (entry own) d) value) q 0) (get_or old q 0)
      go q h (inl e) = rw e (sym (block_at n (live_in (entry own) d) value q h ∙ rw e))
      go q h (inr e) = rw e

-- The pools of a sound table are 0 outside its own chunks.
module _ (t : Table) (l : Lent) (s : Sound t l) where
  abbrev g : Geometry
  g = t.geometry

  pub blank-second : Blank l.own2 (bits2 g) l.second
  blank-second = record { zero = λ q h e. s.clear2.blank q (rw s.sized.cells2 at h) e }

  pub blank-third : Blank l.own3 (bits3 g) l.third
  blank-third = record { zero = λ q h e. s.clear3.blank q (rw s.sized.cells3 at h) e }

  pub blank-long2 : Blank l.own2 (bits2 g) l.long2
  blank-long2 = record { zero = λ q h e. s.counted2.blank q (rw (s.sized.counts2, s.sized.cells2) at h) e }

  -- so alone it is itself
  pub alone-same : alone g l ≡ l
  alone-same = rw (
    own_same l.own2 (bits2 g) l.second blank-second,
    own_same l.own3 (bits3 g) l.third blank-third,
    own_same l.own2 (bits2 g) l.long2 blank-long2,
  )

-- A change from one sound table to another, of the same sizes, leaves that other.
pub mixed-sound : (t u : Table) (l e : Lent) → Sound t l → Sound u e → u.geometry ≡ t.geometry
    → length e.second ≡ length l.second → length e.third ≡ length l.third → length e.long2 ≡ length l.long2
    → mixed_in t.geometry l e ≡ e
mixed-sound t u l e s z same n2 n3 nl =
    let b2 : Blank e.own2 (bits2 t.geometry) e.second = rw same at (blank-second u e z) in
    let b3 : Blank e.own3 (bits3 t.geometry) e.third = rw same at (blank-third u e z) in
    let bl : Blank e.own2 (bits2 t.geometry) e.long2 = rw same at (blank-long2 u e z) in
    rw (
      mixed-same l.own2 e.own2 (bits2 t.geometry) l.second e.second n2 (blank-second t l s) b2,
      mixed-same l.own3 e.own3 (bits3 t.geometry) l.third e.third n3 (blank-third t l s) b3,
      mixed-same l.own2 e.own2 (bits2 t.geometry) l.long2 e.long2 nl (blank-long2 t l s) bl,
    )
