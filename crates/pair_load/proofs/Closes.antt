-- Chunks closed one after the other: those passed that are in use among `see` are 0, and all others as they were.
use mathlib.Core.Path.{◌≡◌, refl, sym, ◌∙◌, ap}
use mathlib.Core.Logic.{◌⊎◌, inl, inr, ◌≢◌}
use mathlib.Core.Bool.{Bool, true, false, not, ◌&&◌, cond}
use mathlib.Core.List.{List}
use Prim.Native.Nat.{ℕ, ◌+◌, ◌*◌, ◌/◌, ◌^◌, ◌≤◌, ◌<◌}
use native.Mathlib.Omega.{arith}
use lib.Dec.{eqb, ltb}
use lib.ListN.{get_or, length, set, length-set}
use lib.Seq.{ext_get_or, get_or-set_same, get_or-set_other}
use borrow.Author.Tests.{lt-ltb, le-ltb, ne_eqb}
use Rattle.bits.proofs.Bools.{below?, equal?}
use Rattle.bits.proofs.Tabs.{length-tabulate, get_d_tabulate}
use Rattle.buffers.specs.Fill.{filled}
use Rattle.sail.specs.Geometry.{bits2, bits3}
use Rattle.sail.specs.Level.{entry, in_use, live_in}
use Rattle.sail.specs.declared.geometry.Geometry.{Geometry}
use Rattle.sail_theory.specs.Render.{laid}
use Rattle.sail_theory.proofs.places.Places.{chunk-lt}
use Rattle.sail_theory.proofs.places.Pools.{length-laid, laid-at}
use Rattle.sail_chunks.specs.Chunks.{without_owner, blanked, Closing}
use Rattle.sail_chunks.proofs.ClosedCells.{filled_in, filled-out}
use Rattle.pair.specs.Party.{Party, view}
use Rattle.pair.proofs.Views.{length-view}
use Rattle.pair_load.specs.Cleared.{freed, emptied, ClosableAll, SideCleared}

-- the test of the code
pub not-zero : (x : ℕ) → not (eqb x 0) ≡ ltb 0 x
not-zero x = go (below? 0 x)
  where
    go : (0 < x) ⊎ (x ≤ 0) → not (eqb x 0) ≡ ltb 0 x
    go (inl l) = rw (ne_eqb x 0 (λ e. omega arith), lt-ltb 0 x l)
    go (inr l) = let e : x ≡ 0 = omega arith in rw e

-- One chunk, closed where b says so.
module _ (b : Bool) (c : ℕ) (own : List ℕ) where
  length_without : length (without_owner b c own) ≡ length own
  unfolding without_owner
  length_without = go b
    where
      go : (b : Bool) → length (cond b (set own c 0) own) ≡ length own
      go true = length-set own c 0
      go false = refl

  without-same : c < length own → get_or (without_owner b c own) c 0 ≡ cond b 0 (get_or own c 0)
  unfolding without_owner
  without-same l = go b
    where
      go : (b : Bool) → get_or (cond b (set own c 0) own) c 0 ≡ cond b 0 (get_or own c 0)
      go true = get_or-set_same own c 0 0 l
      go false = refl

  without_other : (j : ℕ) → j ≢ c → get_or (without_owner b c own) j 0 ≡ get_or own j 0
  unfolding without_owner
  without_other j n = go b
    where
      go : (b : Bool) → get_or (cond b (set own c 0) own) j 0 ≡ get_or own j 0
      go true = get_or-set_other own c j 0 0 n
      go false = refl

module _ (b : Bool) (c d : ℕ) (cells : List ℕ) where
  size-blanked : length (blanked b c d cells) ≡ length cells
  unfolding blanked filled
  size-blanked = go b
    where
      go : (b : Bool) → length (cond b (filled cells (c * 2 ^ d) (c * 2 ^ d + 2 ^ d) 0) cells) ≡ length cells
      go true = length-tabulate (length cells) _
      go false = refl

  blanked-same : (q : ℕ) → q < length cells → q / 2 ^ d ≡ c → get_or (blanked b c d cells) q 0 ≡ cond b 0 (get_or cells q 0)
  unfolding blanked
  blanked-same q l e = go b
    where
      go : (b : Bool) → get_or (cond b (filled cells (c * 2 ^ d) (c * 2 ^ d + 2 ^ d) 0) cells) q 0 ≡ cond b 0 (get_or cells q 0)
      go true = filled_in cells c d q l e
      go false = refl

  blanked-other : (q : ℕ) → q < length cells → q / 2 ^ d ≢ c → get_or (blanked b c d cells) q 0 ≡ get_or cells q 0
  unfolding blanked
  blanked-other q l n = go b
    where
      go : (b : Bool) → get_or (cond b (filled cells (c * 2 ^ d) (c * 2 ^ d + 2 ^ d) 0) cells) q 0 ≡ get_or cells q 0
      go true = filled-out cells c d q l n
      go false = refl

-- chunk k is among the first c, and in use among `see`
abbrev passed : List ℕ → ℕ → ℕ → Bool
passed see c k = ltb k c && in_use (entry see) k

-- A number of chunk k, through the closing of chunk c.
next : (see : List ℕ) (c k : ℕ) (old was now : ℕ) → was ≡ cond (passed see c k) 0 old → (k ≢ c → now ≡ was)
    → (k ≡ c → now ≡ cond (in_use (entry see) c) 0 was) → now ≡ cond (passed see (c + 1) k) 0 old
next see c k old was now before other same = go (below? k c) (equal? k c)
  where
    go : (k < c) ⊎ (c ≤ k) → (k ≡ c) ⊎ (k ≢ c) → now ≡ cond (passed see (c + 1) k) 0 old
    go (inl l) e = other (λ x. omega arith) ∙ before ∙ rw (lt-ltb k c l, lt-ltb k (c + 1) (omega arith))
    go (inr l) (inr n) = other n ∙ before ∙ rw (le-ltb k c l, le-ltb k (c + 1) (omega arith))
    go (inr l) (inl e) =
        let is : was ≡ old = before ∙ rw (le-ltb k c l) in
        same e ∙ rw (lt-ltb k (c + 1) (omega arith), is, e)

-- after the first c chunks
pub record Closed (see own cells : List ℕ) (d c : ℕ) (own' cells' : List ℕ) : Type 0 where
  pub many : length own' ≡ length own
  pub size : length cells' ≡ length cells
  pub owner : (j : ℕ) → get_or own' j 0 ≡ cond (passed see c j) 0 (get_or own j 0)
  pub blank : (q : ℕ) → q < length cells → get_or cells' q 0 ≡ cond (passed see c (q / 2 ^ d)) 0 (get_or cells q 0)

module _ (see own cells : List ℕ) (d : ℕ) (w : ClosableAll see own cells d) where
  pub closed_none : Closed see own cells d 0 own cells
  closed_none = record {
    many = refl;
    size = refl;
    owner = λ j. rw (le-ltb j 0 (omega arith));
    blank = λ q l. rw (le-ltb (q / 2 ^ d) 0 (omega arith));
  }

  module _ (c : ℕ) (own₁ cells₁ : List ℕ) (k : Closed see own cells d c own₁ cells₁) where
    pub closing : (b : Bool) → c < length see → Closing b own₁ cells₁ c d
    closing b l = record {
      one = λ _. omega (arith, l, w.many, k.many);
      few = omega (arith, w.few, k.many);
      size = w.size;
      whole = k.size ∙ w.whole ∙ ap (λ (n : ℕ). n * 2 ^ d) (sym k.many);
    }

    pub closed-more : (b : Bool) (own₂ cells₂ : List ℕ) → c < length see → b ≡ ltb 0 (get_or see c 0) → own₂ ≡ without_owner b c own₁
        → cells₂ ≡ blanked b c d cells₁ → Closed see own cells d (c + 1) own₂ cells₂
    closed-more b own₂ cells₂ l e eo ec = record {
      many = ap length eo ∙ length_without b c own₁ ∙ k.many;
      size = ap length ec ∙ size-blanked b c d cells₁ ∙ k.size;
      owner = λ j.
          next see c j (get_or own j 0) (get_or own₁ j 0) (get_or own₂ j 0) (k.owner j)
          (λ n. ap (λ (x : List ℕ). get_or x j 0) eo ∙ without_other b c own₁ j n)
          (λ s.
          ap (λ (x : List ℕ). get_or x j 0) eo ∙ rw s (without-same b c own₁ (omega (arith, l, w.many, k.many)))
          ∙ ap (λ (x : Bool). cond x 0 (get_or own₁ j 0)) e);
      blank = λ q h.
          let i : q < length cells₁ = rw k.size h in
          next see c (q / 2 ^ d) (get_or cells q 0) (get_or cells₁ q 0) (get_or cells₂ q 0) (k.blank q h)
          (λ n. ap (λ (x : List ℕ). get_or x q 0) ec ∙ blanked-other b c d cells₁ q i n)
          (λ s.
          ap (λ (x : List ℕ). get_or x q 0) ec ∙ blanked-same b c d cells₁ q i s
          ∙ ap (λ (x : Bool). cond x 0 (get_or cells₁ q 0)) e);
    }

    pub closed_all : length see ≤ c → (own₁ ≡ freed see own) × (cells₁ ≡ emptied see d cells)
    unfolding freed emptied
    closed_all l = (
      ext_get_or 0 own₁ _ (k.many ∙ sym (length-tabulate (length own) _)) (λ j h.
          let i : j < length own = rw k.many at h in
          k.owner j ∙ rw (lt-ltb j c (omega (arith, i, w.many, l))) (sym (get_d_tabulate (length own) _ j 0 i))),
      ext_get_or 0 cells₁ _ (k.size ∙ sym (length-laid cells _ _)) (λ q h.
          let i : q < length cells = rw k.size at h in
          let c' : q / 2 ^ d < length own = chunk-lt d (length own) q (rw w.whole at i) in
          k.blank q i ∙ rw (lt-ltb (q / 2 ^ d) c (omega (arith, c', w.many, l))) (sym (laid-at cells (live_in (entry see) d) (λ q. 0) q i))),
    )

-- closed twice is closed once
pub freed-twice : (see own : List ℕ) → freed see (freed see own) ≡ freed see own
unfolding freed
freed-twice see own =
    let n = length-tabulate {A = ℕ} (length own) (λ c. cond (in_use (entry see) c) 0 (get_or own c 0)) in
    let m = length-tabulate {A = ℕ} (length (freed see own)) (λ c. cond (in_use (entry see) c) 0 (get_or (freed see own) c 0)) in
    ext_get_or 0 _ _ m (λ c h.
    let i : c < length (freed see own) = omega (arith, h, m) in
    let j : c < length own = omega (arith, i, n) in
    get_d_tabulate (length (freed see own)) _ c 0 i ∙ ap (λ (x : ℕ). cond (in_use (entry see) c) 0 x) (get_d_tabulate (length own) _ c 0 j)
    ∙ either (in_use (entry see) c) (get_or own c 0) ∙ sym (get_d_tabulate (length own) _ c 0 j))
  where
    either : (b : Bool) (x : ℕ) → cond b 0 (cond b 0 x) ≡ cond b 0 x
    either true x = refl
    either false x = refl

-- A party's chunks, by the owners that it sees.
module _ (w : Party) where
  pub closable : (own see cells : List ℕ) (d : ℕ) → see ≡ view w own → length own ≤ 4096 → d ≤ 10 → length cells ≡ length own * 2 ^ d
      → ClosableAll see own cells d
  closable own see cells d e few small whole = record { many = ap length e ∙ length-view w own; few = few; size = small; whole = whole }

  length-freed : (see own : List ℕ) → length (freed see own) ≡ length own
  unfolding freed
  length-freed see own = length-tabulate (length own) _

  -- the owners are freed already
  pub closable-again : (own own' see cells : List ℕ) (d : ℕ) → see ≡ view w own → own' ≡ freed see own → length own ≤ 4096 → d ≤ 10
      → length cells ≡ length own * 2 ^ d → ClosableAll see own' cells d
  closable-again own own' see cells d e f few small whole =
      let n : length own' ≡ length own = ap length f ∙ length-freed see own in
      record {
        many = ap length e ∙ length-view w own ∙ sym n;
        few = omega (arith, few, n);
        size = small;
        whole = whole ∙ ap (λ (k : ℕ). k * 2 ^ d) (sym n);
      }

  pub cleared : (g : Geometry) (second third own2 own3 long2 : List ℕ) {see2 see3 second' third' own2' own2'' own3' long2' : List ℕ}
      → see2 ≡ view w own2 → see3 ≡ view w own3
      → own2' ≡ freed see2 own2 → second' ≡ emptied see2 (bits2 g) second
      → own2'' ≡ freed see2 own2' → long2' ≡ emptied see2 (bits2 g) long2
      → own3' ≡ freed see3 own3 → third' ≡ emptied see3 (bits3 g) third
      → SideCleared w g second third own2 own3 long2 second' third' own2'' own3' long2'
  cleared g second third own2 own3 long2 {see2} {see3} v2 v3 f2 c2 f2' l2 f3 c3 = record {
    cells2 = c2 ∙ ap (λ (x : List ℕ). emptied x (bits2 g) second) v2;
    cells3 = c3 ∙ ap (λ (x : List ℕ). emptied x (bits3 g) third) v3;
    freed2 = f2' ∙ ap (freed see2) f2 ∙ freed-twice see2 own2 ∙ ap (λ (x : List ℕ). freed x own2) v2;
    freed3 = f3 ∙ ap (λ (x : List ℕ). freed x own3) v3;
    counts2 = l2 ∙ ap (λ (x : List ℕ). emptied x (bits2 g) long2) v2;
  }
