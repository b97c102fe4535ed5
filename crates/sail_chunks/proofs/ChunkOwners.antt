-- A search for a chunk, a prefix that alone needs one, and a chunk hung or closed.
use mathlib.Core.Path.{◌≡◌, refl, sym, ◌∙◌}
use mathlib.Core.Logic.{◌⊎◌, inl, inr, ◌≢◌}
use mathlib.Core.Bool.{Bool, true, false, not, true≢false}
use mathlib.Core.List.{List}
use Prim.Native.Nat.{ℕ, suc, ◌+◌, ◌*◌, ◌^◌, ◌≤◌, ◌<◌}
use native.Mathlib.Omega.{arith}
use native.Mathlib.Nat.{mul-le-mul_right, suc-mul, one-mul}
use lib.Dec.{ltb}
use lib.ListN.{get_or, length, set, length-set, get_or-eq_default}
use lib.Seq.{get_or-set_same, get_or-set_other}
use borrow.Author.Tests.{ltb-true, lt-ltb, not-true}
use Rattle.bits.specs.Slot.{slot}
use Rattle.bits.proofs.Bools.{equal?, below?, decided, and_split}
use Rattle.standing.specs.Cells.{long}
use Rattle.routes.specs.declared.Route.{Route}
use Rattle.buffers.specs.Fill.{filled, Range}
use Rattle.sail.specs.Level.{chunks_of}
use Rattle.sail_theory.specs.Render.{find}
use Rattle.sail_theory.proofs.owners.Chunks.{chunk-is, chunk-none}
use Rattle.sail_chunks.specs.Chunks.{with_owner, without_owner, blanked, alone, Closing}

-- no owner before c is o
abbrev pub Others : List ℕ → ℕ → ℕ → Type 0
Others own o c = (j : ℕ) → j < c → get_or own j 0 ≢ o

pub named_here : (own : List ℕ) (o c : ℕ) → c < length own → Others own o c → get_or own c 0 ≡ o → (c ≡ find own o) × (c ≤ length own)
named_here own o c l u e = (sym (chunk-is (chunks_of own) o c l e u), omega arith)

pub named-nowhere : (own : List ℕ) (o : ℕ) → Others own o (length own) → (length own ≡ find own o) × (length own ≤ length own)
named-nowhere own o u = (sym (chunk-none (chunks_of own) o u), omega arith)

-- a prefix that alone needs a chunk of level p is longer than p, and its cell is not long
module _ (rs : List Route) (p a len : ℕ) where
  pub alone-parts : alone rs p a len ≡ true → (ltb p len ≡ true) × (long rs p (slot p a) ≡ false)
  unfolding alone
  alone-parts e = let k = and_split (ltb p len) (not (long rs p (slot p a))) e in (k.0, not-true _ k.1)

  pub alone-longer : alone rs p a len ≡ true → p < len
  alone-longer e = ltb-true p len (alone-parts e).0

  pub is-alone : ltb p len ≡ true → long rs p (slot p a) ≡ false → alone rs p a len ≡ true
  unfolding alone
  is-alone h d = rw (h, d)

  pub not-alone : p < len → alone rs p a len ≡ false → long rs p (slot p a) ≡ true
  not-alone h e = go (decided (long rs p (slot p a)))
    where
      go : (long rs p (slot p a) ≡ true) ⊎ (long rs p (slot p a) ≡ false) → long rs p (slot p a) ≡ true
      go (inl d) = d
      go (inr d) = absurd (true≢false (sym (is-alone (lt-ltb p len h) d) ∙ e))

-- a chunk hung, or not
pub hang-on : (own own' : List ℕ) (b : Bool) (c o : ℕ) → b ≡ true → own' ≡ set own c o → own' ≡ with_owner b c o own
unfolding with_owner
hang-on own own' b c o h w = rw (w, h)

pub hang-off : (own : List ℕ) (b : Bool) (c o : ℕ) → b ≡ false → own ≡ with_owner b c o own
unfolding with_owner
hang-off own b c o h = rw h

-- a chunk closed, or not
module _ (b : Bool) (own cells : List ℕ) (c d : ℕ) where
  pub close-range : Closing b own cells c d → b ≡ true → (a n : ℕ) → a ≡ c * 2 ^ d → n ≡ 1 * 2 ^ d → Range a (a + n) (length cells)
  close-range k h a n e f = record {
    rises = omega arith;
    fits = omega (arith, k.whole, mul-le-mul_right (2 ^ d) (k.one h), suc-mul c (2 ^ d));
  }

  pub close-on : (own' cells' : List ℕ) (a n : ℕ) → b ≡ true → own' ≡ set own c 0 → a ≡ c * 2 ^ d → n ≡ 1 * 2 ^ d → cells' ≡ filled cells a (a + n) 0
      → (own' ≡ without_owner b c own) × (cells' ≡ blanked b c d cells)
  unfolding without_owner blanked
  close-on own' cells' a n h w e f z = (rw (w, h), rw (z, h, e, f, one-mul))

  pub close-off : b ≡ false → (own ≡ without_owner b c own) × (cells ≡ blanked b c d cells)
  unfolding without_owner blanked
  close-off h = (rw h, rw h)

-- an owner that is there after a chunk was hung from z was there before, unless it is the new one
pub hung-was : (own : List ℕ) (b : Bool) (k z c x : ℕ) → get_or (with_owner b k (suc z) own) c 0 ≡ suc x → (b ≡ true → x ≢ z) → get_or own c 0 ≡ suc x
unfolding with_owner
hung-was own false k z c x e other = e
hung-was own true k z c x e other = go (equal? c k) (below? c (length own))
  where
    go : (c ≡ k) ⊎ (c ≢ k) → (c < length own) ⊎ (length own ≤ c) → get_or own c 0 ≡ suc x
    go (inr n) l = sym (get_or-set_other own k c (suc z) 0 n) ∙ e
    go (inl q) (inl l) = absurd (other refl (omega (arith, get_or-set_same own c (suc z) 0 l, rw (← q) at e)))
    go (inl q) (inr l) =
        let j : length (set own k (suc z)) ≤ c = rw length-set l in
        absurd (omega (arith, e, get_or-eq_default (set own k (suc z)) 0 j))
