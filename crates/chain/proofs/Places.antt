-- Places among words.
use mathlib.Core.Path.{◌≡◌, ap, ◌∙◌}
use mathlib.Core.Bool.{true, false}
use mathlib.Core.List.{List}
use Prim.Native.Nat.{ℕ, zero, suc, ◌+◌, ◌-◌, ◌*◌, ◌%◌, ◌^◌, ◌<◌, ◌≤◌}
use native.Mathlib.Nat.{not-suc-le-zero}
use native.Mathlib.Decide.{dec_lt}
use native.Mathlib.Omega.{arith}
use lib.ListN.{length, get_or, take, drop}
use lib.Seq.{get_or-take, get_or-drop, length-take-le}
use lib.Pow.{shl_exact, shl_lt, pow_mono}
use borrow.Author.Count.{below_none}
use borrow.Author.Tests.{ltb-true, ltb-false}
use Rattle.std.proofs.Common.{ltb, length-drop}
use Rattle.std.proofs.lemmas.List.{get_or_default}
use Rattle.std.specs.List.Sorted.{IsPartitionPoint, IsNonDecreasingBy}
use Rattle.chain.specs.Words.{key_in, Words}
use Rattle.chain.specs.Place.{KeysBelow, Between}

-- the keys rise
pub keys : (ws : List ℕ) → Words ws → (k j : ℕ) → j < k → k < length ws → key_in (get_or ws j 0) < key_in (get_or ws k 0)
keys ws good zero j h l = absurd (not-suc-le-zero h)
keys ws good (suc k) j h l = go (dec_lt j k) (keys ws good k j)
  where
    go : Dec (j < k) → (j < k → k < length ws → key_in (get_or ws j 0) < key_in (get_or ws k 0)) → key_in (get_or ws j 0) < key_in (get_or ws (suc k) 0)
    go (yes q) ih = omega (arith, ih q (omega arith), good.rises k l)
    go (no q) ih = let e : j ≡ k = omega arith in rw e (good.rises k l)

module _ {ws : List ℕ} {key lo hi : ℕ} (b : Between ws key lo hi) where
  -- half of the words are left
  pub upper : (mid : ℕ) → mid < hi → key_in (get_or ws mid 0) < key → Between ws key (mid + 1) hi
  upper mid m h = record { words = b.words; from = omega arith; to = b.to; below = λ j l. go j l (dec_lt j mid); above = b.above }
    where
      go : (j : ℕ) → j < mid + 1 → Dec (j < mid) → key_in (get_or ws j 0) < key
      go j l (yes d) = omega (arith, keys ws b.words mid j d (omega (arith, b.to)))
      go j l (no d) = let q : j ≡ mid = omega arith in rw q h

  pub lower : (mid : ℕ) → lo ≤ mid → mid < hi → key ≤ key_in (get_or ws mid 0) → Between ws key lo mid
  lower mid n m h = record { words = b.words; from = n; to = omega (arith, b.to); below = b.below; above = λ j l u. go j l u (dec_lt mid j) }
    where
      go : (j : ℕ) → mid ≤ j → j < length ws → Dec (mid < j) → key ≤ key_in (get_or ws j 0)
      go j l u (yes d) = omega (arith, keys ws b.words j mid d u)
      go j l u (no d) = let q : j ≡ mid = omega arith in rw q h

  pub met : hi ≤ lo → KeysBelow ws key lo
  met h = record { to = omega (arith, b.from, b.to); below = b.below; above = λ j l. b.above j (omega arith) }

pub all-between : (ws : List ℕ) (key : ℕ) → Words ws → Between ws key 0 (length ws)
all-between ws key good = record { words = good; from = omega arith; to = omega arith; below = below_none _; above = λ j l u. absurd (omega arith) }

-- the words from lo up to hi
abbrev pub part : List ℕ → ℕ → ℕ → List ℕ
part ws lo hi = take (hi - lo) (drop lo ws)

module _ {ws : List ℕ} {key lo hi : ℕ} (b : Between ws key lo hi) where
  part-long : length (part ws lo hi) ≡ hi - lo
  part-long = length-take-le (hi - lo) (drop lo ws) (omega (arith, length-drop lo ws, b.from, b.to))

  part-at : (k d : ℕ) → k < hi - lo → get_or (part ws lo hi) k d ≡ get_or ws (lo + k) d
  part-at k d l = get_or-take (hi - lo) (drop lo ws) k d l ∙ get_or-drop lo ws k d

  pub words-rise : IsNonDecreasingBy key_in (part ws lo hi)
  words-rise i j d u l = go (dec_lt i j)
    where
      m : j < hi - lo
      m = omega (arith, part-long)

      at : (k : ℕ) → k < hi - lo → get_or (part ws lo hi) k d ≡ get_or ws (lo + k) 0
      at k v = part-at k d v ∙ get_or_default ws (lo + k) d 0 (omega (arith, b.to))

      go : Dec (i < j) → key_in (get_or (part ws lo hi) i d) ≤ key_in (get_or (part ws lo hi) j d)
      go (yes v) = rw (at i (omega (arith, m)), at j m) (omega (arith, m, keys ws b.words (lo + j) (lo + i) (omega arith) (omega (arith, m, b.to))))
      go (no v) = let e : i ≡ j = omega arith in rw e (omega arith)

  -- the place among them at which the keys are no smaller any more
  pub halved : (r : ℕ) → r ≤ length (part ws lo hi)
      → IsPartitionPoint (λ w. ltb (key_in w) key ≡ true) (λ w. ltb (key_in w) key ≡ false) (part ws lo hi) r → KeysBelow ws key (lo + r)
  halved r l p = record { to = omega (arith, part-long, b.from, b.to); below = λ j u. under j u (dec_lt j lo); above = λ j u v. over j u v (dec_lt j hi) }
    where
      under : (j : ℕ) → j < lo + r → Dec (j < lo) → key_in (get_or ws j 0) < key
      under j u (yes d) = b.below j d
      under j u (no d) =
          let e : lo + (j - lo) ≡ j = omega arith in
          let t : get_or (part ws lo hi) (j - lo) 0 ≡ get_or ws j 0 = part-at (j - lo) 0 (omega (arith, part-long)) ∙ ap (λ (k : ℕ). get_or ws k 0) e in
          rw t at (ltb-true _ _ (p.0 (j - lo) 0 (omega arith) (omega arith)))

      over : (j : ℕ) → lo + r ≤ j → j < length ws → Dec (j < hi) → key ≤ key_in (get_or ws j 0)
      over j u v (no d) = b.above j (omega arith) v
      over j u v (yes d) =
          let e : lo + (j - lo) ≡ j = omega arith in
          let t : get_or (part ws lo hi) (j - lo) 0 ≡ get_or ws j 0 = part-at (j - lo) 0 (omega arith) ∙ ap (λ (k : ℕ). get_or ws k 0) e in
          rw t at (ltb-false _ _ (p.1 (j - lo) 0 (omega arith) (omega (arith, part-long))))

-- the place of a smaller key is where to go on from
pub on-from : (ws : List ℕ) (a b r : ℕ) → a ≤ b → Words ws → KeysBelow ws a r → Between ws b r (length ws)
on-from ws a b r l good p = record {
  words = good;
  from = p.to;
  to = omega arith;
  below = λ j u. omega
      (arith, p.below j u);
  above = λ j h u. absurd (omega arith);
}

-- a greater key has a later place
pub place-rises : (ws : List ℕ) (a b r s : ℕ) → a ≤ b → KeysBelow ws a r → KeysBelow ws b s → r ≤ s
place-rises ws a b r s l p q = go (dec_lt s r)
  where
    go : Dec (s < r) → r ≤ s
    go (yes d) = absurd (omega (arith, p.below s d, q.above s (omega arith) (omega (arith, p.to))))
    go (no d) = omega arith

-- a number of j digits, shifted
pub shifted-is : (i j k : ℕ) → i < 2 ^ j → j + k ≤ 32 → (i * 2 ^ k % 2 ^ 64 ≡ i * 2 ^ k) × (i * 2 ^ k % 2 ^ 64 < 4294967296)
shifted-is i j k h l =
    let a = shl_lt j k h in
    let b = pow_mono l in
    let e : i * 2 ^ k % 2 ^ 64 ≡ i * 2 ^ k = shl_exact j k 64 h (omega arith) in
    (e, omega arith)
