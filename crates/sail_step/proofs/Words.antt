-- One word and one step of it.
use Rattle.std.proofs.Common.{◌≡◌, ℕ, ◌+◌, ◌-◌, ◌/◌, ◌%◌, ◌^◌, ◌<◌, ◌≤◌, true, false, ◌⊎◌, List, length, get_or, set, sym, refl, ap, ◌∙◌, inl, inr, arith, length-set, get_or-set_other, get_or-set_same, eq-eqb, ne_eqb, le-leb}
use lib.Seq.{set-get_or}
use borrow.Author.Tests.{lt-leb}
use Rattle.bits.specs.Slot.{slot}
use Rattle.bits.proofs.Slots.{slot_lt}
use Rattle.bits.proofs.Bools.{below?}
use Rattle.sail.specs.Pool.{Chunk}
use Rattle.sail.specs.Walk.{cell_place, one_of}
use Rattle.sail_step.specs.Words.{cell_word, chunk_of_word, word2, word3, third_word, put, turned, Firsts, Whole, Points}

-- the first cell of an address is there
pub first-there : (p1 n a : ℕ) → Firsts p1 n → a < 2 ^ 32 → slot p1 a < n
first-there p1 n a h b = omega (arith, slot_lt p1 a (omega arith) b)

-- a chunk that is one of a pool's
pub chunk_of : (n m k c : ℕ) → Whole n m k → c < m → Chunk n m (c + 1) k
chunk_of n m k c h b = record { cells = h.cells; one = omega arith; last = omega arith; few = h.few; size = h.size }

-- one step of a word, by where it leads
module _ (p1 p2 : ℕ) (second : List ℕ) (m a w v : ℕ) (e : chunk_of_word w ≡ v) where
  pub down-not : one_of m v ≡ false → word2 p1 p2 second m a w ≡ w
  unfolding word2
  down-not o = rw (e, o)

  pub down-on : one_of m v ≡ true → word2 p1 p2 second m a w ≡ cell_word 2 (get_or second (cell_place (p2 - p1) v (slot p2 a)) 0)
  unfolding word2
  down-on o = rw (e, o)

module _ (p2 : ℕ) (third : List ℕ) (m a w : ℕ) where
  pub last-stays : w < 2147483648 → word3 p2 third m a w ≡ w
  unfolding word3
  last-stays h = rw (lt-leb 2147483648 w h)

  module _ (h : 2147483648 ≤ w) where
    pub last-early : (w / 256 % 256 ≡ 2 → ⊥) → word3 p2 third m a w ≡ 5
    unfolding word3
    last-early n = rw (le-leb 2147483648 w h, ne_eqb (w / 256 % 256) 2 n)

    module _ (r : w / 256 % 256 ≡ 2) (v : ℕ) (e : chunk_of_word w ≡ v) where
      pub last-not : one_of m v ≡ false → word3 p2 third m a w ≡ 5
      unfolding word3
      last-not o = rw (le-leb 2147483648 w h, eq-eqb (w / 256 % 256) 2 r, e, o)

      module _ (o : one_of m v ≡ true) (x : ℕ) (q : x ≡ get_or third (cell_place (32 - p2) v a) 0) where
        on-third : word3 p2 third m a w ≡ third_word x
        unfolding word3
        on-third = rw (le-leb 2147483648 w h, eq-eqb (w / 256 % 256) 2 r, e, o, q)

        pub last_leaf : 32768 ≤ x → word3 p2 third m a w ≡ cell_word 3 x
        unfolding third_word
        last_leaf f = on-third ∙ rw (le-leb 32768 x f)

        pub last_off : x < 32768 → word3 p2 third m a w ≡ 5
        unfolding third_word
        last_off f = on-third ∙ rw (lt-leb 32768 x f)

-- where a word leads, from the chunk that the code counts from 0
module _ (m w c : ℕ) (e : Points c w) (few : m ≤ 4096) where
  leads-is : c < m → chunk_of_word w ≡ c + 1
  leads-is b = omega arith

  leads-on : c < m → one_of m (c + 1) ≡ true
  leads-on b = rw (le-leb 1 (c + 1) (omega arith), le-leb (c + 1) m (omega arith))

  leads-off : m ≤ c → one_of m (chunk_of_word w) ≡ false
  leads-off b = go (below? (c + 32769) (2 ^ 64))
    where
      go : (c + 32769 < 2 ^ 64) ⊎ (2 ^ 64 ≤ c + 32769) → one_of m (chunk_of_word w) ≡ false
      go (inl f) = rw (le-leb 1 (chunk_of_word w) (omega arith), lt-leb (chunk_of_word w) m (omega arith))
      go (inr f) = rw (lt-leb 1 (chunk_of_word w) (omega arith))

  -- a step, as the code takes it
  pub goes_down : (p1 p2 : ℕ) (second : List ℕ) (a : ℕ) → c < m → (v : ℕ) → v ≡ get_or second (cell_place (p2 - p1) (c + 1) (slot p2 a)) 0 → (x : ℕ) → x
      ≡ cell_word 2 v → x ≡ word2 p1 p2 second m a w
  goes_down p1 p2 second a b v q x z = z ∙ ap (cell_word 2) q ∙ sym (down-on p1 p2 second m a w (c + 1) (leads-is b) (leads-on b))

  pub goes-not : (p1 p2 : ℕ) (second : List ℕ) (a : ℕ) → m ≤ c → w ≡ word2 p1 p2 second m a w
  goes-not p1 p2 second a b = sym (down-not p1 p2 second m a w (chunk_of_word w) refl (leads-off b))

  module _ (p2 : ℕ) (third : List ℕ) (a : ℕ) (h : 2147483648 ≤ w) (r : w / 256 % 256 ≡ 2) where
    pub off-second : m ≤ c → 5 ≡ word3 p2 third m a w
    off-second b = sym (last-not p2 third m a w h r (chunk_of_word w) refl (leads-off b))

    module _ (b : c < m) (v : ℕ) (q : v ≡ get_or third (cell_place (32 - p2) (c + 1) a) 0) where
      pub third-leaf : 32768 ≤ v → (x : ℕ) → x ≡ cell_word 3 v → x ≡ word3 p2 third m a w
      third-leaf f x z = z ∙ sym (last_leaf p2 third m a w h r (c + 1) (leads-is b) (leads-on b) v q f)

      pub off-third : v < 32768 → 5 ≡ word3 p2 third m a w
      off-third f = sym (last_off p2 third m a w h r (c + 1) (leads-is b) (leads-on b) v q f)

pub stays : (p2 : ℕ) (third : List ℕ) (m a w : ℕ) → w < 2147483648 → w ≡ word3 p2 third m a w
stays p2 third m a w h = sym (last-stays p2 third m a w h)

pub off-first : (p2 : ℕ) (third : List ℕ) (m a w : ℕ) → 2147483648 ≤ w → (w / 256 % 256 ≡ 2 → ⊥) → 5 ≡ word3 p2 third m a w
off-first p2 third m a w h n = sym (last-early p2 third m a w h n)

-- a step is put, or nothing is to be written
pub put_is : (f : ℕ → ℕ → ℕ) (j : ℕ) (out : List ℕ) (v : ℕ) → v ≡ f j (get_or out j 0) → set out j v ≡ put f j out
unfolding put
put_is f j out v e = ap (set out j) e

pub put-not : (f : ℕ → ℕ → ℕ) (j : ℕ) (out : List ℕ) → get_or out j 0 ≡ f j (get_or out j 0) → out ≡ put f j out
unfolding put
put-not f j out e = sym (set-get_or out j 0) ∙ ap (set out j) e

-- what a step leaves
module _ (f : ℕ → ℕ → ℕ) (j : ℕ) (out : List ℕ) where
  pub length-put : length (put f j out) ≡ length out
  unfolding put
  length-put = length-set out j (f j (get_or out j 0))

  pub put_same : j < length out → get_or (put f j out) j 0 ≡ f j (get_or out j 0)
  unfolding put
  put_same h = get_or-set_same out j (f j (get_or out j 0)) 0 h

  pub put_other : (k : ℕ) → (k ≡ j → ⊥) → get_or (put f j out) k 0 ≡ get_or out k 0
  unfolding put
  put_other k n = get_or-set_other out j k (f j (get_or out j 0)) 0 n

-- a turn is three steps
pub turned-is : (f1 : ℕ → ℕ) (f2 f3 : ℕ → ℕ → ℕ) (j : ℕ) (out xs ys zs : List ℕ) → xs ≡ put (λ k _. f1 k) (j + 16) out → ys ≡ put f2 (j + 8) xs
    → zs ≡ put f3 j ys → zs ≡ turned f1 f2 f3 j out
unfolding turned
turned-is f1 f2 f3 j out xs ys zs a b c = c ∙ ap (put f3 j) (b ∙ ap (put f2 (j + 8)) a)
