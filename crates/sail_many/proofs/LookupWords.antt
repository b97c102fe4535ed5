-- The words that come out at the end are the answers of lookups.
use mathlib.Core.Bool.{true, false, not}
use mathlib.Core.Logic.{◌⊎◌, inl, inr}
use mathlib.Core.Path.{◌≡◌, refl, sym, ap, ◌∙◌}
use Prim.Native.Nat.{ℕ, ◌/◌, ◌%◌, ◌^◌, ◌≤◌, ◌<◌}
use native.Mathlib.Omega.{arith}
use lib.ListN.{length, get_or}
use Rattle.bits.specs.Slot.{slot}
use Rattle.bits.proofs.Bools.{below?, decided}
use Rattle.sail.specs.Geometry.{bits2, bits3}
use Rattle.sail.specs.Lent.{Lent}
use Rattle.sail.specs.Sizes.{Sized}
use Rattle.sail.specs.Walk.{cell_place, one_of, leaf_said, found_said}
use Rattle.sail.specs.Word.{Word}
use Rattle.sail.specs.declared.geometry.Geometry.{Geometry}
use Rattle.sail.proofs.Words.{word-leaf}
use Rattle.sail.proofs.Steps.{leaf1, off1, leaf2, off2, leaf3, off3}
use Rattle.sail_step.specs.Words.{cell_word, chunk_of_word, word1, word2, word3, LevelsReady}
use Rattle.sail_step.proofs.Words.{down-not, down-on, last-stays, last-early, last-not, last_leaf, last_off}

-- the word of a cell: a leaf's is its answer and leads nowhere; another's has the top bit set, leads to its chunk, and tells how many were read
module _ (n v : ℕ) (b : v < 65536) (f : n ≤ 3) where
  leaf-is : 32768 ≤ v → Word (cell_word n v) (leaf_said n v)
  leaf-is h = word-leaf v n (cell_word n v) h b f (omega arith)

  leaf-low : 32768 ≤ v → cell_word n v < 2147483648
  leaf-low h = omega arith

  leaf-none : 32768 ≤ v → chunk_of_word (cell_word n v) ≡ 0
  leaf-none h = omega arith

  node-high : v < 32768 → 2147483648 ≤ cell_word n v
  node-high h = omega arith

  node-chunk : v < 32768 → chunk_of_word (cell_word n v) ≡ v
  node-chunk h = omega arith

  node-reads : cell_word n v / 256 % 256 ≡ n
  node-reads = omega arith

-- sizes that were checked are what the addresses ask for on their way
pub ready : (g : Geometry) (l : Lent) → Sized g l → LevelsReady g.p1 g.p2 l.first l.second (length l.own2) l.third (length l.own3)
ready g l s = record {
  firsts = record { low = omega (arith, s.valid); high = omega (arith, s.valid); cells = s.cells1 };
  below = record { deeper = omega (arith, s.valid); low = omega (arith, s.valid); high = omega (arith, s.valid) };
  seconds = record { cells = s.cells2; few = s.few2; size = omega (arith, s.valid) };
  thirds = record { cells = s.cells3; few = s.few3; size = omega (arith, s.valid) };
}

-- a word is the answer of a lookup, and fits 32 bits
pub record Answers (g : Geometry) (l : Lent) (a w : ℕ) : Type 0 where
  pub is : Word w (found_said g l a)
  pub fits : w < 2 ^ 32

answers_by : (g : Geometry) (l : Lent) (a w x : ℕ) → w ≡ x → x < 2 ^ 32 → Word x (found_said g l a) → Answers g l a w
answers_by g l a w x e f h = record { is = rw e h; fits = omega arith }

-- cells are of 16 bits
module _ (g : Geometry) (l : Lent) (a : ℕ) (sized : Sized g l) (b1 : (i : ℕ) → get_or l.first i 0 < 65536)
    (b2 : (i : ℕ) → get_or l.second i 0 < 65536) (b3 : (i : ℕ) → get_or l.third i 0 < 65536) where
  abbrev pub answer : ℕ
  answer = word3 g.p2 l.third (length l.own3) a (word2 g.p1 g.p2 l.second (length l.own2) a (word1 g.p1 l.first a))

  -- the first cell v1 leads on to the second, v2, and that to the third
  module _ (v1 v2 : ℕ) (e1 : v1 ≡ get_or l.first (slot g.p1 a) 0) (low1 : v1 < 32768) (on1 : one_of (length l.own2) v1 ≡ true)
      (e2 : v2 ≡ get_or l.second (cell_place (bits2 g) v1 (slot g.p2 a)) 0) (f2 : v2 < 65536) where
    at2 : word2 g.p1 g.p2 l.second (length l.own2) a (word1 g.p1 l.first a) ≡ cell_word 2 v2
    at2 = ap (λ (v : ℕ). word2 g.p1 g.p2 l.second (length l.own2) a (cell_word 1 v)) (sym e1)
        ∙ down-on g.p1 g.p2 l.second (length l.own2) a (cell_word 1 v1) v1 (node-chunk 1 v1 (omega arith) (omega arith) low1) on1
        ∙ ap (cell_word 2) (sym e2)

    to3 : (x : ℕ) → word3 g.p2 l.third (length l.own3) a (cell_word 2 v2) ≡ x → answer ≡ x
    to3 x e = ap (word3 g.p2 l.third (length l.own3) a) at2 ∙ e

    closed1 : not (one_of (length l.own2) v1) ≡ false
    closed1 = ap not on1

    second_leaf : 32768 ≤ v2 → Answers g l a answer
    second_leaf h =
        answers_by g l a answer (cell_word 2 v2) (to3 _ (last-stays _ _ _ _ _ (leaf-low 2 v2 f2 (omega arith) h))) (omega arith)
        (leaf2 g l a sized v1 e1 (one_of (length l.own2) v1) refl low1 closed1 v2 e2 (cell_word 2 v2) h (leaf-is 2 v2 f2 (omega arith) h))

    module _ (low2 : v2 < 32768) where
      second-off : one_of (length l.own3) v2 ≡ false → Answers g l a answer
      second-off o =
          answers_by g l a answer 5
          (to3 _ (last-not _ _ _ _ _ (node-high 2 v2 f2 (omega arith) low2) (node-reads 2 v2 f2 (omega arith)) v2
          (node-chunk 2 v2 f2 (omega arith) low2) o)) (omega arith)
          (off2 g l a sized v1 e1 (one_of (length l.own2) v1) refl low1 closed1 v2 e2 (one_of (length l.own3) v2) refl low2 (ap not o))

      module _ (on2 : one_of (length l.own3) v2 ≡ true) (v3 : ℕ) (e3 : v3 ≡ get_or l.third (cell_place (bits3 g) v2 a) 0) (f3 : v3 < 65536) where
        third-leaf : 32768 ≤ v3 → Answers g l a answer
        third-leaf h =
            answers_by g l a answer (cell_word 3 v3)
            (to3 _ (last_leaf _ _ _ _ _ (node-high 2 v2 f2 (omega arith) low2) (node-reads 2 v2 f2 (omega arith)) v2
            (node-chunk 2 v2 f2 (omega arith) low2) on2 v3 e3 h)) (omega arith)
            (leaf3 g l a sized v1 e1 (one_of (length l.own2) v1) refl low1 closed1 v2 e2 (one_of (length l.own3) v2) refl low2 (ap not on2) v3 e3
            (cell_word 3 v3) h (leaf-is 3 v3 f3 (omega arith) h))

        third-off : v3 < 32768 → Answers g l a answer
        third-off h =
            answers_by g l a answer 5
            (to3 _ (last_off _ _ _ _ _ (node-high 2 v2 f2 (omega arith) low2) (node-reads 2 v2 f2 (omega arith)) v2
            (node-chunk 2 v2 f2 (omega arith) low2) on2 v3 e3 h)) (omega arith)
            (off3 g l a sized v1 e1 (one_of (length l.own2) v1) refl low1 closed1 v2 e2 (one_of (length l.own3) v2) refl low2 (ap not on2) v3 e3 h)

  module _ (v1 : ℕ) (e1 : v1 ≡ get_or l.first (slot g.p1 a) 0) (f1 : v1 < 65536) where
    -- the word of the first cell stays
    at1 : (x : ℕ) → one_of (length l.own2) (chunk_of_word (cell_word 1 v1)) ≡ false → word3 g.p2 l.third (length l.own3) a (cell_word 1 v1)
        ≡ x → answer ≡ x
    at1 x o e =
        ap (λ (v : ℕ). word3 g.p2 l.third (length l.own3) a (word2 g.p1 g.p2 l.second (length l.own2) a (cell_word 1 v))) (sym e1)
        ∙ ap (word3 g.p2 l.third (length l.own3) a) (down-not g.p1 g.p2 l.second (length l.own2) a (cell_word 1 v1) _ refl o) ∙ e

    first_leaf : 32768 ≤ v1 → Answers g l a answer
    first_leaf h =
        answers_by g l a answer (cell_word 1 v1) (at1 _ (ap (one_of (length l.own2)) (leaf-none 1 v1 f1 (omega arith) h))
        (last-stays _ _ _ _ _ (leaf-low 1 v1 f1 (omega arith) h))) (omega arith)
        (leaf1 g l a sized v1 e1 (cell_word 1 v1) h (leaf-is 1 v1 f1 (omega arith) h))

    first_off : v1 < 32768 → one_of (length l.own2) v1 ≡ false → Answers g l a answer
    first_off h o =
        answers_by g l a answer 5
        (at1 _ (ap (one_of (length l.own2)) (node-chunk 1 v1 f1 (omega arith) h) ∙ o)
        (last-early _ _ _ _ _ (node-high 1 v1 f1 (omega arith) h) (λ q. omega (arith, node-reads 1 v1 f1 (omega arith))))) (omega arith)
        (off1 g l a sized v1 e1 (one_of (length l.own2) v1) refl h (ap not o))

  pub answer-is : Answers g l a answer
  answer-is = go1 (below? v1 32768) (decided (one_of (length l.own2) v1))
    where
      v1 : ℕ
      v1 = get_or l.first (slot g.p1 a) 0

      v2 : ℕ
      v2 = get_or l.second (cell_place (bits2 g) v1 (slot g.p2 a)) 0

      v3 : ℕ
      v3 = get_or l.third (cell_place (bits3 g) v2 a) 0

      go3 : v1 < 32768 → one_of (length l.own2) v1 ≡ true → v2 < 32768 → one_of (length l.own3) v2 ≡ true → (v3 < 32768) ⊎ (32768 ≤ v3)
          → Answers g l a answer
      go3 h o i p (inl j) = third-off v1 v2 refl h o refl (b2 _) i p v3 refl (b3 _) j
      go3 h o i p (inr j) = third-leaf v1 v2 refl h o refl (b2 _) i p v3 refl (b3 _) j

      go2 : v1 < 32768 → one_of (length l.own2) v1 ≡ true → (v2 < 32768) ⊎ (32768 ≤ v2) → (one_of (length l.own3) v2 ≡ true) ⊎
          (one_of (length l.own3) v2 ≡ false) → Answers g l a answer
      go2 h o (inr i) _ = second_leaf v1 v2 refl h o refl (b2 _) i
      go2 h o (inl i) (inr p) = second-off v1 v2 refl h o refl (b2 _) i p
      go2 h o (inl i) (inl p) = go3 h o i p (below? v3 32768)

      go1 : (v1 < 32768) ⊎ (32768 ≤ v1) → (one_of (length l.own2) v1 ≡ true) ⊎ (one_of (length l.own2) v1 ≡ false) → Answers g l a answer
      go1 (inr h) _ = first_leaf v1 refl (b1 _) h
      go1 (inl h) (inr o) = first_off v1 refl (b1 _) h o
      go1 (inl h) (inl o) = go2 h o (below? v2 32768) (decided (one_of (length l.own3) v2))
