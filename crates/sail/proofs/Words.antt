-- A lookup's word: of a leaf, of a refusal, and read back.
use mathlib.Core.List.{[], ◌∷◌}
use mathlib.Core.Logic.{◌⊎◌, inl, inr, ◌≢◌}
use mathlib.Core.Path.{◌≡◌, refl, ap, ◌∙◌}
use Prim.Native.Nat.{ℕ, ◌+◌, ◌-◌, ◌*◌, ◌/◌, ◌%◌, ◌≤◌, ◌<◌}
use native.Mathlib.Omega.{arith}
use borrow.Author.Tests.{eq-eqb, ne_eqb, le-leb, lt-leb}
use Rattle.bits.proofs.Bools.{below?, equal?}
use Rattle.routes.specs.Said.{Said, accepted, refused}
use Rattle.standing.specs.Served.{hop_said}
use Rattle.sail.specs.Walk.{leaf_said}
use Rattle.sail.specs.Word.{packed, pack_found, said_of, Word, has_hop, hop_in_word}

pub word_of : (w : ℕ) (s t : Said) → s ≡ t → Word w s → Word w t
word_of w s t e h = record { packs = h.packs ∙ ap pack_found e; back = h.back ∙ e }

pub word-five : (t : Said) → refused 5 ≡ t → Word 5 t
unfolding packed said_of
word-five t e = word_of 5 (refused 5) t e (record { packs = refl; back = refl })

pub word-leaf : (v n r : ℕ) → 32768 ≤ v → v < 65536 → n ≤ 3 → r ≡ n * 256 + (v - 32768) * 65536 → Word r (leaf_said n v)
unfolding said_of hop_said packed
word-leaf v n r h b f e = go (below? (v - 32768) 1)
  where
    -- the three fields of the word
    low : r % 256 ≡ 0
    low = omega arith

    reads : r / 256 % 256 ≡ n
    reads = omega arith

    hop : r / 65536 ≡ v - 32768
    hop = omega arith

    go : (v - 32768 < 1) ⊎ (1 ≤ v - 32768) → Word r (leaf_said n v)
    go (inl z) =
        record { packs = rw (eq-eqb (v - 32768) 0 (omega arith)) (omega arith); back = rw (eq-eqb (r % 256) 0 low, reads, hop) }
    go (inr z) = record { packs = rw (ne_eqb (v - 32768) 0 (omega arith)) e; back = rw (eq-eqb (r % 256) 0 low, reads, hop) }

-- reading a word: a refusal's number, no route, a hop
module _ (w : ℕ) where
  pub says-number : (w % 256 ≡ 0 → ⊥) → refused (w % 256) ≡ said_of w
  unfolding said_of
  says-number n = rw (ne_eqb (w % 256) 0 n)

  module _ (e : w % 256 ≡ 0) (n : ℕ) (r : n ≡ w / 256 % 256) where
    pub says_none : w / 65536 ≡ 0 → accepted (n ∷ []) ≡ said_of w
    unfolding said_of hop_said
    says_none z = rw (eq-eqb (w % 256) 0 e, eq-eqb (w / 65536) 0 z, r)

    pub says-hop : (w / 65536 ≡ 0 → ⊥) → accepted (n ∷ w / 65536 ∷ []) ≡ said_of w
    unfolding said_of hop_said
    says-hop z = rw (eq-eqb (w % 256) 0 e, ne_eqb (w / 65536) 0 z, r)

-- a word of a lookup has a hop exactly where what it says has one
pub word-hop : (w : ℕ) (s : Said) → Word w s → hop_in_word w ≡ has_hop s
unfolding said_of hop_said
word-hop w s h = go (equal? (w % 256) 0) (below? w 65536) ∙ ap has_hop h.back
  where
    go : (w % 256 ≡ 0) ⊎ (w % 256 ≢ 0) → (w < 65536) ⊎ (65536 ≤ w) → hop_in_word w ≡ has_hop (said_of w)
    go (inr n) z = rw (ne_eqb (w % 256) 0 n)
    go (inl e) (inl z) = rw (eq-eqb (w % 256) 0 e, lt-leb 65536 w z, eq-eqb (w / 65536) 0 (omega arith))
    go (inl e) (inr z) = rw (eq-eqb (w % 256) 0 e, le-leb 65536 w z, ne_eqb (w / 65536) 0 (λ q. omega arith))
