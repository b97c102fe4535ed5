-- Arrays that hold routes are words that an edit may work on; and of the depths the first is not asked.
use mathlib.Core.Path.{◌≡◌, refl, ◌∙◌, ap, fun_ext}
use mathlib.Core.Bool.{Bool, false, cond}
use mathlib.Core.List.{List}
use Prim.Native.Nat.{ℕ, zero, suc, ◌+◌, ◌-◌, ◌*◌, ◌^◌, ◌<◌}
use native.Mathlib.Numerals.{add-one}
use lib.Dec.{ltb}
use Rattle.bits.specs.Bit.{packed_bits}
use Rattle.bits.proofs.Packed.{packed_lt}
use Rattle.tree_image.specs.Node.{bits_of}
use Rattle.tree_image.specs.Image.{Node, node, inner, child, set_bit, word}
use Rattle.tree_same.specs.Order.{ints, stands_at}
use Rattle.tree_same.specs.Holding.{Holding}
use Rattle.tree_same.proofs.Canonical.{canonical}
use Rattle.tree_hold.specs.Edits.{NodeWords}

-- the word of a node is a word
pub word_fits : (st : ℕ → ℕ → Bool) (hop : ℕ → ℕ → ℕ) (n : Node) → word st hop n < 2 ^ 32
unfolding word
word_fits st hop n = packed_lt (set_bit st hop n) 32

module _ {st : ℕ → ℕ → Bool} {hop : ℕ → ℕ → ℕ} {ws hs : List ℕ} {n : ℕ} (nine : (p : ℕ) → st 9 p ≡ false) (h : Holding st hop ws hs n) where
  pub bits_fit : (x : ℕ) → x < n → bits_of ws x < 2 ^ 32
  bits_fit x l = rw (canonical st hop ws nine n h.order h.right x l).0 (word_fits st hop _)

  pub held-words : NodeWords ws n (ints ws n)
  held-words = record { order = h.order; hops = refl; narrow = bits_fit; rest = h.rest }

-- which nodes stand is asked of the depths from 1 on alone
module _ (st st₁ : ℕ → ℕ → Bool) (hop : ℕ → ℕ → ℕ) (same : (m p : ℕ) → st (suc m) p ≡ st₁ (suc m) p) where
  stands_same : (m p : ℕ) → stands_at st m p ≡ stands_at st₁ m p
  unfolding stands_at
  stands_same zero p = refl
  stands_same (suc m) p = same m p

  word_same : (n : Node) → word st hop n ≡ word st₁ hop n
  unfolding word set_bit
  word_same n = ap (λ (f : ℕ → Bool). packed_bits f 32)
      (fun_ext (λ b. ap (λ (x : Bool). cond (ltb b 15) (inner hop n b) (cond (ltb b 16) false x)) (kid (b - 16))))
    where
      kid : (c : ℕ) → child st n c ≡ child st₁ n c
      kid c = rw (add-one n.depth) (same n.depth (n.path * 16 + c))

  pub holding-same : {ws hs : List ℕ} {n : ℕ} → Holding st hop ws hs n → Holding st₁ hop ws hs n
  holding-same h = record {
    order = h.order;
    right = λ m p e. h.right m p (stands_same m p ∙ e) ∙ word_same (node m p);
    put = λ m p b e l o. h.put m p b (stands_same m p ∙ e) l o;
    room = h.room;
    rest = h.rest;
    blank = h.blank;
  }
