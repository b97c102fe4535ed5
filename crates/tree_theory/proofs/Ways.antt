-- The way down a path, step by step; and what the bits of a node say where arrays hold routes.
use mathlib.Core.Path.{◌≡◌, refl, sym, ◌∙◌, ap, ap₂, subst}
use mathlib.Core.Bool.{Bool, true, false}
use mathlib.Core.List.{List}
use Prim.Native.Nat.{ℕ, suc, ◌+◌, ◌*◌, ◌/◌, ◌%◌, ◌^◌, ◌≤◌, ◌<◌}
use native.Mathlib.Numerals.{add-one}
use native.Mathlib.Omega.{arith}
use lib.ListN.{length}
use borrow.Author.Tests.{eq-eqb}
use Rattle.bits.specs.Bit.{bit_at}
use Rattle.bits.specs.Count.{bit}
use Rattle.bits.specs.Slot.{slot}
use Rattle.bits.proofs.Slots.{slot-up, slot-zero}
use Rattle.bits.proofs.Bools.{both}
use Rattle.tree_image.specs.Node.{bits_of, child_of, is_set, child_at}
use Rattle.tree_image.specs.Image.{node, inner, image_by}
use Rattle.tree_image.proofs.Nodes.{inner-bit, child-bit}
use Rattle.tree_same.specs.Read.{reached, leads}
use Rattle.tree_same.specs.Order.{Order, stands_at}
use Rattle.tree_same.specs.Holding.{Holding}
use Rattle.tree_same.proofs.Back.{Shaped, bit-set-is, leads-is}
use Rattle.tree_same.proofs.Holdings.{holds-image, holds-done}
use Rattle.tree_formed.proofs.Held.{fewer-exts, exts-next, exts-mono}
use Rattle.tree_theory.specs.Stages.{Descent}

-- ---- step by step

-- node x is the one of depth m of the path
pub record WayDown (ws : List ℕ) (n a x m : ℕ) : Type 0 where
  pub inside : x < n
  pub at : x ≡ reached ws m (slot (4 * m) a)
  pub stands : leads ws m (slot (4 * m) a) ≡ true

pub walk_start : (ws : List ℕ) (n a : ℕ) → Order ws n → a < 2 ^ 32 → WayDown ws n a 0 0
unfolding reached leads
walk_start ws n a o l = record { inside = omega (arith, o.whole); at = refl; stands = eq-eqb (slot 0 a) 0 (slot-zero 0 a l refl) }

module _ (ws : List ℕ) (n a x m c y : ℕ) (o : Order ws n) (w : WayDown ws n a x m) (fits : bits_of ws x < 2 ^ 32) (deep : m < 8)
    (turn : c ≡ slot (4 * (m + 1)) a % 16) (set : is_set (bits_of ws x) (16 + c) ≡ true) (place : y ≡ child_at (bits_of ws x) (child_of ws x) c) where
  abbrev p : ℕ
  p = slot (4 * suc m) a

  parent : p / 16 ≡ slot (4 * m) a
  parent = let e : 4 * suc m ≡ 4 * m + 4 = omega arith in ap (λ (z : ℕ). slot z a / 16) e ∙ slot-up (4 * m) 4 a (omega arith)

  its-turn : c ≡ p % 16
  its-turn = turn ∙ ap (λ (z : ℕ). slot (4 * z) a % 16) (add-one m)

  its-node : x ≡ reached ws m (p / 16)
  its-node = w.at ∙ ap (reached ws m) (sym parent)

  stepped : WayDown ws n a y (suc m)
  unfolding reached leads
  stepped = record {
    inside =
        omega (
          arith,
          place,
          o.child x w.inside,
          fewer-exts (bits_of ws x) c fits (omega (arith, its-turn)) set,
          exts-next ws x,
          exts-mono ws (suc x) n w.inside,
          o.whole,
        );
    at = place ∙ ap₂ (λ (z d : ℕ). child_at (bits_of ws z) (child_of ws z) d) its-node its-turn;
    stands =
        both (subst (λ (z : ℕ). leads ws m z ≡ true) (sym parent) w.stands)
        (subst (λ (z : ℕ). is_set (bits_of ws z) (16 + p % 16) ≡ true) its-node (subst (λ (d : ℕ). is_set (bits_of ws x) (16 + d) ≡ true) its-turn set));
  }

  pub walk-next : WayDown ws n a y (m + 1)
  walk-next = subst (WayDown ws n a y) (sym (add-one m)) stepped

pub walk_end : (ws : List ℕ) (n a deep x m : ℕ) → WayDown ws n a x m → deep ≤ m → m ≤ deep → Descent ws n a deep x deep
walk_end ws n a deep x m w l u =
    let q : m ≡ deep = omega arith in
    subst (λ (z : ℕ). Descent ws n a deep x z) q
    (record { upto = u; inside = w.inside; at = w.at; stands = w.stands; stop = λ v. absurd (omega arith) })

pub walk-stop : (ws : List ℕ) (n a deep x m c : ℕ) → WayDown ws n a x m → m < deep → c ≡ slot (4 * (m + 1)) a % 16 → is_set (bits_of ws x) (16 + c) ≡ false
    → Descent ws n a deep x m
walk-stop ws n a deep x m c w l e f = record {
  upto = omega arith;
  inside = w.inside;
  at = w.at;
  stands = w.stands;
  stop = λ v. subst (λ (d : ℕ). is_set (bits_of ws x) (16 + d) ≡ false) e f;
}

-- ---- the bits of a node that stands

module _ {st : ℕ → ℕ → Bool} {hop : ℕ → ℕ → ℕ} {ws hs : List ℕ} {n : ℕ} (f : Shaped st hop) (h : Holding st hop ws hs n) where
  pub held-leads : (m p : ℕ) → leads ws m p ≡ stands_at st m p
  unfolding image_by
  held-leads m p =
      let i = holds-image st hop ws hs n f.agree.nine h in
      let k = holds-done st hop ws hs n f.agree.nine h in
      subst (λ (v : List ℕ). leads v m p ≡ stands_at st m p) (sym i.0) (leads-is st hop f (length ws) (length hs) k.words_room k.hops_room m p).0

  pub child-held : (m p c : ℕ) → stands_at st m p ≡ true → c < 16 → is_set (bits_of ws (reached ws m p)) (16 + c) ≡ st (suc m) (p * 16 + c)
  child-held m p c e l =
      bit-set-is (bits_of ws (reached ws m p)) (16 + c) (st (suc m) (p * 16 + c))
      (ap (λ (z : ℕ). bit_at z (16 + c)) (h.right m p e) ∙ child-bit st hop (node m p) c l ∙ ap (λ (z : ℕ). bit (st z (p * 16 + c))) (add-one m))

  pub inner-held : (m p b : ℕ) → stands_at st m p ≡ true → b < 15 → is_set (bits_of ws (reached ws m p)) b ≡ inner hop (node m p) b
  inner-held m p b e l =
      bit-set-is (bits_of ws (reached ws m p)) b (inner hop (node m p) b) (ap (λ (z : ℕ). bit_at z b) (h.right m p e) ∙ inner-bit st hop (node m p) b l)
