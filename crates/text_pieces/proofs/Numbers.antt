-- A number's digits on a page: those of its tenth part, where it has one, and then the last.
use mathlib.Core.Path.{◌≡◌}
use mathlib.Core.Bool.{cond}
use mathlib.Core.Logic.{◌⊎◌, inl, inr}
use mathlib.Core.List.{List, [], ◌∷◌, ◌++◌}
use Prim.Native.Nat.{ℕ, ◌+◌, ◌/◌, ◌%◌, ◌≤◌, ◌<◌}
use native.Mathlib.Omega.{arith}
use lib.Dec.{ltb}
use borrow.Author.Tests.{lt-ltb, le-ltb}
use Rattle.bits.proofs.Bools.{below?}
use Rattle.text_pieces.specs.declared.page.Page.{Page}
use Rattle.text_pieces.specs.Digits.{digits_of}
use Rattle.text_pieces.specs.Page.{Room, Writes}
use Rattle.text_pieces.specs.Wrote.{TextRoom}
use Rattle.text_pieces.proofs.Digits.{digits-one, digits_more}
use Rattle.text_pieces.proofs.Pages.{writes-none, writes-more, room_rest}
use Rattle.text_pieces.proofs.Writes.{room-first}

-- the digits before the last
abbrev heads : ℕ → List ℕ
heads n = cond (ltb n 10) [] (digits_of (n / 10))

heads-last : (n : ℕ) → digits_of n ≡ heads n ++ ((48 + n % 10) ∷ [])
heads-last n = go (below? n 10)
  where
    go : (n < 10) ⊎ (10 ≤ n) → digits_of n ≡ heads n ++ ((48 + n % 10) ∷ [])
    go (inl h) =
        let r : n % 10 ≡ n = omega arith in
        rw (lt-ltb n 10 h, r) (digits-one n h)
    go (inr h) = rw (le-ltb n 10 h) (digits_more n h)

pub room_tenth : {o : List ℕ} {at : ℕ} (n : ℕ) → 10 ≤ n → TextRoom o at (digits_of n) → TextRoom o at (digits_of (n / 10))
room_tenth n h r = room-first _ _ (rw (digits_more n h) at r)

module _ {p q : Page} (n : ℕ) where
  pub writes-no_heads : n < 10 → Room p (digits_of n) → q ≡ p → Writes p (heads n) q
  writes-no_heads h r e = rw (lt-ltb n 10 h, e) (writes-none (digits_of n) r)

  pub writes-heads : {r : Page} → 10 ≤ n → Writes p (digits_of (n / 10)) r → q ≡ r → Writes p (heads n) q
  writes-heads h w e = rw (le-ltb n 10 h, e) w

  pub room_last : Room p (digits_of n) → Writes p (heads n) q → Room q ((48 + n % 10) ∷ [])
  room_last r w = room_rest (rw (heads-last n) at r) w

  pub writes-last : {r : Page} → Writes p (heads n) q → Writes q ((48 + n % 10) ∷ []) r → Writes p (digits_of n) r
  writes-last u v = rw (heads-last n) (writes-more u v)
