-- Texts on a page, one after the other.
use mathlib.Core.Path.{◌≡◌, refl, sym, ap, ◌∙◌}
use mathlib.Core.List.{List, [], ◌++◌}
use Prim.Native.Nat.{ℕ, ◌+◌, ◌≤◌}
use lib.ListN.{length}
use native.Mathlib.Omega.{arith}
use Rattle.text_pieces.specs.declared.page.Page.{Page}
use Rattle.text_pieces.specs.Page.{Room, Writes}
use Rattle.text_pieces.specs.Wrote.{Wrote}
use Rattle.text_pieces.proofs.Writes.{length-spelled, wrote_none, wrote-more, room-then}

-- nothing, where there is room for something
pub writes-none : {p : Page} (s : List ℕ) → Room p s → Writes p [] p
writes-none s r = record { wrote = wrote_none (omega (arith, r.room)); same = refl }

module _ {p q : Page} {s t : List ℕ} where
  pub writes-more : {r : Page} → Writes p s q → Writes q t r → Writes p (s ++ t) r
  writes-more u v = record { wrote = wrote-more u.wrote v.wrote; same = v.same ∙ u.same }

  -- room for both is room for the second after the first
  pub room_rest : Room p (s ++ t) → Writes p s q → Room q t
  room_rest r w = room-then s t r w.wrote

-- what a caller's buffer holds who lent it to a page, by the law that a lent buffer comes back
pub given-back : {p q : Page} {t x : List ℕ} → Writes p t q → (p.out.ghost_name ≡ q.out.ghost_name → x ≡ q.out.now) → Wrote p.out.now p.at t q.at x
given-back w e = rw (e (sym w.same)) w.wrote

-- a page keeps its length
pub length_after : {p q : Page} {t : List ℕ} → Writes p t q → p.at + length t ≤ length p.out.now → length q.out.now ≡ length p.out.now
length_after {p} {q} {t} w r = ap length w.wrote.holds ∙ length-spelled p.out.now p.at t r
