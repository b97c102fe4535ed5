-- How long a route's line is, and the text of its mark.
use mathlib.Core.Path.{◌≡◌}
use mathlib.Core.Bool.{Bool, true, false, cond}
use mathlib.Core.List.{List, []}
use Prim.Native.Nat.{ℕ, ◌+◌, ◌≤◌}
use native.Mathlib.Omega.{arith}
use lib.Dec.{eqb}
use lib.ListN.{length, length-append}
use borrow.Author.Tests.{eq-eqb, ne_eqb}
use Rattle.routes.specs.declared.Route.{Route}
use Rattle.routes.specs.Record.{Ranged}
use Rattle.text_pieces.specs.Digits.{digits_of}
use Rattle.text_pieces.specs.Pieces.{ascii, labelled, dotted}
use Rattle.text_pieces.specs.declared.page.Page.{Page}
use Rattle.text_pieces.specs.Page.{Room, Writes}
use Rattle.text_pieces.specs.Wrote.{TextRoom}
use Rattle.text_pieces.proofs.Digits.{digits-few}
use Rattle.text_pieces.proofs.Addresses.{dotted-few}
use Rattle.text_pieces.proofs.Pages.{writes-none}
use Rattle.text_routes.specs.RouteLine.{mark_text, route_line}

pub length-line : (r : Route) → length (route_line r) ≡ length (dotted r.addr) + (1 + length (digits_of r.len)) +
    (1 + length (digits_of r.hop)) + length (mark_text r.mark) + 1
unfolding route_line labelled ascii
length-line r = simp length-append (omega arith)

-- and how long it may be, by the numbers' types: 9 bytes a mark, 35 a route
mark-few : (m : ℕ) → length (mark_text m) ≤ 9
unfolding mark_text ascii
mark-few m = go (eqb m 1)
  where
    go : (b : Bool) → length (cond b (ascii " attached") []) ≤ 9
    go true = omega arith
    go false = omega arith

pub line-few : (r : Route) → Ranged r → length (route_line r) ≤ 35
line-few r ok =
    let l = ok.len_fits in
    let h = ok.hop_fits in
    rw length-line (omega (
      arith,
      dotted-few r.addr ok.addr_fits,
      digits-few 2 r.len (omega arith),
      digits-few 4 r.hop
          (omega arith),
      mark-few r.mark,
    ))

-- a mark's text, by the test of the mark
module _ {m : ℕ} where
  pub attached-room : {o : List ℕ} {at : ℕ} → m ≡ 1 → TextRoom o at (mark_text m) → TextRoom o at (ascii " attached")
  unfolding mark_text
  attached-room e r = rw (eq-eqb m 1 e) at r

  module _ {p q : Page} where
    pub attached-writes : m ≡ 1 → Writes p (ascii " attached") q → Writes p (mark_text m) q
    unfolding mark_text
    attached-writes e w = rw (eq-eqb m 1 e) w

    pub behind-writes : (m ≡ 1 → ⊥) → Room p (mark_text m) → q ≡ p → Writes p (mark_text m) q
    unfolding mark_text
    behind-writes h r e = rw (ne_eqb m 1 h, e) (writes-none (mark_text m) r)
