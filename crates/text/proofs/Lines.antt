-- How long a table's first line is, and a list's lines one by one.
use mathlib.Core.Path.{◌≡◌, refl, sym}
use Rattle.std.specs.Prelude.{Option, None, Some}
use mathlib.Core.List.{List, [], ◌∷◌, ◌++◌, append_assoc, append-nil}
use Prim.Native.Nat.{ℕ, ◌+◌, ◌^◌, ◌≤◌, ◌<◌}
use native.Mathlib.Numerals.{add-one}
use native.Mathlib.Omega.{arith}
use lib.ListN.{length, length-append}
use Rattle.bits.specs.Tab.{tabulate}
use Rattle.bits.proofs.Tabs.{tabulate-snoc}
use Rattle.routes.specs.declared.Route.{Route}
use Rattle.routes.specs.Record.{record_at, routes_of}
use Rattle.routes.specs.Said.{refused_by}
use Rattle.routes.proofs.Rows.{length-routes}
use Rattle.text_pieces.specs.Digits.{digits_of}
use Rattle.text_pieces.specs.Pieces.{ascii, labelled}
use Rattle.text_pieces.specs.declared.page.Page.{Page}
use Rattle.text_pieces.specs.Page.{Room, Writes}
use Rattle.text_pieces.proofs.Digits.{digits-few}
use Rattle.text_pieces.proofs.Pages.{writes-more, room_rest}
use Rattle.text_pieces.proofs.Writes.{wrote_none}
use Rattle.text_routes.specs.RouteLine.{route_line}
use Rattle.text.specs.Text.{route_lines, head_line, table_text, said_text}

pub length-head : (n s t : ℕ) → length (head_line n s t) ≡ 7 + length (digits_of n) + (8 + length (digits_of s)) + (7 + length (digits_of t)) + 1
unfolding head_line labelled ascii
length-head n s t = simp length-append (omega arith)

-- and how long it may be, by the numbers' types
pub head_few : (n s t : ℕ) → n < 2 ^ 64 → s < 2 ^ 32 → t < 2 ^ 32 → length (head_line n s t) ≤ 63
head_few n s t hn hs ht = rw length-head (omega (arith, digits-few 19 n (omega arith), digits-few 9 s (omega arith), digits-few 9 t (omega arith)))

-- one more line
lines_snoc : (rs : List Route) (r : Route) → route_lines (rs ++ (r ∷ [])) ≡ route_lines rs ++ route_line r
unfolding route_lines
lines_snoc [] r = append-nil (route_line r)
lines_snoc (x ∷ rs) r = rw (lines_snoc rs r) (sym (append_assoc (route_line x) (route_lines rs) (route_line r)))

lines_more : (s : List ℕ) (k : ℕ) → route_lines (routes_of s (k + 1)) ≡ route_lines (routes_of s k) ++ route_line (record_at s k)
unfolding routes_of
lines_more s k = rw (add-one k, tabulate-snoc k (record_at s)) (lines_snoc (routes_of s k) (record_at s k))

pub lines_none : (s : List ℕ) {p : Page} → p.at ≤ length p.out.now → Writes p (route_lines (routes_of s 0)) p
unfolding routes_of tabulate route_lines
lines_none s h = record { wrote = wrote_none h; same = refl }

pub lines-write : (s : List ℕ) (k : ℕ) (r : Route) {p q z : Page} → r ≡ record_at s k → Writes p (route_lines (routes_of s k)) q
    → Writes q (route_line r) z → Writes p (route_lines (routes_of s (k + 1))) z
lines-write s k r e u v = rw (lines_more s k, ← e) (writes-more u v)

pub table-writes : (s : List ℕ) (n k x y : ℕ) {p q z : Page} → k ≤ n → n ≤ k → Writes p (head_line n x y) q
    → Writes q (route_lines (routes_of s k)) z → Writes p (table_text (routes_of s n) x y) z
unfolding table_text
table-writes s n k x y l g u v =
    let e : k ≡ n = omega arith in
    rw (length-routes s n) (writes-more u (rw e at v))

-- the index in a refusal's line, where there is one
unfoldable pub index_text : Option ℕ → List ℕ
index_text None = []
index_text (Some k) = labelled " at " k

refusal-line : (n : ℕ) (i : Option ℕ) → said_text (refused_by n i) ≡ labelled "refused " n ++ index_text i ++ ascii "\n"
unfolding said_text index_text
refusal-line n None = rw append-nil refl
refusal-line n (Some k) = refl

-- The line up to its end, in a buffer of 64 bytes.
pub record Told (n : ℕ) (i : Option ℕ) (p q : Page) : Type 0 where
  pub writes : Writes p (labelled "refused " n ++ index_text i) q
  pub short : length (index_text i) ≤ 24

module _ {p q : Page} (n : ℕ) where
  pub room_index : n < 2 ^ 8 → p.at + 64 ≤ length p.out.now → (k : ℕ) → k < 2 ^ 64 → Writes p (labelled "refused " n) q → Room q (labelled " at " k)
  unfolding labelled ascii
  room_index h r k f w =
      room_rest (record { room = rw length-append (omega (arith, digits-few 2 n (omega arith), digits-few 19 k (omega arith))) }) w

  module _ (i : Option ℕ) where
    pub told-none : {z : Page} → i ≡ None → Writes p (labelled "refused " n) z → q ≡ z → Told n i p q
    unfolding index_text
    told-none e w f = rw (e, f) (record { writes = rw append-nil w; short = omega arith })

    pub told-index : {y z : Page} (k : ℕ) → k < 2 ^ 64 → i ≡ Some k → Writes p (labelled "refused " n) y → Writes y (labelled " at " k) z
        → q ≡ z → Told n i p q
    unfolding index_text labelled ascii
    told-index k h e u v f = rw (e, f) (record { writes = writes-more u v; short = omega (arith, digits-few 19 k (omega arith)) })

    pub room_end : n < 2 ^ 8 → p.at + 64 ≤ length p.out.now → Told n i p q → Room q (ascii "\n")
    unfolding labelled ascii
    room_end h r w =
        room_rest (record { room = rw (length-append, length-append) (omega (arith, digits-few 2 n (omega arith), w.short)) }) w.writes

    pub refusal-writes : {z : Page} → Told n i p q → Writes q (ascii "\n") z → Writes p (said_text (refused_by n i)) z
    refusal-writes u v = rw refusal-line (writes-more u.writes v)
