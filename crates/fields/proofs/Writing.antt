-- The writer's loops: an entry byte by byte, and a field entry by entry.
use mathlib.Core.Path.{◌≡◌, refl, sym, ap, ◌∙◌}
use mathlib.Core.List.{List, [], ◌∷◌, ◌++◌, append_assoc, append-nil}
use Prim.Native.Nat.{ℕ, zero, suc, ◌+◌, ◌-◌, ◌*◌, ◌≤◌, ◌<◌}
use native.Mathlib.Nat.{add-zero, le_refl}
use native.Mathlib.Numerals.{add-one}
use native.Mathlib.Omega.{arith}
use lib.ListN.{length, get_or, take, drop, set, length-append, length-drop, get_or-eq_default}
use lib.Seq.{paste, paste-suc, length-paste, length-take-le, take_at, drop-append-add, drop-drop}
use Rattle.bits.specs.Tab.{tabulate}
use Rattle.routes.specs.Record.{record_at, routes_of, Records}
use Rattle.routes.specs.Route.{Good}
use Rattle.routes.specs.declared.Route.{Route}
use Rattle.routes.proofs.Rows.{routes-snoc}
use Rattle.fields.specs.Field.{bytes_for, entry_bytes, entry_of, field_of}
use Rattle.fields.specs.Written.{EntryRoom, EntryPut, FieldPut}

-- ---- an entry

pub byte-after : (a len k : ℕ) → 4 < k → 0 ≡ get_or (entry_bytes a len) k 0
byte-after a len k h = sym (get_or-eq_default (entry_bytes a len) 0 {n = k} (omega arith))

pub entry_more : (s : List ℕ) (at a len n k x : ℕ) (u : List ℕ) → at + n ≤ length s → n ≤ 5 → k < n → u ≡ paste s at (entry_bytes a len) k
    → x ≡ get_or (entry_bytes a len) k 0 → set u (at + k) x ≡ paste s at (entry_bytes a len) (k + 1)
entry_more s at a len n k x u room few h e q =
    rw (e, q) (paste-suc s at (entry_bytes a len) k 0 (omega arith) (omega arith) ∙ ap (paste s at (entry_bytes a len)) (sym (add-one k)))

pub same-long : (s : List ℕ) (at a len n k : ℕ) (u : List ℕ) → at + n ≤ length s → n ≤ 5 → k ≤ n → u ≡ paste s at (entry_bytes a len) k → length u ≡ length s
same-long s at a len n k u room few h e = ap length e ∙ length-paste s at (entry_bytes a len) k (omega arith) (omega arith)

-- ---- a field

pub length-entry : (a len : ℕ) → len ≤ 32 → length (entry_of a len) ≡ suc (bytes_for len)
length-entry a len h = length-take-le (suc (bytes_for len)) (entry_bytes a len) (omega arith)

-- an entry takes at most five bytes
pub field-most : (rs : List Route) → Good rs → length (field_of rs) ≤ 5 * length rs
unfolding field_of Good
field-most [] g = omega arith
field-most (r ∷ rs) g =
    omega (
      arith,
      field-most rs g.2,
      g.0.prefix.len_ok,
      length-append (entry_of r.addr r.len) (field_of rs),
      length-entry r.addr r.len g.0.prefix.len_ok,
    )

fields-append : (rs qs : List Route) → field_of (rs ++ qs) ≡ field_of rs ++ field_of qs
unfolding field_of
fields-append [] qs = refl
fields-append (r ∷ rs) qs = ap (λ (x : List ℕ). entry_of r.addr r.len ++ x) (fields-append rs qs) ∙ sym (append_assoc (entry_of r.addr r.len) (field_of rs) (field_of qs))

field-one : (r : Route) → field_of (r ∷ []) ≡ entry_of r.addr r.len
unfolding field_of
field-one r = append-nil _

-- the field of one record more
pub field-more : (s : List ℕ) (k : ℕ) → field_of (routes_of s (k + 1)) ≡ field_of (routes_of s k) ++ entry_of (record_at s k).addr (record_at s k).len
field-more s k =
    ap (λ (n : ℕ). field_of (routes_of s n)) (add-one k) ∙ ap field_of (routes-snoc s k) ∙ fields-append (routes_of s k) (record_at s k ∷ [])
    ∙ ap (λ (x : List ℕ). field_of (routes_of s k) ++ x) (field-one (record_at s k))

pub field-none : (s : List ℕ) → field_of (routes_of s 0) ≡ []
unfolding field_of routes_of tabulate
field-none s = refl

pub size-more : (s : List ℕ) (n k size m : ℕ) → Records s n → k < n → size ≡ length (field_of (routes_of s k)) → m ≡ bytes_for (record_at s k).len
    → (size + (1 + m) ≡ length (field_of (routes_of s (k + 1)))) × (m ≤ 4)
size-more s n k size m r h e q =
    let ok = (r.each k h).prefix.len_ok in (
      omega (
        arith,
        ap length (field-more s k),
        length-append (field_of (routes_of s k)) (entry_of (record_at s k).addr (record_at s k).len),
        length-entry (record_at s k).addr (record_at s k).len ok,
      ),
      omega arith,
    )

-- the field of the first k records is part of that of n
pub field-part : (s : List ℕ) (k d : ℕ) → length (field_of (routes_of s k)) ≤ length (field_of (routes_of s (k + d)))
field-part s k zero = rw (add-zero k) (le_refl _)
field-part s k (suc d) =
    let e : k + suc d ≡ k + d + 1 = omega arith in
    let more = ap length (field-more s (k + d)) ∙ length-append (field_of (routes_of s (k + d))) _ in
    rw e (omega (arith, field-part s k d, more))

module _ (s : List ℕ) (n k at : ℕ) (room : Records s n) (h : k < n) (e : at ≡ length (field_of (routes_of s k))) where
  abbrev a : ℕ
  a = (record_at s k).addr

  abbrev len : ℕ
  len = (record_at s k).len

  ok : len ≤ 32
  ok = (room.each k h).prefix.len_ok

  longer : length (field_of (routes_of s (k + 1))) ≡ at + suc (bytes_for len)
  longer = omega (arith, ap length (field-more s k), length-append (field_of (routes_of s k)) (entry_of a len), length-entry a len ok)

  -- there is room for the next entry
  pub next-room : (m : ℕ) → length (field_of (routes_of s n)) ≤ m → EntryRoom m at len
  next-room m u =
      let d : k + 1 + (n - (k + 1)) ≡ n = omega arith in
      record { len_ok = ok; room = omega (arith, longer, rw d at (field-part s (k + 1) (n - (k + 1)))) }

  -- and once it is put
  pub put-more : (out u v : List ℕ) (r : ℕ) → length (field_of (routes_of s n)) ≤ length out → u ≡ field_of (routes_of s k) ++ drop at out → EntryPut u at a len v r
      → (v ≡ field_of (routes_of s (k + 1)) ++ drop r out) × (r ≡ length (field_of (routes_of s (k + 1))))
  put-more out u v r fits q p =
      let F = field_of (routes_of s k) in
      let m = suc (bytes_for len) in
      let front : take at u ≡ F = ap (take at) q ∙ take_at F (drop at out) at (sym e) in
      let past : drop (at + m) u ≡ drop (at + m) out
      = ap (drop (at + m)) q ∙ ap (λ (x : ℕ). drop (x + m) (F ++ drop at out)) e ∙ drop-append-add F (drop at out) m ∙ drop-drop m at out in
      let is : v ≡ F ++ entry_of a len ++ drop (at + m) out = p.put ∙ rw (front, past) in
      (rw (field-more s k, p.next) is, p.next ∙ sym longer)

-- all n records
pub field-all : (s : List ℕ) (n k : ℕ) → k ≤ n → n ≤ k → field_of (routes_of s k) ≡ field_of (routes_of s n)
field-all s n k h l = ap (λ (m : ℕ). field_of (routes_of s m)) (omega arith)

-- before the first entry
pub put-none : (s out : List ℕ) → (0 ≡ length (field_of (routes_of s 0))) × (out ≡ field_of (routes_of s 0) ++ drop 0 out)
put-none s out = rw (field-none s) (refl, refl)

-- a field over the front of a buffer leaves its length
pub front_long : (s out u : List ℕ) (n k at : ℕ) → k ≤ n → length (field_of (routes_of s n)) ≤ length out → at ≡ length (field_of (routes_of s k))
    → u ≡ field_of (routes_of s k) ++ drop at out → length u ≡ length out
front_long s out u n k at h fits e q =
    let d : k + (n - k) ≡ n = omega arith in
    omega (arith, ap length q, length-append (field_of (routes_of s k)) (drop at out), length-drop at out, rw d at (field-part s k (n - k)))

-- after the last
pub put_all : (s out u : List ℕ) (n k at : ℕ) → k ≤ n → n ≤ k → at ≡ length (field_of (routes_of s k)) → u ≡ field_of (routes_of s k) ++ drop at out → FieldPut s n out u
put_all s out u n k at h l e q =
    let f = field-all s n k h l in
    record { put = q ∙ rw (f, e, f) }
