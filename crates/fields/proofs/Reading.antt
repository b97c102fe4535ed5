-- Reading a field entry by entry: the check, an entry, and what is left after it.
use mathlib.Core.Path.{◌≡◌, sym, ap, ◌∙◌}
use mathlib.Core.Logic.{◌⊎◌, inl, inr}
use mathlib.Core.Bool.{true, false, ◌||◌}
use mathlib.Core.List.{List, [], ◌∷◌, ◌++◌}
use Rattle.std.specs.Int.{w32, from_be_bytes}
use Prim.Native.Nat.{ℕ, ◌+◌, ◌-◌, ◌^◌, ◌≤◌, ◌<◌}
use native.Mathlib.Numerals.{add-one}
use native.Mathlib.Omega.{arith}
use lib.Dec.{ltb}
use lib.ListN.{length, get_or, take, drop, length-drop, length-take, drop_of_length-le}
use lib.Seq.{drop-cons, drop-drop}
use borrow.Author.Tests.{lt-ltb, le-ltb}
use Rattle.bits.specs.Slot.{cut}
use Rattle.bits.proofs.Bools.{decided}
use Rattle.bits.proofs.Slots.{cut-le, cut-cut}
use Rattle.routes.specs.Route.{Prefix}
use Rattle.routes.specs.Record.{word32}
use Rattle.fields.specs.Field.{bytes_for, net_in, broken, entries, field_fault}
use Rattle.fields.specs.Entry.{EntryAt, IsEntry, FieldFrom}
use Rattle.fields.proofs.Fields.{broken-step, broken-none, entries-step, entries_none, First, first-whole}

pub drop_here : (s : List ℕ) (at : ℕ) → at < length s → drop at s ≡ get_or s at 0 ∷ drop (at + 1) s
drop_here s at h = drop-cons s at 0 h ∙ ap (λ (n : ℕ). get_or s at 0 ∷ drop n s) (sym (add-one at))

-- ---- the check: from `at` on the bytes are broken where all of them are

module _ (s : List ℕ) (at : ℕ) (so : broken (drop at s) ≡ broken s) where
  -- the end
  pub check-end : length s ≤ at → 0 ≡ field_fault s
  unfolding field_fault
  check-end h =
      let e : broken s ≡ false = sym so ∙ ap broken (drop_of_length-le s h) ∙ broken-none in
      rw e

  module _ (h : at < length s) (len : ℕ) (is : len ≡ get_or s at 0) where
    now : broken s ≡ (ltb 32 len || (ltb (length (drop (at + 1) s)) (bytes_for len) || broken (drop (bytes_for len) (drop (at + 1) s))))
    now = sym so ∙ ap broken (drop_here s at h ∙ ap (λ (x : ℕ). x ∷ drop (at + 1) s) (sym is)) ∙ broken-step len (drop (at + 1) s)

    left : length (drop (at + 1) s) ≡ length s - (at + 1)
    left = length-drop (at + 1) s

    pub check-over : 32 < len → 17 ≡ field_fault s
    unfolding field_fault
    check-over o = rw (now, lt-ltb 32 len o)

    module _ (l : len ≤ 32) (size : ℕ) (q : size ≡ 1 + bytes_for len) where
      pub check-short : length s - at < size → 17 ≡ field_fault s
      unfolding field_fault
      check-short o = rw (now, le-ltb 32 len l, lt-ltb (length (drop (at + 1) s)) (bytes_for len) (omega (arith, left)))

      pub check-on : size ≤ length s - at → broken (drop (at + size) s) ≡ broken s
      check-on o =
          let sum : at + 1 + bytes_for len ≡ at + size = omega arith in
          let on : drop (bytes_for len) (drop (at + 1) s) ≡ drop (at + size) s
          = drop-drop (bytes_for len) (at + 1) s ∙ ap (λ (n : ℕ). drop n s) sum in
          sym (now ∙ rw (le-ltb 32 len l, le-ltb (length (drop (at + 1) s)) (bytes_for len) (omega (arith, left)), on))

-- ---- reading, after the check

pub from_start : (s : List ℕ) (f : ℕ) → f ≡ field_fault s → f ≡ 0 → FieldFrom s 0
unfolding field_fault
from_start s f e z = record { to = omega arith; whole = go (decided (broken s)) }
  where
    go : (broken s ≡ true) ⊎ (broken s ≡ false) → broken s ≡ false
    go (inl b) = absurd (let w : ◌≡◌ {A = ℕ} 17 0 = rw b at (sym e ∙ z) in omega arith)
    go (inr b) = b

module _ (s : List ℕ) (at : ℕ) (from : FieldFrom s at) where
  pub entries-end : length s ≤ at → entries (drop at s) ≡ []
  entries-end h = ap entries (drop_of_length-le s h) ∙ entries_none

  module _ (h : at < length s) where
    first : First (get_or s at 0) (drop (at + 1) s)
    first = first-whole _ _ (sym (ap broken (drop_here s at h)) ∙ from.whole)

    pub entry_here : EntryAt s at
    entry_here = record { inside = h; len_ok = first.len_ok; whole = omega (arith, first.whole, length-drop (at + 1) s) }

    module _ (next : ℕ) (e : next ≡ at + 1 + bytes_for (get_or s at 0)) where
      on : drop (bytes_for (get_or s at 0)) (drop (at + 1) s) ≡ drop next s
      on = drop-drop _ (at + 1) s ∙ ap (λ (n : ℕ). drop n s) (sym e)

      pub entry-on : FieldFrom s next
      entry-on = record { to = omega (arith, entry_here.whole); whole = sym (ap broken on) ∙ first.rest }

      pub entries-here : entries (drop at s) ≡ net_in (get_or s at 0) (drop (at + 1) s) ∷ entries (drop next s)
      entries-here =
          ap entries (drop_here s at h) ∙ entries-step (get_or s at 0) (drop (at + 1) s)
          ∙ ap (λ (x : List ℕ). net_in (get_or s at 0) (drop (at + 1) s) ∷ entries x) on

-- ---- one entry

-- at most four bytes, and zeros after them
word-is : (x : List ℕ) → length x ≤ 4 → from_be_bytes w32 (x ++ drop (length x) (0 ∷ 0 ∷ 0 ∷ 0 ∷ [])) ≡ word32 x 0
word-is [] h = omega arith
word-is (a ∷ []) h = omega arith
word-is (a ∷ b ∷ []) h = omega arith
word-is (a ∷ b ∷ c ∷ []) h = omega arith
word-is (a ∷ b ∷ c ∷ d ∷ []) h = omega arith
word-is (a ∷ b ∷ c ∷ d ∷ e ∷ x) h = absurd (omega arith)

pub entry-is : (s : List ℕ) (at : ℕ) → EntryAt s at → (l n w a : ℕ) → l ≡ get_or s at 0 → n ≡ bytes_for l → (x : List ℕ) (m : ℕ) → m ≡ n
    → x ≡ take m (drop (at + 1) s) → w ≡ from_be_bytes w32 (x ++ drop n (0 ∷ 0 ∷ 0 ∷ 0 ∷ [])) → w < 2 ^ 32 → a ≡ cut l w
    → IsEntry s at (record { addr = a; len = get_or s at 0; next = at + 1 + n })
entry-is s at k l n w a e q x m em ex ew small ea = record { net = net; prefix = prefix; next = omega arith }
  where
    len : ℕ
    len = get_or s at 0

    bytes : x ≡ take (bytes_for len) (drop (at + 1) s)
    bytes = ex ∙ ap (λ (y : ℕ). take y (drop (at + 1) s)) (em ∙ q ∙ ap bytes_for e)

    long : length x ≡ n
    long = omega (arith, ap length ex, length-take m (drop (at + 1) s), length-drop (at + 1) s, k.whole)

    word : w ≡ word32 (take (bytes_for len) (drop (at + 1) s)) 0
    word = ew ∙ rw (← long) (word-is x (omega (arith, long, k.len_ok))) ∙ ap (λ (y : List ℕ). word32 y 0) bytes

    same : a ≡ cut len w
    same = ea ∙ ap (λ (y : ℕ). cut y w) e

    net : record { addr = a; len = len } ≡ net_in len (drop (at + 1) s)
    net = let ad = same ∙ ap (cut len) word in cc

    prefix : Prefix a len
    prefix = record {
      len_ok = k.len_ok;
      addr_ok = omega (arith, same, cut-le len w);
      clear = ap (cut len) same ∙ cut-cut len w ∙ sym same;
    }
