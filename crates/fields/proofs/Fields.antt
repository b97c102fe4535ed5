-- A field by steps is a field entry by entry, and the other way round; and what two fields that differ in bits of no meaning alone have in common.
use mathlib.Core.Path.{◌≡◌, refl, sym, ap, ◌∙◌}
use mathlib.Core.Logic.{◌⊎◌, inl, inr}
use mathlib.Core.Bool.{Bool, false, ◌||◌}
use mathlib.Core.List.{List, [], ◌∷◌, ◌++◌}
use Prim.Native.Nat.{ℕ, zero, suc, ◌+◌, ◌*◌, ◌-◌, ◌^◌, ◌≤◌, ◌<◌}
use native.Mathlib.Nat.{le_refl}
use native.Mathlib.Omega.{arith}
use lib.Dec.{ltb}
use lib.ListN.{length, get_or, take, drop, length-append, length-take, length-drop, take-append-drop, get_or-append, get_or-eq_default}
use lib.Seq.{take_at, drop_at, take_all, take-take, length-take-le, get_or-take, get_or-append-add}
use borrow.Author.Tests.{le-ltb, ltb-false}
use Rattle.bits.specs.Slot.{cut}
use Rattle.bits.proofs.Bools.{below?, or-none}
use Rattle.bits.proofs.Slots.{cut-le, cut-cut}
use Rattle.routes.specs.Route.{Prefix}
use Rattle.routes.specs.Record.{word32}
use Rattle.fields.specs.Field.{Net, bytes_for, net_in, Bytes8, Field, broken_in, nets_in, broken, entries, size_of, Alike}

-- steps past the last entry do nothing
broken-enough : (n m : ℕ) (s : List ℕ) → length s ≤ n → length s ≤ m → broken_in n s ≡ broken_in m s
unfolding broken_in
broken-enough zero zero s h k = refl
broken-enough zero (suc m) [] h k = refl
broken-enough zero (suc m) (x ∷ s) h k = absurd (omega arith)
broken-enough (suc n) zero [] h k = refl
broken-enough (suc n) zero (x ∷ s) h k = absurd (omega arith)
broken-enough (suc n) (suc m) [] h k = refl
broken-enough (suc n) (suc m) (x ∷ s) h k =
    let fewer = length-drop (bytes_for x) s in
    ap (λ (b : Bool). ltb 32 x || (ltb (length s) (bytes_for x) || b)) (broken-enough n m (drop (bytes_for x) s) (omega arith) (omega arith))

nets-enough : (n m : ℕ) (s : List ℕ) → length s ≤ n → length s ≤ m → nets_in n s ≡ nets_in m s
unfolding nets_in
nets-enough zero zero s h k = refl
nets-enough zero (suc m) [] h k = refl
nets-enough zero (suc m) (x ∷ s) h k = absurd (omega arith)
nets-enough (suc n) zero [] h k = refl
nets-enough (suc n) zero (x ∷ s) h k = absurd (omega arith)
nets-enough (suc n) (suc m) [] h k = refl
nets-enough (suc n) (suc m) (x ∷ s) h k =
    let fewer = length-drop (bytes_for x) s in
    ap (λ (ns : List Net). net_in x s ∷ ns) (nets-enough n m (drop (bytes_for x) s) (omega arith) (omega arith))

-- an entry has a byte at least
nets-few : (n : ℕ) (s : List ℕ) → length (nets_in n s) ≤ n
unfolding nets_in
nets-few zero s = omega arith
nets-few (suc n) [] = omega arith
nets-few (suc n) (x ∷ s) = let ih = nets-few n (drop (bytes_for x) s) in omega arith

pub entries-few : (s : List ℕ) → length (entries s) ≤ length s
entries-few s = nets-few (length s) s

-- one step
module _ (len : ℕ) (s : List ℕ) where
  few : length (drop (bytes_for len) s) ≤ length s
  few = omega (arith, length-drop (bytes_for len) s)

  pub broken-step : broken (len ∷ s) ≡ (ltb 32 len || (ltb (length s) (bytes_for len) || broken (drop (bytes_for len) s)))
  unfolding broken_in
  broken-step =
      ap (λ (b : Bool). ltb 32 len || (ltb (length s) (bytes_for len) || b))
      (broken-enough (length s) (length (drop (bytes_for len) s)) (drop (bytes_for len) s) few (le_refl _))

  pub entries-step : entries (len ∷ s) ≡ net_in len s ∷ entries (drop (bytes_for len) s)
  unfolding nets_in
  entries-step =
      ap (λ (ns : List Net). net_in len s ∷ ns)
      (nets-enough (length s) (length (drop (bytes_for len) s)) (drop (bytes_for len) s) few (le_refl _))

pub broken-none : broken [] ≡ false
unfolding broken_in
broken-none = refl

pub entries_none : entries [] ≡ []
unfolding nets_in
entries_none = refl

-- the bytes of an entry alone say its prefix
net-alone : (len : ℕ) (b : List ℕ) → length b ≡ bytes_for len → net_in len b ≡ record { addr = cut len (word32 b 0); len = len }
net-alone len b e = ap (λ (x : List ℕ). record { addr = cut len (word32 x 0); len = len }) (take_all (bytes_for len) b (omega arith))

net-front : (len : ℕ) (b s : List ℕ) → length b ≡ bytes_for len → net_in len (b ++ s) ≡ net_in len b
net-front len b s e =
    ap (λ (x : List ℕ). record { addr = cut len (word32 x 0); len = len }) (take_at b s (bytes_for len) e)
    ∙ sym (net-alone len b e)

-- A field has no fault, and its prefixes are those of its entries
pub field_told : {s : List ℕ} {ns : List Net} → Field s ns → (broken s ≡ false) × (entries s ≡ ns)
field_told Field.none = (broken-none, entries_none)
field_told (Field.more len body rest ns h e f) =
    let ih = field_told f in
    let on : drop (bytes_for len) (body ++ rest) ≡ rest = drop_at body rest (bytes_for len) e in
    let long : bytes_for len ≤ length (body ++ rest) = omega (arith, length-append body rest) in (
      broken-step len (body ++ rest) ∙ rw (le-ltb 32 len h, le-ltb (length (body ++ rest)) (bytes_for len) long, on) ih.0,
      entries-step len (body ++ rest) ∙ rw (on, net-front len body rest e) (ap (λ (x : List Net). net_in len body ∷ x) ih.1),
    )

-- what is known of an entry and what follows it
pub record First (len : ℕ) (s : List ℕ) : Type 0 where
  pub len_ok : len ≤ 32
  pub whole : bytes_for len ≤ length s
  pub rest : broken (drop (bytes_for len) s) ≡ false

pub first-whole : (len : ℕ) (s : List ℕ) → broken (len ∷ s) ≡ false → First len s
first-whole len s e =
    let p = or-none (ltb 32 len) _ (sym (broken-step len s) ∙ e) in
    let q = or-none (ltb (length s) (bytes_for len)) _ p.1 in
    record { len_ok = ltb-false 32 len p.0; whole = ltb-false (length s) (bytes_for len) q.0; rest = q.1 }

-- and bytes with no fault are a field, of which these are the prefixes
told_in : (n : ℕ) (s : List ℕ) → length s ≤ n → broken s ≡ false → Field s (entries s)
told_in zero [] h e = rw entries_none Field.none
told_in zero (len ∷ s) h e = absurd (omega arith)
told_in (suc n) [] h e = rw entries_none Field.none
told_in (suc n) (len ∷ s) h e =
    let k = bytes_for len in
    let w = first-whole len s e in
    let ih = told_in n (drop k s) (omega (arith, length-drop k s)) w.rest in
    let more = Field.more len (take k s) (drop k s) _ w.len_ok (length-take-le k s w.whole) ih in
    rw (entries-step len s) (rw (take-append-drop k s, take-take k k s (le_refl k)) at more)

pub told-field : (s : List ℕ) → broken s ≡ false → Field s (entries s)
told-field s e = told_in (length s) s (le_refl _) e

-- bytes are the field of one list of prefixes at most
pub field-once : {s : List ℕ} {ns ms : List Net} → Field s ns → Field s ms → ns ≡ ms
field-once f g = sym (field_told f).1 ∙ (field_told g).1

-- the prefixes of a field give its length
pub field-length : {s : List ℕ} {ns : List Net} → Field s ns → length s ≡ size_of ns
unfolding size_of
field-length Field.none = refl
field-length (Field.more len body rest ns h e f) = omega (arith, length-append body rest, field-length f)

-- Bits of no meaning do not matter
alike-fields : {s u : List ℕ} → Alike s u → (ns : List Net) × Field s ns × Field u ns
unfolding cut
alike-fields Alike.none = ([], Field.none, Field.none)
alike-fields (Alike.more len b c s u h e f q a) =
    let ih = alike-fields a in
    let same : net_in len c ≡ net_in len b
    = net-alone len c f ∙ ap (λ (x : ℕ). record { addr = x * 2 ^ (32 - len); len = len }) (sym q) ∙ sym (net-alone len b e) in
    (net_in len b ∷ ih.0, Field.more len b s ih.0 h e ih.1, rw same at (Field.more len c u ih.0 h f ih.2))

pub entries-cut : {s u : List ℕ} → Alike s u → (broken s ≡ broken u) × (entries s ≡ entries u)
entries-cut a =
    let f = alike-fields a in
    let x = field_told f.1 in
    let y = field_told f.2 in
    (x.0 ∙ sym y.0, x.1 ∙ sym y.1)

-- Every entry of bytes is of a prefix: its length is at most 32, its address has 32 bits, and is cut to the length.
module _ (len : ℕ) (body rest : List ℕ) (b : Bytes8 (len ∷ (body ++ rest))) where
  body-low : (k : ℕ) → get_or (take (bytes_for len) body) k 0 < 256
  body-low k = go (below? k (bytes_for len)) (below? k (length body))
    where
      go : (k < bytes_for len) ⊎ (bytes_for len ≤ k) → (k < length body) ⊎ (length body ≤ k) → get_or (take (bytes_for len) body) k 0 < 256
      go (inl h) (inl j) = rw (get_or-take (bytes_for len) body k 0 h, sym (get_or-append body rest 0 k j)) (b.each (suc k))
      go (inl h) (inr j) = rw (get_or-take (bytes_for len) body k 0 h, get_or-eq_default body 0 {n = k} j) (omega arith)
      go (inr h) j = rw (get_or-eq_default (take (bytes_for len) body) 0 {n = k} (omega (arith, length-take (bytes_for len) body))) (omega arith)

  net-prefix : len ≤ 32 → Prefix (net_in len body).addr len
  net-prefix h =
      let w = word32 (take (bytes_for len) body) 0 in
      record {
        len_ok = h;
        addr_ok = omega (arith, body-low 0, body-low 1, body-low 2, body-low 3, cut-le len w);
        clear = cut-cut len w;
      }

  rest-bytes : Bytes8 rest
  rest-bytes = record { each = λ k. rw (get_or-append-add body rest k 0) at (b.each (suc (length body + k))) }

pub field-prefix : {s : List ℕ} {ns : List Net} → Field s ns → Bytes8 s → (j : ℕ) (m : Net) → drop j ns ≡ m ∷ drop (suc j) ns → Prefix m.addr m.len
field-prefix Field.none b zero m q = absurd (omega (arith, ap length q))
field-prefix Field.none b (suc j) m q = absurd (omega (arith, ap length q))
field-prefix (Field.more len body rest ns h e f) b zero m q =
    let same : net_in len body ≡ m = first-net q in
    rw (← same) (net-prefix len body rest b h)
  where
    first-net : {x y : Net} {xs ys : List Net} → x ∷ xs ≡ y ∷ ys → x ≡ y
    first-net p = cc
field-prefix (Field.more len body rest ns h e f) b (suc j) m q = field-prefix f (rest-bytes len body rest b) j m q
