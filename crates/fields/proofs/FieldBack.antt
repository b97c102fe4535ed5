-- The field of a good list: it has no fault, is read back as the list's prefixes, and no other field of them has another length.
use mathlib.Core.Path.{◌≡◌, sym, ap, ◌∙◌}
use mathlib.Core.Logic.{◌⊎◌, inl, inr}
use mathlib.Core.Bool.{false}
use mathlib.Core.List.{List, [], ◌∷◌, map}
use Prim.Native.Nat.{ℕ, ◌≤◌, ◌<◌, ◌^◌}
use native.Mathlib.Nat.{le_refl}
use native.Mathlib.Omega.{arith}
use lib.ListN.{length, take}
use lib.Seq.{take-take, length-take-le}
use Rattle.bits.specs.Bytes.{above1, above2, above3, byte}
use Rattle.bits.specs.Slot.{cut}
use Rattle.bits.proofs.Bools.{below?}
use Rattle.bits.proofs.Slots.{cut-more}
use Rattle.routes.specs.Record.{word32}
use Rattle.routes.specs.Route.{Prefix, Good}
use Rattle.routes.specs.declared.Route.{Route}
use Rattle.fields.specs.Field.{net_of, bytes_for, net_in, Field, broken, entries, field_fault, field_of}
use Rattle.fields.proofs.Fields.{field_told, field-length, told-field}

abbrev four : ℕ → List ℕ
four a = above3 a ∷ byte (above2 a) ∷ byte (above1 a) ∷ byte a ∷ []

-- the first bytes of an address, zeros after them
front-0 : (a : ℕ) → a < 2 ^ 32 → word32 (take 0 (four a)) 0 ≡ cut 0 a
unfolding cut
front-0 a h = omega arith

front-1 : (a : ℕ) → word32 (take 1 (four a)) 0 ≡ cut 8 a
unfolding cut
front-1 a = omega arith

front-2 : (a : ℕ) → word32 (take 2 (four a)) 0 ≡ cut 16 a
unfolding cut
front-2 a = omega arith

front-3 : (a : ℕ) → word32 (take 3 (four a)) 0 ≡ cut 24 a
unfolding cut
front-3 a = omega arith

front-4 : (a : ℕ) → word32 (take 4 (four a)) 0 ≡ cut 32 a
unfolding cut
front-4 a = omega arith

-- a prefix needs no more of its address than the bytes for its length
front-whole : (a len : ℕ) → Prefix a len → word32 (take (bytes_for len) (four a)) 0 ≡ a
front-whole a len p = go (below? 0 len) (below? 8 len) (below? 16 len) (below? 24 len)
  where
    at : (n : ℕ) → bytes_for len ≡ n → (m : ℕ) → len ≤ m → m ≤ 32 → word32 (take n (four a)) 0 ≡ cut m a → word32 (take (bytes_for len) (four a)) 0 ≡ a
    at n q m h u e = rw q (e ∙ cut-more len m a h u p.clear)

    go : (0 < len) ⊎ (len ≤ 0) → (8 < len) ⊎ (len ≤ 8) → (16 < len) ⊎ (len ≤ 16) → (24 < len) ⊎ (len ≤ 24)
        → word32 (take (bytes_for len) (four a)) 0 ≡ a
    go (inr h) x y z = at 0 (omega arith) 0 h (omega arith) (front-0 a p.addr_ok)
    go (inl h) (inr k) y z = at 1 (omega arith) 8 k (omega arith) (front-1 a)
    go (inl h) (inl x) (inr k) z = at 2 (omega arith) 16 k (omega arith) (front-2 a)
    go (inl h) (inl x) (inl y) (inr k) = at 3 (omega arith) 24 k (omega arith) (front-3 a)
    go (inl h) (inl x) (inl y) (inl z) = at 4 (omega (arith, p.len_ok)) 32 p.len_ok (omega arith) (front-4 a)

net-back : (a len : ℕ) → Prefix a len → net_in len (take (bytes_for len) (four a)) ≡ record { addr = a; len = len }
net-back a len p =
    ap (λ (x : List ℕ). record { addr = cut len (word32 x 0); len = len }) (take-take (bytes_for len) (bytes_for len) (four a) (le_refl _))
    ∙ ap (λ (x : ℕ). record { addr = x; len = len }) (ap (cut len) (front-whole a len p) ∙ p.clear)

-- the field of a good list is a field of its prefixes
pub good-field : (rs : List Route) → Good rs → Field (field_of rs) (map net_of rs)
unfolding field_of Good
good-field [] g = Field.none
good-field (r ∷ rs) g =
    let p = g.0.prefix in
    let n = bytes_for r.len in
    let fit : n ≤ 4 = omega (arith, p.len_ok) in
    rw (net-back r.addr r.len p) at
    (Field.more r.len (take n (four r.addr)) (field_of rs) (map net_of rs) p.len_ok (length-take-le n (four r.addr) fit) (good-field rs g.2))

-- "reading it back gives those prefixes"
pub field_back : (rs : List Route) → Good rs → entries (field_of rs) ≡ map net_of rs
field_back rs g = (field_told (good-field rs g)).1

pub field-fine : (rs : List Route) → Good rs → field_fault (field_of rs) ≡ 0
unfolding field_fault
field-fine rs g = rw (field_told (good-field rs g)).0

-- every field with these prefixes has as many bytes
pub field-minimal : (rs : List Route) → Good rs → (s : List ℕ) → broken s ≡ false → entries s ≡ map net_of rs → length s ≡ length (field_of rs)
field-minimal rs g s e q = field-length (rw q at (told-field s e)) ∙ sym (field-length (good-field rs g))
