-- Eight stores are a record that was put, and a record that was put is read back.
use mathlib.Core.Path.{◌≡◌, ◌∙◌}
use mathlib.Core.List.{List, [], ◌∷◌, ◌++◌}
use Prim.Native.Nat.{ℕ, ◌+◌, ◌*◌, ◌/◌, ◌%◌, ◌≤◌, ◌<◌}
use native.Mathlib.Numerals.{add-one, add-two, add-three, add-four, add_five, add_six, add_seven}
use native.Mathlib.Nat.{add-zero, add_assoc}
use native.Mathlib.Omega.{arith}
use lib.Dec.{lit<}
use lib.ListN.{length, get_or, set, take, drop, length-append, get_or-append}
use lib.Seq.{sets-eq, length-take-le, get_or-append-add}
use Rattle.bits.specs.Bytes.{above1, above3, byte}
use Rattle.routes.specs.Route.{key}
use Rattle.routes.specs.Record.{word32, word16, record_at, bytes_of, put_at, Ranged}
use Rattle.routes.specs.declared.Route.{Route}

pub eight : (s : List ℕ) (i a b c d e f g h : ℕ) → i + 8 ≤ length s
    → set (set (set (set (set (set (set (set s i a) (i + 1) b) (i + 2) c) (i + 3) d) (i + 4) e) (i + 5) f) (i + 6) g) (i + 7) h
    ≡ take i s ++ (a ∷ b ∷ c ∷ d ∷ e ∷ f ∷ g ∷ h ∷ []) ++ drop (i + 8) s
eight s i a b c d e f g h l =
    rw (add-one i, add-two i, add-three i, add-four i, add_five i, add_six i, add_seven i)
    (sets-eq (a ∷ b ∷ c ∷ d ∷ e ∷ f ∷ g ∷ h ∷ []) s i l)

-- two numbers of two bytes are one of four
pub word-halves : (s : List ℕ) (i a b x y : ℕ) → a ≡ word16 s i → b ≡ word16 s (i + 2) → x ≡ a → y ≡ b → x * 65536 + y ≡ word32 s i
word-halves s i a b x y p q u v = let e = rw (add_assoc i 2 1) at q in omega arith

-- a record and its key by their parts
module _ (s : List ℕ) (k a : ℕ) (address : a ≡ word32 s (k * 8)) where
  pub record-parts : (h : ℕ) → h ≡ word16 s (k * 8 + 6)
      → ◌≡◌ {A = Route} (record { addr = a; len = get_or s (k * 8 + 4) 0; mark = get_or s (k * 8 + 5) 0; hop = h }) (record_at s k)
  unfolding record_at
  record-parts h e = λ i. record { addr = address i; len = get_or s (k * 8 + 4) 0; mark = get_or s (k * 8 + 5) 0; hop = e i }

  pub key-parts : (n : ℕ) → n ≡ a * 256 + get_or s (k * 8 + 4) 0 → n ≡ key (record_at s k)
  unfolding record_at
  key-parts n e = omega arith

-- a record is put by its halves: x and y are the list after each half of the address, z after the rest
pub put-halves : (s x y z : List ℕ) (k : ℕ) (r : Route) → (k + 1) * 8 ≤ length s
    → x ≡ set (set s (k * 8) (r.addr / 65536 / 256)) (k * 8 + 1) (r.addr / 65536 % 256)
    → y ≡ set (set x (k * 8 + 2) (r.addr % 65536 / 256)) (k * 8 + 2 + 1) (r.addr % 65536 % 256)
    → z ≡ set (set (set (set y (k * 8 + 4) r.len) (k * 8 + 5) r.mark) (k * 8 + 6) (r.hop / 256)) (k * 8 + 6 + 1) (r.hop % 256)
    → z ≡ put_at s k r
unfolding bytes_of put_at
put-halves s x y z k r room ex ey ez =
    let n = r.addr in
    let b₀ : n / 65536 / 256 ≡ above3 n = omega arith in
    let b₂ : n % 65536 / 256 ≡ byte (above1 n) = omega arith in
    let b₃ : n % 65536 % 256 ≡ byte n = omega arith in
    rw (ez, ey, ex, add_assoc (k * 8) 2 1, add_assoc (k * 8) 6 1, b₀, b₂, b₃) (eight s (k * 8) _ _ _ _ _ _ _ _ (omega arith))

-- eight bytes at a record's place are the bytes of r: then r is read there
pub bytes_read : (s : List ℕ) (k : ℕ) (r : Route) → Ranged r → ((j : ℕ) → j < 8 → get_or s (k * 8 + j) 0 ≡ get_or (bytes_of r) j 0) → record_at s k ≡ r
unfolding record_at bytes_of
bytes_read s k r ok at =
    let b₀ : get_or s (k * 8) 0 ≡ above3 r.addr = rw (add-zero (k * 8)) at (at 0 (lit< tt)) in
    let ha = ok.addr_fits in
    let hh = ok.hop_fits in
    let e₁ : word32 s (k * 8) ≡ r.addr = omega (arith, at 1 (lit< tt), at 2 (lit< tt), at 3 (lit< tt)) in
    let e₂ : word16 s (k * 8 + 6) ≡ r.hop = rw (add_assoc (k * 8) 6 1) (omega (arith, at 6 (lit< tt), at 7 (lit< tt))) in
    λ i. record { addr = e₁ i; len = at 4 (lit< tt) i; mark = at 5 (lit< tt) i; hop = e₂ i }

part-at : (p v w : List ℕ) (n j : ℕ) → length p ≡ n → j < length v → get_or (p ++ v ++ w) (n + j) 0 ≡ get_or v j 0
part-at p v w n j e l =
    rw (← e) (get_or-append (p ++ v) w 0 (length p + j) (rw length-append (omega arith)) ∙ get_or-append-add p v j 0)

-- a record that was put is read back
module _ (s : List ℕ) (k : ℕ) (r : Route) (room : (k + 1) * 8 ≤ length s) where
  pub put_byte : (j : ℕ) → j < 8 → get_or (put_at s k r) (k * 8 + j) 0 ≡ get_or (bytes_of r) j 0
  unfolding put_at bytes_of
  put_byte j l = part-at (take (k * 8) s) (bytes_of r) (drop (k * 8 + 8) s) (k * 8) j (length-take-le (k * 8) s (omega arith)) l
