-- The routes of a hop function, listed: a good list, that has for each prefix the hop of the function. It ascends since a prefix comes before what
-- is under it, and all addresses whose next bit is 0 before those whose next bit is 1.
use mathlib.Core.Path.{◌≡◌, refl, sym, ◌∙◌, ap, ap₂}
use mathlib.Core.Logic.{◌⊎◌, inl, inr}
use mathlib.Core.Bool.{true, false, cond}
use mathlib.Core.List.Memᴰ
use mathlib.Core.List.{List, [], ◌∷◌, ◌++◌, Memᴰ}
use Prim.Native.Nat.{ℕ, zero, suc, ◌+◌, ◌-◌, ◌*◌, ◌/◌, ◌^◌, ◌≤◌, ◌<◌}
use native.Mathlib.Nat.{pow-suc, add-mul, mul_assoc, div-one, div-eq_of_lt}
use native.Mathlib.Omega.{arith}
use lib.Dec.{ltb, eqb}
use lib.Pow.{pow_pos, shl-shr, shr-shr}
use borrow.Author.Tests.{lt-ltb, ltb-true, eq-eqb, eqb-true}
use Rattle.bits.specs.Slot.{slot}
use Rattle.bits.proofs.Slots.{cut-is}
use Rattle.bits.proofs.Bools.{decided, both, and_split, below?}
use Rattle.routes.specs.Route.{key, Fine, Good}
use Rattle.routes.specs.declared.Route.{Route}
use Rattle.standing.specs.Cells.{here}
use Rattle.tree_image.specs.Image.{hop_for}
use Rattle.tree_image.proofs.Lies.{any-is, found-any, hop-of}
use Rattle.tree_same.specs.Listed.{route_of, own, listed}

-- members of two lists end to end
mem-left : (xs ys : List Route) (r : Route) → Memᴰ r xs → Memᴰ r (xs ++ ys)
mem-left [] ys r m = absurd (Memᴰ.not-nil m)
mem-left (x ∷ xs) ys r m = go (Memᴰ.cases_cons m) (mem-left xs ys r)
  where
    go : (r ≡ x) ⊎ Memᴰ r xs → (Memᴰ r xs → Memᴰ r (xs ++ ys)) → Memᴰ r (x ∷ (xs ++ ys))
    go (inl e) ih = Memᴰ.head e
    go (inr k) ih = Memᴰ.tail (ih k)

mem-right : (xs ys : List Route) (r : Route) → Memᴰ r ys → Memᴰ r (xs ++ ys)
mem-right [] ys r m = m
mem-right (x ∷ xs) ys r m = Memᴰ.tail (mem-right xs ys r m)

good-append : (xs ys : List Route) → Good xs → Good ys → ((x y : Route) → Memᴰ x xs → Memᴰ y ys → key x < key y) → Good (xs ++ ys)
unfolding Good
good-append [] ys g h f = h
good-append (x ∷ xs) ys g h f = (
  g.0,
  (λ s m. go s (Memᴰ.append_cases xs m)),
  good-append xs ys g.2 h (λ a b k. f a b (Memᴰ.tail k)),
)
  where
    go : (s : Route) → Memᴰ s xs ⊎ Memᴰ s ys → key x < key s
    go s (inl k) = g.1 s k
    go s (inr k) = f x s (Memᴰ.head refl) k

-- the addresses under a prefix, halved
double : (q n : ℕ) → (q + q) * n ≡ q * n + q * n
double q n = add-mul q q n

twice : (q d : ℕ) → q * 2 ^ suc d ≡ q * 2 ^ d + q * 2 ^ d
twice q d = ap (λ (x : ℕ). q * x) (pow-suc 2 d) ∙ sym (mul_assoc q (2 ^ d) 2) ∙ omega arith

-- the routes under a prefix whose next bit is 0, and is 1
abbrev low : (ℕ → ℕ → ℕ) → ℕ → ℕ → ℕ → List Route
low hop d l q = listed hop d (suc l) (q + q)

abbrev high : (ℕ → ℕ → ℕ) → ℕ → ℕ → ℕ → List Route
high hop d l q = listed hop d (suc l) (q + q + 1)

-- a route under the prefix of length l whose bits are q, with d bits after it
record Under (hop : ℕ → ℕ → ℕ) (d l q : ℕ) (r : Route) : Type 0 where
  bits : ℕ
  is : r ≡ route_of r.len bits (hop r.len bits)
  has : 0 < hop r.len bits
  long : l ≤ r.len
  short : r.len ≤ 32
  from : q * 2 ^ d ≤ r.addr
  upto : r.addr + 2 ^ (32 - r.len) ≤ q * 2 ^ d + 2 ^ d

module _ (hop : ℕ → ℕ → ℕ) where
  own-under : (d l q : ℕ) → l + d ≡ 32 → (r : Route) → Memᴰ r (own hop l q) → (r ≡ route_of l q (hop l q)) × Under hop d l q r
  unfolding own
  own-under d l q e r m = go (decided (ltb 0 (hop l q)))
    where
      z : 32 - l ≡ d
      z = omega arith

      at : 0 < hop l q → (r ≡ route_of l q (hop l q)) → Under hop d l q r
      at h x = rw x record { bits = q; is = refl; has = h; long = omega arith; short = omega arith; from = rw z (omega arith); upto = rw z (omega arith) }

      one : (r ≡ route_of l q (hop l q)) ⊎ Memᴰ r [] → r ≡ route_of l q (hop l q)
      one (inl x) = x
      one (inr k) = absurd (Memᴰ.not-nil k)

      go : (ltb 0 (hop l q) ≡ true) ⊎ (ltb 0 (hop l q) ≡ false) → (r ≡ route_of l q (hop l q)) × Under hop d l q r
      go (inl t) = let x = one (Memᴰ.cases_cons (rw t at m)) in (x, at (ltb-true 0 (hop l q) t) x)
      go (inr t) = absurd (Memᴰ.not-nil (rw t at m))

  listed-under : (d l q : ℕ) → l + d ≡ 32 → (r : Route) → Memᴰ r (listed hop d l q) → Under hop d l q r
  unfolding listed
  listed-under zero l q e r m = (own-under zero l q e r m).1
  listed-under (suc d) l q e r m =
      go (Memᴰ.append_cases (own hop l q) m) (listed-under d (suc l) (q + q) (omega arith) r) (listed-under d (suc l) (q + q + 1) (omega arith) r)
    where
      lower : Under hop d (suc l) (q + q) r → Under hop (suc d) l q r
      lower u = record {
        bits = u.bits;
        is = u.is;
        has = u.has;
        long = omega (arith, u.long);
        short = u.short;
        from = omega (arith, u.from, twice q d, double q (2 ^ d));
        upto = omega (arith, u.upto, twice q d, double q (2 ^ d), twice 1 d);
      }

      upper : Under hop d (suc l) (q + q + 1) r → Under hop (suc d) l q r
      upper u =
          let x : (q + q + 1) * 2 ^ d ≡ q * 2 ^ d + q * 2 ^ d + 2 ^ d = add-mul (q + q) 1 (2 ^ d) ∙ omega (arith, double q (2 ^ d)) in
          record {
            bits = u.bits;
            is = u.is;
            has = u.has;
            long = omega (arith, u.long);
            short = u.short;
            from = omega (arith, u.from, twice q d, x);
            upto = omega (arith, u.upto, twice q d, x, twice 1 d);
          }

      two : Memᴰ r (low hop d l q) ⊎ Memᴰ r (high hop d l q)
          → (Memᴰ r (low hop d l q) → Under hop d (suc l) (q + q) r) → (Memᴰ r (high hop d l q) → Under hop d (suc l) (q + q + 1) r)
          → Under hop (suc d) l q r
      two (inl k) a b = lower (a k)
      two (inr k) a b = upper (b k)

      go : Memᴰ r (own hop l q) ⊎ Memᴰ r (low hop d l q ++ high hop d l q)
          → (Memᴰ r (low hop d l q) → Under hop d (suc l) (q + q) r) → (Memᴰ r (high hop d l q) → Under hop d (suc l) (q + q + 1) r)
          → Under hop (suc d) l q r
      go (inl k) a b = (own-under (suc d) l q e r k).1
      go (inr k) a b = two (Memᴰ.append_cases _ k) a b

  -- a listed route has no mark
  pub listed-unmarked : (r : Route) → Memᴰ r (listed hop 32 0 0) → r.mark ≡ 0
  listed-unmarked r m = ap (λ (x : Route). x.mark) (listed-under 32 0 0 refl r m).is

  -- the route of the prefix itself
  own-has : (l q l' q' : ℕ) → l' ≡ l → q' / 2 ^ (l' - l) ≡ q → 0 < hop l' q' → Memᴰ (route_of l' q' (hop l' q')) (own hop l q)
  unfolding own
  own-has l q l' q' e c h =
      let z : l' - l ≡ 0 = omega arith in
      let y : q' ≡ q = sym (div-one q') ∙ ap (λ (k : ℕ). q' / 2 ^ k) (sym z) ∙ c in
      rw (← e, ← y, lt-ltb 0 (hop l' q') h) (Memᴰ.head refl)

  -- every route with a hop under the prefix is listed
  listed_has : (d l q l' q' : ℕ) → l + d ≡ 32 → l ≤ l' → l' ≤ 32 → q' / 2 ^ (l' - l) ≡ q → 0 < hop l' q'
      → Memᴰ (route_of l' q' (hop l' q')) (listed hop d l q)
  unfolding listed
  listed_has zero l q l' q' e a b c h = own-has l q l' q' (omega arith) c h
  listed_has (suc d) l q l' q' e a b c h =
      go (below? l l') (λ u v. listed_has d (suc l) (q + q) l' q' (omega arith) u b v h) (λ u v. listed_has d (suc l) (q + q + 1) l' q' (omega arith) u b v h)
    where
      r : Route
      r = route_of l' q' (hop l' q')

      half : l < l' → q' / 2 ^ (l' - suc l) / 2 ≡ q
      half u = let z : l' - suc l + 1 ≡ l' - l = omega arith in shr-shr q' (l' - suc l) 1 ∙ ap (λ (k : ℕ). q' / 2 ^ k) z ∙ c

      side : (x : ℕ) → x / 2 ≡ q → (x ≡ q + q) ⊎ (x ≡ q + q + 1)
      side x u = go (below? x (q + q + 1))
        where
          go : (x < q + q + 1) ⊎ (q + q + 1 ≤ x) → (x ≡ q + q) ⊎ (x ≡ q + q + 1)
          go (inl v) = inl (omega arith)
          go (inr v) = inr (omega arith)

      two : l < l' → (q' / 2 ^ (l' - suc l) ≡ q + q) ⊎ (q' / 2 ^ (l' - suc l) ≡ q + q + 1)
          → (suc l ≤ l' → q' / 2 ^ (l' - suc l) ≡ q + q → Memᴰ r (low hop d l q))
          → (suc l ≤ l' → q' / 2 ^ (l' - suc l) ≡ q + q + 1 → Memᴰ r (high hop d l q))
          → Memᴰ r (low hop d l q ++ high hop d l q)
      two u (inl x) f g = mem-left (low hop d l q) (high hop d l q) r (f u x)
      two u (inr x) f g = mem-right (low hop d l q) (high hop d l q) r (g u x)

      go : (l < l') ⊎ (l' ≤ l)
          → (suc l ≤ l' → q' / 2 ^ (l' - suc l) ≡ q + q → Memᴰ r (low hop d l q))
          → (suc l ≤ l' → q' / 2 ^ (l' - suc l) ≡ q + q + 1 → Memᴰ r (high hop d l q))
          → Memᴰ r (own hop l q ++ (low hop d l q ++ high hop d l q))
      go (inl u) f g = mem-right (own hop l q) _ r (two u (side _ (half u)) f g)
      go (inr u) f g = mem-left (own hop l q) _ r (own-has l q l' q' (omega arith) c h)

-- a hop function of routes: hops of at most 32,767, of prefixes of at most 32 bits
pub record Hopping (hop : ℕ → ℕ → ℕ) : Type 0 where
  pub small : (l q : ℕ) → hop l q ≤ 32767
  pub range : (l q : ℕ) → 0 < hop l q → (l ≤ 32) × (q < 2 ^ l)

-- the first bits of the route of length l whose bits are q
own-slot : (l q : ℕ) → slot l (q * 2 ^ (32 - l)) ≡ q
own-slot l q = shl-shr q (32 - l)

module _ (hop : ℕ → ℕ → ℕ) (ok : Hopping hop) where
  own-good : (d l q : ℕ) → l + d ≡ 32 → q * 2 ^ d + 2 ^ d ≤ 2 ^ 32 → Good (own hop l q)
  unfolding own Good
  own-good d l q e u = go (decided (ltb 0 (hop l q)))
    where
      z : 32 - l ≡ d
      z = omega arith

      fine : 0 < hop l q → Fine (route_of l q (hop l q))
      fine h = record {
        prefix = record {
          len_ok = omega arith;
          addr_ok = rw z (omega (arith, pow_pos d));
          clear = cut-is l (q * 2 ^ (32 - l)) ∙ ap (λ (x : ℕ). x * 2 ^ (32 - l)) (own-slot l q);
        };
        hop_one = h;
        hop_ok = ok.small l q;
        mark_ok = omega arith;
      }

      go : (ltb 0 (hop l q) ≡ true) ⊎ (ltb 0 (hop l q) ≡ false) → Good (cond (ltb 0 (hop l q)) (route_of l q (hop l q) ∷ []) [])
      go (inl t) = rw t (fine (ltb-true 0 (hop l q) t), (λ s m. absurd (Memᴰ.not-nil m)), tt)
      go (inr t) = rw t tt

  good-under : (d l q : ℕ) → l + d ≡ 32 → q * 2 ^ d + 2 ^ d ≤ 2 ^ 32 → Good (listed hop d l q)
  unfolding listed
  good-under zero l q e u = own-good zero l q e u
  good-under (suc d) l q e u =
      good-append (own hop l q) _ (own-good (suc d) l q e u)
      (good-append (low hop d l q) (high hop d l q)
      (good-under d (suc l) (q + q) (omega arith) (omega (arith, twice q d, double q (2 ^ d), twice 1 d)))
      (good-under d (suc l) (q + q + 1) (omega arith) (omega (arith, twice q d, upper, twice 1 d)))
      (λ x y a b. halves x y (listed-under hop d (suc l) (q + q) (omega arith) x a) (listed-under hop d (suc l) (q + q + 1) (omega arith) y b)))
      (λ x y a b. own_first x y (own-under hop (suc d) l q e x a).0 (Memᴰ.append_cases (low hop d l q) b))
    where
      upper : (q + q + 1) * 2 ^ d ≡ q * 2 ^ d + q * 2 ^ d + 2 ^ d
      upper = add-mul (q + q) 1 (2 ^ d) ∙ omega (arith, double q (2 ^ d))

      halves : (x y : Route) → Under hop d (suc l) (q + q) x → Under hop d (suc l) (q + q + 1) y → key x < key y
      halves x y a b = omega (arith, a.upto, b.from, upper, double q (2 ^ d), pow_pos (32 - x.len), a.short, b.short)

      after : (x y : Route) → x ≡ route_of l q (hop l q) → q * 2 ^ suc d ≤ y.addr → suc l ≤ y.len → key x < key y
      after x y r a b =
          let z : 32 - l ≡ suc d = omega arith in
          let k : x.addr ≡ q * 2 ^ suc d = ap (λ (s : Route). s.addr) r ∙ ap (λ (n : ℕ). q * 2 ^ n) z in
          let j : x.len ≡ l = ap (λ (s : Route). s.len) r in
          omega arith

      own_first : (x y : Route) → x ≡ route_of l q (hop l q) → Memᴰ y (low hop d l q) ⊎ Memᴰ y (high hop d l q) → key x < key y
      own_first x y r (inl m) =
          let u = listed-under hop d (suc l) (q + q) (omega arith) y m in
          after x y r (omega (arith, u.from, twice q d, double q (2 ^ d))) u.long
      own_first x y r (inr m) =
          let u = listed-under hop d (suc l) (q + q + 1) (omega arith) y m in
          after x y r (omega (arith, u.from, twice q d, upper)) u.long

  pub listed-good : Good (listed hop 32 0 0)
  listed-good = good-under 32 0 0 refl (omega arith)

  -- for each prefix the list has the hop of the function
  pub listed-hop : (l q : ℕ) → hop_for (listed hop 32 0 0) l q ≡ hop l q
  listed-hop l q = go (below? 0 (hop l q))
    where
      rs : List Route
      rs = listed hop 32 0 0

      none : hop l q ≡ 0 → (0 < hop_for rs l q) → ⊥
      none z h =
          let f = any-is (here l q) rs (found-any (here l q) rs h) in
          let u = listed-under hop 32 0 0 refl f.0 f.1 in
          let s = and_split (eqb f.0.len l) (eqb (slot l f.0.addr) q) f.2 in
          let a : f.0.len ≡ l = eqb-true f.0.len l s.0 in
          let b : slot l f.0.addr ≡ q = eqb-true (slot l f.0.addr) q s.1 in
          let c : u.bits ≡ q =
          sym (own-slot f.0.len u.bits) ∙ ap (λ (r : Route). slot f.0.len r.addr) (sym u.is) ∙ ap (λ (n : ℕ). slot n f.0.addr) a ∙ b in
          let d : hop f.0.len u.bits ≡ hop l q = ap₂ hop a c in
          omega (arith, u.has)

      go : (0 < hop l q) ⊎ (hop l q ≤ 0) → hop_for rs l q ≡ hop l q
      go (inl h) =
          let r = ok.range l q h in
          hop-of l q rs (route_of l q (hop l q)) listed-good
          (listed_has hop 32 0 0 l q refl (omega arith) r.0 (ap (λ (n : ℕ). q / 2 ^ n) (omega arith) ∙ div-eq_of_lt r.1) h)
          (both (eq-eqb l l refl) (eq-eqb _ q (own-slot l q)))
      go (inr h) = zero_or (hop_for rs l q) (none (omega arith))
        where
          zero_or : (x : ℕ) → (0 < x → ⊥) → x ≡ hop l q
          zero_or zero f = omega arith
          zero_or (suc x) f = absurd (f (omega arith))
