-- What a party sees: of an owner, of the owners of a pool, and of an array over it. No chunk is seen as their own by both.
use mathlib.Core.Path.{◌≡◌, refl, sym, ◌∙◌, ap}
use mathlib.Core.Logic.{◌⊎◌, inl, inr, ◌≢◌}
use mathlib.Core.Bool.{true, false, cond}
use mathlib.Core.List.{List, [], ◌∷◌, map}
use Prim.Native.Nat.{ℕ, zero, suc, ◌+◌, ◌-◌, ◌/◌, ◌^◌, ◌≤◌, ◌<◌}
use native.Mathlib.Omega.{arith}
use lib.Dec.{ltb}
use lib.ListN.{get_or, length, set, length-map}
use lib.Seq.{map-set_same, ext_get_or}
use borrow.Author.Tests.{ltb-true, lt-ltb, le-ltb}
use Rattle.bits.proofs.Bools.{decided, below?}
use Rattle.bits.specs.Count.{bit, count}
use Rattle.sail.specs.Level.{in_use, entry}
use Rattle.sail.specs.Sound.{used}
use Rattle.sail_theory.proofs.places.Pools.{length-laid, laid-at}
use Rattle.sail_theory.proofs.places.Alone as alone
use Rattle.sail_theory.proofs.places.Alone.{length-own, own_at, own-blank}
use Rattle.pair.specs.Party.{Party, one, two, other, owner_of, seen, view}
use Rattle.pair.specs.PairLent.{mine, part, joined}
use Rattle.pair.specs.PairSound.{Nobodys, Spare}

-- owners
pub seen_none : (w : Party) → seen w 0 ≡ 0
unfolding seen
seen_none one = refl
seen_none two = refl

pub seen-own : (w : Party) (q : ℕ) → suc q < 2147483648 → seen w (owner_of w q) ≡ suc q
unfolding seen
seen-own one q h = rw (lt-ltb (suc q) 2147483648 h)
seen-own two q h = omega arith

pub seen_other : (w : Party) (q : ℕ) → suc q < 2147483648 → seen (other w) (owner_of w q) ≡ 0
unfolding seen
seen_other one q h = omega arith
seen_other two q h = rw (le-ltb (2147483648 + suc q) 2147483648 (omega arith))

-- "An owner's top bit is 1 for the second party", and 0 for the first
pub top_bit : (q : ℕ) → suc q < 2147483648 → (owner_of one q / 2147483648 ≡ 0) × (owner_of two q / 2147483648 ≡ 1)
top_bit q h = (omega arith, omega arith)

low : (o : ℕ) → o < 2147483648 → (seen one o ≡ o) × (seen two o ≡ 0)
unfolding seen
low o h = (rw (lt-ltb o 2147483648 h), omega arith)

high : (o : ℕ) → 2147483648 ≤ o → (seen one o ≡ 0) × (seen two o ≡ o - 2147483648)
unfolding seen
high o h = (rw (le-ltb o 2147483648 h), refl)

pub seen_apart : (w : Party) (o : ℕ) → seen w o ≢ 0 → seen (other w) o ≡ 0
seen_apart one o h = go (below? o 2147483648)
  where
    go : (o < 2147483648) ⊎ (2147483648 ≤ o) → seen two o ≡ 0
    go (inl l) = (low o l).1
    go (inr l) = absurd (h (high o l).0)
seen_apart two o h = go (below? o 2147483648)
  where
    go : (o < 2147483648) ⊎ (2147483648 ≤ o) → seen one o ≡ 0
    go (inl l) = absurd (h (low o l).1)
    go (inr l) = (high o l).0

-- an owner that a party sees as its own is the one of that place
pub seen_back : (w : Party) (o : ℕ) → seen w o ≢ 0 → o ≡ owner_of w (seen w o - 1)
seen_back one o h = go (below? o 2147483648)
  where
    go : (o < 2147483648) ⊎ (2147483648 ≤ o) → o ≡ suc (seen one o - 1)
    go (inl l) = omega (arith, (low o l).0, h)
    go (inr l) = absurd (h (high o l).0)
seen_back two o h = go (below? o 2147483648)
  where
    go : (o < 2147483648) ⊎ (2147483648 ≤ o) → o ≡ 2147483648 + suc (seen two o - 1)
    go (inl l) = absurd (h (low o l).1)
    go (inr l) = omega (arith, (high o l).1, h)

-- the owners of a pool
pub length-view : (w : Party) (own : List ℕ) → length (view w own) ≡ length own
unfolding view
length-view w own = length-map own (seen w)

pub get_d-view : (w : Party) (own : List ℕ) (c : ℕ) → get_or (view w own) c 0 ≡ seen w (get_or own c 0)
unfolding view
get_d-view w [] c = sym (seen_none w)
get_d-view w (o ∷ own) zero = refl
get_d-view w (o ∷ own) (suc c) = get_d-view w own c

map-set : (f : ℕ → ℕ) (l : List ℕ) (i a : ℕ) → map f (set l i a) ≡ set (map f l) i (f a)
map-set f [] i a = refl
map-set f (x ∷ l) zero a = refl
map-set f (x ∷ l) (suc i) a = ap (λ (t : List ℕ). f x ∷ t) (map-set f l i a)

pub view-set : (w : Party) (own : List ℕ) (c q : ℕ) → suc q < 2147483648 → view w (set own c (owner_of w q)) ≡ set (view w own) c (suc q)
unfolding view
view-set w own c q h = map-set (seen w) own c (owner_of w q) ∙ ap (set (map (seen w) own) c) (seen-own w q h)

pub view-other : (w : Party) (own : List ℕ) (c q : ℕ) → suc q < 2147483648 → get_or own c 0 ≡ 0 → view (other w) (set own c (owner_of w q)) ≡ view (other w) own
unfolding view
view-other w own c q h z =
    map-set_same (seen (other w)) own c (owner_of w q) 0 (seen_other w q h ∙ sym (ap (seen (other w)) z ∙ seen_none (other w)))

-- places
pub mine-apart : (w : Party) (own : List ℕ) (d q : ℕ) → mine w own d q ≡ true → mine (other w) own d q ≡ false
mine-apart w own d q e =
    let c : ℕ = q / 2 ^ d in
    let h : seen w (get_or own c 0) ≢ 0 = λ z. omega (arith, ltb-true 0 (get_or (view w own) c 0) e, get_d-view w own c, z) in
    le-ltb 0 (get_or (view (other w) own) c 0) (omega (arith, get_d-view (other w) own c, seen_apart w (get_or own c 0) h))

-- an array over a pool
module _ (w : Party) (own : List ℕ) (d : ℕ) (xs : List ℕ) where
  pub length_part : length (part w own d xs) ≡ length xs
  length_part = length-own (view w own) d xs

  pub part-at : (q : ℕ) → q < length xs → get_or (part w own d xs) q 0 ≡ cond (mine w own d q) (get_or xs q 0) 0
  part-at q l = own_at (view w own) d xs q l

  pub part-mine : (q : ℕ) → q < length xs → mine w own d q ≡ true → get_or (part w own d xs) q 0 ≡ get_or xs q 0
  part-mine q l e = part-at q l ∙ rw e

-- it is 0 at the places that are not the party's
abbrev pub Blank : Party → List ℕ → ℕ → List ℕ → Type 0
Blank w own d xs = alone.Blank (view w own) d xs

pub part-blank : (w : Party) (own : List ℕ) (d : ℕ) (xs : List ℕ) → Blank w own d (part w own d xs)
part-blank w own d xs = own-blank (view w own) d xs

-- one for each party
module _ (own : List ℕ) (d : ℕ) (xs ys : List ℕ) (same : length xs ≡ length ys) where
  abbrev both : List ℕ
  both = joined own d xs ys

  pub length-joined : length both ≡ length ys
  unfolding joined
  length-joined = length-laid ys (mine one own d) (entry xs)

  joined_at : (q : ℕ) → q < length ys → get_or both q 0 ≡ cond (mine one own d q) (get_or xs q 0) (get_or ys q 0)
  unfolding joined
  joined_at q l = laid-at ys (mine one own d) (entry xs) q l

  -- each party sees its own
  pub part-joined1 : Blank one own d xs → part one own d both ≡ xs
  part-joined1 b = ext_get_or 0 (part one own d both) xs (length_part one own d both ∙ length-joined ∙ sym same) (λ q l.
      let k : q < length both = rw length_part at l in
      at q k (rw length-joined at k) (decided (mine one own d q)))
    where
      at : (q : ℕ) → q < length both → q < length ys → (mine one own d q ≡ true) ⊎ (mine one own d q ≡ false) → get_or (part one own d both) q 0 ≡ get_or xs q 0
      at q k l (inl e) = part-at one own d both q k ∙ rw e (joined_at q l ∙ rw e)
      at q k l (inr e) = part-at one own d both q k ∙ rw e (sym (b.zero q (rw same l) e))

  pub part-joined2 : Blank two own d ys → part two own d both ≡ ys
  part-joined2 b = ext_get_or 0 (part two own d both) ys (length_part two own d both ∙ length-joined) (λ q l.
      let k : q < length both = rw length_part at l in
      at q k (rw length-joined at k) (decided (mine two own d q)))
    where
      at : (q : ℕ) → q < length both → q < length ys → (mine two own d q ≡ true) ⊎ (mine two own d q ≡ false) → get_or (part two own d both) q 0 ≡ get_or ys q 0
      at q k l (inl e) = part-at two own d both q k ∙ rw e (joined_at q l ∙ rw (mine-apart two own d q e))
      at q k l (inr e) = part-at two own d both q k ∙ rw e (sym (b.zero q l e))

  -- and what is neither's is 0
  pub joined-spare : Blank two own d ys → Spare own d both
  joined-spare b = record { blank = λ q l e f. let k : q < length ys = rw length-joined at l in joined_at q k ∙ rw e (b.zero q k f) }

-- so an array is put together again
pub joined-parts : (own : List ℕ) (d : ℕ) (xs : List ℕ) → Spare own d xs → joined own d (part one own d xs) (part two own d xs) ≡ xs
joined-parts own d xs s =
    let same : length (part one own d xs) ≡ length (part two own d xs) = length_part one own d xs ∙ sym (length_part two own d xs) in
    ext_get_or 0 _ xs (length-joined own d (part one own d xs) (part two own d xs) same ∙ length_part two own d xs) (λ q l.
    let j : q < length (part two own d xs) = rw (length-joined own d (part one own d xs) (part two own d xs) same) at l in
    let k : q < length xs = rw length_part at j in
    joined_at own d (part one own d xs) (part two own d xs) same q j ∙ at q k (decided (mine one own d q)) (decided (mine two own d q)))
  where
    at : (q : ℕ) → q < length xs → (mine one own d q ≡ true) ⊎ (mine one own d q ≡ false) → (mine two own d q ≡ true) ⊎ (mine two own d q ≡ false)
        → cond (mine one own d q) (get_or (part one own d xs) q 0) (get_or (part two own d xs) q 0) ≡ get_or xs q 0
    at q k (inl e) f = rw e (part-mine one own d xs q k e)
    at q k (inr e) (inl f) = rw e (part-mine two own d xs q k f)
    at q k (inr e) (inr f) = rw e (part-at two own d xs q k ∙ rw f (sym (s.blank q k e f)))

-- As many chunks are in use as the parties have.
module _ (own : List ℕ) (nobodys : Nobodys own) where
  one_more : (c : ℕ) → c < length own → bit (in_use (entry own) c) ≡ bit (in_use (entry (view one own)) c) + bit (in_use (entry (view two own)) c)
  one_more c l = go (below? (get_or own c 0) 2147483648)
    where
      o : ℕ
      o = get_or own c 0

      go : (get_or own c 0 < 2147483648) ⊎ (2147483648 ≤ get_or own c 0)
          → bit (ltb 0 (get_or own c 0)) ≡ bit (ltb 0 (get_or (view one own) c 0)) + bit (ltb 0 (get_or (view two own) c 0))
      go (inl h) = rw (get_d-view one own c, get_d-view two own c, (low (get_or own c 0) h).0, (low (get_or own c 0) h).1) (omega arith)
      go (inr h) =
          let k = high (get_or own c 0) h in
          let some : get_or own c 0 - 2147483648 ≢ 0 = λ z. omega (arith, h, nobodys.zero c l k.0 (k.1 ∙ z)) in
          rw (get_d-view one own c, get_d-view two own c, k.0, k.1, lt-ltb 0 (get_or own c 0) (omega arith), lt-ltb 0 (get_or own c 0 - 2147483648) (omega arith))

  count-both : (n : ℕ) → n ≤ length own → count (in_use (entry own)) n ≡ count (in_use (entry (view one own))) n + count (in_use (entry (view two own))) n
  unfolding count
  count-both zero h = refl
  count-both (suc n) h = omega (arith, one_more n h, count-both n (omega arith))

  pub used-both : used own ≡ used (view one own) + used (view two own)
  used-both = rw (length-view one own, length-view two own) (count-both (length own) (native.Mathlib.Nat.le_refl (length own)))
