-- Cells filled record by record, and bytes bit by bit. No two good records have one place, so a hop that was put stays.
use mathlib.Core.Path.{◌≡◌, refl, sym, ap, ap₂, ◌∙◌, subst}
use mathlib.Core.Logic.{◌⊎◌, inl, inr, ◌≢◌}
use mathlib.Core.Bool.{Bool, true, false, true≢false}
use mathlib.Core.List.{List}
use Prim.Native.Nat.{ℕ, suc, ◌+◌, ◌*◌, ◌%◌, ◌^◌, ◌≤◌, ◌<◌}
use native.Mathlib.Nat.{eq-or-lt_of_le, mod-eq_of_lt}
use native.Mathlib.Omega.{arith}
use lib.Pow.{pow_mono}
use lib.ListN.{length, get_or, set, replicate, length-set, length-replicate, get_or-replicate, get_or-eq_default}
use lib.Seq.{get_or-set_same, get_or-set_other}
use borrow.Author.Tests.{le-leb, lt-leb, lt-ltb, le-ltb}
use Rattle.bits.specs.Slot.{slot}
use Rattle.bits.specs.Bit.{packed_bits}
use Rattle.bits.specs.Count.{bit}
use Rattle.bits.proofs.Slots.{slot_lt}
use Rattle.bits.proofs.Bools.{below?}
use Rattle.bits.proofs.Tabs.{is-tabulate}
use Rattle.bits.proofs.Packed.{packed_lt}
use Rattle.routes.specs.Record.{record_at, routes_of, Records}
use Rattle.routes.specs.declared.Route.{Route}
use Rattle.routes.proofs.Rows.{record-listed, listed-record}
use Rattle.standing.specs.Cells.{here, first, or_else}
use Rattle.standing.proofs.Longest.{First, first-is, here-parts, here-make}
use Rattle.standing.proofs.Prefixes.{one_key}
use Rattle.basic.specs.Maps.{map_place, level_of, prefix_of, map_cell, map_cells, hop_there, map_bits}
use Rattle.basic.proofs.Places.{place-bound, level-place, prefix-place, level-le, place-prefix}
use Rattle.basic_build.specs.Built.{with_route}

-- one route
module _ (cs : List ℕ) (r : Route) (l : ℕ) (e : l ≡ r.len) where
  pub put-short : (i : ℕ) → l ≤ 16 → i ≡ map_place l (slot l r.addr) → set cs i r.hop ≡ with_route r cs
  unfolding with_route
  put-short i h q = rw (le-leb r.len 16 (rw e at h), q, e)

  pub put-long : 16 < l → cs ≡ with_route r cs
  unfolding with_route
  put-long h = rw (lt-leb r.len 16 (rw e at h))

-- the place of record j
abbrev place_at : List ℕ → ℕ → ℕ
place_at s j = map_place (record_at s j).len (slot (record_at s j).len (record_at s j).addr)

-- the hops of the first k records stand in their cells, and the other cells are zero
pub record PutTo (s : List ℕ) (k : ℕ) (cs : List ℕ) : Type 0 where
  pub size : length cs ≡ 131071
  pub put : (j : ℕ) → j < k → (record_at s j).len ≤ 16 → get_or cs (place_at s j) 0 ≡ (record_at s j).hop
  pub rest : (i : ℕ) → i < 131071 → ((j : ℕ) → j < k → (record_at s j).len ≤ 16 → place_at s j ≢ i) → get_or cs i 0 ≡ 0

pub put-none : (s : List ℕ) (m : ℕ) (cs : List ℕ) → cs ≡ replicate m 0 → m ≡ 131071 → PutTo s 0 cs
put-none s m cs b e = record {
  size = ap length b ∙ length-replicate m 0 ∙ e;
  put = λ j l h. absurd (omega arith);
  rest = λ i l h. ap (λ (x : List ℕ). get_or x i 0) b ∙ get_or-replicate {A = ℕ} m i 0 0 (rw e l);
}

module _ (s : List ℕ) (n : ℕ) (ok : Records s n) where
  module _ (j : ℕ) (u : j < n) (h : (record_at s j).len ≤ 16) where
    inside : slot (record_at s j).len (record_at s j).addr < 2 ^ (record_at s j).len
    inside = slot_lt (record_at s j).len (record_at s j).addr (omega arith) (ok.each j u).prefix.addr_ok

    -- a place tells the prefix of its record
    here_place : (i : ℕ) → place_at s j ≡ i → here (level_of i) (prefix_of i) (record_at s j) ≡ true
    here_place i q =
        let e = level-place (record_at s j).len (slot (record_at s j).len (record_at s j).addr) h inside in
        let p = prefix-place (record_at s j).len (slot (record_at s j).len (record_at s j).addr) h inside in
        subst (λ (x : ℕ). here (level_of x) (prefix_of x) (record_at s j) ≡ true) q
        (here-make (level_of (place_at s j)) (prefix_of (place_at s j)) (record_at s j) (sym e) (ap (λ (x : ℕ). slot x (record_at s j).addr) e ∙ sym p))

  -- an earlier record has another place
  other_place : (j k : ℕ) → j < k → k < n → (record_at s j).len ≤ 16 → (record_at s k).len ≤ 16 → place_at s j ≡ place_at s k → ⊥
  other_place j k l u p q e =
      let i = place_at s k in
      let x = here_place j (omega arith) p i e in
      let y = here_place k u q i refl in
      omega (arith, one_key (level_of i) (prefix_of i) (record_at s j) (record_at s k) (ok.each j (omega arith)) (ok.each k u) x y, ok.rises j k l u)

  -- one record more
  pub put-more : (k : ℕ) (r : Route) (cs ys : List ℕ) → k < n → r ≡ record_at s k → ys ≡ with_route r cs → PutTo s k cs → PutTo s (k + 1) ys
  put-more k r cs ys u er ey p = subst (PutTo s (k + 1)) (sym (ey ∙ ap (λ (x : Route). with_route x cs) er)) (go (below? 16 (record_at s k).len))
    where
      long : 16 < (record_at s k).len → PutTo s (k + 1) cs
      long h = record {
        size = p.size;
        put = λ j l q. p.put j (past j l q) q;
        rest = λ i l q. p.rest i l (λ j v. q j (omega arith));
      }
        where
          past : (j : ℕ) → j < k + 1 → (record_at s j).len ≤ 16 → j < k
          past j l q = at (eq-or-lt_of_le {n = j} {m = k} (omega arith))
            where
              at : (j ≡ k) ⊎ (j < k) → j < k
              at (inl e) = absurd (let z : (record_at s k).len ≤ 16 = rw e at q in omega arith)
              at (inr v) = v

      short : (record_at s k).len ≤ 16 → PutTo s (k + 1) (set cs (place_at s k) (record_at s k).hop)
      short h = record {
        size = length-set cs _ _ ∙ p.size;
        put = λ j l q. at j q (eq-or-lt_of_le {n = j} {m = k} (omega arith));
        rest = λ i l q. get_or-set_other cs (place_at s k) i _ 0 (λ (e : i ≡ place_at s k). q k (omega arith) h (sym e)) ∙ p.rest i l (λ j v. q j (omega arith));
      }
        where
          room : place_at s k < length cs
          room = rw p.size (place-bound _ _ h (inside k u h))

          at : (j : ℕ) → (record_at s j).len ≤ 16 → (j ≡ k) ⊎ (j < k) → get_or (set cs (place_at s k) (record_at s k).hop) (place_at s j) 0 ≡ (record_at s j).hop
          at j q (inl e) = rw e (get_or-set_same cs (place_at s k) (record_at s k).hop 0 room)
          at j q (inr v) = get_or-set_other cs (place_at s k) (place_at s j) _ 0 (other_place j k v u q h) ∙ p.put j v q

      go : (16 < (record_at s k).len) ⊎ ((record_at s k).len ≤ 16) → PutTo s (k + 1) (with_route (record_at s k) cs)
      go (inl h) = subst (PutTo s (k + 1)) (put-long cs (record_at s k) (record_at s k).len refl h) (long h)
      go (inr h) = subst (PutTo s (k + 1)) (put-short cs (record_at s k) (record_at s k).len refl (place_at s k) h refl) (short h)

  -- all records
  cell-is : (cs : List ℕ) → PutTo s n cs → (i : ℕ) → i < 131071 → get_or cs i 0 ≡ map_cell (routes_of s n) i
  unfolding map_cell
  cell-is cs p i u = go (first-is (here (level_of i) (prefix_of i)) (routes_of s n))
    where
      go : First (here (level_of i) (prefix_of i)) (routes_of s n) → get_or cs i 0 ≡ or_else (first (here (level_of i) (prefix_of i)) (routes_of s n)) 0
      go (First.nothing z none) =
          p.rest i u (λ j l h e. true≢false (sym (here_place j l h i e) ∙ none (record_at s j) (record-listed s n j l))) ∙ rw z refl
      go (First.found r m t z) =
          let q = listed-record s n r m in
          let w = here-parts (level_of i) (prefix_of i) (record_at s q.0) (ap (here (level_of i) (prefix_of i)) q.2 ∙ t) in
          let there : place_at s q.0 ≡ i = ap₂ map_place w.0 (ap (λ (x : ℕ). slot x (record_at s q.0).addr) w.0 ∙ w.1) ∙ place-prefix i u in
          let hop = p.put q.0 q.1 (rw w.0 (level-le i u)) in
          ap (λ (x : ℕ). get_or cs x 0) (sym there) ∙ hop ∙ ap (λ (x : Route). x.hop) q.2 ∙ sym (rw z refl)

  pub put_all : (k : ℕ) (cs : List ℕ) → k ≤ n → n ≤ k → PutTo s k cs → cs ≡ map_cells (routes_of s n)
  unfolding map_cells
  put_all k cs a b p =
      let q : PutTo s n cs = subst (λ (x : ℕ). PutTo s x cs) (omega arith) p in
      is-tabulate 0 cs 131071 (map_cell (routes_of s n)) q.size (cell-is cs q)

-- the bit of a place
module _ (cs : List ℕ) (i : ℕ) where
  pub bit-set : (get_or cs i 0 ≡ 0 → ⊥) → 1 ≡ bit (hop_there cs i)
  bit-set z = rw (lt-ltb 0 (get_or cs i 0) (omega (arith, z)))

  pub bit-clear : get_or cs i 0 ≡ 0 → 0 ≡ bit (hop_there cs i)
  bit-clear z = rw (le-ltb 0 (get_or cs i 0) (omega arith))

  -- past the last cell
  pub bit_past : length cs ≡ 131071 → 131071 ≤ i → 0 ≡ bit (hop_there cs i)
  bit_past e h = bit-clear (get_or-eq_default cs 0 (omega arith))

-- a byte, bit by bit
module _ (f : ℕ → Bool) (b x y : ℕ) (h : b < 8) (e : x ≡ packed_bits f b) (q : y ≡ bit (f b)) where
  shifted : y * 2 ^ b % 2 ^ 32 ≡ bit (f b) * 2 ^ b
  shifted = rw q (go (f b))
    where
      go : (t : Bool) → bit t * 2 ^ b % 2 ^ 32 ≡ bit t * 2 ^ b
      go true = mod-eq_of_lt (omega (arith, pow_mono {i = b} {j = 8} (omega arith)))
      go false = mod-eq_of_lt (omega arith)

  next : x + y * 2 ^ b % 2 ^ 32 ≡ packed_bits f (suc b)
  unfolding packed_bits
  next = rw (shifted, e) (omega arith)

  pub byte_more : x + y * 2 ^ b % 2 ^ 32 ≡ packed_bits f (b + 1)
  byte_more = next ∙ ap (packed_bits f) (omega arith)

  pub byte_small : x + y * 2 ^ b % 2 ^ 32 < 256
  byte_small = rw next (omega (arith, packed_lt f (suc b), pow_mono {i = suc b} {j = 8} h))

pub byte-none : (f : ℕ → Bool) → 0 ≡ packed_bits f 0
unfolding packed_bits
byte-none f = refl

pub byte-whole : (f : ℕ → Bool) (b x : ℕ) → b ≤ 8 → 8 ≤ b → x ≡ packed_bits f b → x ≡ packed_bits f 8
byte-whole f b x h l e = e ∙ ap (packed_bits f) (omega arith)

pub bytes-all : (cs bs : List ℕ) (j : ℕ) → length bs ≡ 16384 → 16384 ≤ j
    → ((i : ℕ) → i < j → get_or bs i 0 ≡ packed_bits (λ b. hop_there cs (8 * i + b)) 8) → bs ≡ map_bits cs
unfolding map_bits
bytes-all cs bs j e l h = is-tabulate 0 bs 16384 (λ i. packed_bits (λ b. hop_there cs (8 * i + b)) 8) e (λ i u. h i (omega arith))
