-- One step down: the last record up to the first m - 1 bits of an address, where no record of m bits or more covers it. All records that
-- cover the address come before it or are it, since each starts no later and is no longer. And where it does not cover the address, one that
-- does reaches over it to the address, so that it is no longer than the bits that the two share.
use mathlib.Core.Path.{◌≡◌, refl, sym, ap, ◌∙◌}
use mathlib.Core.Logic.{◌⊎◌, inl, inr, ◌≢◌}
use mathlib.Core.Bool.{true, false, true≢false}
use mathlib.Core.List.{List}
use Prim.Native.Nat.{ℕ, ◌+◌, ◌-◌, ◌*◌, ◌^◌, ◌≤◌, ◌<◌}
use Rattle.std.specs.Prelude.{Option, Some, None}
use native.Mathlib.Nat.{eq-or-lt_of_le, le_antisymm}
use native.Mathlib.Omega.{arith}
use lib.Pow.{shr_mono}
use borrow.Author.Tests.{le-leb, eq-eqb}
use Rattle.bits.specs.Slot.{slot, cut}
use Rattle.bits.proofs.Slots.{cut-slot, cut-mono, cut-le, cut-is}
use Rattle.bits.proofs.Bools.{below?, equal?, both, untrue}
use Rattle.routes.specs.Route.{key, key_of}
use Rattle.routes.specs.Record.{record_at, Records}
use Rattle.routes.specs.declared.Route.{Route}
use Rattle.standing.specs.Cells.{covers}
use Rattle.standing.proofs.Longest.{cover-parts}
use Rattle.standing.proofs.Paint.{nested}
use Rattle.lists.specs.Place.{place_of}
use Rattle.lists.proofs.Places.{place-before, place_after}
use Rattle.longest.specs.Longest.{LongestAt, LongestRecord, Shared}

-- the records up to the first l bits b of an address, by the key p that is theirs
pub records-to-is : (s : List ℕ) (n a l b m p k : ℕ) → b ≡ cut l a → m ≡ l → p ≡ b * 256 + m → k ≡ place_of s n (p + 1) → k ≡ place_of s n (key_of (cut l a) l + 1)
records-to-is s n a l b m p k eb em ep ek = ek ∙ ap (λ (x : ℕ). place_of s n (x + 1)) (omega arith)

-- no record of m bits or more covers the address
pub NoneFrom : List ℕ → ℕ → ℕ → ℕ → Type 0
NoneFrom s n a m = (k : ℕ) → k < n → m ≤ (record_at s k).len → covers 32 a (record_at s k) ≡ false

module _ (s : List ℕ) (n a : ℕ) (ok : Records s n) where
  -- there is none of 33 bits
  pub none_over : NoneFrom s n a 33
  unfolding NoneFrom
  none_over k u h = absurd (omega (arith, (ok.each k u).prefix.len_ok))

  -- no record is left
  pub none_left : (low m : ℕ) → m ≤ low → NoneFrom s n a m → LongestRecord s n a low None
  unfolding NoneFrom
  none_left low m h more = LongestRecord.none (λ k u e. more k u (omega arith))

  -- record j ascends to record i
  ascends : (j i : ℕ) → j ≤ i → i < n → key (record_at s j) ≤ key (record_at s i)
  ascends j i h u = go (eq-or-lt_of_le h)
    where
      go : (j ≡ i) ⊎ (j < i) → key (record_at s j) ≤ key (record_at s i)
      go (inl e) = rw e (omega arith)
      go (inr l) = omega (arith, ok.rises j i l u)

  module _ (m low : ℕ) (more : NoneFrom s n a m) (range : m ≤ 33) (some : low < m) (k : ℕ)
      (ek : (k ≡ place_of s n (key_of (cut (m - 1) a) (m - 1) + 1)) × (k ≤ n)) where
    -- the key after the first m - 1 bits
    abbrev to : ℕ
    to = key_of (cut (m - 1) a) (m - 1) + 1

    -- each record that covers the address is one of the first k
    early : (j : ℕ) → j < n → covers 32 a (record_at s j) ≡ true → j < k
    unfolding NoneFrom
    early j u c = go (below? (record_at s j).len m) (below? j k)
      where
        r : Route
        r = record_at s j

        starts : cut r.len a ≡ r.addr
        starts = cut-slot r.len a r.addr (ok.each j u).prefix.clear (sym (cover-parts 32 a r c).1)

        go : (r.len < m) ⊎ (m ≤ r.len) → (j < k) ⊎ (k ≤ j) → j < k
        go (inr h) v = absurd (true≢false (sym c ∙ more j u h))
        go (inl h) (inl v) = v
        go (inl h) (inr v) =
            absurd (omega (arith, starts, cut-mono r.len (m - 1) a (omega arith) (omega arith), place_after s n to ok j (rw (← ek.0) v) u))

    -- there is none
    pub none-early : k ≡ 0 → LongestRecord s n a low None
    none-early z = LongestRecord.none (λ j u _. untrue (covers 32 a (record_at s j)) (λ c. omega (arith, early j u c)))

    -- the last of them
    module _ (z : k ≡ 0 → ⊥) (r : Route) (er : r ≡ record_at s (k - 1)) (len same : ℕ) (el : len ≡ r.len) (es : Shared r.addr a same) where
      last : k - 1 < n
      last = omega (arith, z, ek.1)

      its-len : (record_at s (k - 1)).len ≡ len
      its-len = ap (λ (x : Route). x.len) (sym er) ∙ sym el

      its-addr : (record_at s (k - 1)).addr ≡ r.addr
      its-addr = ap (λ (x : Route). x.addr) (sym er)

      up_to : r.addr * 256 + len < key_of (cut (m - 1) a) (m - 1) + 1
      up_to = omega (arith, its-len, its-addr, place-before s n to (k - 1) (rw (← ek.0) (omega (arith, z))))

      short : len ≤ 32
      short = omega (arith, its-len, (ok.each (k - 1) last).prefix.len_ok)

      -- it covers the address
      module _ (h : len ≤ same) where
        over : covers 32 a (record_at s (k - 1)) ≡ true
        over =
            let e : slot (record_at s (k - 1)).len (record_at s (k - 1)).addr ≡ slot (record_at s (k - 1)).len a = rw (its-len, its-addr) (es.same len h) in
            both (le-leb _ 32 (ok.each (k - 1) last).prefix.len_ok) (eq-eqb _ _ e)

        longest : (j : ℕ) → j < n → covers 32 a (record_at s j) ≡ true → (record_at s j).len ≤ (record_at s (k - 1)).len
        longest j u c = go (below? (record_at s (k - 1)).len (record_at s j).len)
          where
            go : ((record_at s (k - 1)).len < (record_at s j).len) ⊎ ((record_at s j).len ≤ (record_at s (k - 1)).len) → (record_at s j).len ≤ (record_at s (k - 1)).len
            go (inr l) = l
            go (inl l) =
                absurd (omega (
                  arith,
                  nested 32 a (record_at s (k - 1)) (record_at s j) (ok.each (k - 1) last) (ok.each j u) over c (omega arith),
                  ascends j (k - 1) (omega (arith, early j u c)) last,
                ))

        pub found : low ≤ len → LongestRecord s n a low (Some (k - 1))
        found e = LongestRecord.one (k - 1) last (record { covering = over; enough = omega (arith, its-len); longest = longest })

        pub found-short : len < low → LongestRecord s n a low None
        found-short e =
            LongestRecord.none (λ j u l. untrue (covers 32 a (record_at s j)) (λ c. omega (arith, longest j u c, its-len)))

      -- it does not: what covers the address shares with it at least its own bits
      module _ (h : same < len) where
        pub step : NoneFrom s n a (same + 1)
        unfolding NoneFrom
        step j u l = untrue (covers 32 a (record_at s j)) (λ c. go c (equal? j (k - 1)))
          where
            agrees : covers 32 a (record_at s j) ≡ true → (record_at s j).addr ≤ r.addr → slot (record_at s j).len r.addr ≡ slot (record_at s j).len a
            agrees c e =
                let p : r.addr ≤ a = omega (arith, up_to, short, cut-le (m - 1) a) in
                le_antisymm (shr_mono (32 - (record_at s j).len) p) (rw (← (cover-parts 32 a (record_at s j) c).1) (shr_mono (32 - (record_at s j).len) e))

            go : covers 32 a (record_at s j) ≡ true → (j ≡ k - 1) ⊎ (j ≢ k - 1) → ⊥
            go c (inl e) =
                let el = ap (λ (x : ℕ). (record_at s x).len) e ∙ its-len in
                let ea = ap (λ (x : ℕ). (record_at s x).addr) e ∙ its-addr in
                let q : slot len r.addr ≡ slot len a = rw (el, ea) at (cover-parts 32 a (record_at s j) c).1 in
                es.more len h short q
            go c (inr e) =
                let w = ok.rises j (k - 1) (omega (arith, e, early j u c)) last in
                es.more (record_at s j).len (omega arith) (ok.each j u).prefix.len_ok (agrees c (omega (arith, w, its-len, its-addr, short)))

        pub lower : same + 1 < m
        lower = go (below? (same + 1) m)
          where
            go : (same + 1 < m) ⊎ (m ≤ same + 1) → same + 1 < m
            go (inl l) = l
            go (inr l) =
                let q : cut (m - 1) r.addr ≡ cut (m - 1) a
                = cut-is (m - 1) r.addr ∙ ap (λ (x : ℕ). x * 2 ^ (32 - (m - 1))) (es.same (m - 1) (omega arith)) ∙ sym (cut-is (m - 1) a) in
                absurd (omega (arith, q, cut-le (m - 1) r.addr, up_to, short))

-- of two records that cover an address and are as long as one another none comes first: they are one
module _ (s : List ℕ) (n a : ℕ) (ok : Records s n) where
  no-first : (i j : ℕ) → i < j → j < n → covers 32 a (record_at s i) ≡ true → covers 32 a (record_at s j) ≡ true → (record_at s j).len ≤ (record_at s i).len → ⊥
  no-first i j l u c d h =
      omega (arith, nested 32 a (record_at s j) (record_at s i) (ok.each j u) (ok.each i (omega arith)) d c h, ok.rises i j l u)

  same-record : {i j : ℕ} → i < n → j < n → LongestAt s n a 0 i → LongestAt s n a 0 j → i ≡ j
  same-record {i} {j} u v x y = go (below? i j) (below? j i)
    where
      go : (i < j) ⊎ (j ≤ i) → (j < i) ⊎ (i ≤ j) → i ≡ j
      go (inl l) k = absurd (no-first i j l v x.covering y.covering (x.longest j v y.covering))
      go (inr l) (inl k) = absurd (no-first j i k u y.covering x.covering (y.longest i u x.covering))
      go (inr l) (inr k) = omega arith

-- no second answer meets the contract
pub one-longest : (s : List ℕ) (n a low : ℕ) (r q : Option ℕ) → Records s n → LongestRecord s n a low r → LongestRecord s n a low q → r ≡ q
one-longest s n a low r q ok x y = go x y
  where
    clash : {A : Type 0} (k : ℕ) → k < n → LongestAt s n a low k
        → ((j : ℕ) → j < n → low ≤ (record_at s j).len → covers 32 a (record_at s j) ≡ false) → A
    clash k u w clear = absurd (true≢false (sym w.covering ∙ clear k u w.enough))

    any-low : {k : ℕ} → LongestAt s n a low k → LongestAt s n a 0 k
    any-low w = record { covering = w.covering; enough = omega arith; longest = w.longest }

    go : {r q : Option ℕ} → LongestRecord s n a low r → LongestRecord s n a low q → r ≡ q
    go (LongestRecord.one i u v) (LongestRecord.one j w z) = ap (λ (k : ℕ). Some k) (same-record s n a ok u w (any-low v) (any-low z))
    go (LongestRecord.one i u v) (LongestRecord.none clear) = clash i u v clear
    go (LongestRecord.none clear) (LongestRecord.one j w z) = clash j w z clear
    go (LongestRecord.none clear) (LongestRecord.none _) = refl
