-- The chain of covering words, and that its end is the longest route that covers the cell.
use mathlib.Core.Path.{◌≡◌, refl, sym, ap, ◌∙◌}
use mathlib.Core.Bool.{Bool, true, false, false≢true}
use mathlib.Core.List.{List, [], ◌∷◌}
use Prim.Native.Nat.{ℕ, zero, suc, ◌+◌, ◌-◌, ◌*◌, ◌/◌, ◌^◌, ◌<◌, ◌≤◌, suc-le-suc, zero-le}
use native.Mathlib.Nat.{not-suc-le-zero, le_of_suc-le-suc, mul-le-mul_right, mul_assoc, div-mul-le_self}
use native.Mathlib.Decide.{dec_lt}
use native.Mathlib.Omega.{arith}
use lib.ListN.{length, get_or, take, set}
use lib.Seq.{get_or-take, get_or-set_same, get_or-set_other, length-take-le}
use lib.Pow.{shr_mono, shr_le, shl-shr, pow-add}
use borrow.Author.Tests.{le-leb, eq-eqb}
use Rattle.bits.specs.Slot.{slot}
use Rattle.bits.proofs.Bools.{both, untrue}
use Rattle.bits.proofs.Slots.{slot-up, cut-is}
use Rattle.routes.specs.Route.{Fine}
use Rattle.standing.specs.Cells.{covers, best, last_hop}
use Rattle.routes.specs.declared.Route.{Route}
use Rattle.standing.proofs.Longest.{cover-parts}
use Rattle.standing.proofs.Paint.{best-last}
use Rattle.chain.specs.Words.{len_of, hop_of, route_of_word, routes_of_words, Words}
use Rattle.chain.specs.Place.{KeysBelow, Between, under_key, RunFrom}
use Rattle.chain.specs.Cover.{addr_in, LastCover, Parents, Climb, Heads, ChainReady}
use Rattle.chain.proofs.Decodes.{words-good}
use Rattle.chain.proofs.Places.{keys, place-rises}

-- the slot of a level above
slot-above : (l p a : ℕ) → l ≤ p → p ≤ 32 → slot p a / 2 ^ (p - l) ≡ slot l a
slot-above l p a h u =
    let e : l + (p - l) ≡ p = omega arith in
    ap (λ (n : ℕ). slot n a / 2 ^ (p - l)) (sym e) ∙ slot-up l (p - l) a (omega arith)

-- only words before m are left, of those before j, that may cover the cell
pub record LeftBelow (ws : List ℕ) (j p i m : ℕ) : Type 0 where
  pub to : m ≤ j
  pub none : (k : ℕ) → m ≤ k → k < j → covers p i (route_of_word (get_or ws k 0)) ≡ false

pub all_left : (ws : List ℕ) (j p i : ℕ) → LeftBelow ws j p i j
all_left ws j p i = record { to = omega arith; none = λ k a b. absurd (omega arith) }

pub found : {ws : List ℕ} {j p i m : ℕ} → LeftBelow ws j p i m → 0 < m → (b : Bool) → b ≡ covers p i (route_of_word (get_or ws (m - 1) 0)) → b ≡ true
    → LastCover ws j p i (m - 1 + 1)
found {m = m} left z b e t = let q : m - 1 + 1 ≡ m = omega arith in rw q (record { to = left.to; one = λ z. sym e ∙ t; none = left.none })

pub none_left : {ws : List ℕ} {j p i m : ℕ} → LeftBelow ws j p i m → m ≤ 0 → LastCover ws j p i 0
none_left left z = record { to = omega arith; one = λ h. absurd (omega arith); none = λ k a b. left.none k (omega arith) b }

module _ {ws par : List ℕ} {j p i : ℕ} (c : Climb ws par j p i) where
  -- a word that covers the cell covers the address of each word between
  covers-on : (r m : ℕ) → r < m → m < j → covers p i (route_of_word (get_or ws r 0)) ≡ true → covers 32 (addr_in ws m) (route_of_word (get_or ws r 0)) ≡ true
  covers-on r m l u e =
      let len = len_of (get_or ws r 0) in
      let t = cover-parts p i (route_of_word (get_or ws r 0)) e in
      let k = keys ws c.words m r l (omega (arith, c.to)) in
      let n : addr_in ws r ≤ addr_in ws m = omega arith in
      let hp = c.level in
      let f : slot len (addr_in ws r) ≡ slot len (addr_in ws m)
      = omega (arith, t.1, shr_mono (32 - len) n, shr_mono (p - len) (c.upto m u), slot-above len p (addr_in ws m) t.0 hp) in
      both (le-leb len 32 (omega (arith, t.0))) (eq-eqb _ _ f)

  -- from a word that does not cover the cell on to its parent
  module _ (m x : ℕ) (b : Bool) (left : LeftBelow ws j p i m) (z : 0 < m) (test : b ≡ covers p i (route_of_word (get_or ws (m - 1) 0)))
      (fails : b ≡ false) (q : x ≡ get_or par (m - 1) 0) where
    parent : LastCover ws (m - 1) 32 (addr_in ws (m - 1)) (get_or par (m - 1) 0)
    parent = c.parents.each (m - 1) (omega (arith, left.to))

    pub climb-less : x < m
    climb-less = omega (arith, parent.to)

    pub climb-on : LeftBelow ws j p i x
    climb-on = record { to = omega (arith, climb-less, left.to); none = λ k l u. go k l u (dec_lt k (m - 1)) (dec_lt k m) }
      where
        go : (k : ℕ) → x ≤ k → k < j → Dec (k < m - 1) → Dec (k < m) → covers p i (route_of_word (get_or ws k 0)) ≡ false
        go k l u (yes d) f = untrue _ (λ t. false≢true (sym (parent.none k (omega arith) d) ∙ covers-on k (m - 1) d (omega (arith, left.to)) t))
        go k l u (no d) (yes f) = let g : k ≡ m - 1 = omega arith in rw g (sym test ∙ fails)
        go k l u (no d) (no f) = left.none k (omega arith) u

-- the parents of the words before k, in a part of the list and in the list with one entry more
module _ (ws par : List ℕ) where
  pub no-parents : Parents ws par 0
  no-parents = record { each = λ k l. absurd (not-suc-le-zero l) }

  -- parents speak of the words up to the last of them alone
  pub parents-same : (xs : List ℕ) (k : ℕ) → ((j : ℕ) → j < k → get_or xs j 0 ≡ get_or ws j 0) → Parents ws par k → Parents xs par k
  parents-same xs k same ps = record { each = λ j l. last-same j l (ps.each j l) }
    where
      last-same : (j : ℕ) → j < k → LastCover ws j 32 (addr_in ws j) (get_or par j 0) → LastCover xs j 32 (addr_in xs j) (get_or par j 0)
      last-same j l c = record {
        to = c.to;
        one = λ z. rw (same j l, same (get_or par j 0 - 1) (omega (arith, c.to))) (c.one z);
        none = λ i a b. rw (same j l, same i (omega arith)) (c.none i a b);
      }

  pub parents-fewer : (n k : ℕ) → k ≤ n → Parents ws par n → Parents ws par k
  parents-fewer n k u ps = record { each = λ j l. ps.each j (omega arith) }

  parents-take : (k : ℕ) → Parents ws par k → Parents ws (take k par) k
  parents-take k ps = record { each = λ j l. rw (get_or-take k par j 0 l) (ps.each j l) }

  pub parents-more : (k m : ℕ) → k < length par → Parents ws par k → LastCover ws k 32 (addr_in ws k) m → Parents ws (set par k m) (k + 1)
  parents-more k m l ps last = record { each = λ j u. go j u (dec_lt j k) }
    where
      go : (j : ℕ) → j < k + 1 → Dec (j < k) → LastCover ws j 32 (addr_in ws j) (get_or (set par k m) j 0)
      go j u (yes d) = rw (get_or-set_other par k j m 0 (λ e. omega arith)) (ps.each j d)
      go j u (no d) = let e : j ≡ k = omega arith in rw (e, get_or-set_same par k m 0 l) last

  -- an entry past the words changes no parent
  pub parents-keep : (n x v : ℕ) → n ≤ x → Parents ws par n → Parents ws (set par x v) n
  parents-keep n x v u ps = record { each = λ j l. rw (get_or-set_other par x j v 0 (λ e. omega arith)) (ps.each j l) }

  pub no-heads : Heads ws par 0
  no-heads = record { each = λ j l. absurd (not-suc-le-zero l) }

  pub heads-more : (b v : ℕ) → 4096 + b < length par → KeysBelow ws (b * 4294967296) v → Heads ws par b → Heads ws (set par (4096 + b) v) (b + 1)
  heads-more b v l p h = record { each = λ j u. go j u (dec_lt j b) }
    where
      go : (j : ℕ) → j < b + 1 → Dec (j < b) → KeysBelow ws (j * 4294967296) (get_or (set par (4096 + b) v) (4096 + j) 0)
      go j u (yes d) = rw (get_or-set_other par (4096 + b) (4096 + j) v 0 (λ e. omega arith)) (h.each j d)
      go j u (no d) = let e : j ≡ b = omega arith in rw (e, get_or-set_same par (4096 + b) v 0 l) p

  -- a place lies between the heads of its first byte
  pub head-between : (key lo hi : ℕ) → ChainReady ws par → key < 1099511627776
      → lo ≡ get_or par (4096 + key / 4294967296) 0 → hi ≡ get_or par (4096 + key / 4294967296 + 1) 0 → Between ws key lo hi
  head-between key lo hi ready k e f =
      let b = key / 4294967296 in
      let g : 4096 + b + 1 ≡ 4096 + (b + 1) = omega arith in
      let x : KeysBelow ws (b * 4294967296) lo = rw e (ready.heads.each b (omega arith)) in
      let y : KeysBelow ws ((b + 1) * 4294967296) hi = rw (f ∙ ap (λ (n : ℕ). get_or par n 0) g) (ready.heads.each (b + 1) (omega arith)) in
      record {
        words = ready.words;
        from = place-rises ws (b * 4294967296) ((b + 1) * 4294967296) lo hi (omega arith) x y;
        to = y.to;
        below = λ j a. omega (arith, x.below j a);
        above = λ j a u. omega (arith, y.above j a u);
      }

-- up the chain from a word, for its own parent
pub climb-self : (ws par : List ℕ) (k : ℕ) → Words ws → k < length ws → k ≤ length par → Parents ws par k → Climb ws (take k par) k 32 (addr_in ws k)
climb-self ws par k good l u ps = record {
  words = good;
  level = omega arith;
  to = omega arith;
  room = omega (arith, length-take-le k par u);
  parents = parents-take ws par k ps;
  upto = λ j a. omega (arith, keys ws good k j a l, shr_le (addr_in ws j) (32 - 32));
}

-- of a list of words, the last that passes the test, if one does
module _ (f : Route → Bool) where
  last_none : (ws : List ℕ) (d : ℕ) → ((k : ℕ) → k < length ws → f (route_of_word (get_or ws k 0)) ≡ false) → last_hop f (routes_of_words ws) d ≡ d
  unfolding last_hop
  last_none [] d h = refl
  last_none (w ∷ ws) d h = rw (h 0 (suc-le-suc zero-le), last_hop) (last_none ws d (λ k l. h (suc k) (suc-le-suc l)))

  last_one : (ws : List ℕ) (d n : ℕ) → n < length ws → f (route_of_word (get_or ws n 0)) ≡ true →
      ((k : ℕ) → n < k → k < length ws → f (route_of_word (get_or ws k 0)) ≡ false)
      → last_hop f (routes_of_words ws) d ≡ hop_of (get_or ws n 0)
  unfolding last_hop
  last_one [] d n l e h = absurd (not-suc-le-zero l)
  last_one (w ∷ ws) d zero l e h = rw (e, last_hop) (last_none ws _ (λ k u. h (suc k) (suc-le-suc zero-le) (suc-le-suc u)))
  last_one (w ∷ ws) d (suc n) l e h = last_one ws _ n (le_of_suc-le-suc l) e (λ k a u. h (suc k) (suc-le-suc a) (suc-le-suc u))

-- a route that covers a cell starts no later than it
cover-start : (p i : ℕ) (r : Route) → Fine r → p ≤ 32 → covers p i r ≡ true → r.addr ≤ i * 2 ^ (32 - p)
cover-start p i r f hp e =
    let t = cover-parts p i r e in
    let d = p - r.len in
    let k : 32 - r.len ≡ d + (32 - p) = omega (arith, t.0) in
    let q : r.addr ≡ i / 2 ^ d * 2 ^ d * 2 ^ (32 - p)
    = sym f.prefix.clear ∙ cut-is r.len r.addr ∙ ap (λ (x : ℕ). x * 2 ^ (32 - r.len)) t.1
    ∙ ap (λ (x : ℕ). i / 2 ^ d * x) (ap (λ (x : ℕ). 2 ^ x) k ∙ pow-add 2 d (32 - p)) ∙ sym (mul_assoc _ _ _) in
    omega (arith, mul-le-mul_right (2 ^ (32 - p)) (div-mul-le_self i (2 ^ d)))

module _ {ws par : List ℕ} {lo p i : ℕ} (ready : ChainReady ws par) (start : RunFrom ws p i lo) where
  pl : KeysBelow ws (under_key p i) lo
  pl = start.place

  pub climb-placed : Climb ws par lo p i
  climb-placed = record {
    words = ready.words;
    level = start.level;
    to = pl.to;
    room = omega (arith, pl.to, ready.few, ready.room);
    parents = parents-fewer ws par (length ws) lo pl.to ready.parents;
    upto = λ k l.
        let a = pl.below k l in
        let n : addr_in ws k ≤ i * 2 ^ (32 - p) = omega arith in
        omega (arith, shr_mono (32 - p) n, shl-shr i (32 - p));
  }

  none-past : (k : ℕ) → lo ≤ k → k < length ws → covers p i (route_of_word (get_or ws k 0)) ≡ false
  none-past k a b = untrue _ (λ t.
      omega (
        arith,
        cover-start p i (route_of_word (get_or ws k 0)) (ready.words.fine k b) start.level t,
        (cover-parts p i
            (route_of_word (get_or ws k 0)) t).0,
        pl.above k a b,
      ))

  none_after : {m : ℕ} → LastCover ws lo p i m → (k : ℕ) → m ≤ k → k < length ws → covers p i (route_of_word (get_or ws k 0)) ≡ false
  none_after last k a b = go (dec_lt k lo)
    where
      go : Dec (k < lo) → covers p i (route_of_word (get_or ws k 0)) ≡ false
      go (yes d) = last.none k a d
      go (no d) = none-past k (omega arith) b

  pub none-best : LastCover ws lo p i 0 → 0 ≡ best (routes_of_words ws) p i
  none-best last =
      sym (last_none (covers p i) ws 0 (λ k l. none_after last k (omega arith) l)) ∙ best-last (routes_of_words ws) p i (words-good ws ready.words)

  module _ (k : ℕ) (last : LastCover ws lo p i (k + 1)) where
    pub placed-in : k < length ws
    placed-in = omega (arith, last.to, pl.to)

    placed-covers : covers p i (route_of_word (get_or ws k 0)) ≡ true
    placed-covers = let e : k + 1 - 1 ≡ k = omega arith in rw e at (last.one (omega arith))

    pub one-best : hop_of (get_or ws k 0) ≡ best (routes_of_words ws) p i
    one-best =
        sym (last_one (covers p i) ws 0 k placed-in placed-covers (λ j a u. none_after last j (omega arith) u))
        ∙ best-last (routes_of_words ws) p i (words-good ws ready.words)

    pub one-small : hop_of (get_or ws k 0) < 32768
    one-small = omega (arith, (ready.words.fine k placed-in).hop_ok)
