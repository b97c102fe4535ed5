-- A route over a block of cells touches one range of them.
use mathlib.Core.Path.{◌≡◌, sym, ap, ◌∙◌}
use mathlib.Core.Bool.{cond}
use mathlib.Core.List.{List, [], ◌∷◌, ◌++◌, map-append}
use Prim.Native.Nat.{ℕ, suc, ◌+◌, ◌-◌, ◌*◌, ◌/◌, ◌%◌, ◌^◌, ◌<◌, ◌≤◌, min}
use native.Mathlib.Nat.{mul_assoc, div-mul-le_self, div-eq_of_lt-le, lt-div-mul-add, add-mul, one-mul}
use native.Mathlib.Decide.{dec_lt}
use native.Mathlib.Numerals.{add-one}
use native.Mathlib.Omega.{arith}
use lib.Dec.{eqb, ltb}
use lib.ListN.{length, get_or, take, replicate, length-replicate, get_or-replicate}
use lib.Seq.{take-suc}
use lib.Pow.{pow-add, pow_pos, pow_mono, shl-shr}
use borrow.Author.Tests.{lt-ltb, le-ltb, le-leb, lt-leb, eq-eqb, ne_eqb}
use Rattle.bits.specs.Slot.{slot}
use Rattle.bits.proofs.Slots.{shl_one, cut-is}
use Rattle.bits.proofs.Tabs.{length-tabulate, get_d_tabulate, tabulate-ext, is-tabulate}
use Rattle.routes.specs.Route.{Fine, Good}
use Rattle.standing.specs.Cells.{covers, within, any, last_hop}
use Rattle.routes.specs.declared.Route.{Route}
use Rattle.chain.specs.Words.{addr_of, len_of, hop_of, route_of_word, routes_of_words, Words}
use Rattle.chain.proofs.Decodes.{words-part, words-good}
use Rattle.plan.specs.Plan.{plan_from, planned_from}
use Rattle.plan.specs.Paint.{paint_cell, painted, Paints}
use Rattle.buffers.specs.Fill.{between, filled}
use Rattle.buffers.proofs.Ranges.{Side, below, inside, above, side, between_in, between-below, between-above}
use Rattle.plan.proofs.Plans.{plan_snoc}

-- c / 2 ^ k is q where c is one of the 2 ^ k numbers from q * 2 ^ k on
eqb-div : (q k c : ℕ) → eqb q (c / 2 ^ k) ≡ between (q * 2 ^ k) (q * 2 ^ k + 2 ^ k) c
eqb-div q k c = go (side (q * 2 ^ k) (q * 2 ^ k + 2 ^ k) c)
  where
    go : Side (q * 2 ^ k) (q * 2 ^ k + 2 ^ k) c → eqb q (c / 2 ^ k) ≡ between (q * 2 ^ k) (q * 2 ^ k + 2 ^ k) c
    go (below a) = rw (between-below (q * 2 ^ k) (q * 2 ^ k + 2 ^ k) c a)
        (ne_eqb q (c / 2 ^ k) (λ e. let d = div-mul-le_self c (2 ^ k) in let f = ap (λ (x : ℕ). x * 2 ^ k) e in omega arith))
    go (inside a b) = rw (between_in (q * 2 ^ k) (q * 2 ^ k + 2 ^ k) c a b)
        (eq-eqb q (c / 2 ^ k) (sym (div-eq_of_lt-le {k = q} (2 ^ k) a (rw (add-mul, one-mul) b))))
    go (above a b) = rw (between-above (q * 2 ^ k) (q * 2 ^ k + 2 ^ k) c b)
        (ne_eqb q (c / 2 ^ k) (λ e. let d = lt-div-mul-add {a = c} (pow_pos k) in let f = ap (λ (x : ℕ). x * 2 ^ k) e in omega arith))

-- a range of one
eqb-one : (q c : ℕ) → eqb q c ≡ between q (q + 1) c
eqb-one q c = go (side q (q + 1) c)
  where
    go : Side q (q + 1) c → eqb q c ≡ between q (q + 1) c
    go (below a) = rw (between-below q (q + 1) c a) (ne_eqb q c (omega arith))
    go (inside a b) = rw (between_in q (q + 1) c a b) (eq-eqb q c (omega arith))
    go (above a b) = rw (between-above q (q + 1) c b) (ne_eqb q c (omega arith))

-- the range, clipped to n cells from base on
clipped : (from to base n j : ℕ) → from ≤ to → j < n → between (min (from - base) n) (min (to - base) n) j ≡ between from to (base + j)
clipped from to base n j h l = go (side from to (base + j))
  where
    go : Side from to (base + j) → between (min (from - base) n) (min (to - base) n) j ≡ between from to (base + j)
    go (below a) = rw (between-below from to (base + j) a) (between-below _ _ j (omega arith))
    go (inside a b) = rw (between_in from to (base + j) a b) (between_in _ _ j (omega arith) (omega arith))
    go (above a b) = rw (between-above from to (base + j) b) (between-above _ _ j (omega arith))

module _ (r : Route) (p : ℕ) (fine : Fine r) (hp : p ≤ 32) where
  abbrev cell : ℕ
  cell = slot p r.addr

  abbrev end : ℕ
  end = cell + 2 ^ (p - r.len)

  first_cell : r.len ≤ p → cell ≡ slot r.len r.addr * 2 ^ (p - r.len)
  first_cell h =
      let a : r.addr ≡ slot r.len r.addr * 2 ^ (32 - r.len) = sym fine.prefix.clear ∙ cut-is r.len r.addr in
      let b : slot r.len r.addr * 2 ^ (32 - r.len) ≡ slot r.len r.addr * 2 ^ (p - r.len) * 2 ^ (32 - p) =
      ap (λ (x : ℕ). slot r.len r.addr * x) (ap (λ (x : ℕ). 2 ^ x) (omega arith) ∙ pow-add 2 (p - r.len) (32 - p)) ∙ sym (mul_assoc _ _ _) in
      ap (λ (x : ℕ). x / 2 ^ (32 - p)) (a ∙ b) ∙ shl-shr _ (32 - p)

  -- what painting leaves in a cell, by the range that the route touches
  painted-cell : (c x : ℕ) → cond (between cell end c) (cond (ltb p r.len) 0 (32768 + r.hop)) x ≡ paint_cell r p c x
  unfolding paint_cell
  painted-cell c x = go (dec_lt p r.len)
    where
      go : Dec (p < r.len) → cond (between cell end c) (cond (ltb p r.len) 0 (32768 + r.hop)) x
          ≡ cond (within p c r) 0 (cond (covers p c r) (32768 + r.hop) x)
      go (yes l) =
          let z : p - r.len ≡ 0 = omega arith in
          rw (z, lt-ltb p r.len l, lt-leb r.len p l, eqb-one cell c)
      go (no l) = rw (
        le-ltb p r.len (omega arith),
        le-leb r.len p (omega arith),
        eqb-div (slot r.len r.addr) (p - r.len) c,
        first_cell
            (omega arith),
      )

  painted-range : (l : List ℕ) (base : ℕ)
      → filled l (min (cell - base) (length l)) (min (end - base) (length l)) (cond (ltb p r.len) 0 (32768 + r.hop)) ≡ painted l p base r
  unfolding filled painted
  painted-range l base =
      tabulate-ext (length l) _ _ (λ j g. rw (clipped cell end base (length l) j (omega arith) g) (painted-cell (base + j) (get_or l j 0)))

-- the code's range and value
pub painted-by : (w p base : ℕ) (l after : List ℕ) (s v from to : ℕ) → Paints w p → s ≡ 2 ^ (p - len_of w)
    → v ≡ cond (ltb p (len_of w)) 0 (32768 + hop_of w)
    → from ≡ min (addr_of w / 2 ^ (32 - p) - base) (length l)
    → to ≡ min (addr_of w / 2 ^ (32 - p) + s - base) (length l)
    → after ≡ filled l from to v → after ≡ painted l p base (route_of_word w)
painted-by w p base l after s v from to q es ev ef et e = e ∙ rw (ef, et, es, ev) (painted-range (route_of_word w) p q.fine q.deep l base)

-- the code's sum for the number of cells that a route touches
pub span-one : (p l : ℕ) → p ≤ l → (1 ≡ 2 ^ (p - l)) × (1 ≤ 2 ^ 32)
span-one p l h = let z : p - l ≡ 0 = omega arith in (rw z, omega arith)

pub span_more : (p l : ℕ) → p ≤ 32 → (1 * 2 ^ (p - l) % 2 ^ 64 ≡ 2 ^ (p - l)) × (1 * 2 ^ (p - l) % 2 ^ 64 ≤ 2 ^ 32)
span_more p l h =
    let k : p - l ≤ 32 = omega arith in
    let e = shl_one 64 (p - l) (omega arith) in
    (e, omega (arith, e, pow_mono k))

-- no route: every cell is inherited
pub words-none : (h : ℕ) (l ws : List ℕ) (p base : ℕ) → replicate (length l) (32768 + h) ≡ planned_from h (routes_of_words (take 0 ws)) p base (length l)
unfolding planned_from plan_from any last_hop
words-none h l ws p base = is-tabulate 0 _ (length l) _ (length-replicate (length l) (32768 + h)) (λ j u. get_or-replicate {A = ℕ} (length l) j (32768 + h) 0 u)

pub length-planned-from : (h : ℕ) (rs : List Route) (p base n : ℕ) → length (planned_from h rs p base n) ≡ n
unfolding planned_from
length-planned-from h rs p base n = length-tabulate n _

-- one word more, the k-th: its route is painted over
pub words_more : (ws : List ℕ) → Words ws → (h p base m k : ℕ) (out after : List ℕ) → k < length ws → out ≡ planned_from h (routes_of_words (take k ws)) p base m
    → after ≡ painted out p base (route_of_word (get_or ws k 0)) → after ≡ planned_from h (routes_of_words (take (k + 1) ws)) p base m
unfolding painted planned_from
words_more ws good h p base m k out after l was e =
    e ∙ rw (was, length-tabulate m _, add-one, take-suc ws k 0 l, map-append)
    (tabulate-ext m _ _ (λ j u. rw (get_d_tabulate {A = ℕ} m _ j 0)
    (sym (plan_snoc p (base + j) (route_of_word (get_or ws k 0)) h (routes_of_words (take k ws)) first))))
  where
    first : Good (routes_of_words (take k ws) ++ (route_of_word (get_or ws k 0) ∷ []))
    first =
        let e : suc k - 0 ≡ suc k = omega arith in
        let front : Words (take (suc k) ws) = rw e at (words-part ws 0 (suc k) l good) in
        rw (take-suc ws k 0 l, map-append) at (words-good (take (suc k) ws) front)
