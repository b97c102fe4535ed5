-- Runs of words: where one begins, how many routes it counts, and that the cells of all long words are counted where those of the runs are.
use mathlib.Core.Path.{◌≡◌, sym, ◌∙◌, ap, subst}
use mathlib.Core.Logic.{◌⊎◌, inl, inr}
use mathlib.Core.Bool.{Bool, true, false, cond, true≢false}
use mathlib.Core.List.{List}
use Prim.Native.Nat.{ℕ, zero, suc, ◌+◌, ◌-◌, ◌*◌, ◌/◌, ◌^◌, ◌≤◌, ◌<◌, max}
use native.Mathlib.Omega.{arith}
use lib.Dec.{eqb, ltb}
use lib.ListN.{get_or, length, length-map, get_or-map}
use lib.Pow.{shr_mono, shl-shr}
use borrow.Author.Count.{below_more}
use borrow.Author.Tests.{ltb-true, eqb-true, lt-ltb, le-ltb, eq-eqb, ne_eqb, le-leb, lt-leb}
use Rattle.bits.specs.Slot.{slot}
use Rattle.bits.specs.Tab.{Tells}
use Rattle.bits.proofs.Slots.{cut-is, cut-le, cut-more}
use Rattle.bits.proofs.Bools.{decided, both, and_split, below?}
use Rattle.standing.specs.Cells.{within}
use Rattle.counts.specs.Counts.{how_many}
use Rattle.counts.proofs.Many.{many-run}
use Rattle.chain.specs.Words.{route_of_word, key_in, routes_of_words, Words}
use Rattle.chain.specs.Place.{under_key, RunFrom, Run}
use Rattle.chain.specs.Cover.{addr_in}
use Rattle.chain.proofs.Places.{keys}
use Rattle.bits.proofs.Tells.{is-no, is-yes}
use Rattle.sail.specs.Pool.{Numbered}
use Rattle.sail.specs.Walk.{cell_place}
use Rattle.sail_counts_test.specs.CountsTest.{idle, len_in, cell_in, place_in, TrueCount, Tallied, Goes, RunTold, Led}

-- the answers of `idle_count`
module _ (v n : ℕ) where
  pub count-free : v ≡ 0 → n ≡ cond (idle v) n 0
  unfolding idle
  count-free e = rw (eq-eqb v 0 e)

  pub count-leaf : (v ≡ 0 → ⊥) → 32768 ≤ v → n ≡ cond (idle v) n 0
  unfolding idle
  count-leaf z l = rw (ne_eqb v 0 z, le-leb 32768 v l)

  pub count-node : (v ≡ 0 → ⊥) → v < 32768 → 0 ≡ cond (idle v) n 0
  unfolding idle
  count-node z l = rw (ne_eqb v 0 z, lt-leb 32768 v l)

-- of the first n cells, each that names no chunk counts 0
abbrev pub Quiet : List ℕ → List ℕ → ℕ → Type 0
Quiet cells counts n = (q : ℕ) → q < n → idle (get_or cells q 0) ≡ true → get_or counts q 0 ≡ 0

-- the largest of their counts, after one cell more
pub most-next : (cells counts : List ℕ) (j m most : ℕ) → m ≡ cond (idle (get_or cells j 0)) (get_or counts j 0) 0
    → Tells (eqb most 0) (Quiet cells counts j) → Tells (eqb (max most m) 0) (Quiet cells counts (j + 1))
most-next cells counts j m most is t = go (below? most m)
  where
    none : 0 < m → (idle (get_or cells j 0) ≡ true → get_or counts j 0 ≡ 0) → (idle (get_or cells j 0) ≡ true) ⊎ (idle (get_or cells j 0) ≡ false) → ⊥
    none u f (inl e) = omega (arith, f e, rw e at is)
    none u f (inr e) = omega (arith, rw e at is)

    go : (most < m) ⊎ (m ≤ most) → Tells (eqb (max most m) 0) (Quiet cells counts (j + 1))
    go (inl l) =
        let e : max most m ≡ m = omega arith in
        rw (e, ne_eqb m 0 (λ z. omega arith)) (is-no (λ f. none (omega arith) (f j (omega arith)) (decided (idle (get_or cells j 0)))))
    go (inr l) =
        let e : max most m ≡ most = omega arith in
        rw e (
          λ e. below_more (λ (q : ℕ). idle (get_or cells q 0) ≡ true → get_or counts q 0 ≡ 0) j (t.0 e) (λ i. let z = eqb-true most 0 e in omega (arith, rw i at is)),
          λ f. t.1 (λ q b. f q (omega arith)),
        )

-- the answers of `goes_on`
module _ (ws : List ℕ) (p i k : ℕ) where
  pub goes_first : k ≡ 0 → Tells false (Goes ws p i k)
  goes_first e = is-no (λ w. let z = w.some in omega arith)

  pub goes-short : len_in ws (k - 1) ≤ p → Tells false (Goes ws p i k)
  goes-short l = is-no (λ w. true≢false (sym w.there ∙ rw (le-ltb p (len_in ws (k - 1)) l)))

  pub goes-told : (k ≡ 0 → ⊥) → p < len_in ws (k - 1) → Tells (eqb (cell_in ws p (k - 1)) i) (Goes ws p i k)
  goes-told n l = (
    λ e. record { some = omega (arith, n); there = both (lt-ltb p (len_in ws (k - 1)) l) e },
    λ w. (and_split (ltb p (len_in ws (k - 1))) (eqb (cell_in ws p (k - 1)) i) w.there).1,
  )

module _ (ws : List ℕ) (good : Words ws) (p : ℕ) (level : p ≤ 32) where
  -- a word that is longer than p does not come before its cell's least key
  from_cell : (k : ℕ) → p < len_in ws k → under_key p (cell_in ws p k) ≤ key_in (get_or ws k 0)
  from_cell k l = omega (arith, cut-is p (addr_in ws k), cut-le p (addr_in ws k))

  -- one that does not come before that, nor past the cell, is longer than p and lies in it
  in_cell : (k j : ℕ) → j < k → k < length ws → under_key p (cell_in ws p k) ≤ key_in (get_or ws j 0) → within p (cell_in ws p k) (route_of_word (get_or ws j 0)) ≡ true
  in_cell k j b l h =
      let i = cell_in ws p k in
      let n = (good.fine j (omega arith)).prefix.len_ok in
      let a : i * 2 ^ (32 - p) ≤ addr_in ws j = omega arith in
      let up = keys ws good k j b l in
      let c : addr_in ws j ≤ addr_in ws k = omega arith in
      let e : slot p (addr_in ws j) ≡ i = omega (arith, shr_mono (32 - p) a, shl-shr i (32 - p), shr_mono (32 - p) c) in
      both (lt-ltb p (len_in ws j) (longer e (below? p (len_in ws j)))) (eq-eqb _ _ e)
    where
      longer : slot p (addr_in ws j) ≡ cell_in ws p k → (p < len_in ws j) ⊎ (len_in ws j ≤ p) → p < len_in ws j
      longer e (inl y) = y
      longer e (inr y) =
          let c = cut-more (len_in ws j) p (addr_in ws j) y level (good.fine j (omega arith)).prefix.clear in
          let f : addr_in ws j ≡ cell_in ws p k * 2 ^ (32 - p) = sym c ∙ cut-is p (addr_in ws j) ∙ ap (λ (x : ℕ). x * 2 ^ (32 - p)) e in
          absurd (omega arith)

  -- where the word before it does not lie in its cell, a run begins with a long word
  module _ (k : ℕ) (l : k < length ws) (longer : p < len_in ws k) (begins : Goes ws p (cell_in ws p k) k → ⊥) where
    before : (j : ℕ) → j < k → key_in (get_or ws j 0) < under_key p (cell_in ws p k)
    before j b = omega (arith, last (below? (key_in (get_or ws (k - 1) 0)) (under_key p (cell_in ws p k))), rises (below? j (k - 1)))
      where
        last : (key_in (get_or ws (k - 1) 0) < under_key p (cell_in ws p k)) ⊎ (under_key p (cell_in ws p k) ≤ key_in (get_or ws (k - 1) 0))
            → key_in (get_or ws (k - 1) 0) < under_key p (cell_in ws p k)
        last (inl y) = y
        last (inr y) = absurd (begins (record { some = omega arith; there = in_cell k (k - 1) (omega arith) l y }))

        rises : (j < k - 1) ⊎ (k - 1 ≤ j) → key_in (get_or ws j 0) ≤ key_in (get_or ws (k - 1) 0)
        rises (inl y) = omega (arith, keys ws good (k - 1) j y (omega arith))
        rises (inr y) = let e : j ≡ k - 1 = omega arith in rw e (omega arith)

    pub run-begins : RunFrom ws p (cell_in ws p k) k
    run-begins = record {
      level = level;
      place = record { to = omega arith; below = before; above = λ j a b. omega (arith, from_cell k longer, rises j a b (below? k j)) };
    }
      where
        rises : (j : ℕ) → k ≤ j → j < length ws → (k < j) ⊎ (j ≤ k) → key_in (get_or ws k 0) ≤ key_in (get_or ws j 0)
        rises j a b (inl y) = omega (arith, keys ws good j k y b)
        rises j a b (inr y) = let e : k ≡ j = omega arith in rw e (omega arith)

-- the routes of a run are those that its cell counts
pub run-many : (ws : List ℕ) (p i lo hi : ℕ) → Run ws p i lo hi → how_many (routes_of_words ws) p i ≡ hi - lo
run-many ws p i lo hi run =
    many-run (routes_of_words ws) p i lo hi run.from (rw length-map run.to)
    (λ j a. rw (get_or-map route_of_word ws j 0) (run.before j a))
    (λ j a b. rw (get_or-map route_of_word ws j 0) (run.inside j a b))
    (λ j a b. rw (get_or-map route_of_word ws j 0) (run.past j a (rw length-map at b)))

-- a long word that begins a run
module _ (ws : List ℕ) (p k : ℕ) (longer : p < len_in ws k) (b : Bool) (t : Tells b (Goes ws p (cell_in ws p k) k)) (off : b ≡ false) where
  no_run : Goes ws p (cell_in ws p k) k → ⊥
  no_run w = true≢false (sym (t.1 w) ∙ off)

  pub run-from : Words ws → p ≤ 32 → k < length ws → RunFrom ws p (cell_in ws p k) k
  run-from good level l = run-begins ws good p level k l longer no_run

-- the answers of `run_ok`
module _ (ws : List ℕ) (p d : ℕ) (above counts : List ℕ) (k : ℕ) where
  pub run_on : (b : Bool) → Tells b (Goes ws p (cell_in ws p k) k) → b ≡ true → Tells true (RunTold ws p d above counts k)
  run_on b t e = is-yes (record { begins = λ z n. absurd (n (t.0 e)) })

  -- the word is longer than p, and v is the cell above that names the chunk of its cell
  module _ (w : Led ws p d above counts) (l : k < length ws) (longer : p < len_in ws k) (v : ℕ)
      (is-cell : v ≡ get_or above (cell_in ws p k / 2 ^ d) 0) where
    pub names-numbered : ((j : ℕ) → get_or above j 0 < 65536) → Numbered v d
    names-numbered few = record { one = rw is-cell (w.some k l longer); few = omega (arith, is-cell, few (cell_in ws p k / 2 ^ d)); size = w.small }

    module _ (q : ℕ) (at : q ≡ cell_place d v (cell_in ws p k)) where
      place_of : q ≡ place_in d above (cell_in ws p k)
      place_of = at ∙ ap (λ (x : ℕ). cell_place d x (cell_in ws p k)) is-cell

      pub counted-there : q < length counts
      counted-there = omega (arith, place_of, w.inside k l longer)

      pub run-told : (b : Bool) (t : Tells b (Goes ws p (cell_in ws p k) k)) (off : b ≡ false) (n end : ℕ)
          → n ≡ get_or counts q 0 → Run ws p (cell_in ws p k) k end → Tells (eqb n (end - k)) (RunTold ws p d above counts k)
      run-told b t off n end is run =
          let m = run-many ws p (cell_in ws p k) k end run in
          let c : n ≡ get_or counts (place_in d above (cell_in ws p k)) 0 = is ∙ ap (λ (x : ℕ). get_or counts x 0) place_of in (
            λ e. record { begins = λ _ _. record { count = sym c ∙ eqb-true n (end - k) e ∙ sym m } },
            λ r. eq-eqb n (end - k) (c ∙ (r.begins longer (no_run ws p k longer b t off)).count ∙ m),
          )

-- where the cells of all runs are counted, those of all long words are: a word that begins no run lies in the cell of the word before it
pub all_told : (ws : List ℕ) (p d : ℕ) (above counts : List ℕ) → ((k : ℕ) → k < length ws → RunTold ws p d above counts k) → Tallied ws p d above counts
all_told ws p d above counts h = record { each = each }
  where
    each : (k : ℕ) → k < length ws → p < len_in ws k → TrueCount ws p d above counts (cell_in ws p k)
    each zero l n = (h zero l).begins n (λ w. let z = w.some in omega arith)
    each (suc k) l n = go (decided (within p (cell_in ws p (suc k)) (route_of_word (get_or ws k 0)))) (each k (omega arith))
      where
        go : (within p (cell_in ws p (suc k)) (route_of_word (get_or ws k 0)) ≡ true) ⊎ (within p (cell_in ws p (suc k)) (route_of_word (get_or ws k 0)) ≡ false)
            → (p < len_in ws k → TrueCount ws p d above counts (cell_in ws p k)) → TrueCount ws p d above counts (cell_in ws p (suc k))
        go (inl y) ih =
            let s = and_split (ltb p (len_in ws k)) (eqb (cell_in ws p k) (cell_in ws p (suc k))) y in
            subst (TrueCount ws p d above counts) (eqb-true (cell_in ws p k) (cell_in ws p (suc k)) s.1) (ih (ltb-true p (len_in ws k) s.0))
        go (inr y) ih = let e : suc k - 1 ≡ k = omega arith in (h (suc k) l).begins n (λ w. true≢false (sym (rw e at w.there) ∙ y))

pub told-run : (ws : List ℕ) (p d : ℕ) (above counts : List ℕ) (k : ℕ) → k < length ws → Tallied ws p d above counts → RunTold ws p d above counts k
told-run ws p d above counts k l t = record { begins = λ n _. t.each k l n }
