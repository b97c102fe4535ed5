-- What the tests of a record say, and the search for the end of a run.
use mathlib.Core.Path.{◌≡◌, refl, sym, ◌∙◌, ap, ap₂}
use mathlib.Core.Logic.{◌⊎◌, inl, inr}
use mathlib.Core.Bool.{Bool, true, false, not}
use mathlib.Core.List.{List}
use Prim.Native.Nat.{ℕ, ◌+◌, ◌-◌, ◌*◌, ◌≤◌, ◌<◌}
use native.Mathlib.Nat.{eq-or-lt_of_le}
use native.Mathlib.Numerals.{add-one}
use native.Mathlib.Omega.{arith}
use lib.Dec.{eqb}
use borrow.Author.Tests.{le-leb, lt-leb, ne_eqb, not-true, not-false}
use Rattle.bits.specs.Slot.{slot}
use Rattle.bits.specs.Count.{bit, count}
use Rattle.routes.specs.Record.{record_at}
use Rattle.routes.specs.declared.Route.{Route}
use Rattle.tree_node.specs.NodeRuns.{path_at, through_at, RunEnd}
use Rattle.tree_node.specs.Count.{fresh_at, nodes_to}

-- whether a route passes through a node, from its length and its first bits
module _ (s : List ℕ) (k m p : ℕ) (r : Route) (e : r ≡ record_at s k) (w : ℕ) (ew : w ≡ r.len) where
  pub too_short : w < 4 * m → false ≡ through_at s m p k
  too_short l = rw (← e, lt-leb (4 * m) r.len (omega arith))

  pub tested : 4 * m ≤ w → (x : ℕ) → x ≡ slot (4 * m) r.addr → eqb x p ≡ through_at s m p k
  tested l x ex = rw (← e, le-leb (4 * m) r.len (omega arith), ex)

-- whether it is the first that does
module _ (s : List ℕ) (k m : ℕ) (r : Route) (e : r ≡ record_at s k) (w : ℕ) (ew : w ≡ r.len) where
  pub fresh-short : w < 4 * m → false ≡ fresh_at s m k
  unfolding fresh_at
  fresh-short l = rw (← e, lt-leb (4 * m) r.len (omega arith))

  module _ (l : 4 * m ≤ w) where
    pub fresh-first : k ≡ 0 → true ≡ fresh_at s m k
    unfolding fresh_at
    fresh-first z = rw (← e, le-leb (4 * m) r.len (omega arith), z)

    pub fresh-test : (k ≡ 0 → ⊥) → (x : ℕ) → x ≡ slot (4 * m) r.addr → (t : Bool) → t ≡ through_at s m x (k - 1) → not t ≡ fresh_at s m k
    unfolding fresh_at
    fresh-test z x ex t et = rw (← e, le-leb (4 * m) r.len (omega arith), ne_eqb k 0 z, et, ex)

-- the end of a run
module _ (s : List ℕ) (m a : ℕ) where
  abbrev pub AllTo : ℕ → Type 0
  AllTo k = (j : ℕ) → a < j → j < k → through_at s m (path_at s m a) j ≡ true

  module _ (path : ℕ) (r : Route) (e : r ≡ record_at s a) (ep : path ≡ slot (4 * m) r.addr) (k : ℕ) (t : Bool) (et : t ≡ through_at s m path k) where
    its_own : t ≡ through_at s m (path_at s m a) k
    its_own = et ∙ rw (ep, e)

    pub all_more : AllTo k → not t ≡ false → AllTo (k + 1)
    all_more h f j l u = go (eq-or-lt_of_le {n = j} {m = k} (omega arith))
      where
        go : (j ≡ k) ⊎ (j < k) → through_at s m (path_at s m a) j ≡ true
        go (inl q) = rw q (sym its_own ∙ not-false t f)
        go (inr v) = h j l v

    pub run-stops : (e : ℕ) → a < k → k < e → AllTo k → not t ≡ true → RunEnd s m a e k
    run-stops e l u h f = record { after = l; high = omega arith; all = h; stop = λ v. sym its_own ∙ not-true t f }

  pub run_ends : (e k : ℕ) → a < k → k ≤ e → e ≤ k → AllTo k → RunEnd s m a e e
  run_ends e k l u v h = let q : k ≡ e = omega arith in record { after = omega arith; high = omega arith; all = rw q at h; stop = λ w. absurd (omega arith) }

-- one record more is counted, or not
module _ (f : ℕ → Bool) (k n : ℕ) (e : n ≡ count f k) (t : Bool) (et : t ≡ f k) where
  pub count-on : t ≡ true → n + 1 ≡ count f (k + 1)
  unfolding count
  count-on h = let q : bit (f k) ≡ 1 = ap bit (sym et ∙ h) in omega (arith, ap (count f) (add-one k))

  pub count-off : t ≡ false → n ≡ count f (k + 1)
  unfolding count
  count-off h = let q : bit (f k) ≡ 0 = ap bit (sym et ∙ h) in omega (arith, ap (count f) (add-one k))

pub none-counted : (f : ℕ → Bool) → 0 ≡ count f 0
unfolding count
none-counted f = refl

pub all-counted : (f : ℕ → Bool) (n k x : ℕ) → k ≤ n → n ≤ k → x ≤ k → x ≡ count f k → (x ≡ count f n) × (x ≤ n)
all-counted f n k x l u h e = let q : k ≡ n = omega arith in (rw q at e, omega arith)

-- one depth more
module _ (s : List ℕ) (n : ℕ) where
  pub root-counted : 1 ≡ nodes_to s n 0
  unfolding nodes_to
  root-counted = refl

  pub depth-counted : (m x y : ℕ) → x ≡ nodes_to s n m → y ≡ count (fresh_at s (m + 1)) n → x + y ≡ nodes_to s n (m + 1)
  unfolding nodes_to
  depth-counted m x y e f = ap₂ (λ (u v : ℕ). u + v) e f ∙ ap (λ (z : ℕ). nodes_to s n m + count (fresh_at s z) n) (add-one m) ∙ ap (nodes_to s n)
      (sym (add-one m))

  pub depths-counted : (m x : ℕ) → m ≤ 8 → 8 ≤ m → x ≤ 1 + m * 4096 → x ≡ nodes_to s n m → (x ≡ nodes_to s n 8) × (x ≤ 32769)
  depths-counted m x l u h e = let q : m ≡ 8 = omega arith in (rw q at e, omega arith)
