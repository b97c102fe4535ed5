-- What a well-formed image is, part by part: the tests of specs/WellFormed.antt and the facts that they stand for.
use mathlib.Core.Path.{◌≡◌, refl}
use mathlib.Core.Logic.{◌⊎◌, inl, inr}
use mathlib.Core.Bool.{Bool, true, false, not, ◌&&◌, ◌||◌, false≢true, or-true}
use mathlib.Core.List.{List}
use Prim.Native.Nat.{ℕ, zero, suc, ◌+◌, ◌*◌, ◌/◌, ◌≤◌, ◌<◌}
use native.Mathlib.Nat.{add-zero}
use native.Mathlib.Omega.{arith}
use lib.Dec.{eqb, ltb, leb}
use lib.ListN.{length, get_or, get_or-eq_default}
use borrow.Author.Tests.{leb-true, leb-false, le-leb, lt-leb, ltb-true, lt-ltb, le-ltb, eqb-true, eq-eqb}
use Rattle.bits.specs.Search.{first_of}
use Rattle.bits.specs.Tab.{every}
use Rattle.bits.proofs.Searches.{first_of-is, first_of-le, first_of-before}
use Rattle.bits.proofs.Bools.{both, and_split, or_split, below?}
use Rattle.bits.proofs.Tabs.{every_true, true-every}
use Rattle.buffers_test.specs.Zeros.{Zeros}
use Rattle.routes.specs.Input.{hop_fine}
use Rattle.routes.proofs.Meaning.{hop-true, true-hop}
use Rattle.tree_image.specs.Node.{bits_of, child_of, base_of}
use Rattle.tree_same.specs.Order.{exts, ints, Order}
use Rattle.tree_formed.specs.WellFormed.{closed, nodes_used, bases_at, ordered, all_from, node_ok, root_ok, hops_in, hops_ok, blank_from, well_formed}

pub not-true : (b : Bool) → not b ≡ true → b ≡ false
not-true true e = absurd (false≢true e)
not-true false e = refl

pub ordered-is : (ws : List ℕ) → ordered ws ≡ true → Order ws (nodes_used ws)
unfolding ordered nodes_used
ordered-is ws e =
    let s = and_split (closed ws (first_of (closed ws) (length ws / 3))) (every (bases_at ws) (first_of (closed ws) (length ws / 3))) e in
    let each = every_true (bases_at ws) (first_of (closed ws) (length ws / 3)) s.1 in
    record {
      lent = first_of-le (closed ws) (length ws / 3);
      whole = leb-true _ _ s.0;
      fewest = λ i l. omega (arith, leb-false (1 + exts ws i) i (first_of-before (closed ws) (length ws / 3) i l));
      child = λ i l. eqb-true _ _ (and_split (eqb (child_of ws i) (1 + exts ws i)) (eqb (base_of ws i) (ints ws i)) (each i l)).0;
      base = λ i l. eqb-true _ _ (and_split (eqb (child_of ws i) (1 + exts ws i)) (eqb (base_of ws i) (ints ws i)) (each i l)).1;
    }

-- the number of nodes in use
pub used-is : (ws : List ℕ) (n : ℕ) → n ≤ length ws / 3 → ((i : ℕ) → i < n → i < 1 + exts ws i) → (n < length ws / 3 → 1 + exts ws n ≤ n) → nodes_used ws ≡ n
unfolding nodes_used
used-is ws n l f w = first_of-is (closed ws) (length ws / 3) n l (λ j u. lt-leb _ _ (f j u)) (λ u. le-leb _ _ (w u))

pub is-ordered : (ws : List ℕ) (n : ℕ) → Order ws n → (nodes_used ws ≡ n) × (ordered ws ≡ true)
unfolding ordered
is-ordered ws n o =
    let u = used-is ws n o.lent o.fewest (λ l. o.whole) in
    (u, rw u (both (le-leb _ _ o.whole) (true-every (bases_at ws) n (λ i l. both (eq-eqb _ _ (o.child i l)) (eq-eqb _ _ (o.base i l))))))

-- ---- nodes

pub all-from : (p : ℕ → Bool) (n first : ℕ) → all_from p n first ≡ true → (k : ℕ) → k < n → p (first + k) ≡ true
unfolding all_from
all-from p zero first e k l = absurd (omega arith)
all-from p (suc n) first e zero l = rw add-zero (and_split (p first) (all_from p n (first + 1)) e).0
all-from p (suc n) first e (suc k) l =
    let q : first + suc k ≡ first + 1 + k = omega arith in
    rw q (all-from p n (first + 1) (and_split (p first) (all_from p n (first + 1)) e).1 k (omega arith))

pub from_all : (p : ℕ → Bool) (n first : ℕ) → ((k : ℕ) → k < n → p (first + k) ≡ true) → all_from p n first ≡ true
unfolding all_from
from_all p zero first h = refl
from_all p (suc n) first h =
    both (rw add-zero at (h 0 (omega arith)))
    (from_all p n (first + 1) (λ k l. let q : first + suc k ≡ first + 1 + k = omega arith in rw q at (h (suc k) (omega arith))))

-- ---- zeros after

pub blank-zeros : (xs : List ℕ) (k : ℕ) → blank_from xs k ≡ true → Zeros xs k (length xs)
unfolding blank_from
blank-zeros xs k e = record {
  each = λ j l u. or j l (or_split (ltb j k) (eqb (get_or xs j 0) 0) (every_true (λ i. ltb i k || eqb (get_or xs i 0) 0) (length xs) e j u));
}
  where
    or : (j : ℕ) → k ≤ j → (ltb j k ≡ true) ⊎ (eqb (get_or xs j 0) 0 ≡ true) → get_or xs j 0 ≡ 0
    or j l (inl t) = absurd (omega (arith, ltb-true j k t))
    or j l (inr t) = eqb-true _ 0 t

pub zeros-blank : (xs : List ℕ) (k : ℕ) → Zeros xs k (length xs) → blank_from xs k ≡ true
unfolding blank_from
zeros-blank xs k z = true-every (λ i. ltb i k || eqb (get_or xs i 0) 0) (length xs) (λ i l. go i l (below? i k))
  where
    go : (i : ℕ) → i < length xs → (i < k) ⊎ (k ≤ i) → (ltb i k || eqb (get_or xs i 0) 0) ≡ true
    go i l (inl u) = rw (lt-ltb i k u)
    go i l (inr u) = rw (le-ltb i k u) (eq-eqb _ 0 (z.each i u l))

-- past the end there is nothing else
blank-is : (xs : List ℕ) (k : ℕ) → blank_from xs k ≡ true → (j : ℕ) → k ≤ j → get_or xs j 0 ≡ 0
blank-is xs k e j l = go (below? j (length xs))
  where
    go : (j < length xs) ⊎ (length xs ≤ j) → get_or xs j 0 ≡ 0
    go (inl u) = (blank-zeros xs k e).each j l u
    go (inr u) = get_or-eq_default xs 0 {n = j} u

-- ---- all parts

pub record WellFormed (ws hs : List ℕ) (n : ℕ) : Type 0 where
  pub order : Order ws n
  pub root : (bits_of ws 0 ≡ 0) ⊎ (node_ok 8 ws 0 ≡ true)
  pub room : ints ws n ≤ length hs
  pub few : ints ws n ≤ 4096
  pub hop : (k : ℕ) → k < ints ws n → (1 ≤ get_or hs k 0) × (get_or hs k 0 ≤ 32767)
  pub words_after : (j : ℕ) → 3 * n ≤ j → get_or ws j 0 ≡ 0
  pub hops_after : (j : ℕ) → ints ws n ≤ j → get_or hs j 0 ≡ 0

pub well-formed-is : (ws hs : List ℕ) → well_formed ws hs ≡ true → WellFormed ws hs (nodes_used ws)
unfolding well_formed hops_ok
well-formed-is ws hs e =
    let a = and_split (ordered ws) _ e in
    let b = and_split (root_ok ws) _ a.1 in
    let c = and_split _ (blank_from ws (3 * nodes_used ws) && blank_from hs (hops_in ws)) b.1 in
    let d = and_split (blank_from ws (3 * nodes_used ws)) (blank_from hs (hops_in ws)) c.1 in
    let f = and_split (leb (hops_in ws) (length hs)) _ c.0 in
    let g = and_split (leb (hops_in ws) 4096) (every (λ k. hop_fine (get_or hs k 0)) (hops_in ws)) f.1 in
    record {
      order = ordered-is ws a.0;
      root = root (or_split (eqb (bits_of ws 0) 0) (node_ok 8 ws 0) b.0);
      room = leb-true _ _ f.0;
      few = leb-true _ _ g.0;
      hop = λ k l. hop-true (get_or hs k 0) (every_true (λ i. hop_fine (get_or hs i 0)) (hops_in ws) g.1 k l);
      words_after = blank-is ws (3 * nodes_used ws) d.0;
      hops_after = blank-is hs (hops_in ws) d.1;
    }
  where
    root : (eqb (bits_of ws 0) 0 ≡ true) ⊎ (node_ok 8 ws 0 ≡ true) → (bits_of ws 0 ≡ 0) ⊎ (node_ok 8 ws 0 ≡ true)
    root (inl t) = inl (eqb-true _ 0 t)
    root (inr t) = inr t

pub is-well-formed : (ws hs : List ℕ) (n : ℕ) → WellFormed ws hs n → well_formed ws hs ≡ true
unfolding well_formed hops_ok
is-well-formed ws hs n w =
    let o = is-ordered ws n w.order in
    rw o.0
    (both o.1 (both (root w.root)
    (both (both (le-leb _ _ w.room) (both (le-leb _ _ w.few)
    (true-every (λ k. hop_fine (get_or hs k 0)) (ints ws n) (λ k l. true-hop (get_or hs k 0) (w.hop k l).0 (w.hop k l).1))))
    (both (zeros-blank ws (3 * n) (record { each = λ j l u. w.words_after j l }))
    (zeros-blank hs (ints ws n) (record { each = λ j l u. w.hops_after j l }))))))
  where
    root : (bits_of ws 0 ≡ 0) ⊎ (node_ok 8 ws 0 ≡ true) → root_ok ws ≡ true
    root (inl t) = rw (eq-eqb (bits_of ws 0) 0 t)
    root (inr t) = rw t (or-true (eqb (bits_of ws 0) 0))
