-- A level's cells are right exactly where its chunks fit and its live cells are as they are shown. Said of any level.
use mathlib.Core.Path.{◌≡◌, sym, ◌∙◌, ap}
use mathlib.Core.Logic.{◌⊎◌, inl, inr}
use mathlib.Core.Bool.{Bool, true, false, cond}
use mathlib.Core.List.{List}
use Prim.Native.Nat.{ℕ, suc, ◌-◌, ◌<◌}
use native.Mathlib.Omega.{arith}
use lib.ListN.{get_or, length}
use Rattle.bits.proofs.Bools.{decided}
use Rattle.bits.proofs.Tabs.{length-tabulate, get_d_tabulate, is-tabulate, tabulate-ext}
use Rattle.routes.specs.declared.Route.{Route}
use Rattle.sail.specs.Level.{Level, Chunks, chunk_for, deep, leaf_at, entry}
use Rattle.sail.specs.Sound.{Shows, Clear}
use Rattle.sail_theory.specs.Render.{shown, block, laid, pool, laid_over, Fits}
use Rattle.sail_theory.proofs.owners.Chunks.{chunk-at, chunk-is}

-- an array laid over
module _ (old : List ℕ) (live : ℕ → Bool) (value : ℕ → ℕ) where
  pub length-laid : length (laid old live value) ≡ length old
  unfolding laid
  length-laid = length-tabulate (length old) _

  pub laid-at : (q : ℕ) → q < length old → get_or (laid old live value) q 0 ≡ cond (live q) (value q) (get_or old q 0)
  unfolding laid
  laid-at q l = get_d_tabulate (length old) _ q 0 l

  -- where what is not live is 0, it is a block
  pub laid-block : ((q : ℕ) → q < length old → live q ≡ false → get_or old q 0 ≡ 0) → laid old live value ≡ block (length old) live value
  unfolding laid block
  laid-block h = tabulate-ext (length old) _ _ (λ q l. go q (decided (live q)) (h q l))
    where
      go : (q : ℕ) → (live q ≡ true) ⊎ (live q ≡ false) → (live q ≡ false → get_or old q 0 ≡ 0)
          → cond (live q) (value q) (get_or old q 0) ≡ cond (live q) (value q) 0
      go q (inl e) w = rw e
      go q (inr e) w = rw e (w e)

module _ (rs : List Route) (v : Level) (k : Chunks) where
  -- what a live cell shows: a leaf, or the number of a chunk
  pub shown-leaf : (q : ℕ) → deep rs v q ≡ false → shown rs v k q ≡ leaf_at rs v q
  unfolding shown
  shown-leaf q d = rw d

  pub shown-node : (q : ℕ) → deep rs v q ≡ true → shown rs v k q ≡ suc (chunk_for k (suc q))
  unfolding shown
  shown-node q d = rw d

  pub pool-shown : (q : ℕ) → q < v.places → v.live q ≡ true → get_or (pool rs v k) q 0 ≡ shown rs v k q
  unfolding block
  pool-shown q l e = get_d_tabulate v.places _ q 0 l ∙ rw e

  -- a level laid over an array in which what is not live is 0
  pub laid-rendered : (old : List ℕ) → length old ≡ v.places → Clear v (entry old) → laid_over rs v k old ≡ pool rs v k
  laid-rendered old s z = laid-block old v.live (shown rs v k) (λ q l e. z.blank q (rw s at l) e) ∙ ap (λ (n : ℕ). block n v.live (shown rs v k)) s

  pub length-pool : length (pool rs v k) ≡ v.places
  unfolding block
  length-pool = length-tabulate v.places _

  -- a cell of a pool: 0 where it is not live, and a leaf where it is not deep
  pub pool-clear : Clear v (entry (pool rs v k))
  unfolding block
  pool-clear = record { blank = λ q l e. get_d_tabulate v.places _ q 0 l ∙ rw e }

  pub pool-leaf : (q : ℕ) → q < v.places → v.live q ≡ true → deep rs v q ≡ false → get_or (pool rs v k) q 0 ≡ leaf_at rs v q
  unfolding block shown
  pool-leaf q l e f = get_d_tabulate v.places _ q 0 l ∙ rw (e, f)

  -- live cells that are as they are shown, with chunks that fit, are right, whatever stands at the other places
  pub shown-shows : (cells : ℕ → ℕ) → Fits rs v k → ((q : ℕ) → q < v.places → v.live q ≡ true → cells q ≡ shown rs v k q) → Shows rs v k cells
  unfolding shown
  shown-shows cells f is = record {
    node = λ q l e d.
        let h = f.has q l e d in
        let z : cells q ≡ suc (chunk_for k (suc q)) = is q l e ∙ rw d in
        let y : cells q - 1 ≡ chunk_for k (suc q) = omega arith in
        record { one = omega arith; last = omega arith; owner = ap k.own y ∙ chunk-at k (suc q) h };
    leaf = λ q l e d. is q l e ∙ rw d;
    owned = λ c q l e.
        let j = f.lies c q l e in
        (j.0, j.1, j.2, is q j.0 j.1 ∙ rw j.2 (ap suc (f.once c q l e)));
  }

  pub pool-shows : Fits rs v k → Shows rs v k (entry (pool rs v k))
  unfolding block
  pool-shows f = shown-shows (entry (pool rs v k)) f (λ q l e. get_d_tabulate v.places _ q 0 l ∙ rw e)

  -- and back
  module _ (cells : ℕ → ℕ) (s : Shows rs v k cells) where
    single : (c q : ℕ) → c < k.many → k.own c ≡ suc q → chunk_for k (suc q) ≡ c
    single c q l e = chunk-is k (suc q) c l e (λ j h z.
        let a = (s.owned c q l e).3 in
        let b = (s.owned j q (omega arith) z).3 in
        omega arith)

    node-chunk : (q : ℕ) → q < v.places → v.live q ≡ true → deep rs v q ≡ true → suc (chunk_for k (suc q)) ≡ cells q
    node-chunk q l e d =
        let n = s.node q l e d in
        let c : cells q - 1 < k.many = omega arith in
        omega (arith, single (cells q - 1) q c n.owner)

    pub shows-fits : Fits rs v k
    shows-fits = record {
      lies = λ c q l e. ((s.owned c q l e).0, (s.owned c q l e).1, (s.owned c q l e).2);
      has = λ q l e d. omega (arith, node-chunk q l e d, (s.node q l e d).last);
      once = single;
    }

    pub shows-shown : (q : ℕ) → q < v.places → v.live q ≡ true → cells q ≡ shown rs v k q
    unfolding shown
    shows-shown q l e = go (decided (deep rs v q))
      where
        go : (deep rs v q ≡ true) ⊎ (deep rs v q ≡ false) → cells q ≡ cond (deep rs v q) (suc (chunk_for k (suc q))) (leaf_at rs v q)
        go (inl d) = rw d (sym (node-chunk q l e d))
        go (inr d) = rw d (s.leaf q l e d)

  -- an array whose live places are as they are shown, and whose others are 0
  pub shows-pool : (cells : List ℕ) → Shows rs v k (entry cells) → length cells ≡ v.places → Clear v (entry cells) → cells ≡ pool rs v k
  unfolding block
  shows-pool cells s h z = is-tabulate 0 cells v.places _ h (λ q l. go q l (decided (v.live q)))
    where
      go : (q : ℕ) → q < v.places → (v.live q ≡ true) ⊎ (v.live q ≡ false) → get_or cells q 0 ≡ cond (v.live q) (shown rs v k q) 0
      go q l (inl e) = rw e (shows-shown (entry cells) s q l e)
      go q l (inr e) = rw e (z.blank q l e)
