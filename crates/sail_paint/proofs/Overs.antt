-- Cells that are painted over: by their elements, twice, and as a part of a list.
use mathlib.Core.Path.{◌≡◌, refl, sym, ap, ◌∙◌}
use mathlib.Core.Logic.{◌⊎◌, inl, inr}
use mathlib.Core.Bool.{Bool, true, false, cond}
use mathlib.Core.List.{List, ◌++◌}
use Prim.Native.Nat.{ℕ, ◌+◌, ◌-◌, ◌≤◌, ◌<◌}
use native.Mathlib.Omega.{arith}
use lib.ListN.{length, get_or, take, get_or-append}
use lib.Seq.{length-take-le, get_or-take, get_or-drop, get_or-append-add}
use borrow.Rule.Slice.PartMut.{mid_of, post_of, put_mid, same_len_mid, mid_len, Post-is}
use Rattle.bits.proofs.Bools.{decided}
use Rattle.bits.proofs.Tabs.{length-tabulate, get_d_tabulate, tabulate-ext, is-tabulate}
use Rattle.routes.specs.declared.Route.{Route}
use Rattle.buffers.specs.Fill.{between}
use Rattle.plan.specs.Plan.{plan, planned}
use Rattle.buffers.proofs.Ranges.{Side, below, inside, above, side, between_in, between-below, between-above}
use Rattle.sail_paint.specs.Paint.{overpainted}

module _ (rs : List Route) (p : ℕ) where
  pub length_over : (f : ℕ → Bool) (at : ℕ → ℕ) (cells : List ℕ) → length (overpainted rs p f at cells) ≡ length cells
  unfolding overpainted
  length_over f at cells = length-tabulate (length cells) _

  pub over-at : (f : ℕ → Bool) (at : ℕ → ℕ) (cells : List ℕ) (q : ℕ) → q < length cells → get_or (overpainted rs p f at cells) q 0 ≡ cond (f q)
      (plan rs p (at q)) (get_or cells q 0)
  unfolding overpainted
  over-at f at cells q l = get_d_tabulate (length cells) _ q 0 l

  -- no cell passes
  pub over_none : (f : ℕ → Bool) (at : ℕ → ℕ) (cells : List ℕ) → ((q : ℕ) → q < length cells → f q ≡ false) → cells ≡ overpainted rs p f at cells
  unfolding overpainted
  over_none f at cells h = is-tabulate 0 cells (length cells) _ refl (λ q l. rw (h q l))

  -- another test that says the same, and other cells that are the same where it passes
  pub over-ext : (f g : ℕ → Bool) (at at' : ℕ → ℕ) (cells : List ℕ) → ((q : ℕ) → q < length cells → f q ≡ g q) →
      ((q : ℕ) → q < length cells → g q ≡ true → at q ≡ at' q)
      → overpainted rs p f at cells ≡ overpainted rs p g at' cells
  unfolding overpainted
  over-ext f g at at' cells h k = tabulate-ext (length cells) _ _ (λ q l. rw (h q l) (go q (decided (g q)) (k q l)))
    where
      go : (q : ℕ) → (g q ≡ true) ⊎ (g q ≡ false) → (g q ≡ true → at q ≡ at' q) → cond (g q) (plan rs p (at q)) (get_or cells q 0) ≡ cond (g q)
          (plan rs p (at' q)) (get_or cells q 0)
      go q (inl e) w = rw (w e)
      go q (inr e) w = rw e

  -- painted over by f, and then by g: together by h
  pub over-more : (f g h : ℕ → Bool) (at at' : ℕ → ℕ) (cells : List ℕ) → ((q : ℕ) → q < length cells → g q ≡ true → (h q ≡ true) × (at' q ≡ at q))
      → ((q : ℕ) → q < length cells → g q ≡ false → h q ≡ f q)
      → overpainted rs p g at' (overpainted rs p f at cells) ≡ overpainted rs p h at cells
  unfolding overpainted
  over-more f g h at at' cells new old =
      rw (length-tabulate (length cells) _)
      (tabulate-ext (length cells) _ _ (λ q l. ap (cond (g q) (plan rs p (at' q))) (get_d_tabulate (length cells) _ q 0 l) ∙ go q (decided (g q))
      (new q l) (old q l)))
    where
      go : (q : ℕ) → (g q ≡ true) ⊎ (g q ≡ false) → (g q ≡ true → (h q ≡ true) × (at' q ≡ at q)) → (g q ≡ false → h q ≡ f q)
          → cond (g q) (plan rs p (at' q)) (cond (f q) (plan rs p (at q)) (get_or cells q 0)) ≡ cond (h q) (plan rs p (at q)) (get_or cells q 0)
      go q (inl e) n o = rw (e, (n e).0, (n e).1)
      go q (inr e) n o = rw (e, o e)

  -- a part of the list, planned
  module _ (cells ys : List ℕ) (a e base : ℕ) (rises : a ≤ e) (fits : e ≤ length cells) (is : ys ≡ planned rs p base (length (mid_of a (e - a) cells))) where
    size : length ys ≡ e - a
    unfolding planned
    size = ap length is ∙ length-tabulate _ _ ∙ mid_len a e cells fits

    front : length (take a cells) ≡ a
    front = length-take-le a cells (omega arith)

    part-at : (j : ℕ) → j < e - a → get_or ys j 0 ≡ plan rs p (base + j)
    unfolding planned
    part-at j l = rw is (get_d_tabulate _ _ j 0 (rw (mid_len a e cells fits) l))

    past : (j : ℕ) → get_or (put_mid a (e - a) cells ys) (a + j) 0 ≡ get_or (ys ++ post_of a (e - a) cells) j 0
    past j = ap (λ (x : ℕ). get_or (put_mid a (e - a) cells ys) (x + j) 0) (sym front) ∙ get_or-append-add (take a cells) (ys ++ post_of a (e - a) cells) j 0

    put-at : (q : ℕ) → Side a e q → get_or (put_mid a (e - a) cells ys) q 0 ≡ cond (between a e q) (plan rs p (base + (q - a))) (get_or cells q 0)
    put-at q (below l) = rw (between-below a e q l) (get_or-append (take a cells) _ 0 q (rw front l) ∙ get_or-take a cells q 0 l)
    put-at q (inside l u) =
        let z : a + (q - a) ≡ q = omega arith in
        let w : q - a < length ys = omega (arith, size) in
        rw (between_in a e q l u) (ap (λ (x : ℕ). get_or (put_mid a (e - a) cells ys) x 0) (sym z) ∙ past (q - a) ∙ get_or-append ys _ 0 (q - a) w
        ∙ part-at (q - a) (omega arith))
    put-at q (above l u) =
        let z : a + (length ys + (q - e)) ≡ q = omega (arith, size) in
        let w : e + (q - e) ≡ q = omega arith in
        rw (between-above a e q u)
        (ap (λ (x : ℕ). get_or (put_mid a (e - a) cells ys) x 0) (sym z) ∙ past (length ys + (q - e)) ∙ get_or-append-add ys _ (q - e) 0
        ∙ ap (λ (l : List ℕ). get_or l (q - e) 0) (Post-is a e cells rises) ∙ get_or-drop e cells (q - e) 0 ∙ ap (λ (x : ℕ). get_or cells x 0) w)

    pub part-over : put_mid a (e - a) cells ys ≡ overpainted rs p (between a e) (λ q. base + (q - a)) cells
    unfolding overpainted
    part-over = is-tabulate 0 (put_mid a (e - a) cells ys) (length cells) _ (same_len_mid a (e - a) cells ys (size ∙ sym (mid_len a e cells fits)))
        (λ q l. put-at q (side a e q))
