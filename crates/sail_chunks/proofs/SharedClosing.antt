-- A chunk closed in a pool that others use too. The table's own cells are then stale as they would be alone; and painted again, the pool holds what
-- the table's routes and owners ask for in its own chunks, 0 in the one that was closed, and elsewhere what others hold.
use mathlib.Core.Path.{◌≡◌, refl, sym, ◌∙◌}
use mathlib.Core.Logic.{◌⊎◌, inl, inr}
use mathlib.Core.Bool.{Bool, true, false, cond, true≢false}
use mathlib.Core.List.{List}
use Prim.Native.Nat.{ℕ, ◌-◌, ◌*◌, ◌^◌, ◌<◌}
use lib.ListN.{get_or, length, set, length-set}
use Rattle.bits.proofs.Bools.{decided, or_split, or-none}
use Rattle.routes.specs.declared.Route.{Route}
use Rattle.sail.specs.Level.{Level, Chunks, live_in, entry, chunks_of, below}
use Rattle.sail_theory.specs.Render.{shown, pool, laid_over}
use Rattle.sail_theory.specs.Shared.{own_part, touched, mixed}
use Rattle.sail_theory.proofs.places.Alone.{length-own, own_at}
use Rattle.sail_theory.proofs.places.Pools.{length-laid, laid-at, pool-shown, pool-clear}
use Rattle.sail_chunks.specs.Chunks.{without_owner, blanked}
use Rattle.sail_chunks.proofs.ClosedCells.{length-blanked, closed-held, closed-blank, closed-live, closed-other}
use Rattle.sail_chunks.proofs.SharedCells.{Agree, mixed-is}

-- Chunk c, which is in use, is closed where b says so. v is the level that the pool hangs from then, and xs are the cells of the pool before.
module _ (b : Bool) (own : List ℕ) (c : ℕ) (one : b ≡ true → c < length own) (used : b ≡ true → 0 < get_or own c 0)
    (own' : List ℕ) (is : own' ≡ without_owner b c own) (v : Level) (p : ℕ) (xs : List ℕ) (size : length xs ≡ length own * 2 ^ (p - v.bits)) where
  abbrev d : ℕ
  d = p - v.bits

  abbrev low : Level
  low = below v (chunks_of own') p

  as_many : length own' ≡ length own
  unfolding without_owner
  as_many = rw is (go b)
    where
      go : (x : Bool) → length (cond x (set own c 0) own) ≡ length own
      go true = length-set own c 0
      go false = refl

  places : length xs ≡ low.places
  places = rw as_many size

  closed : (q : ℕ) → low.live q ≡ true → live_in (entry (without_owner b c own)) d q ≡ true
  closed q e = rw is at e

  was-live : (q : ℕ) → low.live q ≡ true → live_in (entry own) d q ≡ true
  was-live q e = closed-live b own c d one used q (closed q e)

  pub closed-agree : Agree low (blanked b c d (own_part own d xs)) (blanked b c d xs)
  closed-agree = record {
    size = length-blanked b c d xs ∙ sym (length-own own d xs) ∙ sym (length-blanked b c d (own_part own d xs));
    at = λ q l e.
        let i : q < length xs = rw places l in
        closed-held b own xs c d one q i (closed q e)
        ∙ sym (own_at own d xs q i ∙ rw (was-live q e))
        ∙ sym (closed-held b own (own_part own d xs) c d one q (rw length-own i) (closed q e));
  }

  module _ (rs : List Route) (k : Chunks) where
    -- at a place of the table's own
    inside : (q : ℕ) → q < length xs → touched own own' d q ≡ true
        → cond (low.live q) (shown rs low k q) (get_or (blanked b c d xs) q 0) ≡ get_or (pool rs low k) q 0
    inside q l t = go (decided (low.live q))
      where
        go : (low.live q ≡ true) ⊎ (low.live q ≡ false) → cond (low.live q) (shown rs low k q) (get_or (blanked b c d xs) q 0) ≡ get_or (pool rs low k) q 0
        go (inl e) = rw e (sym (pool-shown rs low k q (rw places at l) e))
        go (inr e) =
            rw e
            (closed-blank b own xs c d one q l (λ f. absurd (lost (or_split (live_in (entry own) d q) (low.live q) t) f)) (rw is at e)
            ∙ sym ((pool-clear rs low k).blank q (rw places at l) e))
          where
            lost : (live_in (entry own) d q ≡ true) ⊎ (low.live q ≡ true) → live_in (entry own) d q ≡ false → ⊥
            lost (inl y) f = true≢false (sym y ∙ f)
            lost (inr y) f = true≢false (sym y ∙ e)

    -- and elsewhere
    outside : (q : ℕ) → q < length xs → touched own own' d q ≡ false → cond (low.live q) (shown rs low k q) (get_or (blanked b c d xs) q 0) ≡ get_or xs q 0
    outside q l t =
        let n = or-none (live_in (entry own) d q) (low.live q) t in
        rw n.1 (closed-other b own c d one used xs q l n.0)

    pub closed-mixed : laid_over rs low k (blanked b c d xs) ≡ mixed own own' d xs (pool rs low k)
    closed-mixed =
        let old : List ℕ = blanked b c d xs in
        mixed-is own own' d xs (pool rs low k) (laid_over rs low k old) (length-laid old low.live (shown rs low k) ∙ length-blanked b c d xs)
        (λ q l t. laid-at old low.live (shown rs low k) q (rw length-blanked l) ∙ inside q l t)
        (λ q l t. laid-at old low.live (shown rs low k) q (rw length-blanked l) ∙ outside q l t)
