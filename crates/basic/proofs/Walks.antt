-- What the walk of the definition comes to: a route longer than 16 bits decides, and where none covers, the maps do.
use mathlib.Core.Path.{◌≡◌, sym, ap, ◌∙◌}
use mathlib.Core.Bool.{true≢false}
use mathlib.Core.List.{List}
use Prim.Native.Nat.{ℕ, suc, ◌≤◌, ◌<◌}
use native.Mathlib.Omega.{arith}
use borrow.Author.Tests.{lt-ltb, le-ltb}
use Rattle.bits.specs.Slot.{slot}
use Rattle.bits.proofs.Bools.{untrue}
use Rattle.routes.specs.Route.{Good}
use Rattle.routes.specs.declared.Route.{Route}
use Rattle.standing.specs.Cells.{here, Longest}
use Rattle.standing.specs.Down.{down}
use Rattle.standing.proofs.Longest.{here-parts, cover-parts}
use Rattle.standing.proofs.Prefixes.{first-here, first_absent, here-cover, cover-here}
use Rattle.standing.proofs.Downs.{down-skip, down-at, down-same}
use Rattle.basic.specs.Walk.{mapped, list_says, level_says, basic_walk}
use Rattle.basic.specs.Meaning.{NoLong}

-- what each length says
module _ (rs : List Route) (bs cs : List ℕ) (a : ℕ) where
  pub level-long : (l : ℕ) → 16 < l → level_says rs bs cs a l ≡ list_says rs a l
  unfolding level_says
  level-long l h = rw (lt-ltb 16 l h)

  pub level-short : (l : ℕ) → l ≤ 16 → level_says rs bs cs a l ≡ mapped bs cs a l
  unfolding level_says
  level-short l h = rw (le-ltb 16 l h)

  -- where no route longer than 16 bits covers, the maps decide
  pub walk-maps : NoLong rs a → basic_walk rs bs cs a ≡ down (mapped bs cs a) 17
  walk-maps none =
      down-skip (level_says rs bs cs a) 17 33 (omega arith) (λ l p q. level-long l (omega arith) ∙ silent l (omega arith) (omega arith))
      ∙ down-same _ _ 17 (λ l u. level-short l (omega arith))
    where
      silent : (l : ℕ) → 16 < l → l ≤ 32 → list_says rs a l ≡ 0
      silent l h u =
          first_absent (here l (slot l a)) rs
          (λ r m. untrue (here l (slot l a) r) (λ t. true≢false (sym (here-cover a r l u t) ∙ none r m (omega (arith, (here-parts l (slot l a) r t).0)))))

  -- a longest route of more than 16 bits decides
  pub walk-list : Good rs → (h : ℕ) (w : Longest rs 32 a h) → 16 < w.route.len → basic_walk rs bs cs a ≡ suc h
  walk-list good h w long =
      down-at (level_says rs bs cs a) l 33 (omega (arith, short)) (λ q. omega (arith, says)) (λ k p q. level-long k (omega arith) ∙ silent k p (omega arith))
      ∙ says
    where
      l : ℕ
      l = w.route.len

      short : l ≤ 32
      short = (cover-parts 32 a w.route w.covering).0

      says : level_says rs bs cs a l ≡ suc h
      says =
          level-long l long
          ∙ first-here l (slot l a) rs w.route good w.listed (cover-here a w.route w.covering)
          ∙ ap suc (sym w.its_hop)

      silent : (k : ℕ) → l < k → k ≤ 32 → list_says rs a k ≡ 0
      silent k p q =
          first_absent (here k (slot k a)) rs
          (λ r m. untrue (here k (slot k a) r) (λ t. omega (arith, (here-parts k (slot k a) r t).0, w.longest r m (here-cover a r k q t))))
