-- A cell that is altered outside the prefix is outside what a change may alter: one of each array, in any table of the standard geometry.
use mathlib.Core.Path.{refl, sym, ◌∙◌}
use mathlib.Core.Logic.{◌≢◌}
use Prim.Native.Nat.{ℕ, ◌+◌, ◌*◌, ◌<◌}
use native.Mathlib.Omega.{arith}
use lib.ListN.{get_or, length, set}
use lib.Seq.{get_or-set_same}
use Rattle.sail.specs.Geometry.{standard_geo}
use Rattle.sail.specs.Lent.{Lent, lent}
use Rattle.sail_theory.specs.Alters.{Alters}

abbrev ip : ℕ → ℕ → ℕ → ℕ → ℕ
ip a b c d = ((a * 256 + b) * 256 + c) * 256 + d

module _ (l : Lent) (v : ℕ) where
  -- 10.1.0.0/16 changes, and the first cell of 10.2.0.0/16 is altered
  pub first-outside : 2562 < length l.first → v ≢ get_or l.first 2562 0
      → Alters standard_geo (ip 10 1 0 0) 16 l (lent l.list (set l.first 2562 v) l.second l.third l.own2 l.own3 l.long1 l.long2) → ⊥
  first-outside h n a = n (sym (get_or-set_same l.first 2562 v 0 h) ∙ a.first 2562 h (λ x s e r. omega (arith, r.there)))

  -- 10.1.2.0/24 changes, and the second cell at place 3 of its chunk is altered: that of 10.1.3.0/24
  pub second-outside : 3 < length l.second → v ≢ get_or l.second 3 0
      → Alters standard_geo (ip 10 1 2 0) 24 l (lent l.list l.first (set l.second 3 v) l.third l.own2 l.own3 l.long1 l.long2) → ⊥
  second-outside h n a = n (sym (get_or-set_same l.second 3 v 0 h) ∙ a.second 3 h (λ x s e r. omega (arith, r.there)) refl)

  -- 10.1.2.128/25 changes, and the third cell at place 5 of its chunk is altered: that of 10.1.2.5
  pub third-outside : 5 < length l.third → v ≢ get_or l.third 5 0
      → Alters standard_geo (ip 10 1 2 128) 25 l (lent l.list l.first l.second (set l.third 5 v) l.own2 l.own3 l.long1 l.long2) → ⊥
  third-outside h n a = n (sym (get_or-set_same l.third 5 v 0 h) ∙ a.third 5 h (λ x s e r. omega (arith, r.there)) refl)
