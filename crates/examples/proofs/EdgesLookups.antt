-- Lookups at the limits say what document 01 says. A walk reads three cells at most: their values are worked out from the functions that the
-- arrays tabulate, and no array is computed.
use mathlib.Core.Path.{◌≡◌, refl, ◌∙◌, ap}
use mathlib.Core.Logic.{◌⊎◌, inl, inr}
use mathlib.Core.Bool.{Bool, true, cond}
use mathlib.Core.List.{List, [], ◌∷◌}
use Prim.Native.Nat.{ℕ, zero, suc, ◌≤◌, ◌<◌, ◌^◌}
use native.Mathlib.Omega.{arith}
use lib.Dec.{eqb, ltb}
use lib.ListN.{get_or, length, length-replicate}
use borrow.Author.Tests.{lt-ltb, le-ltb}
use Rattle.bits.specs.Slot.{slot}
use Rattle.bits.specs.Tab.{tabulate}
use Rattle.bits.proofs.Bools.{below?}
use Rattle.bits.proofs.Tabs.{get_d_tabulate, length-tabulate}
use Rattle.routes.specs.Said.{Said}
use Rattle.sail.specs.Geometry.{bits2, bits3, valid_geo}
use Rattle.sail.specs.Level.{View, whole, no_chunks}
use Rattle.sail.specs.Sizes.{sizes_fit, sizes_fault}
use Rattle.standing.specs.Served.{hop_said}
use Rattle.sail.specs.Walk.{cell_place, cell2, cell3, step_said, one_of, walk_said, found_said, lookup_said}
use Rattle.sail.specs.declared.geometry.Geometry.{Geometry}
use Rattle.examples.specs.Lines.{Hold}
use Rattle.examples.specs.EdgesLookups.{Content, many2, many3, arrays, Asked, lookup, answer, edges}
use Rattle.examples.proofs.Lines.{all_serve, lines-hold}

-- what a tabulated array holds at any place
abbrev within : ℕ → (ℕ → ℕ) → ℕ → ℕ
within n f q = cond (ltb q n) (f q) 0

past : (xs : List ℕ) (q : ℕ) → length xs ≤ q → ◌≡◌ {A = ℕ} (get_or xs q 0) 0
past [] q h = refl
past (x ∷ xs) zero h = absurd (omega arith)
past (x ∷ xs) (suc q) h = past xs q (omega arith)

cell-of : (n : ℕ) (f : ℕ → ℕ) (q : ℕ) → get_or (tabulate n f) q 0 ≡ within n f q
cell-of n f q = go (below? q n)
  where
    go : (q < n) ⊎ (n ≤ q) → get_or (tabulate n f) q 0 ≡ within n f q
    go (inl h) = get_d_tabulate n f q 0 h ∙ rw (lt-ltb q n h)
    go (inr h) = past (tabulate n f) q (rw length-tabulate h) ∙ rw (le-ltb q n h)

-- a walk over views that hold the same
module _ (g : Geometry) (t u : View) (a : ℕ)
    (one : (q : ℕ) → t.first q ≡ u.first q) (two : (q : ℕ) → t.second q ≡ u.second q) (three : (q : ℕ) → t.third q ≡ u.third q) where
  same2 : cell2 g t a ≡ cell2 g u a
  same2 = two _ ∙ ap (λ (v : ℕ). u.second (cell_place (bits2 g) v (slot g.p2 a))) (one (slot g.p1 a))

  same3 : cell3 g t a ≡ cell3 g u a
  same3 = three _ ∙ ap (λ (v : ℕ). u.third (cell_place (bits3 g) v a)) same2

  walk_same : (opens2 opens3 : ℕ → Bool) → walk_said g opens2 opens3 t a ≡ walk_said g opens2 opens3 u a
  unfolding walk_said
  walk_same opens2 opens3 = cc (one (slot g.p1 a), same2, same3)

-- on paper
abbrev view : Content → View
view h = record {
  first = within (2 ^ h.geometry.p1) h.first;
  second = within (many2 h) h.second;
  third = within (many3 h) h.third;
  chunks2 = no_chunks;
  chunks3 = no_chunks;
}

unfoldable paper : Asked → Said
paper (lookup h a) = walk_said h.geometry (one_of h.chunks2) (one_of h.chunks3) (view h) a

-- where the sizes are right
abbrev fault : Content → ℕ
fault h = cond (valid_geo h.geometry) (cond (sizes_fit h.geometry 0 (2 ^ h.geometry.p1) (many2 h) (many3 h) h.chunks2 h.chunks3
    (2 ^ h.geometry.p1) (many2 h)) 0 2) 1

unfoldable serves : Asked → Bool
serves (lookup h a) = eqb (fault h) 0

fault-of : (h : Content) → sizes_fault h.geometry (arrays h) ≡ fault h
unfolding sizes_fault arrays
fault-of h = simp (length-tabulate, length-replicate)

found_of : (h : Content) (a : ℕ) → found_said h.geometry (arrays h) a ≡ paper (lookup h a)
unfolding found_said paper arrays walk_said
found_of h a =
    simp length-replicate
    (walk_same h.geometry (whole (arrays h)) (view h) a
    (cell-of (2 ^ h.geometry.p1) h.first) (cell-of (many2 h) h.second) (cell-of (many3 h) h.third) _ _)

agrees : (q : Asked) → serves q ≡ true → answer q ≡ paper q
unfolding answer serves lookup_said
agrees (lookup h a) e = rw (fault-of h, e) (found_of h a)

served : all_serve answer paper serves agrees edges ≡ true
unfolding all_serve edges serves valid_geo sizes_fit
served = refl

on-paper : Hold paper edges
unfolding Hold edges paper walk_said step_said hop_said
on-paper = refl

pub lookups-hold : Hold answer edges
lookups-hold = lines-hold answer paper serves agrees edges served on-paper
