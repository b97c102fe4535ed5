-- The count that a lookup says is the number of cells that it reads, and these alone decide what it says: in any table of right sizes.
use mathlib.Core.Path.{◌≡◌, refl, sym, ◌∙◌, ap, ap₂, subst}
use mathlib.Core.Logic.{◌⊎◌, inl, inr}
use mathlib.Core.Bool.{Bool, true, false, cond}
use mathlib.Core.List.{List, [], ◌∷◌}
use Prim.Native.Nat.{ℕ, ◌-◌, ◌^◌, ◌≤◌, ◌<◌}
use native.Mathlib.Omega.{arith}
use lib.Dec.{eqb}
use lib.ListN.{get_or, length}
use borrow.Author.Tests.{eq-eqb}
use Rattle.bits.specs.Slot.{slot}
use Rattle.bits.proofs.Bools.{decided, below?}
use Rattle.routes.specs.Said.{Said, accepted, refused}
use Rattle.sail.specs.Geometry.{bits2, bits3}
use Rattle.sail.specs.Lent.{Lent}
use Rattle.sail.specs.Level.{whole}
use Rattle.sail.specs.Sizes.{sizes_fault, Sized}
use Rattle.standing.specs.Served.{hop_said}
use Rattle.sail.specs.Walk.{cell_place, cell1, place2, cell2, place3, cell3, step_said, one_of, shut, walk_said, found_said, lookup_said}
use Rattle.sail.specs.Reads.{Leads, ReadsFirst, ReadsSecond, ReadsThird, One, Reads, one, two, three, SameRead}
use Rattle.sail.specs.declared.geometry.Geometry.{Geometry}
use Rattle.sail.specs.declared.table.Table.{Table}
use Rattle.sail.proofs.Fitting.{none_is}
use Rattle.sail.proofs.Steps.{place_in, named, first-in, step-leaf, step-off, step-on}

-- a hop's and no route's count
hop-count : (k h n : ℕ) (vs : List ℕ) → hop_said k h ≡ accepted (n ∷ vs) → k ≡ n
unfolding hop_said
hop-count k h n vs e = go (eqb h 0) e
  where
    go : (b : Bool) → cond b (accepted (k ∷ [])) (accepted (k ∷ h ∷ [])) ≡ accepted (n ∷ vs) → k ≡ n
    go true e = cc
    go false e = cc

-- what is refused has no count
not-refused : (n : ℕ) (vs : List ℕ) → refused 5 ≡ accepted (n ∷ vs) → ⊥
not-refused n vs e = let z : ◌≡◌ {A = ℕ} 0 1 = cc in omega arith

-- where the k-th cell holds v: a leaf, a number that leads on, or neither
data Step (m v : ℕ) : Type 0 where
  leaf : 32768 ≤ v → Step m v
  off : v < 32768 → one_of m v ≡ false → Step m v
  on : one_of m v ≡ true → Leads v m → Step m v

step : (m v : ℕ) → Step m v
step m v = go (below? v 32768) (decided (one_of m v))
  where
    go : (v < 32768) ⊎ (32768 ≤ v) → (one_of m v ≡ true) ⊎ (one_of m v ≡ false) → Step m v
    go (inr h) _ = leaf h
    go (inl h) (inl e) = let i = named m v e in on e (record { low = h; one = i.0; last = i.1 })
    go (inl h) (inr e) = off h e

-- what comes after a cell matters only where that leads on
step_same : {m m' v v' : ℕ} (n : ℕ) (x y : Said) → m' ≡ m → v' ≡ v → (Leads v m → x ≡ y) → step_said n (one_of m') v' x ≡ step_said n (one_of m) v y
step_same {m} {m'} {v} {v'} n x y p q h = ap₂ (λ (i j : ℕ). step_said n (one_of i) j x) p q ∙ go (step m v)
  where
    go : Step m v → step_said n (one_of m) v x ≡ step_said n (one_of m) v y
    go (leaf b) = sym (step-leaf n _ v x b) ∙ step-leaf n _ v y b
    go (off b e) = sym (step-off n _ v x b e) ∙ step-off n _ v y b e
    go (on e d) = sym (step-on n _ v x d.low e) ∙ h d ∙ step-on n _ v y d.low e

module _ (g : Geometry) (l : Lent) (a : ℕ) (sized : Sized g l) (small : a < 2 ^ 32) where
  abbrev v1 : ℕ
  v1 = cell1 g (whole l) a

  abbrev v2 : ℕ
  v2 = cell2 g (whole l) a

  abbrev v3 : ℕ
  v3 = cell3 g (whole l) a

  first-once : One (length l.first) (ReadsFirst g a)
  first-once = record { at = slot g.p1 a; inside = first-in g l a sized small; is = record { there = refl }; only = λ q r. sym r.there }

  second-once : Leads v1 (length l.own2) → One (length l.second) (ReadsSecond g (whole l) a)
  second-once d = record {
    at = place2 g (whole l) a;
    inside = place_in _ _ v1 (bits2 g) _ (record { cells = sized.cells2; one = d.one; last = d.last; few = sized.few2; size = sized.valid.near });
    is = record { goes = d; there = refl };
    only = λ q r. sym r.there;
  }

  small3 : bits3 g ≤ 10
  small3 = let v = sized.valid in omega arith

  third-once : Leads v1 (length l.own2) → Leads v2 (length l.own3) → One (length l.third) (ReadsThird g (whole l) a)
  third-once d d' = record {
    at = place3 g (whole l) a;
    inside = place_in _ _ v2 (bits3 g) _ (record { cells = sized.cells3; one = d'.one; last = d'.last; few = sized.few3; size = small3 });
    is = record { goes = d; on = d'; there = refl };
    only = λ q r. sym r.there;
  }

  -- the walk ends at the first leaf, and has read the cells down to it
  found-reads : (n : ℕ) (vs : List ℕ) → found_said g l a ≡ accepted (n ∷ vs) → Reads g l a n
  unfolding found_said walk_said
  found-reads n vs e = go (step (length l.own2) v1) (step (length l.own3) v2) (below? v3 32768)
    where
      said : Said
      said = step_said 1 (one_of (length l.own2)) v1 (step_said 2 (one_of (length l.own3)) v2 (step_said 3 shut v3 (refused 5)))

      is : (k h : ℕ) → hop_said k h ≡ said → Reads g l a k → Reads g l a n
      is k h p = subst (Reads g l a) (hop-count k h n vs (p ∙ e))

      not : refused 5 ≡ said → Reads g l a n
      not p = absurd (not-refused n vs (p ∙ e))

      go : Step (length l.own2) v1 → Step (length l.own3) v2 → (v3 < 32768) ⊎ (32768 ≤ v3) → Reads g l a n
      go (leaf h) _ _ = is 1 _ (step-leaf 1 _ v1 _ h) (one first-once (λ q r. omega (arith, r.goes.low)) (λ q r. omega (arith, r.goes.low)))
      go (off h x) _ _ = not (step-off 1 _ v1 _ h x)
      go (on o d) (leaf h) _ =
          is 2 _ (step-leaf 2 _ v2 _ h ∙ step-on 1 _ v1 _ d.low o) (two first-once (second-once d) (λ q r. omega (arith, r.on.low)))
      go (on o d) (off h x) _ = not (step-off 2 _ v2 _ h x ∙ step-on 1 _ v1 _ d.low o)
      go (on o d) (on o' d') (inr h) =
          is 3 _ (step-leaf 3 shut v3 _ h ∙ step-on 2 _ v2 _ d'.low o' ∙ step-on 1 _ v1 _ d.low o) (three first-once (second-once d) (third-once d d'))
      go (on o d) (on o' d') (inl h) = not (step-off 3 shut v3 _ h refl ∙ step-on 2 _ v2 _ d'.low o' ∙ step-on 1 _ v1 _ d.low o)

-- where the sizes are right lookup says what the walk finds
look-walks : (t : Table) (l : Lent) (a : ℕ) → Sized t.geometry l → lookup_said t l a ≡ found_said t.geometry l a
unfolding lookup_said
look-walks t l a s = rw (eq-eqb (sizes_fault t.geometry l) 0 (none_is t.geometry l s))

-- "On a table that isn't sound it is the cells this walk read": the count is their number
pub reads-counted : (t : Table) (l : Lent) (a : ℕ) → Sized t.geometry l → a < 2 ^ 32
    → (n : ℕ) (vs : List ℕ) → lookup_said t l a ≡ accepted (n ∷ vs) → Reads t.geometry l a n
reads-counted t l a s h n vs e = found-reads t.geometry l a s h n vs (sym (look-walks t l a s) ∙ e)

-- Two tables that hold the same in the cells that an address reads say the same of it: as the cells read are the same, each leads the walk on
-- to the same place, and what is not read does not come up.
module _ (g : Geometry) (l u : Lent) (a : ℕ) (same : SameRead g l u a) where
  same1 : cell1 g (whole u) a ≡ cell1 g (whole l) a
  same1 = same.first (slot g.p1 a) (record { there = refl })

  same2 : Leads (cell1 g (whole l) a) (length l.own2) → cell2 g (whole u) a ≡ cell2 g (whole l) a
  same2 d =
      ap (λ (v : ℕ). get_or u.second (cell_place (bits2 g) v (slot g.p2 a)) 0) same1
      ∙ same.second (place2 g (whole l) a) (record { goes = d; there = refl })

  same3 : Leads (cell1 g (whole l) a) (length l.own2) → Leads (cell2 g (whole l) a) (length l.own3) → cell3 g (whole u) a ≡ cell3 g (whole l) a
  same3 d d' =
      ap (λ (v : ℕ). get_or u.third (cell_place (bits3 g) v a) 0) (same2 d)
      ∙ same.third (place3 g (whole l) a) (record { goes = d; on = d'; there = refl })

  found-same : found_said g u a ≡ found_said g l a
  unfolding found_said walk_said
  found-same =
      step_same 1 _ _ same.chunks2 same1
      (λ d. step_same 2 _ _ same.chunks3 (same2 d)
      (λ d'. ap (λ (v : ℕ). step_said 3 shut v (refused 5)) (same3 d d')))

pub same_read : (t u : Table) (l v : Lent) (a : ℕ) → Sized t.geometry l → Sized t.geometry v → u.geometry ≡ t.geometry
    → SameRead t.geometry l v a → lookup_said u v a ≡ lookup_said t l a
same_read t u l v a s s' e same =
    look-walks u v a (rw e s') ∙ ap (λ (g : Geometry). found_said g v a) e ∙ found-same t.geometry l v a same ∙ sym (look-walks t l a s)
