-- What a repair says is decided by the first condition, in the order 1, 2, 7, 8, that holds; it says nothing else, and the conditions exclude each
-- other.
use mathlib.Core.Path.{◌≡◌, refl, sym, ◌∙◌, ap}
use mathlib.Core.Logic.{◌⊎◌, inl, inr}
use mathlib.Core.Bool.{true, cond, true≢false}
use mathlib.Core.List.{List, []}
use Prim.Native.Nat.{ℕ, zero, suc, ◌≤◌, ◌<◌}
use lib.Dec.{ltb}
use lib.ListN.{length}
use borrow.Author.Tests.{lt-ltb, le-ltb}
use Rattle.bits.proofs.Bools.{below?}
use Rattle.routes.specs.Said.{Said, accepted, refused, accepts}
use Rattle.routes.specs.declared.Route.{Route}
use Rattle.standing.specs.Cells.{need}
use Rattle.sail.specs.Lent.{Lent}
use Rattle.sail.specs.Sizes.{sizes_fault, Sized}
use Rattle.sail.specs.declared.table.Table.{Table}
use Rattle.sail.proofs.Fitting.{Fault, none_is, fault-is}
use Rattle.sail_theory.specs.Calls.{terms_of, chunks_fault, or_say, make_said}
use Rattle.sail_theory.specs.Facts.{Loadable}
use Rattle.sail.specs.Cases.{Sizing}
use Rattle.sail_theory.specs.Cases.{Make}
use Rattle.sail_theory.proofs.calls.OneCase.{make-only}
use Rattle.repair_theory.specs.Repair.{kept_routes, changes, repair_said}
use Rattle.repair_theory.specs.Cases.{Repair}
use Rattle.repair_theory.proofs.Looks.{kept-good, kept-room}

-- a first step that refuses says the same whatever comes after it
or-any : (f n : ℕ) (a s : Said) → accepts a ≡ true → or_say f a ≡ refused n → or_say f s ≡ refused n
or-any zero n a s e q = absurd (true≢false (sym e ∙ ap accepts q))
or-any (suc f) n a s e q = q

module _ (t : Table) (l : Lent) where
  abbrev rs : List Route
  rs = kept_routes t l

  -- the kept records may be loaded where there are chunks for them: there is always room
  pub kept-loadable : Sized t.geometry l → need rs t.geometry.p1 ≤ length l.own2 → need rs t.geometry.p2 ≤ length l.own3
      → Loadable t l rs
  kept-loadable z x y = record { sized = z; good = kept-good t l; roomy = kept-room t l; enough2 = x; enough3 = y }

  sized-judged : Sized t.geometry l → Repair t l (or_say (chunks_fault (terms_of t l) rs) (accepted (changes t l)))
  unfolding chunks_fault
  sized-judged z = go (below? (length l.own2) (need rs t.geometry.p1)) (below? (length l.own3) (need rs t.geometry.p2))
    where
      go : (length l.own2 < need rs t.geometry.p1) ⊎ (need rs t.geometry.p1 ≤ length l.own2)
          → (length l.own3 < need rs t.geometry.p2) ⊎ (need rs t.geometry.p2 ≤ length l.own3)
          → Repair t l (or_say (cond (ltb (length l.own2) (need rs t.geometry.p1)) 7 (cond (ltb (length l.own3) (need rs t.geometry.p2)) 8 0))
          (accepted (changes t l)))
      go (inl x) y = rw (lt-ltb _ _ x) (Repair.second z x)
      go (inr x) (inl y) = rw (le-ltb _ _ x, lt-ltb _ _ y) (Repair.third z x y)
      go (inr x) (inr y) = rw (le-ltb _ _ x, le-ltb _ _ y) (Repair.done (kept-loadable z x y))

  pub repair-judged : Repair t l (repair_said t l)
  unfolding repair_said
  repair-judged = go (fault-is t.geometry l)
    where
      go : {n : ℕ} → Fault t.geometry l n → Repair t l (or_say n (or_say (chunks_fault (terms_of t l) rs) (accepted (changes t l))))
      go (Fault.none z) = sized-judged z
      go (Fault.limits h) = Repair.sizing 1 (Sizing.limits h)
      go (Fault.size v h) = Repair.sizing 2 (Sizing.size v h)

  pub repair-only : (s : Said) → Repair t l s → repair_said t l ≡ s
  unfolding repair_said chunks_fault make_said
  repair-only s (Repair.sizing n h) = or-any (sizes_fault t.geometry l) n (accepted []) _ refl (make-only t l (refused n) (Make.sizing n h))
  repair-only s (Repair.second z x) = rw (none_is t.geometry l z, lt-ltb _ _ x)
  repair-only s (Repair.third z x y) = rw (none_is t.geometry l z, le-ltb _ _ x, lt-ltb _ _ y)
  repair-only s (Repair.done w) = rw (none_is t.geometry l w.sized, le-ltb _ _ w.enough2, le-ltb _ _ w.enough3)

  -- accepted exactly where the kept records may be loaded
  pub accepted-loadable : accepts (repair_said t l) ≡ true → Loadable t l rs
  accepted-loadable e = go repair-judged e
    where
      go : {s : Said} → Repair t l s → accepts s ≡ true → Loadable t l rs
      go (Repair.sizing n h) e = absurd (true≢false (sym e))
      go (Repair.second z x) e = absurd (true≢false (sym e))
      go (Repair.third z x y) e = absurd (true≢false (sym e))
      go (Repair.done w) e = w
