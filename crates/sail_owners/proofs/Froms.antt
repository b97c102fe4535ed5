-- Owners of a table that has its pools for itself: it adds 0 to them, and a load opens the chunks that announcing does.
use mathlib.Core.Path.{◌≡◌, refl, ◌∙◌, ap}
use mathlib.Core.Bool.{Bool, false, cond}
use mathlib.Core.List.{List, [], ◌∷◌, ◌++◌}
use Prim.Native.Nat.{ℕ, zero, suc, ◌+◌}
use native.Mathlib.Omega.{arith}
use lib.Dec.{ltb}
use lib.ListN.{get_or, length, replicate}
use Rattle.bits.specs.Count.{bit, count}
use Rattle.bits.specs.Slot.{slot}
use Rattle.bits.proofs.Tabs.{get_d-zeros}
use Rattle.routes.specs.declared.Route.{Route}
use Rattle.sail.specs.Level.{entry, in_use}
use Rattle.sail.specs.Sound.{used}
use Rattle.sail.specs.declared.geometry.Geometry.{Geometry}
use Rattle.sail_theory.specs.Render.{find}
use Rattle.sail_theory.specs.Calls.{Owners, grant, open_at, opened, owners_after}
use Rattle.sail_owners.specs.Owners.{granted, open_from, opened_from, owners_from, NoneOwn, Between, Ownable}

open_none : (p q : ℕ) (own : List ℕ) (r : Route) → open_from 0 p q own r ≡ cond (ltb p r.len) (grant own (find own 0) q) own
unfolding open_from granted grant
open_none p q own r = let e : 0 + suc q ≡ suc q = omega arith in rw e

opened-none : (g : Geometry) (o : Owners) (r : Route) → opened_from 0 g o r ≡ opened g o r
unfolding open_at
opened-none g o r =
    let second = open_none g.p1 (slot g.p1 r.addr) o.own2 r in
    let e : 0 + suc (slot g.p1 r.addr) ≡ suc (slot g.p1 r.addr) = omega arith in
    rw (second, open_none g.p2 _ o.own3 r, e)

pub from-none : (g : Geometry) (o : Owners) (rs : List Route) → owners_from 0 g o rs ≡ owners_after g o rs
unfolding owners_from owners_after
from-none g o [] = refl
from-none g o (r ∷ rs) = from-none g (opened_from 0 g o r) rs ∙ ap (λ (x : Owners). owners_after g x rs) (opened-none g o r)

-- one route more
pub from-snoc : (top : ℕ) (g : Geometry) (o : Owners) (xs : List Route) (r : Route)
    → owners_from top g o (xs ++ (r ∷ [])) ≡ opened_from top g (owners_from top g o xs) r
unfolding owners_from
from-snoc top g o [] r = refl
from-snoc top g o (x ∷ xs) r = from-snoc top g (opened_from top g o x) xs r

-- Where no chunk is in use, none is the table's own, and all are free.
count_none : (f : ℕ → Bool) (n : ℕ) → ((i : ℕ) → f i ≡ false) → count f n ≡ 0
unfolding count
count_none f zero h = refl
count_none f (suc n) h = omega (arith, ap bit (h n), count_none f n h)

module _ (own : List ℕ) (none : own ≡ replicate (length own) 0) where
  free_all : (c : ℕ) → get_or own c 0 ≡ 0
  free_all c = ap (λ (x : List ℕ). get_or x c 0) none ∙ get_d-zeros (length own) c

  none-used : used own ≡ 0
  none-used = count_none (in_use (entry own)) (length own) (λ c. rw (free_all c))

  none-own : (top : ℕ) → NoneOwn top own
  none-own top = record { none = λ c q h e. omega (arith, e, free_all c) }

pub ownable-between : (g : Geometry) (input own2 own3 : List ℕ) → Ownable g input own2 own3 → Between 0 g input own2 own3
ownable-between g input own2 own3 w = record {
  valid = w.valid;
  records = w.records;
  small = omega arith;
  few2 = w.few2;
  few3 = w.few3;
  enough2 = omega (arith, w.enough2, none-used own2 w.none2);
  enough3 = omega (arith, w.enough3, none-used own3 w.none3);
  none2 = none-own own2 w.none2 0;
  none3 = none-own own3 w.none3 0;
}
