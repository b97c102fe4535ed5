-- What holds where a call is accepted, by the terms on which it is judged.
use mathlib.Core.Path.{◌≡◌, sym, ◌∙◌}
use mathlib.Core.Logic.{◌⊎◌, inl, inr}
use mathlib.Core.Bool.{Bool, true, false, not, cond, false≢true}
use mathlib.Core.List.{List, [], ◌∷◌}
use Prim.Native.Nat.{ℕ, zero, suc, ◌/◌, ◌≤◌, ◌<◌}
use native.Mathlib.Omega.{arith}
use lib.Dec.{ltb, leb}
use lib.ListN.{length}
use borrow.Author.Tests.{lt-ltb, le-ltb, le-leb, lt-leb}
use Rattle.bits.proofs.Bools.{decided, below?}
use Rattle.routes.specs.Route.{key, Fine, Good}
use Rattle.routes.specs.Input.{route_fault, input_said}
use Rattle.routes.specs.Said.{Said, accepted, and_then, accepts}
use Rattle.routes.specs.declared.Route.{Route}
use Rattle.routes.proofs.Judged.{good-whole, bad-stops, by-input}
use Rattle.routes.proofs.Meaning.{RouteChecked, route-checked}
use Rattle.routes.proofs.Rows.{records-good}
use Rattle.standing.specs.Cells.{need}
use Rattle.standing.specs.Standing.{stands, insert}
use Rattle.standing.proofs.Standing.{insert-replaces}
use Rattle.standing.proofs.Changed.{insert-adds}
use Rattle.standing.proofs.NeedAfter.{need-same, stands-long}
use Rattle.sail_theory.specs.Calls.{Terms, chunks_fault, announce_fault, load_fault, or_say, input_routes}

-- the routes rs are within the terms
pub record OnTerms (m : Terms) (rs : List Route) : Type 0 where
  pub good : Good rs
  pub roomy : length rs ≤ m.room
  pub enough2 : need rs m.geometry.p1 ≤ m.most2
  pub enough3 : need rs m.geometry.p2 ≤ m.most3

abbrev Answer : Bool → Type 0
Answer b = (b ≡ true) ⊎ (b ≡ false)

abbrev Beside : ℕ → ℕ → Type 0
Beside m n = (m < n) ⊎ (n ≤ m)

-- an announcement that is accepted: the route is fine, and those that then stand are within the terms
module _ (m : Terms) (rs : List Route) (on : OnTerms m rs) (r : Route) (low : m.geometry.p1 ≤ 32) (deep : m.geometry.p2 ≤ 32) (vs : List ℕ) where
  abbrev next : List Route
  next = insert r rs

  abbrev fault : ℕ
  fault = cond (stands (key r) rs) 0 (cond (leb m.room (length rs)) 6
      (cond (ltb m.most2 (need next m.geometry.p1)) 7 (cond (ltb m.most3 (need next m.geometry.p2)) 8 0)))

  fine-offer : Fine r → accepts (or_say fault (accepted vs)) ≡ true
      → (length next ≤ m.room) × (need next m.geometry.p1 ≤ m.most2) × (need next m.geometry.p2 ≤ m.most3)
  fine-offer f a =
      go (decided (stands (key r) rs)) (below? (length rs) m.room) (below? m.most2 (need next m.geometry.p1))
      (below? m.most3 (need next m.geometry.p2)) a
    where
      go : Answer (stands (key r) rs) → Beside (length rs) m.room → Beside m.most2 (need next m.geometry.p1)
          → Beside m.most3 (need next m.geometry.p2) → accepts (or_say fault (accepted vs)) ≡ true
          → (length next ≤ m.room) × (need next m.geometry.p1 ≤ m.most2) × (need next m.geometry.p2 ≤ m.most3)
      go (inl e) k x y a =
          let as_before : (p : ℕ) → p ≤ 32 → need next p ≡ need rs p
          = λ p h. need-same r rs f on.good p h (stands-long r rs f on.good e p) in (
            omega (arith, insert-replaces r rs on.good e, on.roomy),
            omega (arith, as_before m.geometry.p1 low, on.enough2),
            omega (arith, as_before m.geometry.p2 deep, on.enough3),
          )
      go (inr e) (inr k) x y a = absurd (false≢true (rw (e, le-leb m.room (length rs) k) at a))
      go (inr e) (inl k) (inl x) y a = absurd (false≢true (rw (e, lt-leb m.room (length rs) k, lt-ltb _ _ x) at a))
      go (inr e) (inl k) (inr x) (inl y) a = absurd (false≢true (rw (e, lt-leb m.room (length rs) k, le-ltb _ _ x, lt-ltb _ _ y) at a))
      go (inr e) (inl k) (inr x) (inr y) a = (omega (arith, insert-adds r rs e, k), x, y)

  pub announce-offer : accepts (or_say (route_fault r) (or_say (announce_fault true m rs r) (accepted vs))) ≡ true
      → Fine r × (length next ≤ m.room) × (need next m.geometry.p1 ≤ m.most2) × (need next m.geometry.p2 ≤ m.most3)
  unfolding announce_fault chunks_fault
  announce-offer a = go (route_fault r) (route-checked r) a
    where
      go : (n : ℕ) → RouteChecked r n → accepts (or_say n (or_say fault (accepted vs))) ≡ true
          → Fine r × (length next ≤ m.room) × (need next m.geometry.p1 ≤ m.most2) × (need next m.geometry.p2 ≤ m.most3)
      go n (RouteChecked.fine e f) a = let o = fine-offer f (rw e at a) in (f, o.0, o.1, o.2)
      go (suc n) (RouteChecked.wrong h w) a = absurd (false≢true a)
      go zero (RouteChecked.wrong h w) a = absurd (omega arith)

-- a load that is accepted: the input's routes are within the terms
module _ (m : Terms) (input : List ℕ) where
  abbrev rs : List Route
  rs = input_routes input

  abbrev rest : Said
  rest = or_say (load_fault m rs) (accepted [])

  abbrev load_cond : ℕ
  load_cond = cond (ltb m.room (length rs)) 6 (cond (ltb m.most2 (need rs m.geometry.p1)) 7 (cond (ltb m.most3 (need rs m.geometry.p2)) 8 0))

  rest-offer : Good rs → accepts (or_say (load_fault m rs) (accepted [])) ≡ true → OnTerms m rs
  unfolding load_fault chunks_fault
  rest-offer g a = go (below? m.room (length rs)) (below? m.most2 (need rs m.geometry.p1)) (below? m.most3 (need rs m.geometry.p2)) a
    where
      go : Beside m.room (length rs) → Beside m.most2 (need rs m.geometry.p1) → Beside m.most3 (need rs m.geometry.p2)
          → accepts (or_say load_cond (accepted [])) ≡ true → OnTerms m rs
      go (inl k) x y a = absurd (false≢true (rw (lt-ltb _ _ k) at a))
      go (inr k) (inl x) y a = absurd (false≢true (rw (le-ltb _ _ k, lt-ltb _ _ x) at a))
      go (inr k) (inr x) (inl y) a = absurd (false≢true (rw (le-ltb _ _ k, le-ltb _ _ x, lt-ltb _ _ y) at a))
      go (inr k) (inr x) (inr y) a = record { good = g; roomy = k; enough2 = x; enough3 = y }

  pub load-offer : accepts (and_then (input_said input) rest) ≡ true → OnTerms m rs
  load-offer = by-input input (λ s. accepts (and_then s rest) ≡ true → OnTerms m rs)
      (λ s b a. absurd (false≢true (sym b.not_accepted ∙ (rw (bad-stops s rest b.not_accepted) at a))))
      (λ n p a.
      let w = good-whole input n p in
      let q : n ≡ length input / 8 = omega (arith, w.0) in
      rest-offer (records-good input (length input / 8) (rw q at w.1)) a)
