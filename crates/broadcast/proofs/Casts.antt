-- What `is_broadcast` and `cast_said` mean. In a good list the longest route that covers an address is one, and its highest address is one; so each
-- part of the test is a fact on that route. The two versions share all parts but the length, and there they part at 31.
use mathlib.Core.Path.{◌≡◌, refl, sym, ap, ◌∙◌, subst}
use mathlib.Core.Logic.{◌⊎◌, inl, inr, ◌↔◌, ◌≢◌}
use mathlib.Core.Bool.{Bool, true, false, ◌&&◌, cond, true≢false}
use mathlib.Core.List.{List, [], ◌∷◌}
use Prim.Native.Nat.{ℕ, ◌/◌, ◌≤◌, ◌<◌}
use native.Mathlib.Omega.{arith}
use lib.Dec.{eqb, leb}
use lib.ListN.{length}
use borrow.Author.Tests.{eqb-true, eq-eqb, ne_eqb, leb-true, le-leb}
use Rattle.bits.specs.Count.{bit}
use Rattle.bits.proofs.Bools.{decided, below?, and_split, both, or_split, untrue}
use Rattle.longest.specs.Best.{best_route, LongestRoute, BestRoute}
use Rattle.longest.proofs.Bests.{best-route-is, best-route-only}
use Rattle.routes.specs.Input.{input_said}
use Rattle.routes.specs.Record.{GoodInput, routes_in}
use Rattle.routes.specs.Route.{Good}
use Rattle.routes.specs.Said.{Said, accepted, accepts}
use Rattle.routes.specs.declared.Route.{Route}
use Rattle.routes.proofs.Goods.{good-fine}
use Rattle.routes.proofs.Judged.{bad-stops}
use Rattle.routes.proofs.Meaning.{input-checked, good-input}
use Rattle.routes.specs.Cases.{Checked}
use Rattle.routes.proofs.Rows.{records-good}
use Rattle.standing.specs.Standing.{Held, stood}
use Rattle.broadcast.specs.Cast.{version_fine, last_len, highest, cast_of, is_broadcast, cast_said}
use Rattle.broadcast.specs.Meaning.{Rule, Highest, LastOf, Broadcast, UpperOfTwo}
use Rattle.broadcast.proofs.Highs.{highest-last, highest-one}

-- the versions
version-is : (v : ℕ) → version_fine v ≡ true → (v ≡ 1) ⊎ (v ≡ 2)
unfolding version_fine
version-is v e = go (or_split (eqb v 1) (eqb v 2) e)
  where
    go : (eqb v 1 ≡ true) ⊎ (eqb v 2 ≡ true) → (v ≡ 1) ⊎ (v ≡ 2)
    go (inl q) = inl (eqb-true v 1 q)
    go (inr q) = inr (eqb-true v 2 q)

pub is-version : (v : ℕ) → (v ≡ 1) ⊎ (v ≡ 2) → version_fine v ≡ true
unfolding version_fine
is-version v (inl e) = rw e
is-version v (inr e) = rw e

pub not-version : (v : ℕ) → (v ≡ 1 → ⊥) → (v ≡ 2 → ⊥) → version_fine v ≡ false
unfolding version_fine
not-version v x y = rw (ne_eqb v 1 x, ne_eqb v 2 y)

fine-1 : version_fine 1 ≡ true
fine-1 = is-version 1 (inl refl)

fine-2 : version_fine 2 ≡ true
fine-2 = is-version 2 (inr refl)

-- and the lengths that they have a broadcast for
rule-len : (v l : ℕ) → Rule v l → l ≤ last_len v
unfolding last_len
rule-len _ l (Rule.older _ h) = h
rule-len _ l (Rule.newer _ h) = h

len-rule : (v l : ℕ) → version_fine v ≡ true → l ≤ last_len v → Rule v l
unfolding last_len
len-rule v l e h = go (version-is v e)
  where
    go : (v ≡ 1) ⊎ (v ≡ 2) → Rule v l
    go (inl q) = rw q (Rule.older l (rw q at h))
    go (inr q) = rw q (Rule.newer l (rw q at h))

pub rule-version : (v l : ℕ) → Rule v l → (v ≡ 1) ⊎ (v ≡ 2)
rule-version _ l (Rule.older _ h) = inl refl
rule-version _ l (Rule.newer _ h) = inr refl

last-most : (v : ℕ) → last_len v ≤ 31
unfolding last_len
last-most v = go (eqb v 1)
  where
    go : (b : Bool) → cond b 31 30 ≤ 31
    go true = omega arith
    go false = omega arith

module _ (rs : List Route) (good : Good rs) (a : ℕ) where
  -- the longest route that covers the address, tested
  its-cast : (v : ℕ) (r : Route) → LongestRoute rs a r → is_broadcast v rs a ≡ cast_of v a (stood r)
  unfolding is_broadcast
  its-cast v r w = ap (cast_of v a) (best-route-only rs good a r w)

  -- the test passes, where the address ends the route and the length is small enough
  ends-cast : (v : ℕ) (r : Route) → LastOf rs a r → r.len ≤ last_len v → is_broadcast v rs a ≡ true
  unfolding cast_of
  ends-cast v r e l =
      let p = (good-fine rs good r e.longest.listed).prefix in
      its-cast v r e.longest
      ∙ both (eq-eqb r.mark 1 e.attached) (both (le-leb r.len (last_len v) l) (eq-eqb _ _ (highest-one r a p e.highest)))

  -- and nowhere else
  cast_ends : (v : ℕ) → is_broadcast v rs a ≡ true → (r : Route) × LastOf rs a r × (r.len ≤ last_len v)
  unfolding is_broadcast cast_of
  cast_ends v e = go (best_route rs a) (best-route-is rs a) e
    where
      go : (h : Held) → BestRoute rs a h → cast_of v a h ≡ true → (r : Route) × LastOf rs a r × (r.len ≤ last_len v)
      go _ (BestRoute.none k) e = absurd (true≢false (sym e))
      go _ (BestRoute.one r w) e =
          let x = and_split (eqb r.mark 1) (leb r.len (last_len v) && eqb (highest r) a) e in
          let y = and_split (leb r.len (last_len v)) (eqb (highest r) a) x.1 in
          let top : Highest r a = subst (Highest r) (eqb-true (highest r) a y.1) (highest-last r (good-fine rs good r w.listed).prefix) in
          (r, record { longest = w; attached = eqb-true r.mark 1 x.0; highest = top }, leb-true r.len (last_len v) y.0)

  -- a broadcast in the request's words
  pub broadcast-is : (v : ℕ) → version_fine v ≡ true → (is_broadcast v rs a ≡ true) ↔ Broadcast v rs a
  broadcast-is v f = (
    λ e. let w = cast_ends v e in record { route = w.0; ends = w.1; within = len-rule v w.0.len f w.2 },
    λ b. ends-cast v b.route b.ends (rule-len v b.route.len b.within),
  )

  -- a route that is longer than the rule has it has no broadcast
  too_long : (v : ℕ) (r : Route) → LongestRoute rs a r → last_len v < r.len → is_broadcast v rs a ≡ false
  too_long v r w l = untrue (is_broadcast v rs a) (λ e.
      let t = cast_ends v e in
      omega (arith, t.2, t.1.longest.longest r w.listed w.covering))

  -- so an address that has a route of its own is none
  pub never-32 : (v : ℕ) (r : Route) → LongestRoute rs a r → r.len ≡ 32 → is_broadcast v rs a ≡ false
  never-32 v r w e = too_long v r w (omega (arith, last-most v))

  -- the upper of two addresses: a broadcast of the older rule, and none of the newer
  upper-tests : UpperOfTwo rs a → (is_broadcast 1 rs a ≡ true) × (is_broadcast 2 rs a ≡ false)
  unfolding last_len
  upper-tests u = (
    ends-cast 1 u.route u.ends (omega (arith, u.two)),
    too_long 2 u.route u.ends.longest (omega (arith, u.two)),
  )

  -- where the tests of the two rules differ
  tests-differ : is_broadcast 1 rs a ≢ is_broadcast 2 rs a → UpperOfTwo rs a
  unfolding last_len
  tests-differ d = go (decided (is_broadcast 1 rs a)) (decided (is_broadcast 2 rs a))
    where
      go : (is_broadcast 1 rs a ≡ true) ⊎ (is_broadcast 1 rs a ≡ false) → (is_broadcast 2 rs a ≡ true) ⊎ (is_broadcast 2 rs a ≡ false)
          → UpperOfTwo rs a
      go (inl x) (inl y) = absurd (d (x ∙ sym y))
      go (inr x) (inr y) = absurd (d (x ∙ sym y))
      go (inr x) (inl y) = let w = cast_ends 2 y in absurd (true≢false (sym (ends-cast 1 w.0 w.1 (omega (arith, w.2))) ∙ x))
      go (inl x) (inr y) = let w = cast_ends 1 x in at w.0 w.1 w.2 (below? 30 w.0.len)
        where
          at : (r : Route) → LastOf rs a r → r.len ≤ 31 → (30 < r.len) ⊎ (r.len ≤ 30) → UpperOfTwo rs a
          at r e l (inl m) = record { route = r; ends = e; two = omega arith }
          at r e l (inr m) = absurd (true≢false (sym (ends-cast 2 r e m) ∙ y))

-- what is said, in order
module _ (s : List ℕ) (n : ℕ) (g : GoodInput s n) where
  pub good_routes : Good (routes_in s)
  good_routes = let e : length s / 8 ≡ n = omega (arith, g.whole) in rw e (records-good s n g.records)

  pub cast-told : (v a : ℕ) (b : Bool) → version_fine v ≡ true → is_broadcast v (routes_in s) a ≡ b → cast_said v s a ≡ accepted (bit b ∷ [])
  unfolding cast_said
  cast-told v a b f e = rw (f, good-input s n g.whole g.records, e)

pub cast-input : (v : ℕ) (s : List ℕ) (a : ℕ) → version_fine v ≡ true → accepts (input_said s) ≡ false → cast_said v s a ≡ input_said s
unfolding cast_said
cast-input v s a f h = rw f (bad-stops (input_said s) _ h)

pub good-or-refused : (s : List ℕ) → ((n : ℕ) × GoodInput s n) ⊎ (accepts (input_said s) ≡ false)
good-or-refused s = go (input_said s) (input-checked s)
  where
    go : (x : Said) → Checked s x → ((n : ℕ) × GoodInput s n) ⊎ (accepts x ≡ false)
    go _ (Checked.ragged w) = inr refl
    go _ (Checked.stopped k f z l b w p) = inr refl
    go _ (Checked.many z b m) = inr refl
    go _ (Checked.good n w r) = inl (n, record { records = r; whole = w })

-- at the upper of two addresses the older rule says that it is one, the newer that it is none
pub upper-told : (s : List ℕ) (n a : ℕ) → GoodInput s n → UpperOfTwo (routes_in s) a
    → (cast_said 1 s a ≡ accepted (1 ∷ [])) × (cast_said 2 s a ≡ accepted (0 ∷ []))
upper-told s n a g u =
    let w = upper-tests (routes_in s) (good_routes s n g) a u in
    (cast-told s n g 1 a true fine-1 w.0, cast-told s n g 2 a false fine-2 w.1)

-- "The rules differ only at length 31: show it." What is refused is refused alike under both; else the two tests share all but the length.
pub rules-differ : (s : List ℕ) (a : ℕ) → (cast_said 1 s a ≢ cast_said 2 s a) ↔ ((n : ℕ) × GoodInput s n × UpperOfTwo (routes_in s) a)
rules-differ s a = (λ d. only d (good-or-refused s), λ w. differ w.0 w.1 w.2)
  where
    only : cast_said 1 s a ≢ cast_said 2 s a → ((n : ℕ) × GoodInput s n) ⊎ (accepts (input_said s) ≡ false)
        → (n : ℕ) × GoodInput s n × UpperOfTwo (routes_in s) a
    only d (inr h) = absurd (d (cast-input 1 s a fine-1 h ∙ sym (cast-input 2 s a fine-2 h)))
    only d (inl g) =
        let told = cast-told s g.0 g.1 in
        (g.0, g.1, tests-differ (routes_in s) (good_routes s g.0 g.1) a (λ e. d (told 1 a _ fine-1 e ∙ sym (told 2 a _ fine-2 refl))))

    differ : (n : ℕ) → GoodInput s n → UpperOfTwo (routes_in s) a → cast_said 1 s a ≢ cast_said 2 s a
    differ n g u e =
        let w = upper-told s n a g u in
        let p : accepted (1 ∷ []) ≡ accepted (0 ∷ []) = sym w.0 ∙ e ∙ w.1 in
        let z : ◌≡◌ {A = ℕ} 0 1 = cc in
        omega arith
