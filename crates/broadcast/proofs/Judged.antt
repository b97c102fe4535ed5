-- What the test of a broadcast says: what stands beside the case that holds (`Casting`, specs/Meaning.antt), and nothing else. The version comes
-- first, then the input's check; then the test is what the request's words mean (`broadcast-is`).
use mathlib.Core.Path.{◌≡◌, sym, ◌∙◌}
use mathlib.Core.Logic.{◌⊎◌, inl, inr, ◌↔◌, ◌≢◌}
use mathlib.Core.Bool.{true, false, true≢false}
use mathlib.Core.List.{List}
use Prim.Native.Nat.{ℕ}
use Rattle.bits.proofs.Bools.{decided, equal?, untrue}
use Rattle.routes.specs.Input.{input_said}
use Rattle.routes.specs.Record.{GoodInput, routes_in}
use Rattle.routes.specs.Said.{Said, accepts}
use Rattle.broadcast.specs.Cast.{is_broadcast, cast_said}
use Rattle.broadcast.specs.Meaning.{Broadcast, Casting}
use Rattle.broadcast.proofs.Casts.{is-version, not-version, rule-version, broadcast-is, good_routes, cast-told, cast-input, good-or-refused}

module _ (v : ℕ) (s : List ℕ) (a : ℕ) where
  pub cast-only : (x : Said) → Casting v s a x → cast_said v s a ≡ x
  unfolding cast_said
  cast-only _ (Casting.bad_version x y) = rw (not-version v x y)
  cast-only _ (Casting.bad_input w h) = cast-input v s a (is-version v w) h
  cast-only _ (Casting.is_one n g b) =
      let f = is-version v (rule-version v b.route.len b.within) in
      cast-told s n g v a true f ((broadcast-is (routes_in s) (good_routes s n g) a v f).1 b)
  cast-only _ (Casting.is_none w n g h) =
      let f = is-version v w in
      cast-told s n g v a false f (untrue _ (λ e. h ((broadcast-is (routes_in s) (good_routes s n g) a v f).0 e)))

  pub cast-judged : Casting v s a (cast_said v s a)
  cast-judged = go (equal? v 1) (equal? v 2)
    where
      told : {x : Said} → Casting v s a x → Casting v s a (cast_said v s a)
      told c = rw (cast-only _ c) c

      judged : (v ≡ 1) ⊎ (v ≡ 2) → ((n : ℕ) × GoodInput s n) ⊎ (accepts (input_said s) ≡ false) → Casting v s a (cast_said v s a)
      judged w (inr h) = told (Casting.bad_input w h)
      judged w (inl g) = at (decided (is_broadcast v (routes_in s) a))
        where
          is : (is_broadcast v (routes_in s) a ≡ true) ↔ Broadcast v (routes_in s) a
          is = broadcast-is (routes_in s) (good_routes s g.0 g.1) a v (is-version v w)

          at : (is_broadcast v (routes_in s) a ≡ true) ⊎ (is_broadcast v (routes_in s) a ≡ false) → Casting v s a (cast_said v s a)
          at (inl e) = told (Casting.is_one g.0 g.1 (is.0 e))
          at (inr e) = told (Casting.is_none w g.0 g.1 (λ b. true≢false (sym (is.1 b) ∙ e)))

      go : (v ≡ 1) ⊎ (v ≢ 1) → (v ≡ 2) ⊎ (v ≢ 2) → Casting v s a (cast_said v s a)
      go (inl e) y = judged (inl e) (good-or-refused s)
      go (inr x) (inl e) = judged (inr e) (good-or-refused s)
      go (inr x) (inr y) = told (Casting.bad_version x y)
