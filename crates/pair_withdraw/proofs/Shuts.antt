-- The owners once a party closed chunks: where the party sees what is kept of what it saw, they are those that the definition of the call leaves.
use mathlib.Core.Path.{◌≡◌, refl, sym, ◌∙◌, ap}
use mathlib.Core.Logic.{◌⊎◌, inl, inr}
use mathlib.Core.Bool.{true, false, cond}
use mathlib.Core.List.{List, [], ◌∷◌}
use Prim.Native.Nat.{ℕ, zero, suc, ◌-◌, ◌<◌}
use native.Mathlib.Nat.{not-suc-le-zero, le_of_suc-le-suc}
use lib.Dec.{eqb}
use lib.ListN.{get_or, length}
use borrow.Author.Tests.{eq-eqb, ne_eqb}
use Rattle.bits.proofs.Bools.{decided}
use Rattle.bits.proofs.Tabs.{is-tabulate}
use Rattle.routes.specs.declared.Route.{Route}
use Rattle.sail.specs.Level.{Level, deep}
use Rattle.sail_theory.specs.Calls.{keep}
use Rattle.pair.specs.Party.{Party, seen, view}
use Rattle.pair.specs.PairCalls.{keep_for}
use Rattle.pair.proofs.Views.{seen_none, get_d-view}
use Rattle.pair.proofs.PairOwners.{keep-view, keep-length}
use Rattle.pair_withdraw.specs.Closed.{owner_left, shut_for}

-- one owner
module _ (w : Party) (s o x : ℕ) (e : x ≡ seen w o) where
  pub stays-seen : x ≡ s → o ≡ owner_left w s o
  stays-seen h = rw (eq-eqb (seen w o) s (sym e ∙ h))

  pub shut-unseen : (x ≡ s → ⊥) → 0 ≡ owner_left w s o
  shut-unseen h = rw (ne_eqb (seen w o) s (λ z. h (e ∙ z)))

-- written one after the other
pub shut-done : (w : Party) (see own now : List ℕ) → length now ≡ length own
    → ((c : ℕ) → c < length own → get_or now c 0 ≡ owner_left w (get_or see c 0) (get_or own c 0)) → now ≡ shut_for w see own
unfolding shut_for
shut-done w see own now n h = is-tabulate 0 now (length own) _ n h

module _ (w : Party) (rs : List Route) (v : Level) where
  abbrev kept : ℕ → ℕ
  kept o = cond (eqb (seen w o) 0) o (cond (deep rs v (seen w o - 1)) o 0)

  kept_at : (own : List ℕ) (c : ℕ) → c < length own → get_or (keep_for w rs v own) c 0 ≡ kept (get_or own c 0)
  unfolding keep_for
  kept_at [] c l = absurd (not-suc-le-zero l)
  kept_at (o ∷ own) zero l = refl
  kept_at (o ∷ own) (suc c) l = kept_at own c (le_of_suc-le-suc l)

  -- an owner that is kept is seen as it was; one that is not was seen, and is 0
  left-kept : (o : ℕ) → owner_left w (seen w (kept o)) o ≡ kept o
  left-kept o = go (decided (eqb (seen w o) 0)) (decided (deep rs v (seen w o - 1)))
    where
      go : (eqb (seen w o) 0 ≡ true) ⊎ (eqb (seen w o) 0 ≡ false) → (deep rs v (seen w o - 1) ≡ true) ⊎ (deep rs v (seen w o - 1) ≡ false)
          → cond (eqb (seen w o) (seen w (kept o))) o 0 ≡ kept o
      go (inl e) d = rw e (rw (eq-eqb (seen w o) (seen w o) refl))
      go (inr e) (inl d) = rw (e, d) (rw (eq-eqb (seen w o) (seen w o) refl))
      go (inr e) (inr d) = rw (e, d) (rw (seen_none w, e))

  pub shut-keep : (own : List ℕ) → shut_for w (keep rs v (view w own)) own ≡ keep_for w rs v own
  shut-keep own = sym (shut-done w (keep rs v (view w own)) own (keep_for w rs v own) (keep-length w rs v own) (λ c l.
      let is = kept_at own c l in
      let sees : get_or (keep rs v (view w own)) c 0 ≡ seen w (kept (get_or own c 0))
      = ap (λ (xs : List ℕ). get_or xs c 0) (sym (keep-view w rs v own)) ∙ get_d-view w (keep_for w rs v own) c ∙ ap (seen w) is in
      is ∙ sym (ap (λ (s : ℕ). owner_left w s (get_or own c 0)) sees ∙ left-kept (get_or own c 0))))
