-- What `run_check` says: what stands beside the case that holds (`RunChecked`), and nothing else. The input's check comes first, then the prefix.
use mathlib.Core.Path.{◌≡◌, sym, ◌∙◌}
use mathlib.Core.Logic.{◌⊎◌, inl, inr}
use mathlib.Core.Bool.{true, false, true≢false}
use mathlib.Core.List.{List}
use Prim.Native.Nat.{ℕ}
use Rattle.bits.proofs.Bools.{decided}
use Rattle.routes.specs.Input.{proper_prefix}
use Rattle.routes.specs.Cases.{Passes}
use Rattle.routes.specs.Said.{Said}
use Rattle.routes.proofs.Meaning.{prefix-true, true-prefix}
use Rattle.routes.proofs.Judged.{check-only, by-input}
use Rattle.runs.specs.Cases.{RunChecked}
use Rattle.runs.specs.Run.{run_said}
use Rattle.runs.proofs.Runs.{run-input-first, run-prefix-next, run-found}

module _ (s : List ℕ) (a len : ℕ) where
  pub run_only : (x : Said) → RunChecked s a len x → run_said s a len ≡ x
  run_only _ (RunChecked.bad_input x b) = let e = check-only s x b.checked in run-input-first s a len (rw e b.not_accepted) ∙ e
  run_only x (RunChecked.bad_prefix n g h) = run-prefix-next s a len n (check-only s _ g) h
  run_only x (RunChecked.found n g p) = run-found s a len n (check-only s _ g) p

  pub run-judged : RunChecked s a len (run_said s a len)
  run-judged =
      by-input s (λ x. RunChecked s a len (run_said s a len)) (λ x b. told (RunChecked.bad_input x b)) (λ n g. at n g (decided (proper_prefix a len)))
    where
      told : {x : Said} → RunChecked s a len x → RunChecked s a len (run_said s a len)
      told c = rw (run_only _ c) c

      at : (n : ℕ) → Passes s n → (proper_prefix a len ≡ true) ⊎ (proper_prefix a len ≡ false) → RunChecked s a len (run_said s a len)
      at n g (inl p) = told (RunChecked.found n g (prefix-true a len p))
      at n g (inr p) = told (RunChecked.bad_prefix n g (λ h. true≢false (sym (true-prefix a len h) ∙ p)))
