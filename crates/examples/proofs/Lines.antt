-- A table holds where what is asked can be worked out in another way, and what is so worked out is what the table expects.
use mathlib.Core.Path.{◌≡◌, refl, ◌∙◌, ap₂}
use mathlib.Core.Bool.{Bool, true, ◌&&◌}
use mathlib.Core.List.{List, [], ◌∷◌, map}
use Rattle.bits.proofs.Bools.{and_split}
use Rattle.routes.specs.Said.{Said}
use Rattle.examples.specs.Lines.{Line, Hold}

module _ {A : Type 0} (answer paper : A → Said) (serves : A → Bool) (agrees : (q : A) → serves q ≡ true → answer q ≡ paper q) where
  -- it serves every line
  unfoldable pub all_serve : List (Line A) → Bool
  all_serve [] = true
  all_serve (x ∷ xs) = serves x.asked && all_serve xs

  all-agree : (xs : List (Line A)) → all_serve xs ≡ true → map (λ (x : Line A). answer x.asked) xs ≡ map (λ (x : Line A). paper x.asked) xs
  unfolding all_serve
  all-agree [] e = refl
  all-agree (x ∷ xs) e = let s = and_split (serves x.asked) (all_serve xs) e in ap₂ ◌∷◌ (agrees x.asked s.0) (all-agree xs s.1)

  pub lines-hold : (xs : List (Line A)) → all_serve xs ≡ true → Hold paper xs → Hold answer xs
  unfolding Hold
  lines-hold xs e h = all-agree xs e ∙ h
