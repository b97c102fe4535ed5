-- What was found, read in the word of a walk. A walk is refused with 5 alone, so a word that is a refusal's says that the walk broke off.
use Rattle.std.specs.Prelude.{◌≡◌, ℕ, ◌%◌, Bool, true, false, cond, [], ◌∷◌, Option, Some, None, Result, Ok, Err, refl, leb, eqb}
use Rattle.std.specs.Option.{ok_or}
use Rattle.std.proofs.Common.{sym, ap, ◌∙◌}
use borrow.Author.Tests.{ne_eqb, eq-eqb}
use Rattle.refusals.specs.declared.Refusal.{Refusal}
use Rattle.refusals.specs.declared.Refusal.TheVariants.{Unsound}
use Rattle.routes.specs.Said.{Said, accepted, refused, said_plainly}
use Rattle.routes.specs.Answers.{found_values, means_found}
use Rattle.routes.specs.declared.found.Found.{Found}
use Rattle.standing.specs.Served.{hop_said}
use Rattle.sail.specs.Lent.{Lent}
use Rattle.sail.specs.Level.{View}
use Rattle.sail.specs.Walk.{leaf_said, step_said, walk_said, found_said, lookup_said}
use Rattle.sail.specs.Sizes.{SizesTold, sizes_fault}
use Rattle.sail.specs.Word.{Word, FoundIn, said_of}
use Rattle.sail.specs.declared.geometry.Geometry.{Geometry}
use Rattle.sail.specs.declared.table.Table.{Table}

-- where it is refused, it is refused with 5
abbrev pub Fives : Said → Type 0
Fives s = (n : ℕ) → s ≡ refused n → n ≡ 5

five : Fives (refused 5)
five n e = cc

either : (b : Bool) (s t : Said) → Fives s → Fives t → Fives (cond b s t)
either true s t p q = p
either false s t p q = q

hop-fives : (n h : ℕ) → Fives (hop_said n h)
unfolding hop_said
hop-fives n h = either (eqb h 0) (accepted (n ∷ [])) (accepted (n ∷ h ∷ [])) (λ k e. cc) (λ k e. cc)

step-fives : (n : ℕ) (opens : ℕ → Bool) (v : ℕ) (on : Said) → Fives on → Fives (step_said n opens v on)
unfolding step_said
step-fives n opens v on p = either (leb 32768 v) (leaf_said n v) _ (hop-fives n _) (either (opens v) on (refused 5) p five)

pub walk-fives : (g : Geometry) (o2 o3 : ℕ → Bool) (t : View) (a : ℕ) → Fives (walk_said g o2 o3 t a)
unfolding walk_said
walk-fives g o2 o3 t a = step-fives 1 _ _ _ (step-fives 2 _ _ _ (step-fives 3 _ _ _ five))

-- so it is with a lookup where the sizes are right
module _ (t : Table) (l : Lent) (a r : ℕ) (told : SizesTold r t.geometry l) where
  pub lookup-fives : r ≡ 0 → Fives (lookup_said t l a)
  unfolding lookup_said found_said
  lookup-fives e = rw (eq-eqb (sizes_fault t.geometry l) 0 (sym told.number ∙ e)) (walk-fives t.geometry _ _ _ a)

-- the word of what is refused with 5 alone, as an answer
module _ (w : ℕ) (s : Said) (fives : Fives s) (word : Word w s) where
  pub found-some : (f : Found) → FoundIn w (Some f) → means_found (Ok f) ≡ s
  unfolding said_plainly
  found-some f e = e ∙ word.back

  pub found-none : FoundIn w None → means_found (Err Unsound) ≡ s
  unfolding said_plainly said_of
  found-none n =
      let told : said_of w ≡ refused (w % 256) = rw (ne_eqb (w % 256) 0 n) in
      let is : s ≡ refused (w % 256) = sym word.back ∙ told in
      sym (is ∙ ap refused (fives (w % 256) is))

  pub found-answer : (o : Option Found) → FoundIn w o → means_found (ok_or o Unsound) ≡ s
  found-answer None n = found-none n
  found-answer (Some f) e = found-some f e
