-- The judgement and the report as the code makes them.
use mathlib.Core.Path.{◌≡◌, refl, sym, ap, ap₂, ◌∙◌}
use mathlib.Core.Bool.{Bool, true, false, not, cond}
use mathlib.Core.List.{List, [], ◌∷◌}
use Prim.Native.Nat.{ℕ, zero, suc, ◌+◌, ◌≤◌}
use native.Mathlib.Numerals.{add-one}
use native.Mathlib.Omega.{arith}
use lib.Dec.{eqb}
use lib.ListN.{length, get_or}
use borrow.Author.Tests.{ne_eqb, lt-ltb, le-ltb}
use Rattle.bits.specs.Count.{count}
use Rattle.standing.specs.Cells.{need}
use Rattle.routes.specs.Said.{Said, accepted, refused}
use Rattle.sail.specs.Lent.{Lent}
use Rattle.sail.specs.Level.{in_use, entry}
use Rattle.sail.specs.Sizes.{sizes_fault, SizesTold}
use Rattle.sail.specs.Sound.{standing, used}
use Rattle.sail.specs.declared.table.Table.{Table}
use Rattle.sail.proofs.Sounds.{chunks-need}
use Rattle.sail_theory.specs.SoundTest.{sound?}
use Rattle.sail_theory.specs.Calls.{or_say, reported}
use Rattle.std.specs.Prelude.{Result}
use Rattle.refusals.specs.declared.Refusal.{Refusal}
use Rattle.routes.proofs.Saids.{plainly-injective}
use Rattle.sail_sound.specs.declared.report.Standing.{Standing}
use Rattle.sail_sound.specs.TableTest.{Tried}
use Rattle.sail_sound.specs.Report.{table_fault, ReportJudged, needs_told, means_reported}

-- two reports that are told the same are the same
read_needs : List ℕ → Standing
read_needs vs = record { routes = get_or vs 0 0; second = get_or vs 1 0; third = get_or vs 2 0 }

read-needs : (s : Standing) → read_needs (needs_told s) ≡ s
unfolding read_needs
read-needs s = refl

pub reported-injective : (x y : Result Standing Refusal) → means_reported x ≡ means_reported y → x ≡ y
reported-injective = plainly-injective needs_told read_needs read-needs

-- the answers of `judged`
module _ (t : Table) (l : Lent) (r : ℕ) (told : SizesTold r t.geometry l) where
  pub judged-sizes : (r ≡ 0 → ⊥) → ReportJudged r t l
  unfolding table_fault
  judged-sizes n = record { number = rw (← told.number, ne_eqb r 0 n); facts = λ z. absurd (n z) }

  module _ (z : r ≡ 0) (b : Bool) (is : Tried b t l) where
    none : sizes_fault t.geometry l ≡ 0
    none = sym told.number ∙ z

    pub judged-sound : b ≡ true → ReportJudged 0 t l
    unfolding table_fault
    judged-sound e = record { number = rw (none, ← is.is, e); facts = λ _. is.tells.0 e }

    pub judged-not : b ≡ false → ReportJudged 5 t l
    unfolding table_fault
    judged-not e = record { number = rw (none, ← is.is, e); facts = λ y. absurd (omega arith) }

-- the report by that number
module _ (t : Table) (l : Lent) where
  abbrev told : Said
  told = accepted (t.count ∷ need (standing t l) t.geometry.p1 ∷ need (standing t l) t.geometry.p2 ∷ [])

  pub reported-is : reported t l ≡ or_say (table_fault t l) told
  unfolding reported table_fault
  reported-is = go (sizes_fault t.geometry l) (sound? t l)
    where
      go : (n : ℕ) (b : Bool) → or_say n (cond (not b) (refused 5) told) ≡ or_say (cond (eqb n 0) (cond b 0 5) n) told
      go zero true = refl
      go zero false = refl
      go (suc n) b = rw (ne_eqb (suc n) 0 (λ z. omega arith))

  pub report-not : (r : ℕ) → ReportJudged r t l → (r ≡ 0 → ⊥) → refused r ≡ reported t l
  report-not r j n = go r n ∙ ap (λ (k : ℕ). or_say k told) j.number ∙ sym reported-is
    where
      go : (k : ℕ) → (k ≡ 0 → ⊥) → refused k ≡ or_say k told
      go zero h = absurd (h refl)
      go (suc k) h = refl

  pub report-on : (r a b : ℕ) → ReportJudged r t l → r ≡ 0 → a ≡ used l.own2 → b ≡ used l.own3 → accepted (t.count ∷ a ∷ b ∷ []) ≡ reported t l
  report-on r a b j z p q =
      let c = chunks-need t l (j.facts z) in
      let u : a ≡ need (standing t l) t.geometry.p1 = p ∙ c.0 in
      let v : b ≡ need (standing t l) t.geometry.p2 = q ∙ c.1 in
      ap₂ (λ (x y : ℕ). accepted (t.count ∷ x ∷ y ∷ [])) u v ∙ ap (λ (k : ℕ). or_say k told) (sym z ∙ j.number) ∙ sym reported-is

-- chunks in use, one by one
module _ (own : List ℕ) where
  abbrev pub used_to : ℕ → ℕ
  used_to c = count (in_use (entry own)) c

  pub used-none : 0 ≡ used_to 0
  unfolding count
  used-none = refl

  module _ (c n : ℕ) (was : n ≡ used_to c) where
    pub used-one : (get_or own c 0 ≡ 0 → ⊥) → n + 1 ≡ used_to (c + 1)
    unfolding count
    used-one h = rw (add-one c, lt-ltb 0 (get_or own c 0) (omega (arith, h))) (omega arith)

    pub used-free : get_or own c 0 ≡ 0 → n ≡ used_to (c + 1)
    unfolding count
    used-free h = rw (add-one c, le-ltb 0 (get_or own c 0) (omega arith)) (omega arith)

    pub used_all : length own ≤ c → c ≤ length own → n ≡ used own
    used_all l u = let e : c ≡ length own = omega arith in was ∙ ap used_to e
