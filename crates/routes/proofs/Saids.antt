-- What an answer says fixes the answer, where its values fix what is accepted. So the statement of a call, which gives what is said, leaves
-- one answer.
use Rattle.std.specs.Prelude.{◌≡◌, ℕ, List, false, refl, Option, Some, None, Result, Ok, Err}
use Rattle.std.proofs.Common.{sym, ap, ◌∙◌}
use native.Mathlib.Omega.{arith}
use Rattle.refusals.specs.Numbers.{number_of}
use Rattle.refusals.specs.declared.Refusal.{Refusal}
use Rattle.refusals.specs.declared.Refused.{Refused}
use Rattle.refusals.proofs.Numbers.{refusal_of, refusal-back}
use Rattle.routes.specs.Said.{Said, accepted, refused, refused_at, refused_by, told, said_by, said_plainly, and_then, accepts}

module _ {A : Type 0} (values : A → List ℕ) (back : List ℕ → A) (is_back : (v : A) → back (values v) ≡ v) where
  -- the answer, read back from what it says
  read_said : Said → Result A Refused
  read_said (accepted vs) = Ok (back vs)
  read_said (refused n) = Err (record { why = refusal_of n; at = None })
  read_said (refused_at n k) = Err (record { why = refusal_of n; at = Some k })

  read-refused : (w : Refusal) (o : Option ℕ) → read_said (refused_by (number_of w) o) ≡ Err (record { why = w; at = o })
  unfolding read_said
  read-refused w None = ap (λ (x : Refusal). Err (record { why = x; at = None })) (refusal-back w)
  read-refused w (Some k) = ap (λ (x : Refusal). Err (record { why = x; at = Some k })) (refusal-back w)

  read-said : (x : Result A Refused) → read_said (said_by values x) ≡ x
  unfolding read_said said_by
  read-said (Ok v) = ap (λ (x : A). Ok x) (is_back v)
  read-said (Err e) = read-refused e.why e.at

  pub said-injective : (x y : Result A Refused) → said_by values x ≡ said_by values y → x ≡ y
  said-injective x y e = sym (read-said x) ∙ ap read_said e ∙ read-said y

  read_plainly : Said → Result A Refusal
  read_plainly (accepted vs) = Ok (back vs)
  read_plainly (refused n) = Err (refusal_of n)
  read_plainly (refused_at n k) = Err (refusal_of n)

  read-plainly : (x : Result A Refusal) → read_plainly (said_plainly values x) ≡ x
  unfolding read_plainly said_plainly
  read-plainly (Ok v) = ap (λ (x : A). Ok x) (is_back v)
  read-plainly (Err e) = ap (λ (x : Refusal). Err x) (refusal-back e)

  pub plainly-injective : (x y : Result A Refusal) → said_plainly values x ≡ said_plainly values y → x ≡ y
  plainly-injective x y e = sym (read-plainly x) ∙ ap read_plainly e ∙ read-plainly y

-- what a caller knows of an answer by its arm
module _ {A : Type 0} (values : A → List ℕ) (x : Result A Refused) (said : Said) (e : said_by values x ≡ said) where
  pub said-ok : (v : A) → x ≡ Ok v → said ≡ accepted (values v)
  unfolding said_by
  said-ok v q = sym e ∙ ap (said_by values) q

  pub said-err : (r : Refused) → x ≡ Err r → said ≡ told r
  unfolding said_by
  said-err r q = sym e ∙ ap (said_by values) q

-- a refusal ends what is said: no later step is asked
pub and-then-told : (e : Refused) (next : Said) → and_then (told e) next ≡ told e
and-then-told e next = go (number_of e.why) e.at
  where
    go : (n : ℕ) (o : Option ℕ) → and_then (refused_by n o) next ≡ refused_by n o
    go n None = refl
    go n (Some k) = refl

-- and is not accepted
pub told-off : (e : Refused) → accepts (told e) ≡ false
told-off e = go (number_of e.why) e.at
  where
    go : (n : ℕ) (o : Option ℕ) → accepts (refused_by n o) ≡ false
    go n None = refl
    go n (Some k) = refl

-- What is told refused is refused, with that number, and so has no value: a refusal is never taken for one.
module _ {A : Type 0} (values : A → List ℕ) where
  pub plainly-refused : (x : Result A Refusal) (n : ℕ) → said_plainly values x ≡ refused n → (e : Refusal) × (x ≡ Err e) × (number_of e ≡ n)
  unfolding said_plainly
  plainly-refused (Ok v) n q = cc
  plainly-refused (Err e) n q = (e, refl, number_told (number_of e) n q)
    where
      number_told : (m k : ℕ) → refused m ≡ refused k → m ≡ k
      number_told m k q = cc

-- a refusal that is told by its number alone has that number, and no index
module _ {A : Type 0} (values : A → List ℕ) (n : ℕ) where
  pub said-number : (x : Result A Refused) → said_by values x ≡ refused n → (w : Refused) × (x ≡ Err w) × (number_of w.why ≡ n) × (w.at ≡ None)
  unfolding said_by
  said-number (Ok v) e = absurd (let z : ◌≡◌ {A = ℕ} 0 1 = cc in omega arith)
  said-number (Err w) e = let p = go (number_of w.why) w.at e in (w, refl, p.0, p.1)
    where
      go : (m : ℕ) (o : Option ℕ) → refused_by m o ≡ refused n → (m ≡ n) × (o ≡ None)
      go m None q = (cc, refl)
      go m (Some k) q = absurd (let z : ◌≡◌ {A = ℕ} 0 1 = cc in omega arith)
