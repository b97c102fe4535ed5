-- What the check of an input and `route_at` say: what stands beside the case that holds (specs/Cases.antt), and nothing else. The cases exclude
-- each other. An input is either bad, with what its check says, or good, with its number of records.
use mathlib.Core.Path.{◌≡◌, refl, sym, ◌∙◌, subst}
use mathlib.Core.Logic.{◌⊎◌, inl, inr, ◌↔◌}
use mathlib.Core.Bool.{false, true≢false}
use mathlib.Core.List.{List, [], ◌∷◌}
use Prim.Native.Nat.{ℕ, ◌*◌, ◌/◌, ◌≤◌, ◌<◌}
use native.Mathlib.Omega.{arith}
use lib.ListN.{length}
use borrow.Author.Tests.{lt-ltb, le-ltb}
use Rattle.bits.proofs.Bools.{below?}
use Rattle.routes.specs.Record.{Records}
use Rattle.routes.specs.Input.{input_said}
use Rattle.routes.specs.Answers.{route_said}
use Rattle.routes.specs.Cases.{WrongRoute, WrongRecord, RightRecord, Checked, BadInput, Passes, RouteRead}
use Rattle.routes.specs.Said.{Said, accepted, refused, refused_at, and_then, accepts}
use Rattle.routes.specs.declared.Route.{Route}
use Rattle.routes.proofs.Meaning.{wrong-fine, wrong-fault, records-right, input-checked, input-good}

-- what is wrong with a route is one thing
one-fault : {r : Route} {f g : ℕ} → WrongRoute r f → WrongRoute r g → f ≡ g
one-fault {r} {f} {g} v w = sym (wrong-fault r f v) ∙ wrong-fault r g w

-- and so with a record
right-wrong : {s : List ℕ} {k f : ℕ} → RightRecord s k → WrongRecord s k f → ⊥
right-wrong r (WrongRecord.itself w) = wrong-fine w r.fine
right-wrong r (WrongRecord.order g h l) = let a = r.after h in omega arith

one-wrong : {s : List ℕ} {k f g : ℕ} → WrongRecord s k f → WrongRecord s k g → f ≡ g
one-wrong (WrongRecord.itself v) (WrongRecord.itself w) = one-fault v w
one-wrong (WrongRecord.itself v) (WrongRecord.order g h l) = absurd (wrong-fine v g)
one-wrong (WrongRecord.order g h l) (WrongRecord.itself w) = absurd (wrong-fine w g)
one-wrong (WrongRecord.order g h l) (WrongRecord.order g' h' l') = refl

-- the first record at which something is wrong is one record, and one thing is wrong with it
one-stop : (s : List ℕ) (j k f g : ℕ) → ((i : ℕ) → i < j → RightRecord s i) → WrongRecord s j f → ((i : ℕ) → i < k → RightRecord s i)
    → WrongRecord s k g → refused_at f j ≡ refused_at g k
one-stop s j k f g a v b w = go (below? j k) (below? k j)
  where
    go : (j < k) ⊎ (k ≤ j) → (k < j) ⊎ (j ≤ k) → refused_at f j ≡ refused_at g k
    go (inl h) y = absurd (right-wrong (b j h) v)
    go (inr h) (inl y) = absurd (right-wrong (a k y) w)
    go (inr h) (inr y) =
        let e : j ≡ k = omega arith in
        let q : f ≡ g = one-wrong v (rw (← e) at w) in
        cc

stop-good : (s : List ℕ) (k n f : ℕ) → k < length s / 8 → WrongRecord s k f → length s ≡ n * 8 → Records s n → ⊥
stop-good s k n f l w e r = right-wrong (records-right s n r k (omega arith)) w

-- the conditions of the input's check exclude each other
one-check : {s : List ℕ} {x y : Said} → Checked s x → Checked s y → x ≡ y
one-check (Checked.ragged w) (Checked.ragged v) = refl
one-check (Checked.ragged w) (Checked.stopped k f z l b x p) = absurd (w z)
one-check (Checked.ragged w) (Checked.many z b m) = absurd (w z)
one-check (Checked.ragged w) (Checked.good n z r) = absurd (w (omega arith))
one-check (Checked.stopped k f z l b x p) (Checked.ragged w) = absurd (w z)
one-check {s} (Checked.stopped k f z l b x p) (Checked.stopped j g z' l' b' x' p') = one-stop s k j f g b x b' x'
one-check (Checked.stopped k f z l b x p) (Checked.many z' b' m) = absurd (right-wrong (b' k l) x)
one-check {s} (Checked.stopped k f z l b x p) (Checked.good n e r) = absurd (stop-good s k n f l x e r)
one-check (Checked.many z b m) (Checked.ragged w) = absurd (w z)
one-check (Checked.many z b m) (Checked.stopped k f z' l b' x p) = absurd (right-wrong (b k l) x)
one-check (Checked.many z b m) (Checked.many z' b' m') = refl
one-check (Checked.many z b m) (Checked.good n e r) = absurd (omega (arith, r.few))
one-check (Checked.good n z r) (Checked.ragged w) = absurd (w (omega arith))
one-check {s} (Checked.good n e r) (Checked.stopped k f z l b x p) = absurd (stop-good s k n f l x e r)
one-check (Checked.good n e r) (Checked.many z b m) = absurd (omega (arith, r.few))
one-check (Checked.good n e r) (Checked.good k d v) = let q : n ≡ k = omega arith in rw q

pub check-only : (s : List ℕ) (x : Said) → Checked s x → input_said s ≡ x
check-only s x c = one-check (input-checked s) c

-- an input that passes with n records has them
pub good-whole : (s : List ℕ) (n : ℕ) → Passes s n → (length s ≡ n * 8) × Records s n
good-whole s n g = input-good s n (check-only s _ g)

-- after a bad one nothing more is said
pub bad-stops : (x next : Said) → accepts x ≡ false → and_then x next ≡ x
bad-stops (accepted vs) next e = absurd (true≢false e)
bad-stops (refused n) next e = refl
bad-stops (refused_at n k) next e = refl

-- one of the two
pub by-input : (s : List ℕ) (P : Said → Type 0) → ((x : Said) → BadInput s x → P x) → ((n : ℕ) → Passes s n → P (accepted (n ∷ []))) → P (input_said s)
by-input s P bad ok = go (input-checked s)
  where
    go : {x : Said} → Checked s x → P x
    go (Checked.ragged w) = bad _ (record { checked = Checked.ragged w; not_accepted = refl })
    go (Checked.stopped k f z l b x p) = bad _ (record { checked = Checked.stopped k f z l b x p; not_accepted = refl })
    go (Checked.many z b m) = bad _ (record { checked = Checked.many z b m; not_accepted = refl })
    go (Checked.good n e r) = ok n (Checked.good n e r)

-- route_at: after the input's refusals, the record of that index, or none
module _ (s : List ℕ) (k : ℕ) where
  good-many : (n : ℕ) → Passes s n → length s / 8 ≡ n
  good-many n g = let w = (good-whole s n g).0 in omega arith

  pub route-only : (x : Said) → RouteRead s k x → route_said s k ≡ x
  unfolding route_said
  route-only _ (RouteRead.bad_input x b) = rw (check-only s x b.checked) (bad-stops x _ b.not_accepted)
  route-only x (RouteRead.there n g h) = rw (check-only s _ g, lt-ltb k (length s / 8) (rw (good-many n g) h))
  route-only x (RouteRead.past n g h) = rw (check-only s _ g, le-ltb k (length s / 8) (rw (good-many n g) h))

  pub route-judged : RouteRead s k (route_said s k)
  route-judged = by-input s (λ x. RouteRead s k (route_said s k)) (λ x b. told (RouteRead.bad_input x b)) (λ n g. at n g (below? k n))
    where
      told : {x : Said} → RouteRead s k x → RouteRead s k (route_said s k)
      told c = rw (route-only _ c) c

      at : (n : ℕ) → Passes s n → (k < n) ⊎ (n ≤ k) → RouteRead s k (route_said s k)
      at n g (inl h) = told (RouteRead.there n g h)
      at n g (inr h) = told (RouteRead.past n g h)

-- A call that says y says s exactly where the case beside s holds, for any list of cases P: one case holds, and from each follows what is said.
pub exactly : (P : Said → Type 0) (x y : Said) → x ≡ y → P y → ((s : Said) → P s → y ≡ s) → (s : Said) → (x ≡ s) ↔ P s
exactly P x y q h only s = ((λ e. subst P (sym q ∙ e) h), (λ c. q ∙ only s c))
