-- The way down through the lengths: which one decides, whatever each says; and where each says what the routes of its length say, the answer is
-- `best`.
use mathlib.Core.Path.{◌≡◌, refl, sym, ap, ap₂, ◌∙◌}
use mathlib.Core.Logic.{◌⊎◌, inl, inr}
use mathlib.Core.List.{List}
use Prim.Native.Nat.{ℕ, zero, suc, ◌-◌, ◌/◌, ◌≤◌, ◌<◌}
use native.Mathlib.Nat.{eq-or-lt_of_le, le_step, le_refl}
use native.Mathlib.Omega.{arith}
use Rattle.bits.specs.Slot.{slot}
use Rattle.bits.proofs.Slots.{slot-up}
use Rattle.routes.specs.declared.Route.{Route}
use Rattle.standing.specs.Cells.{here, first, or_else, best}
use Rattle.standing.specs.Down.{or_next, down}

pub or-next-none : (x d : ℕ) → x ≡ 0 → or_next x d ≡ d
or-next-none x d e = rw e

pub or-next-some : (x d : ℕ) → (x ≡ 0 → ⊥) → or_next x d ≡ x
or-next-some zero d e = absurd (e refl)
or-next-some (suc x) d e = refl

-- one length, whatever it says
module _ (f : ℕ → ℕ) where
  pub down-none : (l : ℕ) → f l ≡ 0 → down f (suc l) ≡ down f l
  unfolding down
  down-none l e = or-next-none (f l) (down f l) e

  pub down-some : (l : ℕ) → (f l ≡ 0 → ⊥) → down f (suc l) ≡ f l
  unfolding down
  down-some l e = or-next-some (f l) (down f l) e

  -- lengths that say nothing are passed over
  pub down-skip : (m n : ℕ) → m ≤ n → ((l : ℕ) → m ≤ l → l < n → f l ≡ 0) → down f n ≡ down f m
  down-skip m zero h none = ap (down f) (omega arith)
  down-skip m (suc n) h none = go (eq-or-lt_of_le h) (down-skip m n)
    where
      go : (m ≡ suc n) ⊎ (m < suc n) → (m ≤ n → ((l : ℕ) → m ≤ l → l < n → f l ≡ 0) → down f n ≡ down f m) → down f (suc n) ≡ down f m
      go (inl e) ih = ap (down f) (sym e)
      go (inr l) ih = down-none n (none n (omega arith) (le_refl (suc n))) ∙ ih (omega arith) (λ k a b. none k a (le_step b))

  -- the first that says something decides
  pub down-at : (m n : ℕ) → m < n → (f m ≡ 0 → ⊥) → ((l : ℕ) → m < l → l < n → f l ≡ 0) → down f n ≡ f m
  down-at m n h some none = down-skip (suc m) n h none ∙ down-some m some

-- what the lengths say is all that counts
pub down-same : (f g : ℕ → ℕ) (n : ℕ) → ((l : ℕ) → l < n → f l ≡ g l) → down f n ≡ down g n
unfolding down
down-same f g zero h = refl
down-same f g (suc n) h = ap₂ or_next (h n (le_refl (suc n))) (down-same f g n (λ l u. h l (le_step u)))

-- through the routes themselves, 1 + the hop of the route of exactly so many bits at each length, the way down ends at the longest route
or-else : (x d : ℕ) → or_else (or_next x d) 0 ≡ or_else x (or_else d 0)
or-else zero d = refl
or-else (suc x) d = refl

pub down-best : (rs : List Route) (a p : ℕ) → p ≤ 32 → or_else (down (λ l. first (here l (slot l a)) rs) (suc p)) 0 ≡ best rs p (slot p a)
unfolding down best
down-best rs a zero h = or-else (first (here 0 (slot 0 a)) rs) 0
down-best rs a (suc p) h =
    let half : slot (suc p) a / 2 ≡ slot p a = ap (λ (x : ℕ). slot x a / 2) (omega arith) ∙ slot-up p 1 a (omega arith) in
    or-else (first (here (suc p) (slot (suc p) a)) rs) (down (λ l. first (here l (slot l a)) rs) (suc p))
    ∙ ap (or_else (first (here (suc p) (slot (suc p) a)) rs)) (down-best rs a p (omega arith) ∙ ap (best rs p) (sym half))
