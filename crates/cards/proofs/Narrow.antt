-- The calls at the boundary take numbers of 32 bits, and those inside narrower ones. What a call says and leaves is the same for every length
-- over 32, for every hop over 32,767 and for every mark over 1: such a number is refused, and nothing else is done with it. So a number that does
-- not fit may be taken to the largest that does, and the exported calls are stated over the number itself. A further number wants one more law of
-- the form `AlikeOver`, and one more step in `announced-narrow`.
use mathlib.Core.Path.{◌≡◌, refl, sym, ◌∙◌, ap}
use mathlib.Core.Logic.{◌⊎◌, inl, inr}
use mathlib.Core.Bool.{true, false, true≢false}
use mathlib.Core.List.{List}
use Prim.Native.Nat.{ℕ, zero, suc, ◌<◌, ◌≤◌, min}
use native.Mathlib.Omega.{arith}
use borrow.Author.Tests.{lt-leb}
use Rattle.bits.specs.Slot.{cut}
use Rattle.bits.proofs.Bools.{decided, below?}
use Rattle.routes.specs.Route.{Prefix}
use Rattle.routes.specs.Input.{proper_prefix}
use Rattle.routes.specs.Said.{Said, refused, accepts}
use Rattle.routes.specs.declared.Route.{Route}
use Rattle.routes.specs.Cases.{WrongRoute}
use Rattle.routes.proofs.Meaning.{prefix-true, true-prefix, wrong-fault}
use Rattle.runs.specs.Run.{run_said}
use Rattle.sail.specs.Lent.{Lent}
use Rattle.sail.specs.Sizes.{sizes_fault}
use Rattle.sail.specs.declared.table.Table.{Table}
use Rattle.sail_theory.specs.Calls.{route, out, or_say, announce_said, withdraw_fault, withdraw_said, cut_route, announced, withdrawn}
use Rattle.sail_theory.proofs.calls.Cleared.{announce-off, withdraw-off}
use Rattle.cards.specs.Narrow.{AlikeOver}

-- where it is the same over a limit, a number may be narrowed to a type that has room for one over the limit
pub narrowed : {A : Type 0} (f : ℕ → A) (limit top : ℕ) → limit < top → AlikeOver limit f → (x n : ℕ) → n ≡ min x top → f n ≡ f x
narrowed f limit top h alike x n e = go (below? top x)
  where
    go : (top < x) ⊎ (x ≤ top) → f n ≡ f x
    go (inl b) = alike n x (omega arith) (omega arith)
    go (inr b) = let q : n ≡ x = omega arith in ap f q

pub prefix? : (a len : ℕ) → Prefix a len ⊎ (Prefix a len → ⊥)
prefix? a len = go (decided (proper_prefix a len))
  where
    go : (proper_prefix a len ≡ true) ⊎ (proper_prefix a len ≡ false) → Prefix a len ⊎ (Prefix a len → ⊥)
    go (inl e) = inl (prefix-true a len e)
    go (inr e) = inr (λ p. true≢false (sym (true-prefix a len p) ∙ e))

pub hop? : (hop : ℕ) → ((1 ≤ hop) × (hop ≤ 32767)) ⊎ (1 ≤ hop → hop ≤ 32767 → ⊥)
hop? hop = go (below? 0 hop) (below? 32767 hop)
  where
    go : (0 < hop) ⊎ (hop ≤ 0) → (32767 < hop) ⊎ (hop ≤ 32767) → ((1 ≤ hop) × (hop ≤ 32767)) ⊎ (1 ≤ hop → hop ≤ 32767 → ⊥)
    go (inl a) (inr b) = inl (a, b)
    go (inl a) (inl b) = inr (λ x y. omega arith)
    go (inr a) b = inr (λ x y. omega arith)

pub long-prefix : (a len : ℕ) → 32 < len → proper_prefix a len ≡ false
unfolding proper_prefix
long-prefix a len h = rw (lt-leb len 32 h)

module _ (t : Table) (l : Lent) where
  -- 1 or 2 where the sizes ask for it, else this number
  abbrev refusal : ℕ → Said
  refusal m = or_say (sizes_fault t.geometry l) (refused m)

  refusal-accepts : (m : ℕ) → accepts (refusal m) ≡ false
  refusal-accepts m = go (sizes_fault t.geometry l)
    where
      go : (n : ℕ) → accepts (or_say n (refused m)) ≡ false
      go zero = refl
      go (suc n) = refl

  -- what is wrong with the cleared route decides what an announcement says and leaves
  announced-wrong : (r : Route) {n : ℕ} → WrongRoute (cut_route r) n → announced t l r ≡ out (refusal n) t l
  unfolding announce_said
  announced-wrong r {n} w = announce-off t l r (refusal n) (said w) (refusal-accepts n)
    where
      said : {n : ℕ} → WrongRoute (cut_route r) n → announce_said t l (cut_route r) ≡ refusal n
      said (WrongRoute.prefix h) = rw (wrong-fault (cut_route r) 3 (WrongRoute.prefix h))
      said (WrongRoute.hop p h) = rw (wrong-fault (cut_route r) 4 (WrongRoute.hop p h))
      said (WrongRoute.mark p a b h) = rw (wrong-fault (cut_route r) 10 (WrongRoute.mark p a b h))

  wrong-alike : (r s : Route) {n : ℕ} → WrongRoute (cut_route r) n → WrongRoute (cut_route s) n → announced t l r ≡ announced t l s
  wrong-alike r s v w = announced-wrong r v ∙ sym (announced-wrong s w)

  withdrawn-three : (a len : ℕ) → 32 < len → withdrawn t l a len ≡ out (refusal 3) t l
  unfolding withdraw_said withdraw_fault
  withdrawn-three a len h = withdraw-off t l a len (refusal 3) (rw (long-prefix (cut len a) len h)) (refusal-accepts 3)

  -- 3 for a length over 32; 4 for a hop over 32,767, or 3 where that comes first; 10 for a mark over 1, or 3 or 4 where that comes first
  pub announced-long : (a hop mark : ℕ) → AlikeOver 32 (λ (len : ℕ). announced t l (route a len hop mark))
  announced-long a hop mark x y h k =
      wrong-alike (route a x hop mark) (route a y hop mark) (WrongRoute.prefix (λ p. omega (arith, p.len_ok)))
      (WrongRoute.prefix (λ p. omega (arith, p.len_ok)))

  pub announced-high : (a len mark : ℕ) → AlikeOver 32767 (λ (hop : ℕ). announced t l (route a len hop mark))
  announced-high a len mark x y h k = go (prefix? (cut len a) len)
    where
      alike : {n : ℕ} → WrongRoute (cut_route (route a len x mark)) n → WrongRoute (cut_route (route a len y mark)) n
          → announced t l (route a len x mark) ≡ announced t l (route a len y mark)
      alike = wrong-alike (route a len x mark) (route a len y mark)

      go : Prefix (cut len a) len ⊎ (Prefix (cut len a) len → ⊥) → announced t l (route a len x mark) ≡ announced t l (route a len y mark)
      go (inl p) = alike (WrongRoute.hop p (λ _ u. omega arith)) (WrongRoute.hop p (λ _ u. omega arith))
      go (inr e) = alike (WrongRoute.prefix e) (WrongRoute.prefix e)

  pub announced-marked : (a len hop : ℕ) → AlikeOver 1 (λ (mark : ℕ). announced t l (route a len hop mark))
  announced-marked a len hop x y h k = go (prefix? (cut len a) len) (hop? hop)
    where
      alike : {n : ℕ} → WrongRoute (cut_route (route a len hop x)) n → WrongRoute (cut_route (route a len hop y)) n
          → announced t l (route a len hop x) ≡ announced t l (route a len hop y)
      alike = wrong-alike (route a len hop x) (route a len hop y)

      go : Prefix (cut len a) len ⊎ (Prefix (cut len a) len → ⊥) → ((1 ≤ hop) × (hop ≤ 32767)) ⊎ (1 ≤ hop → hop ≤ 32767 → ⊥)
          → announced t l (route a len hop x) ≡ announced t l (route a len hop y)
      go (inl p) (inl b) = alike (WrongRoute.mark p b.0 b.1 h) (WrongRoute.mark p b.0 b.1 k)
      go (inl p) (inr e) = alike (WrongRoute.hop p e) (WrongRoute.hop p e)
      go (inr e) b = alike (WrongRoute.prefix e) (WrongRoute.prefix e)

  pub withdrawn-long : (a : ℕ) → AlikeOver 32 (λ (len : ℕ). withdrawn t l a len)
  withdrawn-long a x y h k = withdrawn-three a x h ∙ sym (withdrawn-three a y k)

  -- with every number narrowed
  pub announced-narrow : (a len hop mark n m k : ℕ) → n ≡ min len 255 → m ≡ min hop 65535 → k ≡ min mark 255
      → announced t l (route a n m k) ≡ announced t l (route a len hop mark)
  announced-narrow a len hop mark n m k e q u =
      narrowed (λ (x : ℕ). announced t l (route a x m k)) 32 255 (omega arith) (announced-long a m k) len n e
      ∙ narrowed (λ (x : ℕ). announced t l (route a len x k)) 32767 65535 (omega arith) (announced-high a len k) hop m q
      ∙ narrowed (λ (x : ℕ). announced t l (route a len hop x)) 1 255 (omega arith) (announced-marked a len hop) mark k u

  pub withdrawn-narrow : (a len n : ℕ) → n ≡ min len 255 → withdrawn t l a n ≡ withdrawn t l a len
  withdrawn-narrow a len n e = narrowed (λ (x : ℕ). withdrawn t l a x) 32 255 (omega arith) (withdrawn-long a) len n e

module _ (s : List ℕ) (a : ℕ) where
  pub run_long : AlikeOver 32 (λ (len : ℕ). run_said s a len)
  unfolding run_said
  run_long x y h k = rw (long-prefix a x h, long-prefix a y k) refl

  pub run-narrow : (len n : ℕ) → n ≡ min len 255 → run_said s a n ≡ run_said s a len
  run-narrow len n e = narrowed (λ (x : ℕ). run_said s a x) 32 255 (omega arith) run_long len n e
