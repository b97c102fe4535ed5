-- Owners after a party opens a chunk, and after it closes what is no longer deep: the party sees them as a table of one has them, the other sees no
-- change, and what is neither's is still nobody's.
use mathlib.Core.Path.{◌≡◌, refl, sym, ◌∙◌, ap, ap₂}
use mathlib.Core.Logic.{◌⊎◌, inl, inr, ◌≢◌}
use mathlib.Core.Bool.{Bool, true, false, cond}
use mathlib.Core.List.{List, [], ◌∷◌, map}
use Prim.Native.Nat.{ℕ, zero, suc, ◌+◌, ◌-◌, ◌≤◌, ◌<◌}
use native.Mathlib.Omega.{arith}
use lib.Dec.{ltb, eqb}
use lib.ListN.{get_or, length, set, length-set, length-map}
use lib.Seq.{get_or-set_same, get_or-set_other}
use borrow.Author.Tests.{eqb-true, eqb-false}
use Rattle.bits.proofs.Bools.{decided, equal?}
use Rattle.routes.specs.declared.Route.{Route}
use Rattle.sail.specs.Level.{Level, deep}
use Rattle.sail_theory.specs.Render.{find}
use Rattle.sail_theory.specs.Calls.{grant, open_at, keep}
use Rattle.sail_theory.proofs.owners.Chunks.{free-zero}
use Rattle.pair.specs.Party.{Party, one, two, other, owner_of, seen, view}
use Rattle.pair.specs.PairSound.{Nobodys}
use Rattle.pair.specs.PairCalls.{grant_for, open_for, keep_for}
use Rattle.pair.proofs.Views.{seen_none, seen-own, seen_apart, view-set, view-other}

-- a chunk granted
module _ (w : Party) (own : List ℕ) (c q : ℕ) (small : suc q < 2147483648) where
  pub grant-view : view w (grant_for w own c q) ≡ grant (view w own) c q
  unfolding grant_for grant
  grant-view = go (ltb (find (view w own) (suc q)) (length (view w own)))
    where
      go : (b : Bool) → view w (cond b own (set own c (owner_of w q))) ≡ cond b (view w own) (set (view w own) c (suc q))
      go true = refl
      go false = view-set w own c q small

  pub grant-other : get_or own c 0 ≡ 0 → view (other w) (grant_for w own c q) ≡ view (other w) own
  unfolding grant_for
  grant-other z = go (ltb (find (view w own) (suc q)) (length (view w own)))
    where
      go : (b : Bool) → view (other w) (cond b own (set own c (owner_of w q))) ≡ view (other w) own
      go true = refl
      go false = view-other w own c q small z

  pub grant-length : length (grant_for w own c q) ≡ length own
  unfolding grant_for
  grant-length = go (ltb (find (view w own) (suc q)) (length (view w own)))
    where
      go : (b : Bool) → length (cond b own (set own c (owner_of w q))) ≡ length own
      go true = refl
      go false = length-set own c (owner_of w q)

  -- the party's owner is somebody's
  owned : (w : Party) → suc q < 2147483648 → seen one (owner_of w q) ≡ 0 → seen two (owner_of w q) ≡ 0 → ⊥
  owned one h x y = omega (arith, seen-own one q h)
  owned two h x y = omega (arith, seen-own two q h)

  pub grant-nobodys : Nobodys own → Nobodys (grant_for w own c q)
  unfolding grant_for
  grant-nobodys n = go (ltb (find (view w own) (suc q)) (length (view w own)))
    where
      set-nobodys : Nobodys (set own c (owner_of w q))
      set-nobodys = record { zero = λ j l. at j (rw length-set at l) (equal? j c) }
        where
          at : (j : ℕ) → j < length own → (j ≡ c) ⊎ (j ≢ c) → seen one (get_or (set own c (owner_of w q)) j 0) ≡ 0
              → seen two (get_or (set own c (owner_of w q)) j 0) ≡ 0 → get_or (set own c (owner_of w q)) j 0 ≡ 0
          at j l (inl e) x y =
              let is : get_or (set own c (owner_of w q)) j 0 ≡ owner_of w q = rw e (get_or-set_same own c (owner_of w q) 0 (rw e at l)) in
              absurd (owned w small (sym (ap (seen one) is) ∙ x) (sym (ap (seen two) is) ∙ y))
          at j l (inr e) x y =
              let is = get_or-set_other own c j (owner_of w q) 0 e in
              is ∙ n.zero j l (sym (ap (seen one) is) ∙ x) (sym (ap (seen two) is) ∙ y)

      go : (b : Bool) → Nobodys (cond b own (set own c (owner_of w q)))
      go true = n
      go false = set-nobodys

-- a chunk opened for a route, where the place that serves it is one of a level that has few
module _ (w : Party) (v : Level) (own : List ℕ) (r : Route) (small : ltb v.bits r.len ≡ true → suc (v.serving r.addr) < 2147483648) where
  abbrev q : ℕ
  q = v.serving r.addr

  pub open-view : view w (open_for w v own r) ≡ open_at v (view w own) (find own 0) r
  unfolding open_for open_at
  open-view = go (ltb v.bits r.len) refl
    where
      go : (b : Bool) → ltb v.bits r.len ≡ b → view w (cond b (grant_for w own (find own 0) q) own)
          ≡ cond b (grant (view w own) (find own 0) q) (view w own)
      go true e = grant-view w own (find own 0) q (small e)
      go false e = refl

  pub open-other : view (other w) (open_for w v own r) ≡ view (other w) own
  unfolding open_for
  open-other = go (ltb v.bits r.len) refl
    where
      go : (b : Bool) → ltb v.bits r.len ≡ b → view (other w) (cond b (grant_for w own (find own 0) q) own) ≡ view (other w) own
      go true e = grant-other w own (find own 0) q (small e) (free-zero own)
      go false e = refl

  pub open-length : length (open_for w v own r) ≡ length own
  unfolding open_for
  open-length = go (ltb v.bits r.len) refl
    where
      go : (b : Bool) → ltb v.bits r.len ≡ b → length (cond b (grant_for w own (find own 0) q) own) ≡ length own
      go true e = grant-length w own (find own 0) q (small e)
      go false e = refl

  pub open-nobodys : Nobodys own → Nobodys (open_for w v own r)
  unfolding open_for
  open-nobodys n = go (ltb v.bits r.len) refl
    where
      go : (b : Bool) → ltb v.bits r.len ≡ b → Nobodys (cond b (grant_for w own (find own 0) q) own)
      go true e = grant-nobodys w own (find own 0) q (small e) n
      go false e = n

-- what is closed
module _ (w : Party) (rs : List Route) (v : Level) where
  -- one owner
  abbrev pub kept : ℕ → ℕ
  kept o = cond (eqb (seen w o) 0) o (cond (deep rs v (seen w o - 1)) o 0)

  either : (b : Bool) (o : ℕ) → o ≡ 0 → ◌≡◌ {A = ℕ} (cond b o 0) 0
  either true o e = e
  either false o e = refl

  kept_seen : (o : ℕ) → seen w (kept o) ≡ cond (deep rs v (seen w o - 1)) (seen w o) 0
  kept_seen o = go (decided (eqb (seen w o) 0)) (decided (deep rs v (seen w o - 1)))
    where
      go : (eqb (seen w o) 0 ≡ true) ⊎ (eqb (seen w o) 0 ≡ false) → (deep rs v (seen w o - 1) ≡ true) ⊎ (deep rs v (seen w o - 1) ≡ false)
          → seen w (kept o) ≡ cond (deep rs v (seen w o - 1)) (seen w o) 0
      go (inl e) d = let z = eqb-true (seen w o) 0 e in rw e (z ∙ sym (either (deep rs v (seen w o - 1)) (seen w o) z))
      go (inr e) (inl d) = rw (e, d)
      go (inr e) (inr d) = rw (e, d) (seen_none w)

  kept-other : (o : ℕ) → seen (other w) (kept o) ≡ seen (other w) o
  kept-other o = go (decided (eqb (seen w o) 0)) (deep rs v (seen w o - 1))
    where
      go : (eqb (seen w o) 0 ≡ true) ⊎ (eqb (seen w o) 0 ≡ false) → (b : Bool)
          → seen (other w) (cond (eqb (seen w o) 0) o (cond b o 0)) ≡ seen (other w) o
      go (inl e) b = rw e
      go (inr e) true = rw e
      go (inr e) false = rw e (seen_none (other w) ∙ sym (seen_apart w o (eqb-false (seen w o) 0 e)))

  pub keep-view : (own : List ℕ) → view w (keep_for w rs v own) ≡ keep rs v (view w own)
  unfolding view keep_for keep
  keep-view [] = refl
  keep-view (o ∷ own) = ap₂ (λ (x : ℕ) (xs : List ℕ). x ∷ xs) (kept_seen o) (keep-view own)

  pub keep-other : (own : List ℕ) → view (other w) (keep_for w rs v own) ≡ view (other w) own
  unfolding view keep_for
  keep-other [] = refl
  keep-other (o ∷ own) = ap₂ (λ (x : ℕ) (xs : List ℕ). x ∷ xs) (kept-other o) (keep-other own)

  pub keep-length : (own : List ℕ) → length (keep_for w rs v own) ≡ length own
  unfolding keep_for
  keep-length own = length-map own _

  pub get_d_kept : (own : List ℕ) (c : ℕ) → c < length own → get_or (keep_for w rs v own) c 0 ≡ kept (get_or own c 0)
  unfolding keep_for
  get_d_kept [] c l = absurd (native.Mathlib.Nat.not-suc-le-zero l)
  get_d_kept (o ∷ own) zero l = refl
  get_d_kept (o ∷ own) (suc c) l = get_d_kept own c (native.Mathlib.Nat.le_of_suc-le-suc l)

  -- what is neither's after it was kept as it was, or closed
  kept-zero : (o : ℕ) → (seen one o ≡ 0 → seen two o ≡ 0 → o ≡ 0) → seen one (kept o) ≡ 0 → seen two (kept o) ≡ 0 → kept o ≡ 0
  kept-zero o n = go (eqb (seen w o) 0) (deep rs v (seen w o - 1))
    where
      go : (a b : Bool) → seen one (cond a o (cond b o 0)) ≡ 0 → seen two (cond a o (cond b o 0)) ≡ 0 → ◌≡◌ {A = ℕ} (cond a o (cond b o 0)) 0
      go true b = n
      go false true = n
      go false false = λ x y. refl

  pub keep-nobodys : (own : List ℕ) → Nobodys own → Nobodys (keep_for w rs v own)
  keep-nobodys own n = record {
    zero = λ c l x y.
        let k : c < length own = rw keep-length at l in
        let is = get_d_kept own c k in
        is ∙ kept-zero (get_or own c 0) (n.zero c k) (sym (ap (seen one) is) ∙ x) (sym (ap (seen two) is) ∙ y);
  }
