-- What is written into the owners of both is what the announcement asks: the chunk that was opened, if one was, has the party's owner.
use mathlib.Core.Path.{◌≡◌, ◌∙◌, ap₂}
use mathlib.Core.Logic.{◌⊎◌, inl, inr}
use mathlib.Core.Bool.{Bool, true, false, ◌&&◌, cond, true≢false, false≢true}
use mathlib.Core.List.{List}
use Prim.Native.Nat.{ℕ, suc, ◌+◌, ◌-◌, ◌≤◌, ◌<◌}
use native.Mathlib.Omega.{arith}
use lib.Dec.{ltb, leb}
use lib.ListN.{get_or, length, set}
use borrow.Author.Tests.{lt-ltb, le-ltb, lt-leb, le-leb}
use Rattle.bits.proofs.Bools.{decided, below?}
use Rattle.routes.specs.declared.Route.{Route}
use Rattle.sail.specs.Level.{Level}
use Rattle.sail_theory.specs.Render.{find}
use Rattle.pair.specs.Party.{Party, party_of, owner_of, view}
use Rattle.pair.specs.PairCalls.{grant_for, open_for}
use Rattle.pair_announce.specs.Tagged.{tagged, OwnSeen}

-- an owner by what the party sees there
pub second-owner : (o : ℕ) (guest : Bool) → OwnSeen o → guest ≡ true → 2147483648 + o ≡ owner_of (party_of guest) (o - 1)
second-owner o true s e = let h = s.some in omega arith
second-owner o false s e = absurd (false≢true e)

pub first-owner : (o : ℕ) (guest : Bool) → OwnSeen o → guest ≡ false → o ≡ owner_of (party_of guest) (o - 1)
first-owner o true s e = absurd (true≢false e)
first-owner o false s e = let h = s.some in omega arith

-- one is opened, and none
pub tagged-on : (w : Party) (b : Bool) (c : ℕ) (see own : List ℕ) (o : ℕ) → b ≡ true → o ≡ owner_of w (get_or see c 0 - 1) → set own c o ≡ tagged w b c see own
unfolding tagged
tagged-on w b c see own o e q = rw (e, q)

pub tagged-off : (w : Party) (b : Bool) (c : ℕ) (see own : List ℕ) → b ≡ false → own ≡ tagged w b c see own
unfolding tagged
tagged-off w b c see own e = rw e

-- b tells whether the route is longer than the level and the party has no chunk at the place that serves it; then the party sees one there
module _ (w : Party) (v : Level) (own : List ℕ) (r : Route) where
  abbrev q : ℕ
  q = v.serving r.addr

  pub tagged-open : (b : Bool) (c : ℕ) (see : List ℕ) → b ≡ (ltb v.bits r.len && leb (length (view w own)) (find (view w own) (suc q)))
      → c ≡ find own 0 → (b ≡ true → get_or see c 0 ≡ suc q) → tagged w b c see own ≡ open_for w v own r
  unfolding tagged open_for grant_for
  tagged-open b c see is low seen = go (decided (ltb v.bits r.len)) (below? (find (view w own) (suc q)) (length (view w own)))
    where
      go : (ltb v.bits r.len ≡ true) ⊎ (ltb v.bits r.len ≡ false)
          → (find (view w own) (suc q) < length (view w own)) ⊎ (length (view w own) ≤ find (view w own) (suc q))
          → cond b (set own c (owner_of w (get_or see c 0 - 1))) own
          ≡ cond (ltb v.bits r.len)
          (cond (ltb (find (view w own) (suc q)) (length (view w own))) own (set own (find own 0) (owner_of w q))) own
      go (inr e) d = rw (is, e)
      go (inl e) (inl d) = rw (is, e, lt-ltb _ _ d, lt-leb _ _ d)
      go (inl e) (inr d) =
          let on : b ≡ true = is ∙ rw (e, le-leb _ _ d) in
          let place : get_or see c 0 - 1 ≡ q = omega (arith, seen on) in
          rw (on, e, le-ltb _ _ d) (ap₂ (λ (i n : ℕ). set own i (owner_of w n)) low place)
