-- Which routes of a party stand after a run is worked out from its own accepted calls alone; and a chunk that is newly opened is the lowest that nobody had.
use mathlib.Core.Path.{◌≡◌, refl, sym, ◌∙◌, ap}
use mathlib.Core.Logic.{◌⊎◌, inl, inr, ◌≢◌}
use mathlib.Core.Bool.{Bool, true, false, cond}
use mathlib.Core.List.{List, [], ◌∷◌}
use Prim.Native.Nat.{ℕ, ◌<◌}
use native.Mathlib.Omega.{arith}
use lib.Dec.{ltb}
use lib.ListN.{get_or, length, set}
use lib.Seq.{get_or-set_other}
use Rattle.bits.specs.Slot.{cut}
use Rattle.bits.proofs.Bools.{decided, equal?}
use Rattle.routes.specs.Route.{key_of, Good}
use Rattle.routes.specs.Said.{accepts}
use Rattle.routes.specs.declared.Route.{Route}
use Rattle.standing.specs.Standing.{route_at, absent}
use Rattle.standing.proofs.Standing.{insert-stands, remove-stands, same-standing}
use Rattle.sail.specs.Level.{Level, chunks_of}
use Rattle.sail_theory.specs.Calls.{cut_route}
use Rattle.sail_theory.specs.CallRuns.{Call, announce, withdraw, load, routes_after, held_after}
use Rattle.sail_theory.specs.Render.{find}
use Rattle.sail_theory.proofs.owners.Chunks.{chunk-before}
use Rattle.pair.specs.Party.{Party, other, is, owner_of, view}
use Rattle.pair.specs.PairLent.{PairLent}
use Rattle.pair.specs.PairSound.{standing_for, PairSound}
use Rattle.pair.specs.PairCalls.{grant_for, open_for, PairOut, pair_made}
use Rattle.pair.specs.PairRuns.{By, pair_done, pair_after, pair_held}
use Rattle.pair.specs.declared.Pair.{Pair}
use Rattle.pair.proofs.Sees.{for-both}
use Rattle.pair.proofs.Shifts.{routes-good}
use Rattle.pair.proofs.PairFresh.{Makeable, fresh-none, made-is}
use Rattle.pair.proofs.PairSteps.{refused-left, accepted-holds}
use Rattle.pair.proofs.Isolation.{their-routes, is-self, is-other, run_holds}

-- what stands for a prefix after a call that is accepted
after-held : (c : Call) (k : ℕ) (rs : List Route) → route_at k (routes_after c rs) ≡ held_after c k (route_at k rs)
after-held (announce r) k rs = insert-stands k (cut_route r) rs
after-held (withdraw a len) k rs = remove-stands (key_of (cut len a) len) k rs
after-held (load input) k rs = refl

-- one call on a sound box: for the party, and for the other
module _ (x : Party) (u : Pair) (v : PairLent) (s : PairSound u v) (c : Call) (k : ℕ) where
  abbrev next : PairOut
  next = pair_done x u v c

  own_held : route_at k (standing_for x next.state next.lent)
      ≡ cond (accepts next.said) (held_after c k (route_at k (standing_for x u v))) (route_at k (standing_for x u v))
  own_held = go (decided (accepts next.said))
    where
      go : (accepts next.said ≡ true) ⊎ (accepts next.said ≡ false) → route_at k (standing_for x next.state next.lent)
          ≡ cond (accepts next.said) (held_after c k (route_at k (standing_for x u v))) (route_at k (standing_for x u v))
      go (inl e) = ap (route_at k) (accepted-holds x u v s c e).routes ∙ after-held c k (standing_for x u v) ∙ rw e
      go (inr e) = let q = refused-left x u v c e in rw (e, q.0, q.1)

  others-held : route_at k (standing_for (other x) next.state next.lent) ≡ route_at k (standing_for (other x) u v)
  others-held = go (decided (accepts next.said))
    where
      go : (accepts next.said ≡ true) ⊎ (accepts next.said ≡ false)
          → route_at k (standing_for (other x) next.state next.lent) ≡ route_at k (standing_for (other x) u v)
      go (inl e) = ap (route_at k) (their-routes x u v _ next.state next.lent (accepted-holds x u v s c e))
      go (inr e) = let q = refused-left x u v c e in rw (q.0, q.1)

module _ (t : Pair) (b : PairLent) (z : Makeable t b) where
  none-held : (w : Party) (k : ℕ) → route_at k (standing_for w (pair_made t b).state (pair_made t b).lent) ≡ absent
  unfolding route_at
  none-held w k = rw (made-is t b z, fresh-none t b z w)

  pub pair-standing : (cs : List By) (w : Party) (k : ℕ) → route_at k (standing_for w (pair_after t b cs).state (pair_after t b cs).lent) ≡ pair_held w t b cs k
  unfolding pair_after pair_held
  pair-standing [] w k = none-held w k
  pair-standing (c ∷ cs) w k = go (pair-standing cs)
    where
      u : Pair
      u = (pair_after t b cs).state

      v : PairLent
      v = (pair_after t b cs).lent

      go : ((w : Party) (k : ℕ) → route_at k (standing_for w (pair_after t b cs).state (pair_after t b cs).lent) ≡ pair_held w t b cs k)
          → route_at k (standing_for w (pair_done c.who (pair_after t b cs).state (pair_after t b cs).lent c.what).state
          (pair_done c.who (pair_after t b cs).state (pair_after t b cs).lent c.what).lent)
          ≡ cond (is w c.who) (cond (accepts (pair_done c.who (pair_after t b cs).state (pair_after t b cs).lent c.what).said)
          (held_after c.what k (pair_held w t b cs k)) (pair_held w t b cs k)) (pair_held w t b cs k)
      go ih =
          let s = (run_holds t b z cs).sound in
          for-both (λ x. route_at k (standing_for x (pair_done c.who (pair_after t b cs).state (pair_after t b cs).lent c.what).state
          (pair_done c.who (pair_after t b cs).state (pair_after t b cs).lent c.what).lent)
          ≡ cond (is x c.who) (cond (accepts (pair_done c.who (pair_after t b cs).state (pair_after t b cs).lent c.what).said)
          (held_after c.what k (pair_held x t b cs k)) (pair_held x t b cs k)) (pair_held x t b cs k)) c.who
          (own_held c.who _ _ s c.what k ∙ rw (is-self c.who, ih c.who k))
          (others-held c.who _ _ s c.what k ∙ ih (other c.who) k ∙ rw (is-other c.who)) w

  -- "the list then holds exactly those, in order": being good, it is the only such list
  pub pair-only : (cs : List By) (w : Party) (rs : List Route) → Good rs → ((k : ℕ) → route_at k rs ≡ pair_held w t b cs k)
      → standing_for w (pair_after t b cs).state (pair_after t b cs).lent ≡ rs
  pair-only cs w rs g e =
      same-standing _ rs (routes-good (pair_after t b cs).state (pair_after t b cs).lent (run_holds t b z cs).sound w) g
      (λ k. pair-standing cs w k ∙ sym (e k))

-- "A newly opened chunk takes the lowest free number": of those that neither party has
pub pair-lowest : (w : Party) (v : Level) (own : List ℕ) (r : Route) (k : ℕ) → get_or own k 0 ≡ 0 → get_or (open_for w v own r) k 0 ≢ 0
    → (j : ℕ) → j < k → get_or own j 0 ≢ 0
unfolding open_for grant_for
pair-lowest w v own r k was now j l =
    go (ltb v.bits r.len) (ltb (find (view w own) (Prim.Native.Nat.suc (v.serving r.addr))) (length (view w own))) now
  where
    q : ℕ
    q = v.serving r.addr

    at : (k ≡ find own 0) ⊎ (k ≢ find own 0) → get_or (set own (find own 0) (owner_of w (v.serving r.addr))) k 0 ≢ 0 → get_or own j 0 ≢ 0
    at (inl e) n = chunk-before (chunks_of own) 0 j (omega arith)
    at (inr e) n = absurd (n (get_or-set_other own (find own 0) k (owner_of w (v.serving r.addr)) 0 e ∙ was))

    go : (a c : Bool) → get_or (cond a (cond c own (set own (find own 0) (owner_of w (v.serving r.addr)))) own) k 0 ≢ 0 → get_or own j 0 ≢ 0
    go false c n = absurd (n was)
    go true true n = absurd (n was)
    go true false n = at (equal? k (find own 0)) n
