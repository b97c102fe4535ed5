-- What each call says is decided by the first condition, in document 01's order, that holds: it is one of the cases of specs/Cases.antt. Each
-- proof goes through the tests of the call's definition in their order; that the cases exclude each other is proofs/calls/OneCase.antt.
use mathlib.Core.Path.{◌≡◌, sym, ◌∙◌}
use mathlib.Core.Logic.{◌⊎◌, inl, inr}
use mathlib.Core.Bool.{Bool, true, false, not, cond, true≢false}
use mathlib.Core.List.{List, [], ◌∷◌}
use Prim.Native.Nat.{ℕ, zero, suc, ◌/◌, ◌≤◌, ◌<◌}
use native.Mathlib.Omega.{arith}
use lib.Dec.{ltb, leb}
use lib.ListN.{length}
use borrow.Author.Tests.{lt-leb, le-leb, lt-ltb, le-ltb}
use Rattle.bits.specs.Count.{bit}
use Rattle.bits.proofs.Bools.{decided, below?}
use Rattle.routes.specs.Route.{key_of, key, Fine}
use Rattle.standing.specs.Cells.{need}
use Rattle.routes.specs.Input.{proper_prefix, route_fault}
use Rattle.routes.specs.Said.{Said, accepted, refused, and_then}
use Rattle.standing.specs.Standing.{stands, insert}
use Rattle.routes.specs.declared.Route.{Route}
use Rattle.routes.proofs.Rows.{length-routes, records-good}
use Rattle.routes.specs.Cases.{Passes, BadInput}
use Rattle.routes.proofs.Meaning.{prefix-true, true-prefix, RouteChecked, route-checked}
use Rattle.routes.proofs.Judged.{good-whole, bad-stops, by-input}
use Rattle.sail.specs.Cases.{Sizing}
use Rattle.sail.specs.Lent.{Lent}
use Rattle.sail.specs.Sizes.{sizes_fault, Sized}
use Rattle.sail.specs.Sound.{standing}
use Rattle.sail.specs.declared.table.Table.{Table}
use Rattle.sail.proofs.Fitting.{Fault, fault-is}
use Rattle.sail_theory.specs.Render.{room_of}
use Rattle.sail_theory.specs.SoundTest.{sound?}
use Rattle.sail_theory.specs.Calls.{terms_of, chunks_fault, announce_fault, withdraw_fault, load_fault, or_say, input_routes}
use Rattle.sail_theory.specs.Calls.{make_said, announce_said, withdraw_said, load_said, reported}
use Rattle.sail_theory.specs.Cases.{Make, Proper, Roomy, Announce, Withdraw, Readable, Load, Report}
use Rattle.sail_theory.proofs.places.SoundTest.{sound-tells}

-- the two answers of a test, and the two orders of two numbers
abbrev Answer : Bool → Type 0
Answer b = (b ≡ true) ⊎ (b ≡ false)

abbrev Beside : ℕ → ℕ → Type 0
Beside m n = (m < n) ⊎ (n ≤ m)

-- what a call says where it gets so far, after the sizes
after-sizes : (t : Table) (l : Lent) (P : Said → Type 0) (s : Said) → ((n : ℕ) → Sizing t l n → P (refused n)) → (Sized t.geometry l → P s)
    → P (or_say (sizes_fault t.geometry l) s)
after-sizes t l P s off on = go (fault-is t.geometry l)
  where
    go : {n : ℕ} → Fault t.geometry l n → P (or_say n s)
    go (Fault.none z) = on z
    go (Fault.limits h) = off 1 (Sizing.limits h)
    go (Fault.size v h) = off 2 (Sizing.size v h)

module _ (t : Table) (l : Lent) where
  pub make-judged : Make t l (make_said t l)
  unfolding make_said
  make-judged = after-sizes t l (Make t l) (accepted []) Make.sizing Make.done

-- announce
module _ (t : Table) (l : Lent) (r : Route) where
  abbrev rs : List Route
  rs = standing t l

  -- the routes that would then stand
  abbrev next : List Route
  next = insert r rs

  -- the chunks that they need
  abbrev need2 : ℕ
  need2 = need next t.geometry.p1

  abbrev need3 : ℕ
  need3 = need next t.geometry.p2

  announce-fine : Fine r → Sized t.geometry l
      → Announce t l r (or_say (announce_fault (sound? t l) (terms_of t l) rs r) (accepted (bit (stands (key r) rs) ∷ [])))
  unfolding announce_fault chunks_fault
  announce-fine f z =
      go (decided (sound? t l)) (decided (stands (key r) rs)) (below? (length rs) (room_of l)) (below? (length l.own2) need2)
      (below? (length l.own3) need3)
    where
      proper : sound? t l ≡ true → Proper t l r
      proper u = record { fine = f; sound = (sound-tells t l).0 u }

      roomy : sound? t l ≡ true → stands (key r) rs ≡ false → length rs < room_of l → Roomy t l r
      roomy u e k = record { proper = proper u; new = e; room = k }

      go : Answer (sound? t l) → Answer (stands (key r) rs) → Beside (length rs) (room_of l) → Beside (length l.own2) need2 → Beside (length l.own3) need3
          → Announce t l r (or_say (cond (not (sound? t l)) 5 (cond (stands (key r) rs) 0 (cond (leb (room_of l) (length rs)) 6
          (cond (ltb (length l.own2) need2) 7 (cond (ltb (length l.own3) need3) 8 0)))))
          (accepted (bit (stands (key r) rs) ∷ [])))
      go (inr u) e k x y = rw u (Announce.unsound z f (λ s. true≢false (sym ((sound-tells t l).1 s) ∙ u)))
      go (inl u) (inl e) k x y = rw (u, e) (Announce.replaced (proper u) e)
      go (inl u) (inr e) (inr k) x y = rw (u, e, le-leb (room_of l) (length rs) k) (Announce.full (proper u) e k)
      go (inl u) (inr e) (inl k) (inl x) y = rw (u, e, lt-leb (room_of l) (length rs) k, lt-ltb _ _ x) (Announce.second (roomy u e k) x)
      go (inl u) (inr e) (inl k) (inr x) (inl y) =
          rw (u, e, lt-leb (room_of l) (length rs) k, le-ltb _ _ x, lt-ltb _ _ y) (Announce.third (roomy u e k) x y)
      go (inl u) (inr e) (inl k) (inr x) (inr y) =
          rw (u, e, lt-leb (room_of l) (length rs) k, le-ltb _ _ x, le-ltb _ _ y) (Announce.added (roomy u e k) x y)

  -- after the sizes the route by itself, and of a fine route soundness, whether its prefix stands, room, and either need
  pub announce-judged : Announce t l r (announce_said t l r)
  unfolding announce_said
  announce-judged = after-sizes t l (Announce t l r) _ Announce.sizing (λ z. go z (route_fault r) (route-checked r))
    where
      go : Sized t.geometry l → (n : ℕ) → RouteChecked r n
          → Announce t l r (or_say n (or_say (announce_fault (sound? t l) (terms_of t l) rs r) (accepted (bit (stands (key r) rs) ∷ []))))
      go z n (RouteChecked.fine e f) = rw e (announce-fine f z)
      go z (suc n) (RouteChecked.wrong h w) = Announce.wrong (suc n) z w
      go z zero (RouteChecked.wrong h w) = absurd (omega arith)

-- withdraw
module _ (t : Table) (l : Lent) (a len : ℕ) where
  pub withdraw-judged : Withdraw t l a len (withdraw_said t l a len)
  unfolding withdraw_said withdraw_fault
  withdraw-judged =
      after-sizes t l (Withdraw t l a len) _ Withdraw.sizing
      (λ z. go z (decided (proper_prefix a len)) (decided (sound? t l)) (decided (stands (key_of a len) (standing t l))))
    where
      go : Sized t.geometry l → Answer (proper_prefix a len) → Answer (sound? t l) → Answer (stands (key_of a len) (standing t l))
          → Withdraw t l a len (or_say (withdraw_fault (sound? t l) (standing t l) a len) (accepted []))
      go z (inr p) u e = rw p (Withdraw.bad_prefix z (λ q. true≢false (sym (true-prefix a len q) ∙ p)))
      go z (inl p) (inr u) e = rw (p, u) (Withdraw.unsound z (prefix-true a len p) (λ s. true≢false (sym ((sound-tells t l).1 s) ∙ u)))
      go z (inl p) (inl u) (inr e) = rw (p, u, e) (Withdraw.absent (prefix-true a len p) ((sound-tells t l).0 u) e)
      go z (inl p) (inl u) (inl e) = rw (p, u, e) (Withdraw.removed (record { prefix = prefix-true a len p; sound = (sound-tells t l).0 u; old = e }))

-- load
module _ (t : Table) (l : Lent) (input : List ℕ) where
  abbrev many : ℕ
  many = length input / 8

  abbrev needs2 : ℕ
  needs2 = need (input_routes input) t.geometry.p1

  abbrev needs3 : ℕ
  needs3 = need (input_routes input) t.geometry.p2

  load_read : Readable t l input → Load t l input (or_say (load_fault (terms_of t l) (input_routes input)) (accepted []))
  unfolding load_fault chunks_fault
  load_read w =
      rw (length-routes input many) (go (below? (room_of l) many) (below? (length l.own2) needs2) (below? (length l.own3) needs3))
    where
      go : Beside (room_of l) many → Beside (length l.own2) needs2 → Beside (length l.own3) needs3
          → Load t l input (or_say (cond (ltb (room_of l) many) 6 (cond (ltb (length l.own2) needs2) 7 (cond (ltb (length l.own3) needs3) 8 0)))
          (accepted []))
      go (inl r) x y = rw (lt-ltb _ _ r) (Load.full w r)
      go (inr r) (inl x) y = rw (le-ltb _ _ r, lt-ltb _ _ x) (Load.second w r x)
      go (inr r) (inr x) (inl y) = rw (le-ltb _ _ r, le-ltb _ _ x, lt-ltb _ _ y) (Load.third w r x y)
      go (inr r) (inr x) (inr y) = rw (le-ltb _ _ r, le-ltb _ _ x, le-ltb _ _ y) (Load.done w (record {
        sized = w.sized;
        good = records-good input (length input / 8) w.records;
        roomy = rw length-routes r;
        enough2 = x;
        enough3 = y;
      }))

  -- after the sizes the input, which is bad, with what its check says, or good; of a good one room and either need
  pub load-judged : Load t l input (load_said t l input)
  unfolding load_said
  load-judged =
      after-sizes t l (Load t l input) _ Load.sizing (λ z. by-input input (λ s. Load t l input (and_then s rest)) (bad z) (readable z))
    where
      rest : Said
      rest = or_say (load_fault (terms_of t l) (input_routes input)) (accepted [])

      bad : Sized t.geometry l → (s : Said) → BadInput input s → Load t l input (and_then s rest)
      bad z s b = rw (bad-stops s rest b.not_accepted) (Load.bad_input s z b)

      readable : Sized t.geometry l → (n : ℕ) → Passes input n → Load t l input rest
      readable z n g =
          let w = good-whole input n g in
          let q : n ≡ length input / 8 = omega (arith, w.0) in
          load_read (record { sized = z; whole = omega (arith, w.0); records = rw q at w.1 })

-- report
module _ (t : Table) (l : Lent) where
  pub report-judged : Report t l (reported t l)
  unfolding reported
  report-judged = after-sizes t l (Report t l) _ Report.sizing (λ z. go z (decided (sound? t l)))
    where
      go : Sized t.geometry l → Answer (sound? t l)
          → Report t l (cond (not (sound? t l)) (refused 5)
          (accepted (t.count ∷ need (standing t l) t.geometry.p1 ∷ need (standing t l) t.geometry.p2 ∷ [])))
      go z (inl u) = rw u (Report.counts ((sound-tells t l).0 u))
      go z (inr u) = rw u (Report.unsound z (λ s. true≢false (sym ((sound-tells t l).1 s) ∙ u)))
