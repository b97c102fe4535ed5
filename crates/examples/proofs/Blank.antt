-- What the calls say of zero bytes, worked out from the lengths alone: no array is computed.
use mathlib.Core.Path.{◌≡◌, refl, sym, ◌∙◌, ap}
use mathlib.Core.Bool.{false, cond}
use mathlib.Core.Logic.{inl}
use mathlib.Core.List.{List, [], ◌∷◌}
use Prim.Native.Nat.{ℕ, zero, suc, ◌/◌}
use native.Mathlib.Omega.{arith}
use lib.ListN.{get_or, replicate, length-replicate}
use lib.Pow.{pow_pos}
use Rattle.bits.specs.Slot.{slot, cut}
use Rattle.bits.specs.Tab.{tabulate}
use Rattle.bits.proofs.Bools.{untrue}
use Rattle.routes.specs.Record.{routes_of}
use Rattle.routes.specs.Input.{route_fault, input_said}
use Rattle.routes.specs.Said.{Said, accepted, refused, and_then}
use Rattle.routes.specs.declared.Route.{Route}
use Rattle.standing.specs.Cells.{any}
use Rattle.sail.specs.Geometry.{valid_geo}
use Rattle.sail.specs.Sizes.{sizes_fit, sizes_fault}
use Rattle.sail.specs.Level.{whole}
use Rattle.sail.specs.Sound.{Sound, fresh_table}
use Rattle.sail.specs.Walk.{cell1}
use Rattle.sail.specs.declared.geometry.Geometry.{Geometry}
use Rattle.sail.proofs.Fitting.{Fault, fault-is}
use Rattle.sail_theory.specs.SoundTest.{sound?}
use Rattle.sail_theory.specs.Calls.{Terms, terms_of, announce_fault, withdraw_fault, load_fault, or_say, input_routes, cut_route, cleared, with_flag}
use Rattle.sail_theory.specs.Calls.{make_said, announce_said, withdraw_said, load_said, reported}
use Rattle.sail.specs.Cases.{Sizing, Lookup}
use Rattle.sail_theory.proofs.places.SoundTest.{sound-tells}
use Rattle.sail_theory.proofs.calls.Cleared.{announce-said, withdraw-said}
use Rattle.sail_theory.proofs.calls.Make.{make-said}
use Rattle.sail_theory.proofs.calls.Load.{load_said_lem}
use Rattle.sail.proofs.Judged.{lookup-only}
use Rattle.examples.specs.Blank.{Lengths, zeros, Asked, make, load, announce, withdraw, report, lookup, answer}

-- 1, 2 or 0, by the lengths
abbrev pub fault : Geometry → Lengths → ℕ
fault g n = cond (valid_geo g) (cond (sizes_fit g n.list n.first n.second n.third n.own2 n.own3 n.long1 n.long2) 0 2) 1

abbrev pub terms : Geometry → Lengths → Terms
terms g n = record { geometry = g; room = n.list / 8; most2 = n.own2; most3 = n.own3 }

-- by the cleared prefix
abbrev adds : Geometry → Lengths → Route → Said
adds g n r = or_say (fault g n) (or_say (route_fault r) (or_say (announce_fault false (terms g n) [] r) (accepted (0 ∷ []))))

abbrev takes : Geometry → Lengths → ℕ → ℕ → Said
takes g n a len = or_say (fault g n) (or_say (withdraw_fault false [] a len) (accepted []))

-- the answers, worked out on paper
unfoldable pub paper : Asked → Said
paper (make g n) = or_say (fault g n) (accepted [])
paper (load g n input) = or_say (fault g n) (and_then (input_said input) (or_say (load_fault (terms g n) (input_routes input)) (accepted [])))
paper (announce g n r) = with_flag (cleared r.len r.addr) (adds g n (cut_route r))
paper (withdraw g n a len) = with_flag (cleared len a) (takes g n (cut len a) len)
paper (report g n) = or_say (fault g n) (refused 5)
paper (lookup g n a) = or_say (fault g n) (refused 5)

pub zero-at : (n i : ℕ) → ◌≡◌ {A = ℕ} (get_or (replicate n 0) i 0) 0
zero-at zero i = refl
zero-at (suc n) zero = refl
zero-at (suc n) (suc i) = zero-at n i

module _ (g : Geometry) (n : Lengths) where
  pub zeros-fault : sizes_fault g (zeros n) ≡ fault g n
  unfolding sizes_fault zeros
  zeros-fault = simp length-replicate

  pub zeros-terms : terms_of (fresh_table g) (zeros n) ≡ terms g n
  unfolding zeros
  zeros-terms = simp length-replicate

  -- a first cell of 0 is no leaf
  unsound : Sound (fresh_table g) (zeros n) → ⊥
  unfolding zeros routes_of tabulate any
  unsound s = omega (arith, zero-at n.first 0, s.serves.first.leaf 0 (pow_pos g.p1) refl refl)

  test-fails : sound? (fresh_table g) (zeros n) ≡ false
  test-fails = untrue (sound? (fresh_table g) (zeros n)) (λ e. unsound ((sound-tells (fresh_table g) (zeros n)).0 e))

  -- after the sizes
  after-fault : (s u : Said) → s ≡ u → or_say (sizes_fault g (zeros n)) s ≡ or_say (fault g n) u
  after-fault s u e = rw (zeros-fault, e)

  announce-agrees : (r : Route) → announce_said (fresh_table g) (zeros n) r ≡ adds g n r
  unfolding announce_said routes_of tabulate any
  announce-agrees r = after-fault _ _ (rw (test-fails, zeros-terms))

  withdraw-agrees : (a len : ℕ) → withdraw_said (fresh_table g) (zeros n) a len ≡ takes g n a len
  unfolding withdraw_said routes_of tabulate
  withdraw-agrees a len = after-fault _ _ (rw test-fails)

  load-agrees : (input : List ℕ) → load_said (fresh_table g) (zeros n) input ≡ paper (load g n input)
  unfolding load_said paper
  load-agrees input = after-fault _ _ (rw zeros-terms)

  report-agrees : reported (fresh_table g) (zeros n) ≡ paper (report g n)
  unfolding reported paper
  report-agrees = after-fault _ _ (rw test-fails)

  make-agrees : make_said (fresh_table g) (zeros n) ≡ paper (make g n)
  unfolding make_said paper
  make-agrees = after-fault _ _ refl

  zero-first : (a : ℕ) → cell1 g (whole (zeros n)) a ≡ 0
  unfolding zeros
  zero-first a = zero-at n.first (slot g.p1 a)

  lookup-agrees : (a : ℕ) → answer (lookup g n a) ≡ paper (lookup g n a)
  unfolding answer paper
  lookup-agrees a = go (fault-is g (zeros n)) refl
    where
      told : {m : ℕ} → Lookup (fresh_table g) (zeros n) a (or_say m (refused 5)) → sizes_fault g (zeros n) ≡ m → answer (lookup g n a) ≡ paper (lookup g n a)
      told c e = lookup-only (fresh_table g) (zeros n) a _ c ∙ ap (λ (m : ℕ). or_say m (refused 5)) (sym e ∙ zeros-fault)

      go : {m : ℕ} → Fault g (zeros n) m → sizes_fault g (zeros n) ≡ m → answer (lookup g n a) ≡ paper (lookup g n a)
      go (Fault.none z) e = told (Lookup.first_stray z (record { low = omega (arith, zero-first a); none = inl (zero-first a) })) e
      go (Fault.limits h) e = told (Lookup.sizing 1 (Sizing.limits h)) e
      go (Fault.size v h) e = told (Lookup.sizing 2 (Sizing.size v h)) e

pub agrees : (q : Asked) → answer q ≡ paper q
unfolding answer paper
agrees (make g n) = make-said (fresh_table g) (zeros n) ∙ make-agrees g n
agrees (load g n input) = load_said_lem (fresh_table g) (zeros n) input ∙ load-agrees g n input
agrees (announce g n r) = announce-said (fresh_table g) (zeros n) r ∙ ap (with_flag (cleared r.len r.addr)) (announce-agrees g n (cut_route r))
agrees (withdraw g n a len) = withdraw-said (fresh_table g) (zeros n) a len ∙ ap (with_flag (cleared len a)) (withdraw-agrees g n (cut len a) len)
agrees (report g n) = report-agrees g n
agrees (lookup g n a) = lookup-agrees g n a
