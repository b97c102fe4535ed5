-- Demand 1. "Every call answers for every input, damaged tables and files included, and ends. A refusal is never a hop. It carries its number,
-- and the caller's state and buffers stay exactly as they were."
--
-- That every call answers for every input and ends is the language's own promise: a crate is built only where each of its functions is shown
-- to end, and a call on offer has no `requires`. What it answers is its contract's equation; the theorems below say what the equations mean.
-- Calls that take their arrays by `&` cannot change them. For those that change something, a refusal leaves all as it was. (A repair is in
-- Repairs.antt, the changes of an image in Images.antt, and messages, with the one exception, in Messages.antt.)
use Rattle.std.specs.Prelude.{Result, Err}
use mathlib.Core.Path.{◌≡◌, refl, sym, ◌∙◌, ap}
use mathlib.Core.Logic.{◌↔◌}
use mathlib.Core.Bool.{false, false≢true}
use mathlib.Core.List.{List, []}
use Prim.Native.Nat.{ℕ}
use native.Mathlib.Omega.{arith}
use lib.ListN.{replicate}
use Rattle.bits.specs.Slot.{cut}
use Rattle.routes.specs.Input.{input_said}
use Rattle.routes.specs.Answers.{route_said}
use Rattle.routes.specs.Said.{Said, accepted, refused, refused_at, accepts}
use Rattle.routes.specs.declared.Route.{Route}
use Rattle.routes.specs.Cases.{Checked, RouteRead}
use Rattle.routes.proofs.Meaning.{input-checked}
use Rattle.routes.proofs.Judged.{check-only, route-judged, route-only, exactly}
use Rattle.longest.specs.Cases.{LongestRead}
use Rattle.longest.specs.Said.{longest_said}
use Rattle.longest.proofs.Judged.{longest-judged, longest-only}
use Rattle.runs.specs.Run.{run_said, run_of, run_at}
use Rattle.runs.specs.Tally.{tally_of}
use Rattle.runs.proofs.Runs.{run-refused}
use Rattle.runs.proofs.Tallies.{tally-refused}
use Rattle.sail.specs.Lent.{Lent}
use Rattle.sail.specs.Walk.{lookup_said}
use Rattle.routes.specs.Answers.{found_values, means_found}
use Rattle.refusals.specs.declared.Refusal.{Refusal}
use Rattle.refusals.specs.declared.Refusal.TheVariants as refusal
use Rattle.sail.specs.declared.table.Table.{Table}
use Rattle.routes.specs.declared.found.Found.{Found}
use Rattle.routes.proofs.Saids.{plainly-refused}
use Rattle.refusals.specs.Numbers.{number_of}
use Rattle.sail_theory.specs.Calls.{made, cut_route, cleared, with_flag, announced, withdrawn, loaded, reported}
use Rattle.sail_theory.specs.Cases.{Make, Announce, Withdraw, Load, Report}
use Rattle.sail_theory.proofs.calls.SomeCase.{make-judged, announce-judged, withdraw-judged, load-judged, report-judged}
use Rattle.sail_theory.proofs.calls.OneCase.{make-only, announce-only, withdraw-only, load-only, report-only}
use Rattle.sail_theory.proofs.calls.Cleared.{announce-said, withdraw-said}
use Rattle.sail_theory.proofs.calls.Make.{make-said}
use Rattle.sail_theory.proofs.calls.Load.{load_said_lem}
use Rattle.sail_theory.proofs.calls.Refusals.{told-exactly, make-leaves, load-leaves, announce-leaves, withdraw-leaves}
use Rattle.tree_image.specs.Walk.{tree_said}
use Rattle.tree_build.specs.Built.{built}
use Rattle.tree_build.proofs.Serves.{refused-leaves}
use Rattle.runs.specs.Cases.{RunChecked}
use Rattle.runs.proofs.Judged.{run-judged, run_only}
use Rattle.sail.specs.Cases.{Lookup}
use Rattle.sail.proofs.Judged.{lookup-judged, lookup-only}
use Rattle.tree_build.specs.Cases.{Build}
use Rattle.tree_build.proofs.Judged.{build-judged, build-only}
use Rattle.tree_image.specs.Cases.{TreeLookup}
use Rattle.tree_image.proofs.Judged.{tree-judged, tree-only, refused-broken}

-- "A refusal is never a hop."

-- what is refused has a number, and no hop and no count
pub refused-no-values : (n : ℕ) (vs : List ℕ) → refused n ≡ accepted vs → ⊥
refused-no-values n vs e = let z : ◌≡◌ {A = ℕ} 0 1 = cc in omega arith

pub refused-at-no-values : (n k : ℕ) (vs : List ℕ) → refused_at n k ≡ accepted vs → ⊥
refused-at-no-values n k vs e = let z : ◌≡◌ {A = ℕ} 0 1 = cc in omega arith

-- so the answer of a lookup that is refused is the number alone
pub refused-no-hop-lookup : (t : Table) (l : Lent) (a : ℕ) (r : Result Found Refusal) → means_found r ≡ lookup_said t l a → (n : ℕ)
    → lookup_said t l a ≡ refused n → (why : Refusal) × (r ≡ Err why) × (number_of why ≡ n)
refused-no-hop-lookup t l a r e n q = plainly-refused found_values r n (e ∙ q)

-- and in an image that number is 13
pub refused-no-hop-tree : (ws hs : List ℕ) (a : ℕ) (r : Result Found Refusal) → means_found r ≡ tree_said ws hs a → (n : ℕ) → tree_said ws hs a ≡ refused n →
    (n ≡ 13) × (r ≡ Err refusal.Broken)
refused-no-hop-tree ws hs a r e n q = refused-broken ws hs a n r e q

-- a refused tally holds 33 zeros, and a refused run is the empty part at the list's start
pub refused-tally : (bytes : List ℕ) → accepts (input_said bytes) ≡ false → tally_of bytes ≡ replicate 33 0
refused-tally = tally-refused

pub refused-run : (bytes : List ℕ) (a len : ℕ) → accepts (run_said bytes a len) ≡ false → (run_of bytes a len ≡ []) × (run_at bytes a len ≡ 0)
refused-run = run-refused

-- "It carries its number": a call says s exactly where the condition that stands beside s holds. The conditions are listed in document 01's
-- order, each with the failure of those before it; so the number is that of the first that holds.

-- check_input, and with it the tally: the length (10), record by record 3, 4, mark (10), order (10), then 6
pub refused-number-check-input : (bytes : List ℕ) (s : Said) → (input_said bytes ≡ s) ↔ Checked bytes s
refused-number-check-input bytes = exactly (Checked bytes) _ _ refl (input-checked bytes) (check-only bytes)

-- route_at: the input's
pub refused-number-route-at : (bytes : List ℕ) (k : ℕ) (s : Said) → (route_said bytes k ≡ s) ↔ RouteRead bytes k s
refused-number-route-at bytes k = exactly (RouteRead bytes k) _ _ refl (route-judged bytes k) (route-only bytes k)

-- longest: the input's
pub refused-number-longest : (bytes : List ℕ) (a : ℕ) (s : Said) → (longest_said bytes a ≡ s) ↔ LongestRead bytes a s
refused-number-longest bytes a = exactly (LongestRead bytes a) _ _ refl (longest-judged bytes a) (longest-only bytes a)

-- run_check: the input's, then 3
pub refused-number-run-check : (bytes : List ℕ) (a len : ℕ) (s : Said) → (run_said bytes a len ≡ s) ↔ RunChecked bytes a len s
refused-number-run-check bytes a len = exactly (RunChecked bytes a len) _ _ refl (run-judged bytes a len) (run_only bytes a len)

-- build: the input's, then 11, 12
pub refused-number-build : (input words hops : List ℕ) (s : Said) → ((built input words hops).said ≡ s) ↔ Build input words hops s
refused-number-build input words hops = exactly (Build input words hops) _ _ refl (build-judged input words hops) (build-only input words hops)

module _ (t : Table) (l : Lent) where
  -- make: 1, 2
  pub refused-number-make : (s : Said) → ((made t l).said ≡ s) ↔ Make t l s
  refused-number-make = exactly (Make t l) _ _ (make-said t l) (make-judged t l) (make-only t l)

  -- load: 1, 2, the input's, then 6, 7, 8
  pub refused-number-load : (input : List ℕ) (s : Said) → ((loaded t l input).said ≡ s) ↔ Load t l input s
  refused-number-load input = exactly (Load t l input) _ _ (load_said_lem t l input) (load-judged t l input) (load-only t l input)

  -- announce: 1, 2, 3, 4, 10, 5, 6, 7, 8; a replacement never meets 6 to 8. The conditions are on the route with its bits after the length
  -- cleared, and what is accepted says first whether any were
  pub refused-number-announce : (r : Route) (s : Said) → ((announced t l r).said ≡ with_flag (cleared r.len r.addr) s) ↔ Announce t l (cut_route r) s
  refused-number-announce r =
      told-exactly _ (Announce t l (cut_route r)) _ _ (announce-said t l r) (announce-judged t l (cut_route r)) (announce-only t l (cut_route r))

  -- withdraw: 1, 2, 3, 5, 9, of the cleared prefix
  pub refused-number-withdraw : (a len : ℕ) (s : Said) → ((withdrawn t l a len).said ≡ with_flag (cleared len a) s) ↔ Withdraw t l (cut len a) len s
  refused-number-withdraw a len =
      told-exactly _ (Withdraw t l (cut len a) len) _ _ (withdraw-said t l a len) (withdraw-judged t l (cut len a) len) (withdraw-only t l (cut len a) len)

  -- report: 1, 2, 5
  pub refused-number-report : (s : Said) → (reported t l ≡ s) ↔ Report t l s
  refused-number-report = exactly (Report t l) _ _ refl (report-judged t l) (report-only t l)

  -- lookup: 1, 2, 5
  pub refused-number-lookup : (a : ℕ) (s : Said) → (lookup_said t l a ≡ s) ↔ Lookup t l a s
  refused-number-lookup a = exactly (Lookup t l a) _ _ refl (lookup-judged t l a) (lookup-only t l a)

-- lookup in an image: 13
pub refused-number-tree-lookup : (words hops : List ℕ) (a : ℕ) (s : Said) → (tree_said words hops a ≡ s) ↔ TreeLookup words hops a s
refused-number-tree-lookup words hops a = exactly (TreeLookup words hops a) _ _ refl (tree-judged words hops a) (tree-only words hops a)

-- "The caller's state and buffers stay exactly as they were."
module _ (t : Table) (l : Lent) where
  pub refused-leaves-all-make : accepts (made t l).said ≡ false → ((made t l).table ≡ t) × ((made t l).lent ≡ l)
  refused-leaves-all-make = make-leaves t l

  pub refused-leaves-all-load : (input : List ℕ) → accepts (loaded t l input).said ≡ false → ((loaded t l input).table ≡ t) × ((loaded t l input).lent ≡ l)
  refused-leaves-all-load = load-leaves t l

  pub refused-leaves-all-announce : (r : Route) → accepts (announced t l r).said ≡ false → ((announced t l r).table ≡ t) × ((announced t l r).lent ≡ l)
  refused-leaves-all-announce = announce-leaves t l

  pub refused-leaves-all-withdraw : (a len : ℕ) → accepts (withdrawn t l a len).said ≡ false → ((withdrawn t l a len).table ≡ t) ×
      ((withdrawn t l a len).lent ≡ l)
  refused-leaves-all-withdraw = withdraw-leaves t l

pub refused-leaves-all-build : (input words hops : List ℕ) → accepts (built input words hops).said ≡ false → ((built input words hops).words ≡ words)
    × ((built input words hops).hops ≡ hops)
refused-leaves-all-build input words hops e = refused-leaves input words hops (λ vs q. false≢true (sym e ∙ ap accepts q))
