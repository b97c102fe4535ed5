-- Demand 3 goes on from a repaired table: what a repair leaves, a run from a fresh table leaves too, namely a load of the kept records; and so it is
-- with all calls that follow. What demand 3 says of runs it says of these.
use mathlib.Core.Path.{◌≡◌, refl, sym, ◌∙◌, ap}
use mathlib.Core.Bool.{true}
use mathlib.Core.List.{List, [], ◌∷◌, ◌++◌}
use Prim.Native.Nat.{ℕ}
use Rattle.routes.specs.Said.{accepts}
use Rattle.standing.specs.Standing.{route_at}
use Rattle.sail.specs.Lent.{Lent}
use Rattle.sail.specs.Sizes.{Sized}
use Rattle.sail.specs.Sound.{Sound, standing}
use Rattle.sail.specs.declared.table.Table.{Table}
use Rattle.sail_theory.specs.Calls.{Out, made, loaded}
use Rattle.sail_theory.specs.Facts.{SameSize}
use Rattle.sail_theory.specs.CallRuns.{Call, done, after, held_by_calls, Carries, AsFresh}
use Rattle.sail_theory.proofs.calls.Make.{make-holds}
use Rattle.sail_theory.proofs.calls.SameSizes.{load-blind}
use Rattle.sail_theory.proofs.calls.Load.{load_said_lem}
use Rattle.sail_theory.proofs.runs.AfterRun as runs
use Rattle.sail_theory.proofs.runs.AsFresh.{run-as-fresh}
use Rattle.repair_theory.specs.Repair.{kept_bytes, repaired}
use Rattle.repair_theory.specs.Onwards.{onwards, SameOut, as_run}
use Rattle.repair_theory.proofs.Judged.{accepted-loadable}
use Rattle.repair_theory.proofs.Repairs.{repair-said, repair-loads}

-- from there the same calls lead to the same
onwards-same : (o p : Out) → SameOut o p → (cs : List Call) → SameOut (onwards o cs) (onwards p cs)
unfolding onwards
onwards-same o p e [] = e
onwards-same o p e (c ∷ cs) = let k = onwards-same o p e cs in record { table = rw (k.table, k.lent); lent = rw (k.table, k.lent) }

-- calls after a run are a run
onwards-after : (t : Table) (l : Lent) (bs cs : List Call) → onwards (after t l bs) cs ≡ after t l (cs ++ bs)
unfolding onwards after
onwards-after t l bs [] = refl
onwards-after t l bs (c ∷ cs) = rw (onwards-after t l bs cs)

module _ (t : Table) (l : Lent) (e : accepts (repaired t l).said ≡ true) where
  sized : Sized t.geometry l
  sized = (accepted-loadable t l (sym (ap accepts (repair-said t l)) ∙ e)).sized

  repair-run : SameOut (repaired t l) (after t l (as_run t l []))
  unfolding after done
  repair-run =
      let k = repair-loads t l e in
      let h = make-holds t l sized in
      let q : loaded (made t l).table (made t l).lent (kept_bytes t l) ≡ loaded t l (kept_bytes t l)
      = load-blind t l (made t l).table (made t l).lent h.geometry h.size (kept_bytes t l) (rw (sym (load_said_lem t l (kept_bytes t l)) ∙ k.loads)) in
      record { table = k.table ∙ sym (ap (λ (o : Out). o.table) q); lent = k.lent ∙ sym (ap (λ (o : Out). o.lent) q) }

  pub goes_on : (cs : List Call) → SameOut (onwards (repaired t l) cs) (after t l (as_run t l cs))
  goes_on cs =
      let k = onwards-same _ _ repair-run cs in
      let q = onwards-after t l (as_run t l []) cs in
      record { table = k.table ∙ ap (λ (o : Out). o.table) q; lent = k.lent ∙ ap (λ (o : Out). o.lent) q }

  -- so any calls after a repair leave a sound table,
  pub onwards-sound : (cs : List Call) → Sound (onwards (repaired t l) cs).table (onwards (repaired t l) cs).lent
  onwards-sound cs = let k = goes_on cs in rw (k.table, k.lent) (runs.run_sound t l sized (as_run t l cs))

  -- in which stands what the kept records and the accepted calls say,
  pub onwards-standing : (cs : List Call) (k : ℕ)
      → route_at k (standing (onwards (repaired t l) cs).table (onwards (repaired t l) cs).lent) ≡ held_by_calls t l (as_run t l cs) k
  onwards-standing cs j = let k = goes_on cs in rw (k.table, k.lent) (runs.run-standing t l sized (as_run t l cs) j)

  -- and which serves every address as a fresh load of these does, in as many chunks
  pub onwards-as-fresh : (cs : List Call) (u : Table) (v : Lent) → u.geometry ≡ t.geometry → SameSize l v
      → (input : List ℕ) → Carries input (standing (onwards (repaired t l) cs).table (onwards (repaired t l) cs).lent)
      → AsFresh (onwards (repaired t l) cs).table (onwards (repaired t l) cs).lent (loaded u v input)
  onwards-as-fresh cs u v geo size input c =
      let k = goes_on cs in
      rw (k.table, k.lent) (run-as-fresh t l sized (as_run t l cs) u v geo size input (rw (k.table, k.lent) at c))
