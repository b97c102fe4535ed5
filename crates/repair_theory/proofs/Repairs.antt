-- A repair whole. A refusal leaves all as it was. Where it is accepted, what it leaves is what a load of the kept records leaves, and so is sound; a
-- sound table keeps all its records; and what a load or a repair has left is not altered.
use mathlib.Core.Path.{◌≡◌, refl, sym, ◌∙◌, ap, subst}
use mathlib.Core.Bool.{true, false, true≢false}
use mathlib.Core.List.{List, [], ◌∷◌}
use Prim.Native.Nat.{ℕ, ◌-◌, ◌/◌, ◌≤◌}
use native.Mathlib.Omega.{arith}
use lib.ListN.{length}
use Rattle.routes.specs.Said.{Said, accepted, accepts}
use Rattle.routes.specs.declared.Route.{Route}
use Rattle.routes.proofs.Rows.{length-routes, length-written}
use Rattle.sail.specs.Lent.{Lent}
use Rattle.sail.specs.Level.{chunks_of}
use Rattle.sail.specs.Sizes.{Sized}
use Rattle.sail.specs.Sound.{Sound, standing}
use Rattle.sail.specs.declared.table.Table.{Table}
use Rattle.sail.proofs.Sounds.{chunks-need}
use Rattle.sail_theory.specs.Calls.{owners_after, no_owners, input_routes, load_said, Out, state_of, lent_of, loaded}
use Rattle.sail_theory.specs.Facts.{SameSize, TableHolds, Loadable}
use Rattle.sail_theory.specs.CallRuns.{Carries}
use Rattle.sail_theory.proofs.owners.Chunks.{used_le}
use Rattle.sail_theory.specs.Cases.{Readable, Load}
use Rattle.sail_theory.proofs.calls.OneCase.{load-only}
use Rattle.sail_theory.proofs.calls.Outcomes.{outcome-said, outcome-refused}
use Rattle.sail_theory.proofs.calls.SameSizes.{size-refl, size-trans, sized_same, load-blind}
use Rattle.sail_theory.proofs.calls.Load.{load_is, load_said_lem, load-holds, loadable-said, loadable-holds, accepted-loadable}
use Rattle.sail_theory.proofs.runs.AsFresh.{carried, same-lookups}
use Rattle.repair_theory.specs.Repair.{looked, kept_routes, kept_bytes, reloaded, differ, dropped, changes, repair_said, repaired}
use Rattle.repair_theory.specs.Cases.{Repair}
use Rattle.repair_theory.specs.Leaves.{Loads, SoundKeeps, untouched, Spared, undone}
use Rattle.repair_theory.proofs.Kept.{kept-all}
use Rattle.repair_theory.proofs.Looks.{looks, kept-good, kept-room}
use Rattle.repair_theory.proofs.Differs.{differ_same}
use Rattle.repair_theory.proofs.Judged as judged
use Rattle.repair_theory.proofs.Judged.{repair-judged, repair-only, kept-loadable}

-- the routes of an input that carries these
pub carried-routes : (input : List ℕ) (rs : List Route) → Carries input rs → input_routes input ≡ rs
carried-routes input rs c = let n : length input / 8 ≡ length rs = omega (arith, c.whole) in rw n c.routes

pub carried-readable : (t : Table) (l : Lent) (input : List ℕ) (rs : List Route) → Carries input rs → Loadable t l rs → Readable t l input
carried-readable t l input rs c w =
    let n : length input / 8 ≡ length rs = omega (arith, c.whole) in
    record { sized = w.sized; whole = rw n c.whole; records = rw n c.records }

-- what a load of these routes leaves, by whichever bytes
carried-is : (t : Table) (l : Lent) (input : List ℕ) (rs : List Route) → Carries input rs → Loadable t l rs
    → loaded t l input ≡ record { said = accepted []; table = state_of t rs; lent = lent_of t l rs (owners_after t.geometry (no_owners l) rs) }
carried-is t l input rs c w =
    let q = carried-routes input rs c in
    load_is t l input (carried-readable t l input rs c w) (rw q w) ∙ rw q

module _ (t : Table) (l : Lent) where
  abbrev rs : List Route
  rs = kept_routes t l

  pub repair-said : (repaired t l).said ≡ repair_said t l
  unfolding repaired
  repair-said = outcome-said (repair_said t l) t l _ _

  -- Refused: the number alone, and all as it was. (The number is that of the first condition that holds: `repair-judged`.)
  pub refused-leaves-all-repair : accepts (repaired t l).said ≡ false → repaired t l ≡ record { said = repair_said t l; table = t; lent = l }
  unfolding repaired
  refused-leaves-all-repair e = outcome-refused (repair_said t l) t l _ _ (sym (ap accepts repair-said) ∙ e)

  accepted-loads : accepts (repaired t l).said ≡ true → Loadable t l rs
  accepted-loads e = judged.accepted-loadable t l (sym (ap accepts repair-said) ∙ e)

  -- the bytes of the kept records hold them, and nothing else
  pub kept-carried : length rs ≤ 4096 → Carries (kept_bytes t l) rs
  kept-carried h = carried rs (kept-good t l) h

  module _ (w : Loadable t l rs) where
    carries : Carries (kept_bytes t l) rs
    carries = kept-carried (omega (arith, w.roomy, w.sized.room))

    pub reload-is : reloaded t l ≡ record { said = accepted []; table = state_of t rs; lent = lent_of t l rs (owners_after t.geometry (no_owners l) rs) }
    reload-is = carried-is t l (kept_bytes t l) rs carries w

    pub repair-is : repaired t l ≡ record { said = accepted (changes t l); table = (reloaded t l).table; lent = (reloaded t l).lent }
    unfolding repaired
    repair-is = rw (repair-only t l _ (Repair.done w))

  kept-readable : Sized t.geometry l → Readable t l (kept_bytes t l)
  kept-readable z =
      let c = kept-carried (omega (arith, kept-room t l, z.room)) in
      let n : length (kept_bytes t l) / 8 ≡ length rs = omega (arith, c.whole) in
      record { sized = z; whole = rw n c.whole; records = rw n c.records }

  -- "Refusals: 1, 2, then 7, 8 over the kept records": where it is refused, a load of the kept records is, and with the same number
  pub repair-as-load : accepts (repair_said t l) ≡ false → load_said t l (kept_bytes t l) ≡ repair_said t l
  repair-as-load e = go (repair-judged t l) e
    where
      q : Sized t.geometry l → input_routes (kept_bytes t l) ≡ rs
      q z = carried-routes (kept_bytes t l) rs (kept-carried (omega (arith, kept-room t l, z.room)))

      n : length (kept_bytes t l) / 8 ≡ length rs
      n = omega (arith, length-written rs (length rs))

      go : {s : Said} → Repair t l s → accepts s ≡ false → load_said t l (kept_bytes t l) ≡ s
      go (Repair.sizing m h) e = load-only t l (kept_bytes t l) _ (Load.sizing m h)
      go (Repair.second z x) e = load-only t l (kept_bytes t l) _ (Load.second (kept-readable z) (rw n (kept-room t l)) (rw (q z) x))
      go (Repair.third z x y) e = load-only t l (kept_bytes t l) _ (Load.third (kept-readable z) (rw n (kept-room t l)) (rw (q z) x) (rw (q z) y))
      go (Repair.done w) e = absurd (true≢false e)

  -- Accepted: "It loads what was kept"
  module _ (e : accepts (repaired t l).said ≡ true) where
    abbrev w : Loadable t l rs
    w = accepted-loads e

    pub repair-loads : Loads t l
    repair-loads =
        let q = repair-is w in
        record { loads = ap (λ (o : Out). o.said) (reload-is w); table = ap (λ (o : Out). o.table) q; lent = ap (λ (o : Out). o.lent) q }

    -- sound, of the same geometry and sizes, and its list holds the kept records
    pub repair-holds : TableHolds t l rs (repaired t l).table (repaired t l).lent
    repair-holds =
        rw (repair-loads.table, repair-loads.lent) (subst (λ (o : Out). TableHolds t l rs o.table o.lent) (sym (reload-is w)) (loadable-holds t l rs w))

    pub repair-sound : Sound (repaired t l).table (repaired t l).lent
    repair-sound = repair-holds.sound

-- "A sound table keeps all its records"
module _ (t : Table) (l : Lent) (s : Sound t l) where
  sound-looked : looked t l ≡ t.count
  sound-looked = (looks t l).to_count (omega (arith, s.listed.records.room))

  pub sound-kept : kept_routes t l ≡ standing t l
  unfolding kept_routes
  sound-kept = rw sound-looked (kept-all l.list t.count s.listed.records.each s.listed.records.rises)

  pub sound-dropped : dropped t l ≡ 0
  sound-dropped = rw (sound-looked, sound-kept, length-routes l.list t.count) (omega arith)

  sound-loadable : Loadable t l (kept_routes t l)
  sound-loadable =
      let n = chunks-need t l s in
      kept-loadable t l s.sized
      (rw sound-kept (omega (arith, n.0, used_le (chunks_of l.own2))))
      (rw sound-kept (omega (arith, n.1, used_le (chunks_of l.own3))))

  pub sound-accepted : (repaired t l).said ≡ accepted (changes t l)
  sound-accepted = ap (λ (o : Out). o.said) (repair-is t l sound-loadable)

  pub repair-sound-keeps : SoundKeeps t l
  repair-sound-keeps =
      let e : accepts (repaired t l).said ≡ true = rw sound-accepted in
      let h = repair-holds t l e in
      let q = h.routes ∙ sound-kept in
      record {
        accepted_so = e;
        keeps_all = sound-kept;
        drops_none = sound-dropped;
        stands = q;
        serves = same-lookups t l (repaired t l).table (repaired t l).lent s h.sound h.geometry q;
      }

-- A table as a load left it, and a fault that spares its list.
module _ (t : Table) (l : Lent) (input : List ℕ) (e : accepts (loaded t l input).said ≡ true) where
  abbrev u : Table
  u = (loaded t l input).table

  abbrev v : Lent
  v = (loaded t l input).lent

  h : TableHolds t l (input_routes input) u v
  h = load-holds t l input e

  ok : Readable t l input × Loadable t l (input_routes input)
  ok = accepted-loadable t l input (sym (ap accepts (load_said_lem t l input)) ∙ e)

  module _ (d : Lent) (f : Spared v d) where
    size : SameSize l d
    size = size-trans l v d h.size f.size

    kept-spared : (kept_routes u d ≡ kept_routes u v) × (dropped u d ≡ dropped u v)
    unfolding kept_routes looked
    kept-spared = (rw f.list, rw f.list)

    kept-input : kept_routes u d ≡ input_routes input
    kept-input = kept-spared.0 ∙ sound-kept u v h.sound ∙ h.routes

    input-loadable : Loadable u d (kept_routes u d)
    input-loadable =
        kept-loadable u d (sized_same u.geometry v d h.sound.sized f.size)
        (rw (kept-input, h.geometry, size.chunks2) ok.1.enough2)
        (rw (kept-input, h.geometry, size.chunks3) ok.1.enough3)

    carries-input : Carries (kept_bytes u d) (input_routes input)
    carries-input =
        subst (Carries (kept_bytes u d)) kept-input (kept-carried u d (rw kept-input (omega (arith, ok.1.roomy, ok.1.sized.room))))

    -- a load of what it holds leaves the same
    reload-same : reloaded u d ≡ loaded t l input
    reload-same =
        load-blind t l u d h.geometry size (kept_bytes u d) (rw (carried-said carries-input))
        ∙ carried-is t l (kept_bytes u d) (input_routes input) carries-input ok.1
        ∙ sym (load_is t l input ok.0 ok.1)
      where
        carried-said : Carries (kept_bytes u d) (input_routes input) → load_said t l (kept_bytes u d) ≡ accepted []
        carried-said c =
            loadable-said t l (kept_bytes u d) (carried-readable t l (kept_bytes u d) (input_routes input) c ok.1)
            (rw (carried-routes (kept_bytes u d) (input_routes input) c) ok.1)

    -- Whatever was done to the cells, the owners and the counts: all is as the load had left it, and the damaged cells are counted.
    pub repair-undoes : repaired u d ≡ undone u v d
    repair-undoes =
        repair-is u d input-loadable ∙ rw (kept-spared.1, sound-dropped u v h.sound) (λ i.
        record {
          said = accepted (
              0
              ∷ differ d.first (reload-same i).lent.first
              ∷ differ d.second (reload-same i).lent.second
              ∷ differ d.third (reload-same i).lent.third
              ∷ []
              );
          table = (reload-same i).table;
          lent = (reload-same i).lent;
        })

  -- and where nothing was done, nothing is altered
  pub repair-fresh : repaired u v ≡ untouched u v
  repair-fresh =
      repair-undoes v (record { size = size-refl v; list = refl })
      ∙ rw (differ_same v.first v.first refl, differ_same v.second v.second refl, differ_same v.third v.third refl)

-- a second repair finds nothing
pub repair-again : (t : Table) (l : Lent) → accepts (repaired t l).said ≡ true
    → repaired (repaired t l).table (repaired t l).lent ≡ untouched (repaired t l).table (repaired t l).lent
repair-again t l e =
    let k = repair-loads t l e in
    rw (k.table, k.lent) (repair-fresh t l (kept_bytes t l) (rw k.loads))
