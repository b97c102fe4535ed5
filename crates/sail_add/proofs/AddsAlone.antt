-- A route added to a table that has its pools alone. Alone it is itself, its free chunks are blank, and what is left is the table that is asked for.
use mathlib.Core.Path.{◌≡◌, sym, ◌∙◌, subst}
use mathlib.Core.List.{List}
use Prim.Native.Nat.{ℕ}
use native.Mathlib.Omega.{arith}
use Rattle.routes.specs.declared.Route.{Route}
use Rattle.standing.specs.Standing.{insert}
use Rattle.sail.specs.Geometry.{bits2, bits3}
use Rattle.sail.specs.Lent.{Lent}
use Rattle.sail.specs.Level.{chunks_of}
use Rattle.sail.specs.Sound.{standing}
use Rattle.sail.specs.declared.table.Table.{Table}
use Rattle.sail_theory.specs.Render.{find}
use Rattle.sail_theory.specs.Calls.{opened, owners_of, state_of, lent_of}
use Rattle.sail_theory.specs.Facts.{AnnounceableWith}
use Rattle.sail_theory.specs.Shared.{alone}
use Rattle.sail_theory.proofs.calls.ChangeHolds.{lowest-with, welcome-holds}
use Rattle.sail_theory.proofs.calls.Outcomes.{adding-is}
use Rattle.sail_theory.proofs.owners.Chunks.{chunk-le}
use Rattle.sail_theory.proofs.places.Alone.{blank-comes, blank-second, blank-third, blank-long2, alone-same, mixed-sound}
use Rattle.sail_judge.specs.Announce.{ToAdd}
use Rattle.sail_judge.specs.declared.announce.AnnounceVerdict.{AnnounceVerdict}
use Rattle.sail_add.specs.Added.{MeetsAdd, ToAddIn, MeetsAddIn}

module _ {t : Table} {l : Lent} {r : Route} {f : AnnounceVerdict} (ready : ToAdd t l r f) where
  -- the lowest free chunks
  lowest-in : ToAddIn t l r f (find l.own2 0) (find l.own3 0)
  lowest-in =
      let s = ready.may.sound in
      record {
        may = subst (λ (x : Lent). AnnounceableWith t x r (find l.own2 0) (find l.own3 0)) (sym (alone-same t l s)) (lowest-with t l r ready.may);
        found = ready.found;
        few2 = omega (arith, s.sized.few2, chunk-le (chunks_of l.own2) 0);
        blank2 = blank-comes l.own2 _ (bits2 t.geometry) l.second (blank-second t l s);
        blank3 = blank-comes l.own3 _ (bits3 t.geometry) l.third (blank-third t l s);
        uncounted = blank-comes l.own2 _ (bits2 t.geometry) l.long2 (blank-long2 t l s);
      }

  module _ {c2 c3 : ℕ} (e2 : c2 ≡ find l.own2 0) (e3 : c3 ≡ find l.own3 0) where
    pub add-in : ToAddIn t l r f c2 c3
    add-in = rw (e2, e3) lowest-in

    pub add_is : {u : Table} {e : Lent} → MeetsAddIn t l r c2 c3 u e → MeetsAdd t l r u e
    add_is {u} {e} m =
        let next : List Route = insert r (standing t l) in
        let asked : Lent = lent_of t l next (opened t.geometry (owners_of l) r) in
        let h = welcome-holds t l r ready.may in
        let left : e ≡ asked
        = (rw (e2, e3) at m.1)
        ∙ mixed-sound t (state_of t next) l asked ready.may.sound h.sound h.geometry h.size.second h.size.third h.size.counts2 in
        rw (m.0, left) (sym (adding-is t l r ready.may))
