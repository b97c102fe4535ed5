-- The field of a list, dealt to a fresh table that has room for these routes with the message's hop and mark 0: these then stand. Each entry is an
-- announcement, and announced one by one they are all added, as in a load.
use mathlib.Core.Path.{◌≡◌, refl, ap, ◌∙◌}
use mathlib.Core.Bool.{true}
use mathlib.Core.List.{List, [], ◌∷◌, ◌++◌, map}
use Prim.Native.Nat.{ℕ, suc, ◌+◌, ◌%◌, ◌^◌}
use native.Mathlib.Omega.{arith}
use lib.ListN.{length, take}
use Rattle.routes.specs.Record.{routes_in}
use Rattle.routes.specs.Said.{accepted, accepts}
use Rattle.routes.specs.declared.Route.{Route}
use Rattle.fields.specs.Field.{Net, net_of, Field, entries, field_of}
use Rattle.fields.specs.Message.{HopOk}
use Rattle.fields.specs.Written.{write_said, field_written}
use Rattle.fields.proofs.Fields.{told-field, entries_none}
use Rattle.fields.proofs.Reading.{from_start}
use Rattle.fields.proofs.WriterSays.{read-written}
use Rattle.sail.specs.Lent.{Lent}
use Rattle.sail.specs.Sound.{standing}
use Rattle.sail.specs.declared.table.Table.{Table}
use Rattle.sail_theory.specs.Calls.{Out, route, state_of, made, announced}
use Rattle.sail_theory.specs.CallRuns.{announce_all, AllAdded}
use Rattle.sail_theory.specs.Facts.{Loadable}
use Rattle.sail_theory.proofs.calls.Load.{loadable-holds, loadable-announces}
use Rattle.sail_theory.proofs.calls.Make.{make-holds}
use Rattle.update_theory.specs.Cases.{Dealable}
use Rattle.update_theory.specs.Deal.{goes, comes, all_entries, deal_by, stop_of}
use Rattle.update_theory.specs.Update.{Kept, kept_of, turn, dealt_out, updated}
use Rattle.update_theory.proofs.Deals.{deal-more, deal-end}
use Rattle.update_theory.proofs.Cases.{dealable-on}

-- the route of a prefix that a message announces
abbrev pub with_hop : ℕ → Route → Route
with_hop hop r = route r.addr r.len hop 0

module _ (hop : ℕ) where
  comes-state : (o : Out) (r : Route) → (turn hop (kept_of o) (comes (net_of r))).state ≡ kept_of (announced o.table o.lent (with_hop hop r))
  unfolding turn
  comes-state o r = refl

  comes-stop : (o : Out) (r : Route) → (announced o.table o.lent (with_hop hop r)).said ≡ accepted (0 ∷ 0 ∷ [])
      → (turn hop (kept_of o) (comes (net_of r))).stop ≡ 0
  unfolding turn
  comes-stop o r e = ap stop_of e

  all_come : (k : ℕ) (o : Out) (rs : List Route) → AllAdded o (map (with_hop hop) rs)
      → deal_by (turn hop) k (kept_of o) (map comes (map net_of rs))
      ≡ record { stop = 0; dealt = k + length rs; state = kept_of (announce_all o (map (with_hop hop) rs)) }
  unfolding announce_all AllAdded
  all_come k o [] a = deal-end (turn hop) k (kept_of o) ∙ ap (λ (n : ℕ). record { stop = 0; dealt = n; state = kept_of o }) (omega arith)
  all_come k o (r ∷ rs) a =
      let next : Out = announced o.table o.lent (with_hop hop r) in
      deal-more (turn hop) k (kept_of o) (comes (net_of r)) (map comes (map net_of rs)) (comes-stop o r a.0)
      ∙ ap (λ (s : Kept). deal_by (turn hop) (suc k) s (map comes (map net_of rs))) (comes-state o r)
      ∙ all_come (suc k) next rs a.1
      ∙ ap (λ (n : ℕ). record { stop = 0; dealt = n; state = kept_of (announce_all next (map (with_hop hop) rs)) }) (omega arith)

module _ (t : Table) (l : Lent) (s buffer : List ℕ) (fits : accepts (write_said s buffer) ≡ true) (hop : ℕ) (ok : HopOk hop)
    (room : Loadable t l (map (with_hop hop) (routes_in s))) where
  abbrev rs : List Route
  rs = routes_in s

  -- what the writer put out
  abbrev put : List ℕ
  put = take (length (field_of rs)) (field_written s buffer).out

  dealable : Dealable (made t l).table (made t l).lent [] put hop
  dealable =
      let w = read-written s buffer fits in
      record {
        sound = (make-holds t l room.sized).sound;
        fields = record {
          gone = ([], Field.none);
          come = (entries put, told-field put (from_start put _ refl w.0).whole);
        };
        hop_ok = ok;
      }

  dealt : deal_by (turn hop) 0 (kept_of (made t l)) (all_entries [] put)
      ≡ record { stop = 0; dealt = length rs; state = kept_of (announce_all (made t l) (map (with_hop hop) rs)) }
  dealt =
      ap (λ (ns : List Net). deal_by (turn hop) 0 (kept_of (made t l)) (map goes ns ++ map comes (entries put))) entries_none
      ∙ ap (λ (ns : List Net). deal_by (turn hop) 0 (kept_of (made t l)) (map comes ns)) (read-written s buffer fits).1
      ∙ all_come hop 0 (made t l) rs (loadable-announces t l (map (with_hop hop) rs) room).2
      ∙ ap (λ (n : ℕ). record { stop = 0; dealt = n; state = kept_of (announce_all (made t l) (map (with_hop hop) rs)) }) (omega arith)

  pub read-written-update : ((updated (made t l).table (made t l).lent [] put hop).said ≡ accepted (length rs % 2 ^ 32 ∷ []))
      × (standing (updated (made t l).table (made t l).lent [] put hop).table (updated (made t l).table (made t l).lent [] put hop).lent
      ≡ map (with_hop hop) rs)
  read-written-update =
      let on = dealable-on (made t l).table (made t l).lent [] put hop dealable ∙ ap dealt_out dealt in
      let a = loadable-announces t l (map (with_hop hop) rs) room in (
        ap (λ (o : Out). o.said) on,
        ap (λ (o : Out). standing o.table o.lent) on
            ∙ ap (λ (x : Table). standing x (announce_all (made t l) (map (with_hop hop) rs)).lent) a.0
            ∙ ap (λ (x : Lent). standing (state_of t (map (with_hop hop) rs)) x) a.1
            ∙ (loadable-holds t l (map (with_hop hop) rs) room).routes,
      )
