-- Prefixes announced to a table one after the other; as Goings.antt, by `Coming` of update_theory.
use Rattle.std.proofs.Common.{◌≡◌, ℕ, ◌+◌, ◌%◌, ◌^◌, ◌<◌, ◌≤◌, false, List, length, sym, refl, ap, ◌∙◌, ap₂, arith}
use Rattle.routes.specs.Said.{Said, accepted, refused, refused_at}
use Rattle.routes.specs.declared.Route.{Route}
use Rattle.fields.specs.Entry.{EntryAt, IsEntry, FieldFrom}
use Rattle.fields.specs.Message.{HopOk}
use Rattle.fields.specs.declared.entry.Entry.{Entry as Read}
use Rattle.sail.specs.Lent.{Lent}
use Rattle.sail.specs.declared.table.Table.{Table}
use Rattle.sail_theory.specs.Calls.{Out, route, with_flag, adding}
use Rattle.sail_theory.specs.Cases.{Proper}
use Rattle.sail_theory.specs.Facts.{SameSize}
use Rattle.sail_theory.proofs.calls.Cleared.{announce-fine}
use Rattle.sail_theory.proofs.calls.SameSizes.{size-refl, size-trans}
use Rattle.sail_deal.specs.Dealt.{Ready, RouteDealt}
use Rattle.update_theory.specs.Deal.{comes, stop_of}
use Rattle.update_theory.specs.Loops.{Coming}
use Rattle.update_theory.proofs.Loops as loops
use Rattle.update_theory.proofs.Loops.{net}
use Rattle.update_theory.specs.Update.{kept, kept_of, turn}
use Rattle.sail_update.specs.Steps.{AllCame}

stop-flag : (s : Said) → stop_of (with_flag false s) ≡ stop_of s
stop-flag (accepted vs) = refl
stop-flag (refused n) = refl
stop-flag (refused_at n k) = refl

-- one entry, as the definition has it
module _ (hop : ℕ) (u : Table) (e : Lent) (a len : ℕ) (p : Proper u e (route a len hop 0)) {number : ℕ} {v : Table} {f : Lent} {ws par : List ℕ}
    (d : RouteDealt u e (route a len hop 0) number v f ws par) where
  abbrev r : Route
  r = route a len hop 0

  comes-stop : (turn hop (kept u e) (comes (net a len))).stop ≡ number
  unfolding turn
  comes-stop = ap (λ (o : Out). stop_of o.said) (announce-fine u e r p.fine) ∙ stop-flag (adding u e r).said ∙ sym d.stop

  comes-state : (turn hop (kept u e) (comes (net a len))).state ≡ kept v f
  unfolding turn
  comes-state = ap kept_of (announce-fine u e r p.fine) ∙ ap₂ kept (sym d.left.table) (sym d.left.lent)

-- the loop
pub record Announcing (t : Table) (l : Lent) (field : List ℕ) (hop from k at : ℕ) (u : Table) (e : Lent) (ws par : List ℕ) : Type 0 where
  pub ready : Ready u e ws par
  pub size : SameSize l e
  pub coming : Coming turn (kept t l) field hop from k at (kept u e)

module _ (t : Table) (l : Lent) (field : List ℕ) (hop from : ℕ) where
  pub coming-start : (ws par : List ℕ) → Ready t l ws par → FieldFrom field 0 → Announcing t l field hop from from 0 t l ws par
  coming-start ws par r f = record { ready = r; size = size-refl l; coming = loops.coming-start turn (kept t l) field hop from f }

  module _ {k at : ℕ} {u : Table} {e : Lent} {ws par : List ℕ} (g : Announcing t l field hop from k at u e ws par) where
    pub coming-end : length field ≤ at → AllCame t l field hop from 0 k u e
    coming-end h = loops.coming-end turn (kept t l) field hop from g.coming h

    module _ (h : at < length field) where
      pub coming-entry : EntryAt field at
      coming-entry = loops.coming-entry turn (kept t l) field hop from g.coming h

      module _ (x : Read) (i : IsEntry field at x) (ok : HopOk hop) where
        pub coming-proper : Proper u e (route x.addr x.len hop 0)
        coming-proper = record {
          fine = record { prefix = i.prefix; hop_one = ok.one; hop_ok = ok.most; mark_ok = omega arith };
          sound = g.ready.sound;
        }

        module _ {number : ℕ} {v : Table} {f : Lent} {ws' par' : List ℕ} (d : RouteDealt u e (route x.addr x.len hop 0) number v f ws' par') where
          stops : (turn hop (kept u e) (comes (net x.addr x.len))).stop ≡ number
          stops = comes-stop hop u e x.addr x.len coming-proper d

          states : (turn hop (kept u e) (comes (net x.addr x.len))).state ≡ kept v f
          states = comes-state hop u e x.addr x.len coming-proper d

          pub coming-stop : (number ≡ 0 → ⊥) → AllCame t l field hop from number k v f
          coming-stop n = loops.coming-stop turn (kept t l) field hop from g.coming h x i stops states n

          pub coming-more : number ≡ 0 → {j : ℕ} → j ≡ (k + 1) % 2 ^ 32 → Announcing t l field hop from j x.next v f ws' par'
          coming-more n w = record {
            ready = d.left.ready;
            size = size-trans _ _ _ g.size d.left.size;
            coming = loops.coming-more turn (kept t l) field hop from g.coming h x i stops states n w;
          }
