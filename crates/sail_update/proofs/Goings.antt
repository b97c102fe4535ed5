-- Prefixes withdrawn one after the other from a table. How far the message is dealt with is `Going` of update_theory; beside it the table is sound, its chain
-- is at hand, and all that is lent has its size.
use Rattle.std.proofs.Common.{◌≡◌, ℕ, ◌+◌, ◌%◌, ◌^◌, ◌<◌, ◌≤◌, List, length, sym, refl, ap, ◌∙◌, ap₂}
use Rattle.routes.specs.Route.{Prefix}
use Rattle.fields.specs.Entry.{EntryAt, IsEntry, FieldFrom}
use Rattle.fields.specs.declared.entry.Entry.{Entry as Read}
use Rattle.sail.specs.Lent.{Lent}
use Rattle.sail.specs.declared.table.Table.{Table}
use Rattle.sail_theory.specs.Calls.{taking, withdrawn, cleared, out_with_flag}
use Rattle.sail_theory.specs.Facts.{SameSize}
use Rattle.sail_theory.proofs.calls.SameSizes.{size-refl, size-trans}
use Rattle.sail_deal.specs.Dealt.{Ready, PrefixDealt}
use Rattle.update_theory.specs.Deal.{goes}
use Rattle.update_theory.specs.Loops.{Going}
use Rattle.update_theory.proofs.Loops as loops
use Rattle.update_theory.proofs.Loops.{net}
use Rattle.update_theory.specs.Update.{kept, kept_of, turn}
use Rattle.sail_update.specs.Steps.{AllGone}

-- one entry, as the definition has it
goes-stop : (hop : ℕ) (u : Table) (e : Lent) (a len : ℕ) → (turn hop (kept u e) (goes (net a len))).stop ≡ 0
unfolding turn
goes-stop hop u e a len = refl

goes-state : (hop : ℕ) (u : Table) (e : Lent) (a len : ℕ) → Prefix a len → {v : Table} {f : Lent} {ws par : List ℕ} → PrefixDealt u e a len v f ws par
    → (turn hop (kept u e) (goes (net a len))).state ≡ kept v f
unfolding turn withdrawn
goes-state hop u e a len p d =
    ap (λ (x : ℕ). kept_of (out_with_flag (cleared len a) (taking u e x len))) p.clear ∙ ap₂ kept (sym d.left.table) (sym d.left.lent)

-- the loop
pub record Withdrawing (t : Table) (l : Lent) (field : List ℕ) (k at : ℕ) (u : Table) (e : Lent) (ws par : List ℕ) : Type 0 where
  pub ready : Ready u e ws par
  pub size : SameSize l e
  pub going : Going turn (kept t l) field k at (kept u e)

module _ (t : Table) (l : Lent) (field : List ℕ) where
  pub going_start : (ws par : List ℕ) → Ready t l ws par → FieldFrom field 0 → Withdrawing t l field 0 0 t l ws par
  going_start ws par r f = record { ready = r; size = size-refl l; going = loops.going_start turn (kept t l) field f }

  module _ {k at : ℕ} {u : Table} {e : Lent} {ws par : List ℕ} (g : Withdrawing t l field k at u e ws par) where
    pub going_end : length field ≤ at → AllGone t l field k u e ws par
    going_end h = record { ready = g.ready; size = g.size; gone = loops.going_end turn (kept t l) field g.going h }

    module _ (h : at < length field) where
      pub going-entry : EntryAt field at
      going-entry = loops.going-entry turn (kept t l) field g.going h

      pub going_more : (x : Read) → IsEntry field at x → {j : ℕ} → j ≡ (k + 1) % 2 ^ 32 → {v : Table} {f : Lent} {ws' par' : List ℕ}
          → PrefixDealt u e x.addr x.len v f ws' par' → Withdrawing t l field j x.next v f ws' par'
      going_more x i q d = record {
        ready = d.left.ready;
        size = size-trans _ _ _ g.size d.left.size;
        going = loops.going_more turn (kept t l) field g.going h x i q (λ hop. goes-stop hop u e x.addr x.len)
            (λ hop. goes-state hop u e x.addr x.len i.prefix d);
      }
