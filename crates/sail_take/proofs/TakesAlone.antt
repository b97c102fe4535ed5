-- A table whose pools nobody else uses: alone it is itself, and what is left is `taking`.
use mathlib.Core.Path.{◌≡◌, sym, ◌∙◌, ap}
use mathlib.Core.List.{[]}
use Prim.Native.Nat.{ℕ}
use Rattle.routes.specs.Said.{accepted}
use Rattle.sail.specs.Lent.{Lent}
use Rattle.sail.specs.declared.table.Table.{Table}
use Rattle.sail_theory.specs.Calls.{Ends, out, state_of, taking}
use Rattle.sail_theory.specs.Facts.{Withdrawable}
use Rattle.sail_theory.specs.Shared.{alone, mixed_in}
use Rattle.sail_theory.proofs.places.Alone.{alone-same, mixed-sound}
use Rattle.sail_theory.proofs.calls.ChangeHolds.{farewell-holds}
use Rattle.sail_theory.proofs.calls.Outcomes.{taking-is}
use Rattle.sail_judge.specs.Withdraw.{ToTake}
use Rattle.sail_take.specs.Taken.{ToTakeIn, TakenIn, routes_left, lent_left}

module _ {t : Table} {l : Lent} {a len : ℕ} where
  pub take-alone : {at : ℕ} → ToTake t l a len at → ToTakeIn t l a len at
  take-alone k = record { may = rw (alone-same t l k.may.sound) k.may; place = k.place; named = k.named }

  pub taken-alone : {u : Table} {e : Lent} → Withdrawable t l a len → TakenIn t l a len u e → Ends (accepted []) u e (taking t l a len)
  taken-alone w k =
      let h = farewell-holds t l a len w in
      let is : mixed_in t.geometry l (lent_left t l a len) ≡ lent_left t l a len =
      mixed-sound t (state_of t (routes_left t l a len)) l (lent_left t l a len) w.sound h.sound h.geometry h.size.second h.size.third
      h.size.counts2 in
      rw (k.state, k.lent) (ap (out (accepted []) (state_of t (routes_left t l a len))) is ∙ sym (taking-is t l a len w))
