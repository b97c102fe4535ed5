-- In a good list `best` is the one hop that is `Best`, and it is 0 exactly when no route covers.
use mathlib.Core.Path.{◌≡◌, refl, sym, ◌∙◌, ap}
use mathlib.Core.Bool.{false, true≢false}
use mathlib.Core.List.{List, Memᴰ}
use Prim.Native.Nat.{ℕ, ◌-◌, ◌≤◌}
use native.Mathlib.Omega.{arith}
use lib.Dec.{eqb}
use borrow.Author.Tests.{le-leb}
use Rattle.bits.specs.Slot.{slot}
use Rattle.routes.specs.Route.{Good}
use Rattle.standing.specs.Cells.{covers, Longest, Best, best}
use Rattle.routes.specs.declared.Route.{Route}
use Rattle.routes.proofs.Goods.{good-fine}
use Rattle.standing.proofs.Longest.{best-is}
use Rattle.standing.proofs.Paint.{nested, same_route}

-- a route covers an address when the first bits, as many as its length, agree
pub covers-address : (r : Route) (a : ℕ) → r.len ≤ 32 → covers 32 a r ≡ eqb (slot r.len r.addr) (slot r.len a)
covers-address r a h = rw (le-leb r.len 32 h)

module _ (rs : List Route) (good : Good rs) (p i : ℕ) where
  -- two routes that cover a cell and are longest are one
  one-longest : {h k : ℕ} → Longest rs p i h → Longest rs p i k → h ≡ k
  one-longest v w =
      let r = v.route in
      let s = w.route in
      let a = v.longest s w.listed w.covering in
      let b = w.longest r v.listed v.covering in
      let fr = good-fine rs good r v.listed in
      let fs = good-fine rs good s w.listed in
      let x = nested p i r s fr fs v.covering w.covering b in
      let y = nested p i s r fs fr w.covering v.covering a in
      v.its_hop ∙ ap (λ (z : Route). z.hop) (same_route rs good r s v.listed w.listed (omega arith)) ∙ sym w.its_hop

  -- so there is one answer
  pub best-only : (h k : ℕ) → Best rs p i h → Best rs p i k → h ≡ k
  best-only h k (Best.none z n) (Best.none z' n') = z ∙ sym z'
  best-only h k (Best.none z n) (Best.one w) = absurd (true≢false (sym w.covering ∙ n w.route w.listed))
  best-only h k (Best.one v) (Best.none z n) = absurd (true≢false (sym v.covering ∙ n v.route v.listed))
  best-only h k (Best.one v) (Best.one w) = one-longest v w

  -- no route exactly when none covers
  pub none-covers : best rs p i ≡ 0 → (r : Route) → Memᴰ r rs → covers p i r ≡ false
  none-covers e = go (best-is rs p i)
    where
      go : Best rs p i (best rs p i) → (r : Route) → Memᴰ r rs → covers p i r ≡ false
      go (Best.none z n) = n
      go (Best.one w) = absurd (omega (arith, (good-fine rs good w.route w.listed).hop_one, w.its_hop))

  pub covers-none : ((r : Route) → Memᴰ r rs → covers p i r ≡ false) → best rs p i ≡ 0
  covers-none n = best-only (best rs p i) 0 (best-is rs p i) (Best.none refl n)
