-- Painting a good list in order plans a cell: the last route that covers it stays, unless it is long.
use mathlib.Core.Path.{◌≡◌, refl, sym, ap, ◌∙◌}
use mathlib.Core.Bool.{Bool, true, false, cond, ◌||◌, or-true, or-false, true≢false}
use mathlib.Core.List.{List, [], ◌∷◌, ◌++◌, Memᴰ}
use Prim.Native.Nat.{ℕ, ◌+◌, ◌-◌, ◌/◌, ◌^◌, ◌<◌}
use native.Mathlib.Omega.{arith}
use lib.Dec.{eqb, ltb}
use borrow.Author.Tests.{ltb-true, eqb-true}
use Rattle.bits.specs.Slot.{slot}
use Rattle.bits.proofs.Slots.{slot-up, cut-le, cut-slot}
use Rattle.bits.proofs.Bools.{and_split, untrue}
use Rattle.routes.specs.Route.{key, Fine, Good}
use Rattle.standing.specs.Cells.{covers, within, any, long, last_hop}
use Rattle.routes.specs.declared.Route.{Route}
use Rattle.routes.proofs.Goods.{good-fine}
use Rattle.standing.proofs.Longest.{cover-parts}
use Rattle.plan.specs.Plan.{plan_from}
use Rattle.plan.specs.Paint.{paint_cell}

pub within-parts : (p i : ℕ) (r : Route) → within p i r ≡ true → (p < r.len) × (slot p r.addr ≡ i)
within-parts p i r e =
    let s = and_split (ltb p r.len) (eqb (slot p r.addr) i) e in
    (ltb-true p r.len s.0, eqb-true _ _ s.1)

-- after a route within a cell, none covers the cell: such a one is shorter, and starts no later
pub none_after : (p i : ℕ) (r s : Route) → Fine r → Fine s → key r < key s → within p i r ≡ true → covers p i s ≡ false
none_after p i r s fr fs up w = untrue (covers p i s) (λ c.
    let t = within-parts p i r w in
    let k = cover-parts p i s c in
    let n = fr.prefix.len_ok in
    let e : slot s.len r.addr ≡ slot s.len s.addr =
    sym (slot-up s.len (p - s.len) r.addr (omega arith))
    ∙ ap (λ (m : ℕ). slot m r.addr / 2 ^ (p - s.len)) (omega arith)
    ∙ ap (λ (m : ℕ). m / 2 ^ (p - s.len)) t.1
    ∙ sym k.1 in
    omega (arith, cut-slot s.len r.addr s.addr fs.prefix.clear e, cut-le s.len r.addr))

-- one route more at the end
pub any_snoc : (f : Route → Bool) (rs : List Route) (r : Route) → any f (rs ++ (r ∷ [])) ≡ (any f rs || f r)
unfolding any
any_snoc f [] r = or-false (f r)
any_snoc f (x ∷ rs) r = go (f x) (any_snoc f rs r)
  where
    go : (b : Bool) → any f (rs ++ (r ∷ [])) ≡ (any f rs || f r) → (b || any f (rs ++ (r ∷ []))) ≡ ((b || any f rs) || f r)
    go true e = refl
    go false e = e

last_snoc : (f : Route → Bool) (rs : List Route) (r : Route) (d : ℕ) → last_hop f (rs ++ (r ∷ [])) d ≡ cond (f r) r.hop (last_hop f rs d)
unfolding last_hop
last_snoc f [] r d = refl
last_snoc f (x ∷ rs) r d = last_snoc f rs r (cond (f x) x.hop d)

at-end : (rs : List Route) (r : Route) → Memᴰ r (rs ++ (r ∷ []))
at-end [] r = Memᴰ.head refl
at-end (x ∷ rs) r = Memᴰ.tail (at-end rs r)

module _ (p i : ℕ) (r : Route) where
  -- before a route that covers a cell, none lies within the cell
  none_before : (rs : List Route) → Good (rs ++ (r ∷ [])) → covers p i r ≡ true → long rs p i ≡ false
  unfolding any Good
  none_before [] g c = refl
  none_before (x ∷ rs) g c =
      let w = untrue (within p i x) (λ t. true≢false
      (sym c ∙ none_after p i x r g.0 (good-fine (rs ++ (r ∷ [])) g.2 r (at-end rs r)) (g.1 r (at-end rs r)) t)) in
      rw w (none_before rs g.2 c)

  -- one route more is painted over the cell
  pub plan_snoc : (h : ℕ) (rs : List Route) → Good (rs ++ (r ∷ [])) → plan_from h (rs ++ (r ∷ [])) p i ≡ paint_cell r p i (plan_from h rs p i)
  unfolding plan_from paint_cell
  plan_snoc h rs g = go (within p i r) (covers p i r) refl refl
    where
      go : (w c : Bool) → within p i r ≡ w → covers p i r ≡ c
          → cond (long (rs ++ (r ∷ [])) p i) 0 (32768 + last_hop (covers p i) (rs ++ (r ∷ [])) h)
          ≡ cond (within p i r) 0 (cond (covers p i r) (32768 + r.hop) (cond (long rs p i) 0 (32768 + last_hop (covers p i) rs h)))
      go true c ew ec = rw (any_snoc (within p i) rs r, ew, or-true)
      go false true ew ec = rw (any_snoc (within p i) rs r, ew, or-false, ec, none_before rs g ec, last_snoc (covers p i) rs r h, ec)
      go false false ew ec = rw (any_snoc (within p i) rs r, ew, or-false, ec, last_snoc (covers p i) rs r h, ec)
