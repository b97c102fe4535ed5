-- Routes by their prefix: a good list has at most one route of a prefix, and one that covers an address has the address's first bits.
use mathlib.Core.Path.{◌≡◌, refl, sym, ◌∙◌, ap}
use mathlib.Core.Bool.{Bool, true, false, true≢false}
use mathlib.Core.List.{List, Memᴰ}
use Prim.Native.Nat.{ℕ, suc, ◌-◌, ◌≤◌}
use native.Mathlib.Omega.{arith}
use borrow.Author.Tests.{le-leb, eq-eqb}
use Rattle.bits.specs.Slot.{slot, cut}
use Rattle.bits.proofs.Slots.{cut-slot}
use Rattle.bits.proofs.Bools.{both}
use Rattle.routes.specs.Route.{key, Fine, Good}
use Rattle.routes.specs.declared.Route.{Route}
use Rattle.routes.proofs.Goods.{good-fine}
use Rattle.standing.specs.Cells.{here, covers, first}
use Rattle.standing.proofs.Longest.{First, first-is, here-parts, here-make, cover-parts}
use Rattle.standing.proofs.Paint.{same_route}

-- two routes of one prefix have one key
pub one_key : (l q : ℕ) (r s : Route) → Fine r → Fine s → here l q r ≡ true → here l q s ≡ true → key r ≡ key s
one_key l q r s fr fs a b =
    let x = here-parts l q r a in
    let y = here-parts l q s b in
    let cr : cut l r.addr ≡ r.addr = rw x.0 at fr.prefix.clear in
    let cs : cut l s.addr ≡ s.addr = rw y.0 at fs.prefix.clear in
    omega (arith, cr, cut-slot l r.addr s.addr cs (x.1 ∙ sym y.1))

-- so the first that is found is the one
pub first-here : (l q : ℕ) (rs : List Route) (r : Route) → Good rs → Memᴰ r rs → here l q r ≡ true → first (here l q) rs ≡ suc r.hop
first-here l q rs r g m e = go (first-is (here l q) rs)
  where
    go : First (here l q) rs → first (here l q) rs ≡ suc r.hop
    go (First.nothing z none) = absurd (true≢false (sym e ∙ none r m))
    go (First.found s k t z) = z ∙ ap (λ (x : Route). suc x.hop) (same_route rs g s r k m (one_key l q s r (good-fine rs g s k) (good-fine rs g r m) t e))

pub first_absent : (f : Route → Bool) (rs : List Route) → ((r : Route) → Memᴰ r rs → f r ≡ false) → first f rs ≡ 0
first_absent f rs none = go (first-is f rs)
  where
    go : First f rs → first f rs ≡ 0
    go (First.nothing z _) = z
    go (First.found r m t z) = absurd (true≢false (sym t ∙ none r m))

-- a route of exactly the first l bits of an address covers it, and a route that covers it is of exactly its first bits
module _ (a : ℕ) (r : Route) where
  pub here-cover : (l : ℕ) → l ≤ 32 → here l (slot l a) r ≡ true → covers 32 a r ≡ true
  here-cover l h e =
      let p = here-parts l (slot l a) r e in
      both (le-leb r.len 32 (omega (arith, p.0))) (eq-eqb _ _ (ap (λ (x : ℕ). slot x r.addr) p.0 ∙ p.1 ∙ ap (λ (x : ℕ). slot x a) (sym p.0)))

  pub cover-here : covers 32 a r ≡ true → here r.len (slot r.len a) r ≡ true
  cover-here e = here-make r.len (slot r.len a) r refl (cover-parts 32 a r e).1
