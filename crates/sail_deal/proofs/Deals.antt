-- Each way out: a refusal leaves the table, which is as ready as it was, and so does a route that stands as it is announced; what is left where it is
-- accepted is sound.
use mathlib.Core.Path.{◌≡◌, refl, sym, ap, ◌∙◌}
use mathlib.Core.Bool.{Bool, true}
use mathlib.Core.List.{List, [], ◌∷◌}
use Prim.Native.Nat.{ℕ, ◌<◌}
use native.Mathlib.Omega.{arith}
use lib.ListN.{get_or}
use Rattle.routes.specs.Record.{record_at}
use Rattle.routes.specs.Route.{Prefix, key}
use Rattle.routes.specs.Said.{Said, refused}
use Rattle.routes.specs.declared.Route.{Route}
use Rattle.chain.specs.List.{ChainedFront}
use Rattle.standing.proofs.Standing.{one-prefix}
use Rattle.lists.proofs.EditPlaces.{found}
use Rattle.sail.specs.Lent.{Lent}
use Rattle.sail.specs.declared.table.Table.{Table}
use Rattle.sail_theory.specs.Calls.{Out, out, Ends, adding, taking}
use Rattle.sail_theory.specs.Cases.{Proper, Withdraw}
use Rattle.sail_theory.specs.Facts.{SameSize, TableHolds}
use Rattle.sail_theory.proofs.calls.OneCase.{withdraw-only}
use Rattle.sail_theory.proofs.calls.Outcomes.{adding-off, adding-holds, taking-off, taking-holds}
use Rattle.sail_judge.specs.Announce.{ToAdd, AnnounceJudged}
use Rattle.sail_judge.specs.Withdraw.{RecordFound, ToTake}
use Rattle.sail_judge.specs.declared.announce.AnnounceVerdict.{AnnounceVerdict}
use Rattle.sail_judge.specs.declared.withdraw.WithdrawVerdict.{WithdrawVerdict}
use Rattle.sail_add.specs.Added.{MeetsAdd}
use Rattle.sail_take.specs.Taken.{TakenIn}
use Rattle.sail_take.proofs.TakesAlone.{taken-alone}
use Rattle.update_theory.specs.Deal.{stop_of}
use Rattle.sail_deal.specs.Dealt.{Ready, IsIn, stands_so, Leaves, RouteDealt, PrefixDealt}
use Rattle.sail_deal.proofs.Same.{adding-same, so-told}

same-itself : (l : Lent) → SameSize l l
same-itself l = record { list = refl; first = refl; second = refl; third = refl; chunks2 = refl; chunks3 = refl; counts1 = refl; counts2 = refl }

same_route : {r s : Route} → s.addr ≡ r.addr → s.len ≡ r.len → s.mark ≡ r.mark → s.hop ≡ r.hop → s ≡ r
same_route {r} {s} p q u v =
    ap (λ (x : ℕ). record { addr = x; len = s.len; mark = s.mark; hop = s.hop }) p
    ∙ ap (λ (x : ℕ). record { addr = r.addr; len = x; mark = s.mark; hop = s.hop }) q
    ∙ ap (λ (x : ℕ). record { addr = r.addr; len = r.len; mark = x; hop = s.hop }) u
    ∙ ap (λ (x : ℕ). record { addr = r.addr; len = r.len; mark = r.mark; hop = x }) v

-- nothing was written
module _ (t : Table) (l : Lent) (ws par : List ℕ) (ready : Ready t l ws par) where
  as-was : (s : Said) (o : Out) → o ≡ out s t l → Leaves l o t l ws par
  as-was s o e = record { table = ap (λ (x : Out). x.table) (sym e); lent = ap (λ (x : Out). x.lent) (sym e); ready = ready; size = same-itself l }

  pub announce-stops : (r : Route) (f : AnnounceVerdict) → AnnounceJudged t l r f → (f.number ≡ 0 → ⊥) → RouteDealt t l r f.number t l ws par
  announce-stops r f j h =
      let o = adding-off t l r (refused f.number) (j.off h) refl in
      record { stop = sym (ap (λ (x : Out). stop_of x.said) o); left = as-was _ _ o }

  -- where the prefix stands, its record is there
  at_place : (r : Route) (f : AnnounceVerdict) → ToAdd t l r f → f.stands ≡ true → (f.at < t.count) × (key (record_at l.list f.at) ≡ key r)
  at_place r f to e =
      found l.list t.count f.at (key r) (record { records = ready.sound.listed.records; place = to.found.at }) (sym to.found.stood ∙ e)

  pub found_in : (r : Route) (f : AnnounceVerdict) → ToAdd t l r f → IsIn l.list f.at f.stands
  found_in r f to = record { inside = λ e. omega (arith, (at_place r f to e).0, ready.sound.listed.records.room) }

  -- a route that stands so is passed over
  pub announce-same : (r : Route) → Proper t l r → ((j : ℕ) → get_or l.list j 0 < 256) → (f : AnnounceVerdict) → ToAdd t l r f → (b : Bool)
      → b ≡ stands_so l.list f.at f.stands r → b ≡ true → RouteDealt t l r 0 t l ws par
  announce-same r p bytes f to b q e =
      let so = so-told l.list f.at f.stands r (sym q ∙ e) in
      let at = at_place r f to so.0 in
      let there = ready.sound.listed.records.each f.at at.0 in
      let one = one-prefix r (record_at l.list f.at) p.fine there at.1 in
      let same : record_at l.list f.at ≡ r = same_route one.0 one.1 so.2 so.1 in
      let o = adding-same t l r p bytes f.at at.0 same in
      record { stop = sym (ap (λ (x : Out). stop_of x.said) o); left = as-was _ _ o }

  pub withdraw-passes : (a len : ℕ) → Prefix a len → (f : WithdrawVerdict) → RecordFound l.list t.count a len f → (f.number ≡ 0 → ⊥)
      → PrefixDealt t l a len t l ws par
  withdraw-passes a len p f r h =
      let said = withdraw-only t l a len (refused 9) (Withdraw.absent p ready.sound (r.off h).1) in
      record { left = as-was _ _ (taking-off t l a len (refused 9) said refl) }

-- the prefix that was looked for stands
pub found_take : (t : Table) (l : Lent) (ws par : List ℕ) → Ready t l ws par → (a len : ℕ) → Prefix a len → (f : WithdrawVerdict)
    → RecordFound l.list t.count a len f → f.number ≡ 0 → ToTake t l a len f.at
found_take t l ws par ready a len p f r z =
    let x = r.on z in
    record { may = record { prefix = p; sound = ready.sound; old = x.2 }; place = x.0; named = x.1 }

-- it was written: s is what was said
ends-left : (l : Lent) (o : Out) (s : Said) (rs : List Route) (t u : Table) (e : Lent) (ws par : List ℕ) → Ends s u e o → TableHolds t l rs o.table o.lent
    → ChainedFront e.list u.count ws par → Leaves l o u e ws par
ends-left l o s rs t u e ws par q h c =
    let tq : u ≡ o.table = ap (λ (x : Out). x.table) q in
    let lq : e ≡ o.lent = ap (λ (x : Out). x.lent) q in
    record { table = tq; lent = lq; ready = record { sound = rw (tq, lq) h.sound; chain = c }; size = rw lq h.size }

module _ (t : Table) (l : Lent) (u : Table) (e : Lent) (ws par : List ℕ) where
  pub announce-goes-on : (r : Route) (f : AnnounceVerdict) → ToAdd t l r f → MeetsAdd t l r u e → ChainedFront e.list u.count ws par
      → RouteDealt t l r 0 u e ws par
  announce-goes-on r f to q c = record {
    stop = ap (λ (x : Out). stop_of x.said) q;
    left = ends-left l _ _ _ t u e ws par q (adding-holds t l r to.may) c;
  }

  pub withdraw-takes : (a len at : ℕ) → ToTake t l a len at → TakenIn t l a len u e → ChainedFront e.list u.count ws par
      → PrefixDealt t l a len u e ws par
  withdraw-takes a len at to q c = record { left = ends-left l _ _ _ t u e ws par (taken-alone to.may q) (taking-holds t l a len to.may) c }
