-- Make: a fresh table is what is rendered for no routes and no owners. So it is sound, and its list holds nothing. Each array is shown to be one
-- number all over: first cells no route, all else 0.
use mathlib.Core.Path.{◌≡◌, refl, sym, ◌∙◌, ap, subst}
use mathlib.Core.Bool.{true, false, false≢true}
use mathlib.Core.List.{List, []}
use Prim.Native.Nat.{ℕ, ◌-◌, ◌*◌, ◌^◌, ◌<◌}
use native.Mathlib.Omega.{arith}
use lib.ListN.{get_or, length, replicate, get_or-replicate, length-replicate}
use lib.Seq.{ext_get_or}
use Rattle.routes.specs.Route.{Good}
use Rattle.standing.specs.Cells.{any, first}
use Rattle.routes.specs.Record.{written}
use Rattle.routes.specs.Said.{Said, accepted, accepts}
use Rattle.routes.proofs.Rows.{length-written, zero-written}
use Rattle.counts.proofs.Many.{many-none}
use Rattle.counts.proofs.Stored.{length-tallies, tallies-counted}
use Rattle.sail.specs.Lent.{Lent}
use Rattle.sail.specs.Level.{Level, Chunks, chunks_of, no_chunks, below, level1, level2}
use Rattle.sail.specs.Sizes.{Sized}
use Rattle.sail.specs.Sound.{fresh_table, fresh_lent}
use Rattle.sail.specs.declared.geometry.Geometry.{Geometry}
use Rattle.sail.specs.declared.table.Table.{Table}
use Rattle.sail.proofs.Fresh.{best_none}
use Rattle.bits.proofs.Tabs.{get_d-zeros}
use Rattle.sail_theory.specs.Render.{pool, longs, Fits, room_of}
use Rattle.sail_theory.specs.Calls.{no_owners, make_said, Out, lent_of, made}
use Rattle.sail_theory.specs.Facts.{TableHolds}
use Rattle.sail_theory.proofs.places.Pools.{length-pool, pool-clear, pool-leaf}
use Rattle.sail_theory.specs.Cases.{Make}
use Rattle.sail_theory.proofs.calls.SomeCase.{make-judged}
use Rattle.sail_theory.proofs.calls.OneCase.{make-only}
use Rattle.sail_theory.proofs.calls.ChangeHolds.{render-holds}
use Rattle.sail_theory.proofs.calls.Outcomes.{outcome-said, outcome-refused}

-- no owners fit no routes
pub no-fits : (v : Level) (m : ℕ) → Fits [] v (chunks_of (replicate m 0))
unfolding any
no-fits v m = record {
  lies = λ c q l e. absurd (omega (arith, get_d-zeros m c));
  has = λ q l e d. absurd (false≢true d);
  once = λ c q l e. absurd (omega (arith, get_d-zeros m c));
}

-- an array of one number
constant : (v n : ℕ) (xs : List ℕ) → length xs ≡ n → ((i : ℕ) → i < n → get_or xs i 0 ≡ v) → replicate n v ≡ xs
constant v n xs e h = ext_get_or 0 (replicate n v) xs (length-replicate n v ∙ sym e) (λ i l.
    let k : i < n = rw length-replicate at l in
    get_or-replicate {A = ℕ} n i v 0 k ∙ sym (h i k))

module _ (t : Table) (l : Lent) (z : Sized t.geometry l) where
  abbrev g : Geometry
  g = t.geometry

  abbrev none2 : List ℕ
  none2 = (no_owners l).own2

  abbrev none3 : List ℕ
  none3 = (no_owners l).own3

  -- the cells of a level below chunks of which none is in use
  free-pool : (v : Level) (m p : ℕ) (k : Chunks) (n : ℕ) → n ≡ m * 2 ^ (p - v.bits) → replicate n 0 ≡ pool [] (below v (chunks_of (replicate m 0)) p) k
  free-pool v m p k n e =
      let w : Level = below v (chunks_of (replicate m 0)) p in
      let all : w.places ≡ n = ap (λ (x : ℕ). x * 2 ^ (p - v.bits)) (length-replicate m 0) ∙ sym e in
      constant 0 n (pool [] w k) (length-pool [] w k ∙ all) (λ q h. (pool-clear [] w k).blank q (rw all h) (rw get_d-zeros))

  -- nothing is counted there
  free-longs : (v : Level) (m p n : ℕ) → n ≡ m * 2 ^ (p - v.bits) → replicate n 0 ≡ longs [] (below v (chunks_of (replicate m 0)) p)
  free-longs v m p n e =
      let w : Level = below v (chunks_of (replicate m 0)) p in
      let all : w.places ≡ n = ap (λ (x : ℕ). x * 2 ^ (p - v.bits)) (length-replicate m 0) ∙ sym e in
      let counted = tallies-counted [] w.bits w.places w.live w.at in
      constant 0 n (longs [] w) (length-tallies [] _ _ _ _ ∙ all) (λ q h. counted.blank q (rw all h) (rw get_d-zeros))

  -- array by array: no cell is deep where there are no routes, no place below the first level is live, and nothing is counted
  pub fresh-rendered : fresh_lent l ≡ lent_of t l [] (no_owners l)
  unfolding fresh_lent any
  fresh-rendered =
      let w = length-written [] (room_of l) in
      let m : length l.list ≡ room_of l * 8 = omega (arith, z.whole) in
      let e1 = constant 0 (length l.list) (written [] (room_of l)) (w ∙ sym m) (λ j h. zero-written [] (room_of l) j (omega arith) (omega arith)) in
      let e2 = constant 32768 (length l.first) (lent_of t l [] (no_owners l)).first (length-pool [] (level1 g) (chunks_of none2) ∙ sym z.cells1)
      (λ q h. pool-leaf [] (level1 g) (chunks_of none2) q (rw z.cells1 at h) refl refl ∙ rw best_none) in
      let e3 = free-pool (level1 g) (length l.own2) g.p2 (chunks_of none3) (length l.second) z.cells2 in
      let e4 = free-pool (level2 g (chunks_of none2)) (length l.own3) 32 no_chunks (length l.third) z.cells3 in
      let e5 = constant 0 (length l.long1) (longs [] (level1 g)) (length-tallies [] _ _ _ _ ∙ sym z.counts1)
      (λ q h. (tallies-counted [] g.p1 _ _ _).true_there q (rw z.counts1 at h) refl ∙ many-none [] g.p1 q refl) in
      let e6 = free-longs (level1 g) (length l.own2) g.p2 (length l.long2) (z.counts2 ∙ z.cells2) in
      λ i. record { list = e1 i; first = e2 i; second = e3 i; third = e4 i; own2 = none2; own3 = none3; long1 = e5 i; long2 = e6 i }

  pub make-is : made t l ≡ record { said = accepted []; table = fresh_table t.geometry; lent = fresh_lent l }
  unfolding made
  make-is = rw (make-only t l _ (Make.done z))

  pub make-holds : TableHolds t l [] (made t l).table (made t l).lent
  unfolding Good
  make-holds = subst (λ (o : Out). TableHolds t l [] o.table o.lent) (sym make-is) (rw fresh-rendered (render-holds t l [] (no_owners l) (record {
    sized = z;
    good = tt;
    roomy = omega arith;
    len2 = length-replicate (length l.own2) 0;
    len3 = length-replicate (length l.own3) 0;
    fits2 = no-fits (level1 g) (length l.own2);
    fits3 = no-fits (level2 g (chunks_of none2)) (length l.own3);
  })))

pub make-said : (t : Table) (l : Lent) → (made t l).said ≡ make_said t l
unfolding made
make-said t l = outcome-said (make_said t l) t l _ _

pub make-off : (t : Table) (l : Lent) (s : Said) → make_said t l ≡ s → accepts s ≡ false → made t l ≡ record { said = s; table = t; lent = l }
unfolding made
make-off t l s q e = rw q (outcome-refused s t l _ _ e)

pub make-refused : (t : Table) (l : Lent) → accepts (made t l).said ≡ false → made t l ≡ record { said = make_said t l; table = t; lent = l }
make-refused t l e = make-off t l (make_said t l) refl (sym (ap accepts (make-said t l)) ∙ e)

-- accepted exactly where the sizes are right
pub accepted-sized : (t : Table) (l : Lent) → accepts (made t l).said ≡ true → Sized t.geometry l
accepted-sized t l e = go (make-judged t l) (sym (ap accepts (make-said t l)) ∙ e)
  where
    go : {s : Said} → Make t l s → accepts s ≡ true → Sized t.geometry l
    go (Make.sizing n h) e = absurd (false≢true e)
    go (Make.done z) e = z
