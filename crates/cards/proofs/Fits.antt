-- What the calls say has room in their answers. Nothing is supposed but what the boundary's types give: cells of 16 bits (`Cells16`), and
-- for the index of a record an input shorter than 2^35 bytes, so that it has fewer than 2^32 records.
use mathlib.Core.Path.{◌≡◌, refl, ◌∙◌, ap}
use mathlib.Core.Logic.{◌⊎◌, inl, inr}
use mathlib.Core.Bool.{Bool, true, false, cond, true≢false}
use mathlib.Core.List.{List, [], ◌∷◌}
use Prim.Native.Nat.{ℕ, ◌-◌, ◌/◌, ◌^◌, ◌≤◌, ◌<◌}
use native.Mathlib.Omega.{arith}
use lib.Dec.{eqb}
use lib.ListN.{length}
use borrow.Author.Tests.{eqb-false}
use Rattle.bits.specs.Count.{bit}
use Rattle.bits.specs.Slot.{cut}
use Rattle.bits.proofs.Bools.{decided}
use Rattle.routes.specs.Route.{key_of}
use Rattle.standing.specs.Cells.{need}
use Rattle.routes.specs.Record.{record_at, routes_in}
use Rattle.routes.specs.Input.{input_said}
use Rattle.routes.specs.Answers.{route_said}
use Rattle.routes.specs.Said.{Said, accepted, refused, accepts}
use Rattle.routes.specs.declared.Route.{Route}
use Rattle.routes.specs.Cases.{WrongRoute, WrongRecord, Checked, BadInput, RouteRead}
use Rattle.routes.proofs.Meaning.{input-checked}
use Rattle.routes.proofs.Rows.{length-routes, records-good}
use Rattle.longest.specs.Cases.{LongestRead}
use Rattle.longest.specs.Said.{longest_said}
use Rattle.longest.proofs.Judged.{good_routes, longest-judged}
use Rattle.routes.proofs.Goods.{good-fine}
use Rattle.runs.specs.Run.{past_key, run_start, run_count, run_said}
use Rattle.lists.proofs.Places.{place-le}
use Rattle.sail.specs.Lent.{Lent}
use Rattle.sail.specs.Level.{chunks_of}
use Rattle.sail.specs.Sound.{standing}
use Rattle.standing.specs.Served.{hop_said}
use Rattle.sail.specs.Walk.{leaf_said, lookup_said}
use Rattle.sail.specs.declared.table.Table.{Table}
use Rattle.sail.proofs.Sounds.{chunks-need}
use Rattle.sail_theory.specs.Calls.{made, loaded, cut_route, cleared, with_flag, announced, withdrawn, reported}
use Rattle.sail_theory.proofs.owners.Chunks.{used_le}
use Rattle.sail.specs.Cases.{Sizing, v1, v2, v3, Lookup}
use Rattle.sail_theory.specs.Cases.{Make, Announce, Withdraw, Load, Report}
use Rattle.sail_theory.proofs.calls.SomeCase.{make-judged, announce-judged, withdraw-judged, load-judged, report-judged}
use Rattle.sail_theory.proofs.calls.Cleared.{announce-said, announce-accepts, announce-holds, withdraw-said, withdraw-accepts, withdraw-holds}
use Rattle.sail_theory.proofs.calls.Make.{make-said, make-holds, accepted-sized}
use Rattle.sail_theory.proofs.calls.Load.{load_said_lem, load-holds}
use Rattle.tree_image.specs.Image.{node_need}
use Rattle.tree_image.specs.Reads.{TreeAnswer}
use Rattle.tree_image.specs.Walk.{tree_said}
use Rattle.tree_image.proofs.Needs.{nodes-most}
use Rattle.tree_image.proofs.ReadCounts.{tree-answers}
use Rattle.tree_build.specs.Built.{built}
use Rattle.routes.proofs.Judged.{good-whole, route-judged}
use Rattle.runs.specs.Cases.{RunChecked}
use Rattle.runs.proofs.Judged.{run-judged}
use Rattle.sail.proofs.Judged.{lookup-judged}
use Rattle.tree_build.specs.Cases.{Build}
use Rattle.tree_build.proofs.Judged.{build-judged}
use Rattle.packing.specs.Unpack.{FitsWord, FoundFits, ReportFits, BuiltFits, RunFits, RouteFits, AnnounceFits, WithdrawFits, DoneFits, Cells16}

-- 1 and 2
sizing-fits : {most : ℕ} {P : List ℕ → Type 0} {t : Table} {l : Lent} {n : ℕ} → Sizing t l n → FitsWord most P (refused n)
sizing-fits (Sizing.limits h) = FitsWord.number 1 (omega arith) (omega arith)
sizing-fits (Sizing.size v h) = FitsWord.number 2 (omega arith) (omega arith)

-- a flag
pub bit-low : (b : Bool) → bit b < 2
bit-low true = omega arith
bit-low false = omega arith

-- 3, 4 and 10
pub route-low : {r : Route} {f : ℕ} → WrongRoute r f → (1 ≤ f) × (f < 2 ^ 8)
route-low (WrongRoute.prefix h) = (omega arith, omega arith)
route-low (WrongRoute.hop p h) = (omega arith, omega arith)
route-low (WrongRoute.mark p a b h) = (omega arith, omega arith)

-- The input's refusals.
fault-low : {s : List ℕ} {k f : ℕ} → WrongRecord s k f → f < 2 ^ 8
fault-low (WrongRecord.itself w) = (route-low w).1
fault-low (WrongRecord.order g h l) = omega arith

module _ (P : List ℕ → Type 0) (s : List ℕ) (short : length s < 2 ^ 35) where
  pub refused-fits : {x : Said} → Checked s x → accepts x ≡ false → FitsWord (2 ^ 32) P x
  refused-fits (Checked.ragged w) e = FitsWord.index 10 (length s / 8) (omega arith) (omega arith) (omega arith)
  refused-fits (Checked.stopped k f w l b x p) e = FitsWord.index f k (omega arith) (fault-low x) (omega arith)
  refused-fits (Checked.many w b m) e = FitsWord.number 6 (omega arith) (omega arith)
  refused-fits (Checked.good n w r) e = absurd (true≢false e)

  pub bad-fits : (x : Said) → BadInput s x → FitsWord (2 ^ 32) P x
  bad-fits x b = refused-fits b.checked b.not_accepted

-- The calls on record inputs.
pub input-fits : (s : List ℕ) → length s < 2 ^ 35 → FitsWord (2 ^ 32) (λ vs. vs ≡ length s / 8 ∷ []) (input_said s)
input-fits s short = go (input-checked s)
  where
    go : {x : Said} → Checked s x → FitsWord (2 ^ 32) (λ vs. vs ≡ length s / 8 ∷ []) x
    go (Checked.ragged w) = refused-fits _ s short (Checked.ragged w) refl
    go (Checked.stopped k f w l b x p) = refused-fits _ s short (Checked.stopped k f w l b x p) refl
    go (Checked.many w b m) = refused-fits _ s short (Checked.many w b m) refl
    go (Checked.good n w r) = let e : n ≡ length s / 8 = omega arith in FitsWord.values (n ∷ []) (rw e)

module _ (s : List ℕ) (short : length s < 2 ^ 35) where
  pub run_fits : (a len : ℕ) → FitsWord (2 ^ 32) RunFits (run_said s a len)
  run_fits a len = go (run-judged s a len)
    where
      go : {x : Said} → RunChecked s a len x → FitsWord (2 ^ 32) RunFits x
      go (RunChecked.bad_input x b) = bad-fits RunFits s short x b
      go (RunChecked.bad_prefix n g h) = FitsWord.number 3 (omega arith) (omega arith)
      go (RunChecked.found n g p) =
          let w = good-whole s n g in
          let f = w.1.few in
          let x = place-le s (length s / 8) (key_of a len) in
          let y = place-le s (length s / 8) (past_key a len) in
          FitsWord.values _ (RunFits.run (run_start s a len) (run_count s a len) (omega (arith, w.0)) (omega (arith, w.0)))

  pub route-fits : (k : ℕ) → FitsWord (2 ^ 32) RouteFits (route_said s k)
  route-fits k = go (route-judged s k)
    where
      go : {x : Said} → RouteRead s k x → FitsWord (2 ^ 32) RouteFits x
      go (RouteRead.bad_input x b) = bad-fits RouteFits s short x b
      go (RouteRead.there n g h) =
          let f = (good-whole s n g).1.each k h in
          let r = record_at s k in
          FitsWord.values _ (RouteFits.one r.addr r.len r.mark r.hop f.prefix.addr_ok (omega (arith, f.prefix.len_ok))
          (omega (arith, f.mark_ok)) f.hop_one (omega (arith, f.hop_ok)))
      go (RouteRead.past n g h) = FitsWord.values [] RouteFits.nothing

  pub longest-fits : (a : ℕ) → FitsWord (2 ^ 32) RouteFits (longest_said s a)
  longest-fits a = go (longest-judged s a)
    where
      go : {x : Said} → LongestRead s a x → FitsWord (2 ^ 32) RouteFits x
      go (LongestRead.bad_input x b) = bad-fits RouteFits s short x b
      go (LongestRead.covered n g r w) =
          let f = good-fine (routes_in s) (good_routes s n g) r w.listed in
          FitsWord.values _ (RouteFits.one r.addr r.len r.mark r.hop f.prefix.addr_ok (omega (arith, f.prefix.len_ok))
          (omega (arith, f.mark_ok)) f.hop_one (omega (arith, f.hop_ok)))
      go (LongestRead.uncovered n g h) = FitsWord.values [] RouteFits.nothing

  pub built-fits : (ws hs : List ℕ) → FitsWord (2 ^ 32) BuiltFits (built s ws hs).said
  built-fits ws hs = go (build-judged s ws hs)
    where
      go : {x : Said} → Build s ws hs x → FitsWord (2 ^ 32) BuiltFits x
      go (Build.bad_input x b) = bad-fits BuiltFits s short x b
      go (Build.few_nodes n g h) = FitsWord.number 11 (omega arith) (omega arith)
      go (Build.few_hops n g h k) = FitsWord.number 12 (omega arith) (omega arith)
      go (Build.done n g h k) =
          let w = good-whole s n g in
          let f = w.1.few in
          let e : n ≡ length s / 8 = omega (arith, w.0) in
          let m = length-routes s (length s / 8) in
          let z = nodes-most (routes_in s) (records-good s (length s / 8) (rw e at w.1)) (omega arith) in
          FitsWord.values _ (BuiltFits.image (node_need (routes_in s)) (length (routes_in s)) (omega arith) (omega arith))

-- Lookup in an image, of any words and hops: a count of at most 10, and a hop of 1 to 32,767.
pub tree-fits : (ws hs : List ℕ) (a : ℕ) → FitsWord 0 FoundFits (tree_said ws hs a)
tree-fits ws hs a = go (tree-answers ws hs a)
  where
    go : {x : Said} → TreeAnswer x → FitsWord 0 FoundFits x
    go (TreeAnswer.a_hop n h l u a b) = FitsWord.values _ (FoundFits.hop n h (omega arith) a (omega arith))
    go (TreeAnswer.no_route n l u) = FitsWord.values _ (FoundFits.none n (omega arith))
    go TreeAnswer.broken = FitsWord.number 13 (omega arith) (omega arith)

-- Lookup in a table, of any cells: 1 to 3 cells, and a hop of at most 15 bits.
pub leaf-fits : (n v : ℕ) → n < 2 ^ 8 → v < 2 ^ 16 → FitsWord 0 FoundFits (leaf_said n v)
unfolding hop_said
leaf-fits n v a b = go (decided (eqb (v - 32768) 0))
  where
    go : (eqb (v - 32768) 0 ≡ true) ⊎ (eqb (v - 32768) 0 ≡ false) → FitsWord 0 FoundFits
        (cond (eqb (v - 32768) 0) (accepted (n ∷ [])) (accepted (n ∷ (v - 32768) ∷ [])))
    go (inl e) = rw e (FitsWord.values _ (FoundFits.none n a))
    go (inr e) = let z = eqb-false (v - 32768) 0 e in rw e (FitsWord.values _ (FoundFits.hop n (v - 32768) a (omega arith) (omega arith)))

module _ (t : Table) (l : Lent) where
  pub lookup-fits : Cells16 l → (a : ℕ) → FitsWord 0 FoundFits (lookup_said t l a)
  lookup-fits cells a = go (lookup-judged t l a)
    where
      go : {x : Said} → Lookup t l a x → FitsWord 0 FoundFits x
      go (Lookup.sizing n h) = sizing-fits h
      go (Lookup.first_leaf z h) = leaf-fits 1 (v1 t l a) (omega arith) (cells.first _)
      go (Lookup.first_stray z h) = FitsWord.number 5 (omega arith) (omega arith)
      go (Lookup.second_leaf z k h) = leaf-fits 2 (v2 t l a) (omega arith) (cells.second _)
      go (Lookup.second_stray z k h) = FitsWord.number 5 (omega arith) (omega arith)
      go (Lookup.third_is_leaf z k j h) = leaf-fits 3 (v3 t l a) (omega arith) (cells.third _)
      go (Lookup.third_no_leaf z k j h) = FitsWord.number 5 (omega arith) (omega arith)

  -- the route count and both needs are at most 4,096
  pub report-fits : FitsWord 0 ReportFits (reported t l)
  report-fits = go (report-judged t l)
    where
      go : {x : Said} → Report t l x → FitsWord 0 ReportFits x
      go (Report.sizing n h) = sizing-fits h
      go (Report.unsound z h) = FitsWord.number 5 (omega arith) (omega arith)
      go (Report.counts s) =
          let n = s.listed.records.few in
          let u = chunks-need t l s in
          let x = used_le (chunks_of l.own2) in
          let y = used_le (chunks_of l.own3) in
          FitsWord.values _ (ReportFits.report t.count (need (standing t l) t.geometry.p1) (need (standing t l) t.geometry.p2)
          (omega arith) (omega (arith, u.0, s.sized.few2)) (omega (arith, u.1, s.sized.few3)))

  -- Changes: where one is accepted, a sound table stands, so there are at most 4,096 routes.
  pub make-few : accepts (made t l).said ≡ true → (made t l).table.count ≤ 4096
  make-few e = (make-holds t l (accepted-sized t l e)).sound.listed.records.few

  pub make-fits : FitsWord 0 (DoneFits (made t l).table.count) (made t l).said
  make-fits = rw (make-said t l) (go (make-judged t l) (λ e. make-few (ap accepts (make-said t l) ∙ e)))
    where
      go : {n : ℕ} {x : Said} → Make t l x → (accepts x ≡ true → n ≤ 4096) → FitsWord 0 (DoneFits n) x
      go (Make.sizing n h) few = sizing-fits h
      go (Make.done z) few = let f = few refl in FitsWord.values [] (DoneFits.done (omega arith))

  pub load-few : (input : List ℕ) → accepts (loaded t l input).said ≡ true → (loaded t l input).table.count ≤ 4096
  load-few input e = (load-holds t l input e).sound.listed.records.few

  pub load_fits : (input : List ℕ) → length input < 2 ^ 35 → FitsWord (2 ^ 32) (DoneFits (loaded t l input).table.count) (loaded t l input).said
  load_fits input short = rw (load_said_lem t l input) (go (load-judged t l input) (λ e. load-few input (ap accepts (load_said_lem t l input) ∙ e)))
    where
      go : {n : ℕ} {x : Said} → Load t l input x → (accepts x ≡ true → n ≤ 4096) → FitsWord (2 ^ 32) (DoneFits n) x
      go (Load.sizing n h) few = sizing-fits h
      go (Load.bad_input x z b) few = bad-fits _ input short x b
      go (Load.full w r) few = FitsWord.number 6 (omega arith) (omega arith)
      go (Load.second w r x) few = FitsWord.number 7 (omega arith) (omega arith)
      go (Load.third w r x y) few = FitsWord.number 8 (omega arith) (omega arith)
      go (Load.done w k) few = let f = few refl in FitsWord.values [] (DoneFits.done (omega arith))

  pub announce-few : (r : Route) → accepts (announced t l r).said ≡ true → (announced t l r).table.count ≤ 4096
  announce-few r e = (announce-holds t l r e).sound.listed.records.few

  pub announce-fits : (r : Route) → FitsWord 0 (AnnounceFits (announced t l r).table.count) (announced t l r).said
  announce-fits r =
      rw (announce-said t l r) (go (cleared r.len r.addr) (announce-judged t l (cut_route r)) (λ e. announce-few r (announce-accepts t l r ∙ e)))
    where
      go : (b : Bool) {n : ℕ} {x : Said} → Announce t l (cut_route r) x → (accepts x ≡ true → n ≤ 4096) → FitsWord 0 (AnnounceFits n) (with_flag b x)
      go b (Announce.sizing n h) few = sizing-fits h
      go b (Announce.wrong n z w) few = let k = route-low w in FitsWord.number n k.0 k.1
      go b (Announce.unsound z f h) few = FitsWord.number 5 (omega arith) (omega arith)
      go b (Announce.replaced p h) few = let f = few refl in FitsWord.values _ (AnnounceFits.which (bit b) 1 (bit-low b) (omega arith) (omega arith))
      go b (Announce.full p h k) few = FitsWord.number 6 (omega arith) (omega arith)
      go b (Announce.second w x) few = FitsWord.number 7 (omega arith) (omega arith)
      go b (Announce.third w x y) few = FitsWord.number 8 (omega arith) (omega arith)
      go b (Announce.added w x y) few = let f = few refl in FitsWord.values _ (AnnounceFits.which (bit b) 0 (bit-low b) (omega arith) (omega arith))

  pub withdraw-few : (a len : ℕ) → accepts (withdrawn t l a len).said ≡ true → (withdrawn t l a len).table.count ≤ 4096
  withdraw-few a len e = (withdraw-holds t l a len e).sound.listed.records.few

  pub withdraw-fits : (a len : ℕ) → FitsWord 0 (WithdrawFits (withdrawn t l a len).table.count) (withdrawn t l a len).said
  withdraw-fits a len =
      rw (withdraw-said t l a len) (go (cleared len a) (withdraw-judged t l (cut len a) len) (λ e. withdraw-few a len (withdraw-accepts t l a len ∙ e)))
    where
      go : (b : Bool) {n : ℕ} {x : Said} → Withdraw t l (cut len a) len x → (accepts x ≡ true → n ≤ 4096) → FitsWord 0 (WithdrawFits n) (with_flag b x)
      go b (Withdraw.sizing n h) few = sizing-fits h
      go b (Withdraw.bad_prefix z h) few = FitsWord.number 3 (omega arith) (omega arith)
      go b (Withdraw.unsound z p h) few = FitsWord.number 5 (omega arith) (omega arith)
      go b (Withdraw.absent p k h) few = FitsWord.number 9 (omega arith) (omega arith)
      go b (Withdraw.removed w) few = let f = few refl in FitsWord.values _ (WithdrawFits.gone (bit b) (bit-low b) (omega arith))
