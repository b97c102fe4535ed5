-- The lookup of an address in a sound table reads the live places that stand for its cells. Down from the first level, the cell that is read
-- names the chunk of the place below, since no two live places of a level stand for one cell.
use mathlib.Core.Path.{◌≡◌, refl, sym, ◌∙◌, ap, ap₂, subst}
use mathlib.Core.Bool.{true}
use mathlib.Core.List.{List}
use Prim.Native.Nat.{ℕ, suc, ◌+◌, ◌-◌, ◌*◌, ◌/◌, ◌%◌, ◌^◌, ◌≤◌, ◌<◌}
use native.Mathlib.Omega.{arith}
use native.Mathlib.Nat.{div-add-mod', div-one}
use lib.ListN.{get_or, length}
use Rattle.bits.specs.Slot.{slot}
use Rattle.bits.proofs.Slots.{slot_lt}
use Rattle.routes.specs.declared.Route.{Route}
use Rattle.sail.specs.Geometry.{bits2, bits3, Valid}
use Rattle.sail.specs.Lent.{Lent}
use Rattle.sail.specs.Level.{Level, Chunks, entry, chunks_of, whole, below, level1, level2, level3}
use Rattle.sail.specs.Sound.{Shows, Sound, standing}
use Rattle.sail.specs.Walk.{cell_place, cell2}
use Rattle.sail.specs.Reads.{Leads, ReadsSecond, ReadsThird}
use Rattle.sail.specs.declared.geometry.Geometry.{Geometry}
use Rattle.sail.specs.declared.table.Table.{Table}
use Rattle.standing.proofs.TwoLevels.{slot-down}
use Rattle.sail_theory.proofs.places.Places.{chunk-lt, live-owner, part_up, part_low, Apart, top_apart, below_apart}
use Rattle.sail_theory.proofs.places.Rendered.{sound-rendered}

-- From the place z of a level to the place q of the level below: where they stand for the cells of x, z's cell names q's chunk.
module _ (rs : List Route) (v : Level) (k : Chunks) (cells : ℕ → ℕ) (s : Shows rs v k cells) (apart : Apart v) (p x : ℕ) (h : v.bits ≤ p) (u : p ≤ 32)
    (q : ℕ) (l : q < (below v k p).places) (e : (below v k p).live q ≡ true) (is : (below v k p).at q ≡ slot p x) where
  abbrev d : ℕ
  d = p - v.bits

  -- the owner of q's chunk stands for the cell of x
  owner-stands : v.at (k.own (q / 2 ^ d) - 1) ≡ slot v.bits x
  owner-stands = sym (part_up v k p q) ∙ ap (λ (j : ℕ). j / 2 ^ d) is ∙ sym (slot-down v.bits p x h u)

  stands-named : (z : ℕ) → z < v.places → v.live z ≡ true → v.at z ≡ slot v.bits x
      → (cells z ≡ suc (q / 2 ^ d)) × (cells z ≤ k.many) × (cell_place d (cells z) (slot p x) ≡ q)
  stands-named z zl lz above =
      let c = chunk-lt d k.many q l in
      let o = s.owned (q / 2 ^ d) (k.own (q / 2 ^ d) - 1) c (live-owner v k p q e) in
      let same : k.own (q / 2 ^ d) - 1 ≡ z = apart _ z o.0 zl o.1 lz (owner-stands ∙ sym above) in
      let named : cells z ≡ suc (q / 2 ^ d) = rw same at o.3 in
      let low : slot p x % 2 ^ d ≡ q % 2 ^ d = ap (λ (j : ℕ). j % 2 ^ d) (sym is) ∙ part_low v k p q in
      let chunk : cells z - 1 ≡ q / 2 ^ d = omega arith in
      (named, omega arith, ap₂ (λ (a b : ℕ). a * 2 ^ d + b) chunk low ∙ div-add-mod' q (2 ^ d))

leads : {v c m : ℕ} → v ≡ suc c → v ≤ m → m ≤ 4096 → Leads v m
leads e h f = record { low = omega arith; one = omega arith; last = h }

-- the lookup of x reads the live place that stands for its cell
module _ (t : Table) (l : Lent) (s : Sound t l) (x : ℕ) (small : x < 2 ^ 32) where
  abbrev g : Geometry
  g = t.geometry

  abbrev v2 : Level
  v2 = level2 g (chunks_of l.own2)

  valid : Valid g
  valid = s.sized.valid

  -- the first cell of x
  abbrev cell1 : ℕ
  cell1 = get_or l.first (slot g.p1 x) 0

  named2 : (q : ℕ) → q < v2.places → v2.live q ≡ true → v2.at q ≡ slot g.p2 x
      → (cell1 ≡ suc (q / 2 ^ bits2 g)) × (cell1 ≤ length l.own2) × (cell_place (bits2 g) cell1 (slot g.p2 x) ≡ q)
  named2 q h e p =
      let v = valid in
      stands-named (standing t l) (level1 g) (chunks_of l.own2) (entry l.first) s.serves.first (top_apart g.p1) g.p2 x (omega arith)
      (omega arith) q h e p
      (slot g.p1 x) (slot_lt g.p1 x (omega arith) small) refl refl

  pub reads_second : (q : ℕ) → q < v2.places → v2.live q ≡ true → v2.at q ≡ slot g.p2 x → ReadsSecond g (whole l) x q
  reads_second q h e p = let k = named2 q h e p in record { goes = leads k.0 k.1 s.sized.few2; there = k.2 }

  abbrev v3 : Level
  v3 = level3 g (chunks_of l.own2) (chunks_of l.own3)

  pub reads-third : (q : ℕ) → q < v3.places → v3.live q ≡ true → v3.at q ≡ slot 32 x → ReadsThird g (whole l) x q
  reads-third q h e p =
      let v = valid in
      let z : ℕ = get_or l.own3 (q / 2 ^ bits3 g) 0 - 1 in
      let k = s.serves.second.owned (q / 2 ^ bits3 g) z (chunk-lt (bits3 g) (length l.own3) q h) (live-owner v2 (chunks_of l.own3) 32 q e) in
      let apart = below_apart (standing t l) (level1 g) (chunks_of l.own2) g.p2 (sound-rendered t l s).fits2 (top_apart g.p1) in
      let stands = owner-stands (standing t l) v2 (chunks_of l.own3) (entry l.second) s.serves.second apart 32 x (omega arith) (omega arith) q h e p in
      let two = named2 z k.0 k.1 stands in
      let three = stands-named (standing t l) v2 (chunks_of l.own3) (entry l.second) s.serves.second apart 32 x (omega arith) (omega arith)
      q h e p z k.0 k.1 stands in
      let here : cell2 g (whole l) x ≡ get_or l.second z 0 = ap (entry l.second) two.2 in
      record {
        goes = leads two.0 two.1 s.sized.few2;
        on = subst (λ (j : ℕ). Leads j (length l.own3)) (sym here) (leads three.0 three.1 s.sized.few3);
        there = ap₂ (cell_place (bits3 g)) here (sym (div-one x)) ∙ three.2;
      }
