-- Where three levels serve a list of routes: what the walk for an address reads and says, and how many chunks are in use.
-- Said of what is seen of a table, so that it holds of a part of one.
use mathlib.Core.Path.{◌≡◌, refl, sym, ◌∙◌, ap}
use mathlib.Core.Logic.{◌⊎◌, inl, inr}
use mathlib.Core.Bool.{Bool, true, false, cond, true≢false}
use mathlib.Core.List.{List}
use Prim.Native.Nat.{ℕ, ◌+◌, ◌-◌, ◌*◌, ◌/◌, ◌^◌, ◌≤◌, ◌<◌}
use native.Mathlib.Omega.{arith}
use lib.Dec.{leb}
use lib.Pow.{shl_lt, shl-shr}
use borrow.Author.Tests.{le-leb, lt-leb}
use Rattle.bits.specs.Slot.{slot}
use Rattle.bits.specs.Count.{bit, count}
use Rattle.bits.proofs.Bools.{decided}
use Rattle.bits.proofs.Slots.{slot_lt, slot-up}
use Rattle.routes.specs.Route.{Good}
use Rattle.standing.specs.Cells.{long, best, need}
use Rattle.routes.specs.Said.{Said, refused}
use Rattle.routes.specs.declared.Route.{Route}
use Rattle.standing.proofs.Levels.{best-slot}
use Rattle.sail.specs.Geometry.{bits2, bits3, Valid}
use Rattle.sail.specs.Level.{Level, View, always, itself, in_use, level1, level2, level3}
use Rattle.sail.specs.Sound.{Serves}
use Rattle.standing.specs.Served.{hop_said}
use Rattle.sail.specs.Walk.{cell_place, cell1, place2, cell2, place3, cell3, last_cell, step_said, shut, walk_said}
use Rattle.sail.specs.Reads.{Leads, ReadsSecond, ReadsThird}
use Rattle.sail.proofs.Steps.{step-leaf, step-on}
use Rattle.sail.specs.declared.geometry.Geometry.{Geometry}
use Rattle.sail.proofs.Places.{Reached, top_reached, below-reached, used-need, read-leaf, read-node}

leads : {v m o : ℕ} → m < 32768 → (1 ≤ v) × (v ≤ m) × (0 < o) → Leads v m
leads h g = record { low = omega arith; one = g.0; last = g.1 }

module _ (rs : List Route) (g : Geometry) (t : View) (valid : Valid g) (good : Good rs) (s : Serves rs g t) where
  -- where the cells of the second and the third level stand in their pools, from the cells above them
  find2 : ℕ → ℕ
  find2 i = cell_place (bits2 g) (t.first (i / 2 ^ bits2 g)) i

  find3 : ℕ → ℕ
  find3 i = cell_place (bits3 g) (t.second (find2 (i / 2 ^ bits3 g))) i

  reach2 : ℕ → Bool
  reach2 i = long rs g.p1 (i / 2 ^ bits2 g)

  reach3 : ℕ → Bool
  reach3 i = long rs g.p2 (i / 2 ^ bits3 g)

  reached1 : Reached rs (level1 g) always itself
  reached1 = top_reached rs g.p1 (omega arith)

  reached2 : Reached rs (level2 g t.chunks2) reach2 find2
  unfolding reach2 find2
  reached2 = below-reached rs (level1 g) t.chunks2 t.first s.first always itself reached1 g.p2 (omega arith) (omega arith)

  reached3 : Reached rs (level3 g t.chunks2 t.chunks3) reach3 find3
  unfolding reach3 find3
  reached3 = below-reached rs (level2 g t.chunks2) t.chunks3 t.second s.second reach2 find2 reached2 32 (omega arith) (omega arith)

  -- as many chunks are in use as are needed
  pub used2-need : count (in_use t.chunks2.own) t.chunks2.many ≡ need rs g.p1
  used2-need = used-need rs (level1 g) t.chunks2 t.first s.first always itself reached1 good

  pub used3-need : count (in_use t.chunks3.own) t.chunks3.many ≡ need rs g.p2
  used3-need = used-need rs (level2 g t.chunks2) t.chunks3 t.second s.second reach2 find2 reached2 good

  module _ (a : ℕ) (small : a < 2 ^ 32) where
    -- the first cell of an address holds its second cell
    up2 : slot g.p2 a / 2 ^ bits2 g ≡ slot g.p1 a
    up2 =
        let sum : g.p1 + bits2 g ≡ g.p2 = omega arith in
        ap (λ (n : ℕ). slot n a / 2 ^ bits2 g) (sym sum) ∙ slot-up g.p1 (bits2 g) a (omega arith)

    place2-is : find2 (slot g.p2 a) ≡ place2 g t a
    unfolding find2
    place2-is = rw up2

    v2-is : t.second (find2 (slot g.p2 a)) ≡ cell2 g t a
    v2-is = ap t.second place2-is

    place3-is : find3 a ≡ place3 g t a
    unfolding find3
    place3-is = rw v2-is

    -- its second cell, where a longer route is at its first: a live place that stands for it
    pub second_at : long rs g.p1 (slot g.p1 a) ≡ true → let v2 : Level = level2 g t.chunks2 in
        (place2 g t a < v2.places) × (v2.live (place2 g t a) ≡ true) × (v2.at (place2 g t a) ≡ slot g.p2 a)
    unfolding reach2
    second_at e = rw place2-is at (reached2.match.back (slot g.p2 a) (slot_lt g.p2 a (omega arith) small) (rw up2 e))

    -- each cell on the way: a leaf with the best hop where no longer route is there, and the number of a chunk of one's own where one is
    pub leaf1 : long rs g.p1 (slot g.p1 a) ≡ false → cell1 g t a ≡ 32768 + best rs g.p1 (slot g.p1 a)
    leaf1 = read-leaf rs (level1 g) t.chunks2 t.first s.first always itself reached1 (slot g.p1 a) (slot_lt g.p1 a (omega arith) small) refl

    pub node1 : long rs g.p1 (slot g.p1 a) ≡ true → (1 ≤ cell1 g t a) × (cell1 g t a ≤ t.chunks2.many) × (0 < t.chunks2.own (cell1 g t a - 1))
    node1 = read-node rs (level1 g) t.chunks2 t.first s.first always itself reached1 (slot g.p1 a) (slot_lt g.p1 a (omega arith) small)

    pub leaf2 : long rs g.p1 (slot g.p1 a) ≡ true → long rs g.p2 (slot g.p2 a) ≡ false → cell2 g t a ≡ 32768 + best rs g.p2 (slot g.p2 a)
    unfolding reach2
    leaf2 e f =
        sym v2-is
        ∙ read-leaf rs (level2 g t.chunks2) t.chunks3 t.second s.second reach2 find2 reached2 (slot g.p2 a)
        (slot_lt g.p2 a (omega arith) small) (rw up2 e) f

    pub node2 : long rs g.p2 (slot g.p2 a) ≡ true → (1 ≤ cell2 g t a) × (cell2 g t a ≤ t.chunks3.many) × (0 < t.chunks3.own (cell2 g t a - 1))
    node2 e =
        let small2 = slot_lt g.p2 a (omega arith) small in
        rw (← v2-is) (read-node rs (level2 g t.chunks2) t.chunks3 t.second s.second reach2 find2 reached2 (slot g.p2 a) small2 e)

    pub leaf3 : long rs g.p2 (slot g.p2 a) ≡ true → cell3 g t a ≡ 32768 + best rs 32 a
    unfolding reach3
    leaf3 e =
        let j = reached3.match.back a small e in
        ap t.third (sym place3-is) ∙ s.third.leaf (find3 a) j.0 j.1 ∙ ap (λ (x : ℕ). 32768 + best rs 32 x) j.2

    -- a long second cell lies in a long first cell
    pub long2-long1 : long rs g.p2 (slot g.p2 a) ≡ true → long rs g.p1 (slot g.p1 a) ≡ true
    unfolding reach2
    long2-long1 e = rw up2 at (reached2.up (slot g.p2 a) e)

    -- the walk: where each chunk of one's own opens, it ends at the best hop, after one cell more for each level that has a longer route there
    pub walk-best : t.chunks2.many < 32768 → t.chunks3.many < 32768 → (opens2 opens3 : ℕ → Bool)
        → ((v : ℕ) → 1 ≤ v → v ≤ t.chunks2.many → 0 < t.chunks2.own (v - 1) → opens2 v ≡ true)
        → ((v : ℕ) → 1 ≤ v → v ≤ t.chunks3.many → 0 < t.chunks3.own (v - 1) → opens3 v ≡ true)
        → walk_said g opens2 opens3 t a ≡ hop_said (1 + bit (long rs g.p1 (slot g.p1 a)) + bit (long rs g.p2 (slot g.p2 a))) (best rs 32 a)
    unfolding walk_said
    walk-best few2 few3 opens2 opens3 free2 free3 = cases (decided (long rs g.p1 (slot g.p1 a))) (decided (long rs g.p2 (slot g.p2 a)))
      where
        v1 : ℕ
        v1 = cell1 g t a

        v2 : ℕ
        v2 = cell2 g t a

        v3 : ℕ
        v3 = cell3 g t a

        on1 : (n : Said) → long rs g.p1 (slot g.p1 a) ≡ true → n ≡ step_said 1 opens2 v1 n
        on1 n e = let g = node1 e in step-on 1 opens2 v1 n (omega (arith, g.1)) (free2 v1 g.0 g.1 g.2)

        on2 : (n : Said) → long rs g.p2 (slot g.p2 a) ≡ true → n ≡ step_said 2 opens3 v2 n
        on2 n e = let g = node2 e in step-on 2 opens3 v2 n (omega (arith, g.1)) (free3 v2 g.0 g.1 g.2)

        leaf : (n : ℕ) (opens : ℕ → Bool) (v : ℕ) (on : Said) → v ≡ 32768 + best rs 32 a → step_said n opens v on ≡ hop_said n (best rs 32 a)
        leaf n opens v on e = sym (step-leaf n opens v on (omega arith)) ∙ ap (hop_said n) (omega arith)

        cases : (long rs g.p1 (slot g.p1 a) ≡ true) ⊎ (long rs g.p1 (slot g.p1 a) ≡ false)
            → (long rs g.p2 (slot g.p2 a) ≡ true) ⊎ (long rs g.p2 (slot g.p2 a) ≡ false)
            → step_said 1 opens2 v1 (step_said 2 opens3 v2 (step_said 3 shut v3 (refused 5)))
            ≡ hop_said (1 + bit (long rs g.p1 (slot g.p1 a)) + bit (long rs g.p2 (slot g.p2 a))) (best rs 32 a)
        cases (inr e) (inl f) = absurd (true≢false (sym (long2-long1 f) ∙ e))
        cases (inr e) (inr f) = leaf 1 opens2 v1 _ (omega (arith, leaf1 e, best-slot rs g.p1 a (omega arith) e)) ∙ rw (e, f)
        cases (inl e) (inr f) = sym (on1 _ e) ∙ leaf 2 opens3 v2 _ (omega (arith, leaf2 e f, best-slot rs g.p2 a (omega arith) f)) ∙ rw (e, f)
        cases (inl e) (inl f) = sym (on1 _ e) ∙ sym (on2 _ f) ∙ leaf 3 shut v3 _ (leaf3 f) ∙ rw (e, f)

    -- the leaf at its end
    pub last-best : t.chunks2.many < 32768 → t.chunks3.many < 32768 → last_cell g t a ≡ 32768 + best rs 32 a
    unfolding last_cell
    last-best few2 few3 = cases (decided (long rs g.p1 (slot g.p1 a))) (decided (long rs g.p2 (slot g.p2 a)))
      where
        v1 : ℕ
        v1 = cell1 g t a

        v2 : ℕ
        v2 = cell2 g t a

        v3 : ℕ
        v3 = cell3 g t a

        cases : (long rs g.p1 (slot g.p1 a) ≡ true) ⊎ (long rs g.p1 (slot g.p1 a) ≡ false)
            → (long rs g.p2 (slot g.p2 a) ≡ true) ⊎ (long rs g.p2 (slot g.p2 a) ≡ false)
            → cond (leb 32768 v1) v1 (cond (leb 32768 v2) v2 v3) ≡ 32768 + best rs 32 a
        cases (inr e) f = let k = leaf1 e in rw (le-leb 32768 v1 (omega arith)) (omega (arith, best-slot rs g.p1 a (omega arith) e))
        cases (inl e) (inr f) =
            let k = leaf2 e f in
            rw (lt-leb 32768 v1 (omega (arith, (node1 e).1)), le-leb 32768 v2 (omega arith)) (omega (arith, best-slot rs g.p2 a (omega arith) f))
        cases (inl e) (inl f) = rw (lt-leb 32768 v1 (omega (arith, (node1 e).1)), lt-leb 32768 v2 (omega (arith, (node2 f).1))) (leaf3 f)

  -- every cell in use serves an address
  pub second-read : t.chunks2.many < 32768 → (q : ℕ) → q < (level2 g t.chunks2).places → (level2 g t.chunks2).live q ≡ true
      → (a : ℕ) × (a < 2 ^ 32) × ReadsSecond g t a q
  unfolding reach2
  second-read few q l e =
      let j = reached2.match.there q l e in
      let i : ℕ = (level2 g t.chunks2).at q in
      let a : ℕ = i * 2 ^ bits3 g in
      let sum : g.p2 + bits3 g ≡ 32 = omega arith in
      let h : a < 2 ^ 32 = rw sum at (shl_lt g.p2 (bits3 g) j.0) in
      let is : slot g.p2 a ≡ i = shl-shr i (bits3 g) in
      let f : long rs g.p1 (slot g.p1 a) ≡ true = rw (up2 a h) at (rw (← is) at j.1) in
      (a, h, record { goes = leads few (node1 a h f); there = cc (sym (place2-is a h) ∙ ap find2 is ∙ j.2) })

  pub third-read : t.chunks2.many < 32768 → t.chunks3.many < 32768 → (q : ℕ) → q < (level3 g t.chunks2 t.chunks3).places
      → (level3 g t.chunks2 t.chunks3).live q ≡ true
      → (a : ℕ) × (a < 2 ^ 32) × ReadsThird g t a q
  unfolding reach3
  third-read few2 few3 q l e =
      let j = reached3.match.there q l e in
      let a : ℕ = (level3 g t.chunks2 t.chunks3).at q in
      let h : a < 2 ^ 32 = j.0 in
      let f : long rs g.p2 (slot g.p2 a) ≡ true = j.1 in
      (a, h, record { goes = leads few2 (node1 a h (long2-long1 a h f)); on = leads few3 (node2 a h f); there = cc (sym (place3-is a h) ∙ j.2) })
