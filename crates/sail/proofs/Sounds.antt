-- What soundness gives: the answers of lookup, the chunks in use, the leaves, and the counts on a walk.
use mathlib.Core.Path.{◌≡◌, refl, sym, ◌∙◌, ap, ap₂}
use mathlib.Core.Logic.{◌⊎◌, inl, inr}
use mathlib.Core.Bool.{Bool, true, false, cond}
use mathlib.Core.List.{List, [], ◌∷◌, Memᴰ}
use Prim.Native.Nat.{ℕ, ◌+◌, ◌-◌, ◌*◌, ◌^◌, ◌≤◌, ◌<◌}
use native.Mathlib.Omega.{arith}
use lib.Dec.{leb, eqb}
use lib.ListN.{length, get_or}
use lib.Pow.{shl_lt, shl-shr}
use borrow.Author.Tests.{le-leb, lt-leb, eq-eqb, eqb-true}
use Rattle.bits.specs.Slot.{slot}
use Rattle.bits.specs.Count.{bit}
use Rattle.bits.proofs.Slots.{slot_lt}
use Rattle.bits.proofs.Bools.{both, decided}
use Rattle.routes.specs.Route.{Good}
use Rattle.standing.specs.Cells.{covers, long, best, need}
use Rattle.routes.specs.Record.{routes_of}
use Rattle.routes.specs.Said.{accepted}
use Rattle.routes.specs.declared.Route.{Route}
use Rattle.standing.proofs.Only.{none-covers, covers-none}
use Rattle.standing.proofs.Served.{none-hop}
use Rattle.routes.proofs.Rows.{records-good}
use Rattle.counts.specs.Counts.{how_many}
use Rattle.sail.specs.Lent.{Lent}
use Rattle.sail.specs.Level.{whole, chunks_of, level2, level3}
use Rattle.sail.specs.Sizes.{sizes_fault}
use Rattle.standing.specs.Served.{hop_said}
use Rattle.sail.specs.Walk.{one_of, found_said, lookup_said, last_cell, cell1, place2, walk_counts}
use Rattle.sail.specs.Reads.{ReadsFirst, ReadsSecond, ReadsThird}
use Rattle.sail.specs.Sound.{standing, Sound, cells_read, used}
use Rattle.sail.specs.declared.geometry.Geometry.{Geometry}
use Rattle.sail.specs.declared.table.Table.{Table}
use Rattle.sail.proofs.Fitting.{none_is}
use Rattle.sail.proofs.Walks.{leaf1, node1, second_at, walk-best, last-best, second-read, third-read, used2-need, used3-need}

-- an answer of no hop
hop-none : (n h : ℕ) → hop_said n h ≡ accepted (n ∷ []) → h ≡ 0
unfolding hop_said
hop-none n h e = go (decided (eqb h 0)) e
  where
    go : (eqb h 0 ≡ true) ⊎ (eqb h 0 ≡ false) → cond (eqb h 0) (accepted (n ∷ [])) (accepted (n ∷ h ∷ [])) ≡ accepted (n ∷ []) → h ≡ 0
    go (inl q) e = eqb-true h 0 q
    go (inr q) e = let f : accepted (n ∷ h ∷ []) ≡ accepted (n ∷ []) = rw q at e in cc

bit_le : (b : Bool) → bit b ≤ 1
bit_le true = omega arith
bit_le false = omega arith

module _ (t : Table) (l : Lent) (s : Sound t l) where
  abbrev g : Geometry
  g = t.geometry

  abbrev rs : List Route
  rs = standing t l

  few2 : length l.own2 < 32768
  few2 = omega (arith, s.sized.few2)

  few3 : length l.own3 < 32768
  few3 = omega (arith, s.sized.few3)

  pub standing-good : Good rs
  standing-good = records-good l.list t.count s.listed.records

  -- Demand 2. Lookup in a sound table says the hop of the longest standing route that covers the address, and no hop where none does;
  -- the count of cells read is that of the routes
  pub sail-serves : (a : ℕ) → a < 2 ^ 32 → lookup_said t l a ≡ hop_said (cells_read g rs a) (best rs 32 a)
  unfolding lookup_said found_said
  sail-serves a h =
      rw (eq-eqb (sizes_fault g l) 0 (none_is g l s.sized))
      (walk-best rs g (whole l) s.sized.valid standing-good s.serves a h few2 few3 (one_of (length l.own2)) (one_of (length l.own3))
      (λ v i j o. both (le-leb 1 v i) (le-leb v _ j)) (λ v i j o. both (le-leb 1 v i) (le-leb v _ j)))

  -- so it says no route exactly where no standing route covers the address
  pub sail-no-route : (a : ℕ) → a < 2 ^ 32
      → (lookup_said t l a ≡ accepted (cells_read g rs a ∷ []) → (r : Route) → Memᴰ r rs → covers 32 a r ≡ false)
      × (((r : Route) → Memᴰ r rs → covers 32 a r ≡ false) → lookup_said t l a ≡ accepted (cells_read g rs a ∷ []))
  sail-no-route a h = (
    (λ e. none-covers rs standing-good 32 a (hop-none (cells_read g rs a) (best rs 32 a) (sym (sail-serves a h) ∙ e))),
    (λ n. sail-serves a h ∙ ap (hop_said (cells_read g rs a)) (covers-none rs standing-good 32 a n) ∙ none-hop (cells_read g rs a)),
  )

  -- the count is 1, 2 or 3
  pub reads-few : (a : ℕ) → (1 ≤ cells_read g rs a) × (cells_read g rs a ≤ 3)
  reads-few a = (omega arith, omega (arith, bit_le (long rs g.p1 (slot g.p1 a)), bit_le (long rs g.p2 (slot g.p2 a))))

  -- in both pools as many chunks are in use as the standing routes need
  pub chunks-need : (used l.own2 ≡ need rs g.p1) × (used l.own3 ≡ need rs g.p2)
  chunks-need = (
    used2-need rs g (whole l) s.sized.valid standing-good s.serves,
    used3-need rs g (whole l) s.sized.valid standing-good s.serves,
  )

  -- the leaf at which the walk for an address ends holds the hop of the longest standing route that covers the address
  pub leaf-is : (a : ℕ) → a < 2 ^ 32 → last_cell g (whole l) a ≡ 32768 + best rs 32 a
  leaf-is a h = last-best rs g (whole l) s.sized.valid standing-good s.serves a h few2 few3

  -- and each first cell, and each cell of a chunk in use, is one that the walk for some address reads
  pub first-served : (q : ℕ) → q < 2 ^ g.p1 → (a : ℕ) × (a < 2 ^ 32) × ReadsFirst g a q
  first-served q h =
      let v = s.sized.valid in
      let e : g.p1 + (32 - g.p1) ≡ 32 = omega arith in
      (q * 2 ^ (32 - g.p1), rw e at (shl_lt g.p1 (32 - g.p1) h), record { there = shl-shr q (32 - g.p1) })

  pub second-served : (q : ℕ) → q < length l.second → (level2 g (chunks_of l.own2)).live q ≡ true → (a : ℕ) × (a < 2 ^ 32) × ReadsSecond g (whole l) a q
  second-served q h e = second-read rs g (whole l) s.sized.valid standing-good s.serves few2 q (rw s.sized.cells2 at h) e

  pub third-served : (q : ℕ) → q < length l.third → (level3 g (chunks_of l.own2) (chunks_of l.own3)).live q ≡ true → (a : ℕ) × (a < 2 ^ 32)
      × ReadsThird g (whole l) a q
  third-served q h e = third-read rs g (whole l) s.sized.valid standing-good s.serves few2 few3 q (rw s.sized.cells3 at h) e

  -- the counts on the walk of an address are how many routes longer than each level have its bits
  pub counts-serve : (a : ℕ) → a < 2 ^ 32
      → walk_counts g l a ≡ how_many rs g.p1 (slot g.p1 a) ∷ cond (long rs g.p1 (slot g.p1 a)) (how_many rs g.p2 (slot g.p2 a) ∷ []) []
  unfolding walk_counts
  counts-serve a h = go (decided (long rs g.p1 (slot g.p1 a)))
    where
      one : get_or l.long1 (slot g.p1 a) 0 ≡ how_many rs g.p1 (slot g.p1 a)
      one = let v = s.sized.valid in s.counted1.true_there (slot g.p1 a) (slot_lt g.p1 a (omega arith) h) refl

      two : long rs g.p1 (slot g.p1 a) ≡ true → get_or l.long2 (place2 g (whole l) a) 0 ≡ how_many rs g.p2 (slot g.p2 a)
      two e =
          let j = second_at rs g (whole l) s.sized.valid standing-good s.serves a h e in
          s.counted2.true_there (place2 g (whole l) a) j.0 j.1 ∙ ap (how_many rs g.p2) j.2

      go : (long rs g.p1 (slot g.p1 a) ≡ true) ⊎ (long rs g.p1 (slot g.p1 a) ≡ false)
          → get_or l.long1 (slot g.p1 a) 0 ∷ cond (leb 32768 (cell1 g (whole l) a)) [] (get_or l.long2 (place2 g (whole l) a) 0 ∷ [])
          ≡ how_many rs g.p1 (slot g.p1 a) ∷ cond (long rs g.p1 (slot g.p1 a)) (how_many rs g.p2 (slot g.p2 a) ∷ []) []
      go (inl e) =
          let n = node1 rs g (whole l) s.sized.valid standing-good s.serves a h e in
          rw (e, lt-leb 32768 (cell1 g (whole l) a) (omega (arith, n.1, few2))) (ap₂ (λ (x y : ℕ). x ∷ y ∷ []) one (two e))
      go (inr e) =
          let k = leaf1 rs g (whole l) s.sized.valid standing-good s.serves a h e in
          rw (e, le-leb 32768 (cell1 g (whole l) a) (omega arith)) (ap (λ (x : ℕ). x ∷ []) one)

-- So two sound tables of one list have the same leaves, whatever numbers their chunks have.
pub leaf-determined : (t : Table) (l l' : Lent) → Sound t l → Sound t l' → l.list ≡ l'.list → (a : ℕ) → a < 2 ^ 32
    → let g : Geometry = t.geometry in last_cell g (whole l) a ≡ last_cell g (whole l') a
leaf-determined t l l' s s' e a h = leaf-is t l s a h ∙ ap (λ (xs : List ℕ). 32768 + best (routes_of xs t.count) 32 a) e ∙ sym (leaf-is t l' s' a h)
