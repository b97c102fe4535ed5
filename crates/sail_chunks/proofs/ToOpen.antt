-- Which chunks an announcement opens, as the cells of its prefix tell.
use mathlib.Core.Path.{◌≡◌, refl, sym, ◌∙◌, ap}
use mathlib.Core.Logic.{◌⊎◌, inl, inr}
use mathlib.Core.Bool.{Bool, true, false, not, ◌&&◌, cond, true≢false}
use mathlib.Core.List.{List}
use Prim.Native.Nat.{ℕ, suc, ◌+◌, ◌-◌, ◌^◌, ◌≤◌, ◌<◌}
use native.Mathlib.Numerals.{add-one}
use native.Mathlib.Omega.{arith}
use lib.Dec.{ltb, leb}
use lib.ListN.{length, set}
use lib.Pow.{pow_mono}
use borrow.Author.Tests.{lt-ltb, le-ltb, lt-leb, le-leb, leb-true}
use Rattle.bits.specs.Slot.{slot}
use Rattle.bits.proofs.Slots.{slot_lt}
use Rattle.bits.proofs.Bools.{decided, below?, and_split}
use Rattle.routes.specs.Route.{key, Fine, Good}
use Rattle.standing.specs.Cells.{long}
use Rattle.standing.specs.Standing.{stands}
use Rattle.standing.proofs.NeedAfter.{stands-long}
use Rattle.routes.specs.declared.Route.{Route}
use Rattle.sail.specs.Geometry.{bits2, Valid}
use Rattle.sail.specs.Level.{Level, chunks_of, level1, level2}
use Rattle.sail.specs.Walk.{cell_place}
use Rattle.sail.specs.declared.geometry.Geometry.{Geometry}
use Rattle.sail_theory.specs.Render.{find}
use Rattle.sail_theory.specs.Calls.{grant, open_at}
use Rattle.sail_theory.proofs.owners.OpenAt.{find-hung}
use Rattle.sail_chunks.specs.Chunks.{alone, with_owner}
use Rattle.sail_chunks.specs.Trail.{CellTells, Trailed}
use Rattle.sail_chunks.specs.ToOpen.{ChunkForReady, no_opening, Opens, OpensAt, Openable}
use Rattle.sail_chunks.specs.declared.opening.Opening.{Opening}
use Rattle.sail_chunks.proofs.ChunkOwners.{alone-longer, not-alone}

-- the answers of `leaf_under` and `chunk_for`
pub leaf-longer : (v p len : ℕ) → p < len → leb 32768 v ≡ (ltb p len && leb 32768 v)
leaf-longer v p len h = rw (lt-ltb p len h)

pub leaf-shorter : (v p len : ℕ) → len ≤ p → false ≡ (ltb p len && leb 32768 v)
leaf-shorter v p len h = rw (le-ltb p len h)

pub chunk-free : (b : Bool) (new c : ℕ) → ChunkForReady new c → b ≡ true → (new ≡ cond b new c) × (new < 65536)
chunk-free b new c n h = (rw h, n.few)

pub chunk-had : (b : Bool) (new c : ℕ) → ChunkForReady new c → b ≡ false → (c ≡ cond b new c) × (c < 65536)
chunk-had b new c n h = (rw h, n.small)

-- what the cell of an address at a level tells
module _ (rs : List Route) (v : Level) (own : List ℕ) (a x : ℕ) (k : CellTells rs v own a x) where
  pub told-one : 1 ≤ x
  told-one = go (decided (long rs v.bits (slot v.bits a)))
    where
      go : (long rs v.bits (slot v.bits a) ≡ true) ⊎ (long rs v.bits (slot v.bits a) ≡ false) → 1 ≤ x
      go (inl d) = omega (arith, k.node d)
      go (inr d) = omega (arith, leb-true 32768 x (k.leaf ∙ rw d))

  pub told-chunk : long rs v.bits (slot v.bits a) ≡ true → x - 1 ≡ find own (suc (v.serving a))
  told-chunk d = omega (arith, k.node d)

  -- a longer prefix that finds a leaf alone needs a chunk
  pub leaf-alone : (len : ℕ) → (ltb v.bits len && leb 32768 x) ≡ alone rs v.bits a len
  unfolding alone
  leaf-alone len = rw k.leaf

module _ (g : Geometry) (rs : List Route) (own2 own3 : List ℕ) (a x1 x2 : ℕ) (k : Trailed g rs own2 own3 a x1 x2) where
  pub named-first : 1 ≤ x1
  named-first = told-one rs (level1 g) own2 a x1 k.first

  -- what `to_open` answers
  pub opens-is : Valid g → (len w : ℕ) → w ≡ len → x1 < 65536 → (two three : Bool) → two ≡ (ltb g.p1 w && leb 32768 x1)
      → three ≡ (ltb g.p2 w && leb 32768 x2) → Opens g rs own2 a len (record { second = two; third = three; chunk = x1 - 1 })
  opens-is valid len w is small two three e f = record {
    second = second;
    third = third;
    chunk = λ h d.
        let longer = alone-longer rs g.p2 a len (sym third ∙ h) in
        told-chunk rs (level1 g) own2 a x1 k.first (not-alone rs g.p1 a len (omega (arith, valid.p2_low)) (sym second ∙ d));
    few = omega arith;
  }
    where
      second : two ≡ alone rs g.p1 a len
      second = e ∙ ap (λ (n : ℕ). ltb g.p1 n && leb 32768 x1) is ∙ leaf-alone rs (level1 g) own2 a x1 k.first len

      third : three ≡ alone rs g.p2 a len
      third = f ∙ ap (λ (n : ℕ). ltb g.p2 n && leb 32768 x2) is ∙ leaf-alone rs (level2 g (chunks_of own2)) own3 a x2 k.second len

-- nothing is opened for a prefix that stands: its cells are long already
pub opens-nothing : (g : Geometry) (rs : List Route) (own2 : List ℕ) (r : Route) → Fine r → Good rs → stands (key r) rs ≡ true
    → Opens g rs own2 r.addr r.len no_opening
unfolding alone
opens-nothing g rs own2 r fine good e = record {
  second = never g.p1;
  third = never g.p2;
  chunk = λ h d. absurd (true≢false (sym h));
  few = omega arith;
}
  where
    never : (p : ℕ) → false ≡ alone rs p r.addr r.len
    never p = go (decided (ltb p r.len))
      where
        go : (ltb p r.len ≡ true) ⊎ (ltb p r.len ≡ false) → false ≡ (ltb p r.len && not (long rs p (slot p r.addr)))
        go (inl h) = rw (h, stands-long r rs fine good e p h)
        go (inr h) = rw h

-- the owners of a level after what is opened there, and the chunk that then serves the route: the new one, or the one that was there
module _ (v : Level) (own : List ℕ) (r : Route) (b : Bool) (c : ℕ) (k : OpensAt v own r b c) where
  abbrev q : ℕ
  q = v.serving r.addr

  pub opens-owner : open_at v own c r ≡ with_owner b c (suc q) own
  unfolding open_at grant with_owner
  opens-owner = rw k.opens (go (ltb v.bits r.len) (below? (find own (suc q)) (length own)))
    where
      go : (x : Bool) → (find own (suc q) < length own) ⊎ (length own ≤ find own (suc q))
          → cond x (cond (ltb (find own (suc q)) (length own)) own (set own c (suc q))) own
          ≡ cond (x && leb (length own) (find own (suc q))) (set own c (suc q)) own
      go false h = refl
      go true (inl h) = rw (lt-ltb _ _ h, lt-leb _ _ h)
      go true (inr h) = rw (le-ltb _ _ h, le-leb _ _ h)

  pub opens-serves : cond b c (find own (suc q)) ≡ find (open_at v own c r) (suc q)
  unfolding with_owner
  opens-serves = rw opens-owner (go (decided b))
    where
      go : (b ≡ true) ⊎ (b ≡ false) → cond b c (find own (suc q)) ≡ find (cond b (set own c (suc q)) own) (suc q)
      go (inr e) = rw e
      go (inl e) =
          let none = leb-true _ _ (and_split (ltb v.bits r.len) _ (sym k.opens ∙ e)).1 in
          rw e (sym (find-hung own c q (k.free.some e) none))

-- what `open` leaves
module _ (g : Geometry) (r : Route) (o : Opening) (c2 c3 : ℕ) (own2 own3 : List ℕ) (w : Openable g r o c2 c3 own2 own3) where
  abbrev next2 : List ℕ
  next2 = open_at (level1 g) own2 c2 r

  pub opened-second : (x : ℕ) (own : List ℕ) → x ≡ slot g.p1 r.addr → own ≡ with_owner o.second c2 (x + 1) own2 → own ≡ next2
  opened-second x own e h = h ∙ rw (e, add-one) (sym (opens-owner (level1 g) own2 r o.second c2 w.second))

  -- the second chunk that then serves the route, where a third one is opened
  served-by : (c : ℕ) → c ≡ cond o.second c2 o.chunk → o.third ≡ true → c ≡ find next2 (suc (slot g.p1 r.addr))
  served-by c e y = e ∙ go (decided o.second) ∙ opens-serves (level1 g) own2 r o.second c2 w.second
    where
      go : (o.second ≡ true) ⊎ (o.second ≡ false)
          → cond o.second c2 o.chunk ≡ cond o.second c2 (find own2 (suc (slot g.p1 r.addr)))
      go (inl d) = rw d
      go (inr d) = rw (w.chunk y d)

  pub opened-third : (c : ℕ) → c ≡ cond o.second c2 o.chunk → (q : ℕ) (own : List ℕ)
      → q ≡ cell_place (bits2 g) (c + 1) (slot g.p2 r.addr) → own ≡ with_owner o.third c3 (q + 1) own3
      → own ≡ open_at (level2 g (chunks_of next2)) own3 c3 r
  unfolding with_owner
  opened-third c z q own e h = h ∙ go (decided o.third) ∙ sym (opens-owner (level2 g (chunks_of next2)) own3 r o.third c3 w.third)
    where
      go : (o.third ≡ true) ⊎ (o.third ≡ false) → with_owner o.third c3 (q + 1) own3 ≡ with_owner o.third c3
          (suc ((level2 g (chunks_of next2)).serving r.addr)) own3
      go (inr y) = rw y
      go (inl y) =
          let n : c + 1 - 1 ≡ find next2 (suc (slot g.p1 r.addr)) = omega (arith, served-by c z y) in
          ap (λ (x : ℕ). with_owner o.third c3 x own3) (add-one q ∙ ap suc (e ∙ rw n))

-- the owner of a second chunk is small
pub slot_small : (g : Geometry) (a x : ℕ) → Valid g → a < 2 ^ 32 → x ≡ slot g.p1 a → x < 65536
slot_small g a x v h e = omega (arith, slot_lt g.p1 a (omega arith) h, pow_mono v.p1_high)
