-- What giving a chunk an owner leaves, and the chunks of a route.
use mathlib.Core.Path.{◌≡◌, refl, sym, ◌∙◌, ap}
use mathlib.Core.Logic.{◌⊎◌, inl, inr, ◌≢◌}
use mathlib.Core.List.{List}
use Prim.Native.Nat.{ℕ, suc, ◌+◌, ◌-◌, ◌≤◌, ◌<◌}
use native.Mathlib.Omega.{arith}
use lib.ListN.{length, get_or, set, length-set}
use lib.Pow.{pow_mono}
use lib.Seq.{get_or-set_same, get_or-set_other}
use borrow.Author.Tests.{lt-ltb, le-ltb}
use Rattle.bits.specs.Slot.{slot}
use Rattle.bits.proofs.Slots.{slot_lt}
use Rattle.bits.proofs.Bools.{equal?}
use Rattle.routes.specs.declared.Route.{Route}
use Rattle.sail.specs.Geometry.{bits2}
use Rattle.sail.specs.Level.{chunks_of}
use Rattle.sail.specs.Pool.{SecondChunk}
use Rattle.sail.specs.Walk.{cell_place}
use Rattle.sail.specs.declared.geometry.Geometry.{Geometry}
use Rattle.sail_theory.specs.Render.{find}
use Rattle.sail_theory.proofs.owners.Chunks.{chunk-is, chunk-none, chunk-before}
use Rattle.sail_owners.specs.Owners.{
  granted,
  open_from,
  second_from,
  place_from,
  Past,
  LastIs,
  MayOwn,
  stays,
  goes,
  HasOwner,
  Next,
  none,
  hung,
  Taken,
  OpenForReady,
  Opened,
}
use Rattle.sail_owners.specs.declared.owners.Passes.{Passes}

-- the search for a free chunk
module _ (own : List ℕ) (from : ℕ) (p : Past own from) where
  pub free-here : (c : ℕ) → c < length own → ((j : ℕ) → j < c → get_or own j 0 ≢ 0) → get_or own c 0 ≡ 0 → (c ≡ find own 0) × (c ≤ length own)
  free-here c l u e = (sym (chunk-is (chunks_of own) 0 c l e u), omega arith)

  pub free-nowhere : ((j : ℕ) → j < length own → get_or own j 0 ≢ 0) → (length own ≡ find own 0) × (length own ≤ length own)
  free-nowhere u = (sym (chunk-none (chunks_of own) 0 u), omega arith)

-- a chunk that is had already, and one that is given
pub granted-had : (own : List ℕ) (o : ℕ) → find own o < length own → granted own o ≡ own
unfolding granted
granted-had own o h = rw (lt-ltb (find own o) (length own) h)

pub granted-new : (own : List ℕ) (o : ℕ) → length own ≤ find own o → granted own o ≡ set own (find own 0) o
unfolding granted
granted-new own o h = rw (le-ltb (find own o) (length own) h)

-- a chunk that has the owner o
module _ (own : List ℕ) (m o : ℕ) (h : MayOwn own m o) where
  pub hung-had : LastIs own m o → HasOwner own m o own m
  hung-had e = record {
    moved = stays e refl refl;
    is = sym (granted-had own o (omega (arith, h.had e, h.past.few)));
    past = h.past;
    last = h.had e;
  }

  module _ (e : LastIs own m o → ⊥) (c : ℕ) (f : c ≡ find own 0) where
    pub room : c < length own
    room = rw f (h.new e).0

    used : (j : ℕ) → j < c + 1 → (j ≡ c) ⊎ (j ≢ c) → get_or (set own c o) j 0 ≢ 0
    used j i (inl y) z = omega (arith, z, ap (λ (x : ℕ). get_or (set own c o) x 0) y, get_or-set_same own c o 0 room, h.some)
    used j i (inr y) z = chunk-before (chunks_of own) 0 j (omega arith) (sym (get_or-set_other own c j o 0 y) ∙ z)

    found : find (set own c o) o ≡ c
    found =
        chunk-is (chunks_of (set own c o)) o c (rw length-set room) (get_or-set_same own c o 0 room)
        (λ j i z. chunk-before (chunks_of own) o j (omega (arith, (h.new e).1, room)) (sym (get_or-set_other own c j o 0 (λ y. omega arith)) ∙ z))

    pub hung-new : HasOwner own m o (set own c o) (c + 1)
    hung-new = record {
      moved = goes e (rw f) (omega arith);
      is = rw f (sym (granted-new own o (h.new e).1));
      past = record { few = rw length-set (omega (arith, room)); used = λ j i. used j i (equal? j c) };
      last = omega (arith, found);
    }

-- The chunk of a route at one level. A route that is no longer than the level opens none.
pub taken_none : (top p q : ℕ) (r : Route) (m : ℕ) (own : List ℕ) → Next top p q r m own → r.len ≤ p → Taken top p q r own m m own
unfolding open_from
taken_none top p q r m own n h = record { is = rw (le-ltb p r.len h); past = n.past; step = none h refl refl }

-- the chunk of a longer one hangs from q; the program writes o
module _ (top p q : ℕ) (r : Route) (m : ℕ) (own : List ℕ) (n : Next top p q r m own) (h : p < r.len) (o : ℕ) (at : o ≡ top + suc q) where
  may-hang : MayOwn own m o
  may-hang = rw at (n.hangs h)

  taken-hung : (own' : List ℕ) (s : ℕ) → HasOwner own m o own' s → Taken top p q r own m s own'
  unfolding open_from
  taken-hung own' s now =
      let here : HasOwner own m (top + suc q) own' s = rw at at now in
      record { is = rw (lt-ltb p r.len h) here.is; past = here.past; step = hung h here.moved }

-- the chunks of a route, by its length
module _ (top : ℕ) (g : Geometry) (r : Route) (u : Passes) (own2 own3 : List ℕ) (o : OpenForReady top g r u own2 own3) where
  pub slot_small : (q2 : ℕ) → q2 ≡ slot g.p1 r.addr → q2 < 65536
  slot_small q2 e =
      let v = o.valid in
      omega (arith, slot_lt g.p1 r.addr (omega arith) o.fine.prefix.addr_ok, pow_mono {i = g.p1} {j = 16} v.p1_high)

  abbrev q3 : ℕ
  q3 = place_from top g (second_from top g own2 r) r

  no_third : r.len ≤ g.p2 → Taken top g.p2 q3 r own3 u.third u.third own3
  no_third = taken_none top g.p2 q3 r u.third own3 o.third

  pub opened-none : r.len ≤ g.p1 → Opened top g r own2 own3 u u own2 own3
  opened-none h = let v = o.valid in record { second = taken_none top g.p1 _ r u.second own2 o.second h; third = no_third (omega arith) }

  module _ (h : g.p1 < r.len) (q2 : ℕ) (cell : q2 ≡ slot g.p1 r.addr) where
    -- the owner that is written
    owner2 : top + (q2 + 1) ≡ top + suc (slot g.p1 r.addr)
    owner2 = omega arith

    pub hangs-second : MayOwn own2 u.second (top + (q2 + 1))
    hangs-second = may-hang top g.p1 _ r u.second own2 o.second h (top + (q2 + 1)) owner2

    module _ (own2' : List ℕ) (s2 : ℕ) (now : HasOwner own2 u.second (top + (q2 + 1)) own2' s2) where
      pub chunk-second : length own2' ≡ length own2 → SecondChunk g s2
      chunk-second e = record { valid = o.valid; one = omega (arith, now.last); few = omega (arith, now.past.few, o.few2) }

      second : Taken top g.p1 (slot g.p1 r.addr) r own2 u.second s2 own2'
      second = taken-hung top g.p1 _ r u.second own2 o.second h (top + (q2 + 1)) owner2 own2' s2 now

      pub opened-second : r.len ≤ g.p2 → Opened top g r own2 own3 u (record { second = s2; third = u.third }) own2' own3
      opened-second k = record { second = second; third = no_third k }

      -- where the third chunk hangs
      module _ (k : g.p2 < r.len) (q : ℕ) (at : q ≡ cell_place (bits2 g) s2 (slot g.p2 r.addr)) where
        place_is : q ≡ q3
        place_is =
            let e : find own2' (top + suc (slot g.p1 r.addr)) ≡ s2 - 1 = rw (← owner2) (omega (arith, now.last)) in
            rw (← second.is, e) at

        owner3 : top + (q + 1) ≡ top + suc q3
        owner3 = omega (arith, place_is)

        pub hangs-third : MayOwn own3 u.third (top + (q + 1))
        hangs-third = may-hang top g.p2 q3 r u.third own3 o.third k (top + (q + 1)) owner3

        pub opened-third : (own3' : List ℕ) (s3 : ℕ) → HasOwner own3 u.third (top + (q + 1)) own3' s3
            → Opened top g r own2 own3 u (record { second = s2; third = s3 }) own2' own3'
        opened-third own3' s3 now3 = record {
          second = second;
          third = taken-hung top g.p2 q3 r u.third own3 o.third k (top + (q + 1)) owner3 own3' s3 now3;
        }
