-- The maps of good routes serve every address. At one level the bit and the cell of an address's first bits say what the records say of them
-- (`one-level`): that is argued once, for a level. So the walk goes down through the records themselves, and ends at the longest route that
-- covers the address.
use mathlib.Core.Path.{◌≡◌, refl, sym, ap, ap₂, ◌∙◌, subst}
use mathlib.Core.Logic.{◌⊎◌, inl, inr, ◌↔◌}
use mathlib.Core.Bool.{Bool, false, cond}
use mathlib.Core.List.{List, [], Memᴰ}
use Prim.Native.Nat.{ℕ, zero, suc, ◌^◌, ◌≤◌, ◌<◌}
use native.Mathlib.Omega.{arith}
use lib.Dec.{ltb}
use lib.ListN.{length, get_or, get_or-eq_default}
use borrow.Author.Tests.{lt-ltb, ne_eqb}
use Rattle.bits.specs.Slot.{slot}
use Rattle.bits.proofs.Slots.{slot_lt}
use Rattle.bits.proofs.Bools.{below?}
use Rattle.bits.proofs.Tabs.{length-tabulate, get_d_tabulate}
use Rattle.routes.specs.Route.{Good}
use Rattle.routes.specs.Said.{Said, accepted}
use Rattle.routes.specs.declared.Route.{Route}
use Rattle.routes.proofs.Goods.{good-fine}
use Rattle.routes.proofs.Meaning.{true-hop}
use Rattle.standing.specs.Cells.{here, covers, first, or_else, best, Longest, Best}
use Rattle.standing.specs.Served.{hop_said, uncounted}
use Rattle.standing.specs.Down.{or_next, down}
use Rattle.standing.proofs.Longest.{First, first-is, here-make, best-is}
use Rattle.standing.proofs.Only.{covers-none}
use Rattle.standing.proofs.Served.{longest-best}
use Rattle.standing.proofs.Prefixes.{first-here, first_absent}
use Rattle.standing.proofs.Downs.{down-same, down-best}
use Rattle.basic.specs.Maps.{map_place, map_cell, map_cells, map_bits, is_set_at, MapSizes}
use Rattle.basic.specs.Walk.{mapped, list_says, level_says, basic_walk, met_said}
use Rattle.basic.specs.Meaning.{MapsOf, MapsServe}
use Rattle.basic.proofs.Places.{place-bound, level-place, prefix-place, set_is}
use Rattle.basic.proofs.Walks.{level-long, level-short}

-- the arrays
pub length-cells : (rs : List Route) → length (map_cells rs) ≡ 131071
unfolding map_cells
length-cells rs = length-tabulate 131071 (map_cell rs)

pub map-sizes : (rs : List Route) → MapSizes (length (map_bits (map_cells rs))) (length (map_cells rs))
unfolding map_bits
map-sizes rs = record { bytes = length-tabulate 16384 _; hops = length-cells rs }

module _ (rs : List Route) (l v : ℕ) (h : l ≤ 16) (u : v < 2 ^ l) where
  -- the cell of a prefix
  cell-there : get_or (map_cells rs) (map_place l v) 0 ≡ or_else (first (here l v) rs) 0
  unfolding map_cells map_cell
  cell-there =
      get_d_tabulate 131071 (map_cell rs) (map_place l v) 0 (place-bound l v h u)
      ∙ ap₂ (λ (x y : ℕ). or_else (first (here x y) rs) 0) (level-place l v h u) (prefix-place l v h u)

  -- and its bit
  bit-there : is_set_at (map_bits (map_cells rs)) (map_place l v) ≡ ltb 0 (or_else (first (here l v) rs) 0)
  bit-there = set_is (map_cells rs) (map_place l v) (omega (arith, place-bound l v h u)) ∙ ap (ltb 0) cell-there

-- the arrays in the request's words
pub maps-of : (rs : List Route) → Good rs → MapsOf rs (map_bits (map_cells rs)) (map_cells rs)
maps-of rs g = record {
  sizes = map-sizes rs;
  stands = λ r m h.
      let fine = good-fine rs g r m in
      let u : slot r.len r.addr < 2 ^ r.len = slot_lt r.len r.addr (omega arith) fine.prefix.addr_ok in
      let q = first-here r.len (slot r.len r.addr) rs r g m (here-make r.len (slot r.len r.addr) r refl refl) in
      (bit-there rs r.len _ h u ∙ rw q (lt-ltb 0 r.hop fine.hop_one), cell-there rs r.len _ h u ∙ rw q refl);
  absent = λ l v h u empty. let q = first_absent (here l v) rs empty in (bit-there rs l v h u ∙ rw q refl, cell-there rs l v h u ∙ rw q refl);
  last = set_is (map_cells rs) 131071 (omega arith) ∙ ap (ltb 0) (get_or-eq_default (map_cells rs) 0 (omega (arith, length-cells rs)));
}

-- the hop of a good route that is found
found-hop : (f : Route → Bool) (rs : List Route) → Good rs → (h : ℕ) → first f rs ≡ suc h → (1 ≤ h) × (h ≤ 32767)
found-hop f rs g h e = go (first-is f rs)
  where
    go : First f rs → (1 ≤ h) × (h ≤ 32767)
    go (First.nothing z none) = absurd (omega arith)
    go (First.found r m t z) = let w = good-fine rs g r m in (omega (arith, w.hop_one), omega (arith, w.hop_ok))

module _ (rs : List Route) (good : Good rs) (a : ℕ) (bound : a < 2 ^ 32) where
  -- one level: its bit and its cell say what the records say
  pub one-level : (l : ℕ) → l ≤ 16 → mapped (map_bits (map_cells rs)) (map_cells rs) a l ≡ list_says rs a l
  unfolding mapped
  one-level l h = rw (bit-there rs l (slot l a) h u, cell-there rs l (slot l a) h u) (go (first (here l (slot l a)) rs) refl)
    where
      u : slot l a < 2 ^ l
      u = slot_lt l a (omega arith) bound

      go : (x : ℕ) → first (here l (slot l a)) rs ≡ x → cond (ltb 0 (or_else x 0)) (suc (or_else x 0)) 0 ≡ x
      go zero e = refl
      go (suc k) e = rw (lt-ltb 0 k (found-hop (here l (slot l a)) rs good k e).0)

  -- every level does, those of the list by definition
  every-level : (l : ℕ) → level_says rs (map_bits (map_cells rs)) (map_cells rs) a l ≡ list_says rs a l
  every-level l = go (below? 16 l)
    where
      go : (16 < l) ⊎ (l ≤ 16) → level_says rs (map_bits (map_cells rs)) (map_cells rs) a l ≡ list_says rs a l
      go (inl h) = level-long rs _ _ a l h
      go (inr h) = level-short rs _ _ a l h ∙ one-level l h

  -- what is found on the way is the hop of a route
  down-hop : (n h : ℕ) → down (list_says rs a) n ≡ suc h → (1 ≤ h) × (h ≤ 32767)
  unfolding down
  down-hop zero h e = absurd (omega arith)
  down-hop (suc n) h e = go (list_says rs a n) refl (down-hop n h) e
    where
      go : (x : ℕ) → list_says rs a n ≡ x → (down (list_says rs a) n ≡ suc h → (1 ≤ h) × (h ≤ 32767)) → or_next x (down (list_says rs a) n) ≡ suc h
          → (1 ≤ h) × (h ≤ 32767)
      go zero q ih e = ih e
      go (suc k) q ih e = found-hop (here n (slot n a)) rs good h (q ∙ e)

  -- "its hop equals that of the covering rule"
  pub maps-serve : MapsServe rs a (met_said (basic_walk rs (map_bits (map_cells rs)) (map_cells rs) a))
  unfolding met_said
  maps-serve = rw (down-same _ _ 33 (λ l _. every-level l)) (go (down (list_says rs a) 33) refl (best-is rs 32 a))
    where
      whole : slot 32 a ≡ a
      whole = omega arith

      best_of : (x : ℕ) → down (list_says rs a) 33 ≡ x → best rs 32 a ≡ or_else x 0
      best_of x e = ap (best rs 32) (sym whole) ∙ sym (down-best rs a 32 (omega arith)) ∙ ap (λ (y : ℕ). or_else y 0) e

      go : (x : ℕ) → down (list_says rs a) 33 ≡ x → Best rs 32 a (best rs 32 a) → MapsServe rs a (met_said x)
      go zero e (Best.none z k) = MapsServe.none k
      go zero e (Best.one w) = absurd (let f = good-fine rs good w.route w.listed in omega (arith, f.hop_one, w.its_hop, best_of zero e))
      go (suc h) e (Best.none z k) = absurd (let f = down-hop 33 h e in omega (arith, f.0, z, best_of (suc h) e))
      go (suc h) e (Best.one w) =
          let f = down-hop 33 h e in
          rw (true-hop h f.0 f.1) (MapsServe.hop h (subst (Longest rs 32 a) (best_of (suc h) e) w))

-- Of each address one thing is said: the hop of `best`, without a count.
module _ (rs : List Route) (good : Good rs) (a : ℕ) where
  pub serves-best : (n : ℕ) {s : Said} → MapsServe rs a s → s ≡ uncounted (hop_said n (best rs 32 a))
  unfolding hop_said
  serves-best n (MapsServe.hop h w) = let b = longest-best rs good a w in rw (b.0, ne_eqb h 0 (λ z. omega (arith, b.1)))
  serves-best n (MapsServe.none k) = rw (covers-none rs good 32 a k)

  pub serves-once : {s u : Said} → MapsServe rs a s → MapsServe rs a u → s ≡ u
  serves-once v w = serves-best 0 v ∙ sym (serves-best 0 w)

  -- no hop is said exactly where no route covers
  pub serves-none : {s : Said} → MapsServe rs a s → (s ≡ accepted []) ↔ ((r : Route) → Memᴰ r rs → covers 32 a r ≡ false)
  serves-none v = ((λ e. go v e), (λ none. serves-once v (MapsServe.none none)))
    where
      go : {s : Said} → MapsServe rs a s → s ≡ accepted [] → (r : Route) → Memᴰ r rs → covers 32 a r ≡ false
      go (MapsServe.hop h w) e = absurd (let z : ◌≡◌ {A = ℕ} 0 1 = cc in omega arith)
      go (MapsServe.none k) e = k
