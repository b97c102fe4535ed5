-- A party's lookup in a sound box: the chunks on its way are its own, so it breaks off nowhere, and says the hop of the longest of its own routes.
use mathlib.Core.Path.{◌≡◌, sym, ◌∙◌, ap}
use mathlib.Core.Logic.{◌⊎◌, inl, inr, ◌≢◌}
use mathlib.Core.Bool.{Bool, true, false, not, ◌&&◌}
use mathlib.Core.List.{List, [], ◌∷◌}
use Prim.Native.Nat.{ℕ, ◌-◌, ◌^◌, ◌≤◌, ◌<◌}
use native.Mathlib.Omega.{arith}
use lib.Dec.{ltb, leb}
use lib.ListN.{get_or, length}
use borrow.Author.Tests.{le-leb, lt-leb, lt-ltb, le-ltb}
use Rattle.bits.proofs.Bools.{both, below?}
use Rattle.routes.specs.Said.{Said, accepted}
use Rattle.routes.specs.declared.Route.{Route}
use Rattle.standing.specs.Cells.{best, need}
use Rattle.standing.specs.Served.{hop_said}
use Rattle.sail.specs.Geometry.{bits2, bits3}
use Rattle.sail.specs.Level.{Level, Chunks, entry, chunks_of, level2}
use Rattle.sail.specs.Sound.{Shows, Serves, cells_read}
use Rattle.sail.specs.declared.geometry.Geometry.{Geometry}
use Rattle.sail.proofs.Walks.{walk-best}
use Rattle.pair.specs.Party.{Party, one, two, seen, foreign, view}
use Rattle.pair.specs.PairLent.{PairLent, side, part, seen_by}
use Rattle.pair.specs.PairSound.{share_of, standing_for, PairSound}
use Rattle.pair.specs.PairCalls.{opens_for, pair_reported, pair_lookup_said}
use Rattle.pair.specs.declared.Pair.{Pair}
use Rattle.pair.proofs.Views.{length-view, get_d-view, length_part, part-mine}
use Rattle.pair.proofs.Sees.{side-sized}
use Rattle.pair.proofs.Shifts.{routes-good}
use Rattle.pair.proofs.PairFresh.{sizes-none}
use Rattle.pair.proofs.PairTest.{pair-sound-tells}

-- what is said of a level's cells is said of the live ones alone
pub shows-live : (rs : List Route) (v : Level) (k : Chunks) (cells cells' : ℕ → ℕ) → ((q : ℕ) → q < v.places → v.live q ≡ true → cells' q ≡ cells q)
    → Shows rs v k cells → Shows rs v k cells'
shows-live rs v k cells cells' e s = record {
  node = λ q l a d.
      let n = s.node q l a d in
      let z = e q l a in
      record { one = rw z n.one; last = rw z n.last; owner = rw z n.owner };
  leaf = λ q l a d. e q l a ∙ s.leaf q l a d;
  owned = λ c q l o. let j = s.owned c q l o in (j.0, j.1, j.2, e q j.0 j.1 ∙ j.3);
}

-- a chunk that the party sees as its own is not the other's
own-opens : (w : Party) (o : ℕ) → 0 < seen w o → foreign w o ≡ false
unfolding seen foreign
own-opens one o h = go (below? o 2147483648) h
  where
    go : (o < 2147483648) ⊎ (2147483648 ≤ o) → 0 < mathlib.Core.Bool.cond (ltb o 2147483648) o 0 → leb 2147483648 o ≡ false
    go (inl l) h = lt-leb 2147483648 o l
    go (inr l) h = absurd (omega (arith, (rw (le-ltb o 2147483648 l) at h)))
own-opens two o h = rw (lt-ltb 0 o (omega arith), le-ltb o 2147483648 (omega arith))

module _ (t : Pair) (b : PairLent) (s : PairSound t b) (w : Party) where
  abbrev g : Geometry
  g = t.geometry

  abbrev rs : List Route
  rs = standing_for w t b

  -- the cells as they stand serve the party's routes
  pub party-serves : Serves rs g (seen_by w b)
  party-serves =
      let z = (s.each w).sized in
      let n2 = length_part w b.own2 (bits2 g) b.second in
      let n3 = length_part w b.own3 (bits3 g) b.third in
      record {
        first = (s.each w).serves.first;
        second = shows-live rs (level2 g (chunks_of (view w b.own2))) (chunks_of (view w b.own3)) _ (entry b.second)
            (λ q l e. sym (part-mine w b.own2 (bits2 g) b.second q (rw (← n2, z.cells2) l) e)) (s.each w).serves.second;
        third = record {
          leaf = λ q l e.
              sym (part-mine w b.own3 (bits3 g) b.third q (rw (← n3, z.cells3) l) e) ∙ (s.each w).serves.third.leaf q l e;
        };
      }

  opens : (own : List ℕ) (v : ℕ) → 1 ≤ v → v ≤ length (view w own) → 0 < get_or (view w own) (v - 1) 0 → opens_for w own v ≡ true
  opens own v i j o =
      let k : v ≤ length own = rw length-view at j in
      both (both (le-leb 1 v i) (le-leb v (length own) k)) (ap not (own-opens w (get_or own (v - 1) 0) (rw get_d-view at o)))

  pub pair-serves : (a : ℕ) → a < 2 ^ 32 → pair_lookup_said w t b a ≡ hop_said (cells_read g rs a) (best rs 32 a)
  unfolding pair_lookup_said
  pair-serves a h =
      let z = (s.each w).sized in
      rw (sizes-none g b (λ x. side-sized g x b (s.each x).sized))
      (walk-best rs g (seen_by w b) z.valid (routes-good t b s w) party-serves a h (omega (arith, z.few2)) (omega (arith, z.few3))
      (opens_for w b.own2) (opens_for w b.own3) (opens b.own2) (opens b.own3))

  pub pair-tells : pair_reported w t b ≡ accepted ((share_of w t).count ∷ need rs g.p1 ∷ need rs g.p2 ∷ [])
  unfolding pair_reported
  pair-tells = rw (sizes-none g b (λ x. side-sized g x b (s.each x).sized), (pair-sound-tells t b).1 s)
