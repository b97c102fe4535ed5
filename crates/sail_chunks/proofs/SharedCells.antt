-- A table's cells in pools that others use too. Tests of live cells and repainting read the table's own chunks alone: what they find in the table's own
-- part of a pool they find in the pool.
use mathlib.Core.Path.{◌≡◌, sym, ◌∙◌}
use mathlib.Core.Logic.{◌⊎◌, inl, inr}
use mathlib.Core.Bool.{Bool, true, false, cond}
use mathlib.Core.List.{List}
use Prim.Native.Nat.{ℕ, ◌-◌, ◌<◌}
use lib.ListN.{get_or, length}
use lib.Seq.{ext_get_or}
use Rattle.bits.proofs.Bools.{decided}
use Rattle.routes.specs.declared.Route.{Route}
use Rattle.sail.specs.Lent.{cells}
use Rattle.sail.specs.Level.{Level, Chunks, entry, chunks_of, below, level2, level3}
use Rattle.sail.specs.Sound.{Shows}
use Rattle.sail.specs.declared.geometry.Geometry.{Geometry}
use Rattle.sail_theory.specs.Shared.{own_part, touched, mixed}
use Rattle.sail_theory.proofs.places.Alone.{length-own, own_at, length-mixed, mixed-at}
use Rattle.sail_theory.proofs.places.Pools.{shown-shows, shows-fits, shows-shown}
use Rattle.sail_paint.specs.Stale.{RightButStale, Stale}
use Rattle.sail_chunks.specs.Trail.{Serving}

-- cells that agree at live places
pub record Agree (v : Level) (xs ys : List ℕ) : Type 0 where
  pub size : length ys ≡ length xs
  pub at : (q : ℕ) → q < v.places → v.live q ≡ true → get_or ys q 0 ≡ get_or xs q 0

-- a pool agrees with the table's own part of it
pub own-agree : (v : Level) (own : List ℕ) (p : ℕ) (xs : List ℕ) → length xs ≡ (below v (chunks_of own) p).places
    → Agree (below v (chunks_of own) p) (own_part own (p - v.bits) xs) xs
own-agree v own p xs n = record {
  size = sym (length-own own (p - v.bits) xs);
  at = λ q l e. sym (own_at own (p - v.bits) xs q (rw n l) ∙ rw e);
}

module _ (rs : List Route) (v : Level) (k : Chunks) (xs ys : List ℕ) (a : Agree v xs ys) where
  right-agree : (stale : ℕ → Bool) → RightButStale rs v k stale xs → RightButStale rs v k stale ys
  right-agree stale r = record { right = λ q l e n. a.at q l e ∙ r.right q l e n }

  shows-agree : Shows rs v k (entry xs) → Shows rs v k (entry ys)
  shows-agree s = shown-shows rs v k (entry ys) (shows-fits rs v k (entry xs) s) (λ q l e. a.at q l e ∙ shows-shown rs v k (entry xs) s q l e)

-- they serve alike
pub serving-agree : (g : Geometry) (rs : List Route) (first second second' own2 own3 : List ℕ) → Agree (level2 g (chunks_of own2)) second second'
    → Serving g rs first second own2 own3 → Serving g rs first second' own2 own3
serving-agree g rs first second second' own2 own3 a s = record {
  valid = s.valid;
  cells1 = s.cells1;
  few2 = s.few2;
  cells2 = a.size ∙ s.cells2;
  few3 = s.few3;
  shows1 = s.shows1;
  shows2 = shows-agree rs (level2 g (chunks_of own2)) (chunks_of own3) second second' a s.shows2;
}

-- and are stale alike
pub stale-agree : (g : Geometry) (ws par : List ℕ) (a len : ℕ) (first second third second' third' own2 own3 : List ℕ)
    → Agree (level2 g (chunks_of own2)) second second' → Agree (level3 g (chunks_of own2) (chunks_of own3)) third third'
    → Stale g ws par a len (cells first second third own2 own3) → Stale g ws par a len (cells first second' third' own2 own3)
stale-agree g ws par a len first second third second' third' own2 own3 a2 a3 s =
    let c = s.celled in
    record {
      ready = s.ready;
      celled = record {
        valid = c.valid;
        cells1 = c.cells1;
        few2 = c.few2;
        cells2 = a2.size ∙ c.cells2;
        few3 = c.few3;
        cells3 = a3.size ∙ c.cells3;
      };
      prefix = s.prefix;
      fits2 = s.fits2;
      fits3 = s.fits3;
      right1 = s.right1;
      right2 = right-agree _ _ _ second second' a2 _ s.right2;
      right3 = right-agree _ _ _ third third' a3 _ s.right3;
    }

-- An array over a pool after a change, by its places: those of the table's own chunks, before and after, hold what the table then holds, and the
-- others what they held.
pub mixed-is : (was own : List ℕ) (d : ℕ) (old xs now : List ℕ) → length now ≡ length old
    → ((q : ℕ) → q < length old → touched was own d q ≡ true → get_or now q 0 ≡ get_or xs q 0)
    → ((q : ℕ) → q < length old → touched was own d q ≡ false → get_or now q 0 ≡ get_or old q 0)
    → now ≡ mixed was own d old xs
mixed-is was own d old xs now n inside outside =
    ext_get_or 0 now (mixed was own d old xs) (n ∙ sym (length-mixed was own d old xs))
    (λ q h. let l : q < length old = rw n at h in at q l (decided (touched was own d q)) ∙ sym (mixed-at was own d old xs q l))
  where
    at : (q : ℕ) → q < length old → (touched was own d q ≡ true) ⊎ (touched was own d q ≡ false)
        → get_or now q 0 ≡ cond (touched was own d q) (get_or xs q 0) (get_or old q 0)
    at q l (inl e) = rw e (inside q l e)
    at q l (inr e) = rw e (outside q l e)
