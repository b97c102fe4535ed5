-- What an announcement opens.
use Rattle.std.specs.Prelude.{Bool, true, false, ◌&&◌, List, ◌≡◌, ℕ, suc, ◌^◌, ◌<◌, ltb, leb, length}
use Rattle.bits.specs.Slot.{slot}
use Rattle.routes.specs.declared.Route.{Route}
use Rattle.sail.specs.Geometry.{Valid}
use Rattle.sail.specs.Level.{Level, chunks_of, level1, level2}
use Rattle.sail.specs.declared.geometry.Geometry.{Geometry}
use Rattle.sail_theory.specs.Calls.{open_at}
use Rattle.sail_theory.specs.Render.{find}
use Rattle.sail_chunks.specs.Chunks.{alone, FreeToOpen}
use Rattle.sail_chunks.specs.declared.opening.Opening.{Opening}

-- two chunks by numbers of 16 bits
pub record ChunkForReady (new c : ℕ) : Type 0 where
  pub few : new < 65536
  pub small : c < 65536

abbrev pub no_opening : Opening
no_opening = record { second = false; third = false; chunk = 0 }

-- A chunk is opened where the prefix alone needs it. Where that is a third chunk and no second one, the second chunk that serves the prefix is there.
pub record Opens (g : Geometry) (rs : List Route) (own2 : List ℕ) (a len : ℕ) (o : Opening) : Type 0 where
  pub second : o.second ≡ alone rs g.p1 a len
  pub third : o.third ≡ alone rs g.p2 a len
  pub chunk : o.third ≡ true → o.second ≡ false → o.chunk ≡ find own2 (suc (slot g.p1 a))
  pub few : o.chunk < 65536

-- Whether a chunk of a level is opened for r, told by its owners: where r is longer than the level and no chunk hangs from the place that serves
-- it. Then c is one.
pub record OpensAt (v : Level) (own : List ℕ) (r : Route) (b : Bool) (c : ℕ) : Type 0 where
  pub opens : b ≡ (ltb v.bits r.len && leb (length own) (find own (suc (v.serving r.addr))))
  pub free : FreeToOpen b c own

-- what is opened for r in both pools, as chunks c2 and c3, and the second chunk that serves it where a third chunk is opened and no second one
pub record Openable (g : Geometry) (r : Route) (o : Opening) (c2 c3 : ℕ) (own2 own3 : List ℕ) : Type 0 where
  pub valid : Valid g
  pub addr : r.addr < 2 ^ 32
  pub few2 : c2 < 65536
  pub second : OpensAt (level1 g) own2 r o.second c2
  pub third : OpensAt (level2 g (chunks_of (open_at (level1 g) own2 c2 r))) own3 r o.third c3
  pub chunk : o.third ≡ true → o.second ≡ false → o.chunk ≡ find own2 (suc (slot g.p1 r.addr))
  pub few : o.chunk < 65536
