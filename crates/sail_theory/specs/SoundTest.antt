-- Soundness as a test. It decides refusal 5 in the definitions of the calls, and is computed on no table: programs test soundness another
-- way, and show that they tell the same.
use Rattle.std.specs.Prelude.{Bool, ◌&&◌, ◌||◌, not, List, ℕ, suc, ◌-◌, ◌*◌, ◌%◌, eqb, ltb, leb, get_or, length}
use Rattle.bits.specs.Tab.{every, same}
use Rattle.routes.specs.declared.Route.{Route}
use Rattle.routes.specs.Input.{fault_at}
use Rattle.sail.specs.Lent.{Lent}
use Rattle.sail.specs.Level.{Level, Chunks, chunk_for, deep, chunks_of, level1, level2}
use Rattle.sail.specs.Sizes.{sizes_fault}
use Rattle.sail.specs.Sound.{standing}
use Rattle.sail.specs.declared.table.Table.{Table}
use Rattle.sail_theory.specs.Render.{as_asked}

-- whole records, the first n of them good, and zero bytes after them
unfoldable pub listed? : List ℕ → ℕ → Bool
listed? s n =
    leb (n * 8) (length s)
    && (leb n 4096
    && (eqb (length s % 8) 0
    && (every (λ k. eqb (fault_at s k) 0) n
    && every (λ j. ltb j (n * 8) || eqb (get_or s j 0) 0) (length s))))

-- the owner of chunk c is 1 + a live place that is deep, and chunk c is the first that hangs from it
abbrev pub owns? : List Route → Level → Chunks → ℕ → Bool
owns? rs v k c = ltb (k.own c - 1) v.places && (v.live (k.own c - 1) && (deep rs v (k.own c - 1) && eqb (chunk_for k (k.own c)) c))

-- the chunks fit the level
unfoldable pub fits? : List Route → Level → Chunks → Bool
fits? rs v k =
    every (λ c. eqb (k.own c) 0 || owns? rs v k c) k.many
    && every (λ q. not (v.live q && deep rs v q) || ltb (chunk_for k (suc q)) k.many) v.places

unfoldable pub sound? : Table → Lent → Bool
sound? t l =
    eqb (sizes_fault t.geometry l) 0
    && (listed? l.list t.count
    && (fits? (standing t l) (level1 t.geometry) (chunks_of l.own2)
    && (fits? (standing t l) (level2 t.geometry (chunks_of l.own2)) (chunks_of l.own3)
    && (same l.first (as_asked t l).first
    && (same l.second (as_asked t l).second
    && (same l.third (as_asked t l).third
    && (same l.long1 (as_asked t l).long1
    && same l.long2 (as_asked t l).long2)))))))
