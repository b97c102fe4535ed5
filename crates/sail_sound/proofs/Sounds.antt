-- What the test goes through is soundness.
use mathlib.Core.Path.{◌≡◌, refl, sym, ap, ◌∙◌}
use mathlib.Core.Bool.{Bool, true, false, not, true≢false}
use mathlib.Core.List.{List, []}
use Prim.Native.Nat.{ℕ, suc, ◌+◌, ◌-◌, ◌*◌, ◌/◌, ◌%◌, ◌^◌, ◌≤◌, ◌<◌}
use native.Mathlib.Nat.{mod-lt, mod-eq_of_lt, div-eq_of_lt, div-add-mod'}
use native.Mathlib.Omega.{arith}
use lib.Arith.{digits_lt, digits_div}
use lib.ListN.{length, get_or}
use lib.Pow.{pow_pos}
use borrow.Author.Tests.{le-ltb, ltb-false}
use Rattle.bits.specs.Tab.{Tells}
use Rattle.routes.specs.declared.Route.{Route}
use Rattle.routes.specs.Record.{Listed}
use Rattle.routes.specs.Route.{Good}
use Rattle.routes.proofs.Rows.{records-good}
use Rattle.standing.proofs.Need.{none_longer}
use Rattle.chain.specs.Cover.{ChainReady}
use Rattle.chain.specs.Words.{routes_of_words}
use Rattle.bits.proofs.Tells.{tells-same, refuted, passed}
use Rattle.sail.specs.Geometry.{bits2}
use Rattle.sail.specs.Lent.{Lent, Cells, cells, cells_of}
use Rattle.sail.specs.Level.{Level, deep, always, itself, live_in, part_of, entry, chunks_of, below, level1, level2, level3}
use Rattle.sail.specs.Sizes.{Sized, Celled}
use Rattle.sail.specs.Sound.{Shows, AllLeaves, Clear, Sound, standing}
use Rattle.sail.specs.declared.geometry.Geometry.{Geometry}
use Rattle.sail.specs.declared.table.Table.{Table}
use Rattle.sail.proofs.Fitting.{celled-of}
use Rattle.sail_counts.specs.Counted.{Counts}
use Rattle.sail_counts_test.specs.CountsTest.{Countable}
use Rattle.sail_theory.proofs.places.Places.{chunk-lt, live-owner, chunk-live, chunk_part}
use Rattle.sail_cells_test.specs.Pool.{chunk_of, PoolOk, FreeAll}
use Rattle.sail_sound.specs.TableTest.{root_owner, Passed, PassedAll, CountsBeside, PassedTable}
use Rattle.sail_cells_test.proofs.Cells.{Cell, cell_as, right-cell, cells_right, part-at}

-- each live cell of a level is as the routes ask
abbrev Asked : List Route → Level → List ℕ → List ℕ → Type 0
Asked rs v cells low = (q : ℕ) → q < v.places → v.live q ≡ true → Cell rs v.bits (v.at q) (get_or cells q 0) low (suc q)

-- the live cell that a chunk's owner says names the chunk
abbrev Named : Level → List ℕ → List ℕ → Type 0
Named v cells own = (c q : ℕ) → c < length own → get_or own c 0 ≡ suc q → (q < v.places) × (v.live q ≡ true) × (get_or cells q 0 ≡ suc c)

-- a level is right where its live cells are as the routes ask, and its chunks' owners are named
module _ (rs : List Route) (v : Level) (cells low : List ℕ) where
  pub shows-of : length low ≤ 4096 → Asked rs v cells low → Named v cells low → Shows rs v (chunks_of low) (entry cells)
  shows-of few ok named = record {
    node = λ q l u e. let m = (ok q l u).node e in record { one = m.one; last = m.few; owner = m.back };
    leaf = λ q l u e. (ok q l u).leaf e;
    owned = λ c q l e. let k = named c q l e in (k.0, k.1, is-deep c q l k (deep rs v q) refl, k.2);
  }
    where
      is-deep : (c q : ℕ) → c < length low → (q < v.places) × (v.live q ≡ true) × (get_or cells q 0 ≡ suc c) → (b : Bool) → deep rs v q ≡ b → deep rs v q ≡ true
      is-deep c q l k true e = e
      is-deep c q l k false e = let x = (ok q k.0 k.1).leaf e in let y = k.2 in absurd (omega arith)

  pub shows-asked : Shows rs v (chunks_of low) (entry cells) → Asked rs v cells low
  shows-asked s q l u = record {
    leaf = λ e. s.leaf q l u e;
    node = λ e. let m = s.node q l u e in record { one = m.one; few = m.last; back = m.owner };
  }

  pub shows-named : Shows rs v (chunks_of low) (entry cells) → Named v cells low
  shows-named s c q l e = let k = s.owned c q l e in (k.0, k.1, k.3)

-- the pool of the level of p bits below v, whose cells are `above`
module _ (rs : List Route) (v : Level) (p : ℕ) (above own cells low : List ℕ) (all : length above ≡ v.places)
    (size : length cells ≡ length own * 2 ^ (p - v.bits)) where
  abbrev d : ℕ
  d = p - v.bits

  module _ (k : PoolOk rs p d above v.live v.at own cells low) where
    pub pool-asked : Asked rs (below v (chunks_of own) p) cells low
    pool-asked q l u =
        let e = live-owner v (chunks_of own) p q u in
        let r = ((k.each (q / 2 ^ d) (chunk-lt d (length own) q l)).hangs (get_or own (q / 2 ^ d) 0 - 1) e).right in
        let m = mod-lt q (pow_pos d) in
        let g : q / 2 ^ d * 2 ^ d + q % 2 ^ d ≡ q = div-add-mod' q (2 ^ d) in
        cell_as rs p low refl (part-at cells (q / 2 ^ d * 2 ^ d) (2 ^ d) (q % 2 ^ d) m ∙ ap (entry cells) g) (omega arith)
        (right-cell rs p low _ _ _ _ r (q % 2 ^ d) m)

    pub pool-named : Named v above own
    pool-named c q l e = let h = k.each c l in (rw all at (h.hangs q e).inside, h.lives q e, (h.hangs q e).named)

  -- its free chunks
  pub free-clear : FreeAll d own cells → Clear (below v (chunks_of own) p) (entry cells)
  free-clear k = record {
    blank = λ q l e.
        let c = chunk-lt d (length own) q l in
        let j = mod-lt q (pow_pos d) in
        let free : get_or own (q / 2 ^ d) 0 ≡ 0 = omega (arith, ltb-false 0 (get_or own (q / 2 ^ d) 0) e) in
        let g : q / 2 ^ d * 2 ^ d + q % 2 ^ d ≡ q = div-add-mod' q (2 ^ d) in
        ((k.each (q / 2 ^ d) c).zero free).each q (omega arith) (omega arith);
  }

  pub clear-free : Clear (below v (chunks_of own) p) (entry cells) → FreeAll d own cells
  clear-free clear = record {
    each = λ c l. record {
      zero = λ e. record {
        each = λ q a b.
            let j = q - c * 2 ^ d in
            let m : j < 2 ^ d = omega arith in
            let g : q ≡ c * 2 ^ d + j = omega arith in
            ap (entry cells) g ∙ clear.blank (c * 2 ^ d + j) (digits_lt l m)
            (le-ltb 0 (get_or own ((c * 2 ^ d + j) / 2 ^ d) 0) (omega (arith, e, ap (entry own) (digits_div c m))));
      };
    };
  }

  pub pool-of : Asked rs (below v (chunks_of own) p) cells low → Named v above own → PoolOk rs p d above v.live v.at own cells low
  pool-of ok named = record {
    each = λ c l. record {
      lives = λ q e. (named c q l e).1;
      hangs = λ q e. record { inside = rw all (named c q l e).0; named = (named c q l e).2; right = cells_right rs p low _ _ _ _ (right c q l e) };
    };
  }
    where
      right : (c q : ℕ) → c < length own → get_or own c 0 ≡ suc q → (j : ℕ) → j < 2 ^ d
          → Cell rs p (v.at q * 2 ^ d + j) (get_or (chunk_of d cells c) j 0) low (suc (c * 2 ^ d) + j)
      right c q l e j u =
          cell_as rs p low (chunk_part v (chunks_of own) p c j u q e) (sym (part-at cells (c * 2 ^ d) (2 ^ d) j u)) (omega arith)
          (ok (c * 2 ^ d + j) (digits_lt l u) (chunk-live v (chunks_of own) p c j u q e))

-- what holds of the pool above where chunks hang is all that counts
pool-same : (rs : List Route) (p d : ℕ) (above : List ℕ) (live live' : ℕ → Bool) (at at' : ℕ → ℕ) (own cells low : List ℕ)
    → ((q : ℕ) → q < length above → live q ≡ live' q) → ((q : ℕ) → q < length above → at q ≡ at' q)
    → PoolOk rs p d above live at own cells low → PoolOk rs p d above live' at' own cells low
pool-same rs p d above live live' at at' own cells low u v k = record {
  each = λ c l. let h = k.each c l in record {
    lives = λ q e. sym (u q (h.hangs q e).inside) ∙ h.lives q e;
    hangs = λ q e. rw (v q (h.hangs q e).inside) at (h.hangs q e);
  };
}

-- the first cells as one chunk: each is live, and stands for itself
module _ (p q : ℕ) (l : q < 2 ^ p) where
  pub root_live : live_in (entry root_owner) p q ≡ true
  root_live = rw (div-eq_of_lt l)

  pub root-at : part_of (entry root_owner) p itself q ≡ itself q
  root-at = rw (div-eq_of_lt l, mod-eq_of_lt l) (omega arith)

-- what the test of the levels says of them, whatever else is lent
module _ (rs : List Route) (g : Geometry) (l : Cells) (s : Celled g l) where
  abbrev v2 : Level
  v2 = level2 g (chunks_of l.own2)

  abbrev v3 : Level
  v3 = level3 g (chunks_of l.own2) (chunks_of l.own3)

  inside : (q : ℕ) → q < length l.first → q < 2 ^ g.p1
  inside q u = rw s.cells1 at u

  abbrev Pool2 : (ℕ → Bool) → (ℕ → ℕ) → Type 0
  Pool2 live at = PoolOk rs g.p2 (bits2 g) l.first live at l.own2 l.second l.own3

  from-root : Pool2 (live_in (entry root_owner) g.p1) (part_of (entry root_owner) g.p1 itself) → Pool2 always itself
  from-root = pool-same rs g.p2 (bits2 g) l.first _ always _ itself l.own2 l.second l.own3 (λ q u. root_live g.p1 q (inside q u))
      (λ q u. root-at g.p1 q (inside q u))

  to-root : Pool2 always itself → Pool2 (live_in (entry root_owner) g.p1) (part_of (entry root_owner) g.p1 itself)
  to-root = pool-same rs g.p2 (bits2 g) l.first always _ itself _ l.own2 l.second l.own3 (λ q u. sym (root_live g.p1 q (inside q u)))
      (λ q u. sym (root-at g.p1 q (inside q u)))

  module _ (k : Passed rs g l) where
    pool2 : Pool2 always itself
    pool2 = from-root k.pool2

    pub passed_first : Shows rs (level1 g) (chunks_of l.own2) (entry l.first)
    passed_first = shows-of rs (level1 g) l.first l.own2 s.few2
        (λ q u v. cell_as rs g.p1 l.own2 (omega arith) refl (omega arith)
        (right-cell rs g.p1 l.own2 0 l.first 1 (length l.first) k.cells1 q (rw s.cells1 u)))
        (pool-named rs (level1 g) g.p2 l.first l.own2 l.second l.own3 s.cells1 s.cells2 pool2)

    pub passed-second : Shows rs v2 (chunks_of l.own3) (entry l.second)
    passed-second = shows-of rs v2 l.second l.own3 s.few3
        (pool-asked rs (level1 g) g.p2 l.first l.own2 l.second l.own3 s.cells1 s.cells2 pool2)
        (pool-named rs v2 32 l.second l.own3 l.third [] s.cells2 s.cells3 k.pool3)

    pub passed-third : Good rs → AllLeaves rs v3 (entry l.third)
    passed-third good = record {
      leaf = λ q i u. (pool-asked rs v2 32 l.second l.own3 l.third [] s.cells2 s.cells3 k.pool3 q i u).leaf (none_longer rs _ good);
    }

  module _ (k : PassedAll rs g l) where
    pub passed-clear2 : Clear v2 (entry l.second)
    passed-clear2 = free-clear rs (level1 g) g.p2 l.first l.own2 l.second l.own3 s.cells1 s.cells2 k.free2

    pub passed-clear3 : Clear v3 (entry l.third)
    passed-clear3 = free-clear rs v2 32 l.second l.own3 l.third [] s.cells2 s.cells3 k.free3

  -- and back
  pub live-passed : Good rs → Shows rs (level1 g) (chunks_of l.own2) (entry l.first) → Shows rs v2 (chunks_of l.own3) (entry l.second)
      → AllLeaves rs v3 (entry l.third) → Passed rs g l
  live-passed good first second third = record {
    cells1 = cells_right rs g.p1 l.own2 0 l.first 1 (length l.first) (λ q u.
        cell_as rs g.p1 l.own2 (omega arith) refl (omega arith) (shows-asked rs (level1 g) l.first l.own2 first q (inside q u) refl));
    pool2 = to-root (pool-of rs (level1 g) g.p2 l.first l.own2 l.second l.own3 s.cells1 s.cells2
        (shows-asked rs v2 l.second l.own3 second) (shows-named rs (level1 g) l.first l.own2 first));
    pool3 = pool-of rs v2 32 l.second l.own3 l.third [] s.cells2 s.cells3 third-asked (shows-named rs v2 l.second l.own3 second);
  }
    where
      third-asked : Asked rs v3 l.third []
      third-asked q i u = record { leaf = λ e. third.leaf q i u; node = λ e. absurd (true≢false (sym e ∙ none_longer rs _ good)) }

  pub levels-passed : Good rs → Shows rs (level1 g) (chunks_of l.own2) (entry l.first) → Shows rs v2 (chunks_of l.own3) (entry l.second)
      → AllLeaves rs v3 (entry l.third) → Clear v2 (entry l.second) → Clear v3 (entry l.third) → PassedAll rs g l
  levels-passed good first second third clear2 clear3 = record {
    live = live-passed good first second third;
    free2 = clear-free rs (level1 g) g.p2 l.first l.own2 l.second l.own3 s.cells1 s.cells2 clear2;
    free3 = clear-free rs v2 32 l.second l.own3 l.third [] s.cells2 s.cells3 clear3;
  }

  -- what the test of the counts rests on
  pub countable : (ws par : List ℕ) → ChainReady ws par → routes_of_words ws ≡ rs → (long1 long2 : List ℕ) → CountsBeside l.first
      l.second long1 long2 → Passed rs g l
      → Countable ws g l.first l.second l.own2 l.own3 long1 long2
  countable ws par ready e long1 long2 z k = record {
    words = ready.words;
    valid = s.valid;
    cells1 = s.cells1;
    few2 = s.few2;
    cells2 = s.cells2;
    few3 = s.few3;
    counts1 = z.counts1;
    counts2 = z.counts2;
    shows1 = rw e (passed_first k);
    shows2 = rw e (passed-second k);
  }

module _ (t : Table) (l : Lent) (s : Sized t.geometry l) (h : Listed l.list t.count) where
  abbrev rs : List Route
  rs = standing t l

  abbrev Test : Type 0
  Test = PassedTable rs t.geometry (cells_of l) l.long1 l.long2

  good : Good rs
  good = records-good l.list t.count h.records

  celled : Celled t.geometry (cells_of l)
  celled = celled-of t.geometry l s

  passed-sound : Test → Sound t l
  passed-sound k = record {
    sized = s;
    listed = h;
    serves = record {
      first = passed_first rs t.geometry (cells_of l) celled k.levels.live;
      second = passed-second rs t.geometry (cells_of l) celled k.levels.live;
      third = passed-third rs t.geometry (cells_of l) celled k.levels.live good;
    };
    clear2 = passed-clear2 rs t.geometry (cells_of l) celled k.levels;
    clear3 = passed-clear3 rs t.geometry (cells_of l) celled k.levels;
    counted1 = k.counts.first;
    counted2 = k.counts.second;
  }

  sound-passed : Sound t l → Test
  sound-passed w = record {
    levels = levels-passed rs t.geometry (cells_of l) celled good w.serves.first w.serves.second w.serves.third w.clear2 w.clear3;
    counts = record { first = w.counted1; second = w.counted2 };
  }

  pub tells-sound : (b : Bool) → Tells b Test → Tells b (Sound t l)
  tells-sound b = tells-same passed-sound sound-passed

-- as many counts as cells
pub beside-of : (g : Geometry) (l : Lent) → Sized g l → CountsBeside l.first l.second l.long1 l.long2
beside-of g l s = record { counts1 = s.counts1 ∙ sym s.cells1; counts2 = s.counts2 }

-- the answers of `table_ok`
module _ (rs : List Route) (g : Geometry) (first second third own2 own3 long1 long2 : List ℕ) (b : Bool)
    (levels : Tells b (PassedAll rs g (cells first second third own2 own3))) where
  abbrev Table? : Type 0
  Table? = PassedTable rs g (cells first second third own2 own3) long1 long2

  pub levels-fail : not b ≡ true → Tells false Table?
  levels-fail n = refuted levels n (λ h. h.levels)

  pub counts-tell : not b ≡ false → (r : Bool) → Tells r (Counts rs g own2 long1 long2) → Tells r Table?
  counts-tell n r = tells-same (λ k. record { levels = passed levels n; counts = k }) (λ h. h.counts)
