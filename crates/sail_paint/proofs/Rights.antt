-- Painting and stamping make a stale table right, and leave what is not live.
use mathlib.Core.Path.{◌≡◌, refl, sym, ap, ◌∙◌}
use mathlib.Core.Logic.{◌⊎◌, inl, inr}
use mathlib.Core.Bool.{Bool, true, false, cond}
use mathlib.Core.List.{List}
use Prim.Native.Nat.{ℕ, suc, ◌+◌, ◌-◌, ◌/◌, ◌^◌, ◌≤◌, ◌<◌}
use native.Mathlib.Omega.{arith}
use lib.ListN.{length, get_or}
use lib.Seq.{ext_get_or}
use borrow.Author.Tests.{lt-ltb, le-ltb}
use Rattle.bits.proofs.Bools.{decided, below?, and_split}
use Rattle.standing.specs.Cells.{long, best}
use Rattle.routes.specs.declared.Route.{Route}
use Rattle.chain.specs.Words.{routes_of_words}
use Rattle.chain.proofs.Decodes.{words-good}
use Rattle.plan.specs.Plan.{plan}
use Rattle.sail.specs.Geometry.{bits2}
use Rattle.sail.specs.Lent.{Cells}
use Rattle.sail.specs.Sizes.{Celled}
use Rattle.sail.specs.Level.{Level, Chunks, chunk_for, deep, itself, part_of, entry, chunks_of, no_chunks, level1, level2, level3}
use Rattle.sail.specs.Sound.{Clear}
use Rattle.sail.specs.declared.geometry.Geometry.{Geometry}
use Rattle.sail_theory.specs.Render.{shown, laid_over, Fits}
use Rattle.sail_theory.proofs.owners.Chunks.{chunk-at}
use Rattle.sail_theory.proofs.places.Places.{chunk-lt, live-owner}
use Rattle.sail_theory.proofs.places.Rendered.{top-clear, last_fits}
use Rattle.sail_theory.proofs.frames.LevelFrame.{top-bounded, below-bounded}
use Rattle.sail_theory.proofs.places.Pools.{length-laid, laid-at, shown-leaf, shown-node, laid-rendered}
use Rattle.sail_paint.specs.Stale.{meets, stale_below, RightButStale, Stale, Repainted, AsAsked}
use Rattle.sail_paint.specs.Paint.{overpainted, stamped_by, stamped, stands_for, stale_in, Above, FirstPaintReady, Pool, Stamps}
use Rattle.sail_paint.proofs.Places.{stands-itself, stands-part}
use Rattle.sail_paint.proofs.Overs.{length_over, over-at}
use Rattle.sail_paint.proofs.Stamping.{stamp_at, length-stamped, stamped-at, stamp-none}

-- a plan that is no 0
plan-leaf : (rs : List Route) (p i : ℕ) → long rs p i ≡ false → plan rs p i ≡ 32768 + best rs p i
unfolding plan
plan-leaf rs p i e = rw e

-- A level whose chunks fit, and whose live cells are right but for stale ones. These are painted, and the numbers of chunks stamped over all.
module _ (rs : List Route) (v : Level) (k : Chunks) (f : Fits rs v k) (stale : ℕ → Bool) (lives : (q : ℕ) → stale q ≡ true → v.live q ≡ true)
    (cells : List ℕ) (size : length cells ≡ v.places) (is : RightButStale rs v k stale cells) where
  abbrev painted : List ℕ
  painted = overpainted rs v.bits stale v.at cells

  -- what is then asked at place q
  abbrev due : ℕ → ℕ
  due q = cond (v.live q) (shown rs v k q) (get_or cells q 0)

  -- a place from which a chunk hangs, and one from which none does
  hangs : (q : ℕ) → chunk_for k (suc q) < k.many → suc (chunk_for k (suc q)) ≡ due q
  hangs q h = let z = f.lies (chunk_for k (suc q)) q h (chunk-at k (suc q) h) in rw z.1 (sym (shown-node rs v k q z.2))

  bare : (q : ℕ) → q < length cells → k.many ≤ chunk_for k (suc q) → cond (stale q) (plan rs v.bits (v.at q)) (get_or cells q 0) ≡ due q
  bare q l h = go (decided (stale q)) (decided (v.live q)) (decided (deep rs v q))
    where
      go : (stale q ≡ true) ⊎ (stale q ≡ false) → (v.live q ≡ true) ⊎ (v.live q ≡ false) → (deep rs v q ≡ true) ⊎ (deep rs v q ≡ false)
          → cond (stale q) (plan rs v.bits (v.at q)) (get_or cells q 0) ≡ due q
      go (inr e) (inl u) d = rw (e, u) (is.right q (rw size at l) u e)
      go (inr e) (inr u) d = rw (e, u)
      go (inl e) u (inl d) = absurd (omega (arith, f.has q (rw size at l) (lives q e) d))
      go (inl e) u (inr d) = rw (e, lives q e) (plan-leaf rs v.bits (v.at q) d ∙ sym (shown-leaf rs v k q d))

  level-right : stamped_by k.many k.own painted ≡ laid_over rs v k cells
  level-right =
      ext_get_or 0 _ _
      (length-stamped k.own painted k.many ∙ length_over rs v.bits stale v.at cells ∙ sym (length-laid cells v.live (shown rs v k)))
      (λ q b. each q (let z = length-stamped k.own painted k.many in let y = length_over rs v.bits stale v.at cells in omega arith))
    where
      each : (q : ℕ) → q < length cells → get_or (stamped_by k.many k.own painted) q 0 ≡ get_or (laid_over rs v k cells) q 0
      each q l =
          stamped-at k.own painted k.many q (rw length_over l) ∙ ap (stamp_at k.own k.many q) (over-at rs v.bits stale v.at cells q l)
          ∙ go (below? (chunk_for k (suc q)) k.many) ∙ sym (laid-at cells v.live (shown rs v k) q l)
        where
          go : (chunk_for k (suc q) < k.many) ⊎ (k.many ≤ chunk_for k (suc q))
              → stamp_at k.own k.many q (cond (stale q) (plan rs v.bits (v.at q)) (get_or cells q 0)) ≡ due q
          go (inl h) = rw (lt-ltb (chunk_for k (suc q)) k.many h) (hangs q h)
          go (inr h) = rw (le-ltb (chunk_for k (suc q)) k.many h) (bare q l h)

-- what `paint_pool` leaves of the pool of p bits below a level of l bits, whose places stand for the cells `at`
abbrev pool_painted : List Route → ℕ → ℕ → ℕ → ℕ → (ℕ → ℕ) → List ℕ → List ℕ → List ℕ
pool_painted rs a len l p at own cells = overpainted rs p (stale_in a len l (p - l) at (entry own)) (part_of (entry own) (p - l) at) cells

pool-as : (rs : List Route) (a len l p : ℕ) (at at' : ℕ → ℕ) (own cells : List ℕ) → ((q : ℕ) → at q ≡ at' q)
    → pool_painted rs a len l p at own cells ≡ pool_painted rs a len l p at' own cells
pool-as rs a len l p at at' own cells h = ap (λ (f : ℕ → ℕ). pool_painted rs a len l p f own cells) (λ i q. h q i)

-- chunks that fit a level may be stamped into cells of as many places
level-stamps : (rs : List Route) (v : Level) (own : List ℕ) → length own ≤ 4096 → Fits rs v (chunks_of own) → (now : List ℕ) → length now ≡ v.places
    → Stamps own now
level-stamps rs v own few f now size = record { few = few; inside = λ c q k o. rw size (f.lies c q k o).0; once = f.once }

module _ (g : Geometry) (ws par : List ℕ) (a len : ℕ) (l : Cells) (s : Stale g ws par a len l) where
  abbrev rs : List Route
  rs = routes_of_words ws

  abbrev k2 : Chunks
  k2 = chunks_of l.own2

  abbrev k3 : Chunks
  k3 = chunks_of l.own3

  abbrev v2 : Level
  v2 = level2 g k2

  abbrev v3 : Level
  v3 = level3 g k2 k3

  -- What is asked at each step.
  pub first-asks : FirstPaintReady ws par g.p1 a len l.first
  first-asks = let v = s.celled.valid in record { ready = s.ready; prefix = s.prefix; low = omega arith; deep = omega arith; cells = s.celled.cells1 }

  pub first-stamps : (now : List ℕ) → length now ≡ length l.first → Stamps l.own2 now
  first-stamps now e = level-stamps rs (level1 g) l.own2 s.celled.few2 s.fits2 now (e ∙ s.celled.cells1)

  pub second-asks : Pool ws par len g.p1 g.p2 l.own2 0 l.own2 l.second
  second-asks =
      let v = s.celled.valid in
      record {
        levels = record { ready = s.ready; len_ok = s.prefix.len_ok; deeper = omega arith; deep = omega arith; small = v.near };
        hangs = λ c k. record {
          above = λ q o. record { small = omega arith; chunk = λ z. absurd (omega arith); owned = λ z. absurd (omega arith) };
          cell = λ q o. rw (← stands-itself 0 l.own2 q refl) (s.fits2.lies c q k o).0;
        };
        few = s.celled.few2;
        chunks = s.celled.cells2;
      }

  pub second-stamps : (now : List ℕ) → length now ≡ length l.second → Stamps l.own3 now
  second-stamps now e = level-stamps rs v2 l.own3 s.celled.few3 s.fits3 now (e ∙ s.celled.cells2)

  some2 : bits2 g ≡ 0 → ⊥
  some2 z = let v = s.celled.valid in omega arith

  pub third-asks : Pool ws par len g.p2 32 l.own2 (bits2 g) l.own3 l.third
  third-asks =
      let v = s.celled.valid in
      record {
        levels = record { ready = s.ready; len_ok = s.prefix.len_ok; deeper = omega arith; deep = omega arith; small = omega arith };
        hangs = λ c k. record { above = λ q o. above c q k o; cell = λ q o. cell c q k o };
        few = s.celled.few3;
        chunks = s.celled.cells3;
      }
    where
      owned : (c q : ℕ) → c < length l.own3 → get_or l.own3 c 0 ≡ suc q → get_or l.own2 (q / 2 ^ bits2 g) 0 ≡ suc (get_or l.own2 (q / 2 ^ bits2 g) 0 - 1)
      owned c q k o = live-owner (level1 g) k2 g.p2 q (s.fits3.lies c q k o).1

      chunk : (c q : ℕ) → c < length l.own3 → get_or l.own3 c 0 ≡ suc q → q / 2 ^ bits2 g < length l.own2
      chunk c q k o = chunk-lt (bits2 g) (length l.own2) q (s.fits3.lies c q k o).0

      above : (c q : ℕ) → c < length l.own3 → get_or l.own3 c 0 ≡ suc q → Above l.own2 (bits2 g) q
      above c q k o = record { small = s.celled.valid.near; chunk = λ z. chunk c q k o; owned = λ z. omega (arith, owned c q k o) }

      cell : (c q : ℕ) → c < length l.own3 → get_or l.own3 c 0 ≡ suc q → stands_for (bits2 g) l.own2 q < 2 ^ g.p2
      cell c q k o =
          let v = s.celled.valid in
          let z = s.fits3.lies c q k o in
          rw (stands-part (bits2 g) l.own2 q some2) (below-bounded rs (level1 g) k2 g.p2 (omega arith) s.fits2 (top-bounded g.p1) q z.0 z.1)

  -- And what they leave.
  pub first-is : (now after : List ℕ) → now ≡ overpainted rs g.p1 (meets a len g.p1) itself l.first → after ≡ stamped l.own2 now
      → after ≡ laid_over rs (level1 g) k2 l.first
  first-is now after e e' =
      e' ∙ ap (stamped l.own2) e
      ∙ level-right rs (level1 g) k2 s.fits2 (meets a len g.p1) (λ q t. refl) l.first s.celled.cells1 s.right1

  pub second_is : (now after : List ℕ) → now ≡ pool_painted rs a len g.p1 g.p2 (stands_for 0 l.own2) l.own2 l.second → after ≡ stamped
      l.own3 now
      → after ≡ laid_over rs v2 k3 l.second
  second_is now after e e' =
      e' ∙ ap (stamped l.own3) (e ∙ pool-as rs a len g.p1 g.p2 (stands_for 0 l.own2) itself l.own2 l.second
      (λ q. sym (stands-itself 0 l.own2 q refl)))
      ∙ level-right rs v2 k3 s.fits3 (stale_below a len (level1 g) k2 g.p2) (λ q t. (and_split (v2.live q) _ t).0) l.second
      s.celled.cells2 s.right2

  pub third-is : (after : List ℕ) → after ≡ pool_painted rs a len g.p2 32 (stands_for (bits2 g) l.own2) l.own3 l.third → after
      ≡ laid_over rs v3 no_chunks l.third
  third-is after e =
      e ∙ pool-as rs a len g.p2 32 (stands_for (bits2 g) l.own2) v2.at l.own3 l.third (λ q. stands-part (bits2 g) l.own2 q some2)
      ∙ stamp-none no_chunks.own _
      ∙ level-right rs v3 no_chunks (last_fits rs (words-good ws s.ready.words) v2 k3) (stale_below a len v2 k3 32) (λ q t. (and_split (v3.live q) _ t).0)
      l.third s.celled.cells3 s.right3

-- where the cells of free chunks are 0, repainting leaves what is asked
pub repainted-asked : (g : Geometry) (rs : List Route) (l : Cells) → Celled g l
    → Clear (level2 g (chunks_of l.own2)) (entry l.second) → Clear (level3 g (chunks_of l.own2) (chunks_of l.own3)) (entry l.third)
    → (first second third : List ℕ) → Repainted g rs l first second third → AsAsked g rs l first second third
repainted-asked g rs l z clear2 clear3 first second third r = record {
  is_first = r.is_first ∙ laid-rendered rs (level1 g) (chunks_of l.own2) l.first z.cells1 (top-clear g.p1 (entry l.first));
  is_second = r.is_second ∙ laid-rendered rs (level2 g (chunks_of l.own2)) (chunks_of l.own3) l.second z.cells2 clear2;
  is_third = r.is_third ∙ laid-rendered rs (level3 g (chunks_of l.own2) (chunks_of l.own3)) no_chunks l.third z.cells3 clear3;
}
