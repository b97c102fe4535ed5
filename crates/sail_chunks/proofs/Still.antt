-- What a change at a prefix leaves right. A live cell of a pool holds what the routes and owners then ask, unless its chunk hangs from a
-- cell that meets the prefix. Said of any level.
use mathlib.Core.Path.{◌≡◌, sym, ◌∙◌, ap}
use mathlib.Core.Logic.{◌⊎◌, inl, inr}
use mathlib.Core.Bool.{true, false}
use mathlib.Core.List.{List}
use Prim.Native.Nat.{ℕ, suc, ◌+◌, ◌-◌, ◌*◌, ◌/◌, ◌^◌, ◌≤◌, ◌<◌}
use native.Mathlib.Nat.{mod-lt}
use native.Mathlib.Omega.{arith}
use lib.Arith.{digits_div}
use lib.Dec.{leb}
use lib.ListN.{get_or, length}
use lib.Pow.{pow_pos}
use borrow.Author.Tests.{leb-true, leb-false, eqb-false}
use Rattle.bits.specs.Slot.{slot}
use Rattle.bits.proofs.Slots.{slot-up}
use Rattle.bits.proofs.Bools.{decided}
use Rattle.routes.specs.declared.Route.{Route}
use Rattle.sail.specs.Level.{Level, Chunks, entry, chunks_of, below}
use Rattle.sail.specs.Sound.{Clear}
use Rattle.sail_theory.specs.Render.{pool, Fits}
use Rattle.sail_theory.specs.Alters.{NoneUnder, Framed}
use Rattle.sail_theory.proofs.frames.LevelFrame.{none-outside, none_other, below-same}
use Rattle.sail_theory.proofs.places.Places.{chunk-lt, live-owner}
use Rattle.sail_theory.proofs.places.Pools.{pool-shown}
use Rattle.sail_paint.specs.Stale.{meets, stale_below, RightButStale}

-- no address under the prefix lies in a cell that does not meet it, nor in the cells of deeper levels that lie in that cell
pub meets-none : (a len p i : ℕ) → len ≤ 32 → p ≤ 32 → meets a len p i ≡ false → NoneUnder a len p i
unfolding meets
meets-none a len p i h k m = go (decided (leb len p))
  where
    go : (leb len p ≡ true) ⊎ (leb len p ≡ false) → NoneUnder a len p i
    go (inl e) = let l = leb-true len p e in none-outside a len p i (p - len) k (omega arith) (eqb-false _ _ (rw e at m))
    go (inr e) = let l = leb-false len p e in none_other a len p i (len - p) h (omega arith) (λ q. eqb-false (slot p a) i (rw e at m) (sym q))

none_below : (a len p d p' i j : ℕ) → p + d ≡ p' → p' ≤ 32 → j < 2 ^ d → NoneUnder a len p i → NoneUnder a len p' (i * 2 ^ d + j)
unfolding NoneUnder
none_below a len p d p' i j k h l n x s e u =
    n x s (sym (slot-up p d x (omega arith)) ∙ ap (λ (y : ℕ). slot y x / 2 ^ d) k ∙ ap (λ (y : ℕ). y / 2 ^ d) e ∙ digits_div i l) u

-- The chunks that hang from a level and their cells, of p bits, while a change at the prefix is under way. Before it the level is v, the owners
-- are `own` and the cells `was`; now it is v', with `own'` and `now`, and rs are the routes that then stand.
pub record PoolUnderway (rs : List Route) (a len : ℕ) (v v' : Level) (p : ℕ) (own own' was now : List ℕ) : Type 0 where
  pub bits : v'.bits ≡ v.bits
  pub many : length own' ≡ length own
  pub size : length now ≡ length was
  -- the owners are the new ones, and a chunk that hangs from a cell apart from the prefix hung there before
  pub fits : Fits rs v' (chunks_of own')
  pub keeps : (c x : ℕ) → c < length own → get_or own' c 0 ≡ suc x → meets a len v'.bits (v'.at x) ≡ false → (get_or own c 0 ≡ suc x) × (v.at x ≡ v'.at x)
  -- the cells of chunks in use are as they were, and the others are 0
  pub held : (q : ℕ) → q < (below v' (chunks_of own') p).places → (below v' (chunks_of own') p).live q ≡ true → get_or now q 0 ≡ get_or was q 0
  pub clear : Clear (below v' (chunks_of own') p) (entry now)

-- So a cell is right that is live and not stale: its chunk has kept its owner, no address under the prefix lies in it, and the frame of the
-- change says that it asks what it asked.
module _ (rs : List Route) (a len : ℕ) (short : len ≤ 32) (v v' : Level) (p : ℕ) (low : v.bits ≤ p) (top : p ≤ 32) (own own' was now : List ℕ)
    (w : PoolUnderway rs a len v v' p own own' was now)
    (j : Chunks) (frame : Framed a len (below v (chunks_of own) p) (below v' (chunks_of own') p) was (pool rs (below v' (chunks_of own') p) j)) where
  module _ (q : ℕ) (l : q < (below v' (chunks_of own') p).places) (u : (below v' (chunks_of own') p).live q ≡ true)
      (n : stale_below a len v' (chunks_of own') p q ≡ false) where
    -- its chunk, and the place that the chunk hangs from
    abbrev c : ℕ
    c = q / 2 ^ (p - v.bits)

    abbrev x : ℕ
    x = get_or own' c 0 - 1

    owner : get_or own' c 0 ≡ suc x
    owner = rw w.bits at (live-owner v' (chunks_of own') p q u)

    inside : q < (below v (chunks_of own) p).places
    inside = rw (w.bits, w.many) at l

    apart : meets a len v.bits (v'.at x) ≡ false
    apart = rw w.bits at (rw u at n)

    kept : (get_or own c 0 ≡ suc x) × (v.at x ≡ v'.at x)
    kept = w.keeps c x (chunk-lt (p - v.bits) (length own) q inside) owner (rw w.bits apart)

    same : get_or own' c 0 ≡ get_or own c 0
    same = owner ∙ sym kept.0

    none : NoneUnder a len v.bits (v.at (get_or own c 0 - 1))
    none = rw (← same, kept.1) (meets-none a len v.bits (v'.at x) short (omega arith) apart)

    stays : get_or (pool rs (below v' (chunks_of own') p) j) q 0 ≡ get_or was q 0
    stays = frame.stays q inside
        (below-same v v' (chunks_of own) (chunks_of own') p q w.bits same (λ z e. let y : x ≡ z = omega (arith, kept.0) in rw y at (sym kept.1)))
        (λ _. none_below a len v.bits (p - v.bits) p _ _ (omega arith) top (mod-lt q (pow_pos (p - v.bits))) none)

  pub held-right : RightButStale rs (below v' (chunks_of own') p) j (stale_below a len v' (chunks_of own') p) now
  held-right = record { right = λ q l u n. w.held q l u ∙ sym (stays q l u n) ∙ pool-shown rs (below v' (chunks_of own') p) j q l u }
