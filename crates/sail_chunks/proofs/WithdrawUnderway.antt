-- A withdrawal under way: at most one chunk in each pool is closed, and its cells are 0.
use mathlib.Core.Path.{◌≡◌, refl, sym, ◌∙◌}
use mathlib.Core.Bool.{Bool, true, false, not, ◌&&◌, cond, true≢false}
use mathlib.Core.List.{List}
use Prim.Native.Nat.{ℕ, suc, ◌-◌, ◌≤◌, ◌<◌}
use native.Mathlib.Omega.{arith}
use lib.Dec.{ltb}
use lib.ListN.{get_or, length, set}
use borrow.Author.Tests.{ltb-true, lt-ltb}
use Rattle.bits.specs.Slot.{slot}
use Rattle.routes.specs.Route.{key_of}
use Rattle.standing.specs.Cells.{long}
use Rattle.standing.specs.Standing.{remove}
use Rattle.routes.specs.declared.Route.{Route}
use Rattle.standing.proofs.Changed.{remove-long}
use Rattle.sail.specs.Geometry.{bits2, bits3}
use Rattle.sail.specs.Lent.{Lent, cells}
use Rattle.sail.specs.Level.{Level, deep, entry, chunks_of, below, level1, level2}
use Rattle.sail.specs.Sound.{Clear, standing}
use Rattle.sail.specs.declared.geometry.Geometry.{Geometry}
use Rattle.sail.specs.declared.table.Table.{Table}
use Rattle.sail.proofs.Sounds.{standing-good}
use Rattle.sail_theory.specs.Render.{find, Fits, room_of}
use Rattle.sail_theory.specs.Calls.{keep, route}
use Rattle.sail_theory.specs.Facts.{Withdrawable}
use Rattle.sail_theory.proofs.frames.LevelFrame.{below-same}
use Rattle.standing.proofs.NeedAfter.{stands-long}
use Rattle.sail_theory.proofs.owners.Chunks.{chunk-at}
use Rattle.sail_theory.proofs.owners.GrantKeep.{length-keep, kept-was, keep-closed, keep-stores, Losing}
use Rattle.sail_theory.proofs.owners.StillFit.{kept-over}
use Rattle.sail_theory.proofs.calls.ChangeHolds.{farewell-fits2, farewell-fits3, losing1, losing2, less}
use Rattle.sail_theory.proofs.frames.TableFrame.{withdraw-frame}
use Rattle.sail_chunks.specs.Chunks.{without_owner, blanked, alone, Closing}
use Rattle.sail_chunks.proofs.ChunkOwners.{alone-longer}
use Rattle.sail_chunks.proofs.ClosedCells.{length-blanked, closed-held, closed-blank}
use Rattle.sail_chunks.proofs.Still.{PoolUnderway}
use Rattle.sail_chunks.proofs.Underway.{Underway}

-- x: the cell was long; y: it is long still; z: the prefix is longer than the level
closes-is : (x y z : Bool) (c : ℕ) (own : List ℕ) → (z ≡ true → x ≡ true) → (z ≡ false → y ≡ x)
    → cond x (cond y own (set own c 0)) own ≡ without_owner (z && not y) c own
unfolding without_owner
closes-is true true z c own f h = go z
  where
    go : (z : Bool) → own ≡ cond (z && false) (set own c 0) own
    go true = refl
    go false = refl
closes-is true false true c own f h = refl
closes-is true false false c own f h = absurd (true≢false (sym (h refl)))
closes-is false y true c own f h = absurd (true≢false (sym (f refl)))
closes-is false y false c own f h = refl

module _ (t : Table) (l : Lent) (a len : ℕ) (w : Withdrawable t l a len) where
  abbrev g : Geometry
  g = t.geometry

  abbrev rs : List Route
  rs = standing t l

  abbrev left : List Route
  left = remove (key_of a len) rs

  -- a prefix that stands has its cells long
  pub was-long : (p : ℕ) → p < len → long rs p (slot p a) ≡ true
  was-long p h =
      stands-long (route a len 1 0) rs (record { prefix = w.prefix; hop_one = omega arith; hop_ok = omega arith; mark_ok = omega arith })
      (standing-good t l w.sound) w.old p (lt-ltb p len h)

  -- and a level that is as long as the prefix keeps them
  same-long : (p : ℕ) → ltb p len ≡ false → long left p (slot p a) ≡ long rs p (slot p a)
  same-long p e =
      sym (remove-long a len rs w.prefix.len_ok (standing-good t l w.sound) p (slot p a) (λ h _. absurd (true≢false (sym (lt-ltb p len h) ∙ e))))

  -- A level at which nothing but the cell of the prefix may be long no longer, and the pool of p bits below it.
  module _ (v : Level) (own : List ℕ) (z : Losing rs left a v own) (p : ℕ) (cells : List ℕ) (size : length cells ≡ (below v (chunks_of own) p).places) where
    -- whether its chunk is closed, and which it is
    abbrev pub closes : Bool
    closes = alone left v.bits a len

    abbrev pub chunk : ℕ
    chunk = find own (suc (v.serving a))

    pub keep-closes : keep left v own ≡ without_owner closes chunk own
    unfolding alone
    keep-closes =
        keep-stores rs left a v own z
        ∙ closes-is (long rs v.bits (slot v.bits a)) (long left v.bits (slot v.bits a)) (ltb v.bits len) chunk own
        (λ e. was-long v.bits (ltb-true _ _ e)) (same-long v.bits)

    -- it is there, and in use
    pub one : closes ≡ true → chunk < length own
    one e =
        let d = was-long v.bits (alone-longer left v.bits a len e) in
        let s = z.served d in
        z.fits.has (v.serving a) s.inside s.used (rw s.stands d)

    pub in_use : closes ≡ true → 0 < get_or own chunk 0
    in_use e = omega (arith, chunk-at (chunks_of own) (suc (v.serving a)) (one e))

    -- what closing asks
    pub closing : length own ≤ 4096 → p - v.bits ≤ 10 → Closing closes own cells chunk (p - v.bits)
    closing few small = record { one = one; few = few; size = small; whole = size }

    -- and what it leaves, where the places are then v'
    module _ (v' : Level) (bits : v'.bits ≡ v.bits) (fits : Fits left v' (chunks_of (keep left v own)))
        (clear : Clear (below v (chunks_of own) p) (entry cells))
        (over : (c x : ℕ) → c < length own → get_or own c 0 ≡ suc x → deep left v x ≡ true → v.at x ≡ v'.at x) where
      pub closing-held : PoolUnderway left a len v v' p own (keep left v own) cells (blanked closes chunk (p - v.bits) cells)
      closing-held = record {
        bits = bits;
        many = length-keep left v own;
        size = length-blanked closes chunk (p - v.bits) cells;
        fits = fits;
        keeps = λ c x h e _. let k = kept-was left v own c x e in (k.0, over c x h k.0 k.1);
        held = λ q l u. closed-held closes own cells chunk (p - v.bits) one q (inside q l) (rw (bits, keep-closes) at u);
        clear = record {
          blank = λ q l u.
              closed-blank closes own cells chunk (p - v.bits) one q (inside q l) (λ e. clear.blank q (rw (bits, length-keep) at l) e)
              (rw (bits, keep-closes) at u);
        };
      }
        where
          inside : (q : ℕ) → q < (below v' (chunks_of (keep left v own)) p).places → q < length cells
          inside q l = rw size (rw (bits, length-keep) at l)

  abbrev v2 : Level
  v2 = level2 g (chunks_of l.own2)

  abbrev own2' : List ℕ
  own2' = keep left (level1 g) l.own2

  abbrev own3' : List ℕ
  own3' = keep left v2 l.own3

  -- a second chunk above a third chunk that is kept has its owner still
  over : (c x : ℕ) → c < length l.own3 → get_or l.own3 c 0 ≡ suc x → deep left v2 x ≡ true → v2.at x ≡ (level2 g (chunks_of own2')).at x
  over c x h e d =
      let v = w.sound.sized.valid in
      let lives = ((losing2 t l a len w).fits.lies c x h e).1 in
      let shut = keep-closed left (level1 g) l.own2 in
      let o = kept-over rs left (less t l a len w) (level1 g) (chunks_of l.own2) (chunks_of own2') g.p2 (omega arith) (omega arith) shut x lives d in
      sym ((below-same (level1 g) (level1 g) (chunks_of l.own2) (chunks_of own2') g.p2 x refl o (λ y _. refl)).at lives)

  pub farewell-underway : Underway g a len left l (cells l.first
      (blanked (alone left g.p1 a len) (find l.own2 (suc (slot g.p1 a))) (bits2 g) l.second)
      (blanked (alone left g.p2 a len) (find l.own3 (suc (v2.serving a))) (bits3 g) l.third) own2' own3')
  farewell-underway = record {
    sized = w.sound.sized;
    prefix = w.prefix;
    room = room_of l;
    frame = withdraw-frame t l a len w;
    first = refl;
    second = closing-held (level1 g) l.own2 (losing1 t l a len w) g.p2 l.second w.sound.sized.cells2 (level1 g) refl
        (farewell-fits2 t l a len w)
        w.sound.clear2 (λ c x h e d. refl);
    third = closing-held v2 l.own3 (losing2 t l a len w) 32 l.third w.sound.sized.cells3 (level2 g (chunks_of own2')) refl
        (farewell-fits3 t l a len w)
        w.sound.clear3 over;
  }
