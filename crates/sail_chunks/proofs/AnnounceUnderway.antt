-- An announcement under way: at most one chunk in each pool is hung, a free one.
use mathlib.Core.Path.{◌≡◌, refl, sym, ◌∙◌, ap, subst}
use mathlib.Core.Logic.{◌⊎◌, inl, inr}
use mathlib.Core.Bool.{Bool, true, false, not, ◌&&◌, cond, true≢false}
use mathlib.Core.List.{List}
use Prim.Native.Nat.{ℕ, suc, ◌-◌, ◌/◌, ◌^◌, ◌≤◌, ◌<◌}
use native.Mathlib.Omega.{arith}
use lib.Dec.{ltb, leb}
use lib.ListN.{get_or, length, set}
use borrow.Author.Tests.{lt-ltb, le-ltb, lt-leb, le-leb, eq-eqb}
use Rattle.bits.specs.Slot.{slot}
use Rattle.bits.proofs.Bools.{decided, below?, untrue}
use Rattle.standing.specs.Cells.{long}
use Rattle.standing.specs.Standing.{insert}
use Rattle.routes.specs.declared.Route.{Route}
use Rattle.sail.specs.Lent.{Lent, cells}
use Rattle.sail.specs.Level.{Level, entry, chunks_of, below, level1, level2}
use Rattle.sail.specs.Sound.{Clear, standing}
use Rattle.sail.specs.declared.geometry.Geometry.{Geometry}
use Rattle.sail.specs.declared.table.Table.{Table}
use Rattle.sail_theory.specs.Render.{find, Fits, room_of}
use Rattle.sail_theory.specs.Calls.{open_at}
use Rattle.sail_theory.proofs.places.Places.{live-owner}
use Rattle.sail_theory.proofs.places.Pools.{shows-fits}
use Rattle.sail_theory.proofs.owners.GrantKeep.{unhung}
use Rattle.sail_theory.proofs.frames.LevelFrame.{below-same}
use Rattle.sail_theory.proofs.owners.OpenAt.{Space, OpenReady, length-open, open-keeps, open-fits, open-short, open-had, open-new}
use Rattle.sail_theory.proofs.calls.ChangeHolds.{AnnounceableAt}
use Rattle.sail_theory.proofs.frames.TableFrame.{at-frame}
use Rattle.sail_paint.specs.Stale.{meets}
use Rattle.sail_chunks.specs.Chunks.{with_owner, alone, FreeToOpen}
use Rattle.sail_chunks.specs.ToOpen.{Opens, OpensAt, Openable}
use Rattle.sail_chunks.specs.declared.opening.Opening.{Opening}
use Rattle.sail_chunks.proofs.ChunkOwners.{hung-was, alone-parts, alone-longer}
use Rattle.sail_chunks.proofs.Trails.{serving-of}
use Rattle.sail_chunks.proofs.Still.{PoolUnderway}
use Rattle.sail_chunks.proofs.Underway.{Underway}

-- the cell of a level that a longer prefix lies in meets it
meets-own : (a len p : ℕ) → p < len → meets a len p (slot p a) ≡ true
unfolding meets
meets-own a len p l = rw (lt-leb len p l) (eq-eqb (slot p a) (slot p a) refl)

-- where the route alone needs a chunk, one is free
space-free : (rs : List Route) (r : Route) (v : Level) (own : List ℕ) (c : ℕ) → Space rs r v own c → FreeToOpen (alone rs v.bits r.addr r.len) c own
space-free rs r v own c s = record { some = λ e. let k = alone-parts rs v.bits r.addr r.len e in (s k.0 k.1).0 }

-- A route that may be announced at a level whose places are v', and were v before the level above it changed.
module _ (rs : List Route) (r : Route) (v' : Level) (own : List ℕ) (k : ℕ) (w : OpenReady rs r v' own k) where
  abbrev own' : List ℕ
  own' = open_at v' own k r

  abbrev needed : Type 0
  needed = alone rs v'.bits r.addr r.len ≡ true

  -- a chunk is opened where the route alone needs it
  pub open-hung : own' ≡ with_owner (alone rs v'.bits r.addr r.len) k (suc (v'.serving r.addr)) own
  unfolding with_owner alone
  open-hung = go (below? v'.bits r.len) (decided (long rs v'.bits (slot v'.bits r.addr)))
    where
      go : (v'.bits < r.len) ⊎ (r.len ≤ v'.bits)
          → (long rs v'.bits (slot v'.bits r.addr) ≡ true) ⊎ (long rs v'.bits (slot v'.bits r.addr) ≡ false)
          → own'
          ≡ cond (ltb v'.bits r.len && not (long rs v'.bits (slot v'.bits r.addr))) (set own k (suc (v'.serving r.addr))) own
      go (inr h) d = open-short rs r v' own k w h ∙ rw (le-ltb v'.bits r.len h)
      go (inl h) (inl d) = open-had rs r v' own k w d ∙ rw (lt-ltb v'.bits r.len h, d)
      go (inl h) (inr d) = (open-new rs r v' own k w h d).1 ∙ rw (lt-ltb v'.bits r.len h, d)

  -- told by the owners: the cell of the route is long exactly where a chunk hangs from the place that serves it
  pub ready-opens : (b : Bool) → b ≡ alone rs v'.bits r.addr r.len → OpensAt v' own r b k
  unfolding alone
  ready-opens b is = record {
    opens = is ∙ go (decided (ltb v'.bits r.len)) (decided (long rs v'.bits (slot v'.bits r.addr)));
    free = rw is (space-free rs r v' own k w.space);
  }
    where
      q : ℕ
      q = v'.serving r.addr

      go : (ltb v'.bits r.len ≡ true) ⊎ (ltb v'.bits r.len ≡ false)
          → (long rs v'.bits (slot v'.bits r.addr) ≡ true) ⊎ (long rs v'.bits (slot v'.bits r.addr) ≡ false)
          → (ltb v'.bits r.len && not (long rs v'.bits (slot v'.bits r.addr)))
          ≡ (ltb v'.bits r.len && leb (length own) (find own (suc q)))
      go (inr e) d = rw e
      go (inl e) (inl d) =
          let s = w.served e in
          rw (e, d) (sym (lt-leb (length own) (find own (suc q)) (w.fits.has q s.inside s.used (rw s.stands d))))
      go (inl e) (inr d) = rw (e, d) (sym (le-leb (length own) (find own (suc q)) (unhung rs v' own w.fits q (rw (w.served e).stands d))))

  module _ (v : Level) (bits : v'.bits ≡ v.bits) (was : Fits rs v (chunks_of own)) (over : (x : ℕ) → v.live x ≡ true → v.at x ≡ v'.at x) (p : ℕ)
      (cells : List ℕ) (clear : Clear (below v (chunks_of own) p) (entry cells)) where
    -- a chunk whose cell does not meet the route's prefix is not the new one
    keeps : (c x : ℕ) → c < length own → get_or own' c 0 ≡ suc x → meets r.addr r.len v'.bits (v'.at x) ≡ false
        → (get_or own c 0 ≡ suc x) × (v.at x ≡ v'.at x)
    keeps c x h e m =
        let z = hung-was own (alone rs v'.bits r.addr r.len) k (v'.serving r.addr) c x (rw open-hung at e) new in
        (z, over x (was.lies c x h z).1)
      where
        new : needed → (x ≡ v'.serving r.addr) → ⊥
        new b y =
            let here = ap v'.at y ∙ (w.served (alone-parts rs v'.bits r.addr r.len b).0).stands in
            let met = meets-own r.addr r.len v'.bits (alone-longer rs v'.bits r.addr r.len b) in
            true≢false (sym (ap (meets r.addr r.len v'.bits) here ∙ met) ∙ m)

    -- a chunk that is free now was free
    free : (q : ℕ) → (below v' (chunks_of own') p).live q ≡ false → (below v (chunks_of own) p).live q ≡ false
    free q e = untrue _ (λ u.
        let o = open-keeps rs r v' own k w _ _ (live-owner v (chunks_of own) p q u) in
        let live = lt-ltb 0 (get_or own' (q / 2 ^ (p - v.bits)) 0) (omega (arith, o)) in
        true≢false (sym live ∙ subst (λ (b : ℕ). ltb 0 (get_or own' (q / 2 ^ (p - b)) 0) ≡ false) bits e))

    pub opening-held : PoolUnderway (insert r rs) r.addr r.len v v' p own own' cells cells
    opening-held = record {
      bits = bits;
      many = length-open v' own k r;
      size = refl;
      fits = open-fits rs r v' own k w;
      keeps = keeps;
      held = λ q l e. refl;
      clear = record { blank = λ q l e. clear.blank q (rw bits at (rw (length-open v' own k r) at l)) (free q e) };
    }

module _ (t : Table) (l : Lent) (r : Route) (c2 c3 : ℕ) (w : AnnounceableAt t l r c2 c3) where
  abbrev g : Geometry
  g = t.geometry

  abbrev rs : List Route
  rs = standing t l

  abbrev own2' : List ℕ
  own2' = open_at (level1 g) l.own2 c2 r

  abbrev own3' : List ℕ
  own3' = open_at (level2 g (chunks_of own2')) l.own3 c3 r

  -- what `open` asks
  pub at-openable : c2 < 65536 → (o : Opening) → Opens g rs l.own2 r.addr r.len o → Openable g r o c2 c3 l.own2 l.own3
  at-openable few o k = record {
    valid = w.sound.sized.valid;
    addr = w.fine.prefix.addr_ok;
    few2 = few;
    second = ready-opens rs r (level1 g) l.own2 c2 w.first o.second k.second;
    third = ready-opens rs r (level2 g (chunks_of own2')) l.own3 c3 w.second o.third k.third;
    chunk = k.chunk;
    few = k.few;
  }

  -- a live place of the second pool stands for the cell that it stood for
  over : (x : ℕ) → (level2 g (chunks_of l.own2)).live x ≡ true → (level2 g (chunks_of l.own2)).at x ≡ (level2 g (chunks_of own2')).at x
  over x e =
      let o = live-owner (level1 g) (chunks_of l.own2) g.p2 x e in
      let stays = open-keeps rs r (level1 g) l.own2 c2 w.first _ _ o in
      sym ((below-same (level1 g) (level1 g) (chunks_of l.own2) (chunks_of own2') g.p2 x refl (stays ∙ sym o) (λ z _. refl)).at e)

  pub at-underway : Underway g r.addr r.len (insert r rs) l (cells l.first l.second l.third own2' own3')
  at-underway =
      let z = serving-of t l w.sound in
      record {
        sized = w.sound.sized;
        prefix = w.fine.prefix;
        room = room_of l;
        frame = at-frame t l r c2 c3 w;
        first = refl;
        second =
            opening-held rs r (level1 g) l.own2 c2 w.first (level1 g) refl
            (shows-fits rs (level1 g) (chunks_of l.own2) (entry l.first) z.shows1) (λ x _. refl)
            g.p2 l.second w.sound.clear2;
        third = opening-held rs r (level2 g (chunks_of own2')) l.own3 c3 w.second (level2 g (chunks_of l.own2)) refl
            (shows-fits rs (level2 g (chunks_of l.own2)) (chunks_of l.own3) (entry l.second) z.shows2) over 32 l.third w.sound.clear3;
      }
