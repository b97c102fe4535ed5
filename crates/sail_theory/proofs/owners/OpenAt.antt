-- Laws of `open_at`: owners after an announcement, at one level and at the level below it. Said of any level. A chunk is opened at most for the cell of
-- the route, which alone may become deep; so chunks that fit still do, and the route may then be announced at the level below.
use mathlib.Core.Path.{◌≡◌, refl, sym, ◌∙◌, ap, subst}
use mathlib.Core.Logic.{◌⊎◌, inl, inr, ◌≢◌}
use mathlib.Core.Bool.{Bool, true, false, cond}
use mathlib.Core.List.{List}
use Prim.Native.Nat.{ℕ, suc, ◌≤◌, ◌<◌}
use native.Mathlib.Omega.{arith}
use lib.Dec.{ltb}
use lib.ListN.{get_or, length, set}
use lib.Seq.{get_or-set_same, get_or-set_other}
use borrow.Author.Tests.{ltb-true, lt-ltb, le-ltb}
use Rattle.bits.specs.Slot.{slot}
use Rattle.bits.proofs.Bools.{decided, untrue, equal?}
use Rattle.routes.specs.Route.{Fine, Good}
use Rattle.standing.specs.Cells.{long}
use Rattle.standing.specs.Standing.{insert}
use Rattle.routes.specs.declared.Route.{Route}
use Rattle.sail.specs.Level.{Level, deep, chunks_of, below}
use Rattle.sail_theory.specs.Render.{find, Fits}
use Rattle.sail_theory.specs.Calls.{grant, open_at, opening}
use Rattle.sail_theory.proofs.owners.Chunks.{chunk-is, chunk-before}
use Rattle.sail_theory.proofs.places.Places.{LiveFor, below-served, Apart, below_apart}
use Rattle.sail_theory.proofs.owners.StillFit.{fits-ext, Grew, stayed, came, fits-shift}
use Rattle.sail_theory.proofs.owners.GrantKeep.{grant-had, grant-new, grant-stays, length-grant, had?, grant-fits, grant-deep, unhung}
use Rattle.standing.proofs.NeedAfter.{long-own, long-other, long-short}

pub length-open : (v : Level) (own : List ℕ) (c : ℕ) (r : Route) → length (open_at v own c r) ≡ length own
unfolding open_at
length-open v own c r = go (ltb v.bits r.len)
  where
    go : (b : Bool) → length (cond b (grant own c (v.serving r.addr)) own) ≡ length own
    go true = length-grant own c _
    go false = refl

-- owners stay when the lowest free chunk is opened
pub open_stays : (v : Level) (own : List ℕ) (r : Route) (c x : ℕ) → get_or own c 0 ≡ suc x → get_or (opening v own r) c 0 ≡ suc x
unfolding open_at
open_stays v own r c x e = go (ltb v.bits r.len)
  where
    go : (b : Bool) → get_or (cond b (grant own (find own 0) (v.serving r.addr)) own) c 0 ≡ suc x
    go true = grant-stays own (v.serving r.addr) c x e
    go false = e

-- a chunk that was just hung from q, where none hung, is found there
pub find-hung : (own : List ℕ) (c q : ℕ) → c < length own → length own ≤ find own (suc q) → find (set own c (suc q)) (suc q) ≡ c
find-hung own c q l none =
    chunk-is (chunks_of (set own c (suc q))) (suc q) c (rw lib.ListN.length-set l) (get_or-set_same own c (suc q) 0 l)
    (λ j i e. chunk-before (chunks_of own) (suc q) j (omega arith) (sym (get_or-set_other own c j (suc q) 0 (λ y. omega arith)) ∙ e))

-- where a chunk has to be opened for r, c is free
abbrev pub Space : List Route → Route → Level → List ℕ → ℕ → Type 0
Space rs r v own c = ltb v.bits r.len ≡ true → long rs v.bits (slot v.bits r.addr) ≡ false → (c < length own) × (get_or own c 0 ≡ 0)

-- r may be announced at the level: the chunks that hang from it fit the routes that stand, a live place serves r where it is longer than the
-- level, and where a chunk has to be opened, c is free
pub record OpenReady (rs : List Route) (r : Route) (v : Level) (own : List ℕ) (c : ℕ) : Type 0 where
  pub fine : Fine r
  pub good : Good rs
  pub fits : Fits rs v (chunks_of own)
  pub apart : Apart v
  pub served : ltb v.bits r.len ≡ true → LiveFor v r.addr
  pub space : Space rs r v own c

module _ (rs : List Route) (r : Route) (v : Level) (own : List ℕ) (c : ℕ) (w : OpenReady rs r v own c) where
  abbrev q : ℕ
  q = v.serving r.addr

  abbrev i : ℕ
  i = slot v.bits r.addr

  abbrev own' : List ℕ
  own' = open_at v own c r

  -- no chunk is opened for a route that is no longer than the level
  short : ltb v.bits r.len ≡ false → own' ≡ own
  unfolding open_at
  short e = rw e

  grants : ltb v.bits r.len ≡ true → own' ≡ grant own c q
  unfolding open_at
  grants e = rw e

  -- a cell without a chunk was not long
  pub not-long : ltb v.bits r.len ≡ true → length own ≤ find own (suc q) → long rs v.bits i ≡ false
  not-long e h = untrue _ (λ d.
      let s = w.served e in
      let z = w.fits.has q s.inside s.used (rw s.stands d) in
      omega arith)

  pub open-fits : Fits (insert r rs) v (chunks_of own')
  open-fits = go (decided (ltb v.bits r.len))
    where
      go : (ltb v.bits r.len ≡ true) ⊎ (ltb v.bits r.len ≡ false) → Fits (insert r rs) v (chunks_of own')
      go (inl e) =
          let s = w.served e in
          let now = long-own r rs w.fine w.good v.bits e in
          let others : (x : ℕ) → x < v.places → v.live x ≡ true → x ≢ q → deep (insert r rs) v x ≡ deep rs v x
          = λ x l u h. long-other r rs w.fine w.good v.bits (v.at x) (λ z. h (w.apart x q l s.inside u s.used (z ∙ sym s.stands))) in
          subst (λ (o : List ℕ). Fits (insert r rs) v (chunks_of o)) (sym (grants e))
          (grant-fits rs (insert r rs) v own w.fits q s.inside s.used (rw s.stands now) others c (λ h. w.space e (not-long e h)))
      go (inr e) =
          subst (λ (o : List ℕ). Fits (insert r rs) v (chunks_of o)) (sym (short e))
          (fits-ext rs (insert r rs) v (chunks_of own) (λ x l u. long-short r rs w.fine w.good v.bits (v.at x) e) w.fits)

  -- an owner stays; one that is new hangs from the route's place, whose cell was not long
  grew : (j : ℕ) → Grew rs v (chunks_of own) (chunks_of own') j
  grew j = go (decided (ltb v.bits r.len)) (had? own q)
    where
      go : (ltb v.bits r.len ≡ true) ⊎ (ltb v.bits r.len ≡ false) → (find own (suc q) < length own) ⊎ (length own ≤ find own (suc q))
          → Grew rs v (chunks_of own) (chunks_of own') j
      go (inr e) h = stayed (ap (λ (l : List ℕ). get_or l j 0) (short e))
      go (inl e) (inl h) = stayed (ap (λ (l : List ℕ). get_or l j 0) (grants e ∙ grant-had own c q h))
      go (inl e) (inr h) = at (equal? j c)
        where
          free : (c < length own) × (get_or own c 0 ≡ 0)
          free = w.space e (not-long e h)

          is : own' ≡ set own c (suc q)
          is = grants e ∙ grant-new own c q h

          at : (j ≡ c) ⊎ (j ≢ c) → Grew rs v (chunks_of own) (chunks_of own') j
          at (inl y) =
              came q (rw y free.1) (ap (λ (l : List ℕ). get_or l j 0) is ∙ rw y (get_or-set_same own c (suc q) 0 free.0))
              (ap (long rs v.bits) (w.served e).stands ∙ not-long e h)
          at (inr y) = stayed (ap (λ (l : List ℕ). get_or l j 0) is ∙ get_or-set_other own c j (suc q) 0 y)

  -- so owners stay
  pub open-keeps : (j x : ℕ) → get_or own j 0 ≡ suc x → get_or own' j 0 ≡ suc x
  open-keeps j x e = go (grew j)
    where
      go : Grew rs v (chunks_of own) (chunks_of own') j → get_or own' j 0 ≡ suc x
      go (stayed y) = y ∙ e
      go (came q z n d) = absurd (omega arith)

  -- then r may be announced at the level below
  pub ready-below : (p : ℕ) → v.bits ≤ p → p ≤ 32 → (low : List ℕ) (b : ℕ) → Fits rs (below v (chunks_of own) p) (chunks_of low)
      → Space rs r (below v (chunks_of own') p) low b → OpenReady rs r (below v (chunks_of own') p) low b
  ready-below p h u low b f s = record {
    fine = w.fine;
    good = w.good;
    fits = fits-shift rs v (chunks_of own) (chunks_of own') p h u (length-open v own c r) grew (chunks_of low) f;
    apart = below_apart (insert r rs) v (chunks_of own') p open-fits w.apart;
    served = λ e.
        let d : ltb v.bits r.len ≡ true = lt-ltb v.bits r.len (omega (arith, ltb-true p r.len e)) in
        below-served (insert r rs) v (chunks_of own') open-fits p r.addr h u (w.served d) (long-own r rs w.fine w.good v.bits d);
    space = s;
  }

  -- The owners as a program finds them: at most one store. They change where the route is longer than the level and its cell was not long.
  pub open-short : r.len ≤ v.bits → own' ≡ own
  open-short h = short (le-ltb v.bits r.len h)

  open-stores : ltb v.bits r.len ≡ true → own' ≡ cond (long rs v.bits i) own (set own c (suc q))
  open-stores e =
      let s = w.served e in
      grants e ∙ grant-deep rs v own w.fits c q s.inside s.used ∙ ap (λ (x : ℕ). cond (long rs v.bits x) own (set own c (suc q))) s.stands

  pub open-had : long rs v.bits i ≡ true → own' ≡ own
  open-had d = go (decided (ltb v.bits r.len))
    where
      go : (ltb v.bits r.len ≡ true) ⊎ (ltb v.bits r.len ≡ false) → own' ≡ own
      go (inl e) = open-stores e ∙ rw d
      go (inr e) = short e

  -- else the free chunk is opened, and hangs from the place that serves the route
  pub open-new : v.bits < r.len → long rs v.bits i ≡ false → (c < length own) × (own' ≡ set own c (suc q)) × (find own' (suc q) ≡ c)
  open-new h d =
      let e = lt-ltb v.bits r.len h in
      let free = (w.space e d).0 in
      let is : own' ≡ set own c (suc q) = open-stores e ∙ rw d in
      let none = unhung rs v own w.fits q (ap (long rs v.bits) (w.served e).stands ∙ d) in
      (free, is, ap (λ (x : List ℕ). find x (suc q)) is ∙ find-hung own c q free none)
