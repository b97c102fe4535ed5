-- Laws of `grant` and `keep`: arrays of owners after a chunk is granted, and after what is no longer deep is closed. Either is one store at most:
-- no two live places stand for one cell, so one place alone may change whether it is deep.
use mathlib.Core.Path.{◌≡◌, refl, sym, ◌∙◌, ap}
use mathlib.Core.Logic.{◌⊎◌, inl, inr, ◌≢◌}
use mathlib.Core.Bool.{Bool, true, false, cond, true≢false}
use mathlib.Core.List.{List, [], ◌∷◌}
use Prim.Native.Nat.{ℕ, zero, suc, ◌-◌, ◌≤◌, ◌<◌}
use native.Mathlib.Omega.{arith}
use lib.Dec.{ltb}
use lib.ListN.{get_or, length, set, length-set, length-map}
use lib.Seq.{get_or-set_same, get_or-set_other, ext_get_or}
use borrow.Author.Tests.{lt-ltb, le-ltb}
use Rattle.bits.proofs.Bools.{decided, below?, equal?}
use Rattle.bits.specs.Slot.{slot}
use Rattle.standing.specs.Cells.{long}
use Rattle.routes.specs.declared.Route.{Route}
use Rattle.sail.specs.Level.{Level, deep, entry, chunks_of}
use Rattle.sail_theory.specs.Render.{find, Fits}
use Rattle.sail_theory.specs.Calls.{grant, keep}
use Rattle.sail_theory.proofs.owners.Chunks.{chunk-at, free-zero}
use Rattle.sail_theory.proofs.places.Places.{Apart, LiveFor}
use Rattle.sail_theory.proofs.owners.StillFit.{fits-held, fits-hung, Closed}

-- a chunk that is had already, and one that is given
pub grant-had : (own : List ℕ) (c q : ℕ) → find own (suc q) < length own → grant own c q ≡ own
unfolding grant
grant-had own c q h = rw (lt-ltb (find own (suc q)) (length own) h)

pub grant-new : (own : List ℕ) (c q : ℕ) → length own ≤ find own (suc q) → grant own c q ≡ set own c (suc q)
unfolding grant
grant-new own c q h = rw (le-ltb (find own (suc q)) (length own) h)

pub length-grant : (own : List ℕ) (c q : ℕ) → length (grant own c q) ≡ length own
unfolding grant
length-grant own c q = go (ltb (find own (suc q)) (length own))
  where
    go : (b : Bool) → length (cond b own (set own c (suc q))) ≡ length own
    go true = refl
    go false = length-set own c (suc q)

pub had? : (own : List ℕ) (q : ℕ) → (find own (suc q) < length own) ⊎ (length own ≤ find own (suc q))
had? own q = below? (find own (suc q)) (length own)

-- an owner stays when the lowest free chunk is granted, and the one that comes is the lowest
pub grant-stays : (own : List ℕ) (q c x : ℕ) → get_or own c 0 ≡ suc x → get_or (grant own (find own 0) q) c 0 ≡ suc x
grant-stays own q c x e = go (had? own q)
  where
    go : (find own (suc q) < length own) ⊎ (length own ≤ find own (suc q)) → get_or (grant own (find own 0) q) c 0 ≡ suc x
    go (inl h) = rw (grant-had own (find own 0) q h) e
    go (inr h) =
        rw (grant-new own (find own 0) q h) (get_or-set_other own (find own 0) c (suc q) 0 (λ y. omega (arith, free-zero own, ap (entry own) y)) ∙ e)

pub grant-lowest : (own : List ℕ) (q c x : ℕ) → get_or own c 0 ≡ 0 → get_or (grant own (find own 0) q) c 0 ≡ suc x → c ≡ find own 0
grant-lowest own q c x was now = go (had? own q) (equal? c (find own 0))
  where
    go : (find own (suc q) < length own) ⊎ (length own ≤ find own (suc q)) → (c ≡ find own 0) ⊎ (c ≢ find own 0) → c ≡ find own 0
    go (inl h) y = absurd (omega (arith, ap (λ (l : List ℕ). get_or l c 0) (grant-had own (find own 0) q h)))
    go (inr h) (inl y) = y
    go (inr h) (inr y) = absurd (omega (arith, get_or-set_other own (find own 0) c (suc q) 0 y, ap (λ (l : List ℕ). get_or l c 0) (grant-new own (find own 0) q h)))

-- one cell more is deep, and its place has a chunk
module _ (rs rs' : List Route) (v : Level) (own : List ℕ) (f : Fits rs v (chunks_of own))
    (q : ℕ) (ql : q < v.places) (lq : v.live q ≡ true) (now : deep rs' v q ≡ true)
    (others : (x : ℕ) → x < v.places → v.live x ≡ true → x ≢ q → deep rs' v x ≡ deep rs v x) where
  pub grant-fits : (c : ℕ) → (length own ≤ find own (suc q) → (c < length own) × (get_or own c 0 ≡ 0)) → Fits rs' v (chunks_of (grant own c q))
  grant-fits c space = go (had? own q)
    where
      go : (find own (suc q) < length own) ⊎ (length own ≤ find own (suc q)) → Fits rs' v (chunks_of (grant own c q))
      go (inl h) = rw (grant-had own c q h) (fits-held rs rs' v (chunks_of own) f q ql lq now others h)
      go (inr h) =
          let next = chunks_of (set own c (suc q)) in
          let here = get_or-set_same own c (suc q) 0 (space h).0 in
          rw (grant-new own c q h)
          (fits-hung rs rs' v (chunks_of own) f q ql lq now others next (length-set own c (suc q)) h c (space h).0 (space h).1 here
          (λ k y. get_or-set_other own c k (suc q) 0 y))

-- what is closed
either-zero : (b : Bool) → ◌≡◌ {A = ℕ} (cond b 0 0) 0
either-zero true = refl
either-zero false = refl

pub get_d-keep : (rs : List Route) (v : Level) (own : List ℕ) (c : ℕ) → get_or (keep rs v own) c 0 ≡ cond (deep rs v (get_or own c 0 - 1)) (get_or own c 0) 0
unfolding keep
get_d-keep rs v [] c = sym (either-zero (deep rs v (0 - 1)))
get_d-keep rs v (o ∷ own) zero = refl
get_d-keep rs v (o ∷ own) (suc c) = get_d-keep rs v own c

pub length-keep : (rs : List Route) (v : Level) (own : List ℕ) → length (keep rs v own) ≡ length own
unfolding keep
length-keep rs v own = length-map own _

module _ (rs : List Route) (v : Level) (own : List ℕ) where
  -- an owner that is left was there, and is deep; one that was there and is deep is left
  pub kept-was : (c q : ℕ) → get_or (keep rs v own) c 0 ≡ suc q → (get_or own c 0 ≡ suc q) × (deep rs v q ≡ true)
  kept-was c q e = go (deep rs v (get_or own c 0 - 1)) refl (sym (get_d-keep rs v own c) ∙ e)
    where
      go : (b : Bool) → deep rs v (get_or own c 0 - 1) ≡ b → cond b (get_or own c 0) 0 ≡ suc q → (get_or own c 0 ≡ suc q) × (deep rs v q ≡ true)
      go true d z = (z, sym (ap (λ (x : ℕ). deep rs v x) (let y : get_or own c 0 - 1 ≡ q = omega arith in y)) ∙ d)
      go false d z = absurd (omega arith)

  pub kept-stays : (c q : ℕ) → get_or own c 0 ≡ suc q → deep rs v q ≡ true → get_or (keep rs v own) c 0 ≡ suc q
  kept-stays c q e d =
      let y : get_or own c 0 - 1 ≡ q = omega arith in
      get_d-keep rs v own c ∙ rw (y, d) e

-- so it is closed
pub keep-closed : (rs : List Route) (v : Level) (own : List ℕ) → Closed rs v (chunks_of own) (chunks_of (keep rs v own))
keep-closed rs v own = record { many = length-keep rs v own; was = kept-was rs v own; stays = kept-stays rs v own }

-- nothing is closed where every chunk in use hangs from a cell that is deep
pub keep_all : (rs : List Route) (v : Level) (own : List ℕ) → ((c x : ℕ) → c < length own → get_or own c 0 ≡ suc x → deep rs v x ≡ true)
    → keep rs v own ≡ own
keep_all rs v own h = ext_get_or 0 (keep rs v own) own (length-keep rs v own) (λ c l. kept c (rw length-keep at l))
  where
    kept : (c : ℕ) → c < length own → get_or (keep rs v own) c 0 ≡ get_or own c 0
    kept c l = get_d-keep rs v own c ∙ go (equal? (get_or own c 0) 0)
      where
        go : (get_or own c 0 ≡ 0) ⊎ (get_or own c 0 ≢ 0) → cond (deep rs v (get_or own c 0 - 1)) (get_or own c 0) 0 ≡ get_or own c 0
        go (inl e) = rw e (either-zero (deep rs v (0 - 1)))
        go (inr e) = let o : get_or own c 0 ≡ suc (get_or own c 0 - 1) = omega arith in rw (h c (get_or own c 0 - 1) l o)

-- The cell of one address alone, a, may be long no longer. Where it was long and is no more, its chunk is closed, and no other.
pub record Losing (rs rs' : List Route) (a : ℕ) (v : Level) (own : List ℕ) : Type 0 where
  pub fits : Fits rs v (chunks_of own)
  pub apart : Apart v
  pub others : (j : ℕ) → j ≢ slot v.bits a → long rs' v.bits j ≡ long rs v.bits j
  pub served : long rs v.bits (slot v.bits a) ≡ true → LiveFor v a

module _ (rs rs' : List Route) (a : ℕ) (v : Level) (own : List ℕ) (w : Losing rs rs' a v own) where
  abbrev i : ℕ
  i = slot v.bits a

  abbrev q : ℕ
  q = v.serving a

  -- the owners without that of its chunk
  abbrev shut : List ℕ
  shut = set own (find own (suc q)) 0

  -- nothing is closed where its cell was not long, or is long still
  pub keep_same : (long rs' v.bits i ≡ true) ⊎ (long rs v.bits i ≡ false) → keep rs' v own ≡ own
  keep_same z = keep_all rs' v own (λ c x l e. is x (w.fits.lies c x l e).2 (equal? (v.at x) i) z)
    where
      is : (x : ℕ) → deep rs v x ≡ true → (v.at x ≡ i) ⊎ (v.at x ≢ i) → (long rs' v.bits i ≡ true) ⊎ (long rs v.bits i ≡ false)
          → deep rs' v x ≡ true
      is x k (inr y) _ = w.others (v.at x) y ∙ k
      is x k (inl y) (inl d) = ap (long rs' v.bits) y ∙ d
      is x k (inl y) (inr d) = absurd (true≢false (sym k ∙ ap (long rs v.bits) y ∙ d))

  -- else its chunk is, and no other
  pub keep-but : long rs v.bits i ≡ true → long rs' v.bits i ≡ false → keep rs' v own ≡ shut
  keep-but d d' =
      let same = length-keep rs' v own ∙ sym (length-set own (find own (suc q)) 0) in
      ext_get_or 0 (keep rs' v own) shut same (λ c l. go c (rw length-keep at l) (equal? c (find own (suc q))) (equal? (get_or own c 0) 0))
    where
      on : LiveFor v a
      on = w.served d

      h : find own (suc q) < length own
      h = w.fits.has q on.inside on.used (ap (long rs v.bits) on.stands ∙ d)

      -- a chunk that hangs from the place q is that one
      other : (c x : ℕ) → c < length own → get_or own c 0 ≡ suc x → c ≢ find own (suc q) → v.at x ≢ i
      other c x l o e y =
          let k = w.fits.lies c x l o in
          let here = w.apart x q k.0 on.inside k.1 on.used (y ∙ sym on.stands) in
          e (sym (w.fits.once c x l o) ∙ ap (λ (z : ℕ). find own (suc z)) here)

      go : (c : ℕ) → c < length own → (c ≡ find own (suc q)) ⊎ (c ≢ find own (suc q)) → (get_or own c 0 ≡ 0) ⊎ (get_or own c 0 ≢ 0)
          → get_or (keep rs' v own) c 0 ≡ get_or shut c 0
      go c l (inl e) z =
          let o : get_or own c 0 ≡ suc q = rw e (chunk-at (chunks_of own) (suc q) h) in
          let y : get_or own c 0 - 1 ≡ q = omega arith in
          get_d-keep rs' v own c ∙ rw (y, on.stands, d') (sym (rw e (get_or-set_same own (find own (suc q)) 0 0 h)))
      go c l (inr e) (inl z) = get_d-keep rs' v own c ∙ rw z (either-zero (deep rs' v (0 - 1))) ∙ sym (get_or-set_other own (find own (suc q)) c 0 0 e ∙ z)
      go c l (inr e) (inr z) =
          let o : get_or own c 0 ≡ suc (get_or own c 0 - 1) = omega arith in
          let k = w.fits.lies c (get_or own c 0 - 1) l o in
          let deep-still = w.others _ (other c (get_or own c 0 - 1) l o e) ∙ k.2 in
          kept-stays rs' v own c (get_or own c 0 - 1) o deep-still ∙ sym o ∙ sym (get_or-set_other own (find own (suc q)) c 0 0 e)

  pub keep-stores : keep rs' v own ≡ cond (long rs v.bits i) (cond (long rs' v.bits i) own shut) own
  keep-stores = go (decided (long rs v.bits i)) (decided (long rs' v.bits i))
    where
      go : (long rs v.bits i ≡ true) ⊎ (long rs v.bits i ≡ false) → (long rs' v.bits i ≡ true) ⊎ (long rs' v.bits i ≡ false)
          → keep rs' v own ≡ cond (long rs v.bits i) (cond (long rs' v.bits i) own shut) own
      go (inr e) d = rw e (keep_same (inr e))
      go (inl e) (inl d) = rw (e, d) (keep_same (inl d))
      go (inl e) (inr d) = rw (e, d) (keep-but e d)

-- no chunk hangs from a cell that is not deep
pub unhung : (rs : List Route) (v : Level) (own : List ℕ) → Fits rs v (chunks_of own) → (q : ℕ) → deep rs v q ≡ false → length own ≤ find own (suc q)
unhung rs v own f q d = go (had? own q)
  where
    go : (find own (suc q) < length own) ⊎ (length own ≤ find own (suc q)) → length own ≤ find own (suc q)
    go (inr h) = h
    go (inl k) = absurd (true≢false (sym (f.lies (find own (suc q)) q k (chunk-at (chunks_of own) (suc q) k)).2 ∙ d))

-- what is granted, by whether the cell was deep
pub grant-deep : (rs : List Route) (v : Level) (own : List ℕ) → Fits rs v (chunks_of own) → (c q : ℕ) → q < v.places → v.live q ≡ true
    → grant own c q ≡ cond (deep rs v q) own (set own c (suc q))
grant-deep rs v own f c q l e = go (decided (deep rs v q))
  where
    go : (deep rs v q ≡ true) ⊎ (deep rs v q ≡ false) → grant own c q ≡ cond (deep rs v q) own (set own c (suc q))
    go (inl d) = rw d (grant-had own c q (f.has q l e d))
    go (inr d) = rw d (grant-new own c q (unhung rs v own f q d))
