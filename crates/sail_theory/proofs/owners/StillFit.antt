-- Chunks that fit a level still do after a chunk is granted (`fits-held`, `fits-hung`), after the level above has one more (`fits-shift`), and
-- after what is no longer deep is closed (`fits_kept`, `below-kept`). Said of any level, and of owners by what is read of them.
use mathlib.Core.Path.{◌≡◌, refl, sym, ◌∙◌, ap}
use mathlib.Core.Logic.{◌⊎◌, inl, inr, ◌≢◌}
use mathlib.Core.Bool.{true, false, true≢false}
use mathlib.Core.List.{List}
use Prim.Native.Nat.{ℕ, suc, ◌+◌, ◌-◌, ◌*◌, ◌/◌, ◌%◌, ◌^◌, ◌≤◌, ◌<◌}
use native.Mathlib.Omega.{arith}
use lib.Dec.{ltb}
use borrow.Author.Tests.{ltb-true}
use Rattle.bits.proofs.Bools.{equal?}
use Rattle.standing.specs.Cells.{long}
use Rattle.routes.specs.declared.Route.{Route}
use Rattle.sail.specs.Level.{Level, Chunks, chunk_for, deep, below}
use Rattle.sail_theory.specs.Render.{Fits}
use Rattle.sail_theory.proofs.owners.Chunks.{chunk-at, chunk-is, chunk-has}
use Rattle.standing.proofs.TwoLevels.{long-down}
use Rattle.sail_theory.proofs.places.Places.{part_up, live-owner}

-- a chunk that hangs from the place is found
pub chunk-found : (k : Chunks) (o c : ℕ) → c < k.many → k.own c ≡ o → chunk_for k o < k.many
chunk-found k o c l e = let h = chunk-has k o c e in omega arith

-- the same cells are deep
pub fits-ext : (rs rs' : List Route) (v : Level) (k : Chunks) → ((q : ℕ) → q < v.places → v.live q ≡ true → deep rs' v q ≡ deep rs v q) → Fits rs v k
    → Fits rs' v k
fits-ext rs rs' v k h f = record {
  lies = λ c q l e. let j = f.lies c q l e in (j.0, j.1, h q j.0 j.1 ∙ j.2);
  has = λ q l e d. f.has q l e (sym (h q l e) ∙ d);
  once = f.once;
}

-- from k to k' the owner of c stays, or it comes: it was free, and hangs from a place that is not deep
pub data Grew (rs : List Route) (v : Level) (k k' : Chunks) (c : ℕ) : Type 0 where
  stayed : k'.own c ≡ k.own c → Grew rs v k k' c
  came : (q : ℕ) → k.own c ≡ 0 → k'.own c ≡ suc q → deep rs v q ≡ false → Grew rs v k k' c

-- then what fits the level below still does
module _ (rs : List Route) (v : Level) (k k' : Chunks) (p : ℕ) (h : v.bits ≤ p) (u : p ≤ 32) (same : k'.many ≡ k.many)
    (grew : (c : ℕ) → Grew rs v k k' c) where
  abbrev d : ℕ
  d = p - v.bits

  stay : (q : ℕ) → (below v k p).live q ≡ true → Grew rs v k k' (q / 2 ^ d) → ((below v k' p).live q ≡ true) × ((below v k' p).at q ≡ (below v k p).at q)
  stay q e (stayed y) = (ap (ltb 0) y ∙ e, ap (λ (x : ℕ). v.at (x - 1) * 2 ^ d + q % 2 ^ d) y)
  stay q e (came x y z n) = absurd (omega (arith, ltb-true 0 (k.own (q / 2 ^ d)) e))

  new : (q : ℕ) → (below v k' p).live q ≡ true → deep rs (below v k' p) q ≡ true → Grew rs v k k' (q / 2 ^ d) → (below v k p).live q ≡ true
  new q e b (stayed y) = sym (ap (ltb 0) y) ∙ e
  new q e b (came x y z n) =
      let w : k'.own (q / 2 ^ d) - 1 ≡ x = omega arith in
      absurd (true≢false (sym (long-down rs v.bits p _ h u b) ∙ ap (long rs v.bits) (part_up v k' p q ∙ ap v.at w) ∙ n))

  -- Places below a chunk that stayed stand where they stood. Those below one that came are not deep, since its own place is not: no chunk hangs
  -- there, and none has to.
  pub fits-shift : (j : Chunks) → Fits rs (below v k p) j → Fits rs (below v k' p) j
  fits-shift j f = record {
    lies = λ c q l e.
        let z = f.lies c q l e in
        let s = stay q z.1 (grew _) in
        (rw same z.0, s.0, ap (long rs p) s.1 ∙ z.2);
    has = λ q l e b.
        let w = new q e b (grew _) in
        f.has q (rw same at l) w (sym (ap (long rs p) (stay q w (grew _)).1) ∙ b);
    once = f.once;
  }

-- one cell more is deep
module _ (rs rs' : List Route) (v : Level) (k : Chunks) (f : Fits rs v k)
    (q : ℕ) (ql : q < v.places) (lq : v.live q ≡ true) (now : deep rs' v q ≡ true)
    (others : (x : ℕ) → x < v.places → v.live x ≡ true → x ≢ q → deep rs' v x ≡ deep rs v x) where
  -- its place has a chunk already
  pub fits-held : chunk_for k (suc q) < k.many → Fits rs' v k
  fits-held h = record {
    lies = λ c x l e. let j = f.lies c x l e in (j.0, j.1, is x j.0 j.1 j.2 (equal? x q));
    has = λ x l e d. has' x l e d (equal? x q);
    once = f.once;
  }
    where
      is : (x : ℕ) → x < v.places → v.live x ≡ true → deep rs v x ≡ true → (x ≡ q) ⊎ (x ≢ q) → deep rs' v x ≡ true
      is x l e d (inl s) = rw s now
      is x l e d (inr s) = others x l e s ∙ d

      has' : (x : ℕ) → x < v.places → v.live x ≡ true → deep rs' v x ≡ true → (x ≡ q) ⊎ (x ≢ q) → chunk_for k (suc x) < k.many
      has' x l e d (inl s) = rw s h
      has' x l e d (inr s) = f.has x l e (sym (others x l e s) ∙ d)

  -- or a free chunk c is hung there
  module _ (k' : Chunks) (same : k'.many ≡ k.many) (none : k.many ≤ chunk_for k (suc q)) (c : ℕ) (cl : c < k.many) (free : k.own c ≡ 0)
      (here : k'.own c ≡ suc q) (left : (j : ℕ) → j ≢ c → k'.own j ≡ k.own j) where
    gone : (j : ℕ) → j < k.many → k.own j ≢ suc q
    gone j l e = let z = chunk-has k (suc q) j e in omega arith

    -- the chunks of the others
    other : (j x : ℕ) → j < k.many → j ≢ c → k'.own j ≡ suc x → (k.own j ≡ suc x) × (x ≢ q)
    other j x l h e =
        let z = sym (left j h) ∙ e in
        (z, λ s. gone j l (rw s at z))

    is-q : (j x : ℕ) → j ≡ c → k'.own j ≡ suc x → x ≡ q
    is-q j x h e = omega (arith, here, ap k'.own h)

    -- The new chunk lies at q, which is deep now. Every other chunk hangs where it hung, and none hung from q; so each deep place has one chunk.
    pub fits-hung : Fits rs' v k'
    fits-hung = record {
      lies = λ j x l e. lies' j x (rw same at l) e (equal? j c);
      has = λ x l e d. has' x l e d (equal? x q);
      once = λ j x l e. once' j x (rw same at l) e (equal? j c);
    }
      where
        lies' : (j x : ℕ) → j < k.many → k'.own j ≡ suc x → (j ≡ c) ⊎ (j ≢ c) → (x < v.places) × (v.live x ≡ true) × (deep rs' v x ≡ true)
        lies' j x l e (inl h) = rw (is-q j x h e) (ql, lq, now)
        lies' j x l e (inr h) =
            let o = other j x l h e in
            let z = f.lies j x l o.0 in
            (z.0, z.1, others x z.0 z.1 o.1 ∙ z.2)

        has' : (x : ℕ) → x < v.places → v.live x ≡ true → deep rs' v x ≡ true → (x ≡ q) ⊎ (x ≢ q) → chunk_for k' (suc x) < k'.many
        has' x l e d (inl s) = rw s (chunk-found k' (suc q) c (rw same cl) here)
        has' x l e d (inr s) =
            let u = f.has x l e (sym (others x l e s) ∙ d) in
            let at-u = chunk-at k (suc x) u in
            let away : chunk_for k (suc x) ≢ c = λ h. omega (arith, free, ap k.own h) in
            chunk-found k' (suc x) (chunk_for k (suc x)) (rw same u) (left _ away ∙ at-u)

        once' : (j x : ℕ) → j < k.many → k'.own j ≡ suc x → (j ≡ c) ⊎ (j ≢ c) → chunk_for k' (suc x) ≡ j
        once' j x l e (inl h) =
            rw (is-q j x h e, h) (chunk-is k' (suc q) c (rw same cl) here (λ i b z. gone i (omega arith) (sym (left i (λ y. omega arith)) ∙ z)))
        once' j x l e (inr h) = chunk-is k' (suc x) j (rw same l) e (λ i b z. before i b z (equal? i c))
          where
            before : (i : ℕ) → i < j → k'.own i ≡ suc x → (i ≡ c) ⊎ (i ≢ c) → ⊥
            before i b z (inl y) = (other j x l h e).1 (is-q i x y z)
            before i b z (inr y) =
                let w = f.once i x (omega arith) (sym (left i y) ∙ z) in
                let n = f.once j x l (other j x l h e).0 in
                omega arith

-- What is closed: an owner that is left was there and is deep, and one that was there and is deep is left.
pub record Closed (rs : List Route) (v : Level) (k k' : Chunks) : Type 0 where
  pub many : k'.many ≡ k.many
  pub was : (c q : ℕ) → k'.own c ≡ suc q → (k.own c ≡ suc q) × (deep rs v q ≡ true)
  pub stays : (c q : ℕ) → k.own c ≡ suc q → deep rs v q ≡ true → k'.own c ≡ suc q

-- rs' has nothing long that rs has not; v' has no live place that v has not, and those of v whose cell is long still
module _ (rs rs' : List Route) (less : (p i : ℕ) → long rs' p i ≡ true → long rs p i ≡ true) where
  module _ (v v' : Level) (k k' : Chunks) (f : Fits rs v k) (bits : v'.bits ≡ v.bits) (places : v'.places ≡ v.places) (z : Closed rs' v k k')
      (stay : (q : ℕ) → v.live q ≡ true → deep rs' v q ≡ true → v'.live q ≡ true)
      (back : (q : ℕ) → v'.live q ≡ true → (v.live q ≡ true) × (v'.at q ≡ v.at q)) where
    same : (q : ℕ) → v'.live q ≡ true → deep rs' v' q ≡ deep rs' v q
    same q e = rw (bits, (back q e).1)

    closed-fits : Fits rs' v' k'
    closed-fits = record {
      lies = λ c q l e.
          let w = z.was c q e in
          let j = f.lies c q (rw z.many at l) w.0 in
          let y = stay q j.1 w.1 in
          (rw places j.0, y, same q y ∙ w.1);
      has = λ q l e d.
          let b = back q e in
          let d' = sym (same q e) ∙ d in
          let h = f.has q (rw places at l) b.0 (less v.bits (v.at q) d') in
          chunk-found k' (suc q) (chunk_for k (suc q)) (rw z.many h) (z.stays _ q (chunk-at k (suc q) h) d');
      once = λ c q l e. chunk-is k' (suc q) c l e (λ j i y.
          let x = f.once c q (rw z.many at l) (z.was c q e).0 in
          let n = chunk-has k (suc q) j (z.was j q y).0 in
          omega arith);
    }

  -- at one level
  pub fits_kept : (v : Level) (k k' : Chunks) → Fits rs v k → Closed rs' v k k' → Fits rs' v k'
  fits_kept v k k' f z = closed-fits v v k k' f refl refl z (λ q e d. e) (λ q e. (e, refl))

  -- and at the level below one where chunks are closed
  module _ (v : Level) (k k' : Chunks) (p : ℕ) (h : v.bits ≤ p) (u : p ≤ 32) (z : Closed rs' v k k') where
    -- a chunk above a cell that is long still is kept
    pub kept-over : (q : ℕ) → (below v k p).live q ≡ true → deep rs' (below v k p) q ≡ true
        → k'.own (q / 2 ^ (p - v.bits)) ≡ k.own (q / 2 ^ (p - v.bits))
    kept-over q e b =
        let o = live-owner v k p q e in
        z.stays (q / 2 ^ (p - v.bits)) _ o (sym (ap (long rs' v.bits) (part_up v k p q)) ∙ long-down rs' v.bits p _ h u b) ∙ sym o

    pub below-kept : (j j' : Chunks) → Fits rs (below v k p) j → Closed rs' (below v k p) j j' → Fits rs' (below v k' p) j'
    below-kept j j' f y =
        closed-fits (below v k p) (below v k' p) j j' f refl (ap (λ (n : ℕ). n * 2 ^ (p - v.bits)) z.many) y (λ q e b. ap (ltb 0) (kept-over q e b) ∙ e)
        back
      where
        back : (q : ℕ) → (below v k' p).live q ≡ true → ((below v k p).live q ≡ true) × ((below v k' p).at q ≡ (below v k p).at q)
        back q e =
            let o = live-owner v k' p q e in
            let same : k'.own (q / 2 ^ (p - v.bits)) ≡ k.own (q / 2 ^ (p - v.bits)) = o ∙ sym (z.was (q / 2 ^ (p - v.bits)) _ o).0 in
            (sym (ap (ltb 0) same) ∙ e, ap (λ (x : ℕ). v.at (x - 1) * 2 ^ (p - v.bits) + q % 2 ^ (p - v.bits)) same)
