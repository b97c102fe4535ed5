-- The test of soundness (specs/SoundTest.antt) tells exactly whether a table is sound. Part by part: the list, the chunks of a level, and then
-- the arrays, which are compared with what is rendered.
use mathlib.Core.Path.{◌≡◌, ◌∙◌, ap}
use mathlib.Core.Logic.{◌⊎◌, inl, inr}
use mathlib.Core.Bool.{Bool, true, false, not, ◌&&◌, ◌||◌}
use mathlib.Core.List.{List}
use Prim.Native.Nat.{ℕ, suc, ◌-◌, ◌*◌, ◌%◌, ◌≤◌, ◌<◌}
use native.Mathlib.Omega.{arith}
use lib.Dec.{eqb, ltb, leb}
use lib.ListN.{get_or, length}
use borrow.Author.Tests.{ltb-true, leb-true, eqb-true, eqb-false, lt-ltb, le-leb, eq-eqb}
use Rattle.bits.specs.Tab.{Tells, every, same}
use Rattle.bits.proofs.Bools.{decided, both, and_split, or_split}
use Rattle.bits.proofs.Tabs.{every_true, true-every, same_true, true_same}
use Rattle.routes.specs.Record.{Listed}
use Rattle.routes.specs.Input.{fault_at}
use Rattle.routes.proofs.Meaning.{right-fault, fault-right, right-records, records-right}
use Rattle.routes.specs.declared.Route.{Route}
use Rattle.sail.specs.Lent.{Lent}
use Rattle.sail.specs.Level.{Level, Chunks, chunk_for, deep}
use Rattle.sail.specs.Sizes.{sizes_fault, Sized}
use Rattle.sail.specs.Sound.{Sound}
use Rattle.sail.specs.declared.geometry.Geometry.{Geometry}
use Rattle.sail.specs.declared.table.Table.{Table}
use Rattle.sail.proofs.Fitting.{Fault, none, limits, size, none_is, fault-is}
use Rattle.sail_theory.specs.Render.{as_asked, Fits, Rendered}
use Rattle.sail_theory.specs.SoundTest.{listed?, owns?, fits?, sound?}
use Rattle.sail_theory.proofs.places.Rendered.{sound-rendered, rendered-sound}

-- the test, as it is defined
abbrev tested : List ℕ → ℕ → Bool
tested s n =
    leb (n * 8) (length s)
    && (leb n 4096
    && (eqb (length s % 8) 0
    && (every (λ k. eqb (fault_at s k) 0) n
    && every (λ j. ltb j (n * 8) || eqb (get_or s j 0) 0) (length s))))

pub listed-tells : (s : List ℕ) (n : ℕ) → Tells (listed? s n) (Listed s n)
unfolding listed?
listed-tells s n = (there, back)
  where
    there : tested s n ≡ true → Listed s n
    there e =
        let a = and_split (leb (n * 8) (length s)) _ e in
        let b = and_split (leb n 4096) _ a.1 in
        let c = and_split (eqb (length s % 8) 0) _ b.1 in
        let d = and_split (every (λ k. eqb (fault_at s k) 0) n) _ c.1 in
        record {
          records = right-records s n (λ k l. fault-right s k (eqb-true _ _ (every_true _ n d.0 k l))) (leb-true _ _ a.0) (leb-true _ _ b.0);
          whole = eqb-true (length s % 8) 0 c.0;
          zeros = λ j l u. zero-at j l (or_split (ltb j (n * 8)) _ (every_true _ (length s) d.1 j u));
        }
      where
        zero-at : (j : ℕ) → n * 8 ≤ j → (ltb j (n * 8) ≡ true) ⊎ (eqb (get_or s j 0) 0 ≡ true) → get_or s j 0 ≡ 0
        zero-at j l (inl h) = absurd (omega (arith, ltb-true j (n * 8) h))
        zero-at j l (inr h) = eqb-true (get_or s j 0) 0 h

    back : Listed s n → tested s n ≡ true
    back h =
        both (le-leb _ _ h.records.room) (both (le-leb _ _ h.records.few) (both (eq-eqb _ _ h.whole)
        (both (true-every _ n (λ k l. eq-eqb (fault_at s k) 0 (right-fault s k (records-right s n h.records k l))))
        (true-every _ (length s) (λ j u. at j u (decided (ltb j (n * 8))))))))
      where
        at : (j : ℕ) → j < length s → (ltb j (n * 8) ≡ true) ⊎ (ltb j (n * 8) ≡ false) → (ltb j (n * 8) || eqb (get_or s j 0) 0) ≡ true
        at j u (inl e) = rw e
        at j u (inr e) = rw e (eq-eqb (get_or s j 0) 0 (h.zeros j (borrow.Author.Tests.ltb-false j (n * 8) e) u))

module _ (rs : List Route) (v : Level) (k : Chunks) where
  -- the test of one owner, and of one place
  abbrev owner? : ℕ → Bool
  owner? c = eqb (k.own c) 0 || owns? rs v k c

  abbrev place? : ℕ → Bool
  place? q = not (v.live q && deep rs v q) || ltb (chunk_for k (suc q)) k.many

  owner-right : (c q : ℕ) → owner? c ≡ true → k.own c ≡ suc q → (q < v.places) × (v.live q ≡ true) × (deep rs v q ≡ true) × (chunk_for k (suc q) ≡ c)
  owner-right c q e z = go (or_split _ _ e)
    where
      go : (eqb (k.own c) 0 ≡ true) ⊎ (owns? rs v k c ≡ true) → (q < v.places) × (v.live q ≡ true) × (deep rs v q ≡ true) × (chunk_for k (suc q) ≡ c)
      go (inl y) = absurd (omega (arith, eqb-true (k.own c) 0 y))
      go (inr y) =
          let p : suc q - 1 ≡ q = omega arith in
          let y' = rw (z, p) at y in
          let a = and_split (ltb q v.places) (v.live q && (deep rs v q && eqb (chunk_for k (suc q)) c)) y' in
          let b = and_split (v.live q) (deep rs v q && eqb (chunk_for k (suc q)) c) a.1 in
          let d = and_split (deep rs v q) (eqb (chunk_for k (suc q)) c) b.1 in
          (ltb-true q v.places a.0, b.0, d.0, eqb-true _ _ d.1)

  pub fits-tells : Tells (fits? rs v k) (Fits rs v k)
  unfolding fits?
  fits-tells = (there, back)
    where
      there : (every owner? k.many && every place? v.places) ≡ true → Fits rs v k
      there e =
          let s = and_split (every owner? k.many) (every place? v.places) e in
          let on : (c q : ℕ) → c < k.many → k.own c ≡ suc q → (q < v.places) × (v.live q ≡ true) × (deep rs v q ≡ true) × (chunk_for k (suc q) ≡ c)
          = λ c q l z. owner-right c q (every_true owner? k.many s.0 c l) z in
          record {
            lies = λ c q l z. ((on c q l z).0, (on c q l z).1, (on c q l z).2);
            has = λ q l u d. ltb-true _ _ (simp (u, d) at (every_true place? v.places s.1 q l));
            once = λ c q l z. (on c q l z).3;
          }

      back : Fits rs v k → (every owner? k.many && every place? v.places) ≡ true
      back f =
          both (true-every owner? k.many (λ c l. on c l (decided (eqb (k.own c) 0))))
          (true-every place? v.places (λ q l. has' q l (decided (v.live q)) (decided (deep rs v q))))
        where
          on : (c : ℕ) → c < k.many → (eqb (k.own c) 0 ≡ true) ⊎ (eqb (k.own c) 0 ≡ false) → owner? c ≡ true
          on c l (inl e) = rw e
          on c l (inr e) =
              let ne = eqb-false (k.own c) 0 e in
              let z : k.own c ≡ suc (k.own c - 1) = omega arith in
              let y = f.lies c (k.own c - 1) l z in
              rw (e, lt-ltb _ _ y.0, y.1, y.2) (eq-eqb _ _ (ap (chunk_for k) z ∙ f.once c (k.own c - 1) l z))

          has' : (q : ℕ) → q < v.places → (v.live q ≡ true) ⊎ (v.live q ≡ false) → (deep rs v q ≡ true) ⊎ (deep rs v q ≡ false) → place? q ≡ true
          has' q l (inr e) d = rw e
          has' q l (inl e) (inr d) = rw (e, d)
          has' q l (inl e) (inl d) = rw (e, d) (lt-ltb _ _ (f.has q l e d))

-- no fault, right sizes
pub sized_of : (g : Geometry) (l : Lent) → sizes_fault g l ≡ 0 → Sized g l
sized_of g l e = go (fault-is g l) e
  where
    go : {n : ℕ} → Fault g l n → n ≡ 0 → Sized g l
    go (none s) z = s
    go (limits h) z = absurd (omega arith)
    go (size v h) z = absurd (omega arith)

module _ (t : Table) (l : Lent) where
  true-rendered : sound? t l ≡ true → Rendered t l
  unfolding sound?
  true-rendered e =
      let a = and_split (eqb (sizes_fault t.geometry l) 0) _ e in
      let b = and_split (listed? l.list t.count) _ a.1 in
      let c = and_split (fits? _ _ _) _ b.1 in
      let d = and_split (fits? _ _ _) _ c.1 in
      let x = and_split (same l.first (as_asked t l).first) _ d.1 in
      let y = and_split (same l.second (as_asked t l).second) _ x.1 in
      let z = and_split (same l.third (as_asked t l).third) _ y.1 in
      let u = and_split (same l.long1 (as_asked t l).long1) _ z.1 in
      record {
        sized = sized_of t.geometry l (eqb-true _ _ a.0);
        listed = (listed-tells l.list t.count).0 b.0;
        fits2 = (fits-tells _ _ _).0 c.0;
        fits3 = (fits-tells _ _ _).0 d.0;
        is_first = same_true _ _ x.0;
        is_second = same_true _ _ y.0;
        is_third = same_true _ _ z.0;
        is_long1 = same_true _ _ u.0;
        is_long2 = same_true _ _ u.1;
      }

  rendered-true : Rendered t l → sound? t l ≡ true
  unfolding sound?
  rendered-true w =
      both (eq-eqb _ _ (none_is t.geometry l w.sized))
      (both ((listed-tells l.list t.count).1 w.listed)
      (both ((fits-tells _ _ _).1 w.fits2)
      (both ((fits-tells _ _ _).1 w.fits3)
      (both (true_same _ _ w.is_first)
      (both (true_same _ _ w.is_second)
      (both (true_same _ _ w.is_third)
      (both (true_same _ _ w.is_long1) (true_same _ _ w.is_long2))))))))

  -- Both ways through what is rendered: the test compares each array with that, and a table is sound exactly where it is that
  -- (proofs/places/Rendered.antt).
  pub sound-tells : Tells (sound? t l) (Sound t l)
  sound-tells = ((λ e. rendered-sound t l (true-rendered e)), (λ s. rendered-true (sound-rendered t l s)))
