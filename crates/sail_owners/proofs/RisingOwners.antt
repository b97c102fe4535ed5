-- In a load the numbers of the table's own chunks ascend with their owners: a chunk that is opened is the lowest free one, and those before it stay in
-- use, its own or another's. So a load in one pass looks at the last chunk that it opened alone. Routes come in order, so the place of the next route
-- comes after all that have a chunk, or is that of the last.
use mathlib.Core.Path.{◌≡◌, sym, ◌∙◌, ap, subst}
use mathlib.Core.Logic.{◌⊎◌, inl, inr, ◌≢◌}
use mathlib.Core.Bool.{true}
use mathlib.Core.List.Memᴰ
use mathlib.Core.List.{List, [], ◌∷◌, ◌++◌, Memᴰ}
use Prim.Native.Nat.{ℕ, suc, ◌+◌, ◌-◌, ◌*◌, ◌/◌, ◌^◌, ◌≤◌, ◌<◌}
use native.Mathlib.Omega.{arith}
use native.Mathlib.Nat.{mod-lt, div-add-mod', le_refl, eq-or-lt_of_le}
use lib.Arith.{digits_lt}
use lib.Dec.{ltb}
use lib.ListN.{get_or, length, set, get_or-eq_default}
use lib.Pow.{pow_pos, shr_mono}
use lib.Seq.{get_or-set_other, get_or-set_same}
use borrow.Author.Tests.{lt-ltb, le-ltb}
use Rattle.bits.specs.Slot.{slot}
use Rattle.bits.proofs.Bools.{equal?, below?}
use Rattle.routes.specs.Route.{key}
use Rattle.standing.specs.Standing.{insert}
use Rattle.routes.specs.declared.Route.{Route}
use Rattle.routes.proofs.Goods.{good-fine}
use Rattle.sail.specs.Level.{Level, chunks_of, top, below}
use Rattle.sail_theory.specs.Render.{find, Fits}
use Rattle.sail_theory.specs.Calls.{open_at}
use Rattle.sail_theory.proofs.owners.Chunks.{chunk-at, chunk-has, free-zero}
use Rattle.standing.proofs.ListParts.{insert-end}
use Rattle.sail_need.proofs.NeedPass.{long-top}
use Rattle.sail_theory.proofs.places.Places.{chunk-lt, live-owner, part_up}
use Rattle.sail_theory.proofs.owners.OpenAt.{OpenReady, open-keeps, open-fits, not-long}
use Rattle.sail_owners.specs.Owners.{open_from, Past, LastIs, MayOwn, stays, goes, Next, Step, none, hung, Taken}
use Rattle.sail_owners.proofs.Packs.{granted-had, granted-new}
use Rattle.sail_owners.proofs.Sights.{sight, length-sight, sight-own, find-sight, sight-open, sight-set}

-- of two chunks of the table's own the later has the larger owner
abbrev pub Rising : List ℕ → Type 0
Rising see = (c c' : ℕ) → c < c' → 1 ≤ get_or see c 0 → 1 ≤ get_or see c' 0 → get_or see c 0 < get_or see c' 0

inside : (own : List ℕ) (c x : ℕ) → get_or own c 0 ≡ suc x → c < length own
inside own c x e = go (below? c (length own))
  where
    go : (c < length own) ⊎ (length own ≤ c) → c < length own
    go (inl h) = h
    go (inr h) = absurd (omega (arith, get_or-eq_default own 0 h))

-- How far the pass over a pool has come, and what the table sees there: the m-th chunk is the last that it has.
pub record Reached (added : ℕ) (own : List ℕ) (m : ℕ) : Type 0 where
  pub past : Past own m
  pub rising : Rising (sight added own)
  pub none : (c : ℕ) → m ≤ c → get_or (sight added own) c 0 ≡ 0
  pub some : 0 < m → 1 ≤ get_or (sight added own) (m - 1) 0

-- Places rise with the cells that they stand for.
abbrev pub Rises : Level → Type 0
Rises v = (x y : ℕ) → x < v.places → y < v.places → v.live x ≡ true → v.live y ≡ true → v.at x ≤ v.at y → x ≤ y

pub top-rises : (p : ℕ) → Rises (top p)
top-rises p x y _ _ _ _ e = e

-- so they do below, where the owners rise
module _ (rs : List Route) (v : Level) (own : List ℕ) (p : ℕ) (f : Fits rs v (chunks_of own)) (rises : Rises v) (up : Rising own) (x y : ℕ)
    (lx : x < (below v (chunks_of own) p).places) (ly : y < (below v (chunks_of own) p).places)
    (ex : (below v (chunks_of own) p).live x ≡ true) (ey : (below v (chunks_of own) p).live y ≡ true)
    (le : (below v (chunks_of own) p).at x ≤ (below v (chunks_of own) p).at y) where
  abbrev d : ℕ
  d = p - v.bits

  -- the owner of the chunk of a place
  abbrev over : ℕ → ℕ
  over z = get_or own (z / 2 ^ d) 0

  owner-le : over x ≤ over y
  owner-le =
      let ox = live-owner v (chunks_of own) p x ex in
      let oy = live-owner v (chunks_of own) p y ey in
      let kx = f.lies _ _ (chunk-lt d (length own) x lx) ox in
      let ky = f.lies _ _ (chunk-lt d (length own) y ly) oy in
      let cells : v.at (over x - 1) ≤ v.at (over y - 1) = omega (arith, part_up v (chunks_of own) p x, part_up v (chunks_of own) p y, shr_mono d le) in
      omega (arith, ox, oy, rises _ _ kx.0 ky.0 kx.1 ky.1 cells)

  chunk-le : x / 2 ^ d ≤ y / 2 ^ d
  chunk-le = go (below? (y / 2 ^ d) (x / 2 ^ d))
    where
      go : (y / 2 ^ d < x / 2 ^ d) ⊎ (x / 2 ^ d ≤ y / 2 ^ d) → x / 2 ^ d ≤ y / 2 ^ d
      go (inr e) = e
      go (inl e) =
          let ox = live-owner v (chunks_of own) p x ex in
          let oy = live-owner v (chunks_of own) p y ey in
          absurd (omega (arith, up (y / 2 ^ d) (x / 2 ^ d) e (omega arith) (omega arith), owner-le))

  pub below-rises : x ≤ y
  below-rises = go (eq-or-lt_of_le chunk-le)
    where
      go : (x / 2 ^ d ≡ y / 2 ^ d) ⊎ (x / 2 ^ d < y / 2 ^ d) → x ≤ y
      go (inl e) =
          let same : v.at (over x - 1) * 2 ^ d ≡ v.at (over y - 1) * 2 ^ d = ap (λ (k : ℕ). v.at (get_or own k 0 - 1) * 2 ^ d) e in
          omega (arith, le, same, div-add-mod' x (2 ^ d), div-add-mod' y (2 ^ d), ap (λ (k : ℕ). k * 2 ^ d) e)
      go (inr l) = omega (arith, div-add-mod' x (2 ^ d), div-add-mod' y (2 ^ d), digits_lt l (mod-lt x (pow_pos d)))

-- One record more, after all others: r may be announced at the level, whose places rise, and of whose chunks the m-th is the table's last.
pub record Climbs (added : ℕ) (xs : List Route) (r : Route) (v : Level) (own : List ℕ) (m : ℕ) : Type 0 where
  pub ready : OpenReady xs r v (sight added own) (find own 0)
  pub small : ltb v.bits r.len ≡ true → suc (v.serving r.addr) < 2147483648
  pub last : (s : Route) → Memᴰ s xs → key s < key r
  pub rises : Rises v
  pub reached : Reached added own m

module _ (added : ℕ) (xs : List Route) (r : Route) (v : Level) (own : List ℕ) (m : ℕ) (w : Climbs added xs r v own m) where
  abbrev see : List ℕ
  see = sight added own

  abbrev q : ℕ
  q = v.serving r.addr

  -- the owner of its chunk
  abbrev o : ℕ
  o = added + suc q

  abbrev own' : List ℕ
  own' = open_from added v.bits q own r

  pub sighted : sight added own' ≡ open_at v see (find own 0) r
  sighted = sight-open added v own r w.small

  pub climbs-fits : Fits (insert r xs) v (chunks_of (sight added own'))
  climbs-fits = subst (λ (x : List ℕ). Fits (insert r xs) v (chunks_of x)) (sym sighted) (open-fits xs r v see (find own 0) w.ready)

  -- the lowest free chunk comes after all of the table's own
  free-after : m ≤ find own 0
  free-after = go (below? (find own 0) m)
    where
      go : (find own 0 < m) ⊎ (m ≤ find own 0) → m ≤ find own 0
      go (inl l) = absurd (w.reached.past.used (find own 0) l (free-zero own))
      go (inr l) = l

  upto : (s : Route) → Memᴰ s (xs ++ (r ∷ [])) → (key s ≤ key r) × (s.len ≤ 32)
  upto s k = go (Memᴰ.append_cases xs k)
    where
      go : Memᴰ s xs ⊎ Memᴰ s (r ∷ []) → (key s ≤ key r) × (s.len ≤ 32)
      go (inl k) = (omega (arith, w.last s k), (good-fine xs w.ready.good s k).prefix.len_ok)
      go (inr k) = let e = Memᴰ.eq_of_singleton k in (rw e (le_refl (key r)), rw e w.ready.fine.prefix.len_ok)

  module _ (h : v.bits < r.len) where
    longer : ltb v.bits r.len ≡ true
    longer = lt-ltb v.bits r.len h

    few : suc q < 2147483648
    few = w.small longer

    -- no place with a chunk lies after the route's
    topmost : (c x : ℕ) → get_or see c 0 ≡ suc x → x ≤ q
    topmost c x e =
        let e' = open-keeps xs r v see (find own 0) w.ready c x e in
        let k = (open-fits xs r v see (find own 0) w.ready).lies c x (inside (open_at v see (find own 0) r) c x e') e' in
        let s = w.ready.served longer in
        let deep = rw (insert-end r xs w.last) at k.2 in
        let le : v.at x ≤ slot v.bits r.addr = long-top r (xs ++ (r ∷ [])) v.bits (v.at x) w.ready.fine.prefix.len_ok upto deep in
        w.rises x q k.0 s.inside k.1 s.used (rw s.stands le)

    -- the chunk that hangs from q, if it is the last one opened
    had : LastIs own m o → suc (find own o) ≡ m
    had e =
        let is = sight-own added own (m - 1) q few e.is in
        let at = w.ready.fits.once (m - 1) q (inside see (m - 1) q is) is in
        omega (arith, find-sight added own q few, at, e.some)

    -- and if the last one hangs elsewhere, none hangs from q
    none-hangs : (LastIs own m o → ⊥) → length own ≤ find own o
    none-hangs n = go (below? (find own o) (length own))
      where
        c : ℕ
        c = find own (added + suc (v.serving r.addr))

        go : (find own o < length own) ⊎ (length own ≤ find own o) → length own ≤ find own o
        go (inr l) = l
        go (inl l) = absurd (at (below? c m) (equal? (suc c) m))
          where
            is : get_or own c 0 ≡ added + suc (v.serving r.addr)
            is = chunk-at (chunks_of own) (added + suc (v.serving r.addr)) l

            seen : get_or (sight added own) c 0 ≡ suc (v.serving r.addr)
            seen = sight-own added own c q few is

            at : (c < m) ⊎ (m ≤ c) → (suc c ≡ m) ⊎ (suc c ≢ m) → ⊥
            at (inr k) e = omega (arith, seen, w.reached.none c k)
            at (inl k) (inl e) = let x : m - 1 ≡ c = omega arith in n (record { some = omega arith; is = rw x is })
            at (inl k) (inr e) =
                let more = w.reached.some (omega arith) in
                let up = w.reached.rising c (m - 1) (omega arith) (omega (arith, seen)) more in
                let y : get_or (sight added own) (m - 1) 0 ≡ suc (get_or (sight added own) (m - 1) 0 - 1) = omega arith in
                omega (arith, seen, topmost (m - 1) _ y)

    -- then a chunk is free
    module _ (n : length own ≤ find own o) where
      unseen : length see ≤ find see (suc q)
      unseen = omega (arith, n, length-sight added own, find-sight added own q few)

      pub free : find own 0 < length own
      free =
          let k = w.ready.space longer (not-long xs r v see (find own 0) w.ready longer unseen) in
          omega (arith, k.0, length-sight added own)

      -- and the numbers still ascend
      set-rising : Rising (set see (find own 0) (suc q))
      set-rising c c' l a b = go (equal? c (find own 0)) (equal? c' (find own 0))
        where
          f : ℕ
          f = find own 0

          here : get_or (set see f (suc q)) f 0 ≡ suc q
          here = get_or-set_same see f (suc q) 0 (omega (arith, free, length-sight added own))

          go : (c ≡ find own 0) ⊎ (c ≢ find own 0) → (c' ≡ find own 0) ⊎ (c' ≢ find own 0)
              → get_or (set see (find own 0) (suc q)) c 0 < get_or (set see (find own 0) (suc q)) c' 0
          go (inl x) (inl y) = absurd (omega arith)
          go (inl x) (inr y) =
              absurd (omega (arith, b, get_or-set_other see f c' (suc q) 0 y, w.reached.none c' (let z = free-after in omega arith)))
          go (inr x) (inl y) =
              let old = get_or-set_other see f c (suc q) 0 x in
              let is : get_or see c 0 ≡ suc (get_or see c 0 - 1) = omega arith in
              let other : get_or see c 0 ≢ suc q = λ z. omega (arith, chunk-has (chunks_of see) (suc q) c z, inside see c q z, unseen) in
              let now : get_or (set see f (suc q)) c' 0 ≡ suc q = rw y here in
              omega (arith, old, now, topmost c _ is, other)
          go (inr x) (inr y) =
              let oldc = get_or-set_other see f c (suc q) 0 x in
              let oldc' = get_or-set_other see f c' (suc q) 0 y in
              omega (arith, oldc, oldc', w.reached.rising c c' l (omega arith) (omega arith))

    pub climbs-hangs : MayOwn own m o
    climbs-hangs = record {
      past = w.reached.past;
      some = omega arith;
      had = had;
      new = λ n. (free (none-hangs n), none-hangs n);
    }

  pub climbs-next : Next added v.bits q r m own
  climbs-next = record { past = w.reached.past; hangs = climbs-hangs }

  pub rise : Rising (sight added own')
  unfolding open_from
  rise = go (below? v.bits r.len) (below? (find own o) (length own))
    where
      go : (v.bits < r.len) ⊎ (r.len ≤ v.bits) → (find own o < length own) ⊎ (length own ≤ find own o) → Rising (sight added own')
      go (inr h) l = rw (le-ltb v.bits r.len h) w.reached.rising
      go (inl h) (inl l) = rw (lt-ltb v.bits r.len h, granted-had own o l) w.reached.rising
      go (inl h) (inr l) =
          rw (lt-ltb v.bits r.len h, granted-new own o l)
          (subst Rising (sym (sight-set added own (find own 0) q (few h))) (set-rising h l))

  -- then the last chunk opened is the table's last
  pub climbs-taken : (n : ℕ) (now : List ℕ) → Taken added v.bits q r own m n now → Reached added now n
  climbs-taken n now t = go t.step
    where
      up : Rising (sight added now)
      up = subst (λ (x : List ℕ). Rising (sight added x)) (sym t.is) rise

      same : now ≡ own → n ≡ m → Reached added now n
      same e f = record { past = t.past; rising = up; none = rw (e, f) w.reached.none; some = rw (e, f) w.reached.some }

      go : Step added v.bits q r own m now n → Reached added now n
      go (none _ e f) = same e f
      go (hung h (stays _ e f)) = same e f
      go (hung h (goes z e f)) =
          let none-q = none-hangs h z in
          let see' : sight added now ≡ set see (find own 0) (suc q) = ap (sight added) e ∙ sight-set added own (find own 0) q (few h) in
          let here = get_or-set_same see (find own 0) (suc q) 0 (omega (arith, free h none-q, length-sight added own)) in
          record {
            past = t.past;
            rising = up;
            none = λ c l.
                ap (λ (x : List ℕ). get_or x c 0) see' ∙ get_or-set_other see (find own 0) c (suc q) 0 (λ y. omega arith)
                ∙ w.reached.none c (let k = free-after in omega arith);
            some = λ _.
                let x : n - 1 ≡ find own 0 = omega arith in
                let at : get_or (set see (find own 0) (suc q)) (n - 1) 0 ≡ suc q = rw x here in
                omega (arith, ap (λ (x : List ℕ). get_or x (n - 1) 0) see', at);
          }

  pub climbs-below : (p : ℕ) (low : List ℕ) (n : ℕ) → OpenReady xs r (below v (chunks_of (sight added own')) p) (sight added low) (find low 0)
      → (ltb p r.len ≡ true → suc ((below v (chunks_of (sight added own')) p).serving r.addr) < 2147483648) → Reached added low n
      → Climbs added xs r (below v (chunks_of (sight added own')) p) low n
  climbs-below p low n ready small reached = record {
    ready = ready;
    small = small;
    last = w.last;
    rises = λ x y. below-rises (insert r xs) v (sight added own') p climbs-fits w.rises rise x y;
    reached = reached;
  }

-- before the first record no chunk is the table's
pub none-reached : (added : ℕ) (own : List ℕ) → ((c : ℕ) → get_or (sight added own) c 0 ≡ 0) → Reached added own 0
none-reached added own n = record {
  past = record { few = omega arith; used = λ j i. absurd (omega arith) };
  rising = λ c c' l a b. absurd (omega (arith, n c));
  none = λ c l. n c;
  some = λ h. absurd (omega arith);
}
