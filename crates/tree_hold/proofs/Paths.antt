-- The nodes of one path, and the routes with one more. With a route put in, the nodes that stand are those on its path too, down to its own,
-- and one prefix has another hop; taking the route out leads back.
use mathlib.Core.Path.{◌≡◌, refl, sym, ◌∙◌, ap, ap₂, subst, fun_ext}
use mathlib.Core.Logic.{◌⊎◌, inl, inr}
use mathlib.Core.Bool.{Bool, true, false, cond, ◌&&◌, ◌||◌, true≢false, or-true}
use mathlib.Core.List.Memᴰ
use mathlib.Core.List.{List, [], ◌∷◌, Memᴰ}
use Prim.Native.Nat.{ℕ, zero, suc, ◌+◌, ◌-◌, ◌*◌, ◌/◌, ◌%◌, ◌^◌, ◌≤◌, ◌<◌}
use native.Mathlib.Omega.{arith}
use lib.Dec.{eqb, leb, ltb}
use lib.ListN.{length}
use borrow.Author.Tests.{eq-eqb, eqb-true, le-leb, lt-leb, leb-true, lt-ltb, ltb-true}
use Rattle.bits.specs.Slot.{slot, cut}
use Rattle.bits.proofs.Slots.{slot-up, slot-zero, cut-slot}
use Rattle.bits.proofs.Bools.{decided, both, and_split, or_split, equal?, same, untrue}
use Rattle.routes.specs.Route.{key, key_of, Prefix, Fine, Good}
use Rattle.routes.specs.declared.Route.{Route}
use Rattle.routes.proofs.Goods.{good-fine, key-parts}
use Rattle.standing.specs.Cells.{here, or_else}
use Rattle.standing.specs.Standing.{is_at, stands, absent, stood, route_at, insert, remove}
use Rattle.standing.proofs.Standing.{one-prefix, insert-mem, insert-good, insert-stands, insert-but, remove-good, remove-stands, same-standing}
use Rattle.tree_image.specs.Image.{through, node_stands, hop_for, nodes, hops}
use Rattle.tree_image.proofs.Lies.{any-is, any-mem, found-any, hop-of}
use Rattle.tree_same.specs.Order.{stands_at}
use Rattle.tree_same.proofs.Back.{Shaped}
use Rattle.tree_same.proofs.Same.{at_listed}
use Rattle.tree_hold.specs.More.{also, down_to, with_hop}
use Rattle.tree_hold.proofs.Undone.{also-nodes, also-hops}

-- ---- the nodes of a path

module _ (st : ℕ → ℕ → Bool) (a : ℕ) (fits : a < 2 ^ 32) where
  down-still : (e m p : ℕ) → stands_at st m p ≡ true → stands_at (down_to st a e) m p ≡ true
  unfolding stands_at down_to
  down-still e zero p t = t
  down-still e (suc m) p t = rw t refl

  -- the path stands
  pub on-path : (e m : ℕ) → m ≤ e → stands_at (down_to st a e) m (slot (4 * m) a) ≡ true
  unfolding stands_at down_to
  on-path e zero l = eq-eqb (slot 0 a) 0 (slot-zero 0 a fits refl)
  on-path e (suc m) l = rw (le-leb (suc m) e l, eq-eqb (slot (4 * suc m) a) (slot (4 * suc m) a) refl) (or-true (st (suc m) (slot (4 * suc m) a)))

  path_parent : (m : ℕ) → m < 8 → slot (4 * suc m) a / 16 ≡ slot (4 * m) a
  path_parent m l = let e : 4 * suc m ≡ 4 * m + 4 = omega arith in ap (λ (x : ℕ). slot x a / 16) e ∙ slot-up (4 * m) 4 a (omega arith)

  pub path-child : (m : ℕ) → m < 8 → slot (4 * suc m) a ≡ slot (4 * m) a * 16 + slot (4 * suc m) a % 16
  path-child m l = omega (arith, path_parent m l)

  pub down-shaped : (hop : ℕ → ℕ → ℕ) (e : ℕ) → e ≤ 8 → Shaped st hop → Shaped (down_to st a e) hop
  unfolding down_to
  down-shaped hop e l f = record {
    agree = record {
      nine = λ q. rw (f.agree.nine q, lt-leb 9 e (omega arith)) refl;
      small = f.agree.small;
      told = λ m k q z u v w. rw (f.agree.told m k q z u v w) refl;
    };
    hopping = f.hopping;
    up = up;
  }
    where
      up : (m p : ℕ) → down_to st a e (suc m) p ≡ true → stands_at (down_to st a e) m (p / 16) ≡ true
      up m p t = go (or_split (st (suc m) p) (leb (suc m) e && eqb p (slot (4 * suc m) a)) t)
        where
          go : (st (suc m) p ≡ true) ⊎ ((leb (suc m) e && eqb p (slot (4 * suc m) a)) ≡ true) → stands_at (down_to st a e) m (p / 16) ≡ true
          go (inl s) = down-still e m (p / 16) (f.up m p s)
          go (inr s) =
              let k = and_split (leb (suc m) e) (eqb p (slot (4 * suc m) a)) s in
              let b = leb-true (suc m) e k.0 in
              let q : p / 16 ≡ slot (4 * m) a = ap (λ (x : ℕ). x / 16) (eqb-true p _ k.1) ∙ path_parent m (omega arith) in
              rw q (on-path e m (omega arith))

  -- one step down
  pub down-next : (e : ℕ) → also (down_to st a e) (suc e) (slot (4 * suc e) a) ≡ down_to st a (suc e)
  unfolding also down_to
  down-next e = fun_ext (λ m. fun_ext (λ p. same _ _ (λ t. into m p (or_split _ _ t)) (λ t. back m p (or_split _ _ t))))
    where
      into : (m p : ℕ) → ((st m p || (leb m e && eqb p (slot (4 * m) a))) ≡ true) ⊎ ((eqb m (suc e) && eqb p (slot (4 * suc e) a)) ≡ true)
          → (st m p || (leb m (suc e) && eqb p (slot (4 * m) a))) ≡ true
      into m p (inl t) = old (or_split (st m p) _ t)
        where
          old : (st m p ≡ true) ⊎ ((leb m e && eqb p (slot (4 * m) a)) ≡ true) → (st m p || (leb m (suc e) && eqb p (slot (4 * m) a))) ≡ true
          old (inl s) = rw s refl
          old (inr s) =
              let k = and_split (leb m e) (eqb p (slot (4 * m) a)) s in
              rw (le-leb m (suc e) (omega (arith, leb-true m e k.0)), k.1) (or-true (st m p))
      into m p (inr t) =
          let k = and_split (eqb m (suc e)) (eqb p (slot (4 * suc e) a)) t in
          let q = eqb-true m (suc e) k.0 in
          rw (le-leb m (suc e) (omega arith), q, k.1) (or-true (st (suc e) p))

      back : (m p : ℕ) → (st m p ≡ true) ⊎ ((leb m (suc e) && eqb p (slot (4 * m) a)) ≡ true)
          → ((st m p || (leb m e && eqb p (slot (4 * m) a))) || (eqb m (suc e) && eqb p (slot (4 * suc e) a))) ≡ true
      back m p (inl t) = rw t refl
      back m p (inr t) = at (equal? m (suc e))
        where
          k : (leb m (suc e) ≡ true) × (eqb p (slot (4 * m) a) ≡ true)
          k = and_split (leb m (suc e)) (eqb p (slot (4 * m) a)) t

          at : (m ≡ suc e) ⊎ (m ≡ suc e → ⊥) → ((st m p || (leb m e && eqb p (slot (4 * m) a))) || (eqb m (suc e) && eqb p (slot (4 * suc e) a))) ≡ true
          at (inl q) =
              let s : eqb p (slot (4 * suc e) a) ≡ true = subst (λ (x : ℕ). eqb p (slot (4 * x) a) ≡ true) q k.1 in
              rw (eq-eqb m (suc e) q, s) (or-true (st m p || (leb m e && eqb p (slot (4 * m) a))))
          at (inr n) = rw (le-leb m e (omega (arith, leb-true m (suc e) k.0, n)), k.1, or-true (st m p)) refl

  -- nothing below it stands, where a node of the path does not
  pub absent-below : (hop : ℕ → ℕ → ℕ) → Shaped st hop → (e d : ℕ) → e + d < 8 → st (suc e) (slot (4 * suc e) a) ≡ false → st (suc (e + d))
      (slot (4 * suc (e + d)) a) ≡ false
  unfolding stands_at
  absent-below hop f e zero l t = let q : e + 0 ≡ e = omega arith in rw q t
  absent-below hop f e (suc d) l t =
      let q : e + suc d ≡ suc (e + d) = omega arith in
      rw q (untrue _ (λ s. true≢false (sym (above s) ∙ absent-below hop f e d (omega arith) t)))
    where
      above : st (suc (suc (e + d))) (slot (4 * suc (suc (e + d))) a) ≡ true → st (suc (e + d)) (slot (4 * suc (e + d)) a) ≡ true
      above s = subst (λ (x : ℕ). st (suc (e + d)) x ≡ true) (path_parent (suc (e + d)) (omega arith)) (f.up (suc (e + d)) (slot (4 * suc (suc (e + d))) a) s)

  -- the node below does not stand in what goes down to here either
  pub down-absent : (e : ℕ) → st (suc e) (slot (4 * suc e) a) ≡ false → down_to st a e (suc e) (slot (4 * suc e) a) ≡ false
  unfolding down_to
  down-absent e t = rw (t, lt-leb (suc e) e (omega arith)) refl

  -- each step is one node more, and the hops stay
  pub down-grows : (hop : ℕ → ℕ → ℕ) → Shaped st hop → (e d : ℕ) → e + d ≤ 8 → st (suc e) (slot (4 * suc e) a) ≡ false
      → (length (nodes (down_to st a (e + d))) ≡ length (nodes (down_to st a e)) + d) × (hops (down_to st a (e + d)) hop ≡ hops (down_to st a e) hop)
  down-grows hop f e zero l t = let q : e + 0 ≡ e = omega arith in (rw q (omega arith), rw q refl)
  down-grows hop f e (suc d) l t =
      let q : e + suc d ≡ suc (e + d) = omega arith in
      let ih = down-grows hop f e d (omega arith) t in
      let s = step (e + d) (omega arith) (absent-below hop f e d (omega arith) t) in
      (rw q (omega (arith, s.0, ih.0)), rw q (s.1 ∙ ih.1))
    where
      step : (i : ℕ) → i < 8 → st (suc i) (slot (4 * suc i) a) ≡ false
          → (length (nodes (down_to st a (suc i))) ≡ length (nodes (down_to st a i)) + 1) × (hops (down_to st a (suc i)) hop ≡ hops (down_to st a i) hop)
      step i u z =
          let c : ℕ = slot (4 * suc i) a % 16 in
          let p : ℕ = slot (4 * i) a in
          let pc = path-child i u in
          let w = down-shaped hop i (omega arith) f in
          let y : down_to st a i (suc i) (slot (4 * i) a * 16 + slot (4 * suc i) a % 16) ≡ false = rw (← pc) (down-absent i z) in
          let g : also (down_to st a i) (suc i) (slot (4 * i) a * 16 + slot (4 * suc i) a % 16) ≡ down_to st a (suc i) = ap
          (also (down_to st a i) (suc i)) (sym pc) ∙ down-next i in
          let on = on-path i i (omega arith) in (
            subst (λ (k : ℕ → ℕ → Bool). length (nodes k) ≡ length (nodes (down_to st a i)) + 1) g
                (also-nodes i (slot (4 * i) a) (slot (4 * suc i) a % 16) w u (omega arith) on y),
            subst (λ (k : ℕ → ℕ → Bool). hops k hop ≡ hops (down_to st a i) hop) g
                (also-hops i (slot (4 * i) a) (slot (4 * suc i) a % 16) w u (omega arith) on y),
          )

  -- where the path stands by itself, nothing is added but the root
  pub down-same : (e : ℕ) → ((m : ℕ) → m < e → st (suc m) (slot (4 * suc m) a) ≡ true) → (m p : ℕ) → down_to st a e (suc m) p ≡ st (suc m) p
  unfolding down_to
  down-same e h m p = same _ _ (λ t. go (or_split (st (suc m) p) _ t)) (λ t. rw t refl)
    where
      go : (st (suc m) p ≡ true) ⊎ ((leb (suc m) e && eqb p (slot (4 * suc m) a)) ≡ true) → st (suc m) p ≡ true
      go (inl s) = s
      go (inr s) = let k = and_split (leb (suc m) e) (eqb p (slot (4 * suc m) a)) s in rw (eqb-true p _ k.1) (h m (leb-true (suc m) e k.0))

-- the nodes above one that stands on the path stand
pub path-stands : (st : ℕ → ℕ → Bool) (hop : ℕ → ℕ → ℕ) (a : ℕ) → a < 2 ^ 32 → Shaped st hop → (e m : ℕ) → e < 8 → st (suc e) (slot (4 * suc e) a)
    ≡ true → m < suc e
    → st (suc m) (slot (4 * suc m) a) ≡ true
path-stands st hop a fits f e m l t u = go (decided (st (suc m) (slot (4 * suc m) a)))
  where
    go : (st (suc m) (slot (4 * suc m) a) ≡ true) ⊎ (st (suc m) (slot (4 * suc m) a) ≡ false) → st (suc m) (slot (4 * suc m) a) ≡ true
    go (inl s) = s
    go (inr s) =
        let q : m + (e - m) ≡ e = omega arith in
        absurd (true≢false (sym t ∙ subst (λ (x : ℕ). st (suc x) (slot (4 * suc x) a) ≡ false) q (absent-below st a fits hop f m (e - m) (omega arith) s)))

-- ---- a route put in

insert-listed : (r : Route) (rs : List Route) → Memᴰ r (insert r rs)
unfolding insert
insert-listed r [] = Memᴰ.head refl
insert-listed r (s ∷ ss) = go (ltb (key r) (key s)) (eqb (key s) (key r)) (insert-listed r ss)
  where
    go : (x y : Bool) → Memᴰ r (insert r ss) → Memᴰ r (cond x (r ∷ s ∷ ss) (cond y (r ∷ ss) (s ∷ insert r ss)))
    go true y m = Memᴰ.head refl
    go false true m = Memᴰ.head refl
    go false false m = Memᴰ.tail m

-- a route of the list is still there, or has the prefix of the new one
insert-keeps : (r : Route) (rs : List Route) (s : Route) → Memᴰ s rs → (key s ≡ key r) ⊎ Memᴰ s (insert r rs)
unfolding insert
insert-keeps r [] s m = absurd (Memᴰ.not-nil m)
insert-keeps r (t ∷ ts) s m = go (ltb (key r) (key t)) (decided (eqb (key t) (key r))) (Memᴰ.cases_cons m) (insert-keeps r ts s)
  where
    after : (key s ≡ key r) ⊎ Memᴰ s (insert r ts) → (key s ≡ key r) ⊎ Memᴰ s (t ∷ insert r ts)
    after (inl e) = inl e
    after (inr k) = inr (Memᴰ.tail k)

    go : (x : Bool) → (eqb (key t) (key r) ≡ true) ⊎ (eqb (key t) (key r) ≡ false) → (s ≡ t) ⊎ Memᴰ s ts
        → (Memᴰ s ts → (key s ≡ key r) ⊎ Memᴰ s (insert r ts))
        → (key s ≡ key r) ⊎ Memᴰ s (cond x (r ∷ t ∷ ts) (cond (eqb (key t) (key r)) (r ∷ ts) (t ∷ insert r ts)))
    go true y k ih = inr (Memᴰ.tail m)
    go false (inl y) (inl k) ih = inl (ap key k ∙ eqb-true (key t) (key r) y)
    go false (inl y) (inr k) ih = rw y (inr (Memᴰ.tail k))
    go false (inr y) (inl k) ih = rw y (inr (Memᴰ.head k))
    go false (inr y) (inr k) ih = rw y (after (ih k))

module _ (r : Route) (rs : List Route) (f : Fine r) (g : Good rs) where
  -- the nodes on its path stand too, down to its own
  pub insert-nodes : node_stands (insert r rs) ≡ down_to (node_stands rs) r.addr (r.len / 4)
  unfolding down_to
  insert-nodes = fun_ext (λ m. fun_ext (λ p. either m p ∙ turned m p))
    where
      either : (m p : ℕ) → node_stands (insert r rs) m p ≡ (through m p r || node_stands rs m p)
      either m p = same _ _ (λ t. into (any-is (through m p) (insert r rs) t)) (λ t. back (or_split (through m p r) (node_stands rs m p) t))
        where
          into : (s : Route) × Memᴰ s (insert r rs) × (through m p s ≡ true) → (through m p r || node_stands rs m p) ≡ true
          into w = at (insert-mem r rs w.0 w.1)
            where
              at : (w.0 ≡ r) ⊎ Memᴰ w.0 rs → (through m p r || node_stands rs m p) ≡ true
              at (inl e) = rw (ap (through m p) (sym e) ∙ w.2) refl
              at (inr k) = rw (any-mem (through m p) rs w.0 k w.2) (or-true (through m p r))

          listed : through m p r ≡ true → node_stands (insert r rs) m p ≡ true
          listed t = any-mem (through m p) (insert r rs) r (insert-listed r rs) t

          back : (through m p r ≡ true) ⊎ (node_stands rs m p ≡ true) → node_stands (insert r rs) m p ≡ true
          back (inl t) = listed t
          back (inr t) = let w = any-is (through m p) rs t in at w.0 w.1 w.2 (insert-keeps r rs w.0 w.1)
            where
              at : (s : Route) → Memᴰ s rs → through m p s ≡ true → (key s ≡ key r) ⊎ Memᴰ s (insert r rs) → node_stands (insert r rs) m p ≡ true
              at s i u (inl e) =
                  let o = one-prefix r s f (good-fine rs g s i) e in
                  listed (ap₂ (λ (x y : ℕ). leb (4 * m) y && eqb (slot (4 * m) x) p) (sym o.0) (sym o.1) ∙ u)
              at s i u (inr k) = any-mem (through m p) (insert r rs) s k u

      turned : (m p : ℕ) → (through m p r || node_stands rs m p) ≡ (node_stands rs m p || (leb m (r.len / 4) && eqb p (slot (4 * m) r.addr)))
      turned m p = same _ _ (λ t. into (or_split (through m p r) _ t)) (λ t. back (or_split (node_stands rs m p) _ t))
        where
          into : (through m p r ≡ true) ⊎ (node_stands rs m p ≡ true) → (node_stands rs m p || (leb m (r.len / 4) && eqb p (slot (4 * m) r.addr))) ≡ true
          into (inl t) =
              let k = and_split (leb (4 * m) r.len) (eqb (slot (4 * m) r.addr) p) t in
              rw (
                le-leb m (r.len / 4) (omega (arith, leb-true (4 * m) r.len k.0)),
                eq-eqb p (slot (4 * m) r.addr)
                    (sym (eqb-true _ p k.1)),
              ) (or-true (node_stands rs m p))
          into (inr t) = rw t refl

          back : (node_stands rs m p ≡ true) ⊎ ((leb m (r.len / 4) && eqb p (slot (4 * m) r.addr)) ≡ true) → (through m p r || node_stands rs m p) ≡ true
          back (inl t) = rw t (or-true (through m p r))
          back (inr t) =
              let k = and_split (leb m (r.len / 4)) (eqb p (slot (4 * m) r.addr)) t in
              rw (le-leb (4 * m) r.len (omega (arith, leb-true m (r.len / 4) k.0)), eq-eqb (slot (4 * m) r.addr) p (sym (eqb-true p _ k.1))) refl

  -- its prefix has its hop
  pub insert-hops : hop_for (insert r rs) ≡ with_hop (hop_for rs) r.len (slot r.len r.addr) r.hop
  unfolding with_hop
  insert-hops = fun_ext (λ l. fun_ext (λ q. go l q (decided (eqb l r.len && eqb q (slot r.len r.addr)))))
    where
      go : (l q : ℕ) → ((eqb l r.len && eqb q (slot r.len r.addr)) ≡ true) ⊎ ((eqb l r.len && eqb q (slot r.len r.addr)) ≡ false)
          → hop_for (insert r rs) l q ≡ cond (eqb l r.len && eqb q (slot r.len r.addr)) r.hop (hop_for rs l q)
      go l q (inl t) =
          let k = and_split (eqb l r.len) (eqb q (slot r.len r.addr)) t in
          let a = eqb-true l r.len k.0 in
          let b = eqb-true q (slot r.len r.addr) k.1 in
          rw t (hop-of l q (insert r rs) r (insert-good r rs f g) (insert-listed r rs)
          (both (eq-eqb r.len l (sym a)) (eq-eqb (slot l r.addr) q (ap (λ (x : ℕ). slot x r.addr) a ∙ sym b))))
      go l q (inr t) =
          rw t
          (ap (λ (x : ℕ). or_else x 0)
          (sym ((insert-but r rs f g).same_first (here l q) (λ s a b. untrue (here l q s) (λ u.
          let k = and_split (eqb s.len l) (eqb (slot l s.addr) q) u in
          let x = eqb-true s.len l k.0 in
          let y = eqb-true (slot l s.addr) q k.1 in
          let z : l ≡ r.len = sym x ∙ b in
          true≢false (sym (both (eq-eqb l r.len z) (eq-eqb q (slot r.len r.addr) (sym y ∙ ap₂ slot z a))) ∙ t))))))

-- ---- a route of the list, taken out and put in again

module _ (rs : List Route) (g : Good rs) (r : Route) (listed : Memᴰ r rs) where
  pub put-again : insert r (remove (key r) rs) ≡ rs
  put-again =
      same-standing (insert r (remove (key r) rs)) rs (insert-good r (remove (key r) rs) (good-fine rs g r listed) (remove-good (key r) rs g)) g
      (λ k. insert-stands k r (remove (key r) rs) ∙ ap (cond (eqb (key r) k) (stood r)) (remove-stands (key r) k rs) ∙ go k (decided (eqb (key r) k)))
    where
      go : (k : ℕ) → (eqb (key r) k ≡ true) ⊎ (eqb (key r) k ≡ false) → cond (eqb (key r) k) (stood r) (cond (eqb (key r) k) absent (route_at k rs))
          ≡ route_at k rs
      go k (inl t) = rw t (sym (subst (λ (x : ℕ). route_at x rs ≡ stood r) (eqb-true (key r) k t) (at_listed rs g r listed)))
      go k (inr t) = rw t refl

-- the route of a prefix that stands
pub stands-is : (k : ℕ) (rs : List Route) → stands k rs ≡ true → (r : Route) × Memᴰ r rs × (key r ≡ k)
stands-is k rs t = let f = any-is (is_at k) rs t in (f.0, f.1, eqb-true (key f.0) k f.2)

-- a prefix stands exactly when it has a hop
pub stands-hop : (a l : ℕ) (rs : List Route) → Prefix a l → Good rs → stands (key_of a l) rs ≡ ltb 0 (hop_for rs l (slot l a))
stands-hop a l rs p g = same _ _ (λ t. into (stands-is (key_of a l) rs t))
    (λ t. back (any-is (here l (slot l a)) rs (found-any (here l (slot l a)) rs (ltb-true 0 _ t))))
  where
    into : (r : Route) × Memᴰ r rs × (key r ≡ key_of a l) → ltb 0 (hop_for rs l (slot l a)) ≡ true
    into w =
        let f = good-fine rs g w.0 w.1 in
        let k = key-parts w.0.addr w.0.len a l f.prefix.len_ok p.len_ok w.2 in
        let h = hop-of l (slot l a) rs w.0 g w.1 (both (eq-eqb w.0.len l k.1) (eq-eqb (slot l w.0.addr) (slot l a) (ap (slot l) k.0))) in
        lt-ltb 0 (hop_for rs l (slot l a)) (omega (arith, h, f.hop_one))

    back : (r : Route) × Memᴰ r rs × (here l (slot l a) r ≡ true) → stands (key_of a l) rs ≡ true
    back w =
        let f = good-fine rs g w.0 w.1 in
        let k = and_split (eqb w.0.len l) (eqb (slot l w.0.addr) (slot l a)) w.2 in
        let x = eqb-true w.0.len l k.0 in
        let c : cut l w.0.addr ≡ w.0.addr = subst (λ (n : ℕ). cut n w.0.addr ≡ w.0.addr) x f.prefix.clear in
        let y : w.0.addr ≡ a = sym c ∙ cut-slot l w.0.addr a p.clear (eqb-true _ _ k.1) in
        any-mem (is_at (key_of a l)) rs w.0 w.1 (eq-eqb (key w.0) (key_of a l) (ap₂ key_of y x))
