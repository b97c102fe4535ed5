-- How many nodes the routes need with a prefix more, and that they need no more with one less.
use mathlib.Core.Path.{◌≡◌, refl, sym, ◌∙◌, ap, ap₂, subst, fun_ext}
use mathlib.Core.Logic.{◌⊎◌, inl, inr}
use mathlib.Core.Bool.{Bool, true, false, ◌&&◌, ◌||◌, or-true}
use mathlib.Core.List.{List, Memᴰ}
use Prim.Native.Nat.{ℕ, zero, suc, ◌+◌, ◌-◌, ◌*◌, ◌/◌, ◌^◌, ◌≤◌, ◌<◌}
use native.Mathlib.Numerals.{add-one}
use native.Mathlib.Omega.{arith}
use lib.Dec.{eqb, leb}
use lib.ListN.{length, get_or}
use lib.Seq.{ext_get_or}
use borrow.Author.Tests.{le-leb, leb-true, eq-eqb, eqb-true}
use Rattle.bits.specs.Slot.{slot}
use Rattle.bits.proofs.Slots.{slot-zero}
use Rattle.bits.proofs.Bools.{decided, and_split, or_split, equal?, below?, same}
use Rattle.routes.specs.Route.{key, Fine, Good}
use Rattle.routes.specs.declared.Route.{Route}
use Rattle.routes.proofs.Goods.{good-fine, key-parts}
use Rattle.standing.specs.Standing.{stands, insert, remove}
use Rattle.standing.proofs.Standing.{remove-good}
use Rattle.tree_image.specs.Image.{nodes, hops, image_by, through, node_stands, hop_for, node_need}
use Rattle.tree_image.specs.Parts.{zero_padded}
use Rattle.tree_image.proofs.Holds.{pad-at}
use Rattle.tree_image.proofs.Lies.{any-mem, pass-make}
use Rattle.tree_same.specs.Order.{ints, stands_at}
use Rattle.tree_same.specs.Holding.{Holding}
use Rattle.tree_same.specs.Listed.{routes_held}
use Rattle.tree_same.proofs.Back.{Shaped}
use Rattle.tree_same.proofs.Same.{fits}
use Rattle.tree_same.proofs.Holdings.{nodes-are, hops-are, holds-image, image-holding}
use Rattle.tree_hold.specs.More.{down_to}
use Rattle.tree_hold.proofs.Holds.{holding-same}
use Rattle.tree_hold.proofs.Paths.{down-shaped, down-grows, down-same, insert-nodes, put-again, stands-is}
use Rattle.tree_theory.specs.Changed.{unmarked_route}
use Rattle.tree_theory.specs.Stages.{New}
use Rattle.tree_theory.proofs.Places.{shaped, way-stands, way-absent}
use Rattle.tree_theory.proofs.Midways.{down-any}

module _ (st : ℕ → ℕ → Bool) (hop : ℕ → ℕ → ℕ) (a : ℕ) (small : a < 2 ^ 32) (f : Shaped st hop) where
  -- a node that stands is not added
  idle : (e : ℕ) → st (suc e) (slot (4 * suc e) a) ≡ true → down_to st a (suc e) ≡ down_to st a e
  unfolding down_to
  idle e t = fun_ext (λ m. fun_ext (λ p. same _ _ (λ s. into m p (or_split (st m p) _ s)) (λ s. back m p (or_split (st m p) _ s))))
    where
      into : (m p : ℕ) → (st m p ≡ true) ⊎ ((leb m (suc e) && eqb p (slot (4 * m) a)) ≡ true) → (st m p || (leb m e && eqb p (slot (4 * m) a))) ≡ true
      into m p (inl s) = rw s refl
      into m p (inr s) = at (equal? m (suc e)) (and_split (leb m (suc e)) (eqb p (slot (4 * m) a)) s)
        where
          at : (m ≡ suc e) ⊎ (m ≡ suc e → ⊥) → (leb m (suc e) ≡ true) × (eqb p (slot (4 * m) a) ≡ true) → (st m p || (leb m e && eqb p (slot (4 * m) a))) ≡ true
          at (inl q) k =
              let v : p ≡ slot (4 * suc e) a = eqb-true p (slot (4 * m) a) k.1 ∙ ap (λ (z : ℕ). slot (4 * z) a) q in
              rw (ap₂ st q v ∙ t) refl
          at (inr q) k = rw (le-leb m e (omega (arith, leb-true m (suc e) k.0, q)), k.1) (or-true (st m p))

      back : (m p : ℕ) → (st m p ≡ true) ⊎ ((leb m e && eqb p (slot (4 * m) a)) ≡ true) → (st m p || (leb m (suc e) && eqb p (slot (4 * m) a))) ≡ true
      back m p (inl s) = rw s refl
      back m p (inr s) =
          let k = and_split (leb m e) (eqb p (slot (4 * m) a)) s in
          rw (le-leb m (suc e) (omega (arith, leb-true m e k.0)), k.1) (or-true (st m p))

  more : (e : ℕ) → e < 8 → length (nodes (down_to st a e)) ≤ length (nodes (down_to st a (suc e)))
  more e l = go (decided (st (suc e) (slot (4 * suc e) a)))
    where
      go : (st (suc e) (slot (4 * suc e) a) ≡ true) ⊎ (st (suc e) (slot (4 * suc e) a) ≡ false)
          → length (nodes (down_to st a e)) ≤ length (nodes (down_to st a (suc e)))
      go (inl t) = omega (arith, ap (λ (s : ℕ → ℕ → Bool). length (nodes s)) (idle e t))
      go (inr t) = omega (arith, (down-grows st a small hop f e 1 (omega arith) t).0, ap (λ (z : ℕ). length (nodes (down_to st a z))) (add-one e))

  -- the root is a node in any case
  pub root-count : length (nodes (down_to st a 0)) ≡ length (nodes st)
  root-count =
      let h = image-holding st hop f (3 * length (nodes st)) (length (hops st hop)) (omega arith) (omega arith) in
      let o = holding-same st (down_to st a 0) hop (λ i p. sym (down-same st a small 0 (λ j v. absurd (omega arith)) i p)) h in
      sym (nodes-are (down_to st a 0) hop _ _ _ (down-shaped st a small hop 0 (omega arith) f).agree.nine o)

  pub down-most : (e : ℕ) → e ≤ 8 → length (nodes st) ≤ length (nodes (down_to st a e))
  down-most zero l = omega (arith, root-count)
  down-most (suc e) l = omega (arith, down-most e (omega arith), more e l)

-- arrays that hold two sets of nodes and hops hold the same hops
same-list : (xs ys : List ℕ) (n : ℕ) → length xs ≡ length ys → zero_padded n xs ≡ zero_padded n ys → xs ≡ ys
same-list xs ys n e f = ext_get_or 0 xs ys e (λ j u. sym (pad-at n xs j u) ∙ ap (λ (l : List ℕ). get_or l j 0) f ∙ pad-at n ys j (omega arith))

pub hops-shared : {st st₁ : ℕ → ℕ → Bool} {hop hop₁ : ℕ → ℕ → ℕ} {ws hs : List ℕ} {n m : ℕ} → ((p : ℕ) → st 9 p ≡ false) → ((p : ℕ) → st₁ 9 p ≡ false)
    → Holding st hop ws hs n → Holding st₁ hop₁ ws hs m → n ≡ m → hops st hop ≡ hops st₁ hop₁
unfolding image_by
hops-shared {st} {st₁} {hop} {hop₁} {ws} {hs} {n} {m} a b h k e =
    same-list (hops st hop) (hops st₁ hop₁) (length hs)
    (sym (hops-are st hop ws hs n a h) ∙ ap (ints ws) e ∙ hops-are st₁ hop₁ ws hs m b k)
    (sym (holds-image st hop ws hs n a h).1 ∙ (holds-image st₁ hop₁ ws hs m b k).1)

-- no path adds a hop
module _ (st : ℕ → ℕ → Bool) (hop : ℕ → ℕ → ℕ) (a : ℕ) (small : a < 2 ^ 32) (f : Shaped st hop) where
  pub down-hops : (e : ℕ) → e ≤ 8 → hops (down_to st a e) hop ≡ hops st hop
  down-hops zero l =
      let h = image-holding st hop f (3 * length (nodes st)) (length (hops st hop)) (omega arith) (omega arith) in
      let o = holding-same st (down_to st a 0) hop (λ i p. sym (down-same st a small 0 (λ j v. absurd (omega arith)) i p)) h in
      hops-shared (down-shaped st a small hop 0 l f).agree.nine f.agree.nine o h refl
  down-hops (suc e) l = go (decided (st (suc e) (slot (4 * suc e) a))) (down-hops e (omega arith))
    where
      go : (st (suc e) (slot (4 * suc e) a) ≡ true) ⊎ (st (suc e) (slot (4 * suc e) a) ≡ false) → hops (down_to st a e) hop ≡ hops st hop
          → hops (down_to st a (suc e)) hop ≡ hops st hop
      go (inl t) ih = ap (λ (s : ℕ → ℕ → Bool). hops s hop) (idle st hop a small f e t) ∙ ih
      go (inr t) ih = ap (λ (z : ℕ). hops (down_to st a z) hop) (sym (add-one e)) ∙ (down-grows st a small hop f e 1 (omega arith) t).1 ∙ ih

-- a path that stands adds no node
pub stood-nodes : (st : ℕ → ℕ → Bool) (hop : ℕ → ℕ → ℕ) (a m : ℕ) → a < 2 ^ 32 → m ≤ 8 → Shaped st hop → stands_at st m (slot (4 * m) a) ≡ true
    → length (nodes (down_to st a m)) ≡ length (nodes st)
stood-nodes st hop a m small l f t =
    let h = image-holding st hop f (3 * length (nodes st)) (length (hops st hop)) (omega arith) (omega arith) in
    sym (nodes-are (down_to st a m) hop _ _ _ (down-shaped st a small hop m l f).agree.nine (down-any st hop a m small l f t h))

-- a route in the place of the one of its prefix needs the same nodes
pub same_nodes : (r : Route) (rs : List Route) → Fine r → Good rs → stands (key r) rs ≡ true → node_need (insert r rs) ≡ node_need rs
unfolding stands_at
same_nodes r rs f g t =
    ap (λ (s : ℕ → ℕ → Bool). length (nodes s)) (insert-nodes r rs f g)
    ∙ stood-nodes (node_stands rs) (hop_for rs) r.addr (r.len / 4) f.prefix.addr_ok (omega (arith, f.prefix.len_ok)) (fits rs g)
    (its-path (r.len / 4) refl (stands-is (key r) rs t))
  where
    its-path : (m : ℕ) → r.len / 4 ≡ m → (s : Route) × Memᴰ s rs × (key s ≡ key r) → stands_at (node_stands rs) m (slot (4 * m) r.addr) ≡ true
    its-path zero e w = eq-eqb (slot 0 r.addr) 0 (slot-zero 0 r.addr f.prefix.addr_ok refl)
    its-path (suc m) e w =
        let o = good-fine rs g w.0 w.1 in
        let k = key-parts w.0.addr w.0.len r.addr r.len o.prefix.len_ok f.prefix.len_ok w.2 in
        any-mem (through (suc m) (slot (4 * suc m) r.addr)) rs w.0 w.1
        (pass-make (suc m) (slot (4 * suc m) r.addr) w.0 (omega (arith, k.1)) (ap (slot (4 * suc m)) k.0))

-- one route less needs no more nodes
pub fewer-nodes : (k : ℕ) (rs : List Route) → Good rs → stands k rs ≡ true → node_need (remove k rs) ≤ node_need rs
fewer-nodes k rs g t = go (stands-is k rs t)
  where
    go : (s : Route) × Memᴰ s rs × (key s ≡ k) → node_need (remove k rs) ≤ node_need rs
    go w =
        let f = good-fine rs g w.0 w.1 in
        let q : insert w.0 (remove k rs) ≡ rs = ap (λ (z : ℕ). insert w.0 (remove z rs)) (sym w.2) ∙ put-again rs g w.0 w.1 in
        let d = remove-good k rs g in
        let e : node_stands rs ≡ down_to (node_stands (remove k rs)) w.0.addr (w.0.len / 4) =
        ap node_stands (sym q) ∙ insert-nodes w.0 (remove k rs) f d in
        omega (
          arith,
          ap (λ (s : ℕ → ℕ → Bool). length (nodes s)) e,
          down-most (node_stands (remove k rs)) (hop_for (remove k rs)) w.0.addr f.prefix.addr_ok (fits (remove k rs) d) (w.0.len / 4)
              (omega (arith, f.prefix.len_ok)),
        )

-- the nodes that the path of a new prefix lacks
pub new-need : {ws hs : List ℕ} {n k x m a len h b : ℕ} → New ws hs n k x m a len h b → node_need (insert (unmarked_route a len h) (routes_held ws hs))
    ≡ n + (len / 4 - m)
new-need {ws} {hs} {n} {k} {x} {m} {a} {len} {h} {b} r =
    ap (λ (s : ℕ → ℕ → Bool). length (nodes s)) (insert-nodes (unmarked_route a len h) (routes_held ws hs) r.fine r.found.good) ∙ go (below? m (len / 4))
  where
    small : a < 2 ^ 32
    small = r.fine.prefix.addr_ok

    up : m ≤ len / 4
    up = r.way.upto

    short : len ≤ 32
    short = r.fine.prefix.len_ok

    now : length (nodes (down_to (node_stands (routes_held ws hs)) a m)) ≡ n
    now =
        sym (nodes-are (down_to (node_stands (routes_held ws hs)) a m) (hop_for (routes_held ws hs)) ws hs n
        (down-shaped (node_stands (routes_held ws hs)) a small (hop_for (routes_held ws hs)) m (omega (arith, up, short)) (shaped r.found)).agree.nine
        (down-any (node_stands (routes_held ws hs)) (hop_for (routes_held ws hs)) a m small (omega (arith, up, short)) (shaped r.found)
        (way-stands r.found small r.way) r.found.holds))

    go : (m < len / 4) ⊎ (len / 4 ≤ m) → length (nodes (down_to (node_stands (routes_held ws hs)) a (len / 4))) ≡ n + (len / 4 - m)
    go (inl l) =
        let e : m + (len / 4 - m) ≡ len / 4 = omega arith in
        let d =
        (down-grows (node_stands (routes_held ws hs)) a small (hop_for (routes_held ws hs)) (shaped r.found) m (len / 4 - m) (omega (arith, short))
        (way-absent r.found small r.way (omega (arith, short)) l)).0 in
        subst (λ (z : ℕ). length (nodes (down_to (node_stands (routes_held ws hs)) a z)) ≡ n + (len / 4 - m)) e (omega (arith, d, now))
    go (inr l) = let e : m ≡ len / 4 = omega (arith, up) in omega (arith, now, ap (λ (z : ℕ). length (nodes (down_to (node_stands (routes_held ws hs)) a z))) e)
