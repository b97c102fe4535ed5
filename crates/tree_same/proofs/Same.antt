-- One set of routes, marks aside, has one list and one image: a good list is known by its prefixes and their hops, and the image gives these back.
use mathlib.Core.Path.{◌≡◌, refl, sym, ◌∙◌, ap, ap₂, subst, fun_ext}
use mathlib.Core.Logic.{◌⊎◌, inl, inr, ◌↔◌}
use mathlib.Core.Bool.{true, false, cond}
use mathlib.Core.List.Memᴰ
use mathlib.Core.List.{List, [], ◌∷◌, map, Memᴰ}
use Prim.Native.Nat.{ℕ, zero, suc, ◌+◌, ◌*◌, ◌/◌, ◌%◌, ◌^◌, ◌≤◌, ◌<◌}
use native.Mathlib.Omega.{arith}
use lib.Dec.{eqb}
use lib.ListN.{length}
use borrow.Author.Tests.{eqb-true, eq-eqb, ne_eqb}
use Rattle.bits.specs.Slot.{slot}
use Rattle.bits.proofs.Slots.{slot_lt}
use Rattle.bits.proofs.Bools.{decided, both, and_split}
use Rattle.routes.specs.Route.{key, plain, Fine, Good}
use Rattle.routes.specs.declared.Route.{Route}
use Rattle.routes.proofs.Goods.{good-fine, key-parts}
use Rattle.standing.specs.Cells.{here}
use Rattle.standing.specs.Standing.{Held, absent, stood, route_at}
use Rattle.standing.proofs.Standing.{same-standing}
use Rattle.standing.proofs.Prefixes.{one_key}
use Rattle.tree_image.specs.Image.{through, node_stands, hop_for, Image, image_of, image_by, node_need}
use Rattle.tree_image.proofs.Lies.{any-is, found-any, hop-of, pass-parts}
use Rattle.tree_image.proofs.Marks.{hops-plain, image-unmarked}
use Rattle.tree_image.proofs.Levels.{parent-stands}
use Rattle.tree_image.proofs.Needs.{hops-need}
use Rattle.tree_image.proofs.Serves.{agree}
use Rattle.tree_same.specs.Read.{read_out}
use Rattle.tree_same.specs.Order.{stands_at}
use Rattle.tree_same.specs.Listed.{listed, SameHops, routes_held}
use Rattle.tree_same.proofs.Lists.{Hopping, listed-good, listed-hop, listed-unmarked}
use Rattle.tree_same.proofs.Back.{Shaped, reads-back}
use Rattle.tree_same.proofs.Plain.{plain-mem, plain-good}

-- what a good list says of nodes and hops
module _ (rs : List Route) (g : Good rs) where
  pub hopping : Hopping (hop_for rs)
  hopping = record { small = (agree rs g).small; range = range }
    where
      range : (l q : ℕ) → 0 < hop_for rs l q → (l ≤ 32) × (q < 2 ^ l)
      range l q h =
          let f = any-is (here l q) rs (found-any (here l q) rs h) in
          let x = good-fine rs g f.0 f.1 in
          let s = and_split (eqb f.0.len l) (eqb (slot l f.0.addr) q) f.2 in
          let a : f.0.len ≡ l = eqb-true f.0.len l s.0 in
          let b : slot l f.0.addr ≡ q = eqb-true (slot l f.0.addr) q s.1 in
          let c : l ≤ 32 = omega (arith, x.prefix.len_ok) in
          (c, rw (← b) (slot_lt l f.0.addr c x.prefix.addr_ok))

  pub fits : Shaped (node_stands rs) (hop_for rs)
  unfolding stands_at
  fits = record { agree = agree rs g; hopping = hopping; up = up }
    where
      up : (m p : ℕ) → node_stands rs (suc m) p ≡ true → stands_at (node_stands rs) m (p / 16) ≡ true
      up zero p e =
          let q : p / 16 * 16 + p % 16 ≡ p = omega arith in
          let f = any-is (through 0 (p / 16)) rs (parent-stands rs g 0 (p / 16) (p % 16) (omega arith) (rw q e)) in
          eq-eqb (p / 16) 0 (omega (arith, (pass-parts 0 (p / 16) f.0 f.2).1, (good-fine rs g f.0 f.1).prefix.addr_ok))
      up (suc m) p e =
          let q : p / 16 * 16 + p % 16 ≡ p = omega arith in
          parent-stands rs g (suc m) (p / 16) (p % 16) (omega arith) (rw q e)

  -- the image of a good list gives its hops back
  pub image-read : (w h l q : ℕ) → 3 * node_need rs ≤ w → length rs ≤ h → read_out (image_of rs w h).words (image_of rs w h).hops l q ≡ hop_for rs l q
  unfolding image_by
  image-read w h l q room space = reads-back (node_stands rs) (hop_for rs) fits w h room (omega (arith, hops-need rs g)) l q

-- a route of a good list is the one that stands for its prefix
pub at_listed : (rs : List Route) → Good rs → (r : Route) → Memᴰ r rs → route_at (key r) rs ≡ stood r
unfolding route_at Good
at_listed [] g r m = absurd (Memᴰ.not-nil m)
at_listed (x ∷ rs) g r m = go (Memᴰ.cases_cons m) (at_listed rs g.2 r)
  where
    go : (r ≡ x) ⊎ Memᴰ r rs → (Memᴰ r rs → route_at (key r) rs ≡ stood r) → cond (eqb (key x) (key r)) (stood x) (route_at (key r) rs) ≡ stood r
    go (inl q) ih = rw (q, eq-eqb (key x) (key x) refl)
    go (inr k) ih = rw (ne_eqb (key x) (key r) (λ e. omega (arith, g.1 r k))) (ih k)

data Standing (k : ℕ) (rs : List Route) (h : Held) : Type 0 where
  nobody : h ≡ absent → Standing k rs h
  one : (r : Route) → Memᴰ r rs → key r ≡ k → h ≡ stood r → Standing k rs h

standing : (k : ℕ) (rs : List Route) → Standing k rs (route_at k rs)
unfolding route_at
standing k [] = nobody refl
standing k (x ∷ rs) = go (decided (eqb (key x) k)) (standing k rs)
  where
    go : (eqb (key x) k ≡ true) ⊎ (eqb (key x) k ≡ false) → Standing k rs (route_at k rs) → Standing k (x ∷ rs) (cond (eqb (key x) k) (stood x) (route_at k rs))
    go (inl e) s = rw e (one x (Memᴰ.head refl) (eqb-true (key x) k e) refl)
    go (inr e) (nobody z) = rw e (nobody z)
    go (inr e) (one r m q z) = rw e (one r (Memᴰ.tail m) q z)

-- the routes have no marks
abbrev Unmarked : List Route → Type 0
Unmarked rs = (r : Route) → Memᴰ r rs → r.mark ≡ 0

same_route : (r s : Route) → Fine r → Fine s → r.mark ≡ s.mark → key r ≡ key s → r.hop ≡ s.hop → r ≡ s
same_route r s f g z e h =
    let p = key-parts r.addr r.len s.addr s.len f.prefix.len_ok g.prefix.len_ok e in
    ap₂ (λ (a l : ℕ). made a l r.mark r.hop) p.0 p.1 ∙ ap₂ (made s.addr s.len) z h
  where
    made : ℕ → ℕ → ℕ → ℕ → Route
    made a l x k = record { addr = a; len = l; mark = x; hop = k }

carried : (rs ss : List Route) → Good rs → Good ss → Unmarked rs → Unmarked ss → SameHops rs ss → (r : Route) → Memᴰ r rs → Memᴰ r ss
carried rs ss g k a b e r m =
    let l = r.len in
    let q = slot r.len r.addr in
    let f = good-fine rs g r m in
    let mine : here l q r ≡ true = both (eq-eqb l l refl) (eq-eqb q q refl) in
    let h = hop-of l q rs r g m mine in
    let w = any-is (here l q) ss (found-any (here l q) ss (omega (arith, e l q, h, f.hop_one))) in
    let t = good-fine ss k w.0 w.1 in
    let same : r ≡ w.0 =
    same_route r w.0 f t (a r m ∙ sym (b w.0 w.1)) (one_key l q r w.0 f t mine w.2) (sym h ∙ e l q ∙ hop-of l q ss w.0 k w.1 w.2) in
    subst (λ (x : Route). Memᴰ x ss) (sym same) w.1

-- a good list with no marks is known by its prefixes and their hops
same-unmarked : (rs ss : List Route) → Good rs → Good ss → Unmarked rs → Unmarked ss → SameHops rs ss → rs ≡ ss
same-unmarked rs ss g k a b e = same-standing rs ss g k (λ n. go n (standing n rs) (standing n ss))
  where
    go : (n : ℕ) → Standing n rs (route_at n rs) → Standing n ss (route_at n ss) → route_at n rs ≡ route_at n ss
    go n (one r m q z) y = z ∙ sym (subst (λ (x : ℕ). route_at x ss ≡ stood r) q (at_listed ss k r (carried rs ss g k a b e r m)))
    go n (nobody z) (nobody y) = z ∙ sym y
    go n (nobody z) (one s m q y) =
        sym (y ∙ sym (subst (λ (x : ℕ). route_at x rs ≡ stood s) q (at_listed rs g s (carried ss rs k g b a (λ l p. sym (e l p)) s m))))

-- marks aside, each prefix has its hop
said : (rs : List Route) (l q : ℕ) → hop_for (map plain rs) l q ≡ hop_for rs l q
said rs l q = ap (λ (f : ℕ → ℕ → ℕ). f l q) (hops-plain rs)

plain-unmarked : (rs : List Route) → Unmarked (map plain rs)
plain-unmarked rs r m = ap (λ (x : Route). x.mark) (plain-mem rs r m).2

-- the same prefixes with the same hops: the same list, marks aside
pub same_hops : (rs ss : List Route) → Good rs → Good ss → SameHops rs ss ↔ (map plain rs ≡ map plain ss)
same_hops rs ss g k = (
  (λ e.
      same-unmarked (map plain rs) (map plain ss) (plain-good rs g) (plain-good ss k) (plain-unmarked rs) (plain-unmarked ss)
      (λ l q. said rs l q ∙ e l q ∙ sym (said ss l q))),
  (λ e l q. sym (said rs l q) ∙ ap (λ (x : List Route). hop_for x l q) e ∙ said ss l q),
)

-- the list of a good list's hops is the list
pub listed-is : (rs : List Route) → Good rs → listed (hop_for rs) 32 0 0 ≡ map plain rs
listed-is rs g =
    same-unmarked _ (map plain rs) (listed-good (hop_for rs) (hopping rs g)) (plain-good rs g) (listed-unmarked (hop_for rs)) (plain-unmarked rs)
    (λ l q. listed-hop (hop_for rs) (hopping rs g) l q ∙ sym (said rs l q))

-- One set of routes, one image: two lists that are the same but for their marks have the same image, and two good lists that have the same image,
-- with room for it, are the same but for their marks.
pub images-same : (rs ss : List Route) (w h : ℕ) → map plain rs ≡ map plain ss → image_of rs w h ≡ image_of ss w h
images-same rs ss w h e = sym (image-unmarked rs w h) ∙ ap (λ (x : List Route). image_of x w h) e ∙ image-unmarked ss w h

pub images-apart : (rs ss : List Route) (w h : ℕ) → Good rs → Good ss → 3 * node_need rs ≤ w → length rs ≤ h → 3 * node_need ss ≤ w → length ss ≤ h
    → image_of rs w h ≡ image_of ss w h → map plain rs ≡ map plain ss
images-apart rs ss w h g k a b c d e =
    (same_hops rs ss g k).0 (λ l q. sym (image-read rs g w h l q a b) ∙ ap (λ (i : Image). read_out i.words i.hops l q) e ∙ image-read ss k w h l q c d)

-- the routes that the image of a good list holds are the list's
pub image-held : (rs : List Route) (w h : ℕ) → Good rs → 3 * node_need rs ≤ w → length rs ≤ h
    → routes_held (image_of rs w h).words (image_of rs w h).hops ≡ map plain rs
image-held rs w h g room space =
    ap (λ (f : ℕ → ℕ → ℕ). listed f 32 0 0) (fun_ext (λ l. fun_ext (λ q. image-read rs g w h l q room space))) ∙ listed-is rs g
