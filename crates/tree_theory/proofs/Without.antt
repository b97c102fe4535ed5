-- A list of routes by the list without one prefix: the nodes on the path of the prefix stand too, and the prefix has its hop.
use mathlib.Core.Path.{◌≡◌, refl, sym, ◌∙◌, ap, ap₂, subst}
use mathlib.Core.Bool.{Bool, true, false, cond}
use mathlib.Core.List.{List, Memᴰ}
use Prim.Native.Nat.{ℕ, ◌*◌, ◌/◌, ◌≤◌, ◌<◌}
use native.Mathlib.Omega.{arith}
use lib.Dec.{eqb, ltb}
use borrow.Author.Tests.{eq-eqb, ltb-false}
use Rattle.bits.specs.Slot.{slot}
use Rattle.bits.proofs.Bools.{untrue}
use Rattle.routes.specs.Route.{key, key_of, Prefix, Fine, Good}
use Rattle.routes.specs.declared.Route.{Route}
use Rattle.routes.proofs.Goods.{good-fine, key-parts}
use Rattle.standing.specs.Standing.{Held, absent, stood, stands, route_at, insert, remove}
use Rattle.standing.proofs.Standing.{insert-good, insert-stands, remove-good, remove-stands, same-standing}
use Rattle.tree_image.specs.Image.{node_stands, hop_for}
use Rattle.tree_same.specs.Holding.{Holding}
use Rattle.tree_same.proofs.Same.{at_listed}
use Rattle.tree_hold.specs.More.{down_to, with_hop}
use Rattle.tree_hold.proofs.Taken.{len_at, bits_at}
use Rattle.tree_hold.proofs.Paths.{insert-nodes, insert-hops, put-again, stands-is, stands-hop}
use Rattle.tree_theory.specs.Stages.{BitOf}
use Rattle.tree_theory.proofs.Places.{bit-len, bit-bits}

-- a prefix that was taken out does not stand
pub gone-stands : (k : ℕ) (rs : List Route) → Good rs → stands k (remove k rs) ≡ false
gone-stands k rs g = untrue (stands k (remove k rs)) (λ t. clash (stands-is k (remove k rs) t))
  where
    clash : (r : Route) × Memᴰ r (remove k rs) × (key r ≡ k) → ⊥
    clash w =
        let a : route_at k (remove k rs) ≡ stood w.0 =
        subst (λ (z : ℕ). route_at z (remove k rs) ≡ stood w.0) w.2 (at_listed (remove k rs) (remove-good k rs g) w.0 w.1) in
        let b : route_at k (remove k rs) ≡ absent = remove-stands k k rs ∙ ap (λ (t : Bool). cond t absent (route_at k rs)) (eq-eqb k k refl) in
        let c : stood w.0 ≡ absent = sym a ∙ b in
        let z : ◌≡◌ {A = ℕ} 0 1 = cc in
        omega arith

-- putting a route in and taking its prefix out leaves the list without the prefix
pub out-again : (r : Route) (rs : List Route) → Fine r → Good rs → remove (key r) (insert r rs) ≡ remove (key r) rs
out-again r rs f g =
    same-standing (remove (key r) (insert r rs)) (remove (key r) rs) (remove-good (key r) (insert r rs) (insert-good r rs f g)) (remove-good (key r) rs g)
    (λ k.
    remove-stands (key r) k (insert r rs) ∙ ap (cond (eqb (key r) k) absent) (insert-stands k r rs) ∙ go (eqb (key r) k) (route_at k rs)
    ∙ sym (remove-stands (key r) k rs))
  where
    go : (t : Bool) (h : Held) → cond t absent (cond t (stood r) h) ≡ cond t absent h
    go true h = refl
    go false h = refl

pub record Without (rs : List Route) (a len : ℕ) : Type 0 where
  pub hop : ℕ
  pub some : 0 < hop
  pub good : Good (remove (key_of a len) rs)
  pub nodes : node_stands rs ≡ down_to (node_stands (remove (key_of a len) rs)) a (len / 4)
  pub hops : hop_for rs ≡ with_hop (hop_for (remove (key_of a len) rs)) len (slot len a) hop
  pub gone : hop_for (remove (key_of a len) rs) len (slot len a) ≡ 0

pub without_is : (rs : List Route) (a len : ℕ) → Good rs → Prefix a len → stands (key_of a len) rs ≡ true → Without rs a len
without_is rs a len g p t = go (stands-is (key_of a len) rs t)
  where
    zero_of : (z : ℕ) → ltb 0 z ≡ false → z ≡ 0
    zero_of z e = omega (arith, ltb-false 0 z e)

    go : (s : Route) × Memᴰ s rs × (key s ≡ key_of a len) → Without rs a len
    go w =
        let f = good-fine rs g w.0 w.1 in
        let k = key-parts w.0.addr w.0.len a len f.prefix.len_ok p.len_ok w.2 in
        let g₀ = remove-good (key_of a len) rs g in
        let again : insert w.0 (remove (key_of a len) rs) ≡ rs = ap (λ (z : ℕ). insert w.0 (remove z rs)) (sym w.2) ∙ put-again rs g w.0 w.1 in
        record {
          hop = w.0.hop;
          some = f.hop_one;
          good = g₀;
          nodes =
              ap node_stands (sym again) ∙ insert-nodes w.0 (remove (key_of a len) rs) f g₀
              ∙ ap₂ (λ (u v : ℕ). down_to (node_stands (remove (key_of a len) rs)) u (v / 4)) k.0 k.1;
          hops =
              ap hop_for (sym again) ∙ insert-hops w.0 (remove (key_of a len) rs) f g₀
              ∙ ap₂ (λ (u v : ℕ). with_hop (hop_for (remove (key_of a len) rs)) v (slot v u) w.0.hop) k.0 k.1;
          gone =
              zero_of (hop_for (remove (key_of a len) rs) len (slot len a))
              (sym (stands-hop a len (remove (key_of a len) rs) p g₀) ∙ gone-stands (key_of a len) rs g);
        }

-- arrays that hold the list hold the others with the path of the prefix, and its hop at its bit
pub held_with : {rs : List Route} {a len b : ℕ} (w : Without rs a len) → len ≤ 32 → BitOf a len b → {ws hs : List ℕ} {n : ℕ}
    → Holding (node_stands rs) (hop_for rs) ws hs n
    → Holding (down_to (node_stands (remove (key_of a len) rs)) a (len / 4))
    (with_hop (hop_for (remove (key_of a len) rs)) (len_at (len / 4) b) (bits_at (slot (4 * (len / 4)) a) b) w.hop) ws hs n
held_with {rs} {a} {len} {b} w l o {ws} {hs} {n} h =
    let hop = hop_for (remove (key_of a len) rs) in
    let t : hop_for rs ≡ with_hop (hop_for (remove (key_of a len) rs)) (len_at (len / 4) b) (bits_at (slot (4 * (len / 4)) a) b) w.hop =
    w.hops ∙ sym (ap₂ (λ (u v : ℕ). with_hop hop u v w.hop) (bit-len o l) (bit-bits o l)) in
    subst (λ (f : ℕ → ℕ → Bool). Holding f (with_hop hop (len_at (len / 4) b) (bits_at (slot (4 * (len / 4)) a) b) w.hop) ws hs n) w.nodes
    (subst (λ (f : ℕ → ℕ → ℕ). Holding (node_stands rs) f ws hs n) t h)
