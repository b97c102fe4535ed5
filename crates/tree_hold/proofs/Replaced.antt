-- A hop in the place of another: the arrays are those without it with it put; put with another hop, they differ at its place alone.
use mathlib.Core.Path.{◌≡◌, refl, sym, ◌∙◌, ap₂, subst, fun_ext}
use mathlib.Core.Logic.{◌⊎◌, inl, inr}
use mathlib.Core.Bool.{Bool, true, false, cond, ◌&&◌}
use mathlib.Core.List.{List}
use Prim.Native.Nat.{ℕ, suc, ◌+◌, ◌-◌, ◌≤◌, ◌<◌}
use native.Mathlib.Omega.{arith}
use lib.Dec.{eqb}
use lib.ListN.{length, get_or, set, length-set}
use lib.Seq.{get_or-set_same, get_or-set_other}
use borrow.Author.Tests.{eq-eqb, eqb-true, ltb-true}
use Rattle.bits.proofs.Bools.{decided, below?, equal?, and_split}
use Rattle.tree_image.specs.Image.{node, bit_hop, inner}
use Rattle.tree_same.specs.Read.{reached, hop_place_at}
use Rattle.tree_same.specs.Order.{ints, stands_at}
use Rattle.tree_same.specs.Holding.{Holding}
use Rattle.tree_same.proofs.Back.{Shaped}
use Rattle.tree_hold.specs.More.{with_hop}
use Rattle.tree_hold.specs.Edits.{HopPut}
use Rattle.tree_hold.proofs.Each.{past}
use Rattle.tree_hold.proofs.Puts.{put_holds}
use Rattle.tree_hold.proofs.Taken.{len_at, bits_at, before}

module _ (st : ℕ → ℕ → Bool) (hop : ℕ → ℕ → ℕ) (l q : ℕ) where
  -- the hops without this one, and with it again
  abbrev hop₀ : ℕ → ℕ → ℕ
  hop₀ = with_hop hop l q 0

  fewer : (a b : ℕ) → 0 < hop₀ a b → 0 < hop a b
  unfolding with_hop
  fewer a b u = go (decided (eqb a l && eqb b q)) u
    where
      go : ((eqb a l && eqb b q) ≡ true) ⊎ ((eqb a l && eqb b q) ≡ false) → 0 < cond (eqb a l && eqb b q) 0 (hop a b) → 0 < hop a b
      go (inl t) v = absurd (omega (arith, rw t at v))
      go (inr t) v = rw t at v

  pub without-shaped : Shaped st hop → Shaped st hop₀
  unfolding with_hop
  without-shaped f = record {
    agree = record {
      nine = f.agree.nine;
      small = λ a b. small a b (eqb a l && eqb b q);
      told = λ m a b z u v w. f.agree.told m a b z u v (fewer a b w);
    };
    hopping = record { small = λ a b. small a b (eqb a l && eqb b q); range = λ a b u. f.hopping.range a b (fewer a b u) };
    up = f.up;
  }
    where
      small : (a b : ℕ) (t : Bool) → cond t 0 (hop a b) ≤ 32767
      small a b true = omega arith
      small a b false = f.agree.small a b

  pub again : (h : ℕ) → with_hop hop₀ l q h ≡ with_hop hop l q h
  unfolding with_hop
  again h = fun_ext (λ a. fun_ext (λ b. go (eqb a l && eqb b q) (hop a b)))
    where
      go : (t : Bool) (x : ℕ) → cond t h (cond t 0 x) ≡ cond t h x
      go true x = refl
      go false x = refl

  pub same-again : with_hop hop l q (hop l q) ≡ hop
  unfolding with_hop
  same-again = fun_ext (λ a. fun_ext (λ b. go a b (decided (eqb a l && eqb b q))))
    where
      go : (a b : ℕ) → ((eqb a l && eqb b q) ≡ true) ⊎ ((eqb a l && eqb b q) ≡ false) → cond (eqb a l && eqb b q) (hop l q) (hop a b) ≡ hop a b
      go a b (inl t) = let s = and_split (eqb a l) (eqb b q) t in rw t (ap₂ hop (sym (eqb-true a l s.0)) (sym (eqb-true b q s.1)))
      go a b (inr t) = rw t refl

  pub gone : hop₀ l q ≡ 0
  unfolding with_hop
  gone = rw (eq-eqb l l refl, eq-eqb q q refl) refl

module _ {st : ℕ → ℕ → Bool} {hop : ℕ → ℕ → ℕ} {ws hs : List ℕ} {n : ℕ} (m p b h : ℕ) (fits : Shaped st hop) (small : b < 15) (stood : stands_at st m p ≡ true)
    (stands : inner hop (node m p) b ≡ true) (some : 0 < h) (held : Holding st hop ws hs n) where
  abbrev x : ℕ
  x = reached ws m p

  abbrev y : ℕ
  y = hop_place_at ws x b

  abbrev l : ℕ
  l = len_at m b

  abbrev q : ℕ
  q = bits_at p b

  gone-there : bit_hop (with_hop hop l q 0) (node m p) b ≡ 0
  unfolding bit_hop
  gone-there = gone st hop l q

  stood-there : 0 < hop l q
  unfolding bit_hop
  stood-there = ltb-true 0 _ stands

  -- the arrays as those without it and with it put again
  with-again : Holding st (with_hop (with_hop hop l q 0) l q (hop l q)) ws hs n
  with-again = subst (λ (f : ℕ → ℕ → ℕ). Holding st f ws hs n) (sym (again st hop l q (hop l q) ∙ same-again st hop l q)) held

  -- the hop at its place changed, and nothing else
  swapped : {a f : List ℕ} → HopPut a ws f hs n x b y (hop l q) → HopPut a ws f (set hs y h) n x b y h
  swapped {a} {f} g = record {
    bits = g.bits;
    same = g.same;
    same_hops = length-set hs y h ∙ g.same_hops;
    lent = g.lent;
    room = omega (arith, g.room, length-set hs y h);
    place = g.place;
    child_same = g.child_same;
    base_upto = g.base_upto;
    base_after = g.base_after;
    rest_old = g.rest_old;
    rest = g.rest;
    hops_below = λ j u. get_or-set_other hs y j h 0 (λ e. omega arith) ∙ g.hops_below j u;
    hop_new = get_or-set_same hs y h 0 (inside (below? y (length hs)));
    hops_above = λ j u v. get_or-set_other hs y (suc j) h 0 (λ e. omega arith) ∙ g.hops_above j u v;
    blank_old = g.blank_old;
    blank = λ j u. kept j u (equal? j y);
  }
    where
      -- a hop stands there, so the place is lent
      inside : (y < length hs) ⊎ (length hs ≤ y) → y < length hs
      inside (inl u) = u
      inside (inr u) = absurd (omega (arith, past hs y u, g.hop_new, stood-there))

      kept : (j : ℕ) → ints a n + 1 ≤ j → (j ≡ y) ⊎ (j ≡ y → ⊥) → get_or (set hs y h) j 0 ≡ 0
      kept j u (inl e) = let z : ints a n + 1 ≤ y = rw e at u in absurd (omega (arith, g.blank y z, g.hop_new, stood-there))
      kept j u (inr e) = get_or-set_other hs y j h 0 e ∙ g.blank j u

  pub replace-holds : Holding st (with_hop hop l q h) ws (set hs y h) n
  replace-holds =
      let f = without-shaped st hop l q fits in
      let o = before m p b (hop l q) f small stood gone-there stood-there with-again in
      subst (λ (k : ℕ → ℕ → ℕ). Holding st k ws (set hs y h) n) (again st hop l q h) (put_holds m p f o.holds (swapped o.put) stood o.at some)
