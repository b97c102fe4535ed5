-- A change of one prefix leaves every cell of a level as it was in which no address under the prefix lies and which stands where it stood.
-- Said of any level. Such a cell is neither above nor under the prefix, so its routes say the same of it: whether it is deep, and its best.
use mathlib.Core.Path.{◌≡◌, refl, sym, ◌∙◌, ap, subst}
use mathlib.Core.Logic.{◌⊎◌, inl, inr, ◌≢◌}
use mathlib.Core.Bool.{true, false, cond}
use mathlib.Core.List.{List}
use Prim.Native.Nat.{ℕ, suc, ◌+◌, ◌-◌, ◌*◌, ◌/◌, ◌^◌, ◌≤◌, ◌<◌}
use native.Mathlib.Omega.{arith}
use native.Mathlib.Nat.{mod-lt}
use lib.Arith.{digits_lt, digits_div}
use lib.Pow.{pow_pos, pow-add}
use Rattle.bits.specs.Slot.{slot}
use Rattle.bits.proofs.Slots.{slot-up}
use Rattle.bits.proofs.Bools.{decided}
use Rattle.bits.proofs.Tabs.{get_d_tabulate}
use Rattle.standing.specs.Cells.{best}
use Rattle.routes.specs.declared.Route.{Route}
use Rattle.standing.proofs.Frame.{SameBut, frame-long, frame-best}
use Rattle.sail.specs.Level.{Level, Chunks, chunk_for, deep, leaf_at, top, below}
use Rattle.sail_theory.specs.Render.{shown, block, pool, Fits}
use Rattle.sail_theory.specs.Alters.{NoneUnder, SamePlace, Framed}
use Rattle.standing.proofs.TwoLevels.{pow-down}
use Rattle.sail_theory.proofs.owners.Chunks.{chunk-at}
use Rattle.sail_theory.proofs.places.Places.{chunk-lt, live-owner}

-- a cell in which no address under the prefix lies does not hold the prefix, and does not lie under it
module _ (a len p i : ℕ) (h : p ≤ 32) (k : i < 2 ^ p) (n : NoneUnder a len p i) where
  above : a < 2 ^ 32 → slot p a ≡ i → ⊥
  unfolding NoneUnder
  above s e = n a s e refl

  under : (m : ℕ) → len + m ≡ p → i / 2 ^ m ≡ slot len a → ⊥
  unfolding NoneUnder
  under m e f = n x x_lt x-slot (sym (slot-up len m x (omega arith)) ∙ ap (λ (j : ℕ). slot j x / 2 ^ m) e ∙ ap (λ (j : ℕ). j / 2 ^ m) x-slot ∙ f)
    where
      x : ℕ
      x = i * 2 ^ (32 - p) + 0

      x-slot : slot p x ≡ i
      x-slot = digits_div i (pow_pos (32 - p))

      x_lt : x < 2 ^ 32
      x_lt =
          let sum : p + (32 - p) ≡ 32 = omega arith in
          subst (λ (j : ℕ). x < j) (sym (pow-add 2 p (32 - p)) ∙ ap (λ (j : ℕ). 2 ^ j) sum) (digits_lt k (pow_pos (32 - p)))

-- as a program knows it: a cell outside the block of cells under a short prefix, and a cell that is not a long prefix's own
pub none-outside : (a len p i k : ℕ) → p ≤ 32 → len + k ≡ p → i / 2 ^ k ≢ slot len a → NoneUnder a len p i
unfolding NoneUnder
none-outside a len p i k h e n x s c u = n (sym (ap (λ (j : ℕ). j / 2 ^ k) (ap (λ (j : ℕ). slot j x) e ∙ c)) ∙ slot-up len k x (omega arith) ∙ u)

pub none_other : (a len p i k : ℕ) → len ≤ 32 → p + k ≡ len → i ≢ slot p a → NoneUnder a len p i
unfolding NoneUnder
none_other a len p i k h e n x s c u =
    let same : slot (p + k) x ≡ slot (p + k) a = ap (λ (j : ℕ). slot j x) e ∙ u ∙ ap (λ (j : ℕ). slot j a) (sym e) in
    n (sym c ∙ sym (slot-up p k x (omega arith)) ∙ ap (λ (j : ℕ). j / 2 ^ k) same ∙ slot-up p k a (omega arith))

-- the cell of a live place is a cell of its level
abbrev pub Bounded : Level → Type 0
Bounded v = (q : ℕ) → q < v.places → v.live q ≡ true → v.at q < 2 ^ v.bits

pub top-bounded : (p : ℕ) → Bounded (top p)
top-bounded p q l e = l

pub below-bounded : (rs : List Route) (v : Level) (k : Chunks) (p : ℕ) → v.bits ≤ p → Fits rs v k → Bounded v → Bounded (below v k p)
below-bounded rs v k p h f b q l e =
    let z = f.lies (q / 2 ^ (p - v.bits)) _ (chunk-lt (p - v.bits) k.many q l) (live-owner v k p q e) in
    subst (λ (j : ℕ). (below v k p).at q < j) (pow-down v.bits p h) (digits_lt (b _ z.0 z.1) (mod-lt q (pow_pos (p - v.bits))))

-- a place below stands where it stood where its chunk keeps its owner, and that stands where it stood
pub below-same : (v v' : Level) (k k' : Chunks) (p q : ℕ) → v'.bits ≡ v.bits → k'.own (q / 2 ^ (p - v.bits)) ≡ k.own (q / 2 ^ (p - v.bits))
    → ((z : ℕ) → k.own (q / 2 ^ (p - v.bits)) ≡ suc z → v'.at z ≡ v.at z) → SamePlace (below v k p) (below v' k' p) q
below-same v v' k k' p q b o a = record {
  live = rw (b, o);
  at = λ e. rw (b, o, a _ (live-owner v k p q e));
}

-- From the level v with the chunks k to v' with k', where the routes rs become rs': the same places, and a chunk keeps its owner where that
-- is deep still.
pub record LevelMoved (rs rs' : List Route) (v v' : Level) (k k' : Chunks) : Type 0 where
  pub few : v.bits ≤ 32
  pub bounded : Bounded v
  pub bits : v'.bits ≡ v.bits
  pub places : v'.places ≡ v.places
  pub was : Fits rs v k
  pub now : Fits rs' v' k'
  pub many : k'.many ≡ k.many
  pub stay : (c q : ℕ) → k.own c ≡ suc q → deep rs' v q ≡ true → k'.own c ≡ suc q

module _ (rs rs' : List Route) (v v' : Level) (k k' : Chunks) (m : LevelMoved rs rs' v v' k k') where
  -- a chunk that keeps its owner keeps its number
  chunk-stays : (q : ℕ) → q < v.places → v.live q ≡ true → deep rs v q ≡ true → deep rs' v q ≡ true → chunk_for k' (suc q) ≡ chunk_for k (suc q)
  chunk-stays q l u d d' =
      let h = m.was.has q l u d in
      m.now.once (chunk_for k (suc q)) q (rw m.many h) (m.stay (chunk_for k (suc q)) q (chunk-at k (suc q) h) d')

  -- Both arrays are tables, so a cell is what is shown at its place. Where that is as deep as it was, it shows the same chunk or the same hop.
  pub framed : (a len : ℕ) → a < 2 ^ 32 → SameBut a len rs rs' → Framed a len v v' (pool rs v k) (pool rs' v' k')
  unfolding block shown
  framed a len small but = record {
    stays = λ q l s n.
        get_d_tabulate v'.places _ q 0 (rw m.places l)
        ∙ go q l s n (decided (v.live q)) (decided (deep rs v q))
        ∙ sym (get_d_tabulate v.places _ q 0 l);
  }
    where
      same-long : (q : ℕ) → q < v.places → v.live q ≡ true → NoneUnder a len v.bits (v.at q) → deep rs' v q ≡ deep rs v q
      same-long q l e n = sym (frame-long a len rs rs' but v.bits (v.at q) (λ _ y. above a len v.bits (v.at q) m.few (m.bounded q l e) n small y))

      same-best : (q : ℕ) → q < v.places → v.live q ≡ true → NoneUnder a len v.bits (v.at q) → best rs' v.bits (v.at q) ≡ best rs v.bits (v.at q)
      same-best q l e n = sym (frame-best a len rs rs' but v.bits (v.at q) (under a len v.bits (v.at q) m.few (m.bounded q l e) n))

      go : (q : ℕ) → q < v.places → SamePlace v v' q → (v.live q ≡ true → NoneUnder a len v.bits (v.at q)) → (v.live q ≡ true) ⊎ (v.live q ≡ false)
          → (deep rs v q ≡ true) ⊎ (deep rs v q ≡ false)
          → cond (v'.live q) (cond (deep rs' v' q) (suc (chunk_for k' (suc q))) (leaf_at rs' v' q)) 0
          ≡ cond (v.live q) (cond (deep rs v q) (suc (chunk_for k (suc q))) (leaf_at rs v q)) 0
      go q l s n (inr x) y = rw (s.live, x)
      go q l s n (inl x) (inl y) = let d = same-long q l x (n x) in rw (s.live, x, m.bits, s.at x, d, y, chunk-stays q l x y (d ∙ y))
      go q l s n (inl x) (inr y) = rw (s.live, x, m.bits, s.at x, same-long q l x (n x), y, same-best q l x (n x))
