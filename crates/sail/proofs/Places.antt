-- How the live places of a level match the cells that the routes reach. Said of any level, and so proved once for all.
use mathlib.Core.Path.{◌≡◌, refl, sym, ◌∙◌, ap, ap₂}
use mathlib.Core.Logic.{◌⊎◌, inl, inr}
use mathlib.Core.Bool.{Bool, true, false, not}
use mathlib.Core.List.{List}
use Prim.Native.Nat.{ℕ, suc, ◌+◌, ◌-◌, ◌*◌, ◌/◌, ◌%◌, ◌^◌, ◌≤◌, ◌<◌}
use native.Mathlib.Nat.{div-lt_iff_lt-mul, mod-lt, div-add-mod'}
use native.Mathlib.Omega.{arith}
use lib.Arith.{digits_lt, digits_div, digits_mod}
use lib.Dec.{leb}
use lib.Pow.{pow-add, pow_pos}
use borrow.Author.Tests.{ltb-true, lt-ltb, le-leb, lt-leb}
use Rattle.bits.specs.Count.{count}
use Rattle.bits.proofs.Bools.{decided}
use Rattle.bits.proofs.Counts.{Matched, count-matched}
use Rattle.routes.specs.Route.{Good}
use Rattle.standing.specs.Cells.{long, best, need}
use Rattle.routes.specs.declared.Route.{Route}
use Rattle.standing.proofs.Levels.{long-up}
use Rattle.standing.proofs.Need.{need-count}
use Rattle.sail.specs.Level.{Level, Chunks, deep, always, itself, in_use, top, below}
use Rattle.sail.specs.Sound.{Shows}
use Rattle.sail.specs.Walk.{cell_place}

-- numbers that match still do with a digit below b after each
spread-half : (P Q : ℕ → Bool) (f g : ℕ → ℕ) (m n b : ℕ) → 0 < b
    → ((x : ℕ) → x < m → P x ≡ true → (f x < n) × (Q (f x) ≡ true) × (g (f x) ≡ x))
    → (s : ℕ) → s < m * b → P (s / b) ≡ true
    → (f (s / b) * b + s % b < n * b) × (Q ((f (s / b) * b + s % b) / b) ≡ true) × (g ((f (s / b) * b + s % b) / b) * b + (f (s / b) * b + s % b) % b ≡ s)
spread-half P Q f g m n b pos h s l e =
    let k = h (s / b) ((div-lt_iff_lt-mul pos).1 l) e in
    let lt : s % b < b = mod-lt s pos in
    let d = digits_div (f (s / b)) lt in
    let r = digits_mod (f (s / b)) lt in
    (digits_lt k.0 lt, rw d k.1, ap₂ (λ (x y : ℕ). g x * b + y) d r ∙ ap (λ (x : ℕ). x * b + s % b) k.2 ∙ div-add-mod' s b)

spread : (P Q : ℕ → Bool) (f g : ℕ → ℕ) (m n b : ℕ) → 0 < b → Matched P Q f g m n
    → Matched (λ s. P (s / b)) (λ i. Q (i / b)) (λ s. f (s / b) * b + s % b) (λ i. g (i / b) * b + i % b) (m * b) (n * b)
spread P Q f g m n b pos h = record { there = spread-half P Q f g m n b pos h.there; back = spread-half Q P g f n m b pos h.back }

-- a live cell names a chunk exactly where it is deep: else its top bit is set
pub names-exactly : (rs : List Route) (v : Level) (k : Chunks) (cells : ℕ → ℕ) → Shows rs v k cells → k.many < 32768
    → (q : ℕ) → q < v.places → v.live q ≡ true → leb 32768 (cells q) ≡ not (deep rs v q)
names-exactly rs v k cells s few q l e = go (decided (deep rs v q))
  where
    go : (deep rs v q ≡ true) ⊎ (deep rs v q ≡ false) → leb 32768 (cells q) ≡ not (deep rs v q)
    go (inl d) = rw (d, lt-leb 32768 (cells q) (omega (arith, (s.node q l e d).last)))
    go (inr d) = rw (d, le-leb 32768 (cells q) (omega (arith, s.leaf q l e d)))

-- The live places of a level match the cells of its bits that are reached: the cell i is at the place `find i`.
pub record Reached (rs : List Route) (v : Level) (reach : ℕ → Bool) (find : ℕ → ℕ) : Type 0 where
  pub few : v.bits ≤ 32
  pub match : Matched v.live reach v.at find v.places (2 ^ v.bits)
  pub up : (i : ℕ) → long rs v.bits i ≡ true → reach i ≡ true

pub top_reached : (rs : List Route) (p : ℕ) → p ≤ 32 → Reached rs (top p) always itself
top_reached rs p h = record { few = h; match = record { there = λ x l e. (l, refl, refl); back = λ x l e. (l, refl, refl) }; up = λ i e. refl }

module _ (rs : List Route) (v : Level) (k : Chunks) (cells : ℕ → ℕ) (s : Shows rs v k cells) (reach : ℕ → Bool) (find : ℕ → ℕ)
    (m : Reached rs v reach find) where
  -- the chunks in use match the deep cells
  chunks : Matched (in_use k.own) (long rs v.bits) (λ c. v.at (k.own c - 1)) (λ i. cells (find i) - 1) k.many (2 ^ v.bits)
  chunks = record {
    there = λ c l e.
        let o : ℕ = k.own c - 1 in
        let is : k.own c ≡ suc o = omega (arith, ltb-true 0 (k.own c) e) in
        let g = s.owned c o l is in
        let j = m.match.there o g.0 g.1 in
        (j.0, g.2, rw j.2 (omega (arith, g.3)));
    back = λ i l e.
        let j = m.match.back i l (m.up i e) in
        let g = s.node (find i) j.0 j.1 (rw j.2 e) in
        let u : k.own (cells (find i) - 1) - 1 ≡ find i = omega (arith, g.owner) in
        (omega (arith, g.one, g.last), lt-ltb 0 (k.own (cells (find i) - 1)) (omega (arith, g.owner)), ap v.at u ∙ j.2);
  }

  -- so as many chunks are in use as are needed
  pub used-need : Good rs → count (in_use k.own) k.many ≡ need rs v.bits
  used-need good =
      count-matched (in_use k.own) (long rs v.bits) (λ c. v.at (k.own c - 1)) (λ i. cells (find i) - 1) k.many (2 ^ v.bits) chunks
      ∙ sym (need-count rs v.bits m.few good)

  -- and the level below is reached where the level is deep
  pub below-reached : (p : ℕ) → v.bits ≤ p → p ≤ 32
      → Reached rs (below v k p) (λ i. long rs v.bits (i / 2 ^ (p - v.bits))) (λ i. cell_place (p - v.bits) (cells (find (i / 2 ^ (p - v.bits)))) i)
  below-reached p h l =
      let sum : v.bits + (p - v.bits) ≡ p = omega arith in
      let all : 2 ^ v.bits * 2 ^ (p - v.bits) ≡ 2 ^ p = sym (pow-add 2 v.bits (p - v.bits)) ∙ ap (λ (n : ℕ). 2 ^ n) sum in
      record {
        few = l;
        match =
            rw all at (spread (in_use k.own) (long rs v.bits) (λ c. v.at (k.own c - 1)) (λ i. cells (find i) - 1) k.many (2 ^ v.bits)
            (2 ^ (p - v.bits)) (pow_pos (p - v.bits)) chunks);
        up = λ i e. long-up rs v.bits (p - v.bits) i (omega arith) (rw sum e);
      }

  -- what stands at the place of a cell
  pub read-leaf : (i : ℕ) → i < 2 ^ v.bits → reach i ≡ true → long rs v.bits i ≡ false → cells (find i) ≡ 32768 + best rs v.bits i
  read-leaf i l e f =
      let j = m.match.back i l e in
      s.leaf (find i) j.0 j.1 (rw j.2 f) ∙ ap (λ (x : ℕ). 32768 + best rs v.bits x) j.2

  pub read-node : (i : ℕ) → i < 2 ^ v.bits → long rs v.bits i ≡ true → (1 ≤ cells (find i)) × (cells (find i) ≤ k.many) × (0 < k.own (cells (find i) - 1))
  read-node i l e =
      let j = m.match.back i l (m.up i e) in
      let g = s.node (find i) j.0 j.1 (rw j.2 e) in
      (g.one, g.last, omega (arith, g.owner))
