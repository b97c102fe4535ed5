-- The places of a level, and the cells that they stand for. Said of any level.
use mathlib.Core.Path.{◌≡◌, refl, sym, ◌∙◌, ap, ap₂}
use mathlib.Core.Bool.{true}
use mathlib.Core.List.{List}
use Prim.Native.Nat.{ℕ, suc, ◌+◌, ◌-◌, ◌*◌, ◌/◌, ◌%◌, ◌^◌, ◌≤◌, ◌<◌}
use native.Mathlib.Omega.{arith}
use native.Mathlib.Nat.{mod-lt, div-add-mod', div-lt_iff_lt-mul}
use lib.Arith.{digits_lt, digits_div, digits_mod}
use lib.Pow.{pow_pos}
use borrow.Author.Tests.{ltb-true, lt-ltb}
use Rattle.bits.specs.Slot.{slot}
use Rattle.bits.proofs.Slots.{slot_lt}
use Rattle.standing.specs.Cells.{long}
use Rattle.routes.specs.declared.Route.{Route}
use Rattle.sail.specs.Level.{Level, Chunks, chunk_for, top, below}
use Rattle.sail_theory.specs.Render.{Fits}
use Rattle.sail_theory.proofs.owners.Chunks.{chunk-at}
use Rattle.standing.proofs.TwoLevels.{slot-down}

-- the chunk of a place
pub chunk-lt : (d m q : ℕ) → q < m * 2 ^ d → q / 2 ^ d < m
chunk-lt d m q l = (div-lt_iff_lt-mul (pow_pos d)).1 l

-- The places of the level of p bits below v.
module _ (v : Level) (k : Chunks) (p : ℕ) where
  abbrev d : ℕ
  d = p - v.bits

  -- a live place's chunk has an owner
  pub live-owner : (x : ℕ) → (below v k p).live x ≡ true → k.own (x / 2 ^ d) ≡ suc (k.own (x / 2 ^ d) - 1)
  live-owner x e = omega (arith, ltb-true 0 (k.own (x / 2 ^ d)) e)

  pub part_up : (x : ℕ) → (below v k p).at x / 2 ^ d ≡ v.at (k.own (x / 2 ^ d) - 1)
  part_up x = digits_div (v.at (k.own (x / 2 ^ d) - 1)) (mod-lt x (pow_pos d))

  pub part_low : (x : ℕ) → (below v k p).at x % 2 ^ d ≡ x % 2 ^ d
  part_low x = digits_mod (v.at (k.own (x / 2 ^ d) - 1)) (mod-lt x (pow_pos d))

  -- the cells of a chunk that hangs from the place q
  module _ (c j : ℕ) (h : j < 2 ^ d) where
    pub chunk-live : (q : ℕ) → k.own c ≡ suc q → (below v k p).live (c * 2 ^ d + j) ≡ true
    chunk-live q o = lt-ltb 0 (k.own ((c * 2 ^ d + j) / 2 ^ d)) (omega (arith, o, ap k.own (digits_div c h)))

    pub chunk_part : (q : ℕ) → k.own c ≡ suc q → (below v k p).at (c * 2 ^ d + j) ≡ v.at q * 2 ^ d + j
    chunk_part q o =
        let e : k.own ((c * 2 ^ d + j) / 2 ^ d) - 1 ≡ q = omega (arith, o, ap k.own (digits_div c h)) in
        ap₂ (λ (x y : ℕ). v.at x * 2 ^ d + y) e (digits_mod c h)

-- The place that serves an address is live, and stands for the address's cell.
pub record LiveFor (v : Level) (a : ℕ) : Type 0 where
  pub inside : v.serving a < v.places
  pub used : v.live (v.serving a) ≡ true
  pub stands : v.at (v.serving a) ≡ slot v.bits a

pub top-served : (p a : ℕ) → p ≤ 32 → a < 2 ^ 32 → LiveFor (top p) a
top-served p a h s = record { inside = slot_lt p a h s; used = refl; stands = refl }

-- so it is below a place that serves the address and has a chunk
module _ (rs : List Route) (v : Level) (k : Chunks) (f : Fits rs v k) (p a : ℕ) (h : v.bits ≤ p) (u : p ≤ 32) (s : LiveFor v a)
    (e : long rs v.bits (slot v.bits a) ≡ true) where
  has-chunk : chunk_for k (suc (v.serving a)) < k.many
  has-chunk = f.has (v.serving a) s.inside s.used (rw s.stands e)

  pub serving-owner : k.own (chunk_for k (suc (v.serving a))) ≡ suc (v.serving a)
  serving-owner = chunk-at k (suc (v.serving a)) has-chunk

  pub below-served : LiveFor (below v k p) a
  below-served =
      let lt : slot p a % 2 ^ (p - v.bits) < 2 ^ (p - v.bits) = mod-lt (slot p a) (pow_pos (p - v.bits)) in
      record {
        inside = digits_lt has-chunk lt;
        used = chunk-live v k p _ _ lt (v.serving a) serving-owner;
        stands =
            chunk_part v k p _ _ lt (v.serving a) serving-owner
            ∙ ap (λ (x : ℕ). x * 2 ^ (p - v.bits) + slot p a % 2 ^ (p - v.bits)) (s.stands ∙ slot-down v.bits p a h u)
            ∙ div-add-mod' (slot p a) (2 ^ (p - v.bits));
      }

-- no two live places stand for one cell
abbrev pub Apart : Level → Type 0
Apart v = (x y : ℕ) → x < v.places → y < v.places → v.live x ≡ true → v.live y ≡ true → v.at x ≡ v.at y → x ≡ y

pub top_apart : (p : ℕ) → Apart (top p)
top_apart p x y _ _ _ _ e = e

-- Nor do two of the level below. If they stood for one cell, their chunks would hang from places that stand for one cell, so from one place; and
-- no two chunks hang from one.
pub below_apart : (rs : List Route) (v : Level) (k : Chunks) (p : ℕ) → Fits rs v k → Apart v → Apart (below v k p)
below_apart rs v k p f a x y lx ly ex ey e =
    let d : ℕ = p - v.bits in
    let cx = chunk-lt d k.many x lx in
    let cy = chunk-lt d k.many y ly in
    let ox = live-owner v k p x ex in
    let oy = live-owner v k p y ey in
    let kx = f.lies (x / 2 ^ d) (k.own (x / 2 ^ d) - 1) cx ox in
    let ky = f.lies (y / 2 ^ d) (k.own (y / 2 ^ d) - 1) cy oy in
    let up : k.own (x / 2 ^ d) - 1 ≡ k.own (y / 2 ^ d) - 1
    = a _ _ kx.0 ky.0 kx.1 ky.1 (sym (part_up v k p x) ∙ ap (λ (z : ℕ). z / 2 ^ d) e ∙ part_up v k p y) in
    let low : x % 2 ^ d ≡ y % 2 ^ d = sym (part_low v k p x) ∙ ap (λ (z : ℕ). z % 2 ^ d) e ∙ part_low v k p y in
    let once-x = f.once (x / 2 ^ d) (k.own (x / 2 ^ d) - 1) cx ox in
    let once-y = f.once (y / 2 ^ d) (k.own (y / 2 ^ d) - 1) cy oy in
    let chunk : x / 2 ^ d ≡ y / 2 ^ d = sym once-x ∙ ap (λ (z : ℕ). chunk_for k (suc z)) up ∙ once-y in
    sym (div-add-mod' x (2 ^ d)) ∙ ap₂ (λ (u v : ℕ). u * 2 ^ d + v) chunk low ∙ div-add-mod' y (2 ^ d)
