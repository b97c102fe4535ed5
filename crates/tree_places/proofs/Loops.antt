-- The loop that changes bases: what is done so far, one turn more, and what is left; and bases that can be lowered.
use mathlib.Core.Path.{◌≡◌, refl, ◌∙◌, ap, subst}
use mathlib.Core.List.{List}
use Prim.Native.Nat.{ℕ, ◌+◌, ◌*◌, ◌≤◌, ◌<◌}
use native.Mathlib.Nat.{le_refl}
use native.Mathlib.Omega.{arith}
use lib.ListN.{length, get_or, set, length-set}
use lib.Seq.{get_or-set_other}
use Rattle.tree_hold.specs.Moves.{each}
use Rattle.tree_hold.proofs.Each.{each_none, each_more}
use Rattle.tree_places.specs.Bases.{WordsLent, AnswersAs, Lowerable}

-- ---- the loop: word d of the nodes from a up to i is changed

-- what holds whatever the words are changed to: those ahead are still what they were
pub record Ahead (ws₀ : List ℕ) (d a b : ℕ) (ws : List ℕ) (i : ℕ) : Type 0 where
  pub begun : a ≤ i
  pub within : i ≤ b
  pub size : length ws ≡ length ws₀
  pub still : (j : ℕ) → i ≤ j → get_or ws (3 * j + d) 0 ≡ get_or ws₀ (3 * j + d) 0

pub ahead-none : {ws : List ℕ} {d a b : ℕ} → WordsLent ws d a b → Ahead ws d a b ws a
ahead-none {ws} {d} {a} {b} s = record { begun = le_refl a; within = s.order; size = refl; still = λ j l. refl }

pub ahead-more : {ws₀ : List ℕ} {d a b : ℕ} {ws : List ℕ} {i : ℕ} (y : ℕ) → Ahead ws₀ d a b ws i → i < b → Ahead ws₀ d a b (set ws (3 * i + d) y) (i + 1)
ahead-more {ws₀} {d} {a} {b} {ws} {i} y c t = record {
  begun = let l = c.begun in omega arith;
  within = omega arith;
  size = length-set ws _ _ ∙ c.size;
  still = λ j l. get_or-set_other ws (3 * i + d) (3 * j + d) y 0 (λ (e : 3 * j + d ≡ 3 * i + d). omega arith) ∙ c.still j (omega arith);
}

-- and what they are, where the calls answer as f does
abbrev pub ChangedTo : (ℕ → ℕ → Type 0) → List ℕ → ℕ → ℕ → ℕ → List ℕ → ℕ → Type 0
ChangedTo post ws₀ d a b ws i = (f : ℕ → ℕ) → AnswersAs post f ws₀ d a b → ws ≡ each f ws₀ d a i

module _ (post : ℕ → ℕ → Type 0) {ws₀ : List ℕ} {d a b : ℕ} {ws : List ℕ} {i : ℕ} (s : WordsLent ws₀ d a b) (c : Ahead ws₀ d a b ws i)
    (is : ChangedTo post ws₀ d a b ws i) where
  pub changed-more : i < b → {y : ℕ} → post (get_or ws (3 * i + d) 0) y → ChangedTo post ws₀ d a b (set ws (3 * i + d) y) (i + 1)
  changed-more t {y} p f q =
      let e : y ≡ f (get_or ws₀ (3 * i + d) 0) = q i y c.begun t (subst (λ (z : ℕ). post z y) (c.still i (le_refl i)) p) in
      ap (λ (z : ℕ). set ws (3 * i + d) z) e
      ∙ ap (λ (v : List ℕ). set v (3 * i + d) (f (get_or ws₀ (3 * i + d) 0))) (is f q)
      ∙ each_more f ws₀ d a i s.word c.begun

pub changed-none : (post : ℕ → ℕ → Type 0) (ws : List ℕ) (d a b : ℕ) → ChangedTo post ws d a b ws a
changed-none post ws d a b f q = each_none f ws d a

-- the bases after node x can be lowered, also once the bits of x are changed
pub lowerable-set : (ws : List ℕ) (x v d b : ℕ) → 0 < d → d < 3 → x < b → 3 * b ≤ length ws → ((i : ℕ) → x < i → i < b → 1 ≤ get_or ws (3 * i + d) 0)
    → Lowerable (set ws (3 * x) v) d (x + 1) b
lowerable-set ws x v d b z l u r some = record {
  stretch = record { word = l; order = omega arith; room = omega (arith, length-set ws (3 * x) v) };
  some = λ i p q.
      omega (arith, get_or-set_other ws (3 * x) (3 * i + d) v 0 (λ (e : 3 * i + d ≡ 3 * x). omega arith), some i (omega arith) q);
}
