-- Packed answers beside what is lent.
use mathlib.Core.Path.{◌≡◌, refl, ◌∙◌, ap}
use Rattle.std.specs.Prelude.{Result, Ok, Err}
use Rattle.std.specs.Result.{result_unwrap_or}
use Rattle.sail_theory.specs.After.{state_after}
use mathlib.Core.List.{List}
use Prim.Native.Nat.{ℕ, min}
use Rattle.routes.specs.Said.{Said}
use Rattle.sail.specs.Lent.{Lent}
use Rattle.sail.specs.declared.table.Table.{Table}
use Rattle.sail_theory.specs.Calls.{route, Out, out, announced, withdrawn}
use Rattle.tree_build.specs.Built as tree
use Rattle.packing.specs.Pack.{pack_change, pack_built}
use Rattle.cards.proofs.Narrow.{announced-narrow, withdrawn-narrow}
use Rattle.cards.specs.Cards.{card, card_of, image_card, image_card_of}

pub card-is : (s : Said) (t : Table) (l : Lent) (o : Out) (r : ℕ) → out s t l ≡ o → r ≡ pack_change t.count s → card r l ≡ card_of o
unfolding card_of
card-is s t l o r e q = ap (λ (x : ℕ). card x l) q ∙ ap card_of e

-- a call that answers with the new state, or why there is none: a refusal leaves the one that was given
pub or-after : {S E : Type 0} (t : S) (r : Result S E) → result_unwrap_or r t ≡ state_after t r
or-after t (Ok u) = refl
or-after t (Err e) = refl

pub new-state-card : {E : Type 0} (s : Said) (t : Table) (x : Result Table E) (l : Lent) (o : Out) (r : ℕ) → out s (state_after t x) l ≡ o
    → r ≡ pack_change (result_unwrap_or x t).count s → card r l ≡ card_of o
new-state-card s t x l o r e q = card-is s (state_after t x) l o r e (q ∙ ap (λ (u : Table). pack_change u.count s) (or-after t x))

-- the same of calls whose numbers were narrowed
module _ (t : Table) (l : Lent) (a len n : ℕ) (e : n ≡ min len 255) (s : Said) (t' : Table) (l' : Lent) (r : ℕ) where
  pub announce-card : (hop m : ℕ) → m ≡ min hop 65535 → (mark k : ℕ) → k ≡ min mark 255 → out s t' l' ≡ announced t l (route a n m k)
      → r ≡ pack_change t'.count s → card r l' ≡ card_of (announced t l (route a len hop mark))
  announce-card hop m q mark k u is = card-is s t' l' _ r (is ∙ announced-narrow t l a len hop mark n m k e q u)

  pub withdraw-card : out s t' l' ≡ withdrawn t l a n → r ≡ pack_change t'.count s → card r l' ≡ card_of (withdrawn t l a len)
  withdraw-card is = card-is s t' l' _ r (is ∙ withdrawn-narrow t l a len n e)

pub image-card-is : (s : Said) (ws hs : List ℕ) (o : tree.ImageOut) (r : ℕ) → tree.image_out s ws hs ≡ o → r ≡ pack_built s → image_card r ws hs ≡ image_card_of o
unfolding image_card_of
image-card-is s ws hs o r e q = ap (λ (x : ℕ). image_card x ws hs) q ∙ ap image_card_of e
