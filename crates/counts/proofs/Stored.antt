-- Counts stored for the places of a level: they are right exactly where their array is that of the tallies.
use mathlib.Core.Path.{◌≡◌, ◌∙◌}
use mathlib.Core.Logic.{◌⊎◌, inl, inr}
use mathlib.Core.Bool.{Bool, true, false, cond}
use mathlib.Core.List.{List}
use Prim.Native.Nat.{ℕ, ◌<◌}
use lib.ListN.{get_or, length}
use Rattle.bits.proofs.Bools.{decided}
use Rattle.bits.proofs.Tabs.{length-tabulate, get_d_tabulate, is-tabulate}
use Rattle.routes.specs.declared.Route.{Route}
use Rattle.counts.specs.Counts.{how_many, CountedBy, tallies}

module _ (rs : List Route) (p places : ℕ) (live : ℕ → Bool) (at : ℕ → ℕ) where
  pub length-tallies : length (tallies rs p places live at) ≡ places
  unfolding tallies
  length-tallies = length-tabulate places _

  pub tallies-counted : CountedBy rs p places live at (λ q. get_or (tallies rs p places live at) q 0)
  unfolding tallies
  tallies-counted = record {
    true_there = λ q l e. get_d_tabulate places _ q 0 l ∙ rw e;
    blank = λ q l e. get_d_tabulate places _ q 0 l ∙ rw e;
  }

  pub counted-tallies : (counts : List ℕ) → length counts ≡ places → CountedBy rs p places live at (λ q. get_or counts q 0)
      → counts ≡ tallies rs p places live at
  unfolding tallies
  counted-tallies counts h c = is-tabulate 0 counts places _ h (λ q l. go q l (decided (live q)))
    where
      go : (q : ℕ) → q < places → (live q ≡ true) ⊎ (live q ≡ false) → get_or counts q 0 ≡ cond (live q) (how_many rs p (at q)) 0
      go q l (inl e) = rw e (c.true_there q l e)
      go q l (inr e) = rw e (c.blank q l e)
