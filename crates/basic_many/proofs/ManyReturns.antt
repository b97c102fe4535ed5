-- What each answer of many lookups in bit maps says, and what it leaves.
use mathlib.Core.Path.{◌≡◌, refl, ap, ◌∙◌}
use mathlib.Core.List.{List, []}
use Prim.Native.Nat.{ℕ, ◌+◌, ◌*◌, ◌≤◌, ◌<◌}
use native.Mathlib.Omega.{arith}
use lib.ListN.{length, get_or}
use borrow.Author.Tests.{eq-eqb, ne_eqb}
use Rattle.bits.proofs.Tabs.{is-tabulate}
use Rattle.routes.specs.Record.{GoodInput, routes_in}
use Rattle.routes.specs.Said.{accepted, packed, said_by, told, refused_by}
use Rattle.basic.specs.Maps.{MapSizes}
use Rattle.basic.specs.Walk.{as_met, basic_walk, met_said}
use Rattle.basic.specs.Calls.{ready_said, means_ready, basic_said, means_basic_found, means_basic_answer}
use Rattle.basic.specs.Calls.{hop_word, Many, many, many_of, many_after, basic_many}
use Rattle.std.specs.Prelude.{Option, Some, None, Result, Ok, Err, unwrap_or}
use Rattle.refusals.specs.Numbers.{number_of}
use Rattle.refusals.specs.declared.Refusal.TheVariants as refusal
use Rattle.refusals.specs.declared.Refused.{Refused}
use Rattle.basic.proofs.Checks.{ready-is, ready-ok, ready-err}

-- a refusal as a word
module _ (n x : ℕ) (e : x ≡ n) (b : x < 256) where
  pub word-index : (k : ℕ) → x + 256 ≡ hop_word (refused_by n (Some k))
  unfolding packed
  word-index k = omega arith

  pub word-number : x ≡ hop_word (refused_by n None)
  unfolding packed
  word-number = omega arith

pub word-hop : (o : Option ℕ) (x : ℕ) → x ≡ unwrap_or o 0 → x < 65536 → x * 65536 ≡ hop_word (means_basic_found (Ok o))
unfolding said_by packed
word-hop None x e b = omega arith
word-hop (Some h) x e b = omega arith

pub word-err : (w : Refused) → hop_word (told w) ≡ hop_word (means_basic_found (Err w))
unfolding said_by
word-err w = refl

-- many lookups
pub each_word : (s bs cs : List ℕ) (n a x : ℕ) (met : Option ℕ) (y : Result (Option ℕ) Refused) → GoodInput s n × MapSizes (length bs) (length cs)
    → as_met met ≡ basic_walk (routes_in s) bs cs a → means_basic_found y ≡ met_said (as_met met) → x ≡ hop_word (means_basic_found y) → x ≡ hop_word (basic_said s bs cs a)
unfolding basic_said
each_word s bs cs n a x met y ok ew ey ex = ex ∙ ap hop_word ey ∙ rw (ready-is s (length bs) (length cs) n ok.0 ok.1, ew)

module _ (s bs cs ads ws : List ℕ) where
  pub each-refused : (length ws ≡ length ads → ⊥)
      → many (means_basic_answer (Err (record { why = refusal.Size; at = None }))) ws ≡ many_of s bs cs ads ws
  unfolding many_of said_by
  each-refused h = rw (ne_eqb (length ws) (length ads) h)

  pub each-done : (ys : List ℕ) (k : ℕ) → length ws ≡ length ads → length ys ≡ length ws → length ads ≤ k
      → ((j : ℕ) → j < k → get_or ys j 0 ≡ hop_word (basic_said s bs cs (get_or ads j 0))) → many (means_basic_answer (Ok tt)) ys ≡ many_of s bs cs ads ws
  unfolding many_of said_by
  each-done ys k e q l h =
      rw (eq-eqb (length ws) (length ads) e)
      (ap (many (accepted [])) (is-tabulate 0 ys (length ads) (λ j. hop_word (basic_said s bs cs (get_or ads j 0))) (q ∙ e) (λ j u. h j (omega arith))))

  pub many-good : (n : ℕ) → means_ready (Ok n) ≡ ready_said s (length bs) (length cs) → (m : Many) → m ≡ many_of s bs cs ads ws
      → m ≡ basic_many s bs cs ads ws
  unfolding basic_many
  many-good n e m p = p ∙ rw (ready-ok s (length bs) (length cs) n e)

  pub many-refused : (w : Refused) → means_ready (Err w) ≡ ready_said s (length bs) (length cs)
      → many (means_basic_answer (Err w)) ws ≡ basic_many s bs cs ads ws
  unfolding basic_many said_by
  many-refused w e = rw (ready-err s (length bs) (length cs) w e) (left (number_of w.why) w.at)
    where
      left : (n : ℕ) (o : Option ℕ) → many (refused_by n o) ws ≡ many_after (refused_by n o) (many_of s bs cs ads ws) ws
      left n None = refl
      left n (Some k) = refl
