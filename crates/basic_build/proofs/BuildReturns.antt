-- What each answer of a build says, and what it leaves.
use mathlib.Core.Path.{◌≡◌, refl, ap, ◌∙◌}
use mathlib.Core.Bool.{true, false, true≢false, false≢true}
use mathlib.Core.List.{List, []}
use Prim.Native.Nat.{ℕ, ◌/◌}
use native.Mathlib.Omega.{arith}
use lib.ListN.{length}
use Rattle.routes.specs.Record.{routes_of, GoodInput, routes_in}
use Rattle.routes.specs.Said.{Said, accepted, accepts, said_by, refused_by}
use Rattle.basic.specs.Maps.{map_cells, map_bits}
use Rattle.basic.specs.Meaning.{Prepared}
use Rattle.basic.specs.Calls.{ready_said, means_ready, means_basic_answer}
use Rattle.std.specs.Prelude.{Option, Some, None, Ok, Err}
use Rattle.refusals.specs.Numbers.{number_of}
use Rattle.refusals.specs.declared.Refused.{Refused}
use Rattle.basic.proofs.Checks.{ready-means, ready-ok, ready-err}
use Rattle.basic_build.specs.Built.{MapsOut, maps_out, maps_after, basic_built, MapsFilled}

pub filled_in : (s : List ℕ) (n : ℕ) → GoodInput s n → (ys zs : List ℕ) → zs ≡ map_cells (routes_of s n) → ys ≡ map_bits zs → MapsFilled (routes_in s) ys zs
filled_in s n ok ys zs e q =
    let d : n ≡ length s / 8 = omega (arith, ok.whole) in
    let z : zs ≡ map_cells (routes_in s) = e ∙ ap (λ (x : ℕ). map_cells (routes_of s x)) d in
    record { bits = q ∙ ap map_bits z; cells = z }

-- the ways out of the build
module _ (s bs cs : List ℕ) where
  pub built-good : (n : ℕ) → means_ready (Ok n) ≡ ready_said s (length bs) (length cs) → (ys zs : List ℕ) → MapsFilled (routes_in s) ys zs
      → maps_out (means_basic_answer (Ok tt)) ys zs ≡ basic_built s bs cs
  unfolding basic_built said_by
  built-good n e ys zs f = rw (ready-ok s (length bs) (length cs) n e, f.bits, f.cells)

  pub built-refused : (w : Refused) → means_ready (Err w) ≡ ready_said s (length bs) (length cs)
      → maps_out (means_basic_answer (Err w)) bs cs ≡ basic_built s bs cs
  unfolding basic_built said_by
  built-refused w e = rw (ready-err s (length bs) (length cs) w e) (left (number_of w.why) w.at)
    where
      left : (n : ℕ) (o : Option ℕ) → maps_out (refused_by n o) bs cs ≡ maps_after (refused_by n o) (routes_in s) bs cs
      left n None = refl
      left n (Some k) = refl

module _ (s bs cs : List ℕ) where
  -- a build that is accepted: the input is good, the sizes are right, and the arrays are its maps
  pub record Accepted : Type 0 where
    pub ready : Prepared s bs cs
    pub arrays : basic_built s bs cs ≡ maps_out (accepted []) (map_bits (map_cells (routes_in s))) (map_cells (routes_in s))

  pub built-accepts : accepts (basic_built s bs cs).said ≡ true → Accepted
  unfolding basic_built
  built-accepts e = go (ready_said s (length bs) (length cs)) refl e
    where
      go : (x : Said) → ready_said s (length bs) (length cs) ≡ x → accepts (maps_after x (routes_in s) bs cs).said ≡ true → Accepted
      go (Said.accepted vs) q t =
          let p = ready-means s (length bs) (length cs) vs q in
          record { ready = record { input = p.input; sizes = p.sizes }; arrays = rw q refl }
      go (Said.refused n) q t = absurd (false≢true t)
      go (Said.refused_at n k) q t = absurd (false≢true t)

  -- "A refusal returns its number": the arrays are as before the call
  pub refused-leaves : accepts (basic_built s bs cs).said ≡ false → ((basic_built s bs cs).bits ≡ bs) × ((basic_built s bs cs).cells ≡ cs)
  unfolding basic_built
  refused-leaves e = go (ready_said s (length bs) (length cs)) e
    where
      end : Said → MapsOut
      end x = maps_after x (routes_in s) bs cs

      go : (x : Said) → accepts (end x).said ≡ false → ((end x).bits ≡ bs) × ((end x).cells ≡ cs)
      go (Said.accepted vs) t = absurd (true≢false t)
      go (Said.refused n) t = (refl, refl)
      go (Said.refused_at n k) t = (refl, refl)
