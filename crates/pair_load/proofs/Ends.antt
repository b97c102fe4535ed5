-- How a party's load ends: refused, all as it was; accepted, the box that is asked for.
use mathlib.Core.Path.{◌≡◌, refl, sym, ◌∙◌, ap}
use mathlib.Core.Bool.{Bool, true, false, not, cond, true≢false, false≢true}
use mathlib.Core.List.{List, [], ◌∷◌}
use Prim.Native.Nat.{ℕ, ◌/◌, ◌≤◌}
use native.Mathlib.Omega.{arith}
use lib.ListN.{length}
use Rattle.routes.specs.Input.{input_said}
use Rattle.routes.specs.Said.{Said, accepted, refused, told, and_then, accepts}
use Rattle.routes.specs.declared.Route.{Route}
use Rattle.refusals.specs.declared.Refused.{Refused}
use Rattle.routes.proofs.Saids.{told-off}
use Rattle.routes.proofs.Judged.{good-whole, bad-stops, by-input}
use Rattle.routes.proofs.Rows.{length-routes}
use Rattle.sail.specs.Lent.{Lent}
use Rattle.sail_theory.specs.Calls.{Owners, load_fault, or_say, input_routes, owners_of}
use Rattle.sail_renew.specs.Renew.{WholeRecords}
use Rattle.pair.specs.Party.{Party, one, two}
use Rattle.pair.specs.PairLent.{PairLent, side, pair_owners}
use Rattle.pair.specs.PairSound.{pair_sizes_fault, PairSound, pair_sound?}
use Rattle.pair.specs.PairCalls.{pair_terms, pair_load_said, pair_out, with_count, pair_lent_of, pair_loaded}
use Rattle.pair.specs.declared.Pair.{Pair}
use Rattle.pair.proofs.Offers.{OnTerms, load-offer}
use Rattle.pair.proofs.PairFresh.{or-accepts, ends-accepted, ends-refused}
use Rattle.pair.proofs.PairTest.{pair-sound-tells}
use Rattle.pair.proofs.Shifts.{load-shift}
use Rattle.pair_cells.specs.Sides.{side_left, with_side}
use Rattle.pair_cells.proofs.Boxes.{shift-box}
use Rattle.pair_load.specs.Told.{sound_told}
use Rattle.pair_load.specs.SideLoads.{LoadReady, load_owners, side_loaded}

-- an input that is accepted has whole good records
whole-input : (input : List ℕ) (rest : Said) → accepts (and_then (input_said input) rest) ≡ true → WholeRecords input
whole-input input rest = by-input input (λ s. accepts (and_then s rest) ≡ true → WholeRecords input)
    (λ s b a. absurd (false≢true (sym b.not_accepted ∙ (rw (bad-stops s rest b.not_accepted) at a))))
    (λ n p a.
    let w = good-whole input n p in
    let q : n ≡ length input / 8 = omega (arith, w.0) in
    record { whole = omega (arith, w.0); records = rw q at w.1 })

owners-side : (w : Party) (b : PairLent) → owners_of (side w b) ≡ pair_owners b
owners-side one b = refl
owners-side two b = refl

module _ (w : Party) (t : Pair) (b : PairLent) (input : List ℕ) where
  abbrev rs : List Route
  rs = input_routes input

  pub load-refuses : (e : Refused) → told e ≡ pair_load_said w t b input → pair_out (told e) t b ≡ pair_loaded w t b input
  unfolding pair_loaded
  load-refuses e q =
      let no : accepts (pair_load_said w t b input) ≡ false = rw q at (told-off e) in
      ap (λ (s : Said). pair_out s t b) q ∙ sym (ends-refused (pair_load_said w t b input) t b _ _ no)

  module _ (said : accepted [] ≡ pair_load_said w t b input) where
    yes-said : accepts (pair_load_said w t b input) ≡ true
    yes-said = rw (← said)

    sized : (pair_sizes_fault t.geometry b ≡ 0) × (accepts (sound_told w t b input) ≡ true)
    unfolding pair_load_said
    sized = or-accepts _ _ yes-said

    passes : (x : Bool) (rest : Said) → accepts (cond (not x) (refused 5) rest) ≡ true
        → (x ≡ true) × (accepts rest ≡ true)
    passes true rest e = (refl, e)
    passes false rest e = absurd (false≢true e)

    abbrev rest : Said
    rest = or_say (load_fault (pair_terms w t b) rs) (accepted [])

    sound-input : (pair_sound? t b ≡ true) × (accepts (and_then (input_said input) rest) ≡ true)
    sound-input = passes (pair_sound? t b) (and_then (input_said input) rest) sized.1

    sound : PairSound t b
    sound = (pair-sound-tells t b).0 sound-input.0

    within : OnTerms (pair_terms w t b) rs
    within = load-offer (pair_terms w t b) input sound-input.1

    pub load-ready : LoadReady w t (side w b) input
    load-ready = record {
      box = b;
      is = refl;
      sound = sound;
      readable = whole-input input rest sound-input.1;
      roomy = within.roomy;
      enough2 = within.enough2;
      enough3 = within.enough3;
    }

    pub few : length input / 8 ≤ 4096
    few = load-ready.readable.records.few

    pub load-loads : (l : Lent) → l ≡ side_loaded w t (side w b) input → (u : Pair) → u ≡ with_count w (length input / 8) t
        → pair_out (accepted []) u (with_side w l b) ≡ pair_loaded w t b input
    unfolding pair_loaded
    load-loads l is u counts =
        let o : Owners = load_owners w t (pair_owners b) input in
        let k = load-shift w t b sound rs within.good within.roomy within.enough2 within.enough3 in
        let side-is : l ≡ side_left w t.geometry (side w b) rs o
        = is ∙ ap (λ (x : Owners). side_left w t.geometry (side w b) rs (load_owners w t x input)) (owners-side w b) in
        let box : with_side w l b ≡ pair_lent_of w t b rs o = ap (λ (x : Lent). with_side w x b) side-is ∙ shift-box t b rs o w k in
        let state : u ≡ with_count w (length rs) t = counts ∙ ap (λ (n : ℕ). with_count w n t) (sym (length-routes input (length input / 8))) in
        (λ i. record { said = said i; state = state i; lent = box i })
        ∙ sym (ends-accepted (pair_load_said w t b input) t b (with_count w (length rs) t) (pair_lent_of w t b rs o) yes-said)

-- The same by the code's flag, which says whose side it is.
module _ (v : Party) (t : Pair) (b : PairLent) (input : List ℕ) (said : accepted [] ≡ pair_load_said v t b input) (w : Party) (is : v ≡ w) where
  said-as : accepted [] ≡ pair_load_said w t b input
  said-as = rw is at said

  pub ready-as : LoadReady w t (side w b) input
  ready-as = load-ready w t b input said-as

  pub loads-as : (l : Lent) → l ≡ side_loaded w t (side w b) input → (u : Pair) → u ≡ with_count v (length input / 8) t
      → pair_out (accepted []) u (with_side w l b) ≡ pair_loaded v t b input
  loads-as l left u counts = rw is (load-loads w t b input said-as l left u (rw is at counts))
