-- The check before every call: what each of its answers says, and that it accepts exactly good inputs with arrays of the right sizes.
use mathlib.Core.Path.{◌≡◌, sym, ap, ◌∙◌, subst}
use mathlib.Core.Logic.{◌⊎◌, inl, inr}
use mathlib.Core.Bool.{Bool, true, false, not, cond}
use mathlib.Core.List.{List, [], ◌∷◌}
use Prim.Native.Nat.{ℕ, ◌*◌, ◌/◌}
use native.Mathlib.Omega.{arith}
use lib.Dec.{eqb}
use lib.ListN.{length}
use borrow.Author.Tests.{eqb-true, eq-eqb, not-true, not-false}
use Rattle.bits.proofs.Bools.{decided, and_split, both}
use Rattle.routes.specs.Answers.{means_input}
use Rattle.routes.specs.Input.{input_said}
use Rattle.routes.specs.Record.{Records, GoodInput}
use Rattle.routes.specs.Said.{Said, accepted, refused, and_then, said_by, told}
use Rattle.std.specs.Prelude.{None, Ok, Err}
use Rattle.refusals.specs.declared.Refusal.TheVariants as refusal
use Rattle.refusals.specs.declared.Refused.{Refused}
use Rattle.routes.proofs.Inputs.{input-ok, input-err}
use Rattle.routes.proofs.Saids.{and-then-told}
use Rattle.routes.specs.Cases.{Checked}
use Rattle.routes.proofs.Meaning.{input-checked, input-good, good-input}
use Rattle.basic.specs.Maps.{MapSizes}
use Rattle.basic.specs.Calls.{map_sizes_fit, ready_said, means_ready}

-- the sizes
module _ (b c : ℕ) where
  pub fit-sizes : map_sizes_fit b c ≡ true → MapSizes b c
  unfolding map_sizes_fit
  fit-sizes e = let p = and_split (eqb b 16384) (eqb c 131071) e in record { bytes = eqb-true b 16384 p.0; hops = eqb-true c 131071 p.1 }

  pub sizes-fit : MapSizes b c → map_sizes_fit b c ≡ true
  unfolding map_sizes_fit
  sizes-fit z = both (eq-eqb b 16384 z.bytes) (eq-eqb c 131071 z.hops)

-- the ways out of the check
module _ (s : List ℕ) (b c : ℕ) where
  module _ (n : ℕ) (e : means_input (Ok n) ≡ input_said s) (t : Bool) (et : t ≡ map_sizes_fit b c) where
    pub ready-good : not t ≡ false → means_ready (Ok n) ≡ ready_said s b c
    unfolding said_by ready_said
    ready-good u =
        let w = (input-good s n (input-ok s n e)).0 in
        let d : length s / 8 ≡ n = omega arith in
        rw (input-ok s n e, ← et, not-false t u, d)

    pub ready-sizes : not t ≡ true → means_ready (Err (record { why = refusal.Size; at = None })) ≡ ready_said s b c
    unfolding said_by ready_said
    ready-sizes u = rw (input-ok s n e, ← et, not-true t u)

  pub ready-refused : (w : Refused) → means_input (Err w) ≡ input_said s → means_ready (Err w) ≡ ready_said s b c
  unfolding said_by ready_said
  ready-refused w e = rw (input-err s w e) (sym (and-then-told w _))

-- accepted exactly where the input is good and the sizes are right
pub record Ready-is (s : List ℕ) (b c : ℕ) (vs : List ℕ) : Type 0 where
  pub told : vs ≡ length s / 8 ∷ []
  pub input : GoodInput s (length s / 8)
  pub sizes : MapSizes b c

pub ready-means : (s : List ℕ) (b c : ℕ) (vs : List ℕ) → ready_said s b c ≡ accepted vs → Ready-is s b c vs
unfolding ready_said
ready-means s b c vs e = go (input-checked s) e
  where
    sized : Said
    sized = cond (map_sizes_fit b c) (accepted (length s / 8 ∷ [])) (refused 2)

    go : {x : Said} → Checked s x → and_then x sized ≡ accepted vs → Ready-is s b c vs
    go (Checked.ragged w) q = absurd (let z : ◌≡◌ {A = ℕ} 0 1 = cc in omega arith)
    go (Checked.stopped k f w l p x y) q = absurd (let z : ◌≡◌ {A = ℕ} 0 1 = cc in omega arith)
    go (Checked.many w a m) q = absurd (let z : ◌≡◌ {A = ℕ} 0 1 = cc in omega arith)
    go (Checked.good m w r) q = at (decided (map_sizes_fit b c)) q
      where
        at : (map_sizes_fit b c ≡ true) ⊎ (map_sizes_fit b c ≡ false) → sized ≡ accepted vs → Ready-is s b c vs
        at (inl t) q =
            let z : ◌≡◌ {A = Said} (accepted (length s / 8 ∷ [])) (accepted vs) = rw t at q in
            let k : m ≡ length s / 8 = omega arith in
            record { told = cc; input = record { records = subst (Records s) k r; whole = w ∙ ap (λ (x : ℕ). x * 8) k }; sizes = fit-sizes b c t }
        at (inr t) q = absurd (let y : ◌≡◌ {A = Said} (refused 2) (accepted vs) = rw t at q in let z : ◌≡◌ {A = ℕ} 0 1 = cc in omega arith)

pub ready-is : (s : List ℕ) (b c n : ℕ) → GoodInput s n → MapSizes b c → ready_said s b c ≡ accepted (n ∷ [])
unfolding ready_said
ready-is s b c n ok z =
    let d : length s / 8 ≡ n = omega (arith, ok.whole) in
    rw (good-input s n ok.whole ok.records, sizes-fit b c z, d)

-- what a caller of `check` knows by its arm
module _ (s : List ℕ) (b c : ℕ) where
  pub ready-ok : (n : ℕ) → means_ready (Ok n) ≡ ready_said s b c → ready_said s b c ≡ accepted (n ∷ [])
  unfolding said_by
  ready-ok n e = sym e

  pub ready-err : (w : Refused) → means_ready (Err w) ≡ ready_said s b c → ready_said s b c ≡ told w
  unfolding said_by
  ready-err w e = sym e

  pub good-told : (n : ℕ) → means_ready (Ok n) ≡ ready_said s b c → GoodInput s n × MapSizes b c
  good-told n e =
      let m = ready-means s b c (n ∷ []) (ready-ok n e) in
      let k : length s / 8 ≡ n = cc m.told in
      (subst (GoodInput s) k m.input, m.sizes)
