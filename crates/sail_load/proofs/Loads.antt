-- What load says, and what it leaves.
use mathlib.Core.Path.{◌≡◌, refl, sym, ◌∙◌}
use mathlib.Core.Bool.{true}
use mathlib.Core.List.{List, [], ◌∷◌}
use Prim.Native.Nat.{ℕ, ◌/◌, ◌≤◌}
use native.Mathlib.Omega.{arith}
use lib.ListN.{length}
use Rattle.std.specs.Prelude.{Ok, Err}
use Rattle.routes.specs.Record.{routes_of}
use Rattle.refusals.specs.declared.Refused.{Refused}
use Rattle.routes.specs.Said.{accepted, refused, told, accepts}
use Rattle.routes.specs.Answers.{means_input}
use Rattle.routes.specs.Input.{input_said}
use Rattle.routes.proofs.Rows.{length-routes}
use Rattle.routes.proofs.Meaning.{input-good}
use Rattle.routes.proofs.Saids.{said-ok, said-err, and-then-told, told-off}
use Rattle.sail.specs.Lent.{Lent}
use Rattle.sail.specs.Sizes.{sizes_fault, SizesTold}
use Rattle.sail.specs.declared.table.Table.{Table}
use Rattle.sail_theory.specs.Render.{room_of}
use Rattle.sail_theory.specs.Calls.{load_fault, load_said, out, loaded, input_routes}
use Rattle.sail_theory.proofs.calls.Load.{accepted-loadable, load_is, load-off}
use Rattle.sail_need.specs.Weigh.{terms, Weighs}
use Rattle.sail_renew.specs.Renew.{Renewable, anew}
use Rattle.sail_make.proofs.Makes.{or-refused}

-- what each way through the judgement says
module _ (t : Table) (l : Lent) (input : List ℕ) (z : ℕ) (check : SizesTold z t.geometry l) where
  pub says-sizes : (z ≡ 0 → ⊥) → refused z ≡ load_said t l input
  unfolding load_said
  says-sizes h = rw (← check.number) (sym (or-refused z _ h))

  module _ (fits : z ≡ 0) where
    none : sizes_fault t.geometry l ≡ 0
    none = sym check.number ∙ fits

    pub says-bad : (e : Refused) → means_input (Err e) ≡ input_said input → told e ≡ load_said t l input
    unfolding load_said
    says-bad e q = rw (none, said-err _ _ _ q e refl) (sym (and-then-told e _))

    module _ (n : ℕ) (checked : means_input (Ok n) ≡ input_said input) where
      good : input_said input ≡ accepted (n ∷ [])
      good = said-ok _ _ _ checked n refl

      pub weighs : Weighs t.geometry input n
      weighs = record { valid = (check.facts fits).valid; records = (input-good input n good).1 }

      module _ (f : ℕ) (weighed : f ≡ load_fault (terms t.geometry (room_of l) (length l.own2) (length l.own3)) (routes_of input n)) where
        whole : f ≡ load_fault (terms t.geometry (room_of l) (length l.own2) (length l.own3)) (input_routes input)
        whole = let e : n ≡ length input / 8 = omega (arith, (input-good input n good).0) in rw e at weighed

        pub says-full : (f ≡ 0 → ⊥) → refused f ≡ load_said t l input
        unfolding load_said
        says-full h = rw (none, good, ← whole) (sym (or-refused f _ h))

        pub says-done : f ≡ 0 → accepted [] ≡ load_said t l input
        unfolding load_said
        says-done h = rw (none, good, ← whole, h)

-- the whole call
module _ (t : Table) (l : Lent) (input : List ℕ) where
  pub load-refuses : (e : Refused) → told e ≡ load_said t l input → out (told e) t l ≡ loaded t l input
  load-refuses e q = sym (load-off t l input (told e) (sym q) (told-off e))

  module _ (said : accepted [] ≡ load_said t l input) where
    accepted-said : accepts (load_said t l input) ≡ true
    accepted-said = rw (← said)

    pub renewable : Renewable t input l
    renewable =
        let w = accepted-loadable t l input accepted-said in
        record { readable = record { whole = w.0.whole; records = w.0.records }; loadable = w.1 }

    pub few : length input / 8 ≤ 4096
    few = renewable.readable.records.few

    pub load-loads : (v : Lent) → v ≡ anew t l input → out (accepted []) (record { geometry = t.geometry; count = length input / 8 }) v ≡ loaded t l input
    load-loads v e =
        let w = accepted-loadable t l input accepted-said in
        let n = length-routes input (length input / 8) in
        (λ i. record { said = accepted []; table = record { geometry = t.geometry; count = sym n i }; lent = e i }) ∙ sym (load_is t l input w.0 w.1)
