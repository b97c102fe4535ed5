-- The list that load leaves: the input's bytes are those of its routes.
use mathlib.Core.Path.{◌≡◌, sym, ◌∙◌, ap}
use mathlib.Core.Logic.{◌⊎◌, inl, inr}
use mathlib.Core.List.{List}
use Prim.Native.Nat.{ℕ, ◌+◌, ◌*◌, ◌/◌, ◌%◌, ◌<◌, ◌≤◌}
use native.Mathlib.Omega.{arith}
use lib.ListN.{length, get_or, get_or-eq_default}
use lib.Seq.{ext_get_or}
use Rattle.bits.proofs.Bools.{below?}
use Rattle.bits.proofs.Tabs.{length-tabulate, get_d_tabulate}
use Rattle.routes.specs.Record.{written}
use Rattle.routes.proofs.Rows.{length-routes, length-written, byte-written, zero-written, listed-written}
use Rattle.sail_theory.specs.Calls.{input_routes}
use Rattle.buffers.specs.Fill.{padded}
use Rattle.sail_renew.specs.Renew.{WholeRecords}

module _ (s : List ℕ) (bytes : (j : ℕ) → get_or s j 0 < 256) (good : WholeRecords s) where
  abbrev n : ℕ
  n = length s / 8

  itself : s ≡ written (input_routes s) n
  itself = listed-written s n bytes (record {
    records = good.records;
    whole = omega (arith, good.whole);
    zeros = λ j a b. absurd
        (omega (arith, good.whole));
  })

  pub padded-written : (room : ℕ) → n ≤ room → padded s (room * 8) ≡ written (input_routes s) room
  unfolding padded
  padded-written room fits =
      ext_get_or 0 _ (written (input_routes s) room) (length-tabulate (room * 8) _ ∙ sym (length-written (input_routes s) room))
      (λ j h.
      let k : j < room * 8 = rw length-tabulate at h in
      get_d_tabulate {A = ℕ} (room * 8) _ j 0 k ∙ go j k (below? (j / 8) n))
    where
      go : (j : ℕ) → j < room * 8 → (j / 8 < n) ⊎ (n ≤ j / 8) → get_or s j 0 ≡ get_or (written (input_routes s) room) j 0
      go j h (inl l) =
          let m = length-routes s n in
          let e : j / 8 * 8 + j % 8 ≡ j = omega arith in
          let x = byte-written (input_routes s) n (j / 8) (j % 8) (omega arith) (omega arith) (omega arith) in
          let y = byte-written (input_routes s) room (j / 8) (j % 8) (omega arith) (omega arith) (omega arith) in
          ap (λ (xs : List ℕ). get_or xs j 0) itself ∙ (rw e at (x ∙ sym y))
      go j h (inr l) =
          let m = length-routes s n in
          let w = good.whole in
          get_or-eq_default s 0 (omega arith) ∙ sym (zero-written (input_routes s) room j (omega arith) h)
