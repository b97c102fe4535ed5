-- What `fill` leaves of numbers, and a list that is filled from end to end.
use mathlib.Core.Path.{◌≡◌, sym, ◌∙◌}
use mathlib.Core.List.{List}
use Prim.Native.Nat.{ℕ, ◌<◌, zero-le}
use native.Mathlib.Omega.{arith}
use lib.ListN.{length, replicate, length-replicate, get_or-replicate}
use lib.Seq.{ext_get_or}
use Rattle.bits.proofs.Tabs.{length-tabulate, get_d_tabulate}
use Rattle.buffers.specs.Fill.{filled}
use Rattle.buffers.proofs.Ranges.{between_in}

-- what it says of clones holds of numbers, whose clone is the number itself
pub now_set : {v : ℕ} {P : Type 0} → (((y : ℕ) → y ≡ v → y ≡ v) → P) → P
now_set f = f (λ y e. e)

-- a list that is filled from end to end
pub filled-whole : (l : List ℕ) (n v : ℕ) → n ≡ length l → filled l 0 n v ≡ replicate n v
unfolding filled
filled-whole l n v e =
    ext_get_or 0 (filled l 0 n v) (replicate n v) (length-tabulate (length l) _ ∙ sym e ∙ sym (length-replicate n v))
    (λ i h.
    let k : i < length l = rw length-tabulate at h in
    get_d_tabulate {A = ℕ} (length l) _ i 0 k ∙ rw (between_in 0 n i zero-le (omega arith)) (sym (get_or-replicate {A = ℕ} n i v 0 (omega arith))))
