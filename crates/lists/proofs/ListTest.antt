-- What the test of a list asks for is that it holds n routes and nothing else: a record without fault is right, and one that is right has none.
use mathlib.Core.Path.{◌≡◌}
use mathlib.Core.Bool.{Bool, true, false, not}
use mathlib.Core.List.{List}
use Prim.Native.Nat.{ℕ, ◌*◌, ◌%◌, ◌≤◌}
use lib.ListN.{length}
use Rattle.bits.specs.Tab.{Tells}
use Rattle.bits.proofs.Tells.{tells-same, refuted, passed}
use Rattle.routes.specs.Record.{Listed}
use Rattle.routes.proofs.Meaning.{right-fault, fault-right, right-records, records-right}
use Rattle.buffers_test.specs.Zeros.{Zeros}
use Rattle.lists.specs.ListTest.{NoFaults}

module _ (s : List ℕ) (n : ℕ) where
  all_right : Listed s n → NoFaults s n
  all_right h = record { each = λ k l. right-fault s k (records-right s n h.records k l) }

  listed : length s % 8 ≡ 0 → n ≤ 4096 → n * 8 ≤ length s → NoFaults s n → Zeros s (n * 8) (length s) → Listed s n
  listed w f r a z = record { records = right-records s n (λ k l. fault-right s k (a.each k l)) r f; whole = w; zeros = z.each }

  -- the answers of the code
  pub not_right : (b : Bool) → Tells b (NoFaults s n) → not b ≡ true → Tells false (Listed s n)
  not_right b t e = refuted t e all_right

  pub then-zeros : (b r : Bool) → length s % 8 ≡ 0 → n ≤ 4096 → n * 8 ≤ length s → Tells b (NoFaults s n) → not b ≡ false
      → Tells r (Zeros s (n * 8) (length s)) → Tells r (Listed s n)
  then-zeros b r w f m t e = tells-same (listed w f m (passed t e)) (λ h. record { each = h.zeros })
