-- Two answers of withdraw that are told the same are the same.
use mathlib.Core.Path.{◌≡◌, ap}
use Rattle.sail_theory.proofs.calls.Cleared.{bit-once}
use Rattle.sail_withdraw.specs.Answers.{means_withdraw}
use Rattle.sail_withdraw.specs.declared.answers.Withdraw.{Withdraw}
use Rattle.sail_withdraw.specs.declared.answers.Withdraw.TheVariants as withdraw

pub withdraw-injective : (x y : Withdraw) → means_withdraw x ≡ means_withdraw y → x ≡ y
unfolding means_withdraw
withdraw-injective (withdraw.Removed b) (withdraw.Removed c) e = ap withdraw.Removed (bit-once b c cc)
withdraw-injective (withdraw.Removed b) (withdraw.Refused k) e = cc
withdraw-injective (withdraw.Refused j) (withdraw.Removed c) e = cc
withdraw-injective (withdraw.Refused j) (withdraw.Refused k) e = cc
