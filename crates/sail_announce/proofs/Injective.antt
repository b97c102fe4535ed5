-- Two answers of announce that are told the same are the same.
use mathlib.Core.Path.{◌≡◌, ap}
use Rattle.sail_theory.proofs.calls.Cleared.{bit-once}
use Rattle.sail_announce.specs.Answers.{means_announce}
use Rattle.sail_announce.specs.declared.answers.Announce.{Announce}
use Rattle.sail_announce.specs.declared.answers.Announce.TheVariants as announce

pub announce-injective : (x y : Announce) → means_announce x ≡ means_announce y → x ≡ y
unfolding means_announce
announce-injective (announce.Added b) (announce.Added c) e = ap announce.Added (bit-once b c cc)
announce-injective (announce.Added b) (announce.Replaced c) e = cc
announce-injective (announce.Added b) (announce.Refused k) e = cc
announce-injective (announce.Replaced b) (announce.Added c) e = cc
announce-injective (announce.Replaced b) (announce.Replaced c) e = ap announce.Replaced (bit-once b c cc)
announce-injective (announce.Replaced b) (announce.Refused k) e = cc
announce-injective (announce.Refused j) (announce.Added c) e = cc
announce-injective (announce.Refused j) (announce.Replaced c) e = cc
announce-injective (announce.Refused j) (announce.Refused k) e = cc
