-- A repair's statement leaves one answer: two outcomes that meet it are equal.
use mathlib.Core.Path.{◌≡◌, sym, ◌∙◌, ap}
use Rattle.sail.specs.Lent.{Lent}
use Rattle.sail.specs.declared.table.Table.{Table}
use Rattle.sail_theory.specs.Calls.{Out, out}
use Rattle.repair.specs.Answers.{means_repaired}
use Rattle.repair.specs.Contract.{MeetsRepair}
use Rattle.repair.specs.declared.repair.Repaired.{Repaired}
use Rattle.repair.specs.declared.repair.Repaired.TheVariants.{Done, Refused}
use Rattle.repair.specs.declared.repair.RepairedTable.{RepairedTable}

-- two answers that are told the same are the same
pub repaired-injective : (x y : Repaired) → means_repaired x ≡ means_repaired y → x ≡ y
unfolding means_repaired
repaired-injective (Done a b c d) (Done p q r s) e = cc
repaired-injective (Done a b c d) (Refused n) e = cc
repaired-injective (Refused m) (Done p q r s) e = cc
repaired-injective (Refused m) (Refused n) e = cc

pub one-answer-repair : (t : Table) (l : Lent) (x y : RepairedTable) (u v : Lent) → MeetsRepair t l x u → MeetsRepair t l y v → (x ≡ y) × (u ≡ v)
one-answer-repair t l x y u v p q =
    let e : out (means_repaired x.answer) x.table u ≡ out (means_repaired y.answer) y.table v = p ∙ sym q in
    let c = repaired-injective x.answer y.answer (ap (λ (z : Out). z.said) e) in
    ((λ i. record { answer = c i; table = (e i).table }), ap (λ (z : Out). z.lent) e)
