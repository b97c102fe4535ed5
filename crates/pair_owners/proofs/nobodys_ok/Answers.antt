-- `pair_owners::nobodys_ok`. Every owner is another number than the top bit alone, or one is that.
use mathlib.Core.Path.{◌≡◌}
use Rattle.std.proofs.Common.{rules, tests}
use Rattle.std.proofs.lemmas.Iterator.{cases_from_all, YieldsList-from_slice}
use Rattle.pair_owners.proofs.SeenOwners.{nobodys}
use Rattle.pair_owners.proofs.nobodys_ok.Goals as goal

pub returns : goal.returns
returns c = nobodys _ _ (cases_from_all _ _ _ (λ o. o ≡ 2147483648 → ⊥) (λ o. o ≡ 2147483648) c.all.ensures.ran (YieldsList-from_slice c.args.own.now cc)
    (λ x q k. search (rules, tests)) (λ x q k. search (rules, tests)))
