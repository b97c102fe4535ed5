-- A refusal has one number, whatever the layout of what is accepted.
use Rattle.std.specs.Prelude.{◌≡◌, ℕ, List, Option, Some, None, Err, refl}
use Rattle.routes.specs.Said.{packed, refused_by}
use Rattle.numbered.specs.declared.ByNumber.{ByNumber}
use Rattle.numbered.specs.Numbers.{told_so, said_numbered}
use Rattle.packing.specs.Pack.{pack_none}

pub packs-told : (layout : List ℕ → ℕ) (e : ByNumber) → pack_none (told_so e) ≡ packed layout (told_so e)
unfolding packed
packs-told layout e = go e.number e.at
  where
    go : (n : ℕ) (o : Option ℕ) → pack_none (refused_by n o) ≡ packed layout (refused_by n o)
    go n None = refl
    go n (Some k) = refl

pub packs-err : {A E : Type 0} (layout : List ℕ → ℕ) (by_number : E → ByNumber) (values : A → List ℕ) (e : E)
    → pack_none (told_so (by_number e)) ≡ packed layout (said_numbered by_number values (Err e))
unfolding said_numbered
packs-err layout by_number values e = packs-told layout (by_number e)
