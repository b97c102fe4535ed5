-- Claims that leave one thing open say it once: how many cells the lookup of an address reads is one number.
use mathlib.Core.Path.{◌≡◌, refl}
use Prim.Native.Nat.{ℕ}
use Rattle.sail.specs.Lent.{Lent}
use Rattle.sail.specs.Reads.{Reads, one, two, three}
use Rattle.sail.specs.declared.geometry.Geometry.{Geometry}

-- a cell that is read and one that is not are told apart
pub reads-once : (g : Geometry) (l : Lent) (a m n : ℕ) → Reads g l a m → Reads g l a n → m ≡ n
reads-once g l a _ _ (one f s t) (one f' s' t') = refl
reads-once g l a _ _ (one f s t) (two f' s' t') = absurd (s s'.at s'.is)
reads-once g l a _ _ (one f s t) (three f' s' t') = absurd (s s'.at s'.is)
reads-once g l a _ _ (two f s t) (one f' s' t') = absurd (s' s.at s.is)
reads-once g l a _ _ (two f s t) (two f' s' t') = refl
reads-once g l a _ _ (two f s t) (three f' s' t') = absurd (t t'.at t'.is)
reads-once g l a _ _ (three f s t) (one f' s' t') = absurd (s' s.at s.is)
reads-once g l a _ _ (three f s t) (two f' s' t') = absurd (t' t.at t.is)
reads-once g l a _ _ (three f s t) (three f' s' t') = refl
