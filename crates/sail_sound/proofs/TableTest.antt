-- The whole test as the code makes it, and what it answers.
use mathlib.Core.Path.{◌≡◌}
use mathlib.Core.Bool.{Bool, true, false, not, false≢true}
use mathlib.Core.List.{List}
use Prim.Native.Nat.{ℕ}
use lib.ListN.{take}
use Rattle.bits.specs.Tab.{Tells}
use Rattle.bits.proofs.Bools.{same}
use Rattle.routes.specs.Record.{Listed}
use Rattle.chain.specs.Words.{routes_of_words}
use Rattle.chain.specs.List.{ChainedFront}
use Rattle.sail.specs.Lent.{Lent, cells_of}
use Rattle.sail.specs.Sizes.{Sized}
use Rattle.sail.specs.Sound.{Sound}
use Rattle.sail.specs.declared.table.Table.{Table}
use Rattle.sail_theory.specs.SoundTest.{sound?}
use Rattle.sail_theory.proofs.places.SoundTest.{sound-tells}
use Rattle.sail_sound.specs.TableTest.{PassedTable, Tried, TriedWith}
use Rattle.bits.proofs.Tells.{refuted, passed}
use Rattle.sail_sound.proofs.Sounds.{tells-sound}

-- what tells whether a table is sound is the test by which the calls are defined
tried : (t : Table) (l : Lent) (b : Bool) → Tells b (Sound t l) → Tried b t l
tried t l b x = record { tells = x; is = same b (sound? t l) (λ e. (sound-tells t l).1 (x.0 e)) (λ e. x.1 ((sound-tells t l).0 e)) }

pub no-list : (t : Table) (l : Lent) (b : Bool) → Tells b (Listed l.list t.count) → not b ≡ true → {ws par : List ℕ} → TriedWith false t l ws par
no-list t l b told e = record { tried = tried t l false (refuted told e (λ w. w.listed)); chained = λ z. absurd (false≢true z) }

-- past the test
pub tried-sound : (t : Table) (l : Lent) (b : Bool) → Tried b t l → not b ≡ false → Sound t l
tried-sound t l b k e = passed k.tells e

-- the levels and the counts beside the words of the list
pub table-tried : (t : Table) (l : Lent) → Sized t.geometry l → Listed l.list t.count → {ws par : List ℕ} → ChainedFront l.list t.count ws par
    → (r : Bool) → Tells r (PassedTable (routes_of_words (take t.count ws)) t.geometry (cells_of l) l.long1 l.long2) → TriedWith r t l ws par
table-tried t l z listed f r x = record { tried = tried t l r (tells-sound t l z listed r (rw f.chained.routes at x)); chained = λ _. f }
