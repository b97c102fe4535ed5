-- How many nodes the way down from a node meets where nothing stops it: itself and all below it. It measures the work of the test, and says
-- nothing of what the test answers.
use Rattle.std.specs.Prelude.{List, ℕ, zero, suc, ◌+◌, ◌/◌, ◌^◌}
use Rattle.std.specs.Int.Count.{ones}
use Rattle.tree_image.specs.Node.{bits_of, child_of}

-- f of the n numbers from `first` on, added up
unfoldable pub sum_from : (ℕ → ℕ) → ℕ → ℕ → ℕ
sum_from f zero first = 0
sum_from f (suc n) first = f first + sum_from f n (first + 1)

-- from node i, with `left` levels of nodes below it
unfoldable pub visits : ℕ → List ℕ → ℕ → ℕ
visits zero ws i = 1
visits (suc e) ws i = 1 + sum_from (visits e ws) (ones (bits_of ws i / 2 ^ 16)) (child_of ws i)
