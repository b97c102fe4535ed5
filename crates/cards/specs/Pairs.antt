-- What the exported calls on a box of two answer and leave; and the state and the party by their numbers.
use Rattle.std.specs.Prelude.{ℕ, zero, suc, ◌^◌, ◌<◌, get_or}
use Rattle.pair.specs.Party.{Party, one, two}
use Rattle.pair.specs.PairLent.{PairLent}
use Rattle.pair.specs.PairSound.{share_of}
use Rattle.pair.specs.PairCalls.{PairOut}
use Rattle.pair.specs.declared.Pair.{Pair}
use Rattle.packing.specs.Pack.{pack_change}

-- an answer, and all that is lent for both at the end
pub record PairCard : Type 0 where
  pub answer : ℕ
  pub lent : PairLent

abbrev pub pair_card : ℕ → PairLent → PairCard
pair_card r b = record { answer = r; lent = b }

-- packed as in a table of one; the route count in bits 16 to 31 is the calling party's
unfoldable pub pair_card_of : Party → PairOut → PairCard
pair_card_of w o = pair_card (pack_change (share_of w o.state).count o.said) o.lent

-- the state: both levels, the route counts, and the limits of second and of third chunks of the first party and then of the second
abbrev pub pair_state_of : ℕ → ℕ → ℕ → ℕ → ℕ → ℕ → ℕ → ℕ → Pair
pair_state_of p1 p2 count1 count2 most21 most31 most22 most32 = record {
  geometry = record { p1 = p1; p2 = p2 };
  one = record { count = count1; most2 = most21; most3 = most31 };
  two = record { count = count2; most2 = most22; most3 = most32 };
}

-- 0 is the first party, any other number the second
unfoldable pub party_at : ℕ → Party
party_at zero = one
party_at (suc n) = two

-- cells are numbers of 16 bits: so of every `&[u16]` that is lent
pub record PairCells16 (b : PairLent) : Type 0 where
  pub first1 : (k : ℕ) → get_or b.first1 k 0 < 2 ^ 16
  pub first2 : (k : ℕ) → get_or b.first2 k 0 < 2 ^ 16
  pub second : (k : ℕ) → get_or b.second k 0 < 2 ^ 16
  pub third : (k : ℕ) → get_or b.third k 0 < 2 ^ 16
