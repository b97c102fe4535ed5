-- The two parties, and whose a chunk is, by the number of its owner. (Laws: `seen-own`, `seen_other`, `Seen-apart`, `top_bit`,
-- proofs/Views.antt; `own-opens`, proofs/Finds.antt.)
use Rattle.std.specs.Prelude.{Bool, true, false, ◌&&◌, cond, List, map, ℕ, suc, ◌+◌, ◌-◌, ltb, leb}

pub data Party : Type 0 where
  one two : Party

-- the party by the code's flag: whether it is the second
abbrev pub party_of : Bool → Party
party_of false = one
party_of true = two

abbrev pub other : Party → Party
other one = two
other two = one

abbrev pub is : Party → Party → Bool
is one one = true
is one two = false
is two one = false
is two two = true

-- something for each party, with x for w
abbrev pub put : {A : Type 0} → Party → A → (Party → A) → Party → A
put one x f one = x
put one x f two = f two
put two x f one = f one
put two x f two = x

-- "An owner's top bit is 1 for the second party": the owner of a chunk that hangs from the party's place q. Below the top bit it is 1 + q, as in a
-- table of one; q is below 2 ^ 22, so that bit is free.
abbrev pub owner_of : Party → ℕ → ℕ
owner_of one q = suc q
owner_of two q = 2147483648 + suc q

-- What a party sees in an owner: 1 + the place that the chunk hangs from if the chunk is its own, and else 0. "Owner 0 is nobody's". 80000000 hex,
-- the top bit with no place, is neither party's and not 0, so no sound box has it (`Nobodys`).
unfoldable pub seen : Party → ℕ → ℕ
seen one o = cond (ltb o 2147483648) o 0
seen two o = o - 2147483648

-- "a chunk owned by the other", for a lookup, by the top bit alone
unfoldable pub foreign : Party → ℕ → Bool
foreign one o = leb 2147483648 o
foreign two o = ltb 0 o && ltb o 2147483648

-- the owners as a party sees them
unfoldable pub view : Party → List ℕ → List ℕ
view w own = map (seen w) own
