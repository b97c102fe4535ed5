-- Fields by hand: list A's, trailing bits, lengths of 32 and 33, entries that end early, and what is wrong with messages.
use mathlib.Core.Path.{◌≡◌, refl}
use mathlib.Core.List.{List, [], ◌∷◌, map}
use Prim.Native.Nat.{ℕ}
use Rattle.bits.specs.Slot.{cut}
use Rattle.routes.specs.declared.Route.{Route}
use Rattle.routes.specs.Input.{hop_fine}
use Rattle.fields.specs.Field.{Net, broken_in, nets_in, entries, field_fault, field_of}
use Rattle.fields.specs.Message.{message_fault}

abbrev to : ℕ → ℕ → ℕ → Route
to a len hop = record { addr = a; len = len; mark = 0; hop = hop }

-- 0.0.0.0/0, 10.0.0.0/8, 10.1.0.0/16, 10.1.2.0/24, 10.1.2.128/25
abbrev list_a : List Route
list_a = to 0 0 6 ∷ to 167772160 8 20 ∷ to 167837696 16 31 ∷ to 167838208 24 44 ∷ to 167838336 25 57 ∷ []

-- 00 08 0A 10 0A 01 18 0A 01 02 19 0A 01 02 80
field-A : field_of list_a ≡ 0 ∷ 8 ∷ 10 ∷ 16 ∷ 10 ∷ 1 ∷ 24 ∷ 10 ∷ 1 ∷ 2 ∷ 25 ∷ 10 ∷ 1 ∷ 2 ∷ 128 ∷ []
unfolding field_of
field-A = refl

abbrev net : ℕ → ℕ → Net
net a len = record { addr = a; len = len }

-- 17 0A 01 03 is 10.1.2.0/23, 00 is 0.0.0.0/0, and no bytes are no entries
loose : map entries ((23 ∷ 10 ∷ 1 ∷ 3 ∷ []) ∷ (0 ∷ []) ∷ [] ∷ []) ≡ (net 167838208 23 ∷ []) ∷ (net 0 0 ∷ []) ∷ [] ∷ []
unfolding nets_in cut
loose = refl

-- A length of 32 passes and 33 does not, whatever follows it.
lengths : map field_fault ((32 ∷ 1 ∷ 2 ∷ 3 ∷ 4 ∷ []) ∷ (33 ∷ 1 ∷ 2 ∷ 3 ∷ 4 ∷ []) ∷ (33 ∷ 1 ∷ 2 ∷ 3 ∷ 4 ∷ 5 ∷ []) ∷ (255 ∷ []) ∷ []) ≡ 0 ∷ 17 ∷ 17 ∷ 17 ∷ []
unfolding field_fault broken_in
lengths = refl

-- A field that ends inside an entry, at each of its bytes: 32 bits with three, two, one and no byte, 25 with three, 24 with two, 1 with none.
cuts : map field_fault
    ((32 ∷ 1 ∷ 2 ∷ 3 ∷ []) ∷ (32 ∷ 1 ∷ 2 ∷ []) ∷ (32 ∷ 1 ∷ []) ∷ (32 ∷ []) ∷ (25 ∷ 10 ∷ 1 ∷ 2 ∷ []) ∷ (24 ∷ 10 ∷ 1 ∷ []) ∷ (1 ∷ []) ∷ [])
    ≡ 17 ∷ 17 ∷ 17 ∷ 17 ∷ 17 ∷ 17 ∷ 17 ∷ []
unfolding field_fault broken_in
cuts = refl

-- with one byte more each is whole, and so is no byte at all
whole : map field_fault ((25 ∷ 10 ∷ 1 ∷ 2 ∷ 128 ∷ []) ∷ (24 ∷ 10 ∷ 1 ∷ 2 ∷ []) ∷ (1 ∷ 128 ∷ []) ∷ (0 ∷ []) ∷ [] ∷ []) ≡ 0 ∷ 0 ∷ 0 ∷ 0 ∷ 0 ∷ []
unfolding field_fault broken_in
whole = refl

-- a broken entry after a whole one
later : map field_fault ((0 ∷ 8 ∷ []) ∷ (8 ∷ 10 ∷ 33 ∷ []) ∷ (8 ∷ 10 ∷ 0 ∷ []) ∷ []) ≡ 17 ∷ 17 ∷ 0 ∷ []
unfolding field_fault broken_in
later = refl

-- The hop: 0 and 32,768 give 4, 1 and 32,767 none. A broken field comes first, in either place.
messages : map (message_fault [] (8 ∷ 10 ∷ [])) (0 ∷ 1 ∷ 32767 ∷ 32768 ∷ []) ≡ 4 ∷ 0 ∷ 0 ∷ 4 ∷ []
unfolding message_fault broken_in hop_fine
messages = refl

broken-first : (message_fault (8 ∷ []) [] 0 ≡ 17) × (message_fault [] (8 ∷ []) 0 ≡ 17) × (message_fault [] [] 0 ≡ 4)
unfolding message_fault broken_in hop_fine
broken-first = (refl, refl, refl)
