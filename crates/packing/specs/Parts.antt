-- An answer put together again from the fields that include/ghatumri.h names for it. Where a number is the sum of these, every other bit of
-- it is 0.
use Rattle.std.specs.Prelude.{cond, ℕ, ◌+◌, ◌*◌, ◌^◌, eqb}
use Rattle.packing.specs.Unpack.{field}

-- a refusal: its number; and where bit 8 is set, an index
unfoldable pub refusal_parts : ℕ → ℕ
refusal_parts x = cond (eqb (field 8 1 x) 1) (field 0 8 x + 2 ^ 8 + field 32 32 x * 2 ^ 32) (field 0 8 x)

-- an accepted answer is its values' fields, and a refused one a refusal's
unfoldable pub parts : (ℕ → ℕ) → ℕ → ℕ
parts values x = cond (eqb (field 0 8 x) 0) (values x) (refusal_parts x)

-- both lookups: reads, hop
unfoldable pub found_parts : ℕ → ℕ
found_parts x = field 8 8 x * 2 ^ 8 + field 16 16 x * 2 ^ 16

-- report: routes, both needs
unfoldable pub report_parts : ℕ → ℕ
report_parts x = field 16 16 x * 2 ^ 16 + field 32 16 x * 2 ^ 32 + field 48 16 x * 2 ^ 48

-- build: hops, nodes
unfoldable pub built_parts : ℕ → ℕ
built_parts x = field 16 16 x * 2 ^ 16 + field 32 32 x * 2 ^ 32

-- run: its first record, how many
unfoldable pub run_parts : ℕ → ℕ
run_parts x = field 16 16 x * 2 ^ 16 + field 32 16 x * 2 ^ 32

-- route: length, mark, hop, address
unfoldable pub route_parts : ℕ → ℕ
route_parts x = field 8 7 x * 2 ^ 8 + field 15 1 x * 2 ^ 15 + field 16 16 x * 2 ^ 16 + field 32 32 x * 2 ^ 32

-- announce: replaced, cleared, routes
unfoldable pub announce_parts : ℕ → ℕ
announce_parts x = field 8 1 x * 2 ^ 8 + field 9 1 x * 2 ^ 9 + field 16 16 x * 2 ^ 16

-- withdraw: cleared, routes
unfoldable pub withdraw_parts : ℕ → ℕ
withdraw_parts x = field 9 1 x * 2 ^ 9 + field 16 16 x * 2 ^ 16

-- make and load: routes
unfoldable pub done_parts : ℕ → ℕ
done_parts x = field 16 16 x * 2 ^ 16

-- many lookups, the tally and the build of bit maps: nothing
unfoldable pub no_parts : ℕ → ℕ
no_parts x = 0
