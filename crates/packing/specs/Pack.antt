-- How the values of each call are laid out in its answer of 64 bits. Refusals stand in routes/specs/Said.antt, the layout of a lookup in
-- sail/specs/Word.antt, that of an announcement on an image in ImageAnswers.antt.
use Rattle.std.specs.Prelude.{ℕ, ◌+◌, ◌*◌, ◌%◌, ◌^◌}
use Rattle.routes.specs.Said.{Said}
use Rattle.sail.specs.Word.{packed, value}

-- the route count in bits 16 to 31, the needs in 32 to 47 and 48 to 63
abbrev pub pack_report : Said → ℕ
pack_report = packed (λ vs. value 0 vs % 65536 * 65536 + value 1 vs % 65536 * 2 ^ 32 + value 2 vs % 65536 * 2 ^ 48)

-- bit 9 set where bits were cleared, bit 8 where a route was replaced, and the route count after the call in bits 16 to 31. Announce says both,
-- withdraw the first, make and load neither
abbrev pub pack_change : ℕ → Said → ℕ
pack_change count = packed (λ vs. value 0 vs * 512 + value 1 vs * 256 + count * 65536)

-- the hops in bits 16 to 31, the nodes in 32 to 63
abbrev pub pack_built : Said → ℕ
pack_built = packed (λ vs. value 1 vs % 65536 * 65536 + value 0 vs * 2 ^ 32)

-- the first record in bits 16 to 31, the records in 32 to 47
abbrev pub pack_run : Said → ℕ
pack_run = packed (λ vs. value 0 vs % 65536 * 65536 + value 1 vs % 65536 * 2 ^ 32)

-- nothing but the refusal
abbrev pub pack_none : Said → ℕ
pack_none = packed (λ vs. 0)

-- the length in bits 8 to 14, the mark in bit 15, the hop in 16 to 31, the address in 32 to 63
abbrev pub pack_route : Said → ℕ
pack_route = packed (λ vs. value 1 vs % 128 * 256 + value 2 vs % 2 * 32768 + value 3 vs * 65536 + value 0 vs * 2 ^ 32)
