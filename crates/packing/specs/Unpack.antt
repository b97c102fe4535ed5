-- How a caller reads a packed answer: by the fields that include/ghatumri.h names, and nothing else. And what fits the fields of each
-- layout.
use Rattle.std.specs.Prelude.{cond, List, [], ◌∷◌, ℕ, ◌/◌, ◌%◌, ◌^◌, ◌≤◌, ◌<◌, eqb, get_or}
use Rattle.routes.specs.Said.{Said, accepted, refused, refused_at}
use Rattle.sail.specs.Lent.{Lent}

-- so many bits of x, from bit `low` on
abbrev pub field : ℕ → ℕ → ℕ → ℕ
field low width x = x / 2 ^ low % 2 ^ width

-- the number is in bits 0 to 7; where bit 8 is set, an index is in bits 32 to 63
unfoldable pub refusal_of : ℕ → Said
refusal_of x = cond (eqb (field 8 1 x) 1) (refused_at (field 0 8 x) (field 32 32 x)) (refused (field 0 8 x))

-- "Bits 0 to 7 are the refusal's number, 0 when the call is accepted": then the values are read
unfoldable pub unpacked : (ℕ → List ℕ) → ℕ → Said
unpacked read x = cond (eqb (field 0 8 x) 0) (accepted (read x)) (refusal_of x)

-- both lookups: reads, then the hop; hop 0 is no route, the reads alone
unfoldable pub found_values : ℕ → List ℕ
found_values x = cond (eqb (field 16 16 x) 0) (field 8 8 x ∷ []) (field 8 8 x ∷ field 16 16 x ∷ [])

abbrev pub unpack_found : ℕ → Said
unpack_found = unpacked found_values

-- report: the routes, then both needs
unfoldable pub report_values : ℕ → List ℕ
report_values x = field 16 16 x ∷ field 32 16 x ∷ field 48 16 x ∷ []

abbrev pub unpack_report : ℕ → Said
unpack_report = unpacked report_values

-- build: the nodes, then the hops
unfoldable pub built_values : ℕ → List ℕ
built_values x = field 32 32 x ∷ field 16 16 x ∷ []

abbrev pub unpack_built : ℕ → Said
unpack_built = unpacked built_values

-- run: its first record, then how many
unfoldable pub run_values : ℕ → List ℕ
run_values x = field 16 16 x ∷ field 32 16 x ∷ []

abbrev pub unpack_run : ℕ → Said
unpack_run = unpacked run_values

-- route: address, length, mark, hop; hop 0 is no record of that index
unfoldable pub route_values : ℕ → List ℕ
route_values x = cond (eqb (field 16 16 x) 0) [] (field 32 32 x ∷ field 8 7 x ∷ field 15 1 x ∷ field 16 16 x ∷ [])

abbrev pub unpack_route : ℕ → Said
unpack_route = unpacked route_values

-- announce: 1 where bits were cleared; then 1 where a route was replaced, 0 where it was added
unfoldable pub announce_values : ℕ → List ℕ
announce_values x = field 9 1 x ∷ field 8 1 x ∷ []

abbrev pub unpack_announce : ℕ → Said
unpack_announce = unpacked announce_values

-- withdraw: 1 where bits were cleared
unfoldable pub withdraw_values : ℕ → List ℕ
withdraw_values x = field 9 1 x ∷ []

abbrev pub unpack_withdraw : ℕ → Said
unpack_withdraw = unpacked withdraw_values

-- no values: make and load, which say none
unfoldable pub no_values : ℕ → List ℕ
no_values x = []

abbrev pub unpack_done : ℕ → Said
unpack_done = unpacked no_values

-- and the tally and many lookups, whose values are in `out`. The number of records, which the input's check says beside, is not in the
-- answer: the caller has it, the length of its input divided by 8
abbrev pub unpack_none : ℕ → Said
unpack_none = unpacked no_values

-- the route count after a change
abbrev pub count_of : ℕ → ℕ
count_of x = field 16 16 x

-- What has room: a number of 1 to 255, an index below `most`, and values of which P holds. Where `most` is 0, no index is carried.
pub data FitsWord (most : ℕ) (P : List ℕ → Type 0) : Said → Type 0 where
  values : (vs : List ℕ) → P vs → FitsWord most P (accepted vs)
  number : (n : ℕ) → 1 ≤ n → n < 2 ^ 8 → FitsWord most P (refused n)
  index : (n k : ℕ) → 1 ≤ n → n < 2 ^ 8 → k < most → FitsWord most P (refused_at n k)

-- the values that have room in each layout
pub data FoundFits : List ℕ → Type 0 where
  hop : (n h : ℕ) → n < 2 ^ 8 → 1 ≤ h → h < 2 ^ 16 → FoundFits (n ∷ h ∷ [])
  none : (n : ℕ) → n < 2 ^ 8 → FoundFits (n ∷ [])

pub data ReportFits : List ℕ → Type 0 where
  report : (n x y : ℕ) → n < 2 ^ 16 → x < 2 ^ 16 → y < 2 ^ 16 → ReportFits (n ∷ x ∷ y ∷ [])

pub data BuiltFits : List ℕ → Type 0 where
  image : (nodes hops : ℕ) → nodes < 2 ^ 32 → hops < 2 ^ 16 → BuiltFits (nodes ∷ hops ∷ [])

pub data RunFits : List ℕ → Type 0 where
  run : (start count : ℕ) → start < 2 ^ 16 → count < 2 ^ 16 → RunFits (start ∷ count ∷ [])

pub data RouteFits : List ℕ → Type 0 where
  one : (a len mark h : ℕ) → a < 2 ^ 32 → len < 2 ^ 7 → mark < 2 → 1 ≤ h → h < 2 ^ 16 → RouteFits (a ∷ len ∷ mark ∷ h ∷ [])
  nothing : RouteFits []

-- with the route count that the same answer carries
pub data AnnounceFits (count : ℕ) : List ℕ → Type 0 where
  which : (c b : ℕ) → c < 2 → b < 2 → count < 2 ^ 16 → AnnounceFits count (c ∷ b ∷ [])

pub data WithdrawFits (count : ℕ) : List ℕ → Type 0 where
  gone : (c : ℕ) → c < 2 → count < 2 ^ 16 → WithdrawFits count (c ∷ [])

pub data DoneFits (count : ℕ) : List ℕ → Type 0 where
  done : count < 2 ^ 16 → DoneFits count []

-- cells are numbers of 16 bits: so of every `&[u16]` that is lent
pub record Cells16 (l : Lent) : Type 0 where
  pub first : (k : ℕ) → get_or l.first k 0 < 2 ^ 16
  pub second : (k : ℕ) → get_or l.second k 0 < 2 ^ 16
  pub third : (k : ℕ) → get_or l.third k 0 < 2 ^ 16
