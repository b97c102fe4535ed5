-- The demands of the calls on bit maps: build, lookup and many lookups of basic SAIL for cards without chunk memory.
use mathlib.Core.Path.{◌≡◌, refl, sym, ◌∙◌, ap}
use mathlib.Core.Logic.{◌↔◌}
use mathlib.Core.Bool.{true, false}
use mathlib.Core.List.{List, [], Memᴰ}
use Prim.Native.Nat.{ℕ, ◌^◌, ◌<◌}
use lib.ListN.{length, get_or}
use Rattle.routes.specs.Route.{Good}
use Rattle.routes.specs.Record.{routes_in}
use Rattle.routes.specs.Said.{Said, accepted, refused, accepts}
use Rattle.routes.specs.declared.Route.{Route}
use Rattle.routes.proofs.Judged.{exactly}
use Rattle.standing.specs.Cells.{covers}
use Rattle.standing.specs.Served.{uncounted}
use Rattle.standing.proofs.Served.{same-hop}
use Rattle.sail.specs.Lent.{Lent}
use Rattle.sail.specs.Sound.{Sound, standing}
use Rattle.sail.specs.Walk.{lookup_said}
use Rattle.sail.specs.declared.table.Table.{Table}
use Rattle.sail.proofs.Sounds as sounds
use Rattle.basic.specs.Maps.{is_set_at}
use Rattle.basic.specs.Calls.{if_hop, means_basic_found, basic_said, hop_word, basic_many}
use Rattle.basic.specs.Contract.{MeetsBasicLookup, MeetsBasicMany}
use Rattle.basic.specs.Meaning.{MapsOf, MapsServe, BasicLookup, BasicLookups}
use Rattle.std.specs.Prelude.{Option, None, Result, Err}
use Rattle.refusals.specs.Numbers.{number_of}
use Rattle.refusals.specs.declared.Refused.{Refused}
use Rattle.routes.proofs.Saids.{said-number}
use Rattle.basic.proofs.OneAnswer as lookup
use Rattle.basic.proofs.Serves.{serves-best, serves-once, serves-none}
use Rattle.basic.proofs.Judged.{lookup-only, lookup-judged, many-only, many-judged, many-words, refused-leaves-words}
use Rattle.basic_build.specs.Built.{basic_built, BasicBuild}
use Rattle.basic_build.specs.Contract.{MeetsBasicBuild}
use Rattle.basic_build.proofs.BuildReturns.{refused-leaves}
use Rattle.basic_build.proofs.Judged.{build-only, build-judged}
use Rattle.basic_build.proofs.OneAnswer as build
use Rattle.basic_build.proofs.Serves as worth

-- Demand 1. "A refusal is never a hop": the answer of a lookup that is refused is the number alone.
pub refused-no-hop-basic : (input bits cells : List ℕ) (a : ℕ) (r : Result (Option ℕ) Refused) → means_basic_found r ≡ basic_said input bits cells a
    → (n : ℕ) → basic_said input bits cells a ≡ refused n → (w : Refused) × (r ≡ Err w) × (number_of w.why ≡ n) × (w.at ≡ None)
refused-no-hop-basic input bits cells a r e n q = said-number if_hop n r (e ∙ q)

-- "It carries its number": in order, with the failure of those before
module _ (input bits cells : List ℕ) where
  -- build: the input's, then 2
  pub refused-number-basic-build : (s : Said) → ((basic_built input bits cells).said ≡ s) ↔ BasicBuild input bits cells s
  refused-number-basic-build = exactly (BasicBuild input bits cells) _ _ refl (build-judged input bits cells) (build-only input bits cells)

  -- lookup: the input's, 2, then 13
  pub refused-number-basic-lookup : (a : ℕ) (s : Said) → (basic_said input bits cells a ≡ s) ↔ BasicLookup input bits cells a s
  refused-number-basic-lookup a = exactly (BasicLookup input bits cells a) _ _ refl (lookup-judged input bits cells a) (lookup-only input bits cells a)

  -- many lookups: the input's, 2 for the maps, 2 for the two lengths
  pub refused-number-basic-lookup-many : (addrs words : List ℕ) (s : Said)
      → ((basic_many input bits cells addrs words).said ≡ s) ↔ BasicLookups input bits cells addrs words s
  refused-number-basic-lookup-many addrs words =
      exactly (BasicLookups input bits cells addrs words) _ _ refl (many-judged input bits cells addrs words) (many-only input bits cells addrs words)

  -- "The caller's state and buffers stay exactly as they were"
  pub refused-leaves-all-basic-build : accepts (basic_built input bits cells).said ≡ false
      → ((basic_built input bits cells).bits ≡ bits) × ((basic_built input bits cells).cells ≡ cells)
  refused-leaves-all-basic-build = refused-leaves input bits cells

  pub refused-leaves-all-basic-lookup-many : (addrs words : List ℕ) → accepts (basic_many input bits cells addrs words).said ≡ false
      → (basic_many input bits cells addrs words).words ≡ words
  refused-leaves-all-basic-lookup-many = refused-leaves-words input bits cells

-- Demand 2. "For every good record input, the arrays built from it and every address, its hop equals that of the covering rule."
module _ (input bits cells : List ℕ) (e : accepts (basic_built input bits cells).said ≡ true) where
  pub basic-serves : (a : ℕ) → a < 2 ^ 32
      → MapsServe (routes_in input) a (basic_said input (basic_built input bits cells).bits (basic_built input bits cells).cells a)
  basic-serves = worth.basic-serves input bits cells e

  -- the arrays, bit by bit and cell by cell
  pub basic-built : MapsOf (routes_in input) (basic_built input bits cells).bits (basic_built input bits cells).cells
  basic-built = worth.basic-built input bits cells e

  -- "the last bit zero"
  pub last-bit-zero : is_set_at (basic_built input bits cells).bits 131071 ≡ false
  last-bit-zero = basic-built.last

-- of each address one thing is said: the hop alone, without a count
pub basic-served-once : (rs : List Route) → Good rs → (a : ℕ) {s u : Said} → MapsServe rs a s → MapsServe rs a u → s ≡ u
basic-served-once rs g a = serves-once rs g a

module _ (input bits cells : List ℕ) (e : accepts (basic_built input bits cells).said ≡ true) (a : ℕ) (h : a < 2 ^ 32) where
  -- "and no route exactly when none does"
  pub no-route-basic : (basic_said input (basic_built input bits cells).bits (basic_built input bits cells).cells a ≡ accepted [])
      ↔ ((r : Route) → Memᴰ r (routes_in input) → covers 32 a r ≡ false)
  no-route-basic = serves-none (routes_in input) (worth.built-good-routes input bits cells e) a (basic-serves input bits cells e a h)

  -- a table and the maps of the same routes give the same hop, and no route alike
  pub table-as-maps : (t : Table) (l : Lent) → Sound t l → routes_in input ≡ standing t l
      → uncounted (lookup_said t l a) ≡ basic_said input (basic_built input bits cells).bits (basic_built input bits cells).cells a
  table-as-maps t l s same =
      ap uncounted (sounds.sail-serves t l s a h)
      ∙ same-hop _ 0 a (sym same)
      ∙ sym (serves-best (routes_in input) (worth.built-good-routes input bits cells e) a 0 (basic-serves input bits cells e a h))

-- each word of many lookups is what one lookup answers
pub basic-many-words : (input bits cells addrs words : List ℕ) → accepts (basic_many input bits cells addrs words).said ≡ true
    → (k : ℕ) → k < length addrs → get_or (basic_many input bits cells addrs words).words k 0 ≡ hop_word (basic_said input bits cells (get_or addrs k 0))
basic-many-words = many-words

-- "Show that no second answer would satisfy it."
module _ (input bits cells : List ℕ) where
  pub one-answer-basic-build : (x y : Result (Unit {0}) Refused) (bs bs' cs cs' : List ℕ)
      → MeetsBasicBuild input bits cells x bs cs → MeetsBasicBuild input bits cells y bs' cs' → (x ≡ y) × (bs ≡ bs') × (cs ≡ cs')
  one-answer-basic-build = build.one-answer-basic-build input bits cells

  pub one-answer-basic-lookup : (addr : ℕ) (x y : Result (Option ℕ) Refused)
      → MeetsBasicLookup input bits cells addr x → MeetsBasicLookup input bits cells addr y → x ≡ y
  one-answer-basic-lookup = lookup.one-answer-basic-lookup input bits cells

  pub one-answer-basic-lookup-many : (addrs words : List ℕ) (x y : Result (Unit {0}) Refused) (ws ws' : List ℕ)
      → MeetsBasicMany input bits cells addrs words x ws → MeetsBasicMany input bits cells addrs words y ws' → (x ≡ y) × (ws ≡ ws')
  one-answer-basic-lookup-many = lookup.one-answer-basic-lookup-many input bits cells
