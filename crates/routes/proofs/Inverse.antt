-- The bytes of a route and the route of eight bytes are each other's inverse.
use mathlib.Core.Path.{◌≡◌, refl, sym, ap, ◌∙◌}
use mathlib.Core.List.{List}
use Prim.Native.Nat.{ℕ, ◌+◌, ◌*◌, ◌<◌}
use native.Mathlib.Omega.{arith}
use lib.ListN.{length, get_or}
use lib.Seq.{ext_get_or}
use Rattle.routes.specs.Record.{record_at, bytes_of, Ranged}
use Rattle.routes.specs.declared.Route.{Route}
use Rattle.routes.proofs.Puts.{bytes_read}
use Rattle.routes.proofs.Rows.{record-bytes}

at-start : (s : List ℕ) (j : ℕ) → get_or s (0 * 8 + j) 0 ≡ get_or s j 0
at-start s j = ap (λ (i : ℕ). get_or s i 0) (omega arith)

-- a route's bytes are read as that route
pub route-back : (r : Route) → Ranged r → record_at (bytes_of r) 0 ≡ r
route-back r ok = bytes_read (bytes_of r) 0 r ok (λ j l. at-start (bytes_of r) j)

length-bytes : (r : Route) → length (bytes_of r) ≡ 8
unfolding bytes_of
length-bytes r = refl

-- eight bytes are those of the route that they hold
pub bytes_back : (s : List ℕ) → length s ≡ 8 → ((j : ℕ) → get_or s j 0 < 256) → bytes_of (record_at s 0) ≡ s
bytes_back s n b = ext_get_or 0 (bytes_of (record_at s 0)) s (length-bytes (record_at s 0) ∙ sym n)
    (λ j l. record-bytes s 0 b j (rw length-bytes at l) ∙ at-start s j)
