-- Demand 2. "For every address, a sound table and a built image give the hop of the longest standing route that covers it, and no route exactly
-- when none does. Each route in a list can be read back out, with its hop."
--
-- An address is a number below 2 ^ 32. A route covers it when the first bits, as many as the route's length, agree (`covers-address` in crate
-- standing, proofs/Only.antt).
use mathlib.Core.Path.{◌≡◌, sym, ◌∙◌, ap}
use mathlib.Core.Logic.{◌↔◌}
use mathlib.Core.Bool.{false}
use mathlib.Core.List.{List, [], ◌∷◌, Memᴰ}
use Prim.Native.Nat.{ℕ, ◌*◌, ◌^◌, ◌≤◌, ◌<◌}
use lib.ListN.{take}
use Rattle.routes.specs.Route.{Good}
use Rattle.routes.specs.Record.{routes_of, routes_in}
use Rattle.routes.specs.Input.{input_said}
use Rattle.routes.specs.Answers.{ReadBack}
use Rattle.routes.specs.Said.{Said, accepted, no_route_after}
use Rattle.routes.specs.declared.Route.{Route}
use Rattle.routes.proofs.ReadBack.{read_back, read-back-first}
use Rattle.standing.specs.Cells.{covers}
use Rattle.standing.specs.Served.{Served, uncounted}
use Rattle.standing.proofs.Served as serving
use Rattle.sail.specs.Lent.{Lent}
use Rattle.sail.specs.Sound.{Sound, standing, cells_read}
use Rattle.sail.specs.Walk.{lookup_said}
use Rattle.sail.specs.declared.table.Table.{Table}
use Rattle.sail.proofs.Sounds as sounds
use Rattle.tree_image.specs.Image.{on_path}
use Rattle.tree_image.specs.Reads.{tree_reads}
use Rattle.tree_image.specs.Walk.{tree_said}
use Rattle.tree_image.proofs.ReadCounts as reads
use Rattle.tree_image.proofs.Serves.{told-said, told-served}
use Rattle.tree_build.specs.Built.{built}
use Rattle.tree_build.proofs.Serves.{built-accepts, built-serves}

-- Of each address one thing is said.
pub served-once : (rs : List Route) → Good rs → (a n : ℕ) {s u : Said} → Served rs a n s → Served rs a n u → s ≡ u
served-once rs g a n = serving.served-once rs g a n

-- "For every address, a sound table .. give the hop of the longest standing route that covers it": after the count of cells that the routes define
pub sail-serves : (t : Table) (l : Lent) → Sound t l → (a : ℕ) → a < 2 ^ 32
    → Served (standing t l) a (cells_read t.geometry (standing t l) a) (lookup_said t l a)
sail-serves t l s a h = rw (sounds.sail-serves t l s a h) (serving.best-served (standing t l) (sounds.standing-good t l s) a _)

-- which is 1, 2 or 3
pub sail-reads : (t : Table) (l : Lent) → Sound t l → (a : ℕ)
    → (1 ≤ cells_read t.geometry (standing t l) a) × (cells_read t.geometry (standing t l) a ≤ 3)
sail-reads = sounds.reads-few

-- "And a built image": an image that a build leaves which is accepted, after the count that the routes define: the nodes that stand on the
-- address's path, and one more where a hop is answered
pub image-serves : (input ws hs vs : List ℕ) → (built input ws hs).said ≡ accepted vs → (a : ℕ) → a < 2 ^ 32
    → Served (routes_in input) a (tree_reads (routes_in input) a) (tree_said (built input ws hs).words (built input ws hs).hops a)
image-serves input ws hs vs e a h = told-served (routes_in input) (built-accepts input ws hs vs e).good_routes a (built-serves input ws hs vs a e h)

-- which is at least 1 and at most 10, and where no route covers the address at most 9
pub image-reads : (rs : List Route) → Good rs → (a : ℕ)
    → (1 ≤ tree_reads rs a) × (tree_reads rs a ≤ 10)
    × (((r : Route) → Memᴰ r rs → covers 32 a r ≡ false) → (tree_reads rs a ≡ on_path rs a) × (tree_reads rs a ≤ 9))
image-reads rs g a = ((reads.tree-reads-few rs a).0, (reads.tree-reads-few rs a).1, reads.tree-reads-none rs a g)

-- A table and an image of the same routes give the same hop at every address, and no route alike: what they say differs in the count alone.
pub table-as-image : (t : Table) (l : Lent) → Sound t l → (input ws hs vs : List ℕ) → (built input ws hs).said ≡ accepted vs → routes_in input ≡ standing t l
    → (a : ℕ) → a < 2 ^ 32 → uncounted (lookup_said t l a) ≡ uncounted (tree_said (built input ws hs).words (built input ws hs).hops a)
table-as-image t l s input ws hs vs e same a h =
    ap uncounted (sounds.sail-serves t l s a h)
    ∙ serving.same-hop _ _ a (sym same)
    ∙ ap uncounted (sym (built-serves input ws hs vs a e h ∙ told-said _ _))

-- "And no route exactly when none does"
pub no-route-table : (t : Table) (l : Lent) → Sound t l → (a : ℕ) → a < 2 ^ 32
    → ((n : ℕ) × (lookup_said t l a ≡ no_route_after n)) ↔ ((r : Route) → Memᴰ r (standing t l) → covers 32 a r ≡ false)
no-route-table t l s a h = serving.none-served (standing t l) (sounds.standing-good t l s) a (sail-serves t l s a h)

pub no-route-image : (input ws hs vs : List ℕ) → (built input ws hs).said ≡ accepted vs → (a : ℕ) → a < 2 ^ 32
    → ((n : ℕ) × (tree_said (built input ws hs).words (built input ws hs).hops a ≡ no_route_after n))
    ↔ ((r : Route) → Memᴰ r (routes_in input) → covers 32 a r ≡ false)
no-route-image input ws hs vs e a h =
    serving.none-served (routes_in input) (built-accepts input ws hs vs e).good_routes a (image-serves input ws hs vs e a h)

-- "Each route in a list can be read back out, with its hop" (`ReadBack`): out of a good input
pub read-back-input : (bytes : List ℕ) (n : ℕ) → input_said bytes ≡ accepted (n ∷ []) → ReadBack bytes (routes_of bytes n)
read-back-input = read_back

-- and out of the standing records of a sound table's list
pub read-back-table : (t : Table) (l : Lent) → Sound t l → ReadBack (take (t.count * 8) l.list) (standing t l)
read-back-table t l s = read-back-first l.list t.count s.listed.records
