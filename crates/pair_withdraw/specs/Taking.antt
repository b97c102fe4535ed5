-- A withdrawal on a party's side of a sound box: what is asked, and what is answered and left.
use Rattle.std.specs.Prelude.{cond, List, ℕ, length}
use Rattle.routes.specs.Route.{key_of, Prefix}
use Rattle.routes.specs.declared.Route.{Route}
use Rattle.standing.specs.Standing.{stands, remove}
use Rattle.sail.specs.Lent.{Lent}
use Rattle.sail_theory.specs.Calls.{owners_of}
use Rattle.pair.specs.Party.{Party}
use Rattle.pair.specs.PairCalls.{owners_kept_for, with_count}
use Rattle.pair.specs.declared.Pair.{Pair}
use Rattle.pair_cells.specs.Sides.{routes_in, SideSound, SideSight, side_left, SideOut, side_out}

-- a prefix; and what the party sees is sound, and is at hand with its routes' words and chain
pub record SideReady (w : Party) (t : Pair) (l : Lent) (a len : ℕ) (see2 see3 ws par : List ℕ) : Type 0 where
  pub prefix : Prefix a len
  pub sound : SideSound w t l
  pub sight : SideSight w t l see2 see3 ws par

-- the party's routes without that of the prefix
abbrev pub routes_less : Party → Pair → Lent → ℕ → ℕ → List Route
routes_less w t l a len = remove (key_of a len) (routes_in w t l)

-- 9 where the prefix does not stand, and all is as it was; else the side of the routes that are left, and of the owners that these keep. Of a sound box's
-- side this is what `pair_taking` says (`box-taking`)
unfoldable pub side_taking : Party → Pair → Lent → ℕ → ℕ → SideOut
side_taking w t l a len =
    cond (stands (key_of a len) (routes_in w t l))
    (side_out 0 (with_count w (length (routes_less w t l a len)) t)
    (side_left w t.geometry l (routes_less w t l a len) (owners_kept_for w t.geometry (routes_less w t l a len) (owners_of l))))
    (side_out 9 t l)
