-- A route added to a table, or in the place of the one of its prefix: what is asked, and what is left.
use Rattle.std.specs.Prelude.{[], ◌∷◌, ◌≡◌, ℕ, ◌<◌}
use Rattle.bits.specs.Count.{bit}
use Rattle.routes.specs.Route.{key}
use Rattle.routes.specs.Said.{accepted}
use Rattle.routes.specs.declared.Route.{Route}
use Rattle.standing.specs.Standing.{stands, insert}
use Rattle.sail.specs.Geometry.{bits2, bits3}
use Rattle.sail.specs.Lent.{Lent}
use Rattle.sail.specs.Sound.{standing}
use Rattle.sail.specs.declared.table.Table.{Table}
use Rattle.sail_theory.specs.Calls.{opened_at, owners_of, state_of, lent_of, Ends, adding}
use Rattle.sail_theory.specs.Facts.{AnnounceableWith}
use Rattle.sail_theory.specs.Shared.{alone, ComesBlank, mixed_in}
use Rattle.sail_judge.specs.Announce.{Found}
use Rattle.sail_judge.specs.declared.announce.AnnounceVerdict.{AnnounceVerdict}

-- the state u and all that is lent e are those of `adding`, which says whether the prefix stood
abbrev pub MeetsAdd : Table → Lent → Route → Table → Lent → Type 0
MeetsAdd t l r u e = Ends (accepted (bit (stands (key r) (standing t l)) ∷ [])) u e (adding t l r)

-- In pools that others use too: the table alone is one in which the route may be announced, with the chunks c2 and c3; this was found of it; and
-- the chunks that it opens are blank.
pub record ToAddIn (t : Table) (l : Lent) (r : Route) (f : AnnounceVerdict) (c2 c3 : ℕ) : Type 0 where
  pub may : AnnounceableWith t (alone t.geometry l) r c2 c3
  pub found : Found t.geometry l.list t.count l.own2 r f
  pub few2 : c2 < 65536
  pub blank2 : ComesBlank l.own2 (opened_at t.geometry (owners_of l) c2 c3 r).own2 (bits2 t.geometry) l.second
  pub blank3 : ComesBlank l.own3 (opened_at t.geometry (owners_of l) c2 c3 r).own3 (bits3 t.geometry) l.third
  pub uncounted : ComesBlank l.own2 (opened_at t.geometry (owners_of l) c2 c3 r).own2 (bits2 t.geometry) l.long2

-- the table alone is then the one of the routes with this one inserted, and what others hold is as it was
abbrev pub MeetsAddIn : Table → Lent → Route → ℕ → ℕ → Table → Lent → Type 0
MeetsAddIn t l r c2 c3 u e =
    (u ≡ state_of t (insert r (standing t l)))
    × (e ≡ mixed_in t.geometry l (lent_of t l (insert r (standing t l)) (opened_at t.geometry (owners_of l) c2 c3 r)))
