-- Load equals make and then announcing each record in order, wherever it is accepted, and each of these adds its route. By induction over the
-- records: what has been announced so far is rendered for the front of the list (`Fronts`), and the next record may be announced there.
use mathlib.Core.Path.{◌≡◌, refl, sym, ◌∙◌, ap, subst}
use mathlib.Core.Bool.{true, false, false≢true}
use mathlib.Core.List.{List, [], ◌∷◌, ◌++◌, append_assoc, append-nil, Memᴰ}
use Prim.Native.Nat.{ℕ, ◌/◌, ◌≤◌, ◌<◌}
use native.Mathlib.Omega.{arith}
use lib.ListN.{length, length-append, length-replicate}
use Rattle.routes.specs.Route.{key, Fine, Good}
use Rattle.standing.specs.Cells.{within, need}
use Rattle.routes.specs.Said.{Said, accepted, accepts}
use Rattle.standing.specs.Standing.{insert}
use Rattle.routes.specs.declared.Route.{Route}
use Rattle.sail.specs.Lent.{Lent}
use Rattle.sail.specs.Level.{chunks_of, level1, level2}
use Rattle.sail.specs.Sizes.{Sized}
use Rattle.sail.specs.declared.geometry.Geometry.{Geometry}
use Rattle.sail.specs.declared.table.Table.{Table}
use Rattle.sail_theory.specs.Render.{find, Fits, room_of}
use Rattle.sail_theory.specs.Calls.{Owners, opened, owners_after, owners_of, no_owners, input_routes, load_said, Out, out, state_of, lent_of}
use Rattle.sail_theory.specs.Calls.{made, adding, out_with_flag, announced, loaded}
use Rattle.sail_theory.specs.Facts.{TableHolds, Announceable, Loadable}
use Rattle.sail_theory.specs.CallRuns.{announce_all, AllAdded}
use Rattle.standing.proofs.ListParts.{good-front, good-next, good-below, insert-end, none-stands, any-front}
use Rattle.standing.proofs.NeedAfter.{need-mono}
use Rattle.sail_theory.proofs.owners.OpenAt.{OpenReady, length-open}
use Rattle.sail_theory.specs.Cases.{Readable, Load}
use Rattle.sail_theory.proofs.calls.SomeCase.{load-judged}
use Rattle.sail_theory.proofs.calls.OneCase.{load-only}
use Rattle.sail_theory.proofs.calls.ChangeHolds.{render-holds, ready1, ready2, welcome-fits2, welcome-fits3}
use Rattle.sail_theory.proofs.calls.Outcomes.{adding-is, outcome-said, outcome-refused}
use Rattle.sail_theory.proofs.calls.Cleared.{announce-fine}
use Rattle.sail_theory.proofs.calls.Make.{no-fits, fresh-rendered, make-is}

-- Owners that fit a good list which is the front of one that may be loaded.
pub record Fronts (t : Table) (l : Lent) (xs ys : List Route) (o : Owners) : Type 0 where
  pub sized : Sized t.geometry l
  pub good : Good (xs ++ ys)
  pub roomy : length (xs ++ ys) ≤ room_of l
  pub len2 : length o.own2 ≡ length l.own2
  pub len3 : length o.own3 ≡ length l.own3
  pub fits2 : Fits xs (level1 t.geometry) (chunks_of o.own2)
  pub fits3 : Fits xs (level2 t.geometry (chunks_of o.own2)) (chunks_of o.own3)
  pub enough2 : need (xs ++ ys) t.geometry.p1 ≤ length l.own2
  pub enough3 : need (xs ++ ys) t.geometry.p2 ≤ length l.own3

-- one record more
module _ (t : Table) (l : Lent) (xs : List Route) (r : Route) (ys : List Route) (o : Owners) (f : Fronts t l xs (r ∷ ys) o) where
  abbrev g : Geometry
  g = t.geometry

  abbrev u : Table
  u = state_of t xs

  abbrev v : Lent
  v = lent_of t l xs o

  abbrev xs' : List Route
  xs' = xs ++ (r ∷ [])

  fine : Fine r
  fine = good-next xs r ys f.good

  below : (s : Route) → Memᴰ s xs → key s < key r
  below = good-below xs r ys f.good

  ended : insert r xs ≡ xs'
  ended = insert-end r xs below

  regroup : xs' ++ ys ≡ xs ++ r ∷ ys
  regroup = append_assoc xs (r ∷ []) ys

  part : (p : ℕ) → p ≤ 32 → need (insert r xs) p ≤ need (xs ++ r ∷ ys) p
  part p h =
      let good : Good (xs' ++ ys) = rw regroup f.good in
      rw (ended, ← regroup) (need-mono xs' (xs' ++ ys) p h (good-front xs' ys good) good (λ i e. any-front (within p i) xs' ys e))

  now : TableHolds t l xs u v
  now = render-holds t l xs o (record {
    sized = f.sized;
    good = good-front xs (r ∷ ys) f.good;
    roomy = omega (arith, f.roomy, length-append xs (r ∷ ys));
    len2 = f.len2;
    len3 = f.len3;
    fits2 = f.fits2;
    fits3 = f.fits3;
  })

  same-room : room_of v ≡ room_of l
  same-room = ap (λ (n : ℕ). n / 8) now.size.list

  owners : owners_of v ≡ o
  owners = refl

  welcome : Announceable u v r
  welcome =
      let k = f.sized.valid in
      record {
        fine = fine;
        sound = now.sound;
        roomy = rw (now.routes, same-room, ended) (omega (arith, f.roomy, length-append xs (r ∷ ys), length-append xs (r ∷ [])));
        enough2 = rw now.routes (omega (arith, part g.p1 (omega arith), f.enough2, now.size.chunks2));
        enough3 = rw now.routes (omega (arith, part g.p2 (omega arith), f.enough3, now.size.chunks3));
      }

  -- it may be announced at both levels
  pub fronts-ready1 : OpenReady xs r (level1 g) o.own2 (find o.own2 0)
  fronts-ready1 = rw now.routes at (ready1 u v r welcome)

  pub fronts-ready2 : OpenReady xs r (level2 g (chunks_of (opened g o r).own2)) o.own3 (find o.own3 0)
  fronts-ready2 = rw now.routes at (ready2 u v r welcome)

  -- it is added, and its chunks opened
  next : announced u v r ≡ record { said = accepted (0 ∷ 0 ∷ []); table = state_of t xs'; lent = lent_of t l xs' (opened g o r) }
  next =
      let is : adding u v r ≡ record { said = accepted (0 ∷ []); table = state_of t xs'; lent = lent_of t l xs' (opened g o r) }
      = adding-is u v r welcome ∙ rw (now.routes, none-stands (key r) xs below, ended, same-room) in
      announce-fine u v r fine ∙ ap (out_with_flag false) is

  pub fronts-next : Fronts t l xs' ys (opened g o r)
  fronts-next = record {
    sized = f.sized;
    good = rw regroup f.good;
    roomy = rw regroup f.roomy;
    len2 = length-open (level1 g) o.own2 _ r ∙ f.len2;
    len3 = length-open (level2 g (chunks_of (opened g o r).own2)) o.own3 _ r ∙ f.len3;
    fits2 = rw (now.routes, ended) at (welcome-fits2 u v r welcome);
    fits3 = rw (now.routes, ended) at (welcome-fits3 u v r welcome);
    enough2 = rw regroup f.enough2;
    enough3 = rw regroup f.enough3;
  }

-- all that are left, one after the other
abbrev start : Said → Table → Lent → List Route → Owners → Out
start s t l xs o = record { said = s; table = state_of t xs; lent = lent_of t l xs o }

pub record Settles (s : Said) (t : Table) (l : Lent) (xs ys : List Route) (o : Owners) : Type 0 where
  pub table : (announce_all (start s t l xs o) ys).table ≡ state_of t (xs ++ ys)
  pub lent : (announce_all (start s t l xs o) ys).lent ≡ lent_of t l (xs ++ ys) (owners_after t.geometry o ys)
  pub added : AllAdded (start s t l xs o) ys
  pub ends : Fronts t l (xs ++ ys) [] (owners_after t.geometry o ys)

pub settles : (s : Said) (t : Table) (l : Lent) (ys xs : List Route) (o : Owners) → Fronts t l xs ys o → Settles s t l xs ys o
unfolding announce_all AllAdded owners_after
settles s t l [] xs o f = record { table = rw append-nil; lent = rw append-nil; added = tt; ends = rw append-nil f }
settles s t l (r ∷ ys) xs o f = go (settles (accepted (0 ∷ 0 ∷ [])) t l ys (xs ++ (r ∷ [])) (opened t.geometry o r) (fronts-next t l xs r ys o f))
  where
    re : (xs ++ (r ∷ [])) ++ ys ≡ xs ++ r ∷ ys
    re = append_assoc xs (r ∷ []) ys

    go : Settles (accepted (0 ∷ 0 ∷ [])) t l (xs ++ (r ∷ [])) ys (opened t.geometry o r) → Settles s t l xs (r ∷ ys) o
    go k =
        let step = next t l xs r ys o f in
        let owners : Owners = owners_after t.geometry (opened t.geometry o r) ys in
        record {
          table = ap {B = Table} (λ (x : Out). (announce_all x ys).table) step ∙ k.table ∙ ap (state_of t) re;
          lent = ap {B = Lent} (λ (x : Out). (announce_all x ys).lent) step ∙ k.lent ∙ ap (λ (x : List Route). lent_of t l x owners) re;
          added = (ap {B = Said} (λ (x : Out). x.said) step, subst (λ (x : Out). AllAdded x ys) (sym step) k.added);
          ends = rw re at k.ends;
        }

-- nothing is loaded yet
pub fronts-none : (t : Table) (l : Lent) (rs : List Route) → Loadable t l rs → Fronts t l [] rs (no_owners l)
fronts-none t l rs w = record {
  sized = w.sized;
  good = w.good;
  roomy = w.roomy;
  len2 = length-replicate (length l.own2) 0;
  len3 = length-replicate (length l.own3) 0;
  fits2 = no-fits (level1 t.geometry) (length l.own2);
  fits3 = no-fits (level2 t.geometry (chunks_of (no_owners l).own2)) (length l.own3);
  enough2 = w.enough2;
  enough3 = w.enough3;
}

module _ (t : Table) (l : Lent) (rs : List Route) (w : Loadable t l rs) where
  whole : Settles (accepted []) t l [] rs (no_owners l)
  whole = settles (accepted []) t l rs [] (no_owners l) (fronts-none t l rs w)

  -- what a load of these routes leaves
  abbrev owned : Owners
  owned = owners_after t.geometry (no_owners l) rs

  pub loadable-holds : TableHolds t l rs (state_of t rs) (lent_of t l rs owned)
  loadable-holds =
      let e = whole.ends in
      render-holds t l rs owned (record {
        sized = w.sized;
        good = w.good;
        roomy = w.roomy;
        len2 = e.len2;
        len3 = e.len3;
        fits2 = e.fits2;
        fits3 = e.fits3;
      })

  fresh_start : made t l ≡ start (accepted []) t l [] (no_owners l)
  fresh_start = make-is t l w.sized ∙ rw (fresh-rendered t l w.sized)

  pub loadable-announces : ((announce_all (made t l) rs).table ≡ state_of t rs) × ((announce_all (made t l) rs).lent ≡ lent_of t l rs owned)
      × AllAdded (made t l) rs
  loadable-announces = rw fresh_start (whole.table, whole.lent, whole.added)

module _ (t : Table) (l : Lent) (input : List ℕ) where
  abbrev rs : List Route
  rs = input_routes input

  -- accepted exactly where the input is good and may be loaded
  pub accepted-loadable : accepts (load_said t l input) ≡ true → Readable t l input × Loadable t l rs
  accepted-loadable e = go (load-judged t l input) e
    where
      go : {s : Said} → Load t l input s → accepts s ≡ true → Readable t l input × Loadable t l rs
      go (Load.sizing n h) e = absurd (false≢true e)
      go (Load.bad_input s z b) e = absurd (false≢true (sym b.not_accepted ∙ e))
      go (Load.full w r) e = absurd (false≢true e)
      go (Load.second w r x) e = absurd (false≢true e)
      go (Load.third w r x y) e = absurd (false≢true e)
      go (Load.done w k) e = (w, k)

  pub loadable-said : Readable t l input → Loadable t l rs → load_said t l input ≡ accepted []
  loadable-said w k = load-only t l input _ (Load.done w k)

  pub load_is : Readable t l input → Loadable t l rs
      → loaded t l input ≡ out (accepted []) (state_of t rs) (lent_of t l rs (owners_after t.geometry (no_owners l) rs))
  unfolding loaded
  load_is w k = rw (loadable-said w k)

  pub load_said_lem : (loaded t l input).said ≡ load_said t l input
  unfolding loaded
  load_said_lem = outcome-said (load_said t l input) t l _ _

  pub load-off : (s : Said) → load_said t l input ≡ s → accepts s ≡ false → loaded t l input ≡ record { said = s; table = t; lent = l }
  unfolding loaded
  load-off s q e = rw q (outcome-refused s t l _ _ e)

  -- Refused: all as it was. (What it says is that of the first condition that holds: `load-judged`.)
  pub load-refused : accepts (loaded t l input).said ≡ false → loaded t l input ≡ record { said = load_said t l input; table = t; lent = l }
  load-refused e = load-off (load_said t l input) refl (sym (ap accepts load_said_lem) ∙ e)

  -- Accepted: sound, and the list holds the routes of the input
  module _ (e : accepts (loaded t l input).said ≡ true) where
    ok : Readable t l input × Loadable t l rs
    ok = accepted-loadable (sym (ap accepts load_said_lem) ∙ e)

    pub load-holds : TableHolds t l rs (loaded t l input).table (loaded t l input).lent
    load-holds = subst (λ (o : Out). TableHolds t l rs o.table o.lent) (sym (load_is ok.0 ok.1)) (loadable-holds t l rs ok.1)

    -- "Load equals make and then announcing each record in order, where it is accepted"
    pub load-as-announces : ((loaded t l input).table ≡ (announce_all (made t l) rs).table) × ((loaded t l input).lent ≡ (announce_all (made t l) rs).lent)
        × AllAdded (made t l) rs
    load-as-announces =
        let k = loadable-announces t l rs ok.1 in
        let q = load_is ok.0 ok.1 in
        (ap {B = Table} (λ x. x.table) q ∙ sym k.0, ap {B = Lent} (λ x. x.lent) q ∙ sym k.1, k.2)
