-- Demand 3. Any run of calls from a fresh table, refused ones among them: the table is sound, and its list holds exactly the routes worked out
-- from the accepted calls. By induction over the run: each call leaves a sound table of the same geometry and size (`leaves`), with what it says
-- of each prefix where it is accepted, and with all as it was where it is not. (proofs/runs/AsFresh.antt: it is as good as a fresh load.)
use mathlib.Core.Path.{◌≡◌, refl, sym, ◌∙◌, ap}
use mathlib.Core.Logic.{◌⊎◌, inl, inr}
use mathlib.Core.Bool.{true, false, cond}
use mathlib.Core.List.{List, [], ◌∷◌}
use Prim.Native.Nat.{ℕ, ◌/◌}
use Rattle.bits.specs.Slot.{cut}
use Rattle.bits.proofs.Bools.{decided}
use Rattle.routes.specs.Said.{accepts}
use Rattle.routes.specs.Route.{key_of, Good}
use Rattle.routes.specs.Record.{written}
use Rattle.standing.specs.Standing.{absent, route_at}
use Rattle.routes.specs.declared.Route.{Route}
use Rattle.standing.proofs.Standing.{insert-stands, remove-stands, same-standing}
use Rattle.sail.specs.Lent.{Lent}
use Rattle.sail.specs.Sizes.{Sized}
use Rattle.sail.specs.Sound.{Sound, standing}
use Rattle.sail.specs.declared.table.Table.{Table}
use Rattle.sail.proofs.Sounds.{standing-good}
use Rattle.sail_theory.specs.Render.{room_of}
use Rattle.sail_theory.specs.Calls.{Out, made, cut_route, announced, withdrawn, loaded}
use Rattle.sail_theory.specs.Facts.{SameSize, TableHolds}
use Rattle.sail_theory.specs.CallRuns.{Call, announce, withdraw, load, done, after, held_after, held_by_calls, routes_after}
use Rattle.sail_theory.proofs.calls.Cleared.{announce-refused, announce-holds, withdraw-refused, withdraw-holds}
use Rattle.sail_theory.proofs.calls.Make.{make-holds}
use Rattle.sail_theory.proofs.calls.SameSizes.{size-refl, size-trans}
use Rattle.sail_theory.proofs.calls.Load.{load-refused, load-holds}

-- what a call leaves of a sound table: one that is sound, of the same geometry and size, with what it says for each prefix, if it is accepted;
-- and its list has the bytes of its routes alone, if the list before had
pub record Leaves (t : Table) (l : Lent) (c : Call) (o : Out) : Type 0 where
  pub sound : Sound o.table o.lent
  pub geometry : o.table.geometry ≡ t.geometry
  pub size : SameSize l o.lent
  pub list_so : standing o.table o.lent ≡ cond (accepts o.said) (routes_after c (standing t l)) (standing t l)
  pub bytes_so : l.list ≡ written (standing t l) (room_of l) → o.lent.list ≡ written (standing o.table o.lent) (room_of l)
  pub says_so : (k : ℕ) → route_at k (standing o.table o.lent) ≡ cond (accepts o.said) (held_after c k (route_at k (standing t l)))
      (route_at k (standing t l))

module _ (t : Table) (l : Lent) (s : Sound t l) (c : Call) (o : Out) where
  refused-leaves : accepts o.said ≡ false → o.table ≡ t → o.lent ≡ l → Leaves t l c o
  refused-leaves e p q = record {
    sound = rw (p, q) s;
    geometry = ap (λ (x : Table). x.geometry) p;
    size = rw q (size-refl l);
    list_so = rw (e, p, q);
    bytes_so = λ b. rw (p, q) b;
    says_so = λ k. rw (e, p, q);
  }

  holds-leaves : accepts o.said ≡ true → TableHolds t l (routes_after c (standing t l)) o.table o.lent
      → ((k : ℕ) → route_at k (routes_after c (standing t l)) ≡ held_after c k (route_at k (standing t l))) → Leaves t l c o
  holds-leaves e h so = record {
    sound = h.sound;
    geometry = h.geometry;
    size = h.size;
    list_so = rw (e, h.routes);
    bytes_so = λ _. rw h.routes h.list;
    says_so = λ k. rw (e, h.routes) (so k);
  }

module _ (t : Table) (l : Lent) (s : Sound t l) where
  announce-leaves : (r : Route) → Leaves t l (announce r) (announced t l r)
  announce-leaves r = go (decided (accepts (announced t l r).said))
    where
      go : (accepts (announced t l r).said ≡ true) ⊎ (accepts (announced t l r).said ≡ false) → Leaves t l (announce r) (announced t l r)
      go (inl e) = holds-leaves t l s (announce r) _ e (announce-holds t l r e) (λ k. insert-stands k (cut_route r) (standing t l))
      go (inr e) =
          let q = announce-refused t l r e in
          refused-leaves t l s (announce r) _ e (ap (λ (x : Out). x.table) q) (ap (λ (x : Out). x.lent) q)

  withdraw-leaves : (a len : ℕ) → Leaves t l (withdraw a len) (withdrawn t l a len)
  withdraw-leaves a len = go (decided (accepts (withdrawn t l a len).said))
    where
      go : (accepts (withdrawn t l a len).said ≡ true) ⊎ (accepts (withdrawn t l a len).said ≡ false) → Leaves t l (withdraw a len) (withdrawn t l a len)
      go (inl e) = holds-leaves t l s (withdraw a len) _ e (withdraw-holds t l a len e) (λ k. remove-stands (key_of (cut len a) len) k (standing t l))
      go (inr e) =
          let q = withdraw-refused t l a len e in
          refused-leaves t l s (withdraw a len) _ e (ap (λ (x : Out). x.table) q) (ap (λ (x : Out). x.lent) q)

  load-leaves : (input : List ℕ) → Leaves t l (load input) (loaded t l input)
  load-leaves input = go (decided (accepts (loaded t l input).said))
    where
      go : (accepts (loaded t l input).said ≡ true) ⊎ (accepts (loaded t l input).said ≡ false) → Leaves t l (load input) (loaded t l input)
      go (inl e) = holds-leaves t l s (load input) _ e (load-holds t l input e) (λ k. refl)
      go (inr e) =
          let q = load-refused t l input e in
          refused-leaves t l s (load input) _ e (ap (λ (x : Out). x.table) q) (ap (λ (x : Out). x.lent) q)

  -- each call is accepted or not: then its outcome holds the routes that would stand, or all is as it was
  pub leaves : (c : Call) → Leaves t l c (done t l c)
  unfolding done
  leaves (announce r) = announce-leaves r
  leaves (withdraw a len) = withdraw-leaves a len
  leaves (load input) = load-leaves input

-- nothing stands in a fresh table
made-says : (t : Table) (l : Lent) (z : Sized t.geometry l) (k : ℕ) → route_at k (standing (made t l).table (made t l).lent) ≡ absent
unfolding route_at
made-says t l z k = rw (make-holds t l z).routes

module _ (t : Table) (l : Lent) (z : Sized t.geometry l) where
  pub record RunIs (cs : List Call) : Type 0 where
    pub sound : Sound (after t l cs).table (after t l cs).lent
    pub geometry : (after t l cs).table.geometry ≡ t.geometry
    pub size : SameSize l (after t l cs).lent
    pub bytes_so : (after t l cs).lent.list ≡ written (standing (after t l cs).table (after t l cs).lent) (room_of l)
    pub stands_so : (k : ℕ) → route_at k (standing (after t l cs).table (after t l cs).lent) ≡ held_by_calls t l cs k

  -- by induction: a fresh table is sound and nothing stands in it, and each call leaves what `Leaves` says of a sound table
  pub run_is : (cs : List Call) → RunIs cs
  unfolding after held_by_calls
  run_is [] =
      let h = make-holds t l z in
      record { sound = h.sound; geometry = h.geometry; size = h.size; bytes_so = rw h.routes h.list; stands_so = made-says t l z }
  run_is (c ∷ cs) = go (run_is cs)
    where
      go : RunIs cs → RunIs (c ∷ cs)
      go w =
          let k = leaves (after t l cs).table (after t l cs).lent w.sound c in
          let room : room_of (after t l cs).lent ≡ room_of l = ap (λ (n : ℕ). n / 8) w.size.list in
          record {
            sound = k.sound;
            geometry = k.geometry ∙ w.geometry;
            size = size-trans l (after t l cs).lent _ w.size k.size;
            bytes_so = rw room at (k.bytes_so (rw room w.bytes_so));
            stands_so = λ j. k.says_so j ∙ rw (w.stands_so j);
          }

  -- the list has the bytes of its routes, marks included, and zero bytes after them
  pub run-bytes : (cs : List Call) → (after t l cs).lent.list ≡ written (standing (after t l cs).table (after t l cs).lent) (room_of l)
  run-bytes cs = (run_is cs).bytes_so

  pub run_sound : (cs : List Call) → Sound (after t l cs).table (after t l cs).lent
  run_sound cs = (run_is cs).sound

  -- the list holds exactly the routes of the accepted calls; being in order, it is the only such list
  pub run-standing : (cs : List Call) (k : ℕ) → route_at k (standing (after t l cs).table (after t l cs).lent) ≡ held_by_calls t l cs k
  run-standing cs = (run_is cs).stands_so

  -- from call to call: what is accepted changes the list as it says, and what is refused does not
  pub run-list : (c : Call) (cs : List Call) → standing (after t l (c ∷ cs)).table (after t l (c ∷ cs)).lent
      ≡ cond (accepts (after t l (c ∷ cs)).said)
      (routes_after c (standing (after t l cs).table (after t l cs).lent))
      (standing (after t l cs).table (after t l cs).lent)
  unfolding after
  run-list c cs = (leaves (after t l cs).table (after t l cs).lent (run_sound cs) c).list_so

  pub run_only : (cs : List Call) (rs : List Route) → Good rs → ((k : ℕ) → route_at k rs ≡ held_by_calls t l cs k)
      → standing (after t l cs).table (after t l cs).lent ≡ rs
  run_only cs rs h e = same-standing _ rs (standing-good _ _ (run_sound cs)) h (λ k. run-standing cs k ∙ sym (e k))
