-- What the judges of an announcement answer.
use mathlib.Core.Path.{◌≡◌, sym, ◌∙◌, ap}
use mathlib.Core.Logic.{◌⊎◌, inl, inr}
use mathlib.Core.Bool.{Bool, true, false, not, ◌&&◌, true≢false}
use mathlib.Core.List.{List, [], ◌∷◌}
use Prim.Native.Nat.{ℕ, ◌/◌, ◌≤◌, ◌<◌}
use native.Mathlib.Nat.{pos_of_ne-zero}
use native.Mathlib.Omega.{arith}
use lib.Dec.{ltb, leb}
use lib.ListN.{length}
use borrow.Author.Tests.{lt-ltb, le-ltb, lt-leb, le-leb, not-true}
use Rattle.bits.specs.Count.{bit}
use Rattle.bits.specs.Slot.{slot}
use Rattle.bits.proofs.Bools.{decided, below?}
use Rattle.routes.specs.Route.{key, Fine, Good}
use Rattle.routes.specs.Record.{routes_of}
use Rattle.standing.specs.Cells.{long, need}
use Rattle.routes.specs.Input.{route_fault}
use Rattle.routes.specs.Said.{accepted, refused, accepts}
use Rattle.standing.specs.Standing.{stands, insert}
use Rattle.routes.specs.declared.Route.{Route}
use Rattle.routes.specs.Cases.{WrongRoute}
use Rattle.routes.proofs.Meaning.{RouteChecked, route-checked, fine-fault}
use Rattle.routes.proofs.Rows.{length-routes, records-good}
use Rattle.lists.specs.Place.{place_of}
use Rattle.sail.specs.Lent.{Lent}
use Rattle.sail.specs.Sizes.{SizesTold}
use Rattle.sail.specs.Level.{chunks_of}
use Rattle.sail.specs.Sound.{standing, used}
use Rattle.sail.specs.declared.table.Table.{Table}
use Rattle.sail.proofs.Fitting.{none_is}
use Rattle.sail.proofs.Sounds.{chunks-need}
use Rattle.sail_theory.specs.Calls.{Terms, terms_of, chunks_fault, announce_fault, or_say, announce_said}
use Rattle.sail_theory.specs.Cases.{Proper, Announce}
use Rattle.sail_theory.proofs.calls.OneCase.{announce-only}
use Rattle.sail_theory.proofs.calls.Outcomes.{accepted-welcome}
use Rattle.sail_theory.proofs.places.SoundTest.{sound-tells}
use Rattle.sail_theory.proofs.owners.UsedNeed.{Enough}
use Rattle.sail_theory.proofs.owners.Chunks.{used_le}
use Rattle.standing.proofs.NeedAfter.{need-more, need-same}
use Rattle.sail_sound.specs.TableTest.{Tried}
use Rattle.sail_chunks.specs.Chunks.{alone}
use Rattle.sail_chunks.specs.ToOpen.{no_opening, Opens}
use Rattle.sail_chunks.proofs.ToOpen.{opens-nothing}
use Rattle.sail_chunks.proofs.Trails.{serving-of}
use Rattle.sail_chunks.specs.declared.opening.Opening.{Opening}
use Rattle.sail_sound.proofs.TableTest.{tried-sound}
use Rattle.sail_theory.proofs.Judges.{judged-off, or-said}
use Rattle.sail_judge.specs.Announce.{RoomReady, room_terms, RoomJudged, AnnounceJudged}
use Rattle.sail_judge.specs.declared.announce.AnnounceVerdict.{AnnounceVerdict}

-- a limit that the chunks in use keep is exceeded exactly where a chunk is to be opened and as many as the limit are in use
over : (rs : List Route) (r : Route) (p : ℕ) (own : List ℕ) → Enough rs p own → Fine r → (limit : ℕ) → used own ≤ limit →
    (alone rs p r.addr r.len && leb limit (used own)) ≡ ltb limit (need (insert r rs) p)
unfolding alone
over rs r p own w fine limit h = go (decided (ltb p r.len)) (decided (long rs p (slot p r.addr))) (below? (used own) limit)
  where
    same-need : (ltb p r.len ≡ true → long rs p (slot p r.addr) ≡ true) → false ≡ ltb limit (need (insert r rs) p)
    same-need f = sym (le-ltb limit (need (insert r rs) p) (omega (arith, w.counted, need-same r rs fine w.good p w.small f)))

    go : (ltb p r.len ≡ true) ⊎ (ltb p r.len ≡ false) → (long rs p (slot p r.addr) ≡ true) ⊎ (long rs p (slot p r.addr) ≡ false) →
        (used own < limit) ⊎ (limit ≤ used own)
        → ((ltb p r.len && not (long rs p (slot p r.addr))) && leb limit (used own)) ≡ ltb limit (need (insert r rs) p)
    go (inr e) d z = rw e (same-need (λ y. absurd (true≢false (sym y ∙ e))))
    go (inl e) (inl d) z = rw (e, d) (same-need (λ _. d))
    go (inl e) (inr d) (inl z) = rw (e, d, lt-leb limit (used own) z)
        (sym (le-ltb limit (need (insert r rs) p) (omega (arith, w.counted, need-more r rs fine w.good p w.small e d))))
    go (inl e) (inr d) (inr z) = rw (e, d, le-leb limit (used own) z)
        (sym (lt-ltb limit (need (insert r rs) p) (omega (arith, w.counted, need-more r rs fine w.good p w.small e d))))

module _ (t : Table) (l : Lent) (r : Route) where
  -- what is told with the number n
  abbrev Told : ℕ → Type 0
  Told n = (f : AnnounceVerdict) → f.number ≡ n → AnnounceJudged t l r f

  off : (n : ℕ) → 1 ≤ n → Announce t l r (refused n) → Told n
  off n h x f e = judged-off f.number _ _ (rw e h) (rw e (announce-only t l r (refused n) x))

  -- the steps before the room is looked at
  module _ (z : ℕ) (check : SizesTold z t.geometry l) where
    pub judge-sizes : (z ≡ 0 → ⊥) → Told z
    unfolding announce_said
    judge-sizes h f e = rw e (record { off = λ _. or-said _ z _ check.number h; on = λ y. absurd (h y) })

    -- f is what is wrong with the route by itself
    module _ (h : z ≡ 0) (f : ℕ) (e : f ≡ route_fault r) where
      pub judge-route : (f ≡ 0 → ⊥) → Told f
      judge-route n = off f (pos_of_ne-zero n) (Announce.wrong f (check.facts h) (go (rw (← e) at (route-checked r))))
        where
          go : RouteChecked r f → WrongRoute r f
          go (RouteChecked.fine q g) = absurd (n q)
          go (RouteChecked.wrong q w) = w

      module _ (n : f ≡ 0) (d : Bool) (k : Tried d t l) where
        fine : Fine r
        fine = go (rw (← e) at (route-checked r))
          where
            go : RouteChecked r f → Fine r
            go (RouteChecked.fine q g) = g
            go (RouteChecked.wrong q w) = absurd (omega arith)

        pub judge-sound : not d ≡ true → Told 5
        judge-sound y = off 5 (omega arith) (Announce.unsound (check.facts h) fine (λ s. true≢false (sym (k.tells.1 s) ∙ not-true d y)))

        pub judge-proper : not d ≡ false → Proper t l r
        judge-proper y = record { fine = fine; sound = tried-sound t l d k y }

-- What the judge of the room asks holds of a sound table, with all chunks that are lent for limits; and what it answers is then what is said.
module _ {t : Table} {l : Lent} {r : Route} (p : Proper t l r) where
  pub room-ready : RoomReady t l.list l.first l.second l.own2 l.own3 r (length l.own2) (length l.own3)
  room-ready = record {
    fine = p.fine;
    listed = p.sound.listed;
    serving = serving-of t l p.sound;
    needed2 = (chunks-need t l p.sound).0;
    needed3 = (chunks-need t l p.sound).1;
    within2 = used_le (chunks_of l.own2);
    within3 = used_le (chunks_of l.own3);
  }

  said : announce_said t l r ≡ or_say (announce_fault true (terms_of t l) (standing t l) r) (accepted (bit (stands (key r) (standing t l)) ∷ []))
  unfolding announce_said
  said = rw (none_is t.geometry l p.sound.sized, fine-fault r p.fine, (sound-tells t l).1 p.sound)

  pub room-judged : {f : AnnounceVerdict} → RoomJudged (terms_of t l) l.list t.count l.own2 r f → AnnounceJudged t l r f
  room-judged {f} j = record {
    off = λ h. said ∙ or-said _ f.number _ j.number h;
    on = λ z. record { may = accepted-welcome t l r (ap accepts said ∙ rw (sym j.number ∙ z)); found = j.found z };
  }

-- ---- what is known once the prefix is sought in the list

-- x is the key of the route, k its place, and b tells whether the prefix stands
pub record Sought : Type 0 where
  pub t : Table
  pub s : List ℕ
  pub first : List ℕ
  pub second : List ℕ
  pub own2 : List ℕ
  pub own3 : List ℕ
  pub r : Route
  pub most2 : ℕ
  pub most3 : ℕ
  pub ready : RoomReady t s first second own2 own3 r most2 most3
  pub x : ℕ
  pub k : ℕ
  pub b : Bool
  pub named : x ≡ key r
  pub placed : k ≡ place_of s t.count x
  pub told : b ≡ stands x (routes_of s t.count)

abbrev pub sought : {t : Table} {s first second own2 own3 : List ℕ} {r : Route} {most2 most3 : ℕ} → RoomReady t s first second own2 own3 r most2 most3
    → {x : ℕ} → x ≡ key r → {k : ℕ} → k ≡ place_of s t.count x → {b : Bool} → b ≡ stands x (routes_of s t.count) → Sought
sought {t} {s} {first} {second} {own2} {own3} {r} {most2} {most3} p {x} n {k} e {b} h = record {
  t = t;
  s = s;
  first = first;
  second = second;
  own2 = own2;
  own3 = own3;
  r = r;
  most2 = most2;
  most3 = most3;
  ready = p;
  x = x;
  k = k;
  b = b;
  named = n;
  placed = e;
  told = h;
}

module _ (s : Sought) where
  abbrev rs : List Route
  rs = routes_of s.s s.t.count

  abbrev terms : Terms
  terms = room_terms s.t s.s s.most2 s.most3

  abbrev Answers : AnnounceVerdict → Type 0
  Answers f = RoomJudged terms s.s s.t.count s.own2 s.r f

  good : Good rs
  good = records-good s.s s.t.count s.ready.listed.records

  stands-is : s.b ≡ stands (key s.r) rs
  stands-is = rw s.named at s.told

  -- a refusal
  stops : (n : ℕ) → 1 ≤ n → announce_fault true terms rs s.r ≡ n → (f : AnnounceVerdict) → f.number ≡ n → Answers f
  stops n h e f z = record { number = z ∙ sym e; found = λ y. absurd (omega arith) }

  -- none
  passes : (o : Opening) → announce_fault true terms rs s.r ≡ 0 → Opens s.t.geometry rs s.own2 s.r.addr s.r.len o
      → Answers (record { number = 0; at = s.k; stands = s.b; opens = o })
  passes o e opens = record { number = sym e; found = λ _. record { at = rw s.named at s.placed; stood = stands-is; opens = opens } }

  pub room-stands : s.b ≡ true → Answers (record { number = 0; at = s.k; stands = true; opens = no_opening })
  unfolding announce_fault
  room-stands h =
      let stood = sym stands-is ∙ h in
      rw h at (passes no_opening (rw stood) (opens-nothing _ _ _ _ s.ready.fine good stood))

  pub room-full : s.b ≡ false → length s.s / 8 ≤ s.t.count → (f : AnnounceVerdict) → f.number ≡ 6 → Answers f
  unfolding announce_fault
  room-full h f =
      stops 6 (omega arith) (rw (sym stands-is ∙ h, le-leb (length s.s / 8) (length rs) (rw length-routes f)))

-- ---- and once it is new, the list has room, and o tells which chunks are to be opened

pub record RoomLeft : Type 0 where
  pub s : Sought
  pub new : s.b ≡ false
  pub room : s.t.count < length s.s / 8
  pub o : Opening
  pub opens : Opens s.t.geometry (rs s) s.own2 s.r.addr s.r.len o

abbrev pub fitting : (s : Sought) → s.b ≡ false → s.t.count < length s.s / 8
    → {o : Opening} → Opens s.t.geometry (rs s) s.own2 s.r.addr s.r.len o → RoomLeft
fitting s h f {o} e = record { s = s; new = h; room = f; o = o; opens = e }

module _ (v : RoomLeft) where
  abbrev next : List Route
  next = insert v.s.r (rs v.s)

  -- past 6
  roomy : announce_fault true (terms v.s) (rs v.s) v.s.r ≡ chunks_fault (terms v.s) next
  unfolding announce_fault
  roomy = rw (sym (stands-is v.s) ∙ v.new, lt-leb (length v.s.s / 8) (length (rs v.s)) (rw length-routes v.room))

  enough2 : Enough (rs v.s) v.s.t.geometry.p1 v.s.own2
  enough2 = let z = v.s.ready.serving.valid in record { good = good v.s; small = omega arith; counted = v.s.ready.needed2 }

  enough3 : Enough (rs v.s) v.s.t.geometry.p2 v.s.own3
  enough3 = let z = v.s.ready.serving.valid in record { good = good v.s; small = omega arith; counted = v.s.ready.needed3 }

  module _ {c : Bool} (z : c ≡ (v.o.second && leb v.s.most2 (used v.s.own2))) where
    seven : c ≡ ltb v.s.most2 (need next v.s.t.geometry.p1)
    seven = z ∙ rw v.opens.second (over (rs v.s) v.s.r _ v.s.own2 enough2 v.s.ready.fine v.s.most2 v.s.ready.within2)

    pub room-second : c ≡ true → (f : AnnounceVerdict) → f.number ≡ 7 → Answers v.s f
    unfolding chunks_fault
    room-second y = stops v.s 7 (omega arith) (roomy ∙ rw (sym seven ∙ y))

    module _ (y : c ≡ false) {d : Bool} (u : d ≡ (v.o.third && leb v.s.most3 (used v.s.own3))) where
      eight : d ≡ ltb v.s.most3 (need next v.s.t.geometry.p2)
      eight = u ∙ rw v.opens.third (over (rs v.s) v.s.r _ v.s.own3 enough3 v.s.ready.fine v.s.most3 v.s.ready.within3)

      pub room-third : d ≡ true → (f : AnnounceVerdict) → f.number ≡ 8 → Answers v.s f
      unfolding chunks_fault
      room-third h = stops v.s 8 (omega arith) (roomy ∙ rw (sym seven ∙ y, sym eight ∙ h))

      pub room-enough : d ≡ false → Answers v.s (record { number = 0; at = v.s.k; stands = false; opens = v.o })
      unfolding chunks_fault
      room-enough h = rw v.new at (passes v.s v.o (roomy ∙ rw (sym seven ∙ y, sym eight ∙ h)) v.opens)
