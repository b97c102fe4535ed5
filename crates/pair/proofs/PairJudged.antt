-- What each call on a box returns is decided by the first condition, in the documents' order, that holds: it is one of the cases of
-- specs/PairCases.antt (`-judged`), and the cases exclude each other (`-only`). Each proof goes through the tests of the call's definition in their order.
use mathlib.Core.Path.{◌≡◌, refl, sym, ◌∙◌}
use mathlib.Core.Logic.{◌⊎◌, inl, inr}
use mathlib.Core.Bool.{Bool, true, false, not, cond, true≢false}
use mathlib.Core.List.{List, [], ◌∷◌}
use Prim.Native.Nat.{ℕ, zero, suc, ◌+◌, ◌-◌, ◌/◌, ◌≤◌, ◌<◌}
use native.Mathlib.Omega.{arith}
use lib.Dec.{ltb, leb}
use lib.ListN.{length, get_or}
use borrow.Author.Tests.{lt-leb, le-leb, lt-ltb, le-ltb}
use Rattle.bits.specs.Count.{bit}
use Rattle.bits.proofs.Bools.{decided, below?, untrue}
use Rattle.routes.specs.Route.{key_of, key, Fine}
use Rattle.routes.specs.Input.{proper_prefix, route_fault}
use Rattle.routes.specs.Said.{Said, accepted, refused, and_then}
use Rattle.routes.specs.Cases.{Passes, WrongRoute, BadInput}
use Rattle.routes.specs.declared.Route.{Route}
use Rattle.routes.proofs.Rows.{length-routes}
use Rattle.routes.proofs.Meaning.{prefix-true, true-prefix, RouteChecked, route-checked, wrong-fault, fine-fault, good-input}
use Rattle.routes.proofs.Judged.{good-whole, bad-stops, by-input, check-only}
use Rattle.standing.specs.Cells.{need}
use Rattle.standing.specs.Standing.{stands, insert}
use Rattle.sail.specs.Cases.{Stray}
use Rattle.sail.specs.Sizes.{Sized}
use Rattle.sail.specs.Walk.{leaf_said, step_said, shut, walk_said}
use Rattle.sail.specs.declared.geometry.Geometry.{Geometry}
use Rattle.sail.proofs.Fitting.{Fault, fault-is}
use Rattle.sail_theory.specs.Calls.{chunks_fault, announce_fault, withdraw_fault, load_fault, or_say, input_routes}
use Rattle.pair.specs.Party.{Party, one, two, foreign}
use Rattle.pair.specs.PairLent.{PairLent, side, room_for}
use Rattle.pair.specs.PairSound.{share_of, standing_for, pair_sizes_fault, limits_fit, PairSound, pair_sound?}
use Rattle.pair.specs.PairCalls.{
  pair_terms,
  fresh_pair,
  fresh_pair_lent,
  pair_make_said,
  pair_made,
  pair_announce_said,
  pair_withdraw_said,
  pair_load_said,
  pair_reported,
  opens_for,
  pair_lookup_said,
}
use Rattle.pair.specs.PairCases.{
  AllSized,
  PairSizing,
  PairMake,
  PairProper,
  PairRoomy,
  PairAnnounce,
  PairWithdraw,
  PairReadable,
  PairLoad,
  PairReport,
  Enters,
  Theirs,
  v1,
  v2,
  v3,
  PairLookup,
}
use Rattle.pair.specs.declared.Pair.{Pair}
use Rattle.pair.proofs.Sees.{for-both, side-sized}
use Rattle.pair.proofs.PairTest.{limits-tells, pair-sound-tells}
use Rattle.pair.proofs.PairFresh.{ends-said, sizes-none}

-- the two answers of a test, and the two orders of two numbers
abbrev Answer : Bool → Type 0
Answer b = (b ≡ true) ⊎ (b ≡ false)

abbrev Beside : ℕ → ℕ → Type 0
Beside m n = (m < n) ⊎ (n ≤ m)

-- the sizes
module _ (t : Pair) (b : PairLent) where
  abbrev g : Geometry
  g = t.geometry

  abbrev ok : Bool
  ok = pair_sound? t b

  -- what is wrong with the sizes: nothing, 1 or 2
  data PairFault : ℕ → Type 0 where
    none : AllSized t b → PairFault 0
    some : (n : ℕ) → PairSizing t b n → PairFault n

  pair-fault : PairFault (pair_sizes_fault g b)
  unfolding pair_sizes_fault
  pair-fault = go (fault-is g (side one b)) (fault-is g (side two b))
    where
      go : {n m : ℕ} → Fault g (side one b) n → Fault g (side two b) m → PairFault (cond (lib.Dec.eqb n 0) m n)
      go (Fault.none x) (Fault.none y) = PairFault.none (for-both (λ w. Sized g (side w b)) one x y)
      go (Fault.none x) (Fault.limits h) = PairFault.some 1 (PairSizing.limits h)
      go (Fault.none x) (Fault.size v h) = PairFault.some 2 (PairSizing.size v (λ z. h (z two)))
      go (Fault.limits h) y = PairFault.some 1 (PairSizing.limits h)
      go (Fault.size v h) y = PairFault.some 2 (PairSizing.size v (λ z. h (z one)))

  -- what a call returns if it gets so far, after the sizes
  after-sizes : (P : Said → Type 0) (s : Said) → ((n : ℕ) → PairSizing t b n → P (refused n)) → (AllSized t b → P s) → P (or_say (pair_sizes_fault g b) s)
  after-sizes P s off on = go pair-fault
    where
      go : {n : ℕ} → PairFault n → P (or_say n s)
      go (PairFault.none z) = on z
      go (PairFault.some _ (PairSizing.limits h)) = off 1 (PairSizing.limits h)
      go (PairFault.some _ (PairSizing.size v h)) = off 2 (PairSizing.size v h)

  sizing-said : (n : ℕ) (s : Said) → PairSizing t b n → or_say (pair_sizes_fault g b) s ≡ refused n
  sizing-said n s h = go pair-fault h
    where
      go : {m n : ℕ} → PairFault m → PairSizing t b n → or_say m s ≡ refused n
      go (PairFault.none z) (PairSizing.limits h) = absurd (h (z one).valid)
      go (PairFault.none z) (PairSizing.size v h) = absurd (h z)
      go (PairFault.some _ (PairSizing.limits k)) (PairSizing.limits h) = refl
      go (PairFault.some _ (PairSizing.limits k)) (PairSizing.size v h) = absurd (k v)
      go (PairFault.some _ (PairSizing.size v k)) (PairSizing.limits h) = absurd (h v)
      go (PairFault.some _ (PairSizing.size v k)) (PairSizing.size u h) = refl

  all-sized : PairSound t b → AllSized t b
  all-sized s w = side-sized g w b (s.each w).sized

  unsound-is : (PairSound t b → ⊥) → ok ≡ false
  unsound-is h = untrue ok (λ e. h ((pair-sound-tells t b).0 e))

  not_sound : ok ≡ false → PairSound t b → ⊥
  not_sound e s = true≢false (sym ((pair-sound-tells t b).1 s) ∙ e)

  -- make
  fits : Answer (limits_fit t b) → AllSized t b → PairMake t b (or_say (cond (limits_fit t b) 0 24) (accepted []))
  fits (inl e) z = let f = (limits-tells t b).0 e in rw e (PairMake.done z f.0 f.1)
  fits (inr e) z =
      rw e (PairMake.over z (go (below? (length b.own2) (t.one.most2 + t.two.most2)) (below? (length b.own3) (t.one.most3 + t.two.most3))))
    where
      go : Beside (length b.own2) (t.one.most2 + t.two.most2) → Beside (length b.own3) (t.one.most3 + t.two.most3)
          → (length b.own2 < t.one.most2 + t.two.most2) ⊎ (length b.own3 < t.one.most3 + t.two.most3)
      go (inl x) y = inl x
      go (inr x) (inl y) = inr y
      go (inr x) (inr y) = absurd (true≢false (sym ((limits-tells t b).1 (x, y)) ∙ e))

  pub pair-make-said : (pair_made t b).said ≡ pair_make_said t b
  unfolding pair_made
  pair-make-said = ends-said (pair_make_said t b) t b (fresh_pair t) (fresh_pair_lent b)

  pub pair-make-judged : PairMake t b (pair_make_said t b)
  unfolding pair_make_said
  pair-make-judged = after-sizes (PairMake t b) _ PairMake.sizing (fits (decided (limits_fit t b)))

  over-said : (length b.own2 < t.one.most2 + t.two.most2) ⊎ (length b.own3 < t.one.most3 + t.two.most3) → limits_fit t b ≡ false
  over-said (inl x) = untrue (limits_fit t b) (λ e. omega (arith, x, ((limits-tells t b).0 e).0))
  over-said (inr x) = untrue (limits_fit t b) (λ e. omega (arith, x, ((limits-tells t b).0 e).1))

  pub pair-make-only : (s : Said) → PairMake t b s → pair_make_said t b ≡ s
  unfolding pair_make_said
  pair-make-only s (PairMake.sizing n h) = sizing-said n _ h
  pair-make-only s (PairMake.over z x) = rw (sizes-none g b z, over-said x)
  pair-make-only s (PairMake.done z x y) = rw (sizes-none g b z, (limits-tells t b).1 (x, y))

  -- report
  module _ (w : Party) where
    pub pair-report-judged : PairReport w t b (pair_reported w t b)
    unfolding pair_reported
    pair-report-judged = after-sizes (PairReport w t b) _ PairReport.sizing (λ z. go z (decided ok))
      where
        go : AllSized t b → Answer ok → PairReport w t b (cond (not ok) (refused 5)
            (accepted ((share_of w t).count ∷ need (standing_for w t b) g.p1 ∷ need (standing_for w t b) g.p2 ∷ [])))
        go z (inl u) = rw u (PairReport.counts ((pair-sound-tells t b).0 u))
        go z (inr u) = rw u (PairReport.unsound z (not_sound u))

    pub pair-report-only : (s : Said) → PairReport w t b s → pair_reported w t b ≡ s
    unfolding pair_reported
    pair-report-only s (PairReport.sizing n h) = sizing-said n _ h
    pair-report-only s (PairReport.unsound z h) = rw (sizes-none g b z, unsound-is h)
    pair-report-only s (PairReport.counts k) = rw (sizes-none g b (all-sized k), (pair-sound-tells t b).1 k)

-- announce
module _ (w : Party) (t : Pair) (b : PairLent) (r : Route) where
  abbrev rs : List Route
  rs = standing_for w t b

  -- the chunks that the routes that would then stand need
  abbrev need2 : ℕ
  need2 = need (insert r rs) t.geometry.p1

  abbrev need3 : ℕ
  need3 = need (insert r rs) t.geometry.p2

  abbrev most2 : ℕ
  most2 = (share_of w t).most2

  abbrev most3 : ℕ
  most3 = (share_of w t).most3

  announce-fine : Fine r → AllSized t b
      → PairAnnounce w t b r (or_say (announce_fault (pair_sound? t b) (pair_terms w t b) rs r) (accepted (bit (stands (key r) rs) ∷ [])))
  unfolding announce_fault chunks_fault
  announce-fine f z =
      go (decided (pair_sound? t b)) (decided (stands (key r) rs)) (below? (length rs) (room_for w b)) (below? most2 need2) (below? most3 need3)
    where
      proper : pair_sound? t b ≡ true → PairProper w t b r
      proper u = record { fine = f; sound = (pair-sound-tells t b).0 u }

      roomy : pair_sound? t b ≡ true → stands (key r) rs ≡ false → length rs < room_for w b → PairRoomy w t b r
      roomy u e k = record { proper = proper u; new = e; room = k }

      go : Answer (pair_sound? t b) → Answer (stands (key r) rs) → Beside (length rs) (room_for w b) → Beside most2 need2 → Beside most3 need3
          → PairAnnounce w t b r (or_say (cond (not (pair_sound? t b)) 5 (cond (stands (key r) rs) 0 (cond (leb (room_for w b) (length rs)) 6
          (cond (ltb most2 need2) 7 (cond (ltb most3 need3) 8 0)))))
          (accepted (bit (stands (key r) rs) ∷ [])))
      go (inr u) e k x y = rw u (PairAnnounce.unsound z f (not_sound t b u))
      go (inl u) (inl e) k x y = rw (u, e) (PairAnnounce.replaced (proper u) e)
      go (inl u) (inr e) (inr k) x y = rw (u, e, le-leb (room_for w b) (length rs) k) (PairAnnounce.full (proper u) e k)
      go (inl u) (inr e) (inl k) (inl x) y = rw (u, e, lt-leb (room_for w b) (length rs) k, lt-ltb _ _ x) (PairAnnounce.second (roomy u e k) x)
      go (inl u) (inr e) (inl k) (inr x) (inl y) =
          rw (u, e, lt-leb (room_for w b) (length rs) k, le-ltb _ _ x, lt-ltb _ _ y) (PairAnnounce.third (roomy u e k) x y)
      go (inl u) (inr e) (inl k) (inr x) (inr y) =
          rw (u, e, lt-leb (room_for w b) (length rs) k, le-ltb _ _ x, le-ltb _ _ y) (PairAnnounce.added (roomy u e k) x y)

  pub pair-announce-judged : PairAnnounce w t b r (pair_announce_said w t b r)
  unfolding pair_announce_said
  pair-announce-judged = after-sizes t b (PairAnnounce w t b r) _ PairAnnounce.sizing (λ z. go z (route_fault r) (route-checked r))
    where
      go : AllSized t b → (n : ℕ) → RouteChecked r n
          → PairAnnounce w t b r (or_say n (or_say (announce_fault (pair_sound? t b) (pair_terms w t b) rs r) (accepted (bit (stands (key r) rs) ∷ []))))
      go z n (RouteChecked.fine e f) = rw e (announce-fine f z)
      go z (suc n) (RouteChecked.wrong h x) = PairAnnounce.wrong (suc n) z x
      go z zero (RouteChecked.wrong h x) = absurd (omega arith)

  wrong-said : (n : ℕ) (s : Said) → WrongRoute r n → or_say (route_fault r) s ≡ refused n
  wrong-said n s x = rw (wrong-fault r n x) (go x)
    where
      go : {n : ℕ} → WrongRoute r n → or_say n s ≡ refused n
      go (WrongRoute.prefix h) = refl
      go (WrongRoute.hop p h) = refl
      go (WrongRoute.mark p a c h) = refl

  -- past 5
  proper-said : PairProper w t b r
      → pair_announce_said w t b r ≡ or_say (cond (stands (key r) rs) 0 (cond (leb (room_for w b) (length rs)) 6 (chunks_fault (pair_terms w t b) (insert r rs))))
      (accepted (bit (stands (key r) rs) ∷ []))
  unfolding pair_announce_said announce_fault
  proper-said p = rw (sizes-none t.geometry b (all-sized t b p.sound), fine-fault r p.fine, (pair-sound-tells t b).1 p.sound)

  -- past 6
  roomy-said : PairRoomy w t b r → pair_announce_said w t b r ≡ or_say (chunks_fault (pair_terms w t b) (insert r rs)) (accepted (0 ∷ []))
  roomy-said x = proper-said x.proper ∙ rw (x.new, lt-leb (room_for w b) (length rs) x.room)

  pub pair-announce-only : (s : Said) → PairAnnounce w t b r s → pair_announce_said w t b r ≡ s
  unfolding pair_announce_said announce_fault chunks_fault
  pair-announce-only s (PairAnnounce.sizing n h) = sizing-said t b n _ h
  pair-announce-only s (PairAnnounce.wrong n z x) = rw (sizes-none t.geometry b z) (wrong-said n _ x)
  pair-announce-only s (PairAnnounce.unsound z f h) = rw (sizes-none t.geometry b z, fine-fault r f, unsound-is t b h)
  pair-announce-only s (PairAnnounce.replaced p e) = proper-said p ∙ rw e
  pair-announce-only s (PairAnnounce.full p e k) = proper-said p ∙ rw (e, le-leb (room_for w b) (length rs) k)
  pair-announce-only s (PairAnnounce.second p x) = roomy-said p ∙ rw (lt-ltb _ _ x)
  pair-announce-only s (PairAnnounce.third p x y) = roomy-said p ∙ rw (le-ltb _ _ x, lt-ltb _ _ y)
  pair-announce-only s (PairAnnounce.added p x y) = roomy-said p ∙ rw (le-ltb _ _ x, le-ltb _ _ y)

-- withdraw
module _ (w : Party) (t : Pair) (b : PairLent) (a len : ℕ) where
  pub pair-withdraw-judged : PairWithdraw w t b a len (pair_withdraw_said w t b a len)
  unfolding pair_withdraw_said withdraw_fault
  pair-withdraw-judged =
      after-sizes t b (PairWithdraw w t b a len) _ PairWithdraw.sizing
      (λ z. go z (decided (proper_prefix a len)) (decided (pair_sound? t b)) (decided (stands (key_of a len) (standing_for w t b))))
    where
      go : AllSized t b → Answer (proper_prefix a len) → Answer (pair_sound? t b) → Answer (stands (key_of a len) (standing_for w t b))
          → PairWithdraw w t b a len (or_say (withdraw_fault (pair_sound? t b) (standing_for w t b) a len) (accepted []))
      go z (inr p) u e = rw p (PairWithdraw.bad_prefix z (λ q. true≢false (sym (true-prefix a len q) ∙ p)))
      go z (inl p) (inr u) e = rw (p, u) (PairWithdraw.unsound z (prefix-true a len p) (not_sound t b u))
      go z (inl p) (inl u) (inr e) = rw (p, u, e) (PairWithdraw.absent (prefix-true a len p) ((pair-sound-tells t b).0 u) e)
      go z (inl p) (inl u) (inl e) = rw (p, u, e) (PairWithdraw.removed (prefix-true a len p) ((pair-sound-tells t b).0 u) e)

  pub pair-withdraw-only : (s : Said) → PairWithdraw w t b a len s → pair_withdraw_said w t b a len ≡ s
  unfolding pair_withdraw_said withdraw_fault
  pair-withdraw-only s (PairWithdraw.sizing n h) = sizing-said t b n _ h
  pair-withdraw-only s (PairWithdraw.bad_prefix z h) =
      rw (sizes-none t.geometry b z, untrue (proper_prefix a len) (λ e. h (prefix-true a len e)))
  pair-withdraw-only s (PairWithdraw.unsound z p h) = rw (sizes-none t.geometry b z, true-prefix a len p, unsound-is t b h)
  pair-withdraw-only s (PairWithdraw.absent p k e) =
      rw (sizes-none t.geometry b (all-sized t b k), true-prefix a len p, (pair-sound-tells t b).1 k, e)
  pair-withdraw-only s (PairWithdraw.removed p k e) =
      rw (sizes-none t.geometry b (all-sized t b k), true-prefix a len p, (pair-sound-tells t b).1 k, e)

-- load
module _ (w : Party) (t : Pair) (b : PairLent) (input : List ℕ) where
  abbrev many : ℕ
  many = length input / 8

  abbrev needs2 : ℕ
  needs2 = need (input_routes input) t.geometry.p1

  abbrev needs3 : ℕ
  needs3 = need (input_routes input) t.geometry.p2

  abbrev rest : Said
  rest = or_say (load_fault (pair_terms w t b) (input_routes input)) (accepted [])

  load_read : PairReadable w t b input → PairLoad w t b input rest
  unfolding load_fault chunks_fault
  load_read k =
      rw (length-routes input many)
      (go (below? (room_for w b) many) (below? (share_of w t).most2 needs2) (below? (share_of w t).most3 needs3))
    where
      go : Beside (room_for w b) many → Beside (share_of w t).most2 needs2 → Beside (share_of w t).most3 needs3
          → PairLoad w t b input (or_say (cond (ltb (room_for w b) many) 6 (cond (ltb (share_of w t).most2 needs2) 7
          (cond (ltb (share_of w t).most3 needs3) 8 0))) (accepted []))
      go (inl r) x y = rw (lt-ltb _ _ r) (PairLoad.full k r)
      go (inr r) (inl x) y = rw (le-ltb _ _ r, lt-ltb _ _ x) (PairLoad.second k r x)
      go (inr r) (inr x) (inl y) = rw (le-ltb _ _ r, le-ltb _ _ x, lt-ltb _ _ y) (PairLoad.third k r x y)
      go (inr r) (inr x) (inr y) = rw (le-ltb _ _ r, le-ltb _ _ x, le-ltb _ _ y) (PairLoad.done k r x y)

  pub pair-load-judged : PairLoad w t b input (pair_load_said w t b input)
  unfolding pair_load_said
  pair-load-judged = after-sizes t b (PairLoad w t b input) _ PairLoad.sizing (λ z. go z (decided (pair_sound? t b)))
    where
      bad : PairSound t b → (s : Said) → BadInput input s → PairLoad w t b input (and_then s rest)
      bad k s x = rw (bad-stops s rest x.not_accepted) (PairLoad.bad_input s k x)

      readable : PairSound t b → (n : ℕ) → Passes input n → PairLoad w t b input rest
      readable k n p =
          let h = good-whole input n p in
          let q : n ≡ length input / 8 = omega (arith, h.0) in
          load_read (record { sound = k; whole = omega (arith, h.0); records = rw q at h.1 })

      go : AllSized t b → Answer (pair_sound? t b)
          → PairLoad w t b input (cond (not (pair_sound? t b)) (refused 5) (and_then (Rattle.routes.specs.Input.input_said input) rest))
      go z (inr u) = rw u (PairLoad.unsound z (not_sound t b u))
      go z (inl u) =
          let k = (pair-sound-tells t b).0 u in
          rw u (by-input input (λ s. PairLoad w t b input (and_then s rest)) (bad k) (readable k))

  -- past the input
  read-said : PairReadable w t b input
      → pair_load_said w t b input ≡ or_say (cond (ltb (room_for w b) many) 6 (chunks_fault (pair_terms w t b) (input_routes input))) (accepted [])
  unfolding pair_load_said load_fault
  read-said k =
      rw (
        sizes-none t.geometry b (all-sized t b k.sound),
        (pair-sound-tells t b).1 k.sound,
        good-input input many k.whole k.records,
        length-routes input many,
      )

  pub pair-load-only : (s : Said) → PairLoad w t b input s → pair_load_said w t b input ≡ s
  unfolding pair_load_said chunks_fault
  pair-load-only s (PairLoad.sizing n h) = sizing-said t b n _ h
  pair-load-only s (PairLoad.unsound z h) = rw (sizes-none t.geometry b z, unsound-is t b h)
  pair-load-only _ (PairLoad.bad_input s k x) =
      rw (sizes-none t.geometry b (all-sized t b k), (pair-sound-tells t b).1 k, check-only input s x.checked) (bad-stops s _ x.not_accepted)
  pair-load-only s (PairLoad.full k r) = read-said k ∙ rw (lt-ltb _ _ r)
  pair-load-only s (PairLoad.second k r x) = read-said k ∙ rw (le-ltb _ _ r, lt-ltb _ _ x)
  pair-load-only s (PairLoad.third k r x y) = read-said k ∙ rw (le-ltb _ _ r, le-ltb _ _ x, lt-ltb _ _ y)
  pair-load-only s (PairLoad.done k r x y) = read-said k ∙ rw (le-ltb _ _ r, le-ltb _ _ x, le-ltb _ _ y)

-- lookup: one step of the walk
module _ (w : Party) (t : Pair) (b : PairLent) (a n : ℕ) (own : List ℕ) (v : ℕ) (on : Said) where
  at_leaf : 32768 ≤ v → step_said n (opens_for w own) v on ≡ leaf_said n v
  unfolding step_said
  at_leaf h = rw (le-leb 32768 v h)

  at-chunk : Enters w t b a own v → step_said n (opens_for w own) v on ≡ on
  unfolding step_said
  at-chunk h = rw (lt-leb 32768 v h.leads.low, le-leb 1 v h.leads.one, le-leb v (length own) h.leads.last, h.open_to)

  at-theirs : Theirs w t b a own v → step_said n (opens_for w own) v on ≡ refused 5
  unfolding step_said
  at-theirs h = rw (lt-leb 32768 v h.leads.low, le-leb 1 v h.leads.one, le-leb v (length own) h.leads.last, h.theirs)

  at-stray : Stray v (length own) → step_said n (opens_for w own) v on ≡ refused 5
  unfolding step_said
  at-stray h = go h.none
    where
      go : (v ≡ 0) ⊎ (length own < v) → step_said n (opens_for w own) v on ≡ refused 5
      go (inl e) = rw (lt-leb 32768 v h.low, lt-leb 1 v (omega arith))
      go (inr l) = rw (lt-leb 32768 v h.low, le-leb 1 v (omega arith), lt-leb v (length own) l)

  -- a leaf, the number of a chunk of the other's or of another, or neither
  by-cell : (P : Type 0) → (32768 ≤ v → P) → (Stray v (length own) → P) → (Theirs w t b a own v → P) → (Enters w t b a own v → P) → P
  by-cell P leaf stray theirs enters = go (below? v 32768) (below? v 1) (below? (length own) v) (decided (foreign w (get_or own (v - 1) 0)))
    where
      go : Beside v 32768 → Beside v 1 → Beside (length own) v → Answer (foreign w (get_or own (v - 1) 0)) → P
      go (inr h) x y f = leaf h
      go (inl h) (inl x) y f = stray (record { low = h; none = inl (omega arith) })
      go (inl h) (inr x) (inl y) f = stray (record { low = h; none = inr y })
      go (inl h) (inr x) (inr y) (inl f) = theirs (record { leads = record { low = h; one = x; last = y }; theirs = f })
      go (inl h) (inr x) (inr y) (inr f) = enters (record { leads = record { low = h; one = x; last = y }; open_to = f })

third-leaf : (v : ℕ) → 32768 ≤ v → step_said 3 shut v (refused 5) ≡ leaf_said 3 v
unfolding step_said
third-leaf v h = rw (le-leb 32768 v h)

third-low : (v : ℕ) → v < 32768 → step_said 3 shut v (refused 5) ≡ refused 5
unfolding step_said
third-low v h = rw (lt-leb 32768 v h)

module _ (w : Party) (t : Pair) (b : PairLent) (a : ℕ) where
  abbrev x1 : ℕ
  x1 = v1 w t b a

  abbrev x2 : ℕ
  x2 = v2 w t b a

  abbrev x3 : ℕ
  x3 = v3 w t b a

  sized-said : AllSized t b → pair_lookup_said w t b a
      ≡ step_said 1 (opens_for w b.own2) x1 (step_said 2 (opens_for w b.own3) x2 (step_said 3 shut x3 (refused 5)))
  unfolding pair_lookup_said walk_said
  sized-said z = rw (sizes-none t.geometry b z)

  one_chunk : AllSized t b → Enters w t b a b.own2 x1
      → pair_lookup_said w t b a ≡ step_said 2 (opens_for w b.own3) x2 (step_said 3 shut x3 (refused 5))
  one_chunk z k = sized-said z ∙ at-chunk w t b a 1 b.own2 x1 _ k

  two-chunks : AllSized t b → Enters w t b a b.own2 x1 → Enters w t b a b.own3 x2 → pair_lookup_said w t b a ≡ step_said 3 shut x3 (refused 5)
  two-chunks z k j = one_chunk z k ∙ at-chunk w t b a 2 b.own3 x2 _ j

  pub pair-lookup-only : (s : Said) → PairLookup w t b a s → pair_lookup_said w t b a ≡ s
  unfolding pair_lookup_said
  pair-lookup-only s (PairLookup.sizing n h) = sizing-said t b n _ h
  pair-lookup-only s (PairLookup.first_leaf z h) = sized-said z ∙ at_leaf w t b a 1 b.own2 x1 _ h
  pair-lookup-only s (PairLookup.first_stray z h) = sized-said z ∙ at-stray w t b a 1 b.own2 x1 _ h
  pair-lookup-only s (PairLookup.first_theirs z h) = sized-said z ∙ at-theirs w t b a 1 b.own2 x1 _ h
  pair-lookup-only s (PairLookup.second_leaf z k h) = one_chunk z k ∙ at_leaf w t b a 2 b.own3 x2 _ h
  pair-lookup-only s (PairLookup.second_stray z k h) = one_chunk z k ∙ at-stray w t b a 2 b.own3 x2 _ h
  pair-lookup-only s (PairLookup.second_theirs z k h) = one_chunk z k ∙ at-theirs w t b a 2 b.own3 x2 _ h
  pair-lookup-only s (PairLookup.third_is_leaf z k j h) = two-chunks z k j ∙ third-leaf x3 h
  pair-lookup-only s (PairLookup.third_no_leaf z k j h) = two-chunks z k j ∙ third-low x3 h

  pub pair-lookup-judged : PairLookup w t b a (pair_lookup_said w t b a)
  pair-lookup-judged = go (pair-fault t b)
    where
      Its : Type 0
      Its = PairLookup w t b a (pair_lookup_said w t b a)

      told : {s : Said} → PairLookup w t b a s → Its
      told c = rw (pair-lookup-only _ c) c

      last : AllSized t b → Enters w t b a b.own2 x1 → Enters w t b a b.own3 x2 → Beside x3 32768 → Its
      last z k j (inl h) = told (PairLookup.third_no_leaf z k j h)
      last z k j (inr h) = told (PairLookup.third_is_leaf z k j h)

      second : AllSized t b → Enters w t b a b.own2 x1 → Its
      second z k =
          by-cell w t b a 2 b.own3 x2 (refused 5) Its (λ h. told (PairLookup.second_leaf z k h)) (λ h. told (PairLookup.second_stray z k h))
          (λ h. told (PairLookup.second_theirs z k h)) (λ j. last z k j (below? x3 32768))

      go : {m : ℕ} → PairFault t b m → Its
      go (PairFault.some n h) = told (PairLookup.sizing n h)
      go (PairFault.none z) =
          by-cell w t b a 1 b.own2 x1 (refused 5) Its (λ h. told (PairLookup.first_leaf z h)) (λ h. told (PairLookup.first_stray z h))
          (λ h. told (PairLookup.first_theirs z h)) (second z)
