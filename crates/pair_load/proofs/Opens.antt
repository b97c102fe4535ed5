-- The owners of a party's load: its own are freed, and those of the input's routes opened between the other's. A chunk is free where one is to be
-- opened: the other has no more than its limit, the routes need no more than the party's, and the limits fit the pool.
use mathlib.Core.Path.{◌≡◌, refl, sym, ◌∙◌, ap}
use mathlib.Core.Logic.{◌⊎◌, inl, inr, ◌≢◌}
use mathlib.Core.Bool.{Bool, true, false, cond, false≢true}
use mathlib.Core.List.{List, [], ◌∷◌, map}
use Prim.Native.Nat.{ℕ, zero, suc, ◌+◌, ◌-◌, ◌*◌, ◌/◌, ◌%◌, ◌^◌, ◌≤◌, ◌<◌}
use native.Mathlib.Omega.{arith}
use native.Mathlib.Nat.{mul-le-mul, mod-lt}
use lib.Dec.{eqb, ltb}
use lib.ListN.{get_or, length}
use lib.Pow.{pow_mono, pow_pos}
use lib.Seq.{ext_get_or}
use borrow.Author.Tests.{lt-ltb, le-ltb, ne_eqb}
use Rattle.bits.specs.Slot.{slot}
use Rattle.bits.proofs.Bools.{below?, equal?}
use Rattle.bits.proofs.Slots.{slot_lt}
use Rattle.bits.proofs.Tabs.{length-tabulate, get_d_tabulate}
use Rattle.routes.specs.Record.{Records}
use Rattle.routes.specs.Route.{Good}
use Rattle.routes.specs.declared.Route.{Route}
use Rattle.routes.proofs.Rows.{records-good}
use Rattle.standing.specs.Cells.{any, need}
use Rattle.sail.specs.Geometry.{bits2, Valid}
use Rattle.sail.specs.Level.{Level, chunks_of, entry, in_use, level1, level2}
use Rattle.sail.specs.Sound.{used}
use Rattle.sail.specs.declared.geometry.Geometry.{Geometry}
use Rattle.sail_theory.specs.Render.{find}
use Rattle.sail_theory.specs.Calls.{Owners, keep, input_routes}
use Rattle.sail_theory.proofs.owners.Chunks.{chunk-at, chunk-before, chunk-is, chunk-le, chunk-none}
use Rattle.sail_theory.proofs.owners.GrantKeep.{get_d-keep}
use Rattle.sail_owners.specs.Owners.{granted, open_from, place_from, opened_from, owners_from, NoneOwn, Between}
use Rattle.pair.specs.Party.{Party, one, two, other, owner_of, seen, view}
use Rattle.pair.specs.PairLent.{PairLent, pair_owners}
use Rattle.pair.specs.PairSound.{share_of, standing_for, PairSound}
use Rattle.pair.specs.PairCalls.{grant_for, open_for, opened_for, owners_after_for, keep_for, owners_kept_for, with_count, pair_lent_of}
use Rattle.pair.specs.declared.Pair.{Pair}
use Rattle.pair.proofs.Views.{seen_none, seen-own, length-view, get_d-view}
use Rattle.pair.proofs.Sees.{Shift, PairHolds, shift-holds, limits2, limits3}
use Rattle.pair.proofs.PairOwners.{open-length, keep-view, keep-length}
use Rattle.pair.proofs.Shifts.{used2-is, used3-is, withdraw-shift}
use Rattle.pair_load.specs.Cleared.{top_of, freed}

-- One owner: the party's number for the place q.
pub top_small : (w : Party) → top_of w ≤ 2147483648
top_small one = omega arith
top_small two = omega arith

top-owner : (w : Party) (q : ℕ) → top_of w + suc q ≡ owner_of w q
top-owner one q = omega arith
top-owner two q = refl

seen-is : (w : Party) (o q : ℕ) → seen w o ≡ suc q → o ≡ owner_of w q
unfolding seen
seen-is one o q e = go (below? o 2147483648)
  where
    go : (o < 2147483648) ⊎ (2147483648 ≤ o) → o ≡ suc q
    go (inl l) = rw (lt-ltb o 2147483648 l) at e
    go (inr l) = let z : ◌≡◌ {A = ℕ} 0 (suc q) = rw (le-ltb o 2147483648 l) at e in absurd (omega arith)
seen-is two o q e = omega arith

-- The chunk of the party that hangs from q, found by its owner.
find-view : (w : Party) (own : List ℕ) (q : ℕ) → suc q < 2147483648 → find own (owner_of w q) ≡ find (view w own) (suc q)
find-view w own q h = go (below? (find (view w own) (suc q)) (length own))
  where
    c : ℕ
    c = find (view w own) (suc q)

    before : (j : ℕ) → j < find (view w own) (suc q) → get_or own j 0 ≢ owner_of w q
    before j l e = chunk-before (chunks_of (view w own)) (suc q) j l (get_d-view w own j ∙ ap (seen w) e ∙ seen-own w q h)

    go : (find (view w own) (suc q) < length own) ⊎ (length own ≤ find (view w own) (suc q)) → find own (owner_of w q) ≡ find (view w own) (suc q)
    go (inl l) =
        let at = chunk-at (chunks_of (view w own)) (suc q) (omega (arith, l, length-view w own)) in
        chunk-is (chunks_of own) (owner_of w q) c l (seen-is w (get_or own c 0) q (sym (get_d-view w own c) ∙ at)) before
    go (inr l) =
        chunk-none (chunks_of own) (owner_of w q) (λ j i. before j (omega arith))
        ∙ omega (arith, l, length-view w own, chunk-le (chunks_of (view w own)) (suc q))

-- A chunk opened for a route, by its owner and as the party sees it.
module _ (w : Party) where
  granted-for : (own : List ℕ) (q : ℕ) → suc q < 2147483648 → granted own (top_of w + suc q) ≡ grant_for w own (find own 0) q
  unfolding granted grant_for
  granted-for own q h = rw (top-owner w q, find-view w own q h, length-view w own)

  open-from : (p q : ℕ) (v : Level) (own : List ℕ) (r : Route) → p ≡ v.bits → q ≡ v.serving r.addr
      → (ltb v.bits r.len ≡ true → suc (v.serving r.addr) < 2147483648) → open_from (top_of w) p q own r ≡ open_for w v own r
  unfolding open_from open_for
  open-from p q v own r ep eq small = rw (ep, eq) (go (ltb v.bits r.len) refl)
    where
      go : (b : Bool) → ltb v.bits r.len ≡ b → cond b (granted own (top_of w + suc (v.serving r.addr))) own
          ≡ cond b (grant_for w own (find own 0) (v.serving r.addr)) own
      go true e = granted-for own (v.serving r.addr) (small e)
      go false e = refl

  -- at both levels
  module _ (g : Geometry) (valid : Valid g) (r : Route) (small : r.addr < 2 ^ 32) (o : Owners) (few : length o.own2 ≤ 4096) where
    abbrev now2 : List ℕ
    now2 = open_for w (level1 g) o.own2 r

    slot-few : suc (slot g.p1 r.addr) < 2147483648
    slot-few =
        let v = valid in
        let m : 2 ^ g.p1 ≤ 2 ^ 16 = pow_mono v.p1_high in
        omega (arith, slot_lt g.p1 r.addr (omega arith) small, m)

    second : open_from (top_of w) g.p1 (slot g.p1 r.addr) o.own2 r ≡ now2
    second = open-from g.p1 _ (level1 g) o.own2 r refl refl (λ e. slot-few)

    many : length now2 ≡ length o.own2
    many = open-length w (level1 g) o.own2 r (λ e. slot-few)

    abbrev v2 : Level
    v2 = level2 g (chunks_of (view w now2))

    place : place_from (top_of w) g now2 r ≡ v2.serving r.addr
    place =
        let i = slot g.p1 r.addr in
        ap (λ (c : ℕ). c * 2 ^ bits2 g + slot g.p2 r.addr % 2 ^ bits2 g)
        (ap (find now2) (top-owner w i) ∙ find-view w now2 i slot-few)

    place-few : suc (v2.serving r.addr) < 2147483648
    place-few =
        let v = valid in
        let c = chunk-le (chunks_of (view w now2)) (suc (slot g.p1 r.addr)) in
        let n : find (view w now2) (suc (slot g.p1 r.addr)) ≤ 4096 = omega (arith, c, length-view w now2, many, few) in
        let d : 2 ^ bits2 g ≤ 2 ^ 10 = pow_mono v.near in
        let m : find (view w now2) (suc (slot g.p1 r.addr)) * 2 ^ bits2 g ≤ 4096 * 2 ^ 10 = mul-le-mul n d in
        omega (arith, m, d, mod-lt (slot g.p2 r.addr) (pow_pos (bits2 g)))

    third : open_from (top_of w) g.p2 (place_from (top_of w) g now2 r) o.own3 r ≡ open_for w v2 o.own3 r
    third = open-from g.p2 _ v2 o.own3 r refl place (λ e. place-few)

    opened-from : opened_from (top_of w) g o r ≡ opened_for w g o r
    opened-from = rw (second, third)

  pub from-for : (g : Geometry) → Valid g → (rs : List Route) → Good rs → (o : Owners) → length o.own2 ≤ 4096
      → owners_from (top_of w) g o rs ≡ owners_after_for w g o rs
  unfolding owners_from owners_after_for Good
  from-for g valid [] good o few = refl
  from-for g valid (r ∷ rs) good o few =
      let fine = good.0 in
      let step = opened-from g valid r fine.prefix.addr_ok o few in
      let less : length (opened_for w g o r).own2 ≤ 4096 = omega (arith, few, many g valid r fine.prefix.addr_ok o few) in
      ap (λ (x : Owners). owners_from (top_of w) g x rs) step ∙ from-for g valid rs good.2 (opened_for w g o r) less

-- The party's own chunks are freed: no route of its own is left.
get_d-each : (f : ℕ → ℕ) (own : List ℕ) (c : ℕ) → f 0 ≡ 0 → get_or (map f own) c 0 ≡ f (get_or own c 0)
get_d-each f [] c z = sym z
get_d-each f (o ∷ own) zero z = refl
get_d-each f (o ∷ own) (suc c) z = get_d-each f own c z

pub freed-kept : (w : Party) (v : Level) (own : List ℕ) → freed (view w own) own ≡ keep_for w [] v own
unfolding freed keep_for any
freed-kept w v own =
    ext_get_or 0 _ _ (length-tabulate (length own) _ ∙ sym (keep-length w [] v own)) (λ c h.
    let l : c < length own = rw length-tabulate at h in
    get_d_tabulate (length own) _ c 0 l ∙ at c (equal? (seen w (get_or own c 0)) 0)
    ∙ sym (get_d-each (λ o. cond (eqb (seen w o) 0) o 0) own c (rw (seen_none w))))
  where
    at : (c : ℕ) → (seen w (get_or own c 0) ≡ 0) ⊎ (seen w (get_or own c 0) ≢ 0)
        → cond (in_use (entry (view w own)) c) 0 (get_or own c 0) ≡ cond (eqb (seen w (get_or own c 0)) 0) (get_or own c 0) 0
    at c (inl e) = rw (get_d-view w own c, e)
    at c (inr n) = rw (get_d-view w own c, ne_eqb (seen w (get_or own c 0)) 0 n, lt-ltb 0 (seen w (get_or own c 0)) (omega (arith, n)))

kept-none : (w : Party) (v : Level) (own : List ℕ) → NoneOwn (top_of w) (keep_for w [] v own)
unfolding any
kept-none w v own = record {
  none = λ c q h e.
      let is = seen-own w q h in
      let seen-there = get_d-view w (keep_for w [] v own) c ∙ ap (seen w) (e ∙ top-owner w q) ∙ is in
      let none-there = ap (λ (x : List ℕ). get_or x c 0) (keep-view w [] v own) ∙ get_d-keep [] v (view w own) c in
      omega (arith, seen-there, none-there);
}

-- what a party leaves free
room-left : (w : Party) (n m : Party → ℕ) (all a : ℕ) → n w ≡ 0 → n (other w) ≤ m (other w) → a ≤ m w → m one + m two ≤ all → n one + n two + a ≤ all
room-left one n m all a z h k f = omega arith
room-left two n m all a z h k f = omega arith

module _ (w : Party) (t : Pair) (b : PairLent) (s : PairSound t b) where
  abbrev g : Geometry
  g = t.geometry

  abbrev kept : Owners
  kept = owners_kept_for w g [] (pair_owners b)

  -- a box without the party's routes
  abbrev u : Pair
  u = with_count w 0 t

  abbrev v : PairLent
  v = pair_lent_of w t b [] kept

  empty : Shift w t b [] kept
  unfolding Good any
  empty = withdraw-shift t b s w [] tt (omega arith) (λ p i e. absurd (false≢true e))

  holds : PairHolds w t b [] u v
  holds = shift-holds w t b [] kept empty

  none : (p : ℕ) → need (standing_for w u v) p ≡ 0
  unfolding need
  none p = ap (λ (rs : List Route). need rs p) holds.routes

  left2 : (a : ℕ) → a ≤ (share_of w t).most2 → used kept.own2 + a ≤ length kept.own2
  left2 a h =
      let n = room-left w (λ x. need (standing_for x u v) g.p1) (λ x. (share_of x t).most2) (length b.own2) a (none g.p1)
      (rw (← limits2 w 0 t (other w)) (holds.sound.within2 (other w))) h s.fit2 in
      omega (arith, n, used2-is u v holds.sound, empty.len2)

  left3 : (a : ℕ) → a ≤ (share_of w t).most3 → used kept.own3 + a ≤ length kept.own3
  left3 a h =
      let n = room-left w (λ x. need (standing_for x u v) g.p2) (λ x. (share_of x t).most3) (length b.own3) a (none g.p2)
      (rw (← limits3 w 0 t (other w)) (holds.sound.within3 (other w))) h s.fit3 in
      omega (arith, n, used3-is u v holds.sound, empty.len3)

  few : (length kept.own2 ≤ 4096) × (length kept.own3 ≤ 4096)
  few = (
    omega (arith, empty.len2, length-view w b.own2, (s.each w).sized.few2),
    omega (arith, empty.len3, length-view w b.own3, (s.each w).sized.few3),
  )

  module _ (input : List ℕ) (records : Records input (length input / 8)) where
    abbrev rs : List Route
    rs = input_routes input

    pub kept-between : need rs g.p1 ≤ (share_of w t).most2 → need rs g.p2 ≤ (share_of w t).most3
        → Between (top_of w) g input kept.own2 kept.own3
    kept-between e2 e3 = record {
      valid = (s.each w).sized.valid;
      records = records;
      small = top_small w;
      few2 = few.0;
      few3 = few.1;
      enough2 = left2 (need rs g.p1) e2;
      enough3 = left3 (need rs g.p2) e3;
      none2 = kept-none w (level1 g) b.own2;
      none3 = kept-none w (level2 g (chunks_of (view w b.own2))) b.own3;
    }

    pub opened-for : owners_from (top_of w) g kept rs ≡ owners_after_for w g kept rs
    opened-for = from-for w g (s.each w).sized.valid rs (records-good input (length input / 8) records) kept few.0
