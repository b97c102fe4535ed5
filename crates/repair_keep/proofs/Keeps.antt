-- The pass over a list that keeps its records: how far it has come, and one record more.
use mathlib.Core.Path.{◌≡◌, refl, sym, ◌∙◌, ap}
use mathlib.Core.Logic.{◌⊎◌, inl, inr}
use mathlib.Core.Bool.{true, false}
use mathlib.Core.List.{List, [], ◌∷◌, ◌++◌, append-nil}
use Prim.Native.Nat.{ℕ, suc, ◌+◌, ◌-◌, ◌*◌, ◌/◌, ◌%◌, ◌≤◌, ◌<◌}
use native.Mathlib.Omega.{arith}
use lib.Dec.{eqb}
use lib.ListN.{length, get_or, take, drop, length-append, get_or-append}
use lib.Seq.{ext_get_or, take_at, length-take-le, get_or-append-add}
use borrow.Author.Tests.{eq-eqb, ne_eqb, le-leb, lt-leb}
use Rattle.bits.specs.Tab.{tabulate}
use Rattle.bits.proofs.Bools.{below?, both}
use Rattle.routes.specs.Route.{key}
use Rattle.routes.specs.Record.{record_at, bytes_of, put_at, no_route, written}
use Rattle.routes.specs.Input.{route_fault}
use Rattle.routes.specs.declared.Route.{Route}
use Rattle.routes.proofs.Rows.{length-written, byte-written}
use Rattle.repair_theory.specs.Repair.{keeps, kept_from, kept_of}
use Rattle.repair_theory.specs.Pass.{least_from}
use Rattle.repair_theory.proofs.Kept.{kept-snoc, least-snoc}
use Rattle.repair_keep.specs.Keep.{KeptIn}

length-bytes : (r : Route) → length (bytes_of r) ≡ 8
unfolding bytes_of
length-bytes r = refl

-- the bytes of one route more
module _ (rs : List Route) (r : Route) where
  longer : length (rs ++ (r ∷ [])) ≡ length rs + 1
  longer = length-append rs (r ∷ [])

  pub written-snoc : written (rs ++ (r ∷ [])) (length rs + 1) ≡ written rs (length rs) ++ bytes_of r
  written-snoc =
      let a = length-written (rs ++ (r ∷ [])) (length rs + 1) in
      let b = length-written rs (length rs) in
      ext_get_or 0 _ _ (a ∙ sym (length-append (written rs (length rs)) (bytes_of r) ∙ (omega (arith, b, length-bytes r))))
      (λ j h. go j (rw a at h) (below? j (length rs * 8)))
    where
      go : (j : ℕ) → j < (length rs + 1) * 8 → (j < length rs * 8) ⊎ (length rs * 8 ≤ j)
          → get_or (written (rs ++ (r ∷ [])) (length rs + 1)) j 0 ≡ get_or (written rs (length rs) ++ bytes_of r) j 0
      go j h (inl l) =
          let z : j / 8 * 8 + j % 8 ≡ j = omega arith in
          let x = byte-written (rs ++ (r ∷ [])) (length rs + 1) (j / 8) (j % 8) (omega (arith, longer)) (omega (arith, longer)) (omega arith) in
          let y = byte-written rs (length rs) (j / 8) (j % 8) (omega arith) (omega arith) (omega arith) in
          let e : get_or (rs ++ (r ∷ [])) (j / 8) no_route ≡ get_or rs (j / 8) no_route = get_or-append rs (r ∷ []) no_route (j / 8) (omega arith) in
          (rw (e, z) at x) ∙ sym (rw z at y) ∙ sym (get_or-append (written rs (length rs)) (bytes_of r) 0 j (rw length-written l))
      go j h (inr l) =
          let i : ℕ = j - length rs * 8 in
          let z : length rs * 8 + (j - length rs * 8) ≡ j = omega arith in
          let w : length (written rs (length rs)) + (j - length rs * 8) ≡ j = omega (arith, length-written rs (length rs)) in
          let x = byte-written (rs ++ (r ∷ [])) (length rs + 1) (length rs) (j - length rs * 8) (omega (arith, longer)) (omega (arith, longer)) (omega arith) in
          let n : length rs + 0 ≡ length rs = omega arith in
          let e : get_or (rs ++ (r ∷ [])) (length rs) no_route ≡ r = rw n at (get_or-append-add rs (r ∷ []) 0 no_route) in
          (rw (e, z) at x) ∙ (rw w at (sym (get_or-append-add (written rs (length rs)) (bytes_of r) (j - length rs * 8) 0)))

-- the bytes of a record put after those that were kept
put_front : (out : List ℕ) (m : ℕ) (r : Route) → (m + 1) * 8 ≤ length out → take ((m + 1) * 8) (put_at out m r) ≡ take (m * 8) out ++ bytes_of r
unfolding put_at
put_front out m r h =
    let n : length (take (m * 8) out ++ bytes_of r) ≡ (m + 1) * 8
    = length-append (take (m * 8) out) (bytes_of r) ∙ (omega (arith, length-take-le (m * 8) out (omega arith), length-bytes r)) in
    take_at (take (m * 8) out ++ bytes_of r) (drop (m * 8 + 8) out) ((m + 1) * 8) n

-- How far the pass has come: k records are looked at, m of them are kept, and the next must have a key of at least `least`.
pub record KeptSoFar (s : List ℕ) (k least m : ℕ) (out : List ℕ) : Type 0 where
  pub asked : least ≡ least_from s 0 0 k
  pub count : m ≡ length (kept_of s k)
  pub few : m ≤ k
  pub room : length out ≡ 32768
  pub bytes : take (m * 8) out ≡ written (kept_of s k) m

pub passed_none : (s out : List ℕ) → length out ≡ 32768 → KeptSoFar s 0 0 0 out
unfolding least_from kept_from written tabulate
passed_none s out h = record { asked = refl; count = refl; few = omega arith; room = h; bytes = refl }

module _ (s : List ℕ) (k least m : ℕ) (out : List ℕ) (p : KeptSoFar s k least m out) where
  next : k + 1 ≡ suc k
  next = omega arith

  here : 0 + k ≡ k
  here = omega arith

  -- a record that is dropped
  module _ (e : keeps s least k ≡ false) where
    off : keeps s (least_from s 0 0 k) (0 + k) ≡ false
    off = rw (here, ← p.asked) e

    same_kept : kept_of s (k + 1) ≡ kept_of s k
    same_kept = rw next (kept-snoc s 0 0 k ∙ rw off (append-nil (kept_of s k)))

    passed-drop : KeptSoFar s (k + 1) least m out
    passed-drop = record {
      asked = p.asked ∙ sym (rw next (least-snoc s 0 0 k ∙ rw off));
      count = rw same_kept p.count;
      few = omega (arith, p.few);
      room = p.room;
      bytes = rw same_kept p.bytes;
    }

  -- and one that is kept
  module _ (e : keeps s least k ≡ true) (after : List ℕ) (put : after ≡ put_at out m (record_at s k)) (fits : k < 4096) (room : length after ≡ 32768) where
    on : keeps s (least_from s 0 0 k) (0 + k) ≡ true
    on = rw (here, ← p.asked) e

    more-kept : kept_of s (k + 1) ≡ kept_of s k ++ (record_at s k ∷ [])
    more-kept = rw next (kept-snoc s 0 0 k ∙ rw (on, here))

    passed-take : KeptSoFar s (k + 1) (key (record_at s k) + 1) (m + 1) after
    passed-take = record {
      asked =
          let z : key (record_at s k) + 1 ≡ suc (key (record_at s k)) = omega arith in
          z ∙ sym (rw next (least-snoc s 0 0 k ∙ rw (on, here)));
      count = rw more-kept (omega (arith, p.count, length-append (kept_of s k) (record_at s k ∷ [])));
      few = omega (arith, p.few);
      room = room;
      bytes =
          let front = put_front out m (record_at s k) (omega (arith, p.few, p.room)) in
          rw (put, more-kept) (front ∙ rw (p.bytes, p.count) (sym (written-snoc (kept_of s k) (record_at s k))));
    }

  -- as the code goes: what it reads, what it finds, and its three ways on
  module _ (r : Route) (read : r ≡ record_at s k) (f : ℕ) (found : f ≡ route_fault r) where
    pub passed-wrong : (f ≡ 0 → ⊥) → KeptSoFar s (k + 1) least m out
    passed-wrong h = passed-drop (rw (← read, ← found, ne_eqb f 0 h))

    module _ (valid : f ≡ 0) (x : ℕ) (order : x ≡ key r) where
      fine : eqb (route_fault (record_at s k)) 0 ≡ true
      fine = eq-eqb _ _ (ap route_fault (sym read) ∙ sym found ∙ valid)

      pub passed-small : x < least → KeptSoFar s (k + 1) least m out
      passed-small h = passed-drop (rw (fine, ← read) (lt-leb least (key r) (rw order at h)))

      pub passed-more : least ≤ x → (after : List ℕ) → after ≡ put_at out m r → k < 4096 → length after ≡ 32768 → KeptSoFar s (k + 1) (x + 1) (m + 1) after
      passed-more h after put fits room =
          rw (order, read) (passed-take (both fine (rw (← read) (le-leb least (key r) (rw order at h)))) after (rw read at put) fits room)

pub passed-all : (s : List ℕ) (n k least m : ℕ) (out : List ℕ) → k ≤ n → n ≤ k → KeptSoFar s k least m out → KeptIn s n out m
passed-all s n k least m out u l p =
    let e : k ≡ n = omega arith in
    record { count = rw e at p.count; few = omega (arith, p.few); bytes = rw e at p.bytes }
