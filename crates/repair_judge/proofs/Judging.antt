-- What is kept of a list is weighed against the chunks there are.
use mathlib.Core.Path.{◌≡◌, refl, sym, ap, ◌∙◌}
use mathlib.Core.List.{List}
use Prim.Native.Nat.{ℕ, ◌*◌, ◌/◌, ◌≤◌, min}
use native.Mathlib.Omega.{arith}
use lib.ListN.{length, take}
use lib.Seq.{length-take-le}
use borrow.Author.Tests.{le-ltb}
use Rattle.std.specs.Prelude.{Option, Some, None, Result, Ok, Err}
use Rattle.refusals.specs.Numbers.{number_of}
use Rattle.refusals.specs.declared.Refusal.{Refusal}
use Rattle.refusals.proofs.Numbers.{number-above_0}
use Rattle.routes.specs.Route.{Good}
use Rattle.routes.specs.Record.{routes_of, written, Records}
use Rattle.routes.specs.Said.{refused}
use Rattle.routes.specs.declared.Route.{Route}
use Rattle.routes.proofs.Rows.{routes-written, written_listed}
use Rattle.sail.specs.Lent.{Lent}
use Rattle.sail.specs.Sizes.{sizes_fault, Sized, SizesTold}
use Rattle.sail.specs.declared.geometry.Geometry.{Geometry}
use Rattle.sail.specs.declared.table.Table.{Table}
use Rattle.sail.proofs.Fitting.{none_is}
use Rattle.sail_theory.proofs.Judges.{or-said}
use Rattle.sail_theory.specs.Calls.{terms_of, chunks_fault, load_fault}
use Rattle.sail_need.specs.Weigh.{terms, Weighs}
use Rattle.repair_theory.specs.Repair.{kept_of, looked, kept_routes, kept_bytes, repair_said}
use Rattle.repair_theory.proofs.Kept.{kept-good}
use Rattle.repair_keep.specs.Keep.{Keeps, KeptIn}
use Rattle.repair_judge.specs.Judge.{ListReady, Keeping, ListKept, KeptToo, ListJudged, KeptIfSized, RefusedIs, Judged}
use Rattle.repair_judge.specs.declared.Denied.{Denied}
use Rattle.repair_judge.specs.declared.Kept.{Kept}

module _ (t : Table) (s before : List ℕ) (h : ListReady t.geometry s before) (n : ℕ) (looks : n ≡ min t.count (length s / 8)) where
  inside : n ≤ length s / 8
  inside = omega arith

  pub keep-asks : Keeps s n before
  keep-asks = record { inside = omega (arith, inside); few = omega (arith, inside, h.few); room = h.room }

  module _ (bytes : List ℕ) (m : ℕ) (k : KeptIn s n bytes m) where
    abbrev rs : List Route
    rs = kept_of s n

    good : Good rs
    good = kept-good s 0 0 n

    few : m ≤ 4096
    few = omega (arith, k.few, inside, h.few)

    module _ (same : length bytes ≡ length before) where
      pub kept_in : m * 8 ≤ length bytes
      kept_in = omega (arith, few, h.room)

      pub kept-room : m * 8 ≡ length (take (m * 8) bytes)
      kept-room = sym (length-take-le (m * 8) bytes kept_in)

    routes : routes_of (take (m * 8) bytes) m ≡ rs
    routes = rw (k.bytes, k.count) (routes-written rs (length rs) good (omega arith))

    records : Records (take (m * 8) bytes) m
    records = rw (k.bytes, k.count) (written_listed rs (length rs) good (omega arith) (omega (arith, k.count, few))).records

    pub weigh-asks : Weighs t.geometry (take (m * 8) bytes) m
    weigh-asks = record { valid = h.valid; records = records }

    -- they find room in their own list, so only chunks may lack
    pub judge-weighed : (n2 n3 f : ℕ) → f ≡ load_fault (terms t.geometry (length s / 8) n2 n3) (routes_of (take (m * 8) bytes) m)
        → ListKept t s n2 n3 bytes f (record { looked = n; kept = m })
    unfolding load_fault
    judge-weighed n2 n3 f e = record {
      keeping = record { looks = looks; keeps = k.count; input = k.bytes };
      fault = e ∙ rw (routes, le-ltb (length s / 8) (length rs) (omega (arith, k.count, k.few, inside)));
    }

-- The records that are looked at are the table's, so what is kept of its list is what a repair keeps of it.
module _ (t : Table) (l : Lent) (j : Kept) (looks : j.looked ≡ looked t l) where
  kept-so : kept_of l.list j.looked ≡ kept_routes t l
  unfolding kept_routes
  kept-so = rw looks

module _ (t : Table) (l : Lent) (bytes : List ℕ) (j : Kept) (k : Keeping t l.list bytes j) where
  pub looks-so : j.looked ≡ looked t l
  unfolding looked
  looks-so = k.looks

  pub keeps-so : j.kept ≡ length (kept_routes t l)
  keeps-so = rw (← kept-so t l j looks-so) k.keeps

  pub input-so : take (j.kept * 8) bytes ≡ kept_bytes t l
  input-so = rw (← kept-so t l j looks-so, ← k.keeps) k.input

-- and these three say no less than `Keeping` does
pub keeping-of : (t : Table) (l : Lent) (bytes : List ℕ) (j : Kept) → j.looked ≡ looked t l → j.kept ≡ length (kept_routes t l)
    → take (j.kept * 8) bytes ≡ kept_bytes t l → Keeping t l.list bytes j
unfolding looked
keeping-of t l bytes j looks keeps input = record {
  looks = looks;
  keeps = rw (kept-so t l j looks) keeps;
  input = rw (kept-so t l j looks) (input ∙ ap (written (kept_routes t l)) (sym keeps));
}

-- What a refusal reports, if the sizes are right: the counts, and what is kept in the bytes.
module _ (t : Table) (l : Lent) (bytes : List ℕ) (d : Denied) (r : RefusedIs t l bytes d) (s : Sized t.geometry l) where
  pub refused-keeps : (k : Kept) × (d.kept ≡ Some k) × Keeping t l.list bytes k
  refused-keeps = go d.kept r.kept
    where
      go : (o : Option Kept) → KeptIfSized t l bytes o → (k : Kept) × (o ≡ Some k) × Keeping t l.list bytes k
      go None h = absurd (h s)
      go (Some k) h = (k, refl, h.1)

  pub refused-input : take (length (kept_routes t l) * 8) bytes ≡ kept_bytes t l
  refused-input = let k = refused-keeps in rw (keeps-so t l bytes k.0 k.2) at (input-so t l bytes k.0 k.2)

-- if the sizes are right, the list may be judged alone
pub list-asks : (g : Geometry) (l : Lent) (before : List ℕ) → Sized g l → length before ≡ 32768 → ListReady g l.list before
list-asks g l before s room = record { valid = s.valid; few = omega (arith, s.room); room = room }

module _ (t : Table) (l : Lent) (z : ℕ) (check : SizesTold z t.geometry l) where
  -- the sizes come first
  pub sizes-said : (z ≡ 0 → ⊥) → repair_said t l ≡ refused z
  unfolding repair_said
  sizes-said n = or-said (sizes_fault t.geometry l) z _ check.number n

  pub judge-sizes : (bytes : List ℕ) (why : Refusal) → z ≡ number_of why → RefusedIs t l bytes (record { why = why; kept = None })
  judge-sizes bytes why e =
      let n : z ≡ 0 → ⊥ = λ h. number-above_0 why (sym e ∙ h) in
      record { says = sizes-said n ∙ ap refused e; kept = λ s. n (check.number ∙ none_is t.geometry l s) }

  module _ (fits : z ≡ 0) where
    module _ (bytes : List ℕ) (f : ℕ) (j : Kept) (k : ListKept t l.list (length l.own2) (length l.own3) bytes f j) where
      chunks-so : f ≡ chunks_fault (terms_of t l) (kept_routes t l)
      chunks-so = rw (← kept-so t l j (looks-so t l bytes j k.keeping)) k.fault

      pub chunks-said : (f ≡ 0 → ⊥) → repair_said t l ≡ refused f
      unfolding repair_said
      chunks-said h = rw (sym check.number ∙ fits) (or-said (chunks_fault (terms_of t l) (kept_routes t l)) f _ chunks-so h)

    judge-chunks : (bytes : List ℕ) (why : Refusal) (o : Option Kept)
        → KeptToo t l.list (length l.own2) (length l.own3) bytes (number_of why) o → RefusedIs t l bytes (record { why = why; kept = o })
    judge-chunks bytes why None h = absurd h
    judge-chunks bytes why (Some j) h = record {
      says = chunks-said bytes (number_of why) j h (number-above_0 why);
      kept = (check.facts fits, h.keeping);
    }

    pub judge-listed : (bytes : List ℕ) (r : Result Kept Denied)
        → ListJudged t l.list (length l.own2) (length l.own3) bytes r → Judged t l bytes r
    judge-listed bytes (Ok j) h = record { sized = check.facts fits; keeping = h.keeping; enough = sym (chunks-so bytes 0 j h) }
    judge-listed bytes (Err d) h = judge-chunks bytes d.why d.kept h
