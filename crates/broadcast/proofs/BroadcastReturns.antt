-- What each answer of the code says.
use mathlib.Core.Path.{◌≡◌, sym, ap, ◌∙◌}
use mathlib.Core.Bool.{Bool, true, false, not}
use mathlib.Core.List.{List}
use Prim.Native.Nat.{ℕ, ◌≤◌, ◌<◌}
use native.Mathlib.Omega.{arith}
use lib.Dec.{eqb}
use borrow.Author.Tests.{le-leb, lt-leb, not-true, not-false}
use Rattle.std.specs.Prelude.{Some, None, Ok, Err}
use Rattle.refusals.specs.declared.Refusal.TheVariants as refusal
use Rattle.refusals.specs.declared.Refused.{Refused}
use Rattle.longest.specs.Longest.{LongestRecord}
use Rattle.longest.proofs.Bests.{best-record}
use Rattle.longest.proofs.Returns.{its-place}
use Rattle.routes.specs.Answers.{means_input}
use Rattle.routes.specs.Input.{input_said}
use Rattle.routes.specs.Record.{record_at, GoodInput, routes_in}
use Rattle.routes.specs.Route.{Prefix}
use Rattle.routes.specs.Said.{said_by}
use Rattle.routes.specs.declared.Route.{Route}
use Rattle.routes.proofs.Inputs.{input-ok, input-err}
use Rattle.routes.proofs.Saids.{and-then-told}
use Rattle.standing.specs.Standing.{stood}
use Rattle.broadcast.specs.Cast.{version_fine, last_len, highest, cast_of, is_broadcast, cast_said, means_cast}

-- the longest record that covers the address
module _ (v : ℕ) (s : List ℕ) (n a : ℕ) (ok : GoodInput s n) where
  pub no_cover : LongestRecord s n a 0 None → false ≡ is_broadcast v (routes_in s) a
  unfolding is_broadcast cast_of
  no_cover found = rw (best-record s n a ok found)

  module _ (k : ℕ) (found : LongestRecord s n a 0 (Some k)) where
    module _ (r : Route) (er : r ≡ record_at s k) where
      its : is_broadcast v (routes_in s) a ≡ cast_of v a (stood r)
      unfolding is_broadcast
      its = ap (cast_of v a) (best-record s n a ok found ∙ ap stood (sym er))

      pub its-prefix : Prefix r.addr r.len
      its-prefix = rw er (ok.records.each k (its-place found)).prefix

      pub not-attached : (b : Bool) → b ≡ eqb r.mark 1 → not b ≡ true → false ≡ is_broadcast v (routes_in s) a
      unfolding cast_of
      not-attached b e n = rw (its, ← e, not-true b n)

      module _ (b : Bool) (e : b ≡ eqb r.mark 1) (m : not b ≡ false) (last len : ℕ) (el : last ≡ last_len v) (en : len ≡ r.len) where
        pub too_long : last < len → false ≡ is_broadcast v (routes_in s) a
        unfolding cast_of
        too_long h = rw (its, ← e, not-false b m, lt-leb r.len (last_len v) (omega arith))

        pub ends_there : len ≤ last → (h : ℕ) → h ≡ highest r → eqb h a ≡ is_broadcast v (routes_in s) a
        unfolding cast_of
        ends_there l h q = rw (its, ← e, not-false b m, le-leb r.len (last_len v) (omega arith), q)

-- the ways out of the call
module _ (v : ℕ) (s : List ℕ) (a : ℕ) (b : Bool) (eb : b ≡ version_fine v) where
  pub says-no-version : not b ≡ true → means_cast (Err (record { why = refusal.Version; at = None })) ≡ cast_said v s a
  unfolding said_by cast_said
  says-no-version h = rw (← eb, not-true b h)

  module _ (fine : not b ≡ false) where
    pub says-one : (n : ℕ) → means_input (Ok n) ≡ input_said s → (t : Bool) → t ≡ is_broadcast v (routes_in s) a
        → means_cast (Ok t) ≡ cast_said v s a
    unfolding said_by cast_said
    says-one n e t et = rw (← eb, not-false b fine, input-ok s n e, ← et)

    pub says-refused : (w : Refused) → means_input (Err w) ≡ input_said s → means_cast (Err w) ≡ cast_said v s a
    unfolding said_by cast_said
    says-refused w e = rw (← eb, not-false b fine, input-err s w e) (sym (and-then-told w _))
