-- What the writer says on each way through it, and what that means: no byte after the field is touched, and the field is read back.
use mathlib.Core.Path.{◌≡◌, refl, sym, ap, ◌∙◌}
use mathlib.Core.Logic.{◌⊎◌, inl, inr}
use mathlib.Core.Bool.{true, false, true≢false, false≢true}
use mathlib.Core.List.{List, [], ◌∷◌, ◌++◌, map}
use Prim.Native.Nat.{ℕ, ◌+◌, ◌-◌, ◌/◌, ◌≤◌, ◌<◌}
use native.Mathlib.Omega.{arith}
use lib.ListN.{length, get_or, take, drop}
use lib.Seq.{get_or-append-add, get_or-drop, take-append_seam}
use borrow.Author.Tests.{lt-ltb, le-ltb}
use Rattle.bits.proofs.Bools.{decided, below?}
use Rattle.routes.specs.Input.{input_said}
use Rattle.routes.specs.Record.{routes_of, routes_in}
use Rattle.routes.specs.Said.{Said, accepted, refused, refused_at, and_then, accepts, said_by}
use Rattle.routes.specs.Cases.{Passes}
use Rattle.routes.specs.Route.{Good}
use Rattle.routes.proofs.Judged.{check-only, by-input}
use Rattle.routes.proofs.Meaning.{input-good}
use Rattle.routes.proofs.Rows.{records-good}
use Rattle.fields.specs.Field.{net_of, entries, field_fault, field_of}
use Rattle.fields.specs.Written.{means_written, write_said, FieldOut, field_out, over, field_written, Write}
use Rattle.std.specs.Prelude.{None, Result, Ok, Err}
use Rattle.refusals.specs.declared.Refusal.TheVariants as refusal
use Rattle.refusals.specs.declared.Refused.{Refused}
use Rattle.routes.specs.Answers.{means_input}
use Rattle.routes.proofs.Inputs.{input-ok, input-err}
use Rattle.routes.proofs.Saids.{said-injective, and-then-told, told-off}
use Rattle.fields.proofs.FieldBack.{field_back, field-fine}

module _ (s out : List ℕ) where
  pub say-refused : (w : Refused) → means_input (Err w) ≡ input_said s → field_out (means_written (Err w)) out ≡ field_written s out
  unfolding field_written write_said said_by
  say-refused w e = rw (input-err s w e, and-then-told w _, told-off w) refl

  -- the input is good, and size is the length of its field
  module _ (n : ℕ) (t : means_input (Ok n) ≡ input_said s) where
    e : input_said s ≡ accepted (n ∷ [])
    e = input-ok s n t

    same : routes_of s n ≡ routes_in s
    same = let h = (input-good s n e).0 in ap (routes_of s) (omega arith)

    module _ (size : ℕ) (q : size ≡ length (field_of (routes_of s n))) where
      is : size ≡ length (field_of (routes_in s))
      is = q ∙ ap (λ rs. length (field_of rs)) same

      pub say-short : length out < size → field_out (means_written (Err (record { why = refusal.FieldRoom; at = None }))) out ≡ field_written s out
      unfolding field_written write_said said_by
      say-short h = rw (e, ← is, lt-ltb (length out) size h)

      pub say-bytes : size ≤ length out → (u : List ℕ) → u ≡ over (field_of (routes_of s n)) out
          → field_out (means_written (Ok size)) u ≡ field_written s out
      unfolding field_written write_said said_by
      say-bytes h u w =
          let there : u ≡ over (field_of (routes_in s)) out = w ∙ ap (λ rs. over (field_of rs) out) same in
          rw (e, ← is, le-ltb (length out) size h) (ap (field_out (accepted (size ∷ []))) (there ∙ ap (λ (k : ℕ). field_of (routes_in s) ++ drop k out) (sym is)))

-- What this means. A refusal leaves the buffer as it was
pub refused-leaves-write : (s out : List ℕ) → accepts (write_said s out) ≡ false → (field_written s out).out ≡ out
unfolding field_written
refused-leaves-write s out e = rw e

-- a refusal of the input is the last word
then-stops : (x next : Said) → accepts x ≡ false → and_then x next ≡ x
then-stops (accepted vs) next e = absurd (true≢false e)
then-stops (refused n) next e = refl
then-stops (refused_at n k) next e = refl

-- what the writer says is one case of `Write`, and no other
module _ (s out : List ℕ) where
  pub write-only : (x : Said) → Write s out x → write_said s out ≡ x
  unfolding write_said
  write-only _ (Write.bad_input x b) = let e = check-only s x b.checked in rw e (then-stops x _ b.not_accepted)
  write-only _ (Write.short n g h) = rw (check-only s _ g, lt-ltb (length out) _ h)
  write-only _ (Write.put n g h) = rw (check-only s _ g, le-ltb (length out) _ h)

  pub refused-number-write : Write s out (write_said s out)
  refused-number-write =
      by-input s (λ x. Write s out (write_said s out)) (λ x b. told (Write.bad_input x b))
      (λ n g. at n g (below? (length out) (length (field_of (routes_in s)))))
    where
      told : {x : Said} → Write s out x → Write s out (write_said s out)
      told c = rw (write-only _ c) c

      at : (n : ℕ) → Passes s n → (length out < length (field_of (routes_in s))) ⊎ (length (field_of (routes_in s)) ≤ length out) → Write s out (write_said s out)
      at n g (inl h) = told (Write.short n g h)
      at n g (inr h) = told (Write.put n g h)

-- where it is accepted, the input is good, the field fits, and is over the front of the buffer
pub record Put (s out : List ℕ) : Type 0 where
  pub good : Good (routes_in s)
  pub fits : length (field_of (routes_in s)) ≤ length out
  pub there : (field_written s out).out ≡ over (field_of (routes_in s)) out

pub accepted-put : (s out : List ℕ) → accepts (write_said s out) ≡ true → Put s out
unfolding field_written
accepted-put s out e = go (refused-number-write s out) e
  where
    go : {x : Said} → Write s out x → accepts x ≡ true → Put s out
    go (Write.bad_input x b) q = absurd (true≢false (sym q ∙ b.not_accepted))
    go (Write.short n g h) q = absurd (false≢true q)
    go (Write.put n g h) q =
        let k = input-good s n (check-only s _ g) in
        let same : n ≡ length s / 8 = omega (arith, k.0) in
        record { good = rw same at (records-good s n k.1); fits = h; there = rw e }

-- "touches no byte after it"
pub write-frame : (s out : List ℕ) (j : ℕ) → length (field_of (routes_in s)) ≤ j → get_or (field_written s out).out j 0 ≡ get_or out j 0
write-frame s out j h = go (decided (accepts (write_said s out)))
  where
    f : List ℕ
    f = field_of (routes_in s)

    go : (accepts (write_said s out) ≡ true) ⊎ (accepts (write_said s out) ≡ false) → get_or (field_written s out).out j 0 ≡ get_or out j 0
    go (inr e) = ap (λ (x : List ℕ). get_or x j 0) (refused-leaves-write s out e)
    go (inl e) =
        let sum : length f + (j - length f) ≡ j = omega arith in
        ap (λ (x : List ℕ). get_or x j 0) (accepted-put s out e).there
        ∙ ap (λ (i : ℕ). get_or (over f out) i 0) (sym sum)
        ∙ get_or-append-add f (drop (length f) out) (j - length f) 0
        ∙ get_or-drop (length f) out (j - length f) 0
        ∙ ap (λ (i : ℕ). get_or out i 0) sum

-- "reading it back gives those prefixes": what was written, of as many bytes as were said
pub read-written : (s out : List ℕ) → accepts (write_said s out) ≡ true
    → (field_fault (take (length (field_of (routes_in s))) (field_written s out).out) ≡ 0)
    × (entries (take (length (field_of (routes_in s))) (field_written s out).out) ≡ map net_of (routes_in s))
read-written s out e =
    let p = accepted-put s out e in
    let front : take (length (field_of (routes_in s))) (field_written s out).out ≡ field_of (routes_in s)
    = ap (take (length (field_of (routes_in s)))) p.there ∙ take-append_seam (field_of (routes_in s)) (drop (length (field_of (routes_in s))) out) in
    rw front (field-fine (routes_in s) p.good, field_back (routes_in s) p.good)

written-injective : (x y : Result ℕ Refused) → means_written x ≡ means_written y → x ≡ y
written-injective = said-injective (λ n. n ∷ []) (λ vs. get_or vs 0 0) (λ n. refl)

-- no second answer, and no second buffer
pub one-answer-write : (s out : List ℕ) (x y : Result ℕ Refused) (u v : List ℕ) → field_out (means_written x) u ≡ field_written s out
    → field_out (means_written y) v ≡ field_written s out → (x ≡ y) × (u ≡ v)
one-answer-write s out x y u v p q =
    let e = p ∙ sym q in
    (written-injective x y (ap (λ (o : FieldOut). o.said) e), ap (λ (o : FieldOut). o.out) e)
