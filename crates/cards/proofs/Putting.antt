-- The exported repair: its number is read back, its words hold what it told, and a refusal leaves all.
use mathlib.Core.Path.{◌≡◌, refl, sym, ◌∙◌, ap}
use mathlib.Core.Bool.{true, false, true≢false}
use mathlib.Core.List.{List}
use Prim.Native.Nat.{ℕ, ◌≤◌}
use native.Mathlib.Omega.{arith}
use lib.ListN.{length}
use borrow.Author.Tests.{eq-eqb, ne_eqb}
use Rattle.routes.specs.Said.{Said, accepted, refused, refused_at, accepts, packed}
use Rattle.sail.specs.Lent.{Lent}
use Rattle.sail.specs.Sizes.{sizes_fault}
use Rattle.sail.specs.declared.table.Table.{Table}
use Rattle.sail.proofs.Fitting.{Fault, fault-is}
use Rattle.sail.specs.Cases.{Sizing}
use Rattle.packing.specs.Unpack.{unpack_none, count_of}
use Rattle.packing_repairs.specs.Repairs.{pack_count, told_in, number_says, words_fault}
use Rattle.packing_repairs.proofs.Putting.{count-read, refusal-read}
use Rattle.repair_theory.specs.Repair.{changes, repaired}
use Rattle.repair_theory.specs.Cases.{Repair}
use Rattle.repair_theory.proofs.Judged.{repair-judged, repair-only}
use Rattle.repair_theory.proofs.Repairs.{repair-said, repair-holds, refused-leaves-all-repair}
use Rattle.repair_words.specs.Repairs.{repair_card_of, repair_out}

-- With four words it is what the repair says and leaves, whatever is lent.
module _ (t : Table) (l : Lent) (xs : List ℕ) (four : length xs ≡ 4) where
  pub gh-repair-is : repair_out t l xs ≡ repair_card_of (repaired t l) xs
  unfolding repair_out words_fault packed
  gh-repair-is = go (fault-is t.geometry l) refl
    where
      off : (n : ℕ) → Sizing t l n → repaired t l ≡ record { said = refused n; table = t; lent = l }
      off n h =
          let q = repair-only t l (refused n) (Repair.sizing n h) in
          refused-leaves-all-repair t l (ap accepts (repair-said t l ∙ q)) ∙ (λ i. record { said = q i; table = t; lent = l })

      go : {n : ℕ} → Fault t.geometry l n → sizes_fault t.geometry l ≡ n → repair_out t l xs ≡ repair_card_of (repaired t l) xs
      go (Fault.none s) e = rw (e, eq-eqb (length xs) 4 four)
      go (Fault.limits h) e = rw (e, off 1 (Sizing.limits h))
      go (Fault.size v h) e = rw (e, off 2 (Sizing.size v h))

  -- the number is read back: a refusal, or that it is accepted
  pub gh-repair-read : unpack_none (repair_out t l xs).answer ≡ number_says (repaired t l).said
  gh-repair-read = rw gh-repair-is (go (repair-judged t l) (repair-said t l))
    where
      go : {s : Said} → Repair t l s → (repaired t l).said ≡ s
          → unpack_none (pack_count (repaired t l).table.count (repaired t l).said) ≡ number_says (repaired t l).said
      go (Repair.sizing n (Sizing.limits h)) e = rw e (refusal-read (repaired t l).table.count 1 (omega arith) (omega arith))
      go (Repair.sizing n (Sizing.size v h)) e = rw e (refusal-read (repaired t l).table.count 2 (omega arith) (omega arith))
      go (Repair.second s x) e = rw e (refusal-read (repaired t l).table.count 7 (omega arith) (omega arith))
      go (Repair.third s x y) e = rw e (refusal-read (repaired t l).table.count 8 (omega arith) (omega arith))
      go (Repair.done w) e =
          let c = (repair-holds t l (ap accepts e)).count in
          rw e (count-read (repaired t l).table.count (changes t l) (omega (arith, c, w.roomy, w.sized.room))).0

  -- accepted: the route count stands in the number, at most 4,096, and the four numbers in the words
  module _ (e : accepts (repaired t l).said ≡ true) where
    told : (repaired t l).said ≡ accepted (changes t l)
    told = go (repair-judged t l) (repair-said t l) e
      where
        go : {s : Said} → Repair t l s → (repaired t l).said ≡ s → accepts (repaired t l).said ≡ true → (repaired t l).said ≡ accepted (changes t l)
        go (Repair.sizing n h) q e = absurd (true≢false (sym e ∙ ap accepts q))
        go (Repair.second s x) q e = absurd (true≢false (sym e ∙ ap accepts q))
        go (Repair.third s x y) q e = absurd (true≢false (sym e ∙ ap accepts q))
        go (Repair.done w) q e = q

    few : (repaired t l).table.count ≤ 4096
    few =
        let h = repair-holds t l e in
        let room = h.sound.listed.records.few in
        room

    pub gh-repair-count : (count_of (repair_out t l xs).answer ≡ (repaired t l).table.count) × ((repaired t l).table.count ≤ 4096)
    gh-repair-count = (rw (gh-repair-is, told) (count-read (repaired t l).table.count (changes t l) (omega (arith, few))).1, few)

    pub gh-repair-out : (repair_out t l xs).out ≡ changes t l
    gh-repair-out = rw (gh-repair-is, told)

  -- refused: no word is written, and all that is lent is as it was
  pub gh-repair-left : accepts (repaired t l).said ≡ false → ((repair_out t l xs).out ≡ xs) × ((repair_out t l xs).lent ≡ l)
  gh-repair-left e =
      let q = refused-leaves-all-repair t l e in
      (rw gh-repair-is (go (repaired t l).said e), rw (gh-repair-is, q))
    where
      go : (s : Said) → accepts s ≡ false → told_in s xs ≡ xs
      go (accepted vs) e = absurd (true≢false e)
      go (refused n) e = refl
      go (refused_at n k) e = refl

-- With another number of words: 1 or 2 by the sizes, and else 2; and nothing is written.
pub gh-repair-words : (t : Table) (l : Lent) (xs : List ℕ) → (length xs ≡ 4 → ⊥)
    → ((repair_out t l xs).out ≡ xs) × ((repair_out t l xs).lent ≡ l) × ((repair_out t l xs).answer ≡ words_fault (sizes_fault t.geometry l) 0)
unfolding repair_out words_fault
gh-repair-words t l xs h = go (fault-is t.geometry l) refl
  where
    go : {n : ℕ} → Fault t.geometry l n → sizes_fault t.geometry l ≡ n
        → ((repair_out t l xs).out ≡ xs) × ((repair_out t l xs).lent ≡ l) × ((repair_out t l xs).answer ≡ words_fault (sizes_fault t.geometry l) 0)
    go (Fault.none s) e = rw (e, ne_eqb (length xs) 4 h) (refl, refl, refl)
    go (Fault.limits k) e = rw e (refl, refl, refl)
    go (Fault.size v k) e = rw e (refl, refl, refl)
