-- Words of lookups: why one is refused, and what it is; and those of many addresses.
use mathlib.Core.Path.{◌≡◌, refl, ◌∙◌, sym, ap}
use mathlib.Core.List.{List}
use Prim.Native.Nat.{ℕ, ◌%◌, ◌^◌, ◌<◌}
use native.Mathlib.Omega.{arith}
use borrow.Author.Tests.{eq-eqb, ne_eqb}
use lib.ListN.{length, get_or}
use Rattle.bits.proofs.Tabs.{is-tabulate, length-tabulate, get_d_tabulate}
use Rattle.bits.specs.Tab.{tabulate}
use Rattle.routes.specs.Said.{Said, refused}
use Rattle.sail.specs.Geometry.{standard_geo}
use Rattle.sail.specs.Lent.{Lent}
use Rattle.sail.specs.Sizes.{sizes_fault, SizesTold}
use Rattle.sail.specs.Walk.{found_said, lookup_said}
use Rattle.sail.specs.declared.geometry.Geometry.{Geometry}
use Rattle.sail.specs.declared.table.Table.{Table}
use Rattle.sail.proofs.Fitting.{Fault, fault-is}
use Rattle.sail.proofs.Steps.{look-on, look-not}
use Rattle.sail.proofs.Words.{word_of}
use Rattle.sail_many.specs.Flows.{answer_at}
use Rattle.sail_many.proofs.LookupWords.{answer-is}
use Rattle.sail.specs.Word.{packed, pack_found, said_of, Word}
use Rattle.sail_words.specs.Lookups.{table_of, words_card, many_card}

-- the low 32 bits of the walk's answer
abbrev pub low_walk : Geometry → Lent → ℕ → ℕ
low_walk g l a = pack_found (found_said g l a) % 2 ^ 32

pub word_low : (w : ℕ) (s : Said) → Word w s → w < 2 ^ 32 → w ≡ pack_found s % 2 ^ 32
word_low w s h b = omega (arith, h.packs)

module _ (t : Table) (l : Lent) (ads xs : List ℕ) (r : ℕ) (told : SizesTold r t.geometry l) where
  pub many-not : (r ≡ 0 → ⊥) → words_card r xs ≡ many_card t l ads xs
  unfolding many_card
  many-not n = rw (← told.number, ne_eqb r 0 n)

  pub many-uneven : r ≡ 0 → (length xs ≡ length ads → ⊥) → words_card 2 xs ≡ many_card t l ads xs
  unfolding many_card
  many-uneven e n = rw (eq-eqb (sizes_fault t.geometry l) 0 (sym told.number ∙ e), ne_eqb (length xs) (length ads) n)

  pub many-all : r ≡ 0 → length xs ≡ length ads → (ys : List ℕ) → length ys ≡ length ads
      → ((k : ℕ) → k < length ads → get_or ys k 0 ≡ low_walk t.geometry l (get_or ads k 0)) → words_card 0 ys ≡ many_card t l ads xs
  unfolding many_card lookup_said
  many-all e n ys m h =
      rw (eq-eqb (sizes_fault t.geometry l) 0 (sym told.number ∙ e), eq-eqb (length xs) (length ads) n)
      (ap (words_card 0) (is-tabulate 0 ys (length ads) (λ (k : ℕ). low_walk t.geometry l (get_or ads k 0)) m h))

  -- the words of addresses that went their way through cells of 16 bits
  pub many-answers : r ≡ 0 → length xs ≡ length ads → ((i : ℕ) → get_or l.first i 0 < 65536) → ((i : ℕ) → get_or l.second i 0 < 65536) →
      ((i : ℕ) → get_or l.third i 0 < 65536) → (ys : List ℕ)
      → ys ≡ tabulate (length ads) (answer_at t.geometry.p1 t.geometry.p2 l.first l.second (length l.own2) l.third
      (length l.own3) ads) → words_card 0 ys ≡ many_card t l ads xs
  many-answers e n b1 b2 b3 ys q =
      many-all e n ys (ap length q ∙ length-tabulate (length ads) _)
      (λ k h. ap (λ (zs : List ℕ). get_or zs k 0) q ∙ get_d_tabulate (length ads) _ k 0 h
      ∙ (let w = answer-is t.geometry l (get_or ads k 0) (told.facts e) b1 b2 b3 in word_low _ _ w.is w.fits))

-- 1 and 2 as words
word_number : {g : Geometry} {l : Lent} {n : ℕ} → Fault g l n → (n ≡ 0 → ⊥) → Word n (refused n)
unfolding packed said_of
word_number (Fault.none z) h = absurd (h refl)
word_number (Fault.limits k) h = record { packs = refl; back = refl }
word_number (Fault.size v k) h = record { packs = refl; back = refl }

-- one address, after the check of the sizes
module _ (t : Table) (l : Lent) (a r : ℕ) (told : SizesTold r t.geometry l) where
  pub look-off : (z : ℕ) → z ≡ r → (r ≡ 0 → ⊥) → Word z (lookup_said t l a)
  look-off z e n =
      let w : Word r (refused r) = rw (← told.number) at (word_number (fault-is t.geometry l) (λ q. n (told.number ∙ q))) in
      rw e (word_of r _ _ (look-not t l a r told n) w)

  pub look_is : r ≡ 0 → (w z : ℕ) → Word w (found_said t.geometry l a) → z ≡ w → Word z (lookup_said t l a)
  look_is e w z found q = rw q (look-on t l a r told w e found)

-- the standard geometry, known by its two levels
module _ (p1 p2 n : ℕ) (e1 : p1 ≡ standard_geo.p1) (e2 : p2 ≡ standard_geo.p2) where
  abbrev standard : Table
  standard = table_of standard_geo.p1 standard_geo.p2 n

  pub look-standard : (l : Lent) (a r : ℕ) → Word r (lookup_said standard l a) → Word r (lookup_said (table_of p1 p2 n) l a)
  look-standard l a r q = rw (e1, e2) q

-- the three numbers of a state stand for it
pub table-of-is : (t : Table) → table_of t.geometry.p1 t.geometry.p2 t.count ≡ t
table-of-is t = refl
