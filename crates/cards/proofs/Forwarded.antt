-- Forwarding and counting: a caller that reads the answer by the header's fields has exactly what is said, and nothing else is in it. And a lookup
-- whose answer is counted is a packet forwarded. Supposed is what the boundary's types give: cells and ports of 16 bits (`Cells16`, `Ports16`).
use mathlib.Core.Path.{◌≡◌, refl, sym, ap, ◌∙◌, subst}
use mathlib.Core.Bool.{true, false, true≢false}
use mathlib.Core.List.{List, [], ◌∷◌}
use Prim.Native.Nat.{ℕ, ◌+◌, ◌*◌, ◌/◌, ◌%◌, ◌^◌, ◌≤◌, ◌<◌}
use native.Mathlib.Omega.{arith}
use lib.Dec.{eqb, leb}
use lib.ListN.{length}
use borrow.Author.Tests.{ne_eqb, lt-ltb, eqb-true, leb-true}
use Rattle.bits.proofs.Bools.{and_split}
use Rattle.routes.specs.Said.{Said, accepted}
use Rattle.standing.specs.Served.{hop_said}
use Rattle.sail.specs.Lent.{Lent}
use Rattle.sail.specs.Walk.{lookup_said}
use Rattle.sail.specs.Word.{packed, pack_found, said_of, Word, hop_in_word}
use Rattle.sail.specs.declared.table.Table.{Table}
use Rattle.sail.proofs.Words.{says-hop}
use Rattle.hop_records.specs.Forward.{forward_said, pack_forward, counted_word}
use Rattle.hop_records.specs.Cases.{Forward, Counted}
use Rattle.hop_records.specs.Contract.{MeetsForward, MeetsCount}
use Rattle.hop_records.specs.declared.HopRecord.{HopRecord}
use Rattle.hop_records.proofs.Judged.{forward-judged, counted-only}
use Rattle.hop_records.proofs.Meanings.{count-forwards}
use Rattle.packing.specs.Unpack.{field, FitsWord, FoundFits, Cells16}
use Rattle.packing.specs.Parts.{parts}
use Rattle.packing.proofs.Unpacks.{field_is, ReadsAccepted, said_read}
use Rattle.packing.proofs.Parts.{Sums, said-parts}
use Rattle.cards.specs.Forwarded.{forward_values, unpack_forward, ForwardFits, forward_parts, Ports16}
use Rattle.cards.proofs.Fits.{lookup-fits}

-- the layout over its number
port-read : (n h p x : ℕ) → n < 2 ^ 8 → 1 ≤ h → h < 2 ^ 16 → p < 2 ^ 16 → x ≡ pack_forward (accepted (n ∷ h ∷ p ∷ []))
    → ReadsAccepted forward_values x (n ∷ h ∷ p ∷ []) × Sums forward_parts x
unfolding packed forward_values forward_parts
port-read n h p x a b c d e =
    let f : field 8 8 x ≡ n = omega arith in
    let g : field 16 16 x ≡ h = omega arith in
    let i : field 32 16 x ≡ p = field_is 32 16 (n * 256 + h * 65536) p 0 x (omega arith) d (omega arith) in
    (record { none = omega arith; back = rw (f, g, i, ne_eqb h 0 (λ z. omega arith)) }, record { none = omega arith; sum = rw (f, g, i) (omega arith) })

none_read : (n x : ℕ) → n < 2 ^ 8 → x ≡ pack_forward (accepted (n ∷ [])) → ReadsAccepted forward_values x (n ∷ []) × Sums forward_parts x
unfolding packed forward_values forward_parts
none_read n x a e =
    let f : field 8 8 x ≡ n = omega arith in
    let g : field 16 16 x ≡ 0 = omega arith in
    let i : field 32 16 x ≡ 0 = omega arith in
    (record { none = omega arith; back = rw (f, g) }, record { none = omega arith; sum = rw (f, g, i) (omega arith) })

fields : (vs : List ℕ) → ForwardFits vs → ReadsAccepted forward_values (pack_forward (accepted vs)) vs × Sums forward_parts (pack_forward (accepted vs))
fields _ (ForwardFits.port n h p a b c d) = port-read n h p _ a b c d refl
fields _ (ForwardFits.none n a) = none_read n _ a refl

forward-read : (s : Said) → FitsWord 0 ForwardFits s → unpack_forward (pack_forward s) ≡ s
unfolding packed
forward-read = said_read 0 (omega arith) ForwardFits _ forward_values (λ vs p. (fields vs p).0)

forward-parts : (s : Said) → FitsWord 0 ForwardFits s → pack_forward s ≡ parts forward_parts (pack_forward s)
unfolding packed
forward-parts = said-parts 0 (omega arith) ForwardFits _ forward_parts (λ vs p. (fields vs p).1)

-- what a number with a hop says
hop-said : (w : ℕ) → hop_in_word w ≡ true → accepted (w / 256 % 256 ∷ w / 65536 ∷ []) ≡ said_of w
hop-said w h =
    let e = and_split (eqb (w % 256) 0) (leb 65536 w) h in
    says-hop w (eqb-true (w % 256) 0 e.0) _ refl (λ z. let b = leb-true 65536 w e.1 in omega arith)

-- what is said has room
module _ (rs : List HopRecord) (ports : Ports16 rs) where
  hop_fits : (n h : ℕ) (vs : List ℕ) → n < 2 ^ 8 → {x : Said} → Forward rs (accepted (n ∷ h ∷ vs)) x → FitsWord 0 ForwardFits x
  hop_fits n h vs a (Forward.no_hop _ e) = absurd (true≢false (sym (lt-ltb 1 (length (n ∷ h ∷ vs)) (omega arith)) ∙ e))
  hop_fits n h vs a (Forward.no_record _ _ _ d) = FitsWord.number 14 (omega arith) (omega arith)
  hop_fits n h vs a (Forward.down _ _ _ r u) = FitsWord.number 15 (omega arith) (omega arith)
  hop_fits n h vs a (Forward.out _ _ _ r u) =
      FitsWord.values _ (ForwardFits.port n h _ a r.one (omega (arith, r.hop)) (ports.ports _))

  forward-fits : (s : Said) → FitsWord 0 FoundFits s → FitsWord 0 ForwardFits (forward_said rs s)
  forward-fits _ (FitsWord.values _ (FoundFits.hop n h a b c)) = hop_fits n h [] a (forward-judged rs _)
  forward-fits _ (FitsWord.values _ (FoundFits.none n a)) = FitsWord.values _ (ForwardFits.none n a)
  forward-fits _ (FitsWord.number n a b) = FitsWord.number n a b
  forward-fits _ (FitsWord.index n k a b c) = absurd (omega (arith, c))

  module _ (t : Table) (l : Lent) (cells : Cells16 l) (a : ℕ) where
    pub gh-forward-read : unpack_forward (pack_forward (forward_said rs (lookup_said t l a))) ≡ forward_said rs (lookup_said t l a)
    gh-forward-read = forward-read _ (forward-fits _ (lookup-fits t l cells a))

    pub gh-forward-named : pack_forward (forward_said rs (lookup_said t l a)) ≡ parts forward_parts (pack_forward (forward_said rs (lookup_said t l a)))
    gh-forward-named = forward-parts _ (forward-fits _ (lookup-fits t l cells a))

  -- counting, of any number that has a hop
  module _ (w : ℕ) (h : hop_in_word w ≡ true) where
    counted_is : counted_word rs w ≡ pack_forward (forward_said rs (said_of w))
    counted_is = counted-only rs w _ (Counted.hop _ h (forward-judged rs (said_of w)))

    word_fits : FitsWord 0 ForwardFits (forward_said rs (said_of w))
    word_fits = subst (λ (s : Said). FitsWord 0 ForwardFits (forward_said rs s)) (hop-said w h) (hop_fits _ _ [] (omega arith) (forward-judged rs _))

    pub gh-count-read : unpack_forward (counted_word rs w) ≡ forward_said rs (said_of w)
    gh-count-read = ap unpack_forward counted_is ∙ forward-read _ word_fits

    pub gh-count-named : counted_word rs w ≡ parts forward_parts (counted_word rs w)
    gh-count-named = counted_is ∙ forward-parts _ word_fits ∙ ap (parts forward_parts) (sym counted_is)

-- of any other the answer is the number itself
pub gh-count-same : (rs : List HopRecord) (w : ℕ) → hop_in_word w ≡ false → counted_word rs w ≡ w
gh-count-same rs w e = counted-only rs w w (Counted.no_hop e)

-- a lookup's number is read back as what the lookup says
hop-word : (n h w : ℕ) → n < 2 ^ 8 → 1 ≤ h → w ≡ n * 256 + h * 65536 → said_of w ≡ accepted (n ∷ h ∷ [])
unfolding said_of hop_said
hop-word n h w a b e =
    let low : w % 256 ≡ 0 = omega arith in
    let f : w / 256 % 256 ≡ n = field_is 8 8 0 n h w (omega arith) a (omega arith) in
    let g : w / 65536 ≡ h = omega arith in
    rw (low, f, g, ne_eqb h 0 (λ z. omega arith))

none-word : (n w : ℕ) → n < 2 ^ 8 → w ≡ n * 256 → said_of w ≡ accepted (n ∷ [])
unfolding said_of hop_said
none-word n w a e =
    let low : w % 256 ≡ 0 = omega arith in
    let f : w / 256 % 256 ≡ n = field_is 8 8 0 n 0 w (omega arith) a (omega arith) in
    let g : w / 65536 ≡ 0 = omega arith in
    rw (low, f, g)

found_word : (s : Said) → FitsWord 0 FoundFits s → Word (pack_found s) s
unfolding packed said_of
found_word _ (FitsWord.values _ (FoundFits.hop n h a b c)) = record { packs = refl; back = hop-word n h _ a b refl }
found_word _ (FitsWord.values _ (FoundFits.none n a)) = record { packs = refl; back = none-word n (n * 256 + 0 * 65536) a (omega arith) }
found_word _ (FitsWord.number n a b) =
    let low : n % 256 ≡ n = omega arith in
    record { packs = refl; back = rw (low, ne_eqb n 0 (λ z. omega arith)) }
found_word _ (FitsWord.index n k a b c) = absurd (omega (arith, c))

-- so counting by the answer of a lookup is forwarding: of a table here, and of all whose answer is packed as a lookup's
pub count-found : (rs : List HopRecord) (s : Said) → FitsWord 0 FoundFits s → (n r : ℕ) (zs : List HopRecord)
    → MeetsCount rs (pack_found s) n r zs → MeetsForward rs s n r zs
count-found rs s f = count-forwards rs (pack_found s) s (found_word s f)

pub gh-count-of-lookup : (rs : List HopRecord) (t : Table) (l : Lent) → Cells16 l → (a n r : ℕ) (zs : List HopRecord)
    → MeetsCount rs (pack_found (lookup_said t l a)) n r zs → MeetsForward rs (lookup_said t l a) n r zs
gh-count-of-lookup rs t l cells a = count-found rs (lookup_said t l a) (lookup-fits t l cells a)
