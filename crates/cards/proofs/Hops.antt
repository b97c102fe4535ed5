-- The calls on bit maps: what they say has room in their answers, and a caller that reads an answer by the header's fields has exactly what the
-- call inside says. Supposed is an input shorter than 2^35 bytes, so that the index of a record has 32 bits.
use mathlib.Core.Path.{◌≡◌, sym, ap, ◌∙◌}
use mathlib.Core.Bool.{true, true≢false, false≢true}
use mathlib.Core.List.{List, []}
use Prim.Native.Nat.{ℕ, ◌/◌, ◌^◌, ◌<◌}
use native.Mathlib.Omega.{arith}
use lib.ListN.{length, get_or}
use Rattle.routes.specs.Record.{routes_in}
use Rattle.routes.specs.Said.{Said, accepts}
use Rattle.routes.proofs.Goods.{good-fine}
use Rattle.routes.proofs.Rows.{records-good}
use Rattle.basic.specs.Calls.{basic_said, pack_hop, hop_word, Many, many, basic_many}
use Rattle.basic.specs.Meaning.{Unready, Prepared, BasicLookup, BasicLookups}
use Rattle.basic.proofs.Judged.{unready-refuses, not-both, lookup-judged, many-judged, many-words}
use Rattle.basic_build.specs.Built.{MapsOut, maps_out, basic_built, BasicBuild}
use Rattle.basic_build.proofs.Judged.{build-judged}
use Rattle.packing.specs.Pack.{pack_none}
use Rattle.packing.specs.Unpack.{unpack_none, FitsWord}
use Rattle.packing_maps.specs.Hops.{unpack_hop, HopFits, NoneFits}
use Rattle.packing_maps.proofs.Hops.{hop-read, nothing_read, word_read}
use Rattle.sail_words.specs.Lookups.{words_card}
use Rattle.cards.specs.Maps.{maps_card, maps_card_of, hops_card}
use Rattle.cards.proofs.Fits.{refused-fits}

-- packed answers beside what is lent
pub maps-card-is : (s : Said) (bs cs : List ℕ) (o : MapsOut) (r : ℕ) → maps_out s bs cs ≡ o → r ≡ pack_none s → maps_card r bs cs ≡ maps_card_of o
unfolding maps_card_of
maps-card-is s bs cs o r e q = ap (λ (x : ℕ). maps_card x bs cs) q ∙ ap maps_card_of e

pub hops-card-is : (s : Said) (ws : List ℕ) (m : Many) (r : ℕ) → many s ws ≡ m → r ≡ pack_none s → words_card r ws ≡ hops_card m
unfolding hops_card
hops-card-is s ws m r e q = ap (λ (x : ℕ). words_card x ws) q ∙ ap hops_card e

-- the refusals before every call
unready-fits : (P : List ℕ → Type 0) (s bs cs : List ℕ) → length s < 2 ^ 35 → {x : Said} → Unready s bs cs x → FitsWord (2 ^ 32) P x
unready-fits P s bs cs short (Unready.bad_input x b) = refused-fits P s short b.checked b.not_accepted
unready-fits P s bs cs short (Unready.bad_size n g h) = FitsWord.number 2 (omega arith) (omega arith)

-- a lookup after them: a hop of 1 to 32,767, no route, or 13
looked-fits : (most : ℕ) (s bs cs : List ℕ) (a : ℕ) → ((x : Said) → Unready s bs cs x → FitsWord most HopFits x)
    → {x : Said} → BasicLookup s bs cs a x → FitsWord most HopFits x
looked-fits most s bs cs a off (BasicLookup.unready x u) = off x u
looked-fits most s bs cs a off (BasicLookup.in_list p h w l) =
    let f = good-fine (routes_in s) (records-good s (length s / 8) p.input.records) w.route w.listed in
    FitsWord.values _ (HopFits.hop h (omega (arith, w.its_hop, f.hop_one)) (omega (arith, w.its_hop, f.hop_ok)))
looked-fits most s bs cs a off (BasicLookup.met p n l f lo hi) = FitsWord.values _ (HopFits.hop _ lo (omega arith))
looked-fits most s bs cs a off (BasicLookup.broken p n l f h) = FitsWord.number 13 (omega arith) (omega arith)
looked-fits most s bs cs a off (BasicLookup.no_route p n h) = FitsWord.values [] HopFits.none

module _ (s : List ℕ) (short : length s < 2 ^ 35) (bs cs : List ℕ) where
  pub maps-fits : FitsWord (2 ^ 32) NoneFits (basic_built s bs cs).said
  maps-fits = go (build-judged s bs cs)
    where
      go : {x : Said} → BasicBuild s bs cs x → FitsWord (2 ^ 32) NoneFits x
      go (BasicBuild.unready x u) = unready-fits NoneFits s _ _ short u
      go (BasicBuild.done p) = FitsWord.values [] NoneFits.none

  pub hop_fits : (a : ℕ) → FitsWord (2 ^ 32) HopFits (basic_said s bs cs a)
  hop_fits a = looked-fits (2 ^ 32) s bs cs a (λ x u. unready-fits HopFits s bs cs short u) (lookup-judged s bs cs a)

  pub many-fits : (ads ws : List ℕ) → FitsWord (2 ^ 32) NoneFits (basic_many s bs cs ads ws).said
  many-fits ads ws = go (many-judged s bs cs ads ws)
    where
      go : {x : Said} → BasicLookups s bs cs ads ws x → FitsWord (2 ^ 32) NoneFits x
      go (BasicLookups.unready x u) = unready-fits NoneFits s _ _ short u
      go (BasicLookups.uneven p n) = FitsWord.number 2 (omega arith) (omega arith)
      go (BasicLookups.done p e) = FitsWord.values [] NoneFits.none

  pub gh-basic-build-read : unpack_none (maps_card_of (basic_built s bs cs)).answer ≡ (basic_built s bs cs).said
  unfolding maps_card_of
  gh-basic-build-read = nothing_read (2 ^ 32) (omega arith) _ maps-fits

  pub gh-basic-lookup-read : (a : ℕ) → unpack_hop (pack_hop (basic_said s bs cs a)) ≡ basic_said s bs cs a
  gh-basic-lookup-read a = hop-read (2 ^ 32) (omega arith) _ (hop_fits a)

  pub gh-basic-lookup-many-answer : (ads ws : List ℕ) → unpack_none (hops_card (basic_many s bs cs ads ws)).answer ≡ (basic_many s bs cs ads ws).said
  unfolding hops_card
  gh-basic-lookup-many-answer ads ws = nothing_read (2 ^ 32) (omega arith) _ (many-fits ads ws)

-- each word of `out`: an input that is looked up in is good, so no index is told and 32 bits are all of the answer
ready-word : (s bs cs : List ℕ) (a : ℕ) → Prepared s bs cs → unpack_hop (hop_word (basic_said s bs cs a)) ≡ basic_said s bs cs a
ready-word s bs cs a p = word_read _ (looked-fits 0 s bs cs a (λ x u. absurd (not-both s bs cs u p)) (lookup-judged s bs cs a))

pub gh-basic-lookup-many-read : (s bs cs ads ws : List ℕ) → accepts (basic_many s bs cs ads ws).said ≡ true → (k : ℕ) → k < length ads
    → unpack_hop (get_or (basic_many s bs cs ads ws).words k 0) ≡ basic_said s bs cs (get_or ads k 0)
gh-basic-lookup-many-read s bs cs ads ws e k u = ap unpack_hop (many-words s bs cs ads ws e k u) ∙ go (many-judged s bs cs ads ws) e
  where
    go : {x : Said} → BasicLookups s bs cs ads ws x → accepts x ≡ true
        → unpack_hop (hop_word (basic_said s bs cs (get_or ads k 0))) ≡ basic_said s bs cs (get_or ads k 0)
    go (BasicLookups.unready x n) h = absurd (true≢false (sym h ∙ unready-refuses n))
    go (BasicLookups.uneven p n) h = absurd (false≢true h)
    go (BasicLookups.done p q) h = ready-word s bs cs (get_or ads k 0) p
