-- For each exported call on a box: a caller that reads the packed answer by the header's fields has exactly what the call inside returns, the count of the
-- calling party included, and "bits that are not named are 0".
use mathlib.Core.Path.{◌≡◌}
use mathlib.Core.Bool.{true}
use mathlib.Core.List.{List}
use Prim.Native.Nat.{ℕ, ◌^◌, ◌≤◌, ◌<◌}
use native.Mathlib.Omega.{arith}
use lib.ListN.{length}
use Rattle.routes.specs.Said.{accepts}
use Rattle.routes.specs.declared.Route.{Route}
use Rattle.sail.specs.Word.{pack_found}
use Rattle.sail_theory.specs.CallRuns.{announce, withdraw, load}
use Rattle.packing.specs.Pack.{pack_report}
use Rattle.packing.specs.Unpack.{unpack_found, unpack_report, unpack_announce, unpack_withdraw, unpack_done, count_of}
use Rattle.packing.specs.Parts.{parts, found_parts, report_parts, announce_parts, withdraw_parts, done_parts}
use Rattle.packing.proofs.Unpacks.{found-read, report-read, announce-read, withdraw-read, done-read, announce-count, withdraw-count, done-count}
use Rattle.packing.proofs.Parts.{found-parts, report-parts, announce-parts, withdraw-parts, done-parts}
use Rattle.pair.specs.Party.{Party, one}
use Rattle.pair.specs.PairLent.{PairLent}
use Rattle.pair.specs.PairSound.{share_of}
use Rattle.pair.specs.PairCalls.{pair_made, pair_announced, pair_withdrawn, pair_loaded, pair_reported, pair_lookup_said}
use Rattle.pair.specs.PairRuns.{pair_done}
use Rattle.pair.specs.declared.Pair.{Pair}
use Rattle.cards.specs.Pairs.{pair_card_of, PairCells16}
use Rattle.cards.proofs.PairFits.{
  pair-make-few,
  pair-make-fits,
  pair-lookup-fits,
  pair-report-fits,
  pair-few,
  pair-announce-fits,
  pair-withdraw-fits,
  pair-load-fits,
}

module _ (t : Pair) (b : PairLent) where
  -- make
  pub gh-pair-make-read : unpack_done (pair_card_of one (pair_made t b)).answer ≡ (pair_made t b).said
  unfolding pair_card_of
  gh-pair-make-read = done-read 0 (omega arith) _ _ (pair-make-fits t b)

  pub gh-pair-make-count : accepts (pair_made t b).said ≡ true
      → (count_of (pair_card_of one (pair_made t b)).answer ≡ (share_of one (pair_made t b).state).count) × ((share_of one (pair_made t b).state).count ≤ 4096)
  unfolding pair_card_of
  gh-pair-make-count e = (done-count 0 _ _ (pair-make-fits t b) e, pair-make-few t b e)

  pub gh-pair-make-named : (pair_card_of one (pair_made t b)).answer ≡ parts done_parts (pair_card_of one (pair_made t b)).answer
  unfolding pair_card_of
  gh-pair-make-named = done-parts 0 (omega arith) _ _ (pair-make-fits t b)

  module _ (w : Party) where
    -- report
    pub gh-pair-report-read : unpack_report (pack_report (pair_reported w t b)) ≡ pair_reported w t b
    gh-pair-report-read = report-read 0 (omega arith) _ (pair-report-fits t b w)

    pub gh-pair-report-named : pack_report (pair_reported w t b) ≡ parts report_parts (pack_report (pair_reported w t b))
    gh-pair-report-named = report-parts 0 (omega arith) _ (pair-report-fits t b w)

    -- lookup
    pub gh-pair-lookup-read : PairCells16 b → (a : ℕ) → unpack_found (pack_found (pair_lookup_said w t b a)) ≡ pair_lookup_said w t b a
    gh-pair-lookup-read cells a = found-read 0 (omega arith) _ (pair-lookup-fits t b w cells a)

    pub gh-pair-lookup-named : PairCells16 b → (a : ℕ) → pack_found (pair_lookup_said w t b a) ≡ parts found_parts (pack_found (pair_lookup_said w t b a))
    gh-pair-lookup-named cells a = found-parts 0 (omega arith) _ (pair-lookup-fits t b w cells a)

    -- announce
    pub gh-pair-announce-read : (r : Route) → unpack_announce (pair_card_of w (pair_announced w t b r)).answer ≡ (pair_announced w t b r).said
    unfolding pair_card_of
    gh-pair-announce-read r = announce-read 0 (omega arith) _ _ (pair-announce-fits t b w r)

    pub gh-pair-announce-count : (r : Route) → accepts (pair_announced w t b r).said ≡ true
        → (count_of (pair_card_of w (pair_announced w t b r)).answer ≡ (share_of w (pair_announced w t b r).state).count)
        × ((share_of w (pair_announced w t b r).state).count ≤ 4096)
    unfolding pair_card_of pair_done
    gh-pair-announce-count r e = (announce-count 0 _ _ (pair-announce-fits t b w r) e, pair-few t b w (announce r) e)

    pub gh-pair-announce-named : (r : Route)
        → (pair_card_of w (pair_announced w t b r)).answer ≡ parts announce_parts (pair_card_of w (pair_announced w t b r)).answer
    unfolding pair_card_of
    gh-pair-announce-named r = announce-parts 0 (omega arith) _ _ (pair-announce-fits t b w r)

    -- withdraw
    pub gh-pair-withdraw-read : (a len : ℕ) → unpack_withdraw (pair_card_of w (pair_withdrawn w t b a len)).answer ≡ (pair_withdrawn w t b a len).said
    unfolding pair_card_of
    gh-pair-withdraw-read a len = withdraw-read 0 (omega arith) _ _ (pair-withdraw-fits t b w a len)

    pub gh-pair-withdraw-count : (a len : ℕ) → accepts (pair_withdrawn w t b a len).said ≡ true
        → (count_of (pair_card_of w (pair_withdrawn w t b a len)).answer ≡ (share_of w (pair_withdrawn w t b a len).state).count)
        × ((share_of w (pair_withdrawn w t b a len).state).count ≤ 4096)
    unfolding pair_card_of pair_done
    gh-pair-withdraw-count a len e = (withdraw-count 0 _ _ (pair-withdraw-fits t b w a len) e, pair-few t b w (withdraw a len) e)

    pub gh-pair-withdraw-named : (a len : ℕ)
        → (pair_card_of w (pair_withdrawn w t b a len)).answer ≡ parts withdraw_parts (pair_card_of w (pair_withdrawn w t b a len)).answer
    unfolding pair_card_of
    gh-pair-withdraw-named a len = withdraw-parts 0 (omega arith) _ _ (pair-withdraw-fits t b w a len)

    -- load
    module _ (input : List ℕ) (short : length input < 2 ^ 35) where
      pub gh-pair-load-read : unpack_done (pair_card_of w (pair_loaded w t b input)).answer ≡ (pair_loaded w t b input).said
      unfolding pair_card_of
      gh-pair-load-read = done-read (2 ^ 32) (omega arith) _ _ (pair-load-fits t b w input short)

      pub gh-pair-load-count : accepts (pair_loaded w t b input).said ≡ true
          → (count_of (pair_card_of w (pair_loaded w t b input)).answer ≡ (share_of w (pair_loaded w t b input).state).count)
          × ((share_of w (pair_loaded w t b input).state).count ≤ 4096)
      unfolding pair_card_of pair_done
      gh-pair-load-count e = (done-count (2 ^ 32) _ _ (pair-load-fits t b w input short) e, pair-few t b w (load input) e)

      pub gh-pair-load-named : (pair_card_of w (pair_loaded w t b input)).answer ≡ parts done_parts (pair_card_of w (pair_loaded w t b input)).answer
      unfolding pair_card_of
      gh-pair-load-named = done-parts (2 ^ 32) (omega arith) _ _ (pair-load-fits t b w input short)
