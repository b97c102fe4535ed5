-- What the calls on a box return has room in their answers. Nothing is supposed but what the boundary's types give: cells of 16 bits (`PairCells16`), and
-- for the index of a record an input shorter than 2^35 bytes.
use mathlib.Core.Path.{◌≡◌, refl, ◌∙◌, ap}
use mathlib.Core.Bool.{Bool, true}
use mathlib.Core.List.{List, []}
use Prim.Native.Nat.{ℕ, ◌^◌, ◌≤◌, ◌<◌}
use native.Mathlib.Omega.{arith}
use lib.ListN.{length, get_or}
use Rattle.bits.specs.Count.{bit}
use Rattle.bits.specs.Slot.{cut}
use Rattle.routes.specs.Said.{Said, refused, accepts}
use Rattle.routes.specs.declared.Route.{Route}
use Rattle.standing.specs.Cells.{need}
use Rattle.sail.specs.Level.{chunks_of}
use Rattle.sail.proofs.Sounds.{chunks-need}
use Rattle.sail_theory.specs.Calls.{cut_route, cleared, with_flag}
use Rattle.sail_theory.specs.CallRuns.{Call, announce, withdraw, load}
use Rattle.sail_theory.proofs.owners.Chunks.{used_le}
use Rattle.packing.specs.Unpack.{FitsWord, FoundFits, ReportFits, AnnounceFits, WithdrawFits, DoneFits}
use Rattle.pair.specs.Party.{Party, one, two, view}
use Rattle.pair.specs.PairLent.{PairLent, side, sees}
use Rattle.pair.specs.PairSound.{share_of, table_for, standing_for}
use Rattle.pair.specs.PairCalls.{pair_made, pair_announced, pair_withdrawn, pair_loaded, pair_reported, pair_lookup_said}
use Rattle.pair.specs.PairCases.{PairSizing, PairMake, PairAnnounce, PairWithdraw, PairLoad, PairReport, v1, v2, v3, PairLookup}
use Rattle.pair.specs.PairRuns.{pair_done}
use Rattle.pair.specs.declared.Pair.{Pair}
use Rattle.pair.proofs.PairFresh.{make-makeable, made-is}
use Rattle.pair.proofs.PairFrame.{accepted-sound}
use Rattle.pair.proofs.PairJudged as judged
use Rattle.pair.proofs.PairSteps.{announce-said, announce-accepts, withdraw-said, withdraw-accepts, load_said_lem, accepted-holds}
use Rattle.cards.specs.Pairs.{PairCells16}
use Rattle.cards.proofs.Fits.{bit-low, route-low, bad-fits, leaf-fits}

-- 1 and 2
sizing-fits : {most : ℕ} {P : List ℕ → Type 0} {t : Pair} {b : PairLent} {n : ℕ} → PairSizing t b n → FitsWord most P (refused n)
sizing-fits (PairSizing.limits h) = FitsWord.number 1 (omega arith) (omega arith)
sizing-fits (PairSizing.size v h) = FitsWord.number 2 (omega arith) (omega arith)

first16 : (w : Party) (b : PairLent) → PairCells16 b → (k : ℕ) → get_or (side w b).first k 0 < 2 ^ 16
first16 one b c k = c.first1 k
first16 two b c k = c.first2 k

module _ (t : Pair) (b : PairLent) where
  pub pair-make-few : accepts (pair_made t b).said ≡ true → (share_of one (pair_made t b).state).count ≤ 4096
  pair-make-few e = rw (made-is t b (make-makeable t b e)) (omega arith)

  pub pair-make-fits : FitsWord 0 (DoneFits (share_of one (pair_made t b).state).count) (pair_made t b).said
  pair-make-fits = rw (judged.pair-make-said t b) (go (judged.pair-make-judged t b) (λ e. pair-make-few (ap accepts (judged.pair-make-said t b) ∙ e)))
    where
      go : {n : ℕ} {x : Said} → PairMake t b x → (accepts x ≡ true → n ≤ 4096) → FitsWord 0 (DoneFits n) x
      go (PairMake.sizing n h) few = sizing-fits h
      go (PairMake.over z h) few = FitsWord.number 24 (omega arith) (omega arith)
      go (PairMake.done z h k) few = let f = few refl in FitsWord.values [] (DoneFits.done (omega arith))

  module _ (w : Party) where
    pub pair-lookup-fits : PairCells16 b → (a : ℕ) → FitsWord 0 FoundFits (pair_lookup_said w t b a)
    pair-lookup-fits cells a = go (judged.pair-lookup-judged w t b a)
      where
        go : {x : Said} → PairLookup w t b a x → FitsWord 0 FoundFits x
        go (PairLookup.sizing n h) = sizing-fits h
        go (PairLookup.first_leaf z h) = leaf-fits 1 (v1 w t b a) (omega arith) (first16 w b cells _)
        go (PairLookup.first_stray z h) = FitsWord.number 5 (omega arith) (omega arith)
        go (PairLookup.first_theirs z h) = FitsWord.number 5 (omega arith) (omega arith)
        go (PairLookup.second_leaf z k h) = leaf-fits 2 (v2 w t b a) (omega arith) (cells.second _)
        go (PairLookup.second_stray z k h) = FitsWord.number 5 (omega arith) (omega arith)
        go (PairLookup.second_theirs z k h) = FitsWord.number 5 (omega arith) (omega arith)
        go (PairLookup.third_is_leaf z k j h) = leaf-fits 3 (v3 w t b a) (omega arith) (cells.third _)
        go (PairLookup.third_no_leaf z k j h) = FitsWord.number 5 (omega arith) (omega arith)

    pub pair-report-fits : FitsWord 0 ReportFits (pair_reported w t b)
    pair-report-fits = go (judged.pair-report-judged t b w)
      where
        go : {x : Said} → PairReport w t b x → FitsWord 0 ReportFits x
        go (PairReport.sizing n h) = sizing-fits h
        go (PairReport.unsound z h) = FitsWord.number 5 (omega arith) (omega arith)
        go (PairReport.counts s) =
            let n = (s.each w).listed.records.few in
            let u = chunks-need (table_for w t) (sees t.geometry w b) (s.each w) in
            let x = used_le (chunks_of (view w b.own2)) in
            let y = used_le (chunks_of (view w b.own3)) in
            FitsWord.values _ (ReportFits.report (share_of w t).count (need (standing_for w t b) t.geometry.p1) (need (standing_for w t b) t.geometry.p2)
            (omega arith) (omega (arith, u.0, (s.each w).sized.few2)) (omega (arith, u.1, (s.each w).sized.few3)))

    -- Changes: if one is accepted, a sound box is left, so the party has at most 4,096 routes.
    pub pair-few : (c : Call) → accepts (pair_done w t b c).said ≡ true → (share_of w (pair_done w t b c).state).count ≤ 4096
    pair-few c e = ((accepted-holds w t b (accepted-sound w t b c e) c e).sound.each w).listed.records.few

    pub pair-announce-fits : (r : Route) → FitsWord 0 (AnnounceFits (share_of w (pair_announced w t b r).state).count) (pair_announced w t b r).said
    unfolding pair_done
    pair-announce-fits r =
        rw (announce-said w t b r) (go (cleared r.len r.addr) (judged.pair-announce-judged w t b (cut_route r))
        (λ e. pair-few (announce r) (announce-accepts w t b r ∙ e)))
      where
        go : (f : Bool) {n : ℕ} {x : Said} → PairAnnounce w t b (cut_route r) x → (accepts x ≡ true → n ≤ 4096) → FitsWord 0 (AnnounceFits n) (with_flag f x)
        go f (PairAnnounce.sizing n h) few = sizing-fits h
        go f (PairAnnounce.wrong n z x) few = let k = route-low x in FitsWord.number n k.0 k.1
        go f (PairAnnounce.unsound z p h) few = FitsWord.number 5 (omega arith) (omega arith)
        go f (PairAnnounce.replaced p h) few = let m = few refl in FitsWord.values _ (AnnounceFits.which (bit f) 1 (bit-low f) (omega arith) (omega arith))
        go f (PairAnnounce.full p h k) few = FitsWord.number 6 (omega arith) (omega arith)
        go f (PairAnnounce.second p x) few = FitsWord.number 7 (omega arith) (omega arith)
        go f (PairAnnounce.third p x y) few = FitsWord.number 8 (omega arith) (omega arith)
        go f (PairAnnounce.added p x y) few = let m = few refl in FitsWord.values _ (AnnounceFits.which (bit f) 0 (bit-low f) (omega arith) (omega arith))

    pub pair-withdraw-fits : (a len : ℕ)
        → FitsWord 0 (WithdrawFits (share_of w (pair_withdrawn w t b a len).state).count) (pair_withdrawn w t b a len).said
    unfolding pair_done
    pair-withdraw-fits a len =
        rw (withdraw-said w t b a len) (go (cleared len a) (judged.pair-withdraw-judged w t b (cut len a) len)
        (λ e. pair-few (withdraw a len) (withdraw-accepts w t b a len ∙ e)))
      where
        go : (f : Bool) {n : ℕ} {x : Said} → PairWithdraw w t b (cut len a) len x → (accepts x ≡ true → n ≤ 4096) → FitsWord 0 (WithdrawFits n) (with_flag f x)
        go f (PairWithdraw.sizing n h) few = sizing-fits h
        go f (PairWithdraw.bad_prefix z h) few = FitsWord.number 3 (omega arith) (omega arith)
        go f (PairWithdraw.unsound z p h) few = FitsWord.number 5 (omega arith) (omega arith)
        go f (PairWithdraw.absent p k h) few = FitsWord.number 9 (omega arith) (omega arith)
        go f (PairWithdraw.removed p k h) few = let m = few refl in FitsWord.values _ (WithdrawFits.gone (bit f) (bit-low f) (omega arith))

    pub pair-load-fits : (input : List ℕ) → length input < 2 ^ 35
        → FitsWord (2 ^ 32) (DoneFits (share_of w (pair_loaded w t b input).state).count) (pair_loaded w t b input).said
    unfolding pair_done
    pair-load-fits input short =
        rw (load_said_lem w t b input) (go (judged.pair-load-judged w t b input) (λ e. pair-few (load input) (ap accepts (load_said_lem w t b input) ∙ e)))
      where
        go : {n : ℕ} {x : Said} → PairLoad w t b input x → (accepts x ≡ true → n ≤ 4096) → FitsWord (2 ^ 32) (DoneFits n) x
        go (PairLoad.sizing n h) few = sizing-fits h
        go (PairLoad.unsound z h) few = FitsWord.number 5 (omega arith) (omega arith)
        go (PairLoad.bad_input x k bad) few = bad-fits _ input short x bad
        go (PairLoad.full k r) few = FitsWord.number 6 (omega arith) (omega arith)
        go (PairLoad.second k r x) few = FitsWord.number 7 (omega arith) (omega arith)
        go (PairLoad.third k r x y) few = FitsWord.number 8 (omega arith) (omega arith)
        go (PairLoad.done k r x y) few = let m = few refl in FitsWord.values [] (DoneFits.done (omega arith))
