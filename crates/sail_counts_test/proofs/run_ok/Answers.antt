-- `sail_counts_test::run_ok`. The cell above is read first; it leads to the count, and the run of words says what that should be.
use native.Mathlib.Omega.{arith}
use borrow.Author.Rules.{rules}
use Rattle.sail_counts_test.proofs.CountRuns.{run_on, run-from, run-told, counted-there, names-numbered}
use Rattle.sail_counts_test.proofs.run_ok.Goals as goal

-- the places: `start`, `tested` where the word is known to be longer than p, `asked` where it is known whether the run goes on
pub returns-then-goes_on : goal.returns-then-goes_on
returns-then-goes_on c = run_on _ _ _ _ _ _ _ c.goes_on.ensures c.if-goes_on.true

pub offset_bounds-above-i : goal.offset_bounds-above-i
offset_bounds-above-i c =
    let l = c.requires.led.there _ c.requires.k_in_bounds c.if-w-p.false in
    search rules

pub bounds-above-i : goal.bounds-above-i
bounds-above-i c = c.requires.led.there _ c.requires.k_in_bounds c.if-w-p.false

pub cell_place-q-requires : goal.cell_place-q-requires
cell_place-q-requires c =
    names-numbered _ _ _ _ _ _ c.requires.led c.requires.k_in_bounds c.if-w-p.false _ c.from.ensures (λ j. omega (arith, c.type_inv.above j))

pub offset_bounds-counts-q : goal.offset_bounds-counts-q
offset_bounds-counts-q c =
    let l = counted-there _ _ _ _ _ _ c.requires.led c.requires.k_in_bounds c.if-w-p.false _ c.from.ensures _
    c.cell_place-q.ensures.0 in
    search rules

pub bounds-counts-q : goal.bounds-counts-q
bounds-counts-q c =
    counted-there _ _ _ _ _ _ c.requires.led c.requires.k_in_bounds c.if-w-p.false _ c.from.ensures _
    c.cell_place-q.ensures.0

pub run_end-requires : goal.run_end-requires
run_end-requires c =
    let led = c.requires.led in
    record { words = led.words; run_from = run-from _ _ _ c.if-w-p.false _ c.goes_on.ensures c.if-goes_on.false led.words led.level c.requires.k_in_bounds }

pub returns : goal.returns
returns c =
    run-told _ _ _ _ _ _ c.requires.led c.requires.k_in_bounds c.if-w-p.false _ c.from.ensures _
    c.cell_place-q.ensures.0 _ c.goes_on.ensures c.if-goes_on.false _ _ c.from-2.ensures
    c.run_end.ensures
