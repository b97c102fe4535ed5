-- `text::line::table_text`: the first line, then a line for each record.
use native.Mathlib.Omega.{arith}
use borrow.Author.Rules.{rules}
use Rattle.routes.specs.Record.{Ranged}
use Rattle.text_pieces.proofs.Pages.{given-back, length_after}
use Rattle.text_routes.proofs.RouteLines.{line-few}
use Rattle.text.proofs.Lines.{head_few, lines_none, lines-write, table-writes}
use Rattle.text.proofs.line.table_text.Goals as goal

pub put_head-requires : goal.put_head-requires
put_head-requires c =
    record { room = omega (arith, head_few c.args.n c.args.second c.args.third (omega arith) (omega arith) (omega arith)) }

pub loop-k-init : goal.loop-k-init
loop-k-init c = (
  omega (
    arith,
    head_few c.args.n c.args.second c.args.third (omega arith) (omega arith) (omega arith),
    c.put_head.ensures.wrote.ends,
    length_after c.put_head.ensures (omega (
      arith,
      head_few c.args.n c.args.second c.args.third (omega arith) (omega arith) (omega arith),
    )),
  ),
  lines_none _ c.put_head.ensures.wrote.inside,
)

pub put_route-requires : goal.put_route-requires
put_route-requires c =
    let ok : Ranged c.read_record.result = search rules in
    record { room = omega (arith, line-few c.read_record.result ok, c.loop-k.invariant.0) }

pub loop-k-preserved : goal.loop-k-preserved
loop-k-preserved c =
    let ok : Ranged c.read_record.result = search rules in (
      omega (
        arith,
        line-few c.read_record.result ok,
        c.loop-k.invariant.0,
        c.put_route.ensures.wrote.ends,
        length_after c.put_route.ensures (omega (arith, line-few c.read_record.result ok, c.loop-k.invariant.0)),
      ),
      lines-write _ _ _ c.read_record.ensures c.loop-k.invariant.1 c.put_route.ensures,
    )

pub returns : goal.returns
returns c =
    given-back (table-writes _ _ _ _ _ (omega arith) (omega arith) c.put_head.ensures c.loop-k.invariant.1) (search rules)
