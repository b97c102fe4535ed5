-- `tree_build::build`. Where the check of the input or of the room refuses, the answer is that refusal; else there is room, and the arrays are filled.
use Rattle.std.specs.Prelude.{refl}
use native.Mathlib.Omega.{arith}
use Rattle.std.proofs.lemmas.Result.{err_from_is_err_and}
use Rattle.routes.proofs.Saids.{said-ok, said-err}
use Rattle.tree_build.proofs.BuildReturns.{good-input, after-good, after-refused, lacks, roomy, made}
use Rattle.tree_build.proofs.build.Goals as goal

pub returns-in_err-routes : goal.returns-in_err-routes
returns-in_err-routes c =
    let p = err_from_is_err_and c.from_residual.result c.from_residual.ensures.1 in
    rw (p.1, p.2) (after-refused _ _ _ _ (said-err _ _ _ c.in_err-routes.ensures _ refl))

pub count_nodes-nodes-requires : goal.count_nodes-nodes-requires
count_nodes-nodes-requires c =
    let g = good-input _ c.args.words.now c.args.hops.now _ (said-ok _ _ _ c.in_ok-routes.ensures _ refl) in
    (omega (arith, g.whole), g.records.few)

pub returns-in_err-lack : goal.returns-in_err-lack
returns-in_err-lack c =
    let e = said-ok _ _ _ c.in_ok-routes.ensures _ refl in
    let g = good-input _ c.args.words.now c.args.hops.now _ e in
    let p = err_from_is_err_and c.from_residual-in_err-lack.result c.from_residual-in_err-lack.ensures.1 in
    rw (p.1, p.2) (after-good _ _ _ _ e _ (lacks _ _ g _ c.count_nodes-nodes.ensures c.args.words.now c.args.hops.now _ c.in_err-lack.ensures))

pub fill_image-requires : goal.fill_image-requires
fill_image-requires c =
    let g = good-input _ c.args.words.now c.args.hops.now _ (said-ok _ _ _ c.in_ok-routes.ensures _ refl) in
    roomy _ _ g _ c.count_nodes-nodes.ensures c.args.words.now c.args.hops.now c.in_ok-lack.ensures refl

pub overflow_cast-result-2 : goal.overflow_cast-result-2
overflow_cast-result-2 c =
    let g = good-input _ c.args.words.now c.args.hops.now _ (said-ok _ _ _ c.in_ok-routes.ensures _ refl) in
    record { fits = omega (arith, g.records.few) }

pub returns : goal.returns
returns c =
    let e = said-ok _ _ _ c.in_ok-routes.ensures _ refl in
    let g = good-input _ c.args.words.now c.args.hops.now _ e in
    after-good _ _ _ _ e _ (made _ _ g _ c.count_nodes-nodes.ensures c.args.words.now c.args.hops.now c.in_ok-lack.ensures refl
    c.fill_image.ensures _ _ refl refl)
