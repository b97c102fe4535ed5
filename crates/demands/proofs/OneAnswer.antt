-- "A call's statement determines its answer and the final contents of everything lent. Show that no second answer would satisfy it"
--
-- For each call on offer: two outcomes that meet its statement are equal. The statement is the predicate that is the call's `ensures`: `MeetsCALL` in
-- specs/Contract.antt of its crate, `IsRun` and `IsTally` in crate runs. (The calls on bit maps are in Basic.antt, a repair
-- is in Repairs.antt, the printing in crate print.)
use mathlib.Core.Path.{◌≡◌}
use mathlib.Core.List.{List}
use Prim.Native.Nat.{ℕ}
use denote.Ref.{Bor}
use Rattle.routes.specs.Contract.{MeetsCheckInput, MeetsRouteAt}
use Rattle.std.specs.Prelude.{Option, Result}
use Rattle.refusals.specs.declared.Refused.{Refused}
use Rattle.routes.specs.declared.Route.{Route}
use Rattle.routes.proofs.OneAnswer as routes
use Rattle.longest.specs.Contract.{MeetsLongest}
use Rattle.longest.proofs.OneAnswer as longest
use Rattle.runs.specs.Run.{IsRun}
use Rattle.runs.specs.Tally.{IsTally}
use Rattle.runs.specs.Contract.{MeetsRunCheck}
use Rattle.runs.specs.declared.run.Span.{Span}
use Rattle.runs.specs.declared.tally.Tallied.{Tallied}
use Rattle.runs.proofs.OneAnswer as runs
use Rattle.sail.specs.Lent.{Lent}
use Rattle.sail.specs.Contract.{MeetsLookup}
use Rattle.sail.specs.declared.table.Table.{Table}
use Rattle.routes.specs.declared.found.Found.{Found}
use Rattle.sail.proofs.OneAnswer as lookup
use Rattle.sail_sound.specs.Contract.{MeetsReport}
use Rattle.sail_sound.specs.declared.report.Standing.{Standing}
use Rattle.sail_sound.proofs.OneAnswer as report
use Rattle.sail_make.specs.Contract.{MeetsMake}
use Rattle.sail_make.proofs.OneAnswer as make
use Rattle.sail_load.specs.Contract.{MeetsLoad}
use Rattle.sail_load.proofs.OneAnswer as load
use Rattle.sail_announce.specs.Contract.{MeetsAnnounce}
use Rattle.sail_announce.specs.declared.answers.Announced.{Announced}
use Rattle.sail_announce.proofs.OneAnswer as announce
use Rattle.sail_withdraw.specs.Contract.{MeetsWithdraw}
use Rattle.sail_withdraw.specs.declared.answers.Withdrawn.{Withdrawn}
use Rattle.sail_withdraw.proofs.OneAnswer as withdraw
use Rattle.tree.specs.Contract.{MeetsTreeLookup}
use Rattle.tree.proofs.OneAnswer as tree
use Rattle.tree_build.specs.Contract.{MeetsBuild}
use Rattle.refusals.specs.declared.Refusal.{Refusal}
use Rattle.tree_image.specs.declared.Used.{Used}
use Rattle.tree_build.proofs.OneAnswer as build

-- The calls on a record input.
pub one-answer-check-input : (bytes : List ℕ) (x y : Result ℕ Refused) → MeetsCheckInput bytes x → MeetsCheckInput bytes y → x ≡ y
one-answer-check-input = routes.one-answer-check-input

pub one-answer-route-at : (bytes : List ℕ) (index : ℕ) (x y : Result (Option Route) Refused)
    → MeetsRouteAt bytes index x → MeetsRouteAt bytes index y → x ≡ y
one-answer-route-at = routes.one-answer-route-at

pub one-answer-longest : (bytes : List ℕ) (addr : ℕ) (x y : Result (Option Route) Refused)
    → MeetsLongest bytes addr x → MeetsLongest bytes addr y → x ≡ y
one-answer-longest = longest.one-answer-longest

-- a part of the list is its elements and its place; a reference has nothing else that a program can see
pub one-answer-run : (list : Bor (List ℕ)) (addr len : ℕ) (x y : Bor (List ℕ)) → IsRun list x addr len → IsRun list y addr len → (x.now ≡ y.now) ×
    (x.ref_ptr ≡ y.ref_ptr)
one-answer-run = runs.one-answer-run

pub one-answer-run-check : (list : List ℕ) (addr len : ℕ) (x y : Result Span Refused)
    → MeetsRunCheck list addr len x → MeetsRunCheck list addr len y → x ≡ y
one-answer-run-check = runs.one-answer-run-check

pub one-answer-tally : (bytes : List ℕ) (x y : Tallied) → IsTally bytes x → IsTally bytes y → x ≡ y
one-answer-tally = runs.one-answer-tally

-- The calls on a table. Of one that changes it: the answer, with the state beside it or in it, and all that is lent at exit.
module _ (t : Table) (l : Lent) where
  pub one-answer-lookup : (addr : ℕ) (x y : Result Found Refusal) → MeetsLookup t l addr x → MeetsLookup t l addr y → x ≡ y
  one-answer-lookup = lookup.one-answer-lookup t l

  pub one-answer-report : (x y : Result Standing Refusal) → MeetsReport t l x → MeetsReport t l y → x ≡ y
  one-answer-report = report.one-answer-report t l

  pub one-answer-make : (x y : Result Table Refusal) (u v : Lent) → MeetsMake t l x u → MeetsMake t l y v → (x ≡ y) × (u ≡ v)
  one-answer-make = make.one-answer-make t l

  pub one-answer-load : (input : List ℕ) (x y : Result Table Refused) (u v : Lent) → MeetsLoad t l input x u → MeetsLoad t l input y v → (x ≡ y) × (u ≡ v)
  one-answer-load = load.one-answer-load t l

  pub one-answer-announce : (addr len hop mark : ℕ) (x y : Announced) (u v : Lent)
      → MeetsAnnounce t l addr len hop mark x u → MeetsAnnounce t l addr len hop mark y v → (x ≡ y) × (u ≡ v)
  one-answer-announce = announce.one-answer-announce t l

  pub one-answer-withdraw : (addr len : ℕ) (x y : Withdrawn) (u v : Lent) → MeetsWithdraw t l addr len x u → MeetsWithdraw t l addr len y v → (x ≡ y) × (u ≡ v)
  one-answer-withdraw = withdraw.one-answer-withdraw t l

-- The calls on an image. Of a build: its answer, and both arrays at exit.
pub one-answer-tree-lookup : (words hops : List ℕ) (addr : ℕ) (x y : Result Found Refusal) → MeetsTreeLookup words hops addr x → MeetsTreeLookup words hops addr y → x ≡ y
one-answer-tree-lookup = tree.one-answer-tree-lookup

pub one-answer-build : (input words hops : List ℕ) (x y : Result Used Refused) (ws ws' hs hs' : List ℕ)
    → MeetsBuild input words hops x ws hs → MeetsBuild input words hops y ws' hs' → (x ≡ y) × (ws ≡ ws') × (hs ≡ hs')
one-answer-build = build.one-answer-build
