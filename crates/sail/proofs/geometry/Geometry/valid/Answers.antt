-- `sail::geometry::Geometry::valid`. Whether the levels are within the limits.
use borrow.Author.Rules.{rules}
use native.Mathlib.Omega.{arith}
use borrow.Author.Tests.{le-leb}
use Rattle.sail.proofs.Geos.{not-told}
use Rattle.sail.proofs.geometry.Geometry.valid.Goals as goal

pub returns-then-p1-lt12 : goal.returns-then-p1-lt12
returns-then-p1-lt12 c = not-told (λ v. omega arith)

pub returns-then-p1-gt16 : goal.returns-then-p1-gt16
returns-then-p1-gt16 c = not-told (λ v. omega arith)

pub returns-then-p2-lt22 : goal.returns-then-p2-lt22
returns-then-p2-lt22 c = not-told (λ v. omega arith)

pub returns-then-p2-gt26 : goal.returns-then-p2-gt26
returns-then-p2-gt26 c = not-told (λ v. omega arith)

pub returns : goal.returns
returns c = (search rules, λ v. le-leb _ _ v.near)
