-- `Kind::try_from` meets its promise: the number of a kind gives that kind, and any other is below 1 or above 8. Assumes nothing.
use native.Mathlib.Omega.{arith}
use Rattle.lists.proofs.Joined.{never_true}
use Rattle.rules.specs.Numbered.{kind_of_number}
use Rattle.rules.specs.Kinds.{layouts, kind_ok}
use Rattle.rules.proofs.Tried.{kind_within}
use Rattle.rules.proofs.KindTryFromU8.try_from.Goals as goal

pub returns-in-1 : goal.returns-in-1
unfolding layouts kind_of_number
returns-in-1 c = rw c.in-1.is

pub returns-in-2 : goal.returns-in-2
unfolding layouts kind_of_number
returns-in-2 c = rw c.in-2.is

pub returns-in-3 : goal.returns-in-3
unfolding layouts kind_of_number
returns-in-3 c = rw c.in-3.is

pub returns-in-4 : goal.returns-in-4
unfolding layouts kind_of_number
returns-in-4 c = rw c.in-4.is

pub returns-in-5 : goal.returns-in-5
unfolding layouts kind_of_number
returns-in-5 c = rw c.in-5.is

pub returns-in-6 : goal.returns-in-6
unfolding layouts kind_of_number
returns-in-6 c = rw c.in-6.is

pub returns-in-7 : goal.returns-in-7
unfolding layouts kind_of_number
returns-in-7 c = rw c.in-7.is

pub returns-in-8 : goal.returns-in-8
unfolding layouts kind_of_number
returns-in-8 c = rw c.in-8.is

pub returns-in_default : goal.returns-in_default
returns-in_default c = rw (never_true (kind_ok c.args.number) (λ h. let w = kind_within c.args.number h in omega arith))
