-- `event_log::whole` meets its contract: the widths are all that a kind has, and their sum is small. Assumes nothing.
use mathlib.Core.Path.{◌≡◌, ap, ◌∙◌}
use Prim.Native.Nat.{ℕ, ◌+◌}
use native.Mathlib.Omega.{arith}
use Rattle.fields.specs.Fields.{size}
use Rattle.rules.specs.Numbered.{kind_number}
use Rattle.rules.specs.Numbers.{record_head}
use Rattle.rules.specs.Kinds.{widths as widths_of}
use Rattle.rules.proofs.Cells.{laid}
use Rattle.kinds.specs.Padded.{padded}
use Rattle.kinds.proofs.Layouts.{padded_laid}
use Rattle.event_log.proofs.ArrayFields.{size_padded}
use Rattle.event_log.proofs.whole.Goals as goal
use Rattle.event_log.proofs.whole.Goals.{After-widths}

widths_are : (c : After-widths) → c.widths.result ≡ padded (widths_of (kind_number c.args.kind))
widths_are c = c.widths.ensures ∙ ap (λ (n : ℕ). padded (widths_of n)) c.number.ensures

pub size-requires : goal.size-requires
size-requires c = rw (widths_are (goal.at.size-requires c).After-widths) (padded_laid (kind_number c.args.kind))

pub overflow_add-result : goal.overflow_add-result
overflow_add-result c =
    let k = kind_number c.args.kind in
    omega (arith, c.size.ensures ∙ ap size (widths_are (goal.at.overflow_add-result c).After-widths) ∙ size_padded k, (laid k).short)

pub returns : goal.returns
returns c =
    ap (λ (n : ℕ). record_head + n)
    (c.size.ensures ∙ ap size (widths_are (goal.at.returns c).After-widths) ∙ size_padded (kind_number c.args.kind))
