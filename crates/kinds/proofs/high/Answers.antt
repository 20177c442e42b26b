-- `kinds::high` meets its contract: the pairs of a cell and a value are those of the rule, and more that are not high. Assumes nothing.
use mathlib.Core.Path.{◌≡◌, refl, ap, ap₂, ◌∙◌}
use mathlib.Core.Bool.{Bool}
use mathlib.Core.List.{List}
use Prim.Native.Nat.{ℕ}
use Rattle.std.specs.List.{list_any, zip}
use Rattle.std.proofs.Common.{rules, tests}
use Rattle.std.proofs.lemmas.Iterator.{YieldsList-from_slice, YieldsList-from_zip}
use Rattle.std.proofs.lemmas.Iterator.Search.{any_from_yields_List}
use Rattle.lists.specs.Index.{table}
use Rattle.rules.specs.Kinds.{kind_of, fields_of, layouts, layout}
use Rattle.rules.specs.Log.{high_cell, high_psn}
use Rattle.rules.specs.declared.Cell.{Cell}
use Rattle.rules.specs.declared.Sending.TheVariants as sending
use Rattle.rules.specs.declared.Use.TheVariants as use-of
use Rattle.rules.specs.declared.Event.{Event}
use Rattle.rules.specs.declared.Event.TheVariants as event
use Rattle.kinds.specs.Padded.{padded, padded_cells}
use Rattle.kinds.proofs.high.Goals as goal

abbrev is_high : Cell × ℕ → Bool
is_high p = high_cell p.0 p.1

pairs : (e : Event) → list_any is_high (zip (padded_cells (layout (kind_of e))) (padded (fields_of e))) ≡ high_psn (layout (kind_of e)) (fields_of e)
unfolding padded padded_cells table kind_of fields_of layout layouts high_cell high_psn
pairs (event.Start s) = refl
pairs (event.Use use-of.Close) = refl
pairs (event.Use (use-of.Sends (sending.Send z))) = refl
pairs (event.Use (use-of.Receives a)) = refl
pairs (event.Use (use-of.Sends (sending.Sack c b))) = refl
pairs (event.Use (use-of.Sends (sending.Nack p n))) = refl
pairs (event.Use (use-of.Sends (sending.Timer p))) = refl
pairs (event.Use (use-of.Sends sending.Resend)) = refl

pub returns : goal.returns
returns c =
    let cells : c.layout-cells.result ≡ padded_cells (layout (kind_of c.args.event)) =
    c.layout-cells.ensures ∙ ap (λ (n : ℕ). padded_cells (layout n)) c.kind.ensures in
    let each = YieldsList-from_zip {s = c.zip.result} (YieldsList-from_slice c.layout-cells.result cc) (YieldsList-from_slice c.values-values.result cc) in
    any_from_yields_List is_high c.any.new.self _ _ c.any.ensures.ran each (λ x b q k. search (rules, tests))
    ∙ ap₂ (λ (x : List Cell) (y : List ℕ). list_any is_high (zip x y)) cells c.values-values.ensures
    ∙ pairs c.args.event
