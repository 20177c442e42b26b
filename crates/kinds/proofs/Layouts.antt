-- The fields of a kind are at most as many as the code has room for, by a test of all layouts, and padded they are a layout still. And an
-- event has as many fields as its kind. Assumes nothing.
use mathlib.Core.Path.{◌≡◌, refl, ap, ◌∙◌}
use mathlib.Core.Bool.{Bool}
use mathlib.Core.List.{List, []}
use Prim.Native.Nat.{ℕ, ◌-◌, ◌%◌, ◌≤◌}
use native.Mathlib.Omega.{arith}
use borrow.Author.Tests.{leb-true}
use lib.Dec.{leb}
use lib.ListN.{length, length-map}
use Rattle.lists.specs.Lists.{sum}
use Rattle.lists.proofs.Every.{every, every_at}
use Rattle.fields.specs.Fields.{Layout}
use Rattle.fields.proofs.Padding.{sum_padded}
use Rattle.rules.specs.Kinds.{kind_of, fields_of, layouts, layout, width, widths}
use Rattle.rules.specs.declared.Cell.{Cell}
use Rattle.rules.specs.declared.Sending.TheVariants as sending
use Rattle.rules.specs.declared.Use.TheVariants as use-of
use Rattle.rules.specs.declared.Event.{Event}
use Rattle.rules.specs.declared.Event.TheVariants as event
use Rattle.rules.proofs.Cells.{laid}
use Rattle.kinds.specs.Padded.{most, padded}
use Rattle.kinds.proofs.Padded.{padded_is, padded_at}

few : List Cell → Bool
few cs = leb (length cs) most

pub few_cells : (k : ℕ) → length (layout k) ≤ most
unfolding layout layouts every few
few_cells k = leb-true (length (layout k)) most (every_at few layouts [] refl refl k)

pub few_fields : (k : ℕ) → length (widths k) ≤ most
unfolding widths
few_fields k = omega (arith, few_cells k, length-map (layout k) width)

-- ---- as the crate fields wants them
pub sum_widths : (k : ℕ) → sum (padded (widths k)) ≡ sum (widths k)
sum_widths k = ap sum (padded_is (widths k) (few_fields k)) ∙ sum_padded (widths k) (most - length (widths k))

pub padded_laid : (k : ℕ) → Layout (padded (widths k))
padded_laid k =
    let y = laid k in
    record {
      whole = ap (λ (n : ℕ). n % 8) (sum_widths k) ∙ y.whole;
      narrow = λ i. rw (padded_at (widths k) (few_fields k)) (y.narrow i);
      short = rw (sum_widths k) y.short;
    }

-- ---- an event's fields
pub length_fields : (e : Event) → length (fields_of e) ≡ length (widths (kind_of e))
unfolding kind_of fields_of widths layout layouts
length_fields (event.Start s) = refl
length_fields (event.Use use-of.Close) = refl
length_fields (event.Use (use-of.Sends (sending.Send z))) = refl
length_fields (event.Use (use-of.Receives a)) = refl
length_fields (event.Use (use-of.Sends (sending.Sack c b))) = refl
length_fields (event.Use (use-of.Sends (sending.Nack p n))) = refl
length_fields (event.Use (use-of.Sends (sending.Timer p))) = refl
length_fields (event.Use (use-of.Sends sending.Resend)) = refl
