-- The fields of a record by their cells: where no PSN is high they fit the record, and what a record holds fits an event and has no high
-- PSN. By induction on the cells. And the fields of every kind fill whole bytes, by a test of all. Assumes nothing.
use mathlib.Core.Path.{◌≡◌, refl}
use mathlib.Core.Bool.{Bool, false}
use mathlib.Core.List.{List, [], ◌∷◌, map}
use Prim.Native.Nat.{ℕ}
use native.Mathlib.Omega.{arith}
use borrow.Author.Tests.{leb-false, lt-leb}
use lib.Dec.{leb}
use Rattle.lists.specs.Lists.{sum}
use Rattle.lists.proofs.Joined.{or_false_each}
use Rattle.lists.proofs.Every.{every, every_at}
use Rattle.fields.specs.Fields.{Fits, Layout}
use Rattle.fields.proofs.Checked.{narrow, fine, checked}
use Rattle.rules.specs.Numbers.{turn}
use Rattle.rules.specs.Kinds.{layouts, layout, width, event_width, widths}
use Rattle.rules.specs.Log.{high_cell, high_psn}
use Rattle.rules.specs.declared.Cell.{Cell}
use Rattle.rules.specs.declared.Cell.TheVariants as cell

-- an event whose PSNs are not high fits a record
pub low_fits : (cs : List Cell) (vs : List ℕ) → Fits (map event_width cs) vs → high_psn cs vs ≡ false → Fits (map width cs) vs
unfolding Fits high_psn high_cell width event_width
low_fits [] vs f h = f
low_fits (cell.Psn ∷ cs) [] f h = f
low_fits (cell.Bits n ∷ cs) [] f h = f
low_fits (cell.Psn ∷ cs) (v ∷ vs) f h =
    let o = or_false_each (leb turn v) (high_psn cs vs) h in
    (leb-false turn v o.0, low_fits cs vs f.1 o.1)
low_fits (cell.Bits n ∷ cs) (v ∷ vs) f h = (f.0, low_fits cs vs f.1 h)

-- no field is wider in a record than in an event
pub fits_event : (cs : List Cell) (vs : List ℕ) → Fits (map width cs) vs → Fits (map event_width cs) vs
unfolding Fits width event_width
fits_event [] vs f = f
fits_event (cell.Psn ∷ cs) [] f = f
fits_event (cell.Bits n ∷ cs) [] f = f
fits_event (cell.Psn ∷ cs) (v ∷ vs) f = (omega (arith, f.0), fits_event cs vs f.1)
fits_event (cell.Bits n ∷ cs) (v ∷ vs) f = (f.0, fits_event cs vs f.1)

-- a PSN of 24 bits is not high
pub fits_low : (cs : List Cell) (vs : List ℕ) → Fits (map width cs) vs → high_psn cs vs ≡ false
unfolding Fits high_psn high_cell width
fits_low [] vs f = refl
fits_low (c ∷ cs) [] f = refl
fits_low (cell.Psn ∷ cs) (v ∷ vs) f = rw (lt-leb turn v f.0) (fits_low cs vs f.1)
fits_low (cell.Bits n ∷ cs) (v ∷ vs) f = fits_low cs vs f.1

fine_cells : List Cell → Bool
fine_cells cs = fine (map width cs)

pub laid : (k : ℕ) → Layout (widths k)
unfolding widths layout layouts width fine narrow sum every fine_cells
laid k = checked (widths k) (every_at fine_cells layouts [] refl refl k)
