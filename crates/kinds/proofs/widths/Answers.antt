-- `kinds::widths` meets its contract: cell by cell, and a number that is no kind's has no cells. Assumes nothing.
use mathlib.Core.Path.{◌≡◌, sym, ap, ◌∙◌}
use mathlib.Core.List.{List, map}
use Prim.Native.Nat.{ℕ, ◌<◌}
use lib.ListN.{length, get_or, get_or-map}
use Rattle.std.proofs.Common.{rules}
use Rattle.lists.proofs.Index.{is_table}
use Rattle.rules.specs.Kinds.{layout, width, widths}
use Rattle.rules.specs.declared.Cell.{Cell}
use Rattle.rules.specs.declared.Cell.TheVariants.{Bits}
use Rattle.rules.proofs.Tried.{kind_known}
use Rattle.kinds.specs.Padded.{most, padded, padded_cells}
use Rattle.kinds.proofs.Padded.{cell_at}
use Rattle.kinds.proofs.widths.Goals as goal

all_widths : (k : ℕ) (cells : List Cell) (ws : List ℕ) → cells ≡ padded_cells (layout k) → length ws ≡ most
    → ((i : ℕ) → i < most → get_or ws i 0 ≡ width (get_or cells i (Bits 0))) → ws ≡ padded (widths k)
unfolding padded widths width
all_widths k cells ws e n h =
    let cs = layout k in
    let c : (i : ℕ) → i < most → get_or cells i (Bits 0) ≡ get_or cs i (Bits 0) =
    λ i l. ap (λ (x : List Cell). get_or x i (Bits 0)) e ∙ cell_at cs i (Bits 0) l in
    is_table ws most (λ i. get_or (map width cs) i 0) 0 n (λ i l. h i l ∙ ap width (c i l) ∙ sym (get_or-map width cs i (Bits 0)))

pub returns-in-Ok : goal.returns-in-Ok
returns-in-Ok c =
    let k = kind_known c.args.kind c.in-Ok.kind c.in-Ok.ensures in
    all_widths c.args.kind c.layout.result c.map.result (c.layout.ensures ∙ ap (λ (n : ℕ). padded_cells (layout n)) k.1) c.map.ensures.items.long
    (λ i l. let h = c.map.ensures.items.at i (Bits 0) 0 l in search rules)
