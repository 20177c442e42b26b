-- `event_log::values` meets its contract: the fields are read behind the head. Assumes nothing.
use mathlib.Core.Path.{◌≡◌, refl, ap, ap₂, ◌∙◌}
use mathlib.Core.List.{List}
use Prim.Native.Nat.{ℕ, ◌-◌, ◌≤◌}
use native.Mathlib.Omega.{arith}
use lib.ListN.{length, take, drop, length-drop}
use Rattle.fields.specs.Fields.{size, decode}
use Rattle.rules.specs.Numbers.{record_head}
use Rattle.rules.specs.Numbered.{kind_number}
use Rattle.rules.specs.Kinds.{widths as widths_of}
use Rattle.rules.specs.Log.{whole}
use Rattle.kinds.specs.Padded.{padded}
use Rattle.event_log.specs.Parts.{Holds}
use Rattle.event_log.proofs.Rests.{rest}
use Rattle.event_log.proofs.ArrayFields.{laid, decode_array, decode_fit}
use Rattle.event_log.proofs.values.Goals as goal
use Rattle.event_log.proofs.values.Goals.{After-widths}

-- the bytes behind the head are enough
enough : (r : List ℕ) (k : ℕ) → whole k ≤ length r → size (widths_of k) ≤ length (take (length r - record_head) (drop record_head r))
enough r k h = omega (arith, ap length (rest r record_head), length-drop record_head r)

held : (r : List ℕ) (k : ℕ) (ws v : List ℕ) → ws ≡ padded (widths_of k) → v ≡ decode ws (take (length r - record_head) (drop record_head r)) → Holds r k v
held r k ws v e h =
    let t = drop record_head r in
    let v_is : v ≡ padded (decode (widths_of k) t) = h ∙ ap₂ decode e (rest r record_head) ∙ decode_array k t in
    record { values_are = v_is; fit = rw v_is (decode_fit k t) }

widths_are : (c : After-widths) → c.widths.result ≡ padded (widths_of (kind_number c.args.kind))
widths_are c = c.widths.ensures ∙ ap (λ (n : ℕ). padded (widths_of n)) c.number.ensures

pub read-requires : goal.read-requires
read-requires c =
    let a = c.args in
    let k = kind_number a.kind in
    laid k _ _ _ (widths_are (goal.at.read-requires c).After-widths) (enough a.r.now k c.requires) refl

pub returns : goal.returns
returns c =
    let a = c.args in
    held a.r.now (kind_number a.kind) _ _ (widths_are (goal.at.returns c).After-widths) c.read.ensures
