-- 02, No. 3: "No honest receiver does that". E is not accepted and a block's base is not behind E, so no receiver's SACK contradicts itself,
-- whatever has arrived since its start. Assumes nothing.
use mathlib.Core.Path.{◌≡◌, sym, ap, ◌∙◌}
use mathlib.Core.Bool.{true, false, false≢true}
use Prim.Native.Nat.{ℕ, ◌+◌}
use native.Mathlib.Omega.{arith}
use native.Mathlib.Decide.{ℕ_discrete}
use lib.ListN.{get_or, take, drop}
use lib.Seq.{get_or-take, get_or-drop}
use Rattle.lists.proofs.Lists.{in_range}
use Rattle.promise.specs.Outcome.{left}
use Rattle.rules.specs.Receiver.{Receiver, block_at, block, sack_of}
use Rattle.rules.specs.Receiving.{arrive}
use Rattle.rules.specs.Receiving as receiving
use Rattle.rules.specs.Retire.{contradicts}
use Rattle.rules.specs.Kept.{Receives}
use Rattle.rules.specs.declared.Arrival.{Arrival}
use Rattle.rules.proofs.Allowed.{room_numbers}
use Rattle.rules.proofs.Packed.{bit_pack}
use Rattle.rules.proofs.Receives.{receives_step}
use Rattle.rules.proofs.Contradicts.{all_past}

-- the SACK of an arrival is that of the record after it (`reply_by_answer` in Counts)
pub receiver_honest : (r : Receiver) (a : Arrival) → Receives r
    → let k = sack_of (left r (arrive r a)) a in contradicts k.cack.0 k.block ≡ false
unfolding receiving.step sack_of block
receiver_honest r a h =
    let K = (receives_step r a h).holds in
    let s = left r (arrive r a) in
    let o = block_at s a.psn.0 in
    let rest = drop o s.window in
    all_past s.expected o (block s a.psn.0).bitmap
    (λ j l e.
    let here : get_or s.window (o + j) false ≡ true =
    sym (get_or-drop o s.window j false) ∙ sym (get_or-take 64 rest j false l) ∙ sym (bit_pack (take 64 rest) j) ∙ e in (
      (elim (ℕ_discrete (o + j) 0) [
        | yes z ↦ absurd (false≢true (sym K.expected_open ∙ sym (ap (λ (i : ℕ). get_or s.window i false) z) ∙ here))
        | no z ↦ omega arith
      ]),
      omega (arith, in_range s.window (o + j) here, room_numbers _ K.room_good),
    ))
