-- Each public method's promise settles its outcome: any two results that it allows are equal in answer and meaning. Assumes nothing.
use mathlib.Core.Path.{◌≡◌, sym, ◌∙◌}
use Prim.Native.Nat.{ℕ}
use Rattle.psn.specs.declared.Psn.{Psn}
use Rattle.rules.specs.Paper.{Reply}
use Rattle.rules.specs.Sender.{start}
use Rattle.rules.specs.Sending.{send, sack, nack, timer, resend, step}
use Rattle.rules.specs.declared.Block.{Block}
use Rattle.rules.specs.declared.Opening.{Opening}
use Rattle.rules.specs.declared.Sending.{Sending}
use Rattle.rules.proofs.Settled.{settled}
use Rattle.sender.specs.declared.Sender.{Sender}
use Rattle.sender.specs.Record.{empty, meaning, Steps}

-- ---- a reply and the record after it
abbrev pub Same : (r r' : Reply) (y y' : Sender) → Type 0
Same r r' y y' = (r ≡ r') × (meaning y ≡ meaning y')

pub empty_settled : (x y : Sender) → x ≡ empty → y ≡ empty → x ≡ y
empty_settled x y p q = p ∙ sym q

pub start_settled : (opening : Opening) (r r' : Reply) (y y' : Sender) → Steps empty (start opening) r y → Steps empty (start opening) r' y'
    → Same r r' y y'
start_settled opening = settled

module _ (x : Sender) where
  pub send_settled : (size : ℕ) (r r' : Reply) (y y' : Sender) → Steps x (send (meaning x) size) r y → Steps x (send (meaning x) size) r' y'
      → Same r r' y y'
  send_settled size = settled

  pub sack_settled : (cack : Psn) (block : Block) (r r' : Reply) (y y' : Sender) → Steps x (sack (meaning x) cack block) r y
      → Steps x (sack (meaning x) cack block) r' y' → Same r r' y y'
  sack_settled cack block = settled

  pub nack_settled : (psn : Psn) (reason : ℕ) (r r' : Reply) (y y' : Sender) → Steps x (nack (meaning x) psn reason) r y
      → Steps x (nack (meaning x) psn reason) r' y' → Same r r' y y'
  nack_settled psn reason = settled

  pub timer_settled : (psn : Psn) (r r' : Reply) (y y' : Sender) → Steps x (timer (meaning x) psn) r y → Steps x (timer (meaning x) psn) r' y'
      → Same r r' y y'
  timer_settled psn = settled

  pub resend_settled : (r r' : Reply) (y y' : Sender) → Steps x (resend (meaning x)) r y → Steps x (resend (meaning x)) r' y' → Same r r' y y'
  resend_settled = settled

  pub step_settled : (event : Sending) (r r' : Reply) (y y' : Sender) → Steps x (step (meaning x) event) r y → Steps x (step (meaning x) event) r' y'
      → Same r r' y y'
  step_settled event = settled
