-- 01, The sending side: its events, each with its refusals in order. All are tried before anything is done.
use Rattle.std.specs.Prelude.{not, [], ◌∷◌, ℕ, leb}
use Rattle.promise.specs.Outcome.{Outcome, Refusals, unless}
use Rattle.rules.specs.Numbers.{psn_ok, size_ok, reason_ok}
use Rattle.rules.specs.Sender.{Sender, outstanding, unused, unsent, sent}
use Rattle.rules.specs.Retire.{contradicts, names_unsent, acknowledged}
use Rattle.rules.specs.Marks.{mark, nacked, nearest, resent}
use Rattle.rules.specs.declared.Answer.{Answer}
use Rattle.rules.specs.declared.Answer.TheVariants as answer
use Rattle.rules.specs.declared.Block.{Block}
use Rattle.rules.specs.declared.Sending.{Sending}
use Rattle.rules.specs.declared.Sending.TheVariants as sending
use Rattle.psn.specs.declared.Psn.{Psn}

-- refusals 2, 6, 7: "gives the next PSN unless it would pass place + room"
unfoldable pub send_refusals : Sender → ℕ → Refusals
send_refusals x size = (unused x, 2) ∷ (not (size_ok size), 6) ∷ (leb x.room (outstanding x), 7) ∷ []

unfoldable pub send : Sender → ℕ → Outcome Answer Sender
send x size = unless (send_refusals x size) (sent x size)

-- refusals 2, 5, 17, 8; 17 "is checked after 5 and before 8" (02, No. 3)
unfoldable pub sack_refusals : Sender → Psn → Block → Refusals
sack_refusals x cack b =
    (unused x, 2) ∷ (not (psn_ok cack), 5) ∷ (not (psn_ok b.base), 5) ∷ (contradicts cack.0 b, 17) ∷ (names_unsent x cack.0 b, 8) ∷ []

unfoldable pub sack : Sender → Psn → Block → Outcome Answer Sender
sack x cack b = unless (sack_refusals x cack b) (acknowledged x cack.0 b)

-- refusals 2, 5, 15, 8
unfoldable pub nack_refusals : Sender → Psn → ℕ → Refusals
nack_refusals x p reason = (unused x, 2) ∷ (not (psn_ok p), 5) ∷ (not (reason_ok reason), 15) ∷ (unsent x p.0, 8) ∷ []

unfoldable pub nack : Sender → Psn → ℕ → Outcome Answer Sender
nack x p reason = unless (nack_refusals x p reason) (nacked x p.0 reason)

-- refusals 2, 5, 8
unfoldable pub timer_refusals : Sender → Psn → Refusals
timer_refusals x p = (unused x, 2) ∷ (not (psn_ok p), 5) ∷ (unsent x p.0, 8) ∷ []

unfoldable pub timer : Sender → Psn → Outcome Answer Sender
timer x p = unless (timer_refusals x p) (mark answer.Expired x p.0)

-- refusals 2, 9
unfoldable pub resend_refusals : Sender → Refusals
resend_refusals x = (unused x, 2) ∷ (leb (outstanding x) (nearest x), 9) ∷ []

unfoldable pub resend : Sender → Outcome Answer Sender
resend x = unless (resend_refusals x) (resent x)

-- an event of the sending side: all that may refuse it, and what it gives
unfoldable pub step_refusals : Sender → Sending → Refusals
step_refusals x (sending.Send size) = send_refusals x size
step_refusals x (sending.Sack cack b) = sack_refusals x cack b
step_refusals x (sending.Nack p reason) = nack_refusals x p reason
step_refusals x (sending.Timer p) = timer_refusals x p
step_refusals x sending.Resend = resend_refusals x

unfoldable pub step : Sender → Sending → Outcome Answer Sender
step x (sending.Send size) = send x size
step x (sending.Sack cack b) = sack x cack b
step x (sending.Nack p reason) = nack x p reason
step x (sending.Timer p) = timer x p
step x sending.Resend = resend x
