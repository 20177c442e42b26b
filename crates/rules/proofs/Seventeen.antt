-- 02, No. 3, of every record: an event of the sending side is answered 17 exactly when it is a SACK that contradicts itself and neither 2 nor
-- 5 comes before. "It is checked after 5 and before 8, and not given otherwise." Assumes nothing.
use mathlib.Core.Path.{◌≡◌, refl, ap, ◌∙◌}
use mathlib.Core.Bool.{Bool, true, false, not, ◌&&◌}
use mathlib.Core.List.{[], ◌∷◌}
use Prim.Native.Nat.{ℕ}
use lib.Dec.{eqb}
use Rattle.lists.specs.Lists.{All}
use Rattle.promise.specs.Outcome.{Refusals, first_of, on_paper}
use Rattle.rules.specs.Numbers.{psn_ok}
use Rattle.rules.specs.Sender.{Sender, unused}
use Rattle.rules.specs.Retire.{contradicts}
use Rattle.rules.specs.Sending.{step, step_refusals, send_refusals, sack_refusals, nack_refusals, timer_refusals, resend_refusals}
use Rattle.rules.specs.Paper.{paper}
use Rattle.rules.specs.declared.Sending.{Sending}
use Rattle.rules.specs.declared.Sending.TheVariants as sending
use Rattle.rules.proofs.Numbered.{number_first, sending_splits}

-- "any SACK with a set bit" so, "checked after 5"
unfoldable pub contradicted : Sender → Sending → Bool
contradicted x (sending.Send size) = false
contradicted x (sending.Sack cack b) = contradicts cack.0 b && not (unused x) && psn_ok cack && psn_ok b.base
contradicted x (sending.Nack p reason) = false
contradicted x (sending.Timer p) = false
contradicted x sending.Resend = false

-- by the tests, one after the other
five : (k u c b n : Bool) → eqb (first_of ((u, 2) ∷ (not c, 5) ∷ (not b, 5) ∷ (k, 17) ∷ (n, 8) ∷ [])) 17 ≡ (k && not u && c && b)
unfolding first_of
five true true c b n = refl
five true false false b n = refl
five true false true false n = refl
five true false true true n = refl
five false true c b n = refl
five false false false b n = refl
five false false true false n = refl
five false false true true true = refl
five false false true true false = refl

-- a list in which 17 does not stand
other : (l : Refusals) → All (λ r. eqb r.1 17 ≡ false) l → eqb (first_of l) 17 ≡ false
unfolding first_of All
other [] h = refl
other ((true, n) ∷ l) h = h.0
other ((false, n) ∷ l) h = other l h.1

by_list : (x : Sender) (e : Sending) → eqb (first_of (step_refusals x e)) 17 ≡ contradicted x e
unfolding step_refusals send_refusals sack_refusals nack_refusals timer_refusals resend_refusals contradicted All
by_list x (sending.Send size) = other (send_refusals x size) (refl, (refl, (refl, tt)))
by_list x (sending.Sack cack b) = five (contradicts cack.0 b) (unused x) (psn_ok cack) (psn_ok b.base) _
by_list x (sending.Nack p reason) = other (nack_refusals x p reason) (refl, (refl, (refl, (refl, tt))))
by_list x (sending.Timer p) = other (timer_refusals x p) (refl, (refl, (refl, tt)))
by_list x sending.Resend = other (resend_refusals x) (refl, (refl, tt))

pub seventeen : (x : Sender) (e : Sending) → eqb (on_paper paper (step x e)).number 17 ≡ contradicted x e
seventeen x e = ap (λ (n : ℕ). eqb n 17) (number_first (sending_splits x e)) ∙ by_list x e
