-- 01, The receiving side: its events, each with its refusals in order.
use Rattle.std.specs.Prelude.{not, [], ◌∷◌}
use Rattle.promise.specs.Outcome.{Outcome, Refusals, unless}
use Rattle.rules.specs.Numbers.{psn_ok, size_ok, flags_ok}
use Rattle.rules.specs.Receiver.{Receiver, unused, verdict, judged}
use Rattle.rules.specs.declared.Answer.{Answer}
use Rattle.rules.specs.declared.Arrival.{Arrival}

-- refusals 2, 5, 6, 14
unfoldable pub arrive_refusals : Receiver → Arrival → Refusals
arrive_refusals r a = (unused r, 2) ∷ (not (psn_ok a.psn), 5) ∷ (not (size_ok a.size), 6) ∷ (not (flags_ok a.flags), 14) ∷ []

unfoldable pub arrive : Receiver → Arrival → Outcome Answer Receiver
arrive r a = unless (arrive_refusals r a) (judged r a (verdict r a))

-- an event of the receiving side: an arrival is the only one
abbrev pub Receiving : Type 0
Receiving = Arrival

abbrev pub Arrive : Arrival → Receiving
Arrive a = a

unfoldable pub step : Receiver → Receiving → Outcome Answer Receiver
step r a = arrive r a
