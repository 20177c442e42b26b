-- What an answer is on paper: this document's number, and the values beside it, for each case of each answer.
use Rattle.std.specs.Prelude.{Bool, cond, [], ◌∷◌, ℕ, zero, suc, Option, Some, None, Result, Ok, Err}
use Rattle.promise.specs.Line.{Line, refused, done}
use Rattle.promise.specs.Outcome.{Outcome, Refused, Done}
use Rattle.promise.specs.Promise as promise
use Rattle.rules.specs.Numbered.{number, refusal, kind_number, kind_of_number}
use Rattle.rules.specs.Kinds.{kind_of, fields_of}
use Rattle.rules.specs.declared.Verdict.{Verdict}
use Rattle.rules.specs.declared.Verdict.TheVariants.{Fresh, Known, Beyond, NoBuffer, Trim, TrimLastHop}
use Rattle.rules.specs.declared.Answer.{Answer}
use Rattle.rules.specs.declared.Answer.TheVariants as answer
use Rattle.rules.specs.declared.Record.{Record}
use Rattle.rules.specs.declared.Refusal.{Refusal}
use Rattle.rules.specs.Outcomes.{Reading, Record as AtPlace, Nothing, Writing, NotWritten, Length}

abbrev pub digit : Bool → ℕ
digit b = cond b 1 0

-- 01, The receiving side, rules 1 to 5: the arrival answer
unfoldable pub code : Verdict → ℕ
code Fresh = 0
code Known = 1
code Beyond = 2
code NoBuffer = 3
code Trim = 4
code TrimLastHop = 5

-- "send the PSN; arrive 0 or 1: the arrival answer, cack, base, bitmap, count / 256, entropy, RTX, mark; arrive 2 to 5: arrival answer,
-- PSN, entropy, RTX; SACK: newly retired, place, held bytes; NACK and timer: newly marked; resend: PSN". 02, No. 8: the false alarms "as a
-- fourth value, on the program's line too"
unfoldable pub paper : Answer → Line
paper answer.Started = done 1 [] []
paper answer.Closed = done 2 [] []
paper (answer.Sent p) = done 3 (p.0 ∷ []) []
paper (answer.Acked v k) =
    done 4
    (code v ∷ k.cack.0 ∷ k.block.base.0 ∷ k.block.bitmap ∷ k.count ∷ k.entropy ∷ digit k.rtx ∷ digit k.mark ∷ [])
    (k.mpr ∷ [])
paper (answer.Nacked v k) = done 4 (code v ∷ k.psn.0 ∷ k.entropy ∷ digit k.rtx ∷ []) (k.reason ∷ [])
paper (answer.Retired k) = done 5 (k.newly ∷ k.place.0 ∷ k.held ∷ k.alarms ∷ []) []
paper (answer.Marked n) = done 6 (n ∷ []) []
paper (answer.Expired n) = done 7 (n ∷ []) []
paper (answer.Resent p) = done 8 (p.0 ∷ []) []

-- an event's answer, or why it is refused
abbrev pub Reply : Type 0
Reply = Result Answer Refusal

-- the reply of an outcome
unfoldable pub answered : {S : Type 0} → Outcome Answer S → Reply
answered (Refused n) = Err (refusal n)
answered (Done y a) = Ok a

-- a reply on paper: "A refusal carries its number only"
abbrev pub reply_line : Reply → Line
reply_line r = promise.told paper number r

-- "A record read gives its event, kind, body and the place after it; on a refusal or at the end there is no event, kind and place are
-- 0". The body is a part of the log and is told apart (`body` of Log).
unfoldable pub read_line : Reading → Line
read_line (AtPlace slot e kind next) = done kind (kind_of e ∷ next ∷ slot ∷ fields_of e) []
read_line (Nothing n) = refused n

-- what the code gives of it: a record, none at the log's end, or why there is none
abbrev pub Found : Type 0
Found = Result (Option Record) Refusal

unfoldable pub found : Reading → Found
found (AtPlace slot e kind next) = Ok (Some (record { slot = slot; event = e; kind = kind_of_number kind; next = next }))
found (Nothing zero) = Ok None
found (Nothing (suc n)) = Err (refusal (suc n))

unfoldable pub found_line : Found → Line
found_line (Ok (Some r)) = read_line (AtPlace r.slot r.event (kind_number r.kind) r.next)
found_line (Ok None) = read_line (Nothing 0)
found_line (Err e) = read_line (Nothing (number e))

-- "the length is the answer"
unfoldable pub written_line : Writing → Line
written_line (NotWritten n) = refused n
written_line (Length n) = done 0 (n ∷ []) []

-- what the code gives of it: the length, or why nothing is written
abbrev pub Wrote : Type 0
Wrote = Result ℕ Refusal

unfoldable pub wrote : Writing → Wrote
wrote (NotWritten n) = Err (refusal n)
wrote (Length n) = Ok n

unfoldable pub wrote_line : Wrote → Line
wrote_line (Ok n) = written_line (Length n)
wrote_line (Err e) = written_line (NotWritten (number e))
