-- 01, The event log: "An event is of one of these kinds and has only its fields". Four tables go by kind and nothing else does: an event's
-- kind, its fields, the event that a kind and fields make, and how wide each field is.
use Rattle.std.specs.Prelude.{Bool, ◌&&◌, List, [], ◌∷◌, map, ℕ, leb, ltb, length, get_or}
use Rattle.fields.specs.Fields.{Fits}
use Rattle.rules.specs.Numbers.{psn}
use Rattle.rules.specs.declared.Options.{Options}
use Rattle.rules.specs.declared.Sending.TheVariants as sending
use Rattle.rules.specs.declared.Use.TheVariants as use-of
use Rattle.rules.specs.declared.Event.{Event}
use Rattle.rules.specs.declared.Event.TheVariants as event
use Rattle.rules.specs.declared.Cell.{Cell}
use Rattle.rules.specs.declared.Cell.TheVariants as cell

-- "1 start: send room 2, send PSN, receive room 2, receive PSN. 2 close. 3 send: size 2. 4 arrive: PSN, size 2, flags 1, entropy 4.
-- 5 SACK: cack, base, bitmap 8. 6 NACK: PSN, reason 1. 7 timer: PSN. 8 resend."
unfoldable pub kind_of : Event → ℕ
kind_of (event.Start s) = 1
kind_of (event.Use use-of.Close) = 2
kind_of (event.Use (use-of.Sends (sending.Send z))) = 3
kind_of (event.Use (use-of.Receives a)) = 4
kind_of (event.Use (use-of.Sends (sending.Sack c b))) = 5
kind_of (event.Use (use-of.Sends (sending.Nack p n))) = 6
kind_of (event.Use (use-of.Sends (sending.Timer p))) = 7
kind_of (event.Use (use-of.Sends sending.Resend)) = 8

unfoldable pub fields_of : Event → List ℕ
fields_of (event.Start s) = s.sending.room ∷ s.sending.first.0 ∷ s.receiving.room ∷ s.receiving.first.0 ∷ []
fields_of (event.Use use-of.Close) = []
fields_of (event.Use (use-of.Sends (sending.Send z))) = z ∷ []
fields_of (event.Use (use-of.Receives a)) = a.psn.0 ∷ a.size ∷ a.flags ∷ a.entropy ∷ []
fields_of (event.Use (use-of.Sends (sending.Sack c b))) = c.0 ∷ b.base.0 ∷ b.bitmap ∷ []
fields_of (event.Use (use-of.Sends (sending.Nack p n))) = p.0 ∷ n ∷ []
fields_of (event.Use (use-of.Sends (sending.Timer p))) = p.0 ∷ []
fields_of (event.Use (use-of.Sends sending.Resend)) = []

-- a connection without options
abbrev pub plain : Options
plain = record {}

-- the event of a kind with these fields
unfoldable pub event_of : ℕ → List ℕ → Event
event_of kind l =
    let a = get_or l 0 0 in
    let b = get_or l 1 0 in
    let c = get_or l 2 0 in
    let d = get_or l 3 0 in
    get_or
    (event.Use use-of.Close
    ∷ event.Start (record { sending = record { room = a; first = psn b }; receiving = record { room = c; first = psn d }; options = plain })
    ∷ event.Use use-of.Close
    ∷ event.Use (use-of.Sends (sending.Send a))
    ∷ event.Use (use-of.Receives (record { psn = psn a; size = b; flags = c; entropy = d }))
    ∷ event.Use (use-of.Sends (sending.Sack (psn a) (record { base = psn b; bitmap = c })))
    ∷ event.Use (use-of.Sends (sending.Nack (psn a) b))
    ∷ event.Use (use-of.Sends (sending.Timer (psn a)))
    ∷ event.Use (use-of.Sends sending.Resend)
    ∷ [])
    kind (event.Use use-of.Close)

-- the fields of kinds 0 to 8; there is no kind 0
unfoldable pub layouts : List (List Cell)
layouts =
    []
    ∷ (cell.Bits 16 ∷ cell.Psn ∷ cell.Bits 16 ∷ cell.Psn ∷ [])
    ∷ []
    ∷ (cell.Bits 16 ∷ [])
    ∷ (cell.Psn ∷ cell.Bits 16 ∷ cell.Bits 8 ∷ cell.Bits 32 ∷ [])
    ∷ (cell.Psn ∷ cell.Psn ∷ cell.Bits 64 ∷ [])
    ∷ (cell.Psn ∷ cell.Bits 8 ∷ [])
    ∷ (cell.Psn ∷ [])
    ∷ []
    ∷ []

unfoldable pub layout : ℕ → List Cell
layout k = get_or layouts k []

-- "12: unknown kind"
abbrev pub kind_ok : ℕ → Bool
kind_ok k = leb 1 k && ltb k (length layouts)

-- how many bits a field has in a record: "PSNs take 3 bytes"
unfoldable pub width : Cell → ℕ
width cell.Psn = 24
width (cell.Bits n) = n

-- and in an event: "in the width given here, but PSNs have 32 bits"
unfoldable pub event_width : Cell → ℕ
event_width cell.Psn = 32
event_width (cell.Bits n) = n

unfoldable pub widths : ℕ → List ℕ
widths k = map width (layout k)

unfoldable pub event_widths : ℕ → List ℕ
event_widths k = map event_width (layout k)

-- what the types of the code hold an event to: each field fits its width
abbrev pub Wide : Event → Type 0
Wide e = Fits (event_widths (kind_of e)) (fields_of e)
