-- 01, The event log: the bytes of a record, how a log is read and how a record is written.
use Rattle.std.specs.Prelude.{Bool, false, not, cond, ◌&&◌, ◌||◌, List, [], ◌∷◌, ◌++◌, ℕ, ◌+◌, ◌-◌, leb, ltb, eqb, length, get_or, take, drop}
use Rattle.fields.specs.Fields.{size}
use Rattle.fields.specs.Fields as fields
use Rattle.rules.specs.Numbers.{turn, longest_log, record_head}
use Rattle.rules.specs.Kinds.{kind_of, fields_of, event_of, layout, widths, kind_ok}
use Rattle.rules.specs.declared.Event.{Event}
use Rattle.rules.specs.declared.Cell.{Cell}
use Rattle.rules.specs.declared.Cell.TheVariants as cell
use Rattle.rules.specs.Outcomes.{Reading, Record, Nothing, Writing, NotWritten, Length}

-- the mark, the kind, the slot, and the fields
abbrev pub whole : ℕ → ℕ
whole k = record_head + size (widths k)

-- "Each record begins with the two bytes 4D 52, then kind, then slot (one byte). Fields are big-endian"
unfoldable pub encode : ℕ → Event → List ℕ
encode slot e = 0x4D ∷ 0x52 ∷ kind_of e ∷ slot ∷ fields.encode (widths (kind_of e)) (fields_of e)

-- ---- reading
abbrev pub has_mark : List ℕ → Bool
has_mark l = eqb (get_or l 0 0) 0x4D && eqb (get_or l 1 0) 0x52

-- the bytes l are left at the place: "with 1 or 2 bytes left 10, then 11, 12, 10"
unfoldable pub read_left : List ℕ → ℕ → Reading
read_left l place =
    let kind = get_or l 2 0 in
    cond (ltb (length l) 3) (Nothing 10)
    (cond (not (has_mark l)) (Nothing 11)
    (cond (not (kind_ok kind)) (Nothing 12)
    (cond (ltb (length l) (whole kind)) (Nothing 10)
    (Record (get_or l 3 0) (event_of kind (fields.decode (widths kind) (drop record_head l))) kind (place + whole kind)))))

-- "Log reading: 13, then ..". "With none left, or a place past the end, the log is at its end, no refusal"
unfoldable pub read : List ℕ → ℕ → Reading
read log place =
    cond (ltb longest_log (length log)) (Nothing 13) (cond (leb (length log) place) (Nothing 0) (read_left (drop place log) place))

-- "a record's body, from the slot byte on, as that part of the lent log itself; on refusal or at the end, an empty part"
unfoldable pub body : List ℕ → ℕ → Reading → List ℕ
body log place (Record slot e kind next) = take (next - (place + 3)) (drop (place + 3) log)
body log place (Nothing n) = []

-- ---- writing
-- "5: a PSN above 16,777,215", a field and among fields of these cells
unfoldable pub high_cell : Cell → ℕ → Bool
high_cell cell.Psn v = leb turn v
high_cell (cell.Bits n) v = false

unfoldable pub high_psn : List Cell → List ℕ → Bool
high_psn [] vs = false
high_psn (c ∷ cs) [] = false
high_psn (c ∷ cs) (v ∷ vs) = high_cell c v || high_psn cs vs

-- "Log writing: 5, then 16; .. the length is the answer", for a buffer of n bytes
unfoldable pub write : Event → ℕ → Writing
write e n =
    cond (high_psn (layout (kind_of e)) (fields_of e)) (NotWritten 5)
    (cond (ltb n (whole (kind_of e))) (NotWritten 16) (Length (whole (kind_of e))))

-- the buffer after: "from the buffer's first byte; .. later bytes stay"
unfoldable pub written : ℕ → Event → List ℕ → Writing → List ℕ
written slot e buffer (NotWritten n) = buffer
written slot e buffer (Length n) = encode slot e ++ drop n buffer
