-- Both round trips of the log, for every event, slot, buffer and log, from what a record read or written tells of its bytes. Assumes nothing.
use mathlib.Core.Path.{◌≡◌, refl, sym, ap, ◌∙◌}
use mathlib.Core.List.{List, [], ◌++◌}
use Prim.Native.Nat.{ℕ, ◌+◌, ◌-◌, ◌≤◌}
use native.Mathlib.Omega.{arith}
use lib.ListN.{length, take, drop, length-append, length-drop}
use lib.Seq.{drop-append_seam}
use Rattle.rules.specs.Numbers.{longest_log}
use Rattle.fields.specs.Fields.{Bytes}
use Rattle.fields.proofs.Spelling.{bytes_drop}
use Rattle.rules.specs.Kinds.{kind_of, Wide}
use Rattle.rules.specs.Log.{whole, encode, read, write, written}
use Rattle.rules.specs.declared.Event.{Event}
use Rattle.rules.specs.Outcomes.{Record, Length}
use Rattle.rules.proofs.Records.{length_encode, encode_begins, begins_kind, begins_wide, begins_low, begins_encode}
use Rattle.rules.proofs.Reading.{read_holds, holds_read}
use Rattle.rules.proofs.Writing.{write_writable, writable_write}

-- "A log record written is read back as the same event": wherever it stands in a log
pub encode_read : (slot : ℕ) (e : Event) (before after : List ℕ) (n : ℕ) → Wide e
    → write e n ≡ Length (whole (kind_of e)) → length (before ++ (encode slot e ++ after)) ≤ longest_log
    → read (before ++ (encode slot e ++ after)) (length before) ≡ Record slot e (kind_of e) (length before + whole (kind_of e))
encode_read slot e before after n f w l =
    let low = (write_writable e n (whole (kind_of e)) w).0.low in
    holds_read (before ++ (encode slot e ++ after)) (length before) slot e (kind_of e) (length before + whole (kind_of e))
    (record { short = l; begins = rw drop-append_seam (encode_begins slot e after f low); next_is = refl })

-- and in the buffer that it was written to
pub write_read : (slot : ℕ) (e : Event) (buffer : List ℕ) (n : ℕ) → Wide e
    → length buffer ≤ longest_log → write e (length buffer) ≡ Length n
    → read (written slot e buffer (Length n)) 0 ≡ Record slot e (kind_of e) n
unfolding written
write_read slot e buffer n f l w =
    let a = write_writable e (length buffer) n w in
    let m : n ≡ whole (kind_of e) = a.1 in
    let long : length (encode slot e ++ drop n buffer) ≤ longest_log =
    omega (arith, a.0.room, length-append (encode slot e) (drop n buffer), length_encode slot e, length-drop n buffer) in
    encode_read slot e [] (drop n buffer) (length buffer) f (w ∙ ap Length m) long ∙ ap (Record slot e (kind_of e)) (omega arith)

-- what is read has the kind that it says, and fits
pub read_kind : (log : List ℕ) (place slot : ℕ) (e : Event) (kind next : ℕ) → read log place ≡ Record slot e kind next
    → (kind ≡ kind_of e) × (next ≡ place + whole kind) × (next ≤ length log)
read_kind log place slot e kind next h =
    let r = read_holds log place slot e kind next h in
    let b = r.begins in
    (sym (begins_kind (drop place log) slot e kind b), r.next_is, omega (arith, r.next_is, b.room, length-drop place log))

pub read_wide : (log : List ℕ) (place slot : ℕ) (e : Event) (kind next : ℕ) → read log place ≡ Record slot e kind next → Wide e
read_wide log place slot e kind next h = begins_wide (drop place log) slot e kind (read_holds log place slot e kind next h).begins

-- "read then written gives the same bytes": no PSN that was read is refused, and the bytes are those of the log
pub read_encode : (log : List ℕ) (place slot : ℕ) (e : Event) (kind next : ℕ) → Bytes log → read log place ≡ Record slot e kind next
    → encode slot e ≡ take (next - place) (drop place log)
read_encode log place slot e kind next b h =
    let r = read_holds log place slot e kind next h in
    let n : next - place ≡ whole kind = omega (arith, r.next_is) in
    rw n (begins_encode (drop place log) slot e kind r.begins (bytes_drop place log b))

pub read_write : (log : List ℕ) (place slot : ℕ) (e : Event) (kind next : ℕ) (buffer : List ℕ) → Bytes log
    → read log place ≡ Record slot e kind next → next - place ≤ length buffer
    → (write e (length buffer) ≡ Length (next - place))
    × (written slot e buffer (write e (length buffer)) ≡ take (next - place) (drop place log) ++ drop (next - place) buffer)
unfolding written
read_write log place slot e kind next buffer b h l =
    let r = read_holds log place slot e kind next h in
    let n : whole (kind_of e) ≡ next - place = ap whole (begins_kind (drop place log) slot e kind r.begins) ∙ omega (arith, r.next_is) in
    let low = begins_low (drop place log) slot e kind r.begins in
    let w : write e (length buffer) ≡ Length (next - place) =
    writable_write e (length buffer) (record { low = low; room = omega arith }) ∙ ap Length n in
    (w, rw w (ap (λ (x : List ℕ). x ++ drop (next - place) buffer) (read_encode log place slot e kind next b h)))
