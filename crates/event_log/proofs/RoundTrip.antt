-- Both round trips for the code, from what the contracts of read and write allow and those of the rules. Assumes nothing.
use mathlib.Core.Path.{◌≡◌, sym, ap, ◌∙◌}
use mathlib.Core.List.{List, ◌++◌}
use Prim.Native.Nat.{ℕ, ◌+◌, ◌-◌, ◌≤◌}
use native.Mathlib.Omega.{arith}
use lib.ListN.{length, take, drop, length-drop}
use Rattle.std.specs.Prelude.{Some, Ok}
use lib.Seq.{length-take-le, drop_at, drop-drop, take-add}
use Rattle.rules.specs.Numbers.{longest_log}
use Rattle.fields.specs.Fields.{Bytes}
use Rattle.rules.specs.Kinds.{kind_of, Wide}
use Rattle.rules.specs.Log.{encode, read, body, write, written}
use Rattle.rules.specs.declared.Event.{Event}
use Rattle.rules.specs.declared.Kind.{Kind}
use Rattle.rules.specs.Numbered.{kind_number, kind_of_number}
use Rattle.rules.specs.Outcomes.{Record, Length}
use Rattle.rules.specs.Paper.{Found, Wrote, found, wrote, found_line, wrote_line}
use Rattle.rules.proofs.RoundTrip.{write_read, read_kind, read_encode, read_write}
use Rattle.rules.proofs.Apart.{reads_apart, writes_apart, found_is_rule, wrote_is_rule}
use Rattle.event_log.specs.Parts.{Reads, Writes}

-- "A log record written is read back as the same event"
pub written_read : (slot : ℕ) (e : Event) (before after : List ℕ) (r : Wrote) (n : ℕ) (x : Found) → Writes slot e before r after → r ≡ Ok n
    → Wide e → length before ≤ longest_log → Reads after 0 x
    → x ≡ Ok (Some (record { slot = slot; event = e; kind = kind_of_number (kind_of e); next = n }))
unfolding found wrote_line
written_read slot e before after r n x p r-is f l h =
    let w : write e (length before) ≡ Length n = sym (writes_apart (Length n) (write e (length before)) (sym (ap wrote_line r-is) ∙ p.answer_is)) in
    let b : after ≡ written slot e before (Length n) = p.bytes_are ∙ ap (written slot e before) w in
    found_is_rule (read after 0) x h ∙ ap found (ap (λ (y : List ℕ). read y 0) b ∙ write_read slot e before n f l w)

module _ (log : List ℕ) (place slot : ℕ) (e : Event) (kind : Kind) (next : ℕ) (b : Bytes log) where
  -- "read then written gives the same bytes"
  pub read_written : (x : Found) (before after : List ℕ) (r : Wrote) → Reads log place x
      → x ≡ Ok (Some (record { slot = slot; event = e; kind = kind; next = next })) → Writes slot e before r after → next - place ≤ length before
      → (r ≡ Ok (next - place)) × (after ≡ take (next - place) (drop place log) ++ drop (next - place) before)
  unfolding found_line wrote
  read_written x before after r h x-is p l =
      let is : read log place ≡ Record slot e (kind_number kind) next =
      sym (reads_apart (Record slot e (kind_number kind) next) (read log place) (sym (ap found_line x-is) ∙ h)) in
      let w = read_write log place slot e (kind_number kind) next before b is l in
      (wrote_is_rule (write e (length before)) r p.answer_is ∙ ap wrote w.0, p.bytes_are ∙ w.1)

module _ (log : List ℕ) (place slot : ℕ) (e : Event) (kind next : ℕ) (b : Bytes log) where
  -- the body is the record's, from the slot byte on
  pub read_body : read log place ≡ Record slot e kind next → body log place (read log place) ≡ drop 3 (encode slot e)
  unfolding body
  read_body h =
      let k = read_kind log place slot e kind next h in
      let t = drop place log in
      let m = next - (place + 3) in
      let n : next - place ≡ 3 + m = omega (arith, k.1) in
      let three : length (take 3 t) ≡ 3 = length-take-le 3 t (omega (arith, k.1, k.2, length-drop place log)) in
      rw (h, read_encode log place slot e kind next b h, n, take-add, drop_at (take 3 t) (take m (drop 3 t)) 3 three, drop-drop)
