-- What the functions of the log promise one another, and what reading and writing promise.
use Rattle.std.specs.Prelude.{◌≡◌, List, ℕ, length, drop, Some, Result, Ok, Err}
use Rattle.fields.specs.Fields.{decode}
use Rattle.rules.specs.Numbers.{record_head}
use Rattle.rules.specs.Kinds.{widths}
use Rattle.rules.specs.Paper.{Found, found_line, read_line, Wrote, wrote_line, written_line}
use Rattle.rules.specs.Log.{read_left, read, write, written}
use Rattle.rules.specs.declared.Event.{Event}
use Rattle.rules.specs.declared.Record.{Record}
use Rattle.rules.specs.declared.Refusal.{Refusal}
use Rattle.kinds.specs.Padded.{padded, FitsAll}

-- the values of a record's fields, each of which fits
pub record Holds (l : List ℕ) (kind : ℕ) (v : List ℕ) : Type 0 where
  pub values_are : v ≡ padded (decode (widths kind) (drop record_head l))
  pub fit : FitsAll (widths kind) v

-- what stands at a place begins with the bytes l, and reading it may give x
unfoldable pub ReadsFirst : List ℕ → ℕ → Result Record Refusal → Type 0
ReadsFirst l place (Ok r) = found_line (Ok (Some r)) ≡ read_line (read_left l place)
ReadsFirst l place (Err e) = found_line (Err e) ≡ read_line (read_left l place)

-- reading the log at a place may give x: the rules' answer, on paper
abbrev pub Reads : List ℕ → ℕ → Found → Type 0
Reads log place x = found_line x ≡ read_line (read log place)

-- the answer on paper, and every byte after: a refusal leaves each as it was
pub record Writes (slot : ℕ) (e : Event) (before : List ℕ) (r : Wrote) (after : List ℕ) : Type 0 where
  pub answer_is : wrote_line r ≡ written_line (write e (length before))
  pub bytes_are : after ≡ written slot e before (write e (length before))
