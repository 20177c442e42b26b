-- `event_log::body` meets its contract: what was read is what the log holds, and a record lies within the log. Assumes nothing.
use mathlib.Core.Path.{◌≡◌, refl, sym, ap}
use mathlib.Core.List.{List, []}
use Prim.Native.Nat.{ℕ, ◌+◌, ◌≤◌}
use native.Mathlib.Omega.{arith}
use lib.ListN.{length}
use Rattle.std.specs.Prelude.{Some, None, Ok, Err}
use Rattle.rules.specs.Log.{read as read_of, body as body_of}
use Rattle.rules.specs.Numbered.{number, kind_number}
use Rattle.rules.specs.Outcomes.{Record as AtPlace, Nothing}
use Rattle.rules.specs.Paper.{Found, found_line}
use Rattle.rules.specs.declared.Record.{Record}
use Rattle.rules.proofs.Apart.{reads_apart}
use Rattle.rules.proofs.RoundTrip.{read_kind}
use Rattle.event_log.specs.Parts.{Reads}
use Rattle.event_log.proofs.body.Goals as goal
use Rattle.event_log.proofs.body.Goals.{In-Ok-Some, in_default-via-in-Ok+in_default, in_default-via-in_default}

-- the record that was read is the log's
found : (c : In-Ok-Some) → let r = c.in-Ok-Some.found in read_of c.args.log.now c.args.place ≡ AtPlace r.slot r.event (kind_number r.kind) r.next
unfolding found_line
found c = sym (reads_apart _ _ (rw c.in-Ok-Some.field-0-is at c.in-Ok-Some.ensures))

within : (c : In-Ok-Some) → (c.args.place + 4 ≤ c.in-Ok-Some.found.next) × (c.in-Ok-Some.found.next ≤ length c.args.log.now)
within c =
    let r = c.in-Ok-Some.found in
    let k = read_kind c.args.log.now c.args.place r.slot r.event (kind_number r.kind) r.next (found c) in
    (omega (arith, k.1), k.2)

pub overflow_add-result : goal.overflow_add-result
overflow_add-result c = omega (arith, within (goal.at.overflow_add-result c).In-Ok-Some)

pub slice_bounds-result-count : goal.slice_bounds-result-count
slice_bounds-result-count c = omega (arith, within (goal.at.slice_bounds-result-count c).In-Ok-Some)

pub slice_bounds-result-start : goal.slice_bounds-result-start
slice_bounds-result-start c = omega (arith, within (goal.at.slice_bounds-result-start c).In-Ok-Some)

pub slice_bounds-result-end : goal.slice_bounds-result-end
slice_bounds-result-end c = omega (arith, within (goal.at.slice_bounds-result-end c).In-Ok-Some)

pub returns-in-Ok-Some : goal.returns-in-Ok-Some
unfolding body_of
returns-in-Ok-Some c = sym (ap (body_of c.args.log.now c.args.place) (found (goal.at.returns-in-Ok-Some c).In-Ok-Some))

-- where there is none, its body is empty
none : (log : List ℕ) (place : ℕ) (x : Found) → Reads log place x → ((r : Record) → x ≡ Ok (Some r) → ⊥)
    → [] ≡ body_of log place (read_of log place)
unfolding found_line body_of
none log place (Ok (Some r)) h other = absurd (other r refl)
none log place (Ok None) h other = ap (body_of log place) (reads_apart (Nothing 0) (read_of log place) h)
none log place (Err e) h other = ap (body_of log place) (reads_apart (Nothing (number e)) (read_of log place) h)

pub returns-in_default : goal.returns-in_default
returns-in_default c =
    none _ _ _ c.read.ensures
    (λ r e. elim c.in_default.branch [ in_default-via-in-Ok+in_default w ↦ grind arith | in_default-via-in_default w ↦ grind arith ])
