-- A record is read exactly where a log not too long holds one, by the tests one after the other. Assumes nothing.
use mathlib.Core.Path.{◌≡◌, refl, ap, ◌∙◌}
use mathlib.Core.Bool.{true, not}
use mathlib.Core.List.{List, [], ◌∷◌}
use Prim.Native.Nat.{ℕ, ◌+◌, ◌-◌, ◌≤◌}
use native.Mathlib.Omega.{arith}
use borrow.Author.Tests.{ltb-false, eqb-true, not-false, le-ltb, lt-leb}
use lib.Dec.{leb, ltb, eqb}
use lib.ListN.{length, get_or, drop, length-drop}
use Rattle.rules.specs.Numbers.{longest_log}
use Rattle.fields.specs.Fields as fields
use Rattle.rules.specs.Kinds.{widths, kind_ok, event_of}
use Rattle.rules.specs.Log.{whole, has_mark, read_left, read}
use Rattle.rules.specs.declared.Event.{Event}
use Rattle.rules.specs.Outcomes.{Record, Nothing}
use Rattle.lists.proofs.Joined.{and_true_each, passed}
use Rattle.rules.proofs.Records.{Begins}

-- the log has the record of an event at the place
pub record Holds (log : List ℕ) (place slot : ℕ) (e : Event) (kind next : ℕ) : Type 0 where
  pub short : length log ≤ longest_log
  pub begins : Begins (drop place log) slot e kind
  pub next_is : next ≡ place + whole kind

no_record : (n slot : ℕ) (e : Event) (kind next : ℕ) → Nothing n ≡ Record slot e kind next → ⊥
no_record n slot e kind next h = let z : ◌≡◌ {A = ℕ} 0 1 = cc in omega arith

four : (l : List ℕ) → 4 ≤ length l → l ≡ get_or l 0 0 ∷ get_or l 1 0 ∷ get_or l 2 0 ∷ get_or l 3 0 ∷ drop 4 l
four [] h = absurd (omega arith)
four (a ∷ []) h = absurd (omega arith)
four (a ∷ b ∷ []) h = absurd (omega arith)
four (a ∷ b ∷ c ∷ []) h = absurd (omega arith)
four (a ∷ b ∷ c ∷ d ∷ l) h = refl

left_begins : (l : List ℕ) (place slot : ℕ) (e : Event) (kind next : ℕ) → read_left l place ≡ Record slot e kind next
    → Begins l slot e kind × (next ≡ place + whole kind)
unfolding read_left
left_begins l place slot e kind next h =
    let k = get_or l 2 0 in
    let a = passed (ltb (length l) 3) (no_record 10 slot e kind next) h in
    let b = passed (not (has_mark l)) (no_record 11 slot e kind next) a.1 in
    let c = passed (not (kind_ok k)) (no_record 12 slot e kind next) b.1 in
    let d = passed (ltb (length l) (whole k)) (no_record 10 slot e kind next) c.1 in
    let room : whole k ≤ length l = ltb-false (length l) (whole k) d.0 in
    let mark = and_true_each (eqb (get_or l 0 0) 0x4D) (eqb (get_or l 1 0) 0x52) (not-false (has_mark l) b.0) in
    let first : get_or l 0 0 ≡ 0x4D = eqb-true (get_or l 0 0) 0x4D mark.0 in
    let second : get_or l 1 0 ≡ 0x52 = eqb-true (get_or l 1 0) 0x52 mark.1 in
    let known : kind_ok k ≡ true = not-false (kind_ok k) c.0 in
    let same : Record (get_or l 3 0) (event_of k (fields.decode (widths k) (drop 4 l))) k (place + whole k) ≡ Record slot e kind next = d.1 in
    let kind_is : k ≡ kind = cc in (
      record {
        head = cc (four l (omega arith));
        known = rw kind_is at known;
        room = rw kind_is at room;
        event_is = cc;
      },
      cc,
    )

pub read_holds : (log : List ℕ) (place slot : ℕ) (e : Event) (kind next : ℕ) → read log place ≡ Record slot e kind next → Holds log place slot e kind next
unfolding read
read_holds log place slot e kind next h =
    let a = passed (ltb longest_log (length log)) (no_record 13 slot e kind next) h in
    let b = passed (leb (length log) place) (no_record 0 slot e kind next) a.1 in
    let c = left_begins (drop place log) place slot e kind next b.1 in
    record { short = ltb-false longest_log (length log) a.0; begins = c.0; next_is = c.1 }

cons_left : (t : List ℕ) (place slot kind : ℕ) → kind_ok kind ≡ true → whole kind ≤ 4 + length t
    → read_left (0x4D ∷ 0x52 ∷ kind ∷ slot ∷ t) place ≡ Record slot (event_of kind (fields.decode (widths kind) t)) kind (place + whole kind)
unfolding read_left
cons_left t place slot kind known room =
    let n = length (0x4D ∷ 0x52 ∷ kind ∷ slot ∷ t) in
    simp (le-ltb n 3 (omega arith), known, le-ltb n (whole kind) (omega arith))

pub holds_read : (log : List ℕ) (place slot : ℕ) (e : Event) (kind next : ℕ) → Holds log place slot e kind next → read log place ≡ Record slot e kind next
unfolding read
holds_read log place slot e kind next h =
    let l = drop place log in
    let b = h.begins in
    let n : length l ≡ length log - place = length-drop place log in
    let room : whole kind ≤ 4 + length (drop 4 l) = omega (arith, b.room, length-drop 4 l) in
    simp (le-ltb longest_log (length log) h.short, lt-leb (length log) place (omega (arith, b.room)))
    (ap (λ (x : List ℕ). read_left x place) b.head ∙ cons_left (drop 4 l) place slot kind b.known room ∙ cc)
