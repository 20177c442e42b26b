-- What each public function's contract allows is settled: a test's outcome, and the rows, the counts and the way that the place moves.
-- Assumes nothing.
use mathlib.Core.Path.{◌≡◌, refl, sym, subst, ◌∙◌}
use mathlib.Core.Bool.{Bool, not}
use mathlib.Core.List.{List}
use Prim.Native.Nat.{ℕ, ◌+◌, ◌%◌, ◌^◌, ◌<◌}
use Rattle.psn.specs.Psn.{turn}
use Rattle.lists.specs.Index.{table}
use Rattle.lists.proofs.Index.{first_one, length_table}
use Rattle.word.specs.Word.{Bits}
use Rattle.word.proofs.Bits.{bits_one}
use Rattle.row.specs.Row.{Becomes}
use Rattle.row.proofs.Settled.{Words, becomes_settled}
use Rattle.rules.specs.Sender.{Sender, new, unsent}
use Rattle.rules.specs.Retire.{names_unsent}
use Rattle.rules.specs.declared.Block.{Block}
use Rattle.retire.specs.declared.Sum.{Sum}
use Rattle.retire.specs.declared.Moved.{Moved}
use Rattle.retire.specs.Rows.{ahead, Retires}
use Rattle.retire.specs.Front.{offset, retired_then, marked_then, front, Stands, Moves}

-- ---- what lies ahead, and what is unsent
pub bits_ahead_settled : (o n v w : ℕ) → v < 2 ^ 64 → w < 2 ^ 64 → Bits v (λ j. ahead n ((o + j) % turn)) → Bits w (λ j. ahead n ((o + j) % turn)) → v ≡ w
bits_ahead_settled o n v w small small' = bits_one v w (λ j. ahead n ((o + j) % turn)) small small'

module _ (place n : ℕ) where
  -- there is a record at any place, with any number outstanding
  abbrev some : Sender
  some = record { room = 0; place = place; entries = table n (λ i. new 0) }

  stands : Stands some place n
  stands = record { place_is = refl; outstanding_is = length_table n (λ i. new 0) }

  pub unsent_settled : (p : ℕ) (a b : Bool) → ((x : Sender) → Stands x place n → a ≡ unsent x p)
      → ((x : Sender) → Stands x place n → b ≡ unsent x p) → a ≡ b
  unsent_settled p a b f g = f some stands ∙ sym (g some stands)

  pub names_unsent_settled : (cack : ℕ) (block : Block) (a b : Bool) → ((x : Sender) → Stands x place n → a ≡ names_unsent x cack block)
      → ((x : Sender) → Stands x place n → b ≡ names_unsent x cack block) → a ≡ b
  names_unsent_settled cack block a b f g = f some stands ∙ sym (g some stands)

-- ---- the rows
pub retire_settled : (retired marked sizes : List ℕ) (first : ℕ) (f : ℕ → Bool) (us vs xs ys : List ℕ) (r s : Sum)
    → Words us → Words vs → Words xs → Words ys → Retires retired marked sizes first f us vs r → Retires retired marked sizes first f xs ys s
    → (us ≡ xs) × (vs ≡ ys) × (r ≡ s)
retire_settled retired marked sizes first f us vs xs ys r s small-us small-vs small-xs small-ys p q = (
  becomes_settled retired us xs _ small-us small-xs p.retired_are q.retired_are,
  becomes_settled marked vs ys _ small-vs small-ys p.marked_are q.marked_are,
  λ i. record { newly = (p.counted ∙ sym q.counted) i; alarms = (p.alarmed ∙ sym q.alarmed) i; bytes = (p.weighed ∙ sym q.weighed) i },
)

pub acknowledge_settled : (retired marked sizes : List ℕ) (place n : ℕ) (f : ℕ → Bool) (us vs xs ys : List ℕ) (r s : Moved)
    → Words us → Words vs → Words xs → Words ys → Moves retired marked sizes place n f us vs r → Moves retired marked sizes place n f xs ys s
    → (us ≡ xs) × (vs ≡ ys) × (r ≡ s)
acknowledge_settled retired marked sizes place n f us vs xs ys r s small-us small-vs small-xs small-ys p q =
    let far : r.by ≡ s.by = first_one (λ i. not (retired_then retired f (offset place + i))) n r.by s.by p.moved q.moved in
    let us_are = subst (λ (m : ℕ). Becomes retired us (λ k. retired_then retired f (front place m + k))) far p.retired_are in
    let vs_are = subst (λ (m : ℕ). Becomes marked vs (λ k. marked_then marked f (front place m + k))) far p.marked_are in (
      becomes_settled retired us xs _ small-us small-xs us_are q.retired_are,
      becomes_settled marked vs ys _ small-vs small-ys vs_are q.marked_are,
      λ i. record {
        sum = record { newly = (p.counted ∙ sym q.counted) i; alarms = (p.alarmed ∙ sym q.alarmed) i; bytes = (p.weighed ∙ sym q.weighed) i };
        by = far i;
      },
    )
