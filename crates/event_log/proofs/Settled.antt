-- What the contracts of read, body and write allow is settled: answers with one line are one, and bytes are named. Assumes nothing.
use mathlib.Core.Path.{◌≡◌, sym, ◌∙◌}
use mathlib.Core.List.{List}
use Prim.Native.Nat.{ℕ}
use Rattle.rules.specs.Log.{read, body}
use Rattle.rules.specs.declared.Event.{Event}
use Rattle.rules.specs.Paper.{Found, Wrote}
use Rattle.rules.proofs.Apart.{finds_apart, wrotes_apart}
use Rattle.event_log.specs.Parts.{Reads, Writes}

module _ (log : List ℕ) (place : ℕ) where
  pub read_settled : (x y : Found) → Reads log place x → Reads log place y → x ≡ y
  read_settled x y p q = finds_apart x y (p ∙ sym q)

  pub body_settled : (x y : List ℕ) → x ≡ body log place (read log place) → y ≡ body log place (read log place) → x ≡ y
  body_settled x y p q = p ∙ sym q

pub write_settled : (slot : ℕ) (e : Event) (before : List ℕ) (r s : Wrote) (x y : List ℕ) → Writes slot e before r x → Writes slot e before s y
    → (r ≡ s) × (x ≡ y)
write_settled slot e before r s x y p q =
    (wrotes_apart r s (p.answer_is ∙ sym q.answer_is), p.bytes_are ∙ sym q.bytes_are)
