-- What the loop of `bytes` has added up and what is left of the word weigh together what the word does.
use mathlib.Core.Path.{◌≡◌}
use Prim.Native.Nat.{◌+◌, ◌<◌, ◌^◌}
use Rattle.lists.specs.Index.{weigh, tally}
use Rattle.word.specs.Word.{bit_at}
use Rattle.retire.specs.Rows.{size_by}
use Rattle.retire.proofs.bytes.Given as goal

abbrev pub invariant-loop-left : goal.invariant-loop-left
invariant-loop-left l =
    (l.left < 2 ^ 64) × (l.sum + weigh 64 (bit_at l.left) (size_by l.sizes l.start) ≡ weigh 64 (bit_at l.word) (size_by l.sizes l.start))

abbrev pub decreases-loop-left : goal.decreases-loop-left
decreases-loop-left l = tally 64 (bit_at l.left)
