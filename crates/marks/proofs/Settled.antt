-- What each contract allows is settled: of `mark` and `mark_psn` the row and the count, of `nearest` what it finds, of `take` both. Assumes nothing.
use mathlib.Core.Path.{◌≡◌, refl, sym, ap, subst, ◌∙◌}
use mathlib.Core.List.{List}
use Prim.Native.Nat.{ℕ, ◌+◌}
use native.Mathlib.Omega.{arith}
use Rattle.lists.proofs.Index.{first_one}
use Rattle.std.specs.Prelude.{Option, Some, None}
use Rattle.psn.specs.declared.Psn.{Psn}
use Rattle.psn.specs.Psn.{after}
use Rattle.row.specs.Row.{Becomes}
use Rattle.row.proofs.Settled.{Words, becomes_settled}
use Rattle.rules.specs.Numbers.{psn}
use Rattle.marks.specs.Marks.{marked_at, MarksBit, Marks, Finds, left_after, Takes}

pub mark_settled : (retired marked : List ℕ) (p : ℕ) (vs ws : List ℕ) (r s : ℕ)
    → Words vs → Words ws → MarksBit retired marked p vs r → MarksBit retired marked p ws s → (vs ≡ ws) × (r ≡ s)
mark_settled retired marked p vs ws r s small small' a b =
    (becomes_settled marked vs ws _ small small' a.marked_are b.marked_are, a.newly_is ∙ sym b.newly_is)

pub mark_psn_settled : (retired marked : List ℕ) (place n p : ℕ) (vs ws : List ℕ) (r s : ℕ)
    → Words vs → Words ws → Marks retired marked place n p vs r → Marks retired marked place n p ws s → (vs ≡ ws) × (r ≡ s)
mark_psn_settled retired marked place n p vs ws r s small small' a b =
    (becomes_settled marked vs ws _ small small' a.marked_are b.marked_are, a.newly_is ∙ sym b.newly_is)

pub nearest_settled : (ws : List ℕ) (place n : ℕ) (r s : Option Psn) → Finds ws place n r → Finds ws place n s → r ≡ s
unfolding Finds
nearest_settled ws place n (Some p) (Some q) (i, l, a, e) (j, m, b, f) =
    ap Some (e ∙ ap (λ (k : ℕ). psn (after place (1 + k))) (first_one (marked_at ws place) n i j a b) ∙ sym f)
nearest_settled ws place n (Some p) None (i, l, a, e) b = absurd (omega (arith, first_one (marked_at ws place) n i n a b))
nearest_settled ws place n None (Some q) a (j, m, b, f) = absurd (omega (arith, first_one (marked_at ws place) n j n b a))
nearest_settled ws place n None None a b = refl

pub take_settled : (ws : List ℕ) (place n : ℕ) (us vs : List ℕ) (r s : Option Psn) → Words us → Words vs → Takes ws place n us r → Takes ws place n vs s
    → (us ≡ vs) × (r ≡ s)
take_settled ws place n us vs r s small small' a b =
    let same = nearest_settled ws place n r s a.finds b.finds in
    let as_s = subst (λ (f : Option Psn). Becomes ws us (left_after ws place f)) same a.marked_are in
    (becomes_settled ws us vs (left_after ws place s) small small' as_s b.marked_are, same)
