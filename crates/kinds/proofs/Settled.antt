-- What each contract allows is settled: two results are one. Assumes nothing.
use mathlib.Core.Path.{◌≡◌, sym, ap, ◌∙◌}
use mathlib.Core.Bool.{Bool}
use mathlib.Core.List.{List}
use Prim.Native.Nat.{ℕ}
use Rattle.rules.specs.Kinds.{kind_of, fields_of, event_of, layout, widths}
use Rattle.rules.specs.Log.{high_psn}
use Rattle.rules.specs.Numbered.{kind_number, kind_of_number}
use Rattle.rules.specs.declared.Event.{Event}
use Rattle.rules.specs.declared.Kind.{Kind}
use Rattle.rules.proofs.Apart.{kind_back}
use Rattle.kinds.specs.Padded.{padded}

module _ (k : ℕ) where
  pub widths_settled : (x y : List ℕ) → x ≡ padded (widths k) → y ≡ padded (widths k) → x ≡ y
  widths_settled x y p q = p ∙ sym q

  pub event_settled : (v : List ℕ) (x y : Event) → x ≡ event_of k v → y ≡ event_of k v → x ≡ y
  event_settled v x y p q = p ∙ sym q

module _ (e : Event) where
  pub kind_settled : (x y : Kind) → kind_number x ≡ kind_of e → kind_number y ≡ kind_of e → x ≡ y
  kind_settled x y p q = sym (kind_back x) ∙ ap kind_of_number (p ∙ sym q) ∙ kind_back y

  pub values_settled : (x y : List ℕ) → x ≡ padded (fields_of e) → y ≡ padded (fields_of e) → x ≡ y
  values_settled x y p q = p ∙ sym q

  pub high_settled : (x y : Bool) → x ≡ high_psn (layout (kind_of e)) (fields_of e) → y ≡ high_psn (layout (kind_of e)) (fields_of e) → x ≡ y
  high_settled x y p q = p ∙ sym q
