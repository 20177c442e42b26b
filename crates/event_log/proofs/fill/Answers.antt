-- `event_log::fill` meets its contract: the head, and behind it the fields. Assumes nothing.
use borrow.Rule.Slice.PartMut.{put_mid}
use mathlib.Core.Path.{◌≡◌, ap, ap₂, ◌∙◌}
use mathlib.Core.List.{List, [], ◌∷◌, ◌++◌}
use Prim.Native.Nat.{ℕ, ◌-◌, ◌≤◌}
use native.Mathlib.Omega.{arith}
use lib.ListN.{length, take, drop, set, length-drop}
use lib.Seq.{drop-drop}
use Rattle.fields.specs.Fields.{size, Laid}
use Rattle.fields.specs.Fields as fields
use Rattle.rules.specs.Numbers.{record_head}
use Rattle.rules.specs.Kinds.{kind_of, fields_of, widths as widths_of}
use Rattle.rules.specs.Log.{whole, encode}
use Rattle.rules.specs.declared.Event.{Event}
use Rattle.kinds.specs.Padded.{padded}
use Rattle.kinds.proofs.Padded.{length_padded}
use Rattle.event_log.proofs.Rests.{rest, put_rest, headed}
use Rattle.event_log.proofs.ArrayFields.{size_padded, laid, encode_array}
use Rattle.event_log.proofs.fill.Goals as goal
use Rattle.event_log.proofs.fill.Goals.{After-copy_from_slice}

-- the buffer with the head
abbrev stored : List ℕ → List ℕ → ℕ → ℕ → List ℕ
stored b m k slot = set (set (m ++ drop 2 b) 2 k) 3 slot

-- and what is lent of it, behind the head
abbrev lent : List ℕ → List ℕ → ℕ → ℕ → List ℕ
lent b m k slot = let h = stored b m k slot in take (length h - record_head) (drop record_head h)

-- what the code has of the event, and a buffer with room
record Has (b m : List ℕ) (e : Event) (k : ℕ) (ws v : List ℕ) : Type 0 where
  mark_is : m ≡ 0x4D ∷ 0x52 ∷ []
  kind_is : k ≡ kind_of e
  widths_are : ws ≡ padded (widths_of k)
  values_are : v ≡ padded (fields_of e)
  room : whole (kind_of e) ≤ length b

module _ (b m : List ℕ) (slot : ℕ) (e : Event) (k : ℕ) (ws v : List ℕ) (h : Has b m e k ws v) where
  stored_is : stored b m k slot ≡ 0x4D ∷ 0x52 ∷ kind_of e ∷ slot ∷ drop record_head b
  stored_is =
      ap (λ (x : List ℕ). set (set (x ++ drop 2 b) 2 k) 3 slot) h.mark_is ∙ headed 0x4D 0x52 k slot b (omega (arith, h.room)) ∙ ap (λ (n : ℕ). 0x4D ∷ 0x52 ∷ n ∷ slot ∷ drop record_head b) h.kind_is

  lent_is : lent b m k slot ≡ drop record_head b
  lent_is = rest (stored b m k slot) record_head ∙ ap (drop record_head) stored_is

  fields_laid : Laid ws (length (lent b m k slot)) (length v)
  fields_laid =
      let long : size (widths_of k) ≤ length (lent b m k slot) = rw (lent_is, h.kind_is) (omega (arith, length-drop record_head b, h.room)) in
      laid k ws _ _ h.widths_are long (ap length h.values_are ∙ length_padded (fields_of e))

  module _ (n : List ℕ) (w : n ≡ fields.encode ws v ++ drop (size ws) (lent b m k slot)) where
    -- the fields, and the later bytes
    fields_are : n ≡ fields.encode (widths_of (kind_of e)) (fields_of e) ++ drop (whole (kind_of e)) b
    fields_are =
        let kind = kind_of e in
        let ws_are : ws ≡ padded (widths_of kind) = h.widths_are ∙ ap (λ (x : ℕ). padded (widths_of x)) h.kind_is in
        let f : fields.encode ws v ≡ fields.encode (widths_of kind) (fields_of e) = ap₂ fields.encode ws_are h.values_are ∙ encode_array e in
        let later : drop (size ws) (lent b m k slot) ≡ drop (whole kind) b =
        ap₂ drop (ap size ws_are ∙ size_padded kind) lent_is ∙ drop-drop (size (widths_of kind)) record_head b in
        w ∙ ap₂ (λ (x y : List ℕ). x ++ y) f later

    filled : put_mid record_head (length (stored b m k slot) - record_head) (stored b m k slot) n ≡ encode slot e ++ drop (whole (kind_of e)) b
    unfolding encode
    filled =
        put_rest (stored b m k slot) n record_head (omega (arith, ap length stored_is))
        ∙ ap₂ (λ (x y : List ℕ). take record_head x ++ y) stored_is fields_are

has : (c : After-copy_from_slice) → Has c.args.buffer.now c.copy_from_slice.new.self c.args.event c.number-kind.result c.widths-widths.result c.values-v.result
has c = record {
  mark_is = c.copy_from_slice.ensures.after;
  kind_is = c.number-kind.ensures ∙ c.kind.ensures;
  widths_are = c.widths-widths.ensures;
  values_are = c.values-v.ensures;
  room = c.requires;
}

pub write-requires : goal.write-requires
write-requires c = fields_laid _ _ c.args.slot _ _ _ _ (has (goal.at.write-requires c).After-copy_from_slice)

pub returns : goal.returns
returns c = filled _ _ c.args.slot _ _ _ _ (has (goal.at.returns c).After-copy_from_slice) _ c.write.ensures
