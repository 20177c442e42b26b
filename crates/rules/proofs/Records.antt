-- An event's bytes begin with its record, and bytes that begin with one are its event's, by kind and fields. Assumes nothing.
use mathlib.Core.Path.{◌≡◌, refl, sym, ap, ◌∙◌}
use mathlib.Core.Bool.{true, false}
use mathlib.Core.List.{List, [], ◌∷◌, ◌++◌}
use Prim.Native.Nat.{ℕ, ◌≤◌}
use native.Mathlib.Omega.{arith}
use lib.ListN.{length, take, drop, length-append, length-drop, length-map}
use lib.Seq.{take-append-add}
use Rattle.fields.specs.Fields.{Bytes, size}
use Rattle.fields.specs.Fields as fields
use Rattle.fields.proofs.Spelling.{bytes_drop}
use Rattle.fields.proofs.RoundTrip as round_trip
use Rattle.rules.specs.Kinds.{kind_of, fields_of, event_of, layout, width, widths, event_widths, Wide, kind_ok}
use Rattle.rules.specs.Log.{whole, encode, high_psn}
use Rattle.rules.specs.declared.Event.{Event}
use Rattle.rules.proofs.EventKinds.{known_kind, event_again, kind_again, fields_again}
use Rattle.rules.proofs.Cells.{low_fits, fits_event, fits_low, laid}

-- the bytes l begin with the record of an event
pub record Begins (l : List ℕ) (slot : ℕ) (e : Event) (kind : ℕ) : Type 0 where
  pub head : l ≡ 0x4D ∷ 0x52 ∷ kind ∷ slot ∷ drop 4 l
  pub known : kind_ok kind ≡ true
  pub room : whole kind ≤ length l
  pub event_is : e ≡ event_of kind (fields.decode (widths kind) (drop 4 l))

-- ---- from an event to its bytes

pub length_encode : (slot : ℕ) (e : Event) → length (encode slot e) ≡ whole (kind_of e)
unfolding encode
length_encode slot e = simp round_trip.length_encode (omega arith)

abbrev pub Low : Event → Type 0
Low e = high_psn (layout (kind_of e)) (fields_of e) ≡ false

pub encode_begins : (slot : ℕ) (e : Event) (after : List ℕ) → Wide e → Low e → Begins (encode slot e ++ after) slot e (kind_of e)
unfolding encode widths event_widths
encode_begins slot e after f h =
    let k = kind_of e in
    let again : fields.decode (widths k) (fields.encode (widths k) (fields_of e) ++ after) ≡ fields_of e =
    round_trip.decode_encode (widths k) (fields_of e) after (laid k).whole (low_fits (layout k) (fields_of e) f h) in
    record {
      head = refl;
      known = known_kind e;
      room = omega (arith, length-append (encode slot e) after, length_encode slot e);
      event_is = sym (ap (event_of k) again ∙ event_again e);
    }

-- ---- from bytes to their event

module _ (l : List ℕ) (slot : ℕ) (e : Event) (kind : ℕ) (b : Begins l slot e kind) where
  abbrev values : List ℕ
  values = fields.decode (widths kind) (drop 4 l)

  pub begins_kind : kind_of e ≡ kind
  begins_kind = ap kind_of b.event_is ∙ kind_again kind values b.known

  pub begins_fields : fields_of e ≡ values
  unfolding widths
  begins_fields =
      ap fields_of b.event_is
      ∙ fields_again kind values b.known (round_trip.length_decode (widths kind) (drop 4 l) ∙ length-map (layout kind) width)

  pub begins_wide : Wide e
  unfolding widths event_widths
  begins_wide = rw (begins_kind, begins_fields) (fits_event (layout kind) values (round_trip.decode_fits (widths kind) (drop 4 l)))

  pub begins_low : Low e
  unfolding widths
  begins_low = rw (begins_kind, begins_fields) (fits_low (layout kind) values (round_trip.decode_fits (widths kind) (drop 4 l)))

  pub begins_encode : Bytes l → encode slot e ≡ take (whole kind) l
  unfolding encode
  begins_encode h =
      let t = drop 4 l in
      let n = size (widths kind) in
      let again : fields.encode (widths kind) values ≡ take n t =
      round_trip.encode_decode (widths kind) t (laid kind).whole (bytes_drop 4 l h) (omega (arith, length-drop 4 l, b.room)) in
      let mark : take (whole kind) l ≡ 0x4D ∷ 0x52 ∷ kind ∷ slot ∷ take n t =
      ap (take (whole kind)) b.head ∙ take-append-add (0x4D ∷ 0x52 ∷ kind ∷ slot ∷ []) t n in
      simp (begins_kind, begins_fields, again, mark)
