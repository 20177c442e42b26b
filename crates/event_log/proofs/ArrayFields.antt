-- A kind's fields in the code's arrays take as many bytes as the fields, are read as the fields with zeros behind them, and are written as
-- the fields: zeros change nothing. Assumes nothing.
use mathlib.Core.Path.{◌≡◌, sym, ap, ap₂, ◌∙◌}
use mathlib.Core.List.{List, [], ◌∷◌, ◌++◌}
use Prim.Native.Nat.{ℕ, zero, suc, ◌-◌, ◌/◌, ◌≤◌}
use native.Mathlib.Omega.{arith}
use lib.ListN.{length, replicate}
use Rattle.fields.specs.Fields.{size, encode, decode, Fits, Laid}
use Rattle.fields.proofs.RoundTrip.{length_decode, decode_fits}
use Rattle.fields.proofs.Padding.{encode_padded, decode_padded}
use Rattle.rules.specs.Kinds.{kind_of, fields_of, widths}
use Rattle.rules.specs.declared.Event.{Event}
use Rattle.kinds.specs.Padded.{most, padded, FitsAll}
use Rattle.kinds.proofs.Padded.{length_padded, padded_is, padded_at}
use Rattle.kinds.proofs.Layouts.{few_fields, sum_widths, padded_laid, length_fields}

pub size_padded : (k : ℕ) → size (padded (widths k)) ≡ size (widths k)
size_padded k = ap (λ (n : ℕ). n / 8) (sum_widths k)

-- widths that the code has of a kind, with the bytes of its fields and as many values
pub laid : (k : ℕ) (ws : List ℕ) (bytes values : ℕ) → ws ≡ padded (widths k) → size (widths k) ≤ bytes → values ≡ most
    → Laid ws bytes values
laid k ws bytes values e h n =
    rw e (record { layout = padded_laid k; enough = rw (size_padded k) h; each = n ∙ sym (length_padded (widths k)) })

-- ---- reading
decode_few : (k : ℕ) (l : List ℕ) → length (decode (widths k) l) ≤ most
decode_few k l = omega (arith, length_decode (widths k) l, few_fields k)

pub decode_array : (k : ℕ) (l : List ℕ) → decode (padded (widths k)) l ≡ padded (decode (widths k) l)
decode_array k l =
    let ws = widths k in
    ap (λ (x : List ℕ). decode x l) (padded_is ws (few_fields k)) ∙ decode_padded ws l (most - length ws)
    ∙ ap (λ (n : ℕ). decode ws l ++ replicate (most - n) 0) (sym (length_decode ws l)) ∙ sym (padded_is (decode ws l) (decode_few k l))

fits_at : (ws vs : List ℕ) → Fits ws vs → FitsAll ws vs
unfolding Fits
fits_at [] vs f i = rw f (omega arith)
fits_at (w ∷ ws) [] f i = absurd f
fits_at (w ∷ ws) (v ∷ vs) f zero = f.0
fits_at (w ∷ ws) (v ∷ vs) f (suc i) = fits_at ws vs f.1 i

pub decode_fit : (k : ℕ) (l : List ℕ) → FitsAll (widths k) (padded (decode (widths k) l))
decode_fit k l i = rw (padded_at (decode (widths k) l) (decode_few k l)) (fits_at (widths k) (decode (widths k) l) (decode_fits (widths k) l) i)

-- ---- writing
pub encode_array : (e : Event) → encode (padded (widths (kind_of e))) (padded (fields_of e)) ≡ encode (widths (kind_of e)) (fields_of e)
encode_array e =
    let ws = widths (kind_of e) in
    let vs = fields_of e in
    let n : length vs ≡ length ws = length_fields e in
    let v_is : padded vs ≡ vs ++ replicate (most - length ws) 0 =
    padded_is vs (omega (arith, few_fields (kind_of e))) ∙ ap (λ (m : ℕ). vs ++ replicate (most - m) 0) n in
    ap₂ encode (padded_is ws (few_fields (kind_of e))) v_is ∙ encode_padded ws vs (most - length ws) n
