-- Fields at their places: each lies within the bytes, each is read from its own bits, and all that are put make the encoding.
-- Assumes nothing.
use mathlib.Core.Path.{◌≡◌, sym, ap, ap₂, ◌∙◌}
use mathlib.Core.List.{List, [], ◌∷◌, ◌++◌, append_assoc, append-nil}
use Prim.Native.Nat.{ℕ, suc, ◌+◌, ◌-◌, ◌*◌, ◌%◌, ◌^◌, ◌≤◌, ◌<◌}
use native.Mathlib.Numerals.{add-one}
use native.Mathlib.Omega.{arith}
use lib.ListN.{length, get_or, set, take, drop, length-append, length-drop, drop_of_length-le}
use lib.Seq.{take-suc, drop-cons, take_all, set_at, length-take-le}
use Rattle.lists.specs.Lists.{sum}
use Rattle.fields.specs.Fields.{Bytes, number, joined, size, encode, decode, Layout, Laid}
use Rattle.fields.specs.Parts.{cut, placed, InBytes}
use Rattle.fields.proofs.Spelling.{bytes_drop, bytes_append, number_lt, number_append, number_one}
use Rattle.fields.proofs.Cuts.{cut_above, placed_top, placed_more}
use Rattle.fields.proofs.OneByte.{byte_bits, number_take, number_drop}
use Rattle.fields.proofs.Joining.{sum_parts, sum_more, sum_next, sum_within, joined_lt, joined_more, parted_at}
use Rattle.fields.proofs.RoundTrip.{length_encode, encode_bytes, number_encode}

-- the field at i, with the fields before it as many bits as at says
pub field_at : (ws : List ℕ) (bytes values at i : ℕ) → Laid ws bytes values → i < length ws → at ≡ sum (take i ws) → InBytes at (get_or ws i 0) bytes
field_at ws bytes values at i h l e =
    let end : at + get_or ws i 0 ≤ sum ws = omega (arith, sum_next ws i l, sum_within ws (i + 1)) in
    record {
      within = omega (arith, h.layout.whole, h.enough);
      narrow = h.layout.narrow i;
      short = omega (arith, h.layout.short);
    }

-- ---- reading
pub decode_at : (ws l : List ℕ) (values at i : ℕ) → Laid ws (length l) values → Bytes l → i < length ws → at ≡ sum (take i ws)
    → cut (8 * length l - (at + get_or ws i 0)) (get_or ws i 0) (number l) ≡ get_or (decode ws l) i 0
unfolding decode
decode_at ws l values at i h b m e =
    let s = 8 * (length l - size ws) in
    let t = sum (drop (suc i) ws) in
    let w = get_or ws i 0 in
    let place : 8 * length l - (at + w) ≡ s + t = omega (arith, sum_parts ws (suc i), sum_more ws i m, h.layout.whole, h.enough) in
    ap (λ (x : ℕ). cut x w (number l)) place ∙ sym (cut_above s t w (number l)) ∙ ap (cut t w) (sym (number_take l (size ws) b))
    ∙ sym (parted_at ws (number (take (size ws) l)) i m)

-- one more of d, in place of those of v
pub filled_more : (d v : List ℕ) (i : ℕ) → i < length d → i < length v
    → set (take i d ++ drop i v) i (get_or d i 0) ≡ take (i + 1) d ++ drop (i + 1) v
filled_more d v i p q =
    let front = length-take-le i d (omega arith) in
    ap (λ (x : List ℕ). set (take i d ++ x) i (get_or d i 0)) (drop-cons v i 0 q)
    ∙ set_at (take i d) (get_or v i 0) (drop (suc i) v) (get_or d i 0) i front
    ∙ sym (rw (add-one, take-suc d i 0 p) (append_assoc (take i d) (get_or d i 0 ∷ []) (drop (suc i) v)))

pub filled_all : (d v : List ℕ) (i : ℕ) → length d ≤ i → length v ≤ i → take i d ++ drop i v ≡ d
filled_all d v i p q = ap₂ (λ (x y : List ℕ). x ++ y) (take_all i d p) (drop_of_length-le v q) ∙ append-nil d

-- ---- writing
-- one more field: base is how the bytes were, now how they are, and q the number that they come to
pub joined_put : (ws vs base now : List ℕ) (at i q : ℕ) → i < length ws → at ≡ sum (take i ws) → at + get_or ws i 0 ≤ 8 * length base
    → length now ≡ length base → number now ≡ placed (8 * length base - at) at (joined (take i ws) vs) (number base)
    → q ≡ placed (8 * length now - (at + get_or ws i 0)) (get_or ws i 0) (get_or vs i 0) (number now)
    → q ≡ placed (8 * length base - (at + get_or ws i 0)) (at + get_or ws i 0) (joined (take (i + 1) ws) vs) (number base)
joined_put ws vs base now at i q l e h kept before put =
    let w = get_or ws i 0 in
    let k = 8 * length base - (at + w) in
    let n = number base in
    let left : 8 * length base - at ≡ k + w = omega arith in
    let number_is = before ∙ ap (λ (x : ℕ). placed x at (joined (take i ws) vs) n) left in
    put ∙ ap₂ (λ (x y : ℕ). placed (8 * x - (at + w)) w (get_or vs i 0) y) kept number_is ∙ placed_more k at w (joined (take i ws) vs) (get_or vs i 0) n
    ∙ ap (λ (x : ℕ). placed k (at + w) x n) (sym (rw add-one (joined_more ws vs i l)))

-- all fields
pub written : (ws vs l m : List ℕ) → Layout ws → size ws ≤ length l → Bytes l → Bytes m → length m ≡ length l
    → number m ≡ placed (8 * length l - sum ws) (sum ws) (joined ws vs) (number l) → m ≡ encode ws vs ++ drop (size ws) l
written ws vs l m y h b c e n =
    let t = 8 * (length l - size ws) in
    let f = encode ws vs in
    let r = drop (size ws) l in
    let place : 8 * length l - sum ws ≡ t = omega (arith, y.whole) in
    let all : 8 * length l ≡ t + sum ws = omega (arith, y.whole) in
    let l_lt : number l < 2 ^ (t + sum ws) = rw (← all, ← byte_bits) (number_lt l b) in
    let m_is : number m ≡ joined ws vs * 2 ^ t + number l % 2 ^ t =
    n ∙ ap (λ (x : ℕ). placed x (sum ws) (joined ws vs) (number l)) place ∙ placed_top t (sum ws) (joined ws vs) (number l) l_lt (joined_lt ws vs) in
    let behind : 256 ^ length r ≡ 2 ^ t = byte_bits (length r) ∙ ap (λ (x : ℕ). 2 ^ (8 * x)) (length-drop (size ws) l) in
    let f_is : number (f ++ r) ≡ joined ws vs * 2 ^ t + number l % 2 ^ t =
    number_append f r ∙ ap₂ (λ (x y : ℕ). x + y) (ap₂ (λ (x y : ℕ). x * y) (number_encode ws vs y.whole) behind) (number_drop l (size ws) b) in
    let long : length m ≡ length (f ++ r) = omega (arith, length-append f r, length_encode ws vs, length-drop (size ws) l) in
    number_one m (f ++ r) c (bytes_append f r (encode_bytes ws vs) (bytes_drop (size ws) l b)) long (m_is ∙ sym f_is)
