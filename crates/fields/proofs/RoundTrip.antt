-- Fields written are read back, and fields read are written back. Assumes nothing.
use mathlib.Core.Path.{◌≡◌, ap, ◌∙◌}
use mathlib.Core.List.{List, ◌++◌}
use Prim.Native.Nat.{ℕ, ◌%◌, ◌^◌, ◌≤◌, ◌<◌}
use native.Mathlib.Nat.{mod-eq_of_lt}
use native.Mathlib.Omega.{arith}
use lib.ListN.{length, take}
use lib.Seq.{take_at, take-take}
use Rattle.lists.specs.Lists.{sum}
use Rattle.fields.specs.Fields.{Bytes, number, spell, joined, parted, size, encode, decode, Fits}
use Rattle.fields.proofs.Spelling.{bytes_spell, length_spell, number_spell, number_take_lt, spell_number_take}
use Rattle.fields.proofs.OneByte.{byte_bits}
use Rattle.fields.proofs.Joining.{joined_lt, length_parted, parted_fits, parted_joined, joined_parted}

pub length_encode : (ws vs : List ℕ) → length (encode ws vs) ≡ size ws
unfolding encode
length_encode ws vs = length_spell (size ws) (joined ws vs)

pub encode_bytes : (ws vs : List ℕ) → Bytes (encode ws vs)
unfolding encode
encode_bytes ws vs = bytes_spell (size ws) (joined ws vs)

pub length_decode : (ws l : List ℕ) → length (decode ws l) ≡ length ws
unfolding decode
length_decode ws l = length_parted ws (number (take (size ws) l))

pub decode_fits : (ws l : List ℕ) → Fits ws (decode ws l)
unfolding decode
decode_fits ws l = parted_fits ws (number (take (size ws) l))

-- whole bytes hold as many bits
pub whole_bits : (ws : List ℕ) → sum ws % 8 ≡ 0 → 256 ^ size ws ≡ 2 ^ sum ws
whole_bits ws e = byte_bits (size ws) ∙ ap (λ (n : ℕ). 2 ^ n) (omega arith)

-- the number that an encoding spells
pub number_encode : (ws vs : List ℕ) → sum ws % 8 ≡ 0 → number (encode ws vs) ≡ joined ws vs
unfolding encode
number_encode ws vs e = number_spell (size ws) (joined ws vs) ∙ mod-eq_of_lt (rw (whole_bits ws e) (joined_lt ws vs))

-- a decoding looks at no byte behind the fields
pub decode_take : (ws l : List ℕ) → decode ws (take (size ws) l) ≡ decode ws l
unfolding decode
decode_take ws l = ap (λ (m : List ℕ). parted ws (number m)) (take-take (size ws) (size ws) l (omega arith))

pub decode_encode : (ws vs rest : List ℕ) → sum ws % 8 ≡ 0 → Fits ws vs → decode ws (encode ws vs ++ rest) ≡ vs
unfolding decode
decode_encode ws vs rest e f =
    ap (λ (m : List ℕ). parted ws (number m)) (take_at (encode ws vs) rest (size ws) (length_encode ws vs))
    ∙ ap (parted ws) (number_encode ws vs e) ∙ parted_joined ws vs f

pub encode_decode : (ws l : List ℕ) → sum ws % 8 ≡ 0 → Bytes l → size ws ≤ length l → encode ws (decode ws l) ≡ take (size ws) l
unfolding encode decode
encode_decode ws l e b h =
    let n = number (take (size ws) l) in
    let small : n < 2 ^ sum ws = rw (← whole_bits ws e) (number_take_lt (size ws) l b) in
    ap (spell (size ws)) (joined_parted ws n ∙ mod-eq_of_lt small) ∙ spell_number_take (size ws) l b h
