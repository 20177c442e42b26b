-- With room for all of it a text stands whole behind the bytes before its index, by induction on the text; and a number takes at most 20
-- bytes. Assumes nothing.
use mathlib.Core.Path.{◌≡◌, refl, ◌∙◌}
use mathlib.Core.List.{List, [], ◌∷◌, ◌++◌, append_assoc, append-nil}
use Prim.Native.Nat.{ℕ, zero, suc, ◌+◌, ◌/◌, ◌≤◌}
use native.Mathlib.Omega.{arith}
use native.Mathlib.Decide.{dec_lt}
use borrow.Author.Tests.{lt-ltb, le-ltb}
use lib.ListN.{length, take, drop, set, length-append, length-set}
use lib.Seq.{take-suc-set, drop-set-lt}
use Rattle.lines.specs.Text.{digits_of, decimal, next, put, past, Puts}
use Rattle.lines.proofs.Putting.{puts_long}

pub past_room : (t : List ℕ) (n at : ℕ) → at + length t ≤ n → past n at t ≡ at + length t
unfolding past next
past_room [] n at h = omega arith
past_room (b ∷ t) n at h = rw (lt-ltb at n (omega arith)) (past_room t n (at + 1) (omega arith) ∙ omega arith)

pub put_room : (t out : List ℕ) (at : ℕ) → at + length t ≤ length out → take (at + length t) (put out at t) ≡ take at out ++ t
unfolding put next
put_room [] out at h = let same : at + 0 ≡ at = omega arith in rw (same, append-nil (take at out))
put_room (b ∷ t) out at h =
    let one : suc at ≡ at + 1 = omega arith in
    let room : suc at + length t ≤ length (set out at b) = rw (length-set out at b) (omega arith) in
    let sum : at + suc (length t) ≡ suc at + length t = omega arith in
    rw (lt-ltb at (length out) (omega arith), sum, ← one) (put_room t (set out at b) (suc at) room ∙ rw (take-suc-set out at b (omega arith), append_assoc))

-- and the bytes behind it stay
pub put_later : (t out : List ℕ) (at : ℕ) → at + length t ≤ length out → drop (at + length t) (put out at t) ≡ drop (at + length t) out
unfolding put next
put_later [] out at h = refl
put_later (b ∷ t) out at h =
    let one : suc at ≡ at + 1 = omega arith in
    let room : suc at + length t ≤ length (set out at b) = rw (length-set out at b) (omega arith) in
    let sum : at + suc (length t) ≡ suc at + length t = omega arith in
    rw (lt-ltb at (length out) (omega arith), sum, ← one)
    (put_later t (set out at b) (suc at) room ∙ drop-set-lt (suc at + length t) out at b (omega arith))

-- what a call left in the buffer, where there was room for its text
pub record Whole (before : List ℕ) (at : ℕ) (text after : List ℕ) (r : ℕ) : Type 0 where
  pub long : length after ≡ length before
  pub index : r ≡ at + length text
  pub bytes : take r after ≡ take at before ++ text
  pub later : drop r after ≡ drop r before

pub puts_whole : {before : List ℕ} {at : ℕ} {text after : List ℕ} {r : ℕ} → Puts before at text after r → at + length text ≤ length before
    → Whole before at text after r
puts_whole {before} {at} {text} {after} {r} p h =
    let index : r ≡ at + length text = p.index_is ∙ past_room text (length before) at h in
    record {
      long = puts_long p;
      index = index;
      bytes = rw (index, p.bytes_are) (put_room text before at h);
      later = rw (index, p.bytes_are) (put_later text before at h);
    }

digits_short : (most n : ℕ) → length (digits_of most n) ≤ most
unfolding digits_of
digits_short zero n = omega arith
digits_short (suc most) n =
    elim (dec_lt n 10) [
      | yes p ↦ rw (lt-ltb n 10 p) (omega arith)
      | no p ↦ rw (le-ltb n 10 (omega arith), length-append) (omega (arith, digits_short most (n / 10)))
    ]

pub decimal_short : (n : ℕ) → length (decimal n) ≤ 20
unfolding decimal
decimal_short n = digits_short 20 n
