-- Which bits of a block lie ahead of a packet number, and where the size of a packet number stands. Assumes nothing.
use mathlib.Core.Path.{◌≡◌, sym, ap, ap₂, ◌∙◌}
use mathlib.Core.Bool.{Bool, false, ◌&&◌, and-true, and-false}
use Prim.Native.Nat.{ℕ, suc, ◌+◌, ◌-◌, ◌%◌, ◌≤◌, ◌<◌}
use native.Mathlib.Omega.{arith}
use native.Mathlib.Decide.{dec_lt}
use lib.Dec.{leb}
use borrow.Author.Tests.{lt-ltb, le-leb, lt-leb}
use Rattle.psn.specs.Psn.{turn, half, after}
use Rattle.word.specs.Word.{bit_at, in_range}
use Rattle.word.proofs.Compare.{leb_same, leb_not}
use Rattle.word.proofs.Bits.{bit_none}
use Rattle.rules.specs.Numbers.{largest_room}
use Rattle.retire.specs.Rows.{ahead}

-- ---- which bits of a block lie n or more ahead of a packet number, after which it begins by o
module _ (o n j : ℕ) (l : j < 64) where
  pub ahead_near : o < half → in_range (n - o) (half - o) j ≡ ahead n ((o + j) % turn)
  ahead_near h =
      let e : o + j ≡ (o + j) % turn = omega arith in
      ap₂ (λ (x y : Bool). x && y) (leb_same (n - o) j n (o + j) (λ k. omega arith) (λ k. omega arith))
      (leb_same (suc j) (half - o) (suc (o + j)) half (λ k. omega arith) (λ k. omega arith) ∙ sym (leb_not half (o + j)))
      ∙ ap (ahead n) e

  pub ahead_far : half ≤ o → o < turn → in_range (turn - o + n) 64 j ≡ ahead n ((o + j) % turn)
  ahead_far h k = rw (lt-ltb j 64 l) (and-true (leb (turn - o + n) j) ∙ go (dec_lt (o + j) turn))
    where
      go : Dec (o + j < turn) → leb (turn - o + n) j ≡ ahead n ((o + j) % turn)
      go (yes b) =
          let e : (o + j) % turn ≡ o + j = omega arith in
          rw (e, le-leb half (o + j) (omega arith), lt-leb (turn - o + n) j (omega arith)) (sym (and-false (leb n (o + j))))
      go (no b) =
          let i = o + j - turn in
          let e : (o + j) % turn ≡ i = omega arith in
          rw (e, lt-leb half i (omega arith)) (leb_same (turn - o + n) j n i (λ q. omega arith) (λ q. omega arith) ∙ sym (and-true (leb n i)))

-- half the circle ahead, none is
pub ahead_none : (n i j : ℕ) → half ≤ n → bit_at 0 j ≡ ahead n i
ahead_none n i j h = bit_none j ∙ sym (go (dec_lt i n))
  where
    go : Dec (i < n) → ahead n i ≡ false
    go (yes l) = rw (lt-leb n i l)
    go (no l) = rw (le-leb half i (omega arith)) (and-false (leb n i))

-- the block's begin may be given by any number
pub turned_in : (o j : ℕ) → (o % turn + j) % turn ≡ (o + j) % turn
turned_in o j = omega arith

-- ---- where the size of a packet number stands
pub size_on : (first a i : ℕ) → (after first a + i) % largest_room ≡ (first + (a + i)) % largest_room
unfolding after
size_on first a i = omega arith

pub size_low : (first i : ℕ) → (first % largest_room + i) % largest_room ≡ (first + i) % largest_room
size_low first i = omega arith
