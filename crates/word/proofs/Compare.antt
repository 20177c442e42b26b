-- Tests that come out alike, and a test turned round: each by deciding one of the two. Assumes nothing.
use mathlib.Core.Path.{◌≡◌, sym, ◌∙◌}
use mathlib.Core.Bool.{false, not}
use Prim.Native.Nat.{ℕ, ◌≤◌, ◌<◌}
use native.Mathlib.Omega.{arith}
use native.Mathlib.Decide.{dec_le, dec_lt}
use lib.Dec.{ltb, leb}
use borrow.Author.Tests.{lt-ltb, le-ltb, le-leb, lt-leb}

-- two tests that pass alike
pub leb_same : (a b c d : ℕ) → (a ≤ b → c ≤ d) → (c ≤ d → a ≤ b) → leb a b ≡ leb c d
leb_same a b c d there back = go (dec_le a b)
  where
    go : Dec (a ≤ b) → leb a b ≡ leb c d
    go (yes h) = le-leb a b h ∙ sym (le-leb c d (there h))
    go (no h) = lt-leb a b (omega arith) ∙ sym (past (dec_le c d))
      where
        past : Dec (c ≤ d) → leb c d ≡ false
        past (yes l) = absurd (h (back l))
        past (no l) = lt-leb c d (omega arith)

pub leb_not : (a b : ℕ) → not (leb a b) ≡ ltb b a
leb_not a b = go (dec_le a b)
  where
    go : Dec (a ≤ b) → not (leb a b) ≡ ltb b a
    go (yes h) = rw (le-leb a b h, le-ltb b a h)
    go (no h) = rw (lt-leb a b (omega arith), lt-ltb b a (omega arith))

pub ltb_not : (a b : ℕ) → not (ltb a b) ≡ leb b a
ltb_not a b = go (dec_lt a b)
  where
    go : Dec (a < b) → not (ltb a b) ≡ leb b a
    go (yes h) = rw (lt-ltb a b h, lt-leb b a h)
    go (no h) = let m : b ≤ a = omega arith in rw (le-ltb a b m, le-leb b a m)
