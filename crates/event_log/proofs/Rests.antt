-- A list from a place on to its end, as a part that is taken out and put back. Assumes nothing.
use mathlib.Core.Path.{◌≡◌, refl, ap, ◌∙◌}
use mathlib.Core.List.{List, [], ◌∷◌, ◌++◌, append-nil}
use Prim.Native.Nat.{ℕ, ◌-◌, ◌≤◌}
use native.Mathlib.Omega.{arith}
use borrow.Rule.Slice.PartMut.{put_mid, Post-is}
use lib.ListN.{length, take, drop, set, length-drop}
use lib.Seq.{take_all, drop-length}

pub rest : (l : List ℕ) (n : ℕ) → take (length l - n) (drop n l) ≡ drop n l
rest l n = take_all (length l - n) (drop n l) (omega (arith, length-drop n l))

pub put_rest : (l m : List ℕ) (n : ℕ) → n ≤ length l → put_mid n (length l - n) l m ≡ take n l ++ m
put_rest l m n h = ap (λ (x : List ℕ). take n l ++ (m ++ x)) (Post-is n (length l) l h ∙ drop-length l) ∙ ap (λ (x : List ℕ). take n l ++ x) (append-nil m)

-- two elements in front of the others, and two stores behind them
pub headed : (a b c d : ℕ) (l : List ℕ) → 4 ≤ length l → set (set (a ∷ b ∷ drop 2 l) 2 c) 3 d ≡ a ∷ b ∷ c ∷ d ∷ drop 4 l
headed a b c d [] h = absurd (omega arith)
headed a b c d (w ∷ []) h = absurd (omega arith)
headed a b c d (w ∷ x ∷ []) h = absurd (omega arith)
headed a b c d (w ∷ x ∷ y ∷ []) h = absurd (omega arith)
headed a b c d (w ∷ x ∷ y ∷ z ∷ l) h = refl
