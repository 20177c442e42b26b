-- What cack names, word by word: the bits below where it reaches, as far as the words below j. Assumes nothing.
use mathlib.Core.Path.{◌≡◌, sym, ap, ap₂, ◌∙◌}
use mathlib.Core.Bool.{Bool, false, ◌&&◌, ◌||◌, and-true, and-false, or-false}
use Prim.Native.Nat.{ℕ, suc, ◌+◌, ◌*◌, ◌/◌, ◌%◌, ◌≤◌, ◌<◌}
use native.Mathlib.Omega.{arith}
use native.Mathlib.Decide.{ℕ_discrete, dec_lt}
use lib.Dec.{ltb, leb-zero}
use borrow.Author.Tests.{lt-ltb, le-ltb}
use Rattle.word.specs.Word.{Bits, in_range}
use Rattle.word.proofs.Compare.{leb_same}
use Rattle.retire.specs.Rows.{in_word}
use Rattle.retire.proofs.Words.{in_word_here, in_word_else}

abbrev pub below : ℕ → ℕ → ℕ → Bool
below upto j p = ltb p upto && ltb p (64 * j)

pub below_none : (upto p : ℕ) → false ≡ below upto 0 p
below_none upto p = sym (ap (λ (t : Bool). ltb p upto && t) (le-ltb p (64 * 0) (omega arith)) ∙ and-false (ltb p upto))

pub below_all : (upto j p : ℕ) → upto ≤ 64 * j → below upto j p ≡ ltb p upto
below_all upto j p h = go (dec_lt p upto)
  where
    go : Dec (p < upto) → below upto j p ≡ ltb p upto
    go (yes l) = ap (λ (t : Bool). ltb p upto && t) (lt-ltb p (64 * j) (omega arith)) ∙ and-true (ltb p upto)
    go (no l) = rw (le-ltb p upto (omega arith))

-- word j more, in which w has the bits that lie below
pub below_more : (upto j w p : ℕ) → Bits w (λ i. in_range 0 upto (64 * j + i)) → (below upto j p || in_word j w p) ≡ below upto (j + 1) p
below_more upto j w p is = go (ℕ_discrete (p / 64) j)
  where
    go : Dec (p / 64 ≡ j) → (below upto j p || in_word j w p) ≡ below upto (j + 1) p
    go (yes e) =
        let b = p % 64 in
        let p_is : p ≡ 64 * j + b = omega arith in
        let here : in_word j w p ≡ ltb p upto =
        ap (in_word j w) p_is ∙ in_word_here j w b (omega arith) ∙ is b (omega arith)
        ∙ ap (λ (t : Bool). t && ltb (64 * j + b) upto) (leb-zero (64 * j + b)) ∙ ap (λ (q : ℕ). ltb q upto) (sym p_is) in
        ap₂ (λ (s t : Bool). ltb p upto && s || t) (le-ltb p (64 * j) (omega arith)) here
        ∙ ap (λ (s : Bool). s || ltb p upto) (and-false (ltb p upto))
        ∙ sym (ap (λ (t : Bool). ltb p upto && t) (lt-ltb p (64 * (j + 1)) (omega arith)) ∙ and-true (ltb p upto))
    go (no n) =
        ap (λ (t : Bool). below upto j p || t) (in_word_else j w p n) ∙ or-false (below upto j p)
        ∙ ap (λ (t : Bool). ltb p upto && t) (leb_same (suc p) (64 * j) (suc p) (64 * (j + 1)) (λ h. omega arith) (λ h. omega (arith, n)))
