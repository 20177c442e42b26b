-- The search for the nearest mark goes over the words: those passed have no mark among the n, and the lowest in the first that has one is the
-- nearest. Assumes nothing.
use mathlib.Core.Path.{◌≡◌, refl, sym, ap, ap₂, ◌∙◌}
use mathlib.Core.Bool.{Bool, true, false, ◌&&◌, and-true, false≢true}
use mathlib.Core.List.{List}
use Prim.Native.Nat.{ℕ, ◌+◌, ◌-◌, ◌*◌, ◌^◌, ◌≤◌, ◌<◌}
use native.Mathlib.Omega.{arith}
use native.Mathlib.Decide.{dec_lt}
use lib.Bits.{bit_and, and_le_l}
use lib.Dec.{ltb, leb}
use lib.ListN.{get_or}
use borrow.Author.Tests.{lt-ltb, le-leb, ltb-true, leb-true}
use Rattle.lists.specs.Index.{First}
use Rattle.lists.proofs.Index.{first_here, first_end}
use Rattle.word.specs.Word.{bit_at, Bits, in_range}
use Rattle.word.proofs.Bits.{bit_at_and, bit_none, some_bit}
use Rattle.row.specs.Row.{at}
use Rattle.row.proofs.Rows.{at_word}

-- no bit of index below n that stands in a word before the j-th is set
abbrev pub Passed : List ℕ → ℕ → ℕ → ℕ → Type 0
Passed ws s n j = (i : ℕ) → i < n → s + i < 64 * j → at ws (s + i) ≡ false

both : (a b : Bool) → (a && b) ≡ true → (a ≡ true) × (b ≡ true)
both true b e = (refl, e)
both false b e = (e, absurd (false≢true e))

-- v is word j, and r has its bits from s up to s + n
module _ (ws : List ℕ) (s n j v r : ℕ) (v_is : v ≡ get_or ws j 0) (r_is : Bits r (λ b. in_range s (s + n) (64 * j + b))) (none : Passed ws s n j) where
  abbrev w : ℕ
  w = bit_and v r

  is : Bits w (λ b. at ws (64 * j + b) && in_range s (s + n) (64 * j + b))
  is b l = bit_at_and v r b ∙ ap₂ (λ (x y : Bool). x && y) (ap (λ (u : ℕ). bit_at u b) v_is ∙ sym (at_word ws j b l)) (r_is b l)

  -- bit b of it
  at_index : (i b : ℕ) → i < n → s + i ≡ 64 * j + b → b < 64 → at ws (s + i) ≡ bit_at w b
  at_index i b l e h =
      let low : leb s (64 * j + b) ≡ true = le-leb s (64 * j + b) (omega arith) in
      let high : ltb (64 * j + b) (s + n) ≡ true = lt-ltb (64 * j + b) (s + n) (omega arith) in
      ap (at ws) e ∙ sym (is b h ∙ rw (low, high) (and-true (at ws (64 * j + b))))

  passed_to : (t : ℕ) → t ≤ 64 → ((b : ℕ) → b < t → bit_at w b ≡ false) → (i : ℕ) → i < n → s + i < 64 * j + t → at ws (s + i) ≡ false
  passed_to t h clear i l m = elim (dec_lt (s + i) (64 * j)) [
    | yes k ↦ none i l k
    | no k ↦ at_index i (s + i - 64 * j) l (omega arith) (omega arith) ∙ clear (s + i - 64 * j) (omega arith)
  ]

  pub passed_word : w ≡ 0 → Passed ws s n (j + 1)
  passed_word z i l m = passed_to 64 (omega arith) (λ b h. ap (λ (v : ℕ). bit_at v b) z ∙ bit_none b) i l (omega arith)

  -- its lowest bit is t
  module _ (t : ℕ) (small : v < 2 ^ 64) (some : w ≡ 0 → ⊥) (lowest : First (bit_at w) 64 t) where
    within : t < 64
    within = some_bit w t (omega (arith, and_le_l v r)) some lowest

    set : (at ws (64 * j + t) ≡ true) × (in_range s (s + n) (64 * j + t) ≡ true)
    set = both (at ws (64 * j + t)) (in_range s (s + n) (64 * j + t)) (sym (is t within) ∙ lowest.here within)

    pub inside : (s ≤ 64 * j + t) × (64 * j + t < s + n)
    inside =
        let h = both (leb s (64 * j + t)) (ltb (64 * j + t) (s + n)) set.1 in
        (leb-true s (64 * j + t) h.0, ltb-true (64 * j + t) (s + n) h.1)

    pub finds_first : First (λ i. at ws (s + i)) n (64 * j + t - s)
    finds_first =
        let p_is : s + (64 * j + t - s) ≡ 64 * j + t = omega (arith, inside.0) in
        first_here (λ i. at ws (s + i)) (64 * j + t - s)
        (λ i m. passed_to t (omega (arith, within)) lowest.none i (omega (arith, inside)) (omega arith)) n (omega (arith, inside))
        (ap (at ws) p_is ∙ set.0)

-- all words are passed
pub finds_none : (ws : List ℕ) (s n j : ℕ) → Passed ws s n j → s + n ≤ 64 * j → First (λ i. at ws (s + i)) n n
finds_none ws s n j none l = first_end (λ i. at ws (s + i)) n (λ i m. none i m (omega arith)) n refl
