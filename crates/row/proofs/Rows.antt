-- The bits of a row, word by word: position p is bit p % 64 of word p / 64. Assumes nothing.
use mathlib.Core.Path.{◌≡◌, sym, ap, ap₂, ◌∙◌}
use mathlib.Core.Bool.{Bool, true, false, not, ◌&&◌, false≢true}
use mathlib.Core.List.{List}
use Prim.Native.Nat.{ℕ, ◌+◌, ◌-◌, ◌*◌, ◌/◌, ◌%◌, ◌^◌, ◌≤◌, ◌<◌}
use native.Mathlib.Omega.{arith}
use native.Mathlib.Decide.{ℕ_discrete, dec_lt}
use lib.Dec.{eqb, ltb}
use lib.ListN.{length, get_or, set, length-set, replicate, length-replicate, get_or-replicate, get_or-eq_default}
use lib.Seq.{get_or-set_same, get_or-set_other}
use borrow.Author.Tests.{eq-eqb, ne_eqb, lt-ltb, le-ltb, not-true}
use Rattle.std.proofs.lemmas.Bool.Decides.{nat_tests}
use Rattle.lists.specs.Index.{First}
use Rattle.word.specs.Word.{bit_at, Bits, bit_of_two}
use Rattle.word.proofs.Bits.{bit_none, bit_not}
use Rattle.row.specs.Row.{at, bits, Row, Becomes, is_clear}

-- ---- one bit
-- bit b of word j
pub at_word : (ws : List ℕ) (j b : ℕ) → b < 64 → at ws (64 * j + b) ≡ bit_at (get_or ws j 0) b
unfolding at
at_word ws j b h =
    let q : (64 * j + b) / 64 ≡ j = omega arith in
    let r : (64 * j + b) % 64 ≡ b = omega arith in
    ap₂ (λ (x y : ℕ). bit_at (get_or ws x 0) y) q r

-- no bit past the end
pub at_past : (ws : List ℕ) (p : ℕ) → bits ws ≤ p → at ws p ≡ false
unfolding at
at_past ws p h = ap (λ (w : ℕ). bit_at w (p % 64)) (get_or-eq_default ws 0 (omega arith)) ∙ bit_none (p % 64)

-- the 64 bits from p on lie in two words
pub at_two : (ws : List ℕ) (p i : ℕ) → i < 64 → at ws (p + i) ≡ bit_of_two (get_or ws (p / 64) 0) (get_or ws (p / 64 + 1) 0) (p % 64 + i)
at_two ws p i h = pick (dec_lt (p % 64 + i) 64)
  where
    pick : Dec (p % 64 + i < 64) → at ws (p + i) ≡ bit_of_two (get_or ws (p / 64) 0) (get_or ws (p / 64 + 1) 0) (p % 64 + i)
    pick (yes l) =
        let e : p + i ≡ 64 * (p / 64) + (p % 64 + i) = omega arith in
        rw (lt-ltb (p % 64 + i) 64 l) (ap (at ws) e ∙ at_word ws (p / 64) (p % 64 + i) l)
    pick (no l) =
        let e : p + i ≡ 64 * (p / 64 + 1) + (p % 64 + i - 64) = omega arith in
        rw (le-ltb (p % 64 + i) 64 (omega arith)) (ap (at ws) e ∙ at_word ws (p / 64 + 1) (p % 64 + i - 64) (omega arith))

-- ---- a row by its words
pub row_word : (ws : List ℕ) (f : ℕ → Bool) → Row ws f → (j : ℕ) → Bits (get_or ws j 0) (λ b. f (64 * j + b))
row_word ws f h j b l = sym (at_word ws j b l) ∙ h (64 * j + b)

pub row_words : (ws : List ℕ) (f : ℕ → Bool) → ((j : ℕ) → Bits (get_or ws j 0) (λ b. f (64 * j + b))) → Row ws f
row_words ws f h p =
    let e : p ≡ 64 * (p / 64) + p % 64 = omega arith in
    let l : p % 64 < 64 = omega arith in
    ap (at ws) e ∙ at_word ws (p / 64) (p % 64) l ∙ h (p / 64) (p % 64) l ∙ sym (ap f e)

-- ---- one word replaced
pub row_set : (ws : List ℕ) (j v : ℕ) (f : ℕ → Bool) → j < length ws → Bits v (λ b. f (64 * j + b))
    → ((p : ℕ) → (p / 64 ≡ j → ⊥) → at ws p ≡ f p) → Row (set ws j v) f
row_set ws j v f h new old = row_words (set ws j v) f (λ k. pick k (ℕ_discrete k j))
  where
    pick : (k : ℕ) → Dec (k ≡ j) → Bits (get_or (set ws j v) k 0) (λ b. f (64 * k + b))
    pick k (yes e) b l =
        ap (λ (x : ℕ). bit_at (get_or (set ws j v) x 0) b) e ∙ ap (λ (w : ℕ). bit_at w b) (get_or-set_same ws j v 0 h)
        ∙ new b l ∙ ap (λ (x : ℕ). f (64 * x + b)) (sym e)
    pick k (no n) b l = ap (λ (w : ℕ). bit_at w b) (get_or-set_other ws j k v 0 n) ∙ sym (at_word ws k b l) ∙ old (64 * k + b) (λ e. n (omega arith))

-- bit p joined to the row by an operation that a clear bit leaves alone
pub row_put : (op : Bool → Bool → Bool) → ((b : Bool) → op b false ≡ b) → (ws : List ℕ) (p v : ℕ) → p / 64 < length ws
    → Bits v (λ b. op (bit_at (get_or ws (p / 64) 0) b) (eqb b (p % 64))) → Row (set ws (p / 64) v) (λ k. op (at ws k) (eqb k p))
row_put op idle ws p v h new =
    row_set ws (p / 64) v (λ k. op (at ws k) (eqb k p)) h
    (λ b l. new b l ∙ ap₂ op (sym (at_word ws (p / 64) b l)) (here b l (ℕ_discrete b (p % 64))))
    (λ k n. sym (ap (op (at ws k)) (ne_eqb k p (λ e. n (ap (λ (x : ℕ). x / 64) e))) ∙ idle (at ws k)))
  where
    here : (b : ℕ) → b < 64 → Dec (b ≡ p % 64) → eqb b (p % 64) ≡ eqb (64 * (p / 64) + b) p
    here b l (yes e) = eq-eqb b (p % 64) e ∙ sym (eq-eqb (64 * (p / 64) + b) p (omega arith))
    here b l (no e) = ne_eqb b (p % 64) e ∙ sym (ne_eqb (64 * (p / 64) + b) p (λ q. e (omega arith)))

-- the word of bit p, if the row has one, changed so
pub row_changed : (op : Bool → Bool → Bool) → ((b : Bool) → op b false ≡ b) → (ws vs : List ℕ) (p : ℕ)
    → (p / 64 < length ws → (v : ℕ) × Bits v (λ b. op (bit_at (get_or ws (p / 64) 0) b) (eqb b (p % 64))) × (vs ≡ set ws (p / 64) v))
    → (length ws ≤ p / 64 → vs ≡ ws) → Becomes ws vs (λ k. op (at ws k) (eqb k p && ltb k (bits ws)))
row_changed op idle ws vs p within past = elim (dec_lt (p / 64) (length ws)) [
  | yes h ↦
      let u = within h in
      record {
        long = ap length u.2 ∙ length-set ws (p / 64) u.0;
        bits_are = λ k. ap (λ (l : List ℕ). at l k) u.2 ∙ row_put op idle ws p u.0 h u.1 k ∙ ap (op (at ws k)) (sym (inside k (bits ws) (omega arith)));
      }
  | no h ↦
      let e = past (omega arith) in
      record {
        long = ap length e;
        bits_are = λ k. ap (λ (l : List ℕ). at l k) e ∙ sym (ap (op (at ws k)) (outside k (bits ws) (omega arith)) ∙ idle (at ws k));
      }
]
  where
    inside : (k n : ℕ) → p < n → (eqb k p && ltb k n) ≡ eqb k p
    inside k n h = grind (arith, nat_tests)

    outside : (k n : ℕ) → n ≤ p → (eqb k p && ltb k n) ≡ false
    outside k n h = grind (arith, nat_tests)

-- ---- a row of zeros, and a run of ones
pub at_zeros : (n p : ℕ) → at (replicate n 0) p ≡ false
unfolding at
at_zeros n p = elim (dec_lt (p / 64) n) [
  | yes l ↦ ap (λ (w : ℕ). bit_at w (p % 64)) (get_or-replicate n (p / 64) 0 0 l) ∙ bit_none (p % 64)
  | no l ↦ at_past (replicate n 0) p (omega (arith, length-replicate {A = ℕ} n 0))
]

-- t is the lowest clear bit below m, or m where none is
module _ (ws : List ℕ) where
  -- it lies past what is all set
  pub run_from : (s m t : ℕ) → First (is_clear ws) m t → s ≤ m → ((p : ℕ) → p < s → at ws p ≡ true) → s ≤ t
  run_from s m t run h set = elim (dec_lt t s) [
    | yes l ↦ absurd (false≢true (sym (ap not (set t l)) ∙ run.here (omega arith)))
    | no l ↦ omega arith
  ]

  -- it is clear itself, where nothing from m on is set
  pub run_stops : (m t : ℕ) → First (is_clear ws) m t → ((p : ℕ) → m ≤ p → at ws p ≡ false) → at ws t ≡ false
  run_stops m t run past = elim (dec_lt t m) [
    | yes l ↦ not-true (at ws t) (run.here l)
    | no l ↦ past t (omega arith)
  ]

-- ---- a walk over whole words
-- bit b of w, the word at p, flipped: whether the row is clear there
pub flipped : (ws : List ℕ) (p w b : ℕ) → p % 64 ≡ 0 → w ≡ get_or ws (p / 64) 0 → w < 2 ^ 64 → b < 64 → is_clear ws (p + b) ≡ bit_at ((2 ^ 64 - 1) - w) b
flipped ws p w b first read small l =
    let e : p + b ≡ 64 * (p / 64) + b = omega arith in
    ap not (ap (at ws) e ∙ at_word ws (p / 64) b l ∙ ap (λ (v : ℕ). bit_at v b) (sym read)) ∙ sym (bit_not w b small l)

-- none below p passes, and of the 64 from p on, which are those of g, none below t
pub none_stride : (f g : ℕ → Bool) (p t : ℕ) → ((b : ℕ) → b < 64 → f (p + b) ≡ g b) → ((i : ℕ) → i < p → f i ≡ false) → First g 64 t
    → (i : ℕ) → i < p + t → f i ≡ false
none_stride f g p t same before first i l = elim (dec_lt i p) [
  | yes h ↦ before i h
  | no h ↦ ap f (omega arith) ∙ same (i - p) (omega (arith, first.within)) ∙ first.none (i - p) (omega arith)
]
