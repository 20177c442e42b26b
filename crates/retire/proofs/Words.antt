-- Rows of which a SACK retires some bits: one word of them, none, and one part after another, of which the counts add up. Assumes nothing.
use mathlib.Core.Path.{◌≡◌, refl, sym, ap, ap₂, subst, ◌∙◌}
use mathlib.Core.Bool.{Bool, true, false, not, cond, ◌&&◌, ◌||◌, and-true, and-false, or-false}
use mathlib.Core.List.{List}
use Prim.Native.Nat.{ℕ, ◌+◌, ◌*◌, ◌/◌, ◌%◌, ◌≤◌, ◌<◌}
use native.Mathlib.Omega.{arith}
use native.Mathlib.Decide.{ℕ_discrete, dec_lt}
use lib.Dec.{ltb}
use lib.ListN.{length, get_or, set, length-set}
use borrow.Author.Tests.{eq-eqb, ne_eqb, lt-ltb, le-ltb}
use Rattle.psn.specs.Psn.{after}
use Rattle.lists.specs.Index.{weigh}
use Rattle.word.specs.Word.{bit_at, Bits, only_in}
use Rattle.lists.proofs.Index.{total_le, total_same, total_none, total_both, total_window, weigh_same}
use Rattle.row.specs.Row.{at, bits, Becomes}
use Rattle.row.proofs.Rows.{at_word, at_past, row_set}
use Rattle.retire.specs.Rows.{added, fresh, in_word, longest_weighed, mark_by, nothing, size_by, Fits, OneRetired, Retires}
use Rattle.retire.specs.declared.Retired.{Retired}
use Rattle.retire.specs.declared.Sum.{Sum}
use Rattle.retire.proofs.Naming.{size_on}

-- ---- weights
pub weigh_le : (n b : ℕ) (f : ℕ → Bool) (w : ℕ → ℕ) → ((i : ℕ) → w i ≤ b) → weigh n f w ≤ n * b
weigh_le n b f w h = total_le n b (λ i. cond (f i) (w i) 0) (λ i. go i (f i))
  where
    go : (i : ℕ) (t : Bool) → cond t (w i) 0 ≤ b
    go i true = h i
    go i false = omega arith

mark_light : (b : Bool) → cond b 1 0 ≤ 1
mark_light true = omega arith
mark_light false = omega arith

-- ---- the bits of one word
pub in_word_here : (j w b : ℕ) → b < 64 → in_word j w (64 * j + b) ≡ bit_at w b
in_word_here j w b l =
    ap₂ (λ (t : Bool) (i : ℕ). t && bit_at w i) (eq-eqb ((64 * j + b) / 64) j (omega arith)) (omega arith)

pub in_word_else : (j w p : ℕ) → (p / 64 ≡ j → ⊥) → in_word j w p ≡ false
in_word_else j w p n = ap (λ (t : Bool). t && bit_at w (p % 64)) (ne_eqb (p / 64) j n)

-- a word v in the place of the j-th, in which the bits of w were joined to those there by an operation that a clear bit leaves alone
module _ (op : Bool → Bool → Bool) (idle : (b : Bool) → op b false ≡ b) (W : List ℕ) (j v w : ℕ) (l : j < length W)
    (new : Bits v (λ i. op (bit_at (get_or W j 0) i) (bit_at w i))) where
  joined : Becomes W (set W j v) (λ p. op (at W p) (in_word j w p))
  joined = record {
    long = length-set W j v;
    bits_are = row_set W j v (λ p. op (at W p) (in_word j w p)) l
        (λ b h. new b h ∙ ap₂ op (sym (at_word W j b h)) (sym (in_word_here j w b h)))
        (λ p n. sym (ap (op (at W p)) (in_word_else j w p n) ∙ idle (at W p)));
  }

-- ---- rows R and M
module _ (R M sizes : List ℕ) (first : ℕ) where
  -- what two namings say alike of the rows' bits, they do alike
  pub retires_alike : (f g : ℕ → Bool) (R' M' : List ℕ) (r : Sum) → length M ≡ length R
      → ((p : ℕ) → p < bits R → (at R p || f p) ≡ (at R p || g p)) → ((p : ℕ) → p < bits R → (at M p && not (f p)) ≡ (at M p && not (g p)))
      → Retires R M sizes first f R' M' r → Retires R M sizes first g R' M' r
  retires_alike f g R' M' r same alike unmarks h = record {
    retired_are = record { long = h.retired_are.long; bits_are = λ p. h.retired_are.bits_are p ∙ retired p (dec_lt p (bits R)) };
    marked_are = record { long = h.marked_are.long; bits_are = λ p. h.marked_are.bits_are p ∙ marked p (dec_lt p (bits R)) };
    counted = h.counted ∙ weight (λ p. 1);
    alarmed = h.alarmed ∙ weight (mark_by M);
    weighed = h.weighed ∙ weight (size_by sizes first);
  }
    where
      retired : (p : ℕ) → Dec (p < bits R) → (at R p || f p && ltb p (bits R)) ≡ (at R p || g p && ltb p (bits R))
      retired p (yes l) = rw (lt-ltb p (bits R) l, and-true (f p), and-true (g p)) (alike p l)
      retired p (no l) = rw (le-ltb p (bits R) (omega arith), and-false (f p), and-false (g p))

      marked : (p : ℕ) → Dec (p < bits R) → (at M p && not (f p)) ≡ (at M p && not (g p))
      marked p (yes l) = unmarks p l
      marked p (no l) = rw (at_past M p (omega (arith, same)))

      new : (a s t : Bool) → (a || s) ≡ (a || t) → (s && not a) ≡ (t && not a)
      new true s t e = and-false s ∙ sym (and-false t)
      new false s t e = and-true s ∙ e ∙ sym (and-true t)

      weight : (w : ℕ → ℕ) → weigh (bits R) (fresh R f) w ≡ weigh (bits R) (fresh R g) w
      weight w = weigh_same (bits R) (fresh R f) (fresh R g) w (λ p l. new (at R p) (f p) (g p) (alike p l))

  pub retires_same : (f g : ℕ → Bool) (R' M' : List ℕ) (r : Sum) → length M ≡ length R → ((p : ℕ) → p < bits R → f p ≡ g p)
      → Retires R M sizes first f R' M' r → Retires R M sizes first g R' M' r
  retires_same f g R' M' r same e =
      retires_alike f g R' M' r same (λ p l. ap (λ (t : Bool). at R p || t) (e p l)) (λ p l. ap (λ (t : Bool). at M p && not t) (e p l))

  -- nothing is named
  pub retires_none : Retires R M sizes first (λ p. false) R M nothing
  retires_none = record {
    retired_are = record { long = refl; bits_are = λ p. sym (or-false (at R p)) };
    marked_are = record { long = refl; bits_are = λ p. sym (and-true (at M p)) };
    counted = sym (total_none (bits R) _ (λ p l. refl));
    alarmed = sym (total_none (bits R) _ (λ p l. refl));
    weighed = sym (total_none (bits R) _ (λ p l. refl));
  }

  -- nothing of the rows is named, and nothing counted
  pub retires_nothing : (f : ℕ → Bool) (r : Sum) → length M ≡ length R → ((p : ℕ) → p < bits R → f p ≡ false) → r ≡ nothing → Retires R M sizes first f R M r
  retires_nothing f r same e r_is =
      subst (Retires R M sizes first f R M) (sym r_is) (retires_same (λ p. false) f R M nothing same (λ p l. sym (e p l)) retires_none)

  -- f and then g
  module _ (f g : ℕ → Bool) (R' M' : List ℕ) (a : Sum) (R'' M'' : List ℕ) (b : Sum)
      (h : Retires R M sizes first f R' M' a) (k : Retires R' M' sizes first g R'' M'' b) where
    same_bits : bits R' ≡ bits R
    same_bits = ap (λ (n : ℕ). 64 * n) h.retired_are.long

    retired_in : (p : ℕ) → p < bits R → at R' p ≡ (at R p || f p)
    retired_in p l = h.retired_are.bits_are p ∙ rw (lt-ltb p (bits R) l) (ap (λ (t : Bool). at R p || t) (and-true (f p)))

    -- whatever is counted of the newly retired: w is what a bit weighs before f, and v what it weighs after it
    weights : (w v : ℕ → ℕ) → ((p : ℕ) → f p ≡ false → v p ≡ w p)
        → weigh (bits R) (fresh R f) w + weigh (bits R') (fresh R' g) v ≡ weigh (bits R) (fresh R (λ p. f p || g p)) w
    weights w v same =
        ap (λ (n : ℕ). weigh (bits R) (fresh R f) w + weigh n (fresh R' g) v) same_bits
        ∙ total_both (bits R) _ _ _
        (λ p l. ap (λ (t : Bool). cond (fresh R f p) (w p) 0 + cond (g p && not t) (v p) 0) (retired_in p l) ∙ once (at R p) (f p) (g p) (w p) (v p) (same p))
      where
        once : (r s t : Bool) (x y : ℕ) → (s ≡ false → y ≡ x) → cond (s && not r) x 0 + cond (t && not (r || s)) y 0 ≡ cond ((s || t) && not r) x 0
        once true true true x y e = omega arith
        once true true false x y e = omega arith
        once true false true x y e = omega arith
        once true false false x y e = omega arith
        once false true true x y e = omega arith
        once false true false x y e = omega arith
        once false false true x y e = omega (arith, e refl)
        once false false false x y e = omega arith

    retires_both : Retires R M sizes first (λ p. f p || g p) R'' M'' (added a b)
    retires_both = record {
      retired_are = record {
        long = k.retired_are.long ∙ h.retired_are.long;
        bits_are = λ p. k.retired_are.bits_are p
            ∙ ap₂ (λ (t : Bool) (n : ℕ). t || g p && ltb p n) (h.retired_are.bits_are p) same_bits ∙ or_or (at R p) (f p) (g p) (ltb p (bits R));
      };
      marked_are = record {
        long = k.marked_are.long ∙ h.marked_are.long;
        bits_are = λ p. k.marked_are.bits_are p ∙ ap (λ (t : Bool). t && not (g p)) (h.marked_are.bits_are p) ∙ and_not (at M p) (f p) (g p);
      };
      counted = ap₂ (λ (x y : ℕ). x + y) h.counted k.counted ∙ weights (λ p. 1) (λ p. 1) (λ p e. refl);
      alarmed = ap₂ (λ (x y : ℕ). x + y) h.alarmed k.alarmed ∙ weights (mark_by M) (mark_by M') mark;
      weighed = ap₂ (λ (x y : ℕ). x + y) h.weighed k.weighed ∙ weights (size_by sizes first) (size_by sizes first) (λ p e. refl);
    }
      where
        or_or : (r s t l : Bool) → ((r || s && l) || t && l) ≡ (r || (s || t) && l)
        or_or true s t l = refl
        or_or false true t true = refl
        or_or false true t false = and-false t
        or_or false false t l = refl

        and_not : (m s t : Bool) → ((m && not s) && not t) ≡ (m && not (s || t))
        and_not true true t = refl
        and_not true false t = refl
        and_not false s t = refl

        mark : (p : ℕ) → f p ≡ false → mark_by M' p ≡ mark_by M p
        mark p e =
            ap (λ (t : Bool). cond t 1 0) (h.marked_are.bits_are p ∙ ap (λ (t : Bool). at M p && not t) e ∙ and-true (at M p))

    -- r is both counts, and named what f and g name
    pub retires_added : (named : ℕ → Bool) (r : Sum) → length M ≡ length R → ((p : ℕ) → p < bits R → (f p || g p) ≡ named p) → r ≡ added a b
        → Retires R M sizes first named R'' M'' r
    retires_added named r same e r_is =
        subst (Retires R M sizes first named R'' M'') (sym r_is) (retires_same (λ p. f p || g p) named R'' M'' (added a b) same e retires_both)

  -- one word, of which w is named, retired as `out` says, and `more` the bytes of what is new
  module _ (same : length M ≡ length R) (j w : ℕ) (l : j < length R) (out : Retired) (one : OneRetired (get_or R j 0) (get_or M j 0) w out)
      (start more : ℕ) (start_is : start ≡ after first (64 * j)) (more_is : more ≡ weigh 64 (bit_at out.fresh) (size_by sizes start)) where
    weight : (u v : ℕ → ℕ) → ((b : ℕ) → b < 64 → u (64 * j + b) ≡ v b)
        → weigh 64 (only_in w (get_or R j 0)) v ≡ weigh (bits R) (fresh R (in_word j w)) u
    weight u v same =
        sym
        (total_window (64 * j) 64 (bits R) (λ p. cond (fresh R (in_word j w) p) (u p) 0) (λ p h. none p (omega arith)) (λ p h k. none p (omega arith)) (omega arith)
        ∙ total_same 64 _ _ (λ b h. ap₂ (λ (t : Bool) (x : ℕ). cond t x 0) (ap₂ (λ (s t : Bool). s && not t) (in_word_here j w b h) (at_word R j b h)) (same b h)))
      where
        none : (p : ℕ) → (p / 64 ≡ j → ⊥) → cond (fresh R (in_word j w) p) (u p) 0 ≡ 0
        none p n = ap (λ (t : Bool). cond (t && not (at R p)) (u p) 0) (in_word_else j w p n)

    pub retires_word : Retires R M sizes first (in_word j w) (set R j out.retired) (set M j out.marked)
        (record { newly = out.newly; alarms = out.alarms; bytes = more })
    retires_word = record {
      retired_are = record { long = put.long; bits_are = λ p. put.bits_are p ∙ ap (λ (t : Bool). at R p || t) (inside p (ℕ_discrete (p / 64) j)) };
      marked_are = joined (λ a b. a && not b) and-true M j out.marked w (omega (arith, same)) one.marked_are;
      counted = one.counted ∙ weight (λ p. 1) (λ b. 1) (λ b h. refl);
      alarmed = one.alarmed ∙ weight (mark_by M) (λ b. cond (bit_at (get_or M j 0) b) 1 0) (λ b h. ap (λ (t : Bool). cond t 1 0) (at_word M j b h));
      weighed = more_is ∙ weigh_same 64 _ _ _ one.fresh_are ∙ weight (size_by sizes first) (size_by sizes start) size;
    }
      where
        put : Becomes R (set R j out.retired) (λ p. at R p || in_word j w p)
        put = joined (λ a b. a || b) or-false R j out.retired w l one.retired_are

        inside : (p : ℕ) → Dec (p / 64 ≡ j) → in_word j w p ≡ (in_word j w p && ltb p (bits R))
        inside p (yes e) = sym (ap (λ (t : Bool). in_word j w p && t) (lt-ltb p (bits R) (omega arith)) ∙ and-true (in_word j w p))
        inside p (no n) = in_word_else j w p n ∙ sym (ap (λ (t : Bool). t && ltb p (bits R)) (in_word_else j w p n))

        size : (b : ℕ) → b < 64 → size_by sizes first (64 * j + b) ≡ size_by sizes start b
        size b h = sym (ap (λ (s : ℕ). size_by sizes s b) start_is ∙ ap (λ (k : ℕ). get_or sizes k 0) (size_on first (64 * j) b))

  -- the counts fit 32 bits
  pub retires_fits : (f : ℕ → Bool) (R' M' : List ℕ) (r : Sum) → length R ≤ longest_weighed → ((k : ℕ) → get_or sizes k 0 ≤ 65535)
      → Retires R M sizes first f R' M' r → Fits r
  retires_fits f R' M' r long small h = record {
    newly_fits = omega (arith, long, h.counted, weigh_le (bits R) 1 (fresh R f) (λ p. 1) (λ p. omega arith));
    alarms_fits = omega (arith, long, h.alarmed, weigh_le (bits R) 1 (fresh R f) (mark_by M) (λ p. mark_light (at M p)));
    bytes_fits = omega (arith, long, h.weighed, weigh_le (bits R) 65535 (fresh R f) (size_by sizes first) (λ p. small _));
  }
