-- 02, No. 8, of every record that a start and its events leave: the fourth value of a SACK's line is "the number of PSNs that were marked before
-- and are retired by this SACK". It is said over all PSNs and by the record before and the record after alone, and so is the count of the
-- newly retired. Assumes nothing.
use mathlib.Core.Path.{◌≡◌, refl, sym, ap, ap₂, ◌∙◌}
use mathlib.Core.Bool.{Bool, true, false, not, cond, ◌&&◌}
use mathlib.Core.List.{List, [], ◌∷◌, map}
use Prim.Native.Nat.{ℕ, zero, suc, ◌+◌, ◌-◌, ◌≤◌, ◌<◌}
use native.Mathlib.Omega.{arith}
use native.Mathlib.Nat.{zero-add}
use native.Mathlib.Decide.{dec_lt}
use lib.ListN.{length, get_or, drop, length-drop, length-map, get_or-map}
use lib.Seq.{get_or-drop}
use Rattle.psn.specs.declared.Psn.{Psn}
use Rattle.psn.proofs.Circle.{after_lt, after_after, ahead, back}
use Rattle.lists.specs.Index.{total, weigh, tally}
use Rattle.lists.specs.Lists.{lead}
use Rattle.lists.proofs.Index.{total_same, total_none, total_add, total_first, total_window, tally_both}
use Rattle.lists.proofs.Joined.{never_true}
use Rattle.lists.proofs.Lists.{lead_le, in_range, map_drop}
use Rattle.rules.specs.Numbers.{turn, after, distance}
use Rattle.rules.specs.Sender.{Entry, Sender, outstanding, nth, index, new}
use Rattle.rules.specs.Retire.{retire, retired, is_retired, over_newly, settle, named, after_sack, report, acknowledged}
use Rattle.rules.specs.Sending.{sack, sack_refusals}
use Rattle.rules.specs.Paper.{paper}
use Rattle.rules.specs.Kept.{Sends}
use Rattle.rules.specs.declared.Block.{Block}
use Rattle.promise.specs.Outcome.{left, on_paper}
use Rattle.promise.proofs.Refusing.{through}
use Rattle.rules.proofs.Allowed.{room_numbers}
use Rattle.rules.proofs.Sends.{length_retire}

-- ---- what is said of a PSN by a record
abbrev unretired : Entry → Bool
unretired e = not e.retired

abbrev is_marked : Entry → Bool
is_marked e = e.marked

-- it is outstanding and not retired; it is marked
abbrev pub waits : Sender → ℕ → Bool
waits x p = get_or (map unretired x.entries) (index x p) false

abbrev pub marked : Sender → ℕ → Bool
marked x p = get_or (map is_marked x.entries) (index x p) false

-- retired by what has made y of x: it waited, and waits no more
abbrev pub retired_by : Sender → Sender → ℕ → Bool
retired_by x y p = waits x p && not (waits y p)

-- a false alarm: "marked before", and retired
abbrev pub alarm : Sender → Sender → ℕ → Bool
alarm x y p = retired_by x y p && marked x p

-- ---- the entries, one by one
-- whatever is counted of the newly retired, by what waits before and after
waited : (w : Entry → ℕ) (f : ℕ → Bool) (l : List Entry) (d : Entry)
    → over_newly w f l
    ≡ weigh (length l) (λ i. get_or (map unretired l) i false && not (get_or (map unretired (retire f l)) i false)) (λ i. w (get_or l i d))
unfolding over_newly retire total
waited w f [] d = refl
waited w f (e ∷ l) d =
    ap₂ (λ (m n : ℕ). m + n) (first (f zero) e.retired refl) (waited w (λ i. f (suc i)) l d) ∙ sym (total_first (length l) _)
  where
    first : (b r : Bool) → e.retired ≡ r
        → ◌≡◌ {A = ℕ} (cond (b && not e.retired) (w e) 0) (cond (not e.retired && not (not (cond b (retired e) e).retired)) (w e) 0)
    first true true q = rw q
    first true false q = rw q
    first false true q = rw q
    first false false q = rw q

-- what lies past the end, and what the place moves over, does not wait
past_end : (l : List Entry) (i : ℕ) → length l ≤ i → get_or (map unretired l) i false ≡ false
past_end l i h = never_true _ (λ e. omega (arith, in_range (map unretired l) i e, length-map l unretired))

passed_over : (l : List Entry) (i : ℕ) → i < lead (map is_retired l) → get_or (map unretired l) i false ≡ false
unfolding lead
passed_over [] i h = refl
passed_over (e ∷ l) i h = by e.retired i h (passed_over l)
  where
    by : (r : Bool) (i : ℕ) → i < lead (r ∷ map is_retired l)
        → ((j : ℕ) → j < lead (map is_retired l) → get_or (map unretired l) j false ≡ false) → get_or (not r ∷ map unretired l) i false ≡ false
    by true zero h rest = refl
    by true (suc i) h rest = rest i (omega arith)
    by false i h rest = absurd (omega arith)

-- a sum over all PSNs may begin anywhere
near : (a i : ℕ) → a + i < turn → after a i ≡ a + i
unfolding after
near a i l = omega arith

wrapped : (a i : ℕ) → a < turn → i < a → after a (turn - a + i) ≡ i
unfolding after
wrapped a i h l = omega arith

rotated : (a : ℕ) (g : ℕ → ℕ) → a < turn → total turn (λ i. g (after a i)) ≡ total turn g
rotated a g h =
    let r = turn - a in
    let up : turn ≡ r + a = omega arith in
    let down : turn ≡ a + r = omega arith in
    ap (λ (n : ℕ). total n (λ i. g (after a i))) up ∙ total_add r a (λ i. g (after a i))
    ∙ ap₂ (λ (m n : ℕ). m + n) (total_same r _ (λ i. g (a + i)) (λ i l. ap g (near a i (omega arith))))
    (total_same a _ g (λ i l. ap g (wrapped a i h l)))
    ∙ swap (total r (λ i. g (a + i))) (total a g) ∙ sym (total_add a r g) ∙ ap (λ (n : ℕ). total n g) (sym down)
  where
    swap : (m n : ℕ) → m + n ≡ n + m
    swap m n = omega arith

-- ---- the two records
module _ (x : Sender) (cack : ℕ) (b : Block) (k : Sends x) where
  abbrev n : ℕ
  n = outstanding x

  abbrev l : List Entry
  l = retire (named x cack b) x.entries

  abbrev m : ℕ
  m = lead (map is_retired l)

  few : n + n < turn
  few = omega (arith, k.room_left, (room_numbers x.room k.room_good).most)

  -- entry i is that of the i-th PSN
  index_nth : (i : ℕ) → i < turn → index x (nth x i) ≡ i
  unfolding index
  index_nth i h = ahead x.place 1 (1 + i) (omega arith) (omega arith) ∙ omega arith

  waits_before : (i : ℕ) → i < turn → waits x (nth x i) ≡ get_or (map unretired x.entries) i false
  waits_before i h = ap (λ (j : ℕ). get_or (map unretired x.entries) j false) (index_nth i h)

  -- once the place has moved on by m
  index_after : (i : ℕ) → index (after_sack x cack b) (nth x i) ≡ distance (after x.place (m + 1)) (after x.place (1 + i))
  unfolding index after_sack settle
  index_after i = ap (λ (a : ℕ). distance a (after x.place (1 + i))) (after_after x.place m 1)

  m_few : m ≤ n
  m_few = omega (arith, lead_le (map is_retired l), length-map l is_retired, length_retire (named x cack b) x.entries)

  left_few : length (drop m l) ≤ n
  left_few = rw length-drop (omega (arith, length_retire (named x cack b) x.entries))

  waits_after : (i : ℕ) → i < n → waits (after_sack x cack b) (nth x i) ≡ get_or (map unretired l) i false
  unfolding after_sack settle
  waits_after i h = ap (λ (j : ℕ). get_or (map unretired (drop m l)) j false) (index_after i) ∙ go (dec_lt i m)
    where
      go : Dec (i < m) → get_or (map unretired (drop m l)) (distance (after x.place (m + 1)) (after x.place (1 + i))) false ≡ get_or (map unretired l) i false
      go (yes q) =
          let far = back x.place (m + 1) (1 + i) (omega arith) (omega (arith, few, m_few)) in
          past_end (drop m l) _ (omega (arith, far, few, m_few, left_few)) ∙ sym (passed_over l i q)
      go (no q) =
          let on = ahead x.place (m + 1) (1 + i) (omega arith) (omega (arith, few)) in
          let same : m + (1 + i - (m + 1)) ≡ i = omega arith in
          ap (λ (j : ℕ). get_or (map unretired (drop m l)) j false) on
          ∙ ap (λ (bs : List Bool). get_or bs (1 + i - (m + 1)) false) (map_drop unretired m l)
          ∙ get_or-drop m (map unretired l) (1 + i - (m + 1)) false ∙ ap (λ (j : ℕ). get_or (map unretired l) j false) same

  -- ---- from the entries to all PSNs: those that are not outstanding do not wait
  around : (g : ℕ → ℕ) → ((i : ℕ) → n ≤ i → i < turn → g (nth x i) ≡ 0) → total n (λ i. g (nth x i)) ≡ total turn g
  around g none =
      total_same n _ _ (λ i h. ap (λ (j : ℕ). g (nth x j)) (sym (zero-add i)))
      ∙ sym (total_window 0 n turn (λ i. g (nth x i)) (λ i h. absurd (omega arith)) (λ i h j. none i (omega arith) j) (omega (arith, few)))
      ∙ total_same turn _ _ (λ i h. ap g (sym (after_after x.place 1 i))) ∙ rotated (after x.place 1) g (after_lt x.place 1)

  -- a weight of each PSN that is the weight of its entry
  over_all : (w : Entry → ℕ) (v : ℕ → ℕ) → ((i : ℕ) → i < n → v (nth x i) ≡ w (get_or x.entries i (new 0)))
      → over_newly w (named x cack b) x.entries ≡ weigh turn (retired_by x (after_sack x cack b)) v
  over_all w v same =
      waited w (named x cack b) x.entries (new 0)
      ∙ total_same n _ _ (λ i h. ap₂ (λ (t : Bool) (c : ℕ). cond t c 0)
      (ap₂ (λ (s t : Bool). s && not t) (sym (waits_before i (omega (arith, few)))) (sym (waits_after i h))) (sym (same i h)))
      ∙ around (λ p. cond (retired_by x (after_sack x cack b) p) (v p) 0)
      (λ i h j. ap (λ (t : Bool). cond (t && not (waits (after_sack x cack b) (nth x i))) (v (nth x i)) 0) (waits_before i j ∙ past_end x.entries i h))

  -- "the count of packets newly retired"
  pub newly_are : (report x cack b).newly ≡ tally turn (retired_by x (after_sack x cack b))
  unfolding report
  newly_are = over_all (λ e. 1) (λ p. 1) (λ i h. refl)

  -- "the number of PSNs that were marked before and are retired by this SACK"
  pub alarms_are : (report x cack b).alarms ≡ tally turn (alarm x (after_sack x cack b))
  unfolding report
  alarms_are =
      over_all (λ e. cond e.marked 1 0) (λ p. cond (marked x p) 1 0) (λ i h. ap (λ (t : Bool). cond t 1 0) (marked_is i (omega (arith, few))))
      ∙ sym (tally_both turn (retired_by x (after_sack x cack b)) (marked x))
    where
      marked_is : (i : ℕ) → i < turn → marked x (nth x i) ≡ (get_or x.entries i (new 0)).marked
      marked_is i h = ap (λ (j : ℕ). get_or (map is_marked x.entries) j false) (index_nth i h) ∙ get_or-map is_marked x.entries i (new 0)

-- ---- the line: a SACK that is refused retires nothing, and has no fourth value
pub fourth_value : (x : Sender) (cack : Psn) (b : Block) → Sends x
    → get_or (on_paper paper (sack x cack b)).values 3 0 ≡ tally turn (alarm x (left x (sack x cack b)))
unfolding sack acknowledged on_paper left paper
fourth_value x cack b k =
    through (λ o. get_or (on_paper paper o).values 3 0 ≡ tally turn (alarm x (left x o))) (sack_refusals x cack b) (acknowledged x cack.0 b)
    (λ n. sym (total_none turn _ (λ p h. none (waits x p) (marked x p)))) (λ _. alarms_are x cack.0 b k)
  where
    none : (w m : Bool) → ◌≡◌ {A = ℕ} (cond ((w && not w) && m) 1 0) 0
    none true m = refl
    none false m = refl
