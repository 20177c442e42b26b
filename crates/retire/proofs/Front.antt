-- The rows' front: how far cack reaches, and what is left once the run of retired at the front is known and the words before it have gone.
-- Assumes nothing.
use mathlib.Core.Path.{◌≡◌, refl, sym, ap, ap₂, subst, ◌∙◌}
use mathlib.Core.Bool.{Bool, true, false, not, cond, ◌&&◌, ◌||◌}
use mathlib.Core.List.{List}
use Prim.Native.Nat.{ℕ, ◌+◌, ◌-◌, ◌*◌, ◌/◌, ◌%◌, ◌≤◌, ◌<◌}
use native.Mathlib.Omega.{arith}
use native.Mathlib.Decide.{dec_lt}
use lib.Dec.{leb, ltb}
use borrow.Author.Tests.{le-leb, lt-leb, le-ltb}
use Rattle.psn.specs.Psn.{turn, after, distance}
use Rattle.psn.proofs.Circle.{distance_lt, distance_next}
use Rattle.lists.specs.Index.{First}
use Rattle.lists.proofs.Index.{first_from}
use Rattle.row.specs.Row.{at, bits, is_clear, Becomes}
use Rattle.row.proofs.Rows.{run_from}
use Rattle.rules.specs.declared.Block.{Block}
use Rattle.retire.specs.Rows.{named_by_block, names, nothing, Retires}
use Rattle.retire.specs.Front.{offset, row_first, reach, named_by, retired_then, marked_then, front, Ready, Moves}
use Rattle.retire.specs.declared.Sum.{Sum}
use Rattle.retire.proofs.Words.{retires_alike, retires_nothing}
use Rattle.retire.proofs.Blocks.{no_bits}

-- ---- how far cack reaches, i being its distance from place + 1
module _ (place n cack i : ℕ) (i_is : i ≡ distance (after place 1) cack) (few : n < turn) where
  d_is : distance place cack ≡ (i + 1) % turn
  d_is = distance_next place cack ∙ ap (λ (e : ℕ). (e + 1) % turn) (sym i_is)

  reach_is : (d : ℕ) → (i + 1) % turn ≡ d → reach place n cack ≡ offset place + cond (leb d n) d 0
  reach_is d e = ap (λ (m : ℕ). offset place + cond (leb m n) m 0) (d_is ∙ e)

  -- it is one of the n
  pub reaches : i < n → reach place n cack ≡ offset place + 1 + i
  reaches l = reach_is (i + 1) (omega arith) ∙ ap (λ (b : Bool). offset place + cond b (i + 1) 0) (le-leb (i + 1) n (omega arith)) ∙ omega arith

  -- it is none: the place itself, unsent or behind
  pub reaches_none : n ≤ i → reach place n cack ≡ offset place
  reaches_none l = go (dec_lt (i + 1) turn)
    where
      go : Dec (i + 1 < turn) → reach place n cack ≡ offset place
      go (yes k) =
          reach_is (i + 1) (omega arith) ∙ ap (λ (b : Bool). offset place + cond b (i + 1) 0) (lt-leb (i + 1) n (omega arith)) ∙ omega arith
      go (no k) =
          reach_is 0 (omega (arith, i_is, distance_lt (after place 1) cack)) ∙ ap (λ (b : Bool). offset place + cond b 0 0) (le-leb 0 n (omega arith)) ∙ omega arith

-- ---- what is before the place may be named or not: it is retired and unmarked
module _ (retired marked sizes : List ℕ) (place n : ℕ) (ready : Ready retired marked sizes place n) (b : Block) (R M : List ℕ) (out : Sum) where
  before_place : Retires retired marked sizes (row_first place) (names (row_first place) 0 b) R M out
      → Retires retired marked sizes (row_first place) (names (row_first place) (offset place) b) R M out
  unfolding names
  before_place =
      retires_alike retired marked sizes (row_first place) (names (row_first place) 0 b) (names (row_first place) (offset place) b) R M out
      ready.marked_long (λ p l. known p (dec_lt p (offset place))) (λ p l. clear p (dec_lt p (offset place)))
    where
      past : (p : ℕ) → offset place ≤ p → names (row_first place) 0 b p ≡ names (row_first place) (offset place) b p
      past p l = ap (λ (t : Bool). t || named_by_block (row_first place) b p) (le-ltb p 0 (omega arith) ∙ sym (le-ltb p (offset place) l))

      known : (p : ℕ) → Dec (p < offset place)
          → (at retired p || names (row_first place) 0 b p) ≡ (at retired p || names (row_first place) (offset place) b p)
      known p (yes l) = rw (ready.before p l)
      known p (no l) = ap (λ (t : Bool). at retired p || t) (past p (omega arith))

      clear : (p : ℕ) → Dec (p < offset place)
          → (at marked p && not (names (row_first place) 0 b p)) ≡ (at marked p && not (names (row_first place) (offset place) b p))
      clear p (yes l) = rw (ready.unmarked p l)
      clear p (no l) = ap (λ (t : Bool). at marked p && not t) (past p (omega arith))

-- ---- the rows as `retire` leaves them, from the numbers that it was called with
module _ (retired marked sizes : List ℕ) (place n cack : ℕ) (b : Block) (R M : List ℕ) (out : Sum) (first upto : ℕ) (first_is : first ≡ row_first place)
    (done : Retires retired marked sizes first (names first upto b) R M out) where
  pub at_reach : (u : ℕ) → upto ≡ u → Retires retired marked sizes (row_first place) (names (row_first place) u b) R M out
  at_reach u e =
      subst (λ (v : ℕ). Retires retired marked sizes (row_first place) (names (row_first place) v b) R M out) e
      (subst (λ (a : ℕ). Retires retired marked sizes a (names a upto b) R M out) first_is done)

  pub at_place : Ready retired marked sizes place n → upto ≡ 0 → reach place n cack ≡ offset place
      → Retires retired marked sizes (row_first place) (named_by place n cack b) R M out
  at_place ready e there =
      subst (λ (v : ℕ). Retires retired marked sizes (row_first place) (names (row_first place) v b) R M out) (sym there)
      (before_place retired marked sizes place n ready b R M out (at_reach 0 e))

-- ---- the rows once what f names is retired
module _ (retired marked sizes : List ℕ) (place n : ℕ) (f : ℕ → Bool) (ready : Ready retired marked sizes place n) (R M : List ℕ) (out : Sum)
    (rows : Retires retired marked sizes (row_first place) f R M out) where
  pub then_before : (p : ℕ) → p < offset place → at R p ≡ true
  then_before p l = rows.retired_are.bits_are p ∙ ap (λ (b : Bool). b || f p && ltb p (bits retired)) (ready.before p l)

  -- t is their lowest bit that is not
  module _ (t : ℕ) (run : First (is_clear R) (offset place + n) t) where
    pub past_place : offset place ≤ t
    past_place = run_from R (offset place) (offset place + n) t run (omega arith) then_before

    moved : First (λ i. not (retired_then retired f (offset place + i))) n (t - offset place)
    moved =
        let first = first_from (is_clear R) (offset place) n t run past_place in
        let same : (i : ℕ) → is_clear R (offset place + i) ≡ not (retired_then retired f (offset place + i)) =
        λ i. ap not (rows.retired_are.bits_are (offset place + i)) in
        record {
          within = first.within;
          none = λ i l. sym (same i) ∙ first.none i l;
          here = λ l. sym (same (t - offset place)) ∙ first.here l;
        }

    front_is : 64 * (t / 64) ≡ front place (t - offset place)
    front_is = ap (λ (u : ℕ). 64 * (u / 64)) (omega (arith, past_place))

    -- whole words go
    module _ (R'' M'' : List ℕ) (R_shed : Becomes R R'' (λ p. at R (64 * (t / 64) + p))) (M_shed : Becomes M M'' (λ p. at M (64 * (t / 64) + p))) where
      pub moves : Moves retired marked sizes place n f R'' M'' (record { sum = out; by = t - offset place })
      moves = record {
        moved = moved;
        retired_are = record {
          long = R_shed.long ∙ rows.retired_are.long;
          bits_are = λ p. R_shed.bits_are p ∙ rows.retired_are.bits_are (64 * (t / 64) + p) ∙ ap (λ (u : ℕ). retired_then retired f (u + p)) front_is;
        };
        marked_are = record {
          long = M_shed.long ∙ rows.marked_are.long;
          bits_are = λ p. M_shed.bits_are p ∙ rows.marked_are.bits_are (64 * (t / 64) + p) ∙ ap (λ (u : ℕ). marked_then marked f (u + p)) front_is;
        };
        counted = rows.counted;
        alarmed = rows.alarmed;
        weighed = rows.weighed;
      }

-- ---- a SACK without a bit whose cack reaches no further than the place
module _ (retired marked sizes : List ℕ) (place n cack : ℕ) (b : Block) (ready : Ready retired marked sizes place n)
    (none : b.bitmap ≡ 0) (there : reach place n cack ≡ offset place) where
  abbrev f : ℕ → Bool
  f = named_by place n cack b

  unnamed : (p : ℕ) → p < bits retired → names (row_first place) 0 b p ≡ false
  unfolding names
  unnamed p l = ap₂ (λ (s t : Bool). s || t) (le-ltb p 0 (omega arith)) (no_bits (row_first place) b p none)

  rows : Retires retired marked sizes (row_first place) f retired marked nothing
  rows =
      at_place retired marked sizes place n cack b retired marked nothing (row_first place) 0 refl
      (retires_nothing retired marked sizes (row_first place) (names (row_first place) 0 b) nothing ready.marked_long unnamed refl) ready refl there

  stays : First (is_clear retired) (offset place + n) (offset place)
  stays = record { within = omega arith; none = λ i l. ap not (ready.before i l); here = λ l. ap not ready.first_open }

  whole : (W : List ℕ) → Becomes W W (λ p. at W (64 * (offset place / 64) + p))
  whole W = record { long = refl; bits_are = λ p. ap (at W) (omega arith) }

  pub nothing_moves : Moves retired marked sizes place n f retired marked (record { sum = nothing; by = 0 })
  nothing_moves =
      let still : offset place - offset place ≡ 0 = omega arith in
      subst (λ (m : ℕ). Moves retired marked sizes place n f retired marked (record { sum = nothing; by = m })) still
      (moves retired marked sizes place n f ready retired marked nothing rows (offset place) stays retired marked (whole retired) (whole marked))
