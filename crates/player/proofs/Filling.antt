-- What stands in the buffer after some turns: each line behind the one before it, whole, since there was room for it. Assumes nothing.
use mathlib.Core.Path.{◌≡◌, refl, sym, ap, subst, ◌∙◌}
use mathlib.Core.Bool.{true, false, false≢true}
use mathlib.Core.List.{List, [], ◌∷◌, ◌++◌, append_assoc, append-nil}
use Prim.Native.Nat.{ℕ, ◌+◌, ◌-◌, ◌≤◌, ◌<◌, min}
use native.Mathlib.Omega.{arith}
use lib.ListN.{length, take, drop}
use lib.Seq.{length-take-le, drop-drop}
use Rattle.std.proofs.lemmas.List.{take_min}
use Rattle.rules.specs.Log.{read}
use Rattle.rules.specs.Replay.{Replied, line, stop}
use Rattle.rules.specs.Outcomes.{Nothing}
use Rattle.lines.specs.Text.{Puts}
use Rattle.lines.proofs.Room.{puts_whole}
use Rattle.text.specs.Text.{line_text, lines_text, last_text, line_room}
use Rattle.text.proofs.Telling.{line_short, last_short, lines_more, lines_one}
use Rattle.player.specs.declared.State.{State}
use Rattle.player.specs.Play.{Sound, Turned}
use Rattle.player.specs.Piece.{Turns, none, Pieces}
use Rattle.player.proofs.Turning.{turns_further, turns_more}

-- the text of some turns stands behind the first bytes
pub record Filled (log : List ℕ) (x : State) (from : ℕ) (before out : List ℕ) (y : State) (at : ℕ) : Type 0 where
  pub long : length out ≡ length before
  pub within : at ≤ length out
  pub sound : Sound y
  pub lines : List Replied
  pub turns : Turns log x lines y
  pub text : take at out ≡ take from before ++ lines_text lines
  pub later : drop at out ≡ drop at before

pub filled_none : (log : List ℕ) (x : State) (from : ℕ) (before : List ℕ) (at : ℕ) → Sound x → at ≡ min from (length before)
    → Filled log x from before before x at
unfolding lines_text
filled_none log x from before at s e = record {
  long = refl;
  within = omega arith;
  sound = s;
  lines = [];
  turns = none;
  text = ap (λ (n : ℕ). take n before) e ∙ take_min from before ∙ sym (append-nil (take from before));
  later = refl;
}

module _ {log : List ℕ} {x : State} {from : ℕ} {before out : List ℕ} {y : State} {at : ℕ} (f : Filled log x from before out y at) where
  -- what is put from there on leaves the bytes behind it as they were
  still_later : (after : List ℕ) (p : ℕ) → at ≤ p → drop p after ≡ drop p out → drop p after ≡ drop p before
  still_later after p h e =
      let sum : at + (p - at) ≡ p = omega arith in
      let behind : drop p out ≡ drop p before =
      subst (λ (n : ℕ). drop n out ≡ drop n before) sum
      (sym (drop-drop (p - at) at out) ∙ ap (λ (l : List ℕ). drop (p - at) l) f.later ∙ drop-drop (p - at) at before) in
      e ∙ behind

  -- one line more
  pub filled_more : {z : State} {r : Replied} {after : List ℕ} {p : ℕ} → Turned log y r z → line_room ≤ length out - at
      → Puts out at (line_text (line r)) after p → Filled log x from before after z p
  filled_more {z} {r} {after} {p} t h q =
      let short = line_short r in
      let w = puts_whole q (omega (arith, f.within)) in
      let text = lines_more f.lines (r ∷ []) ∙ ap (λ (u : List ℕ). lines_text f.lines ++ u) (lines_one r) in
      record {
        long = w.long ∙ f.long;
        within = omega (arith, w.long, w.index, f.within);
        sound = t.sound;
        lines = f.lines ++ (r ∷ []);
        turns = turns_more f.turns t;
        text = w.bytes ∙ rw (f.text, text, append_assoc);
        later = still_later after p (omega (arith, w.index)) w.later;
      }

  -- where another line might not fit, and one did before, there is one
  some_line : (l : List Replied) → take at out ≡ take from before ++ lines_text l → from + line_room ≤ length before → length out - at < line_room
      → 0 < length l
  unfolding lines_text
  some_line [] e h k =
      let first = length-take-le at out f.within in
      let second = length-take-le from before (omega arith) in
      let same = ap length e ∙ ap length (append-nil (take from before)) in
      absurd (omega (arith, f.long))
  some_line (r ∷ l) e h k = omega arith

  pub filled_goes_on : length out - at < line_room → Pieces log x from before (record { length = at; more = true }) y out
  filled_goes_on h = record {
    long = f.long;
    fits = f.within;
    text = record { lines = f.lines; turns = f.turns; goes_on = λ _. f.text; ends = λ e. absurd (false≢true (sym e)) };
    later = f.later;
    full = λ _. omega (arith, f.long);
    sound = f.sound;
    further = λ _ k. turns_further f.turns (some_line f.lines f.text k h);
  }

  -- the last line
  pub filled_ends : {n : ℕ} {after : List ℕ} {p : ℕ} → read log y.place ≡ Nothing n → line_room ≤ length out - at
      → Puts out at (last_text (stop n y.place y.count)) after p
      → Pieces log x from before (record { length = p; more = false }) y after
  filled_ends {n} {after} {p} e h q =
      let last = stop n y.place y.count in
      let short = last_short last in
      let w = puts_whole q (omega (arith, f.within)) in
      record {
        long = w.long ∙ f.long;
        fits = omega (arith, w.long, w.index, f.within);
        text = record {
          lines = f.lines;
          turns = f.turns;
          goes_on = λ m. absurd (false≢true m);
          ends = λ _. (n, e, w.bytes ∙ rw (f.text, append_assoc));
        };
        later = still_later after p (omega (arith, w.index)) w.later;
        full = λ e. absurd (false≢true e);
        sound = f.sound;
        further = λ e. absurd (false≢true e);
      }
