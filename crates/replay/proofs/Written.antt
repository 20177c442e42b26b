-- How many bytes are written, piece after piece: with those still to come, as many as the whole text has. Assumes nothing.
use mathlib.Core.Path.{◌≡◌, refl, sym, ap, subst, ◌∙◌}
use mathlib.Core.Bool.{true, false}
use mathlib.Core.List.{List, ◌++◌}
use Prim.Native.Nat.{ℕ, ◌+◌, ◌*◌, ◌≤◌}
use native.Mathlib.Omega.{arith}
use lib.ListN.{length, take, length-append}
use lib.Seq.{length-take-le}
use Rattle.rules.specs.Replay.{replay}
use Rattle.lines.specs.Text.{Puts}
use Rattle.lines.proofs.Room.{puts_whole}
use Rattle.text.specs.Text.{head_text, text_of, line_room}
use Rattle.player.specs.declared.State.{State}
use Rattle.player.specs.declared.Piece.{Piece}
use Rattle.player.specs.Play.{begin, Sound}
use Rattle.player.specs.Piece.{Pieces, Writes, ends, goes_on}
use Rattle.player.proofs.Turning.{begin_sound}
use Rattle.player.proofs.Writing.{writes_replay}

-- the room for the text between two writes
abbrev pub buffer : ℕ
buffer = 65536

-- so many bytes are written, and with any that are written from here on it is a whole run. At most a buffer is written for each byte
-- of the log that is read.
pub record Written (log out : List ℕ) (at : ℕ) (x : State) (total : ℕ) : Type 0 where
  pub long : length out ≡ buffer
  pub low : at + line_room ≤ length out
  pub sound : Sound x
  pub within : x.place ≤ length log
  pub few : total ≤ buffer * x.place
  pub rest : (text : List ℕ) → Writes log x (take at out) text
      → (all : List ℕ) × Writes log begin head_text all × (total + length text ≡ length all)

pub written_none : (log : List ℕ) {before out : List ℕ} {at : ℕ} {x : State} → length before ≡ buffer → Puts before 0 head_text out at → x ≡ begin
    → Written log out at x 0
written_none log {out = out} {at = at} h p e =
    let w = puts_whole p (omega arith) in
    subst (λ (y : State). Written log out at y 0) (sym e)
    (record {
      long = w.long ∙ h;
      low = omega (arith, w.long, w.index);
      sound = begin_sound;
      within = omega arith;
      few = omega arith;
      rest = λ text r. (text, subst (λ (f : List ℕ). Writes log begin f text) w.bytes r, omega arith);
    })

-- a piece more, whose bytes are n
module _ {log out : List ℕ} {at : ℕ} {x : State} {total : ℕ} (w : Written log out at x total) {r : Piece} {y : State} {after : List ℕ}
    (p : Pieces log x at out r y after) {n : ℕ} (h : n ≡ length (take r.length after)) where
  pub written_more : r.more ≡ true → Written log after 0 y (total + n)
  written_more m =
      let further = p.further m w.low in
      record {
        long = p.long ∙ w.long;
        low = omega (arith, p.long, w.long);
        sound = p.sound;
        within = further.1;
        few = omega (arith, h, p.fits, p.long, w.long, w.few, length-take-le r.length after p.fits);
        rest = λ text v.
            let all = w.rest (take r.length after ++ text) (goes_on at out r after refl p m v) in
            (all.0, all.1, omega (arith, h, all.2, length-append (take r.length after) text));
      }

  pub written_ends : r.more ≡ false → total + n ≡ length (text_of (replay log))
  written_ends m =
      let all = w.rest (take r.length after) (ends at out r after refl p m) in
      omega (arith, h, all.2, ap length (writes_replay log all.0 all.1))
