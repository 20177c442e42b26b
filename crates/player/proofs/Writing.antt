-- All that is written, piece after piece, is the text of the rules' replay, whatever the promise of a piece allows. Assumes nothing.
use mathlib.Core.Path.{◌≡◌, ap, ◌∙◌}
use mathlib.Core.List.{List, [], ◌++◌, append_assoc, append-nil}
use Prim.Native.Nat.{ℕ}
use Rattle.rules.specs.Replay.{Replied, Last, stop, replay}
use Rattle.text.specs.Text.{lines_text, last_text, head_text, text_of}
use Rattle.text.proofs.Telling.{lines_more}
use Rattle.player.specs.declared.State.{State}
use Rattle.player.specs.Play.{begin, Plays, stops}
use Rattle.player.specs.Piece.{Writes, ends, goes_on}
use Rattle.player.proofs.Turning.{turns_plays}
use Rattle.player.proofs.Playing.{plays_replay}

-- a text behind a text
behind : (front x y z : List ℕ) {a b xy : List ℕ} → a ≡ front ++ x → b ≡ y ++ z → xy ≡ x ++ y → a ++ b ≡ front ++ (xy ++ z)
behind front x y z p q r = rw (p, q, r) (simp append_assoc)

-- the lines and the last line of all turns that are left
writes_plays : (log : List ℕ) {x : State} {front text : List ℕ} → Writes log x front text
    → (l : List Replied) × (last : Last) × Plays log x l last × (text ≡ front ++ (lines_text l ++ last_text last))
writes_plays log (ends {y = y} from before r after e p m) =
    let t = p.text in
    let u = t.ends m in
    (t.lines ++ [], stop u.0 y.place y.count, turns_plays t.turns (stops u.0 u.1), u.2 ∙ rw (e, append-nil t.lines))
writes_plays log (goes_on {front = front} from before r after e p m w) =
    let t = p.text in
    let u = writes_plays log w in (
      t.lines ++ u.0,
      u.1,
      turns_plays t.turns u.2,
      behind front (lines_text t.lines) (lines_text u.0) (last_text u.1)
          (t.goes_on m ∙ ap (λ (f : List ℕ). f ++ lines_text t.lines) e) u.3 (lines_more t.lines u.0),
    )

pub writes_replay : (log text : List ℕ) → Writes log begin head_text text → text ≡ text_of (replay log)
unfolding text_of
writes_replay log text w =
    let p = writes_plays log w in
    p.3 ∙ ap text_of (plays_replay log p.0 p.1 p.2)
