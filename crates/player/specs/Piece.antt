-- What a piece of the text promises, and what the pieces that `write` makes amount to.
use Rattle.std.specs.Prelude.{◌≡◌, true, false, List, [], ◌∷◌, ◌++◌, ℕ, ◌+◌, ◌-◌, ◌≤◌, ◌<◌, length, take, drop}
use Rattle.rules.specs.Log.{read}
use Rattle.rules.specs.Replay.{Replied, stop}
use Rattle.rules.specs.Outcomes.{Nothing}
use Rattle.text.specs.Text.{lines_text, last_text, line_room}
use Rattle.player.specs.declared.State.{State}
use Rattle.player.specs.declared.Piece.{Piece}
use Rattle.player.specs.Play.{Sound, Turned}

-- turns that answer these lines lead from one state to the other
pub data Turns (log : List ℕ) : State → List Replied → State → Type 0 where
  none : {x : State} → Turns log x [] x
  one_more : {x y z : State} {l : Replied} {rest : List Replied} → Turned log x l y → Turns log y rest z → Turns log x (l ∷ rest) z

-- the lines of some turns, which lead from x to y, where the replay stands after the piece; where no more follows, nothing is read there, and the
-- last line stands behind them
pub record Tells (log : List ℕ) (x : State) (front : List ℕ) (r : Piece) (y : State) (text : List ℕ) : Type 0 where
  pub lines : List Replied
  pub turns : Turns log x lines y
  pub goes_on : r.more ≡ true → text ≡ front ++ lines_text lines
  pub ends : r.more ≡ false → (n : ℕ) × (read log y.place ≡ Nothing n) × (text ≡ front ++ (lines_text lines ++ last_text (stop n y.place y.count)))

-- what `fill` promises: the buffer keeps its length; its first bytes, as many as the piece says, are those before the index and the text
-- of the turns from x on, and the bytes behind them stay. More follows only where another line might not fit, and where one did at first,
-- the place in the log goes on.
pub record Pieces (log : List ℕ) (x : State) (from : ℕ) (before : List ℕ) (r : Piece) (y : State) (after : List ℕ) : Type 0 where
  pub long : length after ≡ length before
  pub fits : r.length ≤ length after
  pub text : Tells log x (take from before) r y (take r.length after)
  pub later : drop r.length after ≡ drop r.length before
  pub full : r.more ≡ true → length before - r.length < line_room
  pub sound : Sound y
  pub further : r.more ≡ true → from + line_room ≤ length before → (x.place < y.place) × (y.place ≤ length log)

-- This is the loop of `write`: all that it writes from x on, where `front` stands in the buffer already. Each piece is any that its
-- promise allows, and what it takes of the buffer is written; the next begins at the buffer's start.
pub data Writes (log : List ℕ) : State → List ℕ → List ℕ → Type 0 where
  ends : {x y : State} {front : List ℕ} (from : ℕ) (before : List ℕ) (r : Piece) (after : List ℕ) → take from before ≡ front
      → Pieces log x from before r y after → r.more ≡ false → Writes log x front (take r.length after)
  goes_on : {x y : State} {front : List ℕ} (from : ℕ) (before : List ℕ) (r : Piece) (after : List ℕ) {rest : List ℕ} → take from before ≡ front
      → Pieces log x from before r y after → r.more ≡ true → Writes log y [] rest → Writes log x front (take r.length after ++ rest)
