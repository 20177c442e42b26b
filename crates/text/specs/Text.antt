-- 01, The event log: "writes `mrc log 1`, then a line per record: kind, answer and, if 0, values .. All decimal, single spaces. Last
-- `end N` .. or instead `log R at O`". Text is a list of ASCII codes.
use Rattle.std.specs.Prelude.{cond, List, [], ◌∷◌, ◌++◌, ℕ, eqb}
use Rattle.rules.specs.Numbers.{longest_log}
use Rattle.rules.specs.Replay.{Replied, Last, End, Log, Replayed, line}
use Rattle.lines.specs.Text.{decimal}

-- each number in decimal behind a space
unfoldable pub spaced : List ℕ → List ℕ
spaced [] = []
spaced (n ∷ l) = (32 ∷ decimal n) ++ spaced l

-- numbers in decimal with single spaces between them, and the end of the line
unfoldable pub line_text : List ℕ → List ℕ
line_text [] = 10 ∷ []
line_text (n ∷ l) = decimal n ++ (spaced l ++ (10 ∷ []))

-- a line for each record, one behind the other
unfoldable pub lines_text : List Replied → List ℕ
lines_text [] = []
lines_text (l ∷ s) = line_text (line l) ++ lines_text s

-- `end N`, or `log R at O`
unfoldable pub last_text : Last → List ℕ
last_text (End n) = (101 ∷ 110 ∷ 100 ∷ []) ++ (spaced (n ∷ []) ++ (10 ∷ []))
last_text (Log r o) = (108 ∷ 111 ∷ 103 ∷ []) ++ (spaced (r ∷ []) ++ ((32 ∷ 97 ∷ 116 ∷ []) ++ (spaced (o ∷ []) ++ (10 ∷ []))))

-- "O the offset of the bad record's first byte", or "32768 for 13"
abbrev pub offset_of : ℕ → ℕ → ℕ
offset_of n place = cond (eqb n 13) longest_log place

-- `mrc log 1`
abbrev pub head_text : List ℕ
head_text = 109 ∷ 114 ∷ 99 ∷ 32 ∷ 108 ∷ 111 ∷ 103 ∷ 32 ∷ 49 ∷ 10 ∷ []

-- the whole text of a log
unfoldable pub text_of : Replayed → List ℕ
text_of r = head_text ++ (lines_text r.lines ++ last_text r.last)

-- the most bytes of a line: 10 numbers of at most 20 digits, with the space or the end of the line behind each
abbrev pub line_room : ℕ
line_room = 210
