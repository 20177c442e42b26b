-- The text of a line is that of its parts, one behind the other, and every line fits in its room. Assumes nothing.
use mathlib.Core.Path.{◌≡◌, refl, ◌∙◌}
use mathlib.Core.List.{List, [], ◌∷◌, ◌++◌, append_assoc, append-nil}
use Prim.Native.Nat.{ℕ, zero, suc, ◌*◌, ◌≤◌}
use native.Mathlib.Omega.{arith}
use lib.ListN.{length, take, replicate, length-append}
use lib.Seq.{take-take, take-append_seam}
use Rattle.std.specs.Prelude.{Ok, Err}
use Rattle.promise.specs.Promise.{told}
use Rattle.rules.specs.Paper.{paper, Reply, reply_line}
use Rattle.rules.specs.Replay.{Replied, Last, End, Log, line, stop}
use Rattle.rules.specs.declared.Answer.TheVariants as answer
use Rattle.paper.specs.Shown.{most}
use Rattle.lines.specs.Text.{decimal}
use Rattle.lines.proofs.Room.{decimal_short}
use Rattle.text.specs.Text.{spaced, line_text, lines_text, last_text, offset_of, line_room}

-- one number more
pub spaced_more : (l m : List ℕ) → spaced (l ++ m) ≡ spaced l ++ spaced m
unfolding spaced
spaced_more [] m = refl
spaced_more (n ∷ l) m = rw (spaced_more l m, append_assoc)

pub spaced_one : (n : ℕ) → spaced (n ∷ []) ≡ 32 ∷ decimal n
unfolding spaced
spaced_one n = append-nil (32 ∷ decimal n)

-- lines behind lines
pub lines_more : (l m : List Replied) → lines_text (l ++ m) ≡ lines_text l ++ lines_text m
unfolding lines_text
lines_more [] m = refl
lines_more (r ∷ l) m = rw (lines_more l m, append_assoc)

pub lines_one : (l : Replied) → lines_text (l ∷ []) ≡ line_text (line l)
unfolding lines_text
lines_one l = append-nil (line_text (line l))

-- the texts of the calls, one behind the other
pub line_is : (kind number : ℕ) (l : List ℕ)
    → ((decimal kind ++ (32 ∷ decimal number)) ++ spaced l) ++ (10 ∷ []) ≡ line_text (kind ∷ number ∷ l)
unfolding line_text spaced
line_is kind number l = simp append_assoc

pub end_is : (n place count : ℕ) → n ≡ 0
    → ((101 ∷ 110 ∷ 100 ∷ []) ++ (32 ∷ decimal count)) ++ (10 ∷ []) ≡ last_text (stop n place count)
unfolding stop last_text
end_is n place count h = rw (h, spaced_one)

pub log_is : (n place count : ℕ) → (n ≡ 0 → ⊥)
    → ((((108 ∷ 111 ∷ 103 ∷ []) ++ (32 ∷ decimal n)) ++ (32 ∷ 97 ∷ 116 ∷ [])) ++ (32 ∷ decimal (offset_of n place))) ++ (10 ∷ [])
    ≡ last_text (stop n place count)
unfolding stop last_text
log_is zero place count h = absurd (h refl)
log_is (suc n) place count h = simp (spaced_one, append_assoc)

-- a reply has at most 8 values
pub values_few : (r : Reply) → length (reply_line r).values ≤ most
unfolding told paper
values_few (Err e) = omega arith
values_few (Ok answer.Started) = omega arith
values_few (Ok answer.Closed) = omega arith
values_few (Ok (answer.Sent p)) = omega arith
values_few (Ok (answer.Acked v k)) = omega arith
values_few (Ok (answer.Nacked v k)) = omega arith
values_few (Ok (answer.Retired k)) = omega arith
values_few (Ok (answer.Marked n)) = omega arith
values_few (Ok (answer.Expired n)) = omega arith
values_few (Ok (answer.Resent p)) = omega arith

-- of the code's array the first are the reply's values
pub values_are : (l : List ℕ) → length l ≤ most → take (length l) (take most (l ++ replicate most 0)) ≡ l
values_are l h = take-take (length l) most (l ++ replicate most 0) h ∙ take-append_seam l (replicate most 0)

-- every line fits
spaced_short : (l : List ℕ) → length (spaced l) ≤ 21 * length l
unfolding spaced
spaced_short [] = omega arith
spaced_short (n ∷ l) = rw length-append (omega (arith, decimal_short n, spaced_short l))

pub line_short : (l : Replied) → length (line_text (line l)) ≤ line_room
unfolding line line_text
line_short l =
    rw (length-append, length-append)
    (omega (arith, decimal_short l.kind, spaced_short ((reply_line l.answer).number ∷ (reply_line l.answer).values), values_few l.answer))

pub last_short : (e : Last) → length (last_text e) ≤ line_room
unfolding last_text
last_short (End n) = simp length-append (omega (arith, spaced_short (n ∷ [])))
last_short (Log r o) = simp length-append (omega (arith, spaced_short (r ∷ []), spaced_short (o ∷ [])))
