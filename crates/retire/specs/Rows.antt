-- A SACK over rows of words: bit p of a row is the packet number p after `first`.
use Rattle.std.specs.Prelude.{◌≡◌, Bool, not, cond, ◌&&◌, ◌||◌, List, ℕ, ◌+◌, ◌/◌, ◌%◌, ◌^◌, ◌≤◌, ◌<◌, leb, ltb, eqb, length, get_or}
use Rattle.psn.specs.Psn.{half, after}
use Rattle.lists.specs.Index.{tally, weigh}
use Rattle.word.specs.Word.{bit_at, Bits, only_in}
use Rattle.row.specs.Row.{at, bits, Becomes}
use Rattle.rules.specs.Numbers.{largest_room}
use Rattle.rules.specs.Retire.{has_bit}
use Rattle.rules.specs.declared.Block.{Block}
use Rattle.retire.specs.declared.Retired.{Retired}
use Rattle.retire.specs.declared.Sum.{Sum}

-- does the i-th PSN after a given one lie n or more ahead of it, and not behind it
abbrev pub ahead : ℕ → ℕ → Bool
ahead n i = leb n i && not (leb half i)

-- is bit p named by a set bit of the block
abbrev pub named_by_block : ℕ → Block → ℕ → Bool
named_by_block first b p = has_bit b (after first p)

-- is it named: below upto, or so
unfoldable pub names : ℕ → ℕ → Block → ℕ → Bool
names first upto b p = ltb p upto || named_by_block first b p

-- the bits of the word w, as the j-th of a row
abbrev pub in_word : ℕ → ℕ → ℕ → Bool
in_word j w p = eqb (p / 64) j && bit_at w (p % 64)

-- the size of the packet number of bit p: sizes stand by PSN modulo the largest room
abbrev pub size_by : List ℕ → ℕ → ℕ → ℕ
size_by sizes first p = get_or sizes ((first + p) % largest_room) 0

-- what bit p weighs among the false alarms: 1 where it is marked
abbrev pub mark_by : List ℕ → ℕ → ℕ
mark_by marked p = cond (at marked p) 1 0

-- so many words that the sizes of all their bits, of 16 bits each, add up in 32 bits
abbrev pub longest_weighed : ℕ
longest_weighed = 512

-- rows of one length, not too long, and a size for each PSN of the largest room
pub record Alike (retired marked sizes : List ℕ) : Type 0 where
  pub marked_long : length marked ≡ length retired
  pub retired_long : length retired ≤ longest_weighed
  pub sizes_long : length sizes ≡ largest_room

-- nothing counted, two counts added up, and counts of 32 bits
abbrev pub nothing : Sum
nothing = record { newly = 0; alarms = 0; bytes = 0 }

abbrev pub added : Sum → Sum → Sum
added a b = record { newly = a.newly + b.newly; alarms = a.alarms + b.alarms; bytes = a.bytes + b.bytes }

pub record Fits (r : Sum) : Type 0 where
  pub newly_fits : r.newly < 2 ^ 32
  pub alarms_fits : r.alarms < 2 ^ 32
  pub bytes_fits : r.bytes < 2 ^ 32

-- one word: what is named is retired and unmarked, and what was not retired before is fresh
pub record OneRetired (retired marked named : ℕ) (r : Retired) : Type 0 where
  pub retired_are : Bits r.retired (λ i. bit_at retired i || bit_at named i)
  pub marked_are : Bits r.marked (only_in marked named)
  pub fresh_are : Bits r.fresh (only_in named retired)
  pub counted : r.newly ≡ tally 64 (only_in named retired)
  -- "Retiring one 64-bit word of PSNs shall also count the ones that were marked" (02, No. 8)
  pub alarmed : r.alarms ≡ weigh 64 (only_in named retired) (λ i. cond (bit_at marked i) 1 0)

-- named and not retired before
abbrev pub fresh : List ℕ → (ℕ → Bool) → ℕ → Bool
fresh retired f p = f p && not (at retired p)

-- the rows: what f names is retired and unmarked; of what is newly retired, how many, how many that were marked, and the bytes
pub record Retires (retired marked sizes : List ℕ) (first : ℕ) (f : ℕ → Bool) (retired' marked' : List ℕ) (r : Sum) : Type 0 where
  pub retired_are : Becomes retired retired' (λ p. at retired p || f p && ltb p (bits retired))
  pub marked_are : Becomes marked marked' (λ p. at marked p && not (f p))
  pub counted : r.newly ≡ tally (bits retired) (fresh retired f)
  pub alarmed : r.alarms ≡ weigh (bits retired) (fresh retired f) (mark_by marked)
  pub weighed : r.bytes ≡ weigh (bits retired) (fresh retired f) (size_by sizes first)
