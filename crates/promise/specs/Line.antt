-- What an answer is on paper: a number, and the values beside it.
use Rattle.std.specs.Prelude.{List, [], ℕ}

-- The kind that is answered, 0 beside a refusal; 0 for done, or the refusal's number; the values that the program prints; the
-- values that only the library hands out.
pub record Line : Type 0 where
  pub kind : ℕ
  pub number : ℕ
  pub values : List ℕ
  pub unprinted : List ℕ

-- "A refusal carries its number only, every value beside it is 0"
abbrev pub refused : ℕ → Line
refused n = record { kind = 0; number = n; values = []; unprinted = [] }

-- "0 is done"
abbrev pub done : ℕ → List ℕ → List ℕ → Line
done k l m = record { kind = k; number = 0; values = l; unprinted = m }
