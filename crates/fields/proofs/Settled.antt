-- What the contracts of size, read and write allow is settled: two outcomes are one. Assumes nothing.
use mathlib.Core.Path.{◌≡◌, sym, ◌∙◌}
use mathlib.Core.List.{List, ◌++◌}
use Prim.Native.Nat.{ℕ}
use lib.ListN.{drop}
use Rattle.fields.specs.Fields.{size, encode, decode}

module _ (ws : List ℕ) where
  pub size_settled : (x y : ℕ) → x ≡ size ws → y ≡ size ws → x ≡ y
  size_settled x y p q = p ∙ sym q

  pub read_settled : (l x y : List ℕ) → x ≡ decode ws l → y ≡ decode ws l → x ≡ y
  read_settled l x y p q = p ∙ sym q

  pub write_settled : (l vs x y : List ℕ) → x ≡ encode ws vs ++ drop (size ws) l → y ≡ encode ws vs ++ drop (size ws) l → x ≡ y
  write_settled l vs x y p q = p ∙ sym q
