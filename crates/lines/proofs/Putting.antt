-- Bytes put one after the other: a text behind a text. By induction on the first. Assumes nothing.
use mathlib.Core.Path.{◌≡◌, refl, sym, ap, ap₂, ◌∙◌}
use mathlib.Core.List.{List, [], ◌∷◌, ◌++◌}
use Prim.Native.Nat.{ℕ}
use lib.ListN.{length, set, length-set}
use Rattle.lines.specs.Text.{next, put, past, Puts}

pub length_put : (t out : List ℕ) (at : ℕ) → length (put out at t) ≡ length out
unfolding put
length_put [] out at = refl
length_put (b ∷ t) out at = length_put t (set out at b) (next (length out) at) ∙ length-set out at b

pub puts_long : {text before after : List ℕ} {at r : ℕ} → Puts before at text after r → length after ≡ length before
puts_long {text} {before} {at = at} p = ap length p.bytes_are ∙ length_put text before at

-- a text behind a text goes from where the first ended
pub put_more : (t u out : List ℕ) (at : ℕ) → put out at (t ++ u) ≡ put (put out at t) (past (length out) at t) u
unfolding put past
put_more [] u out at = refl
put_more (b ∷ t) u out at =
    let p = next (length out) at in
    put_more t u (set out at b) p ∙ ap (λ (n : ℕ). put (put (set out at b) p t) (past n p t) u) (length-set out at b)

pub past_more : (t u : List ℕ) (n at : ℕ) → past n at (t ++ u) ≡ past n (past n at t) u
unfolding past
past_more [] u n at = refl
past_more (b ∷ t) u n at = past_more t u n (next n at)

-- one call behind another
pub puts_more : {t u before middle after : List ℕ} {at p r : ℕ} → Puts before at t middle p → Puts middle p u after r
    → Puts before at (t ++ u) after r
puts_more {t} {u} {before} {at = at} f s = record {
  bytes_are = s.bytes_are ∙ ap₂ (λ (l : List ℕ) (i : ℕ). put l i u) f.bytes_are f.index_is ∙ sym (put_more t u before at);
  index_is = s.index_is ∙ ap₂ (λ (n i : ℕ). past n i u) (puts_long f) f.index_is
      ∙ sym (past_more t u (length before) at);
}
