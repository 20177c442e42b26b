-- A refusal leaves the head and its rows as they were, and no size is written. Assumes nothing.
use mathlib.Core.Path.{◌≡◌, refl, sym, ap, ◌∙◌}
use mathlib.Core.List.{List}
use Prim.Native.Nat.{ℕ}
use Rattle.std.specs.Prelude.{Err}
use Rattle.promise.specs.Outcome.{Refused}
use Rattle.promise.specs.Promise.{told}
use Rattle.promise.proofs.Meeting.{refuses}
use Rattle.rules.specs.Numbered.{number}
use Rattle.rules.specs.Paper.{paper, Reply}
use Rattle.rules.specs.Sending.{step}
use Rattle.rules.specs.declared.Refusal.{Refusal}
use Rattle.rules.specs.declared.Sending.{Sending}
use Rattle.rules.specs.declared.Sending.TheVariants as sending
use Rattle.sending.specs.Lent.{Lent, meaning, Sound, sent_size, sizes_after, Steps}

no_size : (ss : List ℕ) (e : Sending) (why : Refusal) → sizes_after ss e (Err why) ≡ ss
unfolding sizes_after sent_size
no_size ss (sending.Send size) why = refl
no_size ss (sending.Sack cack b) why = refl
no_size ss (sending.Nack p reason) why = refl
no_size ss (sending.Timer p) why = refl
no_size ss sending.Resend why = refl

-- the rule refuses an event on x, and so does the code
pub refused_by : (x : Lent) → Sound x → (e : Sending) (r : Reply) (why : Refusal) → step (meaning x) e ≡ Refused (number why) → r ≡ Err why
    → Steps x e r x.head x.sizes x.retired x.marked
unfolding told
refused_by x s e r why rule said = record {
  meets = refuses (number why) rule (ap (told paper number) said) refl s;
  sizes_are = sym (ap (sizes_after x.sizes e) said ∙ no_size x.sizes e why);
  retired_long = refl;
  marked_long = refl;
}
