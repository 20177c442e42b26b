-- A kind with its fields and the event that it makes undo one another, kind by kind. Assumes nothing.
use mathlib.Core.Path.{◌≡◌, refl, sym, ap, ◌∙◌, subst}
use mathlib.Core.Bool.{true}
use mathlib.Core.List.{List, [], ◌∷◌}
use Prim.Native.Nat.{ℕ, zero, suc, ◌+◌, ◌-◌, ◌≤◌, ◌<◌}
use native.Mathlib.Decide.{ℕ_discrete}
use native.Mathlib.Omega.{arith}
use borrow.Author.Tests.{ltb-true, leb-true}
use lib.Dec.{leb, ltb}
use lib.ListN.{length, get_or, drop, drop_of_length-le}
use lib.Seq.{drop-cons}
use Rattle.rules.specs.Kinds.{kind_of, fields_of, event_of, layouts, layout, kind_ok}
use Rattle.rules.specs.declared.Sending.TheVariants as sending
use Rattle.rules.specs.declared.Use.TheVariants as use-of
use Rattle.rules.specs.declared.Event.{Event}
use Rattle.rules.specs.declared.Event.TheVariants as event
use Rattle.lists.proofs.Joined.{and_true_each}

pub known_kind : (e : Event) → kind_ok (kind_of e) ≡ true
unfolding kind_of layouts
known_kind (event.Start s) = refl
known_kind (event.Use use-of.Close) = refl
known_kind (event.Use (use-of.Sends (sending.Send z))) = refl
known_kind (event.Use (use-of.Receives a)) = refl
known_kind (event.Use (use-of.Sends (sending.Sack c b))) = refl
known_kind (event.Use (use-of.Sends (sending.Nack p n))) = refl
known_kind (event.Use (use-of.Sends (sending.Timer p))) = refl
known_kind (event.Use (use-of.Sends sending.Resend)) = refl

pub event_again : (e : Event) → event_of (kind_of e) (fields_of e) ≡ e
unfolding kind_of fields_of event_of
event_again (event.Start s) = refl
event_again (event.Use use-of.Close) = refl
event_again (event.Use (use-of.Sends (sending.Send z))) = refl
event_again (event.Use (use-of.Receives a)) = refl
event_again (event.Use (use-of.Sends (sending.Sack c b))) = refl
event_again (event.Use (use-of.Sends (sending.Nack p n))) = refl
event_again (event.Use (use-of.Sends (sending.Timer p))) = refl
event_again (event.Use (use-of.Sends sending.Resend)) = refl

known_range : (k : ℕ) → kind_ok k ≡ true → (1 ≤ k) × (k < length layouts)
known_range k o = let h = and_true_each (leb 1 k) (ltb k (length layouts)) o in (leb-true 1 k h.0, ltb-true k (length layouts) h.1)

-- P of each of n kinds, from k on
unfoldable pub Each : (ℕ → Type 0) → ℕ → ℕ → Type 0
Each P k zero = Unit {0}
Each P k (suc n) = P k × Each P (suc k) n

each_at : (P : ℕ → Type 0) (k n : ℕ) → Each P k n → (i : ℕ) → k ≤ i → i < k + n → P i
unfolding Each
each_at P k zero e i l h = absurd (omega arith)
each_at P k (suc n) e i l h = go (ℕ_discrete k i) (λ m. each_at P (suc k) n e.1 i m (omega arith))
  where
    go : Dec (k ≡ i) → (suc k ≤ i → P i) → P i
    go (yes p) more = subst P p e.0
    go (no p) more = more (omega arith)

-- what holds of each kind holds of a kind that is known
pub by_kind : (P : ℕ → Type 0) → Each P 1 (length layouts - 1) → (k : ℕ) → kind_ok k ≡ true → P k
by_kind P e k o = let r = known_range k o in each_at P 1 (length layouts - 1) e k r.0 (omega (arith, r.0, r.1))

pub kind_again : (k : ℕ) (l : List ℕ) → kind_ok k ≡ true → kind_of (event_of k l) ≡ k
unfolding event_of kind_of layouts Each
kind_again k l o = by_kind (λ n. kind_of (event_of n l) ≡ n) (refl, (refl, (refl, (refl, (refl, (refl, (refl, (refl, tt)))))))) k o

-- the n elements from place i on
listed : List ℕ → ℕ → ℕ → List ℕ
listed l i zero = []
listed l i (suc n) = get_or l i 0 ∷ listed l (suc i) n

listed_all : (l : List ℕ) (i n : ℕ) → i + n ≡ length l → listed l i n ≡ drop i l
unfolding listed
listed_all l i zero h = sym (drop_of_length-le l {i = i} (omega arith))
listed_all l i (suc n) h = ap (λ (t : List ℕ). get_or l i 0 ∷ t) (listed_all l (suc i) n (omega arith)) ∙ sym (drop-cons l i 0 (omega arith))

pub fields_again : (k : ℕ) (l : List ℕ) → kind_ok k ≡ true → length l ≡ length (layout k) → fields_of (event_of k l) ≡ l
unfolding event_of fields_of layout layouts listed Each
fields_again k l o =
    by_kind (λ n. length l ≡ length (layout n) → fields_of (event_of n l) ≡ l)
    (all 4, (all 0, (all 1, (all 4, (all 3, (all 2, (all 1, (all 0, tt)))))))) k o
  where
    all : (n : ℕ) → length l ≡ n → listed l 0 n ≡ l
    all n h = listed_all l 0 n (omega arith)
