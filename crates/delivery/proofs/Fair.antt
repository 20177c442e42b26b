-- Every run goes on in a course with a diligent host and a fair network: it is brought to its end, and from then on a timer and a resend
-- take turns, which are both refused, so nothing is tried any more. Assumes nothing.
use mathlib.Core.Path.{◌≡◌, refl, sym, ap, ◌∙◌, subst}
use mathlib.Core.Bool.{Bool, true, false, cond}
use mathlib.Core.List.{List, ◌∷◌}
use mathlib.Core.Logic.{◌⊎◌, inl, inr}
use Prim.Native.Nat.{ℕ, zero, suc, ◌≤◌, ◌<◌}
use native.Mathlib.Omega.{arith}
use lib.Dec.{leb}
use lib.ListN.{length}
use borrow.Author.Tests.{le-leb}
use Rattle.promise.specs.Outcome.{Refused, unless, left}
use Rattle.rules.specs.Numbers.{psn}
use Rattle.rules.specs.Paper.{answered}
use Rattle.rules.specs.Sender.{Sender, outstanding, nth, unused}
use Rattle.rules.specs.Marks.{nearest, resent}
use Rattle.rules.specs.Sending.{resend_refusals, resend, step}
use Rattle.delivery.specs.Wire.{Packet, message}
use Rattle.delivery.specs.Network.{Start, with_sender, put, on_resend, Next, resends, timers, still, then}
use Rattle.delivery.specs.Rules.{given, rules, World, Run, begin}
use Rattle.delivery.specs.Progress.{Times, Resends, Course, Tried, Fair, Retired, GoesOn}
use Rattle.delivery.proofs.Effects.{rule_resend, rule_timer}
use Rattle.delivery.proofs.Keeps.{quiet_timer}
use Rattle.delivery.proofs.CanEnd.{can_end}

-- ---- a course from w on, with a diligent host, that comes by a world v; after some moment nothing is put on the wire
record Going (w v : World) : Type 0 where
  at : ℕ → World
  begins : at 0 ≡ w
  next : (t : ℕ) → Next rules (at t) (at (suc t))
  diligent : (t : ℕ) → (a : ℕ) × (b : ℕ) × (t ≤ a) × (a < b) × Times (next a) × Resends (next b)
  comes_by : (t : ℕ) × (at t ≡ v)
  calm : ℕ
  no_more : (t : ℕ) → calm ≤ t → (at (suc t)).wire ≡ (at t).wire

-- one event before it
shift : World → (ℕ → World) → ℕ → World
shift w f zero = w
shift w f (suc t) = f t

module _ (w : World) (f : ℕ → World) where
  shift_next : {u : World} → Next rules w u → f 0 ≡ u → ((t : ℕ) → Next rules (f t) (f (suc t)))
      → (t : ℕ) → Next rules (shift w f t) (shift w f (suc t))
  unfolding shift
  shift_next e b g zero = subst (Next rules w) (sym b) e
  shift_next e b g (suc t) = g t

  shift_calm : (n : ℕ) → ((t : ℕ) → n ≤ t → (f (suc t)).wire ≡ (f t).wire) → (t : ℕ) → suc n ≤ t → (shift w f (suc t)).wire ≡ (shift w f t).wire
  unfolding shift
  shift_calm n q zero h = absurd (omega arith)
  shift_calm n q (suc t) h = q t (omega arith)

earlier : {w u v : World} → Next rules w u → Going u v → Going w v
unfolding shift shift_next
earlier {w} e G = record {
  at = shift w G.at;
  begins = refl;
  next = shift_next w G.at e G.begins G.next;
  diligent = λ t. let D = G.diligent t in (suc D.0, suc D.1, omega (arith, D.2), omega (arith, D.3), D.4, D.5);
  comes_by = (suc G.comes_by.0, G.comes_by.1);
  calm = suc G.calm;
  no_more = shift_calm w G.at G.calm G.no_more;
}

run_before : {w u v : World} → Run w u → Going u v → Going w v
run_before still G = G
run_before (then r e) G = run_before r (earlier e G)

-- it comes by where it begins
from_here : {w v : World} → Going w v → Going w w
from_here G = record {
  at = G.at;
  begins = G.begins;
  next = G.next;
  diligent = G.diligent;
  comes_by = (0, G.begins);
  calm = G.calm;
  no_more = G.no_more;
}

-- ---- nothing is outstanding: a timer and a resend take turns
rests_resend : (x : Sender) → outstanding x ≡ 0 → (n : ℕ) × (resend x ≡ Refused n)
unfolding resend resend_refusals unless
rests_resend x none = go (unused x)
  where
    go : (b : Bool) → (n : ℕ) × (cond b (Refused 2) (cond (leb (outstanding x) (nearest x)) (Refused 9) (resent x)) ≡ Refused n)
    go true = (2, refl)
    go false = (9, rw (le-leb (outstanding x) (nearest x) (omega arith)))

-- a timer, and a resend after it
timed : World → World
timed w = rule_timer w (nth w.sending 0)

turn : World → World
turn w = rule_resend (timed w)

idle : World → ℕ → World
idle w zero = w
idle w (suc zero) = timed w
idle w (suc (suc t)) = idle (turn w) t

idle_next : (w : World) (t : ℕ) → Next rules (idle w t) (idle w (suc t))
unfolding idle turn timed rule_timer rule_resend step
idle_next w zero = timers (nth w.sending 0) _ _ given
idle_next w (suc zero) = resends _ _ given
idle_next w (suc (suc t)) = idle_next (turn w) t

-- the first of turn n
twice : ℕ → ℕ
twice zero = 0
twice (suc n) = suc (suc (twice n))

twice_more : (n : ℕ) → n ≤ twice n
unfolding twice
twice_more zero = omega arith
twice_more (suc n) = omega (arith, twice_more n)

idle_times : (w : World) (n : ℕ) → Times (idle_next w (twice n))
unfolding Times twice idle_next
idle_times w zero = refl
idle_times w (suc n) = idle_times (turn w) n

idle_resends : (w : World) (n : ℕ) → Resends (idle_next w (suc (twice n)))
unfolding Resends twice idle_next
idle_resends w zero = tt
idle_resends w (suc n) = idle_resends (turn w) n

module _ (w : World) (none : outstanding w.sending ≡ 0) where
  timed_rests : (outstanding (timed w).sending ≡ 0) × ((timed w).wire ≡ w.wire)
  unfolding timed rule_timer with_sender
  timed_rests = ((quiet_timer w.sending (psn (nth w.sending 0))).outstanding_same ∙ none, refl)

  resend_rests : (outstanding (rule_resend w).sending ≡ 0) × ((rule_resend w).wire ≡ w.wire)
  unfolding rule_resend on_resend answered message left put with_sender
  resend_rests = rw (rests_resend w.sending none).1 (none, refl)

idle_calm : (w : World) → outstanding w.sending ≡ 0 → (t : ℕ) → (idle w (suc t)).wire ≡ (idle w t).wire
unfolding idle turn
idle_calm w none zero = (timed_rests w none).1
idle_calm w none (suc zero) = (resend_rests (timed w) (timed_rests w none).0).1
idle_calm w none (suc (suc t)) = idle_calm (turn w) (resend_rests (timed w) (timed_rests w none).0).0 t

idles : (w : World) → outstanding w.sending ≡ 0 → Going w w
unfolding idle
idles w none = record {
  at = idle w;
  begins = refl;
  next = idle_next w;
  diligent = λ t. (twice t, suc (twice t), twice_more t, omega arith, idle_times w t, idle_resends w t);
  comes_by = (0, refl);
  calm = 0;
  no_more = λ t h. idle_calm w none t;
}

-- ---- a network in which nothing is tried after some moment is fair
never_tried : (p : Packet) (l m : List Packet) → m ≡ l → m ≡ p ∷ l → ⊥
never_tried p l m e f = let z : length l ≡ suc (length l) = ap length (sym e ∙ f) in omega arith

module _ {s : Start} {v : World} (G : Going (begin s) v) where
  abbrev course : Course s
  course = record { at = G.at; begins = G.begins; next = G.next }

  fair : Fair course
  fair i tried = let T = tried G.calm in inr (T.0, go T.0 T.1 T.2)
    where
      go : (u : ℕ) → G.calm ≤ u → Tried course i u ⊎ Retired (G.at u) i → Retired (G.at u) i
      go u h (inl t) = absurd (never_tried t.0 (G.at u).wire (G.at (suc u)).wire (G.no_more u h) t.2)
      go u h (inr r) = r

pub goes_on : GoesOn
goes_on s w run =
    let E = can_end s w run in
    let G : Going (begin s) w = run_before run (from_here (run_before E.1.further (idles E.0 E.1.all_retired))) in
    (course G, G.diligent, fair G, G.comes_by)
