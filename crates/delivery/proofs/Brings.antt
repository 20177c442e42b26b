-- A packet that comes whole is accepted or was before, so it brings a SACK. Assumes nothing.
use mathlib.Core.Path.{◌≡◌, refl, sym, ap, ◌∙◌}
use mathlib.Core.Bool.{Bool, true, false, not, ◌&&◌}
use mathlib.Core.List.{◌∷◌, Memᴰ}
use Prim.Native.Nat.{ℕ}
use lib.Dec.{ltb}
use borrow.Author.Tests.{lt-ltb, not-true}
use Rattle.psn.proofs.Circle.{after_lt}
use Rattle.lists.proofs.Joined.{and_true_each}
use Rattle.rules.specs.Numbers.{turn, after, size_ok, flags_ok, trimmed, trimmed_last_hop, no_buffer}
use Rattle.promise.specs.Outcome.{unless, left}
use Rattle.rules.specs.Paper.{answered}
use Rattle.rules.specs.Receiver.{Receiver, judge, known, beyond, verdict, acked, judged}
use Rattle.rules.specs.Receiving.{arrive_refusals, arrive}
use Rattle.rules.specs.Receiving as receiving
use Rattle.rules.specs.declared.Arrival.{Arrival}
use Rattle.delivery.specs.Wire.{Packet, Fate, arrival, accepts, message, Note, Near}
use Rattle.delivery.specs.Network.{Start, with_receiver, reply, on_arrive}
use Rattle.delivery.specs.Network.{sends, resends, timers, hears, arrives, beside_sender, beside_receiver}
use Rattle.delivery.specs.Rules.{given, rules, World, Run, begin}
use Rattle.delivery.specs.Progress.{whole, Brings, Sacks, BringsSack}
use Rattle.delivery.proofs.Holds.{receiver_used}
use Rattle.delivery.proofs.Invariant.{Inv, size_good, size_whole, invariant}
use Rattle.delivery.proofs.Never.{never_beyond}

-- what a whole fate is
record Whole (f : Fate) : Type 0 where
  flags_good : flags_ok f.flags ≡ true
  not_trimmed : trimmed f.flags ≡ false
  not_trimmed_last : trimmed_last_hop f.flags ≡ false
  buffered : no_buffer f.flags ≡ false

whole_is : (f : Fate) → whole f ≡ true → Whole f
unfolding whole
whole_is f e =
    let g = flags_ok f.flags in
    let t = not (trimmed f.flags) in
    let l = not (trimmed_last_hop f.flags) in
    let a = and_true_each (g && t && l) (not (no_buffer f.flags)) e in
    let b = and_true_each (g && t) l a.0 in
    let c = and_true_each g t b.0 in
    record {
      flags_good = c.0;
      not_trimmed = not-true (trimmed f.flags) c.1;
      not_trimmed_last = not-true (trimmed_last_hop f.flags) b.1;
      buffered = not-true (no_buffer f.flags) a.1;
    }

-- a SACK that answers packet i is the newest reply
abbrev Answered : World → World → ℕ → Type 0
Answered w u i = (n : Note) × Sacks n i × (u.notes ≡ n ∷ w.notes)

module _ (s : Start) {w : World} (run : Run (begin s) w) (p : Packet) (there : Memᴰ p w.wire) (near : Near p.number w.at)
    (f : Fate) (W : Whole f) where
  abbrev r : Receiver
  r = w.receiving

  abbrev a : Arrival
  a = arrival p f

  I : Inv s w
  I = invariant run

  taken : arrive r a ≡ judged r a (verdict r a)
  unfolding arrive arrive_refusals unless arrival
  taken =
      let psn_is = (I.carried p there).psn_is in
      let size = size_whole (trimmed f.flags) (trimmed_last_hop f.flags) f.cut p.size W.not_trimmed W.not_trimmed_last in
      rw (
        receiver_used I.holds,
        ap (λ (q : ℕ). ltb q turn) psn_is ∙ lt-ltb (after s.first p.number) turn (after_lt s.first p.number),
        ap size_ok size ∙ size_good I p there,
        W.flags_good,
      )

  judged_whole : (k b : Bool) → judge false false k b false ≡ verdict r a
      → let o = judged r a (verdict r a) in Answered w (reply (with_receiver rules w (left r o)) p.number (arrival p f).size (message (answered o))) p.number
  unfolding judge judged acked left answered message accepts reply with_receiver
  judged_whole true b e = rw (← e) (_, record { about_is = refl; accepting = _; sack = _; reply_is = refl }, refl)
  judged_whole false true e = absurd (never_beyond s w run p there near f (sym e))
  judged_whole false false e = rw (← e) (_, record { about_is = refl; accepting = _; sack = _; reply_is = refl }, refl)

  answered_whole : let o = arrive r a in Answered w (reply (with_receiver rules w (left r o)) p.number (arrival p f).size (message (answered o))) p.number
  unfolding verdict arrival
  answered_whole = rw taken (judged_whole (known r p.psn) (beyond r p.psn) (rw (W.not_trimmed, W.not_trimmed_last, W.buffered)))

pub brings_sack : BringsSack
unfolding Brings on_arrive receiving.step
brings_sack s w u run (sends z a x g) i b = absurd b
brings_sack s w u run (resends a x g) i b = absurd b
brings_sack s w u run (timers p a x g) i b = absurd b
brings_sack s w u run (hears m there h a x g) i b = absurd b
brings_sack s w u run (arrives p there near f a r given) i b = rw (← b.0) (answered_whole s run p there near f (whole_is f b.1))
brings_sack s w u run (beside_sender x g) i b = absurd b
brings_sack s w u run (beside_receiver r g) i b = absurd b
