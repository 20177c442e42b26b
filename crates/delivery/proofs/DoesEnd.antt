-- A course ends where the host is diligent and the network fair: the packet at place + 1 is tried for as long as it is there, so a copy of
-- it and the SACK that answers it get through, and that moves the place. So on, packet by packet. Assumes nothing.
use mathlib.Core.Path.{◌≡◌, sym, ap, ◌∙◌, subst}
use mathlib.Core.Bool.{true, false≢true}
use mathlib.Core.List.{List, ◌∷◌}
use mathlib.Core.Logic.{◌⊎◌, inl, inr}
use Prim.Native.Nat.{ℕ, zero, suc, ◌+◌, ◌-◌, ◌≤◌, ◌<◌}
use native.Mathlib.Omega.{arith}
use native.Mathlib.Decide.{dec_lt}
use lib.ListN.{length}
use Rattle.rules.specs.Sender.{outstanding}
use Rattle.delivery.specs.Wire.{Note}
use Rattle.delivery.specs.Network.{Start, still, then}
use Rattle.delivery.specs.Rules.{Run, begin}
use Rattle.delivery.specs.Promise.{lossless, compared, retired_at}
use Rattle.delivery.specs.Progress.{Retired, behind, ahead, marked_at, Resends, Sacks, Course, Diligent, Tried, Through, Fair, DoesEnd, Settles}
use Rattle.delivery.proofs.Invariant.{Inv, invariant}
use Rattle.delivery.proofs.Retires.{Grows, grows_self, grows_on, grows_next, retires}
use Rattle.delivery.proofs.Brings.{brings_sack}
use Rattle.delivery.proofs.Tries.{marks, hands_out, mark_next}
use Rattle.delivery.proofs.Theorem.{delivers}

module _ {s : Start} (c : Course s) where
  -- each moment of a course is reached by a run
  run_to : (t : ℕ) → Run (begin s) (c.at t)
  run_to zero = rw c.begins still
  run_to (suc t) = then (run_to t) (c.next t)

  inv_at : (t : ℕ) → Inv s (c.at t)
  inv_at t = invariant (run_to t)

  grows_at : (t v : ℕ) → t ≤ v → Grows (c.at t) (c.at v)
  grows_at t zero h = subst (λ (y : ℕ). Grows (c.at t) (c.at y)) (omega arith) (grows_self (c.at t))
  grows_at t (suc v) h = elim (dec_lt v t) [
    | yes p ↦ subst (λ (y : ℕ). Grows (c.at t) (c.at y)) (omega arith) (grows_self (c.at t))
    | no p ↦ grows_on (grows_at t v (omega arith)) (grows_next (inv_at v) (c.next v))
  ]

  -- ---- packet i, from a moment u on at which all before it are retired and it is sent
  module _ (i u : ℕ) (low : i ≤ (c.at u).low) (was_sent : i < length (c.at u).sent) where
    -- from t on it is tried once more, or is retired
    abbrev Again : ℕ → Type 0
    Again t = (v : ℕ) × (t ≤ v) × (Tried c i v ⊎ Retired (c.at v) i)

    tried : (t : ℕ) → (c.at t).low ≡ i → marked_at (c.at t).sending 0 ≡ true → Resends (c.next t) → Again t
    tried t is m r =
        let H = hands_out s (c.at t) (c.at (suc t)) (run_to t) m (c.next t) r in
        (t, omega arith, inl (H.0, H.1 ∙ is, H.2))

    passed : (t v : ℕ) → t ≤ v → i < (c.at v).low → Again t
    passed t v h p = (v, h, inr (behind p))

    -- where it is marked, and b is a moment of a resend
    until : (n b t : ℕ) → t + n ≡ b → (c.at t).low ≡ i → marked_at (c.at t).sending 0 ≡ true → Resends (c.next b) → Again t
    until zero b t e is m r = tried t is m (subst (λ (y : ℕ). Resends (c.next y)) (omega arith) r)
    until (suc n) b t e is m r = elim (mark_next (inv_at t) m (c.next t)) [
      | inl now ↦ tried t is m now
      | inr (inl on) ↦ passed t (suc t) (omega arith) (omega arith)
      | inr (inr m') ↦
          let G = grows_at t (suc t) (omega arith) in
          elim (dec_lt i (c.at (suc t)).low) [
            | yes p ↦ passed t (suc t) (omega arith) p
            | no p ↦
                let A = until n b (suc t) (omega arith) (omega (arith, G.low_on)) m' r in
                (A.0, omega (arith, A.1), A.2)
          ]
    ]

    again : Diligent c → (t : ℕ) → Again t
    again diligent t =
        let D = diligent (t + u) in
        let a : ℕ = D.0 in
        let b : ℕ = D.1 in
        let late : t + u ≤ a = D.2 in
        let after_it : a < b = D.3 in
        let G = grows_at u a (omega arith) in
        let H = grows_at a (suc a) (omega arith) in
        elim (dec_lt i (c.at a).low) [
          | yes p ↦ passed t a (omega arith) p
          | no p ↦
              let some : 0 < outstanding (c.at a).sending = omega (arith, G.sent_on, (inv_at a).keeps.next_is) in
              let m = marks s (c.at a) (c.at (suc a)) (run_to a) some (c.next a) D.4 in
              elim (dec_lt i (c.at (suc a)).low) [
                | yes q ↦ passed t (suc a) (omega arith) q
                | no q ↦
                    let A = until (b - suc a) b (suc a) (omega arith) (omega (arith, G.low_on, H.low_on)) m D.5 in
                    (A.0, omega (arith, A.1), A.2)
              ]
        ]

    -- what gets through is retired
    through_retired : Through c i → (v : ℕ) × Retired (c.at v) i
    through_retired T =
        let t : ℕ = T.came in
        let v : ℕ = T.heard in
        let B = brings_sack s (c.at t) (c.at (suc t)) (run_to t) (c.next t) i T.whole_came in
        let n : Note = B.0 in
        let newest : (c.at (suc t)).notes ≡ n ∷ (c.at t).notes = B.2 in
        let noted : (c.at (suc t)).notes ≡ T.note ∷ (c.at t).notes = T.newest in
        let same : n ≡ T.note = cc in
        let S : Sacks T.note i = subst (λ (y : Note). Sacks y i) same B.1 in
        (suc v, retires s (c.at v) (c.at (suc v)) (c.at (suc v)) (run_to v) (c.next v) T.note i S T.is_heard still)

    retired_once : Diligent c → Fair c → (v : ℕ) × Retired (c.at v) i
    retired_once diligent fair = elim (fair i (again diligent)) [ inl T ↦ through_retired T | inr R ↦ R ]

    -- and what is retired at the place moves it
    at_place : (v : ℕ) → i ≤ (c.at v).low → Retired (c.at v) i → i < (c.at v).low
    at_place v h (behind p) = p
    at_place v h (ahead k is r) =
        let none : k ≡ 0 = omega arith in
        absurd (false≢true (sym (inv_at v).keeps.first_open ∙ ap (retired_at (c.at v).sending) (sym none) ∙ r))

    moves_on : Diligent c → Fair c → (v : ℕ) × (u ≤ v) × (i < (c.at v).low)
    moves_on diligent fair =
        let R = retired_once diligent fair in
        let v : ℕ = R.0 + u in
        let G = grows_at u v (omega arith) in
        (v, omega arith, at_place v (omega (arith, G.low_on)) ((grows_at R.0 v (omega arith)).retired_on i R.1))

  -- ---- so on, for the first i of those that were sent by t
  module _ (diligent : Diligent c) (fair : Fair c) (t : ℕ) where
    first_end : (i : ℕ) → i ≤ length (c.at t).sent → (u : ℕ) × (t ≤ u) × (i ≤ (c.at u).low)
    first_end zero h = (t, omega arith, omega arith)
    first_end (suc i) h =
        let E = first_end i (omega arith) in
        let G = grows_at t E.0 E.1 in
        let M = moves_on i E.0 E.2 (omega (arith, G.sent_on)) diligent fair in
        (M.0, omega (arith, E.1, M.1), M.2)

    all_end : (u : ℕ) × (t ≤ u) × ((v : ℕ) → u ≤ v → length (c.at t).sent ≤ (c.at v).low)
    all_end =
        let E = first_end (length (c.at t).sent) (omega arith) in
        (E.0, E.1, λ v h. omega (arith, E.2, (grows_at E.0 v h).low_on))

pub does_end : DoesEnd
does_end s c diligent fair t = let E = all_end c diligent fair t in (E.0, E.2)

pub settles : Settles
settles s c diligent fair t same =
    let E = all_end c diligent fair t in (
      E.0,
      λ v h.
          let sent : (c.at v).sent ≡ (c.at t).sent = same v (omega (arith, E.1)) in
          let K = (inv_at c v).keeps in
          let none : outstanding (c.at v).sending ≡ 0 = omega (arith, K.next_is, E.2 v h, ap length sent) in
          let P = delivers s (c.at v) (run_to c v) in
          let end : ((c.at v).sending ≡ (lossless s (c.at v).sent).0) × (compared (c.at v).receiving ≡ compared (lossless s (c.at v).sent).1) =
          P.in_the_end (λ k p. absurd (omega arith)) in
          (end.0 ∙ ap (λ (l : List ℕ). (lossless s l).0) sent, end.1 ∙ ap (λ (l : List ℕ). compared (lossless s l).1) sent),
    )
