-- As many records as the log has bytes are enough for its replay: each record read takes the place on, so what is left falls. Assumes nothing.
use mathlib.Core.Path.{◌≡◌, refl, ap}
use mathlib.Core.List.{List}
use Prim.Native.Nat.{ℕ, zero, suc, ◌-◌, ◌<◌}
use native.Mathlib.Omega.{arith}
use lib.ListN.{length}
use Rattle.promise.specs.Outcome.{left}
use Rattle.rules.specs.Paper.{answered}
use Rattle.rules.specs.Connection.{Connection}
use Rattle.rules.specs.Table.{on}
use Rattle.rules.specs.Log.{read}
use Rattle.rules.specs.Replay.{Replayed, then, replied, replay_from}
use Rattle.rules.specs.Outcomes.{Reading, Record, Nothing}
use Rattle.rules.proofs.RoundTrip.{read_kind}

-- one record on: what is left has fallen
replied_same : (log : List ℕ) (t : List Connection) (place n : ℕ) (f g : List Connection → ℕ → Replayed)
    → ((u : List Connection) (next : ℕ) → length log - next < length log - place → f u next ≡ g u next)
    → (r : Reading) → read log place ≡ r → replied f t place n r ≡ replied g t place n r
unfolding replied
replied_same log t place n f g h (Record slot e kind next) k =
    let moved = read_kind log place slot e kind next k in
    ap (then (record { kind = kind; answer = answered (on t slot e) })) (h (left t (on t slot e)) next (omega (arith, moved.1, moved.2)))
replied_same log t place n f g h (Nothing r) k = refl

-- with more than the bytes left allowed, one more allowed changes nothing
pub enough : (most : ℕ) (log : List ℕ) (t : List Connection) (place n : ℕ) → length log - place < most
    → replay_from most log t place n ≡ replay_from (suc most) log t place n
unfolding replay_from
enough zero log t place n h = absurd (omega arith)
enough (suc most) log t place n h =
    replied_same log t place n _ _ (λ u next l. enough most log u next (suc n) (omega arith)) (read log place) refl
