-- 01, The sending side: what a SACK says, what it retires, and what it is answered.
use Rattle.std.specs.Prelude.{Bool, true, false, not, cond, ◌&&◌, ◌||◌, List, [], ◌∷◌, map, ℕ, zero, suc, ◌+◌, leb, ltb, drop}
use Rattle.word.specs.Word.{bit_at}
use Rattle.rules.specs.Numbers.{behind, after, distance, psn}
use Rattle.lists.specs.Lists.{lead, any}
use Rattle.promise.specs.Outcome.{Outcome, Done}
use Rattle.rules.specs.Sender.{Entry, Sender, outstanding, nth, held, unsent}
use Rattle.rules.specs.declared.Block.{Block}
use Rattle.rules.specs.declared.Report.{Report}
use Rattle.rules.specs.declared.Answer.{Answer}
use Rattle.rules.specs.declared.Answer.TheVariants as answer

-- has a block a set bit whose PSN passes
unfoldable pub any_set : (ℕ → Bool) → Block → Bool
any_set f b = any 64 (λ j. bit_at b.bitmap j && f (after b.base.0 j))

-- ---- whether a SACK contradicts itself (02, No. 3)
-- a PSN that "is cack + 1, or is cack or behind it": cack + 1 is at distance 1 from cack, and cack at distance 0
unfoldable pub at_odds : ℕ → ℕ → Bool
at_odds cack p = leb (distance cack p) 1 || behind cack p

-- "any SACK with a set bit" for such a PSN, whatever the sender's record
unfoldable pub contradicts : ℕ → Block → Bool
contradicts cack b = any_set (at_odds cack) b

-- ---- whether it names unsent
-- "cack at distance 0 to (next - 1 - place) from the place retires all to cack; cack behind the place retires nothing by itself;
-- otherwise it names unsent"
unfoldable pub unsent_cack : Sender → ℕ → Bool
unsent_cack x cack = ltb (outstanding x) (distance x.place cack) && not (behind x.place cack)

-- "Each set bit retires its PSN if outstanding, is ignored if behind place + 1 .., otherwise names unsent"
unfoldable pub unsent_bit : Sender → Block → Bool
unsent_bit x b = any_set (unsent x) b

unfoldable pub names_unsent : Sender → ℕ → Block → Bool
names_unsent x cack b = unsent_cack x cack || unsent_bit x b

-- ---- what it retires
-- "all to cack": so many from place + 1 on, and none where cack is behind the place
unfoldable pub up_to : Sender → ℕ → ℕ
up_to x cack = let d = distance x.place cack in cond (leb d (outstanding x)) d 0

-- a set bit names a PSN. "A clear bit says nothing"
unfoldable pub has_bit : Block → ℕ → Bool
has_bit b p = let d = distance b.base.0 p in ltb d 64 && bit_at b.bitmap d

-- whether entry i is named, by cack or by a bit
unfoldable pub named : Sender → ℕ → Block → ℕ → Bool
named x cack b i = ltb i (up_to x cack) || has_bit b (nth x i)

-- "Retiring clears the mark"
abbrev pub retired : Entry → Entry
retired e = record { size = e.size; retired = true; marked = false }

-- the entries that pass are retired
unfoldable pub retire : (ℕ → Bool) → List Entry → List Entry
retire f [] = []
retire f (e ∷ l) = cond (f zero) (retired e) e ∷ retire (λ i. f (suc i)) l

abbrev pub is_retired : Entry → Bool
is_retired e = e.retired

-- "The place then moves over all retired at the front"
unfoldable pub settle : Sender → List Entry → Sender
settle x l =
    let m = lead (map is_retired l) in
    record { room = x.room; place = after x.place m; entries = drop m l }

unfoldable pub after_sack : Sender → ℕ → Block → Sender
after_sack x cack b = settle x (retire (named x cack b) x.entries)

-- ---- what it is answered
-- what the packets that it newly retires, named and not retired before, weigh together
unfoldable pub over_newly : (Entry → ℕ) → (ℕ → Bool) → List Entry → ℕ
over_newly w f [] = 0
over_newly w f (e ∷ l) = cond (f zero && not e.retired) (w e) 0 + over_newly w (λ i. f (suc i)) l

-- "the count of packets newly retired"
abbrev pub newly : (ℕ → Bool) → List Entry → ℕ
newly f l = over_newly (λ e. 1) f l

-- false alarms: "the number of PSNs that were marked before and are retired by this SACK" (02, No. 8)
abbrev pub false_alarms : (ℕ → Bool) → List Entry → ℕ
false_alarms f l = over_newly (λ e. cond e.marked 1 0) f l

-- "The answer is the count of packets newly retired .., then the place and held bytes", and the false alarms "as a fourth value" (02, No. 8)
unfoldable pub report : Sender → ℕ → Block → Report
report x cack b =
    let f = named x cack b in
    let y = after_sack x cack b in
    record { newly = newly f x.entries; place = psn y.place; held = held y; alarms = false_alarms f x.entries }

unfoldable pub acknowledged : Sender → ℕ → Block → Outcome Answer Sender
acknowledged x cack b = Done (after_sack x cack b) (answer.Retired (report x cack b))
