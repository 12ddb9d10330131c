-- The log that the records of a journal stand for, and the asks between its events.
use Rattle.std.specs.Prelude.{◌≡◌, ◌≤◌, ℕ, Bool, List, [], ◌∷◌, ◌++◌, map, Option, Some, None}
use Rattle.zvt_grammar.specs.Reading.{padded}
use Rattle.zvt_apdu.specs.Message.{Message}
use Rattle.zvt_apdu.specs.Grammar.{Spells}
use Rattle.zvt_till.specs.declared.happenings.Happening.{Happening}
use Rattle.zvt_till.specs.declared.happenings.Happening.TheVariants.{Connected, Sent as SentOut, Heard as HeardIn, Malformed, Lost}
use Rattle.zvt_till.specs.Hearing.{heard_as}
use Rattle.zvt_till.specs.Refusals.{sent_as}
use Rattle.zvt_till.specs.Sending.{Settings}
use Rattle.zvt_till.specs.Till.{facts_of}
use Rattle.zvt_settle.specs.Settling.{Note, Line, Asked, Both, ask_refusal, new_both, take}
use Rattle.zvt_kept.specs.Records.{Kept, ordered, asked, heard, lost, kept_in, opening}

-- The events of one record. After a lost line, a new one is up. An ask is no event of the log.
abbrev pub Happens : (currency : ℕ) → Kept → List Happening → Type 0
Happens currency (ordered order note) happened = happened ≡ SentOut (sent_as currency order) ∷ []
Happens currency (asked note) happened = happened ≡ []
Happens currency (heard bytes) happened = (message : Message) × ∥ Spells padded message bytes ∥₁ × (happened ≡ HeardIn (heard_as message) ∷ [])
Happens currency lost happened = happened ≡ Lost ∷ Connected ∷ []

-- what records stand for, one after another
module _ {X : Type 0} (R : Kept → List X → Type 0) where
  abbrev pub EachOf : List Kept → List X → Type 0
  EachOf [] xs = xs ≡ []
  EachOf (one ∷ more) xs = (first : List X) × (rest : List X) × R one first × EachOf more rest × (xs ≡ first ++ rest)

-- the events of records
abbrev pub HappenAll : (currency : ℕ) → List Kept → List Happening → Type 0
HappenAll currency kept log = EachOf (Happens currency) kept log

-- ---- asks

abbrev pub on_line : List Happening → List Note
on_line happened = map (λ h. Line h) happened

-- The notes of one record: its events, or an ask.
abbrev pub Means : (currency : ℕ) → Kept → List Note → Type 0
Means currency (ordered order note) notes = (happened : List Happening) × Happens currency (ordered order note) happened × (notes ≡ on_line happened)
Means currency (asked note) notes = notes ≡ Asked ∷ []
Means currency (heard bytes) notes = (happened : List Happening) × Happens currency (heard bytes) happened × (notes ≡ on_line happened)
Means currency lost notes = (happened : List Happening) × Happens currency lost happened × (notes ≡ on_line happened)

-- the notes of records
abbrev pub MeanAll : (currency : ℕ) → List Kept → List Note → Type 0
MeanAll currency kept notes = EachOf (Means currency) kept notes

-- while an ask runs, no order is sent
abbrev pub CanHappen : (asking : Option Bool) → Happening → Type 0
CanHappen asking Connected = Unit {0}
CanHappen asking (SentOut o) = asking ≡ None
CanHappen asking (HeardIn m) = Unit {0}
CanHappen asking Malformed = Unit {0}
CanHappen asking Lost = Unit {0}

-- an ask is sent only if nothing refuses it
abbrev pub CanTake : Both → Note → Type 0
CanTake b (Line h) = CanHappen b.settling.asking h
CanTake b Asked = ask_refusal (facts_of b.till) b.settling.asking ≡ None

abbrev pub CanTakeAll : Both → List Note → Type 0
CanTakeAll b [] = Unit {0}
CanTakeAll b (note ∷ more) = CanTake b note × CanTakeAll (take b note) more

-- A till with these settings can make each ask where it stands among these records: the line is up, the till is
-- registered, and neither an order nor another ask runs. No order is sent while an ask runs.
pub record CanAsk (settings : Settings) (kept : List Kept) : Type 0 where
  pub notes : List Note
  pub means : MeanAll settings.currency kept notes
  pub takes : CanTakeAll (new_both settings) (Line Connected ∷ notes)

-- ---- the log

-- the first line of the journal of a till with these settings
abbrev pub opening_of : Settings → List ℕ
opening_of settings = opening settings.currency settings.rules.reversal_by_receipt

-- a text begins with the first line of a journal of a till with these settings
abbrev pub HasOpening : Settings → (text : List ℕ) → Type 0
HasOpening settings text = (records : List ℕ) × (text ≡ opening_of settings ++ records)

-- A text of records stands for this log of a till with these settings, with asks where the till can make them. A line is
-- up before the first record.
pub record StandsFor (settings : Settings) (text : List ℕ) (log : List Happening) : Type 0 where
  pub opened : HasOpening settings text
  pub kept : List Kept
  pub happened : List Happening
  pub read : kept_in text ≡ Some kept
  pub happens : HappenAll settings.currency kept happened
  pub begins : log ≡ Connected ∷ happened
  pub asks : CanAsk settings kept

-- A text begins with the first line of tills in one currency and with one rule on reversals by receipt number.
abbrev pub OpeningsAreOne : Type 0
OpeningsAreOne =
    (a b : Settings) (text : List ℕ) → a.currency ≤ 9999 → b.currency ≤ 9999 → HasOpening a text → HasOpening b text
    → (a.currency ≡ b.currency) × (a.rules.reversal_by_receipt ≡ b.rules.reversal_by_receipt)

-- A text stands for one log.
abbrev pub LogsAreOne : Type 0
LogsAreOne = (settings : Settings) (text : List ℕ) (a b : List Happening) → StandsFor settings text a → StandsFor settings text b → a ≡ b
