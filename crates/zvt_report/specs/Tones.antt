-- How a page marks what became of an order: done, open, or without effect.
use Rattle.std.specs.Prelude.{ℕ, Bool, true, false, List, [], codes, Option, Some, None}
use Rattle.zvt_till.specs.declared.entries.Doubt.{Doubt}
use Rattle.zvt_till.specs.declared.entries.Doubt.TheVariants as doubt
use Rattle.zvt_till.specs.declared.entries.Entry.{Entry}
use Rattle.zvt_till.specs.declared.outcomes.Outcome.{Outcome}
use Rattle.zvt_till.specs.declared.outcomes.Outcome.TheVariants as outcome
use Rattle.zvt_report.specs.declared.tones.Tone.{Tone}
use Rattle.zvt_report.specs.declared.tones.Tone.TheVariants.{Done, Open, Void}

abbrev pub outcome_tone : Outcome → Tone
outcome_tone outcome.Registered = Done
outcome_tone (outcome.Paid trace receipt) = Done
outcome_tone (outcome.Declined code) = Void
outcome_tone (outcome.Refused code) = Void
outcome_tone (outcome.Aborted code) = Void
outcome_tone (outcome.Unclear cause) = Open
outcome_tone outcome.Reversed = Done
outcome_tone outcome.DayClosed = Done

abbrev pub doubt_tone : Doubt → Tone
doubt_tone doubt.No = Done
doubt_tone (doubt.Unclear cause) = Open
doubt_tone doubt.TakenBack = Open

abbrev pub entry_tone : (reversed : Bool) → Doubt → Tone
entry_tone true doubt = Void
entry_tone false doubt = doubt_tone doubt

-- a payment, as its entry says if it was booked
abbrev pub payment_tone : Option Entry → Outcome → Tone
payment_tone None outcome = outcome_tone outcome
payment_tone (Some entry) outcome = entry_tone entry.reversed entry.doubt

-- the class of the words
abbrev pub tone_class : Tone → List ℕ
tone_class Done = codes "dot c-ok"
tone_class Open = codes "dot c-act"
tone_class Void = codes "dot c-soft"

-- the class of the row
abbrev pub row_class : Tone → List ℕ
row_class Done = []
row_class Open = []
row_class Void = codes "gone"
