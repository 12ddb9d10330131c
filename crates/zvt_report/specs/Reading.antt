-- The JSON of a report is read back.
use Rattle.std.specs.Prelude.{◌≡◌, ℕ, true, List, Option, Some}
use Rattle.serde_json.specs.Data.{Data}
use Rattle.serde_json.specs.Read.{read}
use Rattle.serde_json.specs.Written.{compact_text}
use Rattle.zvt_json.specs.Reading.{fits}
use Rattle.zvt_trace.specs.declared.fault.Tally.{Tally}
use Rattle.zvt_report.specs.Day.{DayValue}
use Rattle.zvt_report.specs.Members.{object_value}
use Rattle.zvt_report.specs.LookObjects.{look_told, look_value}
use Rattle.zvt_report.specs.Objects.{close_members, other_members, payment_members, plain_members, reversal_members, summary_members}
use Rattle.zvt_report.specs.declared.cases.Look.{Look}
use Rattle.zvt_report.specs.declared.closings.Closing.{Closing}
use Rattle.zvt_report.specs.declared.currencies.Decimals.{Decimals}
use Rattle.zvt_report.specs.declared.facts.Facts.{Facts}
use Rattle.zvt_report.specs.declared.findings.Finding.{Finding}
use Rattle.zvt_report.specs.declared.members.Member.{Member}
use Rattle.zvt_report.specs.declared.members.Object.{Object}
use Rattle.zvt_report.specs.declared.members.Object.TheVariants as object_of
use Rattle.zvt_report.specs.declared.places.Place.{Place}
use Rattle.zvt_report.specs.declared.rows.OrderMessage.{OrderMessage}
use Rattle.zvt_report.specs.declared.rows.OrderRow.{OrderRow}
use Rattle.zvt_report.specs.declared.times.Times.{Times}

-- if its numbers fit into 64 bits, the reader of the kit's crate `serde_json` gives the value of an object back from its text
abbrev pub IsReadBack : Data → Type 0
IsReadBack value = fits value ≡ true → read (compact_text value) ≡ Some value

abbrev pub ReadsBack : Object → List (Option Member) → Type 0
ReadsBack o members = IsReadBack (object_value o members)

-- every object of a report: its members come in the order of their names, each once
abbrev pub ObjectsReadBack : Type 0
ObjectsReadBack =
    ((tally : Tally) (currency : Option ℕ) (terminal : Option (List ℕ)) (times : Times) (books : DayValue) (messages : List OrderMessage) (looks : List Look) (findings : List Finding) → ReadsBack object_of.Summary (summary_members tally currency terminal times books messages looks findings))
    × ((decimals : Decimals) (facts : Facts) (rows : List OrderRow) (look : Look) → IsReadBack (look_value (look_told decimals facts rows look)))
    × ((books : DayValue) (place : Place) (row : OrderRow) (amount : ℕ) → ReadsBack object_of.Payment (payment_members books place row amount))
    × ((books : DayValue) (place : Place) (row : OrderRow) (message : OrderMessage) → ReadsBack object_of.Reversal (reversal_members books place row message))
    × ((place : Place) (row : OrderRow) (message : OrderMessage) → ReadsBack object_of.Other (other_members place row message))
    × ((closing : Option Closing) (place : Place) (row : OrderRow) → ReadsBack object_of.Close (close_members closing place row))
    × ((place : Place) (row : OrderRow) (message : OrderMessage) → ReadsBack object_of.Order (plain_members place row message))
