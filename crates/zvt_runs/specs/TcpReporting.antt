-- Reports of a terminal about a till that disconnected.
use Rattle.std.specs.Prelude.{◌≡◌, ℕ, List, [], ◌∷◌, ◌++◌, codes, count_by, drop, is_none, refl, Option, Some, None}
use Rattle.std.specs.Fmt.{decimal, digits}
use Rattle.json.specs.Print.{escape_byte}
use Rattle.serde_json.specs.Data.{Data, string, object, no_members, member}
use Rattle.zvt_json.specs.Strings.{count_value, line_text}
use Rattle.zvt_text.specs.declared.form.Form.{Form}
use Rattle.zvt_text.specs.declared.form.Form.TheVariants.{Text, Json}
use Rattle.zvt_runs.specs.Reporting.{Reports}
use Rattle.zvt_runs.specs.LedgerRows.{rows_text}
use Rattle.zvt_stream.specs.declared.line.LineFault.{LineFault}
use Rattle.zvt_term.specs.declared.ledger.Row.{Row}

-- the number of rows that approve a payment; the other rows reverse one
abbrev pub approvals : List Row → ℕ
approvals rows = count_by (λ row. is_none row.reverses) rows

-- the number of approvals in the ledger
abbrev pub ledger_text : ℕ → List ℕ
ledger_text approved = codes "; approvals in the ledger: " ++ decimal approved ++ 10 ∷ []

-- Appends that a till disconnected: its number, and why its connection failed, if it did.
abbrev pub SaysGone : (till : ℕ) → Option LineFault → (old new : List ℕ) → Type 0
SaysGone till None old new = new ≡ old ++ codes "zvt: till " ++ decimal till ++ codes " disconnected"
SaysGone till (Some fault) old new = (why : List ℕ) × (new ≡ old ++ codes "zvt: connection of till " ++ decimal till ++ codes " failed: " ++ why)

-- a till that disconnected, by its number, and the number of approvals in the ledger
abbrev pub gone_value : (till approved : ℕ) → Data
gone_value till approved = object (member (codes "approvals") (count_value approved) (member (codes "till") (count_value till) no_members))

-- a till whose connection failed, with the text of the fault
abbrev pub failed_value : (till approved : ℕ) → (why : List ℕ) → Data
failed_value till approved why =
    object (member (codes "approvals") (count_value approved) (member (codes "failed") (string why) (member (codes "till") (count_value till) no_members)))

-- the report in this form of a till that disconnected: its number, how its connection failed, if it did, and the number
-- of approvals
abbrev pub IsReport : Form → (till : ℕ) → Option LineFault → (approved : ℕ) → List ℕ → Type 0
IsReport Text till broke approved report = (gone : List ℕ) × SaysGone till broke [] gone × (report ≡ gone ++ ledger_text approved)
IsReport Json till None approved report = report ≡ line_text (gone_value till approved)
IsReport Json till (Some fault) approved report = (why : List ℕ) × (report ≡ line_text (failed_value till approved why))

gone_json : IsReport Json 1 None 3 (codes "{\"approvals\":3,\"till\":1}\n")
unfolding digits escape_byte
gone_json = refl

failed_json : line_text (failed_value 2 0 (codes "a message was cut off")) ≡ codes "{\"approvals\":0,\"failed\":\"a message was cut off\",\"till\":2}\n"
unfolding digits escape_byte
failed_json = refl

gone_words : IsReport Text 1 None 3 (codes "zvt: till 1 disconnected; approvals in the ledger: 3\n")
unfolding digits
gone_words = (codes "zvt: till 1 disconnected", refl, refl)

-- The report in this form of a till that disconnected: the new rows of the ledger, and then the till with the number of
-- approvals.
pub record ReportsGone (form : Form) (till : ℕ) (broke : Option LineFault) (before : ℕ) (ledger : List Row) (old new : Option (List ℕ)) (failures_before failures_after : ℕ) : Type 0 where
  pub gone : List ℕ
  pub is_report : IsReport form till broke (approvals ledger) gone
  pub reports : Reports (rows_text form till (drop before ledger) ++ gone) old new failures_before failures_after
