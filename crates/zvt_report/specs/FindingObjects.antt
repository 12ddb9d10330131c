-- The objects of the findings about a trace.
use Rattle.std.specs.Prelude.{◌≡◌, ℕ, true, ◌∷◌, ◌++◌, [], List, map, codes, Option, Some, None, option_map, refl}
use Rattle.std.specs.List.{flat_map}
use Rattle.std.specs.Fmt.{digits}
use Rattle.hex.specs.Hex.{encode_with}
use Rattle.json.specs.Print.{escape_byte}
use Rattle.serde_json.specs.Data.{Data}
use Rattle.zvt_json.specs.Strings.{line_text}
use Rattle.zvt_apdu.specs.Kinds.{kind_at}
use Rattle.zvt_grammar.specs.declared.why.Why.TheVariants.{UnknownField}
use Rattle.zvt_stream.specs.declared.head.Head.{Head}
use Rattle.zvt_stream.specs.declared.head.Head.TheVariants.{Empty, One, Two}
use Rattle.zvt_trace.specs.declared.direction.Direction.TheVariants.{FromTerminal}
use Rattle.zvt_report.specs.Amounts.{amount_text, count_text}
use Rattle.zvt_report.specs.FindingTexts.{approval_advice, approval_text, finding_advice, finding_text, finding_title, head_part, message_part}
use Rattle.zvt_report.specs.Findings.{head_of, line_of, weight_of}
use Rattle.zvt_report.specs.LookObjects.{Told, look_value, of_member, sentence}
use Rattle.zvt_report.specs.Objects.{maybe_count, said_as}
use Rattle.zvt_report.specs.Reading.{IsReadBack}
use Rattle.zvt_report.specs.declared.currencies.Decimals.{Decimals}
use Rattle.zvt_report.specs.declared.currencies.Decimals.TheVariants as decimals_of
use Rattle.zvt_report.specs.declared.findings.Finding.{Finding}
use Rattle.zvt_report.specs.declared.findings.Finding.TheVariants.{ApprovalUnreadable, Refused, MoreRefused}
use Rattle.zvt_report.specs.declared.members.Member.{Member}
use Rattle.zvt_report.specs.declared.members.Name.TheVariants as name
use Rattle.zvt_report.specs.declared.members.Value.TheVariants as value
use Rattle.zvt_report.specs.declared.members.Word.TheVariants as word

-- the control bytes of a message, if both have come
abbrev pub control_member : Head → Option Member
control_member Empty = None
control_member (One high) = None
control_member (Two high low) = said_as name.Control (value.Bytes (high ∷ low ∷ []))

abbrev pub line_member : Option ℕ → Option Member
line_member line = option_map (λ (l : ℕ). record { name = name.Lines; value = value.Lines l l }) line

-- the amount and the trace number that a finding states
abbrev pub amount_of : Finding → Option ℕ
amount_of (ApprovalUnreadable line place amount trace) = amount
amount_of _ = None

abbrev pub trace_of : Finding → Option ℕ
trace_of (ApprovalUnreadable line place amount trace) = trace
trace_of _ = None

-- the members between the sentences
abbrev pub finding_members : Finding → List (Option Member)
finding_members finding = maybe_count name.Amount (amount_of finding) ∷ said_as name.Case (value.Word (word.Finding finding)) ∷ control_member (head_of finding) ∷ line_member (line_of finding) ∷ []

abbrev pub weight_member : Finding → Option Member
weight_member finding = said_as name.Weight (value.Word (word.Weight (weight_of finding)))

-- the members after the sentences
abbrev pub last_members : Finding → List (Option Member)
last_members finding = maybe_count name.Trace (trace_of finding) ∷ weight_member finding ∷ []

abbrev pub finding_told : Decimals → Finding → List Told
finding_told decimals finding =
    sentence name.Advice (finding_advice finding)
    ∷ (map of_member (finding_members finding)
    ++ (sentence name.Text (finding_text decimals finding)
    ∷ sentence name.Title (finding_title finding)
    ∷ map of_member (last_members finding)))

-- an object as for an order, without the order
abbrev pub finding_value : Decimals → Finding → Data
finding_value decimals finding = look_value (finding_told decimals finding)

abbrev pub findings_json : Decimals → List Finding → List ℕ
findings_json decimals findings = flat_map (λ (finding : Finding). line_text (finding_value decimals finding)) findings

-- if its numbers fit into 64 bits, the object of a finding is read back from its text
abbrev pub FindingsReadBack : Type 0
FindingsReadBack = (decimals : Decimals) (finding : Finding) → IsReadBack (finding_value decimals finding)

-- ---- rows worked by hand

two_findings : findings_json decimals_of.Two (Refused 4 FromTerminal (Two 0x04 0x0F) 37 UnknownField true ∷ MoreRefused 3 ∷ [])
    ≡ codes "{\"look\":{\"advice\":\"Send this report to the maker of the terminal.\",\"case\":\"Refused\",\"control\":\"040F\",\"lines\":[4,4],\"text\":\"Its byte 37, counted from 0, is refused: no known field begins with it (UnknownField). The report goes on after the message.\",\"title\":\"The terminal's message 040F (status information) cannot be read\",\"weight\":\"note\"}}\n"
    ++ codes "{\"look\":{\"advice\":\"'zvt show' names the others.\",\"case\":\"MoreRefused\",\"text\":\"This list has only the first messages that were refused or cut off.\",\"title\":\"3 more messages refused or cut off\",\"weight\":\"note\"}}\n"
unfolding count_text digits encode_with escape_byte head_part kind_at message_part
two_findings = refl

an_approval : findings_json decimals_of.Two (ApprovalUnreadable 4 37 (Some 1250) (Some 123) ∷ [])
    ≡ codes "{\"look\":{\"advice\":\"If it answers a payment, the customer has probably been charged. Look for trace 000123 in the terminal's journal, and send this report to the maker of the terminal.\",\"amount\":1250,\"case\":\"ApprovalUnreadable\",\"control\":\"040F\",\"lines\":[4,4],"
    ++ codes "\"text\":\"The terminal's answer could not be read to its end (byte 37). What stands before that says: approved, 12.50, trace 000123.\",\"title\":\"The terminal's approval cannot be read\",\"trace\":123,\"weight\":\"act\"}}\n"
unfolding amount_text approval_advice approval_text digits encode_with escape_byte
an_approval = refl
