-- The text of a settlement is that of its value.
use Rattle.std.proofs.Common.{◌≡◌, ℕ, ◌+◌, true, List, ◌∷◌, [], ◌++◌, Option, Some, codes, ◌∙◌, ap, append_assoc}
use Rattle.std.proofs.lemmas.List.{append-nil}
use Rattle.json.specs.Print.{escape_byte}
use Rattle.serde_json.specs.Data.{string, object, Members, no_members, member}
use Rattle.serde_json.specs.Written.{compact_text, members_text}
use Rattle.zvt_json.specs.Strings.{line_text}
use Rattle.zvt_settle.specs.declared.deciding.Settlement.{Settlement}
use Rattle.zvt_settle.specs.declared.deciding.Settlement.TheVariants.{Paid, NotPaid, Reversed, NotReversed}
use Rattle.zvt_runs.specs.BookObjects.{receipt_part, trace_part, with_receipt, with_trace}
use Rattle.zvt_runs.specs.Settlements.{counted, paid_json, settled_json, settled_value, settlement_value, unclear_member}
use Rattle.zvt_runs.proofs.BookObjects.{before_with, receipt_said, trace_said}

not_paid_said : (row : ℕ) → counted (codes "{\"name\":\"NotPaid\",\"unclear\":") row (codes "}") ≡ compact_text (settled_value (NotPaid row))
unfolding escape_byte
not_paid_said row = simp append_assoc

reversed_said : (entry : ℕ) → counted (codes "{\"booked\":") entry (codes ",\"name\":\"Reversed\"}") ≡ compact_text (settled_value (Reversed entry))
unfolding escape_byte
reversed_said entry = simp append_assoc

not_reversed_said : (entry : ℕ) → counted (codes "{\"booked\":") entry (codes ",\"name\":\"NotReversed\"}") ≡ compact_text (settled_value (NotReversed entry))
unfolding escape_byte
not_reversed_said entry = simp append_assoc

row_said : (row : ℕ) → counted (codes ",\"unclear\":") row (codes "}") ≡ members_text true (unclear_member row) ++ []
unfolding escape_byte
row_said row = simp append_assoc

nest : (a b c d : List ℕ) → (a ++ b ++ c ++ d) ≡ a ++ (b ++ (c ++ d))
nest a b c d = simp append_assoc

paid_around : (later : Members) → codes "{\"name\":\"Paid\"" ++ members_text true later ≡ compact_text (object (member (codes "name") (string (codes "Paid")) later))
unfolding escape_byte
paid_around later = simp append_assoc

paid_said : (row trace : ℕ) (receipt : Option (List ℕ)) → paid_json row trace receipt ≡ compact_text (settled_value (Paid row trace receipt))
unfolding paid_json
paid_said row trace receipt =
    let first = codes "{\"name\":\"Paid\"" in
    let numbered = trace_part (Some trace) in
    let last = counted (codes ",\"unclear\":") row (codes "}") in
    let traced = with_trace (Some trace) (unclear_member row) in
    let received = with_receipt receipt traced in
    let second = before_with [] numbered last (unclear_member row) traced (trace_said (Some trace) (unclear_member row)) (row_said row) in
    let whole = before_with [] (receipt_part receipt) (numbered ++ last) traced received (receipt_said receipt traced) second in
    nest first (receipt_part receipt) numbered last ∙ ap (λ (l : List ℕ). first ++ l) (whole ∙ append-nil (members_text true received)) ∙ paid_around received

pub settled_said : (settlement : Settlement) → settled_json settlement ≡ compact_text (settled_value settlement)
settled_said (Paid row trace receipt) = paid_said row trace receipt
settled_said (NotPaid row) = not_paid_said row
settled_said (Reversed entry) = reversed_said entry
settled_said (NotReversed entry) = not_reversed_said entry

pub settlement_said : (settlement : Settlement) → codes "{\"settled\":" ++ (compact_text (settled_value settlement) ++ codes "}\n") ≡ line_text (settlement_value settlement)
unfolding escape_byte
settlement_said settlement = simp append_assoc
