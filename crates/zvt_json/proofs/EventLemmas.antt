-- The text of an event that is no message is that of its value.
use Rattle.std.proofs.Common.{◌≡◌, ℕ, List, [], ◌∷◌, ◌++◌, length, Result, Ok, Err, codes, refl, sym, ◌∙◌, ap, append_assoc}
use Rattle.std.specs.Prelude.{OnOk}
use Rattle.zvt_text.specs.Writing.{Adds}
use Rattle.std.specs.Fmt.{decimal}
use Rattle.json.specs.Print.{escape_byte}
use Rattle.zvt_grammar.specs.Names.{why_name}
use Rattle.zvt_grammar.specs.declared.why.Why.{Why}
use Rattle.serde_json.specs.Written.{compact_text}
use Rattle.zvt_text.specs.Bytes.{hex_of}
use Rattle.zvt_trace.specs.declared.direction.Direction.{Direction}
use Rattle.zvt_trace.specs.declared.direction.Direction.TheVariants.{FromTill, FromTerminal}
use Rattle.zvt_trace.specs.TraceEvent.{At, TraceEvent, on}
use Rattle.zvt_trace.specs.TraceEvent as trace_event
use Rattle.zvt_json.specs.Messages.{message_value}
use Rattle.zvt_json.specs.Events.{EventLine, HasSize, lost_value, reason_value, refused_value, resumed_value, stopped_value, truncated_value}
use Rattle.zvt_json.specs.Texts.{event_text, lost_text, reason_text, refused_text, resumed_text, shut, side_text, stopped_text, truncated_text}
use Rattle.zvt_json.proofs.EscapeLemmas.{why_plain}
use Rattle.zvt_json.proofs.MessageLemmas.{message_said}

pub lost_said : (line : ℕ) → lost_text line ≡ compact_text (lost_value line)
unfolding escape_byte
lost_said line = refl

pub stopped_said : (from : Direction) (line : ℕ) → stopped_text from line ≡ compact_text (stopped_value from line)
unfolding escape_byte
stopped_said FromTill line = refl
stopped_said FromTerminal line = refl

pub resumed_said : (from : Direction) (line size : ℕ) → resumed_text from line size ≡ compact_text (resumed_value from line size)
unfolding escape_byte
resumed_said FromTill line size = refl
resumed_said FromTerminal line size = refl

pub truncated_said : (from : Direction) (line have : ℕ) → truncated_text from line have ≡ compact_text (truncated_value from line have)
unfolding escape_byte
truncated_said FromTill line have = ap (λ (l : List ℕ). side_text FromTill line ++ (codes ",\"truncated\":{\"after\":" ++ l)) (sym (append_assoc (decimal have) (125 ∷ []) (125 ∷ [])))
truncated_said FromTerminal line have = ap (λ (l : List ℕ). side_text FromTerminal line ++ (codes ",\"truncated\":{\"after\":" ++ l)) (sym (append_assoc (decimal have) (125 ∷ []) (125 ∷ [])))

reason_said : (byte place : ℕ) (why : Why) → reason_text byte place why ≡ compact_text (reason_value byte place why)
unfolding escape_byte
reason_said byte place why =
    ap (λ (l : List ℕ). codes "{\"byte\":\"" ++ (shut (hex_of byte) ++ (codes ",\"place\":" ++ (decimal place ++ (codes ",\"reason\":\"" ++ l)))))
    (sym (append_assoc (why_name why) (34 ∷ []) (125 ∷ [])) ∙ ap (λ (l : List ℕ). (l ++ 34 ∷ []) ++ 125 ∷ []) (sym (why_plain why)))

pub refused_said : (from : Direction) (line byte place : ℕ) (why : Why) → refused_text from line byte place why ≡ compact_text (refused_value from line byte place why)
unfolding escape_byte
refused_said FromTill line byte place why = ap (λ (l : List ℕ). side_text FromTill line ++ (codes ",\"refused\":" ++ (l ++ codes "}"))) (reason_said byte place why)
refused_said FromTerminal line byte place why = ap (λ (l : List ℕ). side_text FromTerminal line ++ (codes ",\"refused\":" ++ (l ++ codes "}"))) (reason_said byte place why)

-- ---- the line of an event

pub line_said : (line size : ℕ) (event : TraceEvent) → HasSize size event → EventLine (on line event) (event_text line size event ++ 10 ∷ [])
line_said line size (trace_event.message from m) (bytes, spelled, same) =
    (message_value from line (length bytes) m, (bytes, spelled, refl), ap (λ (l : List ℕ). l ++ 10 ∷ []) (message_said from line size m ∙ ap (λ (n : ℕ). compact_text (message_value from line n m)) same))
line_said line size (trace_event.refused from before byte why) none = (refused_value from line byte (length before) why, refl, ap (λ (l : List ℕ). l ++ 10 ∷ []) (refused_said from line byte (length before) why))
line_said line size (trace_event.unread from) none = (stopped_value from line, refl, ap (λ (l : List ℕ). l ++ 10 ∷ []) (stopped_said from line))
line_said line size (trace_event.resumed from skipped) none = (resumed_value from line skipped, refl, ap (λ (l : List ℕ). l ++ 10 ∷ []) (resumed_said from line skipped))
line_said line size (trace_event.cut_off from bytes) none = (truncated_value from line (length bytes), refl, ap (λ (l : List ℕ). l ++ 10 ∷ []) (truncated_said from line (length bytes)))
line_said line size trace_event.lost none = (lost_value line, refl, ap (λ (l : List ℕ). l ++ 10 ∷ []) (lost_said line))

-- ---- what was added to a text

-- the same text, by other words
pub adds_same : {E : Type 0} (r : Result (Unit {0}) E) (old new said other : List ℕ) → said ≡ other → Adds r old new said → Adds r old new other
adds_same (Ok _) old new said other same so = so ∙ ap (λ (l : List ℕ). old ++ l) same
adds_same (Err e) old new said other same so = so

-- a fact about a text that grew by so much
pub where_added : {E P : Type 0} (r : Result (Unit {0}) E) (old new text : List ℕ) → (new ≡ old ++ text → P) → Adds r old new text → OnOk r P
where_added (Ok _) old new text so added = so added
where_added (Err e) old new text so added = tt
