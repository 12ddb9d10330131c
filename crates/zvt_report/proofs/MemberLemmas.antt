-- JSON escapes no character of the words of a report, and what is written of members.
use Rattle.std.proofs.Common.{◌≡◌, ℕ, ◌==◌, Bool, true, false, cond, List, [], ◌∷◌, ◌++◌, Option, Some, Result, Ok, Err, codes, unwrap_or, refl, sym, ◌∙◌, ap, append_assoc}
use Rattle.std.specs.Prelude.{OnOk}
use Rattle.std.specs.declared.alloc.AllocError.{AllocError}
use Rattle.json.specs.Print.{escape, escape_byte, quoted}
use Rattle.serde_json.specs.Data.{Members, member}
use Rattle.serde_json.specs.Written.{comma_if, compact_text, members_text}
use Rattle.zvt_json.specs.Strings.{line_text}
use Rattle.zvt_json.proofs.EscapeLemmas.{command_plain, meaning_plain, word_plain as table_plain}
use Rattle.zvt_text.specs.Meanings.{card_type_name, card_types, command_name}
use Rattle.zvt_text.specs.Writing.{Adds}
use Rattle.zvt_till.specs.Names.{cause_name}
use Rattle.zvt_till.specs.declared.outcomes.Cause.{Cause}
use Rattle.zvt_till.specs.declared.outcomes.Cause.TheVariants as cause
use Rattle.zvt_report.specs.Members.{member_text, name_text, object_name, object_text, object_value, said, value_data, word_text}
use Rattle.zvt_report.specs.Words.{case_name, ending_name, finding_name, weight_name}
use Rattle.zvt_report.specs.declared.cases.Case.{Case}
use Rattle.zvt_report.specs.declared.cases.Case.TheVariants as case_of
use Rattle.zvt_report.specs.declared.cases.Weight.{Weight}
use Rattle.zvt_report.specs.declared.cases.Weight.TheVariants as weight
use Rattle.zvt_report.specs.declared.endings.Ending.{Ending}
use Rattle.zvt_report.specs.declared.endings.Ending.TheVariants as ending
use Rattle.zvt_report.specs.declared.findings.Finding.{Finding}
use Rattle.zvt_report.specs.declared.findings.Finding.TheVariants as finding
use Rattle.zvt_report.specs.declared.members.Member.{Member}
use Rattle.zvt_report.specs.declared.members.Name.{Name}
use Rattle.zvt_report.specs.declared.members.Name.TheVariants as name
use Rattle.zvt_report.specs.declared.members.Object.{Object}
use Rattle.zvt_report.specs.declared.members.Object.TheVariants as object_of
use Rattle.zvt_report.specs.declared.members.Word.{Word}
use Rattle.zvt_report.specs.declared.members.Word.TheVariants as word

-- ---- plain words

case_plain : (c : Case) → escape (case_name c) ≡ case_name c
unfolding escape_byte
case_plain case_of.ApprovedNotCompleted = refl
case_plain case_of.ApprovalRepeated = refl
case_plain case_of.ApprovedThenUndone = refl
case_plain case_of.OtherAmount = refl
case_plain case_of.PaymentUnclear = refl
case_plain case_of.PaidAlike = refl
case_plain case_of.ReversalUnclear = refl
case_plain case_of.TakenBackBefore = refl
case_plain case_of.ReversalRefused = refl
case_plain case_of.ReversalElsewhere = refl
case_plain case_of.ElsewhereUnclear = refl
case_plain case_of.OtherUnclear = refl
case_plain case_of.CloseUnclear = refl
case_plain case_of.CloseRefused = refl
case_plain case_of.CloseDiffers = refl

weight_plain : (w : Weight) → escape (weight_name w) ≡ weight_name w
unfolding escape_byte
weight_plain weight.Act = refl
weight_plain weight.Check = refl
weight_plain weight.Note = refl

finding_plain : (f : Finding) → escape (finding_name f) ≡ finding_name f
unfolding escape_byte
finding_plain (finding.Swapped orders) = refl
finding_plain (finding.ApprovalUnreadable line place amount trace) = refl
finding_plain (finding.Currencies first other line) = refl
finding_plain (finding.Refused line from head place why goes) = refl
finding_plain (finding.CutOff line from head have) = refl
finding_plain (finding.MoreRefused count) = refl

cause_plain : (c : Cause) → escape (cause_name c) ≡ cause_name c
unfolding escape_byte
cause_plain cause.NoStatus = refl
cause_plain cause.Conflict = refl
cause_plain cause.AmountDiffers = refl
cause_plain cause.NoTrace = refl
cause_plain cause.TraceUsed = refl
cause_plain cause.AbortAfterApproval = refl
cause_plain cause.Line = refl
cause_plain cause.Malformed = refl
cause_plain cause.Unfinished = refl
cause_plain cause.WrongCurrency = refl

ending_plain : (e : Ending) → escape (ending_name e) ≡ ending_name e
unfolding escape_byte
ending_plain ending.Completed = refl
ending_plain ending.Paid = refl
ending_plain ending.Reversed = refl
ending_plain ending.Closed = refl
ending_plain ending.Declined = refl
ending_plain ending.Aborted = refl
ending_plain ending.Refused = refl
ending_plain ending.Unclear = refl

card_type_plain : (card_type : ℕ) → escape (unwrap_or (card_type_name card_type) []) ≡ unwrap_or (card_type_name card_type) []
unfolding card_type_name
card_type_plain card_type = table_plain card_types card_type refl

order_plain : (profile registers : Bool) (high low : ℕ)
    → let named = cond profile (cond registers (Some (codes "registration")) (command_name high low)) (command_name high low) in
    escape (unwrap_or named []) ≡ unwrap_or named []
unfolding escape_byte
order_plain false registers high low = command_plain high low
order_plain true true high low = refl
order_plain true false high low = command_plain high low

pub word_plain : (w : Word) → escape (word_text w) ≡ word_text w
word_plain (word.Case c) = case_plain c
word_plain (word.Finding f) = finding_plain f
word_plain (word.Weight w) = weight_plain w
word_plain (word.Cause c) = cause_plain c
word_plain (word.Ending e) = ending_plain e
word_plain (word.Meaning code) = meaning_plain code
word_plain (word.Command high low) = order_plain (high == 0x06) (low == 0x00) high low
word_plain (word.CardType card_type) = card_type_plain card_type

pub name_plain : (n : Name) → escape (name_text n) ≡ name_text n
unfolding escape_byte
name_plain name.Advice = refl
name_plain name.Again = refl
name_plain name.Amount = refl
name_plain name.Approved = refl
name_plain name.Bad = refl
name_plain name.Book = refl
name_plain name.Booked = refl
name_plain name.Card = refl
name_plain name.CardNumber = refl
name_plain name.Case = refl
name_plain name.Cause = refl
name_plain name.Code = refl
name_plain name.ConfirmedBy = refl
name_plain name.Control = refl
name_plain name.Currency = refl
name_plain name.Differs = refl
name_plain name.ExplainedBy = refl
name_plain name.Groups = refl
name_plain name.Lines = refl
name_plain name.Looks = refl
name_plain name.Messages = refl
name_plain name.Name = refl
name_plain name.Net = refl
name_plain name.Order = refl
name_plain name.Others = refl
name_plain name.Outcome = refl
name_plain name.Payment = refl
name_plain name.Receipt = refl
name_plain name.Receipts = refl
name_plain name.ReversalUnclear = refl
name_plain name.ReversalsUnclear = refl
name_plain name.Reversed = refl
name_plain name.ReversedBy = refl
name_plain name.Stated = refl
name_plain name.TakenBack = refl
name_plain name.Terminal = refl
name_plain name.Text = refl
name_plain name.Time = refl
name_plain name.TimeFrom = refl
name_plain name.TimeTo = refl
name_plain name.TimesBack = refl
name_plain name.TimesBad = refl
name_plain name.Title = refl
name_plain name.Total = refl
name_plain name.Trace = refl
name_plain name.Unclear = refl
name_plain name.UnclearAmount = refl
name_plain name.Weight = refl
name_plain name.Words = refl

pub object_plain : (o : Object) → escape (object_name o) ≡ object_name o
unfolding escape_byte
object_plain object_of.Close = refl
object_plain object_of.Look = refl
object_plain object_of.Order = refl
object_plain object_of.Other = refl
object_plain object_of.Payment = refl
object_plain object_of.Reversal = refl
object_plain object_of.Summary = refl

-- ---- what is written

-- what JSON makes of a text, between quotation marks
pub quoted_as : (r : Result (Unit {0}) AllocError) (old t u new w e : List ℕ)
    → t ≡ old ++ 34 ∷ [] → u ≡ t ++ e → escape w ≡ e → Adds r u new (34 ∷ []) → OnOk r (new ≡ old ++ quoted w)
quoted_as (Ok done) old t u new w e first second same third =
    third ∙ ap (λ (l : List ℕ). l ++ 34 ∷ []) second ∙ ap (λ (l : List ℕ). (l ++ e) ++ 34 ∷ []) first ∙ append_assoc (old ++ 34 ∷ []) e (34 ∷ [])
    ∙ append_assoc old (34 ∷ []) (e ++ 34 ∷ []) ∙ ap (λ (l : List ℕ). old ++ 34 ∷ (l ++ 34 ∷ [])) (sym same)
quoted_as (Err refused) old t u new w e first second same third = tt

-- a plain word between quotation marks
pub quoted_said : (r : Result (Unit {0}) AllocError) (old t u new w : List ℕ)
    → t ≡ old ++ 34 ∷ [] → u ≡ t ++ w → escape w ≡ w → Adds r u new (34 ∷ []) → OnOk r (new ≡ old ++ quoted w)
quoted_said r old t u new w first second plain third = quoted_as r old t u new w w first second plain third

pub named : (later : Bool) (n text more : List ℕ) → (comma_if later ++ ((34 ∷ n ++ 34 ∷ 58 ∷ []) ++ text)) ++ more ≡ comma_if later ++ ((34 ∷ (n ++ 34 ∷ [])) ++ 58 ∷ (text ++ more))
named later n text more = simp append_assoc

-- a member, and what comes after it
pub member_said : (later : Bool) (m : Member) (rest : Members) → member_text later m ++ members_text true rest ≡ members_text later (member (name_text m.name) (value_data m.value) rest)
member_said later m rest =
    named later (name_text m.name) (compact_text (value_data m.value)) (members_text true rest)
    ∙ ap (λ (l : List ℕ). comma_if later ++ ((34 ∷ (l ++ 34 ∷ [])) ++ 58 ∷ (compact_text (value_data m.value) ++ members_text true rest))) (sym (name_plain m.name))

-- one member more is written
pub member_added : (t u : List ℕ) (later : Bool) (m : Member) (rest : List (Option Member)) (whole : List ℕ)
    → t ++ members_text later (said (Some m ∷ rest)) ≡ whole → u ≡ t ++ member_text later m → u ++ members_text true (said rest) ≡ whole
member_added t u later m rest whole before adds =
    ap (λ (l : List ℕ). l ++ members_text true (said rest)) adds ∙ append_assoc t (member_text later m) (members_text true (said rest))
    ∙ ap (λ (l : List ℕ). t ++ l) (member_said later m (said rest)) ∙ before

pub wrapped : (n m : List ℕ) → codes "{\"" ++ n ++ codes "\":{" ++ m ++ codes "}\n" ≡ (123 ∷ ((34 ∷ (n ++ 34 ∷ [])) ++ 58 ∷ ((123 ∷ m) ++ 125 ∷ []))) ++ 10 ∷ []
wrapped n m = simp append_assoc

-- an object with its name around it
pub object_said : (o : Object) (members : List (Option Member))
    → codes "{\"" ++ object_name o ++ codes "\":{" ++ members_text false (said members) ++ codes "}\n" ≡ line_text (object_value o members)
object_said o members =
    wrapped (object_name o) (members_text false (said members))
    ∙ ap (λ (l : List ℕ). (123 ∷ ((34 ∷ (l ++ 34 ∷ [])) ++ 58 ∷ ((123 ∷ members_text false (said members)) ++ 125 ∷ []))) ++ 10 ∷ []) (sym (object_plain o))

-- the line of an object is written part by part
pub object_line : (r : Result (Unit {0}) AllocError) (old a b c d new : List ℕ) (o : Object) (members : List (Option Member))
    → a ≡ old ++ codes "{\"" → b ≡ a ++ object_name o → c ≡ b ++ codes "\":{" → d ≡ c ++ members_text false (said members) → Adds r d new (codes "}\n")
    → OnOk r (new ≡ old ++ line_text (object_value o members))
object_line (Ok done) old a b c d new o members first second third fourth fifth =
    let one : b ≡ old ++ (codes "{\"" ++ object_name o) = second ∙ ap (λ (l : List ℕ). l ++ object_name o) first ∙ append_assoc old (codes "{\"") (object_name o) in
    let two : c ≡ old ++ (codes "{\"" ++ object_name o ++ codes "\":{") = third ∙ ap (λ (l : List ℕ). l ++ codes "\":{") one ∙ append_assoc old (codes "{\"" ++ object_name o) (codes "\":{") in
    let three : d ≡ old ++ (codes "{\"" ++ object_name o ++ codes "\":{" ++ members_text false (said members)) =
    fourth ∙ ap (λ (l : List ℕ). l ++ members_text false (said members)) two ∙ append_assoc old (codes "{\"" ++ object_name o ++ codes "\":{") (members_text false (said members)) in
    fifth ∙ ap (λ (l : List ℕ). l ++ codes "}\n") three ∙ append_assoc old (codes "{\"" ++ object_name o ++ codes "\":{" ++ members_text false (said members)) (codes "}\n")
    ∙ ap (λ (l : List ℕ). old ++ l) (object_said o members)
object_line (Err refused) old a b c d new o members first second third fourth fifth = tt

-- an object is written with members that are the same
pub members_same : (r : Result (Unit {0}) AllocError) (old new : List ℕ) (o : Object) (written meant : List (Option Member))
    → written ≡ meant → OnOk r (new ≡ old ++ object_text o written) → OnOk r (new ≡ old ++ object_text o meant)
members_same (Ok done) old new o written meant same adds = adds ∙ ap (λ (l : List (Option Member)). old ++ object_text o l) same
members_same (Err refused) old new o written meant same adds = tt
