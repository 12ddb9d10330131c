-- Findings: each bad message is found, and their objects are written and read back.
use Rattle.std.proofs.Common.{◌≡◌, ℕ, zero, suc, ◌+◌, ◌-◌, ◌==◌, min, Bool, true, false, cond, List, [], ◌∷◌, ◌++◌, codes, length, map, take, Option, Some, None, refl, sym, ◌∙◌, ap, ap₂, subst, append_assoc, arith}
use Rattle.std.proofs.lemmas.Bool.{eqb-true}
use Rattle.std.proofs.lemmas.List.{length-take}
use Rattle.std.proofs.lemmas.List.Sums.{sum_by-append, sum_by-cons}
use Rattle.std.specs.List.{cons_option, find, sum_by}
use Rattle.std.specs.Prelude.{not, ◌&&◌, option_map}
use Rattle.serde_json.specs.Data.{Data}
use Rattle.serde_json.specs.Written.{members_text}
use Rattle.zvt_json.specs.Strings.{line_text}
use Rattle.zvt_stream.specs.declared.head.Head.{Head}
use Rattle.zvt_stream.specs.declared.head.Head.TheVariants.{Empty, One, Two}
use Rattle.zvt_trace.specs.TraceEvent.{At, TraceEvent, bad_count, bad_in}
use Rattle.zvt_trace.specs.TraceEvent as trace_event
use Rattle.zvt_trace.specs.declared.direction.Direction.{Direction}
use Rattle.zvt_trace.specs.declared.direction.Direction.TheVariants.{FromTill, FromTerminal}
use Rattle.zvt_trace.specs.declared.listener.Scope.{Scope}
use Rattle.zvt_audit.specs.ByControl.{seen}
use Rattle.zvt_report.specs.FindingObjects.{FindingsReadBack, amount_of, control_member, finding_told, line_member, trace_of, weight_member}
use Rattle.zvt_report.specs.FindingTexts.{finding_advice, finding_text, finding_title}
use Rattle.zvt_report.specs.Findings.{ApprovalBy, ApprovalIn, AreApprovals, EachBadMessageIsFound, FindingsAreOne, approval_finding, bad_messages, counted_by, currencies, finding_at, finding_by, findings, head_of, line_of, listed, more_refused, most_listed, names_other, namings, orders_in, saturated, swapped, swapped_if, two_named}
use Rattle.zvt_report.specs.LookObjects.{Told, look_value, more_of, of_member, told, told_text}
use Rattle.zvt_report.specs.Objects.{maybe_count, said_as}
use Rattle.zvt_report.specs.declared.approvals.UnreadableApproval.{UnreadableApproval}
use Rattle.zvt_report.specs.declared.findings.Finding.{Finding}
use Rattle.zvt_report.specs.declared.findings.Finding.TheVariants.{Swapped, Currencies, MoreRefused}
use Rattle.zvt_report.specs.declared.members.Member.{Member}
use Rattle.zvt_report.specs.declared.members.Name.{Name}
use Rattle.zvt_report.specs.declared.members.Name.TheVariants as name
use Rattle.zvt_report.specs.declared.members.Value.TheVariants as value
use Rattle.zvt_report.specs.declared.members.Word.TheVariants as word
use Rattle.zvt_report.proofs.ApprovalLemmas.{approvals_are_one}
use Rattle.zvt_report.proofs.LookObjectLemmas.{look_said, three_told}
use Rattle.zvt_report.proofs.ReadLemmas.{IsNamed, read_told, sentence_told, told_of}

-- ---- objects

-- six parts one after another
pub six_parts : (old t₁ t₂ t₃ t₄ t₅ p₁ p₂ p₃ p₄ p₅ p₆ : List ℕ)
    → t₁ ≡ old ++ p₁ → t₂ ≡ t₁ ++ p₂ → t₃ ≡ t₂ ++ p₃ → t₄ ≡ t₃ ++ p₄ → t₅ ≡ t₄ ++ p₅
    → t₅ ++ p₆ ≡ old ++ (p₁ ++ (p₂ ++ (p₃ ++ (p₄ ++ (p₅ ++ p₆)))))
six_parts old t₁ t₂ t₃ t₄ t₅ p₁ p₂ p₃ p₄ p₅ p₆ first second third fourth fifth = simp (fifth, fourth, third, second, first, append_assoc)

-- the members of a finding
pub three_told_at : (k m n : Name) (c d e : Data) (ms vs : List (Option Member))
    → told_text false k c ++ (more_of ms ++ (told_text true m d ++ (told_text true n e ++ (more_of vs ++ 125 ∷ []))))
    ≡ members_text false (told (Some (k, c) ∷ (map of_member ms ++ (Some (m, d) ∷ (Some (n, e) ∷ map of_member vs)))))
unfolding more_of
three_told_at k m n c d e ms vs = three_told k m n c d e (map of_member ms) [] (map of_member vs)

-- the object around the members
pub object_around : (old t u : List ℕ) (ts : List Told) → t ≡ old ++ codes "{\"look\":{" → u ≡ t ++ members_text false (told ts) → u ++ codes "}\n" ≡ old ++ line_text (look_value ts)
object_around old t u ts first second =
    let all : u ++ codes "}\n" ≡ old ++ (codes "{\"look\":{" ++ members_text false (told ts) ++ codes "}\n") = simp (second, first, append_assoc) in
    all ∙ ap (λ (l : List ℕ). old ++ l) (look_said ts)

control_named : (head : Head) → IsNamed (control_member head) name.Control
control_named Empty = tt
control_named (One high) = tt
control_named (Two high low) = refl

line_named : (line : Option ℕ) → IsNamed (line_member line) name.Lines
line_named None = tt
line_named (Some line) = refl

abbrev names_of_finding : List Name
names_of_finding = name.Advice ∷ name.Amount ∷ name.Case ∷ name.Control ∷ name.Lines ∷ name.Text ∷ name.Title ∷ name.Trace ∷ name.Weight ∷ []

count_named : (n : Name) (number : Option ℕ) → IsNamed (maybe_count n number) n
count_named n None = tt
count_named n (Some number) = refl

pub findings_read_back : FindingsReadBack
findings_read_back decimals f =
    read_told (finding_told decimals f) names_of_finding
    (sentence_told name.Advice (finding_advice f), (told_of (maybe_count name.Amount (amount_of f)) name.Amount (count_named name.Amount (amount_of f)), (told_of (said_as name.Case (value.Word (word.Finding f))) name.Case refl, (told_of (control_member (head_of f)) name.Control (control_named (head_of f)), (told_of (line_member (line_of f)) name.Lines (line_named (line_of f)), (sentence_told name.Text (finding_text decimals f), (sentence_told name.Title (finding_title f), (told_of (maybe_count name.Trace (trace_of f)) name.Trace (count_named name.Trace (trace_of f)), (told_of (weight_member f) name.Weight refl, tt))))))))) refl

-- ---- each bad message is found

abbrev IsOne : Option Finding → Type 0
IsOne None = Unit {0}
IsOne (Some f) = counted_by f ≡ 1

one_each : (scope : Scope) (line : ℕ) (event : TraceEvent) → IsOne (finding_by scope line event)
one_each scope line (trace_event.message from m) = tt
one_each scope line (trace_event.refused from before byte why) = refl
one_each scope line (trace_event.unread from) = tt
one_each scope line (trace_event.resumed from size) = tt
one_each scope line (trace_event.cut_off from bytes) = refl
one_each scope line trace_event.lost = tt

-- a message that is refused or cut off has a finding, and nothing else has
one_found : (scope : Scope) (line : ℕ) (event : TraceEvent) (more : List Finding) → length (cons_option (finding_by scope line event) more) ≡ bad_count event + length more
one_found scope line (trace_event.message from m) more = omega arith
one_found scope line (trace_event.refused from before byte why) more = omega arith
one_found scope line (trace_event.unread from) more = omega arith
one_found scope line (trace_event.resumed from size) more = omega arith
one_found scope line (trace_event.cut_off from bytes) more = omega arith
one_found scope line trace_event.lost more = omega arith

all_found : (scope : Scope) (events : List At) → length (bad_messages scope events) ≡ bad_in events
all_found scope [] = refl
all_found scope (event ∷ events) =
    one_found scope event.line event.trace_event (bad_messages scope events) ∙ ap (λ (n : ℕ). bad_count event.trace_event + n) (all_found scope events)
    ∙ sym (sum_by-cons (λ (e : At). bad_count e.trace_event) event events)

-- each of the first ones counts once
first_counted : (n : ℕ) (o : Option Finding) (more : List Finding) → IsOne o → ((k : ℕ) → sum_by counted_by (take k more) ≡ length (take k more))
    → sum_by counted_by (take n (cons_option o more)) ≡ length (take n (cons_option o more))
first_counted n None more one later = later n
first_counted zero (Some f) more one later = refl
first_counted (suc n) (Some f) more one later = let rest = later n in omega (arith, sum_by-cons counted_by f (take n more), one, rest)

all_counted : (scope : Scope) (events : List At) (n : ℕ) → sum_by counted_by (take n (bad_messages scope events)) ≡ length (take n (bad_messages scope events))
all_counted scope [] zero = refl
all_counted scope [] (suc n) = refl
all_counted scope (event ∷ events) n = first_counted n (finding_at scope event) (bad_messages scope events) (one_each scope event.line event.trace_event) (all_counted scope events)

others_counted : (more : ℕ) → sum_by counted_by (more_refused more) ≡ more
others_counted more = by (more == 0) refl
  where
    by : (none : Bool) → (more == 0) ≡ none → sum_by counted_by (cond none [] (MoreRefused more ∷ [])) ≡ more
    by true is = sym (eqb-true more 0 is)
    by false is = omega (arith, sum_by-cons counted_by (MoreRefused more) [])

few_and_more : (m n a b : ℕ) → a ≡ min m n → b ≡ n - m → a + b ≡ n
few_and_more m n a b few more = omega (arith, few, more)

listed_counted : (scope : Scope) (events : List At) → sum_by counted_by (listed (bad_messages scope events)) ≡ bad_in events
listed_counted scope events =
    let found = bad_messages scope events in
    sum_by-append counted_by (take most_listed found) (more_refused (length found - most_listed))
    ∙ few_and_more most_listed (length found) _ _ (all_counted scope events most_listed ∙ length-take most_listed found) (others_counted (length found - most_listed))
    ∙ all_found scope events

-- a finding that counts no bad message
abbrev IsNone : Option Finding → Type 0
IsNone None = Unit {0}
IsNone (Some f) = counted_by f ≡ 0

none_counted : (o : Option Finding) (more : List Finding) → IsNone o → sum_by counted_by (cons_option o more) ≡ sum_by counted_by more
none_counted None more none = refl
none_counted (Some f) more none = omega (arith, sum_by-cons counted_by f more, none)

swapped_none : (till terminal : ℕ) → IsNone (swapped_if till terminal)
swapped_none till terminal = by ((till == 0) && not (terminal == 0))
  where
    by : (test : Bool) → IsNone (cond test (Some (Swapped terminal)) None)
    by true = refl
    by false = tt

named_none : (named : List (ℕ × ℕ)) → IsNone (two_named named)
named_none [] = tt
named_none (naming ∷ later) = by (find (names_other naming.0) later)
  where
    by : (o : Option (ℕ × ℕ)) → IsNone (option_map (λ (other : ℕ × ℕ). Currencies naming.0 other.0 other.1) o)
    by None = tt
    by (Some other) = refl

-- nor does an approval
abbrev AreNone : List Finding → Type 0
AreNone found = sum_by counted_by found ≡ 0

approval_none : (line place : ℕ) (said : Option UnreadableApproval) → IsNone (approval_finding line place said)
approval_none line place None = tt
approval_none line place (Some a) = refl

is_none : (one : Option Finding) → one ≡ None → IsNone one
is_none one e = subst IsNone (sym e) tt

said_none : (line : ℕ) (from : Direction) (bytes : List ℕ) (one : Option Finding) → ApprovalIn line from bytes one → IsNone one
said_none line FromTill bytes one e = is_none one e
said_none line FromTerminal bytes one (said, says, e) = subst IsNone (sym e) (approval_none line (length bytes) said)

one_approval : (line : ℕ) (event : TraceEvent) (one : Option Finding) → ApprovalBy line event one → IsNone one
one_approval line (trace_event.message from m) one e = is_none one e
one_approval line (trace_event.refused from before byte why) one e = said_none line from before one e
one_approval line (trace_event.unread from) one e = is_none one e
one_approval line (trace_event.resumed from size) one e = is_none one e
one_approval line (trace_event.cut_off from bytes) one e = said_none line from bytes one e
one_approval line trace_event.lost one e = is_none one e

approvals_none : (events : List At) (approvals : List Finding) → AreApprovals events approvals → AreNone approvals
approvals_none [] approvals are = ap (sum_by counted_by) are
approvals_none (event ∷ events) approvals (one, later, is, are, e) =
    ap (sum_by counted_by) e ∙ none_counted one later (one_approval event.line event.trace_event one is) ∙ approvals_none events later are

pub each_bad_message_is_found : EachBadMessageIsFound
each_bad_message_is_found scope events all (approvals, are, e) =
    let found = listed (bad_messages scope events) in
    let these = seen scope events in
    let later = cons_option (currencies these) found in
    ap (sum_by counted_by) e
    ∙ none_counted (swapped these) (approvals ++ later) (swapped_none (saturated (orders_in FromTill these)) (saturated (orders_in FromTerminal these)))
    ∙ sum_by-append counted_by approvals later
    ∙ ap (λ (n : ℕ). n + sum_by counted_by later) (approvals_none events approvals are)
    ∙ nothing_before (sum_by counted_by later)
    ∙ none_counted (currencies these) found (named_none (namings these)) ∙ listed_counted scope events
  where
    nothing_before : (n : ℕ) → 0 + n ≡ n
    nothing_before n = omega arith

-- ---- there is one list

one_in : (line : ℕ) (from : Direction) (bytes : List ℕ) (one other : Option Finding) → ApprovalIn line from bytes one → ApprovalIn line from bytes other → one ≡ other
one_in line FromTill bytes one other p q = p ∙ sym q
one_in line FromTerminal bytes one other p q = p.2 ∙ ap (approval_finding line (length bytes)) (approvals_are_one bytes p.0 q.0 p.1 q.1) ∙ sym q.2

one_by : (line : ℕ) (event : TraceEvent) (one other : Option Finding) → ApprovalBy line event one → ApprovalBy line event other → one ≡ other
one_by line (trace_event.message from m) one other p q = p ∙ sym q
one_by line (trace_event.refused from before byte why) one other p q = one_in line from before one other p q
one_by line (trace_event.unread from) one other p q = p ∙ sym q
one_by line (trace_event.resumed from size) one other p q = p ∙ sym q
one_by line (trace_event.cut_off from bytes) one other p q = one_in line from bytes one other p q
one_by line trace_event.lost one other p q = p ∙ sym q

same_approvals : (events : List At) (these those : List Finding) → AreApprovals events these → AreApprovals events those → these ≡ those
same_approvals [] these those p q = p ∙ sym q
same_approvals (event ∷ events) these those (one, later, p, ps, e) (other, more, q, qs, f) =
    e ∙ ap₂ cons_option (one_by event.line event.trace_event one other p q) (same_approvals events later more ps qs) ∙ sym f

pub findings_are_one : FindingsAreOne
findings_are_one scope events found other (these, p, e) (those, q, f) = e ∙ ap (findings scope events) (same_approvals events these those p q) ∙ sym f
