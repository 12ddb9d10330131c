-- Each reversal of a report takes back an entry of the book before it.
use Rattle.std.proofs.Common.{◌≡◌, ℕ, List, [], ◌∷◌, ◌++◌, Option, Some, None, fold, refl, sym, ◌∙◌, subst, append-nil, append_assoc}
use Rattle.zvt_apdu.specs.Message.{ack, nack, registration, authorisation, reversal, end_of_day, abort_order, status, intermediate, print_line, text_block, completion, abort, other}
use Rattle.zvt_apdu.specs.Views.{currency_in}
use Rattle.zvt_field.specs.Named.{amount_of, receipt_of}
use Rattle.zvt_till.specs.Segments.{begun, in_force}
use Rattle.zvt_till.specs.declared.happenings.Happening.TheVariants.{Connected, Sent as SentOut, Heard as HeardIn, Malformed, Lost}
use Rattle.zvt_till.specs.declared.happenings.Sent.{Sent}
use Rattle.zvt_till.specs.declared.happenings.Sent.TheVariants.{Register, Pay, CloseDay, Cancel, Foreign}
use Rattle.zvt_till.specs.Hearing.{heard_as}
use Rattle.zvt_trace.specs.TraceEvent.{At, TraceEvent, on}
use Rattle.zvt_trace.specs.TraceEvent as trace_event
use Rattle.zvt_trace.specs.declared.direction.Direction.TheVariants.{FromTill, FromTerminal}
use Rattle.zvt_audit.specs.Happened.{paid}
use Rattle.zvt_report.specs.Chapters.{Noted, Chapter, chapters, happenings, noted}
use Rattle.zvt_report.specs.Day.{DayValue, day_after, day_of, no_orders}
use Rattle.zvt_report.specs.Laws.{AreOfEntries, IsOfEntry}
use Rattle.zvt_report.specs.Naming.{reversing}
use Rattle.zvt_report.specs.Reported.{EachReversalNamesAnEntry, with_event}
use Rattle.zvt_report.proofs.ChapterLemmas.{chap, chapters-snoc, grown, heard_last}
use Rattle.zvt_report.proofs.NamingLemmas.{begins, reversals_name_entries}

-- each reversal takes back an entry of the book before it
abbrev AreNamed : List Noted → Type 0
AreNamed notes = AreOfEntries no_orders (chapters notes)

heard_of_entries : (d : DayValue) (cs : List Chapter) (n : Noted) → AreOfEntries d cs → AreOfEntries d (heard_last cs n)
heard_of_entries d [] n are = tt
heard_of_entries d (c ∷ []) n are = (are.0, tt)
heard_of_entries d (c ∷ next ∷ cs) n are = (are.0, heard_of_entries (day_after d c) (next ∷ cs) n are.1)

one_of_entries : (d : DayValue) (cs : List Chapter) (c : Chapter) → AreOfEntries d cs → IsOfEntry (fold day_after d cs).book c.order → AreOfEntries d (cs ++ c ∷ [])
one_of_entries d [] c are is = (is, tt)
one_of_entries d (first ∷ cs) c are is = (are.0, one_of_entries (day_after d first) cs c are.1 is)

-- one more note, which begins no reversal of anything but an entry
named_more : (notes : List Noted) (n : Noted) → AreNamed notes → ((o : Sent) → begun n.happening ≡ Some o → IsOfEntry (day_of notes).book o) → AreNamed (notes ++ n ∷ [])
named_more notes n are is = subst (λ (cs : List Chapter). AreOfEntries no_orders cs) (sym (chapters-snoc notes n)) (by (begun n.happening) is)
  where
    by : (b : Option Sent) → ((o : Sent) → b ≡ Some o → IsOfEntry (day_of notes).book o) → AreOfEntries no_orders (grown (in_force (happenings notes)) (chapters notes) n b)
    by None is = heard_of_entries no_orders (chapters notes) n are
    by (Some o) is = one_of_entries no_orders (chapters notes) (chap (in_force (happenings notes)) o n.line []) are (is o refl)

-- one more note, which begins no order
named_still : (notes : List Noted) (n : Noted) → AreNamed notes → begun n.happening ≡ None → AreNamed (notes ++ n ∷ [])
named_still notes n are none = named_more notes n are (λ o is. absurd (differ (sym none ∙ is)))
  where
    differ : {o : Sent} → None ≡ Some o → ⊥
    differ e = cc

-- one more note, which begins this order
named_order : (notes : List Noted) (n : Noted) (o : Sent) → AreNamed notes → begun n.happening ≡ Some o → IsOfEntry (day_of notes).book o → AreNamed (notes ++ n ∷ [])
named_order notes n o are begins is = named_more notes n are (λ other same. subst (λ (x : Sent). IsOfEntry (day_of notes).book x) (one (sym begins ∙ same)) is)
  where
    one : {other : Sent} → Some o ≡ Some other → o ≡ other
    one e = cc

named_none : (notes : List Noted) → AreNamed notes → AreNamed (notes ++ [])
named_none notes are = subst AreNamed (sym (append-nil notes)) are

named_by : (notes : List Noted) (line : ℕ) (o : Sent) → AreNamed notes → begun (SentOut o) ≡ Some o → IsOfEntry (day_of notes).book o → AreNamed (notes ++ noted line (SentOut o) ∷ [])
named_by notes line o are begins is = named_order notes (noted line (SentOut o)) o are begins is

named_event : (notes : List Noted) (line : ℕ) (event : TraceEvent) → AreNamed notes → AreNamed (with_event notes (on line event))
named_event notes line (trace_event.message FromTill (ack payload)) are = named_none notes are
named_event notes line (trace_event.message FromTill (nack code payload)) are = named_none notes are
named_event notes line (trace_event.message FromTill (registration password config rest)) are = named_by notes line (Register (currency_in (registration password config rest))) are refl tt
named_event notes line (trace_event.message FromTill (authorisation fields)) are = by (amount_of fields)
  where
    by : (amount : Option ℕ) → AreNamed (notes ++ noted line (SentOut (paid amount)) ∷ [])
    by None = named_by notes line Foreign are refl tt
    by (Some amount) = named_by notes line (Pay amount) are refl tt
named_event notes line (trace_event.message FromTill (reversal password fields)) are =
    named_by notes line (reversing (day_of notes).book (receipt_of fields)) are (begins (day_of notes).book (receipt_of fields)) (reversals_name_entries (day_of notes).book (receipt_of fields))
named_event notes line (trace_event.message FromTill (end_of_day password fields)) are = named_by notes line CloseDay are refl tt
named_event notes line (trace_event.message FromTill (abort_order fields)) are = named_still notes (noted line (SentOut Cancel)) are refl
named_event notes line (trace_event.message FromTill (status fields)) are = named_none notes are
named_event notes line (trace_event.message FromTill (intermediate step payload)) are = named_none notes are
named_event notes line (trace_event.message FromTill (print_line attribute text)) are = named_none notes are
named_event notes line (trace_event.message FromTill (text_block fields)) are = named_none notes are
named_event notes line (trace_event.message FromTill (completion fields)) are = named_none notes are
named_event notes line (trace_event.message FromTill (abort code payload)) are = named_none notes are
named_event notes line (trace_event.message FromTill (other high low payload)) are = named_by notes line Foreign are refl tt
named_event notes line (trace_event.message FromTerminal m) are = named_still notes (noted line (HeardIn (heard_as m))) are refl
named_event notes line (trace_event.refused from before byte why) are = named_still notes (noted line Malformed) are refl
named_event notes line (trace_event.unread from) are = named_none notes are
named_event notes line (trace_event.resumed from size) are = named_none notes are
named_event notes line (trace_event.cut_off from bytes) are = named_none notes are
named_event notes line trace_event.lost are =
    subst AreNamed (append_assoc notes (noted line Lost ∷ []) (noted line Connected ∷ []))
    (named_still (notes ++ noted line Lost ∷ []) (noted line Connected) (named_still notes (noted line Lost) are refl) refl)

all_named : (notes : List Noted) (events : List At) → AreNamed notes → AreNamed (fold with_event notes events)
all_named notes [] are = are
all_named notes (event ∷ events) are = all_named (with_event notes event) events (named_event notes event.line event.trace_event are)

pub each_reversal_names_an_entry : EachReversalNamesAnEntry
each_reversal_names_an_entry events = all_named (noted 0 Connected ∷ []) events tt
