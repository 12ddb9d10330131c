-- The slips of a trace as a report writes them, and a listener that writes them.
use Rattle.std.specs.Prelude.{◌≡◌, ℕ, true, false, cond, List, [], ◌∷◌, ◌++◌, codes, length, Option, Some, None, option_map, Result, Ok, Err}
use Rattle.std.specs.List.{flat_map}
use Rattle.std.specs.Str.Lines.{lines}
use Rattle.zvt_grammar.specs.Reading.{Reading}
use Rattle.zvt_page.specs.Html.{leaf, render}
use Rattle.zvt_page.specs.declared.elements.Element.TheVariants.{H2}
use Rattle.zvt_trace.specs.Emitting.{BrokenTrace, WholeTrace}
use Rattle.zvt_trace.specs.Listening.{Fails, Hears}
use Rattle.zvt_trace.specs.TraceEvent.{At}
use Rattle.zvt_trace.specs.declared.fault.TraceFault.{TraceFault}
use Rattle.zvt_trace.specs.declared.fault.TraceFault.TheVariants.{Memory, Read, TooLong, Trace, Write}
use Rattle.zvt_trace.specs.declared.listener.ListenerError.TheVariants as failure
use Rattle.zvt_trace.specs.declared.listener.Scope.{Scope}
use Rattle.zvt_audit.specs.ByControl.{FailsBy, HearsBy, seen}
use Rattle.zvt_audit.specs.declared.by_control.ByControl.{ByControl}
use Rattle.zvt_report.specs.Dialogue.{is_within, shown_lines}
use Rattle.zvt_report.specs.PageSlips.{shown_slips, slip_html, slips_section}
use Rattle.zvt_report.specs.SlipObjects.{slip_line}
use Rattle.zvt_report.specs.Slips.{Slip, run_slip, slips, slips_from}
use Rattle.zvt_report.specs.declared.cases.Look.{Look}
use Rattle.zvt_report.specs.declared.form.ReportForm.{ReportForm}
use Rattle.zvt_report.specs.declared.form.ReportForm.TheVariants.{Text, Json, Page}
use Rattle.zvt_report.specs.declared.report.Report.{Report}
use Rattle.zvt_report.specs.declared.slip_kinds.SlipKind.TheVariants.{PrintLines}
use Rattle.zvt_report.specs.declared.slips.Slips.{Slips}

-- ---- what is written

-- Objects, or the part of a page about those that begin at these lines; the text lists no slips.
abbrev pub slips_part : ReportForm → Option (List (ℕ × ℕ)) → List Slip → List ℕ
slips_part Text ranges slips = []
slips_part Json ranges slips = flat_map slip_line slips
slips_part Page ranges slips = render (slips_section (shown_slips ranges slips))

-- one of them
abbrev pub slip_text : ReportForm → Option (List (ℕ × ℕ)) → Slip → List ℕ
slip_text Text ranges slip = []
slip_text Json ranges slip = slip_line slip
slip_text Page ranges slip = cond (is_within ranges slip.first) (render (slip_html slip)) []

abbrev pub slip_texts : ReportForm → Option (List (ℕ × ℕ)) → List Slip → List ℕ
slip_texts form ranges slips = flat_map (slip_text form ranges) slips

-- under the heading of a page, if there are any
abbrev pub headed : ReportForm → (texts : List ℕ) → List ℕ
headed Text texts = texts
headed Json texts = texts
headed Page [] = []
headed Page (first ∷ rest) = render (leaf H2 [] (codes "Printed by the terminal")) ++ first ∷ rest

-- ---- a listener

abbrev pub ranges_of : Slips → Option (List (ℕ × ℕ))
ranges_of s = option_map (λ ranges. ranges.items) s.ranges

-- the slips of later events, where one of print lines may go on
abbrev pub opened : (order : ℕ) → (going : Option (ℕ × ℕ)) → (texts : List (List ℕ)) → (later : List At) → List Slip
opened order None texts later = slips_from order false later
opened order (Some place) texts later = run_slip order place.0 place.1 texts later ∷ slips_from order true later

-- what is written in the end
abbrev pub told : Slips → (later : List At) → List ℕ
told s later = s.text ++ slip_texts s.form (ranges_of s) (opened (length s.begun.items) s.going s.texts.items later)

-- what a listener becomes by an event: whatever comes later, the text is the same
pub record Prints (old : Slips) (event : At) (new : Slips) : Type 0 where
  pub form : new.form ≡ old.form
  pub ranges : new.ranges ≡ old.ranges
  pub text : (later : List At) → told new later ≡ told old (event ∷ later)

-- the slip of print lines that went on
abbrev pub closed : (order : ℕ) → (going : Option (ℕ × ℕ)) → (texts : List (List ℕ)) → List Slip
closed order None texts = []
closed order (Some place) texts = record { kind = PrintLines; first = place.0; last = place.1; order = order; texts = texts } ∷ []

-- the first line of the slip that goes on, or of one that begins at this line
abbrev pub first_by : (going : Option (ℕ × ℕ)) → (line : ℕ) → ℕ
first_by None line = line
first_by (Some place) line = place.0

-- the texts of the slip that goes on
abbrev pub kept : (going : Option (ℕ × ℕ)) → (texts : List (List ℕ)) → List (List ℕ)
kept None texts = []
kept (Some place) texts = texts

-- no slip goes on, and these were written after it
pub record Closes (old : Slips) (written : List Slip) (new : Slips) : Type 0 where
  pub form : new.form ≡ old.form
  pub ranges : new.ranges ≡ old.ranges
  pub begun : new.begun.items ≡ old.begun.items
  pub going : new.going ≡ None
  pub text : new.text ≡ old.text ++ slip_texts old.form (ranges_of old) (closed (length old.begun.items) old.going old.texts.items ++ written)

abbrev pub prints : Hears Slips
prints old event new = Prints old event new

abbrev pub wants_memory : Fails Slips
wants_memory old event why new = why ≡ failure.Memory

abbrev pub prints_by : Hears (ByControl Slips)
prints_by = HearsBy prints

abbrev pub wants_memory_by : Fails (ByControl Slips)
wants_memory_by = FailsBy wants_memory

-- ---- the answer

abbrev pub HasSlips : Reading → Scope → (trace : List ℕ) → ReportForm → Report → List Look → List ℕ → Type 0
HasSlips r scope trace form report looks text =
    (events : List At) × WholeTrace r scope (lines trace) events
    × (text ≡ slips_part form (shown_lines report.tally report.books.orders looks) (slips (seen scope events)))

-- what a report of that form writes of the slips of a trace; the text has none
abbrev pub AreSlips : Reading → Scope → (trace : List ℕ) → ReportForm → Report → List Look → List ℕ → Type 0
AreSlips r scope trace Text report looks text = text ≡ []
AreSlips r scope trace Json report looks text = HasSlips r scope trace Json report looks text
AreSlips r scope trace Page report looks text = HasSlips r scope trace Page report looks text

-- the same of objects and pages
abbrev pub AnswersWalked : Reading → Scope → (trace : List ℕ) → ReportForm → Report → List Look → Result (List ℕ) TraceFault → Type 0
AnswersWalked r scope trace form report looks (Ok text) = HasSlips r scope trace form report looks text
AnswersWalked r scope trace form report looks (Err (Trace number what)) = (events : List At) × BrokenTrace r scope (lines trace) number what events
AnswersWalked r scope trace form report looks (Err Memory) = Unit {0}
AnswersWalked r scope trace form report looks (Err Write) = ⊥
AnswersWalked r scope trace form report looks (Err TooLong) = ⊥
AnswersWalked r scope trace form report looks (Err Read) = ⊥

abbrev pub AnswersSlips : Reading → Scope → (trace : List ℕ) → ReportForm → Report → List Look → Result (List ℕ) TraceFault → Type 0
AnswersSlips r scope trace form report looks (Ok text) = AreSlips r scope trace form report looks text
AnswersSlips r scope trace form report looks (Err (Trace number what)) = (events : List At) × BrokenTrace r scope (lines trace) number what events
AnswersSlips r scope trace form report looks (Err Memory) = Unit {0}
AnswersSlips r scope trace form report looks (Err Write) = ⊥
AnswersSlips r scope trace form report looks (Err TooLong) = ⊥
AnswersSlips r scope trace form report looks (Err Read) = ⊥
