-- What a log settles, by its whole orders and asks instead of the steps of a till.
use Rattle.std.specs.Prelude.{◌≡◌, ℕ, Bool, true, false, cond, List, [], ◌∷◌, ◌++◌, length, Option, Some, None, filter, fold, slice_get, option_and_then, option_map, option_to_list}
use Rattle.std.specs.List.{list_all}
use Rattle.zvt_till.specs.declared.happenings.Happening.{Happening}
use Rattle.zvt_till.specs.declared.happenings.Sent.{Sent}
use Rattle.zvt_till.specs.declared.happenings.Sent.TheVariants.{Register, Pay, Reverse, CloseDay, Cancel, Foreign}
use Rattle.zvt_till.specs.declared.messages.StatusFacts.{StatusFacts}
use Rattle.zvt_till.specs.declared.outcomes.Cause.{Cause}
use Rattle.zvt_till.specs.Books.{Booked, Books, Verdict, Entered, Unclear, Refused, empty_books, judge, verdict_at, charge_of, traces, is_finished}
use Rattle.zvt_till.specs.declared.entries.Doubt.{Doubt}
use Rattle.zvt_till.specs.declared.entries.Doubt.TheVariants.{No, Unclear as UnclearDoubt, TakenBack}
use Rattle.zvt_till.specs.Doubts.{doubt_after}
use Rattle.zvt_till.specs.Judging.{as_book}
use Rattle.zvt_till.specs.Log.{CanFollow, facts_in}
use Rattle.zvt_till.specs.Refusals.{line_refusal}
use Rattle.zvt_till.specs.declared.orders.Order.TheVariants.{CloseDay as CloseDayOrder}
use Rattle.zvt_till.specs.declared.happenings.Happening.TheVariants.{Connected, Sent as SentOut, Heard as HeardIn, Malformed, Lost}
use Rattle.zvt_till.specs.Marks.{reverses}
use Rattle.zvt_till.specs.Segments.{Segment, Ended, begun, force_after, end_of, statuses, is_completion}
use Rattle.zvt_till.specs.Sending.{Settings}
use Rattle.zvt_settle.specs.declared.deciding.Pending.{Pending}
use Rattle.zvt_settle.specs.declared.deciding.Settlement.{Settlement}
use Rattle.zvt_settle.specs.declared.deciding.What.{What}
use Rattle.zvt_settle.specs.declared.deciding.What.TheVariants.{Payment, Reversal}
use Rattle.zvt_settle.specs.Deciding.{same, if_numbered, decision}
use Rattle.zvt_settle.specs.Settling.{Note, Line, Asked, both_after, paid_traces, pending_as}

-- an order or an ask, with everything heard up to the next one
pub data Chapter : Type 0 where
  Ordered : (s : Segment) → Chapter
  AskedThen : (answers : List Happening) → Chapter

abbrev pub up_to_next : List Note → List Happening
up_to_next [] = []
up_to_next (Asked ∷ notes) = []
up_to_next (Line h ∷ notes) = elim (begun h) [ None ↦ h ∷ up_to_next notes | Some o ↦ [] ]

abbrev pub chapters_from : (force : Option ℕ) → List Note → List Chapter
chapters_from force [] = []
chapters_from force (Asked ∷ notes) = AskedThen (up_to_next notes) ∷ chapters_from force notes
chapters_from force (Line h ∷ notes) =
    elim (begun h) [
      | None ↦ chapters_from (force_after force h) notes
      | Some o ↦ Ordered (record { opening = record { order = o; currency = force; sole = None }; answers = up_to_next notes }) ∷ chapters_from (force_after force h) notes
    ]

abbrev pub chapters : List Note → List Chapter
chapters notes = chapters_from None notes

-- ---- what the terminal said last

-- the status, if there is at least one, all have the same values, and they name a trace number
abbrev pub one_said : List StatusFacts → Option StatusFacts
one_said [] = None
one_said (s ∷ more) = cond (list_all (same s) more) (if_numbered s) None

abbrev pub completed_with : Option Ended → Option StatusFacts
completed_with None = None
completed_with (Some e) = cond (is_completion e.by) (one_said (statuses e.before)) None

-- the answer to an ask that was completed
abbrev pub answer_of : List Happening → Option StatusFacts
answer_of answers = completed_with (end_of answers)

-- ---- how a payment or a reversal left the till

-- it happened, it is unclear, or nothing changed
pub data Left : Type 0 where
  Known : Left
  Doubted : Left
  AsBefore : Left

abbrev pub left_by_verdict : Verdict → Left
left_by_verdict (Entered row) = Known
left_by_verdict (Unclear cause) = cond (is_finished cause) Doubted AsBefore
left_by_verdict Refused = AsBefore

-- a new doubt means that this reversal is unclear
abbrev pub left_by_doubt : Doubt → Left
left_by_doubt No = AsBefore
left_by_doubt (UnclearDoubt cause) = Doubted
left_by_doubt TakenBack = AsBefore

abbrev pub left_by_reversal : (entry : ℕ) → Segment → Option Booked → Left
left_by_reversal entry s None = AsBefore
left_by_reversal entry s (Some row) = cond (reverses entry row s) Known (left_by_doubt (doubt_after entry row No s))

abbrev pub left_as : Sent → Books → Segment → Left
left_as (Register c) b s = AsBefore
left_as (Pay a) b s = left_by_verdict (verdict_at (charge_of s.opening a) (traces b.booked) (end_of s.answers))
left_as (Reverse e) b s = left_by_reversal e s (slice_get b.booked e)
left_as CloseDay b s = AsBefore
left_as Cancel b s = AsBefore
left_as Foreign b s = AsBefore

abbrev pub left_by : Books → Segment → Left
left_by b s = left_as s.opening.order b s

abbrev pub closes : Sent → Bool
closes (Register c) = false
closes (Pay a) = false
closes (Reverse e) = false
closes CloseDay = true
closes Cancel = false
closes Foreign = true

abbrev pub last_left : Left → Option StatusFacts → Segment → Option StatusFacts
last_left Known last s = completed_with (end_of s.answers)
last_left Doubted last s = None
last_left AsBefore last s = cond (closes s.opening.order) None last

-- the terminal's answer to an ask after a chapter, if it is known
abbrev pub last_after : Books → Option StatusFacts → Chapter → Option StatusFacts
last_after b last (Ordered s) = last_left (left_by b s) last s
last_after b last (AskedThen answers) = elim (answer_of answers) [ None ↦ last | Some a ↦ Some a ]

-- ---- what is settled

abbrev pub registers : Sent → Bool
registers (Register c) = true
registers (Pay a) = false
registers (Reverse e) = false
registers CloseDay = false
registers Cancel = false
registers Foreign = false

-- the first answer to an ask, if no order except registrations came before it
abbrev pub first_answer : List Chapter → Option StatusFacts
first_answer [] = None
first_answer (AskedThen answers ∷ more) = elim (answer_of answers) [ None ↦ first_answer more | Some a ↦ Some a ]
first_answer (Ordered s ∷ more) = cond (registers s.opening.order) (first_answer more) None

-- the number of unclear payments whose orders ended
abbrev pub finished_rows : List (ℕ × Cause) → ℕ
finished_rows rows = length (filter (λ row. is_finished row.1) rows)

abbrev pub what_of : Sent → Books → Option What
what_of (Register c) b = None
what_of (Pay a) b = Some (Payment (finished_rows b.unclear) a)
what_of (Reverse e) b = Some (Reversal e)
what_of CloseDay b = None
what_of Cancel b = None
what_of Foreign b = None

abbrev pub pending_after : Left → Books → Option StatusFacts → Segment → Option Pending
pending_after Known b last s = None
pending_after Doubted b last s = option_and_then (λ what. option_map (pending_as what) last) (what_of s.opening.order b)
pending_after AsBefore b last s = None

-- the first answer after an unclear order decides it, if the last status before it is known
abbrev pub settled_by : (currency : ℕ) → Books → List Settlement → Option Pending → Option StatusFacts → Option Settlement
settled_by currency b so_far None answer = None
settled_by currency b so_far (Some p) answer =
    option_and_then (λ a. decision currency (as_book b.booked) (traces b.booked ++ paid_traces so_far) p a) answer

abbrev pub books_after : Books → Chapter → Books
books_after b (Ordered s) = judge b s
books_after b (AskedThen answers) = b

abbrev pub settles_at : (currency : ℕ) → Books → Option StatusFacts → List Settlement → Chapter → List Chapter → List Settlement
settles_at currency b last so_far (Ordered s) more = option_to_list (settled_by currency b so_far (pending_after (left_by b s) b last s) (first_answer more))
settles_at currency b last so_far (AskedThen answers) more = []

abbrev pub settlements_from : (currency : ℕ) → Books → Option StatusFacts → List Settlement → List Chapter → List Settlement
settlements_from currency b last so_far [] = so_far
settlements_from currency b last so_far (c ∷ more) =
    settlements_from currency (books_after b c) (last_after b last c) (so_far ++ settles_at currency b last so_far c more) more

-- what a log settles
abbrev pub settlements : (currency : ℕ) → List Note → List Settlement
settlements currency notes = settlements_from currency empty_books None [] (chapters notes)

-- ---- the law

abbrev pub lines : List Note → List Happening
lines [] = []
lines (Line h ∷ notes) = h ∷ lines notes
lines (Asked ∷ notes) = lines notes

abbrev pub is_open_ask : Bool → Chapter → Bool
is_open_ask before (Ordered s) = false
is_open_ask before (AskedThen answers) = elim (end_of answers) [ None ↦ true | Some e ↦ false ]

-- the last ask has no end yet
abbrev pub asking_in : List Note → Bool
asking_in notes = fold is_open_ask false (chapters notes)

-- while an ask runs, no order is sent
abbrev pub CanSend : List Note → Happening → Type 0
CanSend before Connected = Unit {0}
CanSend before (SentOut o) = asking_in before ≡ false
CanSend before (HeardIn m) = Unit {0}
CanSend before Malformed = Unit {0}
CanSend before Lost = Unit {0}

-- an ask is sent only if an end of day could be, and while no other ask runs
abbrev pub CanNote : Settings → List Note → Note → Type 0
CanNote settings before (Line h) = CanFollow settings (facts_in settings.rules (lines before)) h × CanSend before h
CanNote settings before Asked = (line_refusal (facts_in settings.rules (lines before)) CloseDayOrder ≡ None) × (asking_in before ≡ false)

abbrev pub IsStoryFrom : Settings → List Note → List Note → Type 0
IsStoryFrom settings before [] = Unit {0}
IsStoryFrom settings before (n ∷ more) = CanNote settings before n × IsStoryFrom settings (before ++ n ∷ []) more

-- a till with these settings can have this log
abbrev pub IsStory : Settings → List Note → Type 0
IsStory settings notes = IsStoryFrom settings [] notes

-- the steps of the till settle the same as the whole log
abbrev pub SettlingMeetsLog : Type 0
SettlingMeetsLog =
    (settings : Settings) (notes : List Note) → settings.rules.reversal_by_receipt ≡ false → IsStory settings notes → (both_after settings notes).settling.settled ≡ settlements settings.currency notes
