-- What is found of an order by what happens after it.
use Rattle.std.proofs.Common.{◌≡◌, ℕ, Bool, true, false, cond, not, ◌||◌, if◌then◌else◌, ap₂, List, [], ◌∷◌, ◌++◌, Option, Some, None, is_some, refl, sym, ◌∙◌, ap, subst, append_assoc, append-nil}
use Rattle.std.proofs.lemmas.List.Elements.{filter_map-append}
use Rattle.std.specs.List.{cons_option, filter_map, list_any, slice_get}
use Rattle.std.specs.Option.{option_map}
use Rattle.zvt_apdu.specs.Message.{Message, ack, nack, registration, authorisation, reversal, end_of_day, abort_order, status, intermediate, print_line, text_block, completion, abort, other}
use Rattle.zvt_apdu.specs.Views.{control_of}
use Rattle.zvt_till.specs.Segments.{Ended, begun, end_after, ends, is_positive, up_to_order}
use Rattle.zvt_till.specs.declared.happenings.Happening.{Happening}
use Rattle.zvt_till.specs.declared.happenings.Happening.TheVariants.{Connected, Lost, Sent as SentOut}
use Rattle.zvt_till.specs.declared.happenings.Sent.{Sent}
use Rattle.zvt_till.specs.declared.happenings.Sent.TheVariants.{Foreign}
use Rattle.zvt_till.proofs.Segments.{list_any-snoc}
use Rattle.zvt_audit.specs.Unfollowed.{Finds, FindsBy, accepted, approval_by, approval_of, before_end, found_then, is_unfollowed_from, settled_by, unfollowed_at, unfollowed_in, unfollowed_order, with_approval, with_unfollowed}
use Rattle.zvt_audit.specs.Happened.{happened_by, happenings_of, ordered, paid}
use Rattle.zvt_field.specs.Named.{amount_of}
use Rattle.zvt_trace.specs.TraceEvent.{At, on}
use Rattle.zvt_trace.specs.TraceEvent as trace_event
use Rattle.zvt_trace.specs.declared.direction.Direction.TheVariants.{FromTill}
use Rattle.zvt_audit.specs.declared.unfollowed.Approval.{Approval}
use Rattle.zvt_audit.specs.declared.unfollowed.Unfollowed.{Unfollowed}
use Rattle.zvt_audit.specs.declared.unfollowed.UnfollowedOrder.{UnfollowedOrder}
use Rattle.zvt_audit.specs.declared.unfollowed.Waiting.{Waiting}

false_true : false ≡ true → ⊥
false_true never = cc

true_false : true ≡ false → ⊥
true_false never = cc

-- ---- one answer after another

abbrev or_later : Option Approval → Option Approval → Option Approval
or_later None later = later
or_later (Some approval) later = Some approval

-- the approval of an order that was accepted, or not, by these answers
abbrev awaited : (positive : Bool) → List Happening → Option Approval
awaited positive [] = None
awaited positive (h ∷ hs) = cond (ends positive h) None (or_later (approval_by h) (awaited (positive || is_positive h) hs))

abbrev approvals : List Happening → List Approval
approvals hs = filter_map approval_by hs

abbrev first_of : List Happening → Option Approval
first_of hs = slice_get (approvals hs) 0

-- the answers before the end, where these came first
abbrev met : (before hs : List Happening) → List Happening
met before hs = before_end (before ++ hs) (end_after before hs)

abbrev ended_at : List Happening → Happening → Ended
ended_at before h = record { before = before; by = h }

-- the next one, where it ends the order or does not
met_end : (before : List Happening) (h : Happening) (hs : List Happening) → ends (list_any is_positive before) h ≡ true → met before (h ∷ hs) ≡ before
met_end before h hs is = ap (λ (b : Bool). before_end (before ++ h ∷ hs) (cond b (Some (ended_at before h)) (end_after (before ++ h ∷ []) hs))) is

met_next : (before : List Happening) (h : Happening) (hs : List Happening) → ends (list_any is_positive before) h ≡ false → met before (h ∷ hs) ≡ met (before ++ h ∷ []) hs
met_next before h hs is =
    ap (λ (b : Bool). before_end (before ++ h ∷ hs) (cond b (Some (ended_at before h)) (end_after (before ++ h ∷ []) hs))) is
    ∙ ap (λ (l : List Happening). before_end l (end_after (before ++ h ∷ []) hs)) (sym (append_assoc before (h ∷ []) hs))

-- they begin with what came first
abbrev Extends : (before hs : List Happening) → Type 0
Extends before hs = (rest : List Happening) × (met before hs ≡ before ++ rest)

extends_by : (b : Bool) (before : List Happening) (h : Happening) (hs : List Happening) → ends (list_any is_positive before) h ≡ b → Extends (before ++ h ∷ []) hs → Extends before (h ∷ hs)
extends_by true before h hs is later = ([], met_end before h hs is ∙ sym (append-nil before))
extends_by false before h hs is (rest, same) = (h ∷ rest, met_next before h hs is ∙ same ∙ append_assoc before (h ∷ []) rest)

extends : (before hs : List Happening) → Extends before hs
extends before [] = ([], refl)
extends before (h ∷ hs) = extends_by (ends (list_any is_positive before) h) before h hs refl (extends (before ++ h ∷ []) hs)

-- the first approval, where none came first
abbrev FirstMet : (before hs : List Happening) → Type 0
FirstMet before hs = approvals before ≡ [] → first_of (met before hs) ≡ awaited (list_any is_positive before) hs

module _ (before : List Happening) (h : Happening) (hs : List Happening) (quiet : approvals before ≡ []) (later : FirstMet (before ++ h ∷ []) hs) where
  abbrev found_next : Option Approval → Option Approval
  found_next found = or_later found (awaited (list_any is_positive before || is_positive h) hs)

  longer : approvals (before ++ h ∷ []) ≡ cons_option (approval_by h) []
  longer = filter_map-append approval_by before (h ∷ []) ∙ ap (λ (l : List Approval). l ++ approvals (h ∷ [])) quiet

  first_after : (o : Option Approval) → approval_by h ≡ o → first_of (met (before ++ h ∷ []) hs) ≡ found_next o
  first_after None is = later (longer ∙ ap (λ (o : Option Approval). cons_option o []) is) ∙ ap (λ (b : Bool). awaited b hs) (list_any-snoc is_positive before h)
  first_after (Some approval) is =
      let more = extends (before ++ h ∷ []) hs in
      ap first_of more.1
      ∙ ap (λ (l : List Approval). slice_get l 0)
      (filter_map-append approval_by (before ++ h ∷ []) more.0 ∙ ap (λ (l : List Approval). l ++ approvals more.0) (longer ∙ ap (λ (o : Option Approval). cons_option o []) is))

  first_by : (b : Bool) → ends (list_any is_positive before) h ≡ b → first_of (met before (h ∷ hs)) ≡ cond b None (found_next (approval_by h))
  first_by true is = ap first_of (met_end before h hs is) ∙ ap (λ (l : List Approval). slice_get l 0) quiet
  first_by false is = ap first_of (met_next before h hs is) ∙ first_after (approval_by h) refl

first_met : (before hs : List Happening) → FirstMet before hs
first_met before [] quiet = ap first_of (append-nil before) ∙ ap (λ (l : List Approval). slice_get l 0) quiet
first_met before (h ∷ hs) quiet = first_by before h hs quiet (first_met (before ++ h ∷ []) hs) (ends (list_any is_positive before) h) refl

approved_as : (positive : Bool) (answers : List Happening) → approval_of (accepted positive ++ answers) ≡ awaited positive answers
approved_as false answers = first_met [] answers refl
approved_as true answers = first_met [] (accepted true ++ answers) refl

-- ---- what happens while an order waits

order_as : (w : Waiting) (answers : List Happening) → with_approval w.order (approval_of (accepted w.positive ++ answers)) ≡ with_approval w.order (awaited w.positive answers)
order_as w answers = ap (with_approval w.order) (approved_as w.positive answers)

abbrev up_to : Option Sent → Happening → List Happening → List Happening
up_to begins h rest = elim begins [ None ↦ h ∷ up_to_order rest | Some order ↦ [] ]

-- its end, or the next order
over : (w : Waiting) (h : Happening) (rest : List Happening) → (is_some (begun h) || ends w.positive h) ≡ true → settled_by (h ∷ rest) w ≡ with_approval w.order None
over w h rest is = order_as w (up_to_order (h ∷ rest)) ∙ by (begun h) refl
  where
    ended : ends w.positive h ≡ true → awaited w.positive (h ∷ up_to_order rest) ≡ None
    ended at = ap (λ (b : Bool). cond b None (or_later (approval_by h) (awaited (w.positive || is_positive h) (up_to_order rest)))) at

    by : (o : Option Sent) → begun h ≡ o → with_approval w.order (awaited w.positive (up_to_order (h ∷ rest))) ≡ with_approval w.order None
    by None at = ap (λ (o : Option Sent). with_approval w.order (awaited w.positive (up_to o h rest))) at ∙ ap (with_approval w.order) (ended (sym (ap (λ (o : Option Sent). is_some o || ends w.positive h) at) ∙ is))
    by (Some order) at = ap (λ (o : Option Sent). with_approval w.order (awaited w.positive (up_to o h rest))) at

module _ (w : Waiting) (h : Happening) (rest : List Happening) (goes_on : (is_some (begun h) || ends w.positive h) ≡ false) where
  none_begun : (o : Option Sent) → begun h ≡ o → (up_to_order (h ∷ rest) ≡ h ∷ up_to_order rest) × (ends w.positive h ≡ false)
  none_begun None at = (ap (λ (o : Option Sent). up_to o h rest) at, sym (ap (λ (o : Option Sent). is_some o || ends w.positive h) at) ∙ goes_on)
  none_begun (Some order) at = absurd (true_false (sym (ap (λ (o : Option Sent). is_some o || ends w.positive h) at) ∙ goes_on))

  next : with_approval w.order (awaited w.positive (up_to_order (h ∷ rest))) ≡ with_approval w.order (or_later (approval_by h) (awaited (w.positive || is_positive h) (up_to_order rest)))
  next =
      let on = none_begun (begun h) refl in
      ap (with_approval w.order)
      (ap (awaited w.positive) on.0 ∙ ap (λ (b : Bool). cond b None (or_later (approval_by h) (awaited (w.positive || is_positive h) (up_to_order rest)))) on.1)

  -- a status that approves
  pub approved : (a : Approval) → approval_by h ≡ Some a → settled_by (h ∷ rest) w ≡ with_approval w.order (Some a)
  approved a is = order_as w (up_to_order (h ∷ rest)) ∙ next ∙ ap (λ (o : Option Approval). with_approval w.order (or_later o (awaited (w.positive || is_positive h) (up_to_order rest)))) is

  -- anything else
  pub passed : approval_by h ≡ None → settled_by (h ∷ rest) w ≡ settled_by rest (record { order = w.order; positive = w.positive || is_positive h })
  passed is =
      order_as w (up_to_order (h ∷ rest)) ∙ next ∙ ap (λ (o : Option Approval). with_approval w.order (or_later o (awaited (w.positive || is_positive h) (up_to_order rest)))) is
      ∙ sym (order_as (record { order = w.order; positive = w.positive || is_positive h }) (up_to_order rest))

-- ---- what is found

-- every order so far, and nothing approved for the one that waits
abbrev pub all_found : Unfollowed → List UnfollowedOrder
all_found so_far = with_unfollowed so_far.settled.items (option_map (λ (w : Waiting). with_approval w.order None) so_far.waiting)

abbrev found_as : Unfollowed → (Waiting → UnfollowedOrder) → Option Waiting → List UnfollowedOrder
found_as so_far settle waiting = with_unfollowed so_far.settled.items (option_map settle waiting)

-- by either of two ways in which an order that waits may be settled
waits_as : (so_far : Unfollowed) (f g : Waiting → UnfollowedOrder) → ((w : Waiting) → so_far.waiting ≡ Some w → f w ≡ g w)
    → with_unfollowed so_far.settled.items (option_map f so_far.waiting) ≡ with_unfollowed so_far.settled.items (option_map g so_far.waiting)
waits_as so_far f g same = by so_far.waiting refl
  where
    by : (o : Option Waiting) → so_far.waiting ≡ o → found_as so_far f so_far.waiting ≡ found_as so_far g so_far.waiting
    by None at = ap (found_as so_far f) at ∙ sym (ap (found_as so_far g) at)
    by (Some w) at = ap (found_as so_far f) at ∙ ap (λ (order : UnfollowedOrder). so_far.settled.items ++ order ∷ []) (same w at) ∙ sym (ap (found_as so_far g) at)

found_over : (so_far : Unfollowed) (h : Happening) (rest : List Happening) → ((w : Waiting) → so_far.waiting ≡ Some w → (is_some (begun h) || ends w.positive h) ≡ true) → found_then so_far (h ∷ rest) ≡ all_found so_far
found_over so_far h rest is = waits_as so_far (settled_by (h ∷ rest)) (λ (w : Waiting). with_approval w.order None) (λ w at. over w h rest (is w at))

-- a loss ends each order
pub found_lost : (so_far : Unfollowed) (rest : List Happening) → found_then so_far (Lost ∷ rest) ≡ found_then so_far (Lost ∷ Connected ∷ rest)
found_lost so_far rest = found_over so_far Lost rest (λ w at. refl) ∙ sym (found_over so_far Lost (Connected ∷ rest) (λ w at. refl))

-- at the end of a line
pub found_last : (so_far : Unfollowed) → all_found so_far ≡ found_then so_far []
found_last so_far = waits_as so_far (λ (w : Waiting). with_approval w.order None) (settled_by []) (λ w at. sym (order_as w []))

-- while none waits, nothing that happens adds to them
pub finds_none : (so_far : Unfollowed) (happened : List Happening) → so_far.waiting ≡ None → FindsBy so_far happened so_far
finds_none so_far happened none later =
    ap (λ (o : Option Waiting). with_unfollowed so_far.settled.items (option_map (settled_by later) o)) none
    ∙ sym (ap (λ (o : Option Waiting). with_unfollowed so_far.settled.items (option_map (settled_by (happened ++ later)) o)) none)

-- one waits, and this happens
module _ (old new : Unfollowed) (w : Waiting) (h : Happening) (waits : old.waiting ≡ Some w) where
  -- no order waits then, and this was approved for the one that did
  abbrev Settles : Option Approval → Type 0
  Settles approval = (new.waiting ≡ None) × (new.settled.items ≡ with_unfollowed old.settled.items (option_map (λ (x : Waiting). with_approval x.order approval) old.waiting))

  settled : (approval : Option Approval) → Settles approval → (later : List Happening) → found_then new later ≡ old.settled.items ++ with_approval w.order approval ∷ []
  settled approval (none, items) later =
      ap (λ (o : Option Waiting). with_unfollowed new.settled.items (option_map (settled_by later) o)) none ∙ items
      ∙ ap (λ (o : Option Waiting). with_unfollowed old.settled.items (option_map (λ (x : Waiting). with_approval x.order approval) o)) waits

  waited : (order : UnfollowedOrder) (later : List Happening) → settled_by later w ≡ order → found_then old later ≡ old.settled.items ++ order ∷ []
  waited order later is =
      ap (λ (o : Option Waiting). with_unfollowed old.settled.items (option_map (settled_by later) o)) waits ∙ ap (λ (x : UnfollowedOrder). old.settled.items ++ x ∷ []) is

  pub finds_end : (is_some (begun h) || ends w.positive h) ≡ true → Settles None → FindsBy old (h ∷ []) new
  finds_end is settles later = settled None settles later ∙ sym (waited (with_approval w.order None) (h ∷ later) (over w h later is))

  pub finds_approval : (approval : Approval) → (is_some (begun h) || ends w.positive h) ≡ false → approval_by h ≡ Some approval → Settles (Some approval) → FindsBy old (h ∷ []) new
  finds_approval approval on is settles later = settled (Some approval) settles later ∙ sym (waited (with_approval w.order (Some approval)) (h ∷ later) (approved w h later on approval is))

  pub finds_nothing : (is_some (begun h) || ends w.positive h) ≡ false → approval_by h ≡ None → new.settled.items ≡ old.settled.items
      → new.waiting ≡ Some (record { order = w.order; positive = w.positive || is_positive h }) → FindsBy old (h ∷ []) new
  finds_nothing on is items waiting later =
      ap₂ (λ (l : List UnfollowedOrder) (o : Option Waiting). with_unfollowed l (option_map (settled_by later) o)) items waiting
      ∙ sym (waited (settled_by later (record { order = w.order; positive = w.positive || is_positive h })) (h ∷ later) (passed w h later on is))

-- ---- events

-- what happened by an event that is no such order
pub finds_by : (old new : Unfollowed) (event : At) → ((later : List At) → unfollowed_at event.line event.trace_event later ≡ None) → FindsBy old (happenings_of event.trace_event) new → Finds old event new
finds_by old new event none found later =
    ap₂ (λ (a b : List UnfollowedOrder). a ++ b) (found (happened_by later)) (ap (λ (o : Option UnfollowedOrder). with_unfollowed [] o ++ unfollowed_in later) (sym (none later)))

-- such an order is no payment that the books know
foreign : (m : Message) → is_unfollowed_from FromTill m ≡ true → ordered m ≡ Some Foreign
foreign (ack payload) is = absurd (false_true is)
foreign (nack code payload) is = absurd (false_true is)
foreign (registration password config rest) is = absurd (false_true is)
foreign (authorisation fields) is = by (amount_of fields) refl
  where
    by : (o : Option ℕ) → amount_of fields ≡ o → Some (paid (amount_of fields)) ≡ Some Foreign
    by None at = ap (λ (o : Option ℕ). Some (paid o)) at
    by (Some amount) at = absurd (false_true (sym (ap (λ (o : Option ℕ). not (is_some o)) at) ∙ is))
foreign (reversal password fields) is = absurd (false_true is)
foreign (end_of_day password fields) is = absurd (false_true is)
foreign (abort_order fields) is = absurd (false_true is)
foreign (status fields) is = absurd (false_true is)
foreign (intermediate step payload) is = absurd (false_true is)
foreign (print_line attribute text) is = absurd (false_true is)
foreign (text_block fields) is = absurd (false_true is)
foreign (completion fields) is = absurd (false_true is)
foreign (abort code payload) is = absurd (false_true is)
foreign (other high low payload) is = refl

-- a message of the till that is no such order
pub finds_other : (old new : Unfollowed) (line : ℕ) (m : Message) (happened : List Happening) → is_unfollowed_from FromTill m ≡ false → happenings_of (trace_event.message FromTill m) ≡ happened
    → FindsBy old happened new → Finds old (on line (trace_event.message FromTill m)) new
finds_other old new line m happened other_is is found =
    finds_by old new (on line (trace_event.message FromTill m)) (λ later. ap (λ (b : Bool). if b then Some (unfollowed_order line (control_of m) (approval_of (up_to_order (happened_by later)))) else None) other_is)
    (subst (λ (l : List Happening). FindsBy old l new) (sym is) found)

-- a message that is one: the order before it is settled, and this one waits
pub finds_order : (old new : Unfollowed) (line : ℕ) (m : Message) → is_unfollowed_from FromTill m ≡ true → new.settled.items ≡ all_found old
    → new.waiting ≡ Some (record { order = unfollowed_order line (control_of m) None; positive = false }) → Finds old (on line (trace_event.message FromTill m)) new
finds_order old new line m is items waiting later =
    let order = unfollowed_order line (control_of m) (approval_of (up_to_order (happened_by later))) in
    ap₂ (λ (l : List UnfollowedOrder) (o : Option Waiting). with_unfollowed l (option_map (settled_by (happened_by later)) o) ++ unfollowed_in later) items waiting
    ∙ append_assoc (all_found old) (order ∷ []) (unfollowed_in later)
    ∙ ap₂ (λ (l : List UnfollowedOrder) (b : Bool). l ++ (with_unfollowed [] (if b then Some order else None) ++ unfollowed_in later))
    (sym (ap (λ (o : Option Sent). found_then old (cons_option (option_map SentOut o) [] ++ happened_by later)) (foreign m is) ∙ found_over old (SentOut Foreign) (happened_by later) (λ w at. refl)))
    (sym is)
