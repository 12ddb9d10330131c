-- Whether the till is registered, by its steps and by its log.
use Rattle.std.proofs.Common.{◌≡◌, ℕ, Bool, true, false, cond, ◌&&◌, ◌||◌, List, [], ◌∷◌, ◌++◌, Option, Some, None, fold, refl, sym, ap, ap₂, subst, ◌∙◌, ◌⊎◌, inl, inr}
use Rattle.std.specs.List.{list_any}
use Rattle.std.proofs.Math.Bool.{or-false}
use Rattle.zvt_till.specs.declared.happenings.Happening.{Happening}
use Rattle.zvt_till.specs.declared.happenings.Happening.TheVariants.{Connected, Sent as SentOut, Heard as HeardIn, Malformed, Lost}
use Rattle.zvt_till.specs.declared.happenings.Sent.{Sent}
use Rattle.zvt_till.specs.declared.happenings.Sent.TheVariants.{Register, Pay, Reverse, CloseDay, Cancel, Foreign}
use Rattle.zvt_till.specs.declared.orders.Order.{Order}
use Rattle.zvt_till.specs.declared.orders.Order.TheVariants.{Register as RegisterOrder, Pay as PayOrder, Reverse as ReverseOrder, CloseDay as CloseDayOrder, Cancel as CancelOrder}
use Rattle.zvt_till.specs.declared.messages.Heard.TheVariants.{Positive, Negative, Status, Passing, Completion, Abort, Strange}
use Rattle.zvt_till.specs.declared.statuses.Statuses.{Statuses}
use Rattle.zvt_till.specs.declared.statuses.Statuses.TheVariants.{Nothing, Good as AllGood, Declining as AllDeclining, Fault}
use Rattle.zvt_till.specs.declared.statuses.Running.{Running}
use Rattle.zvt_till.specs.declared.entries.Entry.{Entry}
use Rattle.zvt_till.specs.declared.outcomes.Cause.{Cause}
use Rattle.zvt_till.specs.declared.outcomes.Cause.TheVariants.{TraceUsed}
use Rattle.zvt_till.specs.declared.outcomes.Outcome.{Outcome}
use Rattle.zvt_till.specs.declared.outcomes.Outcome.TheVariants.{Paid, Refused as RefusedOutcome, Aborted, Unclear as UnclearOutcome}
use Rattle.zvt_till.specs.Segments.{Opening, Segment, Ended, ends, is_positive, is_completion, end_of}
use Rattle.zvt_till.specs.Till.{TillState, registered_after_outcome, finish, meet}
use Rattle.zvt_till.specs.Outcomes.{demand_of, trace_used, outcome_by, reversal_outcome, broken_outcome, completion_outcome, payment_outcome, closing_outcome, listened}
use Rattle.zvt_till.specs.Sending.{Settings}
use Rattle.zvt_till.specs.Log.{is_break, registered_as, registered_by, registered_after, registered_of, awaited_of}
use Rattle.zvt_till.proofs.Segments.{heard_last, list_any-snoc, fold-snoc, heard_last-snoc, split_last}
use Rattle.zvt_till.proofs.SegmentEndLemmas.{seg, opened, end-kept, has-ended, end-missing, end-reached}
use Rattle.zvt_till.proofs.LogStateLemmas.{Open, TiedTo, state, IsQuiet, meet-quiet}

pub registered-snoc : (closed : List Segment) (o : Opening) (hs : List Happening) (end : Option Ended) (broken : Bool) → end_of hs ≡ end → list_any is_break hs ≡ broken
    → registered_of (closed ++ seg o hs ∷ []) ≡ cond broken false (registered_by (registered_of closed) o end)
registered-snoc closed o hs end broken e b =
    fold-snoc registered_after false closed (seg o hs)
    ∙ ap₂ (λ x y. cond x false (registered_by (registered_of closed) o y)) b e

or-true : (b : Bool) → (b || true) ≡ true
or-true true = refl
or-true false = refl

pub registered-break : (ss : List Segment) (h : Happening) → is_break h ≡ true → registered_of (heard_last ss h) ≡ false
registered-break ss h k = by_last (split_last ss)
  where
    by_last : (ss ≡ []) ⊎ ((closed : List Segment) × (s : Segment) × (ss ≡ closed ++ s ∷ [])) → registered_of (heard_last ss h) ≡ false
    by_last (inl e) = ap (λ x. registered_of (heard_last x h)) e
    by_last (inr w) =
        ap (λ x. registered_of (heard_last x h)) w.2
        ∙ ap registered_of (heard_last-snoc w.0 w.1 h)
        ∙ registered-snoc w.0 w.1.opening (w.1.answers ++ h ∷ []) (end_of (w.1.answers ++ h ∷ [])) true refl
        (list_any-snoc is_break w.1.answers h ∙ ap (λ b. list_any is_break w.1.answers || b) k ∙ or-true (list_any is_break w.1.answers))

registered-idle : (ss : List Segment) (h : Happening) → is_break h ≡ false → awaited_of ss ≡ None → registered_of (heard_last ss h) ≡ registered_of ss
registered-idle ss h k none = by_last (split_last ss)
  where
    by_last : (ss ≡ []) ⊎ ((closed : List Segment) × (s : Segment) × (ss ≡ closed ++ s ∷ [])) → registered_of (heard_last ss h) ≡ registered_of ss
    by_last (inl e) = subst (λ x. registered_of (heard_last x h) ≡ registered_of x) (sym e) refl
    by_last (inr w) =
        let closed = w.0 in
        let s = w.1 in
        let here = has-ended closed s (ap awaited_of (sym w.2) ∙ none) in
        ap (λ x. registered_of (heard_last x h)) w.2
        ∙ ap registered_of (heard_last-snoc closed s h)
        ∙ registered-snoc closed s.opening (s.answers ++ h ∷ []) (Some here.0) (list_any is_break s.answers) (end-kept s.answers h here.0 here.1)
        (list_any-snoc is_break s.answers h ∙ ap (λ b. list_any is_break s.answers || b) k ∙ or-false (list_any is_break s.answers))
        ∙ sym (registered-snoc closed s.opening s.answers (Some here.0) (list_any is_break s.answers) here.1 refl)
        ∙ ap registered_of (sym w.2)

-- an outcome of any order but a registration leaves it
unregistered-broken : (g : Bool) (st : Statuses) (o : Outcome) → registered_after_outcome g o ≡ g → registered_after_outcome g (broken_outcome st o) ≡ g
unregistered-broken g Nothing o e = e
unregistered-broken g (AllGood t r) o e = refl
unregistered-broken g (AllDeclining c) o e = e
unregistered-broken g (Fault x) o e = refl

unregistered-payment : (g : Bool) (book : List Entry) (st : Statuses) → registered_after_outcome g (payment_outcome book st) ≡ g
unregistered-payment g book Nothing = refl
unregistered-payment g book (AllGood None r) = refl
unregistered-payment g book (AllGood (Some t) r) = by_use (trace_used t book)
  where
    by_use : (b : Bool) → registered_after_outcome g (cond b (UnclearOutcome TraceUsed) (Paid t r)) ≡ g
    by_use true = refl
    by_use false = refl
unregistered-payment g book (AllDeclining c) = refl
unregistered-payment g book (Fault x) = refl

unregistered-reversal : (g : Bool) (st : Statuses) → registered_after_outcome g (reversal_outcome st) ≡ g
unregistered-reversal g Nothing = refl
unregistered-reversal g (AllGood t r) = refl
unregistered-reversal g (AllDeclining c) = refl
unregistered-reversal g (Fault x) = refl

unregistered-closing : (g : Bool) (st : Statuses) → registered_after_outcome g (closing_outcome st) ≡ g
unregistered-closing g Nothing = refl
unregistered-closing g (AllGood t r) = refl
unregistered-closing g (AllDeclining c) = refl
unregistered-closing g (Fault x) = refl

-- whether the order's completion registers
abbrev pub registers : Order → Bool → Happening → Bool
registers RegisterOrder g h = is_completion h || g
registers (PayOrder a) g h = g
registers (ReverseOrder e) g h = g
registers CloseDayOrder g h = g
registers CancelOrder g h = g

registered-completion : (g : Bool) (book : List Entry) (o : Order) (st : Statuses) → registered_after_outcome g (completion_outcome book o st) ≡ registers o g (HeardIn Completion)
registered-completion g book RegisterOrder st = refl
registered-completion g book (PayOrder a) st = unregistered-payment g book st
registered-completion g book (ReverseOrder e) st = unregistered-reversal g st
registered-completion g book CloseDayOrder st = unregistered-closing g st
registered-completion g book CancelOrder st = unregistered-closing g st

plain-registers : (o : Order) (g : Bool) (h : Happening) → is_completion h ≡ false → g ≡ registers o g h
plain-registers RegisterOrder g h e = ap (λ b. b || g) (sym e)
plain-registers (PayOrder a) g h e = refl
plain-registers (ReverseOrder k) g h e = refl
plain-registers CloseDayOrder g h e = refl
plain-registers CancelOrder g h e = refl

registered-outcome : (g : Bool) (book : List Entry) (o : Order) (st : Statuses) (h : Happening) → registered_after_outcome g (outcome_by book o st h) ≡ registers o g h
registered-outcome g book o st Connected = plain-registers o g Connected refl
registered-outcome g book o st (SentOut x) = plain-registers o g (SentOut x) refl
registered-outcome g book o st (HeardIn Positive) = plain-registers o g (HeardIn Positive) refl
registered-outcome g book o st (HeardIn (Negative c)) = unregistered-broken g st (RefusedOutcome c) refl ∙ plain-registers o g (HeardIn (Negative c)) refl
registered-outcome g book o st (HeardIn (Status s)) = plain-registers o g (HeardIn (Status s)) refl
registered-outcome g book o st (HeardIn Passing) = plain-registers o g (HeardIn Passing) refl
registered-outcome g book o st (HeardIn Completion) = registered-completion g book o st
registered-outcome g book o st (HeardIn (Abort c)) = unregistered-broken g st (Aborted c) refl ∙ plain-registers o g (HeardIn (Abort c)) refl
registered-outcome g book o st (HeardIn Strange) = plain-registers o g (HeardIn Strange) refl
registered-outcome g book o st Malformed = plain-registers o g Malformed refl
registered-outcome g book o st Lost = plain-registers o g Lost refl

and-true : (b : Bool) → (b && true) ≡ b
and-true true = refl
and-true false = refl

registers-end : (by_receipt : Bool) (closed : List Segment) (own : ℕ) (force : Option ℕ) (o : Order) (g before : Bool) (hs : List Happening) (h : Happening) → g ≡ registered_by before (opened by_receipt closed own force o) None
    → registers o g h ≡ registered_by before (opened by_receipt closed own force o) (Some (record { before = hs; by = h }))
registers-end by_receipt closed own force RegisterOrder g before hs h e = ap (λ b. is_completion h || b) e ∙ or-false (is_completion h) ∙ sym (and-true (is_completion h))
registers-end by_receipt closed own force (PayOrder a) g before hs h e = e
registers-end by_receipt closed own force (ReverseOrder k) g before hs h e = e
registers-end by_receipt closed own force CloseDayOrder g before hs h e = e
registers-end by_receipt closed own force CancelOrder g before hs h e = e

registered-running : (ss : List Segment) (h : Happening) (s : TillState) (r : Running) → is_break h ≡ false → s.registered ≡ registered_of ss → Open s.settings.rules s.settings.currency ss s.book s.unclear r
    → (b : Bool) → ends r.positive h ≡ b
    → (cond b (finish s r.order (outcome_by s.book r.order r.statuses h)) (record s { running = Some (listened (demand_of s.settings.rules (Some s.settings.currency) s.book s.unclear r.order) r h) })).registered ≡ registered_of (heard_last ss h)
registered-running ss h s r k g t true e =
    let closed = t.closed in
    let hs = t.answers in
    let o = opened s.settings.rules.reversal_by_receipt closed s.settings.currency t.force r.order in
    let on : ends (list_any is_positive hs) h ≡ true = subst (λ b. ends b h ≡ true) t.positive e in
    let was : s.registered ≡ registered_by (registered_of closed) o None = g ∙ ap registered_of t.is ∙ registered-snoc closed o hs None false t.unended t.unbroken in
    registered-outcome s.registered s.book r.order r.statuses h
    ∙ registers-end s.settings.rules.reversal_by_receipt closed s.settings.currency t.force r.order s.registered (registered_of closed) hs h was
    ∙ sym (registered-snoc closed o (hs ++ h ∷ []) (Some (record { before = hs; by = h })) false (end-reached hs h t.unended on) (list_any-snoc is_break hs h ∙ ap₂ (λ a b. a || b) t.unbroken k))
    ∙ ap registered_of (sym (heard_last-snoc closed (seg o hs) h))
    ∙ ap (λ x. registered_of (heard_last x h)) (sym t.is)
registered-running ss h s r k g t false e =
    let closed = t.closed in
    let hs = t.answers in
    let o = opened s.settings.rules.reversal_by_receipt closed s.settings.currency t.force r.order in
    let on : ends (list_any is_positive hs) h ≡ false = subst (λ b. ends b h ≡ false) t.positive e in
    g ∙ ap registered_of t.is
    ∙ registered-snoc closed o hs None false t.unended t.unbroken
    ∙ sym (registered-snoc closed o (hs ++ h ∷ []) None false (end-missing hs h t.unended on) (list_any-snoc is_break hs h ∙ ap₂ (λ a b. a || b) t.unbroken k))
    ∙ ap registered_of (sym (heard_last-snoc closed (seg o hs) h))
    ∙ ap (λ x. registered_of (heard_last x h)) (sym t.is)

registered-meet-by : (ss : List Segment) (h : Happening) (k : Settings) (up g : Bool) (run : Option Running) (es : List Entry) (u : List (ℕ × Cause)) (last : Option Outcome)
    → is_break h ≡ false → g ≡ registered_of ss → TiedTo k.rules k.currency ss es u run → (meet (state k up g run es u last) h).registered ≡ registered_of (heard_last ss h)
registered-meet-by ss h k up g None es u last unbroken e t = e ∙ sym (registered-idle ss h unbroken t)
registered-meet-by ss h k up g (Some r) es u last unbroken e t = registered-running ss h (state k up g (Some r) es u last) r unbroken e t (ends r.positive h) refl

pub registered-meet : (ss : List Segment) (h : Happening) (s : TillState) → is_break h ≡ false → s.registered ≡ registered_of ss → TiedTo s.settings.rules s.settings.currency ss s.book s.unclear s.running
    → (meet s h).registered ≡ registered_of (heard_last ss h)
registered-meet ss h s k e t = registered-meet-by ss h s.settings s.line_up s.registered s.running s.book s.unclear s.last_outcome k e t

pub registered-quiet : (ss : List Segment) (h : Happening) (s : TillState) → IsQuiet h → is_break h ≡ false → s.registered ≡ registered_of ss → TiedTo s.settings.rules s.settings.currency ss s.book s.unclear s.running
    → s.registered ≡ registered_of (heard_last ss h)
registered-quiet ss h s q k e t = ap (λ x. x.registered) (sym (meet-quiet h s q)) ∙ registered-meet ss h s k e t

-- a log without a registration registers nobody

abbrev IsPlain : Sent → Type 0
IsPlain (Register c) = ⊥
IsPlain o = Unit {0}

-- none of these is a registration
abbrev pub Unregistered : List Segment → Type 0
Unregistered [] = Unit {0}
Unregistered (s ∷ ss) = IsPlain s.opening.order × Unregistered ss

plain-unregistered : (o : Sent) (end : Option Ended) → IsPlain o → registered_as o false end ≡ false
plain-unregistered (Register c) end p = absurd p
plain-unregistered (Pay a) end p = refl
plain-unregistered (Reverse e) end p = refl
plain-unregistered CloseDay end p = refl
plain-unregistered Cancel end p = refl
plain-unregistered Foreign end p = refl

stays-false : (broken registered : Bool) → registered ≡ false → cond broken false registered ≡ false
stays-false true registered e = refl
stays-false false registered e = e

pub unregistered : (ss : List Segment) → Unregistered ss → registered_of ss ≡ false
unregistered [] u = refl
unregistered (s ∷ ss) u =
    let first : registered_after false s ≡ false = stays-false (list_any is_break s.answers) (registered_as s.opening.order false (end_of s.answers)) (plain-unregistered s.opening.order (end_of s.answers) u.0) in
    ap (λ b. fold registered_after b ss) first ∙ unregistered ss u.1

pub unregistered-heard : (ss : List Segment) (h : Happening) → Unregistered ss → Unregistered (heard_last ss h)
unregistered-heard [] h u = tt
unregistered-heard (s ∷ []) h u = (u.0, tt)
unregistered-heard (s ∷ t ∷ ss) h u = (u.0, unregistered-heard (t ∷ ss) h u.1)
