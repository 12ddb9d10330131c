-- An order that ended is never left unclear as unfinished.
use Rattle.std.proofs.Common.{◌≡◌, ℕ, Bool, true, false, not, cond, ◌&&◌, ◌==◌, List, [], ◌∷◌, Option, Some, None, fold, refl}
use Rattle.zvt_till.specs.declared.happenings.Happening.{Happening}
use Rattle.zvt_till.specs.declared.happenings.Happening.TheVariants.{Connected, Sent as SentOut, Heard as HeardIn, Malformed, Lost}
use Rattle.zvt_till.specs.declared.orders.Order.{Order}
use Rattle.zvt_till.specs.declared.orders.Order.TheVariants.{Register as RegisterOrder, Pay as PayOrder, Reverse as ReverseOrder, CloseDay as CloseDayOrder, Cancel as CancelOrder}
use Rattle.zvt_till.specs.declared.messages.Heard.TheVariants.{Positive, Negative, Status, Passing, Completion, Abort, Strange}
use Rattle.zvt_till.specs.declared.messages.StatusFacts.{StatusFacts}
use Rattle.zvt_till.specs.declared.statuses.Statuses.{Statuses}
use Rattle.zvt_till.specs.declared.statuses.Statuses.TheVariants.{Nothing, Good as AllGood, Declining as AllDeclining, Fault}
use Rattle.zvt_till.specs.declared.entries.Entry.{Entry}
use Rattle.zvt_till.specs.declared.outcomes.Cause.TheVariants.{Conflict, AmountDiffers, NoTrace, TraceUsed, WrongCurrency}
use Rattle.zvt_till.specs.declared.outcomes.Outcome.{Outcome}
use Rattle.zvt_till.specs.declared.outcomes.Outcome.TheVariants.{Registered, Paid, Declined, Refused, Aborted, Unclear, Reversed, DayClosed}
use Rattle.zvt_till.specs.Statuses.{is_value, is_absent, is_in_currency, is_by_receipt, names, same_trace, Demand, Payment, Reversal, Closing, Class, Good, Declining, Doubtful, class_undeclined, class_unnamed, class_by, class_of}
use Rattle.zvt_till.specs.Segments.{ends}
use Rattle.zvt_till.specs.Books.{is_finished}
use Rattle.zvt_till.specs.Outcomes.{note, note_class, payment_outcome, reversal_outcome, closing_outcome, completion_outcome, broken_outcome, outcome_by}

abbrev SoundClass : Class → Type 0
SoundClass (Good t) = Unit {0}
SoundClass (Declining c) = Unit {0}
SoundClass (Doubtful x) = is_finished x ≡ true

abbrev pub SoundSummary : Statuses → Type 0
SoundSummary Nothing = Unit {0}
SoundSummary (AllGood t r) = Unit {0}
SoundSummary (AllDeclining c) = Unit {0}
SoundSummary (Fault x) = is_finished x ≡ true

abbrev pub IsSettled : Outcome → Type 0
IsSettled Registered = Unit {0}
IsSettled (Paid t r) = Unit {0}
IsSettled (Declined c) = Unit {0}
IsSettled (Refused c) = Unit {0}
IsSettled (Aborted c) = Unit {0}
IsSettled (Unclear x) = is_finished x ≡ true
IsSettled Reversed = Unit {0}
IsSettled DayClosed = Unit {0}

sound-payment : (alone own same : Bool) (trace : Option ℕ)
    → SoundClass (cond alone (cond own (cond same (elim trace [ None ↦ Doubtful NoTrace | Some t ↦ Good (Some t) ]) (Doubtful AmountDiffers)) (Doubtful WrongCurrency)) (Doubtful Conflict))
sound-payment false own same trace = refl
sound-payment true false same trace = refl
sound-payment true true false trace = refl
sound-payment true true true None = refl
sound-payment true true true (Some t) = tt

sound-reversal : (own same back unnamed : Bool)
    → SoundClass (cond own (cond same (cond back (Good None) (cond unnamed (Good None) (Doubtful NoTrace))) (Doubtful AmountDiffers)) (Doubtful WrongCurrency))
sound-reversal false same back unnamed = refl
sound-reversal true false back unnamed = refl
sound-reversal true true false false = refl
sound-reversal true true false true = tt
sound-reversal true true true unnamed = tt

sound-undeclined : (d : Demand) (s : StatusFacts) → SoundClass (class_undeclined d s)
sound-undeclined (Payment charge) s = sound-payment (is_absent s.original) (is_in_currency charge.currency s.currency) (is_value s.amount charge.amount) s.trace
sound-undeclined (Reversal charge t sole) s = sound-reversal (is_in_currency charge.currency s.currency) (is_value s.amount charge.amount) (names s.original t) (is_by_receipt sole s.original s.receipt)
sound-undeclined (Closing by_completion) s = tt

sound-unnamed : (d : Demand) (s : StatusFacts) → SoundClass (class_unnamed d s)
sound-unnamed (Payment charge) s = refl
sound-unnamed (Reversal charge t sole) s = refl
sound-unnamed (Closing by_completion) s = by_test (by_completion && not s.has_result)
  where
    by_test : (b : Bool) → SoundClass (cond b (Good None) (Doubtful Conflict))
    by_test true = tt
    by_test false = refl

sound-class : (d : Demand) (s : StatusFacts) (r : Option ℕ) → SoundClass (class_by r d s)
sound-class d s None = sound-unnamed d s
sound-class d s (Some code) = by_code (code == 0)
  where
    by_code : (b : Bool) → SoundClass (cond b (class_undeclined d s) (Declining code))
    by_code true = sound-undeclined d s
    by_code false = tt

sound-note : (st : Statuses) (c : Class) (q : Option (List ℕ)) → SoundSummary st → SoundClass c → SoundSummary (note_class st c q)
sound-note Nothing (Good t) q s k = tt
sound-note Nothing (Declining c) q s k = tt
sound-note Nothing (Doubtful x) q s k = k
sound-note (AllGood t r) (Good u) q s k = by_trace (same_trace u t)
  where
    by_trace : (b : Bool) → SoundSummary (cond b (AllGood t r) (Fault Conflict))
    by_trace true = tt
    by_trace false = refl
sound-note (AllGood t r) (Declining c) q s k = refl
sound-note (AllGood t r) (Doubtful x) q s k = k
sound-note (AllDeclining c) (Good t) q s k = refl
sound-note (AllDeclining c) (Declining d) q s k = tt
sound-note (AllDeclining c) (Doubtful x) q s k = k
sound-note (Fault x) (Good t) q s k = s
sound-note (Fault x) (Declining c) q s k = s
sound-note (Fault x) (Doubtful y) q s k = s

sound-fold : (d : Option Demand) (st : Statuses) (fs : List StatusFacts) → SoundSummary st → SoundSummary (fold (note d) st fs)
sound-fold d st [] s = s
sound-fold None st (f ∷ fs) s = sound-fold None st fs s
sound-fold (Some d) st (f ∷ fs) s = sound-fold (Some d) (note_class st (class_of d f) f.receipt) fs (sound-note st (class_of d f) f.receipt s (sound-class d f f.result))

pub sound-summary : (d : Option Demand) (fs : List StatusFacts) → SoundSummary (fold (note d) Nothing fs)
sound-summary d fs = sound-fold d Nothing fs tt

settled-payment : (book : List Entry) (st : Statuses) → SoundSummary st → IsSettled (payment_outcome book st)
settled-payment book Nothing s = refl
settled-payment book (AllGood None r) s = refl
settled-payment book (AllGood (Some t) r) s = by_use (Rattle.zvt_till.specs.Outcomes.trace_used t book)
  where
    by_use : (b : Bool) → IsSettled (cond b (Unclear TraceUsed) (Paid t r))
    by_use true = refl
    by_use false = tt
settled-payment book (AllDeclining c) s = tt
settled-payment book (Fault x) s = s

settled-reversal : (st : Statuses) → SoundSummary st → IsSettled (reversal_outcome st)
settled-reversal Nothing s = refl
settled-reversal (AllGood t r) s = tt
settled-reversal (AllDeclining c) s = tt
settled-reversal (Fault x) s = s

settled-closing : (st : Statuses) → SoundSummary st → IsSettled (closing_outcome st)
settled-closing Nothing s = tt
settled-closing (AllGood t r) s = tt
settled-closing (AllDeclining c) s = tt
settled-closing (Fault x) s = s

settled-completion : (book : List Entry) (o : Order) (st : Statuses) → SoundSummary st → IsSettled (completion_outcome book o st)
settled-completion book RegisterOrder st s = tt
settled-completion book (PayOrder a) st s = settled-payment book st s
settled-completion book (ReverseOrder e) st s = settled-reversal st s
settled-completion book CloseDayOrder st s = settled-closing st s
settled-completion book CancelOrder st s = settled-closing st s

settled-broken : (st : Statuses) (o : Outcome) → IsSettled o → IsSettled (broken_outcome st o)
settled-broken Nothing o k = k
settled-broken (AllGood t r) o k = refl
settled-broken (AllDeclining c) o k = k
settled-broken (Fault x) o k = refl

pub settled-outcome : (book : List Entry) (o : Order) (st : Statuses) (positive : Bool) (h : Happening) → ends positive h ≡ true → SoundSummary st → IsSettled (outcome_by book o st h)
settled-outcome book o st p Connected e s = absurd cc
settled-outcome book o st p (SentOut x) e s = absurd cc
settled-outcome book o st p (HeardIn Positive) e s = absurd cc
settled-outcome book o st p (HeardIn (Negative c)) e s = settled-broken st (Refused c) tt
settled-outcome book o st p (HeardIn (Status f)) e s = absurd cc
settled-outcome book o st p (HeardIn Passing) e s = absurd cc
settled-outcome book o st p (HeardIn Completion) e s = settled-completion book o st s
settled-outcome book o st p (HeardIn (Abort c)) e s = settled-broken st (Aborted c) tt
settled-outcome book o st p (HeardIn Strange) e s = absurd cc
settled-outcome book o st p Malformed e s = refl
settled-outcome book o st p Lost e s = refl
