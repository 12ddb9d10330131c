-- What twelve logs settle, by the steps of the till and by whole orders and asks.
use Rattle.std.specs.Prelude.{◌≡◌, ℕ, true, List, [], ◌∷◌, ◌++◌, Some, None, map}
use Rattle.zvt_till.specs.declared.happenings.Happening.TheVariants.{Connected, Sent as SentOut, Heard as HeardIn, Lost}
use Rattle.zvt_till.specs.declared.happenings.Sent.TheVariants.{Register, Pay, Reverse, CloseDay}
use Rattle.zvt_till.specs.declared.messages.Heard.TheVariants.{Positive, Status, Passing, Completion, Abort}
use Rattle.zvt_till.specs.declared.messages.StatusFacts.{StatusFacts}
use Rattle.zvt_till.specs.declared.messages.Original.TheVariants.{Absent, Once}
use Rattle.zvt_till.specs.declared.messages.CurrencyFact.TheVariants.{Absent as NoCurrency}
use Rattle.zvt_till.specs.Events.{run_settings}
use Rattle.zvt_settle.specs.declared.deciding.Settlement.{Settlement}
use Rattle.zvt_settle.specs.declared.deciding.Settlement.TheVariants.{Paid, NotPaid, Reversed, NotReversed}
use Rattle.zvt_settle.specs.Settling.{Note, Line, Asked, both_after}
use Rattle.zvt_till.specs.Laws.{trace_of}
use Rattle.zvt_settle.specs.Laws.{counts}
use Rattle.zvt_settle.specs.Story.{settlements}

abbrev approval : (amount number : ℕ) → StatusFacts
approval amount number = record { result = Some 0; has_result = true; amount = Some amount; trace = Some number; receipt = Some (0 ∷ number ∷ []); original = Absent; currency = NoCurrency }

-- the payment of 10.00 under number 1 was reversed under number 2
abbrev back : StatusFacts
back = record { result = Some 0; has_result = true; amount = Some 1000; trace = Some 2; receipt = Some (0 ∷ 2 ∷ []); original = Once (0 ∷ 0 ∷ 1 ∷ []); currency = NoCurrency }

abbrev decline : StatusFacts
decline = record { result = Some 108; has_result = true; amount = None; trace = None; receipt = None; original = Absent; currency = NoCurrency }

abbrev registered : List Note
registered = Line Connected ∷ Line (SentOut (Register (Some 978))) ∷ Line (HeardIn Positive) ∷ Line (HeardIn Completion) ∷ []

abbrev said : StatusFacts → List Note
said s = Line (HeardIn Positive) ∷ Line (HeardIn (Status s)) ∷ Line (HeardIn Passing) ∷ Line (HeardIn Completion) ∷ []

abbrev sale : (amount number : ℕ) → List Note
sale amount number = Line (SentOut (Pay amount)) ∷ said (approval amount number)

abbrev lost : List Note
lost = Line Lost ∷ registered

abbrev ask : StatusFacts → List Note
ask s = Asked ∷ said s

abbrev aborted_ask : List Note
aborted_ask = Asked ∷ Line (HeardIn Positive) ∷ Line (HeardIn (Abort 131)) ∷ []

-- the steps and the whole log settle this
pub record Settles (notes : List Note) (settled : List Settlement) : Type 0 where
  pub steps : (both_after run_settings notes).settling.settled ≡ settled
  pub log : settlements 978 notes ≡ settled

pub record StoriesHold : Type 0 where
  -- a new approval of the amount: it was paid
  pub paid : Settles (registered ++ sale 1000 1 ++ Line (SentOut (Pay 500)) ∷ lost ++ ask (approval 500 2)) (Paid 0 2 (Some (0 ∷ 2 ∷ [])) ∷ [])
  -- the answer from before: it was not
  pub not_paid : Settles (registered ++ sale 1000 1 ++ Line (SentOut (Pay 1000)) ∷ lost ++ ask (approval 1000 1)) (NotPaid 0 ∷ [])
  -- the last status before the payment is not known: nothing is settled
  pub unknown : Settles (registered ++ Line (SentOut (Pay 500)) ∷ lost ++ ask (approval 500 1)) []
  -- the last status before the payment is known from an ask
  pub asked_before : Settles (registered ++ ask (approval 700 4) ++ Line (SentOut (Pay 500)) ∷ lost ++ ask (approval 500 5)) (Paid 0 5 (Some (0 ∷ 5 ∷ [])) ∷ [])
  -- an aborted ask is no answer, and the next one settles the payment
  pub aborted : Settles (registered ++ sale 1000 1 ++ Line (SentOut (Pay 500)) ∷ lost ++ aborted_ask ++ ask (approval 500 2)) (Paid 0 2 (Some (0 ∷ 2 ∷ [])) ∷ [])
  -- another payment came before the ask: nothing is settled
  pub too_late : Settles (registered ++ sale 1000 1 ++ Line (SentOut (Pay 500)) ∷ lost ++ sale 200 3 ++ ask (approval 500 2)) []
  -- another amount: nothing is settled
  pub other_amount : Settles (registered ++ sale 1000 1 ++ Line (SentOut (Pay 500)) ∷ lost ++ ask (approval 700 2)) []
  -- an entry of the book has the number: nothing is settled
  pub used : Settles (registered ++ sale 500 2 ++ sale 1000 1 ++ Line (SentOut (Pay 500)) ∷ lost ++ ask (approval 500 2)) []
  -- a decline names no trace number, and is no answer
  pub declined : Settles (registered ++ sale 1000 1 ++ Line (SentOut (Pay 500)) ∷ lost ++ ask decline) []
  -- after an end of day the terminal may answer differently
  pub day : Settles (registered ++ sale 1000 1 ++ Line (SentOut CloseDay) ∷ Line (HeardIn Positive) ∷ Line (HeardIn Completion) ∷ Line (SentOut (Pay 500)) ∷ lost ++ ask (approval 500 2)) []
  pub reversed : Settles (registered ++ sale 1000 1 ++ Line (SentOut (Reverse 0)) ∷ lost ++ ask back) (Reversed 0 ∷ [])
  pub not_reversed : Settles (registered ++ sale 1000 1 ++ Line (SentOut (Reverse 0)) ∷ lost ++ ask (approval 1000 1)) (NotReversed 0 ∷ [])

-- The terminal gives the number of a settled payment to another payment, which is booked. Then only the entry counts.
abbrev pub given_again : List Note
given_again = registered ++ sale 1000 1 ++ Line (SentOut (Pay 500)) ∷ lost ++ ask (approval 500 2) ++ sale 700 2

pub record GivenAgain : Type 0 where
  pub settled : (both_after run_settings given_again).settling.settled ≡ Paid 0 2 (Some (0 ∷ 2 ∷ [])) ∷ []
  pub booked : map trace_of (both_after run_settings given_again).till.book ≡ 1 ∷ 2 ∷ []
  pub counts : counts (both_after run_settings given_again) ≡ 1 ∷ 2 ∷ []
