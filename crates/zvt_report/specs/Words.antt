-- The words of a report: closed lists that programs may rely on.
use Rattle.std.specs.Prelude.{ℕ, Bool, true, false, List, codes}
use Rattle.zvt_till.specs.declared.happenings.Sent.{Sent}
use Rattle.zvt_till.specs.declared.happenings.Sent.TheVariants.{Register, Pay, Reverse, CloseDay, Cancel, Foreign}
use Rattle.zvt_till.specs.declared.outcomes.Outcome.{Outcome}
use Rattle.zvt_till.specs.declared.outcomes.Outcome.TheVariants as outcome
use Rattle.zvt_report.specs.declared.cases.Case.{Case}
use Rattle.zvt_report.specs.declared.cases.Case.TheVariants.{ApprovedNotCompleted, ApprovalRepeated, ApprovedThenUndone, OtherAmount, PaymentUnclear, PaidAlike, ReversalUnclear, TakenBackBefore, ReversalRefused, ReversalElsewhere, ElsewhereUnclear, OtherUnclear, CloseUnclear, CloseRefused, CloseDiffers}
use Rattle.zvt_report.specs.declared.cases.Weight.{Weight}
use Rattle.zvt_report.specs.declared.cases.Weight.TheVariants.{Act, Check, Note}
use Rattle.zvt_report.specs.declared.endings.Ending.{Ending}
use Rattle.zvt_report.specs.declared.endings.Ending.TheVariants.{Completed, Paid, Reversed, Closed, Declined, Aborted, Refused, Unclear}
use Rattle.zvt_report.specs.declared.findings.Finding.{Finding}
use Rattle.zvt_report.specs.declared.findings.Finding.TheVariants as finding

abbrev pub case_name : Case → List ℕ
case_name ApprovedNotCompleted = codes "ApprovedNotCompleted"
case_name ApprovalRepeated = codes "ApprovalRepeated"
case_name ApprovedThenUndone = codes "ApprovedThenUndone"
case_name OtherAmount = codes "OtherAmount"
case_name PaymentUnclear = codes "PaymentUnclear"
case_name PaidAlike = codes "PaidAlike"
case_name ReversalUnclear = codes "ReversalUnclear"
case_name TakenBackBefore = codes "TakenBackBefore"
case_name ReversalRefused = codes "ReversalRefused"
case_name ReversalElsewhere = codes "ReversalElsewhere"
case_name ElsewhereUnclear = codes "ReversalElsewhere"
case_name OtherUnclear = codes "OtherUnclear"
case_name CloseUnclear = codes "CloseUnclear"
case_name CloseRefused = codes "CloseRefused"
case_name CloseDiffers = codes "CloseDiffers"

abbrev pub weight_name : Weight → List ℕ
weight_name Act = codes "act"
weight_name Check = codes "check"
weight_name Note = codes "note"

-- someone must act
abbrev pub is_act : Weight → Bool
is_act Act = true
is_act Check = false
is_act Note = false

abbrev pub finding_name : Finding → List ℕ
finding_name (finding.Swapped orders) = codes "Swapped"
finding_name (finding.ApprovalUnreadable line place amount trace) = codes "ApprovalUnreadable"
finding_name (finding.Currencies first other line) = codes "Currencies"
finding_name (finding.Refused line from head place why goes) = codes "Refused"
finding_name (finding.CutOff line from head have) = codes "CutOff"
finding_name (finding.MoreRefused count) = codes "MoreRefused"

abbrev pub ending_name : Ending → List ℕ
ending_name Completed = codes "completed"
ending_name Paid = codes "paid"
ending_name Reversed = codes "reversed"
ending_name Closed = codes "closed"
ending_name Declined = codes "declined"
ending_name Aborted = codes "aborted"
ending_name Refused = codes "refused"
ending_name Unclear = codes "unclear"

-- an order that was completed, and that is neither a payment nor a reversal
abbrev pub completed_as : Sent → Ending
completed_as (Register c) = Completed
completed_as (Pay a) = Completed
completed_as (Reverse e) = Completed
completed_as CloseDay = Closed
completed_as Cancel = Completed
completed_as Foreign = Completed

-- how this order ended with this outcome
abbrev pub ending_of : Sent → Outcome → Ending
ending_of order outcome.Registered = Completed
ending_of order (outcome.Paid trace receipt) = Paid
ending_of order (outcome.Declined code) = Declined
ending_of order (outcome.Refused code) = Refused
ending_of order (outcome.Aborted code) = Aborted
ending_of order (outcome.Unclear cause) = Unclear
ending_of order outcome.Reversed = Reversed
ending_of order outcome.DayClosed = completed_as order
