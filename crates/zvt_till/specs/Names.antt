-- The names of causes and refusals, as every output writes them, and their meanings.
use Rattle.std.specs.Prelude.{ℕ, List, codes}
use Rattle.zvt_till.specs.declared.outcomes.Cause.{Cause}
use Rattle.zvt_till.specs.declared.outcomes.Cause.TheVariants.{NoStatus, Conflict, AmountDiffers, NoTrace, TraceUsed, AbortAfterApproval, Line, Malformed, Unfinished, WrongCurrency}
use Rattle.zvt_till.specs.declared.orders.OrderRefusal.{OrderRefusal}
use Rattle.zvt_till.specs.declared.orders.OrderRefusal.TheVariants.{Offline, NotRegistered, Busy, NothingToCancel, BookFull, UnknownEntry, AlreadyReversed, NoReceipt, Memory}

abbrev pub cause_name : Cause → List ℕ
cause_name NoStatus = codes "NoStatus"
cause_name Conflict = codes "Conflict"
cause_name AmountDiffers = codes "AmountDiffers"
cause_name NoTrace = codes "NoTrace"
cause_name TraceUsed = codes "TraceUsed"
cause_name AbortAfterApproval = codes "AbortAfterApproval"
cause_name Line = codes "Line"
cause_name Malformed = codes "Malformed"
cause_name Unfinished = codes "Unfinished"
cause_name WrongCurrency = codes "WrongCurrency"

abbrev pub refusal_name : OrderRefusal → List ℕ
refusal_name Offline = codes "Offline"
refusal_name NotRegistered = codes "NotRegistered"
refusal_name Busy = codes "Busy"
refusal_name NothingToCancel = codes "NothingToCancel"
refusal_name BookFull = codes "BookFull"
refusal_name UnknownEntry = codes "UnknownEntry"
refusal_name AlreadyReversed = codes "AlreadyReversed"
refusal_name NoReceipt = codes "NoReceipt"
refusal_name Memory = codes "Memory"

abbrev pub cause_words : Cause → List ℕ
cause_words NoStatus = codes "it was completed without status information"
cause_words Conflict = codes "its status information names no single result, or contradicts itself"
cause_words AmountDiffers = codes "its status information names another amount"
cause_words NoTrace = codes "its status information does not name the trace number"
cause_words TraceUsed = codes "the book has its trace number already; if the terminal was exchanged or counts from 1 again, begin a new book"
cause_words AbortAfterApproval = codes "it was broken off after the terminal had approved it or contradicted itself"
cause_words Line = codes "the connection was lost"
cause_words Malformed = codes "the terminal sent bytes that are no message"
cause_words Unfinished = codes "it has not ended"
cause_words WrongCurrency = codes "its status information names another currency"

abbrev pub refusal_words : OrderRefusal → List ℕ
refusal_words Offline = codes "there is no connection"
refusal_words NotRegistered = codes "the till is not registered on this connection: register first"
refusal_words Busy = codes "another order is running"
refusal_words NothingToCancel = codes "the terminal has taken up no order that could be cancelled"
refusal_words BookFull = codes "the book has no room for another payment: begin a new book"
refusal_words UnknownEntry = codes "the book has no such entry"
refusal_words AlreadyReversed = codes "this payment is reversed already"
refusal_words NoReceipt = codes "the payment has no receipt number, so the terminal could not find it"
refusal_words Memory = codes "out of memory"
