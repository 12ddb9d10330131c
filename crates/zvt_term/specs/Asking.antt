-- The request in a till's message.
use Rattle.std.specs.Prelude.{ℕ, Option, Some, None, List}
use Rattle.zvt_field.specs.Grammar.{Field}
use Rattle.zvt_field.specs.Named.{amount_of, receipt_of}
use Rattle.zvt_apdu.specs.Message.{Message, ack, nack, registration, authorisation, reversal, end_of_day, abort_order, status, intermediate, print_line, text_block, completion, abort, other}
use Rattle.zvt_till.specs.Hearing.{currency_in as currency_fact}
use Rattle.zvt_term.specs.declared.messages.Asked.{Asked}
use Rattle.zvt_term.specs.declared.messages.Asked.TheVariants.{Registration, Authorisation, Reversal, EndOfDay, AbortOrder, Answer, Unknown}

abbrev pub currency_in : Option (ℕ × List Field) → Option ℕ
currency_in None = None
currency_in (Some rest) = Some rest.0

-- the same of a registration's value
abbrev pub currency_named : Option (ℕ × List Field) → Option ℕ
currency_named None = None
currency_named (Some rest) = Some rest.0

-- in an authorisation, the amount counts if it appears exactly once, and so does the currency
abbrev pub authorised : List Field → Asked
authorised fields = Authorisation (amount_of fields) (currency_fact fields)

-- in a reversal, the receipt number counts if it appears exactly once
abbrev pub asked_as : Message → Asked
asked_as (ack payload) = Answer
asked_as (nack code payload) = Answer
asked_as (registration password config rest) = Registration (currency_named rest)
asked_as (authorisation fields) = authorised fields
asked_as (reversal password fields) = Reversal (receipt_of fields)
asked_as (end_of_day password fields) = EndOfDay
asked_as (abort_order fields) = AbortOrder
asked_as (status fields) = Unknown
asked_as (intermediate step payload) = Unknown
asked_as (print_line attribute text) = Unknown
asked_as (text_block fields) = Unknown
asked_as (completion fields) = Unknown
asked_as (abort code payload) = Unknown
asked_as (other high low payload) = Unknown
