-- The content of a terminal's message that matters to a till.
use Rattle.std.specs.Prelude.{◌==◌, Bool, true, not, cond, Some, None, List}
use Rattle.zvt_field.specs.Grammar.{Field}
use Rattle.zvt_field.specs.Named.{count_of, amount_of, trace_of, result_of, receipt_of, currency_of, original_of}
use Rattle.zvt_apdu.specs.Message.{Message, ack, nack, registration, authorisation, reversal, end_of_day, abort_order, status, intermediate, print_line, text_block, completion, abort, other}
use Rattle.zvt_till.specs.declared.messages.Heard.{Heard}
use Rattle.zvt_till.specs.declared.messages.Heard.TheVariants.{Positive, Negative, Status, Passing, Completion, Abort, Strange}
use Rattle.zvt_till.specs.declared.messages.Original.{Original}
use Rattle.zvt_till.specs.declared.messages.Original.TheVariants.{Absent, Once, Many}
use Rattle.zvt_till.specs.declared.messages.CurrencyFact.{CurrencyFact}
use Rattle.zvt_till.specs.declared.messages.CurrencyFact.TheVariants.{Absent as NoCurrency, Once as OneCurrency, Many as ManyCurrencies}
use Rattle.zvt_till.specs.declared.messages.StatusFacts.{StatusFacts}

-- BMP 37 if it appears exactly once; otherwise, whether it appears at all
abbrev pub original_in : List Field → Original
original_in fields = elim (original_of fields) [ None ↦ cond (count_of 0x37 fields == 0) Absent Many | Some bytes ↦ Once bytes ]

-- BMP 49 if it appears exactly once; otherwise, whether it appears at all
abbrev pub currency_in : List Field → CurrencyFact
currency_in fields = elim (currency_of fields) [ None ↦ cond (count_of 0x49 fields == 0) NoCurrency ManyCurrencies | Some currency ↦ OneCurrency currency ]

-- BMP 27 appears, if only more than once
abbrev pub has_result_in : List Field → Bool
has_result_in fields = elim (result_of fields) [ None ↦ not (count_of 0x27 fields == 0) | Some code ↦ true ]

-- the values in the fields of a status information, each if it appears exactly once
abbrev pub facts_in_fields : List Field → StatusFacts
facts_in_fields fields =
    record {
      result = result_of fields;
      has_result = has_result_in fields;
      amount = amount_of fields;
      trace = trace_of fields;
      receipt = receipt_of fields;
      original = original_in fields;
      currency = currency_in fields;
    }

-- of the other messages only their kind counts, and the code of a refusal
abbrev pub heard_as : Message → Heard
heard_as (ack payload) = Positive
heard_as (nack code payload) = cond (code == 0) Positive (Negative code)
heard_as (registration password config rest) = Strange
heard_as (authorisation fields) = Strange
heard_as (reversal password fields) = Strange
heard_as (end_of_day password fields) = Strange
heard_as (abort_order fields) = Strange
heard_as (status fields) = Status (facts_in_fields fields)
heard_as (intermediate step payload) = Passing
heard_as (print_line attribute text) = Passing
heard_as (text_block fields) = Passing
heard_as (completion fields) = Completion
heard_as (abort code payload) = Abort code
heard_as (other high low payload) = Strange
