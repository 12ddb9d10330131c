-- Why a request is answered without the outcome of an order.
use Rattle.std.specs.Prelude.{ℕ, Bool, true, false, Option, Some, None, List, ◌++◌, codes}
use Rattle.zvt_till.specs.Names.{refusal_name, refusal_words}
use Rattle.zvt_serve.specs.Answers.{bool_text}
use Rattle.zvt_serve.specs.declared.troubles.Trouble.{Trouble}
use Rattle.zvt_serve.specs.declared.troubles.Trouble.TheVariants.{Book, Busy, Interrupted, KeyReused, Memory, NoPayment, NoSpace, NoTerminal, OtherBook, OtherCurrency, Refused, Stopping, UnknownKey}

abbrev pub trouble_status : Trouble → ℕ
trouble_status KeyReused = 422
trouble_status OtherCurrency = 422
trouble_status NoPayment = 404
trouble_status OtherBook = 409
trouble_status UnknownKey = 404
trouble_status Busy = 409
trouble_status (Refused why) = 409
trouble_status NoTerminal = 503
trouble_status Stopping = 503
trouble_status NoSpace = 500
trouble_status Book = 500
trouble_status Interrupted = 500
trouble_status Memory = 500

-- the name that a program compares
abbrev pub trouble_name : Trouble → List ℕ
trouble_name KeyReused = codes "key_reused"
trouble_name OtherCurrency = codes "other_currency"
trouble_name NoPayment = codes "no_payment"
trouble_name OtherBook = codes "other_book"
trouble_name UnknownKey = codes "unknown_key"
trouble_name Busy = codes "busy"
trouble_name (Refused why) = refusal_name why
trouble_name NoTerminal = codes "no_terminal"
trouble_name Stopping = codes "stopping"
trouble_name NoSpace = codes "no_space"
trouble_name Book = codes "book"
trouble_name Interrupted = codes "book"
trouble_name Memory = codes "memory"

-- what is wrong, and what to do
abbrev pub trouble_message : Trouble → List ℕ
trouble_message KeyReused = codes "Another order has this key. Choose a new key for each order."
trouble_message OtherCurrency = codes "The till takes another currency. Leave the currency out, or send the till's."
trouble_message NoPayment = codes "No completed payment has this key. Look it up with GET /payments/KEY first."
trouble_message OtherBook = codes "The payment is in the book of an earlier day, to which nothing is added. Give the money back at the terminal."
trouble_message UnknownKey = codes "No order has this key, so nothing was sent for it. Check the key, or send the order."
trouble_message Busy = codes "Another order is running. Ask again with the same key once it has ended."
trouble_message (Refused why) = refusal_words why
trouble_message NoTerminal = codes "The till is not registered at a terminal. Check the terminal, then ask again with the same key."
trouble_message Stopping = codes "The service is stopping. Ask again with the same key once it was started again."
trouble_message NoSpace = codes "The disk has no room for the records of the order. Free some space, then ask again with the same key."
trouble_message Book = codes "The book could not be written. Check its disk, start the service again, then ask again with the same key."
trouble_message Interrupted = codes "The book could not be written while the order was running. Check its disk, start the service again, then ask again with the same key."
trouble_message Memory = codes "The service is out of memory. Ask again with the same key in a moment."

-- whether something may have been sent to the terminal for the request
abbrev pub trouble_sent : Trouble → Bool
trouble_sent KeyReused = false
trouble_sent OtherCurrency = false
trouble_sent NoPayment = false
trouble_sent OtherBook = false
trouble_sent UnknownKey = false
trouble_sent Busy = false
trouble_sent (Refused why) = false
trouble_sent NoTerminal = false
trouble_sent Stopping = false
trouble_sent NoSpace = false
trouble_sent Book = false
trouble_sent Interrupted = true
trouble_sent Memory = false

-- the seconds after which to ask again, in digits
abbrev pub trouble_retry : Trouble → Option (List ℕ)
trouble_retry KeyReused = None
trouble_retry OtherCurrency = None
trouble_retry NoPayment = None
trouble_retry OtherBook = None
trouble_retry UnknownKey = None
trouble_retry Busy = Some (codes "1")
trouble_retry (Refused why) = None
trouble_retry NoTerminal = Some (codes "5")
trouble_retry Stopping = Some (codes "5")
trouble_retry NoSpace = None
trouble_retry Book = None
trouble_retry Interrupted = None
trouble_retry Memory = Some (codes "1")

-- the JSON of the answer
unfoldable pub trouble_body : Trouble → List ℕ
trouble_body t =
    codes "{\"error\":\"" ++ trouble_name t ++ codes "\",\"message\":\"" ++ trouble_message t ++ codes "\",\"sent\":" ++ bool_text (trouble_sent t) ++ codes "}\n"
