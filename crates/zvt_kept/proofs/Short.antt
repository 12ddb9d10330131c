-- Each record of a till is short enough for a journal.
use Rattle.std.proofs.Common.{◌≡◌, ℕ, Bool, true, false, ◌+◌, ◌*◌, ◌^◌, ◌≤◌, List, [], ◌∷◌, ◌++◌, length, take, arith, length-append, lit<}
use Rattle.std.specs.Prelude.{codes, decimal}
use Rattle.std.proofs.lemmas.Fmt.{length-decimal-le}
use Rattle.std.proofs.lemmas.List.{length-take}
use Rattle.hex.specs.Hex.{encode_upper, upper_digits}
use Rattle.hex.proofs.HexLemmas.{length-encode_with}
use Rattle.zvt_till.specs.declared.orders.Order.{Order}
use Rattle.zvt_till.specs.declared.orders.Order.TheVariants.{Register, Pay, Reverse, CloseDay, Cancel}
use Rattle.sha2.specs.Sha256.{sha256}
use Rattle.zvt_journal.specs.Files.{rule_words}
use Rattle.zvt_kept.specs.Checks.{check_line, check_of, check_sign, checked}
use Rattle.zvt_kept.specs.Masking.{masked_ask}
use Rattle.zvt_kept.specs.Records.{IsSpelledOrder, ask_line, ask_lines, ask_record, heard_line, heard_lines, heard_record, lost_line, lost_record, noted_words, one_or_none, opening, order_line, order_lines, order_record, order_words, sent_line, sent_lines}

pub few_taken : (n : ℕ) (bytes : List ℕ) → n ≤ 32 → length (take n bytes) ≤ 32
few_taken n bytes few = let taken = length-take n bytes in omega (arith, taken, few)

-- a word, and then a text that ends in a line feed
line_length : (word text : List ℕ) → length (word ++ text ++ 10 ∷ []) ≡ length word + length text + 1
line_length word text =
    let outer = length-append (word ++ text) (10 ∷ []) in
    let inner = length-append word text in
    omega (arith, outer, inner)

hex_length : (bytes : List ℕ) → length (encode_upper bytes) ≡ 2 * length bytes
hex_length bytes = length-encode_with upper_digits bytes

sent_length : (bytes : List ℕ) → length (sent_lines (one_or_none bytes)) ≤ 2 * length bytes + 3
sent_length [] = omega arith
sent_length (byte ∷ bytes) =
    let line = line_length (codes "> ") (encode_upper (byte ∷ bytes)) in
    let hex = hex_length (byte ∷ bytes) in
    let whole = length-append (sent_line (byte ∷ bytes)) [] in
    omega (arith, line, hex, whole)

-- a record has twelve bytes more than its lines
checked_length : (text : List ℕ) → length (checked text) ≤ length text + 12
unfolding check_of
checked_length text =
    let digest = take 4 (sha256 text) in
    let four = length-take 4 (sha256 text) in
    let hex = hex_length digest in
    let line = line_length check_sign (check_of text) in
    let whole = length-append text (check_line text) in
    omega (arith, four, hex, line, whole)

pub heard_short : (message answers : List ℕ) → length message ≤ 65540 → length answers ≤ 32 → length (heard_record message answers) ≤ 2 ^ 18
heard_short message answers few fewer =
    let line = line_length (codes "< ") (encode_upper message) in
    let hex = hex_length message in
    let sent = sent_length answers in
    let lines = length-append (heard_line message) (sent_lines (one_or_none answers)) in
    let whole = checked_length (heard_lines message (one_or_none answers)) in
    omega (arith, line, hex, sent, lines, whole, few, fewer)

number_length : (n : ℕ) → n ≤ 999999999999 → length (decimal n) ≤ 12
number_length n most = length-decimal-le 12 n (lit< tt) (omega (arith, most)) (omega (arith, most))

words_length : (order : Order) → IsSpelledOrder order → length (order_words order) ≤ 20
words_length Register spelled = omega arith
words_length (Pay amount) spelled =
    let words = length-append (codes "pay ") (decimal amount) in
    let number = number_length amount spelled.1 in
    omega (arith, words, number)
words_length (Reverse entry) spelled =
    let words = length-append (codes "reverse ") (decimal (entry + 1)) in
    let number = number_length (entry + 1) (omega (arith, spelled)) in
    omega (arith, words, number)
words_length CloseDay spelled = omega arith
words_length Cancel spelled = omega arith

pub order_short : (order : Order) (note sent : List ℕ) → IsSpelledOrder order → length note ≤ 69 → length sent ≤ 32 → length (order_record order note sent) ≤ 2 ^ 18
order_short order note sent spelled least few =
    let words = words_length order spelled in
    let noted = length-append (order_words order) note in
    let line = line_length (codes "# ") (noted_words order note) in
    let bytes = sent_length sent in
    let lines = length-append (order_line order note) (sent_lines (one_or_none sent)) in
    let whole = checked_length (order_lines order note sent) in
    omega (arith, words, noted, line, bytes, lines, whole, few, least)

pub ask_short : (note : List ℕ) → length note ≤ 69 → length (ask_record note) ≤ 2 ^ 18
ask_short note least =
    let line = line_length (codes "# ask") note in
    let bytes = sent_length masked_ask in
    let lines = length-append (ask_line note) (sent_lines (one_or_none masked_ask)) in
    let whole = checked_length (ask_lines note) in
    omega (arith, line, bytes, lines, whole, least)

rule_short : (by_receipt : Bool) → length (rule_words by_receipt) ≤ 22
rule_short false = omega arith
rule_short true = omega arith

pub opening_short : (currency : ℕ) (by_receipt : Bool) → currency ≤ 9999 → length (opening currency by_receipt) ≤ 2 ^ 18
opening_short currency by_receipt most =
    let start = codes "# zvt journal 1, currency " ++ decimal currency in
    let line = line_length start (rule_words by_receipt) in
    let words = length-append (codes "# zvt journal 1, currency ") (decimal currency) in
    let number = number_length currency (omega (arith, most)) in
    let rule = rule_short by_receipt in
    omega (arith, line, words, rule, number)

pub lost_short : length lost_record ≤ 2 ^ 18
lost_short = let whole = checked_length lost_line in omega (arith, whole)
