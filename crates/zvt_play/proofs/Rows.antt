-- Rows worked by hand.
use Rattle.std.proofs.Common.{◌≡◌, ℕ, List, [], ◌∷◌, true, false, Bor, Ok, Err, Option, Some, None, length, refl, ap, arith}
use Rattle.std.specs.Prelude.{codes}
use Rattle.std.specs.Fmt.{digits}
use Rattle.hex.specs.Hex.{decode_pairs, encode_with}
use Rattle.zvt_trace.specs.declared.direction.Direction.TheVariants.{FromTill, FromTerminal}
use Rattle.zvt_grammar.specs.declared.why.Why.TheVariants.{UnknownField}
use Rattle.zvt_field.specs.Grammar.{plain}
use Rattle.zvt_stream.specs.LineReading.{LineReading}
use Rattle.zvt_stream.specs.OpenReading.{unread}
use Rattle.zvt_play.specs.DifferenceTexts.{SaysCause, SaysWanted, beginning_text, item_text, new_text, same_text, surplus}
use Rattle.zvt_play.specs.Playing.{Meets, SendAll}
use Rattle.zvt_play.specs.Naming.{fault_at, fault_of}
use Rattle.zvt_play.specs.Numbers.{bound, has_number, number_of, prepared, sent_as, unused, used}
use Rattle.zvt_play.specs.Script.{LineSays, await, bind, break, comment_says, listen, prepare, same, send, silence, wait}
use Rattle.zvt_play.specs.declared.naming.NameFault.TheVariants.{Bound, NoField, NoMessage, Size, Unbound}
use Rattle.zvt_play.specs.declared.numbers.Number.TheVariants.{Three, Two}
use Rattle.zvt_play.specs.declared.numbers.NumberField.TheVariants.{Original, Receipt, Trace}
use Rattle.zvt_play.specs.declared.numbers.Names.{Names}
use Rattle.zvt_play.specs.declared.difference.Difference.TheVariants.{Closed, Malformed}
use Rattle.zvt_play.specs.declared.line.ScriptLineError.TheVariants.{Mark}

-- ---- marks

pub silent : comment_says (codes "#~ silent") ≡ Ok (Some silence)
silent = refl

pub a_wait : comment_says (codes "#~ 1500") ≡ Ok (Some (wait 1500))
a_wait = refl

pub a_listening : comment_says (codes "#~ listen 2000") ≡ Ok (Some (listen 2000))
a_listening = refl

pub no_listening : comment_says (codes "#~ listen") ≡ Err Mark
no_listening = refl

pub the_longest_wait : comment_says (codes "#~ 9999999") ≡ Ok (Some (wait 9999999))
the_longest_wait = refl

pub a_comment : comment_says (codes "# ~ silent") ≡ Ok None
a_comment = refl

pub too_long : comment_says (codes "#~ 10000000") ≡ Err Mark
too_long = refl

pub no_space : comment_says (codes "#~1500") ≡ Err Mark
no_space = refl

pub another_word : comment_says (codes "#~ silence") ≡ Err Mark
another_word = refl

pub a_receipt_bound : comment_says (codes "#~ bind 87 n1") ≡ Ok (Some (bind Receipt 1))
a_receipt_bound = refl

pub an_original_named : comment_says (codes "#~ same 37 n99") ≡ Ok (Some (same Original 99))
an_original_named = refl

pub a_trace_used : comment_says (codes "#~ use 0B n07") ≡ Ok (Some (prepare Trace 7))
a_trace_used = refl

pub no_number_field : comment_says (codes "#~ bind 04 n1") ≡ Err Mark
no_number_field = refl

pub no_such_name : comment_says (codes "#~ bind 87 n100") ≡ Err Mark
no_such_name = refl

pub no_name : comment_says (codes "#~ use 87 1") ≡ Err Mark
no_name = refl

-- ---- names

-- the receipt 0051, heard as n1
abbrev pub fifty_one : Names
fifty_one = bound 1 (Two (0x00 ∷ 0x51 ∷ [])) unused

pub the_receipt_is_known : has_number fifty_one (0x00 ∷ 0x51 ∷ []) ≡ true
the_receipt_is_known = refl

pub another_receipt_is_not : has_number fifty_one (0x00 ∷ 0x52 ∷ []) ≡ false
another_receipt_is_not = refl

-- a trace number with the same digits is another number
pub a_trace_number_is_not : has_number fifty_one (0x00 ∷ 0x00 ∷ 0x51 ∷ []) ≡ false
a_trace_number_is_not = refl

pub a_receipt_heard : number_of Receipt (plain 0x27 (0x00 ∷ []) ∷ plain 0x87 (0x00 ∷ 0x51 ∷ []) ∷ []) ≡ Some (0x00 ∷ 0x51 ∷ [])
a_receipt_heard = refl

pub two_receipts : number_of Receipt (plain 0x87 (0x00 ∷ 0x51 ∷ []) ∷ plain 0x87 (0x00 ∷ 0x52 ∷ []) ∷ []) ≡ None
two_receipts = refl

-- A reversal asks by the receipt that was heard, and not by that of the line. The next line is sent as it stands.
pub the_receipt_heard_is_sent : SendAll (prepare Receipt 1 ∷ send (0x06 ∷ 0x30 ∷ 0x06 ∷ 0x00 ∷ 0x00 ∷ 0x00 ∷ 0x87 ∷ 0x00 ∷ 0x01 ∷ []) ∷ send (0x80 ∷ 0x00 ∷ 0x00 ∷ []) ∷ []) fifty_one (used fifty_one)
    (0x06 ∷ 0x30 ∷ 0x06 ∷ 0x00 ∷ 0x00 ∷ 0x00 ∷ 0x87 ∷ 0x00 ∷ 0x51 ∷ 0x80 ∷ 0x00 ∷ 0x00 ∷ [])
the_receipt_heard_is_sent = (
  prepared 1 fifty_one,
  [],
  0x06 ∷ 0x30 ∷ 0x06 ∷ 0x00 ∷ 0x00 ∷ 0x00 ∷ 0x87 ∷ 0x00 ∷ 0x51 ∷ 0x80 ∷ 0x00 ∷ 0x00 ∷ [],
  (refl, refl),
  (used fifty_one, 0x06 ∷ 0x30 ∷ 0x06 ∷ 0x00 ∷ 0x00 ∷ 0x00 ∷ 0x87 ∷ 0x00 ∷ 0x51 ∷ [], 0x80 ∷ 0x00 ∷ 0x00 ∷ [], (refl, refl), (used fifty_one, 0x80 ∷ 0x00 ∷ 0x00 ∷ [], [], (refl, refl), (refl, refl), refl), refl),
  refl,
)

-- where the name has no number, the line is sent as it stands
pub nothing_heard : sent_as None (0x87 ∷ 0x00 ∷ 0x01 ∷ []) ≡ 0x87 ∷ 0x00 ∷ 0x01 ∷ []
nothing_heard = refl

pub in_a_line_that_is_too_short : sent_as (Some (Two (0x00 ∷ 0x51 ∷ []))) (0x87 ∷ []) ≡ 0x87 ∷ []
in_a_line_that_is_too_short = refl

-- ---- where a mark can stand

pub after_a_message : fault_of (await [] ∷ []) (bind Receipt 1) [] ≡ None
after_a_message = refl

pub after_another_mark : fault_of (await [] ∷ bind Receipt 1 ∷ []) (bind Trace 2) [] ≡ None
after_another_mark = refl

pub after_an_own_line : fault_of (await [] ∷ send [] ∷ []) (bind Receipt 1) [] ≡ Some NoMessage
after_an_own_line = refl

pub bound_before : fault_of (await [] ∷ bind Receipt 1 ∷ await [] ∷ []) (bind Receipt 1) [] ≡ Some Bound
bound_before = refl

pub not_bound_before : fault_of (await [] ∷ bind Receipt 1 ∷ []) (same Original 2) [] ≡ Some Unbound
not_bound_before = refl

pub another_size : fault_of (await [] ∷ bind Receipt 1 ∷ await [] ∷ []) (same Original 1) [] ≡ Some Size
another_size = refl

pub the_payment_named_again : fault_of (await [] ∷ bind Trace 1 ∷ await [] ∷ []) (same Original 1) [] ≡ None
the_payment_named_again = refl

pub before_a_reversal : fault_at (await [] ∷ bind Receipt 1 ∷ prepare Receipt 1 ∷ send (0x06 ∷ 0x30 ∷ 0x06 ∷ 0x00 ∷ 0x00 ∷ 0x00 ∷ 0x87 ∷ 0x00 ∷ 0x01 ∷ []) ∷ []) 2 ≡ None
before_a_reversal = refl

pub before_another_field : fault_at (await [] ∷ bind Receipt 1 ∷ prepare Receipt 1 ∷ send (0x06 ∷ 0x30 ∷ 0x06 ∷ 0x00 ∷ 0x00 ∷ 0x00 ∷ 0x37 ∷ 0x00 ∷ 0x01 ∷ []) ∷ []) 2 ≡ Some NoField
before_another_field = refl

pub before_no_own_line : fault_of (await [] ∷ bind Receipt 1 ∷ []) (prepare Receipt 1) (await [] ∷ []) ≡ Some NoField
before_no_own_line = refl

-- ---- lines

pub an_own_line : (r : LineReading) → LineSays r FromTerminal (codes "< 80 00 00") (Ok (Some (send (0x80 ∷ 0x00 ∷ 0x00 ∷ []))))
unfolding decode_pairs
an_own_line r = refl

pub a_malformed_own_line : (r : LineReading) → LineSays r FromTill (codes "> 80") (Ok (Some (send (0x80 ∷ []))))
unfolding decode_pairs
a_malformed_own_line r = refl

pub a_lost_line : (r : LineReading) → LineSays r FromTill (codes "!") (Ok (Some break))
a_lost_line r = refl

-- ---- what a line demands

-- `06 01` and an authorisation
pub any_authorisation : Meets (0x06 ∷ 0x01 ∷ []) ((0x06 ∷ 0x01 ∷ 0x00 ∷ []) ∷ [])
any_authorisation = (0x00 ∷ [], refl)

-- the sign alone
pub any_message : Meets [] ((0x80 ∷ 0x00 ∷ 0x00 ∷ []) ∷ [])
any_message = (0x80 ∷ 0x00 ∷ 0x00 ∷ [], refl)

-- a message, and the beginning of another
pub one_and_a_half : Meets (0x80 ∷ 0x00 ∷ 0x00 ∷ 0x06 ∷ 0x0F ∷ []) ((0x80 ∷ 0x00 ∷ 0x00 ∷ []) ∷ (0x06 ∷ 0x0F ∷ 0x00 ∷ []) ∷ [])
one_and_a_half = (0x06 ∷ 0x0F ∷ [], refl, omega arith, (0x00 ∷ [], refl))

-- a message of a line of two
pub too_few : Meets (0x80 ∷ 0x00 ∷ 0x00 ∷ 0x06 ∷ 0x0F ∷ 0x00 ∷ []) ((0x80 ∷ 0x00 ∷ 0x00 ∷ []) ∷ []) → ⊥
too_few m = cc (m.1)

-- a message more than the line has
pub too_many : Meets (0x80 ∷ 0x00 ∷ 0x00 ∷ []) ((0x80 ∷ 0x00 ∷ 0x00 ∷ []) ∷ (0x80 ∷ 0x00 ∷ 0x00 ∷ []) ∷ []) → ⊥
too_many m = omega (arith, m.2, ap length m.1)

-- ---- what is said of a difference

pub more_at_the_end : surplus None 3 ≡ codes "the end of the trace: 3 bytes came before it that the trace does not have\n"
unfolding digits
more_at_the_end = refl

pub a_refused_message : (r : LineReading) (came : Option (Bor (List ℕ))) → SaysCause r FromTerminal (Malformed 12 UnknownField) came (codes "but no message begins with what came: refused at 12: UnknownField\n")
unfolding digits
a_refused_message r came = refl

pub a_close : (r : LineReading) (came : Option (Bor (List ℕ))) → SaysCause r FromTill (Closed 0) came (codes "but the other side closed the connection after 0 bytes of a message\n")
unfolding digits
a_close r came = refl

-- the completion of a status enquiry: no field has the BMP F0
pub an_unread_completion : (byte : ℕ) → item_text (unread 0x06 0x0F 7 (0x06 ∷ 0x0F ∷ 0x04 ∷ []) byte UnknownField) ≡ codes "unread 060F, 7 bytes, refused at 3: UnknownField\n"
unfolding digits encode_with
an_unread_completion byte = refl

pub any_wanted : (r : LineReading) → SaysWanted r [] (codes "any message\n")
any_wanted r = refl

pub two_of_three : beginning_text (6 ∷ 1 ∷ 7 ∷ []) ≡ codes "a message that begins with 0601, 3 bytes of it are given\n"
unfolding digits encode_with
two_of_three = refl

pub a_new_number : new_text Receipt ≡ codes "a message whose field 87 has a number that has no name yet\n"
unfolding encode_with
a_new_number = refl

pub the_number_of_a_name : same_text Original 1 (Some (Three (0x00 ∷ 0x00 ∷ 0x51 ∷ []))) ≡ codes "a message whose field 37 has the number n1 (000051)\n"
unfolding digits encode_with
the_number_of_a_name = refl
