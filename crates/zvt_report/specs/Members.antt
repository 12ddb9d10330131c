-- The members of the objects of a report.
use Rattle.std.specs.Prelude.{◌≡◌, ℕ, ◌+◌, ◌-◌, negsuc, nat_le, cond, Bool, true, List, [], ◌∷◌, ◌++◌, Option, Some, None, codes, unwrap_or, refl}
use Rattle.std.specs.Fmt.{digits}
use Rattle.hex.specs.Hex.{encode_with}
use Rattle.json.specs.Print.{escape_byte}
use Rattle.serde_json.specs.Data.{Data, string, boolean, number, negative, array, object, no_items, item, Members, no_members, member}
use Rattle.serde_json.specs.Written.{comma_if, compact_text}
use Rattle.zvt_json.specs.Strings.{count_value, byte_value, hex_value, line_text}
use Rattle.zvt_text.specs.MessageTexts.{four_digits}
use Rattle.zvt_text.specs.Meanings.{card_type_name, meaning_of}
use Rattle.zvt_trace.specs.Marks.{moment_text}
use Rattle.zvt_till.specs.Names.{cause_name}
use Rattle.zvt_till.specs.declared.outcomes.Cause.TheVariants.{NoStatus}
use Rattle.zvt_report.specs.CardTexts.{characters, number_text}
use Rattle.zvt_report.specs.GroupObjects.{groups_value}
use Rattle.zvt_report.specs.OrderNames.{order_name}
use Rattle.zvt_report.specs.Words.{case_name, ending_name, finding_name, weight_name}
use Rattle.zvt_report.specs.declared.explaining.Explained.{Explained}
use Rattle.zvt_report.specs.declared.explaining.Explained.TheVariants as explained
use Rattle.zvt_report.specs.declared.members.Object.{Object}
use Rattle.zvt_report.specs.declared.members.Object.TheVariants as object_of
use Rattle.zvt_report.specs.declared.members.Name.{Name}
use Rattle.zvt_report.specs.declared.members.Name.TheVariants as name
use Rattle.zvt_report.specs.declared.members.Word.{Word}
use Rattle.zvt_report.specs.declared.members.Word.TheVariants as word
use Rattle.zvt_report.specs.declared.members.Value.{Value}
use Rattle.zvt_report.specs.declared.members.Value.TheVariants as value
use Rattle.zvt_report.specs.declared.members.Member.{Member}

abbrev pub object_name : Object → List ℕ
object_name object_of.Close = codes "close"
object_name object_of.Look = codes "look"
object_name object_of.Order = codes "order"
object_name object_of.Other = codes "other"
object_name object_of.Payment = codes "payment"
object_name object_of.Reversal = codes "reversal"
object_name object_of.Summary = codes "summary"

abbrev pub name_text : Name → List ℕ
name_text name.Advice = codes "advice"
name_text name.Again = codes "again"
name_text name.Amount = codes "amount"
name_text name.Approved = codes "approved"
name_text name.Bad = codes "bad"
name_text name.Book = codes "book"
name_text name.Booked = codes "booked"
name_text name.Card = codes "card"
name_text name.CardNumber = codes "card_number"
name_text name.Case = codes "case"
name_text name.Cause = codes "cause"
name_text name.Code = codes "code"
name_text name.ConfirmedBy = codes "confirmed_by"
name_text name.Control = codes "control"
name_text name.Currency = codes "currency"
name_text name.Differs = codes "differs"
name_text name.ExplainedBy = codes "explained_by"
name_text name.Groups = codes "groups"
name_text name.Lines = codes "lines"
name_text name.Looks = codes "looks"
name_text name.Messages = codes "messages"
name_text name.Name = codes "name"
name_text name.Net = codes "net"
name_text name.Order = codes "order"
name_text name.Others = codes "others"
name_text name.Outcome = codes "outcome"
name_text name.Payment = codes "payment"
name_text name.Receipt = codes "receipt"
name_text name.Receipts = codes "receipts"
name_text name.ReversalUnclear = codes "reversal_unclear"
name_text name.ReversalsUnclear = codes "reversals_unclear"
name_text name.Reversed = codes "reversed"
name_text name.ReversedBy = codes "reversed_by"
name_text name.Stated = codes "stated"
name_text name.TakenBack = codes "taken_back"
name_text name.Terminal = codes "terminal"
name_text name.Text = codes "text"
name_text name.Time = codes "time"
name_text name.TimeFrom = codes "time_from"
name_text name.TimeTo = codes "time_to"
name_text name.TimesBack = codes "times_back"
name_text name.TimesBad = codes "times_bad"
name_text name.Title = codes "title"
name_text name.Total = codes "total"
name_text name.Trace = codes "trace"
name_text name.Unclear = codes "unclear"
name_text name.UnclearAmount = codes "unclear_amount"
name_text name.Weight = codes "weight"
name_text name.Words = codes "words"

abbrev pub word_text : Word → List ℕ
word_text (word.Case case) = case_name case
word_text (word.Finding finding) = finding_name finding
word_text (word.Weight weight) = weight_name weight
word_text (word.Cause cause) = cause_name cause
word_text (word.Ending ending) = ending_name ending
word_text (word.Meaning code) = unwrap_or (meaning_of code) []
word_text (word.Command high low) = unwrap_or (order_name high low) []
word_text (word.CardType card_type) = unwrap_or (card_type_name card_type) []

abbrev pub lines_value : (first last : ℕ) → Data
lines_value first last = array (item (count_value first) (item (count_value last) no_items))

-- a number less another one
abbrev pub difference_value : (more less : ℕ) → Data
difference_value more less = cond (nat_le less more) (count_value (more - less)) (number (negative (negsuc (less - more - 1))))

abbrev pub receipts_value : (first last : List ℕ) → Data
receipts_value first last = array (item (hex_value first) (item (hex_value last) no_items))

-- the number of an order, counted from 1
abbrev pub order_value : (order : ℕ) → Data
order_value order = count_value (order + 1)

abbrev pub orders_value : Explained → Data
orders_value explained.Nothing = array no_items
orders_value explained.Empty = array no_items
orders_value (explained.One a) = array (item (order_value a) no_items)
orders_value (explained.Two a b) = array (item (order_value a) (item (order_value b) no_items))
orders_value (explained.Three a b c) = array (item (order_value a) (item (order_value b) (item (order_value c) no_items)))
orders_value explained.Several = array no_items

abbrev pub value_data : Value → Data
value_data value.True = boolean true
value_data (value.Count n) = count_value n
value_data (value.Difference more less) = difference_value more less
value_data (value.Lines first last) = lines_value first last
value_data (value.Byte byte) = byte_value byte
value_data (value.Bytes bytes) = hex_value bytes
value_data (value.Terminal id) = hex_value id
value_data (value.Receipts first last) = receipts_value first last
value_data (value.Orders orders) = orders_value orders
value_data (value.Groups groups) = groups_value groups
value_data (value.Currency currency) = string (four_digits currency)
value_data (value.Moment moment) = string (moment_text moment)
value_data (value.Word w) = string (word_text w)
value_data (value.CardName letters) = string (characters (codes "\\x") letters)
value_data (value.CardNumber masked) = string (number_text masked)

-- the members that have a value
abbrev pub said : List (Option Member) → Members
said [] = no_members
said (None ∷ members) = said members
said (Some m ∷ members) = member (name_text m.name) (value_data m.value) (said members)

-- a line has one member, with the name of the object
abbrev pub object_value : Object → List (Option Member) → Data
object_value o members = object (member (object_name o) (object (said members)) no_members)

-- the line of an object
unfoldable pub object_text : Object → List (Option Member) → List ℕ
object_text o members = line_text (object_value o members)

-- ---- the same texts, as they are written

abbrev pub member_text : (later : Bool) → Member → List ℕ
member_text later m = comma_if later ++ ((34 ∷ name_text m.name ++ 34 ∷ 58 ∷ []) ++ compact_text (value_data m.value))

-- ---- rows worked by hand

abbrev of : Name → Value → Option Member
of n v = Some (record { name = n; value = v })

two_members : object_text object_of.Payment (of name.Amount (value.Count 1234) ∷ None ∷ of name.Cause (value.Word (word.Cause NoStatus)) ∷ [])
    ≡ codes "{\"payment\":{\"amount\":1234,\"cause\":\"NoStatus\"}}\n"
unfolding object_text digits escape_byte
two_members = refl

-- the first member may be left out
no_first : object_text object_of.Order (None ∷ of name.Code (value.Byte 0x6C) ∷ of name.Control (value.Bytes (0x06 ∷ 0x31 ∷ [])) ∷ of name.Lines (value.Lines 4 10) ∷ [])
    ≡ codes "{\"order\":{\"code\":\"6C\",\"control\":\"0631\",\"lines\":[4,10]}}\n"
unfolding object_text digits escape_byte encode_with
no_first = refl

a_close : object_text object_of.Close (of name.Book (value.Difference 500 200) ∷ of name.Differs (value.Difference 300 800) ∷ of name.Receipts (value.Receipts (0x00 ∷ 0x05 ∷ []) (0x00 ∷ 0x15 ∷ [])) ∷ [])
    ≡ codes "{\"close\":{\"book\":300,\"differs\":-500,\"receipts\":[\"0005\",\"0015\"]}}\n"
unfolding object_text digits escape_byte encode_with
a_close = refl

a_card : object_text object_of.Payment (of name.Card (value.CardName (codes "a\\" ++ 0 ∷ [])) ∷ of name.CardNumber (value.CardNumber (0x67 ∷ 0xEE ∷ 0x1F ∷ [])) ∷ [])
    ≡ codes "{\"payment\":{\"card\":\"a\\\\x5C\",\"card_number\":\"67EE1\"}}\n"
unfolding object_text digits escape_byte encode_with
a_card = refl

no_member : object_text object_of.Close (None ∷ []) ≡ codes "{\"close\":{}}\n"
unfolding object_text escape_byte
no_member = refl
