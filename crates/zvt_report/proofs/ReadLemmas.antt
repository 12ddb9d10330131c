-- The members of the objects of a report come in the order of their names, so that an object is read back from its text.
use Rattle.zvt_report.specs.OrderNames.{order_name}
use Rattle.std.proofs.Common.{◌≡◌, ℕ, ◌+◌, ◌==◌, ◌≤◌, ◌&&◌, Bool, true, false, cond, nat_le, negsuc, ◌-◌, Some, None, Option, List, [], ◌∷◌, ◌++◌, refl, ◌∙◌, ap, arith}
use Rattle.std.specs.Option.{option_and_then, option_map}
use Rattle.std.specs.Ordering.{nat_cmp, match_ordering}
use Rattle.std.specs.Cmp.Lexicographic.{slice_cmp}
use Rattle.std.specs.declared.cmp.Ordering.{Ordering}
use Rattle.std.specs.declared.cmp.Ordering.TheVariants.{Less, Equal, Greater}
use Rattle.std.proofs.lemmas.Bool.{and_from, and_parts}
use Rattle.serde_json.specs.Data.{Data, string, number as numeral, unsigned, negative, Members, no_members, member, depth, members_depth, items_depth, item}
use Rattle.zvt_json.specs.Reading.{and_then, comes_after, members_ordered, ordered, items_ordered}
use Rattle.zvt_json.proofs.ReadBack.{reads_back}
use Rattle.zvt_text.specs.Meanings.{meaning_of}
use Rattle.zvt_till.specs.declared.outcomes.Cause.{Cause}
use Rattle.zvt_till.specs.declared.outcomes.Outcome.{Outcome}
use Rattle.zvt_report.specs.Advices.{advice}
use Rattle.zvt_report.specs.LookObjects.{Told, look_told, look_value, of_member, order_member, payment_at, told, weight_member}
use Rattle.zvt_report.specs.Members.{name_text, object_value, orders_value, said, value_data}
use Rattle.zvt_report.specs.Objects.{cause_of, close_members, code, code_of, command, count, lines, maybe_cause, maybe_count, maybe_currency, maybe_receipt, other_members, payment_members, plain_members, reversal_members, said_as, summary_members, true_if, words, maybe_terminal}
use Rattle.zvt_report.specs.Sentences.{account, title}
use Rattle.zvt_report.specs.CardObjects.{card_value, maybe_card, maybe_card_number}
use Rattle.zvt_report.specs.Cards.{card_number}
use Rattle.zvt_report.specs.CloseObjects.{book_member, difference_member, differs_member, explained_member, orders_of, receipts_member, receipts_of, stated_member, groups_member, groups_of}
use Rattle.zvt_report.specs.Reading.{IsReadBack, ObjectsReadBack, ReadsBack}
use Rattle.zvt_report.specs.TimeMembers.{back_member, bad_member, from_member, maybe_time, to_member}
use Rattle.zvt_trace.specs.declared.moment.Moment.{Moment}
use Rattle.zvt_report.specs.declared.cards.Card.{Card}
use Rattle.zvt_report.specs.CardTotals.{is_used}
use Rattle.zvt_report.specs.GroupObjects.{group_items, group_value, groups_value}
use Rattle.zvt_report.specs.declared.card_totals.CardGroup.{CardGroup}
use Rattle.zvt_report.specs.declared.card_totals.CardTotals.{CardTotals}
use Rattle.zvt_report.specs.declared.closings.Closing.{Closing}
use Rattle.zvt_report.specs.declared.explaining.Explained.{Explained}
use Rattle.zvt_report.specs.declared.explaining.Explained.TheVariants as explained
use Rattle.zvt_report.specs.declared.members.Member.{Member}
use Rattle.zvt_report.specs.declared.members.Name.{Name}
use Rattle.zvt_report.specs.declared.members.Name.TheVariants as name
use Rattle.zvt_report.specs.declared.members.Object.{Object}
use Rattle.zvt_report.specs.declared.members.Object.TheVariants as object_of
use Rattle.zvt_report.specs.declared.members.Value.{Value}
use Rattle.zvt_report.specs.declared.members.Value.TheVariants as value
use Rattle.zvt_report.specs.declared.members.Word.TheVariants as word
use Rattle.zvt_report.specs.declared.cases.Look.{Look}
use Rattle.zvt_report.specs.declared.currencies.Decimals.{Decimals}
use Rattle.zvt_report.specs.declared.facts.Facts.{Facts}
use Rattle.zvt_report.specs.declared.rows.OrderMessage.{OrderMessage}
use Rattle.zvt_report.specs.declared.rows.OrderRow.{OrderRow}

-- ---- names in order

-- the member has this name, if there is one
abbrev pub IsNamed : Option Member → Name → Type 0
IsNamed None n = Unit {0}
IsNamed (Some m) n = m.name ≡ n

-- each member has the name at its place
abbrev AreNamed : List (Option Member) → List Name → Type 0
AreNamed [] ns = Unit {0}
AreNamed (m ∷ ms) [] = ⊥
AreNamed (m ∷ ms) (n ∷ ns) = IsNamed m n × AreNamed ms ns

-- the key comes after each of these names
abbrev pub after_all : List ℕ → List Name → Bool
after_all k [] = true
after_all k (n ∷ ns) = match_ordering (slice_cmp nat_cmp k (name_text n)) false false (after_all k ns)

-- each name comes after those before it
abbrev pub in_order : (before : List Name) → List Name → Bool
in_order before [] = true
in_order before (n ∷ ns) = after_all (name_text n) before && in_order (before ++ n ∷ []) ns

-- a key that comes after these names comes after the names of these members
abbrev Covers : List Name → Members → Type 0
Covers before found = (k : List ℕ) → after_all k before ≡ true → comes_after k found ≡ true

greater : (o : Ordering) (t : Bool) → match_ordering o false false t ≡ true → (o ≡ Greater) × (t ≡ true)
greater Less t h = absurd (cc (h))
greater Equal t h = absurd (cc (h))
greater Greater t h = (refl, h)

after_first : (k : List ℕ) (before : List Name) (n : Name) → after_all k (before ++ n ∷ []) ≡ true → after_all k before ≡ true
after_first k [] n h = refl
after_first k (b ∷ before) n h =
    let g = greater (slice_cmp nat_cmp k (name_text b)) (after_all k (before ++ n ∷ [])) h in
    ap (λ (o : Ordering). match_ordering o false false (after_all k before)) g.0 ∙ after_first k before n g.1

after_last : (k : List ℕ) (before : List Name) (n : Name) → after_all k (before ++ n ∷ []) ≡ true → slice_cmp nat_cmp k (name_text n) ≡ Greater
after_last k [] n h = (greater (slice_cmp nat_cmp k (name_text n)) true h).0
after_last k (b ∷ before) n h = after_last k before n (greater (slice_cmp nat_cmp k (name_text b)) (after_all k (before ++ n ∷ [])) h).1

comes_last : (k l : List ℕ) (d : Data) (found : Members) → comes_after k found ≡ true → slice_cmp nat_cmp k l ≡ Greater → comes_after k (and_then found (member l d no_members)) ≡ true
comes_last k l d no_members h is = ap (λ (o : Ordering). match_ordering o false false true) is
comes_last k l d (member j e found) h is =
    let g = greater (slice_cmp nat_cmp k j) (comes_after k found) h in
    ap (λ (o : Ordering). match_ordering o false false (comes_after k (and_then found (member l d no_members)))) g.0 ∙ comes_last k l d found g.1 is

covers_less : (before : List Name) (n : Name) (found : Members) → Covers before found → Covers (before ++ n ∷ []) found
covers_less before n found covers k h = covers k (after_first k before n h)

covers_more : (before : List Name) (n : Name) (d : Data) (found : Members) → Covers before found → Covers (before ++ n ∷ []) (and_then found (member (name_text n) d no_members))
covers_more before n d found covers k h = comes_last k (name_text n) d found (covers k (after_first k before n h)) (after_last k before n h)

difference_ordered : (b : Bool) (m n : ℕ) → ordered (cond b (numeral (unsigned m)) (numeral (negative (negsuc n)))) ≡ true
difference_ordered true m n = refl
difference_ordered false m n = refl

orders_ordered : (e : Explained) → ordered (orders_value e) ≡ true
orders_ordered explained.Nothing = refl
orders_ordered explained.Empty = refl
orders_ordered (explained.One a) = refl
orders_ordered (explained.Two a b) = refl
orders_ordered (explained.Three a b c) = refl
orders_ordered explained.Several = refl

group_ordered : (used : Bool) (group : CardGroup) (groups : List CardGroup) → items_ordered (group_items groups) ≡ true
    → items_ordered (cond used (item (group_value group) (group_items groups)) (group_items groups)) ≡ true
group_ordered true group groups later = later
group_ordered false group groups later = later

groups_ordered : (groups : List CardGroup) → ordered (groups_value groups) ≡ true
groups_ordered [] = refl
groups_ordered (group ∷ groups) = group_ordered (is_used group) group groups (groups_ordered groups)

value_ordered : (v : Value) → ordered (value_data v) ≡ true
value_ordered value.True = refl
value_ordered (value.Count n) = refl
value_ordered (value.Difference more less) = difference_ordered (nat_le less more) (more - less) (less - more - 1)
value_ordered (value.Lines first last) = refl
value_ordered (value.Byte byte) = refl
value_ordered (value.Bytes bytes) = refl
value_ordered (value.Terminal id) = refl
value_ordered (value.Receipts first last) = refl
value_ordered (value.Orders orders) = orders_ordered orders
value_ordered (value.Groups groups) = groups_ordered groups
value_ordered (value.Currency currency) = refl
value_ordered (value.Moment moment) = refl
value_ordered (value.Word w) = refl
value_ordered (value.CardName name) = refl
value_ordered (value.CardNumber number) = refl

said_ordered : (ms : List (Option Member)) (ns before : List Name) (found : Members) → AreNamed ms ns → in_order before ns ≡ true → Covers before found → members_ordered (said ms) found ≡ true
said_ordered [] ns before found named order covers = refl
said_ordered (m ∷ ms) [] before found named order covers = absurd named
said_ordered (None ∷ ms) (n ∷ ns) before found named order covers =
    let p = and_parts (after_all (name_text n) before) (in_order (before ++ n ∷ []) ns) order in
    said_ordered ms ns (before ++ n ∷ []) found named.1 p.1 (covers_less before n found covers)
said_ordered (Some m ∷ ms) (n ∷ ns) before found named order covers =
    let p = and_parts (after_all (name_text n) before) (in_order (before ++ n ∷ []) ns) order in
    let d = value_data m.value in
    let all : members_ordered (member (name_text n) d (said ms)) found ≡ true =
    and_from (comes_after (name_text n) found) (ordered d && members_ordered (said ms) (and_then found (member (name_text n) d no_members))) (covers (name_text n) p.0)
    (and_from (ordered d) (members_ordered (said ms) (and_then found (member (name_text n) d no_members))) (value_ordered m.value)
    (said_ordered ms ns (before ++ n ∷ []) (and_then found (member (name_text n) d no_members)) named.1 p.1 (covers_more before n d found covers))) in
    ap (λ (k : Name). members_ordered (member (name_text k) d (said ms)) found) named.0 ∙ all

-- ---- depth

difference_shallow : (b : Bool) (m n : ℕ) → depth (cond b (numeral (unsigned m)) (numeral (negative (negsuc n)))) ≤ 1
difference_shallow true m n = omega arith
difference_shallow false m n = omega arith

orders_shallow : (e : Explained) → depth (orders_value e) ≤ 1
orders_shallow explained.Nothing = omega arith
orders_shallow explained.Empty = omega arith
orders_shallow (explained.One a) = omega arith
orders_shallow (explained.Two a b) = omega arith
orders_shallow (explained.Three a b c) = omega arith
orders_shallow explained.Several = omega arith

group_shallow : (used : Bool) (group : CardGroup) (groups : List CardGroup) → items_depth (group_items groups) ≤ 1
    → items_depth (cond used (item (group_value group) (group_items groups)) (group_items groups)) ≤ 1
group_shallow true group groups later = omega (arith, later)
group_shallow false group groups later = later

groups_shallow : (groups : List CardGroup) → items_depth (group_items groups) ≤ 1
groups_shallow [] = omega arith
groups_shallow (group ∷ groups) = group_shallow (is_used group) group groups (groups_shallow groups)

value_shallow : (v : Value) → depth (value_data v) ≤ 2
value_shallow value.True = omega arith
value_shallow (value.Count n) = omega arith
value_shallow (value.Difference more less) = omega (arith, difference_shallow (nat_le less more) (more - less) (less - more - 1))
value_shallow (value.Lines first last) = omega arith
value_shallow (value.Byte byte) = omega arith
value_shallow (value.Bytes bytes) = omega arith
value_shallow (value.Terminal id) = omega arith
value_shallow (value.Receipts first last) = omega arith
value_shallow (value.Orders orders) = omega (arith, orders_shallow orders)
value_shallow (value.Groups groups) = omega (arith, groups_shallow groups)
value_shallow (value.Currency currency) = omega arith
value_shallow (value.Moment moment) = omega arith
value_shallow (value.Word w) = omega arith
value_shallow (value.CardName name) = omega arith
value_shallow (value.CardNumber number) = omega arith

said_shallow : (ms : List (Option Member)) → members_depth (said ms) ≤ 2
said_shallow [] = omega arith
said_shallow (None ∷ ms) = said_shallow ms
said_shallow (Some m ∷ ms) = omega (arith, value_shallow m.value, said_shallow ms)

-- an object whose members have these names, in order
read_named : (o : Object) (ms : List (Option Member)) (ns : List Name) → AreNamed ms ns → in_order [] ns ≡ true → ReadsBack o ms
read_named o ms ns named order = λ fit.
    let names = said_ordered ms ns [] no_members named order (λ k h. refl) in
    reads_back (object_value o ms) fit (ap (λ (b : Bool). b && true) names) (omega (arith, said_shallow ms))

-- ---- members and sentences

-- the member has this name, and a value without objects
abbrev pub IsTold : Told → Name → Type 0
IsTold None n = Unit {0}
IsTold (Some t) n = (t.0 ≡ n) × ((ordered t.1 ≡ true) × (depth t.1 ≤ 2))

abbrev pub AreTold : List Told → List Name → Type 0
AreTold [] ns = Unit {0}
AreTold (t ∷ ts) [] = ⊥
AreTold (t ∷ ts) (n ∷ ns) = IsTold t n × AreTold ts ns

pub told_of : (m : Option Member) (n : Name) → IsNamed m n → IsTold (of_member m) n
told_of None n named = tt
told_of (Some m) n named = (named, (value_ordered m.value, value_shallow m.value))

told_ordered : (ts : List Told) (ns before : List Name) (found : Members) → AreTold ts ns → in_order before ns ≡ true → Covers before found → members_ordered (told ts) found ≡ true
told_ordered [] ns before found named order covers = refl
told_ordered (t ∷ ts) [] before found named order covers = absurd named
told_ordered (None ∷ ts) (n ∷ ns) before found named order covers =
    let p = and_parts (after_all (name_text n) before) (in_order (before ++ n ∷ []) ns) order in
    told_ordered ts ns (before ++ n ∷ []) found named.1 p.1 (covers_less before n found covers)
told_ordered (Some t ∷ ts) (n ∷ ns) before found named order covers =
    let p = and_parts (after_all (name_text n) before) (in_order (before ++ n ∷ []) ns) order in
    let d = t.1 in
    let all : members_ordered (member (name_text n) d (told ts)) found ≡ true =
    and_from (comes_after (name_text n) found) (ordered d && members_ordered (told ts) (and_then found (member (name_text n) d no_members))) (covers (name_text n) p.0)
    (and_from (ordered d) (members_ordered (told ts) (and_then found (member (name_text n) d no_members))) named.0.1.0
    (told_ordered ts ns (before ++ n ∷ []) (and_then found (member (name_text n) d no_members)) named.1 p.1 (covers_more before n d found covers))) in
    ap (λ (k : Name). members_ordered (member (name_text k) d (told ts)) found) named.0.0 ∙ all

told_shallow : (ts : List Told) (ns : List Name) → AreTold ts ns → members_depth (told ts) ≤ 2
told_shallow [] ns named = omega arith
told_shallow (t ∷ ts) [] named = absurd named
told_shallow (None ∷ ts) (n ∷ ns) named = told_shallow ts ns named.1
told_shallow (Some t ∷ ts) (n ∷ ns) named = omega (arith, named.0.1.1, told_shallow ts ns named.1)

pub sentence_told : (n : Name) (text : List ℕ) → IsTold (Some (n, string text)) n
sentence_told n text = (refl, (refl, omega arith))

pub read_told : (ts : List Told) (ns : List Name) → AreTold ts ns → in_order [] ns ≡ true → IsReadBack (look_value ts)
read_told ts ns named order = λ fit.
    let names = told_ordered ts ns [] no_members named order (λ k h. refl) in
    reads_back (look_value ts) fit (ap (λ (b : Bool). b && true) names) (omega (arith, told_shallow ts ns named))

-- ---- the members

count_named : (n : Name) (number : Option ℕ) → IsNamed (maybe_count n number) n
count_named n None = tt
count_named n (Some number) = refl

cause_named : (n : Name) (cause : Option Cause) → IsNamed (maybe_cause n cause) n
cause_named n None = tt
cause_named n (Some cause) = refl

receipt_named : (receipt : Option (List ℕ)) → IsNamed (maybe_receipt receipt) name.Receipt
receipt_named None = tt
receipt_named (Some receipt) = refl

valued : (n : Name) (v : Option Value) → IsNamed (option_map (λ (w : Value). record { name = n; value = w }) v) n
valued n None = tt
valued n (Some v) = refl

card_named : (card : Option Card) → IsNamed (maybe_card card) name.Card
card_named card = valued name.Card (option_and_then (λ (c : Card). card_value c.card_type c.name) card)

numbered : (number : Option (List ℕ)) → IsNamed (option_map (λ (n : List ℕ). record { name = name.CardNumber; value = value.CardNumber n }) number) name.CardNumber
numbered None = tt
numbered (Some number) = refl

card_number_named : (card : Option Card) → IsNamed (maybe_card_number card) name.CardNumber
card_number_named card = numbered (card_number card)

currency_named : (currency : Option ℕ) → IsNamed (maybe_currency currency) name.Currency
currency_named None = tt
currency_named (Some currency) = refl

terminal_named : (terminal : Option (List ℕ)) → IsNamed (maybe_terminal terminal) name.Terminal
terminal_named None = tt
terminal_named (Some id) = refl

order_named : (n : Name) (place : Option ℕ) → IsNamed (order_member n place) n
order_named n None = tt
order_named n (Some place) = refl

true_named : (n : Name) (holds : Bool) → IsNamed (true_if n holds) n
true_named n false = tt
true_named n true = refl

code_by : (found : Option ℕ) → IsNamed (option_map (λ (c : ℕ). record { name = name.Code; value = value.Byte c }) found) name.Code
code_by None = tt
code_by (Some c) = refl

code_named : (o : Outcome) → IsNamed (code o) name.Code
code_named o = code_by (code_of o)

words_for : (c : ℕ) (meaning : Option (List ℕ)) → IsNamed (option_map (λ (said : List ℕ). record { name = name.Words; value = value.Word (word.Meaning c) }) meaning) name.Words
words_for c None = tt
words_for c (Some meaning) = refl

words_by : (found : Option ℕ)
    → IsNamed (option_and_then (λ (c : ℕ). option_map (λ (said : List ℕ). record { name = name.Words; value = value.Word (word.Meaning c) }) (meaning_of c)) found) name.Words
words_by None = tt
words_by (Some c) = words_for c (meaning_of c)

words_named : (o : Outcome) → IsNamed (words o) name.Words
words_named o = words_by (code_of o)

command_by : (high low : ℕ) (found : Option (List ℕ)) → IsNamed (option_map (λ (n : List ℕ). record { name = name.Name; value = value.Word (word.Command high low) }) found) name.Name
command_by high low None = tt
command_by high low (Some n) = refl

command_named : (message : OrderMessage) → IsNamed (command message) name.Name
command_named message = command_by message.high message.low (order_name message.high message.low)

book_named : (closing : Option Closing) → IsNamed (book_member closing) name.Book
book_named None = tt
book_named (Some c) = refl

differs_by : (booked : ℕ) (covered : Option ℕ) → IsNamed (difference_member booked covered) name.Differs
differs_by booked None = tt
differs_by booked (Some covered) = differs_if (covered == booked)
  where
    differs_if : (same : Bool) → IsNamed (cond same None (Some (record { name = name.Differs; value = value.Difference covered booked }))) name.Differs
    differs_if true = tt
    differs_if false = refl

differs_named : (closing : Option Closing) → IsNamed (differs_member closing) name.Differs
differs_named None = tt
differs_named (Some c) = differs_by c.booked c.covered

explained_by : (e : Explained) → IsNamed (orders_of e) name.ExplainedBy
explained_by explained.Nothing = tt
explained_by explained.Empty = tt
explained_by (explained.One a) = refl
explained_by (explained.Two a b) = refl
explained_by (explained.Three a b c) = refl
explained_by explained.Several = tt

explained_named : (closing : Option Closing) → IsNamed (explained_member closing) name.ExplainedBy
explained_named None = tt
explained_named (Some c) = explained_by c.explained

groups_by : (totals : Option CardTotals) → IsNamed (groups_of totals) name.Groups
groups_by None = tt
groups_by (Some t) = refl

groups_named : (closing : Option Closing) → IsNamed (groups_member closing) name.Groups
groups_named None = tt
groups_named (Some c) = groups_by c.totals

receipts_by : (totals : Option CardTotals) → IsNamed (receipts_of totals) name.Receipts
receipts_by None = tt
receipts_by (Some t) = refl

receipts_named : (closing : Option Closing) → IsNamed (receipts_member closing) name.Receipts
receipts_named None = tt
receipts_named (Some c) = receipts_by c.totals

stated_named : (closing : Option Closing) → IsNamed (stated_member closing) name.Stated
stated_named None = tt
stated_named (Some c) = count_named name.Stated c.stated

time_named : (time : Option Moment) → IsNamed (maybe_time time) name.Time
time_named None = tt
time_named (Some time) = refl

from_named : (span : Option (Moment × Moment)) → IsNamed (from_member span) name.TimeFrom
from_named None = tt
from_named (Some between) = refl

to_named : (span : Option (Moment × Moment)) → IsNamed (to_member span) name.TimeTo
to_named None = tt
to_named (Some between) = refl

back_named : (line : Option ℕ) → IsNamed (back_member line) name.TimesBack
back_named None = tt
back_named (Some line) = refl

bad_named : (bad : ℕ) (first : Option ℕ) → IsNamed (bad_member bad first) name.TimesBad
bad_named bad None = tt
bad_named bad (Some line) = refl

-- ---- the objects

abbrev names_of_summary : List Name
names_of_summary = name.Bad ∷ name.Booked ∷ name.Currency ∷ name.Looks ∷ name.Messages ∷ name.Net ∷ name.Others ∷ name.ReversalsUnclear ∷ name.Reversed ∷ name.Terminal ∷ name.TimeFrom ∷ name.TimeTo ∷ name.TimesBack ∷ name.TimesBad ∷ name.Total ∷ name.Unclear ∷ name.UnclearAmount ∷ []

abbrev names_of_look : List Name
names_of_look = name.Advice ∷ name.Again ∷ name.Case ∷ name.Cause ∷ name.ConfirmedBy ∷ name.Lines ∷ name.Order ∷ name.Payment ∷ name.Text ∷ name.Time ∷ name.Title ∷ name.Weight ∷ []

abbrev names_of_payment : List Name
names_of_payment = name.Amount ∷ name.Approved ∷ name.Card ∷ name.CardNumber ∷ name.Cause ∷ name.Code ∷ name.Lines ∷ name.Order ∷ name.Outcome ∷ name.Payment ∷ name.Receipt ∷ name.ReversalUnclear ∷ name.ReversedBy ∷ name.TakenBack ∷ name.Time ∷ name.Trace ∷ name.Words ∷ []

abbrev names_of_reversal : List Name
names_of_reversal = name.Amount ∷ name.Cause ∷ name.Code ∷ name.Lines ∷ name.Order ∷ name.Outcome ∷ name.Payment ∷ name.Receipt ∷ name.Time ∷ name.Words ∷ []

abbrev names_of_other : List Name
names_of_other = name.Amount ∷ name.Cause ∷ name.Code ∷ name.Control ∷ name.Lines ∷ name.Name ∷ name.Order ∷ name.Outcome ∷ name.Time ∷ name.Words ∷ []

abbrev names_of_close : List Name
names_of_close = name.Book ∷ name.Cause ∷ name.Code ∷ name.Differs ∷ name.ExplainedBy ∷ name.Groups ∷ name.Lines ∷ name.Order ∷ name.Outcome ∷ name.Receipts ∷ name.Stated ∷ name.Time ∷ name.Words ∷ []

abbrev names_of_order : List Name
names_of_order = name.Cause ∷ name.Code ∷ name.Control ∷ name.Lines ∷ name.Name ∷ name.Order ∷ name.Outcome ∷ name.Time ∷ name.Words ∷ []

look_read : (decimals : Decimals) (facts : Facts) (rows : List OrderRow) (look : Look) → IsReadBack (look_value (look_told decimals facts rows look))
look_read decimals facts rows look =
    read_told (look_told decimals facts rows look) names_of_look
    (sentence_told name.Advice (advice decimals facts look.case), (told_of (order_member name.Again look.again) name.Again (order_named name.Again look.again), (told_of (said_as name.Case (value.Word (word.Case look.case))) name.Case refl, (told_of (maybe_cause name.Cause (cause_of facts.row.outcome)) name.Cause (cause_named name.Cause (cause_of facts.row.outcome)), (told_of (order_member name.ConfirmedBy look.confirmed_by) name.ConfirmedBy (order_named name.ConfirmedBy look.confirmed_by), (told_of (lines facts.row) name.Lines refl, (told_of (count name.Order (look.order + 1)) name.Order refl, (told_of (maybe_count name.Payment (payment_at look.order rows facts.row.order)) name.Payment (count_named name.Payment (payment_at look.order rows facts.row.order)), (sentence_told name.Text (account decimals facts look.case), (told_of (maybe_time facts.row.time) name.Time (time_named facts.row.time), (sentence_told name.Title (title decimals facts look.case), (told_of (weight_member look) name.Weight refl, tt)))))))))))) refl

pub objects_read_back : ObjectsReadBack
objects_read_back = (
  (λ tally currency terminal times books messages looks findings. read_named object_of.Summary (summary_members tally currency terminal times books messages looks findings) names_of_summary (refl, (refl, (currency_named currency, (refl, (refl, (refl, (refl, (refl, (refl, (terminal_named terminal, (from_named times.span, (to_named times.span, (back_named times.went_back, (bad_named times.bad times.first_bad, (refl, (refl, (refl, tt))))))))))))))))) refl),
  (λ decimals facts rows look. look_read decimals facts rows look),
  (λ books place row amount. read_named object_of.Payment (payment_members books place row amount) names_of_payment (refl, (count_named name.Approved _, (card_named row.card, (card_number_named row.card, (cause_named name.Cause _, (code_named row.outcome, (refl, (refl, (refl, (count_named name.Payment _, (receipt_named _, (cause_named name.ReversalUnclear _, (count_named name.ReversedBy _, (true_named name.TakenBack _, (time_named row.time, (count_named name.Trace _, (words_named row.outcome, tt))))))))))))))))) refl),
  (λ books place row message. read_named object_of.Reversal (reversal_members books place row message) names_of_reversal (count_named name.Amount _, (cause_named name.Cause _, (code_named row.outcome, (refl, (refl, (refl, (count_named name.Payment _, (receipt_named message.receipt, (time_named row.time, (words_named row.outcome, tt)))))))))) refl),
  (λ place row message. read_named object_of.Other (other_members place row message) names_of_other (count_named name.Amount _, (cause_named name.Cause _, (code_named row.outcome, (refl, (refl, (command_named message, (refl, (refl, (time_named row.time, (words_named row.outcome, tt)))))))))) refl),
  (λ closing place row. read_named object_of.Close (close_members closing place row) names_of_close (book_named closing, (cause_named name.Cause _, (code_named row.outcome, (differs_named closing, (explained_named closing, (groups_named closing, (refl, (refl, (refl, (receipts_named closing, (stated_named closing, (time_named row.time, (words_named row.outcome, tt))))))))))))) refl),
  (λ place row message. read_named object_of.Order (plain_members place row message) names_of_order (cause_named name.Cause _, (code_named row.outcome, (refl, (refl, (command_named message, (refl, (refl, (time_named row.time, (words_named row.outcome, tt))))))))) refl),
)
