-- The lines of records, and what they mean.
use Rattle.std.proofs.Common.{◌≡◌, ℕ, Bool, ◌<◌, ◌≤◌, List, [], ◌∷◌, ◌++◌, All, length, drop, true, false, map, nat_lt, Option, Some, option_map, refl, ap, sym, ◌∙◌, subst, arith, append_assoc, length-append}
use Rattle.std.specs.Prelude.{codes, decimal}
use Rattle.std.proofs.lemmas.List.{append-nil}
use Rattle.std.proofs.lemmas.List.Elements.{All-append, All-nil, All-cons, All-head, All-tail, All-weaker}
use Rattle.std.proofs.lemmas.List.Sums.{AllPass-from_list_all}
use borrow.Author.Tests.{ltb-true}
use Rattle.std.specs.Str.{bytes_eq}
use Rattle.std.specs.Str.Lines.{lines, strip_carriage_return}
use Rattle.hex.specs.Hex.{IsBytes, encode_upper}
use Rattle.zvt_till.specs.declared.orders.Order.{Order}
use Rattle.zvt_journal.specs.Text.{begins_marked, IsLine, IsRecord, recovered, text_of, whole}
use Rattle.zvt_journal.proofs.Lines.{itself_whole, recovered_then, recovered_whole}
use Rattle.zvt_journal.proofs.Meaning.{lines_are_recovered, record_if, recovered_is_lines}
use Rattle.zvt_kept.specs.Masking.{masked_ask}
use Rattle.zvt_kept.specs.Notes.{is_note}
use Rattle.zvt_journal.specs.Files.{rule_words}
use Rattle.zvt_kept.specs.Records.{Kept, ordered, asked, heard, lost, IsPiece, IsOrderRecord, IsHeardRecord, IsRecordOf, IsSpelledOrder, OpeningIsTaken, RecordsAreKept, RecordsAreTaken, RecordsAreWhole, ask_record, is_remark, kept_in, last_of, lost_record, meaning, meaning_behind, meanings, one_or_none, opening, named_by, noted_words, sent_lines, then_kept}
use Rattle.zvt_kept.proofs.Bytes.{encode_plain, piece_back}
use Rattle.zvt_kept.proofs.NoteLemmas.{note_plain}
use Rattle.zvt_kept.proofs.LineLemmas.{IsPlain, lines_append, lines_plain, plain_line}
use Rattle.zvt_kept.proofs.Numbers.{decimal_plain}
use Rattle.zvt_kept.specs.Checks.{are_right, check_of, check_sign, checked, is_right, last_record, right_after, then_line, is_sent}
use Rattle.zvt_kept.proofs.CheckLemmas.{and_true, bytes_if, check_plain, right_append, same_bytes, texts_append}
use Rattle.zvt_kept.proofs.OpeningLemmas.{opens}
use Rattle.zvt_kept.proofs.ReadLines.{kept_right, meanings_append, right_kept}
use Rattle.zvt_kept.proofs.WordLemmas.{ask_back, ask_reserved, both_plain, order_back, order_reserved, word_plain, words_plain}

-- a text is plain lines, and means this
record IsMade (kept : List Kept) (text : List ℕ) : Type 0 where
  pub line : List ℕ
  pub more : List (List ℕ)
  pub is : text ≡ text_of (line ∷ more)
  pub plain : All IsPlain (line ∷ more)
  pub unsent : is_sent line ≡ false
  pub means : meanings [] (line ∷ more) ≡ Some kept
  -- whatever record came before
  pub right : (record_before : List (List ℕ)) → right_after record_before (line ∷ more) ≡ true
  pub unmarked : begins_marked (drop 1 (text_of (line ∷ more))) ≡ false

-- ---- lines of bytes

abbrev sent_body : List ℕ → List ℕ
sent_body bytes = codes "> " ++ encode_upper bytes

abbrev heard_body : List ℕ → List ℕ
heard_body bytes = codes "< " ++ encode_upper bytes

abbrev order_body : Order → (note : List ℕ) → List ℕ
order_body order note = codes "# " ++ noted_words order note

abbrev ask_body : (note : List ℕ) → List ℕ
ask_body note = codes "# ask" ++ note

sent_text : (pieces : List (List ℕ)) → sent_lines pieces ≡ text_of (map sent_body pieces)
sent_text [] = refl
sent_text (bytes ∷ pieces) = append_assoc (sent_body bytes) (10 ∷ []) (sent_lines pieces) ∙ ap (λ (l : List ℕ). sent_body bytes ++ 10 ∷ l) (sent_text pieces)

first_text : (line : List ℕ) (pieces : List (List ℕ)) → (line ++ 10 ∷ []) ++ sent_lines pieces ≡ text_of (line ∷ map sent_body pieces)
first_text line pieces = append_assoc line (10 ∷ []) (sent_lines pieces) ∙ ap (λ (l : List ℕ). line ++ 10 ∷ l) (sent_text pieces)

sent_plain : (bytes : List ℕ) → IsPiece bytes → IsPlain (sent_body bytes)
sent_plain bytes piece = record { some = omega arith; plain = both_plain (codes "> ") (encode_upper bytes) (word_plain (codes "> ") refl) (encode_plain bytes piece.bytes) }

all_plain : (pieces : List (List ℕ)) → All IsPiece pieces → All IsPlain (map sent_body pieces)
all_plain [] all = All-nil IsPlain
all_plain (bytes ∷ pieces) all =
    All-cons IsPlain (sent_body bytes) (map sent_body pieces) (sent_plain bytes (All-head IsPiece bytes pieces all)) (all_plain pieces (All-tail IsPiece bytes pieces all))

sent_means : (bytes : List ℕ) → IsPiece bytes → meaning (sent_body bytes) ≡ Some []
sent_means bytes piece = ap (option_map (λ (b : List ℕ). [])) (piece_back bytes piece)

heard_means : (bytes : List ℕ) → IsPiece bytes → meaning (heard_body bytes) ≡ Some (heard bytes ∷ [])
heard_means bytes piece = ap (option_map (λ (b : List ℕ). heard b ∷ [])) (piece_back bytes piece)

sent_behind : (last bytes : List ℕ) → is_remark last ≡ false → IsPiece bytes → meaning_behind last (sent_body bytes) ≡ Some []
sent_behind last bytes plainly piece = rw plainly (sent_means bytes piece)

-- lines of bytes mean nothing behind a line that is no remark
all_mean : (last : List ℕ) (pieces : List (List ℕ)) → is_remark last ≡ false → All IsPiece pieces → meanings last (map sent_body pieces) ≡ Some []
all_mean last [] plainly all = refl
all_mean last (bytes ∷ pieces) plainly all = rw (sent_behind last bytes plainly (All-head IsPiece bytes pieces all), all_mean (sent_body bytes) pieces refl (All-tail IsPiece bytes pieces all)) refl

-- a line that is none of bytes means behind each other line what it means
unsent_behind : (last line : List ℕ) → is_sent line ≡ false → meaning_behind last line ≡ meaning line
unsent_behind last line unsent = rw unsent refl

pub any_last : (last other line : List ℕ) (more : List (List ℕ)) → is_sent line ≡ false → meanings last (line ∷ more) ≡ meanings other (line ∷ more)
any_last last other line more unsent = ap (λ m. then_kept m (meanings line more)) (unsent_behind last line unsent ∙ sym (unsent_behind other line unsent))

-- a line before lines of bytes means what it means
first_means : (line : List ℕ) (kept : List Kept) (pieces : List (List ℕ)) → is_sent line ≡ false → is_remark line ≡ false → meaning line ≡ Some kept → All IsPiece pieces → meanings [] (line ∷ map sent_body pieces) ≡ Some kept
first_means line kept pieces unsent plainly is all = rw (unsent_behind [] line unsent, is, all_mean line pieces plainly all) (ap (λ (l : List Kept). Some l) (append-nil kept))

one_piece : (bytes : List ℕ) → IsBytes bytes → All IsPiece (one_or_none bytes)
one_piece [] is = All-nil IsPiece
one_piece (byte ∷ bytes) is = All-cons IsPiece (byte ∷ bytes) [] (record { some = omega arith; bytes = is }) (All-nil IsPiece)

-- ---- records

-- the check of a record, without the end of its line
abbrev check_body : List ℕ → List ℕ
check_body text = check_sign ++ check_of text

check_line_plain : (text : List ℕ) → IsPlain (check_body text)
check_line_plain text = record { some = omega arith; plain = both_plain check_sign (check_of text) (word_plain check_sign refl) (check_plain text) }

-- lines of bytes go on with a record, and the check of all of it is right
sent_right : (begun pieces : List (List ℕ)) (body : List ℕ) → text_of (begun ++ map sent_body pieces) ≡ body → right_after begun (map sent_body pieces ++ check_body body ∷ []) ≡ true
sent_right begun [] body is =
    let own : check_of (text_of begun) ≡ check_of body = ap check_of (sym (ap text_of (append-nil begun)) ∙ is) in
    and_true (bytes_eq (check_of body) (check_of (text_of begun))) true (ap (bytes_eq (check_of body)) own ∙ same_bytes (check_of body)) refl
sent_right begun (bytes ∷ pieces) body is =
    sent_right (begun ++ sent_body bytes ∷ []) pieces body (ap text_of (append_assoc begun (sent_body bytes ∷ []) (map sent_body pieces)) ∙ is)

-- what a line begins, lines of bytes and their check
made_checked : (kept : List Kept) (line : List ℕ) (pieces : List (List ℕ)) (text : List ℕ) → IsPlain line → All IsPiece pieces → is_sent line ≡ false → is_remark line ≡ false → meaning line ≡ Some kept
    → ((before : List (List ℕ)) → is_right before line ≡ true) → ((before : List (List ℕ)) → then_line before line ≡ line ∷ [])
    → text ≡ checked (text_of (line ∷ map sent_body pieces)) → begins_marked (drop 1 (text_of (line ∷ map sent_body pieces ++ check_body (text_of (line ∷ map sent_body pieces)) ∷ []))) ≡ false
    → IsMade kept text
made_checked kept line pieces text plain all unsent plainly means unchecked begins is unmarked =
    let sent = map sent_body pieces in
    let body = text_of (line ∷ sent) in
    let end = check_body body ∷ [] in
    let ended : All IsPlain end = All-cons IsPlain (check_body body) [] (check_line_plain body) (All-nil IsPlain) in
    record {
      unmarked = unmarked;
      line = line;
      more = sent ++ end;
      is = is ∙ sym (texts_append (line ∷ sent) end);
      plain = All-append IsPlain (line ∷ sent) end (All-cons IsPlain line sent plain (all_plain pieces all)) ended;
      unsent = unsent;
      means = meanings_append [] (line ∷ sent) end ∙ rw (first_means line kept pieces unsent plainly means all) (ap (λ (l : List Kept). Some l) (append-nil kept));
      right = λ before. and_true (is_right before line) (right_after (then_line before line) (sent ++ end)) (unchecked before)
          (ap (λ (r : List (List ℕ)). right_after r (sent ++ end)) (begins before) ∙ sent_right (line ∷ []) pieces body refl);
    }

-- the line of an order is no remark
order_plainly : (order : Order) (note : List ℕ) → is_note note ≡ true → is_remark (order_body order note) ≡ false
order_plainly order note noted = rw (order_reserved order note noted) refl

order_means : (order : Order) (note : List ℕ) → IsSpelledOrder order → is_note note ≡ true → meaning (order_body order note) ≡ Some (ordered order note ∷ [])
order_means order note spelled noted = rw (order_reserved order note noted) (ap (λ (o : Option Kept). named_by o (noted_words order note)) (order_back order note spelled noted))

made_order : (order : Order) (note text : List ℕ) → IsOrderRecord order note text → IsMade (ordered order note ∷ []) text
made_order order note text is =
    let pieces = one_piece is.sent is.bytes in
    let line : IsPlain (order_body order note) = record { some = omega arith; plain = both_plain (codes "# ") (noted_words order note) (word_plain (codes "# ") refl) (words_plain order note is.spelled is.noted) } in
    made_checked (ordered order note ∷ []) (order_body order note) (one_or_none is.sent) text line pieces
    refl (order_plainly order note is.noted) (order_means order note is.spelled is.noted) (λ before. refl) (λ before. refl)
    (is.is ∙ ap checked (first_text (order_body order note) (one_or_none is.sent))) refl

-- nor is the line of an ask
ask_plainly : (note : List ℕ) → is_note note ≡ true → is_remark (ask_body note) ≡ false
ask_plainly note noted = rw (ask_reserved note noted) refl

ask_means : (note : List ℕ) → is_note note ≡ true → meaning (ask_body note) ≡ Some (asked note ∷ [])
ask_means note noted = rw (ask_reserved note noted) (ap (λ (o : Option Kept). named_by o (codes "ask" ++ note)) (ask_back note noted))

ask_piece : All IsPiece (masked_ask ∷ [])
ask_piece = one_piece masked_ask (bytes_if masked_ask (All-weaker (λ b. nat_lt b 256 ≡ true) (λ b. b < 256) (λ b is. ltb-true b 256 is) masked_ask (AllPass-from_list_all (λ b. nat_lt b 256) masked_ask refl)))

made_ask : (note text : List ℕ) → is_note note ≡ true → text ≡ ask_record note → IsMade (asked note ∷ []) text
made_ask note text noted is =
    let line : IsPlain (ask_body note) = record { some = omega arith; plain = both_plain (codes "# ask") note (word_plain (codes "# ask") refl) (note_plain note noted) } in
    made_checked (asked note ∷ []) (ask_body note) (masked_ask ∷ []) text line ask_piece
    refl (ask_plainly note noted) (ask_means note noted) (λ before. refl) (λ before. refl)
    (is ∙ ap checked (first_text (ask_body note) (masked_ask ∷ []))) refl

made_heard : (message text : List ℕ) → IsHeardRecord message text → IsMade (heard message ∷ []) text
made_heard message text is =
    let line : IsPlain (heard_body message) = record { some = omega arith; plain = both_plain (codes "< ") (encode_upper message) (word_plain (codes "< ") refl) (encode_plain message is.piece.bytes) } in
    made_checked (heard message ∷ []) (heard_body message) is.answers text line is.answer_pieces refl refl (heard_means message is.piece) (λ before. refl) (λ before. refl)
    (is.is ∙ ap checked (first_text (heard_body message) is.answers)) refl

made_lost : (text : List ℕ) → text ≡ lost_record → IsMade (lost ∷ []) text
made_lost text is =
    let line : IsPlain (codes "!") = record { some = omega arith; plain = word_plain (codes "!") refl } in
    made_checked (lost ∷ []) (codes "!") [] text line (All-nil IsPiece) refl refl refl (λ before. refl) (λ before. refl) is refl

made : (one : Kept) (text : List ℕ) → IsRecordOf one text → IsMade (one ∷ []) text
made (ordered order note) text is = made_order order note text is
made (asked note) text is = made_ask note text is.0 is.1
made (heard message) text is = made_heard message text is
made lost text is = made_lost text is

rule_plain : (by_receipt : Bool) → All (λ byte. 31 < byte) (rule_words by_receipt)
rule_plain false = word_plain [] refl
rule_plain true = word_plain (rule_words true) refl

opening_made : (currency : ℕ) (by_receipt : Bool) → currency ≤ 9999 → IsMade [] (opening currency by_receipt)
opening_made currency by_receipt fits =
    let words = codes "# zvt journal 1, currency " in
    let start = words ++ decimal currency in
    let plain = both_plain start (rule_words by_receipt) (both_plain words (decimal currency) (word_plain words refl) (decimal_plain currency (omega arith))) (rule_plain by_receipt) in
    record {
      unmarked = refl;
      line = start ++ rule_words by_receipt;
      more = [];
      is = refl;
      plain = All-cons IsPlain (start ++ rule_words by_receipt) [] (record { some = omega arith; plain = plain }) (All-nil IsPlain);
      unsent = refl;
      means = refl;
      right = λ before. refl;
    }

-- ---- laws

made_lines : (kept : List Kept) (text : List ℕ) (m : IsMade kept text) → lines text ≡ m.line ∷ m.more
made_lines kept text m = ap lines m.is ∙ lines_plain (m.line ∷ m.more) m.plain

made_behind : (last : List ℕ) (kept : List Kept) (text : List ℕ) → IsMade kept text → meanings last (lines text) ≡ Some kept
made_behind last kept text m = ap (meanings last) (made_lines kept text m) ∙ any_last last [] m.line m.more m.unsent ∙ m.means

made_kept : (kept : List Kept) (text : List ℕ) → IsMade kept text → kept_in text ≡ Some kept
made_kept kept text m = right_kept text (ap are_right (made_lines kept text m) ∙ m.right []) ∙ made_behind [] kept text m

pub whole_lines : (ls : List (List ℕ)) → All IsLine ls → whole 0 (text_of ls) ≡ length (text_of ls)
whole_lines ls all =
    let P : List ℕ → Type 0 = λ (l : List ℕ). whole 0 l ≡ length l in
    subst P (lines_are_recovered ls [] all) (recovered_whole (text_of ls ++ 10 ∷ []))

made_record : (kept : List Kept) (text : List ℕ) → IsMade kept text → IsRecord text
made_record kept text m =
    let lines = m.line ∷ m.more in
    let good = All-weaker IsPlain IsLine plain_line lines m.plain in
    let first = All-head IsPlain m.line m.more m.plain in
    let some : 0 < length (text_of lines) = omega (arith, first.some, length-append m.line (10 ∷ text_of m.more)) in
    let P : List ℕ → Type 0 = λ (l : List ℕ). IsRecord l in
    subst P (sym m.is) (record_if (text_of lines) some m.unmarked (whole_lines lines good))

-- the lines of a text that comes after whole lines come after those
pub lines_after : (text added : List ℕ) → recovered text ≡ text → lines (text ++ added) ≡ lines text ++ lines added
lines_after text added is =
    let parts = recovered_is_lines text in
    let same : text ≡ text_of parts.0 = sym (parts.2 ∙ is) in
    let own : lines text ≡ map strip_carriage_return parts.0 =
    ap lines (same ∙ sym (append-nil (text_of parts.0))) ∙ lines_append parts.0 [] parts.1 ∙ append-nil (map strip_carriage_return parts.0) in
    ap (λ (t : List ℕ). lines (t ++ added)) same ∙ lines_append parts.0 added parts.1 ∙ ap (λ (ls : List (List ℕ)). ls ++ lines added) (sym own)

pub records_are_kept : RecordsAreKept
records_are_kept text kept one added is means m =
    let was = kept_right text kept means in
    let this = made one added m in
    let new = made_lines (one ∷ []) added this in
    let later : right_after (last_record (lines text)) (lines added) ≡ true = ap (right_after (last_record (lines text))) new ∙ this.right (last_record (lines text)) in
    let right : are_right (lines text ++ lines added) ≡ true = right_append [] (lines text) (lines added) ∙ and_true (are_right (lines text)) (right_after (last_record (lines text)) (lines added)) was.0 later in
    right_kept (text ++ added) (ap are_right (lines_after text added is) ∙ right)
    ∙ ap (meanings []) (lines_after text added is) ∙ meanings_append [] (lines text) (lines added)
    ∙ rw (was.1, made_behind (last_of [] (lines text)) (one ∷ []) added this) refl

pub records_are_whole : RecordsAreWhole
records_are_whole text one added is m =
    recovered_then text added (itself_whole text is) ∙ ap (λ (l : List ℕ). text ++ l) (made_record (one ∷ []) added (made one added m)).lines

pub records_are_taken : RecordsAreTaken
records_are_taken one added m = made_record (one ∷ []) added (made one added m)

pub opening_is_taken : OpeningIsTaken
opening_is_taken currency by_receipt fits =
    let m = opening_made currency by_receipt fits in
    let text = opening currency by_receipt in
    (made_kept [] text m, made_record [] text m, opens currency by_receipt fits)
