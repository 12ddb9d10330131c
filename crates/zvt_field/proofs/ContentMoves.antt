-- The steps of the reader of a content that is bytes.
use Rattle.std.proofs.Common.{◌≡◌, ℕ, ◌+◌, ◌-◌, ◌<◌, ◌≤◌, min, not, if◌then◌else◌, nat_lt, Bool, true, false, cond, Option, Some, None, List, [], ◌∷◌, ◌++◌, length, take, drop, get_or, refl, sym, ◌∙◌, ap, subst, arith, length-drop, suc, zero}
use Rattle.std.specs.List.{position, position_or_len}
use Rattle.std.proofs.lemmas.List.{append-nil, length-take, length-take-le, take-append-drop, take_all, get_or-take, get_or-drop}
use Rattle.std.proofs.lemmas.List.Sums.{fails_before_first, passes_at_first}
use Rattle.std.proofs.lemmas.List.Elements.{All-from_get_or}
use Rattle.std.proofs.lemmas.Bool.{ltb-true, ltb-false, not-true}
use Rattle.zvt_bcd.specs.Digits.{AreDigits, IsDigitPair, is_digit_pair}
use Rattle.zvt_bcd.proofs.PairTests.{is_pair}
use Rattle.zvt_grammar.specs.declared.why.Why.TheVariants.{NotDigit}
use Rattle.zvt_grammar.specs.Reading.{Reading, AreBytes}
use Rattle.zvt_grammar.specs.Beginnings.{NoneWhole}
use Rattle.zvt_grammar.specs.Tests.{check}
use Rattle.zvt_tlv.proofs.Alive.{bytes_prefix}
use Rattle.zvt_tlv.proofs.Levels.{take_from, are_bytes}
use Rattle.zvt_field.specs.Shapes.{shape_of}
use Rattle.zvt_field.specs.Grammar.{plain, IsHead, IsContent, FieldOf}
use Rattle.zvt_field.specs.Judging.{AliveIn, PlaceIn, WhyIn, in_content}
use Rattle.zvt_field.specs.declared.reader.Head.{Head}
use Rattle.zvt_field.specs.Answers.{HeadFound, FieldFound}
use Rattle.zvt_field.proofs.Fit.{Content, alive_content, content_alive}
use Rattle.zvt_field.proofs.HeadMoves.{failed}
use Rattle.zvt_field.proofs.NoneFound.{none_in, none_before, least_head}

-- a byte that isn't two digits
abbrev pub is_bad : ℕ → Bool
is_bad byte = not (is_digit_pair byte)

-- where the first one stands, and what comes before it
record FirstBad (content : List ℕ) (at : ℕ) : Type 0 where
  pub present : at < length content
  pub fails : is_digit_pair (get_or content at 0) ≡ false
  pub before : (k : ℕ) → k < at → is_digit_pair (get_or content k 0) ≡ true

not_false : (b : Bool) → not b ≡ false → b ≡ true
not_false true e = refl
not_false false e = absurd (cc (e))

first_bad : (content : List ℕ) (at : ℕ) → position is_bad content ≡ Some at → FirstBad content at
first_bad content at e = by_test (nat_lt (position_or_len is_bad content) (length content)) refl e
  where
    by_test : (b : Bool) → nat_lt (position_or_len is_bad content) (length content) ≡ b → cond b (Some (position_or_len is_bad content)) None ≡ Some at → FirstBad content at
    by_test false t e = absurd (cc (e))
    by_test true t e =
        let same : position_or_len is_bad content ≡ at = cc (e) in
        let lt = ltb-true (position_or_len is_bad content) (length content) t in
        record {
          present = omega (arith, lt, same);
          fails = ap (λ (k : ℕ). is_digit_pair (get_or content k 0)) (sym same) ∙ not-true _ (passes_at_first is_bad content 0 lt);
          before = λ k below. not_false _ (fails_before_first is_bad content k 0 (omega (arith, same)));
        }

pairs : (content : List ℕ) → ((k : ℕ) → k < length content → is_digit_pair (get_or content k 0) ≡ true) → AreDigits content
pairs content each = All-from_get_or IsDigitPair content 0 (λ k below. is_pair (get_or content k 0) (each k below))

none_bad : (content : List ℕ) → position is_bad content ≡ None → AreDigits content
none_bad content e = by_test (nat_lt (position_or_len is_bad content) (length content)) refl e
  where
    by_test : (b : Bool) → nat_lt (position_or_len is_bad content) (length content) ≡ b → cond b (Some (position_or_len is_bad content)) None ≡ None → AreDigits content
    by_test true t e = absurd (cc (e))
    by_test false t e =
        let ge = ltb-false (position_or_len is_bad content) (length content) t in
        pairs content (λ k below. not_false _ (fails_before_first is_bad content k 0 (omega (arith, ge))))

-- what is there of a content
abbrev pub inner : (start end : ℕ) → List ℕ → List ℕ
inner start end bytes = take (end - start) (drop start bytes)

-- where the reader stops in it
abbrev pub stop : (digits : Bool) → List ℕ → Option ℕ
stop digits content = if digits then position is_bad content else None

kind : (digits : Bool) (content : List ℕ) → stop digits content ≡ None → AreBytes content → IsContent digits content
kind true content none are = none_bad content none
kind false content none are = are

stopped : (digits : Bool) (content : List ℕ) (at : ℕ) → stop digits content ≡ Some at → (digits ≡ true) × (position is_bad content ≡ Some at)
stopped true content at e = (refl, e)
stopped false content at e = absurd (cc (e))

after : (k : ℕ) (bytes : List ℕ) → AreBytes bytes → AreBytes (drop k bytes)
after zero bytes are = are
after (suc k) [] are = are
after (suc k) (x ∷ bytes) are = after k bytes are.1

inner_bytes : (start end : ℕ) (bytes : List ℕ) → ((i : ℕ) → get_or bytes i 0 < 256) → AreBytes (inner start end bytes)
inner_bytes start end bytes are =
    let rest = drop start bytes in
    bytes_prefix (inner start end bytes) (drop (end - start) rest) (subst AreBytes (sym (take-append-drop (end - start) rest)) (after start bytes (are_bytes bytes are)))

begun : (r : Reading) (room : ℕ) (bytes : List ℕ) (head : Head) (h : HeadFound r room bytes head) → Content head.digits head.size (h.bmp ∷ h.size) [] room
begun r room bytes head h =
    let e : h.bmp ∷ h.size ≡ h.bmp ∷ (h.size ++ []) = ap (λ (s : List ℕ). h.bmp ∷ s) (sym (append-nil h.size)) in
    alive_content r h.bmp head.size head.digits h.size [] room h.is_head (omega arith) (subst (AliveIn r room) (h.whole ∙ e) h.alive)

start_size : (r : Reading) (room : ℕ) (bytes : List ℕ) (head : Head) (h : HeadFound r room bytes head) → head.start ≡ suc (length h.size)
start_size r room bytes head h = omega (arith, ap length h.whole, length-take-le head.start bytes h.present)

pub content_small : (r : Reading) (room : ℕ) (bytes : List ℕ) (head : Head) → HeadFound r room bytes head → head.start + head.size ≤ room
content_small r room bytes head h = omega (arith, (begun r room bytes head h).sized, start_size r room bytes head h)

-- the head and that many bytes
taken : (r : Reading) (room k : ℕ) (bytes : List ℕ) (head : Head) (h : HeadFound r room bytes head) → take (head.start + k) bytes ≡ h.bmp ∷ (h.size ++ take k (drop head.start bytes))
taken r room k bytes head h = take_from head.start k bytes ∙ ap (λ (s : List ℕ). s ++ take k (drop head.start bytes)) h.whole

-- alive with that many bytes of the content
alive_with : (r : Reading) (room k : ℕ) (bytes : List ℕ) (head : Head) (h : HeadFound r room bytes head) → k ≤ head.size → IsContent head.digits (take k (drop head.start bytes)) → AliveIn r room (take (head.start + k) bytes)
alive_with r room k bytes head h le is =
    let c = begun r room bytes head h in
    let part = take k (drop head.start bytes) in
    let short : length part ≤ head.size = omega (arith, length-take k (drop head.start bytes)) in
    subst (AliveIn r room) (sym (taken r room k bytes head h))
    (content_alive r h.bmp head.size head.digits h.size part room h.is_head short (record { over = c.over; sized = c.sized; apart = c.apart; is_content = is }))

inner_size : (start n end : ℕ) (bytes : List ℕ) → start ≤ length bytes → end ≡ min (start + n) (length bytes) → length (inner start end bytes) ≡ end - start
inner_size start n end bytes present e =
    let le : end - start ≤ length (drop start bytes) = omega (arith, length-drop start bytes, e) in length-take-le (end - start) (drop start bytes) le

pub content_refused : (r : Reading) (room end at : ℕ) (bytes : List ℕ) (head : Head) (h : HeadFound r room bytes head) → end ≡ min (head.start + head.size) (length bytes) →
    stop head.digits (inner head.start end bytes) ≡ Some at → ((i : ℕ) → get_or bytes i 0 < 256) →
    PlaceIn r room bytes (head.start + at) × WhyIn r room bytes (head.start + at) NotDigit × NoneWhole (FieldOf r) (take (head.start + at) bytes)
content_refused r room end at bytes head h e found are =
    let content = inner head.start end bytes in
    let (digits, found) = stopped head.digits content at found in
    let rest = drop head.start bytes in
    let f = first_bad content at found in
    let size = inner_size head.start head.size end bytes h.present e in
    let below : at < end - head.start = omega (arith, f.present, size) in
    let same = λ (k : ℕ) (lt : k < end - head.start). get_or-take (end - head.start) rest k 0 lt in
    let after' : at < length rest = omega (arith, e, length-drop head.start bytes, below) in
    let part = length-take-le at rest (omega arith) in
    let are_digits = pairs (take at rest)
    (λ k lt. let k' : k < at = omega (arith, lt, part) in ap is_digit_pair (get_or-take at rest k 0 k' ∙ sym (same k (omega arith))) ∙ f.before k k') in
    let alive = alive_with r room at bytes head h (omega (arith, e)) (subst (λ (d : Bool). IsContent d (take at rest)) (sym digits) are_digits) in
    let bad : is_digit_pair (get_or bytes (head.start + at) 0) ≡ false = ap is_digit_pair (sym (get_or-drop head.start bytes at 0) ∙ sym (same at below)) ∙ f.fails in
    let failed = failed r room (in_content true) bytes (head.start + at) NotDigit
    (h.bmp, h.size, take at rest, head.size, taken r room at bytes head h, subst (λ (d : Bool). IsHead (shape_of h.bmp) d head.size h.size) digits h.is_head, omega (arith, part, e, below))
    alive (omega (arith, content_small r room bytes head h, e, below)) (omega (arith, after', length-drop head.start bytes)) (are (head.start + at))
    (ap (λ (b : Bool). check b NotDigit None) bad) in
    (failed.0, failed.1, none_before r bytes (head.start + head.size) (head.start + at) (least_head r room bytes head h) (omega (arith, e, below)))

pub content_more : (r : Reading) (room end : ℕ) (bytes : List ℕ) (head : Head) (h : HeadFound r room bytes head) → end ≡ min (head.start + head.size) (length bytes) → stop head.digits (inner head.start end bytes) ≡ None →
    length (inner head.start end bytes) < head.size → ((i : ℕ) → get_or bytes i 0 < 256) → (length bytes < room) × AliveIn r room bytes × NoneWhole (FieldOf r) bytes
content_more r room end bytes head h e tested few are =
    let content = inner head.start end bytes in
    let rest = drop head.start bytes in
    let size = inner_size head.start head.size end bytes h.present e in
    let short : length bytes < head.start + head.size = omega (arith, few, size, e) in
    let all : end - head.start ≡ length bytes - head.start = omega (arith, e) in
    let whole : head.start + (end - head.start) ≡ length bytes = omega (arith, e, h.present) in (
      omega (arith, content_small r room bytes head h),
      subst (AliveIn r room) (ap (λ (k : ℕ). take k bytes) whole ∙ take_all (length bytes) bytes (omega arith))
          (alive_with r room (end - head.start) bytes head h (omega (arith, few, size)) (kind head.digits content tested (inner_bytes head.start end bytes are))),
      none_in r bytes (head.start + head.size) (least_head r room bytes head h) short,
    )

pub content_whole : (r : Reading) (room end : ℕ) (bytes : List ℕ) (head : Head) (h : HeadFound r room bytes head) → end ≡ min (head.start + head.size) (length bytes) → stop head.digits (inner head.start end bytes) ≡ None →
    head.size ≤ length (inner head.start end bytes) → ((i : ℕ) → get_or bytes i 0 < 256) → FieldFound r room bytes (plain (get_or bytes 0 0) (inner head.start end bytes)) end
content_whole r room end bytes head h e tested enough are =
    let content = inner head.start end bytes in
    let size = inner_size head.start head.size end bytes h.present e in
    let filled : end ≡ head.start + head.size = omega (arith, enough, size, e) in
    let reach : end ≡ head.start + (end - head.start) = omega (arith, filled) in
    let start = start_size r room bytes head h in
    let long : length content ≡ head.size = omega (arith, size, filled) in
    let c = begun r room bytes head h in
    let name : h.bmp ≡ get_or bytes 0 0 = sym (ap (λ (s : List ℕ). get_or s 0 0) h.whole) ∙ get_or-take head.start bytes 0 0 (omega (arith, start)) in
    record {
      present = omega (arith, e);
      spelled = record {
        digits = head.digits;
        size = h.size;
        whole = ap (λ (k : ℕ). take k bytes) reach ∙ taken r room (end - head.start) bytes head h ∙ ap (λ (b : ℕ). b ∷ (h.size ++ content)) name;
        is_head = subst (λ (b : ℕ). IsHead (shape_of b) head.digits (length content) h.size) name (subst (λ (k : ℕ). IsHead (shape_of h.bmp) head.digits k h.size) (sym long) h.is_head);
        is_content = kind head.digits content tested (inner_bytes head.start end bytes are);
      };
      left = c.over;
      filled = omega (arith, c.sized, start, filled);
      apart = c.apart;
    }
