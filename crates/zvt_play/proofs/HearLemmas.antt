-- What has come of what a line demands.
use Rattle.std.proofs.Common.{◌≡◌, ◌⊎◌, ℕ, ◌+◌, ◌<◌, ◌≤◌, List, [], ◌∷◌, ◌++◌, Bor, MatchOption, Option, Some, None, inl, inr, length, refl, sym, ◌∙◌, ap, subst, arith, append_assoc, append-nil, length-append}
use Rattle.std.specs.List.{concat}
use Rattle.std.proofs.lemmas.List.Elements.{All-append, All-cons, All-nil}
use Rattle.zvt_io.specs.Devices.{IsPrefix}
use Rattle.zvt_stream.specs.LineReading.{LineReading}
use Rattle.zvt_stream.specs.StreamState.{StreamState}
use Rattle.zvt_stream.proofs.HearingLemmas.{consumes_more, consumes_none}
use Rattle.zvt_play.specs.Playing.{Agrees, AreApart, ComesOtherwise, Differs, Hears, HearsPart, IsMessage, Leaves, LeavesOrNot, Meets, NextMessage, NoMessage}
use Rattle.zvt_play.specs.declared.difference.Difference.{Difference}
use Rattle.zvt_play.specs.declared.difference.Difference.TheVariants.{Closed, Malformed, Other, Read, Surplus, Write}

pub none_heard : (r : LineReading) (demanded unheard : List ℕ) (coming : Option (List ℕ)) → HearsPart r demanded unheard coming unheard coming demanded
none_heard r demanded unheard coming = record {
  messages = [];
  read = [];
  each = All-nil (IsMessage r);
  agrees = refl;
  consumed = consumes_none coming;
  cut = append-nil unheard;
}

-- one more message
agrees_more : (demanded : List ℕ) (messages : List (List ℕ)) (wanted message left : List ℕ) → Agrees demanded messages wanted → wanted ≡ message ++ left → 0 < length left → Agrees demanded (messages ++ message ∷ []) left
agrees_more demanded [] wanted message left a e some = (left, a ∙ e, some, refl)
agrees_more demanded (first ∷ later) wanted message left a e some = (a.0, a.1, a.2, agrees_more a.0 later wanted message left a.3 e some)

meets_last : (demanded : List ℕ) (messages : List (List ℕ)) (wanted message : List ℕ) → Agrees demanded messages wanted → IsPrefix wanted message → Meets demanded (messages ++ message ∷ [])
meets_last demanded [] wanted message a p = subst (λ (d : List ℕ). IsPrefix d message) (sym a) p
meets_last demanded (first ∷ []) wanted message a p = (a.0, a.1, a.2, meets_last a.0 [] wanted message a.3 p)
meets_last demanded (first ∷ second ∷ later) wanted message a p = (a.0, a.1, a.2, meets_last a.0 (second ∷ later) wanted message a.3 p)

concat_more : (messages : List (List ℕ)) (message : List ℕ) → concat (messages ++ message ∷ []) ≡ concat messages ++ message
concat_more [] message = append-nil message
concat_more (first ∷ later) message = ap (λ (b : List ℕ). first ++ b) (concat_more later message) ∙ sym (append_assoc first (concat later) message)

cut_more : (unheard read more : List ℕ) (messages : List (List ℕ)) (rest message after : List ℕ) → unheard ++ read ≡ concat messages ++ rest → rest ++ more ≡ message ++ after → unheard ++ (read ++ more) ≡ concat (messages ++ message ∷ []) ++ after
cut_more unheard read more messages rest message after e f =
    sym (append_assoc unheard read more) ∙ ap (λ (b : List ℕ). b ++ more) e ∙ append_assoc (concat messages) rest more ∙ ap (λ (b : List ℕ). concat messages ++ b) f
    ∙ sym (append_assoc (concat messages) message after) ∙ ap (λ (b : List ℕ). b ++ after) (sym (concat_more messages message))

pub hears_more : (r : LineReading) (demanded unheard : List ℕ) (coming : Option (List ℕ)) (rest : List ℕ) (between : Option (List ℕ)) (wanted after : List ℕ) (left : Option (List ℕ)) (stream : StreamState) (more : List ℕ)
    → HearsPart r demanded unheard coming rest between wanted → (next : NextMessage r rest between after left stream) → wanted ≡ next.bytes ++ more → 0 < length more → HearsPart r demanded unheard coming after left more
hears_more r demanded unheard coming rest between wanted after left stream more part next e some = record {
  messages = part.messages ++ next.bytes ∷ [];
  read = part.read ++ next.read;
  each = All-append (IsMessage r) part.messages (next.bytes ∷ []) part.each (All-cons (IsMessage r) next.bytes [] (next.message, next.spells) (All-nil (IsMessage r)));
  agrees = agrees_more demanded part.messages wanted next.bytes more part.agrees e some;
  consumed = consumes_more coming between left part.read next.read part.consumed next.consumed;
  cut = cut_more unheard part.read next.read part.messages rest next.bytes after part.cut next.cut;
}

pub hears_all : (r : LineReading) (demanded unheard : List ℕ) (coming : Option (List ℕ)) (rest : List ℕ) (between : Option (List ℕ)) (wanted after : List ℕ) (left : Option (List ℕ)) (stream : StreamState)
    → HearsPart r demanded unheard coming rest between wanted → (next : NextMessage r rest between after left stream) → IsPrefix wanted next.bytes → Hears r demanded unheard coming after left stream.lent
hears_all r demanded unheard coming rest between wanted after left stream part next p = record {
  messages = part.messages ++ next.bytes ∷ [];
  read = part.read ++ next.read;
  each = All-append (IsMessage r) part.messages (next.bytes ∷ []) part.each (All-cons (IsMessage r) next.bytes [] (next.message, next.spells) (All-nil (IsMessage r)));
  meets = meets_last demanded part.messages wanted next.bytes part.agrees p;
  last = record { before = part.messages; bytes = next.bytes; message = next.message; cut = refl; spells = next.spells; lends = next.lent };
  consumed = consumes_more coming between left part.read next.read part.consumed next.consumed;
  cut = cut_more unheard part.read next.read part.messages rest next.bytes after part.cut next.cut;
}

-- how many bytes are wanted of those that are demanded
pub wanted_few : (demanded : List ℕ) (messages : List (List ℕ)) (wanted : List ℕ) → Agrees demanded messages wanted → length wanted ≤ length demanded
wanted_few demanded [] wanted a = omega (arith, ap length a)
wanted_few demanded (first ∷ later) wanted a = omega (arith, wanted_few a.0 later wanted a.3, ap length a.1, length-append first a.0)

pub no_message : (r : LineReading) (why : Difference) (demanded unheard : List ℕ) (coming : Option (List ℕ)) (rest : List ℕ) (between : Option (List ℕ)) (wanted : List ℕ) (left : Option (List ℕ)) (stream : StreamState)
    → HearsPart r demanded unheard coming rest between wanted → NoMessage r why rest between left → Differs r why demanded unheard coming left stream
no_message r why demanded unheard coming rest between wanted left stream part none = record { wanted = wanted; rest = rest; between = between; part = part; last = as_it_is why none }
  where
    as_it_is : (why : Difference) → NoMessage r why rest between left → ComesOtherwise r why demanded wanted rest between left stream
    as_it_is (Closed have) n = n
    as_it_is (Malformed place why) n = n
    as_it_is Read n = n
    as_it_is (Other at) n = absurd n.none
    as_it_is (Surplus count) n = absurd n.none
    as_it_is Write n = absurd n.none

pub another : (r : LineReading) (at : ℕ) (demanded unheard : List ℕ) (coming : Option (List ℕ)) (rest : List ℕ) (between : Option (List ℕ)) (wanted after : List ℕ) (left : Option (List ℕ)) (stream : StreamState)
    → HearsPart r demanded unheard coming rest between wanted → (next : NextMessage r rest between after left stream) → AreApart wanted next.bytes → at + length wanted ≡ length demanded → Differs r (Other at) demanded unheard coming left stream
another r at demanded unheard coming rest between wanted after left stream part next apart is = record { wanted = wanted; rest = rest; between = between; part = part; last = (after, next, apart, is) }

-- ---- a message and the bytes that are wanted

some_left : (demanded message left : List ℕ) → ((rest : List ℕ) → message ≡ demanded ++ rest → ⊥) → demanded ≡ message ++ left → 0 < length left
some_left demanded message [] never e = absurd (never [] (sym (e ∙ append-nil message) ∙ sym (append-nil demanded)))
some_left demanded message (byte ∷ left) never e = omega arith

pub leaves_or_apart : (demanded message : List ℕ) (r : Option (Bor (List ℕ))) → ((rest : List ℕ) → message ≡ demanded ++ rest → ⊥) → MatchOption r ((rest : List ℕ) → demanded ≡ message ++ rest → ⊥) (λ x. demanded ≡ message ++ x.now)
    → LeavesOrNot demanded message r
leaves_or_apart demanded message None never other = (λ p. never p.0 p.1, λ p. other p.0 p.1)
leaves_or_apart demanded message (Some left) never e = inr (some_left demanded message left.now never e, e)

pub is_prefix : (demanded message left : List ℕ) → Leaves demanded message left → length left ≡ 0 → IsPrefix demanded message
is_prefix demanded message left (inl whole) none = whole.1
is_prefix demanded message left (inr part) none = absurd (omega (arith, part.0))

pub is_part : (demanded message left : List ℕ) → Leaves demanded message left → 0 < length left → demanded ≡ message ++ left
is_part demanded message left (inl whole) some = absurd (omega (arith, ap length whole.0))
is_part demanded message left (inr part) some = part.1

-- ---- a message that goes on

leaves_all : (demanded : List ℕ) → Leaves demanded [] demanded
leaves_all [] = inl (refl, ([], refl))
leaves_all (byte ∷ demanded) = inr (omega arith, refl)

pub none_yet : (demanded held : List ℕ) → held ≡ [] → Leaves demanded held demanded
none_yet demanded held none = subst (λ (h : List ℕ). Leaves demanded h demanded) (sym none) (leaves_all demanded)

cancel : (first a b : List ℕ) → first ++ a ≡ first ++ b → a ≡ b
cancel [] a b e = e
cancel (byte ∷ first) a b e = cancel first a b cc

-- of two beginnings of the same bytes one begins the other
one_begins : (a b x y : List ℕ) → a ++ x ≡ b ++ y → IsPrefix a b ⊎ IsPrefix b a
one_begins [] b x y e = inl (b, refl)
one_begins (first ∷ a) [] x y e = inr (first ∷ a, refl)
one_begins (first ∷ a) (second ∷ b) x y e = both (one_begins a b x y cc) cc
  where
    both : IsPrefix a b ⊎ IsPrefix b a → first ≡ second → IsPrefix (first ∷ a) (second ∷ b) ⊎ IsPrefix (second ∷ b) (first ∷ a)
    both (inl p) same = inl (p.0, ap (λ (l : List ℕ). second ∷ l) p.1 ∙ ap (λ (h : ℕ). h ∷ a ++ p.0) (sym same))
    both (inr p) same = inr (p.0, ap (λ (l : List ℕ). first ∷ l) p.1 ∙ ap (λ (h : ℕ). h ∷ b ++ p.0) same)

-- a message that does not agree with the demanded bytes does not, however it goes on
pub stays_apart : (demanded message more : List ℕ) → AreApart demanded message → AreApart demanded (message ++ more)
stays_apart demanded message more apart = (λ p. never (one_begins message demanded more p.0 p.1), λ p. apart.1 (more ++ p.0, p.1 ∙ append_assoc message more p.0))
  where
    never : IsPrefix message demanded ⊎ IsPrefix demanded message → ⊥
    never (inl p) = apart.1 p
    never (inr p) = apart.0 p

-- what is left of what was left
leaves_more : (demanded message left piece after : List ℕ) → Leaves demanded message left → Leaves left piece after → Leaves demanded (message ++ piece) after
leaves_more demanded message left piece after (inl whole) (inl none) = inl (none.0, (whole.1.0 ++ piece, ap (λ (l : List ℕ). l ++ piece) whole.1.1 ∙ append_assoc demanded whole.1.0 piece))
leaves_more demanded message left piece after (inl whole) (inr some) = absurd (omega (arith, some.0, ap length whole.0, ap length some.1, length-append piece after))
leaves_more demanded message left piece after (inr part) (inl none) = inl (none.0, (none.1.0, ap (λ (l : List ℕ). message ++ l) none.1.1 ∙ sym (append_assoc message left none.1.0) ∙ ap (λ (l : List ℕ). l ++ none.1.0) (sym part.1)))
leaves_more demanded message left piece after (inr part) (inr some) = inr (some.0, part.1 ∙ ap (λ (l : List ℕ). message ++ l) some.1 ∙ sym (append_assoc message piece after))

apart_more : (demanded message left piece : List ℕ) → Leaves demanded message left → AreApart left piece → AreApart demanded (message ++ piece)
apart_more demanded message left piece (inl whole) apart = absurd (apart.0 (piece, ap (λ (l : List ℕ). l ++ piece) (sym whole.0)))
apart_more demanded message left piece (inr part) apart = (
  λ p. apart.0 (p.0, cancel message piece (left ++ p.0) (p.1 ∙ ap (λ (l : List ℕ). l ++ p.0) part.1 ∙ append_assoc message left p.0)),
  λ p. apart.1 (p.0, cancel message left (piece ++ p.0) (sym part.1 ∙ p.1 ∙ append_assoc message piece p.0)),
)

pub goes_on : (demanded message left piece : List ℕ) (after : Option (Bor (List ℕ))) → Leaves demanded message left → LeavesOrNot left piece after → LeavesOrNot demanded (message ++ piece) after
goes_on demanded message left piece None leaves apart = apart_more demanded message left piece leaves apart
goes_on demanded message left piece (Some after) leaves more = leaves_more demanded message left piece after.now leaves more
