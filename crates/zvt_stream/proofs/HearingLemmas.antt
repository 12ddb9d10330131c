-- Hearings one after another, and bytes one after another.
use Rattle.std.proofs.Common.{◌≡◌, ℕ, Bool, true, false, ◌||◌, List, [], ◌∷◌, ◌++◌, Option, Some, None, refl, sym, ◌∙◌, ap, subst, append_assoc, append-nil}
use Rattle.std.specs.Io.KnownBytes.{Consumes, Appends}
use Rattle.std.proofs.lemmas.List.Folds.{list_any-append}
use Rattle.std.proofs.lemmas.Grind.{flat_map-append}
use Rattle.std.specs.Prelude.{nat_lt}
use Rattle.zvt_apdu.specs.Message.{Message}
use Rattle.zvt_stream.specs.LineReading.{LineReading, Reads}
use Rattle.zvt_stream.proofs.LineReadingLemmas.{spelled_more_by, spelled_append_by}
use Rattle.zvt_stream.specs.Answered.{Answered, bytes_of, any_sent}
use Rattle.zvt_stream.specs.Hearing.{Hears, Heard}

pub appends_none : (w : Option (List ℕ)) → Appends w w []
appends_none None = tt
appends_none (Some xs) = sym (append-nil xs)

pub consumes_none : (w : Option (List ℕ)) → Consumes w w []
consumes_none None = tt
consumes_none (Some xs) = refl

pub consumes_more : (a b c : Option (List ℕ)) (x y : List ℕ) → Consumes a b x → Consumes b c y → Consumes a c (x ++ y)
consumes_more None b c x y p q = tt
consumes_more (Some xs) None c x y p q = absurd p
consumes_more (Some xs) (Some ys) None x y p q = absurd q
consumes_more (Some xs) (Some ys) (Some zs) x y p q = p ∙ ap (λ s. x ++ s) q ∙ sym (append_assoc x y zs)

pub hears_append : {S : Type 0} (step : S → Message → Answered → S → Type 0) (old middle new : S) (ms ns : List Message) (xs ys : List Answered) → Hears step old ms xs middle → Hears step middle ns ys new → Hears step old (ms ++ ns) (xs ++ ys) new
hears_append {S} step old middle new [] ns [] ys h k = let P : S → Type 0 = λ s. Hears step s ns ys new in subst P (sym h) k
hears_append step old middle new (m ∷ ms) ns (x ∷ xs) ys h k = (h.0, h.1, hears_append step h.0 middle new ms ns xs ys h.2 k)
hears_append step old middle new [] ns (x ∷ xs) ys h k = absurd h
hears_append step old middle new (m ∷ ms) ns [] ys h k = absurd h

pub bytes_append : (xs ys : List Answered) → bytes_of (xs ++ ys) ≡ bytes_of xs ++ bytes_of ys
bytes_append xs ys = flat_map-append (λ a. a.bytes) xs ys

sent_append : (xs ys : List Answered) → any_sent (xs ++ ys) ≡ (any_sent xs || any_sent ys)
sent_append xs ys = list_any-append (λ a. nat_lt 0 a.count) xs ys

-- nothing heard yet
pub heard_none : {S : Type 0} (r : LineReading) (step : S → Message → Answered → S → Type 0) (bytes : List ℕ) (s : S) → Heard r step bytes s bytes s [] false
heard_none r step bytes s = record { messages = []; answers = []; spelled = refl; heard = refl; answered = refl; sending = refl }

-- more bytes are more rest
pub heard_longer : {S : Type 0} {r : LineReading} {step : S → Message → Answered → S → Type 0} {bytes rest w : List ℕ} {old new : S} {a : Bool} (more : List ℕ) → Heard r step bytes old rest new w a → Heard r step (bytes ++ more) old (rest ++ more) new w a
heard_longer {r = r} {bytes = bytes} {rest = rest} more h = record {
  messages = h.messages;
  answers = h.answers;
  spelled = spelled_more_by r h.messages bytes rest more h.spelled;
  heard = h.heard;
  answered = h.answered;
  sending = h.sending;
}

-- one hearing after another
pub heard_then : {S : Type 0} {r : LineReading} {step : S → Message → Answered → S → Type 0} {bytes rest rest' w w' : List ℕ} {old middle new : S} {a b : Bool} → Heard r step bytes old rest middle w a → Heard r step rest middle rest' new w' b → Heard r step bytes old rest' new (w ++ w') (a || b)
heard_then {r = r} {step = step} {bytes = bytes} {rest = rest} {rest' = rest'} {w = w} {w' = w'} {old = old} {middle = middle} {new = new} {a = a} {b = b} h k = record {
  messages = h.messages ++ k.messages;
  answers = h.answers ++ k.answers;
  spelled = spelled_append_by r h.messages k.messages bytes rest rest' h.spelled k.spelled;
  heard = hears_append step old middle new h.messages k.messages h.answers k.answers h.heard k.heard;
  answered = ap (λ z. z ++ w') h.answered ∙ ap (λ z. bytes_of h.answers ++ z) k.answered ∙ sym (bytes_append h.answers k.answers);
  sending = ap (λ z. z || b) h.sending ∙ ap (λ z. any_sent h.answers || z) k.sending ∙ sym (sent_append h.answers k.answers);
}

-- one message heard and answered
pub heard_one : {S : Type 0} (r : LineReading) (step : S → Message → Answered → S → Type 0) (prefix later : List ℕ) (old new : S) (m : Message) (x : Answered) → Reads r m prefix → step old m x new → Heard r step (prefix ++ later) old later new x.bytes (nat_lt 0 x.count)
heard_one r step prefix later old new m x s h = record { messages = m ∷ []; answers = x ∷ []; spelled = (prefix, later, refl, s, refl); heard = (new, h, refl); answered = sym (append-nil x.bytes); sending = or_false (nat_lt 0 x.count) }
  where
    or_false : (b : Bool) → b ≡ (b || false)
    or_false true = refl
    or_false false = refl
