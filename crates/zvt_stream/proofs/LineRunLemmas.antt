-- How far a piece has been heard.
use Rattle.std.proofs.Common.{length, ◌≡◌, ℕ, Bool, true, false, ◌||◌, List, [], ◌∷◌, ◌++◌, Option, Some, None, take, drop, refl, sym, ◌∙◌, ap, subst, append_assoc, append-nil}
use Rattle.std.specs.Prelude.{nat_lt}
use Rattle.std.specs.Io.KnownBytes.{Consumes, Appends, IsAtEnd, Keeps}
use Rattle.std.proofs.lemmas.List.{take-append-drop}
use Rattle.zvt_apdu.specs.Message.{Message}
use Rattle.zvt_stream.specs.LineReading.{IsRefusedBy, LineReading, NoneWholeBy, Reads, SpelledBy, UnfinishedBy}
use Rattle.zvt_stream.specs.declared.stream.Fed.TheVariants as fed
use Rattle.zvt_stream.specs.declared.line.LineFault.{LineFault}
use Rattle.zvt_stream.specs.declared.line.LineFault.TheVariants as faults
use Rattle.zvt_stream.specs.StreamState.{StreamState}
use Rattle.zvt_stream.specs.Feeds.{Feeds}
use Rattle.zvt_stream.specs.Answered.{Answered, bytes_of}
use Rattle.zvt_stream.specs.Hearing.{Hears, Heard}
use Rattle.zvt_stream.specs.LineRun.{Course, Breaks, Pumped, Broken}
use Rattle.zvt_stream.specs.Replies.{Replies, Unanswered}
use Rattle.zvt_io.proofs.KnownLemmas.{appends_more}
use Rattle.zvt_stream.proofs.HearingLemmas.{appends_none, consumes_none, consumes_more, heard_none, heard_longer, heard_then, heard_one, hears_append, bytes_append}
use Rattle.zvt_stream.proofs.LineReadingLemmas.{spelled_more_by, spelled_append_by}

-- Some messages of the piece were heard and answered, and the rest of it is still to be fed.
pub record Going {S : Type 0} (step : S → Message → Answered → S → Type 0) (before : StreamState) (piece : List ℕ) (after : StreamState) (rest : List ℕ) (old new : S) (first last : Option (List ℕ)) (sent : Bool) : Type 0 where
  pub written : List ℕ
  pub appended : Appends first last written
  pub heard : Heard before.reading step (before.held ++ piece) old (after.held ++ rest) new written sent
  pub same : after.stopped ≡ before.stopped
  pub reads_alike : after.reading ≡ before.reading
  pub still : before.stopped ≡ true → (old ≡ new) × (written ≡ [])

pub going_starts : {S : Type 0} (step : S → Message → Answered → S → Type 0) (before : StreamState) (piece : List ℕ) (s : S) (first : Option (List ℕ)) → Going step before piece before piece s s first first false
going_starts step before piece s first = record { written = []; appended = appends_none first; heard = heard_none before.reading step (before.held ++ piece) s; same = refl; reads_alike = refl; still = λ e. (refl, refl) }

-- a piece of which the prefix ends a message
pub split : (held rest : List ℕ) (taken : ℕ) → held ++ rest ≡ (held ++ take taken rest) ++ drop taken rest
split held rest taken = ap (λ r. held ++ r) (sym (take-append-drop taken rest)) ∙ sym (append_assoc held (take taken rest) (drop taken rest))

conflict : (b c : Bool) → c ≡ b → b ≡ true → c ≡ false → ⊥
conflict b c e t f = let g : true ≡ false = sym t ∙ sym e ∙ f in cc

-- one more message was heard and answered
pub going_message : {S : Type 0} {step : S → Message → Answered → S → Type 0} {before after : StreamState} {piece rest : List ℕ} {old middle : S} {first now : Option (List ℕ)} {sent : Bool} (apdu : Message) (taken : ℕ) (fresh : StreamState) (new : S) (last : Option (List ℕ)) (replied : Bool) → Going step before piece after rest old middle first now sent → Feeds after rest (fed.Message apdu taken) fresh → after.stopped ≡ false → Replies step middle apdu new now last replied → Going step before piece fresh (drop taken rest) old new first last (sent || replied)
going_message {step = step} {before = before} {after = after} {piece = piece} {rest = rest} {old = old} {middle = middle} {first = first} {now = now} {sent = sent} apdu taken fresh new last replied going f runs reply =
    let later : List ℕ = drop taken rest in
    let one : Heard before.reading step ((after.held ++ take taken rest) ++ later) middle later new reply.answer.bytes (nat_lt 0 reply.answer.count) = heard_one before.reading step (after.held ++ take taken rest) later middle new apdu reply.answer (subst (λ (r : LineReading). Reads r apdu (after.held ++ take taken rest)) going.reads_alike f.2) reply.heard in
    let B : List ℕ → Type 0 = λ b. Heard before.reading step b middle later new reply.answer.bytes (nat_lt 0 reply.answer.count) in
    let both : Heard before.reading step (before.held ++ piece) old later new (going.written ++ reply.answer.bytes) (sent || nat_lt 0 reply.answer.count) = heard_then going.heard (subst B (sym (split after.held rest taken)) one) in
    let H : List ℕ → Type 0 = λ held. Heard before.reading step (before.held ++ piece) old (held ++ later) new (going.written ++ reply.answer.bytes) (sent || nat_lt 0 reply.answer.count) in
    let here : Going step before piece fresh later old new first last (sent || nat_lt 0 reply.answer.count) = record {
      written = going.written ++ reply.answer.bytes;
      appended = appends_more first now last going.written reply.answer.bytes going.appended reply.appended;
      heard = subst H (sym f.3.0) both;
      same = f.3.1 ∙ sym runs ∙ going.same;
      reads_alike = f.4 ∙ going.reads_alike;
      still = λ e. absurd (conflict before.stopped after.stopped going.same e runs);
    } in
    let C : Bool → Type 0 = λ b. Going step before piece fresh later old new first last (sent || b) in
    subst C (sym reply.sending) here

-- the rest of the piece is held
pub going_ends : {S : Type 0} {step : S → Message → Answered → S → Type 0} {before after : StreamState} {piece rest : List ℕ} {old new : S} {first last : Option (List ℕ)} {sent : Bool} (end : StreamState) → (going : Going step before piece after rest old new first last sent) → Feeds after rest fed.More end → after.stopped ≡ false → Course step before piece end old new going.written sent
going_ends {step = step} {before = before} {after = after} {piece = piece} {rest = rest} {old = old} {new = new} {sent = sent} end going f runs =
    let H : List ℕ → Type 0 = λ held. Heard before.reading step (before.held ++ piece) old held new going.written sent in
    let N : List ℕ → Type 0 = NoneWholeBy before.reading in
    let heard : Heard before.reading step (before.held ++ piece) old end.held new going.written sent = subst H (sym f.1.0) going.heard in
    record { heard = heard; cut = record { spelled = heard.spelled; none_whole = subst N (sym f.1.0) (subst (λ (r : LineReading). NoneWholeBy r (after.held ++ rest)) going.reads_alike f.0.none_whole) }; same = f.1.1 ∙ sym runs ∙ going.same; reads_alike = f.2 ∙ going.reads_alike; still = going.still }

-- a message was not heard, or its answers were not written whole
pub going_unanswered : {S : Type 0} {step : S → Message → Answered → S → Type 0} {before after : StreamState} {piece rest : List ℕ} {old middle : S} {first now : Option (List ℕ)} {sent : Bool} (apdu : Message) (taken : ℕ) (fresh : StreamState) (new : S) (last : Option (List ℕ)) (fault : LineFault) → Going step before piece after rest old middle first now sent → Feeds after rest (fed.Message apdu taken) fresh → Unanswered step fault middle apdu new now last → (written : List ℕ) × Appends first last written × Breaks step fault before piece fresh old new written
going_unanswered {S = S} {step = step} {before = before} {after = after} {piece = piece} {rest = rest} {old = old} {middle = middle} {first = first} {now = now} {sent = sent} apdu taken fresh new last faults.Memory going f u =
    let P : S → Type 0 = λ s. Heard before.reading step (before.held ++ piece) old (after.held ++ rest) s going.written sent in
    let Q : List ℕ → Type 0 = λ w. Heard before.reading step (before.held ++ piece) old (after.held ++ rest) new w sent in
    (going.written ++ [], appends_more first now last going.written [] going.appended u.1, (sent, after.held ++ rest, subst Q (sym (append-nil going.written)) (subst P u.0 going.heard)))
going_unanswered {S = S} {step = step} {before = before} {after = after} {piece = piece} {rest = rest} {old = old} {middle = middle} {first = first} {now = now} apdu taken fresh new last faults.Write going f u = (
  going.written ++ u.part,
  appends_more first now last going.written u.part going.appended u.appended,
  record {
    messages = going.heard.messages;
    answers = going.heard.answers;
    last = apdu;
    answer = u.answer;
    part = u.part;
    rest = drop taken rest;
    spelled = spelled_append_by before.reading going.heard.messages (apdu ∷ []) (before.held ++ piece) (after.held ++ rest) (drop taken rest) going.heard.spelled (after.held ++ take taken rest, drop taken rest, split after.held rest taken, subst (λ (r : LineReading). Reads r apdu (after.held ++ take taken rest)) going.reads_alike f.2, refl);
    heard = hears_append step old middle new going.heard.messages (apdu ∷ []) going.heard.answers (u.answer ∷ []) going.heard.heard (new, u.heard, refl);
    answered = ap (λ z. z ++ u.part) going.heard.answered;
    some_part = u.some_part;
  },
)
going_unanswered apdu taken fresh new last faults.Read going f u = absurd u
going_unanswered apdu taken fresh new last (faults.Ended have) going f u = absurd u
going_unanswered apdu taken fresh new last faults.Turns going f u = absurd u
going_unanswered apdu taken fresh new last (faults.Malformed place why) going f u = absurd u
going_unanswered apdu taken fresh new last faults.Stopped going f u = absurd u

pub not_stopped : (b : Bool) → (b ≡ true → ⊥) → b ≡ false
not_stopped true never = absurd (never refl)
not_stopped false never = refl

keeps_consumes : (a b : Option (List ℕ)) → Keeps a b → Consumes a b []
keeps_consumes None b k = tt
keeps_consumes (Some xs) None k = absurd k
keeps_consumes (Some xs) (Some ys) k = sym k

-- nothing was read
pub course_none : {S : Type 0} (step : S → Message → Answered → S → Type 0) (s : StreamState) (m : S) → UnfinishedBy s.reading s.held → Course step s [] s m m [] false
course_none step s m u =
    let P : List ℕ → Type 0 = λ b. Heard s.reading step b m s.held m [] false in
    let h : Heard s.reading step (s.held ++ []) m s.held m [] false = subst P (sym (append-nil s.held)) (heard_none s.reading step s.held m) in
    record { heard = h; cut = record { spelled = h.spelled; none_whole = u.none_whole }; same = refl; reads_alike = refl; still = λ e. (refl, refl) }

pub broken_read : {S : Type 0} (step : S → Message → Answered → S → Type 0) (s : StreamState) (m : S) (coming left first : Option (List ℕ)) → UnfinishedBy s.reading s.held → Keeps coming left → Broken step faults.Read s s m m coming left first first
broken_read step s m coming left first u k = record { read = []; written = []; consumed = keeps_consumes coming left k; appended = appends_none first; breaks = (false, course_none step s m u); ended = tt }

pub broken_end : {S : Type 0} (step : S → Message → Answered → S → Type 0) (s : StreamState) (m : S) (coming left first : Option (List ℕ)) (have count : ℕ) (buffer : List ℕ) → UnfinishedBy s.reading s.held → count ≡ 0 → have ≡ length s.held → Consumes coming left (take count buffer) → IsAtEnd left → Broken step (faults.Ended have) s s m m coming left first first
broken_end step s m coming left first have count buffer u z h k e =
    let P : ℕ → Type 0 = λ n. Consumes coming left (take n buffer) in
    record { read = []; written = []; consumed = subst P z k; appended = appends_none first; breaks = (false, course_none step s m u, h); ended = e }

-- Pumped before, and then pumped or broken.
pub pumped_starts : {S : Type 0} (step : S → Message → Answered → S → Type 0) (s : StreamState) (m : S) (coming first : Option (List ℕ)) → UnfinishedBy s.reading s.held → Pumped step s s m m coming coming first first false
pumped_starts step s m coming first u = record { read = []; written = []; consumed = consumes_none coming; appended = appends_none first; course = course_none step s m u }

-- what was heard in two parts of what was read
longer : {S : Type 0} {step : S → Message → Answered → S → Type 0} {before after : StreamState} {old middle new : S} {read w w' rest : List ℕ} {a b : Bool} (more : List ℕ) → Course step before read after old middle w a → Heard after.reading step (after.held ++ more) middle rest new w' b → Heard before.reading step (before.held ++ (read ++ more)) old rest new (w ++ w') (a || b)
longer {step = step} {before = before} {after = after} {old = old} {middle = middle} {new = new} {read = read} {w = w} {w' = w'} {rest = rest} {a = a} {b = b} more c h =
    let P : List ℕ → Type 0 = λ bytes. Heard before.reading step bytes old rest new (w ++ w') (a || b) in
    subst P (append_assoc before.held read more) (heard_then (heard_longer more c.heard) (subst (λ (r : LineReading). Heard r step (after.held ++ more) middle rest new w' b) c.reads_alike h))

pub course_more : {S : Type 0} {step : S → Message → Answered → S → Type 0} {before after end : StreamState} {old middle new : S} {read more w w' : List ℕ} {a b : Bool} → Course step before read after old middle w a → Course step after more end middle new w' b → Course step before (read ++ more) end old new (w ++ w') (a || b)
course_more {end = end} {more = more} {w' = w'} c d = let h = longer more c d.heard in record {
  heard = h;
  cut = record { spelled = h.spelled; none_whole = subst (λ (r : LineReading). NoneWholeBy r end.held) c.reads_alike d.cut.none_whole };
  same = d.same ∙ c.same;
  reads_alike = d.reads_alike ∙ c.reads_alike;
  still = λ e. let h = c.still e in let k = d.still (c.same ∙ e) in (h.0 ∙ k.0, ap (λ z. z ++ w') h.1 ∙ k.1);
}

pub pumped_more : {S : Type 0} {step : S → Message → Answered → S → Type 0} {before after end : StreamState} {old middle new : S} {coming then left first now last : Option (List ℕ)} {a b : Bool} → Pumped step before after old middle coming then first now a → Pumped step after end middle new then left now last b → Pumped step before end old new coming left first last (a || b)
pumped_more {coming = coming} {then = then} {left = left} {first = first} {now = now} {last = last} p q = record {
  read = p.read ++ q.read;
  written = p.written ++ q.written;
  consumed = consumes_more coming then left p.read q.read p.consumed q.consumed;
  appended = appends_more first now last p.written q.written p.appended q.appended;
  course = course_more p.course q.course;
}

breaks_more : {S : Type 0} {step : S → Message → Answered → S → Type 0} {before after : StreamState} {old middle : S} {read w : List ℕ} {a : Bool} (fault : LineFault) (end : StreamState) (new : S) (more w' : List ℕ) → Course step before read after old middle w a → Breaks step fault after more end middle new w' → Breaks step fault before (read ++ more) end old new (w ++ w')
breaks_more {a = a} faults.Read end new more w' c h = (a || h.0, course_more c h.1)
breaks_more {a = a} (faults.Ended have) end new more w' c h = (a || h.0, course_more c h.1, h.2)
breaks_more {a = a} faults.Turns end new more w' c h = (a || h.0, course_more c h.1)
breaks_more {a = a} (faults.Malformed place why) end new more w' c h = (a || h.0, h.1, longer more c h.2, subst (λ (r : LineReading). IsRefusedBy r h.1 place why) c.reads_alike h.3, h.4)
breaks_more {a = a} faults.Memory end new more w' c h = (a || h.0, h.1, longer more c h.2)
breaks_more {S = S} {step = step} {before = before} {after = after} {old = old} {middle = middle} {read = read} {w = w} faults.Write end new more w' c h = record {
  messages = c.heard.messages ++ h.messages;
  answers = c.heard.answers ++ h.answers;
  last = h.last;
  answer = h.answer;
  part = h.part;
  rest = h.rest;
  spelled =
      let all : SpelledBy before.reading (before.held ++ read ++ more) (c.heard.messages ++ (h.messages ++ h.last ∷ [])) h.rest = spelled_append_by before.reading c.heard.messages (h.messages ++ h.last ∷ []) (before.held ++ read ++ more) (after.held ++ more) h.rest (spelled_more_by before.reading c.heard.messages (before.held ++ read) after.held more c.heard.spelled) (subst (λ (r : LineReading). SpelledBy r (after.held ++ more) (h.messages ++ h.last ∷ []) h.rest) c.reads_alike h.spelled) in
      let P : List ℕ → Type 0 = λ b. SpelledBy before.reading b (c.heard.messages ++ (h.messages ++ h.last ∷ [])) h.rest in
      let Q : List Message → Type 0 = λ ms. SpelledBy before.reading (before.held ++ (read ++ more)) ms h.rest in
      subst Q (sym (append_assoc c.heard.messages h.messages (h.last ∷ []))) (subst P (append_assoc before.held read more) all);
  heard =
      let all : Hears step old (c.heard.messages ++ (h.messages ++ h.last ∷ [])) (c.heard.answers ++ (h.answers ++ h.answer ∷ [])) new = hears_append step old middle new c.heard.messages (h.messages ++ h.last ∷ []) c.heard.answers (h.answers ++ h.answer ∷ []) c.heard.heard h.heard in
      let P : List Message → Type 0 = λ ms. Hears step old ms (c.heard.answers ++ (h.answers ++ h.answer ∷ [])) new in
      let Q : List Answered → Type 0 = λ xs. Hears step old ((c.heard.messages ++ h.messages) ++ h.last ∷ []) xs new in
      subst Q (sym (append_assoc c.heard.answers h.answers (h.answer ∷ []))) (subst P (sym (append_assoc c.heard.messages h.messages (h.last ∷ []))) all);
  answered = ap (λ z. z ++ w') c.heard.answered ∙ ap (λ z. bytes_of c.heard.answers ++ z) h.answered ∙ sym (append_assoc (bytes_of c.heard.answers) (bytes_of h.answers) h.part) ∙ ap (λ z. z ++ h.part) (sym (bytes_append c.heard.answers h.answers));
  some_part = h.some_part;
}
breaks_more {w = w} faults.Stopped end new more w' c h =
    let b = sym c.same ∙ h.0 in
    let k = c.still b in
    (b, k.0 ∙ h.1, ap (λ z. z ++ w') k.1 ∙ h.2)

pub broken_more : {S : Type 0} {step : S → Message → Answered → S → Type 0} {before after end : StreamState} {old middle new : S} {coming then left first now last : Option (List ℕ)} {a : Bool} {fault : LineFault} → Pumped step before after old middle coming then first now a → Broken step fault after end middle new then left now last → Broken step fault before end old new coming left first last
broken_more {end = end} {new = new} {coming = coming} {then = then} {left = left} {first = first} {now = now} {last = last} {fault = fault} p q = record {
  read = p.read ++ q.read;
  written = p.written ++ q.written;
  consumed = consumes_more coming then left p.read q.read p.consumed q.consumed;
  appended = appends_more first now last p.written q.written p.appended q.appended;
  breaks = breaks_more fault end new q.read q.written p.course q.breaks;
  ended = q.ended;
}
