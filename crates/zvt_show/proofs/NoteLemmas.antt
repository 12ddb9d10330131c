-- The notes of what a walk emits.
use Rattle.std.proofs.Common.{◌≡◌, arith, inl, inr, ℕ, List, [], ◌∷◌, ◌++◌, Result, Option, Ok, Err, refl, sym, ◌∙◌, ap, subst, append_assoc, append-nil}
use Rattle.std.specs.List.{flat_map}
use Rattle.std.specs.Io.KnownBytes.{Appends}
use Rattle.std.proofs.lemmas.List.Concat.{flat_map-cons}
use Rattle.zvt_grammar.specs.Reading.{Reading}
use Rattle.zvt_trace.specs.Listening.{AnswersWalk, Fails, Hears, HearsAll, Stops}
use Rattle.zvt_trace.specs.TraceEvent.{At, TraceEvent, message_count, messages_in, on}
use Rattle.zvt_trace.specs.TraceEvent as trace_event
use Rattle.zvt_trace.specs.Emitting.{EventsSoFar}
use Rattle.zvt_trace.specs.Written.{AppendsPrefix}
use Rattle.zvt_trace.specs.declared.fault.Tally.{Tally}
use Rattle.zvt_trace.specs.declared.fault.TraceFault.{TraceFault}
use Rattle.zvt_trace.specs.declared.fault.TraceFault.TheVariants.{Memory, Read, TooLong, Trace, Write}
use Rattle.zvt_trace.specs.declared.listener.ListenerError.TheVariants as failure
use Rattle.zvt_trace.specs.declared.listener.Scope.{Scope}
use Rattle.zvt_show.specs.Notes.{Lives, cut_off_count, life_text, lives, lives_text, most, note_text, notes_text, refused_count, refused_in, summary_text, unread_of, with_event}
use Rattle.zvt_show.specs.Noting.{CountsAfter, Noted, counted_more, said_at, events_since}
use Rattle.zvt_show.specs.NotesWritten.{AnswersNotes, EmitsAll}
use Rattle.zvt_show.specs.declared.diagnostics.counts.Counts.{Counts}
use Rattle.zvt_show.specs.declared.diagnostics.notes.Notes.{Notes}
use Rattle.zvt_show.proofs.CountLemmas.{Over, totals}

-- ---- the text that is still to come, after what was emitted since the line was made

abbrev rest_text : Scope → List At → Lives → List ℕ
rest_text scope since all = (flat_map note_text all.first ++ unread_of scope (since ++ all.first)) ++ flat_map (life_text scope) all.later

regroup : (n a u f : List ℕ) → n ++ ((a ++ u) ++ f) ≡ ((n ++ a) ++ u) ++ f
regroup n a u f = sym (append_assoc n (a ++ u) f) ∙ ap (λ (l : List ℕ). l ++ f) (sym (append_assoc n a u))

one_more : (scope : Scope) (since : List At) (event : At) (all : Lives) → note_text event ++ rest_text scope (since ++ event ∷ []) all ≡ rest_text scope since (record { first = event ∷ all.first; later = all.later })
one_more scope since event all =
    let later = flat_map (life_text scope) all.later in
    let notes = flat_map note_text all.first in
    ap (λ (l : List At). note_text event ++ ((notes ++ unread_of scope l) ++ later)) (append_assoc since (event ∷ []) all.first)
    ∙ regroup (note_text event) notes (unread_of scope (since ++ (event ∷ all.first))) later
    ∙ ap (λ (l : List ℕ). (l ++ unread_of scope (since ++ (event ∷ all.first))) ++ later) (sym (flat_map-cons note_text event all.first))

one_said : (scope : Scope) (since : List At) (line : ℕ) (what : TraceEvent) (all : Lives) → said_at scope since line what ++ rest_text scope (events_since since line what) all ≡ rest_text scope since (with_event line what all)
one_said scope since line (trace_event.message from m) all = one_more scope since (on line (trace_event.message from m)) all
one_said scope since line (trace_event.refused from before byte why) all = one_more scope since (on line (trace_event.refused from before byte why)) all
one_said scope since line (trace_event.unread from) all = one_more scope since (on line (trace_event.unread from)) all
one_said scope since line (trace_event.resumed from size) all = one_more scope since (on line (trace_event.resumed from size)) all
one_said scope since line (trace_event.cut_off from bytes) all = one_more scope since (on line (trace_event.cut_off from bytes)) all
one_said scope since line trace_event.lost all =
    ap (λ (l : List At). unread_of scope l ++ (life_text scope all.first ++ flat_map (life_text scope) all.later)) (sym (append-nil since))
    ∙ ap (λ (l : List ℕ). unread_of scope (since ++ []) ++ l) (sym (flat_map-cons (life_text scope) all.first all.later))

-- ---- all that is heard

abbrev pub notes : {S : Type 0} → (S → Notes) → Hears S
notes view old event new = Noted (view old) (view new) event

abbrev pub wants_memory : {S : Type 0} → Fails S
wants_memory old event why new = why ≡ failure.Memory

-- what has been emitted since the line was made last, and what the notes say
record Says (of : Scope) (since events : List At) (old new : Notes) : Type 0 where
  pub now : List At
  pub scope : new.scope ≡ of
  pub trailing : CountsAfter of new.trailing now
  pub text : new.text ++ unread_of of now ≡ old.text ++ rest_text of since (lives events)

says : {S : Type 0} (view : S → Notes) (scope : Scope) (events since : List At) (old new : S) → (view old).scope ≡ scope → CountsAfter scope (view old).trailing since → HearsAll (notes view) old events new → Says scope since events (view old) (view new)
says {S = S} view scope [] since old new is trailing same = subst (λ (s : S). Says scope since [] (view old) (view s)) (sym same) (record {
  now = since;
  scope = is;
  trailing = trailing;
  text = ap (λ (l : List ℕ). (view old).text ++ l) (ap (λ (l : List At). unread_of scope l) (sym (append-nil since)) ∙ sym (append-nil (unread_of scope (since ++ []))));
})
says view scope (event ∷ events) since old new is trailing some =
    let noted = some.1 in
    let there = subst (λ (s : Scope). CountsAfter s (view old).trailing since) (sym is) trailing in
    let said = subst (λ (s : Scope). (view some.0).text ≡ (view old).text ++ said_at s since event.line event.trace_event) is (noted.text since there) in
    let after = subst (λ (s : Scope). CountsAfter s (view some.0).trailing (events_since since event.line event.trace_event)) is (noted.trailing since there) in
    let rest = says view scope events (events_since since event.line event.trace_event) some.0 new (noted.scope ∙ is) after some.2 in record {
      now = rest.now;
      scope = rest.scope;
      trailing = rest.trailing;
      text = rest.text
          ∙ ap (λ (l : List ℕ). l ++ rest_text scope (events_since since event.line event.trace_event) (lives events)) said
          ∙ append_assoc (view old).text (said_at scope since event.line event.trace_event) (rest_text scope (events_since since event.line event.trace_event) (lives events))
          ∙ ap (λ (l : List ℕ). (view old).text ++ l) (one_said scope since event.line event.trace_event (lives events));
    }

-- ---- how much was emitted

messages_step : (old : Counts) (event : TraceEvent) → Over old.messages (counted_more old event).messages (message_count event)
messages_step old (trace_event.message from m) = inl refl
messages_step old (trace_event.refused from before byte why) = inr (refl, refl)
messages_step old (trace_event.unread from) = inr (refl, refl)
messages_step old (trace_event.resumed from size) = inr (refl, refl)
messages_step old (trace_event.cut_off from bytes) = inr (refl, refl)
messages_step old trace_event.lost = inr (refl, refl)

messages_counted : (old new : Notes) (event : At) → Noted old new event → Over old.counts.messages new.counts.messages (message_count event.trace_event)
messages_counted old new event noted = subst (λ (c : Counts). Over old.counts.messages c.messages (message_count event.trace_event)) (sym noted.counts) (messages_step old.counts event.trace_event)

refused_step : (old : Counts) (event : TraceEvent) → Over old.refused (counted_more old event).refused (refused_count event)
refused_step old (trace_event.message from m) = inr (refl, refl)
refused_step old (trace_event.refused from before byte why) = inl refl
refused_step old (trace_event.unread from) = inr (refl, refl)
refused_step old (trace_event.resumed from size) = inr (refl, refl)
refused_step old (trace_event.cut_off from bytes) = inr (refl, refl)
refused_step old trace_event.lost = inr (refl, refl)

refused_counted : (old new : Notes) (event : At) → Noted old new event → Over old.counts.refused new.counts.refused (refused_count event.trace_event)
refused_counted old new event noted = subst (λ (c : Counts). Over old.counts.refused c.refused (refused_count event.trace_event)) (sym noted.counts) (refused_step old.counts event.trace_event)

cut_off_step : (old : Counts) (event : TraceEvent) → Over old.cut_off (counted_more old event).cut_off (cut_off_count event)
cut_off_step old (trace_event.message from m) = inr (refl, refl)
cut_off_step old (trace_event.refused from before byte why) = inr (refl, refl)
cut_off_step old (trace_event.unread from) = inr (refl, refl)
cut_off_step old (trace_event.resumed from size) = inr (refl, refl)
cut_off_step old (trace_event.cut_off from bytes) = inl refl
cut_off_step old trace_event.lost = inr (refl, refl)

cut_off_counted : (old new : Notes) (event : At) → Noted old new event → Over old.counts.cut_off new.counts.cut_off (cut_off_count event.trace_event)
cut_off_counted old new event noted = subst (λ (c : Counts). Over old.counts.cut_off c.cut_off (cut_off_count event.trace_event)) (sym noted.counts) (cut_off_step old.counts event.trace_event)

-- nothing was emitted
pub record AtStart (of : Scope) (notes : Notes) : Type 0 where
  pub scope : notes.scope ≡ of
  pub text : notes.text ≡ []
  pub trailing : CountsAfter of notes.trailing []
  pub messages : notes.counts.messages ≡ 0
  pub refused : notes.counts.refused ≡ 0
  pub cut_off : notes.counts.cut_off ≡ 0

-- what closing the notes adds
abbrev pub Closes : Notes → (text : List ℕ) → Type 0
Closes notes text = (events : List At) → CountsAfter notes.scope notes.trailing events → text ≡ notes.text ++ unread_of notes.scope events ++ summary_text notes.counts.messages notes.counts.refused notes.counts.cut_off

all_said : {S : Type 0} (view : S → Notes) (scope : Scope) (events : List At) (old new : S) (text : List ℕ) → AtStart scope (view old) → HearsAll (notes view) old events new → Closes (view new) text → text ≡ notes_text scope events
all_said {S = S} view scope events old new text start heard closes =
    let all = says view scope events [] old new start.scope start.trailing heard in
    let there = subst (λ (s : Scope). CountsAfter s (view new).trailing all.now) (sym all.scope) all.trailing in
    let closed = subst (λ (s : Scope). text ≡ (view new).text ++ unread_of s all.now ++ summary_text (view new).counts.messages (view new).counts.refused (view new).counts.cut_off) all.scope (closes all.now there) in
    let messages = totals (notes view) message_count (λ (s : S). (view s).counts.messages) events 0 old new (λ x y event noted. messages_counted (view x) (view y) event noted) start.messages heard in
    let refused = totals (notes view) refused_count (λ (s : S). (view s).counts.refused) events 0 old new (λ x y event noted. refused_counted (view x) (view y) event noted) start.refused heard in
    let cut_off = totals (notes view) cut_off_count (λ (s : S). (view s).counts.cut_off) events 0 old new (λ x y event noted. cut_off_counted (view x) (view y) event noted) start.cut_off heard in
    closed
    ∙ ap (λ (l : List ℕ). l ++ summary_text (view new).counts.messages (view new).counts.refused (view new).counts.cut_off) (all.text ∙ ap (λ (l : List ℕ). l ++ rest_text scope [] (lives events)) start.text)
    ∙ ap (λ (n : ℕ). lives_text scope (lives events) ++ summary_text n (view new).counts.refused (view new).counts.cut_off) (messages ∙ ap most (omega arith))
    ∙ ap (λ (n : ℕ). lives_text scope (lives events) ++ summary_text (most (messages_in events)) n (view new).counts.cut_off) (refused ∙ ap most (omega arith))
    ∙ ap (λ (n : ℕ). lives_text scope (lives events) ++ summary_text (most (messages_in events)) (most (refused_in events)) n) (cut_off ∙ ap most (omega arith))

-- ---- what a walk answers

heard_all : {S : Type 0} (r : Reading) (view : S → Notes) (scope : Scope) (lines : List (List ℕ)) (answer : Result Tally TraceFault) (old new : S) → (answer ≡ Err Memory → ⊥) → AnswersWalk r (notes view) wants_memory scope lines old new answer
    → (events : List At) × EmitsAll r scope lines events × HearsAll (notes view) old events new
heard_all r view scope lines (Ok tally) old new some walked = (walked.0, inl walked.1, walked.2)
heard_all r view scope lines (Err (Trace number what)) old new some walked = (walked.0, inr (number, what, walked.1), walked.2)
heard_all r view scope lines (Err Memory) old new some walked = absurd (some refl)
heard_all {S = S} r view scope lines (Err Write) old new some failed = absurd (by failed.stops)
  where
    by : Stops {S = S} wants_memory failure.Write (EventsSoFar r scope lines) failed.events failed.middle new → ⊥
    by (inl (is, so_far, same)) = cc
    by (inr (event, so_far, left)) = cc
heard_all r view scope lines (Err TooLong) old new some never = absurd never
heard_all r view scope lines (Err Read) old new some never = absurd never

-- ---- what is written

pub answered : {S : Type 0} (r : Reading) (view : S → Notes) (scope : Scope) (lines : List (List ℕ)) (answer : Result Tally TraceFault) (old new : S) (text written : List ℕ) (first now : Option (List ℕ)) (done : Unit {0})
    → AtStart scope (view old) → (answer ≡ Err Memory → ⊥) → AnswersWalk r (notes view) wants_memory scope lines old new answer → Closes (view new) text
    → written ≡ text → Appends first now written → AnswersNotes r scope lines first now (Ok done)
answered r view scope lines answer old new text written first now done start some walked closes same appended =
    let heard = heard_all r view scope lines answer old new some walked in
    (heard.0, heard.1, subst (λ (t : List ℕ). Appends first now t) (same ∙ all_said view scope heard.0 old new text start heard.2 closes) appended)

pub unwritten : {S : Type 0} (r : Reading) (view : S → Notes) (scope : Scope) (lines : List (List ℕ)) (answer : Result Tally TraceFault) (old new : S) (text written : List ℕ) (first now : Option (List ℕ))
    → AtStart scope (view old) → (answer ≡ Err Memory → ⊥) → AnswersWalk r (notes view) wants_memory scope lines old new answer → Closes (view new) text
    → written ≡ text → AppendsPrefix first now written → AnswersNotes r scope lines first now (Err failure.Write)
unwritten r view scope lines answer old new text written first now start some walked closes same prefix =
    let heard = heard_all r view scope lines answer old new some walked in
    (heard.0, heard.1, subst (λ (t : List ℕ). AppendsPrefix first now t) (same ∙ all_said view scope heard.0 old new text start heard.2 closes) prefix)
