-- The bytes of a line, piece by piece, and what its stream holds.
use Rattle.std.proofs.Common.{◌≡◌, ℕ, suc, Bool, true, false, cond, List, [], ◌∷◌, ◌++◌, Option, Some, None, take, drop, map, refl, sym, ap, subst, ◌∙◌, append_assoc, append-nil, inl, inr}
use Rattle.std.proofs.lemmas.Bool.{false≢true}
use Rattle.std.proofs.lemmas.List.{map-append, take-append-drop}
use Rattle.zvt_apdu.specs.Message.{Message}
use Rattle.zvt_grammar.specs.Reading.{shortest}
use Rattle.zvt_stream.specs.Apdus.{Alive, Spelled, Cut}
use Rattle.zvt_stream.specs.LineReading.{IsRefusedBy, LineReading, UnfinishedBy, strictly}
use Rattle.zvt_stream.specs.LineReading as line
use Rattle.zvt_stream.specs.StreamState.{StreamState, at_start}
use Rattle.zvt_stream.specs.Feeds.{Feeds}
use Rattle.zvt_stream.specs.declared.stream.Fed.TheVariants as fed
use Rattle.zvt_grammar.specs.declared.why.Why.{Why}
use Rattle.zvt_stream.proofs.Beginnings.{spelled_more, spelled_append, prefix_alive, nothing_begun}
use Rattle.zvt_stream.proofs.LineRunLemmas.{split}
use Rattle.zvt_till.specs.declared.happenings.Happening.{Happening}
use Rattle.zvt_till.specs.declared.happenings.Happening.TheVariants.{Connected, Sent as SentOut, Malformed, Lost}
use Rattle.zvt_till.specs.declared.events.Event.{Event}
use Rattle.zvt_till.specs.declared.orders.Order.{Order}
use Rattle.zvt_till.specs.declared.orders.OrderRefusal.{OrderRefusal}
use Rattle.zvt_till.specs.Refusals.{refusal, sent_as}
use Rattle.zvt_till.specs.Settings.{strict}
use Rattle.zvt_till.specs.Log.{line_after, line_up, facts_in}
use Rattle.zvt_till.specs.Events.{run_settings, EndsLine, hears, HearsPiece, FollowsPiece, Follows, Leads, HoldsLine, ReadsPiece, log_after_order}
use Rattle.zvt_till.proofs.Segments.{fold-snoc}

-- Some messages of the piece were heard, and the rest of it comes after what the stream holds.
pub record Reads (log : List Happening) (held piece : List ℕ) (now : List Happening) (stream : StreamState) (rest : List ℕ) : Type 0 where
  pub messages : List Message
  pub spelled : Spelled (held ++ piece) messages (stream.held ++ rest)
  pub heard : now ≡ log ++ map hears messages
  pub runs : stream.stopped ≡ false
  pub strict : stream.reading ≡ strictly shortest

pub reads-nothing : (log : List Happening) (stream : StreamState) (piece : List ℕ) → stream.stopped ≡ false → stream.reading ≡ strictly shortest → Reads log stream.held piece log stream piece
reads-nothing log stream piece runs strict = record { messages = []; spelled = refl; heard = sym (append-nil log); runs = runs; strict = strict }

pub reads-message : (log now : List Happening) (held piece rest : List ℕ) (stream after : StreamState) (m : Message) (taken : ℕ) → Reads log held piece now stream rest → Feeds stream rest (fed.Message m taken) after
    → Reads log held piece (now ++ hears m ∷ []) after (drop taken rest)
reads-message log now held piece rest stream after m taken r f =
    let new : after.held ≡ [] = f.3.0 in
    let one : Spelled (stream.held ++ rest) (m ∷ []) (after.held ++ drop taken rest) =
    (stream.held ++ take taken rest, drop taken rest, split stream.held rest taken, subst (λ (k : LineReading). line.Reads k m (stream.held ++ take taken rest)) r.strict f.2, sym (ap (λ (s : List ℕ). s ++ drop taken rest) new)) in
    record {
      messages = r.messages ++ m ∷ [];
      spelled = spelled_append r.messages (m ∷ []) (held ++ piece) (stream.held ++ rest) (after.held ++ drop taken rest) r.spelled one;
      heard = ap (λ x. x ++ hears m ∷ []) r.heard ∙ append_assoc log (map hears r.messages) (hears m ∷ []) ∙ ap (λ x. log ++ x) (sym (map-append hears r.messages (m ∷ [])));
      runs = f.3.1;
      strict = f.4 ∙ r.strict;
    }

-- a message leaves the line up
pub up-heard : (log : List Happening) (m : Message) → line_up log ≡ true → line_up (log ++ hears m ∷ []) ≡ true
up-heard log m up = fold-snoc line_after false log (hears m) ∙ up

pub reads-all : (log now : List Happening) (held piece rest : List ℕ) (stream after : StreamState) → Reads log held piece now stream rest → Feeds stream rest fed.More after → ReadsPiece log held piece now after
reads-all log now held piece rest stream after r f =
    let unfinished = subst (λ (k : LineReading). UnfinishedBy k (stream.held ++ rest)) r.strict f.0 in
    record {
      messages = r.messages;
      rest = stream.held ++ rest;
      end = [];
      cut = record { spelled = r.spelled; none_whole = unfinished.none_whole };
      ends = inl (unfinished.alive, refl);
      heard = r.heard ∙ ap (λ x. log ++ x) (sym (append-nil (map hears r.messages)));
      goes_on = λ e. f.1;
      strict = f.2 ∙ r.strict;
    }

pub reads-refused : (log now : List Happening) (held piece rest : List ℕ) (stream after : StreamState) (place : ℕ) (why : Why) → Reads log held piece now stream rest → Feeds stream rest (fed.Refused place why) after
    → ReadsPiece log held piece (now ++ Malformed ∷ []) after
reads-refused log now held piece rest stream after place why r f =
    let bytes = stream.held ++ rest in
    let refused = subst (λ (k : LineReading). IsRefusedBy k bytes place why) r.strict f.0 in
    record {
      messages = r.messages;
      rest = bytes;
      end = Malformed ∷ [];
      cut = record { spelled = r.spelled; none_whole = refused.0 };
      ends = inr ((λ a. refused.1.dead (prefix_alive (take (suc place) bytes) (drop (suc place) bytes) (subst Alive (sym (take-append-drop (suc place) bytes)) a))), refl);
      heard = ap (λ x. x ++ Malformed ∷ []) r.heard ∙ append_assoc log (map hears r.messages) (Malformed ∷ []);
      goes_on = λ e. absurd cc;
      strict = f.3 ∙ r.strict;
    }

-- a malformed line is down
pub down-malformed : (log more : List Happening) → line_up (log ++ (more ++ Malformed ∷ [])) ≡ false
down-malformed log more = ap line_up (sym (append_assoc log more (Malformed ∷ []))) ∙ fold-snoc line_after false (log ++ more) Malformed

follows-up : (log next : List Happening) (bytes piece : List ℕ) (up : Bool) → up ≡ true → (added : List Happening) → HearsPiece bytes piece added → next ≡ log ++ added → FollowsPiece up log bytes piece next (bytes ++ piece)
follows-up log next bytes piece true e added h n = (added, h, n, refl)
follows-up log next bytes piece false e added h n = absurd (false≢true e)

follows-down : (log : List Happening) (bytes piece : List ℕ) (up : Bool) → up ≡ false → FollowsPiece up log bytes piece log bytes
follows-down log bytes piece false e = (refl, refl)
follows-down log bytes piece true e = absurd (false≢true (sym e))

-- a piece of a line that is up
pub piece-follows : (log next : List Happening) (bytes piece : List ℕ) (stream after : StreamState) → HoldsLine log bytes stream → line_up log ≡ true → ReadsPiece log stream.held piece next after
    → (later : List ℕ) × FollowsPiece (line_up log) log bytes piece next later × HoldsLine next later after
piece-follows log next bytes piece stream after holds up r =
    let before = (holds up).1 in
    let whole : Cut (bytes ++ piece) (before.0 ++ r.messages) r.rest =
    record {
      spelled = spelled_append before.0 r.messages (bytes ++ piece) (stream.held ++ piece) r.rest (spelled_more before.0 bytes stream.held piece before.1.spelled) r.cut.spelled;
      none_whole = r.cut.none_whole;
    } in
    let hears' : HearsPiece bytes piece (map hears r.messages ++ r.end) =
    record { earlier = before.0; more = r.messages; left = stream.held; rest = r.rest; end = r.end; cut_before = before.1; cut = whole; ends = r.ends; heard = refl } in
    (bytes ++ piece, follows-up log next bytes piece (line_up log) up (map hears r.messages ++ r.end) hears' r.heard, λ still. by_end whole still r.ends)
  where
    by_end : (whole : Cut (bytes ++ piece) ((holds up).1.0 ++ r.messages) r.rest) → line_up next ≡ true → EndsLine r.rest r.end → (after.stopped ≡ false) × ((messages : List Message) × Cut (bytes ++ piece) messages after.held) × (after.reading ≡ strictly shortest)
    by_end whole still (inl alive) =
        let same = r.goes_on alive.1 in
        (same.1, ((holds up).1.0 ++ r.messages, subst (λ (held : List ℕ). Cut (bytes ++ piece) ((holds up).1.0 ++ r.messages) held) (sym same.0) whole), r.strict)
    by_end whole still (inr dead) =
        let down : line_up next ≡ false = ap line_up (r.heard ∙ ap (λ x. log ++ (map hears r.messages ++ x)) dead.1) ∙ down-malformed log (map hears r.messages) in
        absurd (false≢true (sym down ∙ still))

-- a piece of a line that is down
pub piece-unread : (log : List Happening) (bytes piece : List ℕ) (stream : StreamState) → HoldsLine log bytes stream → line_up log ≡ false
    → (later : List ℕ) × FollowsPiece (line_up log) log bytes piece log later × HoldsLine log later stream
piece-unread log bytes piece stream holds down = (bytes, follows-down log bytes piece (line_up log) down, holds)

line-begins : (log : List Happening) (bytes : List ℕ) (stream after : StreamState) (up : Bool) → line_up log ≡ up → after ≡ cond up stream at_start → HoldsLine log bytes stream
    → (after.stopped ≡ false) × ((messages : List Message) × Cut (cond up bytes []) messages after.held) × (after.reading ≡ strictly shortest)
line-begins log bytes stream after true e same holds =
    subst (λ s. (s.stopped ≡ false) × ((messages : List Message) × Cut bytes messages s.held) × (s.reading ≡ strictly shortest)) (sym same) (holds e)
line-begins log bytes stream after false e same holds =
    subst (λ s. (s.stopped ≡ false) × ((messages : List Message) × Cut [] messages s.held) × (s.reading ≡ strictly shortest)) (sym same) (refl, ([], record { spelled = refl; none_whole = nothing_begun.none_whole }), refl)

pub connected-follows : (log next : List Happening) (bytes : List ℕ) (stream after : StreamState) (up : Bool) → up ≡ line_up log → after ≡ cond up stream at_start → next ≡ log ++ Connected ∷ [] → HoldsLine log bytes stream
    → (later : List ℕ) × ((next ≡ log ++ Connected ∷ []) × (later ≡ cond (line_up log) bytes [])) × HoldsLine next later after
connected-follows log next bytes stream after up e same n holds =
    let whole = line-begins log bytes stream after up (sym e) same holds in
    (cond (line_up log) bytes [], (n, refl), λ still. subst (λ b. (after.stopped ≡ false) × ((messages : List Message) × Cut (cond b bytes []) messages after.held) × (after.reading ≡ strictly shortest)) e whole)

pub lost-follows : (log next : List Happening) (bytes : List ℕ) (stream : StreamState) → next ≡ log ++ Lost ∷ []
    → (later : List ℕ) × ((next ≡ log ++ Lost ∷ []) × (later ≡ bytes)) × HoldsLine next later stream
lost-follows log next bytes stream n = (bytes, (n, refl), λ still. absurd (false≢true (sym (ap line_up n ∙ fold-snoc line_after false log Lost) ∙ still)))

pub line-ordered : (log : List Happening) (o : Order) (r : Option OrderRefusal) → line_up (log_after_order log o r) ≡ line_up log
line-ordered log o None = fold-snoc line_after false log (SentOut (sent_as run_settings.currency o))
line-ordered log o (Some why) = refl

pub order-follows : (log next : List Happening) (bytes : List ℕ) (stream : StreamState) (o : Order) → next ≡ log_after_order log o (refusal (facts_in strict log) o) → HoldsLine log bytes stream
    → (later : List ℕ) × ((next ≡ log_after_order log o (refusal (facts_in strict log) o)) × (later ≡ bytes)) × HoldsLine next later stream
order-follows log next bytes stream o n holds = (bytes, (n, refl), λ still. holds (sym (line-ordered log o (refusal (facts_in strict log) o)) ∙ sym (ap line_up n) ∙ still))

-- one event more
pub leads-snoc : (log : List Happening) (bytes : List ℕ) (events : List Event) (event : Event) (middle last : List Happening) (now later : List ℕ) → Leads log bytes events middle now → Follows middle now event last later
    → Leads log bytes (events ++ event ∷ []) last later
leads-snoc log bytes [] event middle last now later p f =
    (last, later, subst (λ x. Follows x bytes event last later) (sym p.0) (subst (λ (b : List ℕ). Follows middle b event last later) (sym p.1) f), (refl, refl))
leads-snoc log bytes (e ∷ events) event middle last now later p f = (p.0, p.1, p.2, leads-snoc p.0 p.1 events event middle last now later p.3 f)
