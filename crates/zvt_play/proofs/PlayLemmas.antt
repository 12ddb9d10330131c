-- Steps that are played one after another.
use Rattle.std.proofs.Common.{◌≡◌, ℕ, ◌+◌, ◌<◌, suc, List, [], ◌∷◌, ◌++◌, Option, length, map, take, drop, get_or, refl, sym, ◌∙◌, ap, subst, arith, drop-cons}
use Rattle.std.proofs.lemmas.List.{drop-map, drop_all, length-map, map-append, take-map, take_more}
use Rattle.std.specs.Io.KnownBytes.{Appends}
use Rattle.zvt_io.proofs.KnownLemmas.{appends_more}
use Rattle.zvt_stream.proofs.HearingLemmas.{appends_none}
use Rattle.zvt_stream.specs.StreamState.{StreamState}
use Rattle.zvt_stream.specs.LineReading.{LineReading}
use Rattle.zvt_apdu.specs.Message.{Message}
use Rattle.zvt_play.specs.Numbers.{sent_as}
use Rattle.zvt_play.specs.Script.{Act, act_of, await, bind, break, listen, prepare, same, send, silence, wait}
use Rattle.zvt_play.specs.declared.numbers.Names.{Names}
use Rattle.zvt_play.specs.Playing.{EndsBefore, EndsLine, LineState, Played, Plays, PlaysTo, Sends, Stops, StopsAt, StopsPlay, WritesAll, acts_of, failed_reads, line_state}
use Rattle.zvt_play.specs.declared.difference.Difference.{Difference}
use Rattle.zvt_play.specs.declared.difference.Difference.TheVariants.{Closed, Malformed, Other, Read, Surplus, Write}
use Rattle.zvt_play.specs.declared.difference.Unplayed.{Unplayed}
use Rattle.zvt_play.specs.declared.step.ScriptStep.{ScriptStep}

plays_more : (r : LineReading) (acts : List Act) (act : Act) (old middle new : LineState) → Plays r acts old middle → Played r act middle new → Plays r (acts ++ act ∷ []) old new
plays_more r [] act old middle new p q = (new, subst (λ (s : LineState). Played r act s new) p q, refl)
plays_more r (first ∷ acts) act old middle new p q = (p.0, p.1, plays_more r acts act p.0 middle new p.2 q)

acts_next : (steps : List ScriptStep) (i : ℕ) (step : ScriptStep) → i < length steps → step ≡ get_or steps i step → take (i + 1) (acts_of steps) ≡ take i (acts_of steps) ++ act_of step.action ∷ []
acts_next steps i step below is =
    let f : ScriptStep → Act = λ (s : ScriptStep). act_of s.action in
    take-map f (i + 1) steps ∙ ap (map f) (take_more steps i step below) ∙ map-append f (take i steps) (get_or steps i step ∷ [])
    ∙ ap (λ (s : ScriptStep). map f (take i steps) ++ f s ∷ []) (sym is) ∙ ap (λ (a : List Act). a ++ f step ∷ []) (sym (take-map f i steps))

pub one_more : (r : LineReading) (steps : List ScriptStep) (i : ℕ) (step : ScriptStep) (old middle new : LineState) → i < length steps → step ≡ get_or steps i step → Plays r (take i (acts_of steps)) old middle → Played r (act_of step.action) middle new → Plays r (take (i + 1) (acts_of steps)) old new
one_more r steps i step old middle new below is p q =
    subst (λ (acts : List Act). Plays r acts old new) (sym (acts_next steps i step below is)) (plays_more r (take i (acts_of steps)) (act_of step.action) old middle new p q)

-- the step at which it ends is the first of those that are left
pub acts_left : (steps : List ScriptStep) (i : ℕ) (step : ScriptStep) → i < length steps → step ≡ get_or steps i step → drop i (acts_of steps) ≡ act_of step.action ∷ drop (suc i) (acts_of steps)
acts_left steps i step below is =
    let f : ScriptStep → Act = λ (s : ScriptStep). act_of s.action in
    drop-map f i steps ∙ ap (map f) (drop-cons steps i step below) ∙ ap (λ (s : ScriptStep). f s ∷ map f (drop (suc i) steps)) (sym is) ∙ ap (λ (a : List Act). f step ∷ a) (sym (drop-map f (suc i) steps))

pub ends_here : (r : LineReading) (steps : List ScriptStep) (i : ℕ) (step : ScriptStep) (old : LineState) (unheard : List ℕ) (left written : Option (List ℕ)) (lent : Option Message) (names : Names) → i < length steps → step ≡ get_or steps i step → Plays r (take i (acts_of steps)) old (line_state unheard left written lent names) → EndsLine (act_of step.action) (line_state unheard left written lent names) → PlaysTo r steps i old left written lent names
ends_here r steps i step old unheard left written lent names below is p e = record {
  unheard = unheard;
  few = omega arith;
  plays = p;
  ends = subst (λ (acts : List Act). EndsBefore acts (line_state unheard left written lent names)) (sym (acts_left steps i step below is)) e;
}

pub stops_here : (r : LineReading) (steps : List ScriptStep) (i : ℕ) (step : ScriptStep) (why : Difference) (old middle : LineState) (unheard : List ℕ) (left written : Option (List ℕ)) (stream : StreamState) (names : Names)
    → i < length steps → step ≡ get_or steps i step → Plays r (take i (acts_of steps)) old middle → Stops r why (act_of step.action) middle (line_state unheard left written stream.lent names) stream → StopsPlay r steps (record { step = i; why = why }) old left written stream names
stops_here r steps i step why old middle unheard left written stream names below is p s = record {
  middle = middle;
  unheard = unheard;
  few = omega arith;
  plays = p;
  stops = subst (λ (acts : List Act). StopsAt r why acts middle (line_state unheard left written stream.lent names) stream) (sym (acts_left steps i step below is)) s;
}

-- all steps were played
all_acts : (steps : List ScriptStep) (i : ℕ) → i ≡ length steps → drop i (acts_of steps) ≡ []
all_acts steps i is = drop_all i (acts_of steps) (omega (arith, is, length-map steps (λ (s : ScriptStep). act_of s.action)))

pub ends_all : (r : LineReading) (steps : List ScriptStep) (i : ℕ) (old : LineState) (unheard : List ℕ) (left written : Option (List ℕ)) (lent : Option Message) (names : Names) → i ≡ length steps → Plays r (take i (acts_of steps)) old (line_state unheard left written lent names) → unheard ≡ [] → PlaysTo r steps i old left written lent names
ends_all r steps i old unheard left written lent names is p none = record {
  unheard = unheard;
  few = omega arith;
  plays = p;
  ends = subst (λ (acts : List Act). EndsBefore acts (line_state unheard left written lent names)) (sym (all_acts steps i is)) none;
}

pub stops_at_end : (r : LineReading) (steps : List ScriptStep) (i count : ℕ) (old : LineState) (unheard : List ℕ) (left written : Option (List ℕ)) (stream : StreamState) (names : Names)
    → i ≡ length steps → Plays r (take i (acts_of steps)) old (line_state unheard left written stream.lent names) → count ≡ length unheard → 0 < count → StopsPlay r steps (record { step = i; why = Surplus count }) old left written stream names
stops_at_end r steps i count old unheard left written stream names is p all some = record {
  middle = line_state unheard left written stream.lent names;
  unheard = unheard;
  few = omega arith;
  plays = p;
  stops = subst (λ (acts : List Act). StopsAt r (Surplus count) acts (line_state unheard left written stream.lent names) (line_state unheard left written stream.lent names) stream) (sym (all_acts steps i is)) (all, some, refl);
}

-- ---- what was written

-- what a step that was played sends
sent_one : (r : LineReading) (act : Act) (old new : LineState) → Played r act old new → (sent : List ℕ) × Sends act old.names new.names sent × Appends old.written new.written sent
sent_one r (send bytes) old new p = (sent_as old.names.next bytes, (ap (λ (s : LineState). s.names) p.is, refl), p.sent)
sent_one r (await bytes) old new p = ([], (ap (λ (s : LineState). s.names) p.is, refl), subst (λ (w : Option (List ℕ)). Appends old.written w []) (sym (ap (λ (s : LineState). s.written) p.is)) (appends_none old.written))
sent_one r break old new p = absurd p
sent_one r (wait milliseconds) old new p = ([], (ap (λ (s : LineState). s.names) p, refl), subst (λ (s : LineState). Appends old.written s.written []) (sym p) (appends_none old.written))
sent_one r silence old new p = absurd p
sent_one r (listen milliseconds) old new p = absurd p
sent_one r (bind field name) old new p = ([], ((p.0.0, p.0.3), refl), subst (λ (w : Option (List ℕ)). Appends old.written w []) (sym (ap (λ (s : LineState). s.written) p.1)) (appends_none old.written))
sent_one r (same field name) old new p = ([], (ap (λ (s : LineState). s.names) p.1, refl), subst (λ (s : LineState). Appends old.written s.written []) (sym p.1) (appends_none old.written))
sent_one r (prepare field name) old new p = ([], (ap (λ (s : LineState). s.names) p, refl), subst (λ (w : Option (List ℕ)). Appends old.written w []) (sym (ap (λ (s : LineState). s.written) p)) (appends_none old.written))

pub sent : (r : LineReading) (acts : List Act) (old new : LineState) → Plays r acts old new → WritesAll acts old.names new.names old.written new.written
sent r [] old new p = ([], (ap (λ (s : LineState). s.names) p, refl), subst (λ (s : LineState). Appends old.written s.written []) (sym p) (appends_none old.written))
sent r (act ∷ acts) old new p =
    let one = sent_one r act old p.0 p.1 in
    let rest = sent r acts p.0 new p.2 in
    (one.0 ++ rest.0, (p.0.names, one.0, rest.0, one.1, rest.1, refl), appends_more old.written p.0.written new.written one.0 rest.0 one.2 rest.2)

pub sent_to : (r : LineReading) (steps : List ScriptStep) (count : ℕ) (old : LineState) (left written : Option (List ℕ)) (lent : Option Message) (names : Names) → PlaysTo r steps count old left written lent names → WritesAll (take count (acts_of steps)) old.names names old.written written
sent_to r steps count old left written lent names p = sent r (take count (acts_of steps)) old (line_state p.unheard left written lent names) p.plays

-- a step that could not be played has sent nothing and named nothing, but where a write failed
abbrev Unchanged : (old new : LineState) → Type 0
Unchanged old new = (new.written ≡ old.written) × (new.names ≡ old.names)

unchanged : (old new : LineState) → new ≡ old → Unchanged old new
unchanged old new is = (ap (λ (s : LineState). s.written) is, ap (λ (s : LineState). s.names) is)

stopped_sends_nothing : (r : LineReading) (why : Difference) (act : Act) (old new : LineState) (stream : StreamState) → (why ≡ Write → ⊥) → Stops r why act old new stream → Unchanged old new
stopped_sends_nothing r why (await bytes) old new stream never s = (s.1, s.2)
stopped_sends_nothing r (Surplus count) (send bytes) old new stream never s = unchanged old new s.2
stopped_sends_nothing r (Surplus count) break old new stream never s = unchanged old new s.2
stopped_sends_nothing r (Surplus count) (listen n) old new stream never s = unchanged old new s.2
stopped_sends_nothing r (Other at) (bind field name) old new stream never s = unchanged old new s.2
stopped_sends_nothing r (Other at) (same field name) old new stream never s = unchanged old new s.2
stopped_sends_nothing r Write act old new stream never s = absurd (never refl)
stopped_sends_nothing r (Surplus count) (wait n) old new stream never s = absurd s
stopped_sends_nothing r (Surplus count) silence old new stream never s = absurd s
stopped_sends_nothing r (Surplus count) (bind field name) old new stream never s = absurd s
stopped_sends_nothing r (Surplus count) (same field name) old new stream never s = absurd s
stopped_sends_nothing r (Surplus count) (prepare field name) old new stream never s = absurd s
stopped_sends_nothing r (Other at) (send bytes) old new stream never s = absurd s
stopped_sends_nothing r (Other at) break old new stream never s = absurd s
stopped_sends_nothing r (Other at) (wait n) old new stream never s = absurd s
stopped_sends_nothing r (Other at) silence old new stream never s = absurd s
stopped_sends_nothing r (Other at) (listen n) old new stream never s = absurd s
stopped_sends_nothing r (Other at) (prepare field name) old new stream never s = absurd s
stopped_sends_nothing r (Closed have) (send bytes) old new stream never s = absurd s
stopped_sends_nothing r (Closed have) break old new stream never s = absurd s
stopped_sends_nothing r (Closed have) (wait n) old new stream never s = absurd s
stopped_sends_nothing r (Closed have) silence old new stream never s = absurd s
stopped_sends_nothing r (Closed have) (listen n) old new stream never s = absurd s
stopped_sends_nothing r (Closed have) (bind field name) old new stream never s = absurd s
stopped_sends_nothing r (Closed have) (same field name) old new stream never s = absurd s
stopped_sends_nothing r (Closed have) (prepare field name) old new stream never s = absurd s
stopped_sends_nothing r (Malformed place w) (send bytes) old new stream never s = absurd s
stopped_sends_nothing r (Malformed place w) break old new stream never s = absurd s
stopped_sends_nothing r (Malformed place w) (wait n) old new stream never s = absurd s
stopped_sends_nothing r (Malformed place w) silence old new stream never s = absurd s
stopped_sends_nothing r (Malformed place w) (listen n) old new stream never s = absurd s
stopped_sends_nothing r (Malformed place w) (bind field name) old new stream never s = absurd s
stopped_sends_nothing r (Malformed place w) (same field name) old new stream never s = absurd s
stopped_sends_nothing r (Malformed place w) (prepare field name) old new stream never s = absurd s
stopped_sends_nothing r Read (send bytes) old new stream never s = absurd s
stopped_sends_nothing r Read break old new stream never s = absurd s
stopped_sends_nothing r Read (wait n) old new stream never s = absurd s
stopped_sends_nothing r Read silence old new stream never s = absurd s
stopped_sends_nothing r Read (listen n) old new stream never s = absurd s
stopped_sends_nothing r Read (bind field name) old new stream never s = absurd s
stopped_sends_nothing r Read (same field name) old new stream never s = absurd s
stopped_sends_nothing r Read (prepare field name) old new stream never s = absurd s

stopped_at : (r : LineReading) (why : Difference) (acts : List Act) (old new : LineState) (stream : StreamState) → (why ≡ Write → ⊥) → StopsAt r why acts old new stream → Unchanged old new
stopped_at r why (act ∷ acts) old new stream never s = stopped_sends_nothing r why act old new stream never s
stopped_at r (Surplus count) [] old new stream never s = unchanged old new s.2
stopped_at r (Other at) [] old new stream never s = absurd s
stopped_at r (Closed have) [] old new stream never s = absurd s
stopped_at r (Malformed place w) [] old new stream never s = absurd s
stopped_at r Read [] old new stream never s = absurd s
stopped_at r Write [] old new stream never s = absurd s

pub sent_before : (r : LineReading) (steps : List ScriptStep) (unplayed : Unplayed) (old : LineState) (left written : Option (List ℕ)) (stream : StreamState) (names : Names) → StopsPlay r steps unplayed old left written stream names → (unplayed.why ≡ Write → ⊥) → WritesAll (take unplayed.step (acts_of steps)) old.names names old.written written
sent_before r steps unplayed old left written stream names s never =
    let same = stopped_at r unplayed.why (drop unplayed.step (acts_of steps)) s.middle (line_state s.unheard left written stream.lent names) stream never s.stops in
    let all = sent r (take unplayed.step (acts_of steps)) old s.middle s.plays in
    let by_names = subst (λ (n : Names). WritesAll (take unplayed.step (acts_of steps)) old.names n old.written s.middle.written) (sym same.1) all in
    subst (λ (w : Option (List ℕ)). WritesAll (take unplayed.step (acts_of steps)) old.names names old.written w) (sym same.0) by_names

-- the step that ends what is played over the connection changes nothing
pub ends_after : (r : LineReading) (steps : List ScriptStep) (i : ℕ) (step : ScriptStep) (old middle new : LineState) → i < length steps → step ≡ get_or steps i step → Plays r (take i (acts_of steps)) old middle → EndsLine (act_of step.action) middle × (new ≡ middle) → PlaysTo r steps i old new.coming new.written new.lent new.names
ends_after r steps i step old middle new below is p e =
    subst (λ (s : LineState). PlaysTo r steps i old s.coming s.written s.lent s.names) (sym e.1) (ends_here r steps i step old middle.unheard middle.coming middle.written middle.lent middle.names below is p e.0)

-- no read fails while an own line is sent
pub sends_without_reads : (r : LineReading) (why : Difference) (bytes : List ℕ) (old new : LineState) (stream : StreamState) → Stops r why (send bytes) old new stream → failed_reads why ≡ 0
sends_without_reads r (Surplus count) bytes old new stream s = refl
sends_without_reads r Write bytes old new stream s = refl
sends_without_reads r (Other at) bytes old new stream s = absurd s
sends_without_reads r (Closed have) bytes old new stream s = absurd s
sends_without_reads r (Malformed place w) bytes old new stream s = absurd s
sends_without_reads r Read bytes old new stream s = absurd s
