-- What is borrowed is what the bytes spell.
use Rattle.std.proofs.Common.{◌≡◌, arith, inl, inr, ℕ, suc, ◌+◌, ◌<◌, Bool, true, false, Option, Some, None, IfSome, IsSome, List, [], ◌++◌, length, take, append-nil, sym, ◌∙◌, ap, subst, refl}
use Rattle.std.proofs.Math.Logic.{∥∥₁_elim}
use Rattle.std.proofs.Math.Seq.{take-append-add, take-length}
use Rattle.std.specs.Coded.{Coded-set}
use Rattle.zvt_grammar.specs.Reading.{Reading, shortest, padded}
use Rattle.zvt_apdu.specs.Message.{Message}
use Rattle.zvt_apdu.specs.MessageCode.{message_code}
use Rattle.zvt_apdu.specs.Grammar.{Spells}
use Rattle.zvt_apdu.specs.Views.{MessageBytes}
use Rattle.zvt_apdu.proofs.ViewLemmas.{message_loosened, same_message}
use Rattle.zvt_grammar.specs.declared.why.Why.{Why}
use Rattle.zvt_stream.specs.Head.{head_of}
use Rattle.zvt_stream.specs.LineReading.{IsRefusedBy, LineReading, Reads, UnfinishedBy, kind_named, line_reading, openly, stand_in, strictly}
use Rattle.zvt_stream.specs.OpenReading.{IsFramed}
use Rattle.zvt_stream.specs.Passing.{IsPassing, Knows, judged_bytes, stops}
use Rattle.zvt_stream.specs.Feeds.{Feeds, Lends}
use Rattle.zvt_stream.specs.Judge.{HasLevelsBy, HasLevelsIn, JudgeState, IsMessageIn, Ran, StandsFor, start}
use Rattle.zvt_stream.specs.Lending.{LentBytes, lent_of, held_of}
use Rattle.zvt_stream.specs.StreamState.{StreamState, IsSound, Keeps}
use Rattle.zvt_stream.specs.declared.stream.Fed.TheVariants as fed
use Rattle.zvt_stream.specs.declared.stream.FedView.TheVariants as view
use Rattle.zvt_stream.specs.declared.judge.DecodeRun.{DecodeRun}
use Rattle.zvt_stream.specs.declared.judge.DecodeRun.TheVariants as run
use Rattle.zvt_stream.proofs.JudgedFeeds.{fresh, ran_out}
use Rattle.zvt_stream.proofs.LineReadingLemmas.{few_by}
use Rattle.zvt_stream.proofs.OpenLineLemmas.{reads_line, unfinished_line}
use Rattle.zvt_stream.proofs.UnreadLemmas.{unread_read}

-- what a reading spells the padded one spells
loosened : (r : Reading) (m : Message) (s : List ℕ) → Spells r m s → Spells padded m s
loosened shortest m s p = message_loosened m s p
loosened padded m s p = p

-- bytes that a judge found whole
pub message_bytes : (r : Reading) (bytes : List ℕ) → IsMessageIn r bytes → MessageBytes bytes
message_bytes r bytes m = (m.0, ∣ loosened r m.0 bytes m.1 ∣₁)

-- a view of the bytes that are borrowed shows the message that is
pub lent_is : (has_message refused : Bool) (bytes d : List ℕ) (s : LentBytes has_message refused bytes) (r : Message) → has_message ≡ true → refused ≡ false → d ≡ bytes → ((m : Message) → Spells padded m d → r ≡ m) → Some r ≡ lent_of has_message refused bytes s
lent_is true false bytes d s r is runs e x =
    ap Some (∥∥₁_elim (s refl refl).1 (Coded-set message_code _ _) (λ p. x (s refl refl).0 (subst (Spells padded (s refl refl).0) (sym e) p)))
lent_is false refused bytes d s r is runs e x = absurd (cc (is))
lent_is true true bytes d s r is runs e x = absurd (cc (runs))

-- a view of a stand-in
pub lent_stand_in : (has_message refused : Bool) (bytes : List ℕ) (s : LentBytes has_message refused bytes) (r : Message) → has_message ≡ true → refused ≡ true → r ≡ stand_in (kind_named (head_of bytes)) → Some r ≡ lent_of has_message refused bytes s
lent_stand_in true true bytes s r is refuses e = ap Some e
lent_stand_in false refused bytes s r is refuses e = absurd (cc (is))
lent_stand_in true false bytes s r is refuses e = absurd (cc (refuses))

pub some_has : (has_message refused : Bool) (bytes : List ℕ) (s : LentBytes has_message refused bytes) → IsSome (lent_of has_message refused bytes s) → has_message ≡ true
some_has true refused bytes s some = refl
some_has false refused bytes s some = absurd (cc (some))

pub none_lent : (has_message refused : Bool) (bytes : List ℕ) (s : LentBytes has_message refused bytes) → has_message ≡ false → None ≡ lent_of has_message refused bytes s
none_lent false refused bytes s is = refl
none_lent true refused bytes s is = absurd (cc (is))

-- the bytes that are borrowed are read as the message that is
lent_spells : (r : Reading) (bytes : List ℕ) (s : LentBytes true false bytes) → IsMessageIn r bytes → Spells r (s refl refl).0 bytes
lent_spells r bytes s w =
    let same : (s refl refl).0 ≡ w.0 = same_message w.0 bytes ∣ loosened r w.0 bytes w.1 ∣₁ (s refl refl) in
    subst (λ (k : Message). Spells r k bytes) (sym same) w.1

pub some_read : (o refused has_message : Bool) (judge : JudgeState) (bytes : List ℕ) (s : LentBytes has_message refused bytes) → Knows o refused has_message judge bytes → IfSome (lent_of has_message refused bytes s) (λ m. Reads (line_reading o judge.reading) m bytes × (true ≡ true))
some_read o refused false judge bytes s k = tt
some_read o false true judge bytes s k = (reads_line o judge.reading (s refl refl).0 bytes (lent_spells judge.reading bytes s (k refl)), refl)
some_read false true true judge bytes s k = absurd (cc (k))
some_read true true true judge bytes s k = (unread_read judge.reading bytes k.place k.why k.framed k.refused, refl)

-- what is lent after a refusal is a frame
pub lent_frame : (o refused has_message : Bool) (judge : JudgeState) (bytes : List ℕ) → has_message ≡ true → refused ≡ true → Knows o refused has_message judge bytes → IsFramed bytes
lent_frame true true true judge bytes is refuses k = k.framed
lent_frame false true true judge bytes is refuses k = absurd (cc (k))
lent_frame o false has_message judge bytes is refuses k = absurd (cc (refuses))
lent_frame o true false judge bytes is refuses k = absurd (cc (is))

some_is_none : {m : Message} → Some m ≡ None → ⊥
some_is_none e = cc

-- What a stream has that lends nothing.
pub record Idle (o refused has_message : Bool) (bytes : List ℕ) (judge : JudgeState) (old : StreamState) : Type 0 where
  pub idle : has_message ≡ false
  pub is_held : bytes ≡ old.held
  pub alike : line_reading o judge.reading ≡ old.reading
  pub few : length bytes < 65540
  pub stands : refused ≡ false → StandsFor judge bytes
  pub passing : refused ≡ true → o ≡ true → IsPassing judge bytes
  pub stopped : stops refused o ≡ old.stopped

pub idle : (o refused has_message : Bool) (bytes : List ℕ) (s : LentBytes has_message refused bytes) (room judged : ℕ) (dead_bytes : List ℕ) (judge : JudgeState) (old now : StreamState)
    → (let state : StreamState = record { held = held_of has_message bytes; stopped = stops refused o; lent = lent_of has_message refused bytes s; room = room; judged = judged; reading = line_reading o judge.reading; refused_bytes = dead_bytes } in state) ≡ now → Keeps old now
    → IsSound (line_reading o judge.reading) (held_of has_message bytes) (stops refused o) × StandsFor judge (judged_bytes refused (held_of has_message bytes)) × Knows o refused has_message judge bytes → Idle o refused has_message bytes judge old
idle o false false bytes s room judged dead_bytes judge old now is keeps sound = record {
  idle = refl;
  is_held = ap (λ (t : StreamState). t.held) is ∙ keeps.0;
  alike = ap (λ (t : StreamState). t.reading) is ∙ keeps.3;
  few = few_by (line_reading o judge.reading) bytes sound.0.unfinished;
  stands = λ e. sound.1;
  passing = λ e. absurd (cc (e));
  stopped = ap (λ (t : StreamState). t.stopped) is ∙ keeps.1;
}
idle false true false bytes s room judged dead_bytes judge old now is keeps sound = record {
  idle = refl;
  is_held = ap (λ (t : StreamState). t.held) is ∙ keeps.0;
  alike = ap (λ (t : StreamState). t.reading) is ∙ keeps.3;
  few = few_by (strictly judge.reading) bytes sound.0.unfinished;
  stands = λ e. absurd (cc (e));
  passing = λ e f. absurd (cc (f));
  stopped = ap (λ (t : StreamState). t.stopped) is ∙ keeps.1;
}
idle true true false bytes s room judged dead_bytes judge old now is keeps sound = record {
  idle = refl;
  is_held = ap (λ (t : StreamState). t.held) is ∙ keeps.0;
  alike = ap (λ (t : StreamState). t.reading) is ∙ keeps.3;
  few = few_by (openly judge.reading) bytes sound.0.unfinished;
  stands = λ e. absurd (cc (e));
  passing = λ e f. sound.2;
  stopped = ap (λ (t : StreamState). t.stopped) is ∙ keeps.1;
}
idle o false true bytes s room judged dead_bytes judge old now is keeps sound = absurd (some_is_none (ap (λ (t : StreamState). t.lent) is ∙ keeps.2))
idle o true true bytes s room judged dead_bytes judge old now is keeps sound = absurd (some_is_none (ap (λ (t : StreamState). t.lent) is ∙ keeps.2))

-- what a run of a judge says, of a reading that is the judge's
pub ran_in : (r : Reading) (judge : JudgeState) (bytes piece : List ℕ) (q : DecodeRun) (new : JudgeState) → judge.reading ≡ r → Ran judge.reading bytes piece q new → Ran r bytes piece q new
ran_in r judge bytes piece q new e = subst (λ (k : Reading). Ran k bytes piece q new) e

-- a stream that holds nothing, with a new judge: it reads on, or has refused
pub emptied : (o : Bool) (r : Reading) (refused has_message : Bool) (bytes : List ℕ) (judge : JudgeState) → refused ≡ false → has_message ≡ false → judge ≡ start r → bytes ≡ [] → IsSound (line_reading o judge.reading) (held_of has_message bytes) (stops refused o) × StandsFor judge (judged_bytes refused (held_of has_message bytes)) × Knows o refused has_message judge bytes
emptied o r false false bytes judge runs is e f = let new = fresh (line_reading o judge.reading) r judge bytes false e f in (new.0, new.1, λ lent. absurd (cc (lent)))
emptied o r true has_message bytes judge runs is e f = absurd (cc (runs))
emptied o r false true bytes judge runs is e f = absurd (cc (is))

pub refused_all : (o : Bool) (r : Reading) (has_message : Bool) (bytes : List ℕ) (judge : JudgeState) → o ≡ false → has_message ≡ false → judge ≡ start r → bytes ≡ [] → IsSound (line_reading o judge.reading) (held_of has_message bytes) (stops true o) × StandsFor judge (take 2 (held_of has_message bytes)) × Knows o true has_message judge bytes
refused_all false r false bytes judge strict is e f = let new = fresh (strictly judge.reading) r judge bytes true e f in (new.0, subst (λ (b : List ℕ). StandsFor judge (take 2 b)) (sym f) (subst (StandsFor judge) f new.1), refl)
refused_all true r has_message bytes judge strict is e f = absurd (cc (strict))
refused_all false r true bytes judge strict is e f = absurd (cc (is))

-- a stream that holds more
pub grown : (o refused has_message : Bool) (bytes : List ℕ) (judge : JudgeState) → refused ≡ false → has_message ≡ false → StandsFor judge bytes → IsSound (line_reading o judge.reading) (held_of has_message bytes) (stops refused o) × StandsFor judge (judged_bytes refused (held_of has_message bytes)) × Knows o refused has_message judge bytes
grown o false false bytes judge runs is s = (record { unfinished = unfinished_line o judge.reading bytes s.unfinished; none_held = λ e. absurd (cc (e)) }, s, λ lent. absurd (cc (lent)))
grown o true has_message bytes judge runs is s = absurd (cc (runs))
grown o false true bytes judge runs is s = absurd (cc (is))

-- a stream that lends
pub lending : (o : Bool) (r : Reading) (refused : Bool) (bytes : List ℕ) (judge : JudgeState) → refused ≡ false → judge ≡ start r → IsMessageIn r bytes → IsSound (line_reading o judge.reading) [] (stops refused o) × StandsFor judge (judged_bytes refused []) × Knows o refused true judge bytes
lending o r false bytes judge runs e whole =
    let new = fresh (line_reading o judge.reading) r judge [] false e refl in
    (new.0, new.1, λ lent. subst (λ (k : Reading). IsMessageIn k bytes) (sym (ap (λ (j : JudgeState). j.reading) e)) whole)
lending o r true bytes judge runs e whole = absurd (cc (runs))

-- a stream that reads on has not stopped
runs : (refused o : Bool) → refused ≡ false → stops refused o ≡ false
runs false o e = refl
runs true o e = absurd (cc (e))

-- what a feed gives where no message ended
pub feeds_more : (o refused has_message : Bool) (bytes piece after : List ℕ) (lent : Option Message) (room judged : ℕ) (dead_bytes : List ℕ) (judge new : JudgeState) (old : StreamState)
    → Idle o refused has_message bytes judge old → StandsFor new (bytes ++ piece) × (new.reading ≡ judge.reading) → after ≡ bytes ++ piece → refused ≡ false
    → Feeds old piece fed.More (let state : StreamState = record { held = held_of has_message after; stopped = stops refused o; lent = lent; room = room; judged = judged; reading = line_reading o new.reading; refused_bytes = dead_bytes } in state)
feeds_more o refused false bytes piece after lent room judged dead_bytes judge new old i s is reads =
    let same : bytes ++ piece ≡ old.held ++ piece = ap (λ (b : List ℕ). b ++ piece) i.is_held in
    let alike : line_reading o new.reading ≡ old.reading = ap (line_reading o) s.1 ∙ i.alike in
    (subst (UnfinishedBy old.reading) same (subst (λ (l : LineReading). UnfinishedBy l (bytes ++ piece)) alike (unfinished_line o new.reading (bytes ++ piece) s.0.unfinished)), (is ∙ same, runs refused o reads), alike)
feeds_more o refused true bytes piece after lent room judged dead_bytes judge new old i s is reads = absurd (cc (i.idle))

up_to : (at : ℕ) (bytes piece : List ℕ) → bytes ++ take (at + 1) piece ≡ take (suc (length bytes + at)) (bytes ++ piece)
up_to at bytes piece = sym (take-append-add bytes piece (at + 1)) ∙ ap (λ (n : ℕ). take n (bytes ++ piece)) {y = suc (length bytes + at)} (omega arith)

-- and where bytes were refused
pub feeds_refused : (o refused has_message : Bool) (bytes piece after : List ℕ) (lent : Option Message) (dead_bytes : List ℕ) (room judged at place : ℕ) (why : Why) (judge new : JudgeState) (old : StreamState)
    → Idle o refused has_message bytes judge old → refused ≡ false → o ≡ false → Ran judge.reading bytes piece (run.Refused at why) new → place ≡ length bytes + at → after ≡ [] → dead_bytes ≡ bytes ++ take (at + 1) piece
    → Feeds old piece (fed.Refused place why) (let state : StreamState = record { held = held_of has_message after; stopped = stops true o; lent = lent; room = room; judged = judged; reading = line_reading o new.reading; refused_bytes = dead_bytes } in state)
feeds_refused false refused false bytes piece after lent dead_bytes room judged at place why judge new old i reads strict ran is none opens =
    let out = ran_out judge.reading new bytes piece at why (i.stands reads).unfinished ran in
    let alike : strictly new.reading ≡ old.reading = ap (λ (j : JudgeState). strictly j.reading) ran.2 ∙ i.alike in
    let refusal : IsRefusedBy old.reading (bytes ++ piece) (length bytes + at) why = subst (λ (l : LineReading). IsRefusedBy l (bytes ++ piece) (length bytes + at) why) i.alike out.0 in
    rw (← i.is_held, is) (refusal, out.1, (none, refl), alike, opens ∙ up_to at bytes piece)
feeds_refused false refused true bytes piece after lent dead_bytes room judged at place why judge new old i reads strict ran is none opens = absurd (cc (i.idle))
feeds_refused true refused has_message bytes piece after lent dead_bytes room judged at place why judge new old i reads strict ran is none opens = absurd (cc (strict))

-- and where a message ended, which is borrowed
pub lends_message : (o refused : Bool) (bytes piece after : List ℕ) (s : LentBytes true refused after) (dead_bytes : List ℕ) (room judged taken : ℕ) (judge new : JudgeState) (has_message : Bool) (old : StreamState)
    → Idle o refused has_message bytes judge old → Ran judge.reading bytes piece (run.Ended taken) new → after ≡ bytes ++ take taken piece → refused ≡ false
    → Lends old piece (view.Message taken) (let state : StreamState = record { held = []; stopped = stops refused o; lent = lent_of true refused after s; room = room; judged = judged; reading = line_reading o new.reading; refused_bytes = dead_bytes } in state)
lends_message o false bytes piece after s dead_bytes room judged taken judge new has_message old i ran is reads =
    let r = judge.reading in
    let whole : IsMessageIn r after = subst (IsMessageIn r) (sym is) ran.2 in
    let found : Reads old.reading whole.0 after = subst (λ (l : LineReading). Reads l whole.0 after) i.alike (reads_line o r whole.0 after whole.1) in
    let here : Reads old.reading whole.0 (old.held ++ take taken piece) = subst (Reads old.reading whole.0) (is ∙ ap (λ (b : List ℕ). b ++ take taken piece) i.is_held) found in
    (whole.0, (ran.0, ran.1, here, (refl, refl), ap (λ (j : JudgeState). line_reading o j.reading) ran.3 ∙ i.alike), ap Some (same_message whole.0 after ∣ loosened r whole.0 after whole.1 ∣₁ (s refl refl)))
lends_message o true bytes piece after s dead_bytes room judged taken judge new has_message old i ran is reads = absurd (cc (reads))

-- a feed whose message is the one that is shown
pub feeds_shown : (old new : StreamState) (piece : List ℕ) (taken : ℕ) (shown : Option Message) (apdu : Message) → Lends old piece (view.Message taken) new → shown ≡ new.lent → shown ≡ Some apdu → Feeds old piece (fed.Message apdu taken) new
feeds_shown old new piece taken shown apdu has_message is found = subst (λ (m : Message). Feeds old piece (fed.Message m taken) new) (some_is (sym has_message.2 ∙ sym is ∙ found)) has_message.1
  where
    some_is : {a b : Message} → Some a ≡ Some b → a ≡ b
    some_is e = cc (e)

-- what is held after bytes of a piece were kept: all, its first ones, or none
pub kept_all : (bytes piece old new : List ℕ) → new ≡ old ++ take (length piece) piece → old ≡ bytes → new ≡ bytes ++ piece
kept_all bytes piece old new is same = is ∙ ap (λ (b : List ℕ). b ++ take (length piece) piece) same ∙ ap (λ (p : List ℕ). bytes ++ p) (take-length piece)

pub kept_first : (bytes piece old new : List ℕ) (taken : ℕ) → new ≡ old ++ take taken piece → old ≡ bytes → new ≡ bytes ++ take taken piece
kept_first bytes piece old new taken is same = is ∙ ap (λ (b : List ℕ). b ++ take taken piece) same

pub kept_none : (bytes piece old new : List ℕ) → new ≡ old ++ take 0 piece → old ≡ bytes → new ≡ bytes
kept_none bytes piece old new is same = is ∙ append-nil old ∙ same

-- and where a message ended, which is built
pub feeds_message : (o refused has_message : Bool) (bytes piece final : List ℕ) (apdu : Message) (lent : Option Message) (dead_bytes : List ℕ) (room judged taken : ℕ) (judge new : JudgeState) (old : StreamState)
    → Idle o refused has_message bytes judge old → Ran judge.reading bytes piece (run.Ended taken) new → Spells judge.reading apdu (bytes ++ take taken piece) → final ≡ [] → refused ≡ false
    → Feeds old piece (fed.Message apdu taken) (let state : StreamState = record { held = held_of has_message final; stopped = stops refused o; lent = lent; room = room; judged = judged; reading = line_reading o new.reading; refused_bytes = dead_bytes } in state)
feeds_message o refused false bytes piece final apdu lent dead_bytes room judged taken judge new old i ran spells none reads =
    let found : Reads old.reading apdu (bytes ++ take taken piece) = subst (λ (l : LineReading). Reads l apdu (bytes ++ take taken piece)) i.alike (reads_line o judge.reading apdu (bytes ++ take taken piece) spells) in
    (ran.0, ran.1, subst (λ (b : List ℕ). Reads old.reading apdu (b ++ take taken piece)) i.is_held found, (none, runs refused o reads), ap (λ (j : JudgeState). line_reading o j.reading) ran.3 ∙ i.alike)
feeds_message o refused true bytes piece final apdu lent dead_bytes room judged taken judge new old i ran spells none reads = absurd (cc (i.idle))

-- how many levels are open
pub levels_by : (o refused has_message : Bool) (judge : JudgeState) (bytes : List ℕ) (n : ℕ) → IsSound (line_reading o judge.reading) (held_of has_message bytes) (stops refused o) × StandsFor judge (judged_bytes refused (held_of has_message bytes)) × Knows o refused has_message judge bytes
    → ((b : List ℕ) → StandsFor judge b → HasLevelsIn judge.reading b n) → (judge.outer ≡ [] → n ≡ 1) → 0 < length (held_of has_message bytes) → HasLevelsBy (line_reading o judge.reading) (held_of has_message bytes) n
levels_by false false has_message judge bytes n s levels one some = levels (held_of has_message bytes) s.1
levels_by true false has_message judge bytes n s levels one some = inl (levels (held_of has_message bytes) s.1)
levels_by true true false judge bytes n s levels one some = inr ((s.2.place, s.2.why, s.2.refused), one s.2.one_level)
levels_by true true true judge bytes n s levels one some = absurd (omega (arith, some))
levels_by false true has_message judge bytes n s levels one some = absurd (omega (arith, some, ap length (s.0.none_held refl)))

-- the first bytes of a refused message
