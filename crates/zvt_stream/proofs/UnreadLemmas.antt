-- What passing a refused frame says of the stream.
use Rattle.std.proofs.Common.{◌≡◌, ◌⊎◌, inl, inr, ℕ, ◌+◌, ◌<◌, ◌≤◌, suc, zero, Bool, true, false, is_some, is_none, Option, Some, None, List, [], ◌++◌, length, take, drop, refl, sym, ◌∙◌, ap, subst, arith, length-append, append_assoc, append-nil}
use mathlib.Core.Bool.{not}
use Rattle.std.proofs.lemmas.Bool.{cases_lt}
use Rattle.std.proofs.lemmas.List.{length-take-le, take-append-drop}
use Rattle.std.proofs.Math.Seq.{take-append_seam, take-take}
use Rattle.zvt_grammar.specs.declared.why.Why.{Why}
use Rattle.zvt_grammar.specs.Reading.{AreBytes, Reading}
use Rattle.zvt_tlv.proofs.Alive.{prefix_of}
use Rattle.zvt_apdu.specs.Grammar.{Spells}
use Rattle.zvt_apdu.specs.Message.{Message}
use Rattle.zvt_stream.specs.Apdus.{IsRefusedIn, UnfinishedIn}
use Rattle.zvt_stream.specs.Feeds.{Feeds, Lends, taken_by, taken_in_view}
use Rattle.zvt_stream.specs.Lending.{LentBytes, held_of, lent_of}
use Rattle.zvt_stream.specs.Head.{head_of}
use Rattle.zvt_stream.specs.Judge.{JudgeState, StandsFor, start}
use Rattle.zvt_stream.specs.LineReading.{Judges, LineReading, Reads, UnfinishedBy, heard_of, kind_named, line_reading, openly, stand_in}
use Rattle.zvt_stream.specs.OpenReading.{IsFramed, unread}
use Rattle.zvt_stream.specs.Passing.{HearsFrame, IsPassing, Knows, NoFrame, Passes, Rests, judged_bytes, seen_as, stops}
use Rattle.zvt_stream.specs.StreamState.{Holds, IsSound, StreamState}
use Rattle.zvt_stream.specs.declared.stream.Fed.{Fed}
use Rattle.zvt_stream.specs.declared.stream.FedView.{FedView}
use Rattle.zvt_stream.specs.declared.stream.Fed.TheVariants as fed
use Rattle.zvt_stream.proofs.FeedLemmas.{refused_more, sound_empty}
use Rattle.zvt_stream.proofs.JudgeLemmas.{begun_anew_stands}
use Rattle.zvt_stream.proofs.OpenLemmas.{Opens, bytes_joined, frame_item, framed, frames_end, message_frame, none_yet, opens, refused_split, refused_there, short}

-- a frame that begins a message is the message
pub whole_frame : (r : Reading) (m : Message) (b more prefix rest : List ℕ) → b ≡ prefix ++ rest → IsFramed prefix → Spells r m (b ++ more) → Spells r m prefix
whole_frame r m b more prefix rest e f p =
    let same = (frames_end prefix (b ++ more) (rest ++ more) [] f (message_frame r m (b ++ more) p) (sym (append_assoc prefix rest more) ∙ ap (λ (s : List ℕ). s ++ more) (sym e) ∙ sym (append-nil (b ++ more)))).same in
    subst (Spells r m) (sym same) p

-- what is alive begins with no frame but whole ones
pub no_frame : (r : Reading) (b : List ℕ) → UnfinishedIn r b → NoFrame b
no_frame r b u prefix rest e f = u.none_whole u.alive.value prefix rest e (whole_frame r u.alive.value b u.alive.rest prefix rest e f u.alive.spelled)

-- a frame of bytes that are refused is refused
pub framed_refused : (r : Reading) (p f x y : List ℕ) (place : ℕ) (why : Why) → IsRefusedIn r p place why → suc place ≡ length p → IsFramed f → f ++ x ≡ p ++ y → IsRefusedIn r f place why
framed_refused r p f x y place why refused last is e = by_size (cases_lt (length f) (length p))
  where
    by_size : (length f < length p) ⊎ (length p ≤ length f) → IsRefusedIn r f place why
    by_size (inl lt) =
        let t = prefix_of f x p y e (omega (arith, lt)) in
        let before : take place p ≡ f ++ take_rest t = inside t in
        let alive = refused.1.alive in
        absurd (refused.0 alive.value f t.0 t.1 (whole_frame r alive.value (take place p) alive.rest f (take_rest t) before is alive.spelled))
      where
        take_rest : ((t : List ℕ) × (p ≡ f ++ t)) → List ℕ
        take_rest t = drop (length f) (take place p)

        inside : (t : (t : List ℕ) × (p ≡ f ++ t)) → take place p ≡ f ++ take_rest t
        inside t =
            let first : take (length f) (take place p) ≡ f = take-take (length f) place p (omega (arith, lt, last)) ∙ ap (take (length f)) t.1 ∙ take-append_seam f t.0 in
            sym (take-append-drop (length f) (take place p)) ∙ ap (λ (s : List ℕ). s ++ drop (length f) (take place p)) first
    by_size (inr le) =
        let t = prefix_of p y f x (sym e) le in
        subst (λ (s : List ℕ). IsRefusedIn r s place why) (sym t.1) (refused_more r p t.0 place why refused)

-- Bytes are refused in what is held and the piece, so each frame that they are is.
pub record Dead (r : Reading) (bytes piece : List ℕ) (place : ℕ) (why : Why) : Type 0 where
  pub framed : (taken : ℕ) → taken ≤ length piece → IsFramed (bytes ++ take taken piece) → IsRefusedIn r (bytes ++ take taken piece) place why
  pub all : IsRefusedIn r (bytes ++ piece) place why

pub dead_before : (r : Reading) (bytes piece : List ℕ) (place : ℕ) (why : Why) → IsRefusedIn r bytes place why → Dead r bytes piece place why
dead_before r bytes piece place why f = record { framed = λ taken few is. refused_more r bytes (take taken piece) place why f; all = refused_more r bytes piece place why f }

pub dead_now : (r : Reading) (bytes piece : List ℕ) (at : ℕ) (why : Why) → at < length piece → IsRefusedIn r (bytes ++ take (suc at) piece) (length bytes + at) why → Dead r bytes piece (length bytes + at) why
dead_now r bytes piece at why few f = record {
  framed = λ taken less is. framed_refused r (bytes ++ take (suc at) piece) (bytes ++ take taken piece) (drop taken piece) (drop (suc at) piece) (length bytes + at) why f last is (joined taken ∙ sym (joined (suc at)));
  all = subst (λ (b : List ℕ). IsRefusedIn r b (length bytes + at) why) (joined (suc at)) (refused_more r (bytes ++ take (suc at) piece) (drop (suc at) piece) (length bytes + at) why f);
}
  where
    joined : (n : ℕ) → (bytes ++ take n piece) ++ drop n piece ≡ bytes ++ piece
    joined n = append_assoc bytes (take n piece) (drop n piece) ∙ ap (λ (b : List ℕ). bytes ++ b) (take-append-drop n piece)

    last : suc (length bytes + at) ≡ length (bytes ++ take (suc at) piece)
    last = omega (arith, few, length-append bytes (take (suc at) piece), length-take-le (suc at) piece (omega (arith, few)))

-- where no frame is whole the line goes on
pub passing_unfinished : (r : Reading) (b : List ℕ) → AreBytes b → NoFrame b → UnfinishedBy (openly r) b
passing_unfinished r b are none = by_opening (opens b are)
  where
    by_opening : Opens b → UnfinishedBy (openly r) b
    by_opening (framed prefix later e f) = absurd (none prefix later e f)
    by_opening (short more some ready f) =
        let item = frame_item r (b ++ more) f (bytes_joined b more are ready) in
        record {
          alive = record { value = heard_of item.0; rest = more; spelled = (item.0, item.1, refl) };
          none_whole = λ m prefix later e p. none_yet r b more some f p.0 prefix later e p.1;
        }

-- a refused frame is read as its stand-in
pub unread_read : (r : Reading) (b : List ℕ) (place : ℕ) (why : Why) → IsFramed b → IsRefusedIn r b place why → Reads (openly r) (stand_in (kind_named (head_of b))) b
unread_read r b place why (high, low, f) refused =
    (unread high low (length b) (take place b) refused.2.byte why, (f, refl, refused_there r b place why refused, refused_split r b place why refused), sym (ap (λ (s : List ℕ). stand_in (kind_named (head_of s))) f.whole))

-- ---- what a stream has then

refused_in : (r k : Reading) (bytes after : List ℕ) (place : ℕ) (why : Why) → k ≡ r → bytes ≡ after → IsRefusedIn r bytes place why → IsRefusedIn k after place why
refused_in r k bytes after place why e same f = subst (λ (s : List ℕ). IsRefusedIn k s place why) same (subst (λ (q : Reading). IsRefusedIn q bytes place why) (sym e) f)

passing : (r : Reading) (bytes piece after : List ℕ) (place : ℕ) (why : Why) (judge : JudgeState) → Dead r bytes piece place why → Passes bytes piece None after → Rests r after None judge
    → IsSound (openly judge.reading) after false × StandsFor judge (take 2 after) × IsPassing judge after
passing r bytes piece after place why judge dead p rests = (
  record { unfinished = passing_unfinished judge.reading after p.2 p.1; none_held = λ e. absurd (cc (e)) },
  rests.0,
  record { place = place; why = why; refused = refused_in r judge.reading (bytes ++ piece) after place why rests.2 (sym p.0) dead.all; none_whole = p.1; are_bytes = p.2; one_level = rests.1 },
)

anew : (r : Reading) (judge : JudgeState) → judge ≡ start r → StandsFor judge []
anew r judge e = subst (λ (j : JudgeState). StandsFor j []) (sym e) (begun_anew_stands r)

-- the frame is lent, or passed further
pub passed_view : (r : Reading) (bytes piece after : List ℕ) (place : ℕ) (why : Why) (judge : JudgeState) (passed : Option ℕ) (has_message : Bool) → Dead r bytes piece place why → Passes bytes piece passed after → Rests r after passed judge → has_message ≡ is_some passed
    → IsSound (openly judge.reading) (held_of has_message after) false × StandsFor judge (take 2 (held_of has_message after)) × Knows true true has_message judge after
passed_view r bytes piece after place why judge (Some taken) true dead p rests e =
    let alike : judge.reading ≡ r = ap (λ (j : JudgeState). j.reading) rests in
    (sound_empty (openly judge.reading) [] false refl, anew r judge rests, record { place = place; why = why; refused = refused_in r judge.reading (bytes ++ take taken piece) after place why alike (sym p.1) (dead.framed taken p.0 (subst IsFramed p.1 p.2)); framed = p.2 })
passed_view r bytes piece after place why judge None false dead p rests e = passing r bytes piece after place why judge dead p rests
passed_view r bytes piece after place why judge (Some taken) false dead p rests e = absurd (cc (e))
passed_view r bytes piece after place why judge None true dead p rests e = absurd (cc (e))

-- the same where the stand-in is taken out
pub passed_heard : (r : Reading) (bytes piece after final : List ℕ) (place : ℕ) (why : Why) (judge : JudgeState) (passed : Option ℕ) (found : Fed) (refused : Bool) → Dead r bytes piece place why → Passes bytes piece passed after → Rests r after passed judge → refused ≡ is_none passed → HearsFrame after passed found final
    → IsSound (openly judge.reading) final false × StandsFor judge (judged_bytes refused final) × Knows true refused false judge final
passed_heard r bytes piece after final place why judge (Some taken) found false dead p rests e h = rw h.1 (sound_empty (openly judge.reading) [] false refl, anew r judge rests, λ lent. absurd (cc (lent)))
passed_heard r bytes piece after final place why judge None found true dead p rests e h = rw h.1 (passing r bytes piece after place why judge dead p rests)
passed_heard r bytes piece after final place why judge (Some taken) found true dead p rests e h = absurd (cc (e))
passed_heard r bytes piece after final place why judge None found false dead p rests e h = absurd (cc (e))

-- ---- what a feed gives

some_taken : (bytes piece : List ℕ) (taken : ℕ) → NoFrame bytes → IsFramed (bytes ++ take taken piece) → 0 < taken
some_taken bytes piece (suc taken) none f = omega arith
some_taken bytes piece zero none f = absurd (none bytes [] (sym (append-nil bytes)) (subst IsFramed (append-nil bytes) f))

feeds_frame : (r : Reading) (bytes piece after : List ℕ) (place taken : ℕ) (why : Why) (old new : StreamState) → Dead r bytes piece place why → NoFrame bytes → Passes bytes piece (Some taken) after → bytes ≡ old.held → openly r ≡ old.reading → Holds [] new → new.reading ≡ openly r
    → Feeds old piece (fed.Message (stand_in (kind_named (head_of after))) taken) new
feeds_frame r bytes piece after place taken why old new dead none p is_held alike holds reads =
    let is : IsFramed (bytes ++ take taken piece) = subst IsFramed p.1 p.2 in
    let found = unread_read r (bytes ++ take taken piece) place why is (dead.framed taken p.0 is) in
    let here : Reads (openly r) (stand_in (kind_named (head_of after))) (bytes ++ take taken piece) = subst (λ (b : List ℕ). Reads (openly r) (stand_in (kind_named (head_of b))) (bytes ++ take taken piece)) (sym p.1) found in
    let there = subst (λ (l : LineReading). Reads l (stand_in (kind_named (head_of after))) (bytes ++ take taken piece)) alike here in
    (some_taken bytes piece taken none is, p.0, subst (λ (b : List ℕ). Reads old.reading (stand_in (kind_named (head_of after))) (b ++ take taken piece)) is_held there, holds, reads ∙ alike)

feeds_part : (r : Reading) (bytes piece after : List ℕ) (old new : StreamState) → Passes bytes piece None after → bytes ≡ old.held → openly r ≡ old.reading → Holds after new → new.reading ≡ openly r → Feeds old piece fed.More new
feeds_part r bytes piece after old new p is_held alike holds reads =
    let same : after ≡ old.held ++ piece = p.0 ∙ ap (λ (b : List ℕ). b ++ piece) is_held in
    let unfinished = subst (λ (l : LineReading). UnfinishedBy l after) alike (passing_unfinished r after p.2 p.1) in
    (subst (UnfinishedBy old.reading) same unfinished, (holds.0 ∙ same, holds.1), reads ∙ alike)

reading_after : (r : Reading) (after : List ℕ) (passed : Option ℕ) (judge : JudgeState) → Rests r after passed judge → judge.reading ≡ r
reading_after r after (Some taken) judge rests = ap (λ (j : JudgeState). j.reading) rests
reading_after r after None judge rests = rests.2

pub lends_passed : (r : Reading) (bytes piece after : List ℕ) (place : ℕ) (why : Why) (judge : JudgeState) (passed : Option ℕ) (has_message : Bool) (s : LentBytes has_message true after) (room judged : ℕ) (dead_bytes : List ℕ) (old : StreamState)
    → Dead r bytes piece place why → NoFrame bytes → Passes bytes piece passed after → Rests r after passed judge → has_message ≡ is_some passed → bytes ≡ old.held → openly r ≡ old.reading
    → Lends old piece (seen_as passed) (let state : StreamState = record { held = held_of has_message after; stopped = false; lent = lent_of has_message true after s; room = room; judged = judged; reading = openly judge.reading; refused_bytes = dead_bytes } in state)
lends_passed r bytes piece after place why judge (Some taken) true s room judged dead_bytes old dead none p rests e is_held alike =
    (stand_in (kind_named (head_of after)), feeds_frame r bytes piece after place taken why old (record { held = []; stopped = false; lent = Some (stand_in (kind_named (head_of after))); room = room; judged = judged; reading = openly judge.reading; refused_bytes = dead_bytes }) dead none p is_held alike (refl, refl) (ap openly (reading_after r after (Some taken) judge rests)), refl)
lends_passed r bytes piece after place why judge None false s room judged dead_bytes old dead none p rests e is_held alike =
    (feeds_part r bytes piece after old (record { held = after; stopped = false; lent = None; room = room; judged = judged; reading = openly judge.reading; refused_bytes = dead_bytes }) p is_held alike (refl, refl) (ap openly (reading_after r after None judge rests)), refl)
lends_passed r bytes piece after place why judge (Some taken) false s room judged dead_bytes old dead none p rests e is_held alike = absurd (cc (e))
lends_passed r bytes piece after place why judge None true s room judged dead_bytes old dead none p rests e is_held alike = absurd (cc (e))

pub feeds_passed : (r : Reading) (bytes piece after final : List ℕ) (place : ℕ) (why : Why) (judge : JudgeState) (passed : Option ℕ) (found : Fed) (lent : Option Message) (room judged : ℕ) (dead_bytes : List ℕ) (old : StreamState)
    → Dead r bytes piece place why → NoFrame bytes → Passes bytes piece passed after → Rests r after passed judge → HearsFrame after passed found final → bytes ≡ old.held → openly r ≡ old.reading
    → Feeds old piece found (let state : StreamState = record { held = final; stopped = false; lent = lent; room = room; judged = judged; reading = openly judge.reading; refused_bytes = dead_bytes } in state)
feeds_passed r bytes piece after final place why judge (Some taken) found lent room judged dead_bytes old dead none p rests h is_held alike =
    rw h.0 (feeds_frame r bytes piece after place taken why old (record { held = final; stopped = false; lent = lent; room = room; judged = judged; reading = openly judge.reading; refused_bytes = dead_bytes }) dead none p is_held alike (h.1, refl) (ap openly (reading_after r after (Some taken) judge rests)))
feeds_passed r bytes piece after final place why judge None found lent room judged dead_bytes old dead none p rests h is_held alike =
    rw h.0 (feeds_part r bytes piece after old (record { held = final; stopped = false; lent = lent; room = room; judged = judged; reading = openly judge.reading; refused_bytes = dead_bytes }) p is_held alike (h.1, refl) (ap openly (reading_after r after None judge rests)))

-- as many bytes are taken where the stand-in is taken out
pub same_taken : (old : StreamState) (piece after final : List ℕ) (passed : Option ℕ) (found : Fed) → HearsFrame after passed found final → taken_by old piece found ≡ taken_in_view old piece (seen_as passed)
same_taken old piece after final (Some taken) found h = ap (taken_by old piece) h.0
same_taken old piece after final None found h = ap (taken_by old piece) h.0

-- ---- the same of the flags of a stream

pub none_is : (passed : Option ℕ) (none : Bool) → is_some passed ≡ not none → none ≡ is_none passed
none_is (Some taken) true e = absurd (cc (e))
none_is (Some taken) false e = refl
none_is None true e = refl
none_is None false e = absurd (cc (e))

-- what a stream keeps after a frame, or within one
abbrev pub KeepsFlags : (o refused has_message : Bool) → JudgeState → List ℕ → Type 0
KeepsFlags o refused has_message judge bytes = IsSound (line_reading o judge.reading) (held_of has_message bytes) (stops refused o) × StandsFor judge (judged_bytes refused (held_of has_message bytes)) × Knows o refused has_message judge bytes

pub view_kept : (o refused : Bool) (r : Reading) (bytes piece after : List ℕ) (place : ℕ) (why : Why) (judge : JudgeState) (passed : Option ℕ) (has_message : Bool) → o ≡ true → refused ≡ true → Dead r bytes piece place why → Passes bytes piece passed after → Rests r after passed judge → has_message ≡ is_some passed
    → KeepsFlags o refused has_message judge after
view_kept true true r bytes piece after place why judge passed has_message e f dead p rests g = passed_view r bytes piece after place why judge passed has_message dead p rests g
view_kept false refused r bytes piece after place why judge passed has_message e f dead p rests g = absurd (cc (e))
view_kept true false r bytes piece after place why judge passed has_message e f dead p rests g = absurd (cc (f))

pub heard_kept : (o : Bool) (r : Reading) (bytes piece after final : List ℕ) (place : ℕ) (why : Why) (judge : JudgeState) (passed : Option ℕ) (found : Fed) (refused has_message : Bool) → o ≡ true → has_message ≡ false → Dead r bytes piece place why → Passes bytes piece passed after → Rests r after passed judge → refused ≡ is_none passed → HearsFrame after passed found final
    → KeepsFlags o refused has_message judge final
heard_kept true r bytes piece after final place why judge passed found false false e f dead p rests g h = passed_heard r bytes piece after final place why judge passed found false dead p rests g h
heard_kept true r bytes piece after final place why judge passed found true false e f dead p rests g h = passed_heard r bytes piece after final place why judge passed found true dead p rests g h
heard_kept false r bytes piece after final place why judge passed found refused has_message e f dead p rests g h = absurd (cc (e))
heard_kept true r bytes piece after final place why judge passed found refused true e f dead p rests g h = absurd (cc (f))

pub lends_by : (o refused : Bool) (r : Reading) (bytes piece after : List ℕ) (place : ℕ) (why : Why) (judge : JudgeState) (passed : Option ℕ) (found : FedView) (has_message : Bool) (s : LentBytes has_message refused after) (room judged : ℕ) (dead_bytes : List ℕ) (old : StreamState)
    → o ≡ true → refused ≡ true → Dead r bytes piece place why → NoFrame bytes → Passes bytes piece passed after → Rests r after passed judge → has_message ≡ is_some passed → found ≡ seen_as passed → bytes ≡ old.held → line_reading o r ≡ old.reading
    → Lends old piece found (let state : StreamState = record { held = held_of has_message after; stopped = stops refused o; lent = lent_of has_message refused after s; room = room; judged = judged; reading = line_reading o judge.reading; refused_bytes = dead_bytes } in state)
lends_by true true r bytes piece after place why judge passed found has_message s room judged dead_bytes old e f dead none p rests g is is_held alike =
    rw is (lends_passed r bytes piece after place why judge passed has_message s room judged dead_bytes old dead none p rests g is_held alike)
lends_by false refused r bytes piece after place why judge passed found has_message s room judged dead_bytes old e f dead none p rests g is is_held alike = absurd (cc (e))
lends_by true false r bytes piece after place why judge passed found has_message s room judged dead_bytes old e f dead none p rests g is is_held alike = absurd (cc (f))

pub feeds_by : (o : Bool) (r : Reading) (bytes piece after final : List ℕ) (place : ℕ) (why : Why) (judge : JudgeState) (passed : Option ℕ) (found : Fed) (refused has_message : Bool) (lent : Option Message) (room judged : ℕ) (dead_bytes : List ℕ) (old : StreamState)
    → o ≡ true → has_message ≡ false → Dead r bytes piece place why → NoFrame bytes → Passes bytes piece passed after → Rests r after passed judge → HearsFrame after passed found final → bytes ≡ old.held → line_reading o r ≡ old.reading
    → Feeds old piece found (let state : StreamState = record { held = held_of has_message final; stopped = stops refused o; lent = lent; room = room; judged = judged; reading = line_reading o judge.reading; refused_bytes = dead_bytes } in state)
feeds_by true r bytes piece after final place why judge passed found true false lent room judged dead_bytes old e f dead none p rests h is_held alike = feeds_passed r bytes piece after final place why judge passed found lent room judged dead_bytes old dead none p rests h is_held alike
feeds_by true r bytes piece after final place why judge passed found false false lent room judged dead_bytes old e f dead none p rests h is_held alike = feeds_passed r bytes piece after final place why judge passed found lent room judged dead_bytes old dead none p rests h is_held alike
feeds_by false r bytes piece after final place why judge passed found refused has_message lent room judged dead_bytes old e f dead none p rests h is_held alike = absurd (cc (e))
feeds_by true r bytes piece after final place why judge passed found refused true lent room judged dead_bytes old e f dead none p rests h is_held alike = absurd (cc (f))
