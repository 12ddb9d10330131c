-- What is said of a step that could not be played, part by part.
use Rattle.std.proofs.Common.{◌≡◌, ◌≤◌, inl, ℕ, suc, Bool, true, false, List, [], ◌∷◌, ◌++◌, Some, Result, Ok, Err, OnOk, MatchResult, length, take, drop, refl, sym, ◌∙◌, ap, subst, arith, append_assoc, append-nil}
use Rattle.std.proofs.lemmas.List.{length-take-le, take-append-drop}
use Rattle.zvt_grammar.specs.Reading.{Reading}
use Rattle.zvt_grammar.specs.declared.why.Why.{Why}
use Rattle.zvt_apdu.specs.Grammar as grammar
use Rattle.zvt_apdu.specs.Message.{Message}
use Rattle.zvt_apdu.proofs.OneMessage.{messages_end_themselves}
use Rattle.zvt_text.specs.MessageTexts.{said}
use Rattle.zvt_text.specs.TextOptions.{safe_text}
use Rattle.zvt_stream.specs.Apdus.{AliveIn, IsRefusedIn, NoneWholeIn, UnfinishedIn}
use Rattle.zvt_stream.specs.LineReading.{IsRefusedBy, LineReading, Reads, UnfinishedBy, line_reading}
use Rattle.zvt_stream.specs.OpenReading.{OpenItem, OpenSpells, read, unread}
use Rattle.zvt_stream.specs.Feeds.{Lends}
use Rattle.zvt_stream.specs.StreamState.{StreamState, start_by, start_in}
use Rattle.zvt_stream.specs.declared.stream.FedView.TheVariants as view
use Rattle.zvt_stream.proofs.Beginnings.{prefix_alive_in}
use Rattle.zvt_stream.proofs.LineReadingLemmas.{bounds_by}
use Rattle.zvt_stream.proofs.OpenLemmas.{refused_split, refused_there}
use Rattle.zvt_play.specs.DifferenceTexts.{SaysBeginning, SaysWhole, beginning_text, unread_text}
use Rattle.zvt_play.specs.Playing.{IsMessage}

pub on_ok : {E : Type 0} (r : Result Unit E) (A B : Type 0) → OnOk r A → (A → B) → OnOk r B
on_ok (Ok done) A B has then = then has
on_ok (Err failed) A B has then = has

pub added : {E : Type 0} (r : Result Unit E) (A C B : Type 0) → MatchResult r (λ _. A) (λ _. C) → (A → B) → OnOk r B
added (Ok done) A C B has then = then has
added (Err failed) A C B has then = tt

-- ---- parts, one after another

pub two : (t t1 t2 a b : List ℕ) → t1 ≡ t ++ a → t2 ≡ t1 ++ b → t2 ≡ t ++ (a ++ b)
two t t1 t2 a b first second = second ∙ ap (λ (l : List ℕ). l ++ b) first ∙ append_assoc t a b

pub three : (t t1 t2 t3 a b c : List ℕ) → t1 ≡ t ++ a → t2 ≡ t1 ++ b → t3 ≡ t2 ++ c → t3 ≡ t ++ (a ++ b ++ c)
three t t1 t2 t3 a b c first second third = two t t2 t3 (a ++ b) c (two t t1 t2 a b first second) third

pub five : (t t1 t2 t3 t4 t5 a b c d e : List ℕ) → t1 ≡ t ++ a → t2 ≡ t1 ++ b → t3 ≡ t2 ++ c → t4 ≡ t3 ++ d → t5 ≡ t4 ++ e → t5 ≡ t ++ (a ++ b ++ c ++ d ++ e)
five t t1 t2 t3 t4 t5 a b c d e first second third fourth fifth = three t t3 t4 t5 (a ++ b ++ c) d e (three t t1 t2 t3 a b c first second third) fourth fifth

pub six : (t t1 t2 t3 t4 t5 t6 a b c d e f : List ℕ) → t1 ≡ t ++ a → t2 ≡ t1 ++ b → t3 ≡ t2 ++ c → t4 ≡ t3 ++ d → t5 ≡ t4 ++ e → t6 ≡ t5 ++ f → t6 ≡ t ++ (a ++ b ++ c ++ d ++ e ++ f)
six t t1 t2 t3 t4 t5 t6 a b c d e f first second third fourth fifth sixth = two t t5 t6 (a ++ b ++ c ++ d ++ e) f (five t t1 t2 t3 t4 t5 a b c d e first second third fourth fifth) sixth

-- ---- a whole message

-- the bytes are a message, and not the beginning of a longer one
whole_alone : (r : Reading) (bytes : List ℕ) (message : Message) → grammar.Spells r message bytes → NoneWholeIn r bytes → ⊥
whole_alone r bytes message p none = none message bytes [] (sym (append-nil bytes)) p

-- a message at the start of one is all of it
first_whole : (r : Reading) (bytes : List ℕ) (message whole : Message) (taken : ℕ) → grammar.Spells r message (take taken bytes) → grammar.Spells r whole bytes → grammar.Spells r message bytes
first_whole r bytes message whole taken p q =
    subst (grammar.Spells r message) (messages_end_themselves r message whole (take taken bytes) bytes (drop taken bytes) [] p q (take-append-drop taken bytes ∙ sym (append-nil bytes))).1 p

read_whole : (o : Bool) (r : Reading) (bytes : List ℕ) (message : Message) (taken : ℕ) → IsMessage (line_reading o r) bytes → grammar.Spells r message (take taken bytes) → SaysWhole (line_reading o r) bytes (said safe_text message)
read_whole false r bytes message taken m p = (message, first_whole r bytes message m.0 taken p m.1, refl)
read_whole true r bytes message taken m p = by m.1.0 m.1.1
  where
    by : (item : OpenItem) → OpenSpells r item bytes → SaysWhole (line_reading true r) bytes (said safe_text message)
    by (read whole) q = (read message, first_whole r bytes message whole taken p q, refl)
    by (unread high low size before byte why) q = absurd (q.2.0 message (take taken bytes) (drop taken bytes) (sym (take-append-drop taken bytes)) p)

pub lent_whole : (o : Bool) (r : Reading) (old new : StreamState) (bytes : List ℕ) (taken : ℕ) (message : Message) → old ≡ start_in r → IsMessage (line_reading o r) bytes → Lends old bytes (view.Message taken) new → new.lent ≡ Some message → SaysWhole (line_reading o r) bytes (said safe_text message)
lent_whole o r old new bytes taken message is m lends lent =
    let spelled : grammar.Spells r lends.0 (take taken bytes) = subst (λ (s : StreamState). Reads s.reading lends.0 (s.held ++ take taken bytes)) is lends.1.2 in
    let same : Some lends.0 ≡ Some message = sym lends.2 ∙ lent in
    by lends.0 same spelled
  where
    by : (found : Message) → Some found ≡ Some message → grammar.Spells r found (take taken bytes) → SaysWhole (line_reading o r) bytes (said safe_text message)
    by found same spelled = let e : found ≡ message = cc in subst (λ (f : Message). SaysWhole (line_reading o r) bytes (said safe_text f)) e (read_whole o r bytes found taken m spelled)

-- a whole message is no beginning
pub never_more : (o : Bool) (r : Reading) (old new : StreamState) (bytes : List ℕ) → old ≡ start_in r → IsMessage (line_reading o r) bytes → Lends old bytes view.More new → ⊥
never_more o r old new bytes is m lends = by o m (subst (λ (s : StreamState). UnfinishedBy s.reading (s.held ++ bytes)) is lends.0.0)
  where
    by_item : (item : OpenItem) → OpenSpells r item bytes → UnfinishedIn r bytes → ⊥
    by_item (read message) q u = whole_alone r bytes message q u.none_whole
    by_item (unread high low size before byte why) q u =
        let place = length before in
        q.2.1.dead (prefix_alive_in r (take (suc place) bytes) (drop (suc place) bytes) (subst (AliveIn r) (sym (take-append-drop (suc place) bytes)) u.alive))

    by : (o : Bool) → IsMessage (line_reading o r) bytes → UnfinishedIn r bytes → ⊥
    by false m u = whole_alone r bytes m.0 m.1 u.none_whole
    by true m u = by_item m.1.0 m.1.1 u

pub two_at_least : (l : LineReading) (bytes : List ℕ) → IsMessage l bytes → 2 ≤ length bytes
two_at_least l bytes m = omega (arith, (bounds_by l m.0 bytes m.1).0)

first_two : (high low : ℕ) (bytes more : List ℕ) → bytes ≡ high ∷ low ∷ more → take 2 bytes ≡ high ∷ low ∷ []
first_two high low bytes more is = subst (λ (b : List ℕ). take 2 b ≡ high ∷ low ∷ []) (sym is) refl

-- a message that is refused is an unread one
pub refused_whole : (o : Bool) (r : Reading) (old new : StreamState) (bytes : List ℕ) (place : ℕ) (why : Why) → old ≡ start_in r → IsMessage (line_reading o r) bytes → Lends old bytes (view.Refused place why) new → SaysWhole (line_reading o r) bytes (unread_text (take 2 bytes) (length bytes) place why)
refused_whole o r old new bytes place why is m lends = by o m (subst (λ (s : StreamState). IsRefusedBy s.reading (s.held ++ bytes) place why) is lends.0.0)
  where
    by_item : (item : OpenItem) → OpenSpells r item bytes → IsRefusedIn r bytes place why → SaysWhole (line_reading true r) bytes (unread_text (take 2 bytes) (length bytes) place why)
    by_item (read message) q f = absurd (whole_alone r bytes message q f.0)
    by_item (unread high low size before byte what) q f =
        let there : length (take place bytes) ≡ place = length-take-le place bytes (omega (arith, f.1.present)) in (
          unread high low (length bytes) (take place bytes) f.2.byte why,
          (q.0, refl, refused_there r bytes place why f, refused_split r bytes place why f),
          ap (λ (control : List ℕ). unread_text control (length bytes) place why) (first_two high low bytes (q.0.size ++ q.0.content) q.0.whole)
              ∙ ap (λ (n : ℕ). unread_text (high ∷ low ∷ []) (length bytes) n why) (sym there),
        )

    by : (o : Bool) → IsMessage (line_reading o r) bytes → IsRefusedIn r bytes place why → SaysWhole (line_reading o r) bytes (unread_text (take 2 bytes) (length bytes) place why)
    by false m f = absurd (whole_alone r bytes m.0 m.1 f.0)
    by true m f = by_item m.1.0 m.1.1 f

-- ---- the first message of some bytes

pub first_message : (l : LineReading) (old new : StreamState) (bytes : List ℕ) (taken : ℕ) → old ≡ start_by l → Lends old bytes (view.Message taken) new → IsMessage l (take taken bytes)
first_message l old new bytes taken is lends = (lends.0, subst (λ (s : StreamState). Reads s.reading lends.0 (s.held ++ take taken bytes)) is lends.1.2)

pub more_begins : (l : LineReading) (old new : StreamState) (bytes : List ℕ) → old ≡ start_by l → Lends old bytes view.More new → SaysBeginning l bytes (beginning_text bytes)
more_begins l old new bytes is lends = (inl (subst (λ (s : StreamState). UnfinishedBy s.reading (s.held ++ bytes)) is lends.0.0), refl)
