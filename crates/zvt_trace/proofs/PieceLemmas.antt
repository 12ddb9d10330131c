-- What a piece brings, and what a feed of it answers.
use Rattle.std.proofs.Common.{◌≡◌, ℕ, suc, ◌≤◌, ◌-◌, ◌+◌, Bool, true, false, subst, List, ◌++◌, length, take, drop, refl, sym, ◌∙◌, ap, arith, [], ◌∷◌}
use Rattle.std.proofs.lemmas.List.{append_assoc, get_or-take, length-take-le, take-append-drop, take-take}
use Rattle.std.proofs.lemmas.Option.{get_or_from_slice_get, slice_get-get_or}
use Rattle.zvt_apdu.specs.Judging.{Position}
use Rattle.zvt_grammar.proofs.CutLemmas.{spelled_append, spelled_more}
use Rattle.zvt_grammar.specs.Beginnings.{NoneWhole}
use Rattle.zvt_grammar.specs.Cuts.{Cut, Spelled}
use Rattle.zvt_grammar.specs.Reading.{Reading, padded, shortest}
use Rattle.zvt_apdu.specs.Grammar.{Spells}
use Rattle.zvt_apdu.specs.Message.{Message}
use Rattle.zvt_grammar.specs.declared.why.Why.{Why}
use Rattle.zvt_apdu.proofs.ViewLemmas.{message_loosened}
use Rattle.zvt_stream.specs.Apdus.{AliveIn, UnfinishedIn, IsRefusedIn}
use Rattle.zvt_stream.specs.LineReading.{IsRefusedBy, LineReading, Reads, UnfinishedBy, strictly}
use Rattle.zvt_stream.specs.StreamState.{StreamState, Holds}
use Rattle.zvt_stream.specs.Feeds.{Lends}
use Rattle.zvt_stream.specs.declared.stream.FedView.{FedView}
use Rattle.zvt_stream.specs.declared.stream.FeedError.{FeedError}
use Rattle.zvt_stream.specs.declared.stream.FeedError.TheVariants.{Stopped}
use Rattle.std.specs.Prelude.{Result, Ok, Err, Option, Some, IfSome, IsSome}
use Rattle.std.specs.Result.{IsErrOf}
use Rattle.zvt_trace.specs.Trace.{Arrives, Ending, EndsIn, running}
use Rattle.zvt_trace.specs.Written.{StreamFollows}

-- the messages that came are those by which the side's bytes grew
pub arrived : {r : Reading} (before bytes rest : List ℕ) (start : StreamState) (messages : List Message) (ending : Ending) → StreamFollows r start (running before)
    → Spelled (Spells r) (start.held ++ bytes) messages rest → NoneWhole (Spells r) rest → EndsIn r rest ending → Arrives r before bytes messages rest ending
arrived {r = r} before bytes rest start messages ending follows spelled none ended = record {
  earlier = follows.1;
  left = start.held;
  was = follows.2;
  now = record {
    spelled = spelled_append (Spells r) follows.1 messages (before ++ bytes) (start.held ++ bytes) rest
        (spelled_more (Spells r) follows.1 before start.held bytes (follows.2).spelled) spelled;
    none_whole = none;
  };
  ends = ended;
}

-- the stream goes on with the rest
pub goes_on_with : {r : Reading} (before bytes rest : List ℕ) (next : StreamState) (messages : List Message) (ending : Ending) → Arrives r before bytes messages rest ending → Holds rest next → StreamFollows r next (running (before ++ bytes))
goes_on_with {r = r} before bytes rest next messages ending arrives is =
    let earlier = arrives.earlier in
    (is.1, earlier ++ messages, subst (λ (held : List ℕ). Cut (Spells r) (before ++ bytes) (earlier ++ messages) held) (sym is.0) arrives.now)

-- ---- what a feed answered

-- a stream that answered had not stopped
pub going : (stopped : Bool) (answer : Result FedView FeedError) (fed : FedView) → answer ≡ Ok fed → (stopped ≡ true → IsErrOf answer Stopped) → stopped ≡ false
going false answer fed is refuses = refl
going true answer fed is refuses = absurd (ok_is_no_err (sym is ∙ refuses refl))
  where
    ok_is_no_err : {T E : Type 0} {t : T} {e : E} → Ok t ≡ Err e → ⊥
    ok_is_no_err e = cc

-- its answer as it was matched
pub fed_as : (old new : StreamState) (piece : List ℕ) (answer fed : FedView) → answer ≡ fed → Lends old piece answer new → Lends old piece fed new
fed_as old new piece answer fed is feeds = subst (λ (f : FedView). Lends old piece f new) is feeds

-- what a stream of some reading says is said by that reading
pub spells_by : (k : LineReading) (r : Reading) (m : Message) (bytes : List ℕ) → k ≡ strictly r → Reads k m bytes → Spells r m bytes
spells_by k r m bytes e = subst (λ (x : LineReading). Reads x m bytes) e

pub unfinished_by : (k : LineReading) (r : Reading) (bytes : List ℕ) → k ≡ strictly r → UnfinishedBy k bytes → UnfinishedIn r bytes
unfinished_by k r bytes e = subst (λ (x : LineReading). UnfinishedBy x bytes) e

pub refused_by : (k : LineReading) (r : Reading) (bytes : List ℕ) (place : ℕ) (why : Why) → k ≡ strictly r → IsRefusedBy k bytes place why → IsRefusedIn r bytes place why
refused_by k r bytes place why e = subst (λ (x : LineReading). IsRefusedBy x bytes place why) e

-- ---- the bytes up to the fatal one

-- they are refused too
pub refused_soon : (r : Reading) (bytes : List ℕ) (place : ℕ) (why : Why) → IsRefusedIn r bytes place why → IsRefusedIn r (take (suc place) bytes) place why
refused_soon r bytes place why f =
    let first = take (suc place) bytes in
    let there : length first ≡ suc place = length-take-le (suc place) bytes (omega (arith, (f.1).present)) in
    let same : take place first ≡ take place bytes = take-take place (suc place) bytes (omega arith) in
    let all : take (suc place) first ≡ first = take-take (suc place) (suc place) bytes (omega arith) in
    let cut : bytes ≡ first ++ drop (suc place) bytes = sym (take-append-drop (suc place) bytes) in (
      λ value prefix rest is spelled. f.0 value prefix (rest ++ drop (suc place) bytes) (cut ∙ ap (λ (b : List ℕ). b ++ drop (suc place) bytes) is ∙ append_assoc prefix rest (drop (suc place) bytes)) spelled,
      record {
        present = omega (arith, there);
        alive = subst (λ (b : List ℕ). AliveIn r b) (sym same) (f.1).alive;
        dead = λ alive. (f.1).dead (subst (λ (b : List ℕ). AliveIn r b) all alive);
      },
      record {
        openers = (f.2).openers;
        role = (f.2).role;
        byte = (f.2).byte;
        stands = subst (λ (b : List ℕ). Position r (f.2).openers b (f.2).role) (sym same) (f.2).stands;
        is_byte = slice_get-get_or first place 0 (omega (arith, there)) ∙ ap Some (get_or-take (suc place) bytes place 0 (omega arith) ∙ get_or_from_slice_get bytes place (f.2).byte 0 (f.2).is_byte);
        fails = (f.2).fails;
      },
    )

-- some of them are held, and the others come
pub fatal_part : (held bytes : List ℕ) (place count : ℕ) → length held ≤ place → count ≡ place - length held + 1 → take (suc place) (held ++ bytes) ≡ held ++ take count bytes
fatal_part held bytes place count past is =
    let sum : suc place ≡ length held + count = omega (arith, past, is) in
    ap (λ (n : ℕ). take n (held ++ bytes)) sum ∙ take_past held bytes count
  where
    take_past : (front back : List ℕ) (n : ℕ) → take (length front + n) (front ++ back) ≡ front ++ take n back
    take_past [] back n = let e : 0 + n ≡ n = omega arith in ap (λ (k : ℕ). take k back) e
    take_past (byte ∷ front) back n = ap (λ (k : ℕ). take k (byte ∷ (front ++ back))) (let e : length (byte ∷ front) + n ≡ suc (length front + n) = omega arith in e) ∙ ap (λ (b : List ℕ). byte ∷ b) (take_past front back n)

-- the part that ends with the fatal byte
pub fatal_cut : (r : Reading) (held bytes part : List ℕ) (place count : ℕ) (why : Why) → IsRefusedIn r (held ++ bytes) place why → length held ≤ place → count ≡ place - length held + 1 → part ≡ take count bytes
    → IsRefusedIn r (held ++ part) place why × (suc place ≡ length (held ++ part)) × (take (suc place) (held ++ bytes) ≡ held ++ part)
fatal_cut r held bytes part place count why fatal past is cut =
    let same : take (suc place) (held ++ bytes) ≡ held ++ part = fatal_part held bytes place count past is ∙ ap (λ (b : List ℕ). held ++ b) (sym cut) in
    let size : length (take (suc place) (held ++ bytes)) ≡ suc place = length-take-le (suc place) (held ++ bytes) (omega (arith, (fatal.1).present)) in
    (subst (λ (b : List ℕ). IsRefusedIn r b place why) same (refused_soon r (held ++ bytes) place why fatal), sym size ∙ ap (λ (b : List ℕ). length b) same, same)

-- ---- what is borrowed

-- the bytes that are borrowed are a spelling of the message that is
pub lent_spelling : {A : Type 0} (k : LineReading) (r : Reading) → k ≡ strictly r → (now : A → List ℕ) (shown : Option A) (bytes : A) (lent : Option Message) (m : Message) → lent ≡ Some m
    → IfSome lent (λ n. IfSome shown (λ b. Reads k n (now b)) × IsSome shown) → shown ≡ Some bytes → Spells r m (now bytes)
lent_spelling k r same now shown bytes lent m is trace_event found =
    let here = subst (λ l. IfSome l (λ n. IfSome shown (λ b. Reads k n (now b)) × IsSome shown)) is trace_event in
    spells_by k r m (now bytes) same (subst (λ s. IfSome s (λ b. Reads k m (now b))) found here.0)

-- and a padded spelling of it, as each spelling is
pub loosened : (r : Reading) (m : Message) (bytes : List ℕ) → Spells r m bytes → Spells padded m bytes
loosened shortest m bytes spells = message_loosened m bytes spells
loosened padded m bytes spells = spells
