-- How many bytes a feed judges.
use Rattle.std.proofs.Common.{◌≡◌, ◌⊎◌, inl, inr, ℕ, ◌+◌, ◌<◌, suc, Bool, true, false, Option, Some, None, List, ◌++◌, [], length, take, drop, refl, sym, ◌∙◌, ap, subst, arith, append-nil, length-append}
use Rattle.std.proofs.lemmas.List.{take-append-drop}
use Rattle.std.proofs.Math.Seq.{take-append-add, take-length}
use Rattle.zvt_grammar.specs.declared.why.Why.{Why}
use Rattle.zvt_grammar.specs.Reading.{Reading}
use Rattle.zvt_apdu.specs.Grammar.{Spells}
use Rattle.zvt_apdu.proofs.Positions.{place_once}
use Rattle.zvt_stream.specs.Apdus.{AliveIn, IsRefusedIn, PlaceIn}
use Rattle.zvt_stream.specs.Feeds.{taken_by, taken_in_view}
use Rattle.zvt_stream.specs.Judge.{IsMessageIn}
use Rattle.zvt_stream.specs.LineReading.{JudgedOf, JudgedOnce, Judges, LineReading, line_reading, openly}
use Rattle.zvt_stream.specs.OpenReading.{IsFramed}
use Rattle.zvt_stream.specs.Passing.{HearsFrame, Passes, seen_as}
use Rattle.zvt_stream.specs.StreamState.{StreamState}
use Rattle.zvt_stream.specs.declared.stream.Fed.{Fed}
use Rattle.zvt_stream.specs.declared.stream.FedView.{FedView}
use Rattle.zvt_stream.proofs.Beginnings.{prefix_alive_in}
use Rattle.zvt_stream.proofs.FeedLemmas.{refused_more}
use Rattle.zvt_stream.proofs.UnreadLemmas.{Dead, same_taken}

-- ---- the count is one

alive_or_dead : (r : Reading) (bytes : List ℕ) (place : ℕ) → AliveIn r bytes → PlaceIn r bytes place → ⊥
alive_or_dead r bytes place a p =
    p.dead (prefix_alive_in r (take (suc place) bytes) (drop (suc place) bytes) (subst (AliveIn r) (sym (take-append-drop (suc place) bytes)) a))

pub judged_once : (r : Reading) → JudgedOnce r
judged_once r bytes m n (inl a) (inl b) = a.1 ∙ sym b.1
judged_once r bytes m n (inl a) (inr b) = absurd (alive_or_dead r bytes b.0 a.0 b.1)
judged_once r bytes m n (inr a) (inl b) = absurd (alive_or_dead r bytes a.0 b.0 a.1)
judged_once r bytes m n (inr a) (inr b) = a.2 ∙ ap suc (place_once (Spells r) a.0 b.0 bytes a.1 b.1) ∙ sym b.2

-- ---- what a feed judges

open_counts : (r : Reading) (old : StreamState) (bytes taken : List ℕ) (first all before now : ℕ) → openly r ≡ old.reading → bytes ≡ old.held
    → JudgedOf r bytes first → JudgedOf r (bytes ++ taken) all → now + first ≡ before + all → Judges old.reading old.held taken before now
open_counts r old bytes taken first all before now alike is_held f a e =
    subst (λ (l : LineReading). Judges l old.held taken before now) alike
    (subst (λ (b : List ℕ). Judges (openly r) b taken before now) is_held (first, all, f, a, e))

-- bytes are refused in the piece
counts_now : (r : Reading) (bytes piece after : List ℕ) (at : ℕ) (why : Why) (passed : Option ℕ) (old : StreamState) (before now : ℕ) → Dead r bytes piece (length bytes + at) why → Passes bytes piece passed after
    → openly r ≡ old.reading → bytes ≡ old.held → now ≡ before + suc at → Judges old.reading old.held (take (taken_in_view old piece (seen_as passed)) piece) before now
counts_now r bytes piece after at why passed old before now dead p alike is_held is = by_end passed p
  where
    begun : AliveIn r bytes
    begun = prefix_alive_in r bytes (take at piece) (subst (AliveIn r) (take-append-add bytes piece at) dead.all.1.alive)

    by_place : (taken : List ℕ) → PlaceIn r (bytes ++ taken) (length bytes + at) → Judges old.reading old.held taken before now
    by_place taken place = open_counts r old bytes taken (length bytes) (suc (length bytes + at)) before now alike is_held (inl (begun, refl)) (inr (length bytes + at, place, refl)) (omega (arith, is))

    by_end : (passed : Option ℕ) → Passes bytes piece passed after → Judges old.reading old.held (take (taken_in_view old piece (seen_as passed)) piece) before now
    by_end (Some taken) p = by_place (take taken piece) (dead.framed taken p.0 (subst IsFramed p.1 p.2)).1
    by_end None p = by_place (take (length piece) piece) (subst (λ (l : List ℕ). PlaceIn r (bytes ++ l) (length bytes + at)) (sym (take-length piece)) dead.all.1)

-- bytes were refused before
pub counts_passing : (o : Bool) (r : Reading) (old : StreamState) (bytes taken : List ℕ) (place : ℕ) (why : Why) (before now : ℕ) → o ≡ true → line_reading o r ≡ old.reading → bytes ≡ old.held
    → IsRefusedIn r bytes place why → now ≡ before → Judges old.reading old.held taken before now
counts_passing true r old bytes taken place why before now e alike is_held refused is =
    open_counts r old bytes taken (suc place) (suc place) before now alike is_held (inr (place, refused.1, refl)) (inr (place, (refused_more r bytes taken place why refused).1, refl)) (omega (arith, is))
counts_passing false r old bytes taken place why before now e alike is_held refused is = absurd (cc (e))

-- no byte is refused
pub counts_alive : (o : Bool) (r : Reading) (old : StreamState) (bytes taken : List ℕ) (before now : ℕ) → line_reading o r ≡ old.reading → bytes ≡ old.held
    → AliveIn r (bytes ++ taken) → now ≡ before + length taken → Judges old.reading old.held taken before now
counts_alive false r old bytes taken before now alike is_held alive is = subst (λ (l : LineReading). Judges l old.held taken before now) alike is
counts_alive true r old bytes taken before now alike is_held alive is =
    open_counts r old bytes taken (length bytes) (length (bytes ++ taken)) before now alike is_held (inl (prefix_alive_in r bytes taken alive, refl)) (inl (alive, refl)) (omega (arith, is, length-append bytes taken))

pub whole_alive : (r : Reading) (bytes : List ℕ) → IsMessageIn r bytes → AliveIn r bytes
whole_alive r bytes is = record { value = is.0; rest = []; spelled = subst (Spells r is.0) (sym (append-nil bytes)) is.1 }

-- the whole piece
pub alive_all : (r k : Reading) (bytes piece : List ℕ) → k ≡ r → AliveIn k (bytes ++ piece) → AliveIn r (bytes ++ take (length piece) piece)
alive_all r k bytes piece e alive =
    subst (λ (l : List ℕ). AliveIn r (bytes ++ l)) (sym (take-length piece)) (subst (λ (q : Reading). AliveIn q (bytes ++ piece)) e alive)

-- ---- the same of what a feed gives

pub counts_seen : (o : Bool) (r : Reading) (bytes piece after : List ℕ) (at : ℕ) (why : Why) (passed : Option ℕ) (found : FedView) (old : StreamState) (before now : ℕ) → o ≡ true → Dead r bytes piece (length bytes + at) why → Passes bytes piece passed after
    → line_reading o r ≡ old.reading → bytes ≡ old.held → found ≡ seen_as passed → now ≡ before + suc at → Judges old.reading old.held (take (taken_in_view old piece found) piece) before now
counts_seen true r bytes piece after at why passed found old before now e dead p alike is_held is count = rw is (counts_now r bytes piece after at why passed old before now dead p alike is_held count)
counts_seen false r bytes piece after at why passed found old before now e dead p alike is_held is count = absurd (cc (e))

pub counts_heard : (o : Bool) (r : Reading) (bytes piece after final : List ℕ) (at : ℕ) (why : Why) (passed : Option ℕ) (found : Fed) (old : StreamState) (before now : ℕ) → o ≡ true → Dead r bytes piece (length bytes + at) why → Passes bytes piece passed after
    → line_reading o r ≡ old.reading → bytes ≡ old.held → HearsFrame after passed found final → now ≡ before + suc at → Judges old.reading old.held (take (taken_by old piece found) piece) before now
counts_heard true r bytes piece after final at why passed found old before now e dead p alike is_held h count = rw (same_taken old piece after final passed found h) (counts_now r bytes piece after at why passed old before now dead p alike is_held count)
counts_heard false r bytes piece after final at why passed found old before now e dead p alike is_held h count = absurd (cc (e))
