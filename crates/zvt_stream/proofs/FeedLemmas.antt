-- What a scan of the held bytes and the prefix of a piece says of the piece.
use Rattle.std.proofs.Common.{◌≡◌, ℕ, suc, Bool, ◌≤◌, List, [], ◌++◌, length, take, drop, inl, inr, sym, ◌∙◌, ap, subst, arith, append_assoc}
use Rattle.std.proofs.lemmas.Bool.{cases_lt}
use Rattle.std.proofs.lemmas.List.{take-append-drop, take-append-le}
use Rattle.zvt_grammar.specs.declared.why.Why.{Why}
use Rattle.zvt_grammar.specs.Reading.{Reading}
use Rattle.zvt_tlv.proofs.Places.{none_more, place_more, byte_more}
use Rattle.zvt_apdu.specs.Judging.{Position}
use Rattle.zvt_apdu.specs.Grammar.{Spells}
use Rattle.zvt_stream.specs.Apdus.{AliveIn, PlaceIn, IsRefusedIn}
use Rattle.zvt_stream.specs.LineReading.{LineReading, UnfinishedBy}
use Rattle.zvt_stream.specs.StreamState.{IsSound}
use Rattle.zvt_stream.proofs.Beginnings.{prefix_alive_in}
use Rattle.zvt_stream.proofs.LineReadingLemmas.{nothing_by}

-- what holds nothing is sound
pub sound_empty : (l : LineReading) (held : List ℕ) (stopped : Bool) → held ≡ [] → IsSound l held stopped
sound_empty l held stopped e = record { unfinished = subst (UnfinishedBy l) (sym e) (nothing_by l); none_held = λ h. e }

-- what is refused stays refused with more after it
pub refused_more : (r : Reading) (bytes more : List ℕ) (place : ℕ) (why : Why) → IsRefusedIn r bytes place why → IsRefusedIn r (bytes ++ more) place why
refused_more r bytes more place why f =
    let same : take place bytes ≡ take place (bytes ++ more) = sym (take-append-le place bytes more (omega (arith, f.1.present))) in (
      none_more (Spells r) bytes more place f.0 f.1,
      place_more (Spells r) bytes more place f.1,
      record { openers = f.2.openers; role = f.2.role; byte = f.2.byte; stands = subst (λ b. Position r f.2.openers b f.2.role) same f.2.stands; is_byte = byte_more bytes more place f.2.byte f.2.is_byte; fails = f.2.fails },
    )

-- the fatal byte is in the piece
place_past : (r : Reading) (held piece : List ℕ) (place : ℕ) → AliveIn r held → PlaceIn r (held ++ piece) place → length held ≤ place
place_past r held piece place a p =
    elim (cases_lt place (length held)) [
      | inl within ↦
          let shorter = take-append-le (suc place) held piece (omega arith) in
          let alive : AliveIn r (take (suc place) held) = prefix_alive_in r (take (suc place) held) (drop (suc place) held) (subst (AliveIn r) (sym (take-append-drop (suc place) held)) a) in
          absurd (p.dead (subst (AliveIn r) (sym shorter) alive))
      | inr past ↦ past
    ]

-- bytes refused in a prefix of the piece
pub fed_refused : (r : Reading) (held piece bytes : List ℕ) (n place : ℕ) (why : Why) → AliveIn r held → bytes ≡ held ++ take n piece → IsRefusedIn r bytes place why → IsRefusedIn r (held ++ piece) place why × (length held ≤ place)
fed_refused r held piece bytes n place why a e f =
    let whole : bytes ++ drop n piece ≡ held ++ piece = ap (λ z. z ++ drop n piece) e ∙ append_assoc held (take n piece) (drop n piece) ∙ ap (λ z. held ++ z) (take-append-drop n piece) in
    let all : IsRefusedIn r (held ++ piece) place why = subst (λ b. IsRefusedIn r b place why) whole (refused_more r bytes (drop n piece) place why f) in
    (all, place_past r held piece place a all.1)
