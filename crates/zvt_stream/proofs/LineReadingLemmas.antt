-- Lines of messages, strict or open.
use Rattle.std.proofs.Common.{ℕ, ◌<◌, ◌≤◌, List, [], ◌∷◌, ◌++◌, length, refl, sym, ap, subst, arith, length-append, append-nil}
use Rattle.zvt_grammar.specs.declared.why.Why.{Why}
use Rattle.zvt_grammar.specs.Reading.{padded}
use Rattle.zvt_grammar.proofs.CutLemmas as cuts
use Rattle.zvt_apdu.specs.Message.{Message}
use Rattle.zvt_stream.specs.LineReading.{IsRefusedBy, LineReading, NoneWholeBy, Reads, SpelledBy, UnfinishedBy, openly, strictly}
use Rattle.zvt_stream.specs.OpenReading.{IsFrame, OpenItem, OpenSpells, read, unread}
use Rattle.zvt_stream.proofs.Beginnings.{bounds_in, length_bounds, nothing_in}

pub spelled_more_by : (l : LineReading) (ms : List Message) (bytes rest more : List ℕ) → SpelledBy l bytes ms rest → SpelledBy l (bytes ++ more) ms (rest ++ more)
spelled_more_by l = cuts.spelled_more (Reads l)

pub spelled_append_by : (l : LineReading) (ms ns : List Message) (bytes middle rest : List ℕ) → SpelledBy l bytes ms middle → SpelledBy l middle ns rest → SpelledBy l bytes (ms ++ ns) rest
spelled_append_by l = cuts.spelled_append (Reads l)

-- what breaks a line holds no message
pub refused_none : (l : LineReading) (bytes : List ℕ) (place : ℕ) (why : Why) → IsRefusedBy l bytes place why → NoneWholeBy l bytes
refused_none (strictly r) bytes place why f = f.0
refused_none (openly r) bytes place why f = absurd f

frame_bounds : (high low : ℕ) (bytes : List ℕ) → IsFrame high low bytes → (2 < length bytes) × (length bytes ≤ 65540)
frame_bounds high low bytes f =
    let sized = length_bounds padded (length f.content) f.size f.is_size in
    (omega (arith, sized.0, ap length f.whole, length-append f.size f.content), omega (arith, sized.1, sized.2, ap length f.whole, length-append f.size f.content))

pub bounds_by : (l : LineReading) (m : Message) (bytes : List ℕ) → Reads l m bytes → (2 < length bytes) × (length bytes ≤ 65540)
bounds_by (strictly r) m bytes p = bounds_in r m bytes p
bounds_by (openly r) m bytes p = by_item p.0 p.1
  where
    by_item : (item : OpenItem) → OpenSpells r item bytes → (2 < length bytes) × (length bytes ≤ 65540)
    by_item (read n) q = bounds_in r n bytes q
    by_item (unread high low size before byte why) q = frame_bounds high low bytes q.0

pub nothing_by : (l : LineReading) → UnfinishedBy l []
nothing_by (strictly r) = nothing_in r
nothing_by (openly r) =
    let a = (nothing_in r).alive in
    record {
      alive = record { value = a.value; rest = a.rest; spelled = (read a.value, a.spelled, refl) };
      none_whole = λ m prefix rest e p. let n : 2 < length prefix = (bounds_by (openly r) m prefix p).0 in absurd (omega (arith, n, ap length e, length-append prefix rest));
    }

-- A message that isn't whole is shorter than the longest message.
pub few_by : (l : LineReading) (bytes : List ℕ) → UnfinishedBy l bytes → length bytes < 65540
few_by l bytes u = by_rest u.alive.rest u.alive.spelled
  where
    by_rest : (rest : List ℕ) → Reads l u.alive.value (bytes ++ rest) → length bytes < 65540
    by_rest [] s = let P : List ℕ → Type 0 = λ b. Reads l u.alive.value b in absurd (u.none_whole u.alive.value bytes [] (sym (append-nil bytes)) (subst P (append-nil bytes) s))
    by_rest (x ∷ rest) s = omega (arith, (bounds_by l u.alive.value (bytes ++ x ∷ rest) s).1, length-append bytes (x ∷ rest))
