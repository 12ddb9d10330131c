-- An open line hears its messages, and what its unread frames count as.
use Rattle.std.proofs.Common.{◌≡◌, ℕ, Bool, true, false, List, [], ◌∷◌, map, refl, sym, ◌∙◌, ap, subst}
use Rattle.zvt_grammar.specs.Beginnings.{Alive}
use Rattle.zvt_grammar.specs.Cuts as cuts
use Rattle.zvt_grammar.specs.Laws.{EndThemselves}
use Rattle.zvt_grammar.specs.Reading.{Reading}
use Rattle.zvt_grammar.proofs.CutLemmas.{cuts_are_one, grows, prefixes_of_cut}
use Rattle.zvt_apdu.specs.Grammar.{Spells}
use Rattle.zvt_apdu.specs.Message.{Message}
use Rattle.zvt_apdu.proofs.OneMessage.{messages_end_themselves}
use Rattle.zvt_stream.specs.Apdus.{UnfinishedIn}
use Rattle.zvt_stream.specs.LineReading.{AliveBy, CutBy, EachOpenLineIsHeard, LineCutsAreOne, LineReading, OpenHearsStrict, OpenLinesAreHeard, Reads, SpelledBy, UnfinishedBy, heard_of, line_reading, openly, strictly}
use Rattle.zvt_stream.specs.OpenReading.{OpenItem, OpenSpells, read}
use Rattle.zvt_stream.proofs.OpenLemmas as items

pub ends_by : (l : LineReading) → EndThemselves (Reads l)
ends_by (strictly r) m n a b x y p q e = messages_end_themselves r m n a b x y p q e
ends_by (openly r) m n a b x y p q e =
    let same = items.ends_itself r p.0 q.0 a b x y p.1 q.1 e in
    (sym p.2 ∙ ap heard_of same.0 ∙ q.2, same.1)

pub line_cuts_are_one : (l : LineReading) → LineCutsAreOne l
line_cuts_are_one l = record { one = cuts_are_one (Reads l) (ends_by l); prefixes = prefixes_of_cut (Reads l) (ends_by l); growth = grows (Reads l) (ends_by l) }

spelled_heard : (r : Reading) (bytes : List ℕ) (found : List OpenItem) (rest : List ℕ) → cuts.Spelled (OpenSpells r) bytes found rest → SpelledBy (openly r) bytes (map heard_of found) rest
spelled_heard r bytes [] rest s = s
spelled_heard r bytes (item ∷ found) rest s = (s.0, s.1, s.2, (item, s.3, refl), spelled_heard r s.1 found rest s.4)

pub open_lines_are_heard : (r : Reading) → OpenLinesAreHeard r
open_lines_are_heard r bytes found rest c = record { spelled = spelled_heard r bytes found rest c.spelled; none_whole = λ m prefix later e p. c.none_whole p.0 prefix later e p.1 }

alive_heard : (r : Reading) (rest : List ℕ) → Alive (OpenSpells r) rest → AliveBy (openly r) rest
alive_heard r rest a = record { value = heard_of a.value; rest = a.rest; spelled = (a.value, a.spelled, refl) }

pub each_open_line_is_heard : (r : Reading) → EachOpenLineIsHeard r
each_open_line_is_heard r bytes are =
    let c = items.each_line_is_cut r bytes are in
    (map heard_of c.0, c.1, open_lines_are_heard r bytes c.0 c.1 c.2, alive_heard r c.1 c.3)

heard_read : (ms : List Message) → map heard_of (map read ms) ≡ ms
heard_read [] = refl
heard_read (m ∷ ms) = ap (λ (more : List Message). m ∷ more) (heard_read ms)

pub open_hears_strict : (r : Reading) → OpenHearsStrict r
open_hears_strict r bytes ms rest c a = subst (λ (found : List Message). CutBy (openly r) bytes found rest) (heard_read ms) (open_lines_are_heard r bytes (map read ms) rest (items.open_is_strict r bytes ms rest c a))

-- ---- what both readings share

pub reads_line : (o : Bool) (r : Reading) (m : Message) (b : List ℕ) → Spells r m b → Reads (line_reading o r) m b
reads_line false r m b p = p
reads_line true r m b p = (read m, p, refl)

pub unfinished_line : (o : Bool) (r : Reading) (b : List ℕ) → UnfinishedIn r b → UnfinishedBy (line_reading o r) b
unfinished_line false r b u = u
unfinished_line true r b u = record {
  alive = record { value = u.alive.value; rest = u.alive.rest; spelled = (read u.alive.value, u.alive.spelled, refl) };
  none_whole = λ m prefix later e p. items.alive_none r b u.none_whole u.alive p.0 prefix later e p.1;
}
