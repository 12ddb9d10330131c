-- An open play does what a strict one does.
use Rattle.std.proofs.Common.{inl, inr, ℕ, ◌+◌, List, [], ◌∷◌, Option, Result, Ok, Err, true}
use Rattle.std.proofs.lemmas.List.Elements.{All-weaker}
use Rattle.zvt_grammar.specs.Reading.{Reading}
use Rattle.zvt_apdu.specs.Message.{Message}
use Rattle.zvt_stream.specs.LineReading.{openly, strictly}
use Rattle.zvt_stream.proofs.OpenLineLemmas.{each_open_line_is_heard, open_hears_strict, reads_line, unfinished_line}
use Rattle.zvt_trace.specs.Meanings.{Meaning, comment, lost, meaning_of, piece}
use Rattle.zvt_trace.specs.declared.direction.Direction.{Direction}
use Rattle.zvt_trace.specs.declared.direction.Direction.TheVariants.{FromTill, FromTerminal}
use Rattle.zvt_trace.specs.declared.fault.TraceLineError.{TraceLineError}
use Rattle.zvt_play.specs.OpenPlay.{AnyLineCanCome, OpenPlayIsStrict, OpenScriptIsStrict}
use Rattle.zvt_play.specs.Playing.{Hears, IsLast, IsMessage, LineState, Played}
use Rattle.zvt_play.specs.Script.{Act, AwaitSays, CanCome, PieceSays, SaysBy, await, bind, break, listen, prepare, same, send, silence, wait}

pub any_line_can_come : (r : Reading) → AnyLineCanCome r
any_line_can_come r bytes are = let c = each_open_line_is_heard r bytes are in record { messages = c.0; rest = c.1; cut = c.2; alive = c.3 }

-- ---- lines

can_come : (r : Reading) (bytes : List ℕ) → CanCome (strictly r) bytes → CanCome (openly r) bytes
can_come r bytes c = record {
  messages = c.messages;
  rest = c.rest;
  cut = open_hears_strict r bytes c.messages c.rest c.cut c.alive;
  alive = (unfinished_line true r c.rest (record { alive = c.alive; none_whole = c.cut.none_whole })).alive;
}

awaits : (r : Reading) (bytes : List ℕ) (said : Option Act) → AwaitSays (strictly r) bytes (Ok said) → AwaitSays (openly r) bytes (Ok said)
awaits r bytes said (inl c) = inl (can_come r bytes c.0, c.1)
awaits r bytes said (inr c) = cc (c.3)

piece_says : (r : Reading) (own from : Direction) (bytes : List ℕ) (said : Option Act) → PieceSays (strictly r) own from bytes (Ok said) → PieceSays (openly r) own from bytes (Ok said)
piece_says r FromTill FromTill bytes said p = p
piece_says r FromTill FromTerminal bytes said p = awaits r bytes said p
piece_says r FromTerminal FromTill bytes said p = awaits r bytes said p
piece_says r FromTerminal FromTerminal bytes said p = p

says_by : (r : Reading) (own : Direction) (line : List ℕ) (meaning : Result Meaning TraceLineError) (said : Option Act) → SaysBy (strictly r) own line meaning (Ok said) → SaysBy (openly r) own line meaning (Ok said)
says_by r own line (Ok comment) said p = p
says_by r own line (Ok (piece from bytes)) said p = piece_says r own from bytes said p
says_by r own line (Ok lost) said p = p
says_by r own line (Err what) said p = p

pub open_script_is_strict : (r : Reading) → OpenScriptIsStrict r
open_script_is_strict r own before [] steps p = p
open_script_is_strict r own before (line ∷ later) steps p = (p.0, p.1, says_by r own line (meaning_of line) p.0 p.2, open_script_is_strict r own (before + 1) later p.1 p.3, p.4)

-- ---- steps

is_message : (r : Reading) (bytes : List ℕ) → IsMessage (strictly r) bytes → IsMessage (openly r) bytes
is_message r bytes m = (m.0, reads_line true r m.0 bytes m.1)

is_last : (r : Reading) (messages : List (List ℕ)) (lent : Option Message) → IsLast (strictly r) messages lent → IsLast (openly r) messages lent
is_last r messages lent l = record { before = l.before; bytes = l.bytes; message = l.message; cut = l.cut; spells = reads_line true r l.message l.bytes l.spells; lends = l.lends }

hears : (r : Reading) (demanded unheard : List ℕ) (coming : Option (List ℕ)) (rest : List ℕ) (left : Option (List ℕ)) (lent : Option Message) → Hears (strictly r) demanded unheard coming rest left lent → Hears (openly r) demanded unheard coming rest left lent
hears r demanded unheard coming rest left lent h = record {
  messages = h.messages;
  read = h.read;
  each = All-weaker (IsMessage (strictly r)) (IsMessage (openly r)) (is_message r) h.messages h.each;
  meets = h.meets;
  last = is_last r h.messages lent h.last;
  consumed = h.consumed;
  cut = h.cut;
}

played : (r : Reading) (act : Act) (old new : LineState) → Played (strictly r) act old new → Played (openly r) act old new
played r (send bytes) old new p = p
played r (await bytes) old new p = record { hears = hears r bytes old.unheard old.coming new.unheard new.coming new.lent p.hears; is = p.is }
played r break old new p = p
played r (wait milliseconds) old new p = p
played r silence old new p = p
played r (listen milliseconds) old new p = p
played r (bind field name) old new p = p
played r (same field name) old new p = p
played r (prepare field name) old new p = p

pub open_play_is_strict : (r : Reading) → OpenPlayIsStrict r
open_play_is_strict r [] old new p = p
open_play_is_strict r (act ∷ acts) old new p = (p.0, played r act old p.0 p.1, open_play_is_strict r acts p.0 new p.2)
