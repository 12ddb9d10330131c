-- The identifier of the terminal (BMP 29).
use Rattle.std.specs.Prelude.{◌≡◌, ℕ, ◌==◌, ◌&&◌, cond, List, [], ◌∷◌, Option, Some, None, length, refl}
use Rattle.std.specs.List.{list_all}
use Rattle.std.specs.Option.{option_and_then, option_or}
use Rattle.zvt_bcd.specs.Digits.{is_digit_pair}
use Rattle.zvt_field.specs.Grammar.{Field, plain}
use Rattle.zvt_field.specs.Named.{content_of}
use Rattle.zvt_apdu.specs.Kinds.{kind_of}
use Rattle.zvt_apdu.specs.Message.{Message, abort, authorisation, completion, status}
use Rattle.zvt_apdu.specs.Views.{fields_in}
use Rattle.zvt_apdu.specs.declared.kinds.Kind.{Kind}
use Rattle.zvt_apdu.specs.declared.kinds.Kind.TheVariants as kind
use Rattle.zvt_trace.specs.TraceEvent.{At, TraceEvent, on}
use Rattle.zvt_trace.specs.TraceEvent as trace_event
use Rattle.zvt_trace.specs.declared.direction.Direction.{Direction}
use Rattle.zvt_trace.specs.declared.direction.Direction.TheVariants.{FromTill, FromTerminal}

-- eight digits
abbrev pub id_of : List ℕ → Option (List ℕ)
id_of content = cond (length content == 4 && list_all is_digit_pair content) (Some content) None

-- the identifier, if BMP 29 is there once
abbrev pub id_in : List Field → Option (List ℕ)
id_in fields = option_and_then id_of (content_of 0x29 fields)

-- the fields of a status information or a completion
abbrev pub naming_fields : Kind → Option (List Field) → Option (List Field)
naming_fields kind.Status fields = fields
naming_fields kind.Completion fields = fields
naming_fields _ fields = None

abbrev pub terminal_in : Message → Option (List ℕ)
terminal_in m = option_and_then id_in (naming_fields (kind_of m) (fields_in m))

abbrev pub terminal_from : Direction → Message → Option (List ℕ)
terminal_from FromTill m = None
terminal_from FromTerminal m = terminal_in m

-- the identifier that the terminal names
abbrev pub terminal_by : TraceEvent → Option (List ℕ)
terminal_by (trace_event.message from m) = terminal_from from m
terminal_by (trace_event.refused from before byte why) = None
terminal_by (trace_event.unread from) = None
terminal_by (trace_event.resumed from size) = None
terminal_by (trace_event.cut_off from bytes) = None
terminal_by trace_event.lost = None

-- the first one
abbrev pub first_terminal : List At → Option (List ℕ)
first_terminal [] = None
first_terminal (event ∷ events) = option_or (terminal_by event.trace_event) (first_terminal events)

-- ---- event by event

-- the first that was named so far, with one thing more
abbrev pub terminal_after : (before found : Option (List ℕ)) → Option (List ℕ)
terminal_after before None = before
terminal_after None (Some id) = Some id
terminal_after (Some first) (Some id) = Some first

-- ---- rows worked by hand

abbrev named : (last : ℕ) → Field
named last = plain 0x29 (0x52 ∷ 0x50 ∷ 0x00 ∷ last ∷ [])

abbrev says : (line : ℕ) → Message → At
says line m = on line (trace_event.message FromTerminal m)

-- a status with digits that are none, one that names two, and messages that are no status
named_first : first_terminal (on 1 (trace_event.message FromTill (authorisation (named 0x40 ∷ []))) ∷ says 2 (status (named 0x4A ∷ [])) ∷ says 3 (status (named 0x40 ∷ named 0x40 ∷ [])) ∷ says 4 (abort 0x6C [])
    ∷ says 5 (completion (named 0x41 ∷ [])) ∷ says 6 (status (named 0x42 ∷ [])) ∷ [])
    ≡ Some (0x52 ∷ 0x50 ∷ 0x00 ∷ 0x41 ∷ [])
named_first = refl
