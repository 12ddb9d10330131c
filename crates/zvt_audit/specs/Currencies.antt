-- Which currency the till's registrations name.
use Rattle.std.specs.Prelude.{◌≡◌, ℕ, cond, nat_eq, List, [], ◌∷◌, Option, Some, None, refl}
use Rattle.std.specs.List.{filter_map, list_all}
use Rattle.zvt_apdu.specs.Message.{Message, registration, authorisation}
use Rattle.zvt_apdu.specs.Views.{currency_in}
use Rattle.zvt_field.specs.Grammar.{plain}
use Rattle.zvt_trace.specs.TraceEvent.{At, TraceEvent, on}
use Rattle.zvt_trace.specs.TraceEvent as trace_event
use Rattle.zvt_trace.specs.declared.direction.Direction.{Direction}
use Rattle.zvt_trace.specs.declared.direction.Direction.TheVariants.{FromTill, FromTerminal}
use Rattle.zvt_audit.specs.declared.currencies.NamedCurrency.{NamedCurrency}
use Rattle.zvt_audit.specs.declared.currencies.NamedCurrency.TheVariants.{Absent, Single, Mixed}

abbrev pub named_from : Direction → Message → Option ℕ
named_from FromTill message = currency_in message
named_from FromTerminal message = None

-- the currency that a registration of the till names
abbrev pub named_by : TraceEvent → Option ℕ
named_by (trace_event.message from m) = named_from from m
named_by (trace_event.refused from before byte why) = None
named_by (trace_event.unread from) = None
named_by (trace_event.resumed from size) = None
named_by (trace_event.cut_off from bytes) = None
named_by trace_event.lost = None

-- the currencies that the till's registrations name, in order
abbrev pub currencies_of : List At → List ℕ
currencies_of events = filter_map (λ (event : At). named_by event.trace_event) events

-- the one that all of these are
abbrev pub one_currency : List ℕ → Option ℕ
one_currency [] = None
one_currency (currency ∷ more) = cond (list_all (nat_eq currency) more) (Some currency) None

-- ---- rows worked by hand

abbrev registers : ℕ → Option ℕ → At
registers line None = on line (trace_event.message FromTill (registration (0 ∷ 0 ∷ 0 ∷ []) 0xBE None))
registers line (Some currency) = on line (trace_event.message FromTill (registration (0 ∷ 0 ∷ 0 ∷ []) 0xBE (Some (currency, []))))

-- a payment in dollars is no registration
abbrev pays : ℕ → At
pays line = on line (trace_event.message FromTill (authorisation (plain 0x04 (0 ∷ 0 ∷ 0 ∷ 0 ∷ 0 ∷ 1 ∷ []) ∷ plain 0x49 (0x08 ∷ 0x40 ∷ []) ∷ [])))

-- no registration of the till
abbrev echoed : ℕ → At
echoed line = on line (trace_event.message FromTerminal (registration (0 ∷ 0 ∷ 0 ∷ []) 0xBE (Some (756, []))))

none_named : one_currency (currencies_of (registers 1 None ∷ pays 2 ∷ echoed 3 ∷ [])) ≡ None
none_named = refl

one_named : one_currency (currencies_of (registers 1 (Some 978) ∷ pays 2 ∷ echoed 3 ∷ [])) ≡ Some 978
one_named = refl

twice_named : one_currency (currencies_of (registers 1 (Some 978) ∷ on 2 trace_event.lost ∷ registers 3 None ∷ registers 4 (Some 978) ∷ [])) ≡ Some 978
twice_named = refl

two_named : one_currency (currencies_of (registers 1 (Some 978) ∷ registers 2 (Some 840) ∷ registers 3 (Some 978) ∷ [])) ≡ None
two_named = refl

-- ---- what was noticed so far

-- a registration names this currency
abbrev pub chosen : NamedCurrency → ℕ → NamedCurrency
chosen Absent currency = Single currency
chosen (Single first) currency = cond (nat_eq first currency) (Single first) Mixed
chosen Mixed currency = Mixed

-- what was noticed, with one thing more
abbrev pub named_after : NamedCurrency → Option ℕ → NamedCurrency
named_after named None = named
named_after named (Some currency) = chosen named currency

-- the one currency of what was noticed
abbrev pub agreed : NamedCurrency → Option ℕ
agreed Absent = None
agreed (Single currency) = Some currency
agreed Mixed = None
