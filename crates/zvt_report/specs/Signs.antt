-- What the messages of a trace say about the trace itself, event by event.
use Rattle.std.specs.Prelude.{◌≡◌, ℕ, nat_eq, Bool, cond, Option, Some, None}
use Rattle.zvt_trace.specs.Listening.{Fails, Hears}
use Rattle.zvt_trace.specs.Pairs.{one_more}
use Rattle.zvt_trace.specs.TraceEvent.{At}
use Rattle.zvt_trace.specs.declared.direction.Direction.TheVariants.{FromTill, FromTerminal}
use Rattle.zvt_trace.specs.declared.listener.ListenerError.TheVariants as failure
use Rattle.zvt_audit.specs.Orders.{is_order_from}
use Rattle.zvt_report.specs.Findings.{naming_at}
use Rattle.zvt_report.specs.declared.findings.Finding.{Finding}
use Rattle.zvt_report.specs.declared.findings.Finding.TheVariants.{Currencies}
use Rattle.zvt_report.specs.declared.signs.NamedSoFar.{NamedSoFar}
use Rattle.zvt_report.specs.declared.signs.NamedSoFar.TheVariants.{Nothing, One, Two}
use Rattle.zvt_report.specs.declared.signs.Signs.{Signs}

abbrev pub counted_if : Bool → ℕ → ℕ
counted_if more n = cond more (one_more n) n

-- what was named so far, with one naming more
abbrev pub named_with : NamedSoFar → Option (ℕ × ℕ) → NamedSoFar
named_with named None = named
named_with Nothing (Some naming) = One naming.0
named_with (One first) (Some naming) = cond (nat_eq first naming.0) (One first) (Two first naming.0 naming.1)
named_with (Two first other line) (Some naming) = Two first other line

abbrev pub currencies_by : NamedSoFar → Option Finding
currencies_by Nothing = None
currencies_by (One first) = None
currencies_by (Two first other line) = Some (Currencies first other line)

abbrev pub no_signs : Signs
no_signs = record { till = 0; terminal = 0; named = Nothing }

abbrev pub signs_after : Signs → At → Signs
signs_after old event =
    record {
      till = counted_if (is_order_from FromTill event.trace_event) old.till;
      terminal = counted_if (is_order_from FromTerminal event.trace_event) old.terminal;
      named = named_with old.named (naming_at event);
    }

-- ---- a listener

abbrev pub sees : Hears Signs
sees old event new = new ≡ signs_after old event

abbrev pub wants_memory : Fails Signs
wants_memory old event why new = why ≡ failure.Memory
