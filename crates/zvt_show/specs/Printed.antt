-- What is written by a printer whose pages and device are lent, and by a printing that has its own.
use Rattle.std.specs.Prelude.{◌≡◌, ℕ, List, Option}
use Rattle.zvt_trace.specs.Listening.{Fails, Hears}
use Rattle.zvt_show.specs.Text.{untimed}
use Rattle.zvt_show.specs.Written.{FailsEvent, Page, WritesEvent, page}
use Rattle.zvt_show.specs.declared.pages.Printer.{Printer}
use Rattle.zvt_show.specs.declared.pages.Printing.{Printing}

-- what its device has, what is still to be written there, and the number of failed writes
abbrev pub printed : {W : Type 0} → (W → Option (List ℕ)) → (W → ℕ) → Printer W → Page
printed written failures printer = page (record { style = printer.pages.now.style; times = printer.times.now }) (written printer.writer.now) printer.pages.now.block (failures printer.writer.now)

-- the same pages and the same device are lent to both
abbrev pub IsSamePrinter : {W : Type 0} → (old new : Printer W) → Type 0
IsSamePrinter old new = (new.pages.ghost_name ≡ old.pages.ghost_name) × (new.writer.ghost_name ≡ old.writer.ghost_name)

-- the text of an event was written, or waits to be
abbrev pub Prints : {W : Type 0} → (W → Option (List ℕ)) → (W → ℕ) → Hears (Printer W)
Prints written failures old event new = WritesEvent event (printed written failures old) (printed written failures new) × IsSamePrinter old new

abbrev pub FailsPrinting : {W : Type 0} → (W → Option (List ℕ)) → (W → ℕ) → Fails (Printer W)
FailsPrinting written failures old event why new = FailsEvent why (printed written failures old) (printed written failures new) × IsSamePrinter old new

-- what the device of a printing has, what is still to be written there, and the number of failed writes
abbrev pub printing_page : {W : Type 0} → (W → Option (List ℕ)) → (W → ℕ) → Printing W → Page
printing_page written failures printing = page (untimed printing.pages.style) (written printing.output) printing.pages.block (failures printing.output)
