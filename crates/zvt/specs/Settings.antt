-- The settings of a till, and the verdict and the extras of a terminal, from the arguments.
use Rattle.std.specs.Prelude.{◌≡◌, ◌⊎◌, ℕ, codes, cond, not, List, Option, Some, None, IfSome, is_some, option_map}
use Rattle.std.specs.Borrow.{Bor}
use Rattle.std.specs.Str.{bytes_eq}
use Rattle.zvt_till.specs.Events.{run_settings}
use Rattle.zvt_term.specs.declared.turns.Verdict.{Verdict}
use Rattle.zvt_term.specs.declared.turns.Verdict.TheVariants.{Approve, Decline}
use Rattle.zvt_term.specs.declared.cards.Card.{Card}
use Rattle.zvt_term.specs.declared.cards.Card.TheVariants.{Girocard, Visa}
use Rattle.zvt_term.specs.declared.extras.Extras.{Extras}
use Rattle.zvt_term.specs.declared.extras.Receipts.{Receipts}
use Rattle.zvt_term.specs.declared.extras.Receipts.TheVariants.{Lines, Blocks, Nothing}
use Rattle.zvt_runs.specs.declared.tcp.options.TillRun.{TillRun}
use Rattle.zvt_tool.specs.Options.{form_by, lengths_by}
use Rattle.zvt_runs.specs.Settings.{config_of, currency_of, password_of}
use Rattle.zvt_runs.specs.Words.{code_in}
use Rattle.zvt_till.specs.declared.settings.Rules.{Rules}
use Rattle.zvt_till.specs.declared.settings.TillSettings.{TillSettings}
use Rattle.zvt_tool.specs.declared.terminal_options.TerminalOptions.{TerminalOptions}
use Rattle.zvt_tool.specs.declared.till_options.TillOptions.{TillOptions}

-- what a word names, or the default where there is no word
abbrev pub named : {A : Type 0} → (default : A) → (List ℕ → Option A) → Option (Bor (List ℕ)) → Option A
named default names None = Some default
named default names (Some word) = names word.now

abbrev pub password_named : TillOptions → Option (List ℕ)
password_named options = named run_settings.password password_of options.password

abbrev pub config_named : TillOptions → Option ℕ
config_named options = named run_settings.config config_of options.config

abbrev pub currency_named : TillOptions → Option ℕ
currency_named options = named run_settings.currency currency_of options.currency

-- the rules that the flags state
abbrev pub rules_stated : TillOptions → Rules
rules_stated options = record { close_by_completion = options.close_by_completion; reversal_by_receipt = options.reversal_by_receipt }

-- the settings that the words and the flags name; or none, where one of the words names none
abbrev pub AreSettings : TillOptions → Option TillSettings → Type 0
AreSettings options (Some set) =
    (password_named options ≡ Some set.password) × (config_named options ≡ Some set.config) × (currency_named options ≡ Some set.currency)
    × (set.rules ≡ rules_stated options)
AreSettings options None = (password_named options ≡ None) ⊎ ((config_named options ≡ None) ⊎ (currency_named options ≡ None))

-- what a terminal decides: with no word it approves, and with one it declines by the code that the word names
abbrev pub verdict_named : Option (Bor (List ℕ)) → Option Verdict
verdict_named None = Some Approve
verdict_named (Some word) = option_map Decline (code_in word.now)

abbrev pub card_of : List ℕ → Option Card
card_of word = cond (bytes_eq word (codes "girocard")) (Some Girocard) (cond (bytes_eq word (codes "visa")) (Some Visa) None)

-- no card where there is no word
abbrev pub card_named : Option (Bor (List ℕ)) → Option (Option Card)
card_named None = Some None
card_named (Some word) = option_map (λ card. Some card) (card_of word.now)

abbrev pub receipts_of : List ℕ → Option Receipts
receipts_of word =
    cond (bytes_eq word (codes "lines")) (Some Lines)
    (cond (bytes_eq word (codes "blocks")) (Some Blocks) (cond (bytes_eq word (codes "none")) (Some Nothing) None))

-- what a terminal does beyond the profile; or nothing, where a word names no card or no form of receipts
abbrev pub AreExtras : TerminalOptions → Option Extras → Type 0
AreExtras options (Some extras) =
    (extras.extended ≡ options.extended) × (card_named options.card ≡ Some extras.card) × (named Lines receipts_of options.receipt ≡ Some extras.receipts)
    × (extras.intermediate ≡ options.intermediate) × (extras.delay ≡ options.delay)
AreExtras options None = (card_named options.card ≡ None) ⊎ (named Lines receipts_of options.receipt ≡ None)

-- each option of a till that its run has a part in
pub record RunsAsAsked (options : TillOptions) (run : TillRun) : Type 0 where
  pub host : run.host.now ≡ options.host.now
  pub port : run.port ≡ options.port
  pub seconds : run.seconds ≡ options.timeout
  pub lengths : run.line.lengths ≡ lengths_by options.loose
  pub reads_on : run.line.passes ≡ options.reads_on
  pub marks_times : IfSome run.trace (λ trace. trace.marks_times ≡ not options.no_times)
  pub show : is_some run.show ≡ options.show
  pub form : run.options.form ≡ form_by options.json
  pub check : run.options.check ≡ options.check
