-- The settings of a till, and its rules.
use Rattle.std.specs.Prelude.{false}
use Rattle.zvt_till.specs.Sending.{Settings}
use Rattle.zvt_till.specs.declared.settings.Rules.{Rules}
use Rattle.zvt_till.specs.declared.settings.TillSettings.{TillSettings}

-- the rules of a shop that has stated no choice
abbrev pub strict : Rules
strict = record { close_by_completion = false; reversal_by_receipt = false }

-- the settings of a till that is made with these
abbrev pub settings_of : TillSettings → Settings
settings_of set = record { password = set.password; config = set.config; currency = set.currency; rules = set.rules }
