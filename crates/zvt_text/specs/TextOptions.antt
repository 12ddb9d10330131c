-- How much of a message a text shows.
use Rattle.std.specs.Prelude.{false, true}
use Rattle.zvt_text.specs.declared.text_options.TextOptions.{TextOptions}

abbrev pub plain_text : TextOptions
plain_text = record { safe = false; explained = false }

abbrev pub safe_text : TextOptions
safe_text = record { safe = true; explained = false }

abbrev pub explained_text : TextOptions
explained_text = record { safe = false; explained = true }

abbrev pub safe_explained_text : TextOptions
safe_explained_text = record { safe = true; explained = true }
