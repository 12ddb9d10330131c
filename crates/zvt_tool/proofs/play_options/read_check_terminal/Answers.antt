use Rattle.std.proofs.Common.{◌∙◌, ap, codes, option_map, refl, sym, Bor, List, ℕ}
use Rattle.clap.specs.Matches.{found_of}
use Rattle.clap.specs.Walk.{rows_of}
use Rattle.zvt_tool.proofs.Lacking.{check_terminal_without_port}
use Rattle.zvt_tool.proofs.play_options.read_check_terminal.Goals as goal

pub returns-in_default : goal.returns-in_default
returns-in_default c = check_terminal_without_port (rows_of (found_of c.args.inner.now)) c.in_default.ensures

pub returns : goal.returns
returns c = (refl, c.in_ok-options.ensures (codes "port") c.in-Some.ensures (sym c.text.ensures ∙ ap (option_map (λ (text : Bor (List ℕ)). text.now)) c.in-Some-text.is))
