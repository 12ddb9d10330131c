-- The options of `book` and `loop`.
use Rattle.std.specs.Prelude.{◌∷◌, [], codes}
use Rattle.clap.specs.Words.{App}
use Rattle.zvt_tool.specs.Options.{book_files_rule, command_app, flag_rule, option_rule, several_rule}

abbrev pub book_app : App
book_app = command_app (codes "book") (book_files_rule ∷ flag_rule (codes "json") ∷ flag_rule (codes "records") ∷ [])

abbrev pub loop_app : App
loop_app = command_app (codes "loop") (
    option_rule (codes "trace") ∷
    flag_rule (codes "no-times") ∷
    option_rule (codes "book") ∷
    flag_rule (codes "check") ∷
    flag_rule (codes "json") ∷
    several_rule (codes "step") ∷
    [])
