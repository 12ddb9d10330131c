-- A command line that names a file and no command.
use Rattle.std.specs.Prelude.{ℕ, Bool, false, not, ◌==◌, ◌&&◌, ◌||◌, List, [], ◌∷◌, codes, if◌then◌else◌}
use Rattle.std.specs.List.{list_any}
use Rattle.clap.specs.Words.{Text}

abbrev pub has : ℕ → Text → Bool
has character word = list_any (λ byte. byte == character) word

-- it contains a dot or a slash, and does not begin with a dash
abbrev pub is_path : Text → Bool
is_path [] = false
is_path (first ∷ rest) = not (first == 45) && (has 46 (first ∷ rest) || has 47 (first ∷ rest))

-- the words of a command line, beginning with the program's name; if the second word is a path, it is shown
abbrev pub with_show : List Text → List Text
with_show [] = []
with_show (program ∷ []) = program ∷ []
with_show (program ∷ word ∷ words) = if is_path word then program ∷ codes "show" ∷ word ∷ words else program ∷ word ∷ words
