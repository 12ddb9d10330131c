-- What is said of a stream or a line, not of a message.
use Rattle.std.specs.Prelude.{ℕ, List, [], ◌∷◌, ◌++◌, codes, Option, Some, None}
use Rattle.std.specs.Fmt.{decimal}
use Rattle.zvt_grammar.specs.Names.{why_name}
use Rattle.zvt_grammar.specs.declared.why.Why.{Why}
use Rattle.zvt_trace.specs.Lines.{direction_text}
use Rattle.zvt_trace.specs.declared.direction.Direction.{Direction}
use Rattle.zvt_show.specs.declared.render.Style.{Style}
use Rattle.zvt_show.specs.declared.render.Style.TheVariants.{Join, Json, JsonReceipts, Receipts, Show}

-- what comes before a line that is no part of a trace, where such lines are written at all
abbrev pub mark_of : Style → Option (List ℕ)
mark_of (Show options) = Some []
mark_of Join = Some (codes "# ")
mark_of (Receipts options) = None
mark_of Json = None
mark_of (JsonReceipts text_blocks) = None

abbrev pub marked : Option (List ℕ) → List ℕ → List ℕ
marked None text = []
marked (Some mark) text = mark ++ text ++ 10 ∷ []

abbrev pub refused_text : Style → Direction → ℕ → Why → List ℕ
refused_text style from place why =
    marked (mark_of style) (direction_text from ++ codes " refused at " ++ decimal place ++ codes ": " ++ why_name why)

-- the text for each piece after a refusal
abbrev pub stopped_text : Style → Direction → List ℕ
stopped_text style from = marked (mark_of style) (direction_text from ++ codes " stopped")

-- the text for a side that is read on after a refused message of that size
abbrev pub resumed_text : Style → Direction → (size : ℕ) → List ℕ
resumed_text style from size = marked (mark_of style) (direction_text from ++ codes " resumed after " ++ decimal size ++ codes " bytes")

abbrev pub truncated_text : Style → Direction → ℕ → List ℕ
truncated_text style from have = marked (mark_of style) (direction_text from ++ codes " truncated after " ++ decimal have)

abbrev pub lost_text : Style → List ℕ
lost_text (Show options) = codes "! line lost" ++ 10 ∷ []
lost_text Join = codes "!" ++ 10 ∷ []
lost_text (Receipts options) = []
lost_text Json = []
lost_text (JsonReceipts text_blocks) = []
