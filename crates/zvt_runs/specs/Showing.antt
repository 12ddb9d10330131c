-- How the messages of a terminal are shown.
use Rattle.zvt_text.specs.declared.form.Form.{Form}
use Rattle.zvt_text.specs.declared.form.Form.TheVariants as form
use Rattle.zvt_show.specs.declared.render.Style.{Style}
use Rattle.zvt_show.specs.declared.render.Style.TheVariants.{Json, Show}
use Rattle.zvt_text.specs.TextOptions.{safe_text}

-- the style that shows a line in this form
abbrev pub style_of : Form → Style
style_of form.Text = Show safe_text
style_of form.Json = Json
