-- A whole page: a document with this title and body.
use Rattle.std.specs.Prelude.{ℕ, List, ◌++◌}
use Rattle.zvt_page.specs.Html.{Html, escaped, render}
use Rattle.zvt_page.specs.declared.document.TheConstants.{AFTER_BODY, BEFORE_BODY, BEFORE_STYLE, BEFORE_TITLE}
use Rattle.zvt_page.specs.declared.style.TheConstants.{STYLE}

unfoldable pub document_start : (title : List ℕ) → List ℕ
document_start title = BEFORE_STYLE.now ++ STYLE.now ++ BEFORE_TITLE.now ++ escaped title ++ BEFORE_BODY.now

unfoldable pub document_end : List ℕ
document_end = AFTER_BODY.now

abbrev pub document : (title : List ℕ) → Html → List ℕ
document title body = document_start title ++ render body ++ document_end
