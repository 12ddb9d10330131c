use Rattle.std.proofs.Common.{◌∙◌, Bor, List, ℕ, Option, ap, sym}
use Rattle.std.specs.Option.{option_map}
use Rattle.zvt_text.proofs.MeaningLemmas.{words_are, words_of}
use Rattle.zvt_text.proofs.meanings.words_in.Goals as goal

pub returns-in_err-row_of : goal.returns-in_err-row_of
returns-in_err-row_of c =
    ap (λ (words : Option (Bor (List ℕ))). option_map (λ words. words.now) words) c.from_residual.ensures
    ∙ ap words_of (sym c.in_err-row_of.was) ∙ words_are c.args.rows.now c.args.number c.row_of.result c.row_of.ensures

pub returns : goal.returns
returns c = ap words_of (sym c.in_ok-row_of.was) ∙ words_are c.args.rows.now c.args.number c.row_of.result c.row_of.ensures
