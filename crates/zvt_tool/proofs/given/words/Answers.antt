use Rattle.std.proofs.Common.{◌∙◌, map, ap, List, ℕ, Bor}
use Rattle.std.specs.Prelude.{Some, None}
use Rattle.std.proofs.lemmas.Result.{IfOk-weaker}
use Rattle.clap.specs.Matches.{found_of}
use Rattle.zvt_tool.proofs.Reading.{words_known}
use Rattle.zvt_tool.proofs.given.words.Goals as goal

pub returns-in-Some : goal.returns-in-Some
returns-in-Some c =
    let known = words_known (found_of c.args.inner.now) c.args.id.now (Some c.in-Some.words) c.in-Some.ensures in
    IfOk-weaker c.from_slice.result _ _ (λ v e. ap (map (λ (s : Bor (List ℕ)). s.now)) e ∙ known) c.from_slice.ensures.items

pub returns-in-None : goal.returns-in-None
returns-in-None c =
    let known = words_known (found_of c.args.inner.now) c.args.id.now None c.in-None.ensures in
    ap (map (λ (s : Bor (List ℕ)). s.now)) c.new.ensures.items ∙ known
