use Rattle.std.proofs.Common.{◌≡◌, codes}
use Rattle.std.specs.Fmt.{decimal}
use Rattle.zvt_grammar.specs.Names.{why_name}
use Rattle.zvt_text.specs.Bytes.{hex_of}
use Rattle.zvt_text.proofs.RoomLemmas.{puts_more}
use Rattle.zvt_json.specs.Texts.{shut}
use Rattle.zvt_json.proofs.events.reason.Goals as goal

pub returns : goal.returns
returns c =
    let same : c.as_bytes.result.now ≡ why_name c.args.why = cc in
    rw (← same)
    (puts_more c.fixed-4.result _ _ _ _ _ (codes "{\"byte\":\"") _ c.in_ok-at.ensures.1
    (puts_more c.fixed-4.result _ _ _ _ _ (shut (hex_of c.args.first)) _ c.in_ok-at-2.ensures.1
    (puts_more c.fixed-4.result _ _ _ _ _ (codes ",\"place\":") _ c.in_ok-at-3.ensures.1
    (puts_more c.fixed-4.result _ _ _ _ _ (decimal c.args.place) _ c.in_ok-at-4.ensures.1
    (puts_more c.fixed-4.result _ _ _ _ _ (codes ",\"reason\":\"") _ c.in_ok-at-5.ensures.1
    (puts_more c.fixed-4.result _ _ _ _ _ c.as_bytes.result.now (codes "\"}") c.in_ok-at-6.ensures.1 c.fixed-4.ensures))))))
