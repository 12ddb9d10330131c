use Rattle.std.proofs.Common.{codes}
use Rattle.zvt_text.specs.Bytes.{hex_of}
use Rattle.zvt_text.specs.Meanings.{status_words}
use Rattle.zvt_text.proofs.RoomLemmas.{puts_more}
use Rattle.zvt_json.specs.Texts.{shut, words_text}
use Rattle.zvt_json.proofs.MessageLemmas.{words_put}
use Rattle.zvt_json.proofs.messages.status.Goals as goal

pub returns : goal.returns
returns c =
    rw c.in-Some.is
    (puts_more c.words.result _ _ _ _ _ (codes ",\"status\":\"") _ c.in_ok-at.ensures.1
    (puts_more c.words.result _ _ _ _ _ (shut (hex_of c.in-Some.status)) (words_text (status_words c.in-Some.status)) c.in_ok-at-2.ensures.1
    (words_put c.words.result _ _ _ _ _ c.status_words.ensures c.words.ensures)))
