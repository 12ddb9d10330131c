use Rattle.std.proofs.Common.{ℕ, List, [], ◌∷◌, ◌++◌, ◌∙◌, sym, subst, ap}
use Rattle.zvt_io.proofs.KnownLemmas.{rest_of}
use Rattle.zvt_till.specs.declared.happenings.Happening.TheVariants.{Heard}
use Rattle.zvt_till.specs.Log.{line_up}
use Rattle.zvt_stream.proofs.LentLemmas.{feeds_shown}
use Rattle.zvt_till.proofs.Lines.{Reads, reads-all, reads-message, reads-refused, up-heard}
use Rattle.zvt_till.proofs.events.Run.piece.Goals as goal

pub messages-preserved : goal.messages-preserved
messages-preserved c =
    let lends = rw c.in-Ok-Message.field-0-is at c.in-Ok-Message.ensures.fed in
    let fed = feeds_shown c.messages.stream c.feed_view.new.self _ c.in-Ok-Message.taken c.lent.result c.in-Some.apdu lends c.lent.ensures c.in-Some.is in
    let heard = c.in_ok-heard-in-Ok-Message.ensures in
    let log = heard.log ∙ ap (λ m. c.messages.self.log.items ++ Heard m ∷ []) c.heard_view-message.ensures in
    let more = reads-message _ _ _ _ _ _ _ c.in-Some.apdu c.in-Ok-Message.taken c.messages.invariant.reads fed in
    record {
      tied = heard.tied;
      up = ap line_up log ∙ up-heard c.messages.self.log.items c.in-Some.apdu c.messages.invariant.up;
      reads =
          subst (λ (rest : List ℕ). Reads c.args.self.now.log.items c.args.stream.now.held c.args.piece.now c.heard.new.self.log.items c.feed_view.new.self rest) (sym (rest_of c.in-Ok-Message.taken c.messages.rest.now))
          (rw log more);
    }

pub returns-in-Ok-Refused-clause-read : goal.returns-in-Ok-Refused-clause-read
returns-in-Ok-Refused-clause-read c =
    let lends = rw c.in-Ok-Refused.field-0-is at c.in-Ok-Refused.ensures.fed in
    rw c.in_ok-malformed-in-Ok-Refused.ensures.log (reads-refused _ _ _ _ _ _ _ _ _ c.messages.invariant.reads lends.0)

pub returns-in-Ok-More-clause-read : goal.returns-in-Ok-More-clause-read
returns-in-Ok-More-clause-read c =
    let lends = rw c.in-Ok-More.field-0-is at c.in-Ok-More.ensures.fed in
    reads-all _ _ _ _ _ _ _ c.messages.invariant.reads lends.0
