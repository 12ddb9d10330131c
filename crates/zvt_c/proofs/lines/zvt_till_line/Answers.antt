use Rattle.std.proofs.Common.{◌≡◌, Bool, true, Option, Some, MatchBool, MatchOption, option_map, sym, ap, subst, rules, ◌∙◌}
use Rattle.zvt_apdu.specs.Message.{Message}
use Rattle.zvt_c.specs.declared.session.Session.{Session}
use Rattle.zvt_c.specs.Lines.{GivesLine, is_codepage, no_line}
use Rattle.zvt_c.proofs.lines.zvt_till_line.Goals as goal

pub returns-clause-line : goal.returns-clause-line
returns-clause-line c =
    let small : is_codepage c.args.codepage ≡ true = search rules in
    subst
    (λ (page : Bool). MatchBool page
    (MatchOption c.args.till.now.raw_handle.held ((c.give_line-status.new.buffer ≡ c.args.buffer.now) × (c.give_line-status.new.line ≡ no_line) × (c.give_line-status.result ≡ 6))
    (λ end. GivesLine end.stream.lent c.args.place c.args.codepage c.args.buffer.now c.give_line-status.new.buffer c.give_line-status.new.line c.give_line-status.result))
    ((c.give_line-status.new.buffer ≡ c.args.buffer.now) × (c.give_line-status.new.line ≡ no_line) × (c.give_line-status.result ≡ 5)))
    (sym small)
    (subst
    (λ (held : Option Session). MatchOption held ((c.give_line-status.new.buffer ≡ c.args.buffer.now) × (c.give_line-status.new.line ≡ no_line) × (c.give_line-status.result ≡ 6))
    (λ end. GivesLine end.stream.lent c.args.place c.args.codepage c.args.buffer.now c.give_line-status.new.buffer c.give_line-status.new.line c.give_line-status.result))
    (ap Some c.deref.ensures ∙ (sym (ap (option_map (λ end. end.value)) c.in-Some.is) ∙ c.take.ensures.taken))
    (subst (λ (lent : Option Message). GivesLine lent c.args.place c.args.codepage c.args.buffer.now c.give_line-status.new.buffer c.give_line-status.new.line c.give_line-status.result) c.lent.ensures c.give_line-status.ensures))
