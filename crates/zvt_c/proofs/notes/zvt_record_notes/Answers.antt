use Rattle.std.proofs.Common.{Option, Some, option_map, sym, subst, ap, ◌∙◌}
use Rattle.zvt_till.specs.View.{TillValue}
use Rattle.zvt_c.specs.declared.session.Session.{Session}
use Rattle.zvt_c.specs.Listing.{ListsHandle, ListsNotes}
use Rattle.zvt_c.proofs.notes.zvt_record_notes.Goals as goal

pub returns-clause-notes : goal.returns-clause-notes
returns-clause-notes c =
    subst (λ (held : Option Session). ListsHandle held c.args.text.now c.args.buffer.now c.list_notes.new.buffer c.list_notes.result)
    (ap Some c.deref.ensures ∙ (sym (ap (option_map (λ end. end.value)) c.in-Some.is) ∙ c.take.ensures.taken))
    (subst (λ (till : TillValue). ListsNotes till.state.settings c.args.text.now c.args.buffer.now c.list_notes.new.buffer c.list_notes.result) c.till.ensures c.list_notes.ensures)
