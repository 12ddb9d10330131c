use Rattle.std.proofs.Common.{◌∙◌, ap, ◌++◌, append-nil, refl}
use Rattle.zvt_show.specs.Notes.{unread_of}
use Rattle.zvt_show.proofs.diagnostics.notes.NotesListener.hear.Goals as goal

pub returns-in_ok-put-in-Lost : goal.returns-in_ok-put-in-Lost
returns-in_ok-put-in-Lost c = rw c.in-Lost.is (record {
  scope = refl;
  counts = rw c.in-Lost.is at c.add.ensures;
  text = λ events counts.
      let none = (rw c.in-Lost.is at c.in_ok-put.ensures) ∙ append-nil c.args.self.now.text in
      c.in_ok-put-in-Lost.ensures events counts ∙ ap (λ t. t ++ unread_of c.args.self.now.scope events) none;
  trailing = λ events counts. c.nothing-self.ensures c.args.self.now.scope;
})
