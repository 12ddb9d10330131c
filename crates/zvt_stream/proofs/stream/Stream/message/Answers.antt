use Rattle.std.proofs.Common.{◌∙◌, IsSome, ap, subst, sym}
use Rattle.zvt_grammar.specs.Reading.{padded}
use Rattle.zvt_stream.specs.Head.{head_of}
use Rattle.zvt_stream.specs.LineReading.{kind_named, stand_in}
use Rattle.zvt_stream.specs.StreamState.{StreamState}
use Rattle.zvt_stream.proofs.LentLemmas.{lent_is, lent_stand_in, some_has}
use Rattle.zvt_stream.proofs.stream.Stream.message.Goals as goal

pub view-requires : goal.view-requires
view-requires c = (stand_in (kind_named (head_of c.self.inside.held.bytes)), ∣ c.stand_in.ensures padded ∣₁)

pub returns-then-self : goal.returns-then-self
returns-then-self c =
    let some = subst (λ (s : StreamState). IsSome s.lent) (sym c.self.view_is) c.requires in
    lent_stand_in c.self.inside.has_message c.self.inside.refused c.self.inside.held.bytes c.self.inside.spelled c.view.result (some_has _ _ _ _ some) c.if-self.true (c.view.ensures _ (c.stand_in.ensures padded)) ∙ ap (λ (s : StreamState). s.lent) c.self.view_is

pub returns-else-self : goal.returns-else-self
returns-else-self c =
    let some = subst (λ (s : StreamState). IsSome s.lent) (sym c.self.view_is) c.requires in
    lent_is c.self.inside.has_message c.self.inside.refused c.self.inside.held.bytes _ c.self.inside.spelled c.view-else-self.result (some_has _ _ _ _ some) c.if-self.false c.spelled.ensures c.view-else-self.ensures ∙ ap (λ (s : StreamState). s.lent) c.self.view_is
