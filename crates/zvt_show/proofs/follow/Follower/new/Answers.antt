use Rattle.std.proofs.Common.{[], refl}
use Rattle.std.proofs.KnownBytes.{Appends-nil}
use Rattle.zvt_show.proofs.follow.Follower.new.Goals as goal

pub returns-clause-written : goal.returns-clause-written
returns-clause-written c = λ held. record {
  events = [];
  text = [];
  read = c.new-2.ensures.read;
  says = refl;
  written = Appends-nil held;
  in_style = c.new.ensures.style;
  reading = c.new-2.ensures.reading;
  by_scope = c.new-2.ensures.scope;
}
