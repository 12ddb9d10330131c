use Rattle.std.proofs.Common.{List, ℕ, ap, arith, length, sym, ◌+◌, ◌-◌, ◌≡◌, ◌∙◌, ◌++◌}
use Rattle.std.proofs.lemmas.Bool.Decides.{Decides-eqb}
use Rattle.std.proofs.lemmas.Slice.Eq.{strip_prefix_is}
use Rattle.zvt_play.specs.Unheard.{unheard_in}
use Rattle.zvt_play.proofs.ListeningLemmas.{came_besides, came_more}
use Rattle.zvt_play.proofs.listening.listen_on.Goals as goal

pub reads-preserved : goal.reads-preserved
reads-preserved g c =
    let e = c.in-Some.ensures in
    let whole = rw c.in-Some-strip_prefix.is at (strip_prefix_is Decides-eqb c.reads.rest.now c.bytes.result.now c.strip_prefix.result c.strip_prefix.ensures.cases) in
    let is = whole ∙ ap (λ (b : List ℕ). b ++ c.in-Some-strip_prefix.left.now) c.bytes.ensures in
    record {
      came = came_more c.allowed-all.result.now c.reads.rest.now (unheard_in c.read_more.new.heard) c.in-Some-strip_prefix.left.now (g.R.Source.remaining c.args.reader.now) (g.R.Source.remaining c.reads.reader) (g.R.Source.remaining c.read_more.new.reader) c.reads.invariant.came is e.2;
      failures = e.3 ∙ c.reads.invariant.failures;
    }

pub returns-in-None-clause-err : goal.returns-in-None-clause-err
returns-in-None-clause-err g c =
    let e = c.in-Some.ensures in
    let never = rw c.in-None.is at (strip_prefix_is Decides-eqb c.reads.rest.now c.bytes.result.now c.strip_prefix.result c.strip_prefix.ensures.cases) in
    let apart = λ (after : List ℕ). λ (is : c.reads.rest.now ≡ unheard_in c.read_more.new.heard ++ after). never after (is ∙ ap (λ (b : List ℕ). b ++ after) (sym c.bytes.ensures)) in
    came_besides c.args.is_owed c.allowed-all.result.now c.reads.rest.now (unheard_in c.read_more.new.heard) (g.R.Source.remaining c.args.reader.now) (g.R.Source.remaining c.reads.reader) (g.R.Source.remaining c.read_more.new.reader) (length c.allowed-all.result.now - length c.reads.rest.now + c.in-Some.count)
    c.reads.invariant.came c.allowed-all.ensures (omega (arith, e.1)) (omega (arith, e.0, e.1)) apart e.2
