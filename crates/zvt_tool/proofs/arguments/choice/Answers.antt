use Rattle.std.proofs.Common.{◌≡◌, ◌∙◌, sym, subst, refl, false, List, ℕ, Option, None, Some, map, Bor}
use Rattle.clap.specs.Matches.{found_of}
use Rattle.clap.specs.Words.{Row, Text, rows_of, subcommand_rows_of}
use Rattle.clap.specs.declared.parser.matches.ArgMatches.TheViews.{out-ArgMatches}
use Rattle.zvt_tool.specs.Chosen.{HasNoChoice, IsChoiceOf, MayBeChoiceOf}
use Rattle.zvt_tool.specs.declared.choices.Choice.{Choice}
use Rattle.zvt_tool.specs.declared.choices.Choice.TheVariants.{Show}
use Rattle.zvt_tool.proofs.Program.{missing_taken, named_rows, no_rows}
use Rattle.zvt_tool.proofs.arguments.choice.Goals as goal

pub returns-in-None-clause-chosen : goal.returns-in-None-clause-chosen
returns-in-None-clause-chosen c =
    let m = c.in_ok-matches.matches in
    let none : subcommand_rows_of m ≡ None = no_rows (out-ArgMatches m).subcommand (sym c.in-None.ensures.name) in
    subst (λ (o : Option (Text × List Row)). IsChoiceOf o (Show c.show.result)) (sym none ∙ c.in_ok-matches.ensures.read) (refl, (false, (λ _. refl, λ bad. cc, λ _. refl), (false, (λ _. refl, λ bad. cc, λ _. refl), (false, (λ _. refl, λ bad. cc, λ _. refl), (false, (λ _. refl, λ bad. cc, λ _. refl), c.show.ensures)))))

pub returns-in-Some-2-clause-chosen : goal.returns-in-Some-2-clause-chosen
returns-in-Some-2-clause-chosen c =
    let m = c.in_ok-matches.matches in
    let rows = rows_of (found_of c.in-Some.inner.now) in
    let named = named_rows (out-ArgMatches m).subcommand c.in-Some.name.now rows (sym c.in-Some.ensures.name) (sym c.in-Some.ensures.rows) in
    let said = rw c.in-Some-2.is at c.in_ok-choice-in-Some.ensures in
    subst (λ (o : Option (Text × List Row)). IsChoiceOf o c.in-Some-2.choice) (sym named ∙ c.in_ok-matches.ensures.read) said

pub returns-clause-refused : goal.returns-clause-refused
returns-clause-refused c =
    let m = c.in_ok-matches.matches in
    let words = map (λ (w : Bor (List ℕ)). w.now) c.args.arguments.now in
    let rows = rows_of (found_of c.in-Some.inner.now) in
    let given : Option (Text × List Row) = Some (c.in-Some.name.now, rows) in
    let named = named_rows (out-ArgMatches m).subcommand c.in-Some.name.now rows (sym c.in-Some.ensures.name) (sym c.in-Some.ensures.rows) in
    let none : HasNoChoice given = subst (λ (o : Option Choice). MayBeChoiceOf given o) c.in-None-2.is c.in_ok-choice-in-Some.ensures in
    missing_taken words given c.incomplete.result (sym named ∙ c.in_ok-matches.ensures.read) c.incomplete.ensures none
