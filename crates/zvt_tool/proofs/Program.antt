-- What clap's contracts say of the program's command line.
use Rattle.std.proofs.Common.{◌≡◌, ◌∙◌, sym, ap, refl, subst, List, [], Option, Some, None, Result, Ok, Err, option_map, true, inl, inr}
use Rattle.std.specs.Prelude.{Box}
use Rattle.std.specs.Box.{box_value}
use Rattle.clap.specs.Kinds.{FailsBy, HasKind, IsAmong}
use Rattle.clap.specs.Values.{kind_of}
use Rattle.clap.specs.Faults.{fault_of, is_simple_and_free}
use Rattle.clap.specs.Walk.{Row, Text}
use Rattle.clap.specs.Simple.{App, HasMatchesOf, app_of, is_simple, subcommand_of, subcommand_rows, subcommand_rows_of}
use Rattle.clap.specs.declared.parser.matches.ArgMatches.{ArgMatches}
use Rattle.clap.specs.declared.parser.matches.SubCommand.{SubCommand}
use Rattle.clap.specs.declared.parser.matches.ArgMatches.TheViews.{out-SubCommand}
use Rattle.clap.specs.declared.builder.command.Command.{Command}
use Rattle.clap.specs.declared.error.Error.{Error}
use Rattle.clap.proofs.OnLiterals.{clap_on_literals}
use Rattle.zvt_tool.specs.Commands.{zvt_app}
use Rattle.zvt_tool.specs.Chosen.{HasNoChoice, IsFaultOf, IsMissing, IsTakenAs, faults_of_arguments, reading_of_arguments}
use Rattle.zvt_tool.specs.declared.choices.ChoiceFault.{ChoiceFault}
use Rattle.zvt_tool.specs.declared.choices.ChoiceFault.TheVariants.{Memory, Words}

zvt_is_simple : is_simple zvt_app ≡ true
unfolding clap_on_literals
zvt_is_simple = refl

zvt_is_free : is_simple_and_free zvt_app ≡ true
unfolding clap_on_literals
zvt_is_free = refl

reading_is : (words : List Text) → subcommand_of zvt_app words ≡ reading_of_arguments words
unfolding reading_of_arguments
reading_is words = refl

faults_are : (words : List Text) → fault_of zvt_app words ≡ faults_of_arguments words
unfolding faults_of_arguments
faults_are words = refl

-- the reading that the contract names is what the matches hold
pub reading_known : (c : Command) (words : List Text) (m : ArgMatches) → app_of c ≡ zvt_app
    → HasMatchesOf (app_of c) words m → subcommand_rows_of m ≡ reading_of_arguments words
reading_known c words m is_zvt matched =
    (matched (ap is_simple is_zvt ∙ zvt_is_simple)).1 ∙ (ap (λ (a : App). subcommand_of a words) is_zvt ∙ reading_is words)

-- the parse fails by the faults that the contract names
pub fails_by : {T : Type 0} (c : Command) (words : List Text) (r : Result T Error) → app_of c ≡ zvt_app
    → (is_simple_and_free (app_of c) ≡ true → FailsBy (fault_of (app_of c) words) r) → FailsBy (faults_of_arguments words) r
fails_by c words r is_zvt fails =
    subst (λ ks. FailsBy ks r) (ap (λ (a : App). fault_of a words) is_zvt ∙ faults_are words)
    (fails (ap is_simple_and_free is_zvt ∙ zvt_is_free))

pub no_fault : {T : Type 0} (words : List Text) (r : Result T Error) (m : T) → r ≡ Ok m → FailsBy (faults_of_arguments words) r → faults_of_arguments words ≡ []
no_fault words r m is fails = subst (λ x. FailsBy (faults_of_arguments words) x) is fails

pub fault_taken : {T : Type 0} (words : List Text) (r : Result T Error) (e : Error) (fault : ChoiceFault) → r ≡ Err e
    → FailsBy (faults_of_arguments words) r → IsTakenAs e fault → IsFaultOf words fault
fault_taken words r e Memory is fails taken = tt
fault_taken words r e (Words given) is fails taken =
    let kinds : HasKind (faults_of_arguments words) e = subst (λ x. FailsBy (faults_of_arguments words) x) is fails in
    let own : IsAmong (kind_of e) (faults_of_arguments words) = elim kinds [
      | inl memory ↦ absurd (taken.1 memory)
      | inr among ↦ among
    ] in
    inl (subst (λ (x : Error). IsAmong (kind_of x) (faults_of_arguments words)) (sym taken.0) own)

pub missing_taken : (words : List Text) (reading : Option (Text × List Row)) (fault : ChoiceFault) → reading ≡ reading_of_arguments words
    → IsMissing fault → HasNoChoice reading → IsFaultOf words fault
missing_taken words reading Memory is missing none = tt
missing_taken words reading (Words error) is missing none =
    inr (missing, subst (λ (r : Option (Text × List Row)). HasNoChoice r) is none)

module _ {Z : Type 0} where
  pub named_rows : (o : Option (Box SubCommand Z)) (name : Text) (rows : List Row)
      → option_map (λ b. (out-SubCommand (box_value b)).name.now) o ≡ Some name
      → option_map (λ p. p.1) (subcommand_rows o) ≡ Some rows
      → subcommand_rows o ≡ Some (name, rows)
  named_rows None name rows e f = cc
  named_rows (Some b) name rows e f = cc

  pub no_rows : (o : Option (Box SubCommand Z))
      → option_map (λ b. (out-SubCommand (box_value b)).name.now) o ≡ None
      → subcommand_rows o ≡ None
  no_rows None e = refl
  no_rows (Some b) e = cc
