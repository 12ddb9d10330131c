-- A terminal without a delay holds no payment, so its service is one call.
use Rattle.std.proofs.Common.{◌≡◌, ◌≢◌, ◌⊎◌, inl, inr, ◌∙◌, ℕ, zero, suc, ◌+◌, Bool, true, false, ◌&&◌, cond, is_some, nat_lt, List, [], ◌∷◌, Option, Some, None, ap, refl, sym, subst, arith}
use Rattle.zvt_apdu.specs.Message.{Message}
use Rattle.zvt_stream.specs.Answered.{Answered}
use Rattle.zvt_stream.specs.EndState.{EndState}
use Rattle.zvt_stream.specs.Hearing as hearing
use Rattle.zvt_stream.specs.LineRun.{reached}
use Rattle.zvt_stream.specs.Pumping.{Comes, FallsShort}
use Rattle.zvt_stream.specs.Turns.{LineState, Waited}
use Rattle.zvt_stream.specs.declared.line.LineFault.{LineFault}
use Rattle.zvt_stream.specs.declared.line.LineFault.TheVariants.{Read, Write, Ended, Turns, Malformed, Memory, Stopped}
use Rattle.zvt_stream.specs.declared.line.Until.{Until}
use Rattle.zvt_stream.specs.declared.line.Until.TheVariants.{Rest, Sent}
use Rattle.zvt_term.specs.declared.messages.Asked.{Asked}
use Rattle.zvt_term.specs.declared.messages.Asked.TheVariants.{Registration, Authorisation, Reversal, EndOfDay, AbortOrder, Answer, Unknown}
use Rattle.zvt_term.specs.declared.messages.Response.{Response}
use Rattle.zvt_term.specs.declared.extras.Extra.{Extra}
use Rattle.zvt_term.specs.declared.extras.Extras.{Extras}
use Rattle.zvt_term.specs.declared.extended.Extended.{Extended}
use Rattle.zvt_term.specs.Asking.{asked_as}
use Rattle.zvt_term.specs.Extended.{asked_turn, extended_hears, heard_extra, hears_by, hears_or_releases, hears_while, holds_or_hears, holds_payment, is_accepted, is_answer, is_held}
use Rattle.zvt_runs.specs.Service.{Decides, Fails, Hears, Misses, ServesUntil, Steps, Stops, UndelayedServes, never_rests, until_of}

-- it has no delay, and holds no payment
abbrev pub IsPrompt : Extended → Type 0
IsPrompt t = (t.extras.delay ≡ 0) × (t.held ≡ None)

prompts : (extras : Extras) (asked : Asked) (reply : Response) → extras.delay ≡ 0 → is_held extras asked reply ≡ false
prompts extras (Registration currency) reply e = refl
prompts extras (Authorisation amount named) reply e = ap (λ (ms : ℕ). nat_lt 0 ms && is_accepted reply) e
prompts extras (Reversal receipt) reply e = refl
prompts extras EndOfDay reply e = refl
prompts extras AbortOrder reply e = refl
prompts extras Answer reply e = refl
prompts extras Unknown reply e = refl

still_prompt : (old new : Extended) → IsPrompt old → new.extras ≡ old.extras → new.held ≡ None → IsPrompt new
still_prompt old new p e held = (ap (λ (x : Extras). x.delay) e ∙ p.0, held)

hears_promptly : (old new : Extended) (message : Message) (answers : Answered) → IsPrompt old → extended_hears old message answers new → IsPrompt new
hears_promptly old new message answers p h =
    by_answer (old.waits && is_answer (asked_as message)) (subst (λ (held : Option Asked). hears_while held old message answers new) p.1 h)
  where
    by_extra : (extra : Option Extra) → hears_by extra old message answers new → IsPrompt new
    by_extra None h =
        let asked : Asked = asked_as message in
        let heard : holds_or_hears false old asked answers new =
        subst (λ (b : Bool). holds_or_hears b old asked answers new) (prompts old.extras asked (asked_turn old asked).reply p.0) h in
        still_prompt old new p heard.made.extras heard.made.held
    by_extra (Some extra) h = still_prompt old new p h.made.extras h.made.held

    by_answer : (b : Bool) → hears_or_releases b old message answers new → IsPrompt new
    by_answer true h = still_prompt old new p h.extras (h.held ∙ p.1)
    by_answer false h = by_extra (heard_extra old.extras message) h

hear_promptly : (messages : List Message) (answers : List Answered) (old new : Extended) → IsPrompt old → hearing.Hears extended_hears old messages answers new → IsPrompt new
hear_promptly [] [] old new p e = subst IsPrompt e p
hear_promptly (message ∷ messages) (answer ∷ answers) old new p h = hear_promptly messages answers h.0 new (hears_promptly old h.0 message answer p h.1) h.2
hear_promptly [] (answer ∷ answers) old new p h = absurd h
hear_promptly (message ∷ messages) [] old new p h = absurd h

holds_none : (t : Extended) → IsPrompt t → holds_payment t ≡ true → ⊥
holds_none t p h = let e : is_some t.held ≡ false = ap is_some p.1 in absurd cc

reads_to_rest : (t : Extended) → IsPrompt t → until_of t ≡ Rest
reads_to_rest t p = ap (λ (held : Option Asked). cond (is_some held) Sent Rest) p.1

-- a call never comes to hold a payment
never_comes : (before after : EndState) (old new : Extended) → IsPrompt old → Hears before old after new → ⊥
never_comes before after old new p h = by_case (subst (λ (u : Until). Comes extended_hears holds_payment u 1000000 before old after new) (reads_to_rest old p) h)
  where
    by_case : Comes extended_hears holds_payment Rest 1000000 before old after new → ⊥
    by_case (inl stays) = holds_none old p stays.at_once
    by_case (inr comes) = let heard = comes.1.pumped.course.heard in holds_none new (hear_promptly heard.messages heard.answers old new p heard.heard) comes.1.there

-- from a terminal that is still prompt
no_step_from : (middle after : EndState) (old terminal new : Extended) → IsPrompt old → terminal ≡ old → Hears middle terminal after new ⊎ Decides middle terminal after new → ⊥
no_step_from middle after old terminal new p same (inl hears) = never_comes middle after terminal new (subst IsPrompt (sym same) p) hears
no_step_from middle after old terminal new p same (inr decides) = holds_none terminal (subst IsPrompt (sym same) p) decides.holds

no_step : (n : ℕ) (before after : EndState) (old new : Extended) → IsPrompt old → Steps n before old after new → (n ≡ 0) × (after ≡ before) × (new ≡ old)
no_step zero before after old new p so = (refl, so.0, so.1)
no_step (suc n) before after old new p so = absurd (no_step_from so.0 after old so.1 new p (no_step n before so.0 old so.1 p so.2).2 so.3)

-- turns before which no payment was held
waits : (n : ℕ) (old new : LineState Extended) → Waited extended_hears holds_payment Rest n old new → Waited extended_hears never_rests Rest n old new
waits zero old new h = h
waits (suc n) old new h = (h.0, waits n old h.0 h.1, h.2, refl)

falls : (fault : LineFault) (before after : EndState) (old new : Extended) → FallsShort extended_hears holds_payment Rest 1000000 fault before old after new
    → FallsShort extended_hears never_rests Rest 1000000 fault before old after new
falls fault before after old new h =
    record {
      broken = h.broken;
      falters = record { before = h.falters.before; middle = h.falters.middle; waited = waits h.falters.before _ h.falters.middle h.falters.waited; last = h.falters.last };
      one_fails = h.one_fails;
    }

fails_not : (fault : LineFault) (before after : EndState) (old new : Extended) → IsPrompt old → Fails fault before old after new → ⊥
fails_not Memory before after old new p h = holds_none old p h.0
fails_not Write before after old new p h = holds_none old p h.0
fails_not Read before after old new p h = absurd h
fails_not (Ended have) before after old new p h = absurd h
fails_not Turns before after old new p h = absurd h
fails_not (Malformed place why) before after old new p h = absurd h
fails_not Stopped before after old new p h = absurd h

pub undelayed_serves : UndelayedServes
undelayed_serves fault before after old new none free h =
    record { middle = h.middle; not_at_once = refl; falls_short = falls fault before after old h.middle (short h.stops); reported = h.reported }
  where
    p : IsPrompt old
    p = (none, free)

    start : (h.steps ≡ 0) × (h.last_end ≡ before) × (h.last ≡ old)
    start = no_step h.steps before h.last_end old h.last p h.stepped

    prompt : IsPrompt h.last
    prompt = subst IsPrompt (sym start.2) p

    short : Stops h.steps fault h.last_end h.last after h.middle → FallsShort extended_hears holds_payment Rest 1000000 fault before old after h.middle
    short (inl misses) =
        let reads = subst (λ (u : Until). FallsShort extended_hears holds_payment u 1000000 fault h.last_end h.last after h.middle) (reads_to_rest h.last prompt) misses in
        subst (λ (t : Extended). FallsShort extended_hears holds_payment Rest 1000000 fault before t after h.middle) start.2
        (subst (λ (e : EndState). FallsShort extended_hears holds_payment Rest 1000000 fault e h.last after h.middle) start.1 reads)
    short (inr (inl fails)) = absurd (fails_not fault h.last_end after h.last h.middle prompt fails)
    short (inr (inr all)) = absurd (omega (arith, all.0, start.0))
