-- The objects of the orders that a person should look at.
use Rattle.std.specs.Prelude.{◌≡◌, ℕ, ◌+◌, Bool, true, List, [], ◌∷◌, ◌++◌, map, Option, Some, None, codes, option_map, take, refl}
use Rattle.std.specs.List.{flat_map}
use Rattle.std.specs.Fmt.{digits}
use Rattle.json.specs.Print.{escape_byte}
use Rattle.serde_json.specs.Data.{Data, Members, no_members, member, object, string}
use Rattle.serde_json.specs.Written.{comma_if, compact_text}
use Rattle.zvt_json.specs.Strings.{line_text}
use Rattle.zvt_till.specs.declared.entries.Entry.{Entry}
use Rattle.zvt_till.specs.declared.happenings.Sent.{Sent}
use Rattle.zvt_till.specs.declared.happenings.Sent.TheVariants as sent
use Rattle.zvt_till.specs.declared.outcomes.Cause.TheVariants as cause
use Rattle.zvt_till.specs.declared.outcomes.Outcome.{Outcome}
use Rattle.zvt_till.specs.declared.outcomes.Outcome.TheVariants as outcome
use Rattle.zvt_report.specs.Advices.{advice}
use Rattle.zvt_report.specs.Amounts.{amount_text}
use Rattle.zvt_report.specs.Facts.{facts_of}
use Rattle.zvt_report.specs.Looks.{weight_of}
use Rattle.zvt_report.specs.Members.{name_text, object_name, value_data}
use Rattle.zvt_report.specs.Objects.{cause_of, count, lines, maybe_cause, maybe_count, said_as}
use Rattle.zvt_report.specs.Phrases.{again_part, amount_or_dash, counted_as_paid, likeness, paid_again_by, reason}
use Rattle.zvt_report.specs.Apart.{apart_part, card_part}
use Rattle.zvt_report.specs.Places.{payments_in}
use Rattle.zvt_report.specs.Sentences.{account, title}
use Rattle.zvt_report.specs.TimeMembers.{maybe_time}
use Rattle.zvt_report.specs.declared.cases.Case.TheVariants as case_of
use Rattle.zvt_report.specs.declared.cases.Look.{Look}
use Rattle.zvt_report.specs.declared.closings.Closing.{Closing}
use Rattle.zvt_report.specs.declared.currencies.Decimals.{Decimals}
use Rattle.zvt_report.specs.declared.currencies.Decimals.TheVariants.{Two}
use Rattle.zvt_report.specs.declared.facts.Facts.{Facts}
use Rattle.zvt_report.specs.declared.members.Member.{Member}
use Rattle.zvt_report.specs.declared.members.Name.{Name}
use Rattle.zvt_report.specs.declared.members.Name.TheVariants as name
use Rattle.zvt_report.specs.declared.members.Object.TheVariants as object_of
use Rattle.zvt_report.specs.declared.members.Value.TheVariants as value
use Rattle.zvt_report.specs.declared.members.Word.TheVariants as word
use Rattle.zvt_report.specs.declared.rows.OrderMessage.{OrderMessage}
use Rattle.zvt_report.specs.declared.rows.OrderRow.{OrderRow}

-- ---- members and sentences

-- a name, and what stands under it
abbrev pub Told : Type 0
Told = Option (Name × Data)

abbrev pub of_member : Option Member → Told
of_member m = option_map (λ (given : Member). (given.name, value_data given.value)) m

abbrev pub sentence : Name → List ℕ → Told
sentence n text = Some (n, string text)

-- the members that have a value
abbrev pub told : List Told → Members
told [] = no_members
told (None ∷ more) = told more
told (Some t ∷ more) = member (name_text t.0) t.1 (told more)

-- ---- one look

-- the number of the payment at this place, if the order there is one
abbrev pub payment_at : (place : ℕ) → List OrderRow → Sent → Option ℕ
payment_at place rows (sent.Pay amount) = Some (payments_in (take place rows) + 1)
payment_at place rows _ = None

-- the number of the order at this place
abbrev pub order_member : Name → (place : Option ℕ) → Option Member
order_member n place = option_map (λ (p : ℕ). record { name = n; value = value.Count (p + 1) }) place

-- the members between the sentences
abbrev pub look_members : List OrderRow → Look → OrderRow → List (Option Member)
look_members rows look row =
    order_member name.Again look.again
    ∷ said_as name.Case (value.Word (word.Case look.case))
    ∷ maybe_cause name.Cause (cause_of row.outcome)
    ∷ order_member name.ConfirmedBy look.confirmed_by
    ∷ lines row
    ∷ count name.Order (look.order + 1)
    ∷ maybe_count name.Payment (payment_at look.order rows row.order)
    ∷ []

abbrev pub weight_member : Look → Option Member
weight_member look = said_as name.Weight (value.Word (word.Weight (weight_of look.case)))

-- the title, what happened and what to do stand among the members by their names
abbrev pub look_told : Decimals → Facts → List OrderRow → Look → List Told
look_told decimals facts rows look =
    sentence name.Advice (advice decimals facts look.case)
    ∷ (map of_member (look_members rows look facts.row)
    ++ (sentence name.Text (account decimals facts look.case)
    ∷ of_member (maybe_time facts.row.time)
    ∷ sentence name.Title (title decimals facts look.case)
    ∷ of_member (weight_member look)
    ∷ []))

abbrev pub look_value : List Told → Data
look_value members = object (member (object_name object_of.Look) (object (told members)) no_members)

-- the line of a look at one of these rows
abbrev pub look_line : Decimals → List Entry → List (Option Closing) → List OrderMessage → List OrderRow → Look → List ℕ
look_line decimals book closings messages rows look =
    elim (facts_of book closings messages rows look) [ None ↦ [] | Some facts ↦ line_text (look_value (look_told decimals facts rows look)) ]

abbrev pub looks_json : Decimals → List Entry → List (Option Closing) → List OrderMessage → List OrderRow → List Look → List ℕ
looks_json decimals book closings messages rows looks = flat_map (look_line decimals book closings messages rows) looks

-- ---- the same texts, as they are written

unfoldable pub told_text : (later : Bool) → Name → Data → List ℕ
told_text later n d = comma_if later ++ ((34 ∷ name_text n ++ 34 ∷ 58 ∷ []) ++ compact_text d)

-- members after others
abbrev pub more_text : List Told → List ℕ
more_text [] = []
more_text (None ∷ more) = more_text more
more_text (Some t ∷ more) = told_text true t.0 t.1 ++ more_text more

unfoldable pub more_of : List (Option Member) → List ℕ
more_of members = more_text (map of_member members)

-- ---- rows worked by hand

abbrev a_row : Sent → ℕ → ℕ → Outcome → OrderRow
a_row order first last outcome = record { order = order; first = first; last = last; outcome = outcome; approval = None; time = None; card = None }

-- a payment that was made twice
paid_twice : let orders = a_row (sent.Register None) 2 4 outcome.Registered ∷ a_row (sent.Pay 3499) 6 8 (outcome.Unclear cause.Line) ∷ a_row (sent.Pay 3499) 10 12 (outcome.Paid 21 None) ∷ [] in
    looks_json Two [] [] [] orders (record { case = case_of.PaymentUnclear; order = 1; again = Some 2; confirmed_by = None; undone_by = None } ∷ [])
    ≡ codes "{\"look\":{\"advice\":\"Look in the terminal's journal for two payments of 34.99. The customer may have paid twice.\",\"again\":3,\"case\":\"PaymentUnclear\",\"cause\":\"Line\",\"lines\":[6,8],\"order\":2,\"payment\":1,\"text\":\"The payment of 34.99 is unclear: the connection was lost. The till heard no approval, but the terminal may have given one. Then 34.99 was paid again (line 10, trace 000021).\",\"title\":\"Payment of 34.99 unclear\",\"weight\":\"check\"}}\n"
unfolding again_part amount_or_dash amount_text apart_part card_part counted_as_paid digits escape_byte likeness paid_again_by reason
paid_twice = refl
