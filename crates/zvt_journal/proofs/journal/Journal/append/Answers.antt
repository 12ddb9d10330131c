use Rattle.std.proofs.Common.{◌≤◌, ◌^◌, rules, ◌+◌, [], ◌∷◌, ◌++◌, length, get_or, inl, ◌∙◌, ap, subst, arith}
use Rattle.std.proofs.lemmas.Grind.{common_steps}
use Rattle.zvt_journal.specs.Device.{Over, Torn, Swapped}
use Rattle.zvt_journal.specs.Files.{IsKnown, IsRepairable}
use Rattle.zvt_journal.specs.Text.{recovered, IsWithOrWithout}
use Rattle.zvt_journal.proofs.Moments.{started, and_then}
use Rattle.zvt_journal.proofs.Known.{known_at_rest, known_torn, known_swapped}
use Rattle.zvt_journal.proofs.Lines.{recovered_whole}
use Rattle.zvt_journal.proofs.Repairable.{short_following, unmarked_following, repairable_at_rest, repairable_torn, repairable_swapped}
use Rattle.zvt_journal.proofs.Append.{torn_after, written_after, opened, swapped_gate, settled, stands_for_more}
use Rattle.zvt_journal.proofs.journal.Journal.append.Goals as goal

-- the first write leaves the text as it was
pub returns-in_err-write_synced-clause-any_moment : goal.returns-in_err-write_synced-clause-any_moment
returns-in_err-write_synced-clause-any_moment g c =
    let s = c.requires.settled in
    let device = c.args.self.now.device in
    let entry = c.args.entry.now in
    let gate = c.args.self.now.gate in
    let bytes = c.deref.result.now in
    let text = recovered (g.D.Device.seen device) in
    let is = recovered_whole (g.D.Device.seen device) in
    let P = IsWithOrWithout text entry in
    let start = started g.D.Device.moment g.D.Device.left_since device P (λ file left. inl (ap recovered (s.durable file (g.met.D.Device.only_now device file left)))) in
    let written = and_then g.D.Device.moment g.D.Device.left_since device device c.write_synced.new.device P (Torn (gate + 1) bytes (g.D.Device.seen device)) start c.write_synced.ensures.any_moment
    (λ file torn. inl (torn_after text is gate s.at_gate bytes file (subst (λ was. Torn (gate + 1) bytes was file) s.rest torn))) in
    written

-- the second leaves it with the record or without
pub returns-in_err-set_synced-clause-any_moment : goal.returns-in_err-set_synced-clause-any_moment
returns-in_err-set_synced-clause-any_moment g c =
    let s = c.requires.settled in
    let device = c.args.self.now.device in
    let entry = c.args.entry.now in
    let gate = c.args.self.now.gate in
    let bytes = c.deref.result.now in
    let text = recovered (g.D.Device.seen device) in
    let is = recovered_whole (g.D.Device.seen device) in
    let P = IsWithOrWithout text entry in
    let start = started g.D.Device.moment g.D.Device.left_since device P (λ file left. inl (ap recovered (s.durable file (g.met.D.Device.only_now device file left)))) in
    let written = and_then g.D.Device.moment g.D.Device.left_since device device c.write_synced.new.device P (Torn (gate + 1) bytes (g.D.Device.seen device)) start c.write_synced.ensures.any_moment
    (λ file torn. inl (torn_after text is gate s.at_gate bytes file (subst (λ was. Torn (gate + 1) bytes was file) s.rest torn))) in
    let following_is = c.deref.ensures.value ∙ c.in_ok-following.ensures in
    let over = subst (λ was. Over (gate + 1) bytes was (g.D.Device.seen c.write_synced.new.device)) s.rest c.in_ok-write_synced.ensures.written in
    let is_staged = written_after text is gate s.at_gate bytes _ over ∙ ap (λ l. text ++ 10 ∷ l) following_is in
    let gone_on = and_then g.D.Device.moment g.D.Device.left_since device c.write_synced.new.device c.set_synced.new.device P (Swapped gate (get_or entry 0 0) (g.D.Device.seen c.write_synced.new.device)) written c.set_synced.ensures.any_moment
    (λ file swapped. swapped_gate text is gate s.at_gate entry c.requires.entry file (subst (λ was. Swapped gate (get_or entry 0 0) was file) is_staged swapped)) in
    gone_on

pub returns-clause-any_moment : goal.returns-clause-any_moment
returns-clause-any_moment g c =
    let s = c.requires.settled in
    let device = c.args.self.now.device in
    let entry = c.args.entry.now in
    let gate = c.args.self.now.gate in
    let bytes = c.deref.result.now in
    let text = recovered (g.D.Device.seen device) in
    let is = recovered_whole (g.D.Device.seen device) in
    let P = IsWithOrWithout text entry in
    let start = started g.D.Device.moment g.D.Device.left_since device P (λ file left. inl (ap recovered (s.durable file (g.met.D.Device.only_now device file left)))) in
    let written = and_then g.D.Device.moment g.D.Device.left_since device device c.write_synced.new.device P (Torn (gate + 1) bytes (g.D.Device.seen device)) start c.write_synced.ensures.any_moment
    (λ file torn. inl (torn_after text is gate s.at_gate bytes file (subst (λ was. Torn (gate + 1) bytes was file) s.rest torn))) in
    let following_is = c.deref.ensures.value ∙ c.in_ok-following.ensures in
    let over = subst (λ was. Over (gate + 1) bytes was (g.D.Device.seen c.write_synced.new.device)) s.rest c.in_ok-write_synced.ensures.written in
    let is_staged = written_after text is gate s.at_gate bytes _ over ∙ ap (λ l. text ++ 10 ∷ l) following_is in
    let gone_on = and_then g.D.Device.moment g.D.Device.left_since device c.write_synced.new.device c.set_synced.new.device P (Swapped gate (get_or entry 0 0) (g.D.Device.seen c.write_synced.new.device)) written c.set_synced.ensures.any_moment
    (λ file swapped. swapped_gate text is gate s.at_gate entry c.requires.entry file (subst (λ was. Swapped gate (get_or entry 0 0) was file) is_staged swapped)) in
    gone_on

-- and then the record is on the disk
pub returns-clause-settled : goal.returns-clause-settled
returns-clause-settled g c =
    let s = c.requires.settled in
    let device = c.args.self.now.device in
    let entry = c.args.entry.now in
    let gate = c.args.self.now.gate in
    let bytes = c.deref.result.now in
    let text = recovered (g.D.Device.seen device) in
    let is = recovered_whole (g.D.Device.seen device) in
    let following_is = c.deref.ensures.value ∙ c.in_ok-following.ensures in
    let over = subst (λ was. Over (gate + 1) bytes was (g.D.Device.seen c.write_synced.new.device)) s.rest c.in_ok-write_synced.ensures.written in
    let is_staged = written_after text is gate s.at_gate bytes _ over ∙ ap (λ l. text ++ 10 ∷ l) following_is in
    let over_gate = subst (λ was. Over gate (get_or entry 0 0 ∷ []) was (g.D.Device.seen c.set_synced.new.device)) is_staged c.in_ok-set_synced.ensures.written in
    let is_open = opened text is gate s.at_gate entry c.requires.entry _ over_gate in
    settled text is gate s.at_gate entry c.requires.entry _ _ is_open c.in_ok-set_synced.ensures.durable

pub returns-clause-acknowledged : goal.returns-clause-acknowledged
returns-clause-acknowledged g c =
    let s = c.requires.settled in
    let device = c.args.self.now.device in
    let entry = c.args.entry.now in
    let gate = c.args.self.now.gate in
    let bytes = c.deref.result.now in
    let text = recovered (g.D.Device.seen device) in
    let is = recovered_whole (g.D.Device.seen device) in
    let following_is = c.deref.ensures.value ∙ c.in_ok-following.ensures in
    let over = subst (λ was. Over (gate + 1) bytes was (g.D.Device.seen c.write_synced.new.device)) s.rest c.in_ok-write_synced.ensures.written in
    let is_staged = written_after text is gate s.at_gate bytes _ over ∙ ap (λ l. text ++ 10 ∷ l) following_is in
    let over_gate = subst (λ was. Over gate (get_or entry 0 0 ∷ []) was (g.D.Device.seen c.set_synced.new.device)) is_staged c.in_ok-set_synced.ensures.written in
    let is_open = opened text is gate s.at_gate entry c.requires.entry _ over_gate in
    stands_for_more text is gate s.at_gate entry c.requires.entry _ is_open

-- and no more than the record and one byte after the whole lines
pub returns-in_err-write_synced-clause-repairable : goal.returns-in_err-write_synced-clause-repairable
returns-in_err-write_synced-clause-repairable g c =
    let s = c.requires.settled in
    let device = c.args.self.now.device in
    let entry = c.args.entry.now in
    let gate = c.args.self.now.gate in
    let bytes = c.deref.result.now in
    let text = recovered (g.D.Device.seen device) in
    let is = recovered_whole (g.D.Device.seen device) in
    let short : length entry ≤ 2 ^ 18 = search rules in
    let following_is = c.deref.ensures.value ∙ c.in_ok-following.ensures in
    let unmarked = unmarked_following entry bytes c.requires.entry following_is in
    let bound = short_following entry bytes c.requires.entry.some short (c.deref.ensures.value ∙ c.in_ok-following.ensures) in
    let start = started g.D.Device.moment g.D.Device.left_since device IsRepairable (λ file left. let at = s.durable file (g.met.D.Device.only_now device file left) in repairable_at_rest text is gate s.at_gate file (at ∙ s.rest) (ap recovered at)) in
    let written = and_then g.D.Device.moment g.D.Device.left_since device device c.write_synced.new.device IsRepairable (Torn (gate + 1) bytes (g.D.Device.seen device)) start c.write_synced.ensures.any_moment
    (λ file torn. repairable_torn text is gate s.at_gate bytes file bound unmarked (subst (λ was. Torn (gate + 1) bytes was file) s.rest torn)) in
    written

pub returns-in_err-set_synced-clause-repairable : goal.returns-in_err-set_synced-clause-repairable
returns-in_err-set_synced-clause-repairable g c =
    let s = c.requires.settled in
    let device = c.args.self.now.device in
    let entry = c.args.entry.now in
    let gate = c.args.self.now.gate in
    let bytes = c.deref.result.now in
    let text = recovered (g.D.Device.seen device) in
    let is = recovered_whole (g.D.Device.seen device) in
    let short : length entry ≤ 2 ^ 18 = search rules in
    let following_is = c.deref.ensures.value ∙ c.in_ok-following.ensures in
    let unmarked = unmarked_following entry bytes c.requires.entry following_is in
    let bound = short_following entry bytes c.requires.entry.some short (c.deref.ensures.value ∙ c.in_ok-following.ensures) in
    let start = started g.D.Device.moment g.D.Device.left_since device IsRepairable (λ file left. let at = s.durable file (g.met.D.Device.only_now device file left) in repairable_at_rest text is gate s.at_gate file (at ∙ s.rest) (ap recovered at)) in
    let written = and_then g.D.Device.moment g.D.Device.left_since device device c.write_synced.new.device IsRepairable (Torn (gate + 1) bytes (g.D.Device.seen device)) start c.write_synced.ensures.any_moment
    (λ file torn. repairable_torn text is gate s.at_gate bytes file bound unmarked (subst (λ was. Torn (gate + 1) bytes was file) s.rest torn)) in
    let over = subst (λ was. Over (gate + 1) bytes was (g.D.Device.seen c.write_synced.new.device)) s.rest c.in_ok-write_synced.ensures.written in
    let is_staged = written_after text is gate s.at_gate bytes _ over ∙ ap (λ l. text ++ 10 ∷ l) following_is in
    let gone_on = and_then g.D.Device.moment g.D.Device.left_since device c.write_synced.new.device c.set_synced.new.device IsRepairable (Swapped gate (get_or entry 0 0) (g.D.Device.seen c.write_synced.new.device)) written c.set_synced.ensures.any_moment
    (λ file swapped. repairable_swapped text is gate s.at_gate entry c.requires.entry short file (subst (λ was. Swapped gate (get_or entry 0 0) was file) is_staged swapped)) in
    gone_on

pub returns-clause-repairable : goal.returns-clause-repairable
returns-clause-repairable g c =
    let s = c.requires.settled in
    let device = c.args.self.now.device in
    let entry = c.args.entry.now in
    let gate = c.args.self.now.gate in
    let bytes = c.deref.result.now in
    let text = recovered (g.D.Device.seen device) in
    let is = recovered_whole (g.D.Device.seen device) in
    let short : length entry ≤ 2 ^ 18 = search rules in
    let following_is = c.deref.ensures.value ∙ c.in_ok-following.ensures in
    let unmarked = unmarked_following entry bytes c.requires.entry following_is in
    let bound = short_following entry bytes c.requires.entry.some short (c.deref.ensures.value ∙ c.in_ok-following.ensures) in
    let start = started g.D.Device.moment g.D.Device.left_since device IsRepairable (λ file left. let at = s.durable file (g.met.D.Device.only_now device file left) in repairable_at_rest text is gate s.at_gate file (at ∙ s.rest) (ap recovered at)) in
    let written = and_then g.D.Device.moment g.D.Device.left_since device device c.write_synced.new.device IsRepairable (Torn (gate + 1) bytes (g.D.Device.seen device)) start c.write_synced.ensures.any_moment
    (λ file torn. repairable_torn text is gate s.at_gate bytes file bound unmarked (subst (λ was. Torn (gate + 1) bytes was file) s.rest torn)) in
    let over = subst (λ was. Over (gate + 1) bytes was (g.D.Device.seen c.write_synced.new.device)) s.rest c.in_ok-write_synced.ensures.written in
    let is_staged = written_after text is gate s.at_gate bytes _ over ∙ ap (λ l. text ++ 10 ∷ l) following_is in
    let gone_on = and_then g.D.Device.moment g.D.Device.left_since device c.write_synced.new.device c.set_synced.new.device IsRepairable (Swapped gate (get_or entry 0 0) (g.D.Device.seen c.write_synced.new.device)) written c.set_synced.ensures.any_moment
    (λ file swapped. repairable_swapped text is gate s.at_gate entry c.requires.entry short file (subst (λ was. Swapped gate (get_or entry 0 0) was file) is_staged swapped)) in
    gone_on

pub returns-in_err-following-clause-repairable : goal.returns-in_err-following-clause-repairable
returns-in_err-following-clause-repairable g c = grind (arith, common_steps)

pub write_synced-requires-clause-within : goal.write_synced-requires-clause-within
write_synced-requires-clause-within g c = grind (arith, common_steps)

pub set_synced-requires-clause-within : goal.set_synced-requires-clause-within
set_synced-requires-clause-within g c = grind (arith, common_steps)

pub returns-clause-longest : goal.returns-clause-longest
returns-clause-longest c = search rules

-- nor is it a file of another kind
pub returns-then-self-ge-MAX_JOURNAL_LEN-clause-known : goal.returns-then-self-ge-MAX_JOURNAL_LEN-clause-known
returns-then-self-ge-MAX_JOURNAL_LEN-clause-known g c on =
    let s = c.requires.settled in
    let device = c.args.self.now.device in
    let entry = c.args.entry.now in
    let gate = c.args.self.now.gate in
    let text = recovered (g.D.Device.seen device) in
    let start = started g.D.Device.moment g.D.Device.left_since device IsKnown (λ file left. known_at_rest text entry on (recovered_whole (g.D.Device.seen device)) file (s.durable file (g.met.D.Device.only_now device file left) ∙ s.rest)) in
    start

pub returns-in_err-following-clause-known : goal.returns-in_err-following-clause-known
returns-in_err-following-clause-known g c on =
    let s = c.requires.settled in
    let device = c.args.self.now.device in
    let entry = c.args.entry.now in
    let gate = c.args.self.now.gate in
    let text = recovered (g.D.Device.seen device) in
    let start = started g.D.Device.moment g.D.Device.left_since device IsKnown (λ file left. known_at_rest text entry on (recovered_whole (g.D.Device.seen device)) file (s.durable file (g.met.D.Device.only_now device file left) ∙ s.rest)) in
    start

pub returns-in_err-write_synced-clause-known : goal.returns-in_err-write_synced-clause-known
returns-in_err-write_synced-clause-known g c on =
    let s = c.requires.settled in
    let device = c.args.self.now.device in
    let entry = c.args.entry.now in
    let gate = c.args.self.now.gate in
    let text = recovered (g.D.Device.seen device) in
    let start = started g.D.Device.moment g.D.Device.left_since device IsKnown (λ file left. known_at_rest text entry on (recovered_whole (g.D.Device.seen device)) file (s.durable file (g.met.D.Device.only_now device file left) ∙ s.rest)) in
    let bytes = c.deref.result.now in
    let is = recovered_whole (g.D.Device.seen device) in
    let following_is = c.deref.ensures.value ∙ c.in_ok-following.ensures in
    let written = and_then g.D.Device.moment g.D.Device.left_since device device c.write_synced.new.device IsKnown (Torn (gate + 1) bytes (g.D.Device.seen device)) start c.write_synced.ensures.any_moment
    (λ file torn. known_torn text entry on is gate s.at_gate bytes file following_is (subst (λ was. Torn (gate + 1) bytes was file) s.rest torn)) in
    written

pub returns-in_err-set_synced-clause-known : goal.returns-in_err-set_synced-clause-known
returns-in_err-set_synced-clause-known g c on =
    let s = c.requires.settled in
    let device = c.args.self.now.device in
    let entry = c.args.entry.now in
    let gate = c.args.self.now.gate in
    let text = recovered (g.D.Device.seen device) in
    let start = started g.D.Device.moment g.D.Device.left_since device IsKnown (λ file left. known_at_rest text entry on (recovered_whole (g.D.Device.seen device)) file (s.durable file (g.met.D.Device.only_now device file left) ∙ s.rest)) in
    let bytes = c.deref.result.now in
    let is = recovered_whole (g.D.Device.seen device) in
    let following_is = c.deref.ensures.value ∙ c.in_ok-following.ensures in
    let written = and_then g.D.Device.moment g.D.Device.left_since device device c.write_synced.new.device IsKnown (Torn (gate + 1) bytes (g.D.Device.seen device)) start c.write_synced.ensures.any_moment
    (λ file torn. known_torn text entry on is gate s.at_gate bytes file following_is (subst (λ was. Torn (gate + 1) bytes was file) s.rest torn)) in
    let over = subst (λ was. Over (gate + 1) bytes was (g.D.Device.seen c.write_synced.new.device)) s.rest c.in_ok-write_synced.ensures.written in
    let is_staged = written_after text is gate s.at_gate bytes _ over ∙ ap (λ l. text ++ 10 ∷ l) following_is in
    let gone_on = and_then g.D.Device.moment g.D.Device.left_since device c.write_synced.new.device c.set_synced.new.device IsKnown (Swapped gate (get_or entry 0 0) (g.D.Device.seen c.write_synced.new.device)) written c.set_synced.ensures.any_moment
    (λ file swapped. known_swapped text entry on is gate s.at_gate c.requires.entry file (subst (λ was. Swapped gate (get_or entry 0 0) was file) is_staged swapped)) in
    gone_on

pub returns-clause-known : goal.returns-clause-known
returns-clause-known g c on =
    let s = c.requires.settled in
    let device = c.args.self.now.device in
    let entry = c.args.entry.now in
    let gate = c.args.self.now.gate in
    let text = recovered (g.D.Device.seen device) in
    let start = started g.D.Device.moment g.D.Device.left_since device IsKnown (λ file left. known_at_rest text entry on (recovered_whole (g.D.Device.seen device)) file (s.durable file (g.met.D.Device.only_now device file left) ∙ s.rest)) in
    let bytes = c.deref.result.now in
    let is = recovered_whole (g.D.Device.seen device) in
    let following_is = c.deref.ensures.value ∙ c.in_ok-following.ensures in
    let written = and_then g.D.Device.moment g.D.Device.left_since device device c.write_synced.new.device IsKnown (Torn (gate + 1) bytes (g.D.Device.seen device)) start c.write_synced.ensures.any_moment
    (λ file torn. known_torn text entry on is gate s.at_gate bytes file following_is (subst (λ was. Torn (gate + 1) bytes was file) s.rest torn)) in
    let over = subst (λ was. Over (gate + 1) bytes was (g.D.Device.seen c.write_synced.new.device)) s.rest c.in_ok-write_synced.ensures.written in
    let is_staged = written_after text is gate s.at_gate bytes _ over ∙ ap (λ l. text ++ 10 ∷ l) following_is in
    let gone_on = and_then g.D.Device.moment g.D.Device.left_since device c.write_synced.new.device c.set_synced.new.device IsKnown (Swapped gate (get_or entry 0 0) (g.D.Device.seen c.write_synced.new.device)) written c.set_synced.ensures.any_moment
    (λ file swapped. known_swapped text entry on is gate s.at_gate c.requires.entry file (subst (λ was. Swapped gate (get_or entry 0 0) was file) is_staged swapped)) in
    gone_on
