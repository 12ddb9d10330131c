use Rattle.std.proofs.Common.{◌≡◌, [], ◌∷◌, inl, inr, ℕ, List, length, take, sym, ◌∙◌, ap, subst}
use Rattle.zvt_journal.specs.Device.{Over, Torn, Cut}
use Rattle.zvt_journal.specs.Text.{whole, recovered, IsSettled, IsAsBefore}
use Rattle.zvt_journal.specs.Files.{IsKnownAsBefore, IsRepairableAsBefore}
use Rattle.zvt_journal.proofs.Known.{known_cut, known_gate}
use Rattle.zvt_journal.proofs.Repairable.{repairable_cut, repairable_gate}
use Rattle.zvt_journal.proofs.Moments.{started, goes_on, and_then}
use Rattle.zvt_journal.proofs.Lines.{recovered_whole, length-recovered}
use Rattle.zvt_journal.proofs.Repair.{cut_keeps, torn_end, closed_again, stands_for_same, settled_again}
use Rattle.zvt_journal.proofs.journal.open.Goals as goal

pub returns-in_err-sync-clause-any_moment : goal.returns-in_err-sync-clause-any_moment
returns-in_err-sync-clause-any_moment g c =
    let device = c.args.device.now in
    let file = g.D.Device.seen device in
    let text = recovered file in
    let P = IsAsBefore (g.D.Device.may_leave device) text in
    let start = started g.D.Device.moment g.D.Device.left_since device P (λ f left. inl (g.met.D.Device.only_now device f left)) in
    let synced = goes_on g.D.Device.moment g.D.Device.left_since device device c.sync.new.self P _ start c.sync.ensures.time (λ f now. inl (c.sync.ensures.crash f now)) in
    synced

-- what was read is on the disk
pub cut_synced-requires-clause-durable : goal.cut_synced-requires-clause-durable
cut_synced-requires-clause-durable g c =
    λ f now. c.in_ok-sync.ensures.durable f now ∙ sym c.sync.ensures.seen

-- no cut takes a whole line
pub returns-in_err-cut_synced-clause-any_moment : goal.returns-in_err-cut_synced-clause-any_moment
returns-in_err-cut_synced-clause-any_moment g c =
    let device = c.args.device.now in
    let file = g.D.Device.seen device in
    let text = recovered file in
    let is = recovered_whole file in
    let end = c.whole_lines-end.result in
    let read_is = c.requires.bytes in
    let end_is : end ≡ whole 0 file = c.whole_lines-end.ensures.whole ∙ ap (λ (l : List ℕ). whole 0 l) (c.deref.ensures.value ∙ read_is) in
    let same_file = c.sync.ensures.seen in
    let P = IsAsBefore (g.D.Device.may_leave device) text in
    let start = started g.D.Device.moment g.D.Device.left_since device P (λ f left. inl (g.met.D.Device.only_now device f left)) in
    let synced = goes_on g.D.Device.moment g.D.Device.left_since device device c.sync.new.self P _ start c.sync.ensures.time (λ f now. inl (c.sync.ensures.crash f now)) in
    let cut = and_then g.D.Device.moment g.D.Device.left_since device c.sync.new.self c.cut_synced.new.device P (Cut end (g.D.Device.seen c.sync.new.self)) synced c.cut_synced.ensures.any_moment
    (λ f left. inr (cut_keeps file f (subst (λ n. Cut n file f) end_is (subst (λ was. Cut end was f) same_file left)))) in
    cut

-- and one byte after them adds none
pub returns-in_err-write_synced-clause-any_moment : goal.returns-in_err-write_synced-clause-any_moment
returns-in_err-write_synced-clause-any_moment g c =
    let device = c.args.device.now in
    let file = g.D.Device.seen device in
    let text = recovered file in
    let is = recovered_whole file in
    let end = c.whole_lines-end.result in
    let read_is = c.requires.bytes in
    let end_is : end ≡ whole 0 file = c.whole_lines-end.ensures.whole ∙ ap (λ (l : List ℕ). whole 0 l) (c.deref.ensures.value ∙ read_is) in
    let same_file = c.sync.ensures.seen in
    let P = IsAsBefore (g.D.Device.may_leave device) text in
    let start = started g.D.Device.moment g.D.Device.left_since device P (λ f left. inl (g.met.D.Device.only_now device f left)) in
    let synced = goes_on g.D.Device.moment g.D.Device.left_since device device c.sync.new.self P _ start c.sync.ensures.time (λ f now. inl (c.sync.ensures.crash f now)) in
    let cut = and_then g.D.Device.moment g.D.Device.left_since device c.sync.new.self c.cut_synced.new.device P (Cut end (g.D.Device.seen c.sync.new.self)) synced c.cut_synced.ensures.any_moment
    (λ f left. inr (cut_keeps file f (subst (λ n. Cut n file f) end_is (subst (λ was. Cut end was f) same_file left)))) in
    let cut_is : g.D.Device.seen c.cut_synced.new.device ≡ text = c.in_ok-cut_synced.ensures.cut ∙ ap (λ (l : List ℕ). take end l) same_file ∙ ap (λ (n : ℕ). take n file) end_is in
    let at_end : end ≡ length text = end_is ∙ sym (length-recovered file) in
    let closed = and_then g.D.Device.moment g.D.Device.left_since device c.cut_synced.new.device c.write_synced.new.device P (Torn end (10 ∷ []) (g.D.Device.seen c.cut_synced.new.device)) cut c.write_synced.ensures.any_moment
    (λ f torn. inr (torn_end text is f (subst (λ n. Torn n (10 ∷ []) text f) at_end (subst (λ was. Torn end (10 ∷ []) was f) cut_is torn)))) in
    closed

pub returns-clause-any_moment : goal.returns-clause-any_moment
returns-clause-any_moment g c =
    let device = c.args.device.now in
    let file = g.D.Device.seen device in
    let text = recovered file in
    let is = recovered_whole file in
    let end = c.whole_lines-end.result in
    let read_is = c.requires.bytes in
    let end_is : end ≡ whole 0 file = c.whole_lines-end.ensures.whole ∙ ap (λ (l : List ℕ). whole 0 l) (c.deref.ensures.value ∙ read_is) in
    let same_file = c.sync.ensures.seen in
    let P = IsAsBefore (g.D.Device.may_leave device) text in
    let start = started g.D.Device.moment g.D.Device.left_since device P (λ f left. inl (g.met.D.Device.only_now device f left)) in
    let synced = goes_on g.D.Device.moment g.D.Device.left_since device device c.sync.new.self P _ start c.sync.ensures.time (λ f now. inl (c.sync.ensures.crash f now)) in
    let cut = and_then g.D.Device.moment g.D.Device.left_since device c.sync.new.self c.cut_synced.new.device P (Cut end (g.D.Device.seen c.sync.new.self)) synced c.cut_synced.ensures.any_moment
    (λ f left. inr (cut_keeps file f (subst (λ n. Cut n file f) end_is (subst (λ was. Cut end was f) same_file left)))) in
    let cut_is : g.D.Device.seen c.cut_synced.new.device ≡ text = c.in_ok-cut_synced.ensures.cut ∙ ap (λ (l : List ℕ). take end l) same_file ∙ ap (λ (n : ℕ). take n file) end_is in
    let at_end : end ≡ length text = end_is ∙ sym (length-recovered file) in
    let closed = and_then g.D.Device.moment g.D.Device.left_since device c.cut_synced.new.device c.write_synced.new.device P (Torn end (10 ∷ []) (g.D.Device.seen c.cut_synced.new.device)) cut c.write_synced.ensures.any_moment
    (λ f torn. inr (torn_end text is f (subst (λ n. Torn n (10 ∷ []) text f) at_end (subst (λ was. Torn end (10 ∷ []) was f) cut_is torn)))) in
    closed

-- then the file is at rest
pub returns-clause-settled : goal.returns-clause-settled
returns-clause-settled g c =
    let device = c.args.device.now in
    let file = g.D.Device.seen device in
    let text = recovered file in
    let is = recovered_whole file in
    let end = c.whole_lines-end.result in
    let read_is = c.requires.bytes in
    let end_is : end ≡ whole 0 file = c.whole_lines-end.ensures.whole ∙ ap (λ (l : List ℕ). whole 0 l) (c.deref.ensures.value ∙ read_is) in
    let same_file = c.sync.ensures.seen in
    let cut_is : g.D.Device.seen c.cut_synced.new.device ≡ text = c.in_ok-cut_synced.ensures.cut ∙ ap (λ (l : List ℕ). take end l) same_file ∙ ap (λ (n : ℕ). take n file) end_is in
    let at_end : end ≡ length text = end_is ∙ sym (length-recovered file) in
    let new = g.D.Device.seen c.write_synced.new.device in
    let rests = closed_again text is new (subst (λ n. Over n (10 ∷ []) text new) at_end (subst (λ was. Over end (10 ∷ []) was new) cut_is c.in_ok-write_synced.ensures.written)) in
    let settled = settled_again text is new (g.D.Device.may_leave c.write_synced.new.device) rests c.in_ok-write_synced.ensures.durable in
    let told : c.truncate-2.new.self.items ≡ text = c.truncate-2.ensures.items ∙ ap (λ (l : List ℕ). take end l) read_is ∙ ap (λ (n : ℕ). take n file) end_is in
    subst (λ n. IsSettled new (g.D.Device.may_leave c.write_synced.new.device) n) (ap length (sym told)) settled

pub returns-clause-kept : goal.returns-clause-kept
returns-clause-kept g c =
    let device = c.args.device.now in
    let file = g.D.Device.seen device in
    let text = recovered file in
    let is = recovered_whole file in
    let end = c.whole_lines-end.result in
    let read_is = c.requires.bytes in
    let end_is : end ≡ whole 0 file = c.whole_lines-end.ensures.whole ∙ ap (λ (l : List ℕ). whole 0 l) (c.deref.ensures.value ∙ read_is) in
    let same_file = c.sync.ensures.seen in
    let cut_is : g.D.Device.seen c.cut_synced.new.device ≡ text = c.in_ok-cut_synced.ensures.cut ∙ ap (λ (l : List ℕ). take end l) same_file ∙ ap (λ (n : ℕ). take n file) end_is in
    let at_end : end ≡ length text = end_is ∙ sym (length-recovered file) in
    let new = g.D.Device.seen c.write_synced.new.device in
    let rests = closed_again text is new (subst (λ n. Over n (10 ∷ []) text new) at_end (subst (λ was. Over end (10 ∷ []) was new) cut_is c.in_ok-write_synced.ensures.written)) in
    stands_for_same text is new rests

-- nor does any of it leave a file that opening refuses
pub returns-in_err-sync-clause-repairable : goal.returns-in_err-sync-clause-repairable
returns-in_err-sync-clause-repairable g c good =
    let device = c.args.device.now in
    let P = IsRepairableAsBefore (g.D.Device.may_leave device) in
    let start = started g.D.Device.moment g.D.Device.left_since device P (λ f left. inl (g.met.D.Device.only_now device f left)) in
    let synced = goes_on g.D.Device.moment g.D.Device.left_since device device c.sync.new.self P _ start c.sync.ensures.time (λ f now. inl (c.sync.ensures.crash f now)) in
    synced

pub returns-in_err-cut_synced-clause-repairable : goal.returns-in_err-cut_synced-clause-repairable
returns-in_err-cut_synced-clause-repairable g c good =
    let device = c.args.device.now in
    let file = g.D.Device.seen device in
    let text = recovered file in
    let is = recovered_whole file in
    let end = c.whole_lines-end.result in
    let read_is = c.requires.bytes in
    let end_is : end ≡ whole 0 file = c.whole_lines-end.ensures.whole ∙ ap (λ (l : List ℕ). whole 0 l) (c.deref.ensures.value ∙ read_is) in
    let same_file = c.sync.ensures.seen in
    let P = IsRepairableAsBefore (g.D.Device.may_leave device) in
    let start = started g.D.Device.moment g.D.Device.left_since device P (λ f left. inl (g.met.D.Device.only_now device f left)) in
    let synced = goes_on g.D.Device.moment g.D.Device.left_since device device c.sync.new.self P _ start c.sync.ensures.time (λ f now. inl (c.sync.ensures.crash f now)) in
    let cut = and_then g.D.Device.moment g.D.Device.left_since device c.sync.new.self c.cut_synced.new.device P (Cut end (g.D.Device.seen c.sync.new.self)) synced c.cut_synced.ensures.any_moment
    (λ f left. inr (repairable_cut file f good (subst (λ n. Cut n file f) end_is (subst (λ was. Cut end was f) same_file left)))) in
    cut

pub returns-in_err-write_synced-clause-repairable : goal.returns-in_err-write_synced-clause-repairable
returns-in_err-write_synced-clause-repairable g c good =
    let device = c.args.device.now in
    let file = g.D.Device.seen device in
    let text = recovered file in
    let is = recovered_whole file in
    let end = c.whole_lines-end.result in
    let read_is = c.requires.bytes in
    let end_is : end ≡ whole 0 file = c.whole_lines-end.ensures.whole ∙ ap (λ (l : List ℕ). whole 0 l) (c.deref.ensures.value ∙ read_is) in
    let same_file = c.sync.ensures.seen in
    let P = IsRepairableAsBefore (g.D.Device.may_leave device) in
    let start = started g.D.Device.moment g.D.Device.left_since device P (λ f left. inl (g.met.D.Device.only_now device f left)) in
    let synced = goes_on g.D.Device.moment g.D.Device.left_since device device c.sync.new.self P _ start c.sync.ensures.time (λ f now. inl (c.sync.ensures.crash f now)) in
    let cut = and_then g.D.Device.moment g.D.Device.left_since device c.sync.new.self c.cut_synced.new.device P (Cut end (g.D.Device.seen c.sync.new.self)) synced c.cut_synced.ensures.any_moment
    (λ f left. inr (repairable_cut file f good (subst (λ n. Cut n file f) end_is (subst (λ was. Cut end was f) same_file left)))) in
    let cut_is : g.D.Device.seen c.cut_synced.new.device ≡ text = c.in_ok-cut_synced.ensures.cut ∙ ap (λ (l : List ℕ). take end l) same_file ∙ ap (λ (n : ℕ). take n file) end_is in
    let at_end : end ≡ length text = end_is ∙ sym (length-recovered file) in
    let closed = and_then g.D.Device.moment g.D.Device.left_since device c.cut_synced.new.device c.write_synced.new.device P (Torn end (10 ∷ []) (g.D.Device.seen c.cut_synced.new.device)) cut c.write_synced.ensures.any_moment
    (λ f torn. inr (repairable_gate text f is (subst (λ n. Torn n (10 ∷ []) text f) at_end (subst (λ was. Torn end (10 ∷ []) was f) cut_is torn)))) in
    closed

pub returns-clause-repairable : goal.returns-clause-repairable
returns-clause-repairable g c good =
    let device = c.args.device.now in
    let file = g.D.Device.seen device in
    let text = recovered file in
    let is = recovered_whole file in
    let end = c.whole_lines-end.result in
    let read_is = c.requires.bytes in
    let end_is : end ≡ whole 0 file = c.whole_lines-end.ensures.whole ∙ ap (λ (l : List ℕ). whole 0 l) (c.deref.ensures.value ∙ read_is) in
    let same_file = c.sync.ensures.seen in
    let P = IsRepairableAsBefore (g.D.Device.may_leave device) in
    let start = started g.D.Device.moment g.D.Device.left_since device P (λ f left. inl (g.met.D.Device.only_now device f left)) in
    let synced = goes_on g.D.Device.moment g.D.Device.left_since device device c.sync.new.self P _ start c.sync.ensures.time (λ f now. inl (c.sync.ensures.crash f now)) in
    let cut = and_then g.D.Device.moment g.D.Device.left_since device c.sync.new.self c.cut_synced.new.device P (Cut end (g.D.Device.seen c.sync.new.self)) synced c.cut_synced.ensures.any_moment
    (λ f left. inr (repairable_cut file f good (subst (λ n. Cut n file f) end_is (subst (λ was. Cut end was f) same_file left)))) in
    let cut_is : g.D.Device.seen c.cut_synced.new.device ≡ text = c.in_ok-cut_synced.ensures.cut ∙ ap (λ (l : List ℕ). take end l) same_file ∙ ap (λ (n : ℕ). take n file) end_is in
    let at_end : end ≡ length text = end_is ∙ sym (length-recovered file) in
    let closed = and_then g.D.Device.moment g.D.Device.left_since device c.cut_synced.new.device c.write_synced.new.device P (Torn end (10 ∷ []) (g.D.Device.seen c.cut_synced.new.device)) cut c.write_synced.ensures.any_moment
    (λ f torn. inr (repairable_gate text f is (subst (λ n. Torn n (10 ∷ []) text f) at_end (subst (λ was. Torn end (10 ∷ []) was f) cut_is torn)))) in
    closed

-- nor a file of another kind
pub returns-in_err-sync-clause-known : goal.returns-in_err-sync-clause-known
returns-in_err-sync-clause-known g c known =
    let device = c.args.device.now in
    let P = IsKnownAsBefore (g.D.Device.may_leave device) in
    let start = started g.D.Device.moment g.D.Device.left_since device P (λ f left. inl (g.met.D.Device.only_now device f left)) in
    goes_on g.D.Device.moment g.D.Device.left_since device device c.sync.new.self P _ start c.sync.ensures.time (λ f now. inl (c.sync.ensures.crash f now))

pub returns-then-is_gate_alone-clause-known : goal.returns-then-is_gate_alone-clause-known
returns-then-is_gate_alone-clause-known g c known =
    let device = c.args.device.now in
    let P = IsKnownAsBefore (g.D.Device.may_leave device) in
    let start = started g.D.Device.moment g.D.Device.left_since device P (λ f left. inl (g.met.D.Device.only_now device f left)) in
    goes_on g.D.Device.moment g.D.Device.left_since device device c.sync.new.self P _ start c.sync.ensures.time (λ f now. inl (c.sync.ensures.crash f now))

pub returns-in_err-cut_synced-clause-known : goal.returns-in_err-cut_synced-clause-known
returns-in_err-cut_synced-clause-known g c known =
    let device = c.args.device.now in
    let file = g.D.Device.seen device in
    let text = recovered file in
    let is = recovered_whole file in
    let end = c.whole_lines-end.result in
    let read_is = c.requires.bytes in
    let end_is : end ≡ whole 0 file = c.whole_lines-end.ensures.whole ∙ ap (λ (l : List ℕ). whole 0 l) (c.deref.ensures.value ∙ read_is) in
    let same_file = c.sync.ensures.seen in
    let P = IsKnownAsBefore (g.D.Device.may_leave device) in
    let start = started g.D.Device.moment g.D.Device.left_since device P (λ f left. inl (g.met.D.Device.only_now device f left)) in
    let synced = goes_on g.D.Device.moment g.D.Device.left_since device device c.sync.new.self P _ start c.sync.ensures.time (λ f now. inl (c.sync.ensures.crash f now)) in
    let cut = and_then g.D.Device.moment g.D.Device.left_since device c.sync.new.self c.cut_synced.new.device P (Cut end (g.D.Device.seen c.sync.new.self)) synced c.cut_synced.ensures.any_moment
    (λ f left. inr (known_cut file f known (subst (λ n. Cut n file f) end_is (subst (λ was. Cut end was f) same_file left)))) in
    cut

pub returns-in_err-write_synced-clause-known : goal.returns-in_err-write_synced-clause-known
returns-in_err-write_synced-clause-known g c known =
    let device = c.args.device.now in
    let file = g.D.Device.seen device in
    let text = recovered file in
    let is = recovered_whole file in
    let end = c.whole_lines-end.result in
    let read_is = c.requires.bytes in
    let end_is : end ≡ whole 0 file = c.whole_lines-end.ensures.whole ∙ ap (λ (l : List ℕ). whole 0 l) (c.deref.ensures.value ∙ read_is) in
    let same_file = c.sync.ensures.seen in
    let P = IsKnownAsBefore (g.D.Device.may_leave device) in
    let start = started g.D.Device.moment g.D.Device.left_since device P (λ f left. inl (g.met.D.Device.only_now device f left)) in
    let synced = goes_on g.D.Device.moment g.D.Device.left_since device device c.sync.new.self P _ start c.sync.ensures.time (λ f now. inl (c.sync.ensures.crash f now)) in
    let cut = and_then g.D.Device.moment g.D.Device.left_since device c.sync.new.self c.cut_synced.new.device P (Cut end (g.D.Device.seen c.sync.new.self)) synced c.cut_synced.ensures.any_moment
    (λ f left. inr (known_cut file f known (subst (λ n. Cut n file f) end_is (subst (λ was. Cut end was f) same_file left)))) in
    let cut_is : g.D.Device.seen c.cut_synced.new.device ≡ text = c.in_ok-cut_synced.ensures.cut ∙ ap (λ (l : List ℕ). take end l) same_file ∙ ap (λ (n : ℕ). take n file) end_is in
    let at_end : end ≡ length text = end_is ∙ sym (length-recovered file) in
    and_then g.D.Device.moment g.D.Device.left_since device c.cut_synced.new.device c.write_synced.new.device P (Torn end (10 ∷ []) (g.D.Device.seen c.cut_synced.new.device)) cut c.write_synced.ensures.any_moment
    (λ f torn. inr (known_gate file f known (subst (λ n. Torn n (10 ∷ []) text f) at_end (subst (λ was. Torn end (10 ∷ []) was f) cut_is torn))))

pub returns-clause-known : goal.returns-clause-known
returns-clause-known g c known =
    let device = c.args.device.now in
    let file = g.D.Device.seen device in
    let text = recovered file in
    let is = recovered_whole file in
    let end = c.whole_lines-end.result in
    let read_is = c.requires.bytes in
    let end_is : end ≡ whole 0 file = c.whole_lines-end.ensures.whole ∙ ap (λ (l : List ℕ). whole 0 l) (c.deref.ensures.value ∙ read_is) in
    let same_file = c.sync.ensures.seen in
    let P = IsKnownAsBefore (g.D.Device.may_leave device) in
    let start = started g.D.Device.moment g.D.Device.left_since device P (λ f left. inl (g.met.D.Device.only_now device f left)) in
    let synced = goes_on g.D.Device.moment g.D.Device.left_since device device c.sync.new.self P _ start c.sync.ensures.time (λ f now. inl (c.sync.ensures.crash f now)) in
    let cut = and_then g.D.Device.moment g.D.Device.left_since device c.sync.new.self c.cut_synced.new.device P (Cut end (g.D.Device.seen c.sync.new.self)) synced c.cut_synced.ensures.any_moment
    (λ f left. inr (known_cut file f known (subst (λ n. Cut n file f) end_is (subst (λ was. Cut end was f) same_file left)))) in
    let cut_is : g.D.Device.seen c.cut_synced.new.device ≡ text = c.in_ok-cut_synced.ensures.cut ∙ ap (λ (l : List ℕ). take end l) same_file ∙ ap (λ (n : ℕ). take n file) end_is in
    let at_end : end ≡ length text = end_is ∙ sym (length-recovered file) in
    and_then g.D.Device.moment g.D.Device.left_since device c.cut_synced.new.device c.write_synced.new.device P (Torn end (10 ∷ []) (g.D.Device.seen c.cut_synced.new.device)) cut c.write_synced.ensures.any_moment
    (λ f torn. inr (known_gate file f known (subst (λ n. Torn n (10 ∷ []) text f) at_end (subst (λ was. Torn end (10 ∷ []) was f) cut_is torn))))
