use Rattle.std.proofs.Common.{◌≡◌, ◌∙◌, ap, sym, subst, inl, refl, Bool, true, false, ◌&&◌, ◌++◌, append-nil, Option}
use Rattle.http1.specs.Server.{ServerReads}
use Rattle.http1.specs.declared.server.Server.{Server}
use Rattle.zvt_web.specs.Request.{Request}
use Rattle.zvt_web.specs.Connection.{Connection, Step, after_told, is_awaited, is_head_after, is_more, is_told, step_of, taken, told_text}
use Rattle.zvt_web.proofs.connection.Connection.read.Goals.{then-is_more+in_default-put_continue, else-is_more}
use Rattle.zvt_web.proofs.connection.Connection.read.Goals as goal

told : (m : Bool) (s : Server) → m ≡ true → (m && is_awaited s) ≡ is_awaited s
told m s is = ap (λ b. b && is_awaited s) is

not_told : (m : Bool) (s : Server) → m ≡ false → (m && is_awaited s) ≡ false
not_told m s is = ap (λ b. b && is_awaited s) is

-- the server after the event
server_is : (c : goal.Joined-is_more) → c.self-2.inside.server ≡ c.read.new.self
server_is c = ap (λ (k : Connection). k.server) c.self-2.view_is ∙ c.in-Ok-take.ensures.server

abbrev step_found : goal.Joined-is_more → Step
step_found c = step_of c.in-Ok-take.step

after : (c : goal.Joined-is_more) → c.if-is_more.self.server ≡ after_told (is_told (step_found c) c.read.new.self) c.read.new.self
after c =
    elim c.if-is_more.branch [
      | then-is_more+in_default-put_continue w ↦
          ap (λ (k : Connection). k.server) w.self-is ∙ w.in_default-put_continue.ensures.next
          ∙ ap (λ (s : Server). after_told (is_awaited s) s) (server_is c)
          ∙ ap (λ b. after_told b c.read.new.self) (sym (told (is_more (step_found c)) c.read.new.self (sym c.is_more.ensures ∙ w.if-is_more.true)))
      | else-is_more w ↦
          ap (λ (k : Connection). k.server) w.self-is ∙ c.in-Ok-take.ensures.server
          ∙ ap (λ b. after_told b c.read.new.self) (sym (not_told (is_more (step_found c)) c.read.new.self (sym c.is_more.ensures ∙ w.if-is_more.false)))
    ]

wrote : (c : goal.Joined-is_more) → c.if-is_more.out.items ≡ c.args.out.now.items ++ told_text (is_told (step_found c) c.read.new.self)
wrote c =
    elim c.if-is_more.branch [
      | then-is_more+in_default-put_continue w ↦
          ap (λ o. o.items) w.out-is ∙ w.in_default-put_continue.ensures.text
          ∙ ap (λ (s : Server). c.args.out.now.items ++ told_text (is_awaited s)) (server_is c)
          ∙ ap (λ b. c.args.out.now.items ++ told_text b) (sym (told (is_more (step_found c)) c.read.new.self (sym c.is_more.ensures ∙ w.if-is_more.true)))
      | else-is_more w ↦
          ap (λ o. o.items) w.out-is ∙ sym (append-nil c.args.out.now.items)
          ∙ ap (λ b. c.args.out.now.items ++ told_text b) (sym (not_told (is_more (step_found c)) c.read.new.self (sym c.is_more.ensures ∙ w.if-is_more.false)))
    ]

pending_kept : (c : goal.Joined-is_more) → c.if-is_more.self.pending ≡ c.take.new.self.pending
pending_kept c =
    elim c.if-is_more.branch [
      | then-is_more+in_default-put_continue w ↦ ap (λ (k : Connection). k.pending) w.self-is ∙ ap (λ (k : Connection). k.pending) c.self-2.view_is
      | else-is_more w ↦ ap (λ (k : Connection). k.pending) w.self-is
    ]

is_head_kept : (c : goal.Joined-is_more) → c.if-is_more.self.is_head ≡ c.take.new.self.is_head
is_head_kept c =
    elim c.if-is_more.branch [
      | then-is_more+in_default-put_continue w ↦ ap (λ (k : Connection). k.is_head) w.self-is ∙ ap (λ (k : Connection). k.is_head) c.self-2.view_is
      | else-is_more w ↦ ap (λ (k : Connection). k.is_head) w.self-is
    ]

pub returns-clause-reads : goal.returns-clause-reads
returns-clause-reads c =
    let taken_by : Connection → Step × Option Request = λ k. taken (record k { server = c.read.new.self }) c.args.input.now c.read.new.headers c.in-Ok.read.event in
    let P : Connection → Type 0 = λ k. ServerReads k.server c.args.input.now c.read.new.headers c.read.new.self c.in-Ok.read in
    inl (record {
      spans = c.read.new.headers;
      progress = c.in-Ok.read;
      server = c.read.new.self;
      reads = subst P c.self.view_is c.in-Ok.ensures.ok;
      bytes = refl;
      found = c.in-Ok-take.ensures.step ∙ ap (λ (k : Connection). (taken_by k).0) c.self.view_is;
      pending = pending_kept c ∙ c.in-Ok-take.ensures.pending ∙ ap (λ (k : Connection). (taken_by k).1) c.self.view_is;
      is_head = is_head_kept c ∙ c.in-Ok-take.ensures.is_head ∙ ap (λ (k : Connection). is_head_after k.is_head c.args.input.now c.in-Ok.read.event) c.self.view_is;
      after = after c;
      wrote = wrote c;
    })
