-- `into_raw_box` takes over what the handle owns.
use Rattle.std.proofs.Common.{◌≡◌, Bool, Option, Some, is_some, List, [], ◌∷◌, ◌++◌, refl, ap, ◌∙◌}
use mir.Syntax.{Fn}
use mir.Raw.{raw as bare}
use mir.Val.{Val, vptr}
use base.Logic.{SProp, emp, never, fst∗}
use prog.Wp.{WpFn}
use types.Logic.{sem}
use contract.Monad.{fact, fact_i}
use contract.Running.{tables}
use types.Kit.{‵, raw, ◌⊛◌, prop, ◌$◌, ◌∵◌, !, qed, by, move, drop, use0, split, regoal, rewrite, fsplit, fjoin}
use types.Part.{whole, sub, agg}
use types.Run.{stop, fld, of_opd, no_more, and_then, returns, enter}
use types.ByLocal.{alloc_all, pass_all, free_all, look_at, get, get_in, sets}
use denote.RattleType.{owns}
use denote.RawPtr.{Ptr, block_ptr, null_ptr, in_a_block}
use denote.Laws.{Is, shows}
use denote.Memory.{lone}
use denote.Signature.{types_at, plain}
use denote.Steps.{nothing, heard, peeks}
use denote.Triple.Entry.{alive}
use denote.Triple.Walked.{Stays, stay_dropped, walk_of}
use Rattle.core.proofs.alloc.Calls.{Goes-blank}
use Rattle.std.proofs.raw_atomic.Walks.{proved_at, leaves}
use Rattle.std.specs.Box.Ownership.{box_owns}
use Rattle.std_heap.specs.contracts.Global as Heap
use Rattle.std_heap.specs.contracts.GlobalAllocator.TheImpl.{ghosts}
use Rattle.std_heap.proofs.Global.TheLaws as heap
use Rattle.std_heap.proofs.Handle.{heap_val, heap_Tells}
use Rattle.libc.specs.Heap.{chunk}
use Rattle.zvt_c.specs.Owned.{owned}
use Rattle.zvt_c.specs.declared.session.Session.{Session}
use Rattle.zvt_c.specs.contracts.session.Session.{the_row as R}
use Rattle.zvt_c.specs.contracts.raw_handle.RawHandle.{the_row as RawHandle}
use Rattle.zvt_c.proofs.Values.{both, raw_box_good, raw_box_in}
use Rattle.zvt_c.proofs.Pointers.{one_val, one_told, one_typed, some_of}
use Rattle.zvt_c.specs.contracts.raw_handle.RawHandle.into_raw_box.{ended, clauses}
use Rattle.zvt_c.specs.contracts.raw_handle.RawHandle.into_raw_box.Key.{name as #self}
use Rattle.zvt_c.proofs.raw_handle.RawHandle.into_raw_box.Statement.{statement}
use Rattle.zvt_c.proofs.raw_handle.RawHandle.into_raw_box.Code as compiled

pub into_raw_box_spec : {M : Type 1} → statement M
into_raw_box_spec 𝓤 𝓛 𝓜 𝓡 wired =
    let H = 𝓛.H in let c = clauses 𝓛 𝓜.mem 𝓡.returns in let fn : Fn = compiled.function in let C = (tables 𝓤 H 𝓜 𝓡 𝓡.env).C in let Λ = (tables 𝓤 H 𝓜 𝓡 𝓡.env).Λ in
    let stays : Stays ended.signature.params ended.kept = (stay_dropped (plain (λ _. RawHandle)) ended.kept.0, (stay_dropped (plain (λ _. Heap.the_row)) ended.kept.1.0, tt)) in
    proved_at 𝓛 ended stays c 𝓜 𝓡 (Goes-blank 𝓛 0 (plain (λ _. RawHandle)) ended.kept.0 (λ κs x f. tt), (Goes-blank 𝓛 0 (plain (λ _. Heap.the_row)) ended.kept.1.0 (λ κs x f. tt), tt)) #self fn (compiled.unfolded 𝓤 H 𝓜 𝓡 wired) (λ z are.
    let Post : Val → SProp 𝓤 = (walk_of 𝓛 ended stays c).post z in let v = z.0.3.0 in let a = z.0.3.1.0 in
    let told = one_told v.at z.0.4.0 are.0.0 in
    qed 𝓛 ((raw (alive 𝓛 ended.signature z.0.0 z.0.1) ⊛ ‵ (owns (types_at ended.signature.params z.0.0) z.0.3 z.0.4)) ∷ raw (fact 𝓤 (is_some v.held ≡ Bool.true)) ∷ []) ∵ move ! (1 ∷ []) $ heard ! (is_some v.held ≡ Bool.true) (λ given. let has = some_of v.held given in let x = has.0 in
    split ! $ move ! (1 ∷ []) $ fsplit ! $ fsplit ! $ drop ! $
    -- [what the handle owns; the handle and no more arguments; the tokens]
    rewrite ! 0 (λ (held : Option Session). ‵ (owned v.at held)) has.1 refl $
    in_a_block ! v.at (λ p. box_owns chunk R p x) (fst∗ 𝓤 (never 𝓤) (sem 𝓛 (chunk (bare (lone R.mir)) null_ptr))) (λ b o e.
    move ! (1 ∷ []) $ fsplit ! $ peeks ! Heap.the_row (Is Heap.the_row) (shows 𝓛 Heap.the_row) a z.0.4.1.0 (λ is. let eh = heap_Tells a z.0.4.1.0 is in
    rewrite ! 0 (λ (us : List Val). ‵ ((Heap.the_row).own_val a us)) eh refl $
    -- [the handle; no more arguments; the box; the tokens]
    let word = told ∙ ap (λ (p : Ptr). one_val p ∷ []) e in
    regoal ! (λ (us : List Val). prop (WpFn 𝓤 H C Λ fn us Post)) (λ i. word i ++ (eh i ++ [])) refl $
    enter ! C Λ fn (one_val (block_ptr b o) ∷ heap_val ∷ []) Post $ alloc_all ! (λ l. pass_all ! refl (one_typed (block_ptr b o), ((tt, ((tt, tt), tt)), tt)) $
    sets ! (of_opd ! (get_in ! (fld ! refl (stop !)) (sub ! 0 refl (whole !)))) refl (tt, tt) $
    sets ! (of_opd ! (get ! refl)) refl (tt, tt) $
    sets ! (agg ! (and_then ! (get ! refl) (and_then ! (get ! refl) (no_more !)))) refl (raw_box_good R Heap.the_row heap.the_row_laws ghosts b o heap_val (tt, ((tt, tt), tt))) $
    returns ! (look_at ! 0 refl) $ free_all ! refl $
    move ! (2 ∷ 0 ∷ []) $ raw_box_in R Heap.the_row heap.the_row_laws ghosts ! b o heap_val a x $
    move ! (1 ∷ []) $ drop ! $
    use0 𝓛 (raw (fact 𝓤 (v.held ≡ Some x))) (fact_i 𝓤 (v.held ≡ Some x) (emp 𝓤) has.1) $ nothing ! $ nothing ! $ fjoin ! $ nothing ! $ fjoin ! $ move ! (3 ∷ 0 ∷ 2 ∷ 1 ∷ []) $
    by ! (leaves 𝓛 ended stays c z (both (vptr b o) heap_val) (record { at = block_ptr b o; alloc = a; value = x }) (tt, (tt, tt)) (tt, (tt, tt))))))))
