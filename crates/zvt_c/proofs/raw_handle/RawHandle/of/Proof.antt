-- `of` hands over what the box owns.
use Rattle.std.proofs.Common.{◌≡◌, Some, List, [], ◌∷◌, ◌++◌, refl}
use mir.Syntax.{Fn}
use mir.Val.{Val, vptr}
use base.Logic.{SProp, emp}
use base.Fml.{ftrue}
use prog.Wp.{WpFn}
use contract.Monad.{fact, fact_i}
use contract.Running.{tables}
use types.Kit.{‵, raw, ◌⊛◌, prop, ◌$◌, ◌∵◌, !, qed, by, move, drop, use0, split, regoal, fsplit, fjoin}
use types.Part.{whole, sub, agg}
use types.Run.{stop, fld, of_opd, no_more, and_then, returns, enter}
use types.ByLocal.{alloc_all, pass_all, free_all, look_at, get, get_in, sets}
use denote.RattleType.{owns}
use denote.RawPtr.{block_ptr}
use denote.Signature.{types_at, plain}
use denote.Steps.{nothing}
use denote.Triple.Entry.{alive}
use denote.Triple.Walked.{Stays, stay_dropped, walk_of}
use Rattle.core.proofs.alloc.Calls.{Goes-blank}
use Rattle.std.proofs.raw_atomic.Walks.{proved_at, leaves}
use Rattle.std_heap.specs.contracts.Global as Heap
use Rattle.std_heap.specs.contracts.GlobalAllocator.TheImpl.{ghosts}
use Rattle.std_heap.proofs.Global.TheLaws as heap
use Rattle.zvt_c.specs.contracts.session.Session.{the_row as R}
use Rattle.zvt_c.proofs.Values.{both, RawBox, raw_box_good, raw_box_out}
use Rattle.zvt_c.proofs.Pointers.{one_val, one_own, one_made, one_typed}
use Rattle.zvt_c.specs.contracts.raw_handle.RawHandle.of.{ended, clauses}
use Rattle.zvt_c.specs.contracts.raw_handle.RawHandle.of.Key.{name as #self}
use Rattle.zvt_c.proofs.raw_handle.RawHandle.of.Statement.{statement}
use Rattle.zvt_c.proofs.raw_handle.RawHandle.of.Code as compiled

pub of_spec : {M : Type 1} → statement M
of_spec 𝓤 𝓛 𝓜 𝓡 wired =
    let H = 𝓛.H in let c = clauses 𝓛 𝓜.mem 𝓡.returns in let fn : Fn = compiled.function in let C = (tables 𝓤 H 𝓜 𝓡 𝓡.env).C in let Λ = (tables 𝓤 H 𝓜 𝓡 𝓡.env).Λ in
    let stays : Stays ended.signature.params ended.kept = (stay_dropped (plain (λ _. RawBox R Heap.the_row heap.the_row_laws ghosts)) ended.kept.0, tt) in
    proved_at 𝓛 ended stays c 𝓜 𝓡 (Goes-blank 𝓛 0 (plain (λ _. RawBox R Heap.the_row heap.the_row_laws ghosts)) ended.kept.0 (λ κs x f. tt), tt) #self fn (compiled.unfolded 𝓤 H 𝓜 𝓡 wired) (λ z are.
    let Post : Val → SProp 𝓤 = (walk_of 𝓛 ended stays c).post z in let v = z.0.3.0 in
    qed 𝓛 ((raw (alive 𝓛 ended.signature z.0.0 z.0.1) ⊛ ‵ (owns (types_at ended.signature.params z.0.0) z.0.3 z.0.4)) ∷ ‵ ftrue ∷ []) ∵ move ! (1 ∷ []) $ drop ! $ split ! $ move ! (1 ∷ []) $ fsplit ! $
    raw_box_out R Heap.the_row heap.the_row_laws ghosts ! v z.0.4.0 (λ b o h e ws fits.
    -- [the box; its handle; no more arguments; the tokens]
    move ! (1 ∷ []) $ drop ! $ move ! (1 ∷ []) $ drop ! $
    regoal ! (λ (us : List Val). prop (WpFn 𝓤 H C Λ fn us Post)) (λ i. ws i ++ []) refl $
    enter ! C Λ fn (both (vptr b o) h ∷ []) Post $ alloc_all ! (λ l. pass_all ! refl (raw_box_good R Heap.the_row heap.the_row_laws ghosts b o h fits, tt) $
    sets ! (of_opd ! (get_in ! (fld ! refl (stop !)) (sub ! 0 refl (whole !)))) refl (tt, tt) $
    sets ! (of_opd ! (get_in ! (fld ! refl (stop !)) (sub ! 1 refl (whole !)))) refl fits $
    sets ! (of_opd ! (get ! refl)) refl (tt, tt) $
    sets ! (agg ! (and_then ! (get ! refl) (no_more !))) refl (one_typed (block_ptr b o)) $
    returns ! (look_at ! 0 refl) $ free_all ! refl $
    use0 𝓛 (‵ (one_own (block_ptr b o) (one_val (block_ptr b o) ∷ []))) (one_made 𝓛 (block_ptr b o)) $ fjoin ! $
    use0 𝓛 (raw (fact 𝓤 (Some v.value ≡ Some v.value))) (fact_i 𝓤 (Some v.value ≡ Some v.value) (emp 𝓤) refl) $ nothing ! $ nothing ! $ fjoin ! $ move ! (3 ∷ 0 ∷ 2 ∷ 1 ∷ []) $
    by ! (leaves 𝓛 ended stays c z (one_val (block_ptr b o)) (record { at = block_ptr b o; held = Some v.value }) (tt, tt) (tt, tt)))))
