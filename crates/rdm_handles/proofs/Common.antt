-- The names that many proofs here cite, passed on from one place. Declares nothing.
pub use Rattle.std.proofs.Common.{◌≡◌, ℕ, Bool, List, Option, Some, None, refl, ap, sym, ◌∙◌, ◌^◌, T, ltb}
pub use Rattle.std.proofs.Common.{eq-eqb, [], ◌∷◌, ◌++◌, subst, lit<, ◌<◌, arith, true, false, ◌&&◌}
pub use Rattle.std.proofs.Common.{◌==◌, true-eqb}
pub use Rattle.rdm_log.specs.declared.entry.Opening.{Opening}
pub use Rattle.rdm_log.specs.declared.entry.Entry.{Entry}
pub use Rattle.rdm_join.specs.Statuses.{number_of_status}
pub use Rattle.rdm_log.specs.declared.outcome.Outcome.{Outcome}
pub use Rattle.rdm_log.specs.promises.Blocks.{IsOldest}
pub use seplogic.Ra.Ura.{Ura}
pub use mir.Syntax.{w32, dnil, named, a_type, dcons}
pub use mir.Val.{Val, vptr, vbool, vint, vstruct, vcons, vnil, of_list}
pub use base.Logic.{SProp, ent, emp, id⊢, never, fst∗}
pub use base.Fml.{Fml, ftrue, flft}
pub use prog.Wp.{WpFn}
pub use types.Logic.{Logic, sem}
pub use types.Kit.{‵, raw, ◌⊛◌, ◌$◌, ◌∵◌, !, qed, by, move, keep, split, join, fsplit, fjoin, rewrite, suffices, use0}
pub use types.Kit.{use1, Item, Goal, Seq, Step, step, drop, fpick, fpack, feq_i, feq_l, done, fsplit3, frame, group}
pub use types.Kit.{some, later, split3, pick, await}
pub use types.Run.{stop, fld, lit, of_opd, no_more, and_then, returns, enter, load}
pub use types.ByLocal.{alloc_all, pass_all, free_all, look_at, get, get_in, sets, through}
pub use types.Part.{agg, sub, whole, look_in}
pub use contract.Monad.{fact, fact_i}
pub use contract.Running.{tables}
pub use denote.RattleType.{RattleType, owns, Valss}
pub use denote.RawPtr.{Ptr, block_ptr, ptr_val, null_ptr, in_a_block}
pub use denote.Memory.{lone, cell_at}
pub use denote.Signature.{types_at, plain}
pub use denote.Steps.{nothing, heard, opens, closes, peeks, only}
pub use denote.Param.{layout, param, bounded}
pub use denote.Triple.Walked.{Stays, stay_dropped, walk_of, says, stay_ref, ends_at, Goes-ref}
pub use Rattle.core.proofs.alloc.Calls.{Goes-blank, handle_tells}
pub use Rattle.std.proofs.raw_atomic.Walks.{proved_at, leaves, proved}
pub use Rattle.std_alloc.specs.Box.Ownership.{box_owns}
pub use Rattle.rdm_handles.specs.Owned.{frees}
pub use Rattle.rdm_handles.specs.declared.handle.Handle.{Handle}
pub use denote.Builtin.{RawPtr, bool, u32}
pub use denote.Laws.{shows}
pub use denote.Struct.Struct.{within}
pub use denote.Struct.Owning.{shape}
pub use Rattle.core.proofs.cell.Inside.{Good}
pub use Rattle.rdm_log.specs.log.LogState.{LogState}
pub use Rattle.rdm_log.specs.promises.Outcomes.{request_outcome}
pub use base.Fraction.{full_share}
pub use denote.Ref.{MutRef, mut_vals, mut_Tells}
pub use mir.MapTy.{inst_fn}
pub use denote.Exit.{no}
pub use denote.Param.Laws.{param_laws}
pub use denote.Triple.Spec.{triple_of}
pub use Rattle.core.proofs.atomic.Steps.{fm}
pub use Rattle.std_alloc.proofs.BoxSteps.Steps.{box_out, box_in}
