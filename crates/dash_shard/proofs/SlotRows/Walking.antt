-- The names that the proofs by hand share.
pub use Rattle.circular_buffer.proofs.Memory.{Besides, filled_within, of_room, slot_in, slot_out, slot_seen, three_of, three_val, to_room, value_in, value_out, word_made}
pub use Rattle.circular_buffer.specs.Ownership.{cells_lent, cells_own, deed_owns, slot, slot_lent, slots}
pub use Rattle.circular_buffer.specs.Places.{IsFilled}
pub use Rattle.core.proofs.alloc.Calls.{Al, Answer-typed, Answered, Gives, Gives-Gives, Gives-goes, Goes-blank, Takes, Takes-gives, Takes-goes, answers, at_gives, at_takes, gives_key, takes_key, token}
pub use Rattle.core.proofs.mem.Param.{El, R, args, el_x, elτ, lawful, one}
pub use Rattle.core.proofs.ptr.Rows.{one_below, times_below}
pub use Rattle.core.proofs.slots.Leases.{P, args as pair_args, block_align, block_size, block_ty, uncapped}
pub use Rattle.std.proofs.Common.{[], ◌++◌, List, T, arith, false, lit<, refl, ap, subst, true, sym, w64, ℕ, ◌*◌, ◌+◌, ◌<◌, ◌^◌, ◌∙◌, ◌∷◌, ◌≡◌}
pub use Rattle.std.proofs.raw_atomic.Calls.{fm}
pub use Rattle.std.proofs.raw_atomic.Walks.{leaves, proved, proved_at}
pub use Rattle.std.specs.Prelude.{Err, IfOk, None, Ok, Option, Some}
pub use Rattle.std.specs.Vec.Ownership.{FitsInBlock}
pub use Rattle.std_alloc.proofs.RawLayout.{as_raw, as_written}
pub use Rattle.std_alloc.proofs.RcSteps.{Good, first_Good, word, word-Good}
pub use Rattle.std_alloc.proofs.VecSteps.Shapes.{after, arm_body, head}
pub use Rattle.std_alloc.proofs.ResultValues.{err_of, ok_of}
pub use base.Fml.{Fml, GName, Lft, Share, fat, flft, fobs, froom, fsep, ftrue, Incl-trans}
pub use base.Fraction.{full_share}
pub use base.Logic.{SProp, emp, ent, id⊢, never, sep}
pub use contract.BorrowLft.{◌⊑◌}
pub use contract.Monad.{fact, fact_i}
pub use contract.Running.{tables}
pub use denote.Builtin.{RefMutOf, RefOf, unit, usize}
pub use denote.Exit.{no, yes}
pub use denote.Laws.{Is}
pub use denote.Follow.{Part, follows, lends_Part}
pub use denote.Memory.{cell_at, hidden_shr, mem}
unfoldable pub use denote.Memory.{part_of}
pub use denote.Opens.{hide, unhide}
pub use denote.Param.{layout}
pub use denote.Plain.{uint_Tells, uint_vals}
pub use denote.RattleType.{RattleType, owns}
pub use denote.RawPtr.{Ptr, block_ptr, in_a_block, ptr_val}
pub use denote.Ref.{MutBor, MutRef, mut_Tells, mut_vals, shr_Tells, shr_vals}
pub use denote.Signature.{mut_ref_to, plain, types_at}
pub use denote.Steps.{closes, heard, nothing, opens, owned}
pub use denote.Struct.Struct.{Struct, Struct-Makes}
pub use denote.Struct.Tuple.{Tuple}
pub use denote.Triple.Walked.{Goes-dropped, Goes-ref, Goes-spent_ref, Stays, stay_dropped, stay_ref, walk_of}
pub use denote.Triple.Call.{calls_at, calls_at_last}
pub use lib.ListN.{get_or, length, length-replicate, length-set, replicate, set}
pub use mir.MapTy.{inst_fn}
pub use mir.Syntax.{Body, named, ty_array, ty_unit}
pub use mir.Val.{Val, WT, has_ty, of_list, vcons, vint, vnil, vptr, vstruct, vunit}
pub use prog.Capped.{capped_fits}
pub use prog.Memory.{align, capped}
pub use seplogic.Ra.Ura.{Ura}
pub use prog.Wp.{Wp, WpFn, after_seq, at_return}
pub use types.ByLocal.{alloc_all, env, free_all, get, get_in, get_tag, give_at, is, lands_as, lands_last, look_at, pass_all, sets, sets_last, take_at, through}
pub use types.Kit.{ !, Post as After, any_q, at_ret, await, by, done, drop, feq_i, fjoin, fjoin3, flt_i, flt_l, fpack, fsplit, fsplit3, given, group, join, keep, later, learn, move, pick, qed, raw, rewrite, some, split, split3, suffices, use0, use1, use2, use3, ‵, ◌$◌, ◌∵◌, ◌⊛◌}
pub use types.Logic.{Logic, sem}
pub use types.Match.{in_variant, live, vrt}
pub use types.Part.{agg, sub, whole}
pub use types.Run.{addr, align_word, and_then, assigns_last, bin, blocks, enter, exec, first, fld, init, lit, load, look, no_more, of_opd, returns, size_lit, size_word, stop, switches_on, unit_lit}
