use Rattle.std.proofs.Common.{◌≡◌, ◌+◌, List, sym, ap, ◌∙◌, arith}
use Rattle.c65_ctype.specs.Views.{qty_of}
use Rattle.c65_csem.specs.declared.expr.TExpr.{TExpr}
use Rattle.c65_csem.specs.Trees.{call, deref, member, load, binary}
use Rattle.c65_csem.specs.Views.{typed_of, nodes_of, node_of}
use Rattle.c65_csem.proofs.RowLaws.{node_of_call}
use Rattle.c65_genexpr.specs.Uses.{count, node_count, args_count}
use Rattle.c65_genwide.proofs.Kept.{kept_then, kept_last, grown_then, grown_last, label_then, label_last, refused_then}
use Rattle.c65_genexpr.proofs.Bases.{based, pointed}
use Rattle.c65_genexpr.proofs.Chains.{joint_lines, choice_lines}
use Rattle.c65_genexpr.proofs.Lows.{lowered}
use Rattle.c65_genexpr.proofs.Relations.{compared_test, compared_value, sum_index_lines}
use Rattle.c65_genexpr.proofs.expr.+expression.Goals as goal

pub put_expr-put_call-requires : goal.put_expr-put_call-requires
put_expr-put_call-requires t c =
    let callee = c.deref-in-Call.result.now in
    let args = c.deref-in-Call-2.result.now in
    let same : node_of c.args.e.now.kind ≡ call (typed_of callee) (nodes_of args) =
    ap node_of c.in-Call.is
    ∙ node_of_call c.in-Call.callee c.in-Call.args
    ∙ ap (λ (g : TExpr). call (typed_of g) (nodes_of c.in-Call.args.items)) (sym c.deref-in-Call.ensures)
    ∙ ap (λ (l : List TExpr). call (typed_of callee) (nodes_of l)) (sym c.deref-in-Call-2.ensures.value)
    in
    let fewer : count (typed_of c.args.e.now) ≡ 1 + (count (typed_of callee) + args_count (nodes_of args)) = ap node_count same in
    (omega (arith, fewer), tt)

pub put_expr-returns-in-Call-clause-lines : goal.put_expr-returns-in-Call-clause-lines
put_expr-returns-in-Call-clause-lines t c =
    let callee = c.deref-in-Call.result.now in
    let args = c.deref-in-Call-2.result.now in
    let same : node_of c.args.e.now.kind ≡ call (typed_of callee) (nodes_of args) =
    ap node_of c.in-Call.is
    ∙ node_of_call c.in-Call.callee c.in-Call.args
    ∙ ap (λ (g : TExpr). call (typed_of g) (nodes_of c.in-Call.args.items)) (sym c.deref-in-Call.ensures)
    ∙ ap (λ (l : List TExpr). call (typed_of callee) (nodes_of l)) (sym c.deref-in-Call-2.ensures.value)
    in
    rw (same, ← c.outcome_of-given.ensures) c.put_call.ensures.lines

-- what the draft keeps

pub put_args-returns-in_err-put_argument-in-len1-up-clause-kept : goal.put_args-returns-in_err-put_argument-in-len1-up-clause-kept
put_args-returns-in_err-put_argument-in-len1-up-clause-kept t c = refused_then c.from_residual-in_err-put_argument-in-len1-up.result (grown_then _ _ _ _ _ c.in_ok-put_expr-in-len1-up.ensures.lines c.in_err-put_argument-in-len1-up.ensures.kept)

pub put_args-returns-in_err-passed-in-len1-up-clause-kept : goal.put_args-returns-in_err-passed-in-len1-up-clause-kept
put_args-returns-in_err-passed-in-len1-up-clause-kept t c = refused_then c.from_residual-in_err-passed-in-len1-up.result (grown_then _ _ _ _ _ c.in_ok-put_expr-in-len1-up.ensures.lines (kept_then _ _ _ _ c.in_ok-put_argument-in-len1-up.ensures.lines c.in_err-passed-in-len1-up.ensures.kept))

pub put_call-returns-in_err-push-in-len1-up-clause-kept : goal.put_call-returns-in_err-push-in-len1-up-clause-kept
put_call-returns-in_err-push-in-len1-up-clause-kept t c = refused_then c.from_residual-in_err-push-in-len1-up.result (grown_then _ _ _ _ _ c.in_ok-put_expr-in-None.ensures.lines c.in_err-push-in-len1-up.ensures.kept)

pub put_call-returns-in_err-passed-in-len1-up-clause-kept : goal.put_call-returns-in_err-passed-in-len1-up-clause-kept
put_call-returns-in_err-passed-in-len1-up-clause-kept t c = refused_then c.from_residual-in_err-passed-in-len1-up.result (grown_then _ _ _ _ _ c.in_ok-put_expr-in-None.ensures.lines (kept_then _ _ _ _ c.in_ok-push-in-len1-up.ensures.lines c.in_err-passed-in-len1-up.ensures.kept))

pub put_call-returns-in-empty-clause-kept : goal.put_call-returns-in-empty-clause-kept
put_call-returns-in-empty-clause-kept t c = grown_last _ _ _ _ _ _ c.in_ok-put_expr-in-None.ensures.lines c.put_direct.ensures.kept

pub put_call-returns-in_ok-passed-in-len1-up-clause-kept : goal.put_call-returns-in_ok-passed-in-len1-up-clause-kept
put_call-returns-in_ok-passed-in-len1-up-clause-kept t c = grown_last _ _ _ _ _ _ c.in_ok-put_expr-in-None.ensures.lines (kept_last _ _ _ _ _ c.in_ok-push-in-len1-up.ensures.lines (grown_last _ _ _ _ _ _ c.in_ok-passed-in-len1-up.ensures.lines c.put_pointer.ensures.kept))

pub put_call-returns-in_ok-passed-in-Some-clause-kept : goal.put_call-returns-in_ok-passed-in-Some-clause-kept
put_call-returns-in_ok-passed-in-Some-clause-kept t c = grown_last _ _ _ _ _ _ c.in_ok-passed-in-Some.ensures.lines c.put_named.ensures.kept

pub put_compound-returns-in_err-put_open-clause-kept : goal.put_compound-returns-in_err-put_open-clause-kept
put_compound-returns-in_err-put_open-clause-kept t c = refused_then c.from_residual-in_err-put_open.result (grown_then _ _ _ _ _ c.in_ok-put_base.ensures.lines c.in_err-put_open.ensures.kept)

pub put_compound-returns-in_err-put_expr-clause-kept : goal.put_compound-returns-in_err-put_expr-clause-kept
put_compound-returns-in_err-put_expr-clause-kept t c = refused_then c.from_residual-in_err-put_expr.result (grown_then _ _ _ _ _ c.in_ok-put_base.ensures.lines (kept_then _ _ _ _ c.in_ok-put_open.ensures.lines c.in_err-put_expr.ensures.kept))

pub put_compound-returns-clause-kept : goal.put_compound-returns-clause-kept
put_compound-returns-clause-kept t c = grown_last _ _ _ _ _ _ c.in_ok-put_base.ensures.lines (kept_last _ _ _ _ _ c.in_ok-put_open.ensures.lines (grown_last _ _ _ _ _ _ c.in_ok-put_expr.ensures.lines c.put_close.ensures.kept))

pub put_expr-returns-in_err-push-in-Copy-clause-kept : goal.put_expr-returns-in_err-push-in-Copy-clause-kept
put_expr-returns-in_err-push-in-Copy-clause-kept t c = refused_then c.from_residual-in_err-push-in-Copy.result (grown_then _ _ _ _ _ c.in_ok-put_expr-in-Copy.ensures.lines c.in_err-push-in-Copy.ensures.kept)

pub put_expr-returns-in_err-put_expr-in-Copy-2-clause-kept : goal.put_expr-returns-in_err-put_expr-in-Copy-2-clause-kept
put_expr-returns-in_err-put_expr-in-Copy-2-clause-kept t c = refused_then c.from_residual-in_err-put_expr-in-Copy-2.result (grown_then _ _ _ _ _ c.in_ok-put_expr-in-Copy.ensures.lines (kept_then _ _ _ _ c.in_ok-push-in-Copy.ensures.lines c.in_err-put_expr-in-Copy-2.ensures.kept))

pub put_expr-returns-in_ok-put_expr-in-Member-clause-kept : goal.put_expr-returns-in_ok-put_expr-in-Member-clause-kept
put_expr-returns-in_ok-put_expr-in-Member-clause-kept t c = grown_last _ _ _ _ _ _ c.in_ok-put_expr-in-Member.ensures.lines c.put_offset.ensures.kept

pub put_expr-returns-in_ok-put_expr-in-Convert-clause-kept : goal.put_expr-returns-in_ok-put_expr-in-Convert-clause-kept
put_expr-returns-in_ok-put_expr-in-Convert-clause-kept t c = grown_last _ _ _ _ _ _ c.in_ok-put_expr-in-Convert.ensures.lines c.put_conversion.ensures.kept

pub put_expr-returns-in_ok-put_expr-in-Comma-clause-kept : goal.put_expr-returns-in_ok-put_expr-in-Comma-clause-kept
put_expr-returns-in_ok-put_expr-in-Comma-clause-kept t c = grown_last _ _ _ _ _ _ c.in_ok-put_expr-in-Comma.ensures.lines c.put_expr-in-Comma-2.ensures.kept

pub put_step_value-returns-in_err-put_base-clause-kept : goal.put_step_value-returns-in_err-put_base-clause-kept
put_step_value-returns-in_err-put_base-clause-kept t c = refused_then c.from_residual-in_err-put_base.result (label_then _ _ _ c.in_ok-label.ensures.draft c.in_err-put_base.ensures.kept)

pub put_step_value-returns-clause-kept : goal.put_step_value-returns-clause-kept
put_step_value-returns-clause-kept t c = label_last _ _ _ _ c.in_ok-label.ensures.draft (grown_last _ _ _ _ _ _ c.in_ok-put_base.ensures.lines c.put_step.ensures.kept)

pub put_expr-returns-in_ok-put_expr-in-Copy-2-clause-kept : goal.put_expr-returns-in_ok-put_expr-in-Copy-2-clause-kept
put_expr-returns-in_ok-put_expr-in-Copy-2-clause-kept t c = grown_last _ _ _ _ _ _ c.in_ok-put_expr-in-Copy.ensures.lines (kept_last _ _ _ _ _ c.in_ok-push-in-Copy.ensures.lines (grown_last _ _ _ _ _ _ c.in_ok-put_expr-in-Copy-2.ensures.lines c.copy.ensures.kept))

pub put_expr-returns-in_ok-put_base-in-Pack-clause-kept : goal.put_expr-returns-in_ok-put_base-in-Pack-clause-kept
put_expr-returns-in_ok-put_base-in-Pack-clause-kept t c = grown_last _ _ _ _ _ _ c.in_ok-put_base-in-Pack.ensures.lines c.load_bytes.ensures.kept

pub put_expr-returns-in_ok-put_expr-in-Spill-clause-kept : goal.put_expr-returns-in_ok-put_expr-in-Spill-clause-kept
put_expr-returns-in_ok-put_expr-in-Spill-clause-kept t c = grown_last _ _ _ _ _ _ c.in_ok-put_expr-in-Spill.ensures.lines c.put_spill.ensures.kept

pub put_choice-returns-in_err-end-clause-kept : goal.put_choice-returns-in_err-end-clause-kept
put_choice-returns-in_err-end-clause-kept t c = refused_then c.from_residual-in_err-end.result (label_then _ _ _ c.in_ok-other.ensures.draft c.in_err-end.ensures.kept)

pub put_choice-returns-in_err-put_test-clause-kept : goal.put_choice-returns-in_err-put_test-clause-kept
put_choice-returns-in_err-put_test-clause-kept t c = refused_then c.from_residual-in_err-put_test.result (label_then _ _ _ c.in_ok-other.ensures.draft (label_then _ _ _ c.in_ok-end.ensures.draft c.in_err-put_test.ensures.kept))

pub put_choice-returns-in_err-put_expr-clause-kept : goal.put_choice-returns-in_err-put_expr-clause-kept
put_choice-returns-in_err-put_expr-clause-kept t c = refused_then c.from_residual-in_err-put_expr.result (label_then _ _ _ c.in_ok-other.ensures.draft (label_then _ _ _ c.in_ok-end.ensures.draft (grown_then _ _ _ _ _ c.in_ok-put_test.ensures.lines c.in_err-put_expr.ensures.kept)))

pub put_choice-returns-in_err-put-clause-kept : goal.put_choice-returns-in_err-put-clause-kept
put_choice-returns-in_err-put-clause-kept t c = refused_then c.from_residual-in_err-put.result (label_then _ _ _ c.in_ok-other.ensures.draft (label_then _ _ _ c.in_ok-end.ensures.draft (grown_then _ _ _ _ _ c.in_ok-put_test.ensures.lines (grown_then _ _ _ _ _ c.in_ok-put_expr.ensures.lines c.in_err-put.ensures.kept))))

pub put_choice-returns-in_err-put_expr-2-clause-kept : goal.put_choice-returns-in_err-put_expr-2-clause-kept
put_choice-returns-in_err-put_expr-2-clause-kept t c = refused_then c.from_residual-in_err-put_expr-2.result (label_then _ _ _ c.in_ok-other.ensures.draft (label_then _ _ _ c.in_ok-end.ensures.draft (grown_then _ _ _ _ _ c.in_ok-put_test.ensures.lines (grown_then _ _ _ _ _ c.in_ok-put_expr.ensures.lines (kept_then _ _ _ _ c.in_ok-put.ensures.lines c.in_err-put_expr-2.ensures.kept)))))

pub put_choice-returns-clause-kept : goal.put_choice-returns-clause-kept
put_choice-returns-clause-kept t c = label_last _ _ _ _ c.in_ok-other.ensures.draft (label_last _ _ _ _ c.in_ok-end.ensures.draft (grown_last _ _ _ _ _ _ c.in_ok-put_test.ensures.lines (grown_last _ _ _ _ _ _ c.in_ok-put_expr.ensures.lines (kept_last _ _ _ _ _ c.in_ok-put.ensures.lines (grown_last _ _ _ _ _ _ c.in_ok-put_expr-2.ensures.lines c.put-2.ensures.kept)))))

pub put_comparison-returns-in_err-put_side-in-Truth-clause-kept : goal.put_comparison-returns-in_err-put_side-in-Truth-clause-kept
put_comparison-returns-in_err-put_side-in-Truth-clause-kept t c = refused_then c.from_residual-in_err-put_side-in-Truth.result (label_then _ _ _ c.in_ok-own.ensures.draft c.in_err-put_side-in-Truth.ensures.kept)

pub put_comparison-returns-in_ok-put_side-in-Truth-clause-kept : goal.put_comparison-returns-in_ok-put_side-in-Truth-clause-kept
put_comparison-returns-in_ok-put_side-in-Truth-clause-kept t c = label_last _ _ _ _ c.in_ok-own.ensures.draft (grown_last _ _ _ _ _ _ c.in_ok-put_side-in-Truth.ensures.lines c.put.ensures.kept)

pub put_comparison-returns-in_err-put_low_side-in-Byte-default-None-default-default-clause-kept : goal.put_comparison-returns-in_err-put_low_side-in-Byte-default-None-default-default-clause-kept
put_comparison-returns-in_err-put_low_side-in-Byte-default-None-default-default-clause-kept t c = refused_then c.from_residual-in_err-put_low_side-in-Byte-default-None-default-default.result (label_then _ _ _ c.in_ok-own.ensures.draft c.in_err-put_low_side-in-Byte-default-None-default-default.ensures.kept)

pub put_comparison-returns-in_err-put_compare_byte-in-Byte-default-None-default-default-clause-kept : goal.put_comparison-returns-in_err-put_compare_byte-in-Byte-default-None-default-default-clause-kept
put_comparison-returns-in_err-put_compare_byte-in-Byte-default-None-default-default-clause-kept t c = refused_then c.from_residual-in_err-put_compare_byte-in-Byte-default-None-default-default.result (label_then _ _ _ c.in_ok-own.ensures.draft (grown_then _ _ _ _ _ c.in_ok-put_low_side-in-Byte-default-None-default-default.ensures.lines c.in_err-put_compare_byte-in-Byte-default-None-default-default.ensures.kept))

pub put_comparison-returns-in_ok-put_compare_byte-in-Byte-default-None-default-default-clause-kept : goal.put_comparison-returns-in_ok-put_compare_byte-in-Byte-default-None-default-default-clause-kept
put_comparison-returns-in_ok-put_compare_byte-in-Byte-default-None-default-default-clause-kept t c = label_last _ _ _ _ c.in_ok-own.ensures.draft (grown_last _ _ _ _ _ _ c.in_ok-put_low_side-in-Byte-default-None-default-default.ensures.lines (kept_last _ _ _ _ _ c.in_ok-put_compare_byte-in-Byte-default-None-default-default.ensures.lines c.put-in-Byte-default-None-default-default.ensures.kept))

pub put_comparison-returns-in_err-leave_out-in-Byte-default-Some-default-default-clause-kept : goal.put_comparison-returns-in_err-leave_out-in-Byte-default-Some-default-default-clause-kept
put_comparison-returns-in_err-leave_out-in-Byte-default-Some-default-default-clause-kept t c = refused_then c.from_residual-in_err-leave_out-in-Byte-default-Some-default-default.result (label_then _ _ _ c.in_ok-own.ensures.draft c.in_err-leave_out-in-Byte-default-Some-default-default.ensures.kept)

pub put_comparison-returns-in_err-leave_out-in-Byte-default-Some-default-default-2-clause-kept : goal.put_comparison-returns-in_err-leave_out-in-Byte-default-Some-default-default-2-clause-kept
put_comparison-returns-in_err-leave_out-in-Byte-default-Some-default-default-2-clause-kept t c = refused_then c.from_residual-in_err-leave_out-in-Byte-default-Some-default-default-2.result (label_then _ _ _ c.in_ok-own.ensures.draft (grown_then _ _ _ _ _ c.in_ok-leave_out-in-Byte-default-Some-default-default.ensures.lines c.in_err-leave_out-in-Byte-default-Some-default-default-2.ensures.kept))

pub put_comparison-returns-in_err-put_op-in-Byte-default-Some-default-default-clause-kept : goal.put_comparison-returns-in_err-put_op-in-Byte-default-Some-default-default-clause-kept
put_comparison-returns-in_err-put_op-in-Byte-default-Some-default-default-clause-kept t c = refused_then c.from_residual-in_err-put_op-in-Byte-default-Some-default-default.result (label_then _ _ _ c.in_ok-own.ensures.draft (grown_then _ _ _ _ _ c.in_ok-leave_out-in-Byte-default-Some-default-default.ensures.lines (grown_then _ _ _ _ _ c.in_ok-leave_out-in-Byte-default-Some-default-default-2.ensures.lines c.in_err-put_op-in-Byte-default-Some-default-default.ensures.kept)))

pub put_comparison-returns-in_err-put_compare_byte-in-Byte-default-Some-default-default-clause-kept : goal.put_comparison-returns-in_err-put_compare_byte-in-Byte-default-Some-default-default-clause-kept
put_comparison-returns-in_err-put_compare_byte-in-Byte-default-Some-default-default-clause-kept t c = refused_then c.from_residual-in_err-put_compare_byte-in-Byte-default-Some-default-default.result (label_then _ _ _ c.in_ok-own.ensures.draft (grown_then _ _ _ _ _ c.in_ok-leave_out-in-Byte-default-Some-default-default.ensures.lines (grown_then _ _ _ _ _ c.in_ok-leave_out-in-Byte-default-Some-default-default-2.ensures.lines (kept_then _ _ _ _ c.in_ok-put_op-in-Byte-default-Some-default-default.ensures.lines c.in_err-put_compare_byte-in-Byte-default-Some-default-default.ensures.kept))))

pub put_comparison-returns-in_ok-put_compare_byte-in-Byte-default-Some-default-default-clause-kept : goal.put_comparison-returns-in_ok-put_compare_byte-in-Byte-default-Some-default-default-clause-kept
put_comparison-returns-in_ok-put_compare_byte-in-Byte-default-Some-default-default-clause-kept t c = label_last _ _ _ _ c.in_ok-own.ensures.draft (grown_last _ _ _ _ _ _ c.in_ok-leave_out-in-Byte-default-Some-default-default.ensures.lines (grown_last _ _ _ _ _ _ c.in_ok-leave_out-in-Byte-default-Some-default-default-2.ensures.lines (kept_last _ _ _ _ _ c.in_ok-put_op-in-Byte-default-Some-default-default.ensures.lines (kept_last _ _ _ _ _ c.in_ok-put_compare_byte-in-Byte-default-Some-default-default.ensures.lines c.put-in-Byte-default-Some-default-default.ensures.kept))))

pub put_comparison-returns-in_err-put_side-in-Whole-clause-kept : goal.put_comparison-returns-in_err-put_side-in-Whole-clause-kept
put_comparison-returns-in_err-put_side-in-Whole-clause-kept t c = refused_then c.from_residual-in_err-put_side-in-Whole.result (label_then _ _ _ c.in_ok-own.ensures.draft c.in_err-put_side-in-Whole.ensures.kept)

pub put_comparison-returns-in_ok-put_side-in-Whole-clause-kept : goal.put_comparison-returns-in_ok-put_side-in-Whole-clause-kept
put_comparison-returns-in_ok-put_side-in-Whole-clause-kept t c = label_last _ _ _ _ c.in_ok-own.ensures.draft (grown_last _ _ _ _ _ _ c.in_ok-put_side-in-Whole.ensures.lines c.put_compare.ensures.kept)

pub put_comparison-returns-in_err-put_wanted-in-Held-clause-kept : goal.put_comparison-returns-in_err-put_wanted-in-Held-clause-kept
put_comparison-returns-in_err-put_wanted-in-Held-clause-kept t c = refused_then c.from_residual-in_err-put_wanted-in-Held.result (label_then _ _ _ c.in_ok-own.ensures.draft c.in_err-put_wanted-in-Held.ensures.kept)

pub put_comparison-returns-in_err-put_keep-in-Held-clause-kept : goal.put_comparison-returns-in_err-put_keep-in-Held-clause-kept
put_comparison-returns-in_err-put_keep-in-Held-clause-kept t c = refused_then c.from_residual-in_err-put_keep-in-Held.result (label_then _ _ _ c.in_ok-own.ensures.draft (grown_then _ _ _ _ _ c.in_ok-put_wanted-in-Held.ensures.lines c.in_err-put_keep-in-Held.ensures.kept))

pub put_comparison-returns-in_err-put_wanted-in-Held-2-clause-kept : goal.put_comparison-returns-in_err-put_wanted-in-Held-2-clause-kept
put_comparison-returns-in_err-put_wanted-in-Held-2-clause-kept t c = refused_then c.from_residual-in_err-put_wanted-in-Held-2.result (label_then _ _ _ c.in_ok-own.ensures.draft (grown_then _ _ _ _ _ c.in_ok-put_wanted-in-Held.ensures.lines (kept_then _ _ _ _ c.in_ok-put_keep-in-Held.ensures.lines c.in_err-put_wanted-in-Held-2.ensures.kept)))

pub put_comparison-returns-in_ok-put_wanted-in-Held-2-clause-kept : goal.put_comparison-returns-in_ok-put_wanted-in-Held-2-clause-kept
put_comparison-returns-in_ok-put_wanted-in-Held-2-clause-kept t c = label_last _ _ _ _ c.in_ok-own.ensures.draft (grown_last _ _ _ _ _ _ c.in_ok-put_wanted-in-Held.ensures.lines (kept_last _ _ _ _ _ c.in_ok-put_keep-in-Held.ensures.lines (grown_last _ _ _ _ _ _ c.in_ok-put_wanted-in-Held-2.ensures.lines c.put_compare-in-Held.ensures.kept)))

pub put_comparison-returns-in_err-put_wanted-in-Stacked-clause-kept : goal.put_comparison-returns-in_err-put_wanted-in-Stacked-clause-kept
put_comparison-returns-in_err-put_wanted-in-Stacked-clause-kept t c = refused_then c.from_residual-in_err-put_wanted-in-Stacked.result (label_then _ _ _ c.in_ok-own.ensures.draft c.in_err-put_wanted-in-Stacked.ensures.kept)

pub put_comparison-returns-in_err-put_between-in-Stacked-clause-kept : goal.put_comparison-returns-in_err-put_between-in-Stacked-clause-kept
put_comparison-returns-in_err-put_between-in-Stacked-clause-kept t c = refused_then c.from_residual-in_err-put_between-in-Stacked.result (label_then _ _ _ c.in_ok-own.ensures.draft (grown_then _ _ _ _ _ c.in_ok-put_wanted-in-Stacked.ensures.lines c.in_err-put_between-in-Stacked.ensures.kept))

pub put_comparison-returns-in_err-put_wanted-in-Stacked-2-clause-kept : goal.put_comparison-returns-in_err-put_wanted-in-Stacked-2-clause-kept
put_comparison-returns-in_err-put_wanted-in-Stacked-2-clause-kept t c = refused_then c.from_residual-in_err-put_wanted-in-Stacked-2.result (label_then _ _ _ c.in_ok-own.ensures.draft (grown_then _ _ _ _ _ c.in_ok-put_wanted-in-Stacked.ensures.lines (kept_then _ _ _ _ c.in_ok-put_between-in-Stacked.ensures.lines c.in_err-put_wanted-in-Stacked-2.ensures.kept)))

pub put_comparison-returns-in_err-put_behind-in-Stacked-clause-kept : goal.put_comparison-returns-in_err-put_behind-in-Stacked-clause-kept
put_comparison-returns-in_err-put_behind-in-Stacked-clause-kept t c = refused_then c.from_residual-in_err-put_behind-in-Stacked.result (label_then _ _ _ c.in_ok-own.ensures.draft (grown_then _ _ _ _ _ c.in_ok-put_wanted-in-Stacked.ensures.lines (kept_then _ _ _ _ c.in_ok-put_between-in-Stacked.ensures.lines (grown_then _ _ _ _ _ c.in_ok-put_wanted-in-Stacked-2.ensures.lines c.in_err-put_behind-in-Stacked.ensures.kept))))

pub put_comparison-returns-in_err-put_outcome_test-in-Stacked-clause-kept : goal.put_comparison-returns-in_err-put_outcome_test-in-Stacked-clause-kept
put_comparison-returns-in_err-put_outcome_test-in-Stacked-clause-kept t c = refused_then c.from_residual-in_err-put_outcome_test-in-Stacked.result (label_then _ _ _ c.in_ok-own.ensures.draft (grown_then _ _ _ _ _ c.in_ok-put_wanted-in-Stacked.ensures.lines (kept_then _ _ _ _ c.in_ok-put_between-in-Stacked.ensures.lines (grown_then _ _ _ _ _ c.in_ok-put_wanted-in-Stacked-2.ensures.lines (kept_then _ _ _ _ c.in_ok-put_behind-in-Stacked.ensures.lines c.in_err-put_outcome_test-in-Stacked.ensures.kept)))))

pub put_comparison-returns-in_ok-put_outcome_test-in-Stacked-clause-kept : goal.put_comparison-returns-in_ok-put_outcome_test-in-Stacked-clause-kept
put_comparison-returns-in_ok-put_outcome_test-in-Stacked-clause-kept t c = label_last _ _ _ _ c.in_ok-own.ensures.draft (grown_last _ _ _ _ _ _ c.in_ok-put_wanted-in-Stacked.ensures.lines (kept_last _ _ _ _ _ c.in_ok-put_between-in-Stacked.ensures.lines (grown_last _ _ _ _ _ _ c.in_ok-put_wanted-in-Stacked-2.ensures.lines (kept_last _ _ _ _ _ c.in_ok-put_behind-in-Stacked.ensures.lines (kept_last _ _ _ _ _ c.in_ok-put_outcome_test-in-Stacked.ensures.lines c.put-in-Stacked.ensures.kept)))))

pub put_operator-returns-in_err-put_expr-in-Left-clause-kept : goal.put_operator-returns-in_err-put_expr-in-Left-clause-kept
put_operator-returns-in_err-put_expr-in-Left-clause-kept t c = refused_then c.from_residual-in_err-put_expr-in-Left.result (label_then _ _ _ c.in_ok-label.ensures.draft c.in_err-put_expr-in-Left.ensures.kept)

pub put_operator-returns-in_err-leave_out-in-Left-clause-kept : goal.put_operator-returns-in_err-leave_out-in-Left-clause-kept
put_operator-returns-in_err-leave_out-in-Left-clause-kept t c = refused_then c.from_residual-in_err-leave_out-in-Left.result (label_then _ _ _ c.in_ok-label.ensures.draft (grown_then _ _ _ _ _ c.in_ok-put_expr-in-Left.ensures.lines c.in_err-leave_out-in-Left.ensures.kept))

pub put_operator-returns-in_ok-leave_out-in-Left-clause-kept : goal.put_operator-returns-in_ok-leave_out-in-Left-clause-kept
put_operator-returns-in_ok-leave_out-in-Left-clause-kept t c = label_last _ _ _ _ c.in_ok-label.ensures.draft (grown_last _ _ _ _ _ _ c.in_ok-put_expr-in-Left.ensures.lines (grown_last _ _ _ _ _ _ c.in_ok-leave_out-in-Left.ensures.lines c.put_form.ensures.kept))

pub put_operator-returns-in_err-leave_out-in-Right-clause-kept : goal.put_operator-returns-in_err-leave_out-in-Right-clause-kept
put_operator-returns-in_err-leave_out-in-Right-clause-kept t c = refused_then c.from_residual-in_err-leave_out-in-Right.result (label_then _ _ _ c.in_ok-label.ensures.draft c.in_err-leave_out-in-Right.ensures.kept)

pub put_operator-returns-in_err-put_expr-in-Right-clause-kept : goal.put_operator-returns-in_err-put_expr-in-Right-clause-kept
put_operator-returns-in_err-put_expr-in-Right-clause-kept t c = refused_then c.from_residual-in_err-put_expr-in-Right.result (label_then _ _ _ c.in_ok-label.ensures.draft (grown_then _ _ _ _ _ c.in_ok-leave_out-in-Right.ensures.lines c.in_err-put_expr-in-Right.ensures.kept))

pub put_operator-returns-in_ok-put_expr-in-Right-clause-kept : goal.put_operator-returns-in_ok-put_expr-in-Right-clause-kept
put_operator-returns-in_ok-put_expr-in-Right-clause-kept t c = label_last _ _ _ _ c.in_ok-label.ensures.draft (grown_last _ _ _ _ _ _ c.in_ok-leave_out-in-Right.ensures.lines (grown_last _ _ _ _ _ _ c.in_ok-put_expr-in-Right.ensures.lines c.put_form-in-Right.ensures.kept))

pub put_operator-returns-in_err-put_expr-in-Held-clause-kept : goal.put_operator-returns-in_err-put_expr-in-Held-clause-kept
put_operator-returns-in_err-put_expr-in-Held-clause-kept t c = refused_then c.from_residual-in_err-put_expr-in-Held.result (label_then _ _ _ c.in_ok-label.ensures.draft c.in_err-put_expr-in-Held.ensures.kept)

pub put_operator-returns-in_err-put_keep-in-Held-clause-kept : goal.put_operator-returns-in_err-put_keep-in-Held-clause-kept
put_operator-returns-in_err-put_keep-in-Held-clause-kept t c = refused_then c.from_residual-in_err-put_keep-in-Held.result (label_then _ _ _ c.in_ok-label.ensures.draft (grown_then _ _ _ _ _ c.in_ok-put_expr-in-Held.ensures.lines c.in_err-put_keep-in-Held.ensures.kept))

pub put_operator-returns-in_err-put_expr-in-Held-2-clause-kept : goal.put_operator-returns-in_err-put_expr-in-Held-2-clause-kept
put_operator-returns-in_err-put_expr-in-Held-2-clause-kept t c = refused_then c.from_residual-in_err-put_expr-in-Held-2.result (label_then _ _ _ c.in_ok-label.ensures.draft (grown_then _ _ _ _ _ c.in_ok-put_expr-in-Held.ensures.lines (kept_then _ _ _ _ c.in_ok-put_keep-in-Held.ensures.lines c.in_err-put_expr-in-Held-2.ensures.kept)))

pub put_operator-returns-in_ok-put_expr-in-Held-2-clause-kept : goal.put_operator-returns-in_ok-put_expr-in-Held-2-clause-kept
put_operator-returns-in_ok-put_expr-in-Held-2-clause-kept t c = label_last _ _ _ _ c.in_ok-label.ensures.draft (grown_last _ _ _ _ _ _ c.in_ok-put_expr-in-Held.ensures.lines (kept_last _ _ _ _ _ c.in_ok-put_keep-in-Held.ensures.lines (grown_last _ _ _ _ _ _ c.in_ok-put_expr-in-Held-2.ensures.lines c.put_form-in-Held.ensures.kept)))

pub put_operator-returns-in_err-put_expr-in-Stacked-clause-kept : goal.put_operator-returns-in_err-put_expr-in-Stacked-clause-kept
put_operator-returns-in_err-put_expr-in-Stacked-clause-kept t c = refused_then c.from_residual-in_err-put_expr-in-Stacked.result (label_then _ _ _ c.in_ok-label.ensures.draft c.in_err-put_expr-in-Stacked.ensures.kept)

pub put_operator-returns-in_err-put_waiting-in-Stacked-clause-kept : goal.put_operator-returns-in_err-put_waiting-in-Stacked-clause-kept
put_operator-returns-in_err-put_waiting-in-Stacked-clause-kept t c = refused_then c.from_residual-in_err-put_waiting-in-Stacked.result (label_then _ _ _ c.in_ok-label.ensures.draft (grown_then _ _ _ _ _ c.in_ok-put_expr-in-Stacked.ensures.lines c.in_err-put_waiting-in-Stacked.ensures.kept))

pub put_operator-returns-in_err-put_expr-in-Stacked-2-clause-kept : goal.put_operator-returns-in_err-put_expr-in-Stacked-2-clause-kept
put_operator-returns-in_err-put_expr-in-Stacked-2-clause-kept t c = refused_then c.from_residual-in_err-put_expr-in-Stacked-2.result (label_then _ _ _ c.in_ok-label.ensures.draft (grown_then _ _ _ _ _ c.in_ok-put_expr-in-Stacked.ensures.lines (kept_then _ _ _ _ c.in_ok-put_waiting-in-Stacked.ensures.lines c.in_err-put_expr-in-Stacked-2.ensures.kept)))

pub put_operator-returns-in_err-put_stacked-in-Stacked-clause-kept : goal.put_operator-returns-in_err-put_stacked-in-Stacked-clause-kept
put_operator-returns-in_err-put_stacked-in-Stacked-clause-kept t c = refused_then c.from_residual-in_err-put_stacked-in-Stacked.result (label_then _ _ _ c.in_ok-label.ensures.draft (grown_then _ _ _ _ _ c.in_ok-put_expr-in-Stacked.ensures.lines (kept_then _ _ _ _ c.in_ok-put_waiting-in-Stacked.ensures.lines (grown_then _ _ _ _ _ c.in_ok-put_expr-in-Stacked-2.ensures.lines c.in_err-put_stacked-in-Stacked.ensures.kept))))

pub put_joint-returns-in_ok-put_test-clause-kept : goal.put_joint-returns-in_ok-put_test-clause-kept
put_joint-returns-in_ok-put_test-clause-kept t c = grown_last _ _ _ _ _ _ c.in_ok-put_test.ensures.lines c.put_test-then-is_straight.ensures.kept

pub put_joint-returns-in_err-put_test-2-clause-kept : goal.put_joint-returns-in_err-put_test-2-clause-kept
put_joint-returns-in_err-put_test-2-clause-kept t c = refused_then c.from_residual-in_err-put_test-2.result (label_then _ _ _ c.in_ok-own.ensures.draft c.in_err-put_test-2.ensures.kept)

pub put_joint-returns-in_err-put_test-3-clause-kept : goal.put_joint-returns-in_err-put_test-3-clause-kept
put_joint-returns-in_err-put_test-3-clause-kept t c = refused_then c.from_residual-in_err-put_test-3.result (label_then _ _ _ c.in_ok-own.ensures.draft (grown_then _ _ _ _ _ c.in_ok-put_test-2.ensures.lines c.in_err-put_test-3.ensures.kept))

pub put_joint-returns-in_ok-put_test-3-clause-kept : goal.put_joint-returns-in_ok-put_test-3-clause-kept
put_joint-returns-in_ok-put_test-3-clause-kept t c = label_last _ _ _ _ c.in_ok-own.ensures.draft (grown_last _ _ _ _ _ _ c.in_ok-put_test-2.ensures.lines (grown_last _ _ _ _ _ _ c.in_ok-put_test-3.ensures.lines c.put.ensures.kept))

pub put_side-returns-in_ok-put_wanted-in-Left-clause-kept : goal.put_side-returns-in_ok-put_wanted-in-Left-clause-kept
put_side-returns-in_ok-put_wanted-in-Left-clause-kept t c = grown_last _ _ _ _ _ _ c.in_ok-put_wanted-in-Left.ensures.lines c.leave_out.ensures.kept

pub put_kept_test-returns-in_ok-put_base-in-Some-clause-kept : goal.put_kept_test-returns-in_ok-put_base-in-Some-clause-kept
put_kept_test-returns-in_ok-put_base-in-Some-clause-kept t c = grown_last _ _ _ _ _ _ c.in_ok-put_base-in-Some.ensures.lines c.put_own_test.ensures.kept

pub put_kept_test-returns-in_ok-put_base-in-None-clause-kept : goal.put_kept_test-returns-in_ok-put_base-in-None-clause-kept
put_kept_test-returns-in_ok-put_base-in-None-clause-kept t c = grown_last _ _ _ _ _ _ c.in_ok-put_base-in-None.ensures.lines c.put_loaded_test.ensures.kept

pub put_test-returns-in_ok-put_expr-in-Comma-clause-kept : goal.put_test-returns-in_ok-put_expr-in-Comma-clause-kept
put_test-returns-in_ok-put_expr-in-Comma-clause-kept t c = grown_last _ _ _ _ _ _ c.in_ok-put_expr-in-Comma.ensures.lines c.put_test-in-Comma.ensures.kept

pub put_plain_test-returns-clause-kept : goal.put_plain_test-returns-clause-kept
put_plain_test-returns-clause-kept t c = grown_last _ _ _ _ _ _ c.in_ok-put_expr.ensures.lines c.put_value_test.ensures.kept

pub put_unary_value-returns-in_err-put_test-in-Not-clause-kept : goal.put_unary_value-returns-in_err-put_test-in-Not-clause-kept
put_unary_value-returns-in_err-put_test-in-Not-clause-kept t c = refused_then c.from_residual-in_err-put_test-in-Not.result (grown_then _ _ _ _ _ c.in_ok-truth-in-Not.ensures.draft c.in_err-put_test-in-Not.ensures.kept)

pub put_unary_value-returns-in_ok-put_test-in-Not-clause-kept : goal.put_unary_value-returns-in_ok-put_test-in-Not-clause-kept
put_unary_value-returns-in_ok-put_test-in-Not-clause-kept t c = grown_last _ _ _ _ _ _ c.in_ok-truth-in-Not.ensures.draft (grown_last _ _ _ _ _ _ c.in_ok-put_test-in-Not.ensures.lines c.put_truth.ensures.kept)

pub put_unary_value-returns-in_ok-put_expr-in_default-clause-kept : goal.put_unary_value-returns-in_ok-put_expr-in_default-clause-kept
put_unary_value-returns-in_ok-put_expr-in_default-clause-kept t c = grown_last _ _ _ _ _ _ c.in_ok-put_expr-in_default.ensures.lines c.put_unary.ensures.kept

pub put_expr-returns-in_err-put_joint-in-And-clause-kept : goal.put_expr-returns-in_err-put_joint-in-And-clause-kept
put_expr-returns-in_err-put_joint-in-And-clause-kept t c = refused_then c.from_residual-in_err-put_joint-in-And.result (grown_then _ _ _ _ _ c.in_ok-truth-in-And.ensures.draft c.in_err-put_joint-in-And.ensures.kept)

pub put_expr-returns-in_ok-put_joint-in-And-clause-kept : goal.put_expr-returns-in_ok-put_joint-in-And-clause-kept
put_expr-returns-in_ok-put_joint-in-And-clause-kept t c = grown_last _ _ _ _ _ _ c.in_ok-truth-in-And.ensures.draft (grown_last _ _ _ _ _ _ c.in_ok-put_joint-in-And.ensures.lines c.put_truth-in-And.ensures.kept)

pub put_expr-returns-in_err-put_joint-in-Or-clause-kept : goal.put_expr-returns-in_err-put_joint-in-Or-clause-kept
put_expr-returns-in_err-put_joint-in-Or-clause-kept t c = refused_then c.from_residual-in_err-put_joint-in-Or.result (grown_then _ _ _ _ _ c.in_ok-truth-in-Or.ensures.draft c.in_err-put_joint-in-Or.ensures.kept)

pub put_expr-returns-in_ok-put_joint-in-Or-clause-kept : goal.put_expr-returns-in_ok-put_joint-in-Or-clause-kept
put_expr-returns-in_ok-put_joint-in-Or-clause-kept t c = grown_last _ _ _ _ _ _ c.in_ok-truth-in-Or.ensures.draft (grown_last _ _ _ _ _ _ c.in_ok-put_joint-in-Or.ensures.lines c.put_truth-in-Or.ensures.kept)

pub put_expr-returns-in_err-put_comparison-in-Some-clause-kept : goal.put_expr-returns-in_err-put_comparison-in-Some-clause-kept
put_expr-returns-in_err-put_comparison-in-Some-clause-kept t c = refused_then c.from_residual-in_err-put_comparison-in-Some.result (grown_then _ _ _ _ _ c.in_ok-truth-in-Some.ensures.draft c.in_err-put_comparison-in-Some.ensures.kept)

pub put_expr-returns-in_ok-put_comparison-in-Some-clause-kept : goal.put_expr-returns-in_ok-put_comparison-in-Some-clause-kept
put_expr-returns-in_ok-put_comparison-in-Some-clause-kept t c = grown_last _ _ _ _ _ _ c.in_ok-truth-in-Some.ensures.draft (grown_last _ _ _ _ _ _ c.in_ok-put_comparison-in-Some.ensures.lines c.put_truth.ensures.kept)

pub put_assign-returns-in_err-leave_out-in-Left-clause-kept : goal.put_assign-returns-in_err-leave_out-in-Left-clause-kept
put_assign-returns-in_err-leave_out-in-Left-clause-kept t c = refused_then c.from_residual-in_err-leave_out-in-Left.result (grown_then _ _ _ _ _ c.in_ok-put_base-in-Left.ensures.lines c.in_err-leave_out-in-Left.ensures.kept)

pub put_assign-returns-in_err-put_read_bytes-in-Left-clause-kept : goal.put_assign-returns-in_err-put_read_bytes-in-Left-clause-kept
put_assign-returns-in_err-put_read_bytes-in-Left-clause-kept t c = refused_then c.from_residual-in_err-put_read_bytes-in-Left.result (grown_then _ _ _ _ _ c.in_ok-put_base-in-Left.ensures.lines (grown_then _ _ _ _ _ c.in_ok-leave_out-in-Left.ensures.lines c.in_err-put_read_bytes-in-Left.ensures.kept))

pub put_assign-returns-in_ok-put_read_bytes-in-Left-clause-kept : goal.put_assign-returns-in_ok-put_read_bytes-in-Left-clause-kept
put_assign-returns-in_ok-put_read_bytes-in-Left-clause-kept t c = grown_last _ _ _ _ _ _ c.in_ok-put_base-in-Left.ensures.lines (grown_last _ _ _ _ _ _ c.in_ok-leave_out-in-Left.ensures.lines (kept_last _ _ _ _ _ c.in_ok-put_read_bytes-in-Left.ensures.lines c.narrow.ensures.kept))

pub put_assign-returns-in_err-put_byte_through-in-RightByte-clause-kept : goal.put_assign-returns-in_err-put_byte_through-in-RightByte-clause-kept
put_assign-returns-in_err-put_byte_through-in-RightByte-clause-kept t c = refused_then c.from_residual-in_err-put_byte_through-in-RightByte.result (grown_then _ _ _ _ _ c.in_ok-leave_out-in-RightByte.ensures.lines (grown_then _ _ _ _ _ c.in_ok-put_expr-in-RightByte.ensures.lines c.in_err-put_byte_through-in-RightByte.ensures.kept))

pub put_assign-returns-in_ok-put_byte_through-in-RightByte-clause-kept : goal.put_assign-returns-in_ok-put_byte_through-in-RightByte-clause-kept
put_assign-returns-in_ok-put_byte_through-in-RightByte-clause-kept t c = grown_last _ _ _ _ _ _ c.in_ok-leave_out-in-RightByte.ensures.lines (grown_last _ _ _ _ _ _ c.in_ok-put_expr-in-RightByte.ensures.lines (kept_last _ _ _ _ _ c.in_ok-put_byte_through-in-RightByte.ensures.lines c.narrow-in-RightByte.ensures.kept))

pub put_assign-returns-in_ok-put_expr-in-RightWord-clause-kept : goal.put_assign-returns-in_ok-put_expr-in-RightWord-clause-kept
put_assign-returns-in_ok-put_expr-in-RightWord-clause-kept t c = grown_last _ _ _ _ _ _ c.in_ok-leave_out-in-RightWord.ensures.lines (grown_last _ _ _ _ _ _ c.in_ok-put_expr-in-RightWord.ensures.lines c.put_word_through.ensures.kept)

pub put_assign-returns-in_err-put_keep-in-HeldByte-clause-kept : goal.put_assign-returns-in_err-put_keep-in-HeldByte-clause-kept
put_assign-returns-in_err-put_keep-in-HeldByte-clause-kept t c = refused_then c.from_residual-in_err-put_keep-in-HeldByte.result (grown_then _ _ _ _ _ c.in_ok-put_base-in-HeldByte.ensures.lines c.in_err-put_keep-in-HeldByte.ensures.kept)

pub put_assign-returns-in_err-put_expr-in-HeldByte-clause-kept : goal.put_assign-returns-in_err-put_expr-in-HeldByte-clause-kept
put_assign-returns-in_err-put_expr-in-HeldByte-clause-kept t c = refused_then c.from_residual-in_err-put_expr-in-HeldByte.result (grown_then _ _ _ _ _ c.in_ok-put_base-in-HeldByte.ensures.lines (kept_then _ _ _ _ c.in_ok-put_keep-in-HeldByte.ensures.lines c.in_err-put_expr-in-HeldByte.ensures.kept))

pub put_assign-returns-in_err-put_byte_behind-in-HeldByte-clause-kept : goal.put_assign-returns-in_err-put_byte_behind-in-HeldByte-clause-kept
put_assign-returns-in_err-put_byte_behind-in-HeldByte-clause-kept t c = refused_then c.from_residual-in_err-put_byte_behind-in-HeldByte.result (grown_then _ _ _ _ _ c.in_ok-put_base-in-HeldByte.ensures.lines (kept_then _ _ _ _ c.in_ok-put_keep-in-HeldByte.ensures.lines (grown_then _ _ _ _ _ c.in_ok-put_expr-in-HeldByte.ensures.lines c.in_err-put_byte_behind-in-HeldByte.ensures.kept)))

pub put_assign-returns-in_ok-put_byte_behind-in-HeldByte-clause-kept : goal.put_assign-returns-in_ok-put_byte_behind-in-HeldByte-clause-kept
put_assign-returns-in_ok-put_byte_behind-in-HeldByte-clause-kept t c = grown_last _ _ _ _ _ _ c.in_ok-put_base-in-HeldByte.ensures.lines (kept_last _ _ _ _ _ c.in_ok-put_keep-in-HeldByte.ensures.lines (grown_last _ _ _ _ _ _ c.in_ok-put_expr-in-HeldByte.ensures.lines (kept_last _ _ _ _ _ c.in_ok-put_byte_behind-in-HeldByte.ensures.lines c.narrow-in-HeldByte.ensures.kept)))

pub put_assign-returns-in_err-put_keep-in-HeldWord-clause-kept : goal.put_assign-returns-in_err-put_keep-in-HeldWord-clause-kept
put_assign-returns-in_err-put_keep-in-HeldWord-clause-kept t c = refused_then c.from_residual-in_err-put_keep-in-HeldWord.result (grown_then _ _ _ _ _ c.in_ok-put_base-in-HeldWord.ensures.lines c.in_err-put_keep-in-HeldWord.ensures.kept)

pub put_assign-returns-in_err-put_expr-in-HeldWord-clause-kept : goal.put_assign-returns-in_err-put_expr-in-HeldWord-clause-kept
put_assign-returns-in_err-put_expr-in-HeldWord-clause-kept t c = refused_then c.from_residual-in_err-put_expr-in-HeldWord.result (grown_then _ _ _ _ _ c.in_ok-put_base-in-HeldWord.ensures.lines (kept_then _ _ _ _ c.in_ok-put_keep-in-HeldWord.ensures.lines c.in_err-put_expr-in-HeldWord.ensures.kept))

pub put_assign-returns-in_ok-put_expr-in-HeldWord-clause-kept : goal.put_assign-returns-in_ok-put_expr-in-HeldWord-clause-kept
put_assign-returns-in_ok-put_expr-in-HeldWord-clause-kept t c = grown_last _ _ _ _ _ _ c.in_ok-put_base-in-HeldWord.ensures.lines (kept_last _ _ _ _ _ c.in_ok-put_keep-in-HeldWord.ensures.lines (grown_last _ _ _ _ _ _ c.in_ok-put_expr-in-HeldWord.ensures.lines c.put_word_behind.ensures.kept))

pub put_assign-returns-in_err-hold-in-Stacked-clause-kept : goal.put_assign-returns-in_err-hold-in-Stacked-clause-kept
put_assign-returns-in_err-hold-in-Stacked-clause-kept t c = refused_then c.from_residual-in_err-hold-in-Stacked.result (grown_then _ _ _ _ _ c.in_ok-put_base-in-Stacked.ensures.lines c.in_err-hold-in-Stacked.ensures.kept)

pub put_assign-returns-in_err-put_expr-in-Stacked-clause-kept : goal.put_assign-returns-in_err-put_expr-in-Stacked-clause-kept
put_assign-returns-in_err-put_expr-in-Stacked-clause-kept t c = refused_then c.from_residual-in_err-put_expr-in-Stacked.result (grown_then _ _ _ _ _ c.in_ok-put_base-in-Stacked.ensures.lines (kept_then _ _ _ _ c.in_ok-hold-in-Stacked.ensures.lines c.in_err-put_expr-in-Stacked.ensures.kept))

pub put_assign-returns-in_ok-put_expr-in-Stacked-clause-kept : goal.put_assign-returns-in_ok-put_expr-in-Stacked-clause-kept
put_assign-returns-in_ok-put_expr-in-Stacked-clause-kept t c = grown_last _ _ _ _ _ _ c.in_ok-put_base-in-Stacked.ensures.lines (kept_last _ _ _ _ _ c.in_ok-hold-in-Stacked.ensures.lines (grown_last _ _ _ _ _ _ c.in_ok-put_expr-in-Stacked.ensures.lines c.store.ensures.kept))

pub put_base-returns-clause-lines : goal.put_base-returns-clause-lines
put_base-returns-clause-lines t c = based c.put_base_by.result c.args.draft.now c.put_base_by.new.draft c.args.frame.now c.args.pushed c.args.draft.now.labels c.args.destination (typed_of c.args.a.now) c.put_base_by.ensures.lines

pub put_pointer_base-returns-clause-lines : goal.put_pointer_base-returns-clause-lines
put_pointer_base-returns-clause-lines t c = pointed c.put_pointer_by.result c.args.draft.now c.put_pointer_by.new.draft c.args.frame.now c.args.pushed c.args.draft.now.labels c.args.destination (typed_of c.args.e.now) c.put_pointer_by.ensures.lines

pub put_pointer_by-returns-in_ok-leave_sum-in-Binary-clause-kept : goal.put_pointer_by-returns-in_ok-leave_sum-in-Binary-clause-kept
put_pointer_by-returns-in_ok-leave_sum-in-Binary-clause-kept t c = grown_last _ _ _ _ _ _ c.in_ok-leave_sum-in-Binary.ensures.lines c.put_pointer_base.ensures.kept

pub put_joint-returns-in_ok-put_test-clause-lines : goal.put_joint-returns-in_ok-put_test-clause-lines
put_joint-returns-in_ok-put_test-clause-lines t c =
    joint_lines c.put_test-then-is_straight.result c.args.draft.now c.put_test.new.draft c.put_test-then-is_straight.new.draft c.args.frame.now c.args.pushed c.args.to c.args.sense c.args.stop (typed_of c.args.a.now) (typed_of c.args.b.now)
    (sym c.is_straight.ensures ∙ c.if-is_straight.true) c.in_ok-put_test.ensures.lines c.put_test-then-is_straight.ensures.lines

pub put_choice-returns-clause-lines : goal.put_choice-returns-clause-lines
put_choice-returns-clause-lines t c =
    choice_lines c.put-2.result c.args.draft.now c.next_label.new.draft c.next_label-2.new.draft c.put_test.new.draft c.put_expr.new.draft c.put.new.draft c.put_expr-2.new.draft c.put-2.new.draft c.args.frame.now c.args.pushed c.in_ok-other.other c.in_ok-end.end (typed_of c.args.c.now) (typed_of c.args.a.now) (typed_of c.args.b.now)
    c.in_ok-other.ensures.label c.in_ok-end.ensures.label c.in_ok-other.ensures.draft c.in_ok-end.ensures.draft c.in_ok-put_test.ensures.lines c.in_ok-put_expr.ensures.lines c.in_ok-put.ensures.lines c.in_ok-put_expr-2.ensures.lines c.put-2.ensures.lines

pub put_operator-returns-in_err-put-in-Stacked-clause-kept : goal.put_operator-returns-in_err-put-in-Stacked-clause-kept
put_operator-returns-in_err-put-in-Stacked-clause-kept t c = refused_then c.from_residual-in_err-put-in-Stacked.result (label_then _ _ _ c.in_ok-label.ensures.draft (grown_then _ _ _ _ _ c.in_ok-put_expr-in-Stacked.ensures.lines (kept_then _ _ _ _ c.in_ok-put_waiting-in-Stacked.ensures.lines (grown_then _ _ _ _ _ c.in_ok-put_expr-in-Stacked-2.ensures.lines (kept_then _ _ _ _ c.in_ok-put_stacked-in-Stacked.ensures.lines c.in_err-put-in-Stacked.ensures.kept)))))

pub put_operator-returns-in_ok-put-in-Stacked-clause-kept : goal.put_operator-returns-in_ok-put-in-Stacked-clause-kept
put_operator-returns-in_ok-put-in-Stacked-clause-kept t c = label_last _ _ _ _ c.in_ok-label.ensures.draft (grown_last _ _ _ _ _ _ c.in_ok-put_expr-in-Stacked.ensures.lines (kept_last _ _ _ _ _ c.in_ok-put_waiting-in-Stacked.ensures.lines (grown_last _ _ _ _ _ _ c.in_ok-put_expr-in-Stacked-2.ensures.lines (kept_last _ _ _ _ _ c.in_ok-put_stacked-in-Stacked.ensures.lines (kept_last _ _ _ _ _ c.in_ok-put-in-Stacked.ensures.lines c.put_arrived.ensures.kept)))))

pub put_part_base-returns-in_err-put_offset-clause-kept : goal.put_part_base-returns-in_err-put_offset-clause-kept
put_part_base-returns-in_err-put_offset-clause-kept t c = refused_then c.from_residual-in_err-put_offset.result (grown_then _ _ _ _ _ c.in_ok-put_expr.ensures.lines c.in_err-put_offset.ensures.kept)

pub put_part_base-returns-in_ok-put_offset-clause-kept : goal.put_part_base-returns-in_ok-put_offset-clause-kept
put_part_base-returns-in_ok-put_offset-clause-kept t c = grown_last _ _ _ _ _ _ c.in_ok-put_expr.ensures.lines (kept_last _ _ _ _ _ c.in_ok-put_offset.ensures.lines c.put_arrived.ensures.kept)

pub put_base_by-returns-in_ok-put_expr-in-Const-clause-kept : goal.put_base_by-returns-in_ok-put_expr-in-Const-clause-kept
put_base_by-returns-in_ok-put_expr-in-Const-clause-kept t c = grown_last _ _ _ _ _ _ c.in_ok-put_expr-in-Const.ensures.lines c.put_arrived-in-Const.ensures.kept

pub put_pointer_by-returns-in_ok-put_expr-in-Some-clause-kept : goal.put_pointer_by-returns-in_ok-put_expr-in-Some-clause-kept
put_pointer_by-returns-in_ok-put_expr-in-Some-clause-kept t c = grown_last _ _ _ _ _ _ c.in_ok-put_expr-in-Some.ensures.lines c.put_arrived.ensures.kept

pub put_pointer_by-returns-in_ok-put_expr-in-Const-clause-kept : goal.put_pointer_by-returns-in_ok-put_expr-in-Const-clause-kept
put_pointer_by-returns-in_ok-put_expr-in-Const-clause-kept t c = grown_last _ _ _ _ _ _ c.in_ok-put_expr-in-Const.ensures.lines c.put_arrived-in-Const.ensures.kept

-- low bytes and elements

pub put_low-returns-clause-lines : goal.put_low-returns-clause-lines
put_low-returns-clause-lines t c = lowered c.put_low_read.result c.args.draft.now c.put_low_read.new.draft c.args.frame.now c.args.pushed c.args.draft.now.labels (typed_of c.args.e.now) c.put_low_read.ensures.lines

pub put_load_value-returns-in_ok-put_base-in-None-clause-kept : goal.put_load_value-returns-in_ok-put_base-in-None-clause-kept
put_load_value-returns-in_ok-put_base-in-None-clause-kept t c = grown_last _ _ _ _ _ _ c.in_ok-put_base-in-None.ensures.lines c.put_fetch.ensures.kept

pub put_load_value-returns-in_ok-put_index-in-Some-clause-kept : goal.put_load_value-returns-in_ok-put_index-in-Some-clause-kept
put_load_value-returns-in_ok-put_index-in-Some-clause-kept t c = grown_last _ _ _ _ _ _ c.in_ok-put_index-in-Some.ensures.lines c.put_element_value.ensures.kept

pub put_load_test-returns-in_ok-put_index-in-Some-clause-kept : goal.put_load_test-returns-in_ok-put_index-in-Some-clause-kept
put_load_test-returns-in_ok-put_index-in-Some-clause-kept t c = grown_last _ _ _ _ _ _ c.in_ok-put_index-in-Some.ensures.lines c.put_element_test.ensures.kept

pub put_low_load-returns-in_ok-put_index-in-Some-clause-kept : goal.put_low_load-returns-in_ok-put_index-in-Some-clause-kept
put_low_load-returns-in_ok-put_index-in-Some-clause-kept t c = grown_last _ _ _ _ _ _ c.in_ok-put_index-in-Some.ensures.lines c.put_element_byte.ensures.kept

pub put_low_load-returns-in_ok-put_base-in-Some-behind_pointer-clause-kept : goal.put_low_load-returns-in_ok-put_base-in-Some-behind_pointer-clause-kept
put_low_load-returns-in_ok-put_base-in-Some-behind_pointer-clause-kept t c = grown_last _ _ _ _ _ _ c.in_ok-put_base-in-Some-behind_pointer.ensures.lines c.put_behind_pointer.ensures.kept

pub put_low_side-returns-in_ok-put_low-in-Left-clause-kept : goal.put_low_side-returns-in_ok-put_low-in-Left-clause-kept
put_low_side-returns-in_ok-put_low-in-Left-clause-kept t c = grown_last _ _ _ _ _ _ c.in_ok-put_low-in-Left.ensures.lines c.leave_out.ensures.kept

pub put_comparison-returns-in_err-put_low-in-HeldByte-clause-kept : goal.put_comparison-returns-in_err-put_low-in-HeldByte-clause-kept
put_comparison-returns-in_err-put_low-in-HeldByte-clause-kept t c = refused_then c.from_residual-in_err-put_low-in-HeldByte.result (label_then _ _ _ c.in_ok-own.ensures.draft c.in_err-put_low-in-HeldByte.ensures.kept)

pub put_comparison-returns-in_err-put_keep_byte-in-HeldByte-clause-kept : goal.put_comparison-returns-in_err-put_keep_byte-in-HeldByte-clause-kept
put_comparison-returns-in_err-put_keep_byte-in-HeldByte-clause-kept t c = refused_then c.from_residual-in_err-put_keep_byte-in-HeldByte.result (label_then _ _ _ c.in_ok-own.ensures.draft (grown_then _ _ _ _ _ c.in_ok-put_low-in-HeldByte.ensures.lines c.in_err-put_keep_byte-in-HeldByte.ensures.kept))

pub put_comparison-returns-in_err-put_low-in-HeldByte-2-clause-kept : goal.put_comparison-returns-in_err-put_low-in-HeldByte-2-clause-kept
put_comparison-returns-in_err-put_low-in-HeldByte-2-clause-kept t c = refused_then c.from_residual-in_err-put_low-in-HeldByte-2.result (label_then _ _ _ c.in_ok-own.ensures.draft (grown_then _ _ _ _ _ c.in_ok-put_low-in-HeldByte.ensures.lines (kept_then _ _ _ _ c.in_ok-put_keep_byte-in-HeldByte.ensures.lines c.in_err-put_low-in-HeldByte-2.ensures.kept)))

pub put_comparison-returns-in_err-put_compare_byte-in-HeldByte-clause-kept : goal.put_comparison-returns-in_err-put_compare_byte-in-HeldByte-clause-kept
put_comparison-returns-in_err-put_compare_byte-in-HeldByte-clause-kept t c = refused_then c.from_residual-in_err-put_compare_byte-in-HeldByte.result (label_then _ _ _ c.in_ok-own.ensures.draft (grown_then _ _ _ _ _ c.in_ok-put_low-in-HeldByte.ensures.lines (kept_then _ _ _ _ c.in_ok-put_keep_byte-in-HeldByte.ensures.lines (grown_then _ _ _ _ _ c.in_ok-put_low-in-HeldByte-2.ensures.lines c.in_err-put_compare_byte-in-HeldByte.ensures.kept))))

pub put_comparison-returns-in_ok-put_compare_byte-in-HeldByte-clause-kept : goal.put_comparison-returns-in_ok-put_compare_byte-in-HeldByte-clause-kept
put_comparison-returns-in_ok-put_compare_byte-in-HeldByte-clause-kept t c = label_last _ _ _ _ c.in_ok-own.ensures.draft (grown_last _ _ _ _ _ _ c.in_ok-put_low-in-HeldByte.ensures.lines (kept_last _ _ _ _ _ c.in_ok-put_keep_byte-in-HeldByte.ensures.lines (grown_last _ _ _ _ _ _ c.in_ok-put_low-in-HeldByte-2.ensures.lines (kept_last _ _ _ _ _ c.in_ok-put_compare_byte-in-HeldByte.ensures.lines c.put-in-HeldByte.ensures.kept))))

pub put_low_by-returns-in_err-put_low-in-Some-clause-kept : goal.put_low_by-returns-in_err-put_low-in-Some-clause-kept
put_low_by-returns-in_err-put_low-in-Some-clause-kept t c = refused_then c.from_residual-in_err-put_low-in-Some.result (grown_then _ _ _ _ _ c.in_ok-leave_sum-in-Some.ensures.lines c.in_err-put_low-in-Some.ensures.kept)

pub put_low_by-returns-in_err-leave_out-in-Some-clause-kept : goal.put_low_by-returns-in_err-leave_out-in-Some-clause-kept
put_low_by-returns-in_err-leave_out-in-Some-clause-kept t c = refused_then c.from_residual-in_err-leave_out-in-Some.result (grown_then _ _ _ _ _ c.in_ok-leave_sum-in-Some.ensures.lines (grown_then _ _ _ _ _ c.in_ok-put_low-in-Some.ensures.lines c.in_err-leave_out-in-Some.ensures.kept))

pub put_low_by-returns-in_ok-leave_out-in-Some-clause-kept : goal.put_low_by-returns-in_ok-leave_out-in-Some-clause-kept
put_low_by-returns-in_ok-leave_out-in-Some-clause-kept t c = grown_last _ _ _ _ _ _ c.in_ok-leave_sum-in-Some.ensures.lines (grown_last _ _ _ _ _ _ c.in_ok-put_low-in-Some.ensures.lines (grown_last _ _ _ _ _ _ c.in_ok-leave_out-in-Some.ensures.lines c.put_low_operator.ensures.kept))

pub put_low_read-returns-in_ok-leave_out-in-Some-clause-kept : goal.put_low_read-returns-in_ok-leave_out-in-Some-clause-kept
put_low_read-returns-in_ok-leave_out-in-Some-clause-kept t c = grown_last _ _ _ _ _ _ c.in_ok-leave_out-in-Some.ensures.lines c.put_op.ensures.kept

pub put_sum_index-returns-in_ok-leave_sum-in-Binary-clause-kept : goal.put_sum_index-returns-in_ok-leave_sum-in-Binary-clause-kept
put_sum_index-returns-in_ok-leave_sum-in-Binary-clause-kept t c = grown_last _ _ _ _ _ _ c.in_ok-leave_sum-in-Binary.ensures.lines c.put_low.ensures.kept

pub put_base_by-returns-in_ok-put_expr-in-Convert-clause-kept : goal.put_base_by-returns-in_ok-put_expr-in-Convert-clause-kept
put_base_by-returns-in_ok-put_expr-in-Convert-clause-kept t c = grown_last _ _ _ _ _ _ c.in_ok-put_expr-in-Convert.ensures.lines c.put_arrived-in-Convert.ensures.kept

pub put_base_by-returns-in_ok-put_expr-in-And-clause-kept : goal.put_base_by-returns-in_ok-put_expr-in-And-clause-kept
put_base_by-returns-in_ok-put_expr-in-And-clause-kept t c = grown_last _ _ _ _ _ _ c.in_ok-put_expr-in-And.ensures.lines c.put_arrived-in-And.ensures.kept

pub put_base_by-returns-in_ok-put_expr-in-Assign-clause-kept : goal.put_base_by-returns-in_ok-put_expr-in-Assign-clause-kept
put_base_by-returns-in_ok-put_expr-in-Assign-clause-kept t c = grown_last _ _ _ _ _ _ c.in_ok-put_expr-in-Assign.ensures.lines c.put_arrived-in-Assign.ensures.kept

pub put_base_by-returns-in_ok-put_expr-in-Copy-clause-kept : goal.put_base_by-returns-in_ok-put_expr-in-Copy-clause-kept
put_base_by-returns-in_ok-put_expr-in-Copy-clause-kept t c = grown_last _ _ _ _ _ _ c.in_ok-put_expr-in-Copy.ensures.lines c.put_arrived.ensures.kept

pub put_pointer_by-returns-in_ok-put_expr-in-Load-clause-kept : goal.put_pointer_by-returns-in_ok-put_expr-in-Load-clause-kept
put_pointer_by-returns-in_ok-put_expr-in-Load-clause-kept t c = grown_last _ _ _ _ _ _ c.in_ok-put_expr-in-Load.ensures.lines c.put_arrived-in-Load.ensures.kept

pub put_pointer_by-returns-in_ok-put_expr-in-And-clause-kept : goal.put_pointer_by-returns-in_ok-put_expr-in-And-clause-kept
put_pointer_by-returns-in_ok-put_expr-in-And-clause-kept t c = grown_last _ _ _ _ _ _ c.in_ok-put_expr-in-And.ensures.lines c.put_arrived-in-And.ensures.kept

pub put_pointer_by-returns-in_ok-put_expr-in-Assign-clause-kept : goal.put_pointer_by-returns-in_ok-put_expr-in-Assign-clause-kept
put_pointer_by-returns-in_ok-put_expr-in-Assign-clause-kept t c = grown_last _ _ _ _ _ _ c.in_ok-put_expr-in-Assign.ensures.lines c.put_arrived-in-Assign.ensures.kept

pub put_pointer_by-returns-in_ok-put_expr-in-Copy-clause-kept : goal.put_pointer_by-returns-in_ok-put_expr-in-Copy-clause-kept
put_pointer_by-returns-in_ok-put_expr-in-Copy-clause-kept t c = grown_last _ _ _ _ _ _ c.in_ok-put_expr-in-Copy.ensures.lines c.put_arrived-in-Copy.ensures.kept

-- by what the trees are

pub put_expr-returns-in-Load-clause-lines : goal.put_expr-returns-in-Load-clause-lines
put_expr-returns-in-Load-clause-lines t c =
    let same : node_of c.args.e.now.kind ≡ load (typed_of c.deref-in-Load.result.now) =
    ap node_of c.in-Load.is ∙ ap (λ (g : TExpr). load (typed_of g)) (sym c.deref-in-Load.ensures)
    in
    rw same c.put_load_value.ensures.lines

pub put_test-returns-in-Load-clause-lines : goal.put_test-returns-in-Load-clause-lines
put_test-returns-in-Load-clause-lines t c =
    let same : node_of c.args.e.now.kind ≡ load (typed_of c.deref.result.now) =
    ap node_of c.in-Load.is ∙ ap (λ (g : TExpr). load (typed_of g)) (sym c.deref.ensures)
    in
    rw same c.put_load_test.ensures.lines

pub put_low_by-returns-in-Load-clause-lines : goal.put_low_by-returns-in-Load-clause-lines
put_low_by-returns-in-Load-clause-lines t c =
    let same : node_of c.args.e.now.kind ≡ load (typed_of c.deref-in-Load.result.now) =
    ap node_of c.in-Load.is ∙ ap (λ (g : TExpr). load (typed_of g)) (sym c.deref-in-Load.ensures)
    in
    rw same c.put_low_load.ensures.lines

pub put_index-returns-in-Deref-clause-lines : goal.put_index-returns-in-Deref-clause-lines
put_index-returns-in-Deref-clause-lines t c =
    let same : node_of c.args.e.now.kind ≡ deref (typed_of c.deref.result.now) =
    ap node_of c.in-Deref.is ∙ ap (λ (g : TExpr). deref (typed_of g)) (sym c.deref.ensures)
    in
    rw same c.put_sum_index.ensures.lines

pub put_index-returns-in-Member-clause-lines : goal.put_index-returns-in-Member-clause-lines
put_index-returns-in-Member-clause-lines t c =
    let same : node_of c.args.e.now.kind ≡ member (typed_of c.deref-in-Member.result.now) c.in-Member.field-1 =
    ap node_of c.in-Member.is ∙ ap (λ (g : TExpr). member (typed_of g) c.in-Member.field-1) (sym c.deref-in-Member.ensures)
    in
    rw same c.put_index.ensures.lines

pub put_sum_index-returns-in_ok-leave_sum-in-Binary-clause-lines : goal.put_sum_index-returns-in_ok-leave_sum-in-Binary-clause-lines
put_sum_index-returns-in_ok-leave_sum-in-Binary-clause-lines t c =
    let same : node_of c.args.e.now.kind ≡ binary c.in-Binary.field-0 (typed_of c.in-Binary.field-1.value) (typed_of c.deref.result.now) =
    ap node_of c.in-Binary.is ∙ ap (λ (g : TExpr). binary c.in-Binary.field-0 (typed_of c.in-Binary.field-1.value) (typed_of g)) (sym c.deref.ensures)
    in
    rw same (sum_index_lines c.put_low.result c.args.draft.now _ c.put_low.new.draft c.args.frame.now c.args.pushed (typed_of c.deref.result.now) c.in_ok-leave_sum-in-Binary.ensures.lines c.put_low.ensures.lines)

pub put_test-returns-in-Some-clause-lines : goal.put_test-returns-in-Some-clause-lines
put_test-returns-in-Some-clause-lines t c =
    let a = c.deref-in-Some.result.now in
    let b = c.deref-in-Some-2.result.now in
    let op = c.in-Binary.op in
    let same : node_of c.args.e.now.kind ≡ binary op (typed_of a) (typed_of b) =
    ap node_of c.in-Binary.is
    ∙ ap (λ (g : TExpr). binary op (typed_of g) (typed_of c.in-Binary.b.value)) (sym c.deref-in-Some.ensures)
    ∙ ap (λ (g : TExpr). binary op (typed_of a) (typed_of g)) (sym c.deref-in-Some-2.ensures)
    in
    rw same (compared_test c.put_comparison.result c.args.draft.now c.put_comparison.new.draft c.args.frame.now c.args.pushed c.args.to c.args.sense op c.in-Some.relation (qty_of c.args.e.now.ty) (typed_of a) (typed_of b) (sym c.relation_of.ensures ∙ c.in-Some.is) c.put_comparison.ensures.lines)

pub put_expr-returns-in_ok-put_comparison-in-Some-clause-lines : goal.put_expr-returns-in_ok-put_comparison-in-Some-clause-lines
put_expr-returns-in_ok-put_comparison-in-Some-clause-lines t c =
    let a = c.deref-in-Some.result.now in
    let b = c.deref-in-Some-2.result.now in
    let op = c.in-Binary.op in
    let same : node_of c.args.e.now.kind ≡ binary op (typed_of a) (typed_of b) =
    ap node_of c.in-Binary.is
    ∙ ap (λ (g : TExpr). binary op (typed_of g) (typed_of c.in-Binary.b.value)) (sym c.deref-in-Some.ensures)
    ∙ ap (λ (g : TExpr). binary op (typed_of a) (typed_of g)) (sym c.deref-in-Some-2.ensures)
    in
    rw same (compared_value c.put_truth.result c.args.draft.now _ _ c.put_truth.new.draft c.args.frame.now c.args.pushed c.in_ok-truth-in-Some.truth.no op c.in-Some.relation (qty_of c.args.e.now.ty) (typed_of a) (typed_of b) (sym c.relation_of.ensures ∙ c.in-Some.is) c.in_ok-truth-in-Some.ensures.no c.in_ok-truth-in-Some.ensures.draft c.in_ok-put_comparison-in-Some.ensures.lines c.put_truth.ensures.lines)
