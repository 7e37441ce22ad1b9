use Rattle.std.proofs.Common.{◌≡◌, ℕ, None}
use Rattle.c65_csem.specs.Views.{typed_of}
use Rattle.c65_genexpr.specs.declared.wanted.Wanted.TheVariants.{Value}
use Rattle.c65_genexpr.specs.Code.{expr_code, index_code}
use Rattle.c65_genexpr.specs.Uses.{uses, index_uses}
use Rattle.c65_genwide.proofs.Kept.{kept_then, kept_last, grown_then, grown_last, refused_then}
use Rattle.c65_geneffect.specs.Placing.{value_waits_code, later_code}
use Rattle.c65_geneffect.proofs.Later.{later_lines}
use Rattle.c65_geneffect.proofs.effect.put_placed.Goals as goal

-- the labels of the right side come first

pub returns-in_ok-put_index-in-Later-clause-lines : goal.returns-in_ok-put_index-in-Later-clause-lines
returns-in_ok-put_index-in-Later-clause-lines c =
    let f = c.args.frame.now in
    let pushed = c.args.pushed in
    let a = typed_of c.args.a.now in
    let b = typed_of c.args.b.now in
    let same : index_uses a ≡ uses None a = rw c.in-Later.is at c.placing_of.ensures.free in
    rw (← c.placing_of.ensures.exact, c.in-Later.is) (later_lines c.put_later_value.result c.args.draft.now _ _ _ c.put_later_value.new.draft (expr_code f pushed c.args.draft.now.labels Value b) (value_waits_code c.in-Later.extent) (later_code c.in-Later.element c.in-Later.extent) (λ (k : ℕ). index_code f pushed k a) (index_uses a) (uses None a) (uses None b) (uses None (typed_of c.args.e.now)) same c.requires c.in_ok-put_expr-in-Later.ensures.lines c.in_ok-put_value_waits-in-Later.ensures.lines c.in_ok-put_index-in-Later.ensures.lines c.put_later_value.ensures.lines)

-- what the draft keeps

pub returns-in_err-leave_out-in-Read-clause-kept : goal.returns-in_err-leave_out-in-Read-clause-kept
returns-in_err-leave_out-in-Read-clause-kept c = refused_then c.from_residual-in_err-leave_out-in-Read.result (grown_then _ _ _ _ _ c.in_ok-put_index-in-Read.ensures.lines c.in_err-leave_out-in-Read.ensures.kept)

pub returns-in_ok-leave_out-in-Read-clause-kept : goal.returns-in_ok-leave_out-in-Read-clause-kept
returns-in_ok-leave_out-in-Read-clause-kept c = grown_last _ _ _ _ _ _ c.in_ok-put_index-in-Read.ensures.lines (grown_last _ _ _ _ _ _ c.in_ok-leave_out-in-Read.ensures.lines c.put_read.ensures.kept)

pub returns-in_err-put_expr-in-Behind-clause-kept : goal.returns-in_err-put_expr-in-Behind-clause-kept
returns-in_err-put_expr-in-Behind-clause-kept c = refused_then c.from_residual-in_err-put_expr-in-Behind.result (grown_then _ _ _ _ _ c.in_ok-leave_sum-in-Behind.ensures.lines c.in_err-put_expr-in-Behind.ensures.kept)

pub returns-in_ok-put_expr-in-Behind-clause-kept : goal.returns-in_ok-put_expr-in-Behind-clause-kept
returns-in_ok-put_expr-in-Behind-clause-kept c = grown_last _ _ _ _ _ _ c.in_ok-leave_sum-in-Behind.ensures.lines (grown_last _ _ _ _ _ _ c.in_ok-put_expr-in-Behind.ensures.lines c.put_behind_value.ensures.kept)

pub returns-in_err-put_index_waits-in-Held-clause-kept : goal.returns-in_err-put_index_waits-in-Held-clause-kept
returns-in_err-put_index_waits-in-Held-clause-kept c = refused_then c.from_residual-in_err-put_index_waits-in-Held.result (grown_then _ _ _ _ _ c.in_ok-put_index-in-Held.ensures.lines c.in_err-put_index_waits-in-Held.ensures.kept)

pub returns-in_err-put_expr-in-Held-clause-kept : goal.returns-in_err-put_expr-in-Held-clause-kept
returns-in_err-put_expr-in-Held-clause-kept c = refused_then c.from_residual-in_err-put_expr-in-Held.result (grown_then _ _ _ _ _ c.in_ok-put_index-in-Held.ensures.lines (kept_then _ _ _ _ c.in_ok-put_index_waits-in-Held.ensures.lines c.in_err-put_expr-in-Held.ensures.kept))

pub returns-in_ok-put_expr-in-Held-clause-kept : goal.returns-in_ok-put_expr-in-Held-clause-kept
returns-in_ok-put_expr-in-Held-clause-kept c = grown_last _ _ _ _ _ _ c.in_ok-put_index-in-Held.ensures.lines (kept_last _ _ _ _ _ c.in_ok-put_index_waits-in-Held.ensures.lines (grown_last _ _ _ _ _ _ c.in_ok-put_expr-in-Held.ensures.lines c.put_held_value.ensures.kept))

pub returns-in_err-put_value_waits-in-Later-clause-kept : goal.returns-in_err-put_value_waits-in-Later-clause-kept
returns-in_err-put_value_waits-in-Later-clause-kept c = refused_then c.from_residual-in_err-put_value_waits-in-Later.result (grown_then _ _ _ _ _ c.in_ok-put_expr-in-Later.ensures.lines c.in_err-put_value_waits-in-Later.ensures.kept)

pub returns-in_err-put_index-in-Later-clause-kept : goal.returns-in_err-put_index-in-Later-clause-kept
returns-in_err-put_index-in-Later-clause-kept c = refused_then c.from_residual-in_err-put_index-in-Later.result (grown_then _ _ _ _ _ c.in_ok-put_expr-in-Later.ensures.lines (kept_then _ _ _ _ c.in_ok-put_value_waits-in-Later.ensures.lines c.in_err-put_index-in-Later.ensures.kept))

pub returns-in_ok-put_index-in-Later-clause-kept : goal.returns-in_ok-put_index-in-Later-clause-kept
returns-in_ok-put_index-in-Later-clause-kept c = grown_last _ _ _ _ _ _ c.in_ok-put_expr-in-Later.ensures.lines (kept_last _ _ _ _ _ c.in_ok-put_value_waits-in-Later.ensures.lines (grown_last _ _ _ _ _ _ c.in_ok-put_index-in-Later.ensures.lines c.put_later_value.ensures.kept))
