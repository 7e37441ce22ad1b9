use Rattle.std.proofs.Common.{rules, ◌≡◌, ◌+◌, ◌-◌, ◌^◌, ◌<◌, ◌++◌, List, length, drop, ap, sym, subst, ◌∙◌, arith}
use Rattle.c65_code.specs.declared.line.Line.{Line}
use Rattle.c65_code.specs.Segments.{IsSegment}
use Rattle.c65_know.specs.Known.{annotated}
use Rattle.c65_pass.specs.Rounds.{Only, IsPassed}
use Rattle.c65_pass.proofs.Turns.{passed_early}
use Rattle.c65_optflow.specs.Unused.{used_lines}
use Rattle.c65_optflow.proofs.Dropped.{replaced_all, used_fewer, used_segment, passed_idle, passed_used, some_if}
use Rattle.c65_optflow.proofs.drop.drop_unused_labels.Goals as goal

pub returns-in_err-used : goal.returns-in_err-used
returns-in_err-used c = passed_early _ _ _ c.seg.ensures.kept (search rules) (search rules)

pub overflow_sub-dropped : goal.overflow_sub-dropped
overflow_sub-dropped c = omega (arith, c.len.ensures, ap length c.in_ok-used.ensures, used_fewer c.lines-lines.result.now c.lines-lines.result.now)

pub returns-then-dropped-eq0 : goal.returns-then-dropped-eq0
returns-then-dropped-eq0 c =
    let lines = c.lines-lines.result.now in
    let is : lines ≡ c.args.code.now.lines = c.lines-lines.ensures.lines ∙ c.seg.ensures.lines in
    let short : length (used_lines lines lines) ≡ length lines = omega (arith, c.if-dropped-eq0.true, c.len.ensures, ap length c.in_ok-used.ensures, used_fewer lines lines) in
    passed_idle c.args.code.now c.seg.ensures.kept (subst (λ (ls : List Line). length (used_lines ls ls) ≡ length ls) is short)

pub replace-requires-clause-kept : goal.replace-requires-clause-kept
replace-requires-clause-kept c =
    let lines = c.lines-lines.result.now in
    let used = c.deref.result.now in
    let is : lines ≡ c.args.code.now.lines = c.lines-lines.ensures.lines ∙ c.seg.ensures.lines in
    let whole : used ++ drop (0 + length lines) c.args.code.now.lines ≡ used = subst (λ (ls : List Line). used ++ drop (0 + length lines) ls ≡ used) is (replaced_all lines used) in
    subst IsSegment (sym (whole ∙ (c.deref.ensures.value ∙ c.in_ok-used.ensures))) (used_segment c.args.code.now.out lines (subst IsSegment (sym is) c.seg.ensures.kept))

pub returns-in_err-replace : goal.returns-in_err-replace
returns-in_err-replace c = subst (λ new. IsPassed (Only 7) c.args.code.now new c.from_residual-in_err-replace.result) (sym c.in_err-replace.ensures.err) (passed_early _ _ _ c.seg.ensures.kept (search rules) (search rules))

pub returns : goal.returns
returns c =
    let lines = c.lines-lines.result.now in
    let used = c.deref.result.now in
    let is : lines ≡ c.args.code.now.lines = c.lines-lines.ensures.lines ∙ c.seg.ensures.lines in
    let whole : used ++ drop (0 + length lines) c.args.code.now.lines ≡ used = subst (λ (ls : List Line). used ++ drop (0 + length lines) ls ≡ used) is (replaced_all lines used) in
    let made : used ++ drop (0 + length lines) c.args.code.now.lines ≡ used_lines c.args.code.now.lines c.args.code.now.lines =
    whole ∙ (c.deref.ensures.value ∙ (c.in_ok-used.ensures ∙ ap (λ (ls : List Line). used_lines ls ls) is)) in
    let count : (length lines - c.len.result) + length (used_lines lines lines) ≡ length lines = omega (arith, c.len.ensures, ap length c.in_ok-used.ensures, used_fewer lines lines) in
    let long : length lines < 2 ^ 64 = search rules in
    passed_used c.args.code.now c.replace.new.self (length lines - c.len.result) c.seg.ensures.kept (c.in_ok-replace.ensures.ok ∙ ap (λ (ls : List Line). annotated ls c.args.code.now.out) made)
    (subst (λ (ls : List Line). (length lines - c.len.result) + length (used_lines ls ls) ≡ length ls) is count)
    (some_if (length lines - c.len.result) c.if-dropped-eq0.false)
    (subst (λ (ls : List Line). length ls < 2 ^ 64) is long)
