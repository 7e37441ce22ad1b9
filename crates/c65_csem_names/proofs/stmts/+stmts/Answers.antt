use Rattle.std.proofs.Common.{◌∙◌, ap, List, Bool}
use Rattle.c65_csem.specs.Views.{stmts_of, unit_of}
use Rattle.c65_csem_names.specs.Tests
use Rattle.c65_csem_names.proofs.CodeLaws.{block_stmt}
use Rattle.c65_csem_names.proofs.stmts.+stmts.Goals as goal

pub is_scoped-returns-in_ok-so-in-Block-clause-so : goal.is_scoped-returns-in_ok-so-in-Block-clause-so
is_scoped-returns-in_ok-so-in-Block-clause-so t c =
    let u = unit_of c.args.parts.now in
    c.in_ok-so-in-Block.ensures.so
    ∙ ap (λ (marks : List Bool). Tests.are_scoped u c.args.variadic marks (stmts_of c.deref-inner.result.now)) c.in_ok-fresh-in-Block.ensures.marks
    ∙ block_stmt u c.args.variadic c.args.marks.now.items c.args.stmt.now c.in-Block.objects c.in-Block.stmts c.deref-numbers.result.now c.deref-inner.result.now c.in-Block.is c.deref-numbers.ensures.value c.deref-inner.ensures.value
