use Rattle.std.proofs.Common.{◌≡◌, ◌++◌, subst}
use Rattle.std.specs.Prelude.{OnOk}
use Rattle.c65_csem_check.proofs.CodeLaws.{block_cases}
use Rattle.c65_csem_check.proofs.labels.+cases.Goals as goal

pub add_cases-returns-in-Block : goal.add_cases-returns-in-Block
add_cases-returns-in-Block t c =
    subst (λ ls. OnOk c.add_cases_in.result (c.add_cases_in.new.cases.items ≡ c.args.cases.now.items ++ ls)) (block_cases c.args.stmt.now c.in-Block.field-0 c.in-Block.stmts c.deref.result.now c.in-Block.is c.deref.ensures.value) c.add_cases_in.ensures
