use Rattle.c65_csem.specs.Views.{stmt_of}
use Rattle.c65_init.proofs.PartLaws.{unnamed_behind}
use Rattle.c65_init.proofs.function.with_unnamed.Goals as goal

pub returns-in_ok-extend_from_slice-in-Block : goal.returns-in_ok-extend_from_slice-in-Block
returns-in_ok-extend_from_slice-in-Block c =
    unnamed_behind c.args.unnamed.now c.args.body c.in-Block.objects c.extend_from_slice.new.self c.in-Block.stmts (stmt_of c.block.result) c.in-Block.is c.in_ok-extend_from_slice-in-Block.ensures.items c.block.ensures
