use Rattle.std.proofs.Common.{◌≡◌, ◌∙◌, rules, ap, sym, arith, length, map, Vec, Global, vec_len}
use Rattle.c65_csem.specs.declared.stmt.TStmt.{TStmt}
use Rattle.c65_csem.specs.Views.{stmt_of, stmts_of}
use Rattle.c65_init_join.specs.Numbers.{numbers_of}
use Rattle.c65_init_join.specs.Renumbered.{object_number, renumbered_stmt, renumbered_stmts}
use Rattle.c65_init_join.proofs.RenumberLaws.{all_stmts_renumbered, block_renumbered}
use Rattle.c65_init_join.proofs.renumber.+stmts.Goals as goal

pub returns-after-loop-i : goal.returns-after-loop-i
returns-after-loop-i t c =
    let ns = numbers_of c.args.numbers.now in
    let these : c.renumber_objects.new.objects.items ≡ map (object_number ns) c.in-Block.objects.items = search rules in
    let long = ap (λ (v : Vec TStmt Global). length v.items) c.in-Block.stmts-is in
    let wide = ap (λ (v : Vec TStmt Global). vec_len v) c.in-Block.stmts-is in
    let all = all_stmts_renumbered ns c.loop-i.stmts.items _ c.loop-i.invariant.unvisited.0 (λ k d below. c.loop-i.invariant.done k d (omega (arith, below, long, wide, c.loop-i-test.false, c.len-i-end.ensures))) in
    block_renumbered ns c.renumber_objects.new.objects c.in-Block.objects c.loop-i.stmts c.in-Block.stmts these (all ∙ ap (λ (v : Vec TStmt Global). renumbered_stmts ns (stmts_of v.items)) c.in-Block.stmts-is) ∙ sym (ap (λ (k : TStmt). renumbered_stmt ns (stmt_of k)) c.in-Block.is)
