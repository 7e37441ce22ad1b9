use Rattle.std.proofs.Common.{◌≡◌, ◌≤◌, ◌^◌, drop, max}
use Rattle.c65_csem.specs.Views.{stmts_of}
use Rattle.c65_genstmt.specs.Cases.{room_in}
use Rattle.c65_genstmt.proofs.cases.+rooms.Given as goal

abbrev pub invariant-room_in-loop-stmt : goal.invariant-room_in-loop-stmt
invariant-room_in-loop-stmt l = record {
  same : max l.room (room_in (stmts_of (drop l.stmt-index l.stmts))) ≡ room_in (stmts_of l.stmts);
  few : l.room ≤ 2 ^ 32;
}
