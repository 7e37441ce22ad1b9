-- Each of the rules keeps what rewritings keep.
use Rattle.std.proofs.Common.{ℕ, List, []}
use Rattle.std.specs.Prelude.{slice_get}
use Rattle.c65_code.specs.declared.line.Sym.{Sym}
use Rattle.c65_pass.specs.Passes.{IsGood}
use Rattle.c65_pass.specs.Rounds.{IsRuleOf, AreGood}
use Rattle.c65_pass.proofs.Places.{at_line}
use Rattle.c65_pass.proofs.Turns.{good_one, good_more}
use Rattle.c65_optflow.proofs.Rules.{idle_jump_keeps, idle_branch_keeps, unreached_keeps, long_jump_keeps, long_branch_keeps, round_branch_keeps, passed_branch_keeps, passed_over_keeps}
use Rattle.c65_optflow.proofs.Unused.{unused_label_keeps}

idle_jump_good : (literals : List (Sym × List ℕ)) → IsGood 1 literals
idle_jump_good literals noted table at w s notes live m = at_line 1 literals noted table at w (λ line post e k. idle_jump_keeps noted.lines at line post w e s k) m

idle_branch_good : (literals : List (Sym × List ℕ)) → IsGood 2 literals
idle_branch_good literals noted table at w s notes live m = at_line 2 literals noted table at w (λ line post e k. idle_branch_keeps noted.lines at line post w e s k) m

unreached_good : (literals : List (Sym × List ℕ)) → IsGood 3 literals
unreached_good literals noted table at w s notes live m = at_line 3 literals noted table at w (λ line post e k. unreached_keeps noted.lines at line post w e s k) m

long_jump_good : (literals : List (Sym × List ℕ)) → IsGood 4 literals
long_jump_good literals noted table at w s notes live m = at_line 4 literals noted table at w (λ line post e k. long_jump_keeps noted.lines at line post w e s k) m

long_branch_good : (literals : List (Sym × List ℕ)) → IsGood 5 literals
long_branch_good literals noted table at w s notes live m = at_line 5 literals noted table at w (λ line post e k. long_branch_keeps noted.lines at line post w e s k) m

round_branch_good : (literals : List (Sym × List ℕ)) → IsGood 6 literals
round_branch_good literals noted table at w s notes live m = at_line 6 literals noted table at w (λ line post e k. round_branch_keeps noted.lines at line post w e s k) m

unused_label_good : (literals : List (Sym × List ℕ)) → IsGood 7 literals
unused_label_good literals noted table at w s notes live m = at_line 7 literals noted table at w (λ line post e k. unused_label_keeps noted.lines at line post w e s k) m

passed_branch_good : (literals : List (Sym × List ℕ)) → IsGood 8 literals
passed_branch_good literals noted table at w s notes live m = at_line 8 literals noted table at w (λ line post e k. passed_branch_keeps noted.lines (slice_get noted.notes at) at line post w e s k) m

passed_over_good : (literals : List (Sym × List ℕ)) → IsGood 9 literals
passed_over_good literals noted table at w s notes live m = at_line 9 literals noted table at w (λ line post e k. passed_over_keeps noted.lines (slice_get noted.notes at) at line post w e s k) m

pub flow_good : AreGood (IsRuleOf 1 9)
flow_good =
    let to_1 = good_one 1 (idle_jump_good []) in
    let to_2 = good_more 1 1 to_1 (idle_branch_good []) in
    let to_3 = good_more 1 2 to_2 (unreached_good []) in
    let to_4 = good_more 1 3 to_3 (long_jump_good []) in
    let to_5 = good_more 1 4 to_4 (long_branch_good []) in
    let to_6 = good_more 1 5 to_5 (round_branch_good []) in
    let to_7 = good_more 1 6 to_6 (unused_label_good []) in
    let to_8 = good_more 1 7 to_7 (passed_branch_good []) in
    good_more 1 8 to_8 (passed_over_good [])
