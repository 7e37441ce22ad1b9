-- Each of the rules keeps what rewritings keep.
use Rattle.std.proofs.Common.{◌≡◌, ℕ, ◌+◌, List, [], ◌∷◌, drop, Some}
use Rattle.std.specs.Prelude.{slice_get}
use Rattle.c65_code.specs.declared.line.Line.{Line}
use Rattle.c65_code.specs.declared.line.Sym.{Sym}
use Rattle.c65_code.specs.Segments.{IsSegment}
use Rattle.c65_live.specs.Tables.{Table}
use Rattle.c65_pass.specs.ArithRules.{is_idle_carry, is_dead_carry, is_idle_compare, is_dead_compare, is_idle_mask, is_stepped_back, is_idle_sum, is_dead_arithmetic, joined_masks, idle_compare, stepped_back, joined}
use Rattle.c65_pass.specs.Passes.{IsGood}
use Rattle.c65_pass.specs.Rounds.{IsRuleOf, AreGood}
use Rattle.c65_pass.specs.Rewriting.{Rewriting, Keeps}
use Rattle.c65_pass.proofs.Replaced.{gone_keeps, first_keeps, both_keeps}
use Rattle.c65_pass.proofs.Places.{at_line}
use Rattle.c65_pass.proofs.Turns.{good_one, good_more}
use Rattle.c65_optarith.proofs.Pairs.{both_gone_keeps, joined_both}
use Rattle.c65_optarith.proofs.Quiet.{idle_carry_quiet, dead_carry_quiet, idle_compare_quiet, dead_compare_quiet, idle_mask_quiet, stepped_back_quiet, idle_sum_quiet, dead_arithmetic_quiet}

idle_carry_good : (literals : List (Sym × List ℕ)) → IsGood 24 literals
idle_carry_good literals noted table at w s notes live m =
    at_line 24 literals noted table at w (λ line post e k. gone_keeps noted.lines at line post w (is_idle_carry (slice_get noted.notes at) line) e s (idle_carry_quiet (slice_get noted.notes at) line) k) m

dead_carry_good : (literals : List (Sym × List ℕ)) → IsGood 25 literals
dead_carry_good literals noted table at w s notes live m =
    at_line 25 literals noted table at w (λ line post e k. gone_keeps noted.lines at line post w (is_dead_carry table at line) e s (dead_carry_quiet table at line) k) m

idle_compare_keeps : (lines : List Line) (table : Table) (at : ℕ) (line : Line) (post : List Line) (w : Rewriting) → drop at lines ≡ line ∷ post → IsSegment lines → idle_compare table at line post ≡ Some w → Keeps lines w
idle_compare_keeps lines table at line [] w e s k = absurd cc
idle_compare_keeps lines table at line (next ∷ post) w e s k = first_keeps lines at line next post w (is_idle_compare table (at + 1) line next) e s (idle_compare_quiet table (at + 1) line next) k

idle_compare_good : (literals : List (Sym × List ℕ)) → IsGood 26 literals
idle_compare_good literals noted table at w s notes live m = at_line 26 literals noted table at w (λ line post e k. idle_compare_keeps noted.lines table at line post w e s k) m

dead_compare_good : (literals : List (Sym × List ℕ)) → IsGood 27 literals
dead_compare_good literals noted table at w s notes live m =
    at_line 27 literals noted table at w (λ line post e k. gone_keeps noted.lines at line post w (is_dead_compare table at line) e s (dead_compare_quiet table at line) k) m

idle_mask_good : (literals : List (Sym × List ℕ)) → IsGood 28 literals
idle_mask_good literals noted table at w s notes live m =
    at_line 28 literals noted table at w (λ line post e k. gone_keeps noted.lines at line post w (is_idle_mask table at line) e s (idle_mask_quiet table at line) k) m

stepped_back_keeps : (lines : List Line) (table : Table) (at : ℕ) (line : Line) (post : List Line) (w : Rewriting) → drop at lines ≡ line ∷ post → IsSegment lines → stepped_back table at line post ≡ Some w → Keeps lines w
stepped_back_keeps lines table at line [] w e s k = absurd cc
stepped_back_keeps lines table at line (next ∷ post) w e s k = both_gone_keeps lines at line next post w (is_stepped_back table (at + 1) line next) e s (stepped_back_quiet table (at + 1) line next) k

stepped_back_good : (literals : List (Sym × List ℕ)) → IsGood 29 literals
stepped_back_good literals noted table at w s notes live m = at_line 29 literals noted table at w (λ line post e k. stepped_back_keeps noted.lines table at line post w e s k) m

idle_sum_good : (literals : List (Sym × List ℕ)) → IsGood 30 literals
idle_sum_good literals noted table at w s notes live m =
    at_line 30 literals noted table at w (λ line post e k. gone_keeps noted.lines at line post w (is_idle_sum (slice_get noted.notes at) table at line) e s (idle_sum_quiet (slice_get noted.notes at) table at line) k) m

joined_keeps : (lines : List Line) (at : ℕ) (line : Line) (post : List Line) (w : Rewriting) → drop at lines ≡ line ∷ post → IsSegment lines → joined at line post ≡ Some w → Keeps lines w
joined_keeps lines at line [] w e s k = absurd cc
joined_keeps lines at line (next ∷ post) w e s k = both_keeps lines at line next post w (joined_masks line next) e s (joined_both line next) k

joined_good : (literals : List (Sym × List ℕ)) → IsGood 31 literals
joined_good literals noted table at w s notes live m = at_line 31 literals noted table at w (λ line post e k. joined_keeps noted.lines at line post w e s k) m

dead_arithmetic_good : (literals : List (Sym × List ℕ)) → IsGood 32 literals
dead_arithmetic_good literals noted table at w s notes live m =
    at_line 32 literals noted table at w (λ line post e k. gone_keeps noted.lines at line post w (is_dead_arithmetic table at line) e s (dead_arithmetic_quiet table at line) k) m

pub arith_good : AreGood (IsRuleOf 24 32)
arith_good =
    let to_24 = good_one 24 (idle_carry_good []) in
    let to_25 = good_more 24 24 to_24 (dead_carry_good []) in
    let to_26 = good_more 24 25 to_25 (idle_compare_good []) in
    let to_27 = good_more 24 26 to_26 (dead_compare_good []) in
    let to_28 = good_more 24 27 to_27 (idle_mask_good []) in
    let to_29 = good_more 24 28 to_28 (stepped_back_good []) in
    let to_30 = good_more 24 29 to_29 (idle_sum_good []) in
    let to_31 = good_more 24 30 to_30 (joined_good []) in
    good_more 24 31 to_31 (dead_arithmetic_good [])
