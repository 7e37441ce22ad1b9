-- Each of the rules leads on as before.
use Rattle.std.proofs.Common.{◌≡◌, ℕ, ◌+◌, List, [], ◌∷◌, drop, Some}
use Rattle.std.specs.Prelude.{slice_get}
use Rattle.c65_code.specs.declared.line.Line.{Line}
use Rattle.c65_code.specs.LineState.{State}
use Rattle.c65_code.specs.Placement.{Setting}
use Rattle.c65_live.specs.Samples.{DeadIsNotLive}
use Rattle.c65_live.specs.Tables.{Table, live_after}
use Rattle.c65_pass.specs.ArithRules.{is_idle_carry, is_dead_carry, is_idle_compare, idle_compare, is_dead_compare, is_idle_mask, is_stepped_back, stepped_back, is_idle_sum, joined_masks, joined, is_dead_arithmetic}
use Rattle.c65_pass.specs.Rewriting.{Rewriting}
use Rattle.c65_optarith_law.specs.Straight.{IsKept}
use Rattle.c65_optarith_law.proofs.Windows.{IsOwed, at_line, gone_kept, alone_kept, both_gone_kept, instead_kept}
use Rattle.c65_optarith_law.proofs.Carries.{idle_carry_agrees, dead_carry_agrees, idle_sum_agrees}
use Rattle.c65_optarith_law.proofs.Compares.{idle_compare_agrees, dead_compare_agrees}
use Rattle.c65_optarith_law.proofs.Masks.{idle_mask_agrees, joined_leads}
use Rattle.c65_optarith_law.proofs.Counts.{stepped_back_agrees, dead_arithmetic_agrees}

pub idle_carry_kept : IsKept 24
idle_carry_kept s literals noted table at w t u m so =
    let known = slice_get noted.notes at in
    at_line 24 literals noted table at w s t u (λ line post e k. gone_kept s noted.lines table at t u line post w (is_idle_carry known line) e (λ h step. idle_carry_agrees known s line (live_after table at) t u h so step) k) m

joined_is_owed : (s : Setting) (lines : List Line) (table : Table) (at : ℕ) (w : Rewriting) (t u : State) (line : Line) (post : List Line) → drop at lines ≡ line ∷ post
    → joined at line post ≡ Some w → IsOwed s lines table at t u w
joined_is_owed s lines table at w t u line [] e k = absurd cc
joined_is_owed s lines table at w t u line (next ∷ post) e k =
    instead_kept s lines table at t u line next post w (joined_masks line next) e (λ l is m first second. joined_leads s (live_after table (at + 1)) t m u line next l is first second) k

pub joined_kept : IsKept 31
joined_kept s literals noted table at w t u m so = at_line 31 literals noted table at w s t u (λ line post e k. joined_is_owed s noted.lines table at w t u line post e k) m

module _ (dead : DeadIsNotLive) where
  pub dead_carry_kept : IsKept 25
  dead_carry_kept s literals noted table at w t u m so =
      at_line 25 literals noted table at w s t u (λ line post e k. gone_kept s noted.lines table at t u line post w (is_dead_carry table at line) e (λ h step. dead_carry_agrees dead table at s t u line h step) k) m

  idle_compare_is_owed : (s : Setting) (lines : List Line) (table : Table) (at : ℕ) (w : Rewriting) (t u : State) (line : Line) (post : List Line) → drop at lines ≡ line ∷ post
      → idle_compare table at line post ≡ Some w → IsOwed s lines table at t u w
  idle_compare_is_owed s lines table at w t u line [] e k = absurd cc
  idle_compare_is_owed s lines table at w t u line (next ∷ post) e k =
      alone_kept s lines table at t u line next post w (is_idle_compare table (at + 1) line next) e (λ h m first second. idle_compare_agrees dead table (at + 1) s line next t m u h first second) k

  pub idle_compare_kept : IsKept 26
  idle_compare_kept s literals noted table at w t u m so = at_line 26 literals noted table at w s t u (λ line post e k. idle_compare_is_owed s noted.lines table at w t u line post e k) m

  pub dead_compare_kept : IsKept 27
  dead_compare_kept s literals noted table at w t u m so =
      at_line 27 literals noted table at w s t u (λ line post e k. gone_kept s noted.lines table at t u line post w (is_dead_compare table at line) e (λ h step. dead_compare_agrees dead table at s line t u h step) k) m

  pub idle_mask_kept : IsKept 28
  idle_mask_kept s literals noted table at w t u m so =
      at_line 28 literals noted table at w s t u (λ line post e k. gone_kept s noted.lines table at t u line post w (is_idle_mask table at line) e (λ h step. idle_mask_agrees dead table at s t u line h step) k) m

  stepped_back_is_owed : (s : Setting) (lines : List Line) (table : Table) (at : ℕ) (w : Rewriting) (t u : State) (line : Line) (post : List Line) → drop at lines ≡ line ∷ post
      → stepped_back table at line post ≡ Some w → IsOwed s lines table at t u w
  stepped_back_is_owed s lines table at w t u line [] e k = absurd cc
  stepped_back_is_owed s lines table at w t u line (next ∷ post) e k =
      both_gone_kept s lines table at t u line next post w (is_stepped_back table (at + 1) line next) e (λ h m first second. stepped_back_agrees dead table (at + 1) s line next t m u h first second) k

  pub stepped_back_kept : IsKept 29
  stepped_back_kept s literals noted table at w t u m so = at_line 29 literals noted table at w s t u (λ line post e k. stepped_back_is_owed s noted.lines table at w t u line post e k) m

  pub idle_sum_kept : IsKept 30
  idle_sum_kept s literals noted table at w t u m so =
      let known = slice_get noted.notes at in
      at_line 30 literals noted table at w s t u (λ line post e k. gone_kept s noted.lines table at t u line post w (is_idle_sum known table at line) e (λ h step. idle_sum_agrees dead known table at s t u so line h step) k) m

  pub dead_arithmetic_kept : IsKept 32
  dead_arithmetic_kept s literals noted table at w t u m so =
      at_line 32 literals noted table at w s t u (λ line post e k. gone_kept s noted.lines table at t u line post w (is_dead_arithmetic table at line) e (λ h step. dead_arithmetic_agrees dead table at s t u line h step) k) m
