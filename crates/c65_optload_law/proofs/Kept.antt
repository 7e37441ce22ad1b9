-- Each of the rules leads on as before.
use Rattle.std.proofs.Common.{◌≡◌, ℕ, ◌+◌, ◌-◌, Bool, true, false, List, [], ◌∷◌, Option, Some, None, refl, subst, arith}
use Rattle.std.specs.Prelude.{slice_get, take, drop}
use Rattle.c65_code.specs.declared.line.Line.{Line}
use Rattle.c65_code.specs.LineState.{State}
use Rattle.c65_code.specs.Placement.{Setting}
use Rattle.c65_live.specs.Samples.{DeadIsNotLive}
use Rattle.c65_live.specs.Tables.{Table, live_after}
use Rattle.c65_pass.specs.FlowRules.{alone_if}
use Rattle.c65_pass.specs.LoadRules.{instead, is_idle_load, is_dead_load, is_reload, is_restore, is_dead_transfer, is_idle_transfer, is_back, transferred, is_idle_byte_load, is_idle_store, stepped, is_overwritten, loaded_on, reload, restore, overwritten, back, moved_on}
use Rattle.c65_pass.specs.Rewriting.{Rewriting}
use Rattle.c65_optarith_law.specs.Straight.{Steps, Straight, done, by, Agree, IsKept}
use Rattle.c65_optarith_law.proofs.Windows.{IsOwed, at_line, one, two, gone_kept, alone_kept, instead_kept}
use Rattle.c65_optload_law.proofs.Loads.{dead_load_agrees, dead_transfer_agrees, idle_load_agrees, idle_transfer_agrees, idle_byte_load_agrees}
use Rattle.c65_optload_law.proofs.Places.{reload_agrees, restore_agrees, idle_store_agrees, back_agrees}
use Rattle.c65_optload_law.proofs.Made.{Leads, transferred_leads, stepped_leads}
use Rattle.c65_optload_law.proofs.Moved.{overwritten_leads, moved_on_leads}

-- one line in place of one
instead_one_kept : (s : Setting) (lines : List Line) (table : Table) (at : ℕ) (t u : State) (line : Line) (post : List Line) (w : Rewriting) (new : Option Line) → drop at lines ≡ line ∷ post
    → ((l : Line) → new ≡ Some l → Steps s line t u → Leads s (live_after table at) l t u) → instead 1 at new ≡ Some w → IsOwed s lines table at t u w
instead_one_kept s lines table at t u line post w None e owed m = absurd cc
instead_one_kept s lines table at t u line post w (Some l) e owed m =
    let is : record { at = at; count = 1; lines = l ∷ [] } ≡ w = cc in
    subst (IsOwed s lines table at t u) is (λ k.
    let q : at ≡ at + 1 - 1 = omega arith in
    let new = owed l refl (one (subst (λ ls. Straight s (take 1 ls) t u) e k)) in
    (new.0, by new.1 done, subst (λ i. Agree (live_after table i) u new.0) q new.2))

-- the second of two lines alone
last_kept : (s : Setting) (lines : List Line) (table : Table) (at : ℕ) (t u : State) (line next : Line) (post : List Line) (w : Rewriting) (b : Bool) → drop at lines ≡ line ∷ next ∷ post
    → (b ≡ true → (m : State) → Steps s line t m → Steps s next m u → Leads s (live_after table (at + 1)) next t u) → alone_if b at next ≡ Some w → IsOwed s lines table at t u w
last_kept s lines table at t u line next post w false e owed m = absurd cc
last_kept s lines table at t u line next post w true e owed m =
    let is : record { at = at; count = 2; lines = next ∷ [] } ≡ w = cc in
    subst (IsOwed s lines table at t u) is (λ k.
    let q : at + 1 ≡ at + 2 - 1 = omega arith in
    let both = two (subst (λ ls. Straight s (take 2 ls) t u) e k) in
    let new = owed refl both.0 both.1 both.2 in
    (new.0, by new.1 done, subst (λ i. Agree (live_after table i) u new.0) q new.2))

overwritten_is_owed : (s : Setting) (lines : List Line) (table : Table) (at : ℕ) (w : Rewriting) (t u : State) (line : Line) (post : List Line) → drop at lines ≡ line ∷ post → overwritten at line post ≡ Some w → IsOwed s lines table at t u w
overwritten_is_owed s lines table at w t u line [] e k = absurd cc
overwritten_is_owed s lines table at w t u line (next ∷ post) e k =
    last_kept s lines table at t u line next post w (is_overwritten line next) e (λ h m first second. overwritten_leads s (live_after table (at + 1)) line next t m u h first second) k

pub overwritten_kept : IsKept 15
overwritten_kept s literals noted table at w t u m so = at_line 15 literals noted table at w s t u (λ line post e k. overwritten_is_owed s noted.lines table at w t u line post e k) m

pub transferred_kept : IsKept 19
transferred_kept s literals noted table at w t u m so =
    let known = slice_get noted.notes at in
    at_line 19 literals noted table at w s t u (λ line post e k. instead_one_kept s noted.lines table at t u line post w (transferred known line) e (λ l is step. transferred_leads s (live_after table at) known line l t u is so step) k) m

pub stepped_kept : IsKept 22
stepped_kept s literals noted table at w t u m so =
    let known = slice_get noted.notes at in
    at_line 22 literals noted table at w s t u (λ line post e k. instead_one_kept s noted.lines table at t u line post w (stepped known line) e (λ l is step. stepped_leads s (live_after table at) known line l t u is so step) k) m

module _ (dead : DeadIsNotLive) where
  pub idle_load_kept : IsKept 10
  idle_load_kept s literals noted table at w t u m so =
      let known = slice_get noted.notes at in
      at_line 10 literals noted table at w s t u (λ line post e k. gone_kept s noted.lines table at t u line post w (is_idle_load known table at line) e (λ h step. idle_load_agrees dead table at s known line t u h so step) k) m

  pub dead_load_kept : IsKept 11
  dead_load_kept s literals noted table at w t u m so =
      at_line 11 literals noted table at w s t u (λ line post e k. gone_kept s noted.lines table at t u line post w (is_dead_load table at line) e (λ h step. dead_load_agrees dead table at s line t u h step) k) m

  reload_is_owed : (s : Setting) (lines : List Line) (table : Table) (at : ℕ) (w : Rewriting) (t u : State) (line : Line) (post : List Line) → drop at lines ≡ line ∷ post → reload table at line post ≡ Some w → IsOwed s lines table at t u w
  reload_is_owed s lines table at w t u line [] e k = absurd cc
  reload_is_owed s lines table at w t u line (next ∷ post) e k =
      alone_kept s lines table at t u line next post w (is_reload table (at + 1) line next) e (λ h m first second. reload_agrees dead table (at + 1) s line next t m u h first second) k

  pub reload_kept : IsKept 13
  reload_kept s literals noted table at w t u m so = at_line 13 literals noted table at w s t u (λ line post e k. reload_is_owed s noted.lines table at w t u line post e k) m

  restore_is_owed : (s : Setting) (lines : List Line) (table : Table) (at : ℕ) (w : Rewriting) (t u : State) (line : Line) (post : List Line) → drop at lines ≡ line ∷ post → restore at line post ≡ Some w → IsOwed s lines table at t u w
  restore_is_owed s lines table at w t u line [] e k = absurd cc
  restore_is_owed s lines table at w t u line (next ∷ post) e k =
      alone_kept s lines table at t u line next post w (is_restore line next) e (λ h m first second. restore_agrees dead table (at + 1) s line next t m u h first second) k

  pub restore_kept : IsKept 14
  restore_kept s literals noted table at w t u m so = at_line 14 literals noted table at w s t u (λ line post e k. restore_is_owed s noted.lines table at w t u line post e k) m

  pub dead_transfer_kept : IsKept 16
  dead_transfer_kept s literals noted table at w t u m so =
      at_line 16 literals noted table at w s t u (λ line post e k. gone_kept s noted.lines table at t u line post w (is_dead_transfer table at line) e (λ h step. dead_transfer_agrees dead table at s line t u h step) k) m

  pub idle_transfer_kept : IsKept 17
  idle_transfer_kept s literals noted table at w t u m so =
      let known = slice_get noted.notes at in
      at_line 17 literals noted table at w s t u (λ line post e k. gone_kept s noted.lines table at t u line post w (is_idle_transfer known table at line) e (λ h step. idle_transfer_agrees dead table at s known line t u h so step) k) m

  back_is_owed : (s : Setting) (lines : List Line) (table : Table) (at : ℕ) (w : Rewriting) (t u : State) (line : Line) (post : List Line) → drop at lines ≡ line ∷ post → back at line post ≡ Some w → IsOwed s lines table at t u w
  back_is_owed s lines table at w t u line [] e k = absurd cc
  back_is_owed s lines table at w t u line (next ∷ post) e k =
      alone_kept s lines table at t u line next post w (is_back line next) e (λ h m first second. back_agrees dead table (at + 1) s line next t m u h first second) k

  pub back_kept : IsKept 18
  back_kept s literals noted table at w t u m so = at_line 18 literals noted table at w s t u (λ line post e k. back_is_owed s noted.lines table at w t u line post e k) m

  pub idle_byte_load_kept : IsKept 20
  idle_byte_load_kept s literals noted table at w t u m so =
      let known = slice_get noted.notes at in
      at_line 20 literals noted table at w s t u (λ line post e k. gone_kept s noted.lines table at t u line post w (is_idle_byte_load known table at line) e (λ h step. idle_byte_load_agrees dead table at s known line t u h so step) k) m

  pub idle_store_kept : IsKept 21
  idle_store_kept s literals noted table at w t u m so =
      let known = slice_get noted.notes at in
      at_line 21 literals noted table at w s t u (λ line post e k. gone_kept s noted.lines table at t u line post w (is_idle_store known line) e (λ h step. idle_store_agrees dead table at s known line t u h so step) k) m

  moved_on_is_owed : (s : Setting) (lines : List Line) (table : Table) (at : ℕ) (w : Rewriting) (t u : State) (line : Line) (post : List Line) → drop at lines ≡ line ∷ post → moved_on table at line post ≡ Some w → IsOwed s lines table at t u w
  moved_on_is_owed s lines table at w t u line [] e k = absurd cc
  moved_on_is_owed s lines table at w t u line (next ∷ post) e k =
      instead_kept s lines table at t u line next post w (loaded_on table (at + 1) line next) e (λ l is m first second. moved_on_leads dead table (at + 1) s line next l t m u is first second) k

  pub moved_on_kept : IsKept 23
  moved_on_kept s literals noted table at w t u m so = at_line 23 literals noted table at w s t u (λ line post e k. moved_on_is_owed s noted.lines table at w t u line post e k) m
