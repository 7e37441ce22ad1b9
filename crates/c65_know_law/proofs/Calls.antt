-- What a note says after a call of a routine.
use Rattle.std.proofs.Common.{◌≡◌, ℕ, ◌/◌, ◌%◌, ◌<◌, Bool, true, false, List, [], ◌∷◌, Option, Some, None, refl, sym, subst, ap, ◌∙◌, arith}
use Rattle.c65_base.specs.declared.library.Library.{Library}
use Rattle.c65_base.specs.declared.library.Library.TheVariants.{Getchar, Memcpy, Strcpy, Printf}
use Rattle.c65_code.specs.declared.parts.Part.{Part}
use Rattle.c65_code.specs.declared.parts.Part.TheVariants.{A, X, Y, Zp, N, V, Z, C}
use Rattle.c65_code.specs.declared.parts.RegSet.{RegSet}
use Rattle.c65_code.specs.declared.routine.Width.{Width}
use Rattle.c65_code.specs.declared.routine.Width.TheVariants.{Ax, Eax}
use Rattle.c65_code.specs.declared.routine.Routine.{Routine}
use Rattle.c65_code.specs.declared.routine.Routine.TheVariants as routines
use Rattle.c65_code.specs.Effects.{routine_sets}
use Rattle.c65_code.specs.LineState.{State, ax_of, Same, IsBytes}
use Rattle.c65_code.specs.Moves.{MeetsRow}
use Rattle.c65_code.specs.Parts.{has_part}
use Rattle.c65_code.specs.Numbers.{result_width, tos_result, unary_width, unary_result}
use Rattle.c65_code.specs.Rows.{Row, row_by, giving, giving_if, costing, popping, tos_cost, size_of, number_at, primary_of, read_row, print_row, printed_of, check_row, is_too_deep, library_row, row_of}
use Rattle.c65_know.specs.declared.note.Note.{Note}
use Rattle.c65_know.specs.Notes.{forgetting}
use Rattle.c65_know.specs.Rows.{with_constants}
use Rattle.c65_know_law.specs.Truth.{IsAs, IsNoted}
use Rattle.c65_know_law.proofs.Truths.{unless_as}

-- what a row may change at all, unless it ends the run
abbrev pub ChangesAs : RegSet → Option Row → Type 0
ChangesAs sets None = Unit {0}
ChangesAs sets (Some row) = row.ends ≡ None → row.changes ≡ sets

pub giving_changes : (width : Width) (v : ℕ) (row : Row) → (giving width v row).changes ≡ row.changes
giving_changes Ax v row = refl
giving_changes Eax v row = refl

pub giving_if_changes : (width : Width) (v : Option ℕ) (row : Row) → (giving_if width v row).changes ≡ row.changes
giving_if_changes width None row = refl
giving_if_changes width (Some v) row = giving_changes width v row

pub read_changes : (input : List ℕ) (t : State) (row : Row) → (read_row input t row).changes ≡ row.changes
read_changes [] t row = refl
read_changes (v ∷ input) t row = refl

print_changes : (t : State) (text : Option (List ℕ)) (row : Row) → (print_row t text row).changes ≡ row.changes
print_changes t None row = refl
print_changes t (Some text) row = refl

check_changes : (deep : Bool) (row : Row) → (check_row deep row).ends ≡ None → (check_row deep row).changes ≡ row.changes
check_changes true row e = absurd (cc)
check_changes false row e = refl

library_changes : (f : Library) (t : State) (row : Row) → row.changes ≡ routine_sets (routines.Library f) → (library_row f t row).changes ≡ routine_sets (routines.Library f)
library_changes Getchar t row e = read_changes t.input t row ∙ e
library_changes Printf t row e = print_changes t (printed_of t) row ∙ e
library_changes Memcpy t row e = refl
library_changes Strcpy t row e = refl
library_changes _ t row e = e

rows_change : (r : Routine) (t : State) → ChangesAs (routine_sets r) (row_of r t)
rows_change (routines.Tos op width) t = λ e. giving_if_changes (result_width op width) (tos_result op width (number_at width t.mem _) (primary_of width t)) (costing (tos_cost op) (popping (size_of width) t (row_by (routines.Tos op width) t)))
rows_change (routines.Unary op width) t = λ e. giving_changes (unary_width op width) (unary_result op width (primary_of width t)) (costing 256 (row_by (routines.Unary op width) t))
rows_change routines.StkChk t = λ e. check_changes (is_too_deep t) (costing 256 (row_by routines.StkChk t)) e
rows_change (routines.Library f) t = λ e. library_changes f t (costing 256 (row_by (routines.Library f) t)) refl
rows_change routines.CallPtr4 t = tt
rows_change routines.Start t = tt
rows_change routines.StartArgs t = tt
rows_change routines.HookOpen t = tt
rows_change routines.HookClose t = tt
rows_change routines.HookRead t = tt
rows_change routines.HookWrite t = tt
rows_change routines.HookArgs t = tt
rows_change routines.HookExit t = tt
rows_change _ t = λ e. refl

-- what a routine may not change is as it was
pub kept_by : (r : Routine) (t u : State) → MeetsRow (row_of r t) t u → u.ended ≡ None → (p : Part) → has_part (routine_sets r) p ≡ false → Same p t u
kept_by r t u m running p h = by (row_of r t) (rows_change r t) m
  where
    by : (o : Option Row) → ChangesAs (routine_sets r) o → MeetsRow o t u → Same p t u
    by None c d = absurd d
    by (Some row) c d = d.kept p (ap (λ (s : RegSet). has_part s p) (c (sym d.ended ∙ running)) ∙ h)

forgotten : (s : RegSet) (n : Note) (t u : State) → IsNoted n t → ((p : Part) → has_part s p ≡ false → Same p t u) → IsNoted (forgetting s n) u
forgotten s n t u h kept = record {
  a = unless_as (has_part s A) n.a u.regs.a (λ e. subst (IsAs n.a) (kept A e) h.a);
  x = unless_as (has_part s X) n.x u.regs.x (λ e. subst (IsAs n.x) (kept X e) h.x);
  y = unless_as (has_part s Y) n.y u.regs.y (λ e. subst (IsAs n.y) (kept Y e) h.y);
  s0 = unless_as (has_part s (Zp 2)) n.s0 (u.zp 2) (λ e. subst (IsAs n.s0) (kept (Zp 2) e) h.s0);
  s1 = unless_as (has_part s (Zp 3)) n.s1 (u.zp 3) (λ e. subst (IsAs n.s1) (kept (Zp 3) e) h.s1);
  p0 = unless_as (has_part s (Zp 8)) n.p0 (u.zp 8) (λ e. subst (IsAs n.p0) (kept (Zp 8) e) h.p0);
  p1 = unless_as (has_part s (Zp 9)) n.p1 (u.zp 9) (λ e. subst (IsAs n.p1) (kept (Zp 9) e) h.p1);
  t1 = unless_as (has_part s (Zp 16)) n.t1 (u.zp 16) (λ e. subst (IsAs n.t1) (kept (Zp 16) e) h.t1);
  n = unless_as (has_part s N) n.n u.regs.n (λ e. subst (IsAs n.n) (kept N e) h.n);
  v = unless_as (has_part s V) n.v u.regs.v (λ e. subst (IsAs n.v) (kept V e) h.v);
  z = unless_as (has_part s Z) n.z u.regs.z (λ e. subst (IsAs n.z) (kept Z e) h.z);
  c = unless_as (has_part s C) n.c u.regs.c (λ e. subst (IsAs n.c) (kept C e) h.c);
}

with_x : (n : Note) (v : ℕ) (u : State) → IsNoted n u → v ≡ u.regs.x → IsNoted (record n { x = Some v }) u
with_x n v u h e = record { a = h.a; x = e; y = h.y; s0 = h.s0; s1 = h.s1; p0 = h.p0; p1 = h.p1; t1 = h.t1; n = h.n; v = h.v; z = h.z; c = h.c }

with_ax : (n : Note) (v w : ℕ) (u : State) → IsNoted n u → v ≡ u.regs.a → w ≡ u.regs.x → IsNoted (record n { a = Some v; x = Some w }) u
with_ax n v w u h d e = record { a = d; x = e; y = h.y; s0 = h.s0; s1 = h.s1; p0 = h.p0; p1 = h.p1; t1 = h.t1; n = h.n; v = h.v; z = h.z; c = h.c }

no_high : (v : ℕ) → v < 256 → 0 ≡ v / 256 % 256
no_high v h = omega arith

constants : (r : Routine) (n : Note) (t u : State) → IsBytes t → MeetsRow (row_of r t) t u → IsNoted n u → IsNoted (with_constants r n) u
constants routines.PushA0 n t u bytes m h = with_x n 0 u h (sym m.x)
constants routines.LdAi n t u bytes m h = with_x n 0 u h (no_high (t.mem (ax_of t)) (bytes.mem (ax_of t)) ∙ sym m.x)
constants routines.Push0 n t u bytes m h = with_ax n 0 0 u h (sym m.a) (sym m.x)
constants _ n t u bytes m h = h

pub call_kept : (r : Routine) (n : Note) (t u : State) → IsBytes t → IsNoted n t → MeetsRow (row_of r t) t u → u.ended ≡ None → IsNoted (with_constants r (forgetting (routine_sets r) n)) u
call_kept r n t u bytes h m running = constants r (forgetting (routine_sets r) n) t u bytes m (forgotten (routine_sets r) n t u h (kept_by r t u m running))
