-- Calls of routines from near states.
use Rattle.std.proofs.Common.{◌≡◌, ℕ, ◌+◌, ◌<◌, ◌≤◌, Bool, true, false, ◌||◌, ◌&&◌, not, ◌⊎◌, inl, inr, Option, Some, None, List, All, min, max, IsTrue, refl, sym, subst, ap, ◌∙◌, arith}
use Rattle.std.proofs.lemmas.Bool.{cases_lt}
use Rattle.c65_base.specs.declared.library.Library.{Library}
use Rattle.c65_base.specs.declared.library.Library.TheVariants.{Putchar, Getchar, Exit, Memcpy, Memset, Puts, Strlen, Strcmp, Strcpy, Printf}
use Rattle.c65_code.proofs.PartLaws.{has_part-union, has_part-minus, all_iff, within_iff}
use Rattle.c65_code.specs.declared.parts.Part.{Part}
use Rattle.c65_code.specs.declared.parts.Part.TheVariants.{Y, Zp}
use Rattle.c65_code.specs.declared.parts.RegSet.{RegSet}
use Rattle.c65_code.specs.declared.routine.Routine.{Routine}
use Rattle.c65_code.specs.declared.routine.Routine.TheVariants as routines
use Rattle.c65_code.specs.Effects.{only_a, sp_bytes, large, kept_at_calls, library_sets, routine_reads, routine_sets}
use Rattle.c65_code.specs.LineState.{State, sp_of, s_of, Same, IsBytes}
use Rattle.c65_code.specs.Moves.{MeetsRow}
use Rattle.c65_code.specs.Numbers.{result_width, tos_result, unary_width, unary_result}
use Rattle.c65_code.specs.Parts.{has_part, all_parts, union_of, minus_of, IsWithin}
use Rattle.c65_code.specs.Placement.{Placement, Setting, stack_start}
use Rattle.c65_code.specs.Rows.{Row, row_by, number_at, size_of, primary_of, costing, popping, tos_cost, is_too_deep, check_row, printed_of, print_row, row_of}
use Rattle.c65_code.specs.Steady.{IsOpen, IsCalm, HasRoom, RowHasRoom}
use Rattle.c65_code.specs.Weights.{row_cost}
use Rattle.c65_know_law.proofs.Calls.{giving_changes, giving_if_changes, read_changes}
use Rattle.c65_opt_law_near.proofs.Sets.{in_right, read_before, kept_before}
use Rattle.c65_opt_law_near.specs.Laws.{IsLow}
use Rattle.c65_opt_law_near.specs.Near.{before, Near}
use Rattle.c65_opt_law_rows.specs.Laws.{called, StaysNear, RoutinesStayNear, LibraryCallsStayNear}
use Rattle.c65_opt_law_rows.proofs.Copies.{copy_alike, memcpy_alike, memset_alike}
use Rattle.c65_opt_law_rows.proofs.Texts.{puts_alike, strlen_alike}
use Rattle.c65_opt_law_rows.proofs.Pairs.{strcmp_alike, strcpy_alike}
use Rattle.c65_opt_law_rows.proofs.Formats.{printf_alike}
use Rattle.c65_opt_law_rows.proofs.Mixed.{mixed, meets, mixed_bytes, near}
use Rattle.c65_opt_law_rows.proofs.Rows.{RowAlike, AlikeIf, rows_alike}

-- what a row may change is at least what its routine is said to set
abbrev CoverIf : RegSet → Option Row → Type 0
CoverIf sets None = Unit {0}
CoverIf sets (Some row) = (p : Part) → has_part row.changes p ≡ false → has_part sets p ≡ false

by_changes : (sets changes : RegSet) → changes ≡ sets → (p : Part) → has_part changes p ≡ false → has_part sets p ≡ false
by_changes sets changes e p h = ap (λ (s : RegSet). has_part s p) (sym e) ∙ h

check_cover : (deep : Bool) (row : Row) (p : Part) → has_part (check_row deep row).changes p ≡ false → has_part row.changes p ≡ false
check_cover true row p h = left (has_part row.changes p) (has_part only_a p) (sym (has_part-union row.changes only_a p) ∙ h)
  where
    left : (a b : Bool) → (a || b) ≡ false → a ≡ false
    left true b h = absurd (cc)
    left false b h = refl
check_cover false row p h = h

print_cover : (t : State) (o : Option (List ℕ)) (row : Row) → (print_row t o row).changes ≡ row.changes
print_cover t None row = refl
print_cover t (Some text) row = refl

cover : (r : Routine) (t : State) → CoverIf (routine_sets r) (row_of r t)
cover (routines.Tos op width) t = by_changes _ _ (giving_if_changes (result_width op width) (tos_result op width (number_at width t.mem (sp_of t)) (primary_of width t)) (costing (tos_cost op) (popping (size_of width) t (row_by (routines.Tos op width) t))))
cover (routines.Unary op width) t = by_changes _ _ (giving_changes (unary_width op width) (unary_result op width (primary_of width t)) (costing 256 (row_by (routines.Unary op width) t)))
cover routines.StkChk t = check_cover (is_too_deep t) (costing 256 (row_by routines.StkChk t))
cover (routines.Library Putchar) t = λ p h. h
cover (routines.Library Getchar) t = by_changes _ _ (read_changes t.input t (costing 256 (row_by (routines.Library Getchar) t)))
cover (routines.Library Exit) t = λ p h. h
cover (routines.Library Memcpy) t = λ p h. h
cover (routines.Library Memset) t = λ p h. h
cover (routines.Library Puts) t = λ p h. h
cover (routines.Library Strlen) t = λ p h. h
cover (routines.Library Strcmp) t = λ p h. h
cover (routines.Library Strcpy) t = λ p h. h
cover (routines.Library Printf) t = by_changes _ _ (print_cover t (printed_of t) (costing 256 (row_by (routines.Library Printf) t)))
cover routines.CallPtr4 t = tt
cover routines.Start t = tt
cover routines.StartArgs t = tt
cover routines.HookOpen t = tt
cover routines.HookClose t = tt
cover routines.HookRead t = tt
cover routines.HookWrite t = tt
cover routines.HookArgs t = tt
cover routines.HookExit t = tt
cover _ t = λ p h. h

room_same : (place : Placement) (row other : Row) (t u : State) → RowAlike row other t → sp_of t ≡ sp_of u → s_of t ≡ s_of u → HasRoom place row t → HasRoom place other u
room_same place row other t u alike sp se h = record {
  ready = subst IsTrue alike.ready h.ready;
  soft = subst (λ (x : ℕ). stack_start + 64 ≤ x) sp h.soft;
  hard = subst (λ (x : ℕ). 29 ≤ x) se h.hard;
  near = subst (All (IsOpen place (min (sp_of u) other.sp))) alike.close (subst (λ (x : ℕ). All (IsOpen place (min (sp_of u) x)) row.near) alike.same.sp (subst (λ (x : ℕ). All (IsOpen place (min x row.sp)) row.near) sp h.near));
  far = subst (All (IsOpen place (max (sp_of u) other.sp))) alike.far (subst (λ (x : ℕ). All (IsOpen place (max (sp_of u) x)) row.far) alike.same.sp (subst (λ (x : ℕ). All (IsOpen place (max x row.sp)) row.far) sp h.far));
}

module _ (s : Setting) (r : Routine) (after live : RegSet) (t u : State) (n : Near live t u) (sp : sp_of t ≡ sp_of u) (se : s_of t ≡ s_of u) (keeps : (p : Part) → has_part after p ≡ true → has_part (routine_sets r) p ≡ false → Same p t u) where
  answered_by : (o q : Option Row) → AlikeIf o q t → CoverIf (routine_sets r) o → (v w : State) → MeetsRow o t v → IsBytes v → stack_start ≤ sp_of v → MeetsRow q u w → IsBytes w → (x : State) × MeetsRow o t x × IsBytes x × Near after x w
  answered_by None q alike covers v w mv bv low mw bw = absurd mv
  answered_by (Some row) None alike covers v w mv bv low mw bw = absurd mw
  answered_by (Some row) (Some other) alike covers v w mv bv low mw bw =
      let kept : ((p : Part) → has_part after p ≡ true → has_part row.changes p ≡ false → Same p t u) = λ p h c. keeps p h (covers p c) in (
        mixed row other t u v w live after n mv mw bv bw low alike.same kept,
        meets row other t u v w live after n mv mw bv bw low alike.same kept,
        mixed_bytes row other t u v w live after n mv mw bv bw low alike.same kept,
        near row other t u v w live after n mv mw bv bw low alike.same kept,
      )

  room_by : (o q : Option Row) → AlikeIf o q t → RowHasRoom s.place o t → RowHasRoom s.place q u
  room_by None q alike h = absurd h
  room_by (Some row) None alike h = absurd alike
  room_by (Some row) (Some other) alike h = room_same s.place row other t u alike sp se h

  cost_by : (o q : Option Row) → AlikeIf o q t → row_cost q ≡ row_cost o
  cost_by None None alike = refl
  cost_by None (Some other) alike = absurd alike
  cost_by (Some row) None alike = absurd alike
  cost_by (Some row) (Some other) alike = sym alike.cost

all_alike : (place : Placement) (low : IsLow place) (t u : State) (live : RegSet) (n : Near live t u) → IsBytes t → sp_of t ≤ 65520 → s_of t ≡ s_of u → (r : Routine) → ((p : Part) → has_part (routine_reads r) p ≡ true → Same p t u)
    → RowHasRoom place (row_of r t) t → AlikeIf (row_of r t) (row_of r u) t
all_alike place low t u live n bytes top se routines.CopyTos reads room = copy_alike place low t u live n reads room
all_alike place low t u live n bytes top se (routines.Library Memcpy) reads room = memcpy_alike place low t u live n reads room
all_alike place low t u live n bytes top se (routines.Library Memset) reads room = memset_alike place low t u live n reads
all_alike place low t u live n bytes top se (routines.Library Puts) reads room = puts_alike place low t u live n reads room
all_alike place low t u live n bytes top se (routines.Library Strlen) reads room = strlen_alike place low t u live n reads room
all_alike place low t u live n bytes top se (routines.Library Strcmp) reads room = strcmp_alike place low t u live n reads room
all_alike place low t u live n bytes top se (routines.Library Strcpy) reads room = strcpy_alike place low t u live n reads room
all_alike place low t u live n bytes top se (routines.Library Printf) reads room = printf_alike place low t u live n (reads Y refl) bytes.y top room
all_alike place low t u live n bytes top se (routines.Library f) reads room = rows_alike place low t u live n bytes top se (routines.Library f) tt reads room
all_alike place low t u live n bytes top se r reads room = rows_alike place low t u live n bytes top se r tt reads room

stays_near : (s : Setting) (r : Routine) (live after : RegSet) (t u : State) → IsLow s.place → IsCalm s t → RowHasRoom s.place (row_of r t) t → s_of t ≡ s_of u → Near live t u → ((p : Part) → has_part (routine_reads r) p ≡ true → Same p t u)
    → ((p : Part) → has_part after p ≡ true → has_part (routine_sets r) p ≡ false → Same p t u) → StaysNear s r after t u
stays_near s r live after t u low calm room se n reads keeps =
    let lo : t.zp 0 ≡ u.zp 0 = n.sp_low in
    let hi : t.zp 1 ≡ u.zp 1 = n.sp_high in
    let sp : sp_of t ≡ sp_of u = omega arith in
    let alike : AlikeIf (row_of r t) (row_of r u) t = all_alike s.place low t u live n calm.bytes calm.high se r reads room in
    record {
      answered = λ v w mv bv at mw bw. let x = answered_by s r after live t u n sp se keeps (row_of r t) (row_of r u) alike (cover r t) v w mv bv at mw bw in record { state = x.0; meets = x.1; bytes = x.2; near = x.3 };
      room = room_by s r after live t u n sp se keeps (row_of r t) (row_of r u) alike room;
      cost = cost_by s r after live t u n sp se keeps (row_of r t) (row_of r u) alike;
    }

pub routines_stay_near : RoutinesStayNear
routines_stay_near s out r low after t u steady se n =
    stays_near s r (before out (called r) after) after t u low steady.calm steady.within se n (λ p h. n.part p (read_before out (called r) after p h)) (λ p h k. n.part p (kept_before out (called r) after p h k))

-- a call that keeps a part keeps sp or regbank
left_by : (f : Library) → IsWithin (minus_of all_parts (library_sets f)) kept_at_calls
left_by Memcpy = (within_iff (minus_of all_parts (union_of large sp_bytes)) kept_at_calls).0 refl
left_by Memset = (within_iff (minus_of all_parts (union_of large sp_bytes)) kept_at_calls).0 refl
left_by Strcmp = (within_iff (minus_of all_parts (union_of large sp_bytes)) kept_at_calls).0 refl
left_by Strcpy = (within_iff (minus_of all_parts (union_of large sp_bytes)) kept_at_calls).0 refl
left_by Printf = (within_iff (minus_of all_parts (union_of large sp_bytes)) kept_at_calls).0 refl
left_by _ = (within_iff (minus_of all_parts large) kept_at_calls).0 refl

left_part : (f : Library) (live : RegSet) (t u : State) (p : Part) → Near live t u → ((p : Part) → has_part kept_at_calls p ≡ true → Same p t u) → has_part (library_sets f) p ≡ false → Same p t u
left_part f live t u (Zp i) n kept h = pick (cases_lt i 26)
  where
    pick : (i < 26) ⊎ (26 ≤ i) → t.zp i ≡ u.zp i
    pick (inl lt) = kept (Zp i) (left_by f (Zp i) (has_part-minus all_parts (library_sets f) (Zp i) ∙ (ap (λ (b : Bool). b && not (has_part (library_sets f) (Zp i))) ((all_iff (Zp i)).1 lt) ∙ ap not h)))
    pick (inr ge) = n.high i ge
left_part f live t u p n kept h = kept p (left_by f p (has_part-minus all_parts (library_sets f) p ∙ ap not h))

pub library_calls_stay_near : LibraryCallsStayNear
library_calls_stay_near s f reads after t u low calm room within se n =
    stays_near s (routines.Library f) (union_of reads kept_at_calls) after t u low calm room se n (λ p h. n.part p (within p h))
    (λ p k h. left_part f (union_of reads kept_at_calls) t u p n (λ q g. n.part q (in_right reads kept_at_calls q g)) h)
