-- The lines of a function write nothing of regbank where it takes nothing of it.
use Rattle.std.proofs.Common.{◌≡◌, ℕ, zero, suc, ◌+◌, ◌/◌, ◌%◌, ◌==◌, Bool, true, false, not, Option, None, Some, ℤ, List, [], ◌∷◌, length, refl, sym, ap, subst}
use Rattle.std.specs.Prelude.{◌&&◌, if◌then◌else◌, nat_lt, nat_le}
use Rattle.c65_csem.specs.Trees.{Typed, MaybeTyped, absent, present, Stmt, empty, eval, set_part, clear, block, if_stmt, while, do_while, for_loop, switch, case, default, label, goto, break, continue, return, Stmts, no_stmts, and_stmts}
use Rattle.c65_csem.specs.Places.{is_tag}
use Rattle.c65_csem.specs.Statements.{cases_of}
use Rattle.c65_mach.specs.declared.rows.Op.TheVariants.{Bne, Jmp, Sta, Stx, Iny, Cpy, Dex, Lda, Ldx, Ldy, Inc, Rts, Pha, Pla, Tay, Beq, Cmp, Cpx}
use Rattle.c65_code.specs.declared.line.Line.{Line}
use Rattle.c65_code.specs.declared.routine.Count.{Count}
use Rattle.c65_code.specs.declared.routine.Width.{Width}
use Rattle.c65_code.specs.declared.routine.Width.TheVariants.{Ax, Eax}
use Rattle.c65_code.specs.declared.routine.Routine.TheVariants.{AddYSp}
use Rattle.c65_code.specs.Segments.{Drafted}
use Rattle.c65_genframe.specs.declared.home.Home.{Home}
use Rattle.c65_genframe.specs.declared.home.Home.TheVariants as homes
use Rattle.c65_genframe.specs.declared.home.Arrival.{Arrival}
use Rattle.c65_genframe.specs.declared.home.Arrival.TheVariants.{Passed, Pushed, Kept}
use Rattle.c65_genframe.specs.declared.home.Moved.{Moved}
use Rattle.c65_genframe.specs.Frames.{Framed, home_of, type_bytes}
use Rattle.c65_genwide.specs.Lines.{value, call, with_lines}
use Rattle.c65_genwide.specs.Wide.{width_of}
use Rattle.c65_genload.specs.Conversions.{size_of}
use Rattle.c65_genload.specs.declared.places.Access.{Access}
use Rattle.c65_genload.specs.declared.places.Access.TheVariants.{Whole}
use Rattle.c65_genload.specs.declared.places.Place.TheVariants as places
use Rattle.c65_genexpr.specs.declared.wanted.Wanted.TheVariants.{Value, Test}
use Rattle.c65_genexpr.specs.Types.{kind_in, bare}
use Rattle.c65_genentry.specs.Drafts.{with_labels}
use Rattle.c65_genentry.specs.Words.{sp, ptr1, ptr2, tmp1, tmp2, implied, zero_page, by_y, branch, jump}
use Rattle.c65_genentry.specs.Bytes.{pages_code, rest_code, loop_labels, block_code}
use Rattle.c65_genentry.specs.Bytes as blocks
use Rattle.c65_genentry.specs.Pointers as pointers
use Rattle.c65_genentry.specs.Choice.{bits_of, byte_of, test_code, case_codes, by_bytes, byte_tests, byte_choice, choice_code}
use Rattle.c65_genentry.specs.Stack.{count_of, raise_by, lower_by, small_raise, small_lower, repeated, raise_code, lower_code}
use Rattle.c65_genentry.specs.Entry.{pushed_code, kept_code, saved_code, counted_code, count_code, all_moved, raised_moves, taken_bytes, checked_code, entry_code}
use Rattle.c65_genentry.specs.Ends.{restored_code, end_code}
use Rattle.c65_genstmt.specs.declared.jumps.Ways.{Ways}
use Rattle.c65_genstmt.specs.declared.objects.Spot.{Spot}
use Rattle.c65_genstmt.specs.declared.objects.Spot.TheVariants.{Bank, Soft, Data}
use Rattle.c65_genstmt.specs.Jumps.{following, with_value, with_effect, with_test}
use Rattle.c65_genstmt.specs.Objects.{spot_at, spot_of, object_bytes, point_code, stored_code, with_copied, with_kept, with_zeros}
use Rattle.c65_genstmt.specs.Cases.{room_of}
use Rattle.c65_genstmt.specs.Stmts.{case_behind, with_label, with_jump, two_given, three_given, with_maybe, with_effects, with_guard, ways, default_way, with_stmt, with_stmts, with_last, with_lasts, returns_last, is_empty, with_way, with_cases}
use Rattle.c65_genstmt.specs.Functions.{main_code, no_lines}
use Rattle.c65_gen_law_stack.specs.Bank.{FunctionsLeaveRegbank}
use Rattle.c65_gen_law_stack.proofs.EntryWay.{IsOrderly}
use Rattle.c65_gen_law_stack.proofs.FrameOrder.{NotBank, frames_are_orderly, frames_without_bank, unkept, unmoved}
use Rattle.c65_gen_law_stack.proofs.BankPieces.{label_clear, pass_clear, Clear, clear_then, clear_if, clear_none, store_clear}
use Rattle.c65_gen_law_stack.proofs.BankExprs.{IsBankless, expr_clear}
use Rattle.c65_gen_law_stack.proofs.EffectClears.{effect_clear}

-- ---- objects

IsOffSpot : Spot → Type 0
IsOffSpot (Bank b) = ⊥
IsOffSpot _ = Unit {0}

spot_off : (f : Framed) (i offset : ℕ) (home : Option Home) → NotBank home → IsOffSpot (spot_at f i offset home)
unfolding IsOffSpot
spot_off f i offset None h = tt
spot_off f i offset (Some (homes.Bank b)) h = absurd h
spot_off f i offset (Some (homes.Soft d)) h = tt

far_clear : (at bytes : ℕ) → Clear (pointers.far_store at bytes)
far_clear at bytes =
    let upper : Clear pointers.upper_bytes = record { all = refl } in
    let second : Clear pointers.second_byte = record { all = refl } in
    let first : Clear (zero_page Sta tmp1 ∷ zero_page Stx tmp2 ∷ []) = record { all = refl } in
    let near : Clear (pointers.near_code ptr1 at) = record { all = refl } in
    let lowest : Clear (value Ldy 0 ∷ zero_page Lda tmp1 ∷ by_y Sta ptr1 ∷ []) = record { all = refl } in
    clear_then first (clear_then near (clear_then lowest (clear_if (nat_lt bytes 2) clear_none (clear_then second (clear_if (nat_lt bytes 3) clear_none upper)))))

stored_clear : (spot : Spot) (access : Access) (bytes : ℕ) → IsOffSpot spot → Clear (stored_code spot access bytes)
unfolding IsOffSpot
stored_clear (Bank b) access bytes off = absurd off
stored_clear (Soft at) access bytes off = clear_if (nat_le at 252) (store_clear (places.Near at) access tt) (far_clear at bytes)
stored_clear (Data s at) access bytes off = store_clear (places.Data s at) access tt

point_clear : (spot : Spot) → Clear (point_code ptr2 spot)
point_clear (Bank b) = clear_none
point_clear (Soft at) = record { all = refl }
point_clear (Data s at) = record { all = refl }

pages_clear : (each after : List Line) (pages l : ℕ) → Clear each → Clear after → Clear (pages_code each after pages l)
pages_clear each after pages l ce ca =
    let count : Clear (value Ldx pages ∷ []) = record { all = refl } in
    let next : Clear (implied Iny ∷ branch Bne l ∷ []) = record { all = refl } in
    let last : Clear (implied Dex ∷ branch Bne l ∷ []) = record { all = refl } in
    clear_if (pages == 0) clear_none (clear_then count (clear_then (label_clear l) (clear_then ce (clear_then next (clear_then ca last)))))

rest_clear : (each : List Line) (bytes l : ℕ) → Clear each → Clear (rest_code each bytes l)
rest_clear each bytes l ce = let last : Clear (implied Iny ∷ value Cpy bytes ∷ branch Bne l ∷ []) = record { all = refl } in clear_if (bytes == 0) clear_none (clear_then (label_clear l) (clear_then ce last))

block_clear : (each after : List Line) (bytes l : ℕ) → Clear each → Clear after → Clear (block_code each after bytes l)
block_clear each after bytes l ce ca = clear_then (pages_clear each after (bytes / 256) l ce ca) (rest_clear each (bytes % 256) (l + loop_labels (bytes / 256)) ce)

zeros_block : (bytes l : ℕ) → Clear (blocks.clear_code bytes l)
zeros_block bytes l =
    let first : Clear (value Ldy 0 ∷ value Lda 0 ∷ []) = record { all = refl } in
    let each : Clear (by_y Sta ptr1 ∷ []) = record { all = refl } in
    let after : Clear (zero_page Inc (ptr1 + 1) ∷ []) = record { all = refl } in
    clear_then first (block_clear (by_y Sta ptr1 ∷ []) (zero_page Inc (ptr1 + 1) ∷ []) bytes l each after)

copy_block : (bytes l : ℕ) → Clear (blocks.copy_code bytes l)
copy_block bytes l =
    let first : Clear (value Ldy 0 ∷ []) = record { all = refl } in
    let each : Clear (by_y Lda ptr1 ∷ by_y Sta ptr2 ∷ []) = record { all = refl } in
    let after : Clear (zero_page Inc (ptr1 + 1) ∷ zero_page Inc (ptr2 + 1) ∷ []) = record { all = refl } in
    clear_then first (block_clear (by_y Lda ptr1 ∷ by_y Sta ptr2 ∷ []) (zero_page Inc (ptr1 + 1) ∷ zero_page Inc (ptr2 + 1) ∷ []) bytes l each after)

-- ---- drafts

value_kept : (f : Framed) (e : Typed) (d : Drafted) → IsBankless f → Clear d.lines → Clear (with_value f e d).lines
value_kept f e d b c = clear_then c (expr_clear f 0 d.labels Value e b)

effect_kept : (f : Framed) (e : Typed) (d : Drafted) → IsBankless f → Clear d.lines → Clear (with_effect f e d).lines
effect_kept f e d b c = clear_then c (effect_clear f 0 d.labels e b)

tested_kept : (f : Framed) (to : ℕ) (s : Bool) (e : Typed) (d : Drafted) → IsBankless f → Clear d.lines → Clear (with_test f to s e d).lines
tested_kept f to s e d b c = clear_then c (expr_clear f 0 d.labels (Test to s) e b)

jmp : (l : ℕ) → Clear (jump Jmp l ∷ [])
jmp l = record { all = refl }

way_kept : (at : Bool) (l : ℕ) (d : Drafted) → Clear d.lines → Clear (with_way at l d).lines
way_kept true l d c = c
way_kept false l d c = clear_then c (jmp l)

maybe_kept : (f : Framed) (e : MaybeTyped) (d : Drafted) → IsBankless f → Clear d.lines → Clear (with_maybe f e d).lines
maybe_kept f absent d b c = c
maybe_kept f (present e) d b c = value_kept f e d b c

effects_kept : (f : Framed) (e : MaybeTyped) (d : Drafted) → IsBankless f → Clear d.lines → Clear (with_effects f e d).lines
effects_kept f absent d b c = c
effects_kept f (present e) d b c = effect_kept f e d b c

guard_kept : (f : Framed) (to : ℕ) (e : MaybeTyped) (d : Drafted) → IsBankless f → Clear d.lines → Clear (with_guard f to e d).lines
guard_kept f to absent d b c = c
guard_kept f to (present e) d b c = tested_kept f to false e d b c

copied_kept : (spot : Spot) (bytes : ℕ) (d : Drafted) → Clear d.lines → Clear (with_copied spot bytes d).lines
copied_kept spot bytes d c =
    let first : Clear (zero_page Sta ptr1 ∷ zero_page Stx (ptr1 + 1) ∷ []) = record { all = refl } in
    clear_then (clear_then (clear_then c first) (point_clear spot)) (copy_block (bytes % 65536) d.labels)

set_kept : (tagged : Bool) (f : Framed) (spot : Spot) (e : Typed) (d : Drafted) → IsOffSpot spot → Clear d.lines → Clear (with_kept tagged f spot e d).lines
set_kept true f spot e d off c = copied_kept spot (type_bytes f (bare e)) d c
set_kept false f spot e d off c = clear_then c (stored_clear spot (Whole (kind_in e)) (size_of (kind_in e)) off)

zeros_kept : (spot : Spot) (bytes : ℕ) (d : Drafted) → IsOffSpot spot → Clear d.lines → Clear (with_zeros spot bytes d).lines
unfolding IsOffSpot
zeros_kept (Bank b) bytes d off c = absurd off
zeros_kept (Soft at) bytes d off c = let near : Clear (pointers.near_code ptr1 at) = record { all = refl } in clear_then (clear_then c near) (zeros_block (bytes % 65536) d.labels)
zeros_kept (Data s at) bytes d off c = let there : Clear (pointers.symbol_code ptr1 s at) = record { all = refl } in clear_then (clear_then c there) (zeros_block (bytes % 65536) d.labels)

tests_clear : (w : Width) (bits other at : ℕ) → Clear (test_code w bits other at)
tests_clear Ax bits other at = record { all = refl }
tests_clear Eax bits other at = record { all = refl }

cases_clear : (w : Width) (at l : ℕ) (zs : List ℤ) → Clear (case_codes w at l zs)
cases_clear w at l [] = clear_none
cases_clear w at l (z ∷ zs) = clear_then (clear_then (tests_clear w (bits_of z) l at) (label_clear l)) (cases_clear w ((at + 1) % 4294967296) (l + 1) zs)

bytes_clear : (at : ℕ) (zs : List ℤ) → Clear (byte_tests at zs)
bytes_clear at [] = clear_none
bytes_clear at (z ∷ zs) =
    let first : Clear (value Cmp (byte_of (bits_of z) 1) ∷ branch Beq at ∷ []) = record { all = refl } in
    clear_then first (bytes_clear ((at + 1) % 4294967296) zs)

choice_clear : (w : Width) (other at l : ℕ) (zs : List ℤ) → Clear (choice_code w other at l zs)
choice_clear w other at l zs = by (by_bytes w zs)
  where
    by : (b : Bool) → Clear (if b then byte_choice other at zs else case_codes w at l zs)
    by true =
        let first : Clear (value Cpx 0 ∷ branch Bne other ∷ []) = record { all = refl } in
        clear_then first (bytes_clear at zs)
    by false = cases_clear w at l zs

mutual
  stmt_kept : (f : Framed) (w : Ways) (l : ℕ) (s : Stmt) (d : Drafted) → IsBankless f → Clear d.lines → Clear (with_stmt f w l s d).lines
  stmt_kept f w l empty d b c = c
  stmt_kept f w l (eval e) d b c = effect_kept f e d b c
  stmt_kept f w l (set_part i o e) d b c = set_kept (is_tag (bare e)) f (spot_of f i o) e (with_value f e d) (spot_off f i o (home_of f i) (b i)) (value_kept f e d b c)
  stmt_kept f w l (clear i) d b c = zeros_kept (spot_of f i 0) (object_bytes f i) d (spot_off f i 0 (home_of f i) (b i)) c
  stmt_kept f w l (block os ss) d b c = stmts_kept f w l ss d b c
  stmt_kept f w l (if_stmt e x y) d b c =
      let m1 : Drafted = with_test f d.labels false e (two_given d) in
      let m2 : Drafted = with_stmt f w l x m1 in
      let m3 : Drafted = with_way (is_empty y) (d.labels + 1) m2 in
      let m4 : Drafted = with_label d.labels m3 in
      let c2 : Clear m2.lines = stmt_kept f w l x m1 b (tested_kept f d.labels false e (two_given d) b c) in
      clear_then (stmt_kept f w (case_behind l x) y m4 b (clear_then (way_kept (is_empty y) (d.labels + 1) m2 c2) (label_clear d.labels))) (label_clear (d.labels + 1))
  stmt_kept f w l (while e x) d b c =
      let m1 : Drafted = with_label d.labels (two_given d) in
      let m2 : Drafted = with_test f (d.labels + 1) false e m1 in
      clear_then (clear_then (stmt_kept f (ways (d.labels + 1) d.labels w.other) l x m2 b (tested_kept f (d.labels + 1) false e m1 b (clear_then c (label_clear d.labels)))) (jmp d.labels)) (label_clear (d.labels + 1))
  stmt_kept f w l (do_while x e) d b c =
      let m1 : Drafted = with_label d.labels (three_given d) in
      let m2 : Drafted = with_stmt f (ways (d.labels + 1 + 1) (d.labels + 1) w.other) l x m1 in
      let m3 : Drafted = with_label (d.labels + 1) m2 in
      let c2 : Clear m2.lines = stmt_kept f (ways (d.labels + 1 + 1) (d.labels + 1) w.other) l x m1 b (clear_then c (label_clear d.labels)) in
      clear_then (tested_kept f d.labels true e m3 b (clear_then c2 (label_clear (d.labels + 1)))) (label_clear (d.labels + 1 + 1))
  stmt_kept f w l (for_loop i t n x) d b c =
      let g : Drafted = with_effects f i d in
      let m1 : Drafted = with_label g.labels (three_given g) in
      let m2 : Drafted = with_guard f (g.labels + 1 + 1) t m1 in
      let m3 : Drafted = with_stmt f (ways (g.labels + 1 + 1) (g.labels + 1) w.other) l x m2 in
      let m4 : Drafted = with_label (g.labels + 1) m3 in
      let c2 : Clear m2.lines = guard_kept f (g.labels + 1 + 1) t m1 b (clear_then (effects_kept f i d b c) (label_clear g.labels)) in
      let c3 : Clear m3.lines = stmt_kept f (ways (g.labels + 1 + 1) (g.labels + 1) w.other) l x m2 b c2 in
      clear_then (clear_then (effects_kept f n m4 b (clear_then c3 (label_clear (g.labels + 1)))) (jmp g.labels)) (label_clear (g.labels + 1 + 1))
  stmt_kept f w l (switch e x) d b c =
      let m0 : Drafted = with_labels (length (cases_of x)) (two_given d) in
      let g : Drafted = with_value f e m0 in
      let m1 : Drafted = with_cases (width_of (kind_in e)) (default_way x d.labels) (d.labels + 1 + 1) (cases_of x) g in
      let m2 : Drafted = with_jump (default_way x d.labels) m1 in
      let c1 : Clear m1.lines = clear_then (value_kept f e m0 b c) (choice_clear (width_of (kind_in e)) (default_way x d.labels) (d.labels + 1 + 1) g.labels (cases_of x)) in
      clear_then (stmt_kept f (ways d.labels w.onward (d.labels + 1)) (d.labels + 1 + 1) x m2 b (clear_then c1 (jmp (default_way x d.labels)))) (label_clear d.labels)
  stmt_kept f w l (case z x) d b c = stmt_kept f w (following l) x (with_label l d) b (clear_then c (label_clear l))
  stmt_kept f w l (default x) d b c = stmt_kept f w l x (with_label w.other d) b (clear_then c (label_clear w.other))
  stmt_kept f w l (label n x) d b c = stmt_kept f w l x (with_label (following n) d) b (clear_then c (label_clear (following n)))
  stmt_kept f w l (goto n) d b c = clear_then c (jmp (following n))
  stmt_kept f w l break d b c = clear_then c (jmp w.behind)
  stmt_kept f w l continue d b c = clear_then c (jmp w.onward)
  stmt_kept f w l (return e) d b c = clear_then (maybe_kept f e d b c) (jmp 0)

  stmts_kept : (f : Framed) (w : Ways) (l : ℕ) (ss : Stmts) (d : Drafted) → IsBankless f → Clear d.lines → Clear (with_stmts f w l ss d).lines
  stmts_kept f w l no_stmts d b c = c
  stmts_kept f w l (and_stmts x ss) d b c = stmts_kept f w (case_behind l x) ss (with_stmt f w l x d) b (stmt_kept f w l x d b c)

mutual
  last_kept : (f : Framed) (w : Ways) (l : ℕ) (s : Stmt) (d : Drafted) → IsBankless f → Clear d.lines → Clear (with_last f w l s d).lines
  last_kept f w l (block os ss) d b c = lasts_kept f w l ss d b c
  last_kept f w l (return e) d b c = maybe_kept f e d b c
  last_kept f w l x d b c = stmt_kept f w l x d b c

  lasts_kept : (f : Framed) (w : Ways) (l : ℕ) (ss : Stmts) (d : Drafted) → IsBankless f → Clear d.lines → Clear (with_lasts f w l ss d).lines
  lasts_kept f w l no_stmts d b c = c
  lasts_kept f w l (and_stmts x no_stmts) d b c = last_kept f w l x d b c
  lasts_kept f w l (and_stmts x (and_stmts y ss)) d b c = lasts_kept f w (case_behind l x) (and_stmts y ss) (with_stmt f w l x d) b (stmt_kept f w l x d b c)

-- ---- entry and end

raise_by_clear : (n : ℕ) (c : Option Count) → Clear (raise_by n c)
raise_by_clear n (Some c) = record { all = refl }
raise_by_clear n None = record { all = refl }

lower_by_clear : (n : ℕ) (c : Option Count) → Clear (lower_by n c)
lower_by_clear n (Some c) = record { all = refl }
lower_by_clear n None = record { all = refl }

repeated_clear : (n : ℕ) (a : List Line) → Clear a → Clear (repeated n a)
repeated_clear zero a c = clear_none
repeated_clear (suc n) a c = clear_then (repeated_clear n a c) c

small_raise_clear : (n : ℕ) → Clear (small_raise n)
small_raise_clear n = clear_if (n == 0) clear_none (raise_by_clear n (count_of n))

small_lower_clear : (n : ℕ) → Clear (small_lower n)
small_lower_clear n = clear_if (n == 0) clear_none (lower_by_clear n (count_of n))

raise_clear : (n : ℕ) → Clear (raise_code n)
raise_clear n = clear_then (repeated_clear (n / 255) (small_raise 255) (small_raise_clear 255)) (small_raise_clear (n % 255))

lower_clear : (n : ℕ) → Clear (lower_code n)
lower_clear n = clear_then (repeated_clear (n / 255) (small_lower 255) (small_lower_clear 255)) (small_lower_clear (n % 255))

pushed_clear : (a : Arrival) → Clear (pushed_code a)
pushed_clear (Pushed bytes) = pass_clear bytes
pushed_clear Passed = clear_none
pushed_clear (Kept bank bytes) = clear_none

counted_clear : (variadic : Bool) → Clear (counted_code variadic)
counted_clear true = record { all = refl }
counted_clear false = clear_none

count_clear : (variadic : Bool) → Clear (count_code variadic)
count_clear true = record { all = refl }
count_clear false = clear_none

nothing_clear : (a : List Line) → a ≡ [] → Clear a
nothing_clear a e = subst (λ (x : List Line). Clear x) (sym e) clear_none

moved_clear : (ms : List Moved) → ms ≡ [] → Clear (all_moved ms)
moved_clear ms e = nothing_clear (all_moved ms) (ap all_moved e)

late_clear : (v : Bool) (ms : List Moved) → ms ≡ [] → Clear (if v then [] else all_moved ms)
late_clear true ms e = clear_none
late_clear false ms e = moved_clear ms e

early_clear : (v : Bool) (soft stacked : ℕ) (ms : List Moved) → ms ≡ [] → Clear (if v then raised_moves soft stacked ms else [])
early_clear true soft stacked ms e = nothing_clear (raised_moves soft stacked ms) (ap (raised_moves soft stacked) e)
early_clear false soft stacked ms e = clear_none

checked_clear : (check : Option ℕ) → Clear (checked_code check)
checked_clear None = clear_none
checked_clear (Some c) = record { all = refl }

entry_clear : (f : Framed) → IsOrderly f → f.bank ≡ 0 → Clear (entry_code f)
entry_clear f o none =
    let moved : f.moved ≡ [] = unmoved f.bank f.moved none o.moved in
    clear_then (checked_clear f.check) (clear_then (pushed_clear f.last) (clear_then (counted_clear f.variadic) (clear_then (nothing_clear (saved_code f.bank) (ap saved_code none)) (clear_then (early_clear f.variadic f.soft f.stacked f.moved moved) (clear_then (nothing_clear (kept_code f.last) (unkept f.bank f.last none o.kept)) (clear_then (lower_clear (taken_bytes f.variadic f.soft)) (clear_then (count_clear f.variadic) (late_clear f.variadic f.moved moved))))))))

end_clear : (f : Framed) → f.bank ≡ 0 → Clear (end_code f)
end_clear f none =
    let front : Clear (zero_page Sta tmp1 ∷ value Ldy 0 ∷ by_y Lda sp ∷ implied Pha ∷ zero_page Lda tmp1 ∷ []) = record { all = refl } in
    let back : Clear (zero_page Sta tmp1 ∷ implied Pla ∷ implied Tay ∷ zero_page Lda tmp1 ∷ call AddYSp ∷ implied Rts ∷ []) = record { all = refl } in
    let last : Clear (implied Rts ∷ []) = record { all = refl } in
    let restored : Clear (restored_code f.bank) = nothing_clear (restored_code f.bank) (ap restored_code none) in
    clear_if f.variadic (clear_then front (clear_then (raise_clear f.soft) (clear_then restored back))) (clear_then (raise_clear f.soft) (clear_then restored (clear_then (raise_clear f.stacked) last)))

main_clear : (is_main : Bool) → Clear (main_code is_main)
main_clear true = record { all = refl }
main_clear false = clear_none

pub functions_leave_regbank : FunctionsLeaveRegbank
functions_leave_regbank parts modes g body f is_main out framed nothing =
    let o : IsOrderly f = frames_are_orderly parts modes g f framed in
    let b : IsBankless f = frames_without_bank parts modes g f framed nothing in
    let d : Drafted = with_lines (with_labels (room_of body) (with_labels 1 (no_lines out))) (entry_code f) in
    let all : Clear (with_last f (ways 0 0 0) 0 body d).lines = last_kept f (ways 0 0 0) 0 body d b (entry_clear f o nothing) in
    (clear_then (clear_then (clear_then all (main_clear (is_main && not (returns_last body)))) (label_clear 0)) (end_clear f nothing)).all
