-- Each rule keeps what rewritings in one walk keep.
use Rattle.std.proofs.Common.{◌≡◌, ℕ, ◌+◌, ◌≤◌, Bool, true, false, List, [], ◌∷◌, ◌++◌, drop, Some, refl, subst, arith}
use Rattle.std.specs.List.{list_all}
use Rattle.c65_mach.specs.declared.rows.Op.TheVariants as ops
use Rattle.c65_code.specs.declared.routine.Routine.{Routine}
use Rattle.c65_code.specs.declared.routine.Routine.TheVariants as routines
use Rattle.c65_code.specs.declared.routine.UnaryRoutine.TheVariants.{Neg, Compl, Shl1, Shr1, Asr1}
use Rattle.c65_code.specs.declared.routine.Width.TheVariants.{Ax}
use Rattle.c65_code.specs.declared.line.Callee.TheVariants as callees
use Rattle.c65_code.specs.declared.line.Line.{Line}
use Rattle.c65_code.specs.declared.line.Line.TheVariants.{Call}
use Rattle.c65_code.specs.declared.line.Sym.{Sym}
use Rattle.c65_code.specs.Segments.{IsSegment, is_fit, labels_of, targets_of, closed_by}
use Rattle.c65_code.specs.Weights.{lines_size, routine_size}
use Rattle.c65_live.specs.Tables.{Table}
use Rattle.c65_pass.specs.KnownCalls.{lines_known, known_call}
use Rattle.c65_pass.specs.LibraryRules.{with_byte, on_stack, on_tmp1, on_a, opened, call_opened}
use Rattle.c65_pass.specs.Once.{Stays, IsGoodOnce}
use Rattle.c65_pass.specs.Registers.{alone}
use Rattle.c65_pass.specs.Rewriting.{Rewriting}
use Rattle.c65_pass.specs.StackRules.{is_settled, call_of}
use Rattle.c65_pass.proofs.Plain.{IsStandIn}
use Rattle.c65_optlib.proofs.Bare.{at_line, is_bare, all_writable, stays_in_place}
use Rattle.c65_optlib.proofs.StandIns.{lines_stand}

-- ---- the lines of each routine

stand_in : (r : Routine) (new : List Line) → labels_of new ≡ [] → targets_of new ≡ [] → list_all is_fit new ≡ true → list_all is_bare new ≡ true
    → ((b : Bool) (post : List Line) → closed_by false post ≡ true → closed_by b (new ++ post) ≡ true) → lines_size new ≤ routine_size r → IsStandIn (call_of r ∷ []) new
stand_in r new plain still fit bare onward size = record {
  bare = refl;
  plain = plain;
  still = λ h. still;
  fit = λ h. fit;
  onward = onward;
  size = omega (arith, size);
  writable = λ n all. all_writable n new bare;
}

opened_stands : (r : Routine) (ls : List Line) → opened r ≡ Some ls → IsStandIn (call_of r ∷ []) ls
opened_stands routines.LdAxYSp ls m =
    let new : List Line = on_stack ops.Lda ∷ alone ops.Tax ∷ alone ops.Dey ∷ on_stack ops.Lda ∷ [] in
    let is : new ≡ ls = cc in
    subst (IsStandIn (call_of routines.LdAxYSp ∷ [])) is (stand_in routines.LdAxYSp new refl refl refl refl (λ b post k. k) (omega arith))
opened_stands routines.LdAx0Sp ls m =
    let new : List Line = with_byte ops.Ldy 1 ∷ on_stack ops.Lda ∷ alone ops.Tax ∷ alone ops.Dey ∷ on_stack ops.Lda ∷ [] in
    let is : new ≡ ls = cc in
    subst (IsStandIn (call_of routines.LdAx0Sp ∷ [])) is (stand_in routines.LdAx0Sp new refl refl refl refl (λ b post k. k) (omega arith))
opened_stands routines.StAxYSp ls m =
    let new : List Line = on_stack ops.Sta ∷ alone ops.Pha ∷ alone ops.Txa ∷ alone ops.Iny ∷ on_stack ops.Sta ∷ alone ops.Pla ∷ [] in
    let is : new ≡ ls = cc in
    subst (IsStandIn (call_of routines.StAxYSp ∷ [])) is (stand_in routines.StAxYSp new refl refl refl refl (λ b post k. k) (omega arith))
opened_stands (routines.Unary Neg Ax) ls m =
    let new : List Line = alone ops.Clc ∷ with_byte ops.Eor 255 ∷ with_byte ops.Adc 1 ∷ alone ops.Tay ∷ alone ops.Txa ∷ with_byte ops.Eor 255 ∷ with_byte ops.Adc 0 ∷ alone ops.Tax ∷ alone ops.Tya ∷ [] in
    let is : new ≡ ls = cc in
    subst (IsStandIn (call_of (routines.Unary Neg Ax) ∷ [])) is (stand_in (routines.Unary Neg Ax) new refl refl refl refl (λ b post k. k) (omega arith))
opened_stands (routines.Unary Compl Ax) ls m =
    let new : List Line = with_byte ops.Eor 255 ∷ alone ops.Tay ∷ alone ops.Txa ∷ with_byte ops.Eor 255 ∷ alone ops.Tax ∷ alone ops.Tya ∷ [] in
    let is : new ≡ ls = cc in
    subst (IsStandIn (call_of (routines.Unary Compl Ax) ∷ [])) is (stand_in (routines.Unary Compl Ax) new refl refl refl refl (λ b post k. k) (omega arith))
opened_stands (routines.Unary Shl1 Ax) ls m =
    let new : List Line = on_tmp1 ops.Stx ∷ on_a ops.Asl ∷ on_tmp1 ops.Rol ∷ on_tmp1 ops.Ldx ∷ [] in
    let is : new ≡ ls = cc in
    subst (IsStandIn (call_of (routines.Unary Shl1 Ax) ∷ [])) is (stand_in (routines.Unary Shl1 Ax) new refl refl refl refl (λ b post k. k) (omega arith))
opened_stands (routines.Unary Shr1 Ax) ls m =
    let new : List Line = on_tmp1 ops.Stx ∷ on_tmp1 ops.Lsr ∷ on_a ops.Ror ∷ on_tmp1 ops.Ldx ∷ [] in
    let is : new ≡ ls = cc in
    subst (IsStandIn (call_of (routines.Unary Shr1 Ax) ∷ [])) is (stand_in (routines.Unary Shr1 Ax) new refl refl refl refl (λ b post k. k) (omega arith))
opened_stands (routines.Unary Asr1 Ax) ls m =
    let new : List Line = with_byte ops.Cpx 128 ∷ on_tmp1 ops.Stx ∷ on_tmp1 ops.Ror ∷ on_a ops.Ror ∷ on_tmp1 ops.Ldx ∷ [] in
    let is : new ≡ ls = cc in
    subst (IsStandIn (call_of (routines.Unary Asr1 Ax) ∷ [])) is (stand_in (routines.Unary Asr1 Ax) new refl refl refl refl (λ b post k. k) (omega arith))
opened_stands _ ls m = absurd cc

call_stands : (line : Line) (ls : List Line) → call_opened line ≡ Some ls → IsStandIn (line ∷ []) ls
call_stands (Call (callees.Routine r)) ls m = opened_stands r ls m
call_stands _ ls m = absurd cc

pub call_good : (literals : List (Sym × List ℕ)) → IsGoodOnce 39 literals
call_good literals noted table at w s notes live m =
    at_line 39 literals noted table at w
    (λ line post e k. stays_in_place noted.lines at 1 (line ∷ []) post w (call_opened line) (is_settled table at line) e refl (omega arith) s (call_stands line) k) m

known_stays : (lines : List Line) (literals : List (Sym × List ℕ)) (table : Table) (at : ℕ) (one : Line) (post : List Line) (w : Rewriting) → drop at lines ≡ one ∷ post → IsSegment lines
    → known_call literals table at one post ≡ Some w → Stays lines at w
known_stays lines literals table at one [] w e s m = absurd cc
known_stays lines literals table at one (other ∷ []) w e s m = absurd cc
known_stays lines literals table at one (other ∷ call ∷ post) w e s m =
    stays_in_place lines at 3 (one ∷ other ∷ call ∷ []) post w (lines_known literals one other call) (is_settled table (at + 2) call) e refl (omega arith) s
    (lines_stand literals one other call) m

pub known_good : (literals : List (Sym × List ℕ)) → IsGoodOnce 40 literals
known_good literals noted table at w s notes live m =
    at_line 40 literals noted table at w (λ one post e k. known_stays noted.lines literals table at one post w e s k) m
