-- The lines that stand for others on the software stack.
use Rattle.std.proofs.Common.{◌≡◌, ◌+◌, ◌<◌, ◌≤◌, ◌==◌, Bool, true, false, List, [], ◌∷◌, Option, Some, None, refl, sym, subst, ap, arith}
use Rattle.std.proofs.lemmas.List.Elements.{All-nil, All-cons}
use Rattle.c65_mach.specs.declared.rows.Op.TheVariants as ops
use Rattle.c65_mach.specs.declared.rows.Mode.TheVariants.{Immediate}
use Rattle.c65_code.specs.declared.routine.Count.{Count}
use Rattle.c65_code.specs.declared.routine.Routine.{Routine}
use Rattle.c65_code.specs.declared.routine.Routine.TheVariants as routines
use Rattle.c65_code.specs.declared.line.Operand.TheVariants.{Byte}
use Rattle.c65_code.specs.declared.line.Callee.{Callee}
use Rattle.c65_code.specs.declared.line.Callee.TheVariants as callees
use Rattle.c65_code.specs.declared.line.Line.{Line}
use Rattle.c65_code.specs.declared.line.Line.TheVariants.{Do, Call}
use Rattle.c65_code.specs.Rows.{number_of}
use Rattle.c65_code.specs.Segments.{labels_of, closed_by}
use Rattle.c65_code.specs.Weights.{routine_size, callee_size, line_size}
use Rattle.c65_code.specs.Writable.{IsLineWritable}
use Rattle.c65_pass.specs.StackRules.{call_of, count_of, raising, lowering, routine_if, is_taken_back, moved_at_once, moved_by_byte, zero_pushed, word_at_sp}
use Rattle.c65_pass.specs.Rewriting.{bulk}
use Rattle.c65_pass.proofs.Plain.{IsStandIn}

-- new lines that are lower, too
pub record IsLess (old new : List Line) : Type 0 where
  pub stand : IsStandIn old new
  pub less : bulk new < bulk old

-- ---- one call for two lines

call_less : (line : Line) (callee : Callee) (r : Routine) → labels_of (line ∷ Call callee ∷ []) ≡ [] → routine_size r ≤ line_size line + callee_size callee
    → IsLess (line ∷ Call callee ∷ []) (call_of r ∷ [])
call_less line callee r bare size = record {
  stand = record {
    bare = bare;
    plain = refl;
    still = λ h. refl;
    fit = λ h. refl;
    onward = λ b post k. k;
    size = omega (arith, size);
    writable = λ n all. All-cons (IsLineWritable n) (call_of r) [] (tt, tt) (All-nil (IsLineWritable n));
  };
  less = omega (arith, size);
}

raised_size : (count : Option Count) (r : Routine) → raising count ≡ Some r → routine_size r ≡ 3
raised_size None r h = absurd cc
raised_size (Some n) r h = let e : routines.IncSp n ≡ r = cc in subst (λ x. routine_size x ≡ 3) e refl

lowered_size : (count : Option Count) (r : Routine) → lowering count ≡ Some r → routine_size r ≡ 3
lowered_size None r h = absurd cc
lowered_size (Some n) r h = let e : routines.DecSp n ≡ r = cc in subst (λ x. routine_size x ≡ 3) e refl

routine_size_if : (b : Bool) (is r : Routine) → routine_if b is ≡ Some r → routine_size r ≡ routine_size is
routine_size_if true is r h = let e : is ≡ r = cc in ap routine_size (sym e)
routine_size_if false is r h = absurd cc

pub moved_at_once_less : (line next : Line) (r : Routine) → moved_at_once line next ≡ Some r → IsLess (line ∷ next ∷ []) (call_of r ∷ [])
moved_at_once_less (Call (callees.Routine (routines.IncSp n))) (Call (callees.Routine (routines.IncSp m))) r h =
    call_less (call_of (routines.IncSp n)) (callees.Routine (routines.IncSp m)) r refl (omega (arith, raised_size (count_of (number_of n + number_of m)) r h))
moved_at_once_less (Call (callees.Routine (routines.DecSp n))) (Call (callees.Routine (routines.DecSp m))) r h =
    call_less (call_of (routines.DecSp n)) (callees.Routine (routines.DecSp m)) r refl (omega (arith, lowered_size (count_of (number_of n + number_of m)) r h))
moved_at_once_less _ _ r h = absurd cc

pub moved_by_byte_less : (line next : Line) (r : Routine) → moved_by_byte line next ≡ Some r → IsLess (line ∷ next ∷ []) (call_of r ∷ [])
moved_by_byte_less (Do ops.Ldy Immediate (Byte v)) (Call (callees.Routine routines.AddYSp)) r h =
    call_less (Do ops.Ldy Immediate (Byte v)) (callees.Routine routines.AddYSp) r refl (omega (arith, raised_size (count_of v) r h))
moved_by_byte_less (Do ops.Ldy Immediate (Byte v)) (Call (callees.Routine routines.SubYSp)) r h =
    call_less (Do ops.Ldy Immediate (Byte v)) (callees.Routine routines.SubYSp) r refl (omega (arith, lowered_size (count_of v) r h))
moved_by_byte_less _ _ r h = absurd cc

pub zero_pushed_less : (line next : Line) (r : Routine) → zero_pushed line next ≡ Some r → IsLess (line ∷ next ∷ []) (call_of r ∷ [])
zero_pushed_less (Do ops.Ldx Immediate (Byte v)) (Call (callees.Routine routines.PushAx)) r h =
    call_less (Do ops.Ldx Immediate (Byte v)) (callees.Routine routines.PushAx) r refl (omega (arith, routine_size_if (v == 0) routines.PushA0 r h))
zero_pushed_less (Do ops.Lda Immediate (Byte v)) (Call (callees.Routine routines.PushA0)) r h =
    call_less (Do ops.Lda Immediate (Byte v)) (callees.Routine routines.PushA0) r refl (omega (arith, routine_size_if (v == 0) routines.Push0 r h))
zero_pushed_less _ _ r h = absurd cc

pub word_at_sp_less : (line next : Line) (r : Routine) → word_at_sp line next ≡ Some r → IsLess (line ∷ next ∷ []) (call_of r ∷ [])
word_at_sp_less (Do ops.Ldy Immediate (Byte v)) (Call (callees.Routine routines.LdAxYSp)) r h =
    call_less (Do ops.Ldy Immediate (Byte v)) (callees.Routine routines.LdAxYSp) r refl (omega (arith, routine_size_if (v == 1) routines.LdAx0Sp r h))
word_at_sp_less (Do ops.Ldy Immediate (Byte v)) (Call (callees.Routine routines.StAxYSp)) r h =
    call_less (Do ops.Ldy Immediate (Byte v)) (callees.Routine routines.StAxYSp) r refl (omega (arith, routine_size_if (v == 0) routines.StAx0Sp r h))
word_at_sp_less _ _ r h = absurd cc

-- ---- nothing for two calls

-- lines that close a segment close it behind any line
anyhow : (post : List Line) (b : Bool) → closed_by false post ≡ true → closed_by b post ≡ true
anyhow [] b h = absurd cc
anyhow (line ∷ post) b h = h

pub taken_back_less : (line next : Line) → is_taken_back line next ≡ true → IsLess (line ∷ next ∷ []) []
taken_back_less (Call (callees.Routine routines.PushAx)) (Call (callees.Routine routines.PopAx)) h = record {
  stand = record {
    bare = refl;
    plain = refl;
    still = λ h. refl;
    fit = λ h. refl;
    onward = λ b post k. anyhow post b k;
    size = omega arith;
    writable = λ n all. All-nil (IsLineWritable n);
  };
  less = omega arith;
}
taken_back_less _ _ h = absurd cc
