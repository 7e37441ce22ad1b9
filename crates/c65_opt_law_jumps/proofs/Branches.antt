-- Branches that may stand in a segment, and what notes show of them.
use Rattle.std.proofs.Common.{◌≡◌, ℕ, Bool, true, false, not, Option, Some, None, refl, sym, ap, ◌∙◌}
use Rattle.c65_mach.specs.declared.rows.Op.{Op}
use Rattle.c65_mach.specs.declared.rows.Op.TheVariants as ops
use Rattle.c65_mach.specs.declared.rows.Mode.TheVariants.{Relative}
use Rattle.c65_mach.specs.Step.{is_not, is_taken}
use Rattle.c65_code.specs.declared.line.Line.{Line}
use Rattle.c65_code.specs.declared.line.Line.TheVariants.{Do}
use Rattle.c65_code.specs.declared.line.Operand.TheVariants.{To}
use Rattle.c65_code.specs.Forms.{Branch, form_of}
use Rattle.c65_code.specs.LineState.{State}
use Rattle.c65_code.specs.Segments.{is_fit}
use Rattle.c65_know.specs.declared.note.Note.{Note}
use Rattle.c65_know.specs.Notes.{same}
use Rattle.c65_know.specs.Rows.{tested_by, takes_at, is_flag}
use Rattle.c65_know_law.specs.Truth.{IsAs, IsTrueOf}
use Rattle.c65_pass.specs.FlowRules.{shows, opposite}

-- a line of this mode that may stand in a segment is a branch
pub branch_form : (op : Op) (l : ℕ) → is_fit (Do op Relative (To l)) ≡ true → form_of (Do op Relative (To l)) ≡ Branch op l
branch_form ops.Bcc l h = refl
branch_form ops.Bcs l h = refl
branch_form ops.Beq l h = refl
branch_form ops.Bmi l h = refl
branch_form ops.Bne l h = refl
branch_form ops.Bpl l h = refl
branch_form ops.Bvc l h = refl
branch_form ops.Bvs l h = refl
branch_form _ l h = absurd cc

pub opposite_form : (op : Op) (l m : ℕ) → is_fit (Do op Relative (To l)) ≡ true → form_of (Do (opposite op) Relative (To m)) ≡ Branch (opposite op) m
opposite_form ops.Bcc l m h = refl
opposite_form ops.Bcs l m h = refl
opposite_form ops.Beq l m h = refl
opposite_form ops.Bmi l m h = refl
opposite_form ops.Bne l m h = refl
opposite_form ops.Bpl l m h = refl
opposite_form ops.Bvc l m h = refl
opposite_form ops.Bvs l m h = refl
opposite_form _ l m h = absurd cc

twice : (b : Bool) → is_not (is_not b) ≡ b
twice true = refl
twice false = refl

-- the opposite branch is taken where this one is not
pub opposite_taken : (op : Op) (l : ℕ) (t : State) → is_fit (Do op Relative (To l)) ≡ true → is_taken (opposite op) t.regs ≡ is_not (is_taken op t.regs)
opposite_taken ops.Bcc l t h = sym (twice t.regs.c)
opposite_taken ops.Bcs l t h = refl
opposite_taken ops.Beq l t h = refl
opposite_taken ops.Bmi l t h = refl
opposite_taken ops.Bne l t h = sym (twice t.regs.z)
opposite_taken ops.Bpl l t h = sym (twice t.regs.n)
opposite_taken ops.Bvc l t h = sym (twice t.regs.v)
opposite_taken ops.Bvs l t h = refl
opposite_taken _ l t h = absurd cc

-- ---- what notes show

same_is : (b d : Bool) → same b d ≡ true → d ≡ b
same_is true true h = refl
same_is true false h = absurd cc
same_is false true h = absurd cc
same_is false false h = refl

shown : (b : Bool) (o : Option Bool) (v : Bool) → is_flag b o ≡ true → IsAs o v → v ≡ b
shown b None v h k = absurd cc
shown b (Some d) v h k = sym k ∙ same_is b d h

-- where the note shows that a branch is taken, it is
pub taken_shown : (op : Op) (known : Option Note) (t : State) → shows (tested_by op) (takes_at op) known ≡ true → IsTrueOf known t → is_taken op t.regs ≡ true
taken_shown ops.Bcc (Some n) t h k = ap is_not (shown false n.c t.regs.c h k.c)
taken_shown ops.Bcs (Some n) t h k = shown true n.c t.regs.c h k.c
taken_shown ops.Beq (Some n) t h k = shown true n.z t.regs.z h k.z
taken_shown ops.Bmi (Some n) t h k = shown true n.n t.regs.n h k.n
taken_shown ops.Bne (Some n) t h k = ap is_not (shown false n.z t.regs.z h k.z)
taken_shown ops.Bpl (Some n) t h k = ap is_not (shown false n.n t.regs.n h k.n)
taken_shown ops.Bvc (Some n) t h k = ap is_not (shown false n.v t.regs.v h k.v)
taken_shown ops.Bvs (Some n) t h k = shown true n.v t.regs.v h k.v
taken_shown _ _ t h k = absurd cc

-- where it shows that it is not, it is not
pub passed_shown : (op : Op) (known : Option Note) (t : State) → shows (tested_by op) (not (takes_at op)) known ≡ true → IsTrueOf known t → is_taken op t.regs ≡ false
passed_shown ops.Bcc (Some n) t h k = ap is_not (shown true n.c t.regs.c h k.c)
passed_shown ops.Bcs (Some n) t h k = shown false n.c t.regs.c h k.c
passed_shown ops.Beq (Some n) t h k = shown false n.z t.regs.z h k.z
passed_shown ops.Bmi (Some n) t h k = shown false n.n t.regs.n h k.n
passed_shown ops.Bne (Some n) t h k = ap is_not (shown true n.z t.regs.z h k.z)
passed_shown ops.Bpl (Some n) t h k = ap is_not (shown true n.n t.regs.n h k.n)
passed_shown ops.Bvc (Some n) t h k = ap is_not (shown true n.v t.regs.v h k.v)
passed_shown ops.Bvs (Some n) t h k = shown false n.v t.regs.v h k.v
passed_shown _ _ t h k = absurd cc
