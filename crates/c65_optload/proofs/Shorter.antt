-- The lines that stand for loads.
use Rattle.std.proofs.Common.{◌≡◌, ◌&&◌, ◌+◌, ◌%◌, ℕ, Bool, true, false, [], ◌∷◌, Option, Some, None, is_some, refl, sym, subst, ap, ◌∙◌, arith}
use Rattle.std.specs.Prelude.{if◌then◌else◌}
use Rattle.c65_mach.specs.declared.rows.Op.{Op}
use Rattle.c65_mach.specs.declared.rows.Op.TheVariants as ops
use Rattle.c65_mach.specs.declared.rows.Mode.{Mode}
use Rattle.c65_mach.specs.declared.rows.Mode.TheVariants.{Immediate, ZeroPage, Absolute}
use Rattle.c65_code.specs.declared.line.Operand.{Operand}
use Rattle.c65_code.specs.declared.line.Operand.TheVariants.{Nothing, Byte, Low, High, Zero, At, To}
use Rattle.c65_code.specs.declared.line.Line.{Line}
use Rattle.c65_code.specs.declared.line.Line.TheVariants.{Do}
use Rattle.c65_code.specs.Parts.{set_of}
use Rattle.c65_code.specs.Segments.{is_fit, target_of}
use Rattle.c65_know.specs.declared.note.Note.{Note}
use Rattle.c65_live.specs.Tables.{Table, is_dead}
use Rattle.c65_pass.specs.declared.register.Register.{Register}
use Rattle.c65_pass.specs.declared.register.Register.TheVariants.{A, X, Y}
use Rattle.c65_pass.specs.declared.register.Transfer.{Transfer}
use Rattle.c65_pass.specs.Registers.{is_same_register, part_of, loaded_by, load_op, transfer_by, alone}
use Rattle.c65_pass.specs.LoadRules.{has, transfer_for, transferred, step_for, stepped, is_common_load, load_for, loaded_on}
use Rattle.c65_pass.proofs.Replaced.{IsQuiet, IsSmaller, IsBoth}
use Rattle.c65_optload.proofs.Quiet.{load_quiet, transfer_quiet}

-- a transfer or a step of one byte
pub data IsShort : Line → Type 0 where
  tax : IsShort (alone ops.Tax)
  tay : IsShort (alone ops.Tay)
  txa : IsShort (alone ops.Txa)
  tya : IsShort (alone ops.Tya)
  inx : IsShort (alone ops.Inx)
  iny : IsShort (alone ops.Iny)
  dex : IsShort (alone ops.Dex)
  dey : IsShort (alone ops.Dey)

smaller : (op : Op) (v : ℕ) (line : Line) → IsShort line → IsSmaller (Do op Immediate (Byte v)) line
smaller op v _ tax = record { fit = refl; quiet = record { plain = refl; onward = refl }; still = refl; size = omega arith; writable = λ n. (tt, tt) }
smaller op v _ tay = record { fit = refl; quiet = record { plain = refl; onward = refl }; still = refl; size = omega arith; writable = λ n. (tt, tt) }
smaller op v _ txa = record { fit = refl; quiet = record { plain = refl; onward = refl }; still = refl; size = omega arith; writable = λ n. (tt, tt) }
smaller op v _ tya = record { fit = refl; quiet = record { plain = refl; onward = refl }; still = refl; size = omega arith; writable = λ n. (tt, tt) }
smaller op v _ inx = record { fit = refl; quiet = record { plain = refl; onward = refl }; still = refl; size = omega arith; writable = λ n. (tt, tt) }
smaller op v _ iny = record { fit = refl; quiet = record { plain = refl; onward = refl }; still = refl; size = omega arith; writable = λ n. (tt, tt) }
smaller op v _ dex = record { fit = refl; quiet = record { plain = refl; onward = refl }; still = refl; size = omega arith; writable = λ n. (tt, tt) }
smaller op v _ dey = record { fit = refl; quiet = record { plain = refl; onward = refl }; still = refl; size = omega arith; writable = λ n. (tt, tt) }

choice : (b c : Bool) (x y l : Line) → IsShort x → IsShort y → (if b then Some x else (if c then Some y else None)) ≡ Some l → IsShort l
choice true c x y l one two h = let e : x ≡ l = cc in subst IsShort e one
choice false true x y l one two h = let e : y ≡ l = cc in subst IsShort e two
choice false false x y l one two h = absurd cc

chosen : (b : Bool) (x l : Line) → IsShort x → (if b then Some x else None) ≡ Some l → IsShort l
chosen true x l one h = let e : x ≡ l = cc in subst IsShort e one
chosen false x l one h = absurd cc

transfer_short : (known : Option Note) (r : Option Register) (v : ℕ) (l : Line) → transfer_for known r v ≡ Some l → IsShort l × (is_some r ≡ true)
transfer_short known None v l h = absurd cc
transfer_short known (Some A) v l h = (choice (has known (Some X) v) (has known (Some Y) v) (alone ops.Txa) (alone ops.Tya) l txa tya h, refl)
transfer_short known (Some X) v l h = (chosen (has known (Some A) v) (alone ops.Tax) l tax h, refl)
transfer_short known (Some Y) v l h = (chosen (has known (Some A) v) (alone ops.Tay) l tay h, refl)

step_short : (known : Option Note) (r : Option Register) (v : ℕ) (l : Line) → step_for known r v ≡ Some l → IsShort l × (is_some r ≡ true)
step_short known None v l h = absurd cc
step_short known (Some A) v l h = absurd cc
step_short known (Some X) v l h = (choice (has known (Some X) ((v + 255) % 256)) (has known (Some X) ((v + 1) % 256)) (alone ops.Inx) (alone ops.Dex) l inx dex h, refl)
step_short known (Some Y) v l h = (choice (has known (Some Y) ((v + 255) % 256)) (has known (Some Y) ((v + 1) % 256)) (alone ops.Iny) (alone ops.Dey) l iny dey h, refl)

pub transferred_smaller : (known : Option Note) (line l : Line) → transferred known line ≡ Some l → IsQuiet line × IsSmaller line l
transferred_smaller known (Do op Immediate (Byte v)) l h =
    let short = transfer_short known (loaded_by op) v l h in
    (load_quiet op Immediate (Byte v) short.1, smaller op v l short.0)
transferred_smaller known _ l h = absurd cc

pub stepped_smaller : (known : Option Note) (line l : Line) → stepped known line ≡ Some l → IsQuiet line × IsSmaller line l
stepped_smaller known (Do op Immediate (Byte v)) l h =
    let short = step_short known (loaded_by op) v l h in
    (load_quiet op Immediate (Byte v) short.1, smaller op v l short.0)
stepped_smaller known _ l h = absurd cc

-- ---- a load into another register

load_is : (op : Op) → is_some (loaded_by op) ≡ true → (s : Register) × (op ≡ load_op s)
load_is ops.Lda h = (A, refl)
load_is ops.Ldx h = (X, refl)
load_is ops.Ldy h = (Y, refl)
load_is _ h = absurd cc

fit_alike : (s : Register) (mode : Mode) (operand : Operand) → is_common_load mode ≡ true → is_fit (Do (load_op s) mode operand) ≡ is_fit (Do ops.Lda mode operand)
fit_alike A mode operand h = refl
fit_alike X Immediate operand h = refl
fit_alike X ZeroPage operand h = refl
fit_alike X Absolute operand h = refl
fit_alike X _ operand h = absurd cc
fit_alike Y Immediate operand h = refl
fit_alike Y ZeroPage operand h = refl
fit_alike Y Absolute operand h = refl
fit_alike Y _ operand h = absurd cc

same_target : (op next : Op) (mode : Mode) (operand : Operand) → target_of (Do op mode operand) ≡ target_of (Do next mode operand)
same_target op next mode Nothing = refl
same_target op next mode (Byte v) = refl
same_target op next mode (Low s o) = refl
same_target op next mode (High s o) = refl
same_target op next mode (Zero i) = refl
same_target op next mode (At s o) = refl
same_target op next mode (To l) = refl

both_loads : (s r : Register) (mode : Mode) (operand : Operand) (next : Line) → is_common_load mode ≡ true → IsQuiet next → IsBoth (Do (load_op s) mode operand) next (Do (load_op r) mode operand)
both_loads s r mode operand next common quiet = record {
  first = load_quiet (load_op s) mode operand (loads s);
  second = quiet;
  quiet = load_quiet (load_op r) mode operand (loads r);
  fit = λ h. fit_alike r mode operand common ∙ (sym (fit_alike s mode operand common) ∙ h);
  same = same_target (load_op r) (load_op s) mode operand;
  size = omega arith;
  writable = λ n h. h;
}
  where
    loads : (t : Register) → is_some (loaded_by (load_op t)) ≡ true
    loads A = refl
    loads X = refl
    loads Y = refl

load_both : (table : Table) (q : ℕ) (op : Op) (mode : Mode) (operand : Operand) (next l : Line) (r : Option Register) (move : Option Transfer)
    → loaded_by op ≡ r → (is_some move ≡ true → IsQuiet next) → load_for table q mode operand r move ≡ Some l → IsBoth (Do op mode operand) next l
load_both table q op mode operand next l None move e quiet h = absurd cc
load_both table q op mode operand next l (Some r) None e quiet h = absurd cc
load_both table q op mode operand next l (Some r) (Some move) e quiet h =
    tested (is_common_load mode) (is_same_register r move.from && is_dead table q (set_of (part_of r ∷ []))) refl h
  where
    tested : (common rest : Bool) → is_common_load mode ≡ common → (if common && rest then Some (Do (load_op move.to) mode operand) else None) ≡ Some l → IsBoth (Do op mode operand) next l
    tested false rest c h = absurd cc
    tested true false c h = absurd cc
    tested true true c h =
        let is = load_is op (ap is_some e) in
        let same : Do (load_op move.to) mode operand ≡ l = cc in
        subst (IsBoth (Do op mode operand) next) same (subst (λ o. IsBoth (Do o mode operand) next (Do (load_op move.to) mode operand)) (sym is.1) (both_loads is.0 move.to mode operand next c (quiet refl)))

pub loaded_on_both : (table : Table) (q : ℕ) (line next l : Line) → loaded_on table q line next ≡ Some l → IsBoth line next l
loaded_on_both table q (Do op mode operand) (Do after there other) l h = load_both table q op mode operand (Do after there other) l (loaded_by op) (transfer_by after) refl (transfer_quiet after there other) h
loaded_on_both table q _ _ l h = absurd cc
