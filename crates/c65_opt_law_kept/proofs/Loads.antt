-- Lines of the rules on loads, stores and transfers.
use Rattle.std.proofs.Common.{◌≡◌, ℕ, ◌+◌, ◌%◌, ◌==◌, ◌&&◌, Bool, true, false, if◌then◌else◌, List, [], ◌∷◌, Option, Some, None, refl, subst}
use Rattle.std.specs.Prelude.{slice_get, is_some, drop}
use Rattle.std.proofs.lemmas.Bool.{and_parts}
use Rattle.c65_mach.specs.declared.rows.Op.{Op}
use Rattle.c65_mach.specs.declared.rows.Op.TheVariants as ops
use Rattle.c65_mach.specs.declared.rows.Mode.{Mode}
use Rattle.c65_mach.specs.declared.rows.Mode.TheVariants.{Immediate, ZeroPage}
use Rattle.c65_mach.specs.Step.{kind_of}
use Rattle.c65_code.specs.declared.line.Line.{Line}
use Rattle.c65_code.specs.declared.line.Line.TheVariants.{Do}
use Rattle.c65_code.specs.declared.line.Operand.{Operand}
use Rattle.c65_code.specs.declared.line.Operand.TheVariants.{Byte, Zero}
use Rattle.c65_code.specs.declared.line.Sym.{Sym}
use Rattle.c65_code.specs.declared.parts.RegSet.{RegSet}
use Rattle.c65_code.specs.Forms.{op_form, form_of}
use Rattle.c65_know.specs.declared.note.Note.{Note}
use Rattle.c65_know.specs.Known.{annotated}
use Rattle.c65_code.specs.Parts.{set_of}
use Rattle.c65_live.specs.Tables.{Table, is_dead}
use Rattle.c65_pass.specs.declared.register.Register.{Register}
use Rattle.c65_pass.specs.declared.register.Register.TheVariants.{A, X, Y}
use Rattle.c65_pass.specs.declared.register.Transfer.{Transfer}
use Rattle.c65_pass.specs.LoadRules.{has, is_register_dead, are_one, is_idle_load, is_dead_load, is_reload, is_restore, target, is_dead_transfer, is_value_free, carried, is_idle_transfer, are_back, is_back, transfer_for, transferred, shared, is_idle_byte_load, is_idle_store, step_for, stepped, is_one_place, is_overwritten, is_common_load, load_for, loaded_on, reload, restore, overwritten, back, moved_on}
use Rattle.c65_pass.specs.Registers.{is_same_register, part_of, loaded_by, stored_by, load_op, transfer_by, alone}
use Rattle.c65_pass.specs.Rewriting.{Rewriting}
use Rattle.c65_pass.specs.Rules.{match_at}
use Rattle.c65_opt_law_kept.proofs.Steps.{IsStep}
use Rattle.c65_opt_law_kept.proofs.Kept.{InRow}
use Rattle.c65_opt_law_kept.proofs.Made.{at_line, gone_row, alone_row, last_row, instead_row, instead_one_row}

abbrev IsStepOf : Op → Mode → Operand → Type 0
IsStepOf op mode operand = IsStep (op_form (kind_of op) op mode operand)

loads : (op : Op) (mode : Mode) (operand : Operand) → is_some (loaded_by op) ≡ true → IsStepOf op mode operand
loads ops.Lda mode operand h = tt
loads ops.Ldx mode operand h = tt
loads ops.Ldy mode operand h = tt
loads _ mode operand h = absurd cc

store_op : (op : Op) (mode : Mode) (operand : Operand) → is_some (stored_by op) ≡ true → IsStepOf op mode operand
store_op ops.Sta mode operand h = tt
store_op ops.Stx mode operand h = tt
store_op ops.Sty mode operand h = tt
store_op _ mode operand h = absurd cc

move_op : (op : Op) (mode : Mode) (operand : Operand) → is_some (transfer_by op) ≡ true → IsStepOf op mode operand
move_op ops.Tax mode operand h = tt
move_op ops.Tay mode operand h = tt
move_op ops.Txa mode operand h = tt
move_op ops.Tya mode operand h = tt
move_op _ mode operand h = absurd cc

-- ---- what the conditions tell

has_some : (known : Option Note) (o : Option Register) (v : ℕ) → has known o v ≡ true → is_some o ≡ true
has_some known None v h = absurd cc
has_some known (Some r) v h = refl

dead_some : (table : Table) (q : ℕ) (o : Option Register) → is_register_dead table q o ≡ true → is_some o ≡ true
dead_some table q None h = absurd cc
dead_some table q (Some r) h = refl

target_some : (o : Option Transfer) → is_some (target o) ≡ true → is_some o ≡ true
target_some None h = absurd cc
target_some (Some m) h = refl

free_some : (known : Option Note) (table : Table) (q : ℕ) (o : Option ℕ) → is_value_free known table q o ≡ true → is_some o ≡ true
free_some known table q None h = absurd cc
free_some known table q (Some v) h = refl

carried_some : (known : Option Note) (o : Option Transfer) → is_some (carried known o) ≡ true → is_some o ≡ true
carried_some known None h = absurd cc
carried_some known (Some m) h = refl

shared_some : (known : Option Note) (o : Option Register) (i : ℕ) → is_some (shared known o i) ≡ true → is_some o ≡ true
shared_some known None i h = absurd cc
shared_some known (Some r) i h = refl

both_some : (a b : Option Register) → are_one a b ≡ true → (is_some a ≡ true) × (is_some b ≡ true)
both_some (Some r) (Some q) h = (refl, refl)
both_some _ _ h = absurd cc

back_some : (a b : Option Transfer) → are_back a b ≡ true → (is_some a ≡ true) × (is_some b ≡ true)
back_some (Some m) (Some n) h = (refl, refl)
back_some _ _ h = absurd cc

idle_load_step : (known : Option Note) (table : Table) (q : ℕ) (line : Line) → is_idle_load known table q line ≡ true → IsStep (form_of line)
idle_load_step known table q (Do op Immediate (Byte v)) h = loads op Immediate (Byte v) (has_some known (loaded_by op) v (and_parts (has known (loaded_by op) v) _ h).0)
idle_load_step known table q _ h = absurd cc

dead_load_step : (table : Table) (q : ℕ) (line : Line) → is_dead_load table q line ≡ true → IsStep (form_of line)
dead_load_step table q (Do op mode operand) h = loads op mode operand (dead_some table q (loaded_by op) h)
dead_load_step table q _ h = absurd cc

reload_step : (table : Table) (q : ℕ) (line next : Line) → is_reload table q line next ≡ true → IsStep (form_of line) × IsStep (form_of next)
reload_step table q (Do op mode operand) (Do next there other) h = let both = both_some (stored_by op) (loaded_by next) (and_parts (are_one (stored_by op) (loaded_by next)) _ h).0 in (store_op op mode operand both.0, loads next there other both.1)
reload_step table q _ _ h = absurd cc

restore_step : (line next : Line) → is_restore line next ≡ true → IsStep (form_of line) × IsStep (form_of next)
restore_step (Do op mode operand) (Do next there other) h = let both = both_some (loaded_by op) (stored_by next) (and_parts (are_one (loaded_by op) (stored_by next)) _ h).0 in (loads op mode operand both.0, store_op next there other both.1)
restore_step _ _ h = absurd cc

dead_transfer_step : (table : Table) (q : ℕ) (line : Line) → is_dead_transfer table q line ≡ true → IsStep (form_of line)
dead_transfer_step table q (Do op mode operand) h = move_op op mode operand (target_some (transfer_by op) (dead_some table q (target (transfer_by op)) h))
dead_transfer_step table q _ h = absurd cc

idle_transfer_step : (known : Option Note) (table : Table) (q : ℕ) (line : Line) → is_idle_transfer known table q line ≡ true → IsStep (form_of line)
idle_transfer_step known table q (Do op mode operand) h = move_op op mode operand (carried_some known (transfer_by op) (free_some known table q (carried known (transfer_by op)) h))
idle_transfer_step known table q _ h = absurd cc

back_step : (line next : Line) → is_back line next ≡ true → IsStep (form_of line) × IsStep (form_of next)
back_step (Do op mode operand) (Do next there other) h = let both = back_some (transfer_by op) (transfer_by next) h in (move_op op mode operand both.0, move_op next there other both.1)
back_step _ _ h = absurd cc

idle_byte_load_step : (known : Option Note) (table : Table) (q : ℕ) (line : Line) → is_idle_byte_load known table q line ≡ true → IsStep (form_of line)
idle_byte_load_step known table q (Do op ZeroPage (Zero i)) h = loads op ZeroPage (Zero i) (shared_some known (loaded_by op) i (free_some known table q (shared known (loaded_by op) i) h))
idle_byte_load_step known table q _ h = absurd cc

idle_store_step : (known : Option Note) (line : Line) → is_idle_store known line ≡ true → IsStep (form_of line)
idle_store_step known (Do op ZeroPage (Zero i)) h = store_op op ZeroPage (Zero i) (shared_some known (stored_by op) i h)
idle_store_step known _ h = absurd cc

overwritten_step : (line next : Line) → is_overwritten line next ≡ true → IsStep (form_of line) × IsStep (form_of next)
overwritten_step (Do op mode operand) (Do next there other) h =
    let one = and_parts (is_some (stored_by op)) _ h in
    (store_op op mode operand one.0, store_op next there other (and_parts (is_some (stored_by next)) (is_one_place mode operand there other) one.1).0)
overwritten_step _ _ h = absurd cc

-- ---- lines that are made

-- a line that one of these conditions makes
made_if : (b c : Bool) (first second l : Line) → (if b then Some first else (if c then Some second else None)) ≡ Some l → IsStep (form_of first) → IsStep (form_of second) → IsStep (form_of l)
made_if true c first second l e f g = let is : first ≡ l = cc in subst (λ (x : Line). IsStep (form_of x)) is f
made_if false true first second l e f g = let is : second ≡ l = cc in subst (λ (x : Line). IsStep (form_of x)) is g
made_if false false first second l e f g = absurd cc

made_one : (b : Bool) (first l : Line) → (if b then Some first else None) ≡ Some l → IsStep (form_of first) → IsStep (form_of l)
made_one true first l e f = let is : first ≡ l = cc in subst (λ (x : Line). IsStep (form_of x)) is f
made_one false first l e f = absurd cc

register_load : (r : Register) (mode : Mode) (operand : Operand) → IsStep (form_of (Do (load_op r) mode operand))
register_load A mode operand = tt
register_load X mode operand = tt
register_load Y mode operand = tt

load_made : (table : Table) (q : ℕ) (mode : Mode) (operand : Operand) (o : Option Register) (p : Option Transfer) (l : Line) → load_for table q mode operand o p ≡ Some l → (is_some o ≡ true) × (is_some p ≡ true) × IsStep (form_of l)
load_made table q mode operand None p l e = absurd cc
load_made table q mode operand (Some r) None l e = absurd cc
load_made table q mode operand (Some r) (Some m) l e = (refl, refl, made_one (is_common_load mode && (is_same_register r m.from && is_dead table q (set_of (part_of r ∷ [])))) (Do (load_op m.to) mode operand) l e (register_load m.to mode operand))

moved_on_step : (table : Table) (q : ℕ) (line next l : Line) → loaded_on table q line next ≡ Some l → IsStep (form_of line) × IsStep (form_of next) × IsStep (form_of l)
moved_on_step table q (Do op mode operand) (Do next there other) l e = let made = load_made table q mode operand (loaded_by op) (transfer_by next) l e in (loads op mode operand made.0, move_op next there other made.1, made.2)
moved_on_step table q _ _ l e = absurd cc

transfer_made : (known : Option Note) (o : Option Register) (v : ℕ) (l : Line) → transfer_for known o v ≡ Some l → (is_some o ≡ true) × IsStep (form_of l)
transfer_made known (Some A) v l e = (refl, made_if (has known (Some X) v) (has known (Some Y) v) (alone ops.Txa) (alone ops.Tya) l e tt tt)
transfer_made known (Some X) v l e = (refl, made_one (has known (Some A) v) (alone ops.Tax) l e tt)
transfer_made known (Some Y) v l e = (refl, made_one (has known (Some A) v) (alone ops.Tay) l e tt)
transfer_made known None v l e = absurd cc

transferred_step : (known : Option Note) (line l : Line) → transferred known line ≡ Some l → IsStep (form_of line) × IsStep (form_of l)
transferred_step known (Do op Immediate (Byte v)) l e = let both = transfer_made known (loaded_by op) v l e in (loads op Immediate (Byte v) both.0, both.1)
transferred_step known _ l e = absurd cc

step_made : (known : Option Note) (o : Option Register) (v : ℕ) (l : Line) → step_for known o v ≡ Some l → (is_some o ≡ true) × IsStep (form_of l)
step_made known (Some X) v l e = (refl, made_if (has known (Some X) ((v + 255) % 256)) (has known (Some X) ((v + 1) % 256)) (alone ops.Inx) (alone ops.Dex) l e tt tt)
step_made known (Some Y) v l e = (refl, made_if (has known (Some Y) ((v + 255) % 256)) (has known (Some Y) ((v + 1) % 256)) (alone ops.Iny) (alone ops.Dey) l e tt tt)
step_made known _ v l e = absurd cc

stepped_step : (known : Option Note) (line l : Line) → stepped known line ≡ Some l → IsStep (form_of line) × IsStep (form_of l)
stepped_step known (Do op Immediate (Byte v)) l e = let both = step_made known (loaded_by op) v l e in (loads op Immediate (Byte v) both.0, both.1)
stepped_step known _ l e = absurd cc

-- ---- the rules

module _ (out : RegSet) (literals : List (Sym × List ℕ)) (lines : List Line) (table : Table) (at : ℕ) (w : Rewriting) where
  abbrev note : Option Note
  note = slice_get (annotated lines out).notes at

  pub idle_load_row : match_at 10 literals (annotated lines out) table at ≡ Some w → InRow lines at w
  idle_load_row m = at_line 10 out literals lines table at w (λ line post e k. gone_row lines at line post w (is_idle_load note table at line) e (idle_load_step note table at line) k) m

  pub dead_load_row : match_at 11 literals (annotated lines out) table at ≡ Some w → InRow lines at w
  dead_load_row m = at_line 11 out literals lines table at w (λ line post e k. gone_row lines at line post w (is_dead_load table at line) e (dead_load_step table at line) k) m

  reloaded : (line : Line) (post : List Line) → drop at lines ≡ line ∷ post → reload table at line post ≡ Some w → InRow lines at w
  reloaded line [] e k = absurd cc
  reloaded line (next ∷ post) e k = alone_row lines at line next post w (is_reload table (at + 1) line next) e (reload_step table (at + 1) line next) k

  pub reload_row : match_at 13 literals (annotated lines out) table at ≡ Some w → InRow lines at w
  reload_row m = at_line 13 out literals lines table at w reloaded m

  restored : (line : Line) (post : List Line) → drop at lines ≡ line ∷ post → restore at line post ≡ Some w → InRow lines at w
  restored line [] e k = absurd cc
  restored line (next ∷ post) e k = alone_row lines at line next post w (is_restore line next) e (restore_step line next) k

  pub restore_row : match_at 14 literals (annotated lines out) table at ≡ Some w → InRow lines at w
  restore_row m = at_line 14 out literals lines table at w restored m

  pub dead_transfer_row : match_at 16 literals (annotated lines out) table at ≡ Some w → InRow lines at w
  dead_transfer_row m = at_line 16 out literals lines table at w (λ line post e k. gone_row lines at line post w (is_dead_transfer table at line) e (dead_transfer_step table at line) k) m

  pub idle_transfer_row : match_at 17 literals (annotated lines out) table at ≡ Some w → InRow lines at w
  idle_transfer_row m = at_line 17 out literals lines table at w (λ line post e k. gone_row lines at line post w (is_idle_transfer note table at line) e (idle_transfer_step note table at line) k) m

  moved_back : (line : Line) (post : List Line) → drop at lines ≡ line ∷ post → back at line post ≡ Some w → InRow lines at w
  moved_back line [] e k = absurd cc
  moved_back line (next ∷ post) e k = alone_row lines at line next post w (is_back line next) e (back_step line next) k

  pub back_row : match_at 18 literals (annotated lines out) table at ≡ Some w → InRow lines at w
  back_row m = at_line 18 out literals lines table at w moved_back m

  pub transferred_row : match_at 19 literals (annotated lines out) table at ≡ Some w → InRow lines at w
  transferred_row m = at_line 19 out literals lines table at w (λ line post e k. instead_one_row lines at line post w (transferred note line) e (transferred_step note line) k) m

  pub idle_byte_load_row : match_at 20 literals (annotated lines out) table at ≡ Some w → InRow lines at w
  idle_byte_load_row m = at_line 20 out literals lines table at w (λ line post e k. gone_row lines at line post w (is_idle_byte_load note table at line) e (idle_byte_load_step note table at line) k) m

  pub idle_store_row : match_at 21 literals (annotated lines out) table at ≡ Some w → InRow lines at w
  idle_store_row m = at_line 21 out literals lines table at w (λ line post e k. gone_row lines at line post w (is_idle_store note line) e (idle_store_step note line) k) m

  pub stepped_row : match_at 22 literals (annotated lines out) table at ≡ Some w → InRow lines at w
  stepped_row m = at_line 22 out literals lines table at w (λ line post e k. instead_one_row lines at line post w (stepped note line) e (stepped_step note line) k) m

  covered : (line : Line) (post : List Line) → drop at lines ≡ line ∷ post → overwritten at line post ≡ Some w → InRow lines at w
  covered line [] e k = absurd cc
  covered line (next ∷ post) e k = last_row lines at line next post w (is_overwritten line next) e (overwritten_step line next) k

  pub overwritten_row : match_at 15 literals (annotated lines out) table at ≡ Some w → InRow lines at w
  overwritten_row m = at_line 15 out literals lines table at w covered m

  moved : (line : Line) (post : List Line) → drop at lines ≡ line ∷ post → moved_on table at line post ≡ Some w → InRow lines at w
  moved line [] e k = absurd cc
  moved line (next ∷ post) e k = instead_row lines at line next post w (loaded_on table (at + 1) line next) e (moved_on_step table (at + 1) line next) k

  pub moved_on_row : match_at 23 literals (annotated lines out) table at ≡ Some w → InRow lines at w
  moved_on_row m = at_line 23 out literals lines table at w moved m
