-- A move by a line that writes only some bytes of the zero page keeps what the others hold.
use Rattle.std.proofs.Common.{◌≡◌, ℕ, ◌⊎◌, inl, inr, ◌||◌, not, Bool, true, false, refl, ap, ◌∙◌}
use Rattle.c65_mach.specs.Step.{Kind, Reads, Stores, Changes, Branches, Registers, Moves as Moving, kind_of, changed, stored, signed}
use Rattle.c65_mach.specs.declared.rows.Op.{Op}
use Rattle.c65_mach.specs.declared.rows.Op.TheVariants as ops
use Rattle.c65_mach.specs.declared.rows.Mode.{Mode}
use Rattle.c65_mach.specs.declared.rows.Mode.TheVariants.{Implied, Accumulator, Immediate, ZeroPage, ZeroPageX, ZeroPageY, Absolute, AbsoluteX, AbsoluteY, IndirectX, IndirectY, Indirect, Relative, ZeroPageIndirect, AbsoluteIndirectX}
use Rattle.c65_code.specs.declared.routine.Routine.{Routine}
use Rattle.c65_code.specs.declared.line.Operand.{Operand}
use Rattle.c65_code.specs.declared.line.Operand.TheVariants.{Nothing, Byte, Low, High, Zero, At, To}
use Rattle.c65_code.specs.Access.{is_written}
use Rattle.c65_code.specs.LineState.{Bytes, write, Place, State}
use Rattle.c65_code.specs.Placement.{Placement, Setting, word_of}
use Rattle.c65_code.specs.Rows.{row_of}
use Rattle.c65_code.specs.Forms.{Form, Mark, Plain, Branch, Jump, Far, Push, Pull, Depth, Return, Run, Enter, Through, Stray, branch_form, jump_form, move_form, op_form}
use Rattle.c65_code.specs.Moves.{Ref, Given, ZeroAt, MemAt, ref_of, value_at, put, change, effect, MeetsRow, Goes}
use Rattle.c65_gen_law_stack.specs.Going.{IsOwn}
use Rattle.c65_gen_law_stack.specs.ZeroPage.{lies_within}

pub or_cases : (a b : Bool) → (a || b) ≡ true → (a ≡ true) ⊎ (b ≡ true)
or_cases true b h = inl refl
or_cases false b h = inr h

-- ---- stores

-- what is read of the zero page stays where one of these bytes is written
abbrev pub Stays : (ℕ → Bool) → (A : Type 0) → (Bytes → A) → Type 0
Stays free A part = (zp : Bytes) (i v : ℕ) → free i ≡ true → part (write zp i v) ≡ part zp

abbrev IsFree : (ℕ → Bool) → Ref → Type 0
IsFree free (ZeroAt i) = free i ≡ true
IsFree free _ = Unit {0}

put_kept : (free : ℕ → Bool) (A : Type 0) (part : Bytes → A) (stays : Stays free A part) (r : Ref) (v : ℕ) (u : State) → IsFree free r → part (put r v u).zp ≡ part u.zp
put_kept free A part stays (Given w) v u ok = refl
put_kept free A part stays (ZeroAt i) v u ok = stays u.zp i v ok
put_kept free A part stays (MemAt b) v u ok = refl

zero_is_free : (free : ℕ → Bool) (place : Placement) (operand : Operand) (t : State) → lies_within free ZeroPage operand ≡ true → IsFree free (ref_of ZeroPage (word_of place operand) t)
zero_is_free free place (Zero i) t h = h
zero_is_free free place Nothing t h = absurd cc
zero_is_free free place (Byte v) t h = absurd cc
zero_is_free free place (Low s o) t h = absurd cc
zero_is_free free place (High s o) t h = absurd cc
zero_is_free free place (At s o) t h = absurd cc
zero_is_free free place (To l) t h = absurd cc

target_is_free : (free : ℕ → Bool) (place : Placement) (mode : Mode) (operand : Operand) (t : State) → lies_within free mode operand ≡ true → IsFree free (ref_of mode (word_of place operand) t)
target_is_free free place ZeroPage operand t h = zero_is_free free place operand t h
target_is_free free place ZeroPageX operand t h = absurd cc
target_is_free free place ZeroPageY operand t h = absurd cc
target_is_free free place Implied operand t h = tt
target_is_free free place Accumulator operand t h = tt
target_is_free free place Immediate operand t h = tt
target_is_free free place Absolute operand t h = tt
target_is_free free place AbsoluteX operand t h = tt
target_is_free free place AbsoluteY operand t h = tt
target_is_free free place IndirectX operand t h = tt
target_is_free free place IndirectY operand t h = tt
target_is_free free place Indirect operand t h = tt
target_is_free free place Relative operand t h = tt
target_is_free free place ZeroPageIndirect operand t h = tt
target_is_free free place AbsoluteIndirectX operand t h = tt

changed_kept : (free : ℕ → Bool) (A : Type 0) (part : Bytes → A) (stays : Stays free A part) (op : Op) (r : Ref) (t : State) → IsFree free r → part (let to = changed op (value_at r t) t.regs in put r to.0 (record t { regs = record (signed to.0 t.regs) { c = to.1 } })).zp ≡ part t.zp
changed_kept free A part stays op r t ok = let to = changed op (value_at r t) t.regs in put_kept free A part stays r to.0 (record t { regs = record (signed to.0 t.regs) { c = to.1 } }) ok

change_kept : (free : ℕ → Bool) (A : Type 0) (part : Bytes → A) (stays : Stays free A part) (op : Op) (mode : Mode) (w : ℕ) (t : State) → IsFree free (ref_of mode w t) → part (change op mode w t).zp ≡ part t.zp
change_kept free A part stays op Accumulator w t ok = refl
change_kept free A part stays op Implied w t ok = changed_kept free A part stays op (ref_of Implied w t) t ok
change_kept free A part stays op Immediate w t ok = changed_kept free A part stays op (ref_of Immediate w t) t ok
change_kept free A part stays op ZeroPage w t ok = changed_kept free A part stays op (ref_of ZeroPage w t) t ok
change_kept free A part stays op ZeroPageX w t ok = changed_kept free A part stays op (ref_of ZeroPageX w t) t ok
change_kept free A part stays op ZeroPageY w t ok = changed_kept free A part stays op (ref_of ZeroPageY w t) t ok
change_kept free A part stays op Absolute w t ok = changed_kept free A part stays op (ref_of Absolute w t) t ok
change_kept free A part stays op AbsoluteX w t ok = changed_kept free A part stays op (ref_of AbsoluteX w t) t ok
change_kept free A part stays op AbsoluteY w t ok = changed_kept free A part stays op (ref_of AbsoluteY w t) t ok
change_kept free A part stays op IndirectX w t ok = changed_kept free A part stays op (ref_of IndirectX w t) t ok
change_kept free A part stays op IndirectY w t ok = changed_kept free A part stays op (ref_of IndirectY w t) t ok
change_kept free A part stays op Indirect w t ok = changed_kept free A part stays op (ref_of Indirect w t) t ok
change_kept free A part stays op Relative w t ok = changed_kept free A part stays op (ref_of Relative w t) t ok
change_kept free A part stays op ZeroPageIndirect w t ok = changed_kept free A part stays op (ref_of ZeroPageIndirect w t) t ok
change_kept free A part stays op AbsoluteIndirectX w t ok = changed_kept free A part stays op (ref_of AbsoluteIndirectX w t) t ok

effect_kept : (free : ℕ → Bool) (A : Type 0) (part : Bytes → A) (stays : Stays free A part) (place : Placement) (kind : Kind) (op : Op) (mode : Mode) (operand : Operand) (t : State) → (not (is_written kind) || lies_within free mode operand) ≡ true → part (effect kind op mode (word_of place operand) t).zp ≡ part t.zp
effect_kept free A part stays place Reads op mode operand t h = refl
effect_kept free A part stays place Stores op mode operand t h = put_kept free A part stays (ref_of mode (word_of place operand) t) (stored op t.regs) t (target_is_free free place mode operand t h)
effect_kept free A part stays place Changes op mode operand t h = change_kept free A part stays op mode (word_of place operand) t (target_is_free free place mode operand t h)
effect_kept free A part stays place Branches op mode operand t h = refl
effect_kept free A part stays place Registers op mode operand t h = refl
effect_kept free A part stays place Moving op mode operand t h = refl

-- ---- one move

-- it writes only these bytes, or calls one of these routines
abbrev pub IsClear : (ℕ → Bool) → (Routine → Bool) → Form → Type 0
IsClear free called (Plain op mode operand) = (not (is_written (kind_of op)) || lies_within free mode operand) ≡ true
IsClear free called (Run r) = called r ≡ true
IsClear free called _ = Unit {0}

branch_clear : (free : ℕ → Bool) (called : Routine → Bool) (op : Op) (operand : Operand) → IsClear free called (branch_form op operand)
branch_clear free called op (To l) = tt
branch_clear free called op Nothing = tt
branch_clear free called op (Byte v) = tt
branch_clear free called op (Low s o) = tt
branch_clear free called op (High s o) = tt
branch_clear free called op (Zero i) = tt
branch_clear free called op (At s o) = tt

jump_clear : (free : ℕ → Bool) (called : Routine → Bool) (operand : Operand) → IsClear free called (jump_form operand)
jump_clear free called (To l) = tt
jump_clear free called Nothing = tt
jump_clear free called (Byte v) = tt
jump_clear free called (Low s o) = tt
jump_clear free called (High s o) = tt
jump_clear free called (Zero i) = tt
jump_clear free called (At s o) = tt

move_clear : (free : ℕ → Bool) (called : Routine → Bool) (op : Op) (operand : Operand) → IsClear free called (move_form op operand)
move_clear free called ops.Jmp operand = jump_clear free called operand
move_clear free called ops.Pha operand = tt
move_clear free called ops.Pla operand = tt
move_clear free called ops.Tsx operand = tt
move_clear free called ops.Rts operand = tt
move_clear free called _ operand = tt

pub op_clear : (free : ℕ → Bool) (called : Routine → Bool) (kind : Kind) (op : Op) (mode : Mode) (operand : Operand) → (not (is_written (kind_of op)) || lies_within free mode operand) ≡ true → IsClear free called (op_form kind op mode operand)
op_clear free called Branches op mode operand h = branch_clear free called op operand
op_clear free called Moving op mode operand h = move_clear free called op operand
op_clear free called Reads op mode operand h = h
op_clear free called Stores op mode operand h = h
op_clear free called Changes op mode operand h = h
op_clear free called Registers op mode operand h = h

pub goes_kept : (free : ℕ → Bool) (A : Type 0) (part : Bytes → A) (stays : Stays free A part) (called : Routine → Bool)
    → ((r : Routine) (t u : State) → called r ≡ true → IsOwn (Run r) → MeetsRow (row_of r t) t u → part u.zp ≡ part t.zp)
    → (s : Setting) (form : Form) (p q : Place) (t u : State) → IsClear free called form → IsOwn form → Goes s form p t q u → part u.zp ≡ part t.zp
goes_kept free A part stays called runs s (Plain op mode operand) p q t u ok own h = ap (λ (x : State). part x.zp) h.1 ∙ effect_kept free A part stays s.place (kind_of op) op mode operand t ok
goes_kept free A part stays called runs s (Branch op l) p q t u ok own h = ap (λ (x : State). part x.zp) h.1
goes_kept free A part stays called runs s (Jump l) p q t u ok own h = ap (λ (x : State). part x.zp) h.1
goes_kept free A part stays called runs s Push p q t u ok own h = ap (λ (x : State). part x.zp) h.1
goes_kept free A part stays called runs s Pull p q t u ok own h = ap (λ (x : State). part x.zp) h.1.3
goes_kept free A part stays called runs s Depth p q t u ok own h = ap (λ (x : State). part x.zp) h.1
goes_kept free A part stays called runs s (Run r) p q t u ok own h = runs r t u ok own h.1
goes_kept free A part stays called runs s Mark p q t u ok own h = absurd own
goes_kept free A part stays called runs s (Far i) p q t u ok own h = absurd own
goes_kept free A part stays called runs s Return p q t u ok own h = absurd own
goes_kept free A part stays called runs s (Enter f reads gives) p q t u ok own h = absurd own
goes_kept free A part stays called runs s (Through reads gives) p q t u ok own h = absurd own
goes_kept free A part stays called runs s Stray p q t u ok own h = absurd own
