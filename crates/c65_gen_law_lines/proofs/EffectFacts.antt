-- What is so of the forms for effects: sides that take no lines are idle, and instructions count where they reach.
use Rattle.std.proofs.Common.{◌≡◌, ℕ, ℤ, ◌==◌, ◌≤◌, Bool, true, false, Option, Some, None, List, refl, arith}
use Rattle.std.specs.Prelude.{◌&&◌, if◌then◌else◌, option_map, option_and_then}
use Rattle.c65_base.specs.declared.operators.BinaryOp.{BinaryOp}
use Rattle.c65_base.specs.declared.operators.StepKind.{StepKind}
use Rattle.c65_base.specs.declared.operators.StepKind.TheVariants.{PreInc, PreDec, PostInc, PostDec}
use Rattle.c65_csem.specs.Trees.{Typed, node, constant, null}
use Rattle.c65_genframe.specs.Frames.{Framed}
use Rattle.c65_genload.specs.declared.places.Place.{Place}
use Rattle.c65_genload.specs.declared.places.Place.TheVariants as places
use Rattle.c65_genload.specs.declared.places.Access.{Access}
use Rattle.c65_genload.specs.Numbers.{first, second}
use Rattle.c65_genexpr.specs.Operands.{constant_in}
use Rattle.c65_genexpr.specs.declared.operands.Operands.{Operands}
use Rattle.c65_genexpr.specs.declared.operating.Form.{Form}
use Rattle.c65_genexpr.specs.Operating.{takes_bytes, constant_right}
use Rattle.c65_genexpr.specs.Direct.{is_pure}
use Rattle.c65_genchange.specs.declared.spots.Target.{Target}
use Rattle.c65_genchange.specs.declared.spots.Target.TheVariants.{Byte, Word}
use Rattle.c65_genchange.specs.declared.changes.Change.{Change}
use Rattle.c65_genchange.specs.declared.changes.Change.TheVariants.{Up, Down, Number, Operand}
use Rattle.c65_geneffect.specs.declared.changing.Changing.{Changing}
use Rattle.c65_geneffect.specs.declared.changing.Changing.TheVariants.{Fixed, Loaded, Computed, Otherwise}
use Rattle.c65_geneffect.specs.declared.changing.Fill.{Fill}
use Rattle.c65_genchange.specs.Spots.{all_counted, target_of}
use Rattle.c65_genchange.specs.Stepping.{step_op}
use Rattle.c65_geneffect.specs.declared.setting.Setting.{Setting}
use Rattle.c65_geneffect.specs.declared.setting.Setting.TheVariants as settings
use Rattle.c65_genload.specs.declared.places.Field.{Field}
use Rattle.c65_genload.specs.declared.places.Access.TheVariants.{Whole, Part}
use Rattle.c65_genload.specs.Fields.{is_in_byte}
use Rattle.c65_genexpr.specs.Operating.{is_light}
use Rattle.c65_geneffect.specs.Setting.{setting_at, setting_by, setting_of}
use Rattle.c65_geneffect.specs.Changing.{counting, step_by, stepping_of, loaded_by, fixed_or, computed_or, computed_by, changing_in, changing_of, number_in, fill_by, filling_at, filling_of}
use Rattle.c65_gen_law_lines.proofs.Drops.{Idle, IsSmall, Taken, constant_taken}
use Rattle.c65_gen_law_lines.proofs.EffectForms.{IsSound}
use Rattle.c65_gen_law_lines.proofs.Pieces.{by_access}
use Rattle.c65_gen_law_lines.proofs.StackPieces.{holding}

-- ---- `++` and `--`

abbrev pub IsStep : Option Change → Type 0
IsStep None = Unit {0}
IsStep (Some change) = IsSound change

counting_sound : (how : StepKind) (target : Target) → all_counted target ≡ true → IsSound (counting how target)
counting_sound PreInc target h = h
counting_sound PreDec target h = h
counting_sound PostInc target h = h
counting_sound PostDec target h = h

step_sound : (how : StepKind) (size : ℕ) (target : Target) → IsSound (step_by how size target)
step_sound how size target = go (all_counted target) refl
  where
    go : (b : Bool) → all_counted target ≡ b → IsSound (if (size == 1) && b then counting how target else Number (step_op how) size target)
    go false h = if_second (size == 1)
      where
        if_second : (c : Bool) → IsSound (if c && false then counting how target else Number (step_op how) size target)
        if_second true = tt
        if_second false = tt
    go true h = if_first (size == 1)
      where
        if_first : (c : Bool) → IsSound (if c && true then counting how target else Number (step_op how) size target)
        if_first true = counting_sound how target h
        if_first false = tt

stepped : (how : StepKind) (size : ℕ) (t : Option Target) → IsStep (option_map (step_by how size) t)
stepped how size None = tt
stepped how size (Some target) = step_sound how size target

pub stepping_sound : (how : StepKind) (size : ℕ) (place : Place) (access : Access) → IsStep (stepping_of how size place access)
stepping_sound how size place access = stepped how size (target_of place access)

-- ---- assignments with an operator

-- a place whose address does not wait, and which is no part of a unit
pub record Settled (place : Place) (access : Access) : Type 0 where
  pub waits : (v : List ℕ) → holding place v ≡ v
  pub load : by_access 19 36 access ≤ 19
  pub store : by_access 19 86 access ≤ 19

-- what is so of a right side whose lines are not taken, and of the form
abbrev pub Unneeded : Changing → Place → Access → Type 0 → Type 0
Unneeded (Fixed change) place access B = IsSound change × B
Unneeded (Loaded change) place access B = IsSound change
Unneeded (Computed form) place access B = Settled place access × (IsSmall form × B)
Unneeded Otherwise place access B = Unit {0}

loaded_if : (B : Type 0) (place : Place) (access : Access) (c : Bool) (op : BinaryOp) (target : Target) → Unneeded (if c then Loaded (Operand op target) else Otherwise) place access B
loaded_if B place access true op target = tt
loaded_if B place access false op target = tt

loaded_unneeded : (B : Type 0) (access : Access) (pure : Bool) (op : BinaryOp) (size : ℕ) (place : Place) (target : Target) → Unneeded (loaded_by pure op size place target) place access B
loaded_unneeded B access pure op size (places.Far at) target = tt
loaded_unneeded B access pure op size (places.Bank b) target = loaded_if B (places.Bank b) access (pure && (size == 1)) op target
loaded_unneeded B access pure op size (places.Near at) target = loaded_if B (places.Near at) access (pure && (size == 1)) op target
loaded_unneeded B access pure op size (places.Data s at) target = loaded_if B (places.Data s at) access (pure && (size == 1)) op target

fixed_unneeded : (B : Type 0) (place : Place) (access : Access) (op : BinaryOp) (size : ℕ) (target : Target) (z : Option ℤ) (other : Changing) → ((y : ℤ) → z ≡ Some y → B) → Unneeded other place access B → Unneeded (fixed_or op size target z other) place access B
fixed_unneeded B place access op size target None other b p = p
fixed_unneeded B place access op size target (Some z) other b p = (tt, b z refl)

computed_if : (B : Type 0) (place : Place) (access : Access) (o : Option Form) → Settled place access → Taken o B → Unneeded (computed_or o) place access B
computed_if B place access None settled p = tt
computed_if B place access (Some form) settled p = (settled, p)

computed_unneeded : (B : Type 0) (op : BinaryOp) (operands : Operands) (place : Place) (access : Access) (e : Typed) → ((z : ℤ) → constant_in e ≡ Some z → B) → Unneeded (computed_by op operands place access e) place access B
computed_unneeded B op operands (places.Far at) access e b = tt
computed_unneeded B op operands (places.Bank x) (Part field) e b = tt
computed_unneeded B op operands (places.Near at) (Part field) e b = tt
computed_unneeded B op operands (places.Data s at) (Part field) e b = tt
computed_unneeded B op operands (places.Bank x) (Whole kind) e b = computed_if B (places.Bank x) (Whole kind) (constant_right op operands e) (record { waits = λ v. refl; load = omega arith; store = omega arith }) (constant_taken op operands (constant_in e) b)
computed_unneeded B op operands (places.Near at) (Whole kind) e b = computed_if B (places.Near at) (Whole kind) (constant_right op operands e) (record { waits = λ v. refl; load = omega arith; store = omega arith }) (constant_taken op operands (constant_in e) b)
computed_unneeded B op operands (places.Data s at) (Whole kind) e b = computed_if B (places.Data s at) (Whole kind) (constant_right op operands e) (record { waits = λ v. refl; load = omega arith; store = omega arith }) (constant_taken op operands (constant_in e) b)

in_unneeded : (B : Type 0) (op : BinaryOp) (operands : Operands) (size : ℕ) (place : Place) (access : Access) (e : Typed) (t : Option Target) → ((z : ℤ) → constant_in e ≡ Some z → B) → Unneeded (changing_in op operands size place access e t) place access B
in_unneeded B op operands size place access e None b = computed_unneeded B op operands place access e b
in_unneeded B op operands size place access e (Some target) b = fixed_unneeded B place access op size target (constant_in e) (loaded_by (is_pure e) op size place target) b (loaded_unneeded B access (is_pure e) op size place target)

unneeded_if : (B : Type 0) (place : Place) (access : Access) (c : Bool) (how other : Changing) → Unneeded how place access B → Unneeded other place access B → Unneeded (if c then how else other) place access B
unneeded_if B place access true how other p q = p
unneeded_if B place access false how other p q = q

pub changing_unneeded : (B : Type 0) (op : BinaryOp) (operands : Operands) (size : ℕ) (place : Place) (access : Access) (e : Typed) → ((z : ℤ) → constant_in e ≡ Some z → B) → Unneeded (changing_of op operands size place access e) place access B
changing_unneeded B op operands size place access e b =
    unneeded_if B place access (takes_bytes op) (changing_in op operands size place access e (target_of place access)) (computed_by op operands place access e) (in_unneeded B op operands size place access e (target_of place access) b) (computed_unneeded B op operands place access e b)

-- ---- `=`

abbrev pub Unfilled : Option Fill → Type 0 → Type 0
Unfilled (Some fill) B = B
Unfilled None B = Unit {0}

any_fill : (B : Type 0) (fill : Option Fill) → B → Unfilled fill B
any_fill B None b = tt
any_fill B (Some fill) b = b

filled_at : (B : Type 0) (place : Place) (access : Access) (n : Option ℕ) → ((m : ℕ) → n ≡ Some m → B) → Unfilled (filling_at place access n) B
filled_at B place access None b = tt
filled_at B place access (Some n) b = any_fill B (option_and_then (fill_by n) (target_of place access)) (b n refl)

pub number_idle : (f : Framed) (e : Typed) (n : ℕ) → number_in e ≡ Some n → Idle f e
number_idle f (node t (constant z)) n h = record { uses = refl; calls = refl }
number_idle f (node t null) n h = record { uses = refl; calls = refl }
number_idle f (node t _) n h = absurd cc

pub filling_unneeded : (B : Type 0) (place : Place) (access : Access) (e : Typed) → ((n : ℕ) → number_in e ≡ Some n → B) → Unfilled (filling_of place access e) B
filling_unneeded B (places.Far at) access e b = tt
filling_unneeded B (places.Bank x) access e b = filled_at B (places.Bank x) access (number_in e) b
filling_unneeded B (places.Near at) access e b = filled_at B (places.Near at) access (number_in e) b
filling_unneeded B (places.Data s at) access e b = filled_at B (places.Data s at) access (number_in e) b

-- ---- `=` on a bit-field

-- what is so of a right side whose lines are not taken
abbrev pub Unset : Setting → Type 0 → Type 0
Unset (settings.Number g n) B = B
Unset (settings.Held g at) B = Unit {0}
Unset (settings.Loaded g) B = Unit {0}
Unset settings.Otherwise B = Unit {0}

value_unset : (B : Type 0) (place : Place) (g : Field) (light : Bool) → Unset (setting_at place g None light) B
value_unset B (places.Far at) g true = tt
value_unset B (places.Far at) g false = tt
value_unset B (places.Bank b) g light = tt
value_unset B (places.Near at) g light = tt
value_unset B (places.Data s at) g light = tt

field_unset : (B : Type 0) (place : Place) (g : Field) (n : Option ℕ) (near : Bool) → ((m : ℕ) → n ≡ Some m → B) → Unset (setting_at place g n near) B
field_unset B place g None near b = value_unset B place g near
field_unset B place g (Some n) near b = b n refl

set_unset : (B : Type 0) (place : Place) (access : Access) (n : Option ℕ) (light : Bool) → ((m : ℕ) → n ≡ Some m → B) → Unset (setting_by access place n light) B
set_unset B place (Whole kind) n light b = tt
set_unset B place (Part g) n light b = field_unset B place g n (is_in_byte g && light) b

pub setting_unset : (B : Type 0) (f : Framed) (pushed : ℕ) (place : Place) (access : Access) (e : Typed) → ((n : ℕ) → number_in e ≡ Some n → B) → Unset (setting_of f pushed place access e) B
setting_unset B f pushed place access e b = set_unset B place access (number_in e) (is_light f pushed e) b

-- ---- what is so of the bytes at a place is so of those that are changed

abbrev pub target_in : Change → Target
target_in (Up target) = target
target_in (Down target) = target
target_in (Number op n target) = target
target_in (Operand op target) = target

abbrev pub OfAny : (Target → Type 0) → Option Target → Type 0
OfAny P None = Unit {0}
OfAny P (Some target) = P target

abbrev pub OfStep : (Target → Type 0) → Option Change → Type 0
OfStep P None = Unit {0}
OfStep P (Some change) = P (target_in change)

abbrev pub OfChanging : (Target → Type 0) → Changing → Type 0
OfChanging P (Fixed change) = P (target_in change)
OfChanging P (Loaded change) = P (target_in change)
OfChanging P (Computed form) = Unit {0}
OfChanging P Otherwise = Unit {0}

abbrev pub OfFill : (Target → Type 0) → Option Fill → Type 0
OfFill P None = Unit {0}
OfFill P (Some fill) = P (Word fill.low fill.high)

counting_target : (P : Target → Type 0) (how : StepKind) (target : Target) → P target → P (target_in (counting how target))
counting_target P PreInc target p = p
counting_target P PreDec target p = p
counting_target P PostInc target p = p
counting_target P PostDec target p = p

either_target : (P : Target → Type 0) (b : Bool) (x y : Change) → P (target_in x) → P (target_in y) → P (target_in (if b then x else y))
either_target P true x y p q = p
either_target P false x y p q = q

stepped_target : (P : Target → Type 0) (how : StepKind) (size : ℕ) (t : Option Target) → OfAny P t → OfStep P (option_map (step_by how size) t)
stepped_target P how size None p = tt
stepped_target P how size (Some target) p = either_target P ((size == 1) && all_counted target) (counting how target) (Number (step_op how) size target) (counting_target P how target p) p

pub stepping_target : (P : Target → Type 0) (how : StepKind) (size : ℕ) (place : Place) (access : Access) → OfAny P (target_of place access) → OfStep P (stepping_of how size place access)
stepping_target P how size place access p = stepped_target P how size (target_of place access) p

loaded_target : (P : Target → Type 0) (b : Bool) (op : BinaryOp) (target : Target) → P target → OfChanging P (if b then Loaded (Operand op target) else Otherwise)
loaded_target P true op target p = p
loaded_target P false op target p = tt

loading_target : (P : Target → Type 0) (pure : Bool) (op : BinaryOp) (size : ℕ) (place : Place) (target : Target) → P target → OfChanging P (loaded_by pure op size place target)
loading_target P pure op size (places.Far at) target p = tt
loading_target P pure op size (places.Bank b) target p = loaded_target P (pure && (size == 1)) op target p
loading_target P pure op size (places.Near at) target p = loaded_target P (pure && (size == 1)) op target p
loading_target P pure op size (places.Data s at) target p = loaded_target P (pure && (size == 1)) op target p

fixed_target : (P : Target → Type 0) (op : BinaryOp) (size : ℕ) (target : Target) (z : Option ℤ) (other : Changing) → P target → OfChanging P other → OfChanging P (fixed_or op size target z other)
fixed_target P op size target None other p q = q
fixed_target P op size target (Some z) other p q = p

computed_target : (P : Target → Type 0) (o : Option Form) → OfChanging P (computed_or o)
computed_target P None = tt
computed_target P (Some form) = tt

computing_target : (P : Target → Type 0) (op : BinaryOp) (operands : Operands) (place : Place) (access : Access) (e : Typed) → OfChanging P (computed_by op operands place access e)
computing_target P op operands (places.Far at) access e = tt
computing_target P op operands (places.Bank b) (Part field) e = tt
computing_target P op operands (places.Near at) (Part field) e = tt
computing_target P op operands (places.Data s at) (Part field) e = tt
computing_target P op operands (places.Bank b) (Whole kind) e = computed_target P (constant_right op operands e)
computing_target P op operands (places.Near at) (Whole kind) e = computed_target P (constant_right op operands e)
computing_target P op operands (places.Data s at) (Whole kind) e = computed_target P (constant_right op operands e)

changed_target : (P : Target → Type 0) (op : BinaryOp) (operands : Operands) (size : ℕ) (place : Place) (access : Access) (e : Typed) (t : Option Target) → OfAny P t → OfChanging P (changing_in op operands size place access e t)
changed_target P op operands size place access e None p = computing_target P op operands place access e
changed_target P op operands size place access e (Some target) p = fixed_target P op size target (constant_in e) (loaded_by (is_pure e) op size place target) p (loading_target P (is_pure e) op size place target p)

changing_if : (P : Target → Type 0) (b : Bool) (how other : Changing) → OfChanging P how → OfChanging P other → OfChanging P (if b then how else other)
changing_if P true how other p q = p
changing_if P false how other p q = q

pub changing_target : (P : Target → Type 0) (op : BinaryOp) (operands : Operands) (size : ℕ) (place : Place) (access : Access) (e : Typed) → OfAny P (target_of place access) → OfChanging P (changing_of op operands size place access e)
changing_target P op operands size place access e p =
    changing_if P (takes_bytes op) (changing_in op operands size place access e (target_of place access)) (computed_by op operands place access e) (changed_target P op operands size place access e (target_of place access) p) (computing_target P op operands place access e)

fill_if : (P : Target → Type 0) (b : Bool) (fill : Fill) → P (Word fill.low fill.high) → OfFill P (if b then Some fill else None)
fill_if P true fill p = p
fill_if P false fill p = tt

fill_target : (P : Target → Type 0) (n : ℕ) (t : Option Target) → OfAny P t → OfFill P (option_and_then (fill_by n) t)
fill_target P n None p = tt
fill_target P n (Some (Byte low)) p = tt
fill_target P n (Some (Word low high)) p = fill_if P (first n == second n) (record { byte = first n; low = low; high = high }) p

filled_target : (P : Target → Type 0) (place : Place) (access : Access) (n : Option ℕ) → OfAny P (target_of place access) → OfFill P (filling_at place access n)
filled_target P place access None p = tt
filled_target P place access (Some n) p = fill_target P n (target_of place access) p

pub filling_target : (P : Target → Type 0) (place : Place) (access : Access) (e : Typed) → OfAny P (target_of place access) → OfFill P (filling_of place access e)
filling_target P (places.Far at) access e p = tt
filling_target P (places.Bank b) access e p = filled_target P (places.Bank b) access (number_in e) p
filling_target P (places.Near at) access e p = filled_target P (places.Near at) access (number_in e) p
filling_target P (places.Data s at) access e p = filled_target P (places.Data s at) access (number_in e) p
