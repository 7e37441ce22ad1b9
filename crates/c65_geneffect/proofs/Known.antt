-- Sides that take no lines have no labels.
use Rattle.std.proofs.Common.{◌≡◌, ℕ, ℤ, Bool, true, false, ◌==◌, Option, Some, None, refl}
use Rattle.std.specs.Prelude.{◌&&◌, if◌then◌else◌, option_and_then}
use Rattle.c65_base.specs.declared.operators.BinaryOp.{BinaryOp}
use Rattle.c65_csem.specs.Trees.{Typed, node, constant, null}
use Rattle.c65_genload.specs.declared.places.Place.{Place}
use Rattle.c65_genload.specs.declared.places.Place.TheVariants as places
use Rattle.c65_genload.specs.declared.places.Access.{Access}
use Rattle.c65_genexpr.specs.Operands.{constant_in}
use Rattle.c65_genexpr.specs.declared.operands.Operands.{Operands}
use Rattle.c65_genexpr.specs.declared.operating.Form.{Form}
use Rattle.c65_genexpr.specs.Operating.{takes_bytes, constant_right, is_light}
use Rattle.c65_genexpr.specs.Direct.{is_pure}
use Rattle.c65_genexpr.specs.Uses.{uses}
use Rattle.c65_genexpr.proofs.Known.{IsThere, after_there, constant_uses}
use Rattle.c65_genchange.specs.declared.spots.Target.{Target}
use Rattle.c65_genchange.specs.declared.changes.Change.TheVariants.{Operand}
use Rattle.c65_geneffect.specs.declared.changing.Changing.{Changing}
use Rattle.c65_geneffect.specs.declared.changing.Changing.TheVariants.{Loaded, Otherwise}
use Rattle.c65_geneffect.specs.declared.changing.Fill.{Fill}
use Rattle.c65_genchange.specs.Spots.{target_of}
use Rattle.c65_genframe.specs.Frames.{Framed}
use Rattle.c65_genload.specs.declared.places.Field.{Field}
use Rattle.c65_genload.specs.declared.places.Access.TheVariants.{Whole, Part}
use Rattle.c65_genload.specs.Fields.{is_in_byte}
use Rattle.c65_geneffect.specs.Setting.{setting_at, setting_by, setting_of, SetsFree}
use Rattle.c65_geneffect.specs.Changing.{loaded_by, fixed_or, computed_or, computed_by, changing_at, changing_in, changing_of, number_in, fill_by, filling_at, filling_of, ChangesFree, FillsFree}

-- ---- assignments with an operator

loaded_if : (c : Bool) (op : BinaryOp) (target : Target) (b : Typed) → ChangesFree (if c then Loaded (Operand op target) else Otherwise) b
loaded_if true op target b = tt
loaded_if false op target b = tt

loaded_free : (pure : Bool) (op : BinaryOp) (size : ℕ) (place : Place) (target : Target) (b : Typed) → ChangesFree (loaded_by pure op size place target) b
loaded_free pure op size (places.Far at) target b = tt
loaded_free pure op size (places.Bank x) target b = loaded_if (pure && (size == 1)) op target b
loaded_free pure op size (places.Near at) target b = loaded_if (pure && (size == 1)) op target b
loaded_free pure op size (places.Data s at) target b = loaded_if (pure && (size == 1)) op target b

constant_free : (b : Typed) (z : ℤ) → constant_in b ≡ Some z → uses None b ≡ 0
constant_free (node t (constant y)) z h = refl
constant_free (node t _) z h = absurd cc

fixed_free : (op : BinaryOp) (size : ℕ) (target : Target) (z : Option ℤ) (other : Changing) (b : Typed) → ((y : ℤ) → z ≡ Some y → uses None b ≡ 0) → ChangesFree other b → ChangesFree (fixed_or op size target z other) b
fixed_free op size target None other b h p = p
fixed_free op size target (Some z) other b h p = h z refl

computed_free_or : (form : Option Form) (b : Typed) → (IsThere form → uses None b ≡ 0) → ChangesFree (computed_or form) b
computed_free_or (Some form) b free = free tt
computed_free_or None b free = tt

computed_free : (op : BinaryOp) (operands : Operands) (place : Place) (access : Access) (b : Typed) → ChangesFree (computed_by op operands place access b) b
computed_free op operands (places.Far at) access b = tt
computed_free op operands (places.Bank x) (Part field) b = tt
computed_free op operands (places.Near at) (Part field) b = tt
computed_free op operands (places.Data s at) (Part field) b = tt
computed_free op operands (places.Bank x) (Whole kind) b = computed_free_or (constant_right op operands b) b (λ h. constant_uses b (after_there _ (constant_in b) h))
computed_free op operands (places.Near at) (Whole kind) b = computed_free_or (constant_right op operands b) b (λ h. constant_uses b (after_there _ (constant_in b) h))
computed_free op operands (places.Data s at) (Whole kind) b = computed_free_or (constant_right op operands b) b (λ h. constant_uses b (after_there _ (constant_in b) h))

at_free : (op : BinaryOp) (size : ℕ) (place : Place) (t : Option Target) (b : Typed) → ChangesFree (changing_at op size place b t) b
at_free op size place None b = tt
at_free op size place (Some target) b = fixed_free op size target (constant_in b) (loaded_by (is_pure b) op size place target) b (constant_free b) (loaded_free (is_pure b) op size place target b)

in_free : (op : BinaryOp) (operands : Operands) (size : ℕ) (place : Place) (access : Access) (b : Typed) (t : Option Target) → ChangesFree (changing_in op operands size place access b t) b
in_free op operands size place access b None = computed_free op operands place access b
in_free op operands size place access b (Some target) = at_free op size place (Some target) b

either_free : (c : Bool) (how other : Changing) (b : Typed) → ChangesFree how b → ChangesFree other b → ChangesFree (if c then how else other) b
either_free true how other b p q = p
either_free false how other b p q = q

pub changes_free : (op : BinaryOp) (operands : Operands) (size : ℕ) (place : Place) (access : Access) (b : Typed) → ChangesFree (changing_of op operands size place access b) b
changes_free op operands size place access b = either_free (takes_bytes op) _ _ b (in_free op operands size place access b (target_of place access)) (computed_free op operands place access b)

-- ---- `=`

any_free : (fill : Option Fill) (b : Typed) → uses None b ≡ 0 → FillsFree fill b
any_free None b k = tt
any_free (Some fill) b k = k

number_free : (b : Typed) (n : ℕ) → number_in b ≡ Some n → uses None b ≡ 0
number_free (node t (constant z)) n h = refl
number_free (node t null) n h = refl
number_free (node t _) n h = absurd cc

filled_free : (place : Place) (access : Access) (n : Option ℕ) (b : Typed) → ((m : ℕ) → n ≡ Some m → uses None b ≡ 0) → FillsFree (filling_at place access n) b
filled_free place access None b k = tt
filled_free place access (Some n) b k = any_free (option_and_then (fill_by n) (target_of place access)) b (k n refl)

pub fills_free : (place : Place) (access : Access) (b : Typed) → FillsFree (filling_of place access b) b
fills_free (places.Far at) access b = tt
fills_free (places.Bank x) access b = filled_free (places.Bank x) access (number_in b) b (number_free b)
fills_free (places.Near at) access b = filled_free (places.Near at) access (number_in b) b (number_free b)
fills_free (places.Data s at) access b = filled_free (places.Data s at) access (number_in b) b (number_free b)

-- ---- `=` on a bit-field

value_set_free : (place : Place) (g : Field) (light : Bool) (b : Typed) → SetsFree (setting_at place g None light) b
value_set_free (places.Far at) g true b = tt
value_set_free (places.Far at) g false b = tt
value_set_free (places.Bank x) g light b = tt
value_set_free (places.Near at) g light b = tt
value_set_free (places.Data s at) g light b = tt

field_set_free : (place : Place) (g : Field) (n : Option ℕ) (near : Bool) (b : Typed) → ((m : ℕ) → n ≡ Some m → uses None b ≡ 0) → SetsFree (setting_at place g n near) b
field_set_free place g None near b k = value_set_free place g near b
field_set_free place g (Some n) near b k = k n refl

set_free : (access : Access) (place : Place) (n : Option ℕ) (light : Bool) (b : Typed) → ((m : ℕ) → n ≡ Some m → uses None b ≡ 0) → SetsFree (setting_by access place n light) b
set_free (Whole kind) place n light b k = tt
set_free (Part g) place n light b k = field_set_free place g n (is_in_byte g && light) b k

pub sets_free : (f : Framed) (pushed : ℕ) (place : Place) (access : Access) (b : Typed) → SetsFree (setting_of f pushed place access b) b
sets_free f pushed place access b = set_free access place (number_in b) (is_light f pushed b) b (number_free b)
