-- How a bit-field is set, where the value of the assignment is not used (C90 6.3.16): its lines, and those of its sides.
use Rattle.std.specs.Prelude.{◌≡◌, ℕ, Bool, true, ◌&&◌, Option, Some, None, List, ◌++◌}
use Rattle.c65_csem.specs.Trees.{Typed}
use Rattle.c65_code.specs.declared.line.Line.{Line}
use Rattle.c65_genframe.specs.Frames.{Framed}
use Rattle.c65_genload.specs.declared.places.Field.{Field}
use Rattle.c65_genload.specs.declared.places.Place.{Place}
use Rattle.c65_genload.specs.declared.places.Place.TheVariants.{Far}
use Rattle.c65_genload.specs.declared.places.Access.{Access}
use Rattle.c65_genload.specs.declared.places.Access.TheVariants.{Whole, Part}
use Rattle.c65_genload.specs.Places.{held}
use Rattle.c65_genload.specs.Fields.{is_in_byte}
use Rattle.c65_genload.specs.Loads.{hold_code}
use Rattle.c65_genfield.specs.Setting.{number_code, behind_code, set_code}
use Rattle.c65_genexpr.specs.declared.destination.Destination.{Destination}
use Rattle.c65_genexpr.specs.declared.destination.Destination.TheVariants.{Registers, Pointer}
use Rattle.c65_genexpr.specs.Places.{more}
use Rattle.c65_genexpr.specs.Held.{ptr2, keep_code}
use Rattle.c65_genexpr.specs.Operating.{is_light}
use Rattle.c65_genexpr.specs.Uses.{uses}
use Rattle.c65_geneffect.specs.declared.setting.Setting.{Setting}
use Rattle.c65_geneffect.specs.declared.setting.Setting.TheVariants.{Number, Held, Loaded, Otherwise}
use Rattle.c65_geneffect.specs.Changing.{number_in}

-- by a number, or else by a value, before which the address of a place that is anywhere waits: in ptr2, where the field has one byte
-- and the value is light
abbrev pub setting_at : Place → Field → Option ℕ → Bool → Setting
setting_at place g (Some n) near = Number g n
setting_at (Far at) g None true = Held g at
setting_at place g None near = Loaded g

abbrev pub setting_by : Access → Place → Option ℕ → Bool → Setting
setting_by (Part g) place n light = setting_at place g n (is_in_byte g && light)
setting_by (Whole kind) place n light = Otherwise

-- by the place of the left side, and what is kept there
abbrev pub setting_of : Framed → ℕ → Place → Access → Typed → Setting
setting_of f pushed place access b = setting_by access place (number_in b) (is_light f pushed b)

-- a right side that takes no lines has no labels
abbrev pub SetsFree : Setting → Typed → Type 0
SetsFree (Number g n) b = uses None b ≡ 0
SetsFree (Held g at) b = Unit {0}
SetsFree (Loaded g) b = Unit {0}
SetsFree Otherwise b = Unit {0}

-- the bytes that wait while the value is computed
abbrev pub below_value : Setting → ℕ → Place → ℕ
below_value (Loaded g) pushed place = more pushed (held place)
below_value how pushed place = pushed

-- where the address of the place's base comes, of what lies anywhere
abbrev pub base_for : Setting → Destination
base_for (Number g n) = Pointer
base_for how = Registers

-- from the lines of the place's base and of the right side, or of the whole for its value
abbrev pub set_by : Setting → Place → List Line → List Line → List Line → List Line
set_by (Number g n) place base right whole = base ++ number_code place g n
set_by (Held g at) place base right whole = base ++ (keep_code ++ (right ++ behind_code ptr2 at g))
set_by (Loaded g) place base right whole = base ++ (hold_code place ++ (right ++ set_code place g))
set_by Otherwise place base right whole = whole
