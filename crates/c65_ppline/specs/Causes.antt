-- Why preprocessing may be refused.
use Rattle.std.specs.Prelude.{◌≡◌, ℕ, ◌+◌, ⊤}
use Rattle.c65_base.specs.declared.code.Code.{Code}
use Rattle.c65_base.specs.declared.code.Code.TheVariants as codes
use Rattle.c65_base.specs.declared.refusal.Size.{Size}
use Rattle.c65_base.specs.declared.refusal.Size.TheVariants as sizes
use Rattle.c65_base.specs.Limits.{limit_of}
use Rattle.c65_base.specs.declared.refusal.Refusal.{Refusal}
use Rattle.c65_base.specs.declared.refusal.Refusal.TheVariants as refusals

-- the faults of tokens and of directives
abbrev pub IsUnitCode : Code → Type 0
IsUnitCode codes.OpenComment = ⊤
IsUnitCode codes.StrayByte = ⊤
IsUnitCode codes.OpenLiteral = ⊤
IsUnitCode codes.BadNumber = ⊤
IsUnitCode codes.NumberRange = ⊤
IsUnitCode codes.BadEscape = ⊤
IsUnitCode codes.CharConstant = ⊤
IsUnitCode codes.Wide = ⊤
IsUnitCode codes.Directive = ⊤
IsUnitCode codes.DirectiveForm = ⊤
IsUnitCode codes.OpenConditional = ⊤
IsUnitCode codes.LooseConditional = ⊤
IsUnitCode codes.MacroRedefined = ⊤
IsUnitCode codes.MacroArguments = ⊤
IsUnitCode codes.OpenArguments = ⊤
IsUnitCode codes.BadPaste = ⊤
IsUnitCode codes.BadStringize = ⊤
IsUnitCode codes.IfExpression = ⊤
IsUnitCode codes.IfDivision = ⊤
IsUnitCode codes.ErrorDirective = ⊤
IsUnitCode codes.PredefinedName = ⊤
IsUnitCode codes.Charmap = ⊤
IsUnitCode _ = ⊥

-- a quantity that a unit may exceed, with its number plus one
abbrev pub IsUnitLimit : Size → ℕ → Type 0
IsUnitLimit sizes.File value = value ≡ limit_of sizes.File + 1
IsUnitLimit sizes.Line value = value ≡ limit_of sizes.Line + 1
IsUnitLimit sizes.Names value = value ≡ limit_of sizes.Names + 1
IsUnitLimit sizes.Includes value = value ≡ limit_of sizes.Includes + 1
IsUnitLimit sizes.Conditionals value = value ≡ limit_of sizes.Conditionals + 1
IsUnitLimit sizes.Macros value = value ≡ limit_of sizes.Macros + 1
IsUnitLimit sizes.MacroArguments value = value ≡ limit_of sizes.MacroArguments + 1
IsUnitLimit sizes.Tokens value = value ≡ limit_of sizes.Tokens + 1
IsUnitLimit _ value = ⊥

-- a fault of the texts, in a file by its number, a limit, or want of memory
abbrev pub Stops : Refusal → Type 0
Stops refusals.OutOfMemory = ⊤
Stops (refusals.At code pos) = IsUnitCode code
Stops (refusals.TooLarge limit value) = IsUnitLimit limit value
Stops _ = ⊥

-- that, or a file that is missing or could not be read
abbrev pub StopsReading : Refusal → Type 0
StopsReading (refusals.Missing path) = ⊤
StopsReading refusals.ReadFault = ⊤
StopsReading refusal = Stops refusal

-- the same with the file's name
abbrev pub StopsUnit : Refusal → Type 0
StopsUnit (refusals.Missing path) = ⊤
StopsUnit refusals.ReadFault = ⊤
StopsUnit (refusals.Source code file line) = IsUnitCode code
StopsUnit refusals.OutOfMemory = ⊤
StopsUnit (refusals.TooLarge limit value) = IsUnitLimit limit value
StopsUnit _ = ⊥

-- a fault of a definition on the command line, a limit, or want of memory
abbrev pub StopsCommand : Refusal → Type 0
StopsCommand refusals.OutOfMemory = ⊤
StopsCommand (refusals.Source code file line) = IsUnitCode code
StopsCommand (refusals.TooLarge limit value) = IsUnitLimit limit value
StopsCommand _ = ⊥
