-- What the optimiser makes of a code: each function by itself, its lines by rewritings, until no rule matches anywhere in it.
use Rattle.std.specs.Prelude.{◌≡◌, ◌==◌, if◌then◌else◌, ⊤, ℕ, ◌≤◌, ◌<◌, Bool, true, false, All, List, [], ◌∷◌}
use Rattle.c65_base.specs.declared.options.Cpu.{Cpu}
use Rattle.c65_base.specs.declared.options.Cpu.TheVariants.{Nmos}
use Rattle.c65_base.specs.declared.options.Options.{Options}
use Rattle.c65_code.specs.declared.line.Line.{Line}
use Rattle.c65_code.specs.declared.line.Line.TheVariants.{Do}
use Rattle.c65_code.specs.declared.line.Operand.{Operand}
use Rattle.c65_code.specs.declared.line.Operand.TheVariants.{Byte}
use Rattle.c65_code.specs.declared.line.Sym.{Sym}
use Rattle.c65_code.specs.declared.code.Code.{Code}
use Rattle.c65_code.specs.Literals.{literals_of}
use Rattle.c65_code.specs.Segments.{Segment, IsSegment}
use Rattle.c65_code.specs.Weights.{lines_size}
use Rattle.c65_code.specs.Writable.{IsLineWritable}
use Rattle.c65_know.specs.Known.{annotated}
use Rattle.c65_optlib.specs.Library.{BothWalks}
use Rattle.c65_pass.specs.Rounds.{IsRuleOf, AreFree, RulesRewrite}
use Rattle.c65_optimise.specs.declared.families.Family.{Family}
use Rattle.c65_optimise.specs.declared.families.Family.TheVariants.{Stack, Flow, Load, Arith, Processor}

-- the rules of a family
abbrev pub rules_of : Family → ℕ → Type 0
rules_of Stack = IsRuleOf 33 38
rules_of Flow = IsRuleOf 1 9
rules_of Load = IsRuleOf 10 23
rules_of Arith = IsRuleOf 24 32
rules_of Processor = IsRuleOf 41 45

-- the order of the families in a round: the others take windows of the rules on the software stack apart
abbrev pub family_at : ℕ → Family
family_at turn =
    if turn == 0 then Stack else (
    if turn == 1 then Flow else (
    if turn == 2 then Load else (
    if turn == 3 then Arith else Processor)))

-- whether a family's rules are for a processor: its own are for the 65C02 alone
abbrev pub IsFor : Cpu → Family → Type 0
IsFor Nmos Processor = ⊥
IsFor cpu family = ⊤

-- a rule of a family that is run for a processor
abbrev pub IsRuleFor : Cpu → ℕ → Type 0
IsRuleFor cpu rule = (family : Family) × IsFor cpu family × rules_of family rule

-- the number in a line is a byte
abbrev pub IsByteOperand : Operand → Type 0
IsByteOperand (Byte v) = v < 256
IsByteOperand _ = ⊤

abbrev pub HasByte : Line → Type 0
HasByte (Do op mode operand) = IsByteOperand operand
HasByte _ = ⊤

-- The old lines are those of a function that there is: a segment, in which numbers are bytes.
-- First calls are opened, in one walk for calls of routines, where that is asked for, and in another for calls of functions of the
-- library. From what stands then the new lines come by rewritings of the rules that are run, each where its rule matches, and none
-- matches in them. They are no longer in bytes, where a call that may be opened counts as its lines, and can be written where the old
-- ones can.
pub record IsRewritten (options : Options) (literals : List (Sym × List ℕ)) (old new : Segment) : Type 0 where
  pub segment : IsSegment old.lines
  pub bytes : All HasByte old.lines
  pub out : new.out ≡ old.out
  pub opened : List Line
  pub once : (count : ℕ) × BothWalks options.inline_more options.known_functions literals old.out old.lines opened count
  pub chain : (count : ℕ) × RulesRewrite (IsRuleFor options.cpu) old.out opened count new.lines
  pub free : AreFree (IsRuleFor options.cpu) (annotated new.lines new.out)
  pub extent : lines_size new.lines ≤ lines_size old.lines
  pub writable : (symbols : ℕ) → All (IsLineWritable symbols) old.lines → All (IsLineWritable symbols) new.lines

-- functions one by one, each under its name
abbrev pub AreRewritten : Options → List (Sym × List ℕ) → List (Sym × Segment) → List (Sym × Segment) → Type 0
AreRewritten options literals [] [] = ⊤
AreRewritten options literals (f ∷ fs) (g ∷ gs) = ((g.0 ≡ f.0) × IsRewritten options literals f.1 g.1) × AreRewritten options literals fs gs
AreRewritten options literals _ _ = ⊥

-- each function by itself, with the literals of the code
pub record IsOptimised (options : Options) (old new : Code) : Type 0 where
  pub symbols : new.symbols ≡ old.symbols
  pub functions : AreRewritten options (literals_of old.symbols old.datums) old.functions new.functions
  pub datums : new.datums ≡ old.datums
  pub main_args : new.main_args ≡ old.main_args

abbrev pub OptimisedIf : Bool → Options → Code → Code → Type 0
OptimisedIf false options old new = new ≡ old
OptimisedIf true options old new = IsOptimised options old new

-- without `-O` the code stays as it is
abbrev pub OptimisedBy : Options → Code → Code → Type 0
OptimisedBy options old new = OptimisedIf options.optimise options old new
