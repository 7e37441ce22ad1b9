-- What opening calls makes of the lines of a function.
use Rattle.std.specs.Prelude.{◌≡◌, ◌≤◌, ◌+◌, ℕ, Bool, true, false, All, IfOk, IfErr, List, Result}
use Rattle.c65_base.specs.declared.refusal.Refusal.{Refusal}
use Rattle.c65_base.specs.declared.refusal.Refusal.TheVariants.{OutOfMemory}
use Rattle.c65_code.specs.declared.line.Line.{Line}
use Rattle.c65_code.specs.declared.line.Sym.{Sym}
use Rattle.c65_code.specs.declared.parts.RegSet.{RegSet}
use Rattle.c65_code.specs.Segments.{IsSegment}
use Rattle.c65_code.specs.Weights.{lines_size}
use Rattle.c65_code.specs.Writable.{IsLineWritable}
use Rattle.c65_know.specs.Known.{Annotated}
use Rattle.c65_pass.specs.Once.{Once}
use Rattle.c65_pass.specs.Passes.{Rewrites, counted}

-- one walk of a rule where it is asked for, else nothing
abbrev pub OnceIf : Bool → ℕ → List (Sym × List ℕ) → RegSet → List Line → List Line → ℕ → Type 0
OnceIf true rule literals out old new n = Once rule literals out new 0 old n
OnceIf false rule literals out old new n = (new ≡ old) × (n ≡ 0)

-- What stands after one walk of a rule where it is asked for. After a refusal some of the rewritings are made.
pub record IsWalked (asked : Bool) (rule : ℕ) (literals : List (Sym × List ℕ)) (old new : Annotated) (result : Result ℕ Refusal) : Type 0 where
  pub once : IfOk result (λ made. (n : ℕ) × OnceIf asked rule literals old.out old.lines new.lines n × (made ≡ counted n))
  pub chain : (n : ℕ) × Rewrites rule literals old.out old.lines n new.lines × IfOk result (λ made. made ≡ counted n)
  pub segment : IsSegment old.lines → IsSegment new.lines
  pub extent : lines_size new.lines ≤ lines_size old.lines
  pub writable : (symbols : ℕ) → All (IsLineWritable symbols) old.lines → All (IsLineWritable symbols) new.lines
  pub out : new.out ≡ old.out
  pub refused : IfErr result (λ refusal. refusal ≡ OutOfMemory)

-- the lines after both walks: first the rule on routines where that is asked for, then the rule on functions of the library
pub record BothWalks (inlined known : Bool) (literals : List (Sym × List ℕ)) (out : RegSet) (old new : List Line) (count : ℕ) : Type 0 where
  pub between : List Line
  pub first : ℕ
  pub second : ℕ
  pub opened : OnceIf inlined 39 literals out old between first
  pub known_ones : OnceIf known 40 literals out between new second
  pub both : count ≡ first + second

-- so many rewritings, by the first rule and then by the second
pub record BothRewrite (literals : List (Sym × List ℕ)) (out : RegSet) (old new : List Line) (count : ℕ) : Type 0 where
  pub between : List Line
  pub first : ℕ
  pub second : ℕ
  pub opened : Rewrites 39 literals out old first between
  pub known_ones : Rewrites 40 literals out between second new
  pub both : count ≡ first + second

-- What stands after both walks, each where it is asked for. After a refusal some of the rewritings are made.
pub record AreOpened (inlined known : Bool) (literals : List (Sym × List ℕ)) (old new : Annotated) (result : Result ℕ Refusal) : Type 0 where
  pub once : IfOk result (λ made. (n : ℕ) × BothWalks inlined known literals old.out old.lines new.lines n × (made ≡ counted n))
  pub chain : (n : ℕ) × BothRewrite literals old.out old.lines new.lines n × IfOk result (λ made. made ≡ counted n)
  pub segment : IsSegment old.lines → IsSegment new.lines
  pub extent : lines_size new.lines ≤ lines_size old.lines
  pub writable : (symbols : ℕ) → All (IsLineWritable symbols) old.lines → All (IsLineWritable symbols) new.lines
  pub out : new.out ≡ old.out
  pub refused : IfErr result (λ refusal. refusal ≡ OutOfMemory)
