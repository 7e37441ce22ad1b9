-- Rewriting by several rules in turn.
use Rattle.std.specs.Prelude.{◌≡◌, ◌<◌, ◌≤◌, ℕ, ◌+◌, All, IfOk, IfErr, List, [], Option, Some, None, Result}
use Rattle.c65_base.specs.declared.refusal.Refusal.{Refusal}
use Rattle.c65_base.specs.declared.refusal.Refusal.TheVariants.{OutOfMemory}
use Rattle.c65_code.specs.declared.line.Line.{Line}
use Rattle.c65_code.specs.declared.parts.RegSet.{RegSet}
use Rattle.c65_code.specs.Segments.{IsSegment}
use Rattle.c65_code.specs.Weights.{lines_size}
use Rattle.c65_code.specs.Writable.{IsLineWritable}
use Rattle.c65_know.specs.Known.{Annotated}
use Rattle.c65_live.specs.Tables.{Table}
use Rattle.c65_pass.specs.Passes.{Rewrites, IsFree, IsGood, counted}
use Rattle.c65_pass.specs.Rewriting.{Rewriting}
use Rattle.c65_pass.specs.Rules.{match_at}

-- the one rule of a number, and the rules from one number to another
abbrev pub Only : ℕ → ℕ → Type 0
Only rule other = other ≡ rule

pub record IsRuleOf (low high rule : ℕ) : Type 0 where
  pub first : low ≤ rule
  pub last : rule ≤ high

-- the rules of the turns from one number on, up to another
pub record InTurn (start end : ℕ) (rules : ℕ → ℕ → Type 0) (rule : ℕ) : Type 0 where
  pub turn : ℕ
  pub first : start ≤ turn
  pub before : turn < end
  pub among : rules turn rule

-- none of the rules matches anywhere
abbrev pub AreFree : (ℕ → Type 0) → Annotated → Type 0
AreFree among noted = (rule : ℕ) → among rule → IsFree rule [] noted

-- each of the rules keeps what rewritings keep
abbrev pub AreGood : (ℕ → Type 0) → Type 0
AreGood among = (rule : ℕ) → among rule → IsGood rule []

-- what one of the rules makes at a place; none where none of them matches there
abbrev pub IsFoundAmong : (ℕ → Type 0) → Annotated → Table → ℕ → Option Rewriting → Type 0
IsFoundAmong among noted table at None = (rule : ℕ) → among rule → match_at rule [] noted table at ≡ None
IsFoundAmong among noted table at (Some w) = (rule : ℕ) × among rule × (match_at rule [] noted table at ≡ Some w)

-- what a function answers at a place that looks for each of the rules: that, or want of memory
abbrev pub FindsAmong : (ℕ → Type 0) → Annotated → Table → ℕ → Result (Option Rewriting) Refusal → Type 0
FindsAmong among noted table at result = IfOk result (IsFoundAmong among noted table at) × IfErr result (λ refusal. refusal ≡ OutOfMemory)

-- the new lines come from the old ones by so many rewritings of the rules, each where it matches
pub data RulesRewrite (among : ℕ → Type 0) (out : RegSet) (old : List Line) : ℕ → List Line → Type 0 where
  none : RulesRewrite among out old 0 old
  by : {n m : ℕ} {lines new : List Line} (rule : ℕ) → among rule → RulesRewrite among out old n lines → Rewrites rule [] out lines m new
      → RulesRewrite among out old (m + n) new

-- What stands after rewriting by the rules until none of them matches anywhere. After a refusal some of the rewritings are made.
pub record IsPassed (among : ℕ → Type 0) (old new : Annotated) (result : Result ℕ Refusal) : Type 0 where
  pub none : IfOk result (λ made. AreFree among new)
  pub chain : (n : ℕ) × RulesRewrite among old.out old.lines n new.lines × IfOk result (λ made. made ≡ counted n)
  pub same : IfOk result (λ made. made ≡ 0 → new ≡ old)
  pub segments : IsSegment old.lines × IsSegment new.lines
  pub extent : lines_size new.lines ≤ lines_size old.lines
  pub writable : (symbols : ℕ) → All (IsLineWritable symbols) old.lines → All (IsLineWritable symbols) new.lines
  pub out : new.out ≡ old.out
  pub refused : IfErr result (λ refusal. refusal ≡ OutOfMemory)
