-- Rewriting by one rule.
use Rattle.std.specs.Prelude.{◌≡◌, ◌≤◌, ◌<◌, ℕ, suc, All, ◌^◌, ◌-◌, min, IfOk, IfErr, List, Option, Some, None, Result}
use Rattle.c65_base.specs.declared.refusal.Refusal.{Refusal}
use Rattle.c65_base.specs.declared.refusal.Refusal.TheVariants.{OutOfMemory}
use Rattle.c65_code.specs.declared.line.Line.{Line}
use Rattle.c65_code.specs.declared.line.Sym.{Sym}
use Rattle.c65_code.specs.declared.parts.RegSet.{RegSet}
use Rattle.c65_code.specs.Segments.{IsSegment}
use Rattle.c65_code.specs.Weights.{lines_size}
use Rattle.c65_code.specs.Writable.{IsLineWritable}
use Rattle.c65_know.specs.Known.{Annotated, known_of, annotated}
use Rattle.c65_live.specs.Tables.{Table, IsLiveTable}
use Rattle.c65_pass.specs.Rewriting.{Rewriting, rewritten, Keeps}
use Rattle.c65_pass.specs.Rules.{match_at}

-- the table is that of the noted lines
abbrev pub IsTableOf : Annotated → Table → Type 0
IsTableOf noted table = IsLiveTable noted.lines noted.out table

-- the last of the rules on jumps, branches and labels: none of them asks what is live
abbrev pub last_flow_rule : ℕ
last_flow_rule = 9

-- a table as a rule needs it: that of the noted lines, where it asks what is live
abbrev pub IsTableFor : ℕ → Annotated → Table → Type 0
IsTableFor rule noted table = last_flow_rule < rule → IsTableOf noted table

-- what a rule's function answers at a place: what the rule makes there, or want of memory
abbrev pub Answers : Option Rewriting → Result (Option Rewriting) Refusal → Type 0
Answers made result = IfOk result (λ o. o ≡ made) × IfErr result (λ refusal. refusal ≡ OutOfMemory)

-- what each rewriting of a rule keeps
abbrev pub IsGood : ℕ → List (Sym × List ℕ) → Type 0
IsGood rule literals = (noted : Annotated) (table : Table) (at : ℕ) (w : Rewriting) → IsSegment noted.lines
    → noted.notes ≡ known_of noted.lines → IsTableFor rule noted table → match_at rule literals noted table at ≡ Some w → Keeps noted.lines w

-- the new lines come from the old ones by so many rewritings of a rule, each where it matches
pub data Rewrites (rule : ℕ) (literals : List (Sym × List ℕ)) (out : RegSet) (old : List Line) : ℕ → List Line → Type 0 where
  none : Rewrites rule literals out old 0 old
  more : {n : ℕ} {lines : List Line} {w : Rewriting} (table : Table) (at : ℕ) → Rewrites rule literals out old n lines → IsTableFor rule (annotated lines out) table
      → match_at rule literals (annotated lines out) table at ≡ Some w → Rewrites rule literals out old (suc n) (rewritten lines w)

-- a rule matches nowhere
pub record IsFree (rule : ℕ) (literals : List (Sym × List ℕ)) (noted : Annotated) : Type 0 where
  pub table : Table
  pub live : IsTableFor rule noted table
  pub nowhere : (at : ℕ) → match_at rule literals noted table at ≡ None

-- a count that stands still at the end of its type
abbrev pub counted : ℕ → ℕ
counted n = min n (2 ^ 64 - 1)

-- What stands after rewriting by a rule until it matches nowhere. After a refusal some of the rewritings are made.
pub record IsRun (rule : ℕ) (literals : List (Sym × List ℕ)) (old new : Annotated) (result : Result ℕ Refusal) : Type 0 where
  pub none : IfOk result (λ _. IsFree rule literals new)
  pub chain : (n : ℕ) × Rewrites rule literals old.out old.lines n new.lines × IfOk result (λ made. made ≡ counted n)
  pub same : IfOk result (λ made. made ≡ 0 → new ≡ old)
  pub segments : IsSegment old.lines × IsSegment new.lines
  pub extent : lines_size new.lines ≤ lines_size old.lines
  pub writable : (symbols : ℕ) → All (IsLineWritable symbols) old.lines → All (IsLineWritable symbols) new.lines
  pub out : new.out ≡ old.out
  pub refused : IfErr result (λ refusal. refusal ≡ OutOfMemory)
