-- The lines that rules make have operands that stand in the old lines, or such as name nothing.
use Rattle.std.proofs.Common.{◌≡◌, ℕ, zero, suc, ◌+◌, ◌<◌, Bool, true, false, if◌then◌else◌, List, [], ◌∷◌, ◌++◌, Option, Some, None, refl, subst}
use Rattle.std.specs.Prelude.{take, drop}
use Rattle.c65_mach.specs.declared.rows.Op.{Op}
use Rattle.c65_mach.specs.declared.rows.Mode.{Mode}
use Rattle.c65_mach.specs.declared.rows.Mode.TheVariants.{Implied, Immediate, Relative}
use Rattle.c65_code.specs.declared.line.Callee.TheVariants as callees
use Rattle.c65_code.specs.declared.line.Line.{Line}
use Rattle.c65_code.specs.declared.line.Line.TheVariants.{Label, Do, Call}
use Rattle.c65_code.specs.declared.line.Operand.{Operand}
use Rattle.c65_code.specs.declared.line.Operand.TheVariants.{Nothing, Byte, Zero, To}
use Rattle.c65_code.specs.declared.line.Sym.{Sym}
use Rattle.c65_code.specs.declared.parts.RegSet.{RegSet}
use Rattle.c65_code.specs.declared.routine.Routine.{Routine}
use Rattle.c65_know.specs.Known.{annotated}
use Rattle.c65_live.specs.Tables.{Table}
use Rattle.c65_pass.specs.ArithRules.{both_gone_if, mixed}
use Rattle.c65_pass.specs.FlowRules.{gone_if, alone_if, sent_to, inverted_if, opposite}
use Rattle.c65_pass.specs.Labels.{retargeted}
use Rattle.c65_pass.specs.LoadRules.{instead}
use Rattle.c65_pass.specs.Registers.{alone}
use Rattle.c65_pass.specs.Rewriting.{Rewriting, rewritten}
use Rattle.c65_pass.specs.Rules.{made_by, match_there, match_at}
use Rattle.c65_pass.specs.StackRules.{in_place, call_of, nothing_if, one_call}

-- what lines have by their operands
pub record IsOfOperands (P : Line → Type 0) : Type 0 where
  pub moved : (op next : Op) (mode there : Mode) (operand : Operand) → P (Do op mode operand) → P (Do next there operand)
  pub nothing : (op : Op) (mode : Mode) → P (Do op mode Nothing)
  pub to : (op : Op) (mode : Mode) (l : ℕ) → P (Do op mode (To l))
  pub zero_page : (op : Op) (mode : Mode) (i : ℕ) → P (Do op mode (Zero i))
  pub byte : (op : Op) (mode : Mode) (v : ℕ) → v < 256 → P (Do op mode (Byte v))
  pub mix : (op next : Op) (v w x : ℕ) → P (Do op Immediate (Byte v)) → P (Do next Immediate (Byte w)) → mixed next v w ≡ Some x → P (Do op Immediate (Byte x))
  pub call : (r : Routine) → P (Call (callees.Routine r))

abbrev pub Each : (Line → Type 0) → List Line → Type 0
Each P [] = Unit {0}
Each P (line ∷ lines) = P line × Each P lines

-- lines that the rule makes of such ones are such
abbrev pub Makes : (Line → Type 0) → ℕ → Type 0
Makes P rule = (literals : List (Sym × List ℕ)) (out : RegSet) (lines : List Line) (table : Table) (at : ℕ) (w : Rewriting) → Each P lines
    → match_at rule literals (annotated lines out) table at ≡ Some w → Each P w.lines

module _ (P : Line → Type 0) where
  pub each_append : (xs ys : List Line) → Each P xs → Each P ys → Each P (xs ++ ys)
  each_append [] ys h k = k
  each_append (x ∷ xs) ys h k = (h.0, each_append xs ys h.1 k)

  each_take : (n : ℕ) (xs : List Line) → Each P xs → Each P (take n xs)
  each_take zero xs h = tt
  each_take (suc n) [] h = tt
  each_take (suc n) (x ∷ xs) h = (h.0, each_take n xs h.1)

  each_drop : (n : ℕ) (xs : List Line) → Each P xs → Each P (drop n xs)
  each_drop zero xs h = h
  each_drop (suc n) [] h = tt
  each_drop (suc n) (x ∷ xs) h = each_drop n xs h.1

  pub each_rewritten : (lines : List Line) (w : Rewriting) → Each P lines → Each P w.lines → Each P (rewritten lines w)
  each_rewritten lines w h k =
      each_append (take w.at lines) (w.lines ++ drop (w.at + w.count) lines) (each_take w.at lines h)
      (each_append w.lines (drop (w.at + w.count) lines) k (each_drop (w.at + w.count) lines h))

  -- by the line at the place and those after it
  pub by_line : (rule : ℕ) → ((literals : List (Sym × List ℕ)) (out : RegSet) (lines : List Line) (table : Table) (at : ℕ) (w : Rewriting) (line : Line) (post : List Line) → P line → Each P post
      → made_by rule literals (annotated lines out) table at line post ≡ Some w → Each P w.lines) → Makes P rule
  by_line rule owed literals out lines table at w h m = go (drop at lines) (each_drop at lines h) m
    where
      go : (rest : List Line) → Each P rest → match_there rule literals (annotated lines out) table at rest ≡ Some w → Each P w.lines
      go [] k n = absurd cc
      go (line ∷ post) k n = owed literals out lines table at w line post k.0 k.1 n

  put : (r w : Rewriting) → Some r ≡ Some w → Each P r.lines → Each P w.lines
  put r w m h = let e : r ≡ w = cc in subst (λ (x : Rewriting). Each P x.lines) e h

  pub gone : (b : Bool) (at : ℕ) (w : Rewriting) → gone_if b at ≡ Some w → Each P w.lines
  gone true at w m = put (record { at = at; count = 1; lines = [] }) w m tt
  gone false at w m = absurd cc

  pub both_gone : (b : Bool) (at : ℕ) (w : Rewriting) → both_gone_if b at ≡ Some w → Each P w.lines
  both_gone true at w m = put (record { at = at; count = 2; lines = [] }) w m tt
  both_gone false at w m = absurd cc

  pub one_left : (b : Bool) (at : ℕ) (line : Line) (w : Rewriting) → P line → alone_if b at line ≡ Some w → Each P w.lines
  one_left true at line w h m = put (record { at = at; count = 2; lines = line ∷ [] }) w m (h, tt)
  one_left false at line w h m = absurd cc

  pub instead_of : (count at : ℕ) (made : Option Line) (w : Rewriting) → ((line : Line) → made ≡ Some line → P line) → instead count at made ≡ Some w → Each P w.lines
  instead_of count at None w owed m = absurd cc
  instead_of count at (Some line) w owed m = put (record { at = at; count = count; lines = line ∷ [] }) w m (owed line refl, tt)

  pub placed : (made : Option (List Line)) (settled : Bool) (count at : ℕ) (w : Rewriting) → ((ls : List Line) → made ≡ Some ls → Each P ls) → in_place made settled count at ≡ Some w → Each P w.lines
  placed None settled count at w owed m = absurd cc
  placed (Some ls) true count at w owed m = put (record { at = at; count = count; lines = ls }) w m (owed ls refl)
  placed (Some ls) false count at w owed m = absurd cc

  -- one of two lines, by a test
  pub one_if : (b : Bool) (line : Line) (rest : Option Line) (l : Line) → P line → (rest ≡ Some l → P l) → (if b then Some line else rest) ≡ Some l → P l
  one_if true line rest l h owed m = let e : line ≡ l = cc in subst P e h
  one_if false line rest l h owed m = owed m

  pub no_line : (l : Line) → None ≡ Some l → P l
  no_line l m = absurd cc

  pub none_put : (b : Bool) (ls : List Line) → nothing_if b ≡ Some ls → Each P ls
  none_put true ls m = let e : [] ≡ ls = cc in subst (Each P) e tt
  none_put false ls m = absurd cc

module _ (P : Line → Type 0) (is : IsOfOperands P) where
  turned : (line : Line) (l : ℕ) → P line → P (retargeted line l)
  turned (Do op mode operand) l h = is.to op mode l
  turned (Label k) l h = h
  turned (Call callee) l h = h

  pub sent : (target : Option ℕ) (at : ℕ) (line : Line) (w : Rewriting) → P line → sent_to target at line ≡ Some w → Each P w.lines
  sent None at line w h m = absurd cc
  sent (Some l) at line w h m = put P (record { at = at; count = 1; lines = retargeted line l ∷ [] }) w m (turned line l h, tt)

  pub inverted_by : (b : Bool) (at : ℕ) (op : Op) (target : Option ℕ) (w : Rewriting) → inverted_if b at op target ≡ Some w → Each P w.lines
  inverted_by true at op (Some l) w m = put P (record { at = at; count = 2; lines = Do (opposite op) Relative (To l) ∷ [] }) w m (is.to (opposite op) Relative l, tt)
  inverted_by true at op None w m = absurd cc
  inverted_by false at op target w m = absurd cc

  pub call_put : (made : Option Routine) (ls : List Line) → one_call made ≡ Some ls → Each P ls
  call_put None ls m = absurd cc
  call_put (Some r) ls m = let e : call_of r ∷ [] ≡ ls = cc in subst (Each P) e (is.call r, tt)

  pub alone_line : (op : Op) → P (alone op)
  alone_line op = is.nothing op Implied
