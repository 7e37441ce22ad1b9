-- From the lines of a routine with loops and calls to its row.
use Rattle.std.proofs.Common.{◌≡◌, ℕ, suc, ◌+◌, ◌≤◌, List, [], Some, None, sym, subst, ◌∙◌}
use Rattle.c65_code.specs.declared.line.Line.{Line}
use Rattle.c65_code.specs.declared.routine.Routine.{Routine}
use Rattle.c65_code.specs.LineState.{Place, State, sp_of, IsBytes}
use Rattle.c65_code.specs.Rows.{Row, row_of}
use Rattle.c65_code.specs.RawMachine.{RawSetting, Bounds, RawComes, HasDone, called, entry_of, MeetsRow}
use Rattle.c65_rtl.proofs.Ways.{Ends}
use Rattle.c65_rtl_law_walks.specs.Inside.{MayRunIn, MeetsIn, IsModest}
use Rattle.c65_rtl_law_walks.proofs.Calls.{rows_are_met_within}
use Rattle.c65_rtl_law_walks.proofs.Walks.{Takes}
use Rattle.c65_rtl_law_walks.proofs.Turning.{leads_turn, turn_weight, TurnsIn, walks_turning}

some_is : {A : Type 0} (x y : A) → Some x ≡ Some y → x ≡ y
some_is x y e = cc

-- what its lines have to do, called within given bounds
pub record Leads (s : RawSetting) (bounds : Bounds) (deepest : ℕ) (takes : Routine → Takes) (row : Row) (back : Place) (lines : List Line) (Inv : ℕ → ℕ → State → Type 0) (most : ℕ) (t : State) : Type 0 where
  pub round : (l n : ℕ) (u : State) → IsBytes u → Inv l n u → TurnsIn s bounds deepest takes (Ends row t) lines Inv l n u
  pub leads : leads_turn s bounds deepest takes (Ends row t) (λ j u. Inv j most u) [] lines None (called back t)

pub turning_meets : (s : RawSetting) (below deepest : ℕ) (takes : Routine → Takes) (r : Routine) (row : State → Row) (lines : List Line) → ((t : State) → row_of r t ≡ Some (row t)) → ((t : State) → (row t).ends ≡ None)
    → s.lines (s.routine r) ≡ lines → (Inv : State → ℕ → ℕ → State → Type 0) (most : ℕ)
    → ((bounds : Bounds) (back : Place) (t : State) → MayRunIn s bounds below deepest (row t) t → Leads s bounds deepest takes (row t) back lines (Inv t) most t)
    → MeetsIn s below deepest (λ w. turn_weight takes most [] lines) r
turning_meets s below deepest takes r row lines is goes_on has Inv most by bounds given back t e may =
    let same : row t ≡ given = some_is (row t) given (sym (is t) ∙ e) in
    let hard = may.hard in
    let h : Leads s bounds deepest takes (row t) back lines (Inv t) most t = by bounds back t (subst (λ (w : Row). MayRunIn s bounds below deepest w t) (sym same) may) in
    subst (λ (w : Row). RawComes s bounds (HasDone w.ends w back t) (turn_weight takes most [] lines) (entry_of s (s.routine r)) (called back t)) same
    (walks_turning s bounds deepest takes r (row t) back t lines has (Inv t) h.round most hard may.bytes may.running (goes_on t) h.leads)

-- A routine that does its row within bounds does so at every call that the row admits.
pub met_within : (s : RawSetting) (below deepest weight : ℕ) (r : Routine) (row : State → Row) → ((t : State) → row_of r t ≡ Some (row t)) → MeetsIn s below deepest (λ w. weight) r → below ≤ 64 → 2 + deepest ≤ 26
    → ((t : State) → (suc weight ≤ (row t).cost) × (sp_of t ≤ (row t).sp + 64)) → MeetsRow s r
met_within s below deepest weight r row is meets few shallow modest =
    let fits : IsModest (λ w. weight) r = λ given t e. subst (λ (w : Row). (suc weight ≤ w.cost) × (sp_of t ≤ w.sp + 64)) (some_is (row t) given (sym (is t) ∙ e)) (modest t) in
    rows_are_met_within s below deepest (λ w. weight) r meets few shallow fits
