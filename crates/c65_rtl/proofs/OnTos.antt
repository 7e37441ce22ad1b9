-- What the operators on TOS share: TOS is taken off, and the row gives their result.
use Rattle.std.proofs.Common.{◌≡◌, ℕ, ◌+◌, ◌*◌, ◌<◌, ◌≤◌, Bool, IsTrue, List, [], ◌∷◌, Option, Some, None, refl, sym, subst, ◌∙◌, arith}
use Rattle.c65_code.specs.declared.line.Line.{Line}
use Rattle.c65_code.specs.declared.routine.Routine.TheVariants as routines
use Rattle.c65_code.specs.declared.routine.TosOp.{TosOp}
use Rattle.c65_code.specs.declared.routine.Width.{Width}
use Rattle.c65_code.specs.declared.routine.Width.TheVariants.{Ax, Eax}
use Rattle.c65_code.specs.LineState.{Place, Bytes, State, sp_of, IsBytes}
use Rattle.c65_code.specs.Texts.{range_of}
use Rattle.c65_code.specs.Numbers.{result_width, tos_result}
use Rattle.c65_code.specs.Placement.{Placement}
use Rattle.c65_code.specs.Rows.{Row, row_by, popping, costing, giving_if, size_of, number_at, primary_of, tos_cost, tos_row, written}
use Rattle.c65_code.specs.RawMachine.{RawSetting, Bounds, called, MayRun, MeetsRow, reach_of}
use Rattle.c65_rtl.specs.Short.{IsShort, is_straight_operator}
use Rattle.c65_rtl.specs.Stack.{raise_two, raise_by_number}
use Rattle.c65_rtl.specs.Routines.{lines_of}
use Rattle.c65_rtl.proofs.Ways.{leads, Ends, runs}
use Rattle.c65_rtl.proofs.Meeting.{fits}
use Rattle.c65_rtl.proofs.Opens.{OpenBytes, opens_near}
use Rattle.c65_rtl.proofs.ShortLaws.{short_lines}
use Rattle.c65_rtl.proofs.SpPieces.{Follows, left, raise_two_at, raise_by_at}
use Rattle.c65_rtl.proofs.Pushes.{meets_by}
use Rattle.c65_rtl.proofs.UnaryWords.{AreWordBytes, AreLongBytes}
use Rattle.c65_rtl.proofs.Plain.{is_plain, ends_plain}

-- TOS is dropped
abbrev pub drop_lines : Width → List Line
drop_lines Ax = raise_two
drop_lines Eax = raise_by_number 4

pub drop_at : (width : Width) (place : Placement) (bounds : Bounds) (P : State → Type 0) (u : State) → u.zp 0 < 256 → u.zp 1 < 256 → sp_of u + size_of width < 65536 → Follows P (sp_of u + size_of width) u
    → leads place bounds P (drop_lines width) None (record u { pushed = [] })
drop_at Ax place bounds P u low high fits follows = raise_two_at place bounds P u low high fits follows
drop_at Eax place bounds P u low high fits follows = raise_by_at place bounds P 4 u low high (omega arith) fits follows

-- A, X and sreg are the bytes of a result
abbrev pub IsResult : Width → ℕ → ℕ → ℕ → Bytes → Type 0
IsResult Ax v a x zp = AreWordBytes v a x
IsResult Eax v a x zp = AreLongBytes v a x (zp 2) (zp 3)

abbrev pub IsResultIf : Width → Option ℕ → ℕ → ℕ → Bytes → Type 0
IsResultIf width None a x zp = Unit {0}
IsResultIf width (Some v) a x zp = IsResult width v a x zp

-- the row of an operator with such a result
abbrev pub operator_row : TosOp → Width → Width → Option ℕ → State → Row
operator_row op width gives result t = giving_if gives result (costing (tos_cost op) (popping (size_of width) t (row_by (routines.Tos op width) t)))

-- the writes to the zero page that each operator may do
abbrev pub is_allowed : TosOp → Width → List (ℕ × ℕ) → State → Bool
is_allowed op width ws t = is_plain (row_by (routines.Tos op width) t) ws

-- what the lines of an operator lead to
abbrev pub GivesResult : TosOp → Width → Width → Option ℕ → Place → State → (State → Type 0) → Type 0
GivesResult op width gives result back t P = (a x y : ℕ) (n v z c : Bool) (zp : Bytes) (ws : List (ℕ × ℕ)) → IsTrue (is_allowed op width ws t) → ((i : ℕ) → 2 ≤ i → zp i ≡ written t.zp ws i)
    → zp 0 + 256 * zp 1 ≡ sp_of t + size_of width → IsResultIf gives result a x zp → P (left (called back t) a x y n v z c zp t.mem)

pub operator_ends : (op : TosOp) (width gives : Width) (result : Option ℕ) (back : Place) (t : State) → t.ended ≡ None → GivesResult op width gives result back t (Ends (operator_row op width gives result t) t)
operator_ends op width gives None back t running = λ a x y n v z c zp ws allowed same sp h.
    ends_plain (operator_row op width gives None t) back t a x y n v z c zp t.mem ws allowed running (tt, tt, tt, tt) same sp (tt, tt, tt) (λ b m. refl)
operator_ends op width Ax (Some r) back t running = λ a x y n v z c zp ws allowed same sp h.
    ends_plain (operator_row op width Ax (Some r) t) back t a x y n v z c zp t.mem ws allowed running (tt, tt, tt, tt) same sp (h.a, h.x, tt) (λ b m. refl)
operator_ends op width Eax (Some r) back t running = λ a x y n v z c zp ws allowed same sp h.
    ends_plain (operator_row op width Eax (Some r) t) back t a x y n v z c zp t.mem ws allowed running (tt, tt, tt, tt) same sp (h.a, h.x, h.sreg) (λ b m. refl)

-- where an operator begins
pub record Begins (width : Width) (place : Placement) (bounds : Bounds) (t : State) : Type 0 where
  pub bytes : IsBytes t
  pub near : OpenBytes place bounds (size_of width) (sp_of t)
  pub fits : sp_of t + size_of width < 65536

size_small : (width : Width) → size_of width ≤ 4
size_small Ax = omega arith
size_small Eax = omega arith

-- what the row of an operator is, whatever its result
pub record IsRow (op : TosOp) (width : Width) (t : State) (row : Row) : Type 0 where
  pub sp : row.sp ≡ sp_of t + size_of width
  pub near : row.near ≡ range_of (size_of width) (sp_of t)
  pub ends : row.ends ≡ None
  pub cost : row.cost ≡ tos_cost op

pub is_row : (op : TosOp) (width gives : Width) (result : Option ℕ) (t : State) → IsRow op width t (operator_row op width gives result t)
is_row op width gives None t = record { sp = refl; near = refl; ends = refl; cost = refl }
is_row op width Ax (Some r) t = record { sp = refl; near = refl; ends = refl; cost = refl }
is_row op width Eax (Some r) t = record { sp = refl; near = refl; ends = refl; cost = refl }

pub begins : (op : TosOp) (width : Width) (row : Row) (s : RawSetting) (t : State) → IsRow op width t row → MayRun s row t → Begins width s.place (reach_of t) t
begins op width row s t is may =
    let high = may.high in
    let small = size_small width in
    let sp = is.sp in
    record { bytes = may.bytes; near = opens_near s row (size_of width) (sp_of t) t (omega arith) is.near may; fits = omega arith }

-- the lines lead to the operator's result
abbrev pub LeadsToResult : TosOp → Width → List Line → Type 1
LeadsToResult op width lines = (place : Placement) (bounds : Bounds) (P : State → Type 0) (back : Place) (t : State) → Begins width place bounds t
    → GivesResult op width (result_width op width) (tos_result op width (number_at width t.mem (sp_of t)) (primary_of width t)) back t P → leads place bounds P lines None (called back t)

-- an operator without loops, whose lines lead to its result
pub operator_meets : (s : RawSetting) (op : TosOp) (width : Width) (lines : List Line) → IsTrue (is_straight_operator op) → tos_cost op ≡ 256 → lines ≡ lines_of (routines.Tos op width)
    → s.lines (s.routine (routines.Tos op width)) ≡ lines → LeadsToResult op width lines → MeetsRow s (routines.Tos op width)
operator_meets s op width lines straight dear is has goes = meets_by s (routines.Tos op width) (λ t. tos_row op width t) (λ t. refl) (λ back t may.
    let result : Option ℕ = tos_result op width (number_at width t.mem (sp_of t)) (primary_of width t) in
    let row : Row = operator_row op width (result_width op width) result t in
    let known : IsRow op width t row = is_row op width (result_width op width) result t in
    let cost : 256 ≡ row.cost = sym (known.cost ∙ dear) in
    runs s (routines.Tos op width) row back t lines has (subst (λ (c : ℕ). IsShort c lines) cost (short_lines (routines.Tos op width) lines straight is)) known.ends may
    (goes s.place (reach_of t) (Ends row t) back t (begins op width row s t known may) (operator_ends op width (result_width op width) result back t may.running)))
