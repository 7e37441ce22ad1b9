-- Sums whose value goes through AX.
use Rattle.std.proofs.Common.{◌≡◌, ℕ, ℤ, ◌+◌, List, [], ◌∷◌, ◌++◌, None, refl, sym, ap, ◌∙◌, subst, append_assoc}
use Rattle.std.specs.Prelude.{if◌then◌else◌}
use Rattle.c65_base.specs.declared.operators.BinaryOp.{BinaryOp}
use Rattle.c65_base.specs.declared.operators.BinaryOp.TheVariants as ops
use Rattle.c65_ints.specs.declared.types.IntType.{IntType}
use Rattle.c65_ctype.specs.Trees.{Ty, QTy, int, pointer, type_in}
use Rattle.c65_csem.specs.Trees.{Typed, node, constant, binary}
use Rattle.c65_csem_need.specs.Needs.{need}
use Rattle.c65_meaning.specs.Store as values
use Rattle.c65_meaning.specs.Items.{plan}
use Rattle.c65_code.specs.declared.line.Line.{Line}
use Rattle.c65_code.specs.declared.line.Line.TheVariants.{Label}
use Rattle.c65_code.specs.Placement.{IsPlacement}
use Rattle.c65_genframe.specs.Frames.{Framed}
use Rattle.c65_genload.specs.declared.places.Place.TheVariants.{Far}
use Rattle.c65_genload.specs.Conversions.{waiting}
use Rattle.c65_genwide.specs.Wide.{width_of}
use Rattle.c65_gendirect.specs.Compare.{relation_of}
use Rattle.c65_gendirect.specs.declared.bytes.OperandByte.{OperandByte}
use Rattle.c65_gendirect.specs.Words.{word_code}
use Rattle.c65_gendirect.specs.Pointed.{pointer_code}
use Rattle.c65_genexpr.specs.declared.destination.Destination.TheVariants.{Registers, Pointer}
use Rattle.c65_genexpr.specs.declared.operands.Operands.{Operands}
use Rattle.c65_genexpr.specs.declared.operating.Form.{Form}
use Rattle.c65_genexpr.specs.declared.operating.Form.TheVariants as forms
use Rattle.c65_genexpr.specs.declared.operating.Operating.{Operating}
use Rattle.c65_genexpr.specs.declared.operating.Operating.TheVariants.{Left, Right, Held, Stacked}
use Rattle.c65_genexpr.specs.declared.wanted.Wanted.TheVariants.{Value}
use Rattle.c65_genexpr.specs.Types.{bare, kind_in}
use Rattle.c65_genexpr.specs.Held.{keep_code}
use Rattle.c65_genexpr.specs.Operands.{operands_of, computes}
use Rattle.c65_genexpr.specs.Operating.{operating_of, below_operand, operator_by, value_form, pointed_form, placed as placed_code, waiting_code, stacked_code}
use Rattle.c65_genexpr.specs.Places.{sum_has_base, sum_place, target_of}
use Rattle.c65_genexpr.specs.Uses.{uses}
use Rattle.c65_genexpr.specs.Code.{expr_code, pointer_base_code, sum_base_code, operator_code}
use Rattle.c65_agree_state.specs.World.{World, unit_in, Active}
use Rattle.c65_agree_state.specs.Exprs.{shape_in, ExpressionDoes}
use Rattle.c65_agree_structures.proofs.Pointers.{sum_lines, told_by_value}
use Rattle.c65_agree_access.specs.Pointed.{TellsPointed}
use Rattle.c65_agree_access.specs.PointedLaws.{IsThroughAx, ComesThroughAx, SumsArePointed}
use Rattle.c65_agree_access.proofs.Arriving.{arrives}

-- ---- the lines

module _ (low high : OperandByte) (label : ℕ) where
  word_through : (op : BinaryOp) → IsThroughAx (forms.Word op low high) → pointed_form (forms.Word op low high) label ≡ value_form (forms.Word op low high) label ++ pointer_code
  word_through ops.Add h = absurd h
  word_through ops.Sub h = sym (append_assoc (word_code ops.Sub low high label) (placed_code ops.Sub label) pointer_code)
  word_through ops.Mul h = sym (append_assoc (word_code ops.Mul low high label) (placed_code ops.Mul label) pointer_code)
  word_through ops.Div h = sym (append_assoc (word_code ops.Div low high label) (placed_code ops.Div label) pointer_code)
  word_through ops.Rem h = sym (append_assoc (word_code ops.Rem low high label) (placed_code ops.Rem label) pointer_code)
  word_through ops.Shl h = sym (append_assoc (word_code ops.Shl low high label) (placed_code ops.Shl label) pointer_code)
  word_through ops.Shr h = sym (append_assoc (word_code ops.Shr low high label) (placed_code ops.Shr label) pointer_code)
  word_through ops.Lt h = sym (append_assoc (word_code ops.Lt low high label) (placed_code ops.Lt label) pointer_code)
  word_through ops.Gt h = sym (append_assoc (word_code ops.Gt low high label) (placed_code ops.Gt label) pointer_code)
  word_through ops.Le h = sym (append_assoc (word_code ops.Le low high label) (placed_code ops.Le label) pointer_code)
  word_through ops.Ge h = sym (append_assoc (word_code ops.Ge low high label) (placed_code ops.Ge label) pointer_code)
  word_through ops.Eq h = sym (append_assoc (word_code ops.Eq low high label) (placed_code ops.Eq label) pointer_code)
  word_through ops.Ne h = sym (append_assoc (word_code ops.Ne low high label) (placed_code ops.Ne label) pointer_code)
  word_through ops.BitAnd h = sym (append_assoc (word_code ops.BitAnd low high label) (placed_code ops.BitAnd label) pointer_code)
  word_through ops.BitXor h = sym (append_assoc (word_code ops.BitXor low high label) (placed_code ops.BitXor label) pointer_code)
  word_through ops.BitOr h = sym (append_assoc (word_code ops.BitOr low high label) (placed_code ops.BitOr label) pointer_code)

through_ax : (form : Form) (label : ℕ) → IsThroughAx form → pointed_form form label ≡ value_form form label ++ pointer_code
through_ax (forms.Sum n) label h = refl
through_ax (forms.LongSum n) label h = refl
through_ax (forms.Mask op n) label h = refl
through_ax (forms.Constant kind quick) label h = refl
through_ax (forms.Word op low high) label h = word_through low high label op h
through_ax (forms.Under low high) label h = refl
through_ax (forms.Indexed size low high) label h = absurd h
through_ax (forms.Distance size low high) label h = refl
through_ax (forms.DistanceUnder size low high) label h = refl

module _ (op : BinaryOp) (operands : Operands) (right : IntType) (label : ℕ) (a b : List Line) where
  operator_through : (how : Operating) → ComesThroughAx how → operator_by Pointer how op operands right label a b ≡ operator_by Registers how op operands right label a b ++ pointer_code
  operator_through (Left form) h = ap (λ ls. a ++ ls) (through_ax form label h) ∙ sym (append_assoc a (value_form form label) pointer_code)
  operator_through (Right form) h = ap (λ ls. b ++ ls) (through_ax form label h) ∙ sym (append_assoc b (value_form form label) pointer_code)
  operator_through (Held form) h =
      ap (λ ls. a ++ (keep_code ++ (b ++ ls))) (through_ax form label h)
      ∙ sym (append_assoc a (keep_code ++ (b ++ value_form form label)) pointer_code ∙ ap (λ ls. a ++ ls) (append_assoc keep_code (b ++ value_form form label) pointer_code ∙ ap (λ ls. keep_code ++ ls) (append_assoc b (value_form form label) pointer_code)))
  operator_through Stacked h =
      let w : List Line = waiting_code operands in
      let s : List Line = stacked_code op operands right in
      let end : List Line = Label label ∷ [] in
      sym (append_assoc a (w ++ (b ++ (s ++ end))) pointer_code ∙ ap (λ ls. a ++ ls) (append_assoc w (b ++ (s ++ end)) pointer_code ∙ ap (λ ls. w ++ ls) (append_assoc b (s ++ end) pointer_code ∙ ap (λ ls. b ++ ls) (append_assoc s end pointer_code))))

-- ---- the law

module _ (f : Framed) (pushed fresh : ℕ) (t : QTy) (x y : Typed) where
  abbrev operands : Operands
  operands = operands_of f (bare x) (bare y)

  abbrev how : BinaryOp → Operating
  how op = operating_of f pushed op operands x y

  through : (op : BinaryOp) → ComesThroughAx (how op) → operator_code f pushed fresh Pointer op x y ≡ operator_code f pushed fresh Registers op x y ++ pointer_code
  through op h = operator_through op operands (kind_in y) fresh (expr_code f pushed (fresh + 1) Value x) (expr_code f (below_operand (how op) pushed (waiting (width_of (computes operands)))) (fresh + 1 + uses None x) Value y) (how op) h

  sum_through : (op : BinaryOp) → relation_of op ≡ None → ComesThroughAx (how op) → sum_base_code f pushed fresh Pointer t op x y ≡ sum_base_code f pushed fresh Registers t op x y ++ pointer_code
  sum_through ops.Mul e h = through ops.Mul h
  sum_through ops.Div e h = through ops.Div h
  sum_through ops.Rem e h = through ops.Rem h
  sum_through ops.Add e h = through ops.Add h
  sum_through ops.Sub e h = through ops.Sub h
  sum_through ops.Shl e h = through ops.Shl h
  sum_through ops.Shr e h = through ops.Shr h
  sum_through ops.BitAnd e h = through ops.BitAnd h
  sum_through ops.BitXor e h = through ops.BitXor h
  sum_through ops.BitOr e h = through ops.BitOr h
  sum_through ops.Lt e h = cc
  sum_through ops.Gt e h = cc
  sum_through ops.Le e h = cc
  sum_through ops.Ge e h = cc
  sum_through ops.Eq e h = cc
  sum_through ops.Ne e h = cc

-- behind the lines of its value
pub sum_arrives : (g : World) (a : Active) (size : ℕ) (t : QTy) (op : BinaryOp) (x y : Typed) → IsPlacement g.code g.place → relation_of op ≡ None → (pushed fresh : ℕ) → ComesThroughAx (operating_of a.frame pushed op (operands_of a.frame (bare x) (bare y)) x y)
    → shape_in g a (node t (binary op x y)) ≡ values.Pointer size → ExpressionDoes g a (node t (binary op x y)) → TellsPointed g a (plan (unit_in g) (node t (binary op x y))) (need (node t (binary op x y))) pushed (Far 0) (sum_base_code a.frame pushed fresh Pointer t op x y)
sum_arrives g a size t op x y placed arithmetic pushed fresh comes shape does =
    let e : Typed = node t (binary op x y) in
    let lines : List Line = sum_base_code a.frame pushed fresh Registers t op x y in
    subst (TellsPointed g a (plan (unit_in g) e) (need e) pushed (Far 0)) (sym (sum_through a.frame pushed fresh t x y op arithmetic comes))
    (arrives g a (plan (unit_in g) e) (need e) pushed 0 lines placed (told_by_value g a size t (binary op x y) pushed fresh (Far 0) lines (sum_lines a.frame pushed fresh t x y op arithmetic) refl shape (does pushed fresh)))

pub constant_comes : (f : Framed) (pushed : ℕ) (x : Typed) (s : QTy) (z : ℤ) (q : QTy) (kind : IntType) → bare x ≡ pointer q → type_in s ≡ int kind → ComesThroughAx (operating_of f pushed ops.Add (operands_of f (bare x) (type_in s)) x (node s (constant z)))
constant_comes f pushed x s z q kind names number =
    subst (λ (y : Ty). ComesThroughAx (operating_of f pushed ops.Add (operands_of f y (type_in s)) x (node s (constant z)))) (sym names)
    (subst (λ (y : Ty). ComesThroughAx (operating_of f pushed ops.Add (operands_of f (pointer q) y) x (node s (constant z)))) (sym number) tt)

pub sums_are_pointed : SumsArePointed
sums_are_pointed g a size t op x y placed arithmetic none comes shape does pushed fresh =
    let e : Typed = node t (binary op x y) in
    subst (λ o. TellsPointed g a (plan (unit_in g) e) (need e) pushed (sum_place (target_of a.frame pushed x) o) (if sum_has_base (target_of a.frame pushed x) o then Label fresh ∷ pointer_base_code a.frame pushed (fresh + 1) Pointer x else sum_base_code a.frame pushed fresh Pointer t op x y)) (sym none)
    (sum_arrives g a size t op x y placed arithmetic pushed fresh (comes pushed) shape does)
