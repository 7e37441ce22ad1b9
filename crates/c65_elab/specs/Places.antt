-- The place of an expression: that of its operator, name or constant; and the place where it begins.
use Rattle.std.specs.Prelude.{List, [], ◌∷◌, ◌++◌}
use Rattle.c65_base.specs.declared.operators.StepKind.{StepKind}
use Rattle.c65_base.specs.declared.operators.StepKind.TheVariants.{PreInc, PreDec, PostInc, PostDec}
use Rattle.c65_base.specs.declared.refusal.Pos.{Pos}
use Rattle.c65_tree.specs.Trees as t

abbrev pub place_of : t.ExprTree → Pos
place_of (t.name p n) = p
place_of (t.number p k n) = p
place_of (t.text p bytes) = p
place_of (t.paren p e) = p
place_of (t.index p a b) = p
place_of (t.call p f es) = p
place_of (t.member p e arrow n) = p
place_of (t.step p how e) = p
place_of (t.unary p op e) = p
place_of (t.sizeof_expr p e) = p
place_of (t.sizeof_type p n) = p
place_of (t.cast p n e) = p
place_of (t.binary p op a b) = p
place_of (t.and_also p a b) = p
place_of (t.or_else p a b) = p
place_of (t.conditional p x a b) = p
place_of (t.assign p op a b) = p
place_of (t.comma p a b) = p

abbrev pub step_first : StepKind → Pos → Pos → Pos
step_first PreInc p q = p
step_first PreDec p q = p
step_first PostInc p q = q
step_first PostDec p q = q

-- the place of the first token
abbrev pub first_of : t.ExprTree → Pos
first_of (t.name p n) = p
first_of (t.number p k n) = p
first_of (t.text p bytes) = p
first_of (t.paren p e) = p
first_of (t.index p a b) = first_of a
first_of (t.call p f es) = first_of f
first_of (t.member p e arrow n) = first_of e
first_of (t.step p how e) = step_first how p (first_of e)
first_of (t.unary p op e) = p
first_of (t.sizeof_expr p e) = p
first_of (t.sizeof_type p n) = p
first_of (t.cast p n e) = p
first_of (t.binary p op a b) = first_of a
first_of (t.and_also p a b) = first_of a
first_of (t.or_else p a b) = first_of a
first_of (t.conditional p x a b) = first_of x
first_of (t.assign p op a b) = first_of a
first_of (t.comma p a b) = first_of a

abbrev pub firsts_of : t.ExprList → List Pos
firsts_of t.no_exprs = []
firsts_of (t.and_expr es e) = firsts_of es ++ first_of e ∷ []
