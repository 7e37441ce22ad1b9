-- What the machine and the grammar say of trees alike.
use Rattle.std.proofs.Common.{◌≡◌, ◌≤◌, Bool, true, false, refl, arith}
use Rattle.std.specs.Prelude.{◌||◌}
use Rattle.c65_base.specs.declared.operators.BinaryOp.{BinaryOp}
use Rattle.c65_base.specs.declared.operators.BinaryOp.TheVariants as ops
use Rattle.c65_base.specs.declared.operators.StepKind.{StepKind}
use Rattle.c65_base.specs.declared.operators.StepKind.TheVariants as steps
use Rattle.c65_tree.specs.declared.expr.Storage.{Storage}
use Rattle.c65_tree.specs.declared.expr.Storage.TheVariants as storages
use Rattle.c65_tree.specs.Depth.{expr_depth}
use Rattle.c65_tree.specs.Trees as t
use Rattle.c65_parse_trees.specs.declared.sign.Word.{Word}
use Rattle.c65_parse_trees.specs.declared.sign.Word.TheVariants as words
use Rattle.c65_parse_trees.specs.Levels as m
use Rattle.c65_parse_trees.specs.Names
use Rattle.c65_parse_trees.specs.Signs
use Rattle.c65_parse_trees.specs.Listings
use Rattle.c65_parse_grammar.specs.Parts as p
use Rattle.c65_parse_grammar.specs.Spellings.{is_before}

pub binary_level : (op : BinaryOp) → m.level_of_binary op ≡ p.level_of_binary op
binary_level ops.Mul = refl
binary_level ops.Div = refl
binary_level ops.Rem = refl
binary_level ops.Add = refl
binary_level ops.Sub = refl
binary_level ops.Shl = refl
binary_level ops.Shr = refl
binary_level ops.Lt = refl
binary_level ops.Gt = refl
binary_level ops.Le = refl
binary_level ops.Ge = refl
binary_level ops.Eq = refl
binary_level ops.Ne = refl
binary_level ops.BitAnd = refl
binary_level ops.BitXor = refl
binary_level ops.BitOr = refl

step_level : (how : StepKind) → m.level_of_step how ≡ p.level_of_step (is_before how)
step_level steps.PreInc = refl
step_level steps.PreDec = refl
step_level steps.PostInc = refl
step_level steps.PostDec = refl

pub level_is : (e : t.ExprTree) → m.level_of e ≡ p.level e
level_is (t.step l how e) = step_level how
level_is (t.binary l op a b) = binary_level op
level_is (t.name l n) = refl
level_is (t.number l ty n) = refl
level_is (t.text l bs) = refl
level_is (t.paren l e) = refl
level_is (t.index l a i) = refl
level_is (t.call l f es) = refl
level_is (t.member l e arrow n) = refl
level_is (t.unary l op e) = refl
level_is (t.sizeof_expr l e) = refl
level_is (t.sizeof_type l ty) = refl
level_is (t.cast l ty e) = refl
level_is (t.and_also l a b) = refl
level_is (t.or_else l a b) = refl
level_is (t.conditional l c a b) = refl
level_is (t.assign l op a b) = refl
level_is (t.comma l a b) = refl

pub name_is : (d : t.DeclaratorTree) → Names.declared_name d ≡ p.declared_name d
name_is (t.nameless l) = refl
name_is (t.named l n) = refl
name_is (t.grouped l d) = name_is d
name_is (t.calling l cdecl d) = name_is d
name_is (t.pointer l c v d) = name_is d
name_is (t.array l d n) = name_is d
name_is (t.function l d ps) = name_is d

pub type_word_is : (w : Word) → Signs.is_type_word w ≡ p.is_type_word (Signs.word_of w)
type_word_is words.Const = refl
type_word_is words.Volatile = refl
type_word_is words.Void = refl
type_word_is words.Char = refl
type_word_is words.Short = refl
type_word_is words.Int = refl
type_word_is words.Long = refl
type_word_is words.Float = refl
type_word_is words.Double = refl
type_word_is words.Signed = refl
type_word_is words.Unsigned = refl

pub typedef_word_is : (c : Storage) → Listings.is_typedef_word c ≡ p.is_typedef_word c
typedef_word_is storages.Typedef = refl
typedef_word_is storages.Extern = refl
typedef_word_is storages.Static = refl
typedef_word_is storages.Auto = refl
typedef_word_is storages.Register = refl

pub either_is : (a b : Bool) → Listings.either a b ≡ (a || b)
either_is true b = refl
either_is false b = refl

pub low_binary : (op : BinaryOp) → p.level_of_binary op ≤ 12
low_binary ops.Mul = omega arith
low_binary ops.Div = omega arith
low_binary ops.Rem = omega arith
low_binary ops.Add = omega arith
low_binary ops.Sub = omega arith
low_binary ops.Shl = omega arith
low_binary ops.Shr = omega arith
low_binary ops.Lt = omega arith
low_binary ops.Gt = omega arith
low_binary ops.Le = omega arith
low_binary ops.Ge = omega arith
low_binary ops.Eq = omega arith
low_binary ops.Ne = omega arith
low_binary ops.BitAnd = omega arith
low_binary ops.BitXor = omega arith
low_binary ops.BitOr = omega arith

-- no expression has depth 0
pub expr_deep : (e : t.ExprTree) → 1 ≤ expr_depth e
expr_deep (t.name l n) = omega arith
expr_deep (t.number l ty n) = omega arith
expr_deep (t.text l bs) = omega arith
expr_deep (t.paren l e) = omega arith
expr_deep (t.index l a i) = omega arith
expr_deep (t.call l f es) = omega arith
expr_deep (t.member l e arrow n) = omega arith
expr_deep (t.step l how e) = omega arith
expr_deep (t.unary l op e) = omega arith
expr_deep (t.sizeof_expr l e) = omega arith
expr_deep (t.sizeof_type l ty) = omega arith
expr_deep (t.cast l ty e) = omega arith
expr_deep (t.binary l op a b) = omega arith
expr_deep (t.and_also l a b) = omega arith
expr_deep (t.or_else l a b) = omega arith
expr_deep (t.conditional l c a b) = omega arith
expr_deep (t.assign l op a b) = omega arith
expr_deep (t.comma l a b) = omega arith
