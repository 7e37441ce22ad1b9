-- What the rules ask of trees: how tightly they hold together, where they begin, and what they declare.
use Rattle.std.specs.Prelude.{ℕ, Bool, true, false, ◌||◌, Option, None, Some}
use Rattle.c65_base.specs.declared.names.Name.{Name}
use Rattle.c65_base.specs.declared.operators.BinaryOp.{BinaryOp}
use Rattle.c65_base.specs.declared.operators.BinaryOp.TheVariants as ops
use Rattle.c65_base.specs.declared.refusal.Pos.{Pos}
use Rattle.c65_tree.specs.declared.expr.Storage.{Storage}
use Rattle.c65_tree.specs.declared.expr.Storage.TheVariants as storages
use Rattle.c65_tree.specs.Trees as t
use Rattle.c65_parse_grammar.specs.Spellings.{is_before}

-- C90 6.3.5 to 6.3.12
abbrev pub level_of_binary : BinaryOp → ℕ
level_of_binary ops.Mul = 12
level_of_binary ops.Div = 12
level_of_binary ops.Rem = 12
level_of_binary ops.Add = 11
level_of_binary ops.Sub = 11
level_of_binary ops.Shl = 10
level_of_binary ops.Shr = 10
level_of_binary ops.Lt = 9
level_of_binary ops.Gt = 9
level_of_binary ops.Le = 9
level_of_binary ops.Ge = 9
level_of_binary ops.Eq = 8
level_of_binary ops.Ne = 8
level_of_binary ops.BitAnd = 7
level_of_binary ops.BitXor = 6
level_of_binary ops.BitOr = 5

abbrev pub level_of_step : Bool → ℕ
level_of_step true = 14
level_of_step false = 15

-- 15 postfix, 14 unary, 13 cast, 12 to 3 binary, 2 conditional, 1 assignment, 0 comma
abbrev pub level : t.ExprTree → ℕ
level (t.name l n) = 15
level (t.number l ty n) = 15
level (t.text l bs) = 15
level (t.paren l e) = 15
level (t.index l a i) = 15
level (t.call l f es) = 15
level (t.member l e arrow n) = 15
level (t.step l how e) = level_of_step (is_before how)
level (t.unary l op e) = 14
level (t.sizeof_expr l e) = 14
level (t.sizeof_type l ty) = 14
level (t.cast l ty e) = 13
level (t.binary l op a b) = level_of_binary op
level (t.and_also l a b) = 4
level (t.or_else l a b) = 3
level (t.conditional l c a b) = 2
level (t.assign l op a b) = 1
level (t.comma l a b) = 0

abbrev pub step_place : Bool → Pos → Pos → Pos
step_place true own operand = own
step_place false own operand = operand

-- the place of an expression's first token
abbrev pub start : t.ExprTree → Pos
start (t.name l n) = l
start (t.number l ty n) = l
start (t.text l bs) = l
start (t.paren l e) = l
start (t.index l a i) = start a
start (t.call l f es) = start f
start (t.member l e arrow n) = start e
start (t.step l how e) = step_place (is_before how) l (start e)
start (t.unary l op e) = l
start (t.sizeof_expr l e) = l
start (t.sizeof_type l ty) = l
start (t.cast l ty e) = l
start (t.binary l op a b) = start a
start (t.and_also l a b) = start a
start (t.or_else l a b) = start a
start (t.conditional l c a b) = start c
start (t.assign l op a b) = start a
start (t.comma l a b) = start a

-- the place of a declarator's first token
abbrev pub declarator_start : t.DeclaratorTree → Pos
declarator_start (t.nameless l) = l
declarator_start (t.named l n) = l
declarator_start (t.grouped l d) = l
declarator_start (t.calling l cdecl d) = l
declarator_start (t.pointer l c v d) = l
declarator_start (t.array l d n) = declarator_start d
declarator_start (t.function l d ps) = declarator_start d

abbrev pub specifier_place : t.SpecifierTree → Pos
specifier_place (t.storage l c) = l
specifier_place (t.word l w) = l
specifier_place (t.typedef_name l n) = l
specifier_place (t.tagged l union tag ms) = l
specifier_place (t.enum l tag es) = l

-- the place of the first of some specifiers, or where there are none that of what stands behind them
abbrev pub first_place : Pos → t.SpecifierList → Pos
first_place l t.no_specifiers = l
first_place l (t.and_specifier qs q) = first_place (specifier_place q) qs

abbrev pub is_type_word : t.Word → Bool
is_type_word t.const = false
is_type_word t.volatile = false
is_type_word _ = true

abbrev pub is_type_specifier : t.SpecifierTree → Bool
is_type_specifier (t.storage l c) = false
is_type_specifier (t.word l w) = is_type_word w
is_type_specifier (t.typedef_name l n) = true
is_type_specifier (t.tagged l union tag ms) = true
is_type_specifier (t.enum l tag es) = true

-- whether a type specifier is among them
abbrev pub list_has_type : t.SpecifierList → Bool
list_has_type t.no_specifiers = false
list_has_type (t.and_specifier qs q) = list_has_type qs || is_type_specifier q

abbrev pub has_type : t.SpecifiersTree → Bool
has_type (t.specifiers l qs) = list_has_type qs

abbrev pub is_typedef_word : Storage → Bool
is_typedef_word storages.Typedef = true
is_typedef_word _ = false

abbrev pub is_typedef_specifier : t.SpecifierTree → Bool
is_typedef_specifier (t.storage l c) = is_typedef_word c
is_typedef_specifier (t.word l w) = false
is_typedef_specifier (t.typedef_name l n) = false
is_typedef_specifier (t.tagged l union tag ms) = false
is_typedef_specifier (t.enum l tag es) = false

abbrev pub list_is_typedef : t.SpecifierList → Bool
list_is_typedef t.no_specifiers = false
list_is_typedef (t.and_specifier qs q) = list_is_typedef qs || is_typedef_specifier q

-- whether the names declared with them are types
abbrev pub is_typedef : t.SpecifiersTree → Bool
is_typedef (t.specifiers l qs) = list_is_typedef qs

abbrev pub is_empty_list : t.SpecifierList → Bool
is_empty_list t.no_specifiers = true
is_empty_list (t.and_specifier qs q) = false

abbrev pub is_empty : t.SpecifiersTree → Bool
is_empty (t.specifiers l qs) = is_empty_list qs

-- the name that a declarator declares
abbrev pub declared_name : t.DeclaratorTree → Option Name
declared_name (t.nameless l) = None
declared_name (t.named l n) = Some n
declared_name (t.grouped l d) = declared_name d
declared_name (t.calling l cdecl d) = declared_name d
declared_name (t.pointer l c v d) = declared_name d
declared_name (t.array l d n) = declared_name d
declared_name (t.function l d ps) = declared_name d

-- the name that is a declarator's first token
abbrev pub first_name : t.DeclaratorTree → Option Name
first_name (t.nameless l) = None
first_name (t.named l n) = Some n
first_name (t.grouped l d) = None
first_name (t.calling l cdecl d) = None
first_name (t.pointer l c v d) = None
first_name (t.array l d n) = first_name d
first_name (t.function l d ps) = first_name d

abbrev pub is_nameless : t.DeclaratorTree → Bool
is_nameless (t.nameless l) = true
is_nameless _ = false

-- no pointer, and no word of a calling convention before it (C90 6.5.4)
abbrev pub is_direct : t.DeclaratorTree → Bool
is_direct (t.calling l cdecl d) = false
is_direct (t.pointer l c v d) = false
is_direct _ = true

abbrev pub or_else_params : Option t.ParamsTree → t.ParamsTree → Option t.ParamsTree
or_else_params None ps = Some ps
or_else_params (Some inner) ps = Some inner

-- the parameters of the function part that is met first from the name outward
abbrev pub nearest_params : t.DeclaratorTree → Option t.ParamsTree
nearest_params (t.nameless l) = None
nearest_params (t.named l n) = None
nearest_params (t.grouped l d) = nearest_params d
nearest_params (t.calling l cdecl d) = nearest_params d
nearest_params (t.pointer l c v d) = nearest_params d
nearest_params (t.array l d n) = nearest_params d
nearest_params (t.function l d ps) = or_else_params (nearest_params d) ps
