-- Syntax trees without Box and Vec. Lists grow at their end, as C90's list productions do.
use Rattle.std.specs.Prelude.{ℕ, List, Bool, Option}
use Rattle.c65_base.specs.declared.refusal.Pos.{Pos}
use Rattle.c65_base.specs.declared.names.Name.{Name}
use Rattle.c65_ints.specs.declared.types.IntType.{IntType}
use Rattle.c65_base.specs.declared.operators.StepKind.{StepKind}
use Rattle.c65_base.specs.declared.operators.UnaryOp.{UnaryOp}
use Rattle.c65_base.specs.declared.operators.BinaryOp.{BinaryOp}
use Rattle.c65_tree.specs.declared.expr.Storage.{Storage}

-- the specifiers that are one keyword and no storage class (C90 6.5.2, 6.5.3)
pub data Word : Type 0 where
  const : Word
  volatile : Word
  void : Word
  char : Word
  short : Word
  int : Word
  long : Word
  float : Word
  double : Word
  signed : Word
  unsigned : Word

mutual
  -- C90 6.3
  pub data ExprTree : Type 0 where
    name : Pos → Name → ExprTree
    number : Pos → IntType → ℕ → ExprTree
    text : Pos → List ℕ → ExprTree
    paren : Pos → ExprTree → ExprTree
    index : Pos → ExprTree → ExprTree → ExprTree
    call : Pos → ExprTree → ExprList → ExprTree
    member : Pos → ExprTree → Bool → Name → ExprTree
    step : Pos → StepKind → ExprTree → ExprTree
    unary : Pos → UnaryOp → ExprTree → ExprTree
    sizeof_expr : Pos → ExprTree → ExprTree
    sizeof_type : Pos → TypeTree → ExprTree
    cast : Pos → TypeTree → ExprTree → ExprTree
    binary : Pos → BinaryOp → ExprTree → ExprTree → ExprTree
    and_also : Pos → ExprTree → ExprTree → ExprTree
    or_else : Pos → ExprTree → ExprTree → ExprTree
    conditional : Pos → ExprTree → ExprTree → ExprTree → ExprTree
    assign : Pos → Option BinaryOp → ExprTree → ExprTree → ExprTree
    comma : Pos → ExprTree → ExprTree → ExprTree

  pub data ExprList : Type 0 where
    no_exprs : ExprList
    and_expr : ExprList → ExprTree → ExprList

  pub data MaybeExpr : Type 0 where
    no_expr : MaybeExpr
    an_expr : ExprTree → MaybeExpr

  -- C90 6.5.5
  pub data TypeTree : Type 0 where
    type_name : SpecifiersTree → DeclaratorTree → TypeTree

  -- C90 6.5
  pub data SpecifiersTree : Type 0 where
    specifiers : Pos → SpecifierList → SpecifiersTree

  pub data SpecifierList : Type 0 where
    no_specifiers : SpecifierList
    and_specifier : SpecifierList → SpecifierTree → SpecifierList

  pub data SpecifierTree : Type 0 where
    storage : Pos → Storage → SpecifierTree
    word : Pos → Word → SpecifierTree
    typedef_name : Pos → Name → SpecifierTree
    tagged : Pos → Bool → Option Name → MaybeMembers → SpecifierTree
    enum : Pos → Option Name → MaybeEnumerators → SpecifierTree

  -- C90 6.5.2.1
  pub data MaybeMembers : Type 0 where
    no_members : MaybeMembers
    the_members : MemberDeclList → MaybeMembers

  pub data MemberDeclList : Type 0 where
    no_member_decls : MemberDeclList
    and_member_decl : MemberDeclList → SpecifiersTree → MemberList → MemberDeclList

  pub data MemberList : Type 0 where
    no_more_members : MemberList
    and_member : MemberList → Pos → MaybeDeclarator → MaybeExpr → MemberList

  -- C90 6.5.2.2
  pub data MaybeEnumerators : Type 0 where
    no_enumerators : MaybeEnumerators
    the_enumerators : EnumeratorList → MaybeEnumerators

  pub data EnumeratorList : Type 0 where
    no_more_enumerators : EnumeratorList
    and_enumerator : EnumeratorList → Pos → Name → MaybeExpr → EnumeratorList

  -- C90 6.5.4, 6.5.5
  pub data DeclaratorTree : Type 0 where
    nameless : Pos → DeclaratorTree
    named : Pos → Name → DeclaratorTree
    grouped : Pos → DeclaratorTree → DeclaratorTree
    calling : Pos → Bool → DeclaratorTree → DeclaratorTree
    pointer : Pos → Bool → Bool → DeclaratorTree → DeclaratorTree
    array : Pos → DeclaratorTree → MaybeExpr → DeclaratorTree
    function : Pos → DeclaratorTree → ParamsTree → DeclaratorTree

  pub data MaybeDeclarator : Type 0 where
    no_declarator : MaybeDeclarator
    a_declarator : DeclaratorTree → MaybeDeclarator

  -- C90 6.5.4.3
  pub data ParamsTree : Type 0 where
    no_params : ParamsTree
    param_names : List (Name × Pos) → ParamsTree
    param_types : ParamList → Bool → ParamsTree

  pub data ParamList : Type 0 where
    no_more_params : ParamList
    and_param : ParamList → SpecifiersTree → DeclaratorTree → ParamList

-- C90 6.5.7
mutual
  pub data InitTree : Type 0 where
    value : Pos → ExprTree → InitTree
    list : Pos → InitList → InitTree

  pub data InitList : Type 0 where
    no_inits : InitList
    and_init : InitList → InitTree → InitList

pub record InitDeclaratorTree : Type 0 where
  pub declarator : DeclaratorTree
  pub init : Option InitTree

-- C90 6.5
pub record DeclTree : Type 0 where
  pub specifiers : SpecifiersTree
  pub declarators : List InitDeclaratorTree

-- C90 6.6
mutual
  pub data StmtTree : Type 0 where
    label : Pos → Name → StmtTree → StmtTree
    case : Pos → ExprTree → StmtTree → StmtTree
    default : Pos → StmtTree → StmtTree
    block : Pos → List DeclTree → StmtList → StmtTree
    eval : Pos → Option ExprTree → StmtTree
    if_stmt : Pos → ExprTree → StmtTree → MaybeStmt → StmtTree
    switch : Pos → ExprTree → StmtTree → StmtTree
    while : Pos → ExprTree → StmtTree → StmtTree
    do_while : Pos → StmtTree → ExprTree → StmtTree
    for : Pos → Option ExprTree → Option ExprTree → Option ExprTree → StmtTree → StmtTree
    goto : Pos → Name → StmtTree
    continue : Pos → StmtTree
    break : Pos → StmtTree
    return : Pos → Option ExprTree → StmtTree

  pub data MaybeStmt : Type 0 where
    no_stmt : MaybeStmt
    a_stmt : StmtTree → MaybeStmt

  pub data StmtList : Type 0 where
    no_stmts : StmtList
    and_stmt : StmtList → StmtTree → StmtList

-- C90 6.7
pub record FunctionTree : Type 0 where
  pub specifiers : SpecifiersTree
  pub declarator : DeclaratorTree
  pub declarations : List DeclTree
  pub body : StmtTree

pub data ItemTree : Type 0 where
  declaration : DeclTree → ItemTree
  definition : FunctionTree → ItemTree

pub record UnitTree : Type 0 where
  pub items : List ItemTree
