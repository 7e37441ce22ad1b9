-- Typed trees, without where they lie in memory (C90 6.3, 6.6, 6.7).
use Rattle.std.specs.Prelude.{ℕ, ℤ, List, Bool, Option}
use Rattle.c65_base.specs.declared.names.Name.{Name}
use Rattle.c65_base.specs.declared.operators.UnaryOp.{UnaryOp}
use Rattle.c65_base.specs.declared.operators.BinaryOp.{BinaryOp}
use Rattle.c65_base.specs.declared.operators.StepKind.{StepKind}
use Rattle.c65_ints.specs.declared.types.IntType.{IntType}
use Rattle.c65_ctype.specs.Trees.{QTy, Fn, TypesTy}
use Rattle.c65_csem.specs.declared.items.Class.{Class}
use Rattle.c65_csem.specs.declared.items.Cell.{Cell}
use Rattle.c65_base.specs.declared.library.Library.{Library}

mutual
  -- an expression and its type
  pub data Typed : Type 0 where
    node : QTy → Node → Typed

  pub data Node : Type 0 where
    constant : ℤ → Node
    null : Node
    literal : ℕ → Node
    object : ℕ → Node
    func : ℕ → Node
    deref : Typed → Node
    member : Typed → ℕ → Node
    load : Typed → Node
    address : Typed → Node
    decay : Typed → Node
    convert : Typed → Node
    unary : UnaryOp → Typed → Node
    binary : BinaryOp → Typed → Typed → Node
    both : Typed → Typed → Node
    either : Typed → Typed → Node
    choice : Typed → Typed → Typed → Node
    comma : Typed → Typed → Node
    assign : Typed → Typed → Node
    assign_op : BinaryOp → IntType → Typed → Typed → Node
    assign_step : BinaryOp → Typed → Typed → Node
    step : StepKind → Typed → Node
    copy : Typed → Typed → Node
    call : Typed → Nodes → Node
    pack : Typed → Node
    spill : ℕ → Typed → Node
    rest : Node

  pub data Nodes : Type 0 where
    none : Nodes
    some : Typed → Nodes → Nodes

pub data MaybeTyped : Type 0 where
  absent : MaybeTyped
  present : Typed → MaybeTyped

mutual
  pub data Stmt : Type 0 where
    empty : Stmt
    eval : Typed → Stmt
    set_part : ℕ → ℕ → Typed → Stmt
    clear : ℕ → Stmt
    block : List ℕ → Stmts → Stmt
    if_stmt : Typed → Stmt → Stmt → Stmt
    while : Typed → Stmt → Stmt
    do_while : Stmt → Typed → Stmt
    for_loop : MaybeTyped → MaybeTyped → MaybeTyped → Stmt → Stmt
    switch : Typed → Stmt → Stmt
    case : ℤ → Stmt → Stmt
    default : Stmt → Stmt
    label : ℕ → Stmt → Stmt
    goto : ℕ → Stmt
    break : Stmt
    continue : Stmt
    return : MaybeTyped → Stmt

  pub data Stmts : Type 0 where
    no_stmts : Stmts
    and_stmts : Stmt → Stmts → Stmts

-- an object: its name, its type, how it is defined, and its first bytes; one that holds what a call gives has no name
pub record ObjectTy : Type 0 where
  pub name : Option Name
  pub ty : QTy
  pub class : Class
  pub init : Option (List Cell)

-- a function: its parameters are objects; it has a body, or is one of the library, or is only declared
pub record FuncTy : Type 0 where
  pub name : Name
  pub ty : Fn
  pub external : Bool
  pub params : List ℕ
  pub body : Option Stmt
  pub library : Option Library

pub record UnitTy : Type 0 where
  pub types : TypesTy
  pub objects : List ObjectTy
  pub literals : List (List ℕ)
  pub funcs : List FuncTy

abbrev pub type_of : Typed → QTy
type_of (node t e) = t
