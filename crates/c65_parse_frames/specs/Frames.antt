-- What is open while a statement is read (C90 6.6), the innermost first.
use Rattle.std.specs.Prelude.{List, [], ◌∷◌, ◌++◌, length, map, Bool, true, false, Option, None, Some}
use Rattle.c65_base.specs.declared.names.Name.{Name}
use Rattle.c65_base.specs.declared.refusal.Pos.{Pos}
use Rattle.c65_tree.specs.declared.stmt.Decl.{Decl}
use Rattle.c65_tree.specs.declared.stmt.Stmt.{Stmt}
use Rattle.c65_tree.specs.Trees as t
use Rattle.c65_tree.specs.View.{decl_of, stmt_of, stmts_from, maybe}
use Rattle.c65_parse_frames.specs.declared.frame.Place.{Place}

-- a statement whose last part is the statement that is read next
pub data Head : Type 0 where
  in_label : Pos → Name → Head
  in_case : Pos → t.ExprTree → Head
  in_default : Pos → Head
  in_else : Pos → t.ExprTree → t.StmtTree → Head
  in_switch : Pos → t.ExprTree → Head
  in_while : Pos → t.ExprTree → Head
  in_for : Pos → Option t.ExprTree → Option t.ExprTree → Option t.ExprTree → Head

pub data Frame : Type 0 where
  in_head : Head → Frame
  in_block : Pos → List t.DeclTree → t.StmtList → Frame
  in_then : Pos → t.ExprTree → Frame
  in_do : Pos → Frame

pub data Plugged : Type 0 where
  plugged_whole : t.StmtTree → Plugged
  plugged_open : Frame → Plugged

pub data Begun : Type 0 where
  begun_open : Frame → Begun
  begun_decl : t.DeclTree → Begun
  begun_whole : t.StmtTree → Begun
  begun_close : Begun

pub data Reached : Type 0 where
  reached_end : t.StmtTree → Reached
  reached_need : List Frame → Reached

abbrev pub decls_of : List Decl → List t.DeclTree
decls_of ds = map decl_of ds

abbrev pub stmts_of : List Stmt → t.StmtList
stmts_of ss = stmts_from t.no_stmts ss

abbrev pub is_block : Frame → Bool
is_block (in_head h) = false
is_block (in_block l ds ss) = true
is_block (in_then l e) = false
is_block (in_do l) = false

abbrev pub is_no_stmts : t.StmtList → Bool
is_no_stmts t.no_stmts = true
is_no_stmts (t.and_stmt ss s) = false

-- declarations stand before the statements of a block (C90 6.6.2)
abbrev pub is_bare : Frame → Bool
is_bare (in_head h) = false
is_bare (in_block l ds ss) = is_no_stmts ss
is_bare (in_then l e) = false
is_bare (in_do l) = false

abbrev pub place_in : List Frame → Place
place_in [] = record { in_block = false; takes_declarations = false; around = 0 }
place_in (f ∷ fs) = record { in_block = is_block f; takes_declarations = is_bare f; around = length (f ∷ fs) }

abbrev pub completed : Head → t.StmtTree → t.StmtTree
completed (in_label l n) s = t.label l n s
completed (in_case l e) s = t.case l e s
completed (in_default l) s = t.default l s
completed (in_else l e r) s = t.if_stmt l e r (t.a_stmt s)
completed (in_switch l e) s = t.switch l e s
completed (in_while l e) s = t.while l e s
completed (in_for l e f g) s = t.for l e f g s

abbrev pub with_statement : Pos → List t.DeclTree → t.StmtList → t.StmtTree → Frame
with_statement l ds ss s = in_block l ds (t.and_stmt ss s)

abbrev pub declared_in : Frame → t.DeclTree → Frame
declared_in (in_head h) d = in_head h
declared_in (in_block l ds ss) d = in_block l (ds ++ d ∷ []) ss
declared_in (in_then l e) d = in_then l e
declared_in (in_do l) d = in_do l

abbrev pub with_declaration : List Frame → t.DeclTree → List Frame
with_declaration [] d = []
with_declaration (f ∷ fs) d = declared_in f d ∷ fs

abbrev pub block_of : Frame → Option t.StmtTree
block_of (in_head h) = None
block_of (in_block l ds ss) = Some (t.block l ds ss)
block_of (in_then l e) = None
block_of (in_do l) = None

abbrev pub option_stmt : Option Stmt → Option t.StmtTree
option_stmt s = maybe stmt_of s
