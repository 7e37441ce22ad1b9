-- The walks of the lists of a unit.
use Rattle.std.proofs.Common.{◌≡◌, ℕ, suc, ◌+◌, ◌-◌, ◌<◌, ◌≤◌, min, Bool, List, [], ◌∷◌, ◌++◌, length, map, false, refl, sym, ap, arith, Ok}
use Rattle.std.proofs.lemmas.Bool.Decides.{nat_tests}
use Rattle.std.specs.Prelude.{Result, Option, ◌==◌}
use Rattle.c65_base.specs.declared.refusal.Pos.{Pos}
use Rattle.c65_base.specs.Answers.{Fault, ◌>>=◌}
use Rattle.c65_ctype.specs.Trees.{QTy}
use Rattle.c65_csem.specs.Trees.{Stmt}
use Rattle.c65_elab_scope.specs.Scopes.{ScopeTy}
use Rattle.c65_elab_scope.specs.Declaring.{enumerator_declared}
use Rattle.c65_elab_declare.specs.declared.heading.Enumerator.{Enumerator}
use Rattle.c65_tree.specs.declared.expr.Storage.{Storage}
use Rattle.c65_tree.specs.declared.stmt.InitDeclarator.{InitDeclarator}
use Rattle.c65_tree.specs.declared.stmt.Decl.{Decl}
use Rattle.c65_tree.specs.declared.stmt.Item.{Item}
use Rattle.c65_tree.specs.declared.stmt.Stmt as stmt
use Rattle.c65_tree.specs.Trees as t
use Rattle.c65_tree.specs.View as v
use Rattle.c65_tree.proofs.Growing.{stmts_push}
use Rattle.c65_elab.proofs.Walks.{Goes}
use Rattle.c65_init.specs.Bodies.{BodyTy}
use Rattle.c65_init.specs.Declarations.{LocalsTy, is_none_of, declarator_begun, declarators_begun, declaration_of, declarations_of}
use Rattle.c65_init.specs.Functions.{enumerators_declared}
use Rattle.c65_init.specs.Parameters.{OldTy, old_one, old_declarators, old_declaration, old_declarations}
use Rattle.c65_init.specs.Settled.{function_settled, functions_from}
use Rattle.c65_init.specs.Statements.{statement_of, statements_of}
use Rattle.c65_init.specs.Units.{item_in, items_in, array_completed, arrays_from}
use Rattle.c65_init.proofs.Walking.{Steps}

not_none : (n : ℕ) → (suc n == 0) ≡ false
not_none n = grind (arith, nat_tests)

-- ---- declarators and declarations

pub none_is : (ds : List InitDeclarator) → is_none_of (map v.init_declarator_of ds) ≡ (length ds == 0)
none_is [] = refl
none_is (d ∷ ds) = sym (not_none (length ds))

abbrev pub begun_walk : Option Storage → QTy → List InitDeclarator → LocalsTy × ScopeTy → Result (LocalsTy × ScopeTy) Fault
begun_walk storage base ds x = declarators_begun storage base (map v.init_declarator_of ds) x.0 x.1

abbrev pub begun_step : Option Storage → QTy → InitDeclarator → LocalsTy × ScopeTy → Result (LocalsTy × ScopeTy) Fault
begun_step storage base d x = declarator_begun storage base (v.init_declarator_of d) x.0 x.1

pub begun_steps : (storage : Option Storage) (base : QTy) → Steps (begun_walk storage base) (begun_step storage base)
begun_steps storage base = record { first = λ d ds x. refl; none = λ x. refl }

abbrev pub decls_walk : List Decl → LocalsTy × ScopeTy → Result (LocalsTy × ScopeTy) Fault
decls_walk ds x = declarations_of (map v.decl_of ds) x.0 x.1

abbrev pub decls_step : Decl → LocalsTy × ScopeTy → Result (LocalsTy × ScopeTy) Fault
decls_step d x = declaration_of (v.decl_of d) x.0 x.1

pub decls_steps : Steps decls_walk decls_step
decls_steps = record { first = λ d ds x. refl; none = λ x. refl }

-- ---- old-style parameters

abbrev pub olds_walk : Bool → QTy → List InitDeclarator → List OldTy × ScopeTy → Result (List OldTy × ScopeTy) Fault
olds_walk register base ds x = old_declarators register base (map v.init_declarator_of ds) x.0 x.1

abbrev pub olds_step : Bool → QTy → InitDeclarator → List OldTy × ScopeTy → Result (List OldTy × ScopeTy) Fault
olds_step register base d x = old_one register base (v.init_declarator_of d) x.0 x.1

pub olds_steps : (register : Bool) (base : QTy) → Steps (olds_walk register base) (olds_step register base)
olds_steps register base = record { first = λ d ds x. refl; none = λ x. refl }

abbrev pub old_decls_walk : List Decl → List OldTy × ScopeTy → Result (List OldTy × ScopeTy) Fault
old_decls_walk ds x = old_declarations (map v.decl_of ds) x.0 x.1

abbrev pub old_decls_step : Decl → List OldTy × ScopeTy → Result (List OldTy × ScopeTy) Fault
old_decls_step d x = old_declaration (v.decl_of d) x.0 x.1

pub old_decls_steps : Steps old_decls_walk old_decls_step
old_decls_steps = record { first = λ d ds x. refl; none = λ x. refl }

-- ---- external declarations

abbrev pub items_walk : List Item → LocalsTy × ScopeTy → Result (LocalsTy × ScopeTy) Fault
items_walk is x = items_in (map v.item_of is) x.0 x.1

abbrev pub items_step : Item → LocalsTy × ScopeTy → Result (LocalsTy × ScopeTy) Fault
items_step i x = item_in (v.item_of i) x.0 x.1

pub items_steps : Steps items_walk items_step
items_steps = record { first = λ i is x. refl; none = λ x. refl }

-- ---- enumeration constants

abbrev pub enumerators_walk : Pos → List Enumerator → ScopeTy → Result ScopeTy Fault
enumerators_walk p es s = enumerators_declared es p s

abbrev pub enumerators_step : Pos → Enumerator → ScopeTy → Result ScopeTy Fault
enumerators_step p e s = enumerator_declared s e.name e.value p

pub enumerators_steps : (p : Pos) → Steps (enumerators_walk p) (enumerators_step p)
enumerators_steps p = record { first = λ e es s. refl; none = λ s. refl }

-- ---- arrays without a number of elements

turn_left : (n turn : ℕ) → turn < n → n - turn ≡ suc (n - (turn + 1))
turn_left n turn h = omega (arith, h)

pub arrays_next : (n turn : ℕ) (s : ScopeTy) → turn < n → arrays_from (n - turn) turn s ≡ arrays_from (n - (turn + 1)) (turn + 1) (array_completed s (min turn 4294967295))
arrays_next n turn s h = ap (λ k. arrays_from k turn s) (turn_left n turn h)

pub arrays_done : (n turn : ℕ) (s : ScopeTy) → n ≤ turn → arrays_from (n - turn) turn s ≡ s
arrays_done n turn s h =
    let none : n - turn ≡ 0 = omega (arith, h) in
    ap (λ k. arrays_from k turn s) none

-- ---- functions whose types are settled

pub functions_next : (n turn : ℕ) (s : ScopeTy) → turn < n → functions_from (n - turn) turn s ≡ functions_from (n - (turn + 1)) (turn + 1) (function_settled s (min turn 4294967295))
functions_next n turn s h = ap (λ k. functions_from k turn s) (turn_left n turn h)

pub functions_done : (n turn : ℕ) (s : ScopeTy) → n ≤ turn → functions_from (n - turn) turn s ≡ s
functions_done n turn s h =
    let none : n - turn ≡ 0 = omega (arith, h) in
    ap (λ k. functions_from k turn s) none

-- ---- statements

abbrev pub stmts_walk : List Stmt → BodyTy → ScopeTy → List stmt.Stmt → Result ((List Stmt × BodyTy) × ScopeTy) Fault
stmts_walk before k s bs = statements_of (v.stmts_from t.no_stmts bs) before k s

abbrev pub stmts_step : stmt.Stmt → (List Stmt × BodyTy) × ScopeTy → Result ((List Stmt × BodyTy) × ScopeTy) Fault
stmts_step b xs = statement_of (v.stmt_of b) xs.0.1 xs.1 >>= (λ x. Ok ((xs.0.0 ++ x.0.0 ∷ [], x.0.1), x.1))

pub stmts_go : (before : List Stmt) (k : BodyTy) (s : ScopeTy) → Goes (stmts_walk before k s) stmts_step
stmts_go before k s = record { on = λ bs b. ap (λ (xs : t.StmtList). statements_of xs before k s) (stmts_push t.no_stmts bs b) }
