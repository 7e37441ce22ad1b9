-- The start of a folded program, and the functions of a well typed one.
use Rattle.std.proofs.Common.{◌≡◌, ℕ, suc, ◌+◌, ◌≤◌, pos, negsuc, List, [], ◌∷◌, length, Option, Some, None, Bool, true, false, if◌then◌else◌, ◌&&◌, option_map, map, slice_get, get_or, refl, sym, ap, ◌∙◌, subst, arith}
use Rattle.std.specs.Prelude.{nat_lt, nat_le, ◌-◌}
use Rattle.std.proofs.lemmas.Option.{slice_get_within, get_or_from_slice_get}
use Rattle.std.proofs.lemmas.List.Elements.{All-get_or}
use Rattle.c65_csem.specs.declared.items.Cell.{Cell as InitialCell}
use Rattle.c65_csem.specs.declared.items.Cell.TheVariants.{Byte, Piece as InitialPiece}
use Rattle.c65_csem.specs.declared.items.Target.{Target}
use Rattle.c65_csem.specs.declared.items.Target.TheVariants as T
use Rattle.c65_csem.specs.Trees.{Stmt, ObjectTy, FuncTy, UnitTy}
use Rattle.c65_csem.specs.Units.{IsFunc, IsUnit, HasBody, context_of}
use Rattle.c65_meaning.specs.Program.{ProgramTy}
use Rattle.c65_meaning.specs.declared.action.Action.TheVariants.{OffsetOutside}
use Rattle.c65_meaning.specs.Why.{By}
use Rattle.c65_meaning.specs.Store.{Cell, Piece, Block, Store, Value, Whole, Place, function_block, set_block, size_in_store}
use Rattle.c65_meaning.specs.Shapes.{object_in, object_size, object_sealed, lives_in_frame, literal_block, object_block, first_block}
use Rattle.c65_meaning.specs.Costs.{bytes_of_objects, soft_cost, arguments_bytes, framed_size}
use Rattle.c65_meaning.specs.State.{Scene, State, Undefined}
use Rattle.c65_meaning.specs.Step.{entered}
use Rattle.c65_meaning.specs.Start.{literal_in, from_zero, with_texts, argv_block, target_block, initial_cell, cells_of, static_block, initial_store, is_inside, are_inside, init_inside, objects_inside, with_arguments, first_store, first_scene, main_values, started, started_by, start_in}
use Rattle.c65_fold_law.specs.Programs.{folded_stmt, folded_body, folded_func, folded_unit, folded_program}
use Rattle.c65_fold_law.proofs.Kept.{funcs_same, func_same, cost_less}
use Rattle.c65_fold_law.proofs.Marks.{Works}
use Rattle.c65_fold_law.proofs.Scenes.{Sim, if_sim}
use Rattle.c65_fold_law.proofs.Calls.{TypedBody, TypedFunc, TypedFuncs, entered_sim}

-- ---- typed functions

has_typed : (u : UnitTy) (g : FuncTy) (o : Option Stmt) → HasBody u g o → TypedBody u o
has_typed u g None h = tt
has_typed u g (Some body) h = (context_of g body, h.typed)

pub typed_funcs : (u : UnitTy) → IsUnit u → TypedFuncs u
typed_funcs u w f = by_item (slice_get u.funcs f) refl
  where
    by_item : (o : Option FuncTy) → slice_get u.funcs f ≡ o → TypedFunc u o
    by_item None e = tt
    by_item (Some g) e =
        let h : IsFunc u (get_or u.funcs f g) = All-get_or (IsFunc u) u.funcs f g (slice_get_within u.funcs f g e) w.funcs in
        let i : IsFunc u g = subst (IsFunc u) (get_or_from_slice_get u.funcs f g g e) h in
        has_typed u g g.body i.body

-- ---- the first store

module _ (u : UnitTy) where
  abbrev v : UnitTy
  v = folded_unit u

  literal_same : (n : ℕ) → literal_block v n ≡ literal_block u n
  literal_same n = ap (λ (l : ℕ). l + n) (funcs_same u.funcs)

  object_same : (n : ℕ) → object_block v n ≡ object_block u n
  object_same n = ap (λ (l : ℕ). l + length u.literals + n) (funcs_same u.funcs)

  first_same : first_block v ≡ first_block u
  first_same = ap (λ (l : ℕ). l + length u.literals + length u.objects) (funcs_same u.funcs)

  target_same : (t : Target) → target_block v t ≡ target_block u t
  target_same (T.Object i) = object_same i
  target_same (T.Literal l) = literal_same l
  target_same (T.Func f) = refl

  cell_same : (o : Option InitialCell) → initial_cell v o ≡ initial_cell u o
  cell_same None = refl
  cell_same (Some (Byte b)) = refl
  cell_same (Some (InitialPiece t o i)) = ap (λ (b : ℕ). Piece i b (from_zero o)) (target_same t)

  cells_same : (o : Option (List InitialCell)) → cells_of v o ≡ cells_of u o
  cells_same None = refl
  cells_same (Some cells) = λ i n. cell_same (slice_get cells n) i

  abbrev no_block : Option Block
  no_block = None

  static_by : (x : ObjectTy) (t : Bool) → (if t then no_block else Some (record { size = object_size u.types (Some x); holds = object_size u.types (Some x); live = true; sealed = object_sealed (Some x); cells = cells_of v x.init })) ≡ (if t then no_block else Some (record { size = object_size u.types (Some x); holds = object_size u.types (Some x); live = true; sealed = object_sealed (Some x); cells = cells_of u x.init }))
  static_by x true = refl
  static_by x false = ap (λ (c : ℕ → Cell). Some (record { size = object_size u.types (Some x); holds = object_size u.types (Some x); live = true; sealed = object_sealed (Some x); cells = c })) (cells_same x.init)

  static_same : (o : Option ObjectTy) → static_block v o ≡ static_block u o
  static_same None = refl
  static_same (Some x) = static_by x (lives_in_frame (Some x))

  -- a block by the numbers of the first literal and of the first object
  abbrev block_by : (ℕ → ℕ → ℕ → Option Block)
  block_by l o b = if nat_lt b l then Some function_block else (if nat_lt b o then literal_in (slice_get u.literals (b - l)) else static_block u (object_in u (b - o)))

  in_block : (l o b : ℕ) → (if nat_lt b l then Some function_block else (if nat_lt b o then literal_in (slice_get u.literals (b - l)) else static_block v (object_in u (b - o)))) ≡ block_by l o b
  in_block l o b = ap (λ (x : Option Block). if nat_lt b l then Some function_block else (if nat_lt b o then literal_in (slice_get u.literals (b - l)) else x)) (static_same (object_in u (b - o)))

  block_same : (b : ℕ) → initial_store v b ≡ initial_store u b
  block_same b = in_block (literal_block v 0) (object_block v 0) b ∙ ap (λ (l : ℕ). block_by l (object_block v 0) b) (literal_same 0) ∙ ap (λ (o : ℕ). block_by (literal_block u 0) o b) (object_same 0)

  store_same : initial_store v ≡ initial_store u
  store_same = λ i b. block_same b i

  size_same : (t : Target) → size_in_store (initial_store v (target_block v t)) ≡ size_in_store (initial_store u (target_block u t))
  size_same t = ap (λ (b : ℕ). size_in_store (initial_store v b)) (target_same t) ∙ ap size_in_store (block_same (target_block u t))

  inside_same : (c : InitialCell) → is_inside v c ≡ is_inside u c
  inside_same (Byte b) = refl
  inside_same (InitialPiece t (pos o) i) = ap (λ (n : ℕ). nat_le o n) (size_same t)
  inside_same (InitialPiece t (negsuc o) i) = refl

  all_inside_same : (cs : List InitialCell) → are_inside v cs ≡ are_inside u cs
  all_inside_same [] = refl
  all_inside_same (c ∷ cs) = ap (λ (b : Bool). b && are_inside v cs) (inside_same c) ∙ ap (λ (b : Bool). is_inside u c && b) (all_inside_same cs)

  init_same : (o : Option (List InitialCell)) → init_inside v o ≡ init_inside u o
  init_same None = refl
  init_same (Some cs) = all_inside_same cs

  objects_same : (xs : List ObjectTy) → objects_inside v xs ≡ objects_inside u xs
  objects_same [] = refl
  objects_same (x ∷ xs) = ap (λ (b : Bool). b && objects_inside v xs) (init_same x.init) ∙ ap (λ (b : Bool). init_inside u x.init && b) (objects_same xs)

  -- ---- the call of main

  arguments_same : (args : List (List ℕ)) → with_arguments v args ≡ with_arguments u args
  arguments_same args = ap (λ (s : Store). with_texts (suc (first_block v)) args (set_block s (first_block v) (argv_block (suc (first_block v)) (length args)))) store_same ∙ ap (λ (b : ℕ). with_texts (suc b) args (set_block (initial_store u) b (argv_block (suc b) (length args)))) first_same

  first_store_same : (params : List ℕ) (args : List (List ℕ)) → first_store v params args ≡ first_store u params args
  first_store_same [] args = store_same
  first_store_same (i ∷ params) args = arguments_same args

  scene_same : (free : Bool) (params : List ℕ) (args : List (List ℕ)) (input : List ℕ) → first_scene v free params args input ≡ first_scene u free params args input
  scene_same free params args input = ap (λ (s : Store). record { frames = []; store = s; next = first_block v + suc (length args); input = input; out = []; turns = 0; free = free }) (first_store_same params args) ∙ ap (λ (b : ℕ). record { frames = []; store = first_store u params args; next = b + suc (length args); input = input; out = []; turns = 0; free = free }) first_same

  values_same : (args : List (List ℕ)) (params : List ℕ) → main_values v args params ≡ main_values u args params
  values_same args [] = refl
  values_same args (i ∷ params) = ap (λ (b : ℕ). Whole (pos (length args)) ∷ Place b 0 ∷ []) first_same

  nothing : Works u [] []
  nothing = record { marks = []; left_is = refl; right_is = refl; good = tt }

  bytes_same : (objects : List ℕ) → bytes_of_objects v objects ≡ bytes_of_objects u objects
  bytes_same [] = refl
  bytes_same (i ∷ rest) = ap (λ (n : ℕ). framed_size u.types (object_in u i) + n) (bytes_same rest)

  main_cost : (params : List ℕ) (body : Stmt) (args : List (List ℕ)) → soft_cost v (bytes_of_objects v params) (folded_stmt body) + arguments_bytes args ≤ soft_cost u (bytes_of_objects u params) body + arguments_bytes args
  main_cost params body args = let e : bytes_of_objects v params ≡ bytes_of_objects u params = bytes_same params in let h = cost_less u (bytes_of_objects v params) body in sum_less (soft_cost v (bytes_of_objects v params) (folded_stmt body)) (soft_cost u (bytes_of_objects v params) body) (soft_cost u (bytes_of_objects u params) body) (arguments_bytes args) h (ap (λ (n : ℕ). soft_cost u n body) e)
    where
      sum_less : (a b c n : ℕ) → a ≤ b → b ≡ c → a + n ≤ c + n
      sum_less a b c n h e = omega arith

  started_sim : (free : Bool) (f : ℕ) (args : List (List ℕ)) (input : List ℕ) (g : FuncTy) (o : Option Stmt) → TypedBody u o → Sim u (started u free f args input g o) (started v free f args input (folded_func g) (folded_body o))
  started_sim free f args input g None typed = tt
  started_sim free f args input g (Some body) typed =
      let c = first_scene u free g.params args input in
      subst (λ (d : Scene). Sim u (started u free f args input g (Some body)) (entered v f (folded_func g) (folded_stmt body) (soft_cost v (bytes_of_objects v g.params) (folded_stmt body) + arguments_bytes args) [] (main_values v args g.params) [] [] d)) (sym (scene_same free g.params args input))
      (subst (λ (vs : List Value). Sim u (started u free f args input g (Some body)) (entered v f (folded_func g) (folded_stmt body) (soft_cost v (bytes_of_objects v g.params) (folded_stmt body) + arguments_bytes args) [] vs [] [] c)) (sym (values_same args g.params))
      (entered_sim u f g body typed (soft_cost u (bytes_of_objects u g.params) body + arguments_bytes args) (soft_cost v (bytes_of_objects v g.params) (folded_stmt body) + arguments_bytes args) (main_cost g.params body args) [] (main_values u args g.params) [] [] [] c [] nothing tt))

  started_by_sim : (free : Bool) (f : ℕ) (args : List (List ℕ)) (input : List ℕ) (o : Option FuncTy) → TypedFunc u o → Sim u (started_by u free f args input o) (started_by v free f args input (option_map folded_func o))
  started_by_sim free f args input None typed = tt
  started_by_sim free f args input (Some g) typed = started_sim free f args input g g.body typed

-- the two starts
pub starts : (p : ProgramTy) → TypedFuncs p.unit → (free : Bool) (args : List (List ℕ)) (input : List ℕ) → Sim p.unit (start_in free p args input) (start_in free (folded_program p) args input)
starts p typed free args input =
    let failed : State = Undefined (By OffsetOutside) in
    let ours : State = started_by p.unit free p.main args input (slice_get p.unit.funcs p.main) in
    subst (λ (b : Bool). Sim p.unit (start_in free p args input) (if b then started_by (folded_unit p.unit) free p.main args input (slice_get (map folded_func p.unit.funcs) p.main) else failed)) (sym (objects_same p.unit p.unit.objects))
    (subst (λ (o : Option FuncTy). Sim p.unit (start_in free p args input) (if objects_inside p.unit p.unit.objects then started_by (folded_unit p.unit) free p.main args input o else failed)) (sym (func_same p.unit.funcs p.main))
    (if_sim p.unit (objects_inside p.unit p.unit.objects) ours failed _ failed (started_by_sim p.unit free p.main args input (slice_get p.unit.funcs p.main) (typed p.main)) tt))
