-- What folding keeps of trees: shapes of places, counts, sizes, and at most the need of waiting values.
use Rattle.std.proofs.Common.{◌≡◌, ℕ, suc, ◌+◌, ◌≤◌, max, ℤ, List, [], ◌∷◌, length, Option, Some, None, option_and_then, option_map, map, slice_get, refl, sym, ap, ◌∙◌, arith, Bool, ◌||◌}
use Rattle.std.proofs.lemmas.Option.{slice_get-map}
use Rattle.c65_ctype.specs.Trees.{QTy, type_in, TypesTy, Ty}
use Rattle.c65_csem.specs.Trees.{Typed, node, Node, constant, null, literal, object, func, deref, member, load, address, decay, convert, unary, binary, both, either, choice, comma, assign, assign_op, assign_step, step, copy, call, pack, spill, rest, Nodes, none, some, Stmt, empty, eval, set_part, clear, block, if_stmt, while, do_while, for_loop, switch, case, default, label, goto, break, continue, return, Stmts, no_stmts, and_stmts, MaybeTyped, absent, present, FuncTy, UnitTy}
use Rattle.c65_csem.specs.Places.{member_at, is_fixed_object}
use Rattle.c65_fold.specs.Constants.{number_type}
use Rattle.c65_fold.specs.Folded.{value_at, by_value, folded, folded_node, folded_nodes}
use Rattle.c65_fold.proofs.FoldLaws.{kept_type}
use Rattle.c65_meaning.specs.Shapes.{bare_type, types_of, shape_of, place_shape, member_shape, object_in}
use Rattle.c65_meaning.specs.Sites.{count, count_all, cases_of, all_cases_of}
use Rattle.c65_csem_need.specs.Needs.{need, need_in, need_of_all, need_if, greatest_need, greatest_need_of_all}
use Rattle.c65_meaning.specs.Costs.{bytes_of_objects, local_bytes, all_local_bytes, soft_cost, framed_size, any_fixed, has_fixed, any_has_fixed}
use Rattle.c65_fold_law.specs.Programs.{folded_if, folded_stmt, folded_stmts, folded_func, folded_unit}

-- ---- types and shapes

pub bare_same : (e : Typed) → bare_type (folded e) ≡ bare_type e
bare_same e = ap (λ (q : QTy). type_in q) (kept_type e)

-- a test that always fails
abbrev no_value : {A : Type 0} → A → Option ℤ
no_value k = None

never : {A : Type 0} → (o : Option A) (z : ℤ) → option_and_then no_value o ≡ Some z → ⊥
never None z h = cc
never (Some k) z h = cc

-- a node that has a value is no member
no_member : (types : TypesTy) (t : QTy) (n : Node) (z : ℤ) → value_at t n ≡ Some z → place_shape types (node t n) ≡ shape_of types (type_in t)
no_member types t (member e m) z h = absurd (never (number_type (type_in t)) z h)
no_member types t _ z h = refl

settled_shape : (types : TypesTy) (t : QTy) (n : Node) (o : Option ℤ) → value_at t n ≡ o → place_shape types (by_value t n o) ≡ place_shape types (node t n)
settled_shape types t n None h = refl
settled_shape types t n (Some z) h = sym (no_member types t n z h)

node_shape : (types : TypesTy) (t : QTy) (n : Node) → place_shape types (node t (folded_node n)) ≡ place_shape types (node t n)
node_shape types t (member e m) = ap (λ (q : QTy). member_shape (member_at types (type_in q) m) (shape_of types (type_in t))) (kept_type e)
node_shape types t _ = refl

pub place_same : (types : TypesTy) (e : Typed) → place_shape types (folded e) ≡ place_shape types e
place_same types (node t n) = settled_shape types t (folded_node n) (value_at t (folded_node n)) refl ∙ node_shape types t n

pub types_same : (es : Nodes) → types_of (folded_nodes es) ≡ types_of es
types_same none = refl
types_same (some e es) = ap (λ (t : Ty). t ∷ types_of (folded_nodes es)) (bare_same e) ∙ ap (λ (ts : List Ty). bare_type e ∷ ts) (types_same es)

-- ---- functions

pub funcs_same : (fs : List FuncTy) → length (map folded_func fs) ≡ length fs
funcs_same [] = refl
funcs_same (f ∷ fs) = ap suc (funcs_same fs)

pub func_same : (fs : List FuncTy) (i : ℕ) → slice_get (map folded_func fs) i ≡ option_map folded_func (slice_get fs i)
func_same fs i = slice_get-map folded_func fs i

-- ---- counts of statements and of case labels

mutual
  pub count_same : (s : Stmt) → count (folded_stmt s) ≡ count s
  count_same empty = refl
  count_same (eval e) = refl
  count_same (set_part i o e) = refl
  count_same (clear i) = refl
  count_same (block objects ss) = ap suc (counts_same ss)
  count_same (if_stmt e a b) = ap (λ n. suc (n + count (folded_stmt b))) (count_same a) ∙ ap (λ n. suc (count a + n)) (count_same b)
  count_same (while e s) = ap suc (count_same s)
  count_same (do_while s e) = ap suc (count_same s)
  count_same (for_loop i c x s) = ap suc (count_same s)
  count_same (switch e s) = ap suc (count_same s)
  count_same (case v s) = ap suc (count_same s)
  count_same (default s) = ap suc (count_same s)
  count_same (label l s) = ap suc (count_same s)
  count_same (goto l) = refl
  count_same break = refl
  count_same continue = refl
  count_same (return o) = refl

  counts_same : (ss : Stmts) → count_all (folded_stmts ss) ≡ count_all ss
  counts_same no_stmts = refl
  counts_same (and_stmts s more) = ap (λ n. n + count_all (folded_stmts more)) (count_same s) ∙ ap (λ n. count s + n) (counts_same more)

mutual
  pub cases_same : (s : Stmt) → cases_of (folded_stmt s) ≡ cases_of s
  cases_same empty = refl
  cases_same (eval e) = refl
  cases_same (set_part i o e) = refl
  cases_same (clear i) = refl
  cases_same (block objects ss) = all_cases_same ss
  cases_same (if_stmt e a b) = ap (λ n. n + cases_of (folded_stmt b)) (cases_same a) ∙ ap (λ n. cases_of a + n) (cases_same b)
  cases_same (while e s) = cases_same s
  cases_same (do_while s e) = cases_same s
  cases_same (for_loop i c x s) = cases_same s
  cases_same (switch e s) = refl
  cases_same (case v s) = ap suc (cases_same s)
  cases_same (default s) = cases_same s
  cases_same (label l s) = cases_same s
  cases_same (goto l) = refl
  cases_same break = refl
  cases_same continue = refl
  cases_same (return o) = refl

  all_cases_same : (ss : Stmts) → all_cases_of (folded_stmts ss) ≡ all_cases_of ss
  all_cases_same no_stmts = refl
  all_cases_same (and_stmts s more) = ap (λ n. n + all_cases_of (folded_stmts more)) (cases_same s) ∙ ap (λ n. cases_of s + n) (all_cases_same more)

-- ---- values that wait

settled_need : (t : QTy) (n : Node) (o : Option ℤ) → need (by_value t n o) ≤ need_in n
settled_need t n None = omega arith
settled_need t n (Some z) = omega arith

at_most : (a b c : ℕ) → a ≤ b → b ≤ c → a ≤ c
at_most a b c h g = omega arith

pair_need : (a b c d : ℕ) → a ≤ b → c ≤ d → max a (1 + c) ≤ max b (1 + d)
pair_need a b c d h g = omega arith

two_need : (a b c d : ℕ) → a ≤ b → c ≤ d → max a c ≤ max b d
two_need a b c d h g = omega arith

one_more : (a b c d : ℕ) → a ≤ b → c ≤ d → 1 + max a c ≤ 1 + max b d
one_more a b c d h g = omega arith

three_need : (a b c d e f : ℕ) → a ≤ b → c ≤ d → e ≤ f → max a (max c e) ≤ max b (max d f)
three_need a b c d e f h g i = omega arith

mutual
  pub need_less : (e : Typed) → need (folded e) ≤ need e
  need_less (node t n) = at_most (need (by_value t (folded_node n) (value_at t (folded_node n)))) (need_in (folded_node n)) (need_in n) (settled_need t (folded_node n) (value_at t (folded_node n))) (node_need n)

  node_need : (n : Node) → need_in (folded_node n) ≤ need_in n
  node_need (deref a) = need_less a
  node_need (member a m) = need_less a
  node_need (load a) = need_less a
  node_need (address a) = need_less a
  node_need (decay a) = need_less a
  node_need (convert a) = need_less a
  node_need (unary op a) = need_less a
  node_need (binary op a b) = pair_need (need (folded a)) (need a) (need (folded b)) (need b) (need_less a) (need_less b)
  node_need (both a b) = pair_need (need (folded a)) (need a) (need (folded b)) (need b) (need_less a) (need_less b)
  node_need (either a b) = pair_need (need (folded a)) (need a) (need (folded b)) (need b) (need_less a) (need_less b)
  node_need (choice d a b) = three_need (need (folded d)) (need d) (need (folded a)) (need a) (need (folded b)) (need b) (need_less d) (need_less a) (need_less b)
  node_need (comma a b) = pair_need (need (folded a)) (need a) (need (folded b)) (need b) (need_less a) (need_less b)
  node_need (assign a b) = pair_need (need (folded a)) (need a) (need (folded b)) (need b) (need_less a) (need_less b)
  node_need (assign_op op ct a b) = pair_need (need (folded a)) (need a) (need (folded b)) (need b) (need_less a) (need_less b)
  node_need (assign_step op a b) = pair_need (need (folded a)) (need a) (need (folded b)) (need b) (need_less a) (need_less b)
  node_need (step kind a) = need_less a
  node_need (copy a b) = pair_need (need (folded a)) (need a) (need (folded b)) (need b) (need_less a) (need_less b)
  node_need (call f args) = two_need (need (folded f)) (need f) (need_of_all (folded_nodes args)) (need_of_all args) (need_less f) (nodes_need args)
  node_need (pack a) = need_less a
  node_need (spill i a) = need_less a
  node_need rest = omega arith
  node_need (constant z) = omega arith
  node_need null = omega arith
  node_need (literal l) = omega arith
  node_need (object i) = omega arith
  node_need (func f) = omega arith

  nodes_need : (es : Nodes) → need_of_all (folded_nodes es) ≤ need_of_all es
  nodes_need none = omega arith
  nodes_need (some e more) = one_more (need (folded e)) (need e) (need_of_all (folded_nodes more)) (need_of_all more) (need_less e) (nodes_need more)

need_if_less : (o : MaybeTyped) → need_if (folded_if o) ≤ need_if o
need_if_less absent = omega arith
need_if_less (present e) = need_less e

mutual
  pub greatest_less : (s : Stmt) → greatest_need (folded_stmt s) ≤ greatest_need s
  greatest_less empty = omega arith
  greatest_less (eval e) = need_less e
  greatest_less (set_part i o e) = need_less e
  greatest_less (clear i) = omega arith
  greatest_less (block objects ss) = all_less ss
  greatest_less (if_stmt e a b) = three_need (need (folded e)) (need e) (greatest_need (folded_stmt a)) (greatest_need a) (greatest_need (folded_stmt b)) (greatest_need b) (need_less e) (greatest_less a) (greatest_less b)
  greatest_less (while e s) = two_need (need (folded e)) (need e) (greatest_need (folded_stmt s)) (greatest_need s) (need_less e) (greatest_less s)
  greatest_less (do_while s e) = two_need (greatest_need (folded_stmt s)) (greatest_need s) (need (folded e)) (need e) (greatest_less s) (need_less e)
  greatest_less (for_loop i c x s) =
      two_need (max (need_if (folded_if i)) (need_if (folded_if c))) (max (need_if i) (need_if c)) (max (need_if (folded_if x)) (greatest_need (folded_stmt s))) (max (need_if x) (greatest_need s))
      (two_need (need_if (folded_if i)) (need_if i) (need_if (folded_if c)) (need_if c) (need_if_less i) (need_if_less c))
      (two_need (need_if (folded_if x)) (need_if x) (greatest_need (folded_stmt s)) (greatest_need s) (need_if_less x) (greatest_less s))
  greatest_less (switch e s) = two_need (need (folded e)) (need e) (greatest_need (folded_stmt s)) (greatest_need s) (need_less e) (greatest_less s)
  greatest_less (case v s) = greatest_less s
  greatest_less (default s) = greatest_less s
  greatest_less (label l s) = greatest_less s
  greatest_less (goto l) = omega arith
  greatest_less break = omega arith
  greatest_less continue = omega arith
  greatest_less (return o) = need_if_less o

  all_less : (ss : Stmts) → greatest_need_of_all (folded_stmts ss) ≤ greatest_need_of_all ss
  all_less no_stmts = omega arith
  all_less (and_stmts s more) = two_need (greatest_need (folded_stmt s)) (greatest_need s) (greatest_need_of_all (folded_stmts more)) (greatest_need_of_all more) (greatest_less s) (all_less more)

-- ---- bytes on the software stack

module _ (u : UnitTy) where
  bytes_same : (objects : List ℕ) → bytes_of_objects (folded_unit u) objects ≡ bytes_of_objects u objects
  bytes_same [] = refl
  bytes_same (i ∷ more) = ap (λ n. framed_size u.types (object_in u i) + n) (bytes_same more)

  mutual
    pub local_same : (s : Stmt) → local_bytes (folded_unit u) (folded_stmt s) ≡ local_bytes u s
    local_same empty = refl
    local_same (eval e) = refl
    local_same (set_part i o e) = refl
    local_same (clear i) = refl
    local_same (block objects ss) = ap (λ n. n + all_local_bytes (folded_unit u) (folded_stmts ss)) (bytes_same objects) ∙ ap (λ n. bytes_of_objects u objects + n) (all_local_same ss)
    local_same (if_stmt e a b) = ap (λ n. n + local_bytes (folded_unit u) (folded_stmt b)) (local_same a) ∙ ap (λ n. local_bytes u a + n) (local_same b)
    local_same (while e s) = local_same s
    local_same (do_while s e) = local_same s
    local_same (for_loop i c x s) = local_same s
    local_same (switch e s) = local_same s
    local_same (case v s) = local_same s
    local_same (default s) = local_same s
    local_same (label l s) = local_same s
    local_same (goto l) = refl
    local_same break = refl
    local_same continue = refl
    local_same (return o) = refl

    all_local_same : (ss : Stmts) → all_local_bytes (folded_unit u) (folded_stmts ss) ≡ all_local_bytes u ss
    all_local_same no_stmts = refl
    all_local_same (and_stmts s more) = ap (λ n. n + all_local_bytes (folded_unit u) (folded_stmts more)) (local_same s) ∙ ap (λ n. local_bytes u s + n) (all_local_same more)

  -- and it has the same objects
  any_same : (objects : List ℕ) → any_fixed (folded_unit u) objects ≡ any_fixed u objects
  any_same [] = refl
  any_same (i ∷ more) = ap (λ b. is_fixed_object (object_in u i) || b) (any_same more)

  or_same : (a b c d : Bool) → a ≡ b → c ≡ d → (a || c) ≡ (b || d)
  or_same a b c d e h = ap (λ x. x || c) e ∙ ap (λ x. b || x) h

  mutual
    pub fixed_same : (s : Stmt) → has_fixed (folded_unit u) (folded_stmt s) ≡ has_fixed u s
    fixed_same empty = refl
    fixed_same (eval e) = refl
    fixed_same (set_part i o e) = refl
    fixed_same (clear i) = refl
    fixed_same (block objects ss) = or_same (any_fixed (folded_unit u) objects) (any_fixed u objects) (any_has_fixed (folded_unit u) (folded_stmts ss)) (any_has_fixed u ss) (any_same objects) (all_fixed_same ss)
    fixed_same (if_stmt e a b) = or_same (has_fixed (folded_unit u) (folded_stmt a)) (has_fixed u a) (has_fixed (folded_unit u) (folded_stmt b)) (has_fixed u b) (fixed_same a) (fixed_same b)
    fixed_same (while e s) = fixed_same s
    fixed_same (do_while s e) = fixed_same s
    fixed_same (for_loop i c x s) = fixed_same s
    fixed_same (switch e s) = fixed_same s
    fixed_same (case v s) = fixed_same s
    fixed_same (default s) = fixed_same s
    fixed_same (label l s) = fixed_same s
    fixed_same (goto l) = refl
    fixed_same break = refl
    fixed_same continue = refl
    fixed_same (return o) = refl

    all_fixed_same : (ss : Stmts) → any_has_fixed (folded_unit u) (folded_stmts ss) ≡ any_has_fixed u ss
    all_fixed_same no_stmts = refl
    all_fixed_same (and_stmts s more) = or_same (has_fixed (folded_unit u) (folded_stmt s)) (has_fixed u s) (any_has_fixed (folded_unit u) (folded_stmts more)) (any_has_fixed u more) (fixed_same s) (all_fixed_same more)

  -- a folded body costs no more
  pub cost_less : (passed : ℕ) (s : Stmt) → soft_cost (folded_unit u) passed (folded_stmt s) ≤ soft_cost u passed s
  cost_less passed s = let l : local_bytes (folded_unit u) (folded_stmt s) ≡ local_bytes u s = local_same s in let n : greatest_need (folded_stmt s) ≤ greatest_need s = greatest_less s in omega arith
