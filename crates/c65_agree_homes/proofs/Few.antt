-- Turns are counted at no more lines than the meaning has places for them.
use Rattle.std.proofs.Common.{◌≡◌, ℕ, zero, suc, ◌+◌, ◌==◌, ◌^◌, ◌≤◌, Bool, true, false, Option, None, Some, List, [], ◌∷◌, ◌++◌, length, refl, sym, ◌∙◌, ap, subst, slice_get, arith}
use Rattle.std.specs.Prelude.{◌&&◌, not, if◌then◌else◌, map, option_map, Result, Ok, Err}
use Rattle.std.proofs.lemmas.List.{length-append}
use Rattle.std.proofs.lemmas.Option.{slice_get-map}
use Rattle.c65_base.specs.Answers.{Fault}
use Rattle.c65_ctype.specs.Trees.{QTy}
use Rattle.c65_csem.specs.declared.items.TFunc.{TFunc}
use Rattle.c65_csem.specs.Trees.{Typed, node, Node, constant, null, literal, object, func, deref, member, load, address, decay, convert, unary, binary, both, either, choice, comma, assign, assign_op, assign_step, step, copy, call, pack, spill, rest, Nodes, none, some, MaybeTyped, absent, present, Stmt, empty, eval, set_part, clear, block, if_stmt, while, do_while, for_loop, switch, case, default, label, goto, break, continue, return, Stmts, no_stmts, and_stmts, FuncTy}
use Rattle.c65_csem.specs.Units.{IsUnit}
use Rattle.c65_csem.specs.Views.{object_of, func_of}
use Rattle.c65_meaning.specs.Sites.{calls, calls_in, calls_of_all, calls_if, sites, sites_if, sites_of as func_sites}
use Rattle.c65_code.specs.declared.line.Line.{Line}
use Rattle.c65_code.specs.declared.line.Line.TheVariants.{Label}
use Rattle.c65_code.specs.declared.parts.RegSet.{RegSet}
use Rattle.c65_code.specs.Placement.{Setting}
use Rattle.c65_code.specs.Segments.{Drafted}
use Rattle.c65_genframe.specs.Frames.{Framed, frame_of}
use Rattle.c65_genframe.specs.Symbols.{numbers_of, function_symbol}
use Rattle.c65_genwide.specs.Lines.{with_lines}
use Rattle.c65_genexpr.specs.Calls.{named}
use Rattle.c65_genentry.specs.Drafts.{with_labels}
use Rattle.c65_genentry.specs.Entry.{entry_code}
use Rattle.c65_genentry.specs.Ends.{end_code}
use Rattle.c65_genstmt.specs.Cases.{room_of}
use Rattle.c65_genstmt.specs.Stmts.{ways, returns_last, with_last}
use Rattle.c65_genstmt.specs.Functions.{gives_of, main_code, no_lines, with_function}
use Rattle.c65_genstmt.specs.Programs.{program_of}
use Rattle.c65_gen_law_calls.specs.Sites.{Site, site_by, unless_named, sites_of, node_sites, args_sites, maybe_sites, statement_sites, statements_sites}
use Rattle.c65_gen_law_calls.specs.Lines.{is_calling, callings, lines_of}
use Rattle.c65_gen_law_calls.specs.Travels.{Program, Compiled, IsCompiled}
use Rattle.c65_gen_law_calls.proofs.Callings.{Free, free_none, callings_append}
use Rattle.c65_gen_law_calls.proofs.StmtSites.{Adds, last_adds}
use Rattle.c65_gen_law_calls.proofs.ProgramLaws.{programs_are_compiled}
use Rattle.c65_agree_start.proofs.Given.{length_mapped}
use Rattle.c65_agree_step.specs.Ways.{place_at}
use Rattle.c65_agree_state.specs.World.{World, unit_in, setting_in}
use Rattle.c65_agree_lines.specs.Turns.{Turn, LoopAt, GotoAt, stmt_calls, stmts_calls}
use Rattle.c65_agree_lines.proofs.Turns.{turns_are_counted}
use Rattle.c65_agree_homes.specs.Turns.{first_label, body_turns, turns_if, framed_turns, function_turns, heads_at, gotos_at, calls_at, symbol_of, heads_of, owns_by, owns_of, all_heads, all_owns}
use Rattle.c65_agree_homes.specs.Laws.{TurnsAreFew}
use Rattle.c65_agree_homes.proofs.Entries.{entry_free, end_free}

-- ---- calls of trees

both_few : (xs ys : List Site) (a b : ℕ) → length xs ≤ a → length ys ≤ b → length (xs ++ ys) ≤ a + b
both_few xs ys a b h k = omega (arith, length-append xs ys, h, k)

named_few : (o : Option ℕ) (xs : List Site) → length (unless_named o xs) ≤ length xs
named_few None xs = omega arith
named_few (Some i) xs = omega arith

mutual
  tree_few : (e : Typed) → length (sites_of e) ≤ calls e
  tree_few (node t n) = node_few t n

  node_few : (t : QTy) (n : Node) → length (node_sites t n) ≤ calls_in n
  node_few t (constant z) = omega arith
  node_few t null = omega arith
  node_few t (literal l) = omega arith
  node_few t (object i) = omega arith
  node_few t (func i) = omega arith
  node_few t rest = omega arith
  node_few t (deref e) = tree_few e
  node_few t (member e m) = tree_few e
  node_few t (load e) = tree_few e
  node_few t (address e) = tree_few e
  node_few t (decay e) = tree_few e
  node_few t (convert e) = tree_few e
  node_few t (unary op e) = tree_few e
  node_few t (binary op a b) = both_few (sites_of a) (sites_of b) (calls a) (calls b) (tree_few a) (tree_few b)
  node_few t (both a b) = both_few (sites_of a) (sites_of b) (calls a) (calls b) (tree_few a) (tree_few b)
  node_few t (either a b) = both_few (sites_of a) (sites_of b) (calls a) (calls b) (tree_few a) (tree_few b)
  node_few t (choice c a b) =
      let inner = both_few (sites_of a) (sites_of b) (calls a) (calls b) (tree_few a) (tree_few b) in
      let all = both_few (sites_of c) (sites_of a ++ sites_of b) (calls c) (calls a + calls b) (tree_few c) inner in
      omega (arith, all)
  node_few t (comma a b) = both_few (sites_of a) (sites_of b) (calls a) (calls b) (tree_few a) (tree_few b)
  node_few t (assign a b) = both_few (sites_of a) (sites_of b) (calls a) (calls b) (tree_few a) (tree_few b)
  node_few t (assign_op op k a b) = both_few (sites_of a) (sites_of b) (calls a) (calls b) (tree_few a) (tree_few b)
  node_few t (assign_step op a b) = both_few (sites_of a) (sites_of b) (calls a) (calls b) (tree_few a) (tree_few b)
  node_few t (step how e) = tree_few e
  node_few t (copy a b) = both_few (sites_of a) (sites_of b) (calls a) (calls b) (tree_few a) (tree_few b)
  node_few t (call g es) =
      let one : length (site_by t g es ∷ []) ≤ 1 = omega arith in
      let args = both_few (args_sites es) (site_by t g es ∷ []) (calls_of_all es) 1 (args_few es) one in
      let callee : length (unless_named (named g) (sites_of g)) ≤ calls g = omega (arith, named_few (named g) (sites_of g), tree_few g) in
      let all = both_few (unless_named (named g) (sites_of g)) (args_sites es ++ site_by t g es ∷ []) (calls g) (calls_of_all es + 1) callee args in
      omega (arith, all)
  node_few t (pack e) = tree_few e
  node_few t (spill i e) = tree_few e

  args_few : (es : Nodes) → length (args_sites es) ≤ calls_of_all es
  args_few none = omega arith
  args_few (some e es) = both_few (sites_of e) (args_sites es) (calls e) (calls_of_all es) (tree_few e) (args_few es)

maybe_few : (e : MaybeTyped) → length (maybe_sites e) ≤ calls_if e
maybe_few absent = omega arith
maybe_few (present e) = tree_few e

mutual
  stmt_few : (s : Stmt) → length (statement_sites s) ≤ stmt_calls s
  stmt_few (eval e) = tree_few e
  stmt_few (set_part i o e) = tree_few e
  stmt_few (block os ss) = stmts_few ss
  stmt_few (if_stmt e a b) =
      let inner = both_few (statement_sites a) (statement_sites b) (stmt_calls a) (stmt_calls b) (stmt_few a) (stmt_few b) in
      let all = both_few (sites_of e) (statement_sites a ++ statement_sites b) (calls e) (stmt_calls a + stmt_calls b) (tree_few e) inner in
      omega (arith, all)
  stmt_few (while e a) = both_few (sites_of e) (statement_sites a) (calls e) (stmt_calls a) (tree_few e) (stmt_few a)
  stmt_few (do_while a e) = both_few (statement_sites a) (sites_of e) (stmt_calls a) (calls e) (stmt_few a) (tree_few e)
  stmt_few (for_loop i c n a) =
      let last = both_few (statement_sites a) (maybe_sites n) (stmt_calls a) (calls_if n) (stmt_few a) (maybe_few n) in
      let inner = both_few (maybe_sites c) (statement_sites a ++ maybe_sites n) (calls_if c) (stmt_calls a + calls_if n) (maybe_few c) last in
      let all = both_few (maybe_sites i) (maybe_sites c ++ (statement_sites a ++ maybe_sites n)) (calls_if i) (calls_if c + (stmt_calls a + calls_if n)) (maybe_few i) inner in
      omega (arith, all)
  stmt_few (switch e a) = both_few (sites_of e) (statement_sites a) (calls e) (stmt_calls a) (tree_few e) (stmt_few a)
  stmt_few (case z a) = stmt_few a
  stmt_few (default a) = stmt_few a
  stmt_few (label l a) = stmt_few a
  stmt_few (return e) = maybe_few e
  stmt_few empty = omega arith
  stmt_few (clear i) = omega arith
  stmt_few (goto l) = omega arith
  stmt_few break = omega arith
  stmt_few continue = omega arith

  stmts_few : (ss : Stmts) → length (statements_sites ss) ≤ stmts_calls ss
  stmts_few no_stmts = omega arith
  stmts_few (and_stmts a ss) = both_few (statement_sites a) (statements_sites ss) (stmt_calls a) (stmts_calls ss) (stmt_few a) (stmts_few ss)

-- ---- lines that call

lines_many : (f : Framed) (ss : List Site) → length (lines_of f ss) ≡ length ss
lines_many f [] = refl
lines_many f (s ∷ ss) = ap suc (lines_many f ss)

main_free : (b : Bool) → Free (main_code b)
main_free true = record { none = refl }
main_free false = free_none

-- the lines of a function that call are those of the calls in its body
module _ (f : Framed) (main : Bool) (body : Stmt) (out : RegSet) where
  abbrev start : Drafted
  start = with_lines (with_labels (room_of body) (with_labels 1 (no_lines out))) (entry_code f)

  abbrev more : List Line
  more = main_code (main && not (returns_last body))

  put : Adds f (statement_sites body) start (with_last f (ways 0 0 0) 0 body start)
  put = last_adds f (ways 0 0 0) 0 body start

  inner : callings (with_last f (ways 0 0 0) 0 body start).lines ≡ lines_of f (statement_sites body)
  inner = ap callings put.lines ∙ (callings_append (entry_code f) put.added ∙ (ap (λ (ls : List Line). ls ++ callings put.added) (entry_free f).none ∙ put.has.is))

  behind : (a b : List Line) → Free b → callings (a ++ b) ≡ callings a
  behind a b q = callings_append a b ∙ (ap (λ (ls : List Line). callings a ++ ls) q.none ∙ nothing_more (callings a))
    where
      nothing_more : (xs : List Line) → xs ++ [] ≡ xs
      nothing_more [] = refl
      nothing_more (x ∷ xs) = ap (λ (l : List Line). x ∷ l) (nothing_more xs)

  function_calls : callings (with_function f main (Some body) (no_lines out)).lines ≡ lines_of f (statement_sites body)
  function_calls =
      let lines : List Line = (with_last f (ways 0 0 0) 0 body start).lines in
      behind ((lines ++ more) ++ Label 0 ∷ []) (end_code f) (end_free f) ∙ (behind (lines ++ more) (Label 0 ∷ []) (record { none = refl }) ∙ (behind lines more (main_free (main && not (returns_last body))) ∙ inner))

-- ---- lines of a function

module _ (s : Setting) (symbol : ℕ) where
  turns_many : (ts : List Turn) → length (heads_at s symbol ts) + length (gotos_at s symbol ts) ≡ length ts
  turns_many [] = refl
  turns_many (LoopAt p ∷ ts) = let h = turns_many ts in omega (arith, h)
  turns_many (GotoAt p ∷ ts) = let h = turns_many ts in omega (arith, h)

  calls_many : (p : ℕ) (lines : List Line) → length (calls_at s symbol p lines) ≡ length (callings lines)
  calls_many p [] = refl
  calls_many p (l ∷ lines) = go (is_calling l) (calls_many (suc p) lines)
    where
      go : (b : Bool) → length (calls_at s symbol (suc p) lines) ≡ length (callings lines) → length (if b then place_at s symbol p ∷ calls_at s symbol (suc p) lines else calls_at s symbol (suc p) lines) ≡ length (if b then l ∷ callings lines else callings lines)
      go true h = ap suc h
      go false h = h

-- a function without a body has none
none_turns : (r : Result Framed Fault) → framed_turns None r ≡ []
none_turns (Err why) = refl
none_turns (Ok f) = refl

module _ (g : World) (names : List (List ℕ)) (code : program_of g.parts g.main names g.modes ≡ Ok g.code) (unit : IsUnit (unit_in g)) (symbols : length (unit_in g).objects + length (unit_in g).literals + length (unit_in g).funcs ≤ 2 ^ 32) where
  few_symbols : length g.parts.objects.items + length g.parts.literals.items + length g.parts.funcs.items ≤ 2 ^ 32
  few_symbols = omega (arith, symbols, length_mapped object_of g.parts.objects.items, length_mapped func_of g.parts.funcs.items)

  abbrev program : Program
  program = record { parts = g.parts; main = g.main; modes = g.modes }

  module _ (i : ℕ) (f : FuncTy) (found : slice_get (unit_in g).funcs i ≡ Some f) where
    by_frame : (body : Stmt) → f.body ≡ Some body → (c : Compiled) → c.index ≡ i → c.func ≡ f → c.body ≡ body → IsCompiled (setting_in g) program c → length (heads_of g i f) + length (owns_of g i f) ≤ sites body
    by_frame body is c index its has made =
        let z : Framed = c.frame in
        let framed : frame_of g.parts g.modes f ≡ Ok z = subst (λ (y : FuncTy). frame_of g.parts g.modes y ≡ Ok z) its made.framed in
        let turns : function_turns g.parts g.modes f ≡ body_turns z body = ap (framed_turns f.body) framed ∙ ap (turns_if z) is in
        let heads : heads_of g i f ≡ heads_at (setting_in g) (symbol_of g i) (body_turns z body) = ap (heads_at (setting_in g) (symbol_of g i)) turns in
        let lines : (setting_in g).lines (symbol_of g i) ≡ (with_function z (c.index == g.main) (Some c.body) (no_lines (gives_of g.parts c.func))).lines = ap (λ (n : ℕ). (setting_in g).lines (function_symbol (numbers_of g.parts) n).0) (sym index) ∙ made.lines in
        let owns : owns_of g i f ≡ gotos_at (setting_in g) (symbol_of g i) (body_turns z body) ++ calls_at (setting_in g) (symbol_of g i) 0 ((setting_in g).lines (symbol_of g i)) = ap (owns_by g i f.body) turns ∙ ap (λ (b : Option Stmt). owns_by g i b (body_turns z body)) is in
        let many : length (callings ((setting_in g).lines (symbol_of g i))) ≡ length (statement_sites body) = ap {B = ℕ} (λ (ls : List Line). length (callings ls)) lines ∙ (ap {B = ℕ} length (function_calls z (c.index == g.main) c.body (gives_of g.parts c.func)) ∙ (lines_many z (statement_sites c.body) ∙ ap {B = ℕ} (λ (b : Stmt). length (statement_sites b)) has)) in
        omega (arith, ap {B = ℕ} length heads, ap {B = ℕ} length owns, length-append (gotos_at (setting_in g) (symbol_of g i) (body_turns z body)) (calls_at (setting_in g) (symbol_of g i) 0 ((setting_in g).lines (symbol_of g i))), turns_many (setting_in g) (symbol_of g i) (body_turns z body), calls_many (setting_in g) (symbol_of g i) 0 ((setting_in g).lines (symbol_of g i)), many, stmt_few body, turns_are_counted z (ways 0 0 0) 0 body (first_label body) (length (entry_code z)))

    one_few : length (heads_of g i f) + length (owns_of g i f) ≤ sites_if f.body
    one_few = go f.body refl
      where
        go : (body : Option Stmt) → f.body ≡ body → length (heads_of g i f) + length (owns_of g i f) ≤ sites_if body
        go None is =
            let turns : function_turns g.parts g.modes f ≡ [] = ap (λ (b : Option Stmt). framed_turns b (frame_of g.parts g.modes f)) is ∙ none_turns (frame_of g.parts g.modes f) in
            let heads : heads_of g i f ≡ [] = ap (heads_at (setting_in g) (symbol_of g i)) turns in
            let owns : owns_of g i f ≡ [] = ap (λ (b : Option Stmt). owns_by g i b (function_turns g.parts g.modes f)) is in
            omega (arith, ap {B = ℕ} length heads, ap {B = ℕ} length owns)
        go (Some body) is =
            let c = programs_are_compiled program names g.code g.place i f body code unit few_symbols found is in
            by_frame body is c.0 c.1 c.2 c.3 c.4

  all_few : (fs : List TFunc) (i : ℕ) → ((k : ℕ) (f : TFunc) → slice_get fs k ≡ Some f → slice_get (unit_in g).funcs (i + k) ≡ Some (func_of f)) → length (all_heads g i fs) + length (all_owns g i fs) ≤ func_sites (map func_of fs)
  all_few [] i at = omega arith
  all_few (f ∷ fs) i at =
      let here : i + 0 ≡ i = omega arith in
      let first = one_few i (func_of f) (subst (λ (n : ℕ). slice_get (unit_in g).funcs n ≡ Some (func_of f)) here (at zero f refl)) in
      let later : (k : ℕ) (h : TFunc) → slice_get fs k ≡ Some h → slice_get (unit_in g).funcs (suc i + k) ≡ Some (func_of h) = λ k h e.
      let there : i + suc k ≡ suc i + k = omega arith in
      subst (λ (n : ℕ). slice_get (unit_in g).funcs n ≡ Some (func_of h)) there (at (suc k) h e) in
      let others = all_few fs (suc i) later in
      omega (arith, first, others, length-append (heads_of g i (func_of f)) (all_heads g (suc i) fs), length-append (owns_of g i (func_of f)) (all_owns g (suc i) fs))

pub turns_are_few : TurnsAreFew
turns_are_few g names code unit symbols c =
    let items : (k : ℕ) (f : TFunc) → slice_get g.parts.funcs.items k ≡ Some f → slice_get (unit_in g).funcs (0 + k) ≡ Some (func_of f) = λ k f e.
    let there : k ≡ 0 + k = omega arith in
    subst (λ (n : ℕ). slice_get (unit_in g).funcs n ≡ Some (func_of f)) there (slice_get-map func_of g.parts.funcs.items k ∙ ap (option_map func_of) e) in
    let all = all_few g names code unit symbols g.parts.funcs.items 0 items in
    omega (arith, all, ap {B = ℕ} length c.heads, ap {B = ℕ} length c.owns)
