-- Each function of a program has a body: lines of its own, or the name of a function of the library.
use Rattle.std.proofs.Common.{◌≡◌, ℕ, zero, suc, ◌+◌, ◌==◌, Bool, true, false, if◌then◌else◌, List, [], ◌∷◌, ◌++◌, Option, Some, None, Result, Ok, Err, refl, sym, ap, ◌∙◌, subst, arith}
use Rattle.std.specs.Prelude.{length, slice_get, is_some, option_map}
use Rattle.std.proofs.lemmas.Option.{none-some, same_Some, slice_get-map}
use Rattle.std.proofs.lemmas.Bool.Decides.{Decides-eqb}
use Rattle.c65_base.specs.Answers.{Fault, ◌>>=◌}
use Rattle.c65_base.specs.declared.names.Name.{Name}
use Rattle.c65_base.specs.declared.library.Library.{Library}
use Rattle.c65_base.specs.Library.{library_functions}
use Rattle.c65_csem.specs.declared.items.Parts.{Parts}
use Rattle.c65_csem.specs.declared.items.TFunc.{TFunc}
use Rattle.c65_csem.specs.declared.items.TObject.{TObject}
use Rattle.c65_csem.specs.Trees.{Stmt, FuncTy}
use Rattle.c65_csem.specs.Units.{IsWhole, IsLinked, IsProgram}
use Rattle.c65_csem.specs.Views.{func_of, unit_of}
use Rattle.c65_csem_plain.specs.Plain.{IsNamed, IsPlainFunc, IsPlain}
use Rattle.c65_code.specs.declared.code.Code.{Code}
use Rattle.c65_code.specs.declared.code.Symbol.{Symbol}
use Rattle.c65_code.specs.declared.line.Sym.{Sym}
use Rattle.c65_code.specs.Placement.{has_segment, has_body, library_named, library_of}
use Rattle.c65_code.specs.Segments.{Segment}
use Rattle.c65_code.proofs.FunctionLaws.{named_library, body_of_lines, body_of_library}
use Rattle.c65_genframe.specs.declared.modes.Modes.{Modes}
use Rattle.c65_genframe.specs.Symbols.{numbers_of, function_symbol}
use Rattle.c65_gendata.specs.Data.{data_of}
use Rattle.c65_gendata.specs.Symbols.{known, plain_symbol, is_external, literal_symbol, with_objects, with_literals, with_functions, symbols_of}
use Rattle.c65_genstmt.specs.Functions.{function_of}
use Rattle.c65_genstmt.specs.Programs.{one_more, function_added, functions_from, functions_of, code_of, program_of}
use Rattle.c65_gen_law_names.proofs.Lists.{all_at}

-- ---- lines

segment_kept : (xs ys : List (Sym × Segment)) (f : ℕ) → has_segment xs f ≡ true → has_segment (xs ++ ys) f ≡ true
segment_kept [] ys f h = cc
segment_kept (x ∷ xs) ys f h = by (x.0.0 == f) h (λ g. segment_kept xs ys f g)
  where
    by : (b : Bool) → (if b then true else has_segment xs f) ≡ true → (has_segment xs f ≡ true → has_segment (xs ++ ys) f ≡ true) → (if b then true else has_segment (xs ++ ys) f) ≡ true
    by true g rest = refl
    by false g rest = rest g

segment_last : (xs : List (Sym × Segment)) (y : Sym × Segment) → has_segment (xs ++ y ∷ []) y.0.0 ≡ true
segment_last [] y = ap (λ (b : Bool). if b then true else false) ((Decides-eqb y.0.0 y.0.0).1 refl)
segment_last (x ∷ xs) y = by (x.0.0 == y.0.0) (segment_last xs y)
  where
    by : (b : Bool) → has_segment (xs ++ y ∷ []) y.0.0 ≡ true → (if b then true else has_segment (xs ++ y ∷ []) y.0.0) ≡ true
    by true rest = refl
    by false rest = rest

module _ (parts : Parts) (main : ℕ) (modes : Modes) where
  abbrev pub Units : Type 0
  Units = List (Sym × Segment)

  one_kept : (is_main : Bool) (x : Sym) (g : FuncTy) (b : Option Stmt) (fs out : Units) (f : ℕ) → one_more parts is_main modes x g b fs ≡ Ok out → has_segment fs f ≡ true → has_segment out f ≡ true
  one_kept is_main x g None fs out f e h = let same : fs ≡ out = cc in subst (λ (us : Units). has_segment us f ≡ true) same h
  one_kept is_main x g (Some body) fs out f e h = go (function_of parts is_main modes g) e
    where
      go : (r : Result Segment Fault) → (r >>= λ s. Ok (fs ++ (x, s) ∷ [])) ≡ Ok out → has_segment out f ≡ true
      go (Err why) e = cc
      go (Ok s) e = let same : fs ++ (x, s) ∷ [] ≡ out = cc in subst (λ (us : Units). has_segment us f ≡ true) same (segment_kept fs ((x, s) ∷ []) f h)

  one_there : (is_main : Bool) (x : Sym) (g : FuncTy) (b : Option Stmt) (fs out : Units) → one_more parts is_main modes x g b fs ≡ Ok out → is_some b ≡ true → has_segment out x.0 ≡ true
  one_there is_main x g None fs out e h = cc
  one_there is_main x g (Some body) fs out e h = go (function_of parts is_main modes g) e
    where
      go : (r : Result Segment Fault) → (r >>= λ s. Ok (fs ++ (x, s) ∷ [])) ≡ Ok out → has_segment out x.0 ≡ true
      go (Err why) e = cc
      go (Ok s) e = let same : fs ++ (x, s) ∷ [] ≡ out = cc in subst (λ (us : Units). has_segment us x.0 ≡ true) same (segment_last fs (x, s))

  all_kept : (i : ℕ) (gs : List TFunc) (fs out : Units) (f : ℕ) → functions_from parts main modes i gs fs ≡ Ok out → has_segment fs f ≡ true → has_segment out f ≡ true
  all_kept i [] fs out f e h = let same : fs ≡ out = cc in subst (λ (us : Units). has_segment us f ≡ true) same h
  all_kept i (g ∷ gs) fs out f e h = go (function_added parts main modes i (func_of g) fs) refl e (λ x more one. all_kept (suc i) gs x out f more one)
    where
      go : (r : Result Units Fault) → function_added parts main modes i (func_of g) fs ≡ r → (r >>= functions_from parts main modes (suc i) gs) ≡ Ok out
          → ((x : Units) → functions_from parts main modes (suc i) gs x ≡ Ok out → has_segment x f ≡ true → has_segment out f ≡ true) → has_segment out f ≡ true
      go (Err why) made e rest = cc
      go (Ok x) made e rest = rest x e (one_kept (i == main) (function_symbol (numbers_of parts) i) (func_of g) (func_of g).body fs x f made h)

  -- a function that has a body has lines
  pub all_there : (i : ℕ) (gs : List TFunc) (fs out : Units) (k : ℕ) (g : TFunc) → functions_from parts main modes i gs fs ≡ Ok out → slice_get gs k ≡ Some g → is_some (func_of g).body ≡ true → has_segment out (function_symbol (numbers_of parts) (i + k)).0 ≡ true
  all_there i [] fs out k g e at h = absurd (none-some g at)
  all_there i (x ∷ gs) fs out k g e at h = go (function_added parts main modes i (func_of x) fs) refl e k at (λ y j more there. all_there (suc i) gs y out j g more there h)
    where
      go : (r : Result Units Fault) → function_added parts main modes i (func_of x) fs ≡ r → (r >>= functions_from parts main modes (suc i) gs) ≡ Ok out → (k : ℕ) → slice_get (x ∷ gs) k ≡ Some g
          → ((y : Units) (j : ℕ) → functions_from parts main modes (suc i) gs y ≡ Ok out → slice_get gs j ≡ Some g → has_segment out (function_symbol (numbers_of parts) (suc i + j)).0 ≡ true) → has_segment out (function_symbol (numbers_of parts) (i + k)).0 ≡ true
      go (Err why) made e k at rest = cc
      go (Ok y) made e zero at rest =
          let same : x ≡ g = same_Some x g at in
          let first : has_segment y (function_symbol (numbers_of parts) i).0 ≡ true = one_there (i == main) (function_symbol (numbers_of parts) i) (func_of x) (func_of x).body fs y made (subst (λ (z : TFunc). is_some (func_of z).body ≡ true) (sym same) h) in
          let here : i ≡ i + 0 = omega arith in
          subst (λ (j : ℕ). has_segment out (function_symbol (numbers_of parts) j).0 ≡ true) here (all_kept (suc i) gs y out (function_symbol (numbers_of parts) i).0 e first)
      go (Ok y) made e (suc j) at rest = let later : suc i + j ≡ i + suc j = omega arith in subst (λ (j : ℕ). has_segment out (function_symbol (numbers_of parts) j).0 ≡ true) later (rest y j e at)

-- ---- names

symbol_kept : (names : List (List ℕ)) (i : ℕ) (fs : List TFunc) (ss : List Symbol) (k : ℕ) (s : Symbol) → slice_get ss k ≡ Some s → slice_get (with_functions names i fs ss) k ≡ Some s
symbol_kept names i [] ss k s h = h
symbol_kept names i (f ∷ fs) ss k s h = symbol_kept names (suc i) fs (ss ++ plain_symbol names f.external (Some f.name) i ∷ []) k s (kept ss (plain_symbol names f.external (Some f.name) i ∷ []) k h)
  where
    kept : (xs ys : List Symbol) (k : ℕ) → slice_get xs k ≡ Some s → slice_get (xs ++ ys) k ≡ Some s
    kept [] ys k e = absurd (none-some s e)
    kept (x ∷ xs) ys zero e = e
    kept (x ∷ xs) ys (suc k) e = kept xs ys k e

symbol_last : (ss : List Symbol) (s : Symbol) → slice_get (ss ++ s ∷ []) (length ss) ≡ Some s
symbol_last [] s = refl
symbol_last (x ∷ ss) s = symbol_last ss s

one_longer : (ss : List Symbol) (s : Symbol) → length (ss ++ s ∷ []) ≡ suc (length ss)
one_longer [] s = refl
one_longer (x ∷ ss) s = ap suc (one_longer ss s)

pub symbol_there : (names : List (List ℕ)) (i : ℕ) (fs : List TFunc) (ss : List Symbol) (k : ℕ) (f : TFunc) → slice_get fs k ≡ Some f → slice_get (with_functions names i fs ss) (length ss + k) ≡ Some (plain_symbol names f.external (Some f.name) (i + k))
symbol_there names i [] ss k f h = absurd (none-some f h)
symbol_there names i (x ∷ fs) ss zero f h =
    let s = plain_symbol names x.external (Some x.name) i in
    let place : length ss ≡ length ss + 0 = omega arith in
    let here : i ≡ i + 0 = omega arith in
    subst (λ (n : ℕ). slice_get (with_functions names i (x ∷ fs) ss) n ≡ Some (plain_symbol names f.external (Some f.name) (i + 0))) place
    (symbol_kept names (suc i) fs (ss ++ s ∷ []) (length ss) s (symbol_last ss s) ∙ ap (λ (j : ℕ). Some (plain_symbol names x.external (Some x.name) j)) here ∙ ap (λ (y : TFunc). Some (plain_symbol names y.external (Some y.name) (i + 0))) (same_Some x f h))
symbol_there names i (x ∷ fs) ss (suc k) f h =
    let s = plain_symbol names x.external (Some x.name) i in
    let longer = one_longer ss s in
    let place : length (ss ++ s ∷ []) + k ≡ length ss + suc k = omega (arith, longer) in
    let here : suc i + k ≡ i + suc k = omega arith in
    ap (λ (n : ℕ). slice_get (with_functions names i (x ∷ fs) ss) n) (sym place) ∙ symbol_there names (suc i) fs (ss ++ s ∷ []) k f h ∙ ap (λ (j : ℕ). Some (plain_symbol names f.external (Some f.name) j)) here

-- a function of the library is spelled as such
pub library_spelled : (names : List (List ℕ)) (l : Library) (external : Bool) (name : Name) (n : ℕ) → IsNamed names (Some l) external name → is_some (library_of (Some (plain_symbol names external (Some name) n))) ≡ true
library_spelled names l true name n (_, there) = ap (λ (o : Option (List ℕ)). is_some (library_named library_functions (95 ∷ known o))) there ∙ ap is_some (named_library l)
library_spelled names l false name n (is, there) = absurd (let f : false ≡ true = is in cc)

-- ---- how many symbols there are

length_both : {A : Type 0} (xs ys : List A) → length (xs ++ ys) ≡ length xs + length ys
length_both [] ys = omega arith
length_both (x ∷ xs) ys = let h = length_both xs ys in omega (arith, h)

objects_counted : (names : List (List ℕ)) (i : ℕ) (os : List TObject) (ss : List Symbol) → length (with_objects names i os ss) ≡ length ss + length os
objects_counted names i [] ss = omega arith
objects_counted names i (o ∷ os) ss =
    let d = plain_symbol names (is_external o.class) o.name i in
    let both = length_both ss (d ∷ []) in
    objects_counted names (suc i) os (ss ++ d ∷ []) ∙ omega (arith, both)

literals_counted : (i : ℕ) (texts : List (List ℕ)) (ss : List Symbol) → length (with_literals i texts ss) ≡ length ss + length texts
literals_counted i [] ss = omega arith
literals_counted i (text ∷ texts) ss =
    let both = length_both ss (literal_symbol i ∷ []) in
    literals_counted (suc i) texts (ss ++ literal_symbol i ∷ []) ∙ omega (arith, both)

-- ---- the code of a program

pub record IsCode (parts : Parts) (main : ℕ) (names : List (List ℕ)) (modes : Modes) (code : Code) : Type 0 where
  pub functions : functions_of parts main modes ≡ Ok code.functions
  pub spelled : code.symbols ≡ symbols_of names parts
  pub datums : code.datums ≡ data_of parts

module _ (parts : Parts) (main : ℕ) (names : List (List ℕ)) (modes : Modes) (code : Code) where
  of_functions : (fs : List (Sym × Segment)) → functions_of parts main modes ≡ Ok fs → code_of parts main names fs ≡ code → IsCode parts main names modes code
  of_functions fs made e = record { functions = made ∙ ap (λ (c : Code). let r : Result (List (Sym × Segment)) Fault = Ok c.functions in r) e; spelled = ap (λ (c : Code). c.symbols) (sym e); datums = ap (λ (c : Code). c.datums) (sym e) }

  pub is_code : program_of parts main names modes ≡ Ok code → IsCode parts main names modes code
  is_code e = go (functions_of parts main modes) refl e
    where
      go : (r : Result (List (Sym × Segment)) Fault) → functions_of parts main modes ≡ r → (r >>= λ fs. Ok (code_of parts main names fs)) ≡ Ok code → IsCode parts main names modes code
      go (Err why) made e = cc
      go (Ok fs) made e = of_functions fs made cc

  -- the symbol of a function, where there are not too many items
  pub symbol_is : (b : ℕ) (x : TFunc) → IsCode parts main names modes code → slice_get parts.funcs.items b ≡ Some x
      → (function_symbol (numbers_of parts) b).0 ≡ length parts.objects.items + length parts.literals.items + b
      → slice_get code.symbols (function_symbol (numbers_of parts) b).0 ≡ Some (plain_symbol names x.external (Some x.name) (length parts.objects.items + length parts.literals.items + b))
  symbol_is b x is e number =
      let objects : List Symbol = with_objects names 0 parts.objects.items [] in
      let literals : List Symbol = with_literals (length parts.objects.items) parts.literals.items objects in
      let one = objects_counted names 0 parts.objects.items [] in
      let two = literals_counted (length parts.objects.items) parts.literals.items objects in
      let place : (function_symbol (numbers_of parts) b).0 ≡ length literals + b = omega (arith, one, two, number) in
      ap (λ (ss : List Symbol). slice_get ss (function_symbol (numbers_of parts) b).0) is.spelled
      ∙ ap (λ (n : ℕ). slice_get (with_functions names (length parts.objects.items + length parts.literals.items) parts.funcs.items literals) n) place
      ∙ symbol_there names (length parts.objects.items + length parts.literals.items) parts.funcs.items literals b x e

  pub has_lines : (b : ℕ) (x : TFunc) → IsCode parts main names modes code → slice_get parts.funcs.items b ≡ Some x → is_some (func_of x).body ≡ true → has_segment code.functions (function_symbol (numbers_of parts) b).0 ≡ true
  has_lines b x is e body =
      let first : 0 + b ≡ b = omega arith in
      subst (λ (k : ℕ). has_segment code.functions (function_symbol (numbers_of parts) k).0 ≡ true) first (all_there parts main modes 0 parts.funcs.items [] code.functions b x is.functions e body)

  whole : (b : ℕ) (x : TFunc) (body : Option Stmt) (l : Option Library) → IsCode parts main names modes code → slice_get parts.funcs.items b ≡ Some x
      → (function_symbol (numbers_of parts) b).0 ≡ length parts.objects.items + length parts.literals.items + b
      → (func_of x).body ≡ body → x.library ≡ l → IsWhole body l → IsNamed names l x.external x.name → has_body code (function_symbol (numbers_of parts) b).0 ≡ true
  whole b x (Some body) l is e number same lib w named = body_of_lines code (function_symbol (numbers_of parts) b).0 (has_lines b x is e (ap is_some same))
  whole b x None (Some l) is e number same lib w named =
      body_of_library code (function_symbol (numbers_of parts) b).0 (ap (λ (o : Option Symbol). is_some (library_of o)) (symbol_is b x is e number) ∙ library_spelled names l x.external x.name (length parts.objects.items + length parts.literals.items + b) named)
  whole b x None None is e number same lib w named = absurd w

  pub has_a_body : (b : ℕ) (x : TFunc) → IsCode parts main names modes code → IsProgram (unit_of parts) main → IsPlain names (unit_of parts) main → slice_get parts.funcs.items b ≡ Some x
      → (function_symbol (numbers_of parts) b).0 ≡ length parts.objects.items + length parts.literals.items + b → has_body code (function_symbol (numbers_of parts) b).0 ≡ true
  has_a_body b x is program plain e number =
      let there : slice_get (unit_of parts).funcs b ≡ Some (func_of x) = slice_get-map func_of parts.funcs.items b ∙ ap (option_map func_of) e in
      whole b x (func_of x).body x.library is e number refl refl (all_at IsLinked (unit_of parts).funcs b (func_of x) program.funcs there) (all_at (IsPlainFunc names (unit_of parts)) (unit_of parts).funcs b (func_of x) plain.funcs there).named
