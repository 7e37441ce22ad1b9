-- Each function of a program has a body: lines of its own, or the name of a function of the library.
use Rattle.std.proofs.Common.{◌≡◌, ℕ, zero, suc, ◌+◌, ◌<◌, ◌==◌, Bool, true, false, if◌then◌else◌, List, [], ◌∷◌, ◌++◌, Option, Some, None, Result, Ok, Err, refl, sym, ap, ◌∙◌, subst, arith}
use Rattle.std.specs.Prelude.{length, map, slice_get, is_some, option_map}
use Rattle.std.proofs.lemmas.Option.{none-some, same_Some, slice_get-map}
use Rattle.std.proofs.lemmas.Bool.Decides.{Decides-eqb}
use Rattle.c65_base.specs.Answers.{Fault, ◌>>=◌}
use Rattle.c65_base.specs.declared.names.Name.{Name}
use Rattle.c65_base.specs.declared.library.Library.{Library}
use Rattle.c65_base.specs.Library.{library_functions}
use Rattle.c65_csem.specs.declared.items.Parts.{Parts}
use Rattle.c65_csem.specs.declared.items.TFunc.{TFunc}
use Rattle.c65_csem.specs.Trees.{Stmt, FuncTy}
use Rattle.c65_csem.specs.Units.{IsWhole, IsLinked}
use Rattle.c65_csem.specs.Views.{func_of}
use Rattle.c65_csem_plain.specs.Plain.{IsNamed, IsPlainFunc}
use Rattle.c65_code.specs.declared.code.Symbol.{Symbol}
use Rattle.c65_code.specs.declared.line.Sym.{Sym}
use Rattle.c65_code.specs.LineState.{State}
use Rattle.c65_code.specs.Placement.{has_segment, has_body, library_named, library_of}
use Rattle.c65_code.specs.Segments.{Segment}
use Rattle.c65_code.proofs.FunctionLaws.{named_library, body_of_lines, body_of_library}
use Rattle.c65_genframe.specs.declared.modes.Modes.{Modes}
use Rattle.c65_genframe.specs.Symbols.{numbers_of, function_symbol}
use Rattle.c65_gendata.specs.Symbols.{known, plain_symbol, with_objects, with_literals, with_functions}
use Rattle.c65_genstmt.specs.Functions.{function_of}
use Rattle.c65_genstmt.specs.Programs.{one_more, function_added, functions_from}
use Rattle.c65_agree_state.specs.World.{World, unit_in}
use Rattle.c65_agree_start.proofs.Given.{all_at, objects_counted, literals_counted, Given}

-- ---- lines

segment_kept : (xs ys : List (Sym × Segment)) (f : ℕ) → has_segment xs f ≡ true → has_segment (xs ++ ys) f ≡ true
segment_kept [] ys f h = cc
segment_kept (x ∷ xs) ys f h = by (x.0.0 == f) h (λ g. segment_kept xs ys f g)
  where
    by : (b : Bool) → (if b then true else has_segment xs f) ≡ true → (has_segment xs f ≡ true → has_segment (xs ++ ys) f ≡ true) → (if b then true else has_segment (xs ++ ys) f) ≡ true
    by true g rest = refl
    by false g rest = rest g

segment_last : (xs : List (Sym × Segment)) (y : Sym × Segment) → has_segment (xs ++ y ∷ []) y.0.0 ≡ true
segment_last [] y = ap (λ (b : Bool). if b then true else false) ((Decides-eqb y.0.0 y.0.0).1 refl)
segment_last (x ∷ xs) y = by (x.0.0 == y.0.0) (segment_last xs y)
  where
    by : (b : Bool) → has_segment (xs ++ y ∷ []) y.0.0 ≡ true → (if b then true else has_segment (xs ++ y ∷ []) y.0.0) ≡ true
    by true rest = refl
    by false rest = rest

module _ (parts : Parts) (main : ℕ) (modes : Modes) where
  abbrev Units : Type 0
  Units = List (Sym × Segment)

  one_kept : (is_main : Bool) (x : Sym) (g : FuncTy) (b : Option Stmt) (fs out : Units) (f : ℕ) → one_more parts is_main modes x g b fs ≡ Ok out → has_segment fs f ≡ true → has_segment out f ≡ true
  one_kept is_main x g None fs out f e h = let same : fs ≡ out = cc in subst (λ (us : Units). has_segment us f ≡ true) same h
  one_kept is_main x g (Some body) fs out f e h = go (function_of parts is_main modes g) e
    where
      go : (r : Result Segment Fault) → (r >>= λ s. Ok (fs ++ (x, s) ∷ [])) ≡ Ok out → has_segment out f ≡ true
      go (Err why) e = cc
      go (Ok s) e = let same : fs ++ (x, s) ∷ [] ≡ out = cc in subst (λ (us : Units). has_segment us f ≡ true) same (segment_kept fs ((x, s) ∷ []) f h)

  one_there : (is_main : Bool) (x : Sym) (g : FuncTy) (b : Option Stmt) (fs out : Units) → one_more parts is_main modes x g b fs ≡ Ok out → is_some b ≡ true → has_segment out x.0 ≡ true
  one_there is_main x g None fs out e h = cc
  one_there is_main x g (Some body) fs out e h = go (function_of parts is_main modes g) e
    where
      go : (r : Result Segment Fault) → (r >>= λ s. Ok (fs ++ (x, s) ∷ [])) ≡ Ok out → has_segment out x.0 ≡ true
      go (Err why) e = cc
      go (Ok s) e = let same : fs ++ (x, s) ∷ [] ≡ out = cc in subst (λ (us : Units). has_segment us x.0 ≡ true) same (segment_last fs (x, s))

  all_kept : (i : ℕ) (gs : List TFunc) (fs out : Units) (f : ℕ) → functions_from parts main modes i gs fs ≡ Ok out → has_segment fs f ≡ true → has_segment out f ≡ true
  all_kept i [] fs out f e h = let same : fs ≡ out = cc in subst (λ (us : Units). has_segment us f ≡ true) same h
  all_kept i (g ∷ gs) fs out f e h = go (function_added parts main modes i (func_of g) fs) refl e (λ x more one. all_kept (suc i) gs x out f more one)
    where
      go : (r : Result Units Fault) → function_added parts main modes i (func_of g) fs ≡ r → (r >>= functions_from parts main modes (suc i) gs) ≡ Ok out
          → ((x : Units) → functions_from parts main modes (suc i) gs x ≡ Ok out → has_segment x f ≡ true → has_segment out f ≡ true) → has_segment out f ≡ true
      go (Err why) made e rest = cc
      go (Ok x) made e rest = rest x e (one_kept (i == main) (function_symbol (numbers_of parts) i) (func_of g) (func_of g).body fs x f made h)

  -- a function that has a body has lines
  all_there : (i : ℕ) (gs : List TFunc) (fs out : Units) (k : ℕ) (g : TFunc) → functions_from parts main modes i gs fs ≡ Ok out → slice_get gs k ≡ Some g → is_some (func_of g).body ≡ true → has_segment out (function_symbol (numbers_of parts) (i + k)).0 ≡ true
  all_there i [] fs out k g e at h = absurd (none-some g at)
  all_there i (x ∷ gs) fs out k g e at h = go (function_added parts main modes i (func_of x) fs) refl e k at (λ y j more there. all_there (suc i) gs y out j g more there h)
    where
      go : (r : Result Units Fault) → function_added parts main modes i (func_of x) fs ≡ r → (r >>= functions_from parts main modes (suc i) gs) ≡ Ok out → (k : ℕ) → slice_get (x ∷ gs) k ≡ Some g
          → ((y : Units) (j : ℕ) → functions_from parts main modes (suc i) gs y ≡ Ok out → slice_get gs j ≡ Some g → has_segment out (function_symbol (numbers_of parts) (suc i + j)).0 ≡ true) → has_segment out (function_symbol (numbers_of parts) (i + k)).0 ≡ true
      go (Err why) made e k at rest = cc
      go (Ok y) made e zero at rest =
          let same : x ≡ g = same_Some x g at in
          let first : has_segment y (function_symbol (numbers_of parts) i).0 ≡ true = one_there (i == main) (function_symbol (numbers_of parts) i) (func_of x) (func_of x).body fs y made (subst (λ (z : TFunc). is_some (func_of z).body ≡ true) (sym same) h) in
          let here : i ≡ i + 0 = omega arith in
          subst (λ (j : ℕ). has_segment out (function_symbol (numbers_of parts) j).0 ≡ true) here (all_kept (suc i) gs y out (function_symbol (numbers_of parts) i).0 e first)
      go (Ok y) made e (suc j) at rest = let later : suc i + j ≡ i + suc j = omega arith in subst (λ (j : ℕ). has_segment out (function_symbol (numbers_of parts) j).0 ≡ true) later (rest y j e at)

-- ---- names

symbol_kept : (names : List (List ℕ)) (i : ℕ) (fs : List TFunc) (ss : List Symbol) (k : ℕ) (s : Symbol) → slice_get ss k ≡ Some s → slice_get (with_functions names i fs ss) k ≡ Some s
symbol_kept names i [] ss k s h = h
symbol_kept names i (f ∷ fs) ss k s h = symbol_kept names (suc i) fs (ss ++ plain_symbol names f.external (Some f.name) i ∷ []) k s (kept ss (plain_symbol names f.external (Some f.name) i ∷ []) k h)
  where
    kept : (xs ys : List Symbol) (k : ℕ) → slice_get xs k ≡ Some s → slice_get (xs ++ ys) k ≡ Some s
    kept [] ys k e = absurd (none-some s e)
    kept (x ∷ xs) ys zero e = e
    kept (x ∷ xs) ys (suc k) e = kept xs ys k e

symbol_last : (ss : List Symbol) (s : Symbol) → slice_get (ss ++ s ∷ []) (length ss) ≡ Some s
symbol_last [] s = refl
symbol_last (x ∷ ss) s = symbol_last ss s

one_longer : (ss : List Symbol) (s : Symbol) → length (ss ++ s ∷ []) ≡ suc (length ss)
one_longer [] s = refl
one_longer (x ∷ ss) s = ap suc (one_longer ss s)

symbol_there : (names : List (List ℕ)) (i : ℕ) (fs : List TFunc) (ss : List Symbol) (k : ℕ) (f : TFunc) → slice_get fs k ≡ Some f → slice_get (with_functions names i fs ss) (length ss + k) ≡ Some (plain_symbol names f.external (Some f.name) (i + k))
symbol_there names i [] ss k f h = absurd (none-some f h)
symbol_there names i (x ∷ fs) ss zero f h =
    let s = plain_symbol names x.external (Some x.name) i in
    let place : length ss ≡ length ss + 0 = omega arith in
    let here : i ≡ i + 0 = omega arith in
    subst (λ (n : ℕ). slice_get (with_functions names i (x ∷ fs) ss) n ≡ Some (plain_symbol names f.external (Some f.name) (i + 0))) place
    (symbol_kept names (suc i) fs (ss ++ s ∷ []) (length ss) s (symbol_last ss s) ∙ ap (λ (j : ℕ). Some (plain_symbol names x.external (Some x.name) j)) here ∙ ap (λ (y : TFunc). Some (plain_symbol names y.external (Some y.name) (i + 0))) (same_Some x f h))
symbol_there names i (x ∷ fs) ss (suc k) f h =
    let s = plain_symbol names x.external (Some x.name) i in
    let longer = one_longer ss s in
    let place : length (ss ++ s ∷ []) + k ≡ length ss + suc k = omega (arith, longer) in
    let here : suc i + k ≡ i + suc k = omega arith in
    ap (λ (n : ℕ). slice_get (with_functions names i (x ∷ fs) ss) n) (sym place) ∙ symbol_there names (suc i) fs (ss ++ s ∷ []) k f h ∙ ap (λ (j : ℕ). Some (plain_symbol names f.external (Some f.name) j)) here

-- a function of the library is spelled as such
library_spelled : (names : List (List ℕ)) (l : Library) (external : Bool) (name : Name) (n : ℕ) → IsNamed names (Some l) external name → is_some (library_of (Some (plain_symbol names external (Some name) n))) ≡ true
library_spelled names l true name n (_, there) = ap (λ (o : Option (List ℕ)). is_some (library_named library_functions (95 ∷ known o))) there ∙ ap is_some (named_library l)
library_spelled names l false name n (is, there) = absurd (let f : false ≡ true = is in cc)

-- ---- bodies

pub has_a_body : (g : World) (names args : List (List ℕ)) (input : List ℕ) (t : State) → Given g names args input t → (b : ℕ) → b < length (unit_in g).funcs
    → (function_symbol (numbers_of g.parts) b).0 ≡ length g.parts.objects.items + length g.parts.literals.items + b → has_body g.code (function_symbol (numbers_of g.parts) b).0 ≡ true
has_a_body g names args input t h b lt number = at (slice_get g.parts.funcs.items b) refl
  where
    f : ℕ
    f = (function_symbol (numbers_of g.parts) b).0

    spelled_at : (x : TFunc) → slice_get g.parts.funcs.items b ≡ Some x
        → slice_get g.code.symbols f ≡ Some (plain_symbol names x.external (Some x.name) (length g.parts.objects.items + length g.parts.literals.items + b))
    spelled_at x e =
        let objects : List Symbol = with_objects names 0 g.parts.objects.items [] in
        let literals : List Symbol = with_literals (length g.parts.objects.items) g.parts.literals.items objects in
        let one = objects_counted names 0 g.parts.objects.items [] in
        let two = literals_counted (length g.parts.objects.items) g.parts.literals.items objects in
        let place : f ≡ length literals + b = omega (arith, one, two, number) in
        ap (λ (ss : List Symbol). slice_get ss f) h.code.spelled
        ∙ ap (λ (n : ℕ). slice_get (with_functions names (length g.parts.objects.items + length g.parts.literals.items) g.parts.funcs.items literals) n) place
        ∙ symbol_there names (length g.parts.objects.items + length g.parts.literals.items) g.parts.funcs.items literals b x e

    whole : (x : TFunc) → slice_get g.parts.funcs.items b ≡ Some x → (body : Option Stmt) → (func_of x).body ≡ body → (l : Option Library) → x.library ≡ l → IsWhole body l → IsNamed names l x.external x.name → has_body g.code f ≡ true
    whole x e (Some body) same l lib w named =
        let first : 0 + b ≡ b = omega arith in
        body_of_lines g.code f (subst (λ (k : ℕ). has_segment g.code.functions (function_symbol (numbers_of g.parts) k).0 ≡ true) first (all_there g.parts g.main g.modes 0 g.parts.funcs.items [] g.code.functions b x h.code.functions e (ap is_some same)))
    whole x e None same (Some l) lib w named =
        body_of_library g.code f (ap (λ (o : Option Symbol). is_some (library_of o)) (spelled_at x e) ∙ library_spelled names l x.external x.name (length g.parts.objects.items + length g.parts.literals.items + b) named)
    whole x e None same None lib w named = absurd w

    at : (o : Option TFunc) → slice_get g.parts.funcs.items b ≡ o → has_body g.code f ≡ true
    at None e = absurd (none_below g.parts.funcs.items b lt e)
      where
        none_below : (xs : List TFunc) (k : ℕ) → k < length (map func_of xs) → slice_get xs k ≡ None → ⊥
        none_below [] k l e = omega (arith, l)
        none_below (y ∷ xs) zero l e = cc
        none_below (y ∷ xs) (suc k) l e = none_below xs k (omega (arith, l)) e
    at (Some x) e =
        let in_unit : slice_get (unit_in g).funcs b ≡ Some (func_of x) = slice_get-map func_of g.parts.funcs.items b ∙ ap (option_map func_of) e in
        whole x e (func_of x).body refl x.library refl (all_at IsLinked (unit_in g).funcs b (func_of x) h.program.funcs in_unit) (all_at (IsPlainFunc names (unit_in g)) (unit_in g).funcs b (func_of x) h.plain.funcs in_unit).named
