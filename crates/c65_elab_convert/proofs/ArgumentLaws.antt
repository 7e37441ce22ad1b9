-- Arguments, one after the other.
use Rattle.std.proofs.Common.{◌≡◌, ℕ, zero, suc, ◌+◌, ◌<◌, ◌≤◌, List, [], ◌∷◌, ◌++◌, length, drop, get_or, refl, sym, ap, ◌∙◌, arith, Ok, Err, Option, Some, None}
use Rattle.std.specs.Prelude.{Result, Bool, option_map, slice_get, unwrap_or}
use Rattle.c65_base.specs.declared.refusal.Pos.{Pos}
use Rattle.c65_base.specs.declared.refusal.Refusal.{Refusal}
use Rattle.c65_base.specs.declared.refusal.Refusal.TheVariants as refusals
use Rattle.c65_base.specs.Answers.{Fault, at, large, Fails, ◌>>=◌}
use Rattle.c65_ctype.specs.declared.types.QType.{QType}
use Rattle.c65_ctype.specs.declared.types.FnType.{FnType, out-FnType}
use Rattle.c65_ctype.specs.Trees.{type_in, Fn, TypesTy}
use Rattle.c65_ctype.specs.Views.{qty_of, qtys_of, fn_of, params_in}
use Rattle.c65_ctype.proofs.ViewLaws.{fn_view}
use Rattle.c65_csem.specs.declared.expr.TExpr.{TExpr}
use Rattle.c65_csem.specs.Trees.{Typed, Nodes, none, some}
use Rattle.c65_csem.specs.Views.{typed_of, nodes_of}
use Rattle.c65_elab_convert.specs.Categories.{category_of}
use Rattle.c65_elab_convert.specs.Calls.{argument, counted, first_type, other_types, first_place, other_places, given, count_of, count_in, arguments_by, arguments_for, result_by, result_type}

-- arguments behind those that are done
abbrev pub behind : List TExpr → Result Nodes Fault → Result Nodes Fault
behind [] r = r
behind (x ∷ xs) r = behind xs r >>= λ es. Ok (some (typed_of x) es)

pub behind_push : (xs : List TExpr) (x : TExpr) (r : Result Nodes Fault) → behind (xs ++ x ∷ []) r ≡ behind xs (r >>= λ es. Ok (some (typed_of x) es))
behind_push [] x r = refl
behind_push (y ∷ xs) x r = ap (λ (s : Result Nodes Fault). s >>= λ es. Ok (some (typed_of y) es)) (behind_push xs x r)

pub behind_end : (xs : List TExpr) → behind xs (Ok none) ≡ Ok (nodes_of xs)
behind_end [] = refl
behind_end (x ∷ xs) = ap (λ (s : Result Nodes Fault). s >>= λ es. Ok (some (typed_of x) es)) (behind_end xs)

pub behind_err : (xs : List TExpr) (f : Fault) → behind xs (Err f) ≡ Err f
behind_err [] f = refl
behind_err (x ∷ xs) f = ap (λ (s : Result Nodes Fault). s >>= λ es. Ok (some (typed_of x) es)) (behind_err xs f)

-- a fault of a part is that of the whole
pub fails_as : {A B : Type 0} (e : Refusal) (r : Result A Fault) (s : Result B Fault) → ((f : Fault) → r ≡ Err f → s ≡ Err f) → Fails e r → Fails e s
fails_as refusals.OutOfMemory r s each h = tt
fails_as (refusals.Usage word) r s each h = absurd h
fails_as (refusals.Missing path) r s each h = absurd h
fails_as refusals.ReadFault r s each h = absurd h
fails_as refusals.WriteFault r s each h = absurd h
fails_as (refusals.Source code file line) r s each h = absurd h
fails_as (refusals.At code p) r s each h = each (at code p) h
fails_as (refusals.TooLarge limit value) r s each h = each (large limit value) h
fails_as (refusals.BadImage offset) r s each h = absurd h
fails_as (refusals.Link kind name) r s each h = absurd h
fails_as (refusals.HardStack pc) r s each h = absurd h
fails_as (refusals.Limit count) r s each h = absurd h
fails_as (refusals.Illegal pc) r s each h = absurd h

pub count_types : (xs : List QType) → count_of (qtys_of xs) ≡ length xs
count_types [] = refl
count_types (x ∷ xs) = ap suc (count_types xs)

pub count_nodes : (es : List TExpr) → count_in (nodes_of es) ≡ length es
count_nodes [] = refl
count_nodes (e ∷ es) = ap suc (count_nodes es)

pub first_is : (xs : List QType) (i : ℕ) → first_type (qtys_of (drop i xs)) ≡ option_map qty_of (slice_get xs i)
first_is [] zero = refl
first_is [] (suc i) = refl
first_is (x ∷ xs) zero = refl
first_is (x ∷ xs) (suc i) = first_is xs i

pub others_are : (xs : List QType) (i : ℕ) → other_types (qtys_of (drop i xs)) ≡ qtys_of (drop (suc i) xs)
others_are [] zero = refl
others_are [] (suc i) = refl
others_are (x ∷ xs) zero = refl
others_are (x ∷ xs) (suc i) = others_are xs i

pub place_at : (p : Pos) (fs : List Pos) (i : ℕ) → first_place p (drop i fs) ≡ unwrap_or (slice_get fs i) p
place_at p [] zero = refl
place_at p [] (suc i) = refl
place_at p (f ∷ fs) zero = refl
place_at p (f ∷ fs) (suc i) = place_at p fs i

pub places_are : (fs : List Pos) (i : ℕ) → other_places (drop i fs) ≡ drop (suc i) fs
places_are [] zero = refl
places_are [] (suc i) = refl
places_are (f ∷ fs) zero = refl
places_are (f ∷ fs) (suc i) = places_are fs i

pub nodes_next : (es : List TExpr) (i : ℕ) (e : TExpr) → i < length es → e ≡ get_or es i e → nodes_of (drop i es) ≡ some (typed_of e) (nodes_of (drop (suc i) es))
nodes_next [] i e below is = absurd (omega arith)
nodes_next (x ∷ es) zero e below is = ap (λ (y : TExpr). some (typed_of y) (nodes_of es)) (sym is)
nodes_next (x ∷ es) (suc i) e below is = nodes_next es i e (omega arith) is

-- the next argument
pub given_next : (types : TypesTy) (p : Pos) (fs : List Pos) (n m : ℕ) (xs : List QType) (es done : List TExpr) (i : ℕ) (e x : TExpr) (whole : Result Nodes Fault) → i < length es → e ≡ get_or es i e → argument types p (first_place p (drop i fs)) (option_map qty_of (slice_get xs i)) (typed_of e) ≡ Ok (typed_of x) → counted types p n (typed_of x) ≡ Ok m → behind done (given types p (drop i fs) n (qtys_of (drop i xs)) (nodes_of (drop i es))) ≡ whole → behind (done ++ x ∷ []) (given types p (drop (suc i) fs) m (qtys_of (drop (suc i) xs)) (nodes_of (drop (suc i) es))) ≡ whole
given_next types p fs n m xs es done i e x whole below is made room so_far =
    let step : given types p (drop i fs) n (qtys_of (drop i xs)) (nodes_of (drop i es)) ≡ (given types p (drop (suc i) fs) m (qtys_of (drop (suc i) xs)) (nodes_of (drop (suc i) es)) >>= λ ys. Ok (some (typed_of x) ys)) = rw (nodes_next es i e below is, first_is xs i, made, room, others_are xs i, places_are fs i) refl in
    behind_push done x (given types p (drop (suc i) fs) m (qtys_of (drop (suc i) xs)) (nodes_of (drop (suc i) es))) ∙ ap (behind done) (sym step) ∙ so_far

-- a fault of the next argument
pub given_fault : (types : TypesTy) (p : Pos) (fs : List Pos) (n : ℕ) (xs : List QType) (es done : List TExpr) (i : ℕ) (e : TExpr) (whole : Result Nodes Fault) (f : Fault) → i < length es → e ≡ get_or es i e → argument types p (first_place p (drop i fs)) (option_map qty_of (slice_get xs i)) (typed_of e) ≡ Err f → behind done (given types p (drop i fs) n (qtys_of (drop i xs)) (nodes_of (drop i es))) ≡ whole → whole ≡ Err f
given_fault types p fs n xs es done i e whole f below is made so_far =
    let step : given types p (drop i fs) n (qtys_of (drop i xs)) (nodes_of (drop i es)) ≡ Err f = rw (nodes_next es i e below is, first_is xs i, made) refl in
    sym so_far ∙ ap (behind done) step ∙ behind_err done f

pub given_large : (types : TypesTy) (p : Pos) (fs : List Pos) (n : ℕ) (xs : List QType) (es done : List TExpr) (i : ℕ) (e x : TExpr) (whole : Result Nodes Fault) (f : Fault) → i < length es → e ≡ get_or es i e → argument types p (first_place p (drop i fs)) (option_map qty_of (slice_get xs i)) (typed_of e) ≡ Ok (typed_of x) → counted types p n (typed_of x) ≡ Err f → behind done (given types p (drop i fs) n (qtys_of (drop i xs)) (nodes_of (drop i es))) ≡ whole → whole ≡ Err f
given_large types p fs n xs es done i e x whole f below is made room so_far =
    let step : given types p (drop i fs) n (qtys_of (drop i xs)) (nodes_of (drop i es)) ≡ Err f = rw (nodes_next es i e below is, first_is xs i, made, room) refl in
    sym so_far ∙ ap (behind done) step ∙ behind_err done f

-- the type of a function, level by level
pub arguments_view : (types : TypesTy) (p : Pos) (fs : List Pos) (f : FnType) (es : Nodes) → arguments_for types p fs (fn_of f) es ≡ arguments_by types p fs (params_in (out-FnType f).params) (out-FnType f).variadic es
arguments_view types p fs f es = ap (λ (g : Fn). arguments_for types p fs g es) (fn_view f)

pub result_view : (types : TypesTy) (p : Pos) (f : FnType) → result_type types p (fn_of f) ≡ result_by types p (category_of (type_in (qty_of (out-FnType f).result))) (qty_of (out-FnType f).result)
result_view types p f = ap (result_type types p) (fn_view f)

none_left : (es : List TExpr) (i : ℕ) → i ≡ length es → nodes_of (drop i es) ≡ none
none_left [] zero all = refl
none_left [] (suc i) all = refl
none_left (e ∷ es) zero all = absurd (omega (arith, all))
none_left (e ∷ es) (suc i) all = none_left es i (omega (arith, all))

-- all arguments are done
pub given_done : (types : TypesTy) (p : Pos) (fs : List Pos) (n : ℕ) (xs : List QType) (es done : List TExpr) (i : ℕ) → i ≡ length es → behind done (given types p (drop i fs) n (qtys_of (drop i xs)) (nodes_of (drop i es))) ≡ Ok (nodes_of done)
given_done types p fs n xs es done i all = ap (λ (ys : Nodes). behind done (given types p (drop i fs) n (qtys_of (drop i xs)) ys)) (none_left es i all) ∙ behind_end done
