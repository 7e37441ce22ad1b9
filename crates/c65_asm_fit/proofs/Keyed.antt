-- Spellings that came, as the keys of a set.
use Rattle.std.proofs.Common.{◌≡◌, ℕ, suc, ◌+◌, ◌<◌, Bool, true, false, not, ◌||◌, List, [], ◌∷◌, ◌++◌, Option, None, Some, option_map, map, drop, length, refl, sym, ap, ◌∙◌, arith}
use Rattle.std.specs.Prelude.{if◌then◌else◌, is_some, get_or}
use Rattle.std.specs.List.{list_any}
use Rattle.std.proofs.Math.Seq.{drop-cons}
use Rattle.c65_base.specs.Names.{name_of}
use Rattle.c65_base.proofs.Keys.{Key, texts, test, pushed}
use Rattle.c65_code.specs.declared.code.Symbol.{Symbol}
use Rattle.c65_asm_fit.specs.Fit.{spelling_of}
use Rattle.c65_asm_fit.specs.Once.{comes_once, has_spelling}

known_by : (b : Bool) (o : Option ℕ) → is_some (if b then Some 0 else option_map (λ n. n + 1) o) ≡ (b || is_some o)
known_by true o = refl
known_by false None = refl
known_by false (Some n) = refl

key_is : (ks : List Key) (s : List ℕ) → has_spelling (texts ks) s ≡ list_any (test s) ks
key_is [] s = refl
key_is (k ∷ ks) s = known_by (test s k) (name_of (texts ks) s) ∙ ap (λ (b : Bool). test s k || b) (key_is ks s)

not_true : (b : Bool) → true ≡ not b → b ≡ false
not_true true h = absurd cc
not_true false h = refl

not_false : (b : Bool) → false ≡ not b → b ≡ true
not_false true h = refl
not_false false h = absurd cc

-- the spellings from a place on, the first of them apart
spellings_from : (symbols : List Symbol) (i : ℕ) (x : Symbol) → i < length symbols → x ≡ get_or symbols i x → map spelling_of (drop i symbols) ≡ x.spelling ∷ map spelling_of (drop (i + 1) symbols)
spellings_from symbols i x low is =
    let next : suc i ≡ i + 1 = omega arith in
    ap (map spelling_of) (drop-cons symbols i x low ∙ ap (λ (y : Symbol). y ∷ drop (suc i) symbols) (sym is) ∙ ap (λ (n : ℕ). x ∷ drop n symbols) next)

-- a new spelling came
pub next_spelling : (ks new : List Key) (v : Key) (symbols : List Symbol) (i : ℕ) (x : Symbol) (is_new total : Bool) → v.items ≡ x.spelling → i < length symbols → x ≡ get_or symbols i x → is_new ≡ not (list_any (test v.items) ks) → is_new ≡ true
    → new ≡ (if list_any (test v.items) ks then ks else ks ++ v ∷ []) → comes_once has_spelling (texts ks) (map spelling_of (drop i symbols)) ≡ total → comes_once has_spelling (texts new) (map spelling_of (drop (i + 1) symbols)) ≡ total
next_spelling ks new v symbols i x is_new total same low is added fresh keys so_far =
    let rest : List (List ℕ) = map spelling_of (drop (i + 1) symbols) in
    let none : list_any (test x.spelling) ks ≡ false = ap (λ (t : List ℕ). list_any (test t) ks) (sym same) ∙ not_true (list_any (test v.items) ks) (sym fresh ∙ added) in
    let lacking : has_spelling (texts ks) x.spelling ≡ false = key_is ks x.spelling ∙ none in
    let step : comes_once has_spelling (texts ks) (x.spelling ∷ rest) ≡ comes_once has_spelling (texts ks ++ x.spelling ∷ []) rest = ap (λ (b : Bool). if b then false else comes_once has_spelling (texts ks ++ x.spelling ∷ []) rest) lacking in
    ap (λ (ns : List (List ℕ)). comes_once has_spelling ns rest) (pushed ks new v x.spelling same none keys)
    ∙ (sym step ∙ (ap (comes_once has_spelling (texts ks)) (sym (spellings_from symbols i x low is)) ∙ so_far))

-- one came twice
pub known_spelling : (ks : List Key) (v : Key) (symbols : List Symbol) (i : ℕ) (x : Symbol) (is_new total : Bool) → v.items ≡ x.spelling → i < length symbols → x ≡ get_or symbols i x → is_new ≡ not (list_any (test v.items) ks) → is_new ≡ false
    → comes_once has_spelling (texts ks) (map spelling_of (drop i symbols)) ≡ total → false ≡ total
known_spelling ks v symbols i x is_new total same low is added known so_far =
    let rest : List (List ℕ) = map spelling_of (drop (i + 1) symbols) in
    let there : list_any (test x.spelling) ks ≡ true = ap (λ (t : List ℕ). list_any (test t) ks) (sym same) ∙ not_false (list_any (test v.items) ks) (sym known ∙ added) in
    let has : has_spelling (texts ks) x.spelling ≡ true = key_is ks x.spelling ∙ there in
    let step : comes_once has_spelling (texts ks) (x.spelling ∷ rest) ≡ false = ap (λ (b : Bool). if b then false else comes_once has_spelling (texts ks ++ x.spelling ∷ []) rest) has in
    sym step ∙ (ap (comes_once has_spelling (texts ks)) (sym (spellings_from symbols i x low is)) ∙ so_far)
