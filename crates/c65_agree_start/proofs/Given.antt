-- What is given of the program, its code and the state.
use Rattle.std.proofs.Common.{◌≡◌, ℕ, zero, suc, ◌+◌, ◌<◌, ◌≤◌, List, [], ◌∷◌, ◌++◌, true, Some, refl, sym, ap, ◌∙◌, subst, arith}
use Rattle.std.specs.Prelude.{length, map, slice_get, All, Result, Ok, Err}
use Rattle.std.proofs.lemmas.List.Elements.{All-head, All-tail}
use Rattle.c65_base.specs.Answers.{Fault, ◌>>=◌}
use Rattle.c65_csem.specs.declared.items.TObject.{TObject}
use Rattle.c65_csem.specs.declared.items.TFunc.{TFunc}
use Rattle.c65_csem.specs.Units.{IsProgram}
use Rattle.c65_csem_names.specs.Initial.{HasStaticPointers}
use Rattle.c65_csem_plain.specs.Plain.{IsPlain}
use Rattle.c65_meaning.specs.Start.{objects_inside}
use Rattle.c65_code.specs.declared.code.Code.{Code}
use Rattle.c65_code.specs.declared.code.Symbol.{Symbol}
use Rattle.c65_code.specs.declared.line.Sym.{Sym}
use Rattle.c65_code.specs.Segments.{Segment}
use Rattle.c65_code.specs.LineState.{State, sp_of}
use Rattle.c65_code.specs.Placement.{IsPlacement, stack_start}
use Rattle.c65_code.specs.Starts.{IsStart}
use Rattle.c65_gendata.specs.Data.{data_of}
use Rattle.c65_gendata.specs.Symbols.{plain_symbol, is_external, literal_symbol, with_objects, with_literals, with_functions, symbols_of}
use Rattle.c65_genstmt.specs.Programs.{takes_arguments, functions_of, code_of, program_of}
use Rattle.c65_agree_state.specs.World.{World, unit_in}

-- ---- lists

pub length_mapped : {A B : Type 0} (f : A → B) (xs : List A) → length (map f xs) ≡ length xs
length_mapped f [] = refl
length_mapped f (x ∷ xs) = ap suc (length_mapped f xs)

length_both : {A : Type 0} (xs ys : List A) → length (xs ++ ys) ≡ length xs + length ys
length_both [] ys = omega arith
length_both (x ∷ xs) ys = let h = length_both xs ys in omega (arith, h)

pub item_below : {A : Type 0} (xs : List A) (i : ℕ) (x : A) → slice_get xs i ≡ Some x → i < length xs
item_below [] i x e = cc
item_below (y ∷ xs) zero x e = omega arith
item_below (y ∷ xs) (suc i) x e = let h = item_below xs i x e in omega (arith, h)

pub all_at : {A : Type 0} (P : A → Type 0) (xs : List A) (i : ℕ) (x : A) → All P xs → slice_get xs i ≡ Some x → P x
all_at P [] i x h e = cc
all_at P (y ∷ xs) zero x h e = let f : y ≡ x = cc in subst P f (All-head P y xs h)
all_at P (y ∷ xs) (suc i) x h e = all_at P xs i x (All-tail P y xs h) e

-- an item of a list that is mapped
pub record IsMapped {A B : Type 0} (f : A → B) (xs : List A) (i : ℕ) (y : B) : Type 0 where
  pub item : A
  pub is : slice_get xs i ≡ Some item
  pub same : y ≡ f item

pub mapped : {A B : Type 0} (f : A → B) (xs : List A) (i : ℕ) (y : B) → slice_get (map f xs) i ≡ Some y → IsMapped f xs i y
mapped f [] i y e = cc
mapped f (x ∷ xs) zero y e = record { item = x; is = refl; same = cc }
mapped f (x ∷ xs) (suc i) y e = let h = mapped f xs i y e in record { item = h.item; is = h.is; same = h.same }

-- ---- the code

-- what is said of a program's code
pub record IsCode (g : World) (names : List (List ℕ)) : Type 0 where
  pub functions : functions_of g.parts g.main g.modes ≡ Ok g.code.functions
  pub spelled : g.code.symbols ≡ symbols_of names g.parts
  pub datums : g.code.datums ≡ data_of g.parts
  pub symbols : length g.code.symbols ≡ length g.parts.objects.items + length g.parts.literals.items + length g.parts.funcs.items
  pub main_args : g.code.main_args ≡ takes_arguments g.parts g.main

pub objects_counted : (names : List (List ℕ)) (i : ℕ) (os : List TObject) (ss : List Symbol) → length (with_objects names i os ss) ≡ length ss + length os
objects_counted names i [] ss = omega arith
objects_counted names i (o ∷ os) ss =
    let d = plain_symbol names (is_external o.class) o.name i in
    let both = length_both ss (d ∷ []) in
    objects_counted names (suc i) os (ss ++ d ∷ []) ∙ omega (arith, both)

pub literals_counted : (i : ℕ) (texts : List (List ℕ)) (ss : List Symbol) → length (with_literals i texts ss) ≡ length ss + length texts
literals_counted i [] ss = omega arith
literals_counted i (text ∷ texts) ss =
    let both = length_both ss (literal_symbol i ∷ []) in
    literals_counted (suc i) texts (ss ++ literal_symbol i ∷ []) ∙ omega (arith, both)

functions_counted : (names : List (List ℕ)) (i : ℕ) (fs : List TFunc) (ss : List Symbol) → length (with_functions names i fs ss) ≡ length ss + length fs
functions_counted names i [] ss = omega arith
functions_counted names i (f ∷ fs) ss =
    let d = plain_symbol names f.external (Some f.name) i in
    let both = length_both ss (d ∷ []) in
    functions_counted names (suc i) fs (ss ++ d ∷ []) ∙ omega (arith, both)

module _ (g : World) (names : List (List ℕ)) where
  of_functions : (fs : List (Sym × Segment)) → functions_of g.parts g.main g.modes ≡ Ok fs → code_of g.parts g.main names fs ≡ g.code → IsCode g names
  of_functions fs made e = record { functions = made ∙ ap (λ (c : Code). let r : Result (List (Sym × Segment)) Fault = Ok c.functions in r) e; spelled = ap (λ (c : Code). c.symbols) (sym e); datums = ap (λ (c : Code). c.datums) (sym e); symbols = ap (λ (c : Code). length c.symbols) (sym e) ∙ count; main_args = ap (λ (c : Code). c.main_args) (sym e) }
    where
      objects : List Symbol
      objects = with_objects names 0 g.parts.objects.items []

      literals : List Symbol
      literals = with_literals (length g.parts.objects.items) g.parts.literals.items objects

      count : length (with_functions names (length g.parts.objects.items + length g.parts.literals.items) g.parts.funcs.items literals) ≡ length g.parts.objects.items + length g.parts.literals.items + length g.parts.funcs.items
      count =
          let one = objects_counted names 0 g.parts.objects.items [] in
          let two = literals_counted (length g.parts.objects.items) g.parts.literals.items objects in
          let three = functions_counted names (length g.parts.objects.items + length g.parts.literals.items) g.parts.funcs.items literals in
          omega (arith, one, two, three)

  pub is_code : program_of g.parts g.main names g.modes ≡ Ok g.code → IsCode g names
  is_code e = go (functions_of g.parts g.main g.modes) refl e
    where
      go : (r : Result (List (Sym × Segment)) Fault) → functions_of g.parts g.main g.modes ≡ r → (r >>= λ fs. Ok (code_of g.parts g.main names fs)) ≡ Ok g.code → IsCode g names
      go (Err why) made e = cc
      go (Ok fs) made e = of_functions fs made cc

-- ---- all that is given

pub record Given (g : World) (names args : List (List ℕ)) (input : List ℕ) (t : State) : Type 0 where
  pub code : IsCode g names
  pub placed : IsPlacement g.code g.place
  pub start : IsStart g.code g.place args input t
  pub high : stack_start ≤ sp_of t
  pub program : IsProgram (unit_in g) g.main
  pub plain : IsPlain names (unit_in g) g.main
  pub pointers : HasStaticPointers (unit_in g)
  pub inside : objects_inside (unit_in g) (unit_in g).objects ≡ true
