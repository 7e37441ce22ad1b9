-- The segment of a function in a program's code, and what it gives.
use Rattle.std.proofs.Common.{◌≡◌, ℕ, suc, ◌+◌, ◌^◌, ◌≤◌, ◌==◌, Bool, true, false, List, [], ◌∷◌, ◌++◌, Option, Some, None, refl, sym, ap, ◌∙◌, subst, slice_get, arith}
use Rattle.std.specs.Prelude.{if◌then◌else◌, Result, Ok, Err, All, IsTrue, length}
use Rattle.std.proofs.lemmas.Bool.{eqb-true}
use Rattle.std.proofs.lemmas.List.Elements.{All-head, All-tail, All-nil, All-cons, All-append}
use Rattle.c65_base.specs.Answers.{Fault, ◌>>=◌}
use Rattle.c65_ints.specs.declared.types.IntType.TheVariants.{Int}
use Rattle.c65_ctype.specs.Trees.{Ty, int, type_in, TypesTy}
use Rattle.c65_csem.specs.declared.items.TFunc.{TFunc}
use Rattle.c65_csem.specs.Trees.{Stmt, FuncTy}
use Rattle.c65_csem.specs.Typed.{result_of}
use Rattle.c65_csem.specs.Views.{object_of, func_of}
use Rattle.c65_csem_names.specs.Programs.{Starts, is_int}
use Rattle.c65_code.specs.declared.line.Line.{Line}
use Rattle.c65_code.specs.declared.line.Sym.{Sym}
use Rattle.c65_code.specs.declared.parts.Part.TheVariants.{A}
use Rattle.c65_code.specs.declared.parts.RegSet.{RegSet}
use Rattle.c65_code.specs.Parts.{has_part}
use Rattle.c65_code.specs.Segments.{Segment}
use Rattle.c65_code.specs.Placement.{segment_of}
use Rattle.c65_code.specs.Steady.{HasLines}
use Rattle.c65_genframe.specs.Symbols.{numbers_of, function_symbol}
use Rattle.c65_genframe.specs.Registers.{registers}
use Rattle.c65_genframe.specs.Sizes.{bytes_or}
use Rattle.c65_genstmt.specs.Functions.{gives_of, no_lines, with_function, function_of}
use Rattle.c65_genstmt.specs.Programs.{one_more, function_added, functions_from}
use Rattle.c65_genstmt.proofs.Made.{IsMade, function_is_made}
use Rattle.c65_gen_law_calls.proofs.TravelLaws.{same_number}
use Rattle.c65_agree_state.specs.World.{World, unit_in, setting_in}
use Rattle.c65_agree_lines.proofs.Listed.{functions_give_their_results}
use Rattle.c65_agree_start.proofs.Given.{length_mapped, item_below, IsMapped, mapped, IsCode, is_code}
use Rattle.c65_agree_function.specs.Functions.{end_line}
use Rattle.c65_agree_function.proofs.Body.{functions_have_ends}
use Rattle.c65_agree_function.specs.Results.{FunctionsGiveByType, MainGivesA}

-- where a line stands there are some
pub some_lines : {l : Line} (ls : List Line) (n : ℕ) → slice_get ls n ≡ Some l → HasLines ls
some_lines [] n e = cc
some_lines (l ∷ ls) n e = tt

abbrev Units : Type 0
Units = List (Sym × Segment)

-- what comes of two steps comes of both
bound : {A B : Type 0} (r : Result A Fault) (k : A → Result B Fault) (y : B) → (r >>= k) ≡ Ok y → (x : A) × (r ≡ Ok x) × (k x ≡ Ok y)
bound (Ok x) k y h = (x, refl, h)
bound (Err e) k y h = absurd cc

answer : {A : Type 0} (x y : A) → ◌≡◌ {A = Result A Fault} (Ok x) (Ok y) → x ≡ y
answer x y h = cc

module _ (g : World) where
  -- it was made of a function of the program, and stands under its symbol
  record IsOf (e : Sym × Segment) : Type 0 where
    index : ℕ
    item : TFunc
    there : slice_get g.parts.funcs.items index ≡ Some item
    symbol : e.0.0 ≡ (function_symbol (numbers_of g.parts) index).0
    made : function_of g.parts (index == g.main) g.modes (func_of item) ≡ Ok e.1

  one_of : (k : ℕ) (x : TFunc) (b : Option Stmt) (fs out : Units) → slice_get g.parts.funcs.items k ≡ Some x → one_more g.parts (k == g.main) g.modes (function_symbol (numbers_of g.parts) k) (func_of x) b fs ≡ Ok out → All IsOf fs → All IsOf out
  one_of k x None fs out there e all = subst (All IsOf) (answer fs out e) all
  one_of k x (Some body) fs out there e all =
      let sy : Sym = function_symbol (numbers_of g.parts) k in
      let made = bound (function_of g.parts (k == g.main) g.modes (func_of x)) (λ s. Ok (fs ++ (sy, s) ∷ [])) out e in
      let one : IsOf (sy, made.0) = record { index = k; item = x; there = there; symbol = refl; made = made.1 } in
      subst (All IsOf) (answer (fs ++ (sy, made.0) ∷ []) out made.2) (All-append IsOf fs ((sy, made.0) ∷ []) all (All-cons IsOf (sy, made.0) [] one (All-nil IsOf)))

  all_of : (k : ℕ) (gs : List TFunc) (fs out : Units) → ((j : ℕ) (x : TFunc) → slice_get gs j ≡ Some x → slice_get g.parts.funcs.items (k + j) ≡ Some x) → functions_from g.parts g.main g.modes k gs fs ≡ Ok out → All IsOf fs → All IsOf out
  all_of k [] fs out behind e all = subst (All IsOf) (answer fs out e) all
  all_of k (x ∷ gs) fs out behind e all =
      let made = bound (function_added g.parts g.main g.modes k (func_of x) fs) (functions_from g.parts g.main g.modes (suc k) gs) out e in
      let first : k + 0 ≡ k = omega arith in
      let here : slice_get g.parts.funcs.items k ≡ Some x = ap (slice_get g.parts.funcs.items) (sym first) ∙ behind 0 x refl in
      let further : (j : ℕ) (y : TFunc) → slice_get gs j ≡ Some y → slice_get g.parts.funcs.items (suc k + j) ≡ Some y =
      λ j y h. (let place : suc k + j ≡ k + suc j = omega arith in ap (slice_get g.parts.funcs.items) place ∙ behind (suc j) y h) in
      all_of (suc k) gs made.0 out further made.2 (one_of k x (func_of x).body fs made.0 here made.1 all)

  -- under a symbol with lines stands one of them
  record Found (fs : Units) (f : ℕ) : Type 0 where
    entry : Sym × Segment
    of : IsOf entry
    symbol : entry.0.0 ≡ f
    is : segment_of fs f ≡ entry.1

  found : (fs : Units) (f : ℕ) → All IsOf fs → HasLines (segment_of fs f).lines → Found fs f
  found [] f all has = absurd has
  found (e ∷ fs) f all has = go (e.0.0 == f) refl has (λ h. found fs f (All-tail IsOf e fs all) h)
    where
      go : (b : Bool) → (e.0.0 == f) ≡ b → HasLines (if b then e.1 else segment_of fs f).lines → (HasLines (segment_of fs f).lines → Found fs f) → Found (e ∷ fs) f
      go true same has later = record { entry = e; of = All-head IsOf e fs all; symbol = eqb-true e.0.0 f same; is = ap (λ (b : Bool). if b then e.1 else segment_of fs f) same }
      go false other has later = let r = later has in record { entry = r.entry; of = r.of; symbol = r.symbol; is = ap (λ (b : Bool). if b then e.1 else segment_of fs f) other ∙ r.is }

  -- what is made of a function with a body gives what its type says
  made_gives : (is_main : Bool) (function : FuncTy) (body : Stmt) (s : Segment) → function.body ≡ Some body → function_of g.parts is_main g.modes function ≡ Ok s → s.out ≡ gives_of g.parts function
  made_gives is_main function body s has_body e =
      let made : IsMade g.parts is_main g.modes function s = function_is_made g.parts is_main g.modes function s e in
      ap (λ (x : Segment). x.out) (sym made.same)
      ∙ (ap (λ (o : Option Stmt). (with_function made.frame is_main o (no_lines (gives_of g.parts function))).out) has_body
      ∙ functions_give_their_results made.frame is_main body (gives_of g.parts function))

pub functions_give_by_type : FunctionsGiveByType
functions_give_by_type g names b function body h has_body =
    let code : IsCode g names = is_code g names h.code in
    let all : All (IsOf g) g.code.functions = all_of g 0 g.parts.funcs.items [] g.code.functions (λ j x e. (let first : 0 + j ≡ j = omega arith in ap (slice_get g.parts.funcs.items) first ∙ e)) code.functions (All-nil (IsOf g)) in
    let lines : HasLines ((setting_in g).lines b.symbol) = some_lines ((setting_in g).lines b.symbol) (end_line g b body) (functions_have_ends g names b function body h has_body).end.0 in
    let r : Found g g.code.functions b.symbol = found g g.code.functions b.symbol all lines in
    let own : IsMapped func_of g.parts.funcs.items b.func function = mapped func_of g.parts.funcs.items b.func function h.function in
    let low = item_below g.parts.funcs.items r.of.index r.of.item r.of.there in
    let high = item_below g.parts.funcs.items b.func own.item own.is in
    let few = h.plain.few in
    let symbols : length g.parts.objects.items + length g.parts.literals.items + length g.parts.funcs.items ≤ 2 ^ 32 = omega (arith, few, length_mapped object_of g.parts.objects.items, length_mapped func_of g.parts.funcs.items) in
    let same : r.of.index ≡ b.func = same_number (length g.parts.objects.items) (length g.parts.literals.items) (length g.parts.funcs.items) r.of.index b.func symbols low high (sym r.of.symbol ∙ (r.symbol ∙ h.call.symbol)) in
    let items : Some r.of.item ≡ Some own.item = sym r.of.there ∙ (ap (slice_get g.parts.funcs.items) same ∙ own.is) in
    let item : r.of.item ≡ own.item = cc in
    let its : func_of r.of.item ≡ function = ap func_of item ∙ sym own.same in
    let body_is : (func_of r.of.item).body ≡ Some body = ap (λ (x : FuncTy). x.body) its ∙ has_body in
    ap (λ (x : Segment). x.out) r.is ∙ (made_gives g (r.of.index == g.main) (func_of r.of.item) body r.entry.1 body_is r.of.made ∙ ap (gives_of g.parts) its)

-- ---- main

int_gives : (types : TypesTy) (t : Ty) → IsTrue (is_int t) → IsTrue (has_part (registers (bytes_or types t 0)) A)
int_gives types (int Int) is = refl
int_gives types _ is = absurd cc

pub main_gives_a : MainGivesA
main_gives_a g names b function body h is main scoped =
    let there : Starts (unit_in g) (Some function) = subst (Starts (unit_in g)) (ap (slice_get (unit_in g).funcs) (sym main) ∙ h.function) scoped.start in
    subst (λ (r : RegSet). IsTrue (has_part r A)) (sym (functions_give_by_type g names b function body h is)) (int_gives (unit_in g).types (type_in (result_of function.ty)) there.1)
