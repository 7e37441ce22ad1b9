-- The main function of a program has lines, and its symbol is `_main`.
use Rattle.std.proofs.Common.{◌≡◌, ℕ, ◌+◌, ◌<◌, Bool, true, false, List, ◌∷◌, codes, Option, Some, slice_get, refl, ap, subst, arith}
use Rattle.std.specs.Prelude.{length, is_some}
use Rattle.c65_base.specs.declared.names.Name.{Name}
use Rattle.c65_csem.specs.Trees.{FuncTy}
use Rattle.c65_csem.specs.Views.{func_of, object_of, unit_of}
use Rattle.c65_csem_plain.specs.Plain.{IsMain, Starts}
use Rattle.c65_code.proofs.FunctionLaws.{segment_found}
use Rattle.c65_genframe.specs.Symbols.{numbers_of, function_symbol}
use Rattle.c65_gendata.specs.Symbols.{known, plain_symbol}
use Rattle.c65_gen_law_names.specs.Laws.{MainHasLines}
use Rattle.c65_gen_law_names.proofs.Bodies.{IsCode, has_lines, is_code, symbol_is}
use Rattle.c65_gen_law_names.proofs.Lists.{IsMapped, item_below, length_mapped, mapped}

main_spelled : (names : List (List ℕ)) (external : Bool) (name : Name) (n : ℕ) → external ≡ true → slice_get names name.0 ≡ Some (codes "main") → (plain_symbol names external (Some name) n).spelling ≡ codes "_main"
main_spelled names true name n e there = ap (λ (o : Option (List ℕ)). 95 ∷ known o) there
main_spelled names false name n e there = absurd cc

pub main_has_lines : MainHasLines
main_has_lines parts main names modes code program plain made =
    let is : IsCode parts main names modes code = is_code parts main names modes code made in
    let m : IsMapped func_of parts.funcs.items main program.start = mapped func_of parts.funcs.items main program.start program.main_is in
    let objects : length (unit_of parts).objects ≡ length parts.objects.items = length_mapped object_of parts.objects.items in
    let below : main < length (unit_of parts).funcs = item_below (unit_of parts).funcs main program.start program.main_is in
    let number : (function_symbol (numbers_of parts) main).0 ≡ length parts.objects.items + length parts.literals.items + main = let literals : length (unit_of parts).literals ≡ length parts.literals.items = refl in omega (arith, plain.few, objects, literals, below) in
    let starting : IsMain names program.start = subst (Starts names) program.main_is plain.start in
    let own : IsMain names (func_of m.item) = subst (IsMain names) m.same starting in
    let body : is_some (func_of m.item).body ≡ true = subst (λ (g : FuncTy). is_some g.body ≡ true) m.same program.has_body in
    let found = segment_found code.functions (function_symbol (numbers_of parts) main).0 (has_lines parts main names modes code main m.item is m.is body) in
    let symbol = plain_symbol names m.item.external (Some m.item.name) (length parts.objects.items + length parts.literals.items + main) in (
      (symbol, symbol_is parts main names modes code main m.item is m.is number, main_spelled names m.item.external m.item.name (length parts.objects.items + length parts.literals.items + main) own.external own.named),
      record { at = found.0; unit = found.1; there = found.2; is = found.3 },
    )
