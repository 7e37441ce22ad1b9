-- The literals of a program's code are constant data of bytes.
use Rattle.std.proofs.Common.{◌≡◌, ℕ, ◌<◌, Bool, true, false, List, [], length, map, Ok, Result, Err, subst, ap, ◌∙◌, arith}
use Rattle.std.proofs.lemmas.List.{length-map}
use Rattle.c65_base.specs.Answers.{Fault, ◌>>=◌}
use Rattle.c65_ctype.specs.Views.{types_of}
use Rattle.c65_csem.specs.declared.items.Parts.{Parts}
use Rattle.c65_csem.specs.Views.{object_of}
use Rattle.c65_code.specs.declared.code.Code.{Code}
use Rattle.c65_code.specs.declared.code.Datum.{Datum}
use Rattle.c65_code.specs.declared.line.Sym.{Sym}
use Rattle.c65_code.specs.Literals.{is_literal}
use Rattle.c65_code.specs.Segments.{Segment}
use Rattle.c65_genframe.specs.Symbols.{numbers_of, object_symbol}
use Rattle.c65_gendata.specs.Data.{data_of, with_objects}
use Rattle.c65_gendata.specs.Symbols.{symbols_of}
use Rattle.c65_genstmt.specs.Programs.{code_of, functions_of}
use Rattle.c65_opt_law_whole.specs.Laws.{IsLiteralData, HasConstantLiterals}
use Rattle.c65_opt_law_program.specs.Laws.{LiteralsAreConstant}
use Rattle.c65_opt_law_program.proofs.Data.{Each, each_at, objects_each, literals_each}
use Rattle.c65_opt_law_program.proofs.Symbols.{object_unmarked}

module _ (names : List (List ℕ)) (parts : Parts) where
  -- constant, if its symbol is marked
  abbrev Good : Datum → Type 0
  Good d = is_literal (symbols_of names parts) d.sym ≡ true → IsLiteralData d

  no_object : (i : ℕ) (d : Datum) → i < length parts.objects.items → d.sym ≡ object_symbol (numbers_of parts) i → Good d
  no_object i d lt same marked = absurd (clash (is_literal (symbols_of names parts) d.sym) marked (ap (is_literal (symbols_of names parts)) same ∙ object_unmarked names parts i lt))
    where
      clash : (b : Bool) → b ≡ true → b ≡ false → ⊥
      clash b h k = cc

  all_good : Each Good (data_of parts)
  all_good =
      literals_each Good (λ d h marked. h) (numbers_of parts) 0 parts.literals.items (with_objects (types_of parts.types) (numbers_of parts) 0 (map object_of parts.objects.items) [])
      (objects_each Good (types_of parts.types) (numbers_of parts) (length parts.objects.items) no_object 0 (map object_of parts.objects.items) [] (omega (arith, length-map parts.objects.items object_of)) tt)

  data_constant : (main : ℕ) (fs : List (Sym × Segment)) → HasConstantLiterals (code_of parts main names fs)
  data_constant main fs i d there = each_at Good (data_of parts) i d all_good there

answered : (parts : Parts) (main : ℕ) (names : List (List ℕ)) (r : Result (List (Sym × Segment)) Fault) (code : Code) → (r >>= (λ fs. Ok (code_of parts main names fs))) ≡ Ok code → HasConstantLiterals code
answered parts main names (Ok fs) code h = let same : code_of parts main names fs ≡ code = cc in subst HasConstantLiterals same (data_constant names parts main fs)
answered parts main names (Err e) code h = absurd cc

pub literals_are_constant : LiteralsAreConstant
literals_are_constant parts main names modes code h = answered parts main names (functions_of parts main modes) code h
