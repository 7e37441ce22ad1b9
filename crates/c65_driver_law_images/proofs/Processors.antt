-- A code numbered anew runs on the processors on which the code runs.
use Rattle.std.proofs.Common.{◌≡◌, ℕ, List, [], ◌∷◌, map, Option, Some, None, refl, ap, sym, ◌∙◌, subst}
use Rattle.std.specs.Prelude.{IsTrue, slice_get, ◌&&◌}
use Rattle.std.specs.List.{list_all}
use Rattle.std.specs.Prelude.{option_map}
use Rattle.std.proofs.lemmas.Option.{slice_get-map}
use Rattle.c65_base.specs.declared.options.Cpu.{Cpu}
use Rattle.c65_base.specs.declared.options.Cpu.TheVariants.{Nmos, Cmos}
use Rattle.c65_code.specs.declared.line.Line.{Line}
use Rattle.c65_code.specs.declared.line.Line.TheVariants as lines
use Rattle.c65_code.specs.declared.line.Sym.{Sym}
use Rattle.c65_code.specs.declared.code.Code.{Code}
use Rattle.c65_code.specs.declared.code.Symbol.{Symbol}
use Rattle.c65_code.specs.Processors.{is_nmos_line, RunsOn}
use Rattle.c65_code.specs.Segments.{Segment}
use Rattle.c65_asm.specs.Renumbered.{names_of, renamed_line, renamed_function, renumbered}

module _ (symbols : List Symbol) (names : List (List ℕ)) where
  same_line : (l : Line) → is_nmos_line (renamed_line symbols names l) ≡ is_nmos_line l
  same_line (lines.Label l) = refl
  same_line (lines.Do op mode operand) = refl
  same_line (lines.Call callee) = refl

  same_lines : (ls : List Line) → list_all is_nmos_line (map (renamed_line symbols names) ls) ≡ list_all is_nmos_line ls
  same_lines [] = refl
  same_lines (l ∷ ls) = ap (λ b. b && list_all is_nmos_line (map (renamed_line symbols names) ls)) (same_line l) ∙ ap (λ b. is_nmos_line l && b) (same_lines ls)

  -- the lines of a renumbered function have the rows of the lines before
  same_function : (f : Sym × Segment) → list_all is_nmos_line (renamed_function symbols names f).1.lines ≡ list_all is_nmos_line f.1.lines
  same_function f = same_lines f.1.lines

  function_runs : (o : Option (Sym × Segment)) (f : Sym × Segment) → ((g : Sym × Segment) → o ≡ Some g → IsTrue (list_all is_nmos_line g.1.lines))
      → option_map (renamed_function symbols names) o ≡ Some f → IsTrue (list_all is_nmos_line f.1.lines)
  function_runs None f r h = absurd (let k : (let x : Option (Sym × Segment) = None in x ≡ Some f) = h in cc)
  function_runs (Some g) f r h =
      let same : renamed_function symbols names g ≡ f = let k : (let x : Option (Sym × Segment) = Some (renamed_function symbols names g) in x ≡ Some f) = h in cc in
      subst (λ (x : Sym × Segment). IsTrue (list_all is_nmos_line x.1.lines)) same (subst IsTrue (sym (same_function g)) (r g refl))

pub renumbered_runs : (cpu : Cpu) (code : Code) → RunsOn cpu code → RunsOn cpu (renumbered code)
renumbered_runs Cmos code r = tt
renumbered_runs Nmos code r = λ i f h. function_runs code.symbols (names_of code) (slice_get code.functions i) f (λ g there. r i g there)
    (sym (slice_get-map (renamed_function code.symbols (names_of code)) code.functions i) ∙ h)
