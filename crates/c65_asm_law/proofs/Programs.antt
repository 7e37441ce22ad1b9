-- Whole programs.
use Rattle.std.proofs.Common.{◌≡◌, ℕ, ◌+◌, ◌≤◌, ◌^◌, Some, List, [], ◌∷◌, length, map, slice_get, refl, sym, subst, arith}
use Rattle.std.specs.Prelude.{Result, Ok, Err}
use Rattle.std.proofs.lemmas.List.{length-map}
use Rattle.std.proofs.lemmas.Option.{slice_get_within}
use Rattle.c65_base.specs.Answers.{Fault, ◌>>=◌}
use Rattle.c65_csem.specs.declared.items.Parts.{Parts}
use Rattle.c65_csem.specs.Units.{IsFunc}
use Rattle.c65_csem.specs.Views.{object_of, func_of, unit_of}
use Rattle.c65_code.specs.declared.line.Operand.{Operand}
use Rattle.c65_code.specs.declared.line.Operand.TheVariants as operands
use Rattle.c65_code.specs.declared.line.Callee.TheVariants as callees
use Rattle.c65_code.specs.declared.line.Line.{Line}
use Rattle.c65_code.specs.declared.line.Line.TheVariants as lines
use Rattle.c65_code.specs.declared.line.Sym.{Sym}
use Rattle.c65_code.specs.declared.code.Code.{Code}
use Rattle.c65_code.specs.declared.code.DataCell.{DataCell}
use Rattle.c65_code.specs.declared.code.DataCell.TheVariants.{Byte, Address}
use Rattle.c65_code.specs.Segments.{Segment}
use Rattle.c65_code.specs.Writable.{IsWritable, IsLineWritable, IsOperandKnown, IsCellKnown}
use Rattle.c65_genframe.specs.declared.modes.Modes.{Modes}
use Rattle.c65_genframe.specs.Symbols.{numbers_of}
use Rattle.c65_gendata.specs.Symbols.{symbols_of}
use Rattle.c65_gendata.specs.Data.{data_of}
use Rattle.c65_genstmt.specs.Programs.{functions_of, code_of, program_of}
use Rattle.c65_asm.specs.Renumbered.{IsOfTypes, IsLineOfTypes, IsOperandOfTypes, IsCellOfTypes}
use Rattle.c65_asm.proofs.ReadLaws.{text_read}
use Rattle.c65_asm_law.specs.Laws.{IsPrintable, ProgramsAreWritable, ProgramsReadBack}
use Rattle.c65_asm_law.proofs.Well.{WellOperand, Well, EachWell, AllWell}
use Rattle.c65_asm_law.proofs.Known.{KnowsBy}
use Rattle.c65_asm_law.proofs.Lists.{Every, every_at, every_all, every_map, rises_at, rises_once}
use Rattle.c65_asm_law.proofs.Symbols.{symbols_count, symbols_are_spelled, symbols_are_marked, symbols_are_apart}
use Rattle.c65_asm_law.proofs.Data.{WellCell, WellDatum, AreData, program_data}
use Rattle.c65_asm_law.proofs.Data as data_items
use Rattle.c65_asm_law.proofs.Functions.{WellFunction, AreFunctions, functions_well}
use Rattle.c65_asm_law.proofs.Functions as function_items

-- ---- lines and cells

operand_known : (n : ℕ) (o : Operand) → WellOperand n o → IsOperandKnown n o
operand_known n (operands.Low sym offset) h = h.0
operand_known n (operands.High sym offset) h = h.0
operand_known n (operands.At sym offset) h = h.0
operand_known n (operands.Byte v) h = tt
operand_known n (operands.Zero at) h = tt
operand_known n (operands.To label) h = tt
operand_known n operands.Nothing h = tt

operand_typed : (n : ℕ) (o : Operand) → WellOperand n o → IsOperandOfTypes o
operand_typed n (operands.Low sym offset) h = h.1
operand_typed n (operands.High sym offset) h = h.1
operand_typed n (operands.At sym offset) h = h.1
operand_typed n (operands.Byte v) h = h
operand_typed n (operands.Zero at) h = h
operand_typed n (operands.To label) h = h
operand_typed n operands.Nothing h = tt

line_writable : (n : ℕ) (l : Line) → Well n l → IsLineWritable n l
line_writable n (lines.Label l) h = tt
line_writable n (lines.Do op mode operand) h = (h.0, operand_known n operand h.1)
line_writable n (lines.Call (callees.Routine r)) h = (tt, tt)
line_writable n (lines.Call (callees.Function f reads gives)) h = (h.0, h.1)
line_writable n (lines.Call (callees.Pointer reads gives)) h = (tt, h)

line_typed : (n : ℕ) (l : Line) → Well n l → IsLineOfTypes l
line_typed n (lines.Label l) h = h
line_typed n (lines.Do op mode operand) h = operand_typed n operand h.1
line_typed n (lines.Call callee) h = tt

each_line : (n : ℕ) (ls : List Line) → EachWell n ls → Every (Well n) ls
each_line n [] h = tt
each_line n (l ∷ ls) h = (h.0, each_line n ls h.1)

line_at : (n k : ℕ) (ls : List Line) (l : Line) → AllWell n ls → slice_get ls k ≡ Some l → Well n l
line_at n k ls l h is = every_at (Well n) ls k l (each_line n ls h.all) is

cell_known : (n : ℕ) (c : DataCell) → WellCell n c → IsCellKnown n c
cell_known n (Byte v) h = tt
cell_known n (Address sym offset) h = h.0

cell_typed : (n : ℕ) (c : DataCell) → WellCell n c → IsCellOfTypes c
cell_typed n (Byte v) h = h
cell_typed n (Address sym offset) h = h.1

-- ---- numbers of symbols

knows_parts : (n : ℕ) (parts : Parts) → n ≡ length parts.objects.items + length parts.literals.items + length parts.funcs.items → KnowsBy (numbers_of parts) (unit_of parts) n
knows_parts n parts is = record {
  objects = λ i h. omega (arith, h, is, length-map parts.objects.items object_of);
  literals = λ i h. omega (arith, h, is);
  funcs = λ i h. omega (arith, h, is, length-map parts.funcs.items func_of);
}

-- ---- the parts of a code that can be written

pub record IsMade (names : List (List ℕ)) (parts : Parts) (main : ℕ) (code : Code) : Type 0 where
  pub functions : List (Sym × Segment)
  pub is : code_of parts main names functions ≡ code
  pub well : AreFunctions (length (symbols_of names parts)) (length parts.objects.items + length parts.literals.items) (length (symbols_of names parts)) functions
  pub data_well : AreData (length (symbols_of names parts)) (length parts.objects.items + length parts.literals.items) (data_of parts)

bound : {A B : Type 0} (r : Result A Fault) (k : A → Result B Fault) (y : B) → (r >>= k) ≡ Ok y → (x : A) × (r ≡ Ok x) × (k x ≡ Ok y)
bound (Ok x) k y h = (x, refl, h)
bound (Err e) k y h = absurd cc

answer : {A : Type 0} (x y : A) → ◌≡◌ {A = Result A Fault} (Ok x) (Ok y) → x ≡ y
answer x y h = cc

made : (parts : Parts) (main : ℕ) (names : List (List ℕ)) (modes : Modes) (code : Code) → IsPrintable names parts → program_of parts main names modes ≡ Ok code → IsMade names parts main code
made parts main names modes code named h =
    let n : ℕ = length (symbols_of names parts) in
    let first : ℕ = length parts.objects.items + length parts.literals.items in
    let count : n ≡ first + length parts.funcs.items = symbols_count names parts in
    let few : n ≤ 2 ^ 32 = omega (arith, count, named.few) in
    let knows : KnowsBy (numbers_of parts) (unit_of parts) n = knows_parts n parts count in
    let two : (fs : List (Sym × Segment)) × (functions_of parts main modes ≡ Ok fs) × (◌≡◌ {A = Result Code Fault} (Ok (code_of parts main names fs)) (Ok code)) = bound (functions_of parts main modes) (λ fs. Ok (code_of parts main names fs)) code h in
    let none : AreFunctions n first (first + 0) [] = record { well = tt; rises = omega arith } in
    let typed : Every (λ g. IsFunc (unit_of parts) (func_of g)) parts.funcs.items = every_map (IsFunc (unit_of parts)) func_of parts.funcs.items (every_all (IsFunc (unit_of parts)) (map func_of parts.funcs.items) named.unit.funcs) in
    let functions : AreFunctions n first (first + 0 + length parts.funcs.items) two.0 = functions_well n parts main modes 0 parts.funcs.items [] two.0 knows (omega (arith, count)) few typed two.1 none in
    let end : first + 0 + length parts.funcs.items ≡ n = omega (arith, count) in
    record {
      functions = two.0;
      is = answer (code_of parts main names two.0) code two.2;
      well = subst (λ (k : ℕ). AreFunctions n first k two.0) end functions;
      data_well = program_data n parts knows (omega (arith, count)) few named.unit.objects named.stored;
    }

-- ---- the laws

writable : (names : List (List ℕ)) (parts : Parts) (main : ℕ) (modes : Modes) (code : Code) → IsPrintable names parts → (m : IsMade names parts main code) → IsWritable (code_of parts main names m.functions)
writable names parts main modes code named m =
    let n : ℕ = length (symbols_of names parts) in
    let first : ℕ = length parts.objects.items + length parts.literals.items in
    let few : n ≤ 2 ^ 32 = omega (arith, symbols_count names parts, named.few) in
    record {
      spelled = λ i s is. symbols_are_spelled names parts i s named.spelled (omega (arith, few, slice_get_within (symbols_of names parts) i s is)) is;
      marked = λ i s is. symbols_are_marked names parts i s (omega (arith, few, slice_get_within (symbols_of names parts) i s is)) is;
      own_spelling = λ i j a b is js e. symbols_are_apart names parts i j a b named.spelled (omega (arith, few, slice_get_within (symbols_of names parts) i a is)) (omega (arith, few, slice_get_within (symbols_of names parts) j b js)) is js e;
      function_known = λ i f is. (every_at (WellFunction n) m.functions i f m.well.well is).known;
      datum_known = λ i d is. (every_at (WellDatum n) (data_of parts) i d m.data_well.well is).known;
      own_function = λ i j f g is js e. rises_once function_items.key first n i j m.functions f g m.well.rises is js e;
      own_datum = λ i j d e is js same. rises_once data_items.key 0 first i j (data_of parts) d e m.data_well.rises is js same;
      apart = λ i j f d is js e. omega (arith, e, (rises_at function_items.key first n i m.functions f m.well.rises is).0, (rises_at data_items.key 0 first j (data_of parts) d m.data_well.rises js).1);
      gives = λ i f is. (every_at (WellFunction n) m.functions i f m.well.well is).gives;
      line = λ i k f l is ks. line_writable n l (line_at n k f.1.lines l (every_at (WellFunction n) m.functions i f m.well.well is).lines ks);
      cell = λ i k d c is ks. cell_known n c (every_at (WellCell n) d.cells k c (every_at (WellDatum n) (data_of parts) i d m.data_well.well is).cells ks);
      shaped = λ i d is. (every_at (WellDatum n) (data_of parts) i d m.data_well.well is).shaped;
    }

of_types : (names : List (List ℕ)) (parts : Parts) (main : ℕ) (code : Code) → (m : IsMade names parts main code) → IsOfTypes (code_of parts main names m.functions)
of_types names parts main code m =
    let n : ℕ = length (symbols_of names parts) in
    record {
      segment = λ i f is. (every_at (WellFunction n) m.functions i f m.well.well is).segment;
      line = λ i k f l is ks. line_typed n l (line_at n k f.1.lines l (every_at (WellFunction n) m.functions i f m.well.well is).lines ks);
      cell = λ i k d c is ks. cell_typed n c (every_at (WellCell n) d.cells k c (every_at (WellDatum n) (data_of parts) i d m.data_well.well is).cells ks);
      zeros = λ i d is. (every_at (WellDatum n) (data_of parts) i d m.data_well.well is).zeros;
    }

pub programs_are_writable : ProgramsAreWritable
programs_are_writable parts main names modes code named h =
    let m : IsMade names parts main code = made parts main names modes code named h in
    (subst IsWritable m.is (writable names parts main modes code named m), subst IsOfTypes m.is (of_types names parts main code m))

pub programs_read_back : ProgramsReadBack
programs_read_back parts main names modes code named h =
    let both : IsWritable code × IsOfTypes code = programs_are_writable parts main names modes code named h in
    text_read code both.0 both.1
