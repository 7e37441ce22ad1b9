-- A code is read from its text.
use Rattle.std.proofs.Common.{◌≡◌, ℕ, zero, suc, ◌<◌, ◌≤◌, not, Bool, true, false, List, [], ◌∷◌, ◌++◌, Option, Some, None, Result, Ok, Err, map, codes, length, nat_eq, refl, sym, ap, ◌∙◌, subst, arith, inl, inr, get_or}
use Rattle.std.specs.Prelude.{unwrap_or, slice_get, MatchResult, if◌then◌else◌, ◌⊎◌}
use Rattle.std.specs.List.{list_all}
use Rattle.std.proofs.lemmas.Bool.{and_parts, and_from, or_parts, or_from, ne_eqb}
use Rattle.std.proofs.lemmas.Option.{slice_get_cases}
use Rattle.std.proofs.lemmas.Slice.Eq.{bytes_eq-Decides}
use Rattle.std.proofs.lemmas.List.{append-nil}
use Rattle.c65_base.proofs.NameLaws.{one_spelling}
use Rattle.c65_code.specs.declared.line.Sym.{Sym}
use Rattle.c65_code.specs.declared.line.Operand.{Operand}
use Rattle.c65_code.specs.declared.line.Operand.TheVariants as operands
use Rattle.c65_code.specs.declared.line.Callee.{Callee}
use Rattle.c65_code.specs.declared.line.Callee.TheVariants as callees
use Rattle.c65_code.specs.declared.line.Line.{Line}
use Rattle.c65_code.specs.declared.line.Line.TheVariants as lines
use Rattle.c65_code.specs.declared.code.Code.{Code}
use Rattle.c65_code.specs.declared.code.Symbol.{Symbol}
use Rattle.c65_code.specs.declared.code.Datum.{Datum}
use Rattle.c65_code.specs.declared.code.DatumKind.{DatumKind}
use Rattle.c65_code.specs.declared.code.DatumKind.TheVariants as kinds
use Rattle.c65_code.specs.declared.code.DataCell.{DataCell}
use Rattle.c65_code.specs.declared.code.DataCell.TheVariants.{Byte, Address}
use Rattle.c65_code.specs.Segments.{Segment, is_fit, is_among}
use Rattle.c65_code.specs.Writable.{IsSpelling, IsKnown, IsOperandKnown, IsCalleeKnown, AreCallLetters, IsLineWritable, IsCellKnown, IsShaped, IsWritable}
use Rattle.c65_asm.specs.declared.reader.Open.{Open}
use Rattle.c65_asm.specs.declared.reader.Open.TheVariants as opens
use Rattle.c65_asm.specs.declared.reading.Answer.{Answer}
use Rattle.c65_asm.specs.declared.reading.Answer.TheVariants as answers
use Rattle.c65_asm.specs.Text.{spelling_of, sym_text, head_text, body_text, functions_with, datums_text, text_of}
use Rattle.c65_asm.specs.Reading.{start}
use Rattle.c65_base.specs.declared.refusal.Refusal.{Refusal}
use Rattle.c65_base.specs.declared.refusal.Refusal.TheVariants as refusals
use Rattle.c65_base.specs.declared.refusal.Refusal.TheVariants.{OutOfMemory}
use Rattle.c65_asm.specs.Read.{lines_in, code_of, compared, read_text, RefusesText}
use Rattle.c65_asm.specs.Renumbered.{naming, naming_function, naming_functions, naming_datum, naming_datums, names_of, renamed, renamed_function, renamed_datum, renumbered, IsOperandOfTypes, IsLineOfTypes, IsCellOfTypes, IsOfTypes}
use Rattle.c65_asm.specs.Back.{ReadsBack}
use Rattle.c65_asm.proofs.OperandLaws.{IsWellOperand}
use Rattle.c65_asm.proofs.RowLaws.{IsWellCallee, IsWellLine}
use Rattle.c65_asm.proofs.FeedLaws.{Reads, reads_both, reads_line}
use Rattle.c65_asm.proofs.NumberLaws.{Grows, grows_on, grows_same, grows_lines, grows_functions, grows_cells, grows_datums, IsNamed, named_now, named_later}
use Rattle.c65_asm.proofs.FunctionLaws.{at_top, IsWellFunction, fresh, function_numbers, functions_reads}
use Rattle.c65_asm.proofs.DataLaws.{IsWellCell, IsWellDatum, IsShapedSo, MayBegin, datum_numbers, datums_reads}
use Rattle.c65_asm.proofs.TextLaws.{text_same}

-- well-formed parts, from a code that may be written

known_symbol : (symbols : List Symbol) (sym : Sym) → IsKnown (length symbols) sym → (symbol : Symbol) × (slice_get symbols sym.0 ≡ Some symbol)
known_symbol symbols sym h = at_place (slice_get_cases symbols sym.0).1
  where
    at_place : ((x : Symbol) × (sym.0 < length symbols) × (slice_get symbols sym.0 ≡ Some x) × (get_or symbols sym.0 x ≡ x)) ⊎ ((length symbols ≤ sym.0) × (slice_get symbols sym.0 ≡ None)) → (symbol : Symbol) × (slice_get symbols sym.0 ≡ Some symbol)
    at_place (inl (x, lt, e, g)) = (x, e)
    at_place (inr (le, e)) = absurd (omega arith)

spelled_so : (code : Code) → IsWritable code → (sym : Sym) → IsKnown (length code.symbols) sym → IsSpelling (sym_text code.symbols sym)
spelled_so code w own h =
    let k = known_symbol code.symbols own h in
    subst IsSpelling (ap spelling_of (sym k.1)) (w.spelled own.0 k.0 k.1)

operand_well : (code : Code) → IsWritable code → (o : Operand) → IsOperandKnown (length code.symbols) o → IsOperandOfTypes o → IsWellOperand code.symbols o
operand_well code w operands.Nothing k t = tt
operand_well code w (operands.Byte v) k t = omega arith
operand_well code w (operands.Low s offset) k t = (spelled_so code w s k, omega arith)
operand_well code w (operands.High s offset) k t = (spelled_so code w s k, omega arith)
operand_well code w (operands.Zero v) k t = omega arith
operand_well code w (operands.At s offset) k t = (spelled_so code w s k, omega arith)
operand_well code w (operands.To l) k t = omega arith

callee_well : (code : Code) → IsWritable code → (c : Callee) → IsCalleeKnown (length code.symbols) c → AreCallLetters c → IsWellCallee code.symbols c
callee_well code w (callees.Routine r) k l = tt
callee_well code w (callees.Function f reads gives) k l = (spelled_so code w f k, l.0, l.1)
callee_well code w (callees.Pointer reads gives) k l = (l.0, l.1)

line_well : (code : Code) → IsWritable code → (line : Line) → is_fit line ≡ true → IsLineWritable (length code.symbols) line → IsLineOfTypes line → IsWellLine code.symbols line
line_well code w (lines.Label l) f k t = omega arith
line_well code w (lines.Do op mode o) f k t = (f, k.0, operand_well code w o k.1 t)
line_well code w (lines.Call c) f k t = callee_well code w c k.0 k.1

all_at : (ls : List Line) (k : ℕ) (line : Line) → list_all is_fit ls ≡ true → slice_get ls k ≡ Some line → is_fit line ≡ true
all_at [] k line h e = absurd cc
all_at (l ∷ ls) zero line h e =
    let p = and_parts (is_fit l) (list_all is_fit ls) h in
    let s : l ≡ line = cc in
    ap is_fit (sym s) ∙ p.0
all_at (l ∷ ls) (suc k) line h e = all_at ls k line (and_parts (is_fit l) (list_all is_fit ls) h).1 e

function_well : (code : Code) → IsWritable code → IsOfTypes code → (i : ℕ) (f : Sym × Segment) → slice_get code.functions i ≡ Some f → IsWellFunction code.symbols f
function_well code w t i f e = record {
  own = spelled_so code w f.0 (w.function_known i f e);
  gives = w.gives i f e;
  kept = t.segment i f e;
  well = λ k line g. line_well code w line (all_at f.1.lines k line (t.segment i f e).fit g) (w.line i k f line e g) (t.line i k f line e g);
}

cell_well : (code : Code) → IsWritable code → (c : DataCell) → IsCellKnown (length code.symbols) c → IsCellOfTypes c → IsWellCell code.symbols c
cell_well code w (Byte v) k t = omega arith
cell_well code w (Address s offset) k t = (spelled_so code w s k, omega arith)

datum_well : (code : Code) → IsWritable code → IsOfTypes code → (i : ℕ) (d : Datum) → slice_get code.datums i ≡ Some d → IsWellDatum code.symbols d
datum_well code w t i d e = record {
  own = spelled_so code w d.sym (w.datum_known i d e);
  cells = λ k c g. cell_well code w c (w.cell i k d c e g) (t.cell i k d c e g);
  zeros = omega (arith, t.zeros i d e);
}

no_cells : (cells : List DataCell) → length cells ≡ 0 → cells ≡ []
no_cells [] e = refl
no_cells (c ∷ cells) e = absurd (omega arith)

shape_so : (kind : DatumKind) (cells : List DataCell) (blank : ℕ) → IsShaped kind (length cells) blank → IsShapedSo kind cells blank
shape_so kinds.Data cells blank h = h
shape_so kinds.Const cells blank h = h
shape_so kinds.Zero cells blank h = no_cells cells h

-- numbers of bodies are apart

function_named : (symbols : List Symbol) (fs : List (Sym × Segment)) (names : List (List ℕ)) (i : ℕ) (f : Sym × Segment) → slice_get fs i ≡ Some f → IsNamed (naming_functions symbols fs names) (sym_text symbols f.0)
function_named symbols [] names i f e = absurd cc
function_named symbols (g ∷ fs) names zero f e =
    let s : g ≡ f = cc in
    let last = naming_functions symbols (g ∷ fs) names in
    let now = naming symbols g.0 names in
    subst (λ (h : Sym × Segment). IsNamed last (sym_text symbols h.0)) s
    (named_later now last (sym_text symbols g.0) (grows_on now (naming_function symbols g names) last (grows_lines symbols g.1.lines now) (grows_functions symbols fs (naming_function symbols g names))) (named_now names (sym_text symbols g.0)))
function_named symbols (g ∷ fs) names (suc i) f e = function_named symbols fs (naming_function symbols g names) i f e

datum_named : (symbols : List Symbol) (ds : List Datum) (names : List (List ℕ)) (i : ℕ) (d : Datum) → slice_get ds i ≡ Some d → IsNamed (naming_datums symbols ds names) (sym_text symbols d.sym)
datum_named symbols [] names i d e = absurd cc
datum_named symbols (g ∷ ds) names zero d e =
    let s : g ≡ d = cc in
    let last = naming_datums symbols (g ∷ ds) names in
    let now = naming symbols g.sym names in
    subst (λ (h : Datum). IsNamed last (sym_text symbols h.sym)) s
    (named_later now last (sym_text symbols g.sym) (grows_on now (naming_datum symbols g names) last (grows_cells symbols g.cells now) (grows_datums symbols ds (naming_datum symbols g names))) (named_now names (sym_text symbols g.sym)))
datum_named symbols (g ∷ ds) names (suc i) d e = datum_named symbols ds (naming_datum symbols g names) i d e

number_is : (symbols : List Symbol) (final : List (List ℕ)) (s : Sym) (h : IsNamed final (sym_text symbols s)) → (renamed symbols final s).0 ≡ h.0
number_is symbols final s h = ap (λ (o : Option ℕ). unwrap_or o 0) h.1

-- symbols with one new number are one
same_number : (code : Code) → IsWritable code → (final : List (List ℕ)) (a b : Sym) → IsKnown (length code.symbols) a → IsKnown (length code.symbols) b → IsNamed final (sym_text code.symbols a) → IsNamed final (sym_text code.symbols b) → (renamed code.symbols final a).0 ≡ (renamed code.symbols final b).0 → a.0 ≡ b.0
same_number code w final a b ka kb na nb e =
    let x = known_symbol code.symbols a ka in
    let y = known_symbol code.symbols b kb in
    let i : na.0 ≡ nb.0 = sym (number_is code.symbols final a na) ∙ e ∙ number_is code.symbols final b nb in
    let t : sym_text code.symbols a ≡ sym_text code.symbols b = one_spelling final (sym_text code.symbols a) (sym_text code.symbols b) nb.0 (na.1 ∙ ap Some i) nb.1 in
    w.own_spelling a.0 b.0 x.0 y.0 x.1 y.1 (sym (ap spelling_of x.1) ∙ t ∙ ap spelling_of y.1)

-- numbers of which none is among others, and none comes twice
not_among : (ns : List ℕ) (n : ℕ) → ((k m : ℕ) → slice_get ns k ≡ Some m → n ≡ m → ⊥) → is_among ns n ≡ false
not_among [] n h = refl
not_among (m ∷ ns) n h = or_from (nat_eq n m) (is_among ns n) (ne_eqb n m (h 0 m refl)) (not_among ns n (λ k x e. h (suc k) x e))

among_push : (a : List ℕ) (m n : ℕ) → is_among a n ≡ false → (n ≡ m → ⊥) → is_among (a ++ m ∷ []) n ≡ false
among_push [] m n h g = or_from (nat_eq n m) false (ne_eqb n m g) refl
among_push (x ∷ a) m n h g =
    let p = or_parts (nat_eq n x) (is_among a n) h in
    or_from (nat_eq n x) (is_among (a ++ m ∷ []) n) p.0 (among_push a m n p.1 g)

fresh_from : (ns bodies : List ℕ) → ((k n : ℕ) → slice_get ns k ≡ Some n → is_among bodies n ≡ false) → ((i j n : ℕ) → slice_get ns i ≡ Some n → slice_get ns j ≡ Some n → i ≡ j) → fresh bodies ns ≡ true
fresh_from [] bodies h d = refl
fresh_from (n ∷ ns) bodies h d =
    and_from (not (is_among bodies n)) (fresh (bodies ++ n ∷ []) ns) (ap not (h 0 n refl))
    (fresh_from ns (bodies ++ n ∷ []) (λ k m e. among_push bodies n m (h (suc k) m e) (λ s. apart k m e s)) (λ i j m e f. pred_same i j (d (suc i) (suc j) m e f)))
  where
    pred_same : (i j : ℕ) → suc i ≡ suc j → i ≡ j
    pred_same i j e = omega arith

    apart : (k m : ℕ) → slice_get ns k ≡ Some m → m ≡ n → ⊥
    apart k m e s = let z : 0 ≡ suc k = d 0 (suc k) n refl (e ∙ ap Some s) in absurd (omega arith)

-- what a place of a mapped list has
mapped_at : {A : Type 0} (f : A → ℕ) (xs : List A) (i n : ℕ) → slice_get (map f xs) i ≡ Some n → (x : A) × (slice_get xs i ≡ Some x) × (f x ≡ n)
mapped_at f [] i n e = absurd cc
mapped_at f (x ∷ xs) zero n e = (x, refl, some_is (f x) n e)
  where
    some_is : (a b : ℕ) → Some a ≡ Some b → a ≡ b
    some_is a b h = cc
mapped_at f (x ∷ xs) (suc i) n e = mapped_at f xs i n e

functions_fresh : (code : Code) → IsWritable code → (final : List (List ℕ)) → Grows (naming_functions code.symbols code.functions []) final → fresh [] (function_numbers code.symbols final code.functions) ≡ true
functions_fresh code w final g = fresh_from _ [] (λ k n e. refl) once
  where
    number : Sym × Segment → ℕ
    number f = (renamed code.symbols final f.0).0

    once : (i j n : ℕ) → slice_get (function_numbers code.symbols final code.functions) i ≡ Some n → slice_get (function_numbers code.symbols final code.functions) j ≡ Some n → i ≡ j
    once i j n e h =
        let a = mapped_at (λ (f : Sym × Segment). (renamed code.symbols final f.0).0) code.functions i n e in
        let b = mapped_at (λ (f : Sym × Segment). (renamed code.symbols final f.0).0) code.functions j n h in
        let named = naming_functions code.symbols code.functions [] in
        let na = named_later named final (sym_text code.symbols a.0.0) g (function_named code.symbols code.functions [] i a.0 a.1) in
        let nb = named_later named final (sym_text code.symbols b.0.0) g (function_named code.symbols code.functions [] j b.0 b.1) in
        w.own_function i j a.0 b.0 a.1 b.1 (same_number code w final a.0.0 b.0.0 (w.function_known i a.0 a.1) (w.function_known j b.0 b.1) na nb (a.2 ∙ sym b.2))

datums_fresh : (code : Code) → IsWritable code → fresh (function_numbers code.symbols (names_of code) code.functions) (datum_numbers code.symbols (names_of code) code.datums) ≡ true
datums_fresh code w = fresh_from _ _ (λ k n e. not_among _ n (other k n e)) once
  where
    final : List (List ℕ)
    final = names_of code

    other : (k n : ℕ) → slice_get (datum_numbers code.symbols (names_of code) code.datums) k ≡ Some n → (i m : ℕ) → slice_get (function_numbers code.symbols (names_of code) code.functions) i ≡ Some m → n ≡ m → ⊥
    other k n e i m h s =
        let final = names_of code in
        let named = naming_functions code.symbols code.functions [] in
        let d = mapped_at (λ (d : Datum). (renamed code.symbols final d.sym).0) code.datums k n e in
        let f = mapped_at (λ (f : Sym × Segment). (renamed code.symbols final f.0).0) code.functions i m h in
        let nf = named_later named final (sym_text code.symbols f.0.0) (grows_datums code.symbols code.datums named) (function_named code.symbols code.functions [] i f.0 f.1) in
        let nd = datum_named code.symbols code.datums named k d.0 d.1 in
        w.apart i k f.0 d.0 f.1 d.1 (same_number code w final f.0.0 d.0.sym (w.function_known i f.0 f.1) (w.datum_known k d.0 d.1) nf nd (f.2 ∙ sym s ∙ sym d.2))

    once : (i j n : ℕ) → slice_get (datum_numbers code.symbols (names_of code) code.datums) i ≡ Some n → slice_get (datum_numbers code.symbols (names_of code) code.datums) j ≡ Some n → i ≡ j
    once i j n e h =
        let final = names_of code in
        let named = naming_functions code.symbols code.functions [] in
        let a = mapped_at (λ (d : Datum). (renamed code.symbols final d.sym).0) code.datums i n e in
        let b = mapped_at (λ (d : Datum). (renamed code.symbols final d.sym).0) code.datums j n h in
        w.own_datum i j a.0 b.0 a.1 b.1 (same_number code w final a.0.sym b.0.sym (w.datum_known i a.0 a.1) (w.datum_known j b.0 b.1) (datum_named code.symbols code.datums named i a.0 a.1) (datum_named code.symbols code.datums named j b.0 b.1) (a.2 ∙ sym b.2))

-- the whole text

head_reads : (args : Bool) → Reads start (head_text args) (at_top [] [] [] [] args opens.Functions)
head_reads true = reads_line start (at_top [] [] [] [] true opens.Functions) (codes "; c65 text 1 args") refl refl
head_reads false = reads_line start (at_top [] [] [] [] false opens.Functions) (codes "; c65 text 1") refl refl

ended : (names : List (List ℕ)) (bodies : List ℕ) (fs : List (Sym × Segment)) (ds : List Datum) (args : Bool) (o : Open) → MayBegin o → (n : ℕ) → lines_in (at_top names bodies fs ds args o) n [] [] ≡ answers.Code (code_of (at_top names bodies fs ds args opens.Data))
ended names bodies fs ds args opens.Functions m n = refl
ended names bodies fs ds args opens.Data m n = refl
ended names bodies fs ds args opens.Start m n = absurd m
ended names bodies fs ds args (opens.Function f) m n = absurd m
ended names bodies fs ds args (opens.Datum d) m n = absurd m

pub lines_read : (code : Code) → IsWritable code → IsOfTypes code → lines_in start 1 [] (text_of code) ≡ answers.Code (renumbered code)
lines_read code w t =
    let final = names_of code in
    let named = naming_functions code.symbols code.functions [] in
    let grown = grows_datums code.symbols code.datums named in
    let numbers = function_numbers code.symbols final code.functions in
    let fs = map (renamed_function code.symbols final) code.functions in
    let a = at_top [] [] [] [] code.main_args opens.Functions in
    let b = at_top named numbers fs [] code.main_args opens.Functions in
    let f : Reads a (functions_with body_text code.symbols code.functions) b = functions_reads code.symbols final [] code.main_args code.functions [] [] [] (λ k g e. function_well code w t k g e) (functions_fresh code w final grown) grown in
    let d = datums_reads code.symbols final fs code.main_args code.datums [] named numbers opens.Functions tt (λ k x e. (datum_well code w t k x e, shape_so x.kind x.cells x.zeros (w.shaped k x e))) (datums_fresh code w) (grows_same final) in
    let c = at_top final (numbers ++ datum_numbers code.symbols final code.datums) fs (map (renamed_datum code.symbols final) code.datums) code.main_args d.0 in
    let all : Reads start (text_of code) c = reads_both start b c (head_text code.main_args ++ functions_with body_text code.symbols code.functions) (datums_text code.symbols code.datums) (reads_both start a b (head_text code.main_args) (functions_with body_text code.symbols code.functions) (head_reads code.main_args) f) d.2 in
    let last = all 1 [] in
    ap (lines_in start 1 []) (sym (append-nil (text_of code))) ∙ last.1
    ∙ ended final (numbers ++ datum_numbers code.symbols final code.datums) fs (map (renamed_datum code.symbols final) code.datums) code.main_args d.0 d.1 last.0

-- what is read from the text of a code that may be written is the code, renumbered
pub text_read : (code : Code) → IsWritable code → IsOfTypes code → read_text (text_of code) ≡ answers.Code (renumbered code)
text_read code w t =
    ap (compared (text_of code)) (lines_read code w t)
    ∙ ap (λ b. if b then answers.Code (renumbered code) else answers.Line 1) ((bytes_eq-Decides (text_of (renumbered code)) (text_of code)).1 (text_same code))

pub back_ok : (code c : Code) (text : List ℕ) → IsWritable code → IsOfTypes code → text_of code ≡ text → read_text text ≡ answers.Code c → c ≡ renumbered code
back_ok code c text w t e h =
    let k : answers.Code (renumbered code) ≡ answers.Code c = sym (text_read code w t) ∙ ap read_text e ∙ h in
    cc

pub back_err : (code : Code) (text : List ℕ) (refusal : Refusal) → IsWritable code → IsOfTypes code → text_of code ≡ text → RefusesText (read_text text) refusal → refusal ≡ OutOfMemory
back_err code text OutOfMemory w t e h = refl
back_err code text (refusals.Source fault file line) w t e h =
    let k : answers.Code (renumbered code) ≡ answers.Line line = sym (text_read code w t) ∙ ap read_text e ∙ h.2 in
    absurd cc
back_err code text _ w t e h = absurd h

pub back_is : (text : List ℕ) (a : Answer) (r : Result Code Refusal) → a ≡ read_text text → MatchResult r (λ code. a ≡ answers.Code code) (λ refusal. RefusesText a refusal)
    → (code : Code) → IsWritable code → IsOfTypes code → text_of code ≡ text → ReadsBack code r
back_is text a (Ok c) e h code w t same = back_ok code c text w t same (sym e ∙ h)
back_is text a (Err refusal) e h code w t same = back_err code text refusal w t same (subst (λ (x : Answer). RefusesText x refusal) e h)
