-- A function is read as it is written.
use Rattle.std.proofs.Common.{◌≡◌, ℕ, suc, ◌&&◌, ◌||◌, not, Bool, true, false, List, [], ◌∷◌, ◌++◌, Option, Some, None, map, option_map, codes, refl, sym, ap, ◌∙◌, append_assoc, nat_eq}
use Rattle.std.specs.Prelude.{slice_get, if◌then◌else◌}
use Rattle.std.specs.List.{list_all}
use Rattle.std.proofs.lemmas.Bool.{and_parts, and_from, or_parts, ne_eqb, eqb-false}
use Rattle.std.proofs.lemmas.List.{append-nil, map_push}
use Rattle.c65_mach.specs.declared.rows.Op.{Op}
use Rattle.c65_mach.specs.declared.rows.Op.TheVariants as ops
use Rattle.c65_mach.specs.declared.rows.Mode.{Mode}
use Rattle.c65_mach.specs.declared.rows.Mode.TheVariants.{Implied, Accumulator, Immediate, ZeroPage, ZeroPageX, ZeroPageY, Absolute, AbsoluteX, AbsoluteY, IndirectX, IndirectY, Indirect, Relative, ZeroPageIndirect, AbsoluteIndirectX}
use Rattle.c65_code.specs.declared.parts.RegSet.{RegSet}
use Rattle.c65_code.specs.declared.line.Sym.{Sym}
use Rattle.c65_code.specs.declared.line.Operand.{Operand}
use Rattle.c65_code.specs.declared.line.Operand.TheVariants as operands
use Rattle.c65_code.specs.declared.line.Callee.{Callee}
use Rattle.c65_code.specs.declared.line.Callee.TheVariants as callees
use Rattle.c65_code.specs.declared.line.Line.{Line}
use Rattle.c65_code.specs.declared.line.Line.TheVariants as lines
use Rattle.c65_code.specs.declared.code.Symbol.{Symbol}
use Rattle.c65_code.specs.declared.code.Datum.{Datum}
use Rattle.c65_code.specs.Segments.{Segment, IsSegment, has_row, takes, is_fit, is_barred, is_nothing, is_immediate, is_zero, is_at, is_to, is_address, labels_of, target_of, targets_of, is_among, is_distinct, is_closing, closed_by}
use Rattle.c65_code.specs.Writable.{IsSpelling, IsLetters}
use Rattle.c65_asm.specs.declared.reader.Open.{Open}
use Rattle.c65_asm.specs.declared.reader.Open.TheVariants as opens
use Rattle.c65_asm.specs.Opened.{OpenedFunction}
use Rattle.c65_asm.specs.Text.{sym_text, set_text, lines_text, body_text, function_with, functions_with, line_text}
use Rattle.c65_asm.specs.Words.{and_read, is_symbol}
use Rattle.c65_asm.specs.Rows.{Told, Function, function_by, function_in, row_in}
use Rattle.c65_asm.specs.Symbols.{with_number}
use Rattle.c65_asm.specs.Reading.{Reading, with_row, line_of, is_new, with_line, may_end, begun, with_function, opened_function, put_row, in_function, step_in, step}
use Rattle.c65_asm.specs.Renumbered.{naming, naming_line, naming_lines, naming_function, naming_functions, renamed, renamed_operand, renamed_line, renamed_function}
use Rattle.c65_asm.proofs.WordLaws.{lacks, lacks-append, cut_there, word_lacks, symbol_is, spelling_word}
use Rattle.c65_asm.proofs.SetLaws.{set_read, set_lacks_feed}
use Rattle.c65_asm.proofs.RowLaws.{named_line, IsWellLine, line_body, body_is, line_lacks, line_read}
use Rattle.c65_asm.proofs.LabelLaws.{labels_append}
use Rattle.c65_asm.proofs.FeedLaws.{Reads, reads_none, reads_both, reads_line, reads_to, reads_text}
use Rattle.c65_asm.proofs.NumberLaws.{Grows, grows_on, grows_lines, grows_functions, renamed_now, line_now}

-- what a row names and says is what the line names and says

operand_says : (symbols : List Symbol) (names : List (List ℕ)) (op : Op) (mode : Mode) (o : Operand) → (with_row names (named_line symbols (lines.Do op mode o)) ≡ naming_line symbols (lines.Do op mode o) names) × (line_of names (named_line symbols (lines.Do op mode o)) ≡ Some (renamed_line symbols names (lines.Do op mode o)))
operand_says symbols names op mode operands.Nothing = (refl, refl)
operand_says symbols names op mode (operands.Byte v) = (refl, refl)
operand_says symbols names op mode (operands.Low sym offset) = (refl, refl)
operand_says symbols names op mode (operands.High sym offset) = (refl, refl)
operand_says symbols names op mode (operands.Zero v) = (refl, refl)
operand_says symbols names op mode (operands.At sym offset) = (refl, refl)
operand_says symbols names op mode (operands.To l) = (refl, refl)

callee_says : (symbols : List Symbol) (names : List (List ℕ)) (c : Callee) → (with_row names (named_line symbols (lines.Call c)) ≡ naming_line symbols (lines.Call c) names) × (line_of names (named_line symbols (lines.Call c)) ≡ Some (renamed_line symbols names (lines.Call c)))
callee_says symbols names (callees.Routine r) = (refl, refl)
callee_says symbols names (callees.Function f reads gives) = (refl, refl)
callee_says symbols names (callees.Pointer reads gives) = (refl, refl)

line_says : (symbols : List Symbol) (names : List (List ℕ)) (line : Line) → (with_row names (named_line symbols line) ≡ naming_line symbols line names) × (line_of names (named_line symbols line) ≡ Some (renamed_line symbols names line))
line_says symbols names (lines.Label l) = (refl, refl)
line_says symbols names (lines.Do op mode o) = operand_says symbols names op mode o
line_says symbols names (lines.Call c) = callee_says symbols names c

-- other numbers of symbols leave what a segment keeps

same_address : (symbols : List Symbol) (names : List (List ℕ)) (op : Op) (o : Operand) → is_address op (renamed_operand symbols names o) ≡ is_address op o
same_address symbols names ops.Jmp operands.Nothing = refl
same_address symbols names ops.Jmp (operands.Byte v) = refl
same_address symbols names ops.Jmp (operands.Low sym offset) = refl
same_address symbols names ops.Jmp (operands.High sym offset) = refl
same_address symbols names ops.Jmp (operands.Zero v) = refl
same_address symbols names ops.Jmp (operands.At sym offset) = refl
same_address symbols names ops.Jmp (operands.To l) = refl
same_address symbols names op o = same_at o
  where
    same_at : (o : Operand) → is_at (renamed_operand symbols names o) ≡ is_at o
    same_at operands.Nothing = refl
    same_at (operands.Byte v) = refl
    same_at (operands.Low sym offset) = refl
    same_at (operands.High sym offset) = refl
    same_at (operands.Zero v) = refl
    same_at (operands.At sym offset) = refl
    same_at (operands.To l) = refl

-- a test of the kind of an operand alone
abbrev IsKind : (Operand → Bool) → Type 0
IsKind test = (symbols : List Symbol) (names : List (List ℕ)) (o : Operand) → test (renamed_operand symbols names o) ≡ test o

kind_nothing : IsKind is_nothing
kind_nothing symbols names operands.Nothing = refl
kind_nothing symbols names (operands.Byte v) = refl
kind_nothing symbols names (operands.Low sym offset) = refl
kind_nothing symbols names (operands.High sym offset) = refl
kind_nothing symbols names (operands.Zero v) = refl
kind_nothing symbols names (operands.At sym offset) = refl
kind_nothing symbols names (operands.To l) = refl

kind_immediate : IsKind is_immediate
kind_immediate symbols names operands.Nothing = refl
kind_immediate symbols names (operands.Byte v) = refl
kind_immediate symbols names (operands.Low sym offset) = refl
kind_immediate symbols names (operands.High sym offset) = refl
kind_immediate symbols names (operands.Zero v) = refl
kind_immediate symbols names (operands.At sym offset) = refl
kind_immediate symbols names (operands.To l) = refl

kind_zero : IsKind is_zero
kind_zero symbols names operands.Nothing = refl
kind_zero symbols names (operands.Byte v) = refl
kind_zero symbols names (operands.Low sym offset) = refl
kind_zero symbols names (operands.High sym offset) = refl
kind_zero symbols names (operands.Zero v) = refl
kind_zero symbols names (operands.At sym offset) = refl
kind_zero symbols names (operands.To l) = refl

kind_at : IsKind is_at
kind_at symbols names operands.Nothing = refl
kind_at symbols names (operands.Byte v) = refl
kind_at symbols names (operands.Low sym offset) = refl
kind_at symbols names (operands.High sym offset) = refl
kind_at symbols names (operands.Zero v) = refl
kind_at symbols names (operands.At sym offset) = refl
kind_at symbols names (operands.To l) = refl

kind_to : IsKind is_to
kind_to symbols names operands.Nothing = refl
kind_to symbols names (operands.Byte v) = refl
kind_to symbols names (operands.Low sym offset) = refl
kind_to symbols names (operands.High sym offset) = refl
kind_to symbols names (operands.Zero v) = refl
kind_to symbols names (operands.At sym offset) = refl
kind_to symbols names (operands.To l) = refl

same_takes : (symbols : List Symbol) (names : List (List ℕ)) (op : Op) (mode : Mode) (o : Operand) → takes op mode (renamed_operand symbols names o) ≡ takes op mode o
same_takes symbols names op Implied o = kind_nothing symbols names o
same_takes symbols names op Accumulator o = kind_nothing symbols names o
same_takes symbols names op Immediate o = kind_immediate symbols names o
same_takes symbols names op ZeroPage o = kind_zero symbols names o
same_takes symbols names op ZeroPageX o = kind_zero symbols names o
same_takes symbols names op ZeroPageY o = kind_zero symbols names o
same_takes symbols names op Absolute o = same_address symbols names op o
same_takes symbols names op AbsoluteX o = kind_at symbols names o
same_takes symbols names op AbsoluteY o = kind_at symbols names o
same_takes symbols names op IndirectX o = kind_zero symbols names o
same_takes symbols names op IndirectY o = kind_zero symbols names o
same_takes symbols names op Indirect o = kind_zero symbols names o
same_takes symbols names op Relative o = kind_to symbols names o
same_takes symbols names op ZeroPageIndirect o = kind_zero symbols names o
same_takes symbols names op AbsoluteIndirectX o = refl

pub same_fit : (symbols : List Symbol) (names : List (List ℕ)) (line : Line) → is_fit (renamed_line symbols names line) ≡ is_fit line
same_fit symbols names (lines.Label l) = refl
same_fit symbols names (lines.Do op mode o) = ap (λ t. has_row op mode && (t && not (is_barred op))) (same_takes symbols names op mode o)
same_fit symbols names (lines.Call c) = refl

pub same_labels : (symbols : List Symbol) (names : List (List ℕ)) (ls : List Line) → labels_of (map (renamed_line symbols names) ls) ≡ labels_of ls
same_labels symbols names [] = refl
same_labels symbols names (lines.Label l ∷ ls) = ap (λ ns. l ∷ ns) (same_labels symbols names ls)
same_labels symbols names (lines.Do op mode o ∷ ls) = same_labels symbols names ls
same_labels symbols names (lines.Call c ∷ ls) = same_labels symbols names ls

same_target : (symbols : List Symbol) (names : List (List ℕ)) (line : Line) → target_of (renamed_line symbols names line) ≡ target_of line
same_target symbols names (lines.Label l) = refl
same_target symbols names (lines.Do op mode operands.Nothing) = refl
same_target symbols names (lines.Do op mode (operands.Byte v)) = refl
same_target symbols names (lines.Do op mode (operands.Low sym offset)) = refl
same_target symbols names (lines.Do op mode (operands.High sym offset)) = refl
same_target symbols names (lines.Do op mode (operands.Zero v)) = refl
same_target symbols names (lines.Do op mode (operands.At sym offset)) = refl
same_target symbols names (lines.Do op mode (operands.To l)) = refl
same_target symbols names (lines.Call c) = refl

pub same_targets : (symbols : List Symbol) (names : List (List ℕ)) (ls : List Line) → targets_of (map (renamed_line symbols names) ls) ≡ targets_of ls
same_targets symbols names [] = refl
same_targets symbols names (line ∷ ls) = ap (λ ns. ns ++ targets_of (map (renamed_line symbols names) ls)) (same_target symbols names line) ∙ ap (λ ns. target_of line ++ ns) (same_targets symbols names ls)

same_closing : (symbols : List Symbol) (names : List (List ℕ)) (line : Line) → is_closing (renamed_line symbols names line) ≡ is_closing line
same_closing symbols names (lines.Label l) = refl
same_closing symbols names (lines.Do ops.Rts mode o) = refl
same_closing symbols names (lines.Do ops.Jmp mode o) = refl
same_closing symbols names (lines.Do op mode o) = refl
same_closing symbols names (lines.Call c) = refl

pub same_closed : (symbols : List Symbol) (names : List (List ℕ)) (t : Bool) (ls : List Line) → closed_by t (map (renamed_line symbols names) ls) ≡ closed_by t ls
same_closed symbols names t [] = refl
same_closed symbols names t (line ∷ ls) = ap (λ u. closed_by u (map (renamed_line symbols names) ls)) (same_closing symbols names line) ∙ same_closed symbols names (is_closing line) ls

may_end_so : (symbols : List Symbol) (names : List (List ℕ)) (ls : List Line) → IsSegment ls → may_end (map (renamed_line symbols names) ls) ≡ true
may_end_so symbols names ls s =
    let mapped = map (renamed_line symbols names) ls in
    and_from _ _
    (ap (λ ns. list_all (is_among ns) (targets_of mapped)) (same_labels symbols names ls) ∙ ap (λ ts. list_all (is_among (labels_of ls)) ts) (same_targets symbols names ls) ∙ s.targets)
    (same_closed symbols names false ls ∙ s.closed)

-- a label that comes was not there

not_among_last : (a b : List ℕ) (x l : ℕ) → is_among (a ++ l ∷ b) x ≡ false → nat_eq l x ≡ false
not_among_last [] b x l h = let p = or_parts (nat_eq x l) (is_among b x) h in ne_eqb l x (λ e. eqb-false x l p.0 (sym e))
not_among_last (y ∷ a) b x l h = not_among_last a b x l (or_parts (nat_eq x y) (is_among (a ++ l ∷ b) x) h).1

not_false : (t : Bool) → not t ≡ true → t ≡ false
not_false true h = sym h
not_false false h = refl

pub not_among_before : (a b : List ℕ) (l : ℕ) → is_distinct (a ++ l ∷ b) ≡ true → is_among a l ≡ false
not_among_before [] b l h = refl
not_among_before (x ∷ a) b l h =
    let p = and_parts (not (is_among (a ++ l ∷ b) x)) (is_distinct (a ++ l ∷ b)) h in
    let e = not_among_last a b x l (not_false _ p.0) in
    ap (λ t. t || is_among a l) e ∙ not_among_before a b l p.1

new_label : (symbols : List Symbol) (names : List (List ℕ)) (before after : List Line) (line : Line) → is_distinct (labels_of (before ++ line ∷ after)) ≡ true → is_new (map (renamed_line symbols names) before) (renamed_line symbols names line) ≡ true
new_label symbols names before after (lines.Label l) h =
    let d : is_distinct (labels_of before ++ l ∷ labels_of after) ≡ true = sym (ap is_distinct (labels_append before (lines.Label l ∷ after))) ∙ h in
    ap (λ ns. not (is_among ns l)) (same_labels symbols names before) ∙ ap not (not_among_before (labels_of before) (labels_of after) l d)
new_label symbols names before after (lines.Do op mode o) h = refl
new_label symbols names before after (lines.Call c) h = refl

-- lines

abbrev made : Sym → RegSet → List Line → OpenedFunction
made sym out ls = record { sym = sym; out = out; lines = ls }

-- a row of a line is put to the function
put_so : (r : Reading) (f : OpenedFunction) (symbols : List Symbol) (line : Line) → in_function r f (named_line symbols line) ≡ put_row r f (named_line symbols line)
put_so r f symbols (lines.Label l) = refl
put_so r f symbols (lines.Do op mode o) = refl
put_so r f symbols (lines.Call c) = refl

line_step : (symbols : List Symbol) (final : List (List ℕ)) (r : Reading) (names : List (List ℕ)) (own : Sym) (out : RegSet) (before after : List Line) (line : Line) → IsWellLine symbols line → is_fit line ≡ true → is_distinct (labels_of (before ++ line ∷ after)) ≡ true → Grows (naming_line symbols line names) final → step (opened_function r names (made own out (map (renamed_line symbols final) before))) (line_body symbols line) ≡ Some (opened_function r (naming_line symbols line names) (made own out (map (renamed_line symbols final) (before ++ line ∷ []))))
line_step symbols final r names own out before after line w fit d g =
    let done = map (renamed_line symbols final) before in
    let f = made own out done in
    let s = opened_function r names f in
    let row = named_line symbols line in
    let next = naming_line symbols line names in
    let new = renamed_line symbols final line in
    let a : step s (line_body symbols line) ≡ in_function s f row = ap (λ (o : Option Told). and_read o (step_in s (opens.Function f))) (line_read symbols line w) in
    let said : line_of next row ≡ Some new = (line_says symbols next line).1 ∙ ap Some (line_now symbols line names final g) in
    let b : put_row s f row ≡ option_map (opened_function s next) (and_read (line_of next row) (with_line f)) = ap (λ ns. option_map (opened_function s ns) (and_read (line_of ns row) (with_line f))) (line_says symbols names line).0 in
    let c : with_line f new ≡ Some (made own out (done ++ new ∷ [])) = ap (λ t. if t then Some (made own out (done ++ new ∷ [])) else None) (and_from _ _ (same_fit symbols final line ∙ fit) (new_label symbols final before after line d)) in
    a ∙ put_so s f symbols line ∙ b
    ∙ ap (λ (o : Option Line). option_map (opened_function s next) (and_read o (with_line f))) said
    ∙ ap (λ (o : Option OpenedFunction). option_map (opened_function s next) o) c
    ∙ ap (λ ls. Some (opened_function r next (made own out ls))) (sym (map_push (renamed_line symbols final) before line))

-- each line of some is well
abbrev pub AreWell : List Symbol → List Line → Type 0
AreWell symbols ls = (k : ℕ) (line : Line) → slice_get ls k ≡ Some line → IsWellLine symbols line

lines_reads : (symbols : List Symbol) (final : List (List ℕ)) (r : Reading) (own : Sym) (out : RegSet) (all : List Line) → is_distinct (labels_of all) ≡ true → (rest before : List Line) (names : List (List ℕ)) → all ≡ before ++ rest → AreWell symbols rest → list_all is_fit rest ≡ true → Grows (naming_lines symbols rest names) final → Reads (opened_function r names (made own out (map (renamed_line symbols final) before))) (lines_text symbols rest) (opened_function r (naming_lines symbols rest names) (made own out (map (renamed_line symbols final) all)))
lines_reads symbols final r own out all d [] before names e w fit g =
    reads_to (opened_function r names (made own out (map (renamed_line symbols final) before))) _ _ [] (ap (λ ls. opened_function r names (made own out (map (renamed_line symbols final) ls))) (sym (e ∙ append-nil before))) (reads_none _)
lines_reads symbols final r own out all d (line ∷ rest) before names e w fit g =
    let next = naming_line symbols line names in
    let p = and_parts (is_fit line) (list_all is_fit rest) fit in
    let s = opened_function r names (made own out (map (renamed_line symbols final) before)) in
    let t = opened_function r next (made own out (map (renamed_line symbols final) (before ++ line ∷ []))) in
    let u = opened_function r (naming_lines symbols rest next) (made own out (map (renamed_line symbols final) all)) in
    let distinct : is_distinct (labels_of (before ++ line ∷ rest)) ≡ true = sym (ap (λ ls. is_distinct (labels_of ls)) e) ∙ d in
    let well : IsWellLine symbols line = w 0 line refl in
    let first : step s (line_body symbols line) ≡ Some t = line_step symbols final r names own out before rest line well p.0 distinct (grows_on next (naming_lines symbols rest next) final (grows_lines symbols rest next) g) in
    let head : Reads s (line_text symbols line) t = reads_text s t (line_body symbols line ++ 10 ∷ []) (line_text symbols line) (sym (body_is symbols line)) (reads_line s t (line_body symbols line) (line_lacks symbols line well) first) in
    reads_both s t u (line_text symbols line) (lines_text symbols rest) head
    (lines_reads symbols final r own out all d rest (before ++ line ∷ []) next (e ∙ sym (append_assoc before (line ∷ []) rest)) (λ k l h. w (suc k) l h) p.1 g)

-- functions

-- a state in which nothing is open
abbrev pub at_top : List (List ℕ) → List ℕ → List (Sym × Segment) → List Datum → Bool → Open → Reading
at_top names bodies fs ds args opened = record { names = names; bodies = bodies; functions = fs; datums = ds; args = args; opened = opened }

abbrev function_head : List Symbol → Sym → RegSet → List ℕ
function_head symbols own out = codes ".code " ++ sym_text symbols own ++ codes "," ++ set_text out

head_read : (symbols : List Symbol) (own : Sym) (out : RegSet) → IsSpelling (sym_text symbols own) → IsLetters out → row_in (function_head symbols own out) ≡ Some (Function (sym_text symbols own) out)
head_read symbols own out s l =
    let symbol = sym_text symbols own in
    ap function_in (append_assoc symbol (codes ",") (set_text out))
    ∙ ap (λ (o : Option (List ℕ × List ℕ)). and_read o function_by) (cut_there 44 symbol (set_text out) (word_lacks 44 symbol refl (spelling_word symbol s)))
    ∙ ap (λ (o : Option RegSet). and_read o (λ out. if is_symbol symbol then Some (Function symbol out) else None)) (set_read out l)
    ∙ ap (λ t. if t then Some (Function symbol out) else None) (symbol_is symbol s)

head_lacks : (symbols : List Symbol) (own : Sym) (out : RegSet) → IsSpelling (sym_text symbols own) → IsLetters out → lacks 10 (function_head symbols own out) ≡ true
head_lacks symbols own out s l =
    let symbol = sym_text symbols own in
    lacks-append 10 (symbol ++ codes ",") (set_text out) (lacks-append 10 symbol (codes ",") (word_lacks 10 symbol refl (spelling_word symbol s)) refl) (set_lacks_feed out l)

-- a symbol with no body gets one
pub begun_so : (r : Reading) (n : ℕ) (sym : Sym) (opened : Open) → sym.0 ≡ n → is_among r.bodies n ≡ false → begun r sym opened ≡ Some (record r { bodies = r.bodies ++ n ∷ []; opened = opened })
begun_so r n sym opened e h =
    ap (λ k. if is_among r.bodies k then None else Some (record r { bodies = with_number r.bodies k; opened = opened })) e
    ∙ ap (λ t. if t then None else Some (record r { bodies = with_number r.bodies n; opened = opened })) h
    ∙ ap (λ t. Some (record r { bodies = if t then r.bodies else r.bodies ++ n ∷ []; opened = opened })) h

pub record IsWellFunction (symbols : List Symbol) (f : Sym × Segment) : Type 0 where
  pub own : IsSpelling (sym_text symbols f.0)
  pub gives : IsLetters f.1.out
  pub kept : IsSegment f.1.lines
  pub well : AreWell symbols f.1.lines

pub function_reads : (symbols : List Symbol) (final names : List (List ℕ)) (bodies : List ℕ) (fs : List (Sym × Segment)) (ds : List Datum) (args : Bool) (f : Sym × Segment) → IsWellFunction symbols f → is_among bodies (renamed symbols final f.0).0 ≡ false → Grows (naming_function symbols f names) final → Reads (at_top names bodies fs ds args opens.Functions) (function_with body_text symbols f) (at_top (naming_function symbols f names) (bodies ++ (renamed symbols final f.0).0 ∷ []) (fs ++ renamed_function symbols final f ∷ []) ds args opens.Functions)
function_reads symbols final names bodies fs ds args f w fresh g =
    let own = renamed symbols final f.0 in
    let r = at_top names bodies fs ds args opens.Functions in
    let named = naming symbols f.0 names in
    let head = function_head symbols f.0 f.1.out in
    let base = at_top named (bodies ++ own.0 ∷ []) fs ds args opens.Functions in
    let s = opened_function base named (made own f.1.out []) in
    let last = naming_function symbols f names in
    let mapped = map (renamed_line symbols final) f.1.lines in
    let t = opened_function base last (made own f.1.out mapped) in
    let u = at_top last (bodies ++ own.0 ∷ []) (fs ++ renamed_function symbols final f ∷ []) ds args opens.Functions in
    let now : renamed symbols named f.0 ≡ own = renamed_now symbols f.0 names final (grows_on named last final (grows_lines symbols f.1.lines named) g) in
    let first : step r head ≡ Some s =
    ap (λ (o : Option Told). and_read o (step_in r opens.Functions)) (head_read symbols f.0 f.1.out w.own w.gives)
    ∙ ap (λ (y : Sym). begun (at_top named bodies fs ds args opens.Functions) y (opens.Function (made y f.1.out []))) now
    ∙ begun_so (at_top named bodies fs ds args opens.Functions) own.0 own (opens.Function (made own f.1.out [])) refl fresh in
    let end : step t (codes ".end") ≡ Some u = ap (λ b. option_map (with_function t) (if b then Some (own, record { lines = mapped; out = f.1.out }) else None)) (may_end_so symbols final f.1.lines w.kept) in
    reads_both r t u (head ++ codes "\n" ++ lines_text symbols f.1.lines) (codes ".end\n")
    (reads_both r s t (head ++ codes "\n") (lines_text symbols f.1.lines)
    (reads_line r s head (head_lacks symbols f.0 f.1.out w.own w.gives) first)
    (lines_reads symbols final base own f.1.out f.1.lines w.kept.labels f.1.lines [] named refl w.well w.kept.fit g))
    (reads_line t u (codes ".end") refl end)

-- numbers that come one after another, none of them before
abbrev pub fresh : List ℕ → List ℕ → Bool
fresh bodies [] = true
fresh bodies (n ∷ ns) = not (is_among bodies n) && fresh (bodies ++ n ∷ []) ns

abbrev pub function_numbers : List Symbol → List (List ℕ) → List (Sym × Segment) → List ℕ
function_numbers symbols final fs = map (λ f. (renamed symbols final f.0).0) fs

pub functions_reads : (symbols : List Symbol) (final : List (List ℕ)) (ds : List Datum) (args : Bool) (rest before : List (Sym × Segment)) (names : List (List ℕ)) (bodies : List ℕ) → ((k : ℕ) (f : Sym × Segment) → slice_get rest k ≡ Some f → IsWellFunction symbols f) → fresh bodies (function_numbers symbols final rest) ≡ true → Grows (naming_functions symbols rest names) final → Reads (at_top names bodies before ds args opens.Functions) (functions_with body_text symbols rest) (at_top (naming_functions symbols rest names) (bodies ++ function_numbers symbols final rest) (before ++ map (renamed_function symbols final) rest) ds args opens.Functions)
functions_reads symbols final ds args [] before names bodies w free g =
    reads_to (at_top names bodies before ds args opens.Functions) _ _ [] (ap (λ b. at_top names b before ds args opens.Functions) (sym (append-nil bodies)) ∙ ap (λ fs. at_top names (bodies ++ []) fs ds args opens.Functions) (sym (append-nil before))) (reads_none _)
functions_reads symbols final ds args (f ∷ rest) before names bodies w free g =
    let n = (renamed symbols final f.0).0 in
    let next = naming_function symbols f names in
    let p = and_parts (not (is_among bodies n)) (fresh (bodies ++ n ∷ []) (function_numbers symbols final rest)) free in
    let s = at_top names bodies before ds args opens.Functions in
    let t = at_top next (bodies ++ n ∷ []) (before ++ renamed_function symbols final f ∷ []) ds args opens.Functions in
    let u = at_top (naming_functions symbols rest next) ((bodies ++ n ∷ []) ++ function_numbers symbols final rest) ((before ++ renamed_function symbols final f ∷ []) ++ map (renamed_function symbols final) rest) ds args opens.Functions in
    let one : Reads s (function_with body_text symbols f) t = function_reads symbols final names bodies before ds args f (w 0 f refl) (not_false _ p.0) (grows_on next (naming_functions symbols rest next) final (grows_functions symbols rest next) g) in
    let more : Reads t (functions_with body_text symbols rest) u = functions_reads symbols final ds args rest (before ++ renamed_function symbols final f ∷ []) next (bodies ++ n ∷ []) (λ k h e. w (suc k) h e) p.1 g in
    reads_to s u _ (functions_with body_text symbols (f ∷ rest))
    (ap (λ b. at_top (naming_functions symbols rest next) b ((before ++ renamed_function symbols final f ∷ []) ++ map (renamed_function symbols final) rest) ds args opens.Functions) (append_assoc bodies (n ∷ []) (function_numbers symbols final rest))
    ∙ ap (λ fs. at_top (naming_functions symbols rest next) (bodies ++ n ∷ function_numbers symbols final rest) fs ds args opens.Functions) (append_assoc before (renamed_function symbols final f ∷ []) (map (renamed_function symbols final) rest)))
    (reads_both s t u (function_with body_text symbols f) (functions_with body_text symbols rest) one more)
