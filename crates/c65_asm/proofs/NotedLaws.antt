-- A code is read from its text with note lines, as from that without.
use Rattle.std.proofs.Common.{◌≡◌, ℕ, ◌==◌, not, Bool, true, false, List, [], ◌∷◌, ◌++◌, Option, Some, None, Result, Ok, Err, codes, bytes_eq, refl, sym, ap, ◌∙◌, arith, inl, inr, append_assoc, nat_lt}
use Rattle.std.specs.Prelude.{◌+◌, ◌/◌, ◌%◌, if◌then◌else◌, MatchResult, IfOk}
use Rattle.std.proofs.lemmas.Bool.{and_from, ne_eqb}
use Rattle.std.proofs.lemmas.Slice.Eq.{bytes_eq-Decides}
use Rattle.c65_base.specs.Lines.{hex_digit}
use Rattle.c65_base.specs.declared.refusal.Refusal.{Refusal}
use Rattle.c65_base.specs.declared.refusal.Refusal.TheVariants as refusals
use Rattle.c65_base.specs.declared.refusal.Refusal.TheVariants.{OutOfMemory}
use Rattle.c65_code.specs.declared.line.Sym.{Sym}
use Rattle.c65_code.specs.declared.line.Line.{Line}
use Rattle.c65_code.specs.declared.line.Line.TheVariants as lines
use Rattle.c65_code.specs.declared.code.Code.{Code}
use Rattle.c65_code.specs.declared.code.Symbol.{Symbol}
use Rattle.c65_code.specs.Segments.{Segment}
use Rattle.c65_code.specs.Writable.{IsWritable}
use Rattle.c65_know.specs.declared.note.Note.{Note}
use Rattle.c65_know.specs.Notes.{nothing_known}
use Rattle.c65_know.specs.Known.{Way, after_line, ways_of, note_at, known_from, known_of}
use Rattle.c65_asm.specs.declared.reading.Answer.{Answer}
use Rattle.c65_asm.specs.declared.reading.Answer.TheVariants as answers
use Rattle.c65_asm.specs.Text.{mnemonic_of, before, behind, operand_text, callee_text, label_text, sym_text, set_text, line_text, lines_text, body_text, function_with, functions_with, datums_text, head_text, text_of}
use Rattle.c65_asm.specs.Known.{byte_field, flag_field, bytes_text, flags_text, note_line, note_text, noted_text, noted_lines_text, known_body_text, known_text_of}
use Rattle.c65_asm.specs.Reading.{start}
use Rattle.c65_asm.specs.Read.{read_text, RefusesText}
use Rattle.c65_asm.specs.Renumbered.{renumbered, IsOfTypes}
use Rattle.c65_asm.specs.Back.{ReadsBack}
use Rattle.c65_asm.specs.Noted.{has_notes, without_notes, noted_answer, read_noted, IsTextOf, parting}
use Rattle.c65_asm.proofs.WordLaws.{lacks, lacks-append}
use Rattle.c65_asm.proofs.NoteLaws.{IsWhole, EndsWhole, ends_behind, whole_both, bare_both, bare_from, kept, Leaves, leaves_none, leaves_both, leaves_same, leaves_note}
use Rattle.c65_asm.proofs.KnownLaws.{known_text_same}
use Rattle.c65_asm.proofs.ReadLaws.{lines_read, text_read}
use Rattle.c65_asm.proofs.SoundLaws.{sound}

-- a note is one line

hex_lacks : (d : ℕ) → not (hex_digit d == 10) ≡ true
hex_lacks d = ap not (ne_eqb (hex_digit d) 10 (by_size (nat_lt d 10)))
  where
    by_size : (b : Bool) → (if b then 48 + d else 55 + d) ≡ 10 → ⊥
    by_size true e = absurd (omega arith)
    by_size false e = absurd (omega arith)

byte_lacks : (name : List ℕ) (value : Option ℕ) → lacks 10 name ≡ true → lacks 10 (byte_field name value) ≡ true
byte_lacks name None h = refl
byte_lacks name (Some v) h =
    let named = lacks-append 10 (codes " " ++ name) (codes "=") h refl in
    lacks-append 10 (codes " " ++ name ++ codes "=") (hex_digit (v / 16) ∷ hex_digit (v % 16) ∷ []) named (and_from _ _ (hex_lacks (v / 16)) (and_from _ _ (hex_lacks (v % 16)) refl))

flag_lacks : (name : List ℕ) (value : Option Bool) → lacks 10 name ≡ true → lacks 10 (flag_field name value) ≡ true
flag_lacks name None h = refl
flag_lacks name (Some true) h = lacks-append 10 (codes " " ++ name ++ codes "=") (codes "1") (lacks-append 10 (codes " " ++ name) (codes "=") h refl) refl
flag_lacks name (Some false) h = lacks-append 10 (codes " " ++ name ++ codes "=") (codes "0") (lacks-append 10 (codes " " ++ name) (codes "=") h refl) refl

bytes_lack : (n : Note) → lacks 10 (bytes_text n) ≡ true
bytes_lack n =
    let a = byte_field (codes "A") n.a in
    let ax = a ++ byte_field (codes "X") n.x in
    let axy = ax ++ byte_field (codes "Y") n.y in
    let s = axy ++ byte_field (codes "S0") n.s0 in
    let ss = s ++ byte_field (codes "S1") n.s1 in
    let p = ss ++ byte_field (codes "P0") n.p0 in
    let pp = p ++ byte_field (codes "P1") n.p1 in
    lacks-append 10 pp (byte_field (codes "T1") n.t1)
    (lacks-append 10 p (byte_field (codes "P1") n.p1)
    (lacks-append 10 ss (byte_field (codes "P0") n.p0)
    (lacks-append 10 s (byte_field (codes "S1") n.s1)
    (lacks-append 10 axy (byte_field (codes "S0") n.s0)
    (lacks-append 10 ax (byte_field (codes "Y") n.y)
    (lacks-append 10 a (byte_field (codes "X") n.x) (byte_lacks (codes "A") n.a refl) (byte_lacks (codes "X") n.x refl))
    (byte_lacks (codes "Y") n.y refl))
    (byte_lacks (codes "S0") n.s0 refl))
    (byte_lacks (codes "S1") n.s1 refl))
    (byte_lacks (codes "P0") n.p0 refl))
    (byte_lacks (codes "P1") n.p1 refl))
    (byte_lacks (codes "T1") n.t1 refl)

flags_lack : (n : Note) → lacks 10 (flags_text n) ≡ true
flags_lack n =
    let a = flag_field (codes "N") n.n in
    let ab = a ++ flag_field (codes "V") n.v in
    let abz = ab ++ flag_field (codes "Z") n.z in
    lacks-append 10 abz (flag_field (codes "C") n.c)
    (lacks-append 10 ab (flag_field (codes "Z") n.z)
    (lacks-append 10 a (flag_field (codes "V") n.v) (flag_lacks (codes "N") n.n refl) (flag_lacks (codes "V") n.v refl))
    (flag_lacks (codes "Z") n.z refl))
    (flag_lacks (codes "C") n.c refl)

leaves_fields : (fields : List ℕ) → lacks 10 fields ≡ true → Leaves (note_line fields) []
leaves_fields [] h = leaves_none
leaves_fields (field ∷ fields) h = leaves_note (field ∷ fields) h

note_leaves : (n : Note) → Leaves (note_text n) []
note_leaves n = leaves_fields (bytes_text n ++ flags_text n) (lacks-append 10 (bytes_text n) (flags_text n) (bytes_lack n) (flags_lack n))

-- of lines with their notes the lines are left

line_ends : (symbols : List Symbol) (line : Line) → EndsWhole (line_text symbols line)
line_ends symbols (lines.Label l) = ends_behind (label_text l) (codes ":\n") (λ begun. refl)
line_ends symbols (lines.Do op mode o) = ends_behind (codes "\t" ++ mnemonic_of op ++ before mode ++ operand_text symbols o ++ behind mode) (codes "\n") (λ begun. refl)
line_ends symbols (lines.Call c) = ends_behind (codes "\tJSR " ++ callee_text symbols c) (codes "\n") (λ begun. refl)

line_leaves : (symbols : List Symbol) (n : Note) (line : Line) → has_notes (line_text symbols line) ≡ false → Leaves (noted_text symbols n line) (line_text symbols line)
line_leaves symbols n (lines.Label l) h = leaves_same (line_text symbols (lines.Label l)) (line_ends symbols (lines.Label l) []) h
line_leaves symbols n (lines.Do op mode o) h =
    let text = line_text symbols (lines.Do op mode o) in
    leaves_both (note_text n) text [] text (note_leaves n) (leaves_same text (line_ends symbols (lines.Do op mode o) []) h)
line_leaves symbols n (lines.Call c) h =
    let text = line_text symbols (lines.Call c) in
    leaves_both (note_text n) text [] text (note_leaves n) (leaves_same text (line_ends symbols (lines.Call c) []) h)

lines_leave : (symbols : List Symbol) (ls : List Line) (way : Option Note) (ways : List Way) (more : List ℕ) → has_notes (lines_text symbols ls ++ more) ≡ false → Leaves (noted_lines_text symbols ls (known_from way ways ls)) (lines_text symbols ls)
lines_leave symbols [] way ways more h = leaves_none
lines_leave symbols (line ∷ ls) way ways more h =
    let n = note_at way ways line ls in
    let later = known_from (after_line line n) (ways ++ ways_of line n) ls in
    let p = bare_both (line_text symbols line) (lines_text symbols ls ++ more) (line_ends symbols line []) (ap has_notes (sym (append_assoc (line_text symbols line) (lines_text symbols ls) more)) ∙ h) in
    leaves_both (noted_text symbols n line) (noted_lines_text symbols ls later) (line_text symbols line) (lines_text symbols ls) (line_leaves symbols n line p.0) (lines_leave symbols ls (after_line line n) (ways ++ ways_of line n) more p.1)

lines_whole : (symbols : List Symbol) (ls : List Line) → IsWhole (lines_text symbols ls)
lines_whole symbols [] = refl
lines_whole symbols (line ∷ ls) = whole_both (line_text symbols line) (lines_text symbols ls) (line_ends symbols line []) (lines_whole symbols ls)

-- functions

abbrev first_line : List Symbol → Sym × Segment → List ℕ
first_line symbols f = codes ".code " ++ sym_text symbols f.0 ++ codes "," ++ set_text f.1.out ++ codes "\n"

first_ends : (symbols : List Symbol) (f : Sym × Segment) → EndsWhole (first_line symbols f)
first_ends symbols f = ends_behind (codes ".code " ++ sym_text symbols f.0 ++ codes "," ++ set_text f.1.out) (codes "\n") (λ begun. refl)

function_leaves : (symbols : List Symbol) (f : Sym × Segment) → has_notes (function_with body_text symbols f) ≡ false → Leaves (function_with known_body_text symbols f) (function_with body_text symbols f)
function_leaves symbols f h =
    let first = first_line symbols f in
    let plain = lines_text symbols f.1.lines in
    let noted = noted_lines_text symbols f.1.lines (known_of f.1.lines) in
    let p = bare_both first (plain ++ codes ".end\n") (first_ends symbols f []) (ap has_notes (sym (append_assoc first plain (codes ".end\n"))) ∙ h) in
    leaves_both (first ++ noted) (codes ".end\n") (first ++ plain) (codes ".end\n")
    (leaves_both first noted first plain (leaves_same first (first_ends symbols f []) p.0) (lines_leave symbols f.1.lines (Some nothing_known) [] (codes ".end\n") p.1))
    (leaves_same (codes ".end\n") refl refl)

function_whole : (symbols : List Symbol) (f : Sym × Segment) → IsWhole (function_with body_text symbols f)
function_whole symbols f = ends_behind (first_line symbols f ++ lines_text symbols f.1.lines) (codes ".end\n") (λ begun. refl) []

functions_leave : (symbols : List Symbol) (fs : List (Sym × Segment)) → has_notes (functions_with body_text symbols fs) ≡ false → Leaves (functions_with known_body_text symbols fs) (functions_with body_text symbols fs)
functions_leave symbols [] h = leaves_none
functions_leave symbols (f ∷ fs) h =
    let p = bare_both (function_with body_text symbols f) (functions_with body_text symbols fs) (function_whole symbols f) h in
    leaves_both (function_with known_body_text symbols f) (functions_with known_body_text symbols fs) (function_with body_text symbols f) (functions_with body_text symbols fs) (function_leaves symbols f p.0) (functions_leave symbols fs p.1)

functions_whole : (symbols : List Symbol) (fs : List (Sym × Segment)) → IsWhole (functions_with body_text symbols fs)
functions_whole symbols [] = refl
functions_whole symbols (f ∷ fs) = whole_both (function_with body_text symbols f) (functions_with body_text symbols fs) (function_whole symbols f) (functions_whole symbols fs)

-- a whole text

head_leaves : (args : Bool) → Leaves (head_text args) (head_text args)
head_leaves true = leaves_same (head_text true) refl refl
head_leaves false = leaves_same (head_text false) refl refl

head_whole : (args : Bool) → IsWhole (head_text args)
head_whole true = refl
head_whole false = refl

-- the text without its note lines is that of the code without notes
pub known_leaves : (code : Code) → has_notes (text_of code) ≡ false → without_notes (known_text_of code) ≡ text_of code
known_leaves code h =
    let head = head_text code.main_args in
    let functions = functions_with body_text code.symbols code.functions in
    let known = functions_with known_body_text code.symbols code.functions in
    let datums = datums_text code.symbols code.datums in
    let whole = whole_both head functions (head_whole code.main_args) (functions_whole code.symbols code.functions) in
    let p = bare_both (head ++ functions) datums whole h in
    let q = bare_both head functions (head_whole code.main_args) p.0 in
    leaves_both head known head functions (head_leaves code.main_args) (functions_leave code.symbols code.functions q.1) datums
    ∙ ap (λ t. (head ++ functions) ++ t) (kept datums p.1)

bare_text : (code : Code) → IsWritable code → IsOfTypes code → has_notes (text_of code) ≡ false
bare_text code w t = bare_from (text_of code) start 1 [] (renumbered code) (lines_read code w t)

plain_read : (code : Code) → IsWritable code → IsOfTypes code → read_noted (text_of code) ≡ answers.Code (renumbered code)
plain_read code w t =
    ap (λ (b : Bool). if b then noted_answer (text_of code) (read_text (without_notes (text_of code))) else read_text (text_of code)) (bare_text code w t)
    ∙ text_read code w t

known_read : (code : Code) → IsWritable code → IsOfTypes code → read_noted (known_text_of code) ≡ answers.Code (renumbered code)
known_read code w t = by_notes (has_notes (known_text_of code)) refl
  where
    left : without_notes (known_text_of code) ≡ text_of code
    left = known_leaves code (bare_text code w t)

    by_notes : (b : Bool) → has_notes (known_text_of code) ≡ b → (if b then noted_answer (known_text_of code) (read_text (without_notes (known_text_of code))) else read_text (known_text_of code)) ≡ answers.Code (renumbered code)
    by_notes true e =
        ap (λ (s : List ℕ). noted_answer (known_text_of code) (read_text s)) left
        ∙ ap (noted_answer (known_text_of code)) (text_read code w t)
        ∙ ap (λ (b : Bool). if b then answers.Code (renumbered code) else answers.Line (parting 1 (known_text_of code) (known_text_of (renumbered code)))) ((bytes_eq-Decides (known_text_of code) (known_text_of (renumbered code))).1 (sym (known_text_same code)))
    by_notes false e = ap read_text (sym (kept (known_text_of code) e) ∙ left) ∙ text_read code w t

-- each text of a code is read as that code, renumbered
pub noted_read : (code : Code) (text : List ℕ) → IsWritable code → IsOfTypes code → IsTextOf code text → read_noted text ≡ answers.Code (renumbered code)
noted_read code text w t (inl e) = ap read_noted (sym e) ∙ plain_read code w t
noted_read code text w t (inr e) = ap read_noted (sym e) ∙ known_read code w t

pub back_is : (text : List ℕ) (a : Answer) (r : Result Code Refusal) → a ≡ read_noted text → MatchResult r (λ code. a ≡ answers.Code code) (λ refusal. RefusesText a refusal)
    → (code : Code) → IsWritable code → IsOfTypes code → IsTextOf code text → ReadsBack code r
back_is text a (Ok c) e h code w t same =
    let k : answers.Code (renumbered code) ≡ answers.Code c = sym (noted_read code text w t same) ∙ sym e ∙ h in
    cc
back_is text a (Err OutOfMemory) e h code w t same = refl
back_is text a (Err (refusals.Source fault file line)) e h code w t same =
    let k : answers.Code (renumbered code) ≡ answers.Line line = sym (noted_read code text w t same) ∙ sym e ∙ h.2 in
    absurd cc
back_is text a (Err _) e h code w t same = absurd h

-- a code that is answered has the text

sound_from : (text : List ℕ) (code : Code) (a : Answer) → noted_answer text a ≡ answers.Code code → known_text_of code ≡ text
sound_from text code (answers.Line n) h = absurd cc
sound_from text code (answers.Code c) h = by_test (bytes_eq text (known_text_of c)) refl h
  where
    by_test : (b : Bool) → bytes_eq text (known_text_of c) ≡ b → (if b then answers.Code c else answers.Line (parting 1 text (known_text_of c))) ≡ answers.Code code → known_text_of code ≡ text
    by_test true e g =
        let same : code ≡ c = cc in
        ap known_text_of same ∙ sym ((bytes_eq-Decides text (known_text_of c)).0 e)
    by_test false e g = absurd cc

noted_sound : (text : List ℕ) (code : Code) (b : Bool) → (if b then noted_answer text (read_text (without_notes text)) else read_text text) ≡ answers.Code code → IsTextOf code text
noted_sound text code true h = inr (sound_from text code (read_text (without_notes text)) h)
noted_sound text code false h = inl (sound text code h)

pub text_is : (text : List ℕ) (a : Answer) (r : Result Code Refusal) → a ≡ read_noted text → MatchResult r (λ code. a ≡ answers.Code code) (λ refusal. RefusesText a refusal) → IfOk r (λ code. IsTextOf code text)
text_is text a (Ok code) e h = noted_sound text code (has_notes text) (sym e ∙ h)
text_is text a (Err refusal) e h = tt
