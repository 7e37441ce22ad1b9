-- An operand is read as it is written, in the mode of its line.
use Rattle.std.proofs.Common.{◌≡◌, ℕ, ◌<◌, ◌==◌, ◌&&◌, not, Bool, true, false, List, [], ◌∷◌, ◌++◌, Option, Some, None, option_map, codes, decimal, refl, sym, ap, ◌∙◌, inl, inr, arith, append_assoc}
use Rattle.std.specs.Prelude.{◌⊎◌, if◌then◌else◌}
use Rattle.std.proofs.lemmas.Bool.{and_parts, and_from, eqb-true, false≢true}
use Rattle.std.specs.List.{list_all}
use Rattle.std.proofs.lemmas.List.{append-nil}
use Rattle.c65_mach.specs.declared.rows.Op.{Op}
use Rattle.c65_mach.specs.declared.rows.Op.TheVariants as ops
use Rattle.c65_mach.specs.declared.rows.Mode.{Mode}
use Rattle.c65_mach.specs.declared.rows.Mode.TheVariants.{Implied, Accumulator, Immediate, ZeroPage, ZeroPageX, ZeroPageY, Absolute, AbsoluteX, AbsoluteY, IndirectX, IndirectY, Indirect, Relative, ZeroPageIndirect, AbsoluteIndirectX}
use Rattle.c65_code.specs.declared.line.Operand.{Operand}
use Rattle.c65_code.specs.declared.line.Operand.TheVariants as operands
use Rattle.c65_code.specs.declared.code.Symbol.{Symbol}
use Rattle.c65_code.specs.Segments.{has_row, takes}
use Rattle.c65_code.specs.Writable.{is_letter, is_letter_or_digit, is_external, IsSpelling, IsDirect}
use Rattle.c65_asm.specs.declared.row.Index.{Index}
use Rattle.c65_asm.specs.declared.row.Index.TheVariants as index
use Rattle.c65_asm.specs.Text.{byte_text, sym_text, operand_text, behind}
use Rattle.c65_asm.specs.Words.{and_read, byte_in, hex_byte, cut_at}
use Rattle.c65_asm.specs.Rows.{Spelled, Nothing, Byte, Low, High, Zero, At, To, low_of, high_of, literal_of, bracketed, brackets_in, indexed_from, zero_mode, absolute_mode, at_place, at_byte_or, based, address_in, target_mode, target_of, operand_in}
use Rattle.c65_asm.proofs.WordLaws.{number_read, byte_read, lacks, lacks-append, cut_there, cut_nowhere, word_lacks, decimal_word, byte_lacks, spelling_word, place_read}

-- an operand with the spelling of its symbol
abbrev pub named_operand : List Symbol → Operand → Spelled
named_operand symbols operands.Nothing = Nothing
named_operand symbols (operands.Byte v) = Byte v
named_operand symbols (operands.Low sym offset) = Low (sym_text symbols sym) offset
named_operand symbols (operands.High sym offset) = High (sym_text symbols sym) offset
named_operand symbols (operands.Zero at) = Zero at
named_operand symbols (operands.At sym offset) = At (sym_text symbols sym) offset
named_operand symbols (operands.To label) = To label

-- its numbers are of their types, and its symbol is spelled well
abbrev pub IsWellOperand : List Symbol → Operand → Type 0
IsWellOperand symbols operands.Nothing = Unit {0}
IsWellOperand symbols (operands.Byte v) = v < 256
IsWellOperand symbols (operands.Low sym offset) = IsSpelling (sym_text symbols sym) × (offset < 65536)
IsWellOperand symbols (operands.High sym offset) = IsSpelling (sym_text symbols sym) × (offset < 65536)
IsWellOperand symbols (operands.Zero at) = at < 256
IsWellOperand symbols (operands.At sym offset) = IsSpelling (sym_text symbols sym) × (offset < 65536)
IsWellOperand symbols (operands.To label) = label < 4294967296

-- SYM+NUM
abbrev pub place : List ℕ → ℕ → List ℕ
place symbol offset = (symbol ++ codes "+") ++ decimal offset

pub place_lacks : (mark : ℕ) (symbol : List ℕ) (offset : ℕ) → is_letter_or_digit mark ≡ false → (43 == mark) ≡ false → IsSpelling symbol → offset < 65536 → lacks mark (place symbol offset) ≡ true
place_lacks mark symbol offset m p s h =
    lacks-append mark (symbol ++ codes "+") (decimal offset)
    (lacks-append mark symbol (codes "+") (word_lacks mark symbol m (spelling_word symbol s)) (and_from _ _ (ap not p) refl))
    (word_lacks mark (decimal offset) m (decimal_word offset (omega arith)))

-- what begins with a symbol is an address, and no byte

abbrev Goes : Op → List ℕ → Type 0
Goes op text = (operand_in op text ≡ address_in text) × (byte_in text ≡ None)

no_byte : (c : ℕ) (text : List ℕ) → (c == 36) ≡ false → byte_in (c ∷ text) ≡ None
no_byte c [] h = refl
no_byte c (a ∷ []) h = refl
no_byte c (a ∷ b ∷ []) h = ap (λ (t : Bool). if t then hex_byte a b else None) h
no_byte c (a ∷ b ∷ d ∷ text) h = refl

begins_so : (op : Op) (c : ℕ) (text : List ℕ) → (c ≡ 95) ⊎ ((c ≡ 115) ⊎ (c ≡ 113)) → Goes op (c ∷ text)
begins_so op c text (inl e) = (ap (λ d. operand_in op (d ∷ text)) e ∙ sym (ap (λ d. address_in (d ∷ text)) e), no_byte c text (ap (λ d. d == 36) e))
begins_so op c text (inr (inl e)) = (ap (λ d. operand_in op (d ∷ text)) e ∙ sym (ap (λ d. address_in (d ∷ text)) e), no_byte c text (ap (λ d. d == 36) e))
begins_so op c text (inr (inr e)) = (ap (λ d. operand_in op (d ∷ text)) e ∙ sym (ap (λ d. address_in (d ∷ text)) e), no_byte c text (ap (λ d. d == 36) e))

external_goes : (op : Op) (symbol text : List ℕ) → is_external symbol ≡ true → Goes op (symbol ++ text)
external_goes op [] text h = absurd (false≢true h)
external_goes op (u ∷ []) text h = absurd (false≢true h)
external_goes op (u ∷ first ∷ rest) text h =
    let p = and_parts (u == 95) (is_letter first && list_all is_letter_or_digit rest) h in
    let e : u ≡ 95 = eqb-true u 95 p.0 in
    begins_so op u ((first ∷ rest) ++ text) (inl e)

goes_along : (op : Op) (a b text : List ℕ) → a ≡ b → Goes op (b ++ text) → Goes op (a ++ text)
goes_along op a b text e h = (ap (λ (s : List ℕ). operand_in op (s ++ text)) e ∙ h.0 ∙ sym (ap (λ (s : List ℕ). address_in (s ++ text)) e), ap (λ (s : List ℕ). byte_in (s ++ text)) e ∙ h.1)

symbol_goes : (op : Op) (symbol text : List ℕ) → IsSpelling symbol → Goes op (symbol ++ text)
symbol_goes op symbol text (inl h) = external_goes op symbol text h
symbol_goes op symbol text (inr (inl (n, small, e))) = goes_along op symbol _ text e (begins_so op 115 (decimal n ++ text) (inr (inl refl)))
symbol_goes op symbol text (inr (inr (n, small, e))) = goes_along op symbol _ text e (begins_so op 113 (decimal n ++ text) (inr (inr refl)))

place_goes : (op : Op) (symbol : List ℕ) (offset : ℕ) (text : List ℕ) → IsSpelling symbol → Goes op (place symbol offset ++ text)
place_goes op symbol offset text s =
    let e : place symbol offset ++ text ≡ symbol ++ (codes "+" ++ decimal offset ++ text) = ap (λ (t : List ℕ). t ++ text) (append_assoc symbol (codes "+") (decimal offset)) ∙ append_assoc symbol (codes "+" ++ decimal offset) text in
    let h = symbol_goes op symbol (codes "+" ++ decimal offset ++ text) s in
    (ap (operand_in op) e ∙ h.0 ∙ sym (ap address_in e), ap byte_in e ∙ h.1)

-- addresses: of the zero page, and of symbols

abbrev IsIndexed : List ℕ → Index → Type 0
IsIndexed text i = (base : List ℕ) → lacks 44 base ≡ true → indexed_from (base ++ text) (cut_at 44 (base ++ text)) ≡ Some (base, i)

plain : IsIndexed [] index.Plain
plain base h =
    let e = append-nil base in
    ap (indexed_from (base ++ [])) (ap (cut_at 44) e ∙ cut_nowhere 44 base h) ∙ ap (λ (t : List ℕ). Some (t, index.Plain)) e

by_x : IsIndexed (codes ",X") index.X
by_x base h = ap (indexed_from (base ++ codes ",X")) (cut_there 44 base (codes "X") h)

by_y : IsIndexed (codes ",Y") index.Y
by_y base h = ap (indexed_from (base ++ codes ",Y")) (cut_there 44 base (codes "Y") h)

zero_address : (v : ℕ) (text : List ℕ) (i : Index) → IsIndexed text i → v < 256 → address_in (byte_text v ++ text) ≡ Some (zero_mode i, Zero v)
zero_address v text i indexed h =
    ap (λ (o : Option (List ℕ × Index)). and_read o based) (indexed (byte_text v) (byte_lacks 44 v refl refl h))
    ∙ ap (at_byte_or i (byte_text v)) (byte_read v h)

place_address : (op : Op) (symbol : List ℕ) (offset : ℕ) (text : List ℕ) (i : Index) → IsIndexed text i → IsSpelling symbol → offset < 65536 → address_in (place symbol offset ++ text) ≡ Some (absolute_mode i, At symbol offset)
place_address op symbol offset text i indexed s h =
    let none : byte_in (place symbol offset) ≡ None = sym (ap byte_in (append-nil (place symbol offset))) ∙ (place_goes op symbol offset [] s).1 in
    ap (λ (o : Option (List ℕ × Index)). and_read o based) (indexed (place symbol offset) (place_lacks 44 symbol offset refl refl s h))
    ∙ ap (at_byte_or i (place symbol offset)) none
    ∙ ap (λ (o : Option (List ℕ × ℕ)). option_map (at_place i) o) (place_read symbol offset s h)

-- modes

-- what stands behind the space of an instruction
abbrev IsOperand : List Symbol → Op → Mode → Operand → List ℕ → Type 0
IsOperand symbols op mode operand text = operand_in op text ≡ Some (mode, named_operand symbols operand)

accumulator : (symbols : List Symbol) (op : Op) (o : Operand) → takes op Accumulator o ≡ true → IsOperand symbols op Accumulator o (codes "A" ++ operand_text symbols o ++ [])
accumulator symbols op operands.Nothing h = refl
accumulator symbols op _ h = absurd (false≢true h)

immediate : (symbols : List Symbol) (op : Op) (o : Operand) → takes op Immediate o ≡ true → IsWellOperand symbols o → IsOperand symbols op Immediate o (codes "#" ++ operand_text symbols o)
immediate symbols op (operands.Byte v) h w = ap (λ (o : Option ℕ). option_map literal_of o) (byte_read v w)
immediate symbols op (operands.Low sym offset) h w = ap (λ (o : Option (List ℕ × ℕ)). option_map low_of o) (place_read (sym_text symbols sym) offset w.0 w.1)
immediate symbols op (operands.High sym offset) h w = ap (λ (o : Option (List ℕ × ℕ)). option_map high_of o) (place_read (sym_text symbols sym) offset w.0 w.1)
immediate symbols op operands.Nothing h w = absurd (false≢true h)
immediate symbols op (operands.Zero at) h w = absurd (false≢true h)
immediate symbols op (operands.At sym offset) h w = absurd (false≢true h)
immediate symbols op (operands.To label) h w = absurd (false≢true h)

zero_page : (symbols : List Symbol) (op : Op) (mode : Mode) (i : Index) (text : List ℕ) → IsIndexed text i → zero_mode i ≡ mode → (o : Operand) → takes op ZeroPage o ≡ true → IsWellOperand symbols o → IsOperand symbols op mode o (operand_text symbols o ++ text)
zero_page symbols op mode i text indexed m (operands.Zero v) h w = zero_address v text i indexed w ∙ ap (λ (n : Mode). Some (n, Zero v)) m
zero_page symbols op mode i text indexed m operands.Nothing h w = absurd (false≢true h)
zero_page symbols op mode i text indexed m (operands.Byte v) h w = absurd (false≢true h)
zero_page symbols op mode i text indexed m (operands.Low sym offset) h w = absurd (false≢true h)
zero_page symbols op mode i text indexed m (operands.High sym offset) h w = absurd (false≢true h)
zero_page symbols op mode i text indexed m (operands.At sym offset) h w = absurd (false≢true h)
zero_page symbols op mode i text indexed m (operands.To label) h w = absurd (false≢true h)

at_symbol : (symbols : List Symbol) (op : Op) (mode : Mode) (i : Index) (text : List ℕ) → IsIndexed text i → absolute_mode i ≡ mode → (o : Operand) → takes op AbsoluteX o ≡ true → IsWellOperand symbols o → IsOperand symbols op mode o (operand_text symbols o ++ text)
at_symbol symbols op mode i text indexed m (operands.At sym offset) h w =
    let symbol = sym_text symbols sym in
    (place_goes op symbol offset text w.0).0 ∙ place_address op symbol offset text i indexed w.0 w.1 ∙ ap (λ (n : Mode). Some (n, At symbol offset)) m
at_symbol symbols op mode i text indexed m operands.Nothing h w = absurd (false≢true h)
at_symbol symbols op mode i text indexed m (operands.Byte v) h w = absurd (false≢true h)
at_symbol symbols op mode i text indexed m (operands.Low sym offset) h w = absurd (false≢true h)
at_symbol symbols op mode i text indexed m (operands.High sym offset) h w = absurd (false≢true h)
at_symbol symbols op mode i text indexed m (operands.Zero v) h w = absurd (false≢true h)
at_symbol symbols op mode i text indexed m (operands.To label) h w = absurd (false≢true h)

to_label : (symbols : List Symbol) (op : Op) (mode : Mode) → target_mode op ≡ mode → (o : Operand) → takes op Relative o ≡ true → IsWellOperand symbols o → IsOperand symbols op mode o (operand_text symbols o)
to_label symbols op mode m (operands.To label) h w = ap (λ (o : Option ℕ). option_map (target_of op) o) (number_read label w) ∙ ap (λ (n : Mode). Some (n, To label)) m
to_label symbols op mode m operands.Nothing h w = absurd (false≢true h)
to_label symbols op mode m (operands.Byte v) h w = absurd (false≢true h)
to_label symbols op mode m (operands.Low sym offset) h w = absurd (false≢true h)
to_label symbols op mode m (operands.High sym offset) h w = absurd (false≢true h)
to_label symbols op mode m (operands.Zero v) h w = absurd (false≢true h)
to_label symbols op mode m (operands.At sym offset) h w = absurd (false≢true h)

in_brackets : (symbols : List Symbol) (op : Op) (mode : Mode) (text : List ℕ) → ((v : ℕ) → bracketed text v ≡ Some (mode, Zero v)) → ((v : ℕ) → brackets_in (byte_text v ++ text) ≡ and_read (byte_in (byte_text v)) (bracketed text)) → (o : Operand) → takes op ZeroPage o ≡ true → IsWellOperand symbols o → IsOperand symbols op mode o (codes "(" ++ operand_text symbols o ++ text)
in_brackets symbols op mode text m long (operands.Zero v) h w = long v ∙ ap (λ (o : Option ℕ). and_read o (bracketed text)) (byte_read v w) ∙ m v
in_brackets symbols op mode text m long operands.Nothing h w = absurd (false≢true h)
in_brackets symbols op mode text m long (operands.Byte v) h w = absurd (false≢true h)
in_brackets symbols op mode text m long (operands.Low sym offset) h w = absurd (false≢true h)
in_brackets symbols op mode text m long (operands.High sym offset) h w = absurd (false≢true h)
in_brackets symbols op mode text m long (operands.At sym offset) h w = absurd (false≢true h)
in_brackets symbols op mode text m long (operands.To label) h w = absurd (false≢true h)

-- the text of an operand with what stands about it, behind the space
abbrev pub about : Mode → List ℕ
about Accumulator = codes "A"
about Immediate = codes "#"
about IndirectX = codes "("
about IndirectY = codes "("
about Indirect = codes "("
about ZeroPageIndirect = codes "("
about _ = []

abbrev pub inner_text : List Symbol → Mode → Operand → List ℕ
inner_text symbols mode operand = (about mode ++ operand_text symbols operand) ++ behind mode

-- branches have labels, and absolute mode has them in JMP alone

branch_mode : (op : Op) → has_row op Relative ≡ true → target_mode op ≡ Relative
branch_mode ops.Jmp h = absurd (false≢true h)
branch_mode _ h = refl

absolute : (symbols : List Symbol) (op : Op) (o : Operand) → takes op Absolute o ≡ true → IsWellOperand symbols o → IsOperand symbols op Absolute o (operand_text symbols o ++ [])
absolute symbols ops.Jmp o h w = ap (operand_in ops.Jmp) (append-nil (operand_text symbols o)) ∙ to_label symbols ops.Jmp Absolute refl o h w
absolute symbols op o h w = at_symbol symbols op Absolute index.Plain [] plain refl o h w

no_place : {A : Type 0} → IsDirect Indirect → A
no_place h = absurd h

pub operand_read : (symbols : List Symbol) (op : Op) (mode : Mode) (o : Operand) → has_row op mode ≡ true → takes op mode o ≡ true → IsDirect mode → IsWellOperand symbols o → (mode ≡ Implied → ⊥) → operand_in op (inner_text symbols mode o) ≡ Some (mode, named_operand symbols o)
operand_read symbols op Implied o r h d w n = absurd (n refl)
operand_read symbols op Accumulator o r h d w n = accumulator symbols op o h
operand_read symbols op Immediate o r h d w n = ap (operand_in op) (append-nil (codes "#" ++ operand_text symbols o)) ∙ immediate symbols op o h w
operand_read symbols op ZeroPage o r h d w n = zero_page symbols op ZeroPage index.Plain [] plain refl o h w
operand_read symbols op ZeroPageX o r h d w n = zero_page symbols op ZeroPageX index.X (codes ",X") by_x refl o h w
operand_read symbols op ZeroPageY o r h d w n = zero_page symbols op ZeroPageY index.Y (codes ",Y") by_y refl o h w
operand_read symbols op Absolute o r h d w n = absolute symbols op o h w
operand_read symbols op AbsoluteX o r h d w n = at_symbol symbols op AbsoluteX index.X (codes ",X") by_x refl o h w
operand_read symbols op AbsoluteY o r h d w n = at_symbol symbols op AbsoluteY index.Y (codes ",Y") by_y refl o h w
operand_read symbols op IndirectX o r h d w n = in_brackets symbols op IndirectX (codes ",X)") (λ v. refl) (λ v. refl) o h w
operand_read symbols op IndirectY o r h d w n = in_brackets symbols op IndirectY (codes "),Y") (λ v. refl) (λ v. refl) o h w
operand_read symbols op Indirect o r h d w n = no_place d
operand_read symbols op Relative o r h d w n = ap (operand_in op) (append-nil (operand_text symbols o)) ∙ to_label symbols op Relative (branch_mode op r) o h w
operand_read symbols op ZeroPageIndirect o r h d w n = in_brackets symbols op ZeroPageIndirect (codes ")") (λ v. refl) (λ v. refl) o h w
operand_read symbols op AbsoluteIndirectX o r h d w n = absurd (false≢true h)
