-- The machine on the lines of a code is that on the lines of the renumbered code, but for the numbers of functions.
use Rattle.std.proofs.Common.{◌≡◌, ℕ, zero, suc, ◌+◌, ◌%◌, ◌/◌, ◌==◌, ◌&&◌, ◌||◌, not, Bool, true, false, if◌then◌else◌, List, [], ◌∷◌, Option, Some, None, map, length, slice_get, refl, sym, ap, ◌∙◌, subst, nat_lt}
use Rattle.std.specs.Prelude.{is_some}
use Rattle.std.proofs.lemmas.Bool.{eqb-true, ne_eqb, eqb-false, lt-ltb}
use Rattle.std.proofs.lemmas.Bool.Decides.{Decides-eqb}
use Rattle.std.proofs.lemmas.Option.{none-some}
use Rattle.c65_base.specs.declared.library.Library.{Library}
use Rattle.c65_base.specs.Library.{library_functions}
use Rattle.c65_mach.specs.declared.rows.Op.{Op}
use Rattle.c65_mach.specs.declared.rows.Op.TheVariants as ops
use Rattle.c65_mach.specs.declared.rows.Mode.{Mode}
use Rattle.c65_mach.specs.Step.{Kind, Reads, Stores, Changes, Branches, Registers, Moves, kind_of}
use Rattle.c65_code.specs.declared.line.Sym.{Sym}
use Rattle.c65_code.specs.declared.line.Operand.{Operand}
use Rattle.c65_code.specs.declared.line.Operand.TheVariants as operands
use Rattle.c65_code.specs.declared.line.Callee.{Callee}
use Rattle.c65_code.specs.declared.line.Callee.TheVariants as callees
use Rattle.c65_code.specs.declared.line.Line.{Line}
use Rattle.c65_code.specs.declared.line.Line.TheVariants as lines
use Rattle.c65_code.specs.declared.code.Code.{Code}
use Rattle.c65_code.specs.declared.code.Symbol.{Symbol}
use Rattle.c65_code.specs.declared.code.Datum.{Datum}
use Rattle.c65_code.specs.Segments.{Segment}
use Rattle.c65_code.specs.Writable.{IsWritable}
use Rattle.c65_code.specs.Placement.{Placement, located, word_of, segment_of, is_nothing, library_named, library_of, has_segment, has_datum, has_body, is_function_of, IsPlacement, setting_of}
use Rattle.c65_code.specs.Forms.{Form, Mark, Run, Through, branch_form, jump_form, move_form, op_form, callee_form, form_of}
use Rattle.c65_code.specs.Moves.{labelled, settle}
use Rattle.c65_code.specs.Steady.{HasLines}
use Rattle.c65_asm.specs.Text.{sym_text}
use Rattle.c65_asm.specs.Symbols.{symbol_of, symbols_of}
use Rattle.c65_asm.specs.Renumbered.{names_of, renamed, renamed_operand, renamed_callee, renamed_line, renamed_function, renamed_datum, renumbered}
use Rattle.c65_link.specs.Symbols.{operand_symbol, callee_symbol, line_symbol}
use Rattle.c65_asm_law_names.specs.Numbers.{number_in}
use Rattle.c65_asm_law_names.proofs.Naming.{IsPart, function, datum, line, placed}
use Rattle.c65_asm_law_names.proofs.Writable.{to_map, part_there, part_known, part_numbered, part_same}
use Rattle.c65_asm_law_names.proofs.Settings.{NamesNone, Alike, as_it_is, by_operand, by_function, Renames}

-- ---- lines with other numbers lead to the same places

module _ (symbols : List Symbol) (names : List (List ℕ)) where
  abbrev new_line : Line → Line
  new_line l = renamed_line symbols names l

  settle_same : (ls : List Line) (k : ℕ) → settle (map new_line ls) k ≡ settle ls k
  settle_same [] k = refl
  settle_same (lines.Label l ∷ ls) zero = ap suc (settle_same ls zero)
  settle_same (lines.Label l ∷ ls) (suc k) = ap suc (settle_same ls k)
  settle_same (lines.Do op mode o ∷ ls) zero = refl
  settle_same (lines.Do op mode o ∷ ls) (suc k) = ap suc (settle_same ls k)
  settle_same (lines.Call c ∷ ls) zero = refl
  settle_same (lines.Call c ∷ ls) (suc k) = ap suc (settle_same ls k)

  labelled_same : (ls : List Line) (l : ℕ) → labelled (map new_line ls) l ≡ labelled ls l
  labelled_same [] l = refl
  labelled_same (lines.Label k ∷ ls) l = ap (λ (m : ℕ). if k == l then 0 else suc m) (labelled_same ls l)
  labelled_same (lines.Do op mode o ∷ ls) l = ap suc (labelled_same ls l)
  labelled_same (lines.Call c ∷ ls) l = ap suc (labelled_same ls l)

  has_same : (ls : List Line) → HasLines ls → HasLines (map new_line ls)
  has_same [] h = absurd h
  has_same (l ∷ ls) h = tt

  nothing_same : (ls : List Line) → is_nothing (map new_line ls) ≡ is_nothing ls
  nothing_same [] = refl
  nothing_same (l ∷ ls) = refl

  -- ---- forms

  branch_same : (op : Op) (o : Operand) → branch_form op (renamed_operand symbols names o) ≡ branch_form op o
  branch_same op operands.Nothing = refl
  branch_same op (operands.Byte v) = refl
  branch_same op (operands.Low sym offset) = refl
  branch_same op (operands.High sym offset) = refl
  branch_same op (operands.Zero v) = refl
  branch_same op (operands.At sym offset) = refl
  branch_same op (operands.To l) = refl

  jump_same : (o : Operand) → jump_form (renamed_operand symbols names o) ≡ jump_form o
  jump_same operands.Nothing = refl
  jump_same (operands.Byte v) = refl
  jump_same (operands.Low sym offset) = refl
  jump_same (operands.High sym offset) = refl
  jump_same (operands.Zero v) = refl
  jump_same (operands.At sym offset) = refl
  jump_same (operands.To l) = refl

  move_same : (op : Op) (o : Operand) → move_form op (renamed_operand symbols names o) ≡ move_form op o
  move_same ops.Jmp o = jump_same o
  move_same ops.Pha o = refl
  move_same ops.Pla o = refl
  move_same ops.Tsx o = refl
  move_same ops.Rts o = refl
  move_same op o = refl

none_branch : (op : Op) (o : Operand) → NamesNone (branch_form op o)
none_branch op operands.Nothing = tt
none_branch op (operands.Byte v) = tt
none_branch op (operands.Low sym offset) = tt
none_branch op (operands.High sym offset) = tt
none_branch op (operands.Zero v) = tt
none_branch op (operands.At sym offset) = tt
none_branch op (operands.To l) = tt

none_jump : (o : Operand) → NamesNone (jump_form o)
none_jump operands.Nothing = tt
none_jump (operands.Byte v) = tt
none_jump (operands.Low sym offset) = tt
none_jump (operands.High sym offset) = tt
none_jump (operands.Zero v) = tt
none_jump (operands.At sym offset) = tt
none_jump (operands.To l) = tt

none_move : (op : Op) (o : Operand) → NamesNone (move_form op o)
none_move ops.Jmp o = none_jump o
none_move ops.Pha o = tt
none_move ops.Pla o = tt
none_move ops.Tsx o = tt
none_move ops.Rts o = tt
none_move op o = tt

-- ---- segments

module _ (symbols : List Symbol) (names : List (List ℕ)) where
  abbrev moved_segment : Segment → Segment
  moved_segment g = record { lines = map (renamed_line symbols names) g.lines; out = g.out }

  -- where a number is that of a function exactly where its new number is
  segment_same : (fs : List (Sym × Segment)) (f m : ℕ) → ((k : ℕ) (g : Sym × Segment) → slice_get fs k ≡ Some g → (renamed symbols names g.0).0 ≡ m → g.0.0 ≡ f) → ((k : ℕ) (g : Sym × Segment) → slice_get fs k ≡ Some g → g.0.0 ≡ f → (renamed symbols names g.0).0 ≡ m)
      → segment_of (map (renamed_function symbols names) fs) m ≡ moved_segment (segment_of fs f)
  segment_same [] f m back on = refl
  segment_same (g ∷ fs) f m back on = by (g.0.0 == f) refl (segment_same fs f m (λ k. back (suc k)) (λ k. on (suc k)))
    where
      by : (b : Bool) → (g.0.0 == f) ≡ b → segment_of (map (renamed_function symbols names) fs) m ≡ moved_segment (segment_of fs f) → segment_of (map (renamed_function symbols names) (g ∷ fs)) m ≡ moved_segment (segment_of (g ∷ fs) f)
      by true e rest =
          let there : ((renamed symbols names g.0).0 == m) ≡ true = (Decides-eqb (renamed symbols names g.0).0 m).1 (on 0 g refl (eqb-true g.0.0 f e)) in
          ap (λ (b : Bool). if b then moved_segment g.1 else segment_of (map (renamed_function symbols names) fs) m) there ∙ ap (λ (b : Bool). moved_segment (if b then g.1 else segment_of fs f)) (sym e)
      by false e rest =
          let there : ((renamed symbols names g.0).0 == m) ≡ false = ne_eqb (renamed symbols names g.0).0 m (λ h. eqb-false g.0.0 f e (back 0 g refl h)) in
          ap (λ (b : Bool). if b then moved_segment g.1 else segment_of (map (renamed_function symbols names) fs) m) there ∙ rest ∙ ap (λ (b : Bool). moved_segment (if b then g.1 else segment_of fs f)) (sym e)

  datum_same : (ds : List Datum) (f m : ℕ) → ((k : ℕ) (d : Datum) → slice_get ds k ≡ Some d → (renamed symbols names d.sym).0 ≡ m → d.sym.0 ≡ f) → ((k : ℕ) (d : Datum) → slice_get ds k ≡ Some d → d.sym.0 ≡ f → (renamed symbols names d.sym).0 ≡ m)
      → has_datum (map (renamed_datum symbols names) ds) m ≡ has_datum ds f
  datum_same [] f m back on = refl
  datum_same (d ∷ ds) f m back on = by (d.sym.0 == f) refl (datum_same ds f m (λ k. back (suc k)) (λ k. on (suc k)))
    where
      by : (b : Bool) → (d.sym.0 == f) ≡ b → has_datum (map (renamed_datum symbols names) ds) m ≡ has_datum ds f → has_datum (map (renamed_datum symbols names) (d ∷ ds)) m ≡ has_datum (d ∷ ds) f
      by true e rest =
          let there : ((renamed symbols names d.sym).0 == m) ≡ true = (Decides-eqb (renamed symbols names d.sym).0 m).1 (on 0 d refl (eqb-true d.sym.0 f e)) in
          ap (λ (b : Bool). if b then true else has_datum (map (renamed_datum symbols names) ds) m) there ∙ ap (λ (b : Bool). if b then true else has_datum ds f) (sym e)
      by false e rest =
          let there : ((renamed symbols names d.sym).0 == m) ≡ false = ne_eqb (renamed symbols names d.sym).0 m (λ h. eqb-false d.sym.0 f e (back 0 d refl h)) in
          ap (λ (b : Bool). if b then true else has_datum (map (renamed_datum symbols names) ds) m) there ∙ rest ∙ ap (λ (b : Bool). if b then true else has_datum ds f) (sym e)

  has_same_segment : (fs : List (Sym × Segment)) (f m : ℕ) → ((k : ℕ) (g : Sym × Segment) → slice_get fs k ≡ Some g → (renamed symbols names g.0).0 ≡ m → g.0.0 ≡ f) → ((k : ℕ) (g : Sym × Segment) → slice_get fs k ≡ Some g → g.0.0 ≡ f → (renamed symbols names g.0).0 ≡ m)
      → has_segment (map (renamed_function symbols names) fs) m ≡ has_segment fs f
  has_same_segment [] f m back on = refl
  has_same_segment (g ∷ fs) f m back on = by (g.0.0 == f) refl (has_same_segment fs f m (λ k. back (suc k)) (λ k. on (suc k)))
    where
      by : (b : Bool) → (g.0.0 == f) ≡ b → has_segment (map (renamed_function symbols names) fs) m ≡ has_segment fs f → has_segment (map (renamed_function symbols names) (g ∷ fs)) m ≡ has_segment (g ∷ fs) f
      by true e rest =
          let there : ((renamed symbols names g.0).0 == m) ≡ true = (Decides-eqb (renamed symbols names g.0).0 m).1 (on 0 g refl (eqb-true g.0.0 f e)) in
          ap (λ (b : Bool). if b then true else has_segment (map (renamed_function symbols names) fs) m) there ∙ ap (λ (b : Bool). if b then true else has_segment fs f) (sym e)
      by false e rest =
          let there : ((renamed symbols names g.0).0 == m) ≡ false = ne_eqb (renamed symbols names g.0).0 m (λ h. eqb-false g.0.0 f e (back 0 g refl h)) in
          ap (λ (b : Bool). if b then true else has_segment (map (renamed_function symbols names) fs) m) there ∙ rest ∙ ap (λ (b : Bool). if b then true else has_segment fs f) (sym e)

-- the lines of a function are those of one of the code's
pub record IsLineOf (fs : List (Sym × Segment)) (f k : ℕ) (l : Line) : Type 0 where
  pub place : ℕ
  pub unit : Sym × Segment
  pub there : slice_get fs place ≡ Some unit
  pub here : slice_get unit.1.lines k ≡ Some l

line_of : (fs : List (Sym × Segment)) (f k : ℕ) (l : Line) → slice_get (segment_of fs f).lines k ≡ Some l → IsLineOf fs f k l
line_of [] f k l h = absurd (none-some l h)
line_of (g ∷ fs) f k l h = by (g.0.0 == f) refl h (line_of fs f k l)
  where
    by : (b : Bool) → (g.0.0 == f) ≡ b → slice_get (if b then g.1 else segment_of fs f).lines k ≡ Some l → (slice_get (segment_of fs f).lines k ≡ Some l → IsLineOf fs f k l) → IsLineOf (g ∷ fs) f k l
    by true e at rest = record { place = 0; unit = g; there = refl; here = at }
    by false e at rest = let r = rest at in record { place = suc r.place; unit = r.unit; there = r.there; here = r.here }

-- ---- the settings

module _ (code : Code) (w : IsWritable code) where
  abbrev pub Known : ℕ → Type 0
  Known f = IsPart code (record { 0 = f })

  abbrev number : ℕ → ℕ
  number f = number_in code f

  abbrev as_symbol : ℕ → Sym
  as_symbol f = record { 0 = f }

  number_same : (x : Sym) (f : ℕ) → x.0 ≡ f → (renamed code.symbols (names_of code) x).0 ≡ number f
  number_same x f e = ap number e

  pub segment_new : (f : ℕ) → Known f → segment_of (renumbered code).functions (number f) ≡ moved_segment code.symbols (names_of code) (segment_of code.functions f)
  segment_new f known =
      segment_same code.symbols (names_of code) code.functions f (number f)
      (λ k g at e. part_same code w g.0 (as_symbol f) (function k g at refl) known e) (λ k g at e. number_same g.0 f e)

  pub datum_new : (f : ℕ) → Known f → has_datum (renumbered code).datums (number f) ≡ has_datum code.datums f
  datum_new f known =
      datum_same code.symbols (names_of code) code.datums f (number f)
      (λ k d at e. part_same code w d.sym (as_symbol f) (datum k d at refl) known e) (λ k d at e. number_same d.sym f e)

  library_new : (f : ℕ) → Known f → library_of (slice_get (renumbered code).symbols (number f)) ≡ library_of (slice_get code.symbols f)
  library_new f known =
      let there = part_there code w (as_symbol f) known in
      let new_there = to_map symbol_of (names_of code) (number f) (sym_text code.symbols (as_symbol f)) (placed code (as_symbol f) known) in
      ap library_of new_there ∙ ap (library_named library_functions) there.text ∙ sym (ap library_of there.at)

  body_new : (f : ℕ) → Known f → has_body (renumbered code) (number f) ≡ has_body code f
  body_new f known =
      ap (λ (b : Bool). b || is_some (library_of (slice_get (renumbered code).symbols (number f))))
      (has_same_segment code.symbols (names_of code) code.functions f (number f)
      (λ k g at e. part_same code w g.0 (as_symbol f) (function k g at refl) known e) (λ k g at e. number_same g.0 f e))
      ∙ ap (λ (o : Option Library). has_segment code.functions f || is_some o) (library_new f known)

  pub function_new : (f : ℕ) → Known f → is_function_of (renumbered code) (number f) ≡ is_function_of code f
  function_new f known =
      let new_inside : nat_lt (number f) (length (symbols_of (names_of code))) ≡ true = lt-ltb (number f) (length (symbols_of (names_of code))) (part_numbered code w (as_symbol f) known) in
      let inside : nat_lt f (length code.symbols) ≡ true = lt-ltb f (length code.symbols) (part_known code w (as_symbol f) known) in
      ap (λ (b : Bool). (b && not (has_datum (renumbered code).datums (number f))) && has_body (renumbered code) (number f)) new_inside
      ∙ ap (λ (b : Bool). (true && not b) && has_body (renumbered code) (number f)) (datum_new f known)
      ∙ ap (λ (b : Bool). (true && not (has_datum code.datums f)) && b) (body_new f known)
      ∙ ap (λ (b : Bool). (b && not (has_datum code.datums f)) && has_body code f) (sym inside)

  module _ (place other : Placement) (addressed : (f : ℕ) → Known f → place.address f ≡ other.address (number f)) where
    located_new : (x : Sym) (offset : ℕ) → IsPart code x → located other (renamed code.symbols (names_of code) x) offset ≡ located place x offset
    located_new x offset part = ap (λ (m : ℕ). (m + offset) % 65536) (sym (addressed x.0 part))

    word_new : (o : Operand) → ((x : Sym) → operand_symbol o ≡ Some x → IsPart code x) → word_of other (renamed_operand code.symbols (names_of code) o) ≡ word_of place o
    word_new (operands.Low x offset) u = ap (λ (m : ℕ). m % 256) (located_new x offset (u x refl))
    word_new (operands.High x offset) u = ap (λ (m : ℕ). m / 256) (located_new x offset (u x refl))
    word_new (operands.At x offset) u = located_new x offset (u x refl)
    word_new operands.Nothing u = refl
    word_new (operands.Byte v) u = refl
    word_new (operands.Zero v) u = refl
    word_new (operands.To l) u = refl

    op_alike : (kind : Kind) (op : Op) (mode : Mode) (o : Operand) → ((x : Sym) → operand_symbol o ≡ Some x → IsPart code x)
        → Alike place other number Known (op_form kind op mode o) (op_form kind op mode (renamed_operand code.symbols (names_of code) o))
    op_alike Branches op mode o u = subst (λ (g : Form). Alike place other number Known (branch_form op o) g) (sym (branch_same code.symbols (names_of code) op o)) (as_it_is (branch_form op o) (none_branch op o))
    op_alike Moves op mode o u = subst (λ (g : Form). Alike place other number Known (move_form op o) g) (sym (move_same code.symbols (names_of code) op o)) (as_it_is (move_form op o) (none_move op o))
    op_alike Reads op mode o u = by_operand op mode o (renamed_operand code.symbols (names_of code) o) (word_new o u)
    op_alike Stores op mode o u = by_operand op mode o (renamed_operand code.symbols (names_of code) o) (word_new o u)
    op_alike Changes op mode o u = by_operand op mode o (renamed_operand code.symbols (names_of code) o) (word_new o u)
    op_alike Registers op mode o u = by_operand op mode o (renamed_operand code.symbols (names_of code) o) (word_new o u)

    callee_alike : (c : Callee) → ((x : Sym) → callee_symbol c ≡ Some x → IsPart code x) → Alike place other number Known (callee_form c) (callee_form (renamed_callee code.symbols (names_of code) c))
    callee_alike (callees.Routine r) u = as_it_is (Run r) tt
    callee_alike (callees.Function x reads gives) u = by_function x.0 reads gives (u x refl)
    callee_alike (callees.Pointer reads gives) u = as_it_is (Through reads gives) tt

    line_alike : (l : Line) → ((x : Sym) → line_symbol l ≡ Some x → IsPart code x) → Alike place other number Known (form_of l) (form_of (renamed_line code.symbols (names_of code) l))
    line_alike (lines.Label l) u = as_it_is Mark tt
    line_alike (lines.Do op mode o) u = op_alike (kind_of op) op mode o u
    line_alike (lines.Call c) u = callee_alike c u

    pub settings_rename : ((b : ℕ) → other.is_data b ≡ place.is_data b) → ((b : ℕ) → other.constant b ≡ place.constant b) → IsPlacement (renumbered code) other
        → Renames (setting_of code place) (setting_of (renumbered code) other) number Known
    settings_rename are_data constant own = record {
      settles = λ f k known. ap (λ (g : Segment). settle g.lines k) (segment_new f known) ∙ settle_same code.symbols (names_of code) (segment_of code.functions f).lines k;
      labels = λ f l known. ap (λ (g : Segment). labelled g.lines l) (segment_new f known) ∙ labelled_same code.symbols (names_of code) (segment_of code.functions f).lines l;
      line = λ f k l known at.
          let of = line_of code.functions f k l at in
          let there : slice_get (map (renamed_line code.symbols (names_of code)) (segment_of code.functions f).lines) k ≡ Some (renamed_line code.symbols (names_of code) l) = to_map (renamed_line code.symbols (names_of code)) (segment_of code.functions f).lines k l at in
          record {
            line = renamed_line code.symbols (names_of code) l;
            there = ap (λ (g : Segment). slice_get g.lines k) (segment_new f known) ∙ there;
            alike = line_alike l (λ x e. line of.place k of.unit l of.there of.here e);
          };
      has_lines = λ f known h. subst (λ (g : Segment). HasLines g.lines) (sym (segment_new f known)) (has_same code.symbols (names_of code) (segment_of code.functions f).lines h);
      gives = λ f known. ap (λ (g : Segment). g.out) (segment_new f known);
      library = λ f known.
          ap (λ (b : Bool). if b && is_nothing (segment_of (renumbered code).functions (number f)).lines then library_of (slice_get (renumbered code).symbols (number f)) else None) (function_new f known)
          ∙ ap (λ (g : Segment). if is_function_of code f && is_nothing g.lines then library_of (slice_get (renumbered code).symbols (number f)) else None) (segment_new f known)
          ∙ ap (λ (b : Bool). if is_function_of code f && b then library_of (slice_get (renumbered code).symbols (number f)) else None) (nothing_same code.symbols (names_of code) (segment_of code.functions f).lines)
          ∙ ap (λ (o : Option Library). if is_function_of code f && is_nothing (segment_of code.functions f).lines then o else None) (library_new f known);
      callee = λ t f known is. (function_new f known ∙ is.0, sym (addressed f known) ∙ is.1);
      callees = λ t f g known is there. own.function_own g (number f) there.0 (function_new f known ∙ is.0) (there.1 ∙ sym is.1 ∙ addressed f known);
      are_data = are_data;
      constant = constant;
    }

  module _ (place other : Placement) (addressed : (f : ℕ) → Known f → place.address f ≡ other.address f) where
    located_same : (x : Sym) (offset : ℕ) → IsPart code x → located other x offset ≡ located place x offset
    located_same x offset part = ap (λ (m : ℕ). (m + offset) % 65536) (sym (addressed x.0 part))

    word_same : (o : Operand) → ((x : Sym) → operand_symbol o ≡ Some x → IsPart code x) → word_of other o ≡ word_of place o
    word_same (operands.Low x offset) u = ap (λ (m : ℕ). m % 256) (located_same x offset (u x refl))
    word_same (operands.High x offset) u = ap (λ (m : ℕ). m / 256) (located_same x offset (u x refl))
    word_same (operands.At x offset) u = located_same x offset (u x refl)
    word_same operands.Nothing u = refl
    word_same (operands.Byte v) u = refl
    word_same (operands.Zero v) u = refl
    word_same (operands.To l) u = refl

    op_itself : (kind : Kind) (op : Op) (mode : Mode) (o : Operand) → ((x : Sym) → operand_symbol o ≡ Some x → IsPart code x) → Alike place other (λ f. f) Known (op_form kind op mode o) (op_form kind op mode o)
    op_itself Branches op mode o u = as_it_is (branch_form op o) (none_branch op o)
    op_itself Moves op mode o u = as_it_is (move_form op o) (none_move op o)
    op_itself Reads op mode o u = by_operand op mode o o (word_same o u)
    op_itself Stores op mode o u = by_operand op mode o o (word_same o u)
    op_itself Changes op mode o u = by_operand op mode o o (word_same o u)
    op_itself Registers op mode o u = by_operand op mode o o (word_same o u)

    callee_itself : (c : Callee) → ((x : Sym) → callee_symbol c ≡ Some x → IsPart code x) → Alike place other (λ f. f) Known (callee_form c) (callee_form c)
    callee_itself (callees.Routine r) u = as_it_is (Run r) tt
    callee_itself (callees.Function x reads gives) u = by_function x.0 reads gives (u x refl)
    callee_itself (callees.Pointer reads gives) u = as_it_is (Through reads gives) tt

    line_itself : (l : Line) → ((x : Sym) → line_symbol l ≡ Some x → IsPart code x) → Alike place other (λ f. f) Known (form_of l) (form_of l)
    line_itself (lines.Label l) u = as_it_is Mark tt
    line_itself (lines.Do op mode o) u = op_itself (kind_of op) op mode o u
    line_itself (lines.Call c) u = callee_itself c u

    pub same_lines_rename : ((b : ℕ) → other.is_data b ≡ place.is_data b) → ((b : ℕ) → other.constant b ≡ place.constant b) → IsPlacement code other
        → Renames (setting_of code place) (setting_of code other) (λ f. f) Known
    same_lines_rename are_data constant own = record {
      settles = λ f k known. refl;
      labels = λ f l known. refl;
      line = λ f k l known at. let of = line_of code.functions f k l at in record { line = l; there = at; alike = line_itself l (λ x e. line of.place k of.unit l of.there of.here e) };
      has_lines = λ f known h. h;
      gives = λ f known. refl;
      library = λ f known. refl;
      callee = λ t f known is. (is.0, sym (addressed f known) ∙ is.1);
      callees = λ t f g known is there. own.function_own g f there.0 is.0 (there.1 ∙ sym is.1 ∙ addressed f known);
      are_data = are_data;
      constant = constant;
    }
