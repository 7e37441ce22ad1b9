-- A code that can be written can be linked once its symbols are numbered anew.
use Rattle.std.proofs.Common.{◌≡◌, ℕ, false, List, [], ◌∷◌, Some, map, refl, sym, ap, ◌∙◌, subst, codes, ◌&&◌}
use Rattle.std.specs.Prelude.{slice_get}
use Rattle.std.specs.List.{list_all}
use Rattle.c65_code.specs.declared.line.Sym.{Sym}
use Rattle.c65_code.specs.declared.line.Line.{Line}
use Rattle.c65_code.specs.declared.code.Code.{Code}
use Rattle.c65_code.specs.declared.code.Symbol.{Symbol}
use Rattle.c65_code.specs.Segments.{Segment, IsSegment, is_fit, is_among, is_distinct, labels_of, targets_of}
use Rattle.c65_asm.specs.Text.{sym_text, spelling_of}
use Rattle.c65_asm.specs.Symbols.{symbol_of}
use Rattle.c65_asm.specs.Renumbered.{names_of, renamed, renamed_line, renamed_function, renamed_cell, renamed_datum, renumbered}
use Rattle.c65_asm.proofs.FunctionLaws.{same_fit, same_labels, same_targets, same_closed}
use Rattle.c65_link_law_spots.specs.Sound.{IsNamed, by_function, by_datum, by_line, by_cell}
use Rattle.c65_asm_law_names.specs.Numbers.{number_in}
use Rattle.c65_asm_law_names.specs.Laws.{RenumberedIsSound, MainIsNumbered}
use Rattle.c65_asm_law_names.proofs.Naming.{IsPart, function, datum, line, cell, names_of_parts, placed, number_at}
use Rattle.c65_asm_law_names.proofs.Writable.{from_map, to_map, line_renamed, cell_renamed, old_function, renumbered_writable}

-- ---- segments

all_fit : (symbols : List Symbol) (names : List (List ℕ)) (ls : List Line) → list_all is_fit (map (renamed_line symbols names) ls) ≡ list_all is_fit ls
all_fit symbols names [] = refl
all_fit symbols names (l ∷ ls) = ap (λ t. t && list_all is_fit (map (renamed_line symbols names) ls)) (same_fit symbols names l) ∙ ap (λ t. is_fit l && t) (all_fit symbols names ls)

renamed_segment : (symbols : List Symbol) (names : List (List ℕ)) (ls : List Line) → IsSegment ls → IsSegment (map (renamed_line symbols names) ls)
renamed_segment symbols names ls s =
    let mapped = map (renamed_line symbols names) ls in
    record {
      fit = all_fit symbols names ls ∙ s.fit;
      labels = ap is_distinct (same_labels symbols names ls) ∙ s.labels;
      targets = ap (λ ns. list_all (is_among ns) (targets_of mapped)) (same_labels symbols names ls) ∙ ap (λ ts. list_all (is_among (labels_of ls)) ts) (same_targets symbols names ls) ∙ s.targets;
      closed = same_closed symbols names false ls ∙ s.closed;
    }

-- ---- each name is that of something

module _ (code : Code) (i : ℕ) where
  named_by : (x : Sym) → slice_get (names_of code) i ≡ Some (sym_text code.symbols x) → IsPart code x → IsNamed (renumbered code) i
  named_by x at part = by part
    where
      number : (renamed code.symbols (names_of code) x).0 ≡ i
      number = number_at code x i part at

      by : IsPart code x → IsNamed (renumbered code) i
      by (function k f there e) =
          by_function k (renamed_function code.symbols (names_of code) f) (to_map (renamed_function code.symbols (names_of code)) code.functions k f there) (ap (λ (y : Sym). (renamed code.symbols (names_of code) y).0) e ∙ number)
      by (datum k d there e) =
          by_datum k (renamed_datum code.symbols (names_of code) d) (to_map (renamed_datum code.symbols (names_of code)) code.datums k d there) (ap (λ (y : Sym). (renamed code.symbols (names_of code) y).0) e ∙ number)
      by (line k j f l there here e) =
          by_line k j (renamed_function code.symbols (names_of code) f) (renamed_line code.symbols (names_of code) l) (renamed code.symbols (names_of code) x)
          (to_map (renamed_function code.symbols (names_of code)) code.functions k f there) (to_map (renamed_line code.symbols (names_of code)) f.1.lines j l here) (line_renamed code.symbols (names_of code) l x e) number
      by (cell k j d c there here e) =
          by_cell k j (renamed_datum code.symbols (names_of code) d) (renamed_cell code.symbols (names_of code) c) (renamed code.symbols (names_of code) x)
          (to_map (renamed_datum code.symbols (names_of code)) code.datums k d there) (to_map (renamed_cell code.symbols (names_of code)) d.cells j c here) (cell_renamed code.symbols (names_of code) c x e) number

pub renumbered_is_sound : RenumberedIsSound
renumbered_is_sound code w t = record {
  writable = renumbered_writable code w;
  segment = λ k f at.
      let g = old_function code w k f at in
      subst (λ (h : Sym × Segment). IsSegment h.1.lines) (sym g.is) (renamed_segment code.symbols (names_of code) g.old.1.lines (t.segment k g.old g.there));
  named = λ i symbol at.
      let s = from_map symbol_of (names_of code) i symbol at in
      let p = names_of_parts code i s.old s.there in
      named_by code i p.0 (s.there ∙ ap Some (sym p.2)) p.1;
}

-- ---- main

pub main_is_numbered : MainIsNumbered
main_is_numbered code main w m h =
    let x : Sym = record { 0 = main } in
    let own : h.unit.0 ≡ x = ap (λ (n : ℕ). let y : Sym = record { 0 = n } in y) h.is in
    let at = placed code x (function h.at h.unit h.there own) in
    let text : sym_text code.symbols x ≡ codes "_main" = ap spelling_of m.1 ∙ m.2 in
    (symbol_of (sym_text code.symbols x), to_map symbol_of (names_of code) (number_in code main) (sym_text code.symbols x) at, text)
