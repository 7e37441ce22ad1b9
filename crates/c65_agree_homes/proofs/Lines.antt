-- The lines of a function of the program.
use Rattle.std.proofs.Common.{◌≡◌, ℕ, ◌+◌, ◌==◌, ◌^◌, ◌<◌, ◌≤◌, Option, Some, List, ◌∷◌, ◌++◌, length, refl, sym, ◌∙◌, ap, subst, slice_get, arith}
use Rattle.std.specs.Prelude.{◌&&◌, not, Result, Ok, Contains}
use Rattle.std.specs.List.{list_all}
use Rattle.c65_base.specs.Answers.{Fault}
use Rattle.c65_csem.specs.Trees.{Stmt, empty, eval, set_part, clear, block, if_stmt, while, do_while, for_loop, switch, case, default, label, goto, break, continue, return, Stmts, no_stmts, and_stmts, FuncTy}
use Rattle.c65_csem.specs.Units.{IsBody, HasBody}
use Rattle.c65_csem.specs.Views.{object_of, func_of}
use Rattle.c65_mach.specs.declared.rows.Op.TheVariants.{Jmp}
use Rattle.c65_code.specs.declared.line.Line.{Line}
use Rattle.c65_code.specs.declared.line.Line.TheVariants.{Label}
use Rattle.c65_code.specs.Segments.{Drafted}
use Rattle.c65_genframe.specs.Frames.{Framed, frame_of}
use Rattle.c65_genframe.specs.Symbols.{numbers_of, function_symbol}
use Rattle.c65_genwide.specs.Lines.{with_lines}
use Rattle.c65_genentry.specs.Drafts.{with_labels}
use Rattle.c65_genentry.specs.Entry.{entry_code}
use Rattle.c65_genentry.specs.Ends.{end_code}
use Rattle.c65_genentry.specs.Words.{jump}
use Rattle.c65_genstmt.specs.declared.jumps.Ways.{Ways}
use Rattle.c65_genstmt.specs.Cases.{room_of}
use Rattle.c65_genstmt.specs.Stmts.{ways, case_behind, returns_last, with_stmt, with_stmts, with_last, with_lasts}
use Rattle.c65_genstmt.specs.Functions.{gives_of, main_code, no_lines, with_function}
use Rattle.c65_gen_law_lines.proofs.Flat.{Flat, entry_flat, end_flat}
use Rattle.c65_gen_law_lines.proofs.FunctionLaws.{main_flat, functions_are_segments}
use Rattle.c65_gen_law_lines.proofs.Made.{plain_targets}
use Rattle.c65_gen_law_calls.specs.Travels.{Program, Compiled, laid, IsCompiled}
use Rattle.c65_gen_law_calls.proofs.ProgramLaws.{programs_are_compiled}
use Rattle.c65_agree_start.proofs.Given.{length_mapped}
use Rattle.c65_agree_state.specs.World.{World, unit_in, setting_in, Active, lines_of, HasAt, IsPlaced}
use Rattle.c65_agree_lines.specs.Lists.{stmt_uses, last_code}
use Rattle.c65_agree_lines.specs.Turns.{GotoAt}
use Rattle.c65_agree_lines.proofs.Listed.{statements_are_listed, functions_are_listed}
use Rattle.c65_agree_lines.proofs.Stand.{parts_stand, all_stand, segments_are_placed}
use Rattle.c65_agree_homes.specs.Turns.{first_label, body_turns}
use Rattle.c65_agree_homes.specs.Frames.{IsCallIn, HasFewLabels}
use Rattle.c65_agree_homes.proofs.Own.{framed, has_body}
use Rattle.c65_agree_homes.proofs.Quiet.{Quiet, is_other, quiet_both, Counted, counts_behind, counts_before}
use Rattle.c65_agree_homes.proofs.Jumps.{last_jumps_count}

-- ---- labels

-- labels that are given to a statement that stands last are as many as to another
mutual
  last_labels : (f : Framed) (w : Ways) (l : ℕ) (s : Stmt) (d : Drafted) → (with_last f w l s d).labels ≡ (with_stmt f w l s d).labels
  last_labels f w l (block os ss) d = lasts_labels f w l ss d
  last_labels f w l (return e) d = refl
  last_labels f w l empty d = refl
  last_labels f w l (eval e) d = refl
  last_labels f w l (set_part i o e) d = refl
  last_labels f w l (clear i) d = refl
  last_labels f w l (if_stmt e a b) d = refl
  last_labels f w l (while e a) d = refl
  last_labels f w l (do_while a e) d = refl
  last_labels f w l (for_loop i c n a) d = refl
  last_labels f w l (switch e a) d = refl
  last_labels f w l (case z a) d = refl
  last_labels f w l (default a) d = refl
  last_labels f w l (label n a) d = refl
  last_labels f w l (goto n) d = refl
  last_labels f w l break d = refl
  last_labels f w l continue d = refl

  lasts_labels : (f : Framed) (w : Ways) (l : ℕ) (ss : Stmts) (d : Drafted) → (with_lasts f w l ss d).labels ≡ (with_stmts f w l ss d).labels
  lasts_labels f w l no_stmts d = refl
  lasts_labels f w l (and_stmts a no_stmts) d = last_labels f w l a d
  lasts_labels f w l (and_stmts a (and_stmts b ss)) d = lasts_labels f w (case_behind l a) (and_stmts b ss) (with_stmt f w l a d)

none_before : (n : ℕ) → 0 + n ≡ n
none_before n = omega arith

-- ---- the lines

module _ (g : World) (names : List (List ℕ)) (a : Active) (f : FuncTy) (body : Stmt) (h : IsCallIn g names a f) (is : f.body ≡ Some body) where
  abbrev whole : Framed → Drafted
  whole z = with_function z (a.func == g.main) (Some body) (no_lines (gives_of g.parts f))

  same_frame : (z : Framed) → frame_of g.parts g.modes f ≡ Ok z → a.frame ≡ z
  same_frame z e = go (sym (framed g names a f h) ∙ e)
    where
      go : ◌≡◌ {A = Result Framed Fault} (Ok a.frame) (Ok z) → a.frame ≡ z
      go e = cc

  few_symbols : length g.parts.objects.items + length g.parts.literals.items + length g.parts.funcs.items ≤ 2 ^ 32
  few_symbols =
      let all = h.plain.few in
      omega (arith, all, length_mapped object_of g.parts.objects.items, length_mapped func_of g.parts.funcs.items)

  abbrev program : Program
  program = record { parts = g.parts; main = g.main; modes = g.modes }

  drafted_is : (c : Compiled) → c.index ≡ a.func → c.func ≡ f → c.body ≡ body → IsCompiled (setting_in g) program c → with_function c.frame (c.index == g.main) (Some c.body) (no_lines (gives_of g.parts c.func)) ≡ whole a.frame
  drafted_is c index func its made =
      let framed_so : frame_of g.parts g.modes f ≡ Ok c.frame = subst (λ (z : FuncTy). frame_of g.parts g.modes z ≡ Ok c.frame) func made.framed in
      ap (λ (n : ℕ). with_function c.frame (n == g.main) (Some c.body) (no_lines (gives_of g.parts c.func))) index
      ∙ (ap (λ (b : Stmt). with_function c.frame (a.func == g.main) (Some b) (no_lines (gives_of g.parts c.func))) its
      ∙ (ap (λ (z : FuncTy). with_function c.frame (a.func == g.main) (Some body) (no_lines (gives_of g.parts z))) func
      ∙ sym (ap (λ (z : Framed). whole z) (same_frame c.frame framed_so))))

  compiled : (c : Compiled) × (c.index ≡ a.func) × (c.func ≡ f) × (c.body ≡ body) × IsCompiled (setting_in g) program c
  compiled = programs_are_compiled program names g.code g.place a.func f body h.code h.program.unit few_symbols h.function is

  pub few : HasFewLabels g a f body
  few = let made = compiled in subst (λ (d : Drafted). d.labels ≤ 2 ^ 32) (drafted_is made.0 made.1 made.2 made.3 made.4) made.4.few

  pub lines_are : lines_of g a ≡ (whole a.frame).lines
  lines_are =
      let made = compiled in
      let number : a.symbol ≡ (laid program made.0).number = h.call.symbol ∙ sym (ap (λ (n : ℕ). (function_symbol (numbers_of g.parts) n).0) made.1) in
      ap (λ (n : ℕ). (setting_in g).lines n) number ∙ (made.4.lines ∙ ap (λ (d : Drafted). d.lines) (drafted_is made.0 made.1 made.2 made.3 made.4))

  well : IsBody (unit_in g) f body
  well = subst (λ (b : Option Stmt). HasBody (unit_in g) f b) is (has_body g names a f h a.func f h.function)

  -- each label has one place
  pub one_place : IsPlaced (lines_of g a)
  one_place = subst IsPlaced (sym lines_are) (segments_are_placed (whole a.frame).lines (functions_are_segments (unit_in g) f body a.frame (a.func == g.main) (gives_of g.parts f) well few))

  -- ---- its parts

  abbrev entry : List Line
  entry = entry_code a.frame

  abbrev middle : List Line
  middle = last_code a.frame (ways 0 0 0) 0 body (first_label body)

  abbrev end : List Line
  end = main_code ((a.func == g.main) && not (returns_last body)) ++ Label 0 ∷ end_code a.frame

  pub parts_are : lines_of g a ≡ entry ++ (middle ++ end)
  parts_are = lines_are ∙ functions_are_listed a.frame (a.func == g.main) body (gives_of g.parts f)

  parts : HasAt (lines_of g a) 0 entry × HasAt (lines_of g a) (length entry) (middle ++ end)
  parts =
      let all = parts_stand (lines_of g a) entry (middle ++ end) 0 (subst (HasAt (lines_of g a) 0) parts_are (all_stand (lines_of g a))) in
      (all.0, subst (λ (n : ℕ). HasAt (lines_of g a) n (middle ++ end)) (none_before (length entry)) all.1)

  pub entry_stands : HasAt (lines_of g a) 0 entry
  entry_stands = parts.0

  behind : HasAt (lines_of g a) (length entry) middle × HasAt (lines_of g a) (length entry + length middle) end
  behind = parts_stand (lines_of g a) middle end (length entry) parts.1

  pub body_stands : HasAt (lines_of g a) (length entry) middle
  body_stands = behind.0

  pub end_stands : HasAt (lines_of g a) (length entry + length middle) end
  end_stands = behind.1

  -- ---- jumps

  pub labels_few : first_label body + stmt_uses a.frame body ≤ 4294967296
  labels_few =
      let d : Drafted = with_lines (with_labels (room_of body) (with_labels 1 (no_lines (gives_of g.parts f)))) entry in
      let all : (with_last a.frame (ways 0 0 0) 0 body d).labels ≤ 4294967296 = few in
      let labels : (with_stmt a.frame (ways 0 0 0) 0 body d).labels ≡ first_label body + stmt_uses a.frame body = (statements_are_listed a.frame (ways 0 0 0) 0 body d).labels_are in
      let same : (with_last a.frame (ways 0 0 0) 0 body d).labels ≡ (with_stmt a.frame (ways 0 0 0) 0 body d).labels = last_labels a.frame (ways 0 0 0) 0 body d in
      omega (arith, all, labels, same)

  flat : (m : ℕ) (lines : List Line) → Flat lines → Quiet m lines
  flat m lines q = ap (list_all (is_other m)) (plain_targets lines q.plain)

  -- each jump to a label between 0 and the first one of statements is that of a `goto`
  pub gotos_count : (m i : ℕ) → 1 ≤ m → m < first_label body → slice_get (lines_of g a) i ≡ Some (jump Jmp m) → Contains (body_turns a.frame body) (GotoAt i)
  gotos_count m i some lt e = subst (λ (n : ℕ). Contains (body_turns a.frame body) (GotoAt n)) (none_before i) (counts i (ap (λ (ls : List Line). slice_get ls i) (sym parts_are) ∙ e))
    where
      none : 0 ≡ m → ⊥
      none z = omega (arith, z, some)

      inner : Counted m middle (length entry) (body_turns a.frame body)
      inner = last_jumps_count a.frame m none body (ways 0 0 0) 0 (first_label body) (length entry) lt none none labels_few

      quiet : Quiet m end
      quiet = quiet_both m (main_code ((a.func == g.main) && not (returns_last body))) (Label 0 ∷ end_code a.frame) (flat m (main_code ((a.func == g.main) && not (returns_last body))) (main_flat ((a.func == g.main) && not (returns_last body)))) (flat m (end_code a.frame) (end_flat a.frame))

      counts : Counted m (entry ++ (middle ++ end)) 0 (body_turns a.frame body)
      counts = counts_behind m entry (middle ++ end) 0 (body_turns a.frame body) (flat m entry (entry_flat a.frame)) (counts_before m middle end (0 + length entry) (body_turns a.frame body) (subst (λ (n : ℕ). Counted m middle n (body_turns a.frame body)) (sym (none_before (length entry))) inner) quiet)
