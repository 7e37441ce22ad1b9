-- Lines to which no run comes.
use Rattle.std.proofs.Common.{◌≡◌, ℕ, zero, suc, ◌+◌, ◌<◌, ◌≤◌, ◌&&◌, not, Bool, true, false, if◌then◌else◌, List, [], ◌∷◌, ◌++◌, length, Option, Some, None, append_assoc, refl, sym, subst, ap, ◌∙◌, arith}
use Rattle.std.specs.Prelude.{slice_get, take, drop}
use Rattle.std.proofs.lemmas.Bool.{and_parts}
use Rattle.std.proofs.lemmas.List.{drop-drop, length-drop, length-take-le}
use Rattle.c65_mach.specs.State.{Regs}
use Rattle.c65_mach.specs.declared.rows.Op.{Op}
use Rattle.c65_mach.specs.declared.rows.Op.TheVariants as ops
use Rattle.c65_mach.specs.declared.rows.Mode.TheVariants.{Relative}
use Rattle.c65_mach.specs.Step.{is_taken}
use Rattle.c65_code.specs.declared.line.Line.{Line}
use Rattle.c65_code.specs.declared.line.Line.TheVariants.{Label, Do, Call}
use Rattle.c65_code.specs.declared.line.Operand.TheVariants.{To, Zero}
use Rattle.c65_code.specs.declared.line.Sym.{Sym}
use Rattle.c65_code.specs.declared.parts.RegSet.{RegSet}
use Rattle.c65_code.specs.Follows.{Follows}
use Rattle.c65_code.specs.Forms.{Form, Branch, IsLocal, form_of}
use Rattle.c65_code.specs.LineState.{State, IsBytes}
use Rattle.c65_code.specs.Moves.{settle, labelled, next, Does}
use Rattle.c65_code.specs.Placement.{Setting}
use Rattle.c65_code.specs.Rewriting.{with_lines, mapped_in}
use Rattle.c65_code.specs.Segments.{IsSegment, is_fit, is_closing, target_of}
use Rattle.c65_know.specs.declared.note.Note.{Note}
use Rattle.c65_know.specs.Known.{annotated, known_of}
use Rattle.c65_know_law.proofs.HandedOn.{handed_on}
use Rattle.c65_know_law.specs.Laws.{IsCall, Knows, IsHandedOn}
use Rattle.c65_know_law.specs.Truth.{IsTrueOf}
use Rattle.c65_live.specs.Tables.{Table, IsLiveTable, live_after}
use Rattle.c65_pass.specs.FlowRules.{alone_if, begins_plainly, goes_on_plainly, is_taken as is_shown_taken}
use Rattle.c65_pass.specs.Labels.{is_label}
use Rattle.c65_pass.specs.Rewriting.{Rewriting, rewritten}
use Rattle.c65_pass.specs.Rules.{match_at}
use Rattle.c65_opt_law_table.proofs.Tables.{live_tables_are_closed}
use Rattle.c65_opt_law_follow.specs.Laws.{IsSound, IsApt, window}
use Rattle.c65_opt_law_follow.proofs.Walks.{IsInstruction}
use Rattle.c65_opt_law_follow.proofs.Tables.{Ways, on_next, to_label, one_of, ways}
use Rattle.c65_opt_law_follow.proofs.Lists.{AreInstructions}
use Rattle.c65_opt_law_follow.proofs.Rewriting.{whole, parted, branch_by, sound_here, unreached_follow}
use Rattle.c65_opt_law_kept.specs.Laws.{IsFollowedBy, RuleIsFollowed}
use Rattle.c65_opt_law_jumps.proofs.Branches.{branch_form, taken_shown}
use Rattle.c65_opt_law_jumps.proofs.Jumps.{at_line, get_at, fit_line}
use Rattle.c65_opt_law_jumps.proofs.Labels.{settle_only, label_apart}

-- two lines of a function of which the second is reached from the first alone, if at all
module _ (f main : ℕ) (out : RegSet) (lines : List Line) (table : Table) (at : ℕ) (line next_line : Line) (post : List Line) (e : drop at lines ≡ line ∷ next_line ∷ post) (first : IsInstruction line) (second : IsInstruction next_line)
    (is : IsLiveTable lines out table) (no_call : IsCall (form_of line) → ⊥)
    (never : (t : State) → t.ended ≡ None → IsTrueOf (slice_get (known_of lines) at) t → IsLocal (form_of line) → next lines (form_of line) at t.regs ≡ suc at → ⊥) where
  here : slice_get lines at ≡ Some line
  here = get_at lines at line (next_line ∷ post) e

  rest : drop (suc at) lines ≡ next_line ∷ post
  rest = let n : at + 1 ≡ suc at = omega arith in ap (λ (k : ℕ). drop k lines) (sym n) ∙ (sym (drop-drop 1 at lines) ∙ ap (drop 1) e)

  there : slice_get lines (suc at) ≡ Some next_line
  there = get_at lines (suc at) next_line post rest

  same_line : (k l : Line) → Some k ≡ Some l → k ≡ l
  same_line k l h = cc

  -- what is known before each line, and that no run stands at the second one
  abbrev Reached : ℕ → State → Type 0
  Reached q t = Knows lines q t × (q ≡ suc at → ⊥)

  not_labelled : (k : ℕ) → settle lines (labelled lines k) ≡ suc at → ⊥
  not_labelled k h = label_apart lines k (suc at) next_line there second (settle_only lines (labelled lines k) at line here first h)

  only_here : (q : ℕ) (l : Line) (regs : Regs) → slice_get lines q ≡ Some l → IsLocal (form_of l) → next lines (form_of l) q regs ≡ suc at → q ≡ at
  only_here q l regs h i n = by (ways l i)
    where
      onward : settle lines (suc q) ≡ suc at → q ≡ at
      onward k = omega (arith, settle_only lines (suc q) at line here first k)

      by : Ways l → q ≡ at
      by (on_next still to) = onward (sym (to lines q regs) ∙ n)
      by (to_label k target to) = absurd (not_labelled k (sym (to lines q regs) ∙ n))
      by (one_of op k form still target) = turn (is_taken op regs) refl
        where
          turn : (b : Bool) → is_taken op regs ≡ b → q ≡ at
          turn true z = absurd (not_labelled k (sym (branch_by lines l op k q regs true form z) ∙ n))
          turn false z = onward (sym (branch_by lines l op k q regs false form z) ∙ n)

  reached : (s : Setting) → IsApt f out (with_lines s f lines) → IsHandedOn s.place lines Reached
  reached s apt = record {
    entry = λ t. (notes.entry t, λ h. absurd (omega (arith, settle_only lines 0 at line here first h)));
    behind_call = λ q l t h i. (notes.behind_call q l t h i, λ k. behind q l h i (settle_only lines (suc q) at line here first k));
    line = λ q l t u h i bytes running does k. (notes.line q l t u h i bytes running does k.0, λ n. stopped q l t h i running k.0 n (only_here q l t.regs h i n));
    back = λ q k l u h target le. (notes.back q k l u h target le, λ n. not_labelled k n);
  }
    where
      notes : IsHandedOn s.place lines (Knows lines)
      notes = handed_on s.place lines (sound_here s f lines out apt).fit

      behind : (q : ℕ) (l : Line) → slice_get lines q ≡ Some l → IsCall (form_of l) → suc q ≡ suc at → ⊥
      behind q l h i k =
          let q_is : q ≡ at = omega (arith, k) in
          let l_is : l ≡ line = same_line l line (sym h ∙ (ap (slice_get lines) q_is ∙ here)) in
          no_call (subst (λ (x : Line). IsCall (form_of x)) l_is i)

      stopped : (q : ℕ) (l : Line) (t : State) → slice_get lines q ≡ Some l → IsLocal (form_of l) → t.ended ≡ None → Knows lines q t → next lines (form_of l) q t.regs ≡ suc at → q ≡ at → ⊥
      stopped q l t h i running k n q_is =
          let l_is : l ≡ line = same_line l line (sym h ∙ (ap (slice_get lines) q_is ∙ here)) in
          never t running (subst (λ (x : ℕ). IsTrueOf (slice_get (known_of lines) x) t) q_is (k running)) (subst (λ (x : Line). IsLocal (form_of x)) l_is i)
          (subst (λ (x : Line). next lines (form_of x) at t.regs ≡ suc at) l_is (subst (λ (x : ℕ). next lines (form_of l) x t.regs ≡ suc at) q_is n))

  pub goes : 1 ≤ length (take (suc at) lines ++ drop (suc at + 1) lines) → IsFollowedBy f main out lines (take (suc at) lines ++ drop (suc at + 1) lines)
  goes more =
      let old : window lines (suc at) 1 ≡ next_line ∷ [] = ap (take 1) rest in
      let same : whole (take (suc at) lines) (window lines (suc at) 1) (drop (suc at + 1) lines) ≡ lines = parted lines (suc at) 1 in
      let long : length (take (suc at) lines) ≡ suc at = length-take-le (suc at) lines (omega (arith, ap length e, length-drop at lines)) in
      let done = unreached_follow f main out (take (suc at) lines) (window lines (suc at) 1) [] (drop (suc at + 1) lines) (live_after table) (λ q t. Knows lines q t × (q ≡ suc at → ⊥))
      (subst (λ (x : List Line). 1 ≤ length x) (sym old) (omega arith)) more (subst AreInstructions (sym old) (second, tt)) tt
      (live_tables_are_closed (whole (take (suc at) lines) (window lines (suc at) 1) (drop (suc at + 1) lines)) out table (subst (λ (x : List Line). IsLiveTable x out table) (sym same) is)) (λ t k. k.1 long) in
      record {
        map = done.0;
        more = 0;
        follows = λ s apt. subst (λ (x : List Line). Follows (mapped_in f done.0) 0 (with_lines s f x) (with_lines s f (take (suc at) lines ++ drop (suc at + 1) lines)) main) same
            (done.1 s (subst (λ (x : List Line). IsApt f out (with_lines s f x)) (sym same) apt) (subst (λ (x : List Line). IsHandedOn s.place x (λ q t. Knows lines q t × (q ≡ suc at → ⊥))) (sym same) (reached s apt)));
      }

-- ---- the rules

take_one : (lines : List Line) (at : ℕ) (line : Line) (post : List Line) → drop at lines ≡ line ∷ post → take (suc at) lines ≡ take at lines ++ (line ∷ [])
take_one [] zero line post e = absurd cc
take_one [] (suc at) line post e = absurd cc
take_one (l ∷ lines) zero line post e = let same : l ≡ line = cc in ap (λ (x : Line). x ∷ []) same
take_one (l ∷ lines) (suc at) line post e = ap (λ (x : List Line). l ∷ x) (take_one lines at line post e)

alone_is : (b : Bool) (at : ℕ) (line : Line) (w : Rewriting) → alone_if b at line ≡ Some w → (b ≡ true) × (record { at = at; count = 2; lines = line ∷ [] } ≡ w)
alone_is false at line w m = absurd cc
alone_is true at line w m = (refl, cc)

plain_line : (line : Line) → not (is_label line) ≡ true → IsInstruction line
plain_line (Label k) h = absurd cc
plain_line (Do op mode operand) h = tt
plain_line (Call callee) h = tt

closing_plain : (line : Line) → is_closing line ≡ true → IsInstruction line
closing_plain (Label k) h = absurd cc
closing_plain (Do op mode operand) h = tt
closing_plain (Call callee) h = absurd cc

closing_no_call : (line : Line) → is_closing line ≡ true → IsCall (form_of line) → ⊥
closing_no_call (Do ops.Rts mode operand) h i = i
closing_no_call (Do ops.Jmp mode (To l)) h i = i
closing_no_call (Do ops.Jmp mode (Zero j)) h i = i
closing_no_call (Do ops.Jmp mode _) h i = i
closing_no_call _ h i = absurd cc

-- behind a line that closes its lines nothing comes
closing_leads : (line : Line) → is_closing line ≡ true → IsLocal (form_of line) → (k : ℕ) × ((lines : List Line) (q : ℕ) (regs : Regs) → next lines (form_of line) q regs ≡ settle lines (labelled lines k))
closing_leads line h i = by (ways line i)
  where
    clash : is_closing line ≡ false → ⊥
    clash k = both (is_closing line) h k
      where
        both : (b : Bool) → b ≡ true → b ≡ false → ⊥
        both b h k = cc

    by : Ways line → (k : ℕ) × ((lines : List Line) (q : ℕ) (regs : Regs) → next lines (form_of line) q regs ≡ settle lines (labelled lines k))
    by (on_next still to) = absurd (clash still)
    by (to_label k target to) = (k, to)
    by (one_of op k form still target) = absurd (clash still)

taken_line : (known : Option Note) (line : Line) → is_fit line ≡ true → is_shown_taken known line ≡ true → (op : Op) × (l : ℕ) × (form_of line ≡ Branch op l) × IsInstruction line × ((t : State) → IsTrueOf known t → is_taken op t.regs ≡ true)
taken_line known (Do op Relative (To l)) fit h = (op, l, branch_form op l fit, tt, λ t k. taken_shown op known t h k)
taken_line known _ fit h = absurd cc

-- lines whose first one is no label
abbrev BeginsPlainly : List Line → Type 0
BeginsPlainly post = (first : Line) × (later : List Line) × (post ≡ first ∷ later) × IsInstruction first

begins : (post : List Line) → begins_plainly post ≡ true → BeginsPlainly post
begins [] h = absurd cc
begins (first ∷ later) h = (first, later, refl, plain_line first h)

goes_on : (post : List Line) → goes_on_plainly post ≡ true → BeginsPlainly post
goes_on [] h = absurd cc
goes_on (first ∷ []) h = absurd cc
goes_on (first ∷ next_line ∷ later) h = (first, next_line ∷ later, refl, plain_line first h)

module _ (f main : ℕ) (out : RegSet) (literals : List (Sym × List ℕ)) (lines : List Line) (table : Table) (at : ℕ) (w : Rewriting) (segment : IsSegment lines) (is : IsLiveTable lines out table)
    (more : 1 ≤ length (rewritten lines w)) where
  second_line : (line next_line : Line) (later : List Line) → drop at lines ≡ line ∷ next_line ∷ later → slice_get lines (suc at) ≡ Some next_line
  second_line line next_line later e = get_at lines (suc at) next_line later (let n : at + 1 ≡ suc at = omega arith in ap (λ (k : ℕ). drop k lines) (sym n) ∙ (sym (drop-drop 1 at lines) ∙ ap (drop 1) e))

  -- the line behind one goes, where no run comes to it
  behind_goes : (line : Line) (post : List Line) (b c : Bool) → drop at lines ≡ line ∷ post → alone_if (b && c) at line ≡ Some w → (c ≡ true → BeginsPlainly post)
      → (b ≡ true → IsInstruction line × (IsCall (form_of line) → ⊥) × ((t : State) → t.ended ≡ None → IsTrueOf (slice_get (known_of lines) at) t → IsLocal (form_of line) → (k : ℕ) × (next lines (form_of line) at t.regs ≡ settle lines (labelled lines k))))
      → IsFollowedBy f main out lines (rewritten lines w)
  behind_goes line post b c e k begins facts =
      let made = alone_is (b && c) at line w k in
      let both = and_parts b c made.0 in
      let fact = facts both.0 in
      let second = begins both.1 in
      let e2 : drop at lines ≡ line ∷ second.0 ∷ second.1 = e ∙ ap (λ (x : List Line). line ∷ x) second.2 in
      let gone : take (suc at) lines ++ drop (suc at + 1) lines ≡ rewritten lines w =
      ap (λ (x : List Line). x ++ drop (suc at + 1) lines) (take_one lines at line post e) ∙ (append_assoc (take at lines) (line ∷ []) (drop (suc at + 1) lines)
      ∙ (ap (λ (n : ℕ). take at lines ++ (line ∷ drop n lines)) (let n : suc at + 1 ≡ at + 2 = omega arith in n) ∙ ap (rewritten lines) made.1)) in
      subst (λ (x : List Line). IsFollowedBy f main out lines x) gone
      (goes f main out lines table at line second.0 second.1 e2 fact.0 second.3 is fact.1
      (λ t running known local n. let leads = fact.2 t running known local in label_apart lines leads.0 (suc at) second.0 (second_line line second.0 second.1 e2) second.3 (settle_only lines (labelled lines leads.0) at line (get_at lines at line post e) fact.0 (sym leads.1 ∙ n)))
      (subst (λ (x : List Line). 1 ≤ length x) (sym gone) more))

pub unreached_followed : RuleIsFollowed 3
unreached_followed f main out literals lines table at w segment is m sound more =
    at_line 3 out literals lines table at w (IsFollowedBy f main out lines (rewritten lines w)) (λ line post e k.
    behind_goes f main out literals lines table at w segment is more line post (is_closing line) (begins_plainly post) e k (begins post)
    (λ h. (closing_plain line h, closing_no_call line h, λ t running known local. let leads = closing_leads line h local in (leads.0, leads.1 lines at t.regs)))) m

pub passed_over_followed : RuleIsFollowed 9
passed_over_followed f main out literals lines table at w segment is m sound more =
    at_line 9 out literals lines table at w (IsFollowedBy f main out lines (rewritten lines w)) (λ line post e k.
    behind_goes f main out literals lines table at w segment is more line post (is_shown_taken (slice_get (known_of lines) at) line) (goes_on_plainly post) e k (goes_on post)
    (λ h. let b = taken_line (slice_get (known_of lines) at) line (fit_line lines at line post segment e) h in
    (b.3, (λ i. subst IsCall b.2 i), λ t running known local. (b.1, branch_by lines line b.0 b.1 at t.regs true b.2 (b.4 t known))))) m
