-- What comes next on the whole lines that a lexer holds, and what it answers.
use Rattle.std.proofs.Common.{◌≡◌, ℕ, ◌+◌, ◌-◌, ◌<◌, ◌≤◌, List, [], ◌∷◌, ◌++◌, length, length-drop, length-take, take, drop, append_assoc, append-nil, refl, sym, ap, ◌∙◌, subst, arith, Bool, true, false, ◌⊎◌, inl, inr, Option, Some, None, Ok, Err, min}
use Rattle.std.specs.Prelude.{◌||◌}
use Rattle.std.proofs.lemmas.Bool.{cases_lt}
use Rattle.c65_base.specs.declared.refusal.Refusal.{Refusal}
use Rattle.c65_base.specs.declared.refusal.Refusal.TheVariants.{OutOfMemory, At, TooLarge}
use Rattle.c65_base.specs.declared.refusal.Size.TheVariants.{Line}
use Rattle.c65_base.specs.declared.code.Code.TheVariants.{OpenComment}
use Rattle.c65_base.specs.Names.{RefusesName}
use Rattle.c65_lex.specs.declared.token.PpKind.{PpKind}
use Rattle.c65_lex.specs.declared.token.PpToken.{PpToken}
use Rattle.c65_lex.specs.Cells.{Cell, bytes}
use Rattle.c65_lex.specs.Next.{Next, ended, open_comment, long_line, token, is_any_long, IsNext, NeedsMemory}
use Rattle.c65_lex.proofs.Unique.{one_next}
use Rattle.c65_pieces.specs.declared.settled.Settled.{Settled}
use Rattle.c65_pieces.specs.declared.text.Edge.{Edge}
use Rattle.c65_pieces.specs.declared.text.Text.{Text}
use Rattle.c65_pieces.specs.declared.lexer.Lexed.TheVariants.{Token, More, End}
use Rattle.c65_pieces.specs.declared.lexer.Stop.TheVariants.{Over, Long, Wanting}
use Rattle.c65_pieces.specs.Settled.{as_cells, ahead}
use Rattle.c65_pieces.specs.Scanned.{opening}
use Rattle.c65_pieces.specs.Given.{ends, AreLines}
use Rattle.c65_pieces.specs.Lines.{is_sound, sound_lines, IsNextByLines}
use Rattle.c65_pieces.specs.Pieces.{Pieces, IsHeld, edge_if, seen, text_from, ahead_of, lines_of, is_too_long}
use Rattle.c65_pieces.specs.Answers.{Answer, IsNamed, IsWaiting, ComesByLines, AnswersLines, IsAnswered, stop_of}
use Rattle.c65_pieces.proofs.Settling.{cells_join}
use Rattle.c65_pieces.proofs.Sound.{any_join, sound_long, sound_join, sound_none, opening_short, not_long_next}
use Rattle.c65_pieces.proofs.ByLines.{token_by_lines, ended_by_lines, open_by_lines, long_by_lines, long_open_by_lines, opened_by_lines}
use Rattle.c65_pieces.proofs.Further.{next_token, not_ended}
use Rattle.c65_pieces.proofs.Opened.{next_opened}
use Rattle.c65_pieces.proofs.Ahead.{ahead_end}
use Rattle.c65_pieces.proofs.Held.{cells_length, lines_drop, short_drop, parts, opened_lines}

ahead_parts : (xs : List Settled) (at ready : ℕ) → at ≤ ready → ahead xs at ≡ ahead (take ready xs) at ++ as_cells (drop ready xs)
unfolding ahead
ahead_parts xs at ready h = ap as_cells (parts at ready xs h) ∙ cells_join (drop at (take ready xs)) (drop ready xs)

ahead_held : (xs : List Settled) (ready : ℕ) → ahead xs ready ≡ as_cells (drop ready xs)
unfolding ahead
ahead_held xs ready = refl

ahead_lines : (xs : List Settled) (at : ℕ) → AreLines (as_cells xs) → AreLines (ahead xs at)
unfolding ahead
ahead_lines xs at h = lines_drop at xs h

ahead_short : (xs : List Settled) (at : ℕ) → is_any_long (as_cells xs) ≡ false → is_any_long (ahead xs at) ≡ false
unfolding ahead
ahead_short xs at h = short_drop at xs h

drop_whole : (xs : List Settled) → drop (length xs) xs ≡ []
drop_whole [] = refl
drop_whole (x ∷ xs) = drop_whole xs

pub stop_over : (f l : Bool) → stop_of f l ≡ Over → (f ≡ true) × (l ≡ false)
stop_over true true e = absurd cc
stop_over true false e = (refl, refl)
stop_over false true e = absurd cc
stop_over false false e = absurd cc

pub stop_long : (f l : Bool) → stop_of f l ≡ Long → l ≡ true
stop_long f true e = refl
stop_long true false e = absurd cc
stop_long false false e = absurd cc

pub stop_wanting : (f l : Bool) → stop_of f l ≡ Wanting → (f ≡ false) × (l ≡ false)
stop_wanting true true e = absurd cc
stop_wanting true false e = absurd cc
stop_wanting false true e = absurd cc
stop_wanting false false e = (refl, refl)

module _ (file : ℕ) (comment : Option ℕ) (text : Text) (at : ℕ) (finished : Bool) (held : IsHeld text at finished) where
  abbrev pub lines : List Cell
  lines = opening comment ++ ahead (take text.ready text.settled.items) at

  abbrev pub beyond : List ℕ → List Cell
  beyond more = as_cells (drop text.ready text.settled.items) ++ text_from (edge_if finished text.edge) more

  lines_here : AreLines (ahead (take text.ready text.settled.items) at)
  lines_here = ahead_lines (take text.ready text.settled.items) at held.sorted.lines

  short_here : is_any_long (ahead (take text.ready text.settled.items) at) ≡ false
  short_here = ahead_short (take text.ready text.settled.items) at held.sorted.short

  short_lines : is_any_long lines ≡ false
  short_lines = any_join (opening comment) (ahead (take text.ready text.settled.items) at) ∙ rw (opening_short comment) short_here

  all_lines : AreLines lines
  all_lines = by (opened_lines comment (ahead (take text.ready text.settled.items) at) lines_here)
    where
      by : ((comment ≡ None) × (ahead (take text.ready text.settled.items) at ≡ [])) ⊎ (ends (bytes lines) ≡ true) → AreLines lines
      by (inl e) = inl (rw (e.0, e.1) refl)
      by (inr h) = inr h

  pub lines_are : lines_of (seen file comment text at finished) ≡ lines
  lines_are = ap (λ (cs : List Cell). opening comment ++ cs)
      (ap sound_lines (ahead_parts text.settled.items at text.ready held.place)
      ∙ sound_join (ahead (take text.ready text.settled.items) at) (as_cells (drop text.ready text.settled.items)) lines_here short_here
      ∙ ap (λ (cs : List Cell). ahead (take text.ready text.settled.items) at ++ cs) (sound_none (as_cells (drop text.ready text.settled.items)) held.sorted.held)
      ∙ append-nil (ahead (take text.ready text.settled.items) at))

  pub long_is : is_too_long (seen file comment text at finished) ≡ text.long
  long_is =
      ap is_any_long (ahead_parts text.settled.items at text.ready held.place)
      ∙ any_join (ahead (take text.ready text.settled.items) at) (as_cells (drop text.ready text.settled.items))
      ∙ ap (λ (t : Bool). t || is_any_long (as_cells (drop text.ready text.settled.items))) short_here
      ∙ held.sorted.long_is

  pub ahead_is : (more : List ℕ) → ahead_of (seen file comment text at finished) more ≡ lines ++ beyond more
  ahead_is more =
      ap (λ (cs : List Cell). opening comment ++ (cs ++ text_from (edge_if finished text.edge) more)) (ahead_parts text.settled.items at text.ready held.place)
      ∙ ap (λ (cs : List Cell). opening comment ++ cs) (append_assoc (ahead (take text.ready text.settled.items) at) (as_cells (drop text.ready text.settled.items)) (text_from (edge_if finished text.edge) more))
      ∙ sym (append_assoc (opening comment) (ahead (take text.ready text.settled.items) at) (beyond more))

  pub on_lines : (header : Bool) (next : Next) → IsNext header lines next → IsNext header (lines_of (seen file comment text at finished)) next
  on_lines header next n = subst (λ (cs : List Cell). IsNext header cs next) (sym lines_are) n

  end_here : (header : Bool) (next : Next) → IsNext header lines next → (lines ≡ []) → next ≡ ended
  end_here header next n e = one_next header lines next ended n (record { blanks = 0; cells = lines; behind = refl; stands = e })

  -- something other than the end comes next on lines
  pub lines_end : (header : Bool) (next : Next) → IsNext header lines next → (next ≡ ended → ⊥) → ends (bytes lines) ≡ true
  lines_end header next n d = by (opened_lines comment (ahead (take text.ready text.settled.items) at) lines_here)
    where
      by : ((comment ≡ None) × (ahead (take text.ready text.settled.items) at ≡ [])) ⊎ (ends (bytes lines) ≡ true) → ends (bytes lines) ≡ true
      by (inl e) = absurd (d (end_here header next n (rw (e.0, e.1) refl)))
      by (inr h) = h

  held_few : text.long ≡ false → length (as_cells (drop text.ready text.settled.items)) ≤ 32767
  held_few h =
      let c = held.sorted.counted h in
      let k : text.edge.column ≤ 32767 = c.0 in
      let m : length text.settled.items ≤ text.ready + text.edge.column = c.1 in
      let w = held.sorted.within in
      let d : length (drop text.ready text.settled.items) ≡ length text.settled.items - text.ready = length-drop text.ready text.settled.items in
      omega (arith, cells_length (drop text.ready text.settled.items))

  -- the end of the lines
  pub waits_here : (header : Bool) → IsNext header lines ended → text.long ≡ false → IsWaiting (seen file comment text at finished) (seen file comment text at finished)
  waits_here header n h = record {
    file_is = refl;
    edge_is = refl;
    few = by (opened_lines comment (ahead (take text.ready text.settled.items) at) lines_here);
    same = λ flag more next p. p;
    by_lines = λ flag more next p. p;
  }
    where
      by : ((comment ≡ None) × (ahead (take text.ready text.settled.items) at ≡ [])) ⊎ (ends (bytes lines) ≡ true) → length (ahead text.settled.items at) ≤ 32767
      by (inl e) = let f : ahead text.settled.items at ≡ as_cells (drop text.ready text.settled.items) = ahead_parts text.settled.items at text.ready held.place ∙ ap (λ (cs : List Cell). cs ++ as_cells (drop text.ready text.settled.items)) e.1 in rw f (held_few h)
      by (inr k) = absurd (not_ended header lines [] k n)

  open_not_end : (line : ℕ) → open_comment line ≡ ended → ⊥
  open_not_end line e = cc

  -- a comment goes on behind the lines
  pub waits_open : (header : Bool) (line : ℕ) → IsNext header lines (open_comment line) → text.long ≡ false → IsWaiting (seen file comment text at finished) (seen file (Some line) text text.ready finished)
  waits_open header line n h =
      let k = lines_end header (open_comment line) n (open_not_end line) in
      let f = ahead_held text.settled.items text.ready in
      record {
        file_is = refl;
        edge_is = refl;
        few = rw f (held_few h);
        same = λ flag more next p.
            let q : IsNext flag (opening (Some line) ++ beyond more) next = subst (λ (cs : List Cell). IsNext flag (opening (Some line) ++ (cs ++ text_from (edge_if finished text.edge) more)) next) f p in
            subst (λ (cs : List Cell). IsNext flag cs next) (sym (ahead_is more)) (next_opened flag lines (beyond more) k line (record { blanks = n.blanks; cells = n.cells; behind = n.behind; stands = n.stands }) next q);
        by_lines = λ flag more next p.
            let q : IsNextByLines flag (opening (Some line) ++ beyond more) next = subst (λ (cs : List Cell). IsNextByLines flag (opening (Some line) ++ (cs ++ text_from (edge_if finished text.edge) more)) next) f p in
            subst (λ (cs : List Cell). IsNextByLines flag cs next) (sym (ahead_is more)) (opened_by_lines flag lines (beyond more) k short_lines line (record { blanks = n.blanks; cells = n.cells; behind = n.behind; stands = n.stands }) next q);
      }

  token_not_end : (kind : PpKind) (spelling : List ℕ) (line : ℕ) (space : Bool) (rest : List Cell) → token kind spelling line space rest ≡ ended → ⊥
  token_not_end kind spelling line space rest e = cc

  length_lines : length (take text.ready text.settled.items) ≡ text.ready
  length_lines = let w = held.sorted.within in omega (arith, length-take text.ready text.settled.items)

  rest_within : (rest : ℕ) → ahead (take text.ready text.settled.items) (min rest text.ready) ≡ ahead (take text.ready text.settled.items) rest
  rest_within rest = by (cases_lt rest text.ready)
    where
      by : (rest < text.ready) ⊎ (text.ready ≤ rest) → ahead (take text.ready text.settled.items) (min rest text.ready) ≡ ahead (take text.ready text.settled.items) rest
      by (inl h) = let e : min rest text.ready ≡ rest = omega arith in rw e refl
      by (inr h) = let e : min rest text.ready ≡ text.ready = omega arith in rw e (ahead_end (take text.ready text.settled.items) text.ready (omega (arith, length_lines)) ∙ sym (ahead_end (take text.ready text.settled.items) rest (omega (arith, length_lines))))

  rest_is : (rest : ℕ) (more : List ℕ) → ahead_of (seen file None text (min rest text.ready) finished) more ≡ ahead (take text.ready text.settled.items) rest ++ beyond more
  rest_is rest more =
      let m : min rest text.ready ≤ text.ready = omega arith in
      ap (λ (cs : List Cell). cs ++ text_from (edge_if finished text.edge) more) (ahead_parts text.settled.items (min rest text.ready) text.ready m ∙ ap (λ (cs : List Cell). cs ++ as_cells (drop text.ready text.settled.items)) (rest_within rest))
      ∙ append_assoc (ahead (take text.ready text.settled.items) rest) (as_cells (drop text.ready text.settled.items)) (text_from (edge_if finished text.edge) more)

  -- a token
  pub given_next : (header : Bool) (kind : PpKind) (spelling : List ℕ) (line : ℕ) (space : Bool) (rest : ℕ) → IsNext header lines (token kind spelling line space (ahead (take text.ready text.settled.items) rest)) → (more : List ℕ) → IsNext header (ahead_of (seen file comment text at finished) more) (token kind spelling line space (ahead_of (seen file None text (min rest text.ready) finished) more))
  given_next header kind spelling line space rest n more =
      let k = lines_end header _ n (token_not_end kind spelling line space (ahead (take text.ready text.settled.items) rest)) in
      let t = next_token header lines (beyond more) k kind spelling line space (ahead (take text.ready text.settled.items) rest) n in
      subst (λ (cs : List Cell). IsNext header cs (token kind spelling line space (ahead_of (seen file None text (min rest text.ready) finished) more))) (sym (ahead_is more))
      (subst (λ (cs : List Cell). IsNext header (lines ++ beyond more) (token kind spelling line space cs)) (sym (rest_is rest more)) t)

  pub given_by_lines : (header : Bool) (kind : PpKind) (spelling : List ℕ) (line : ℕ) (space : Bool) (rest : ℕ) → IsNext header lines (token kind spelling line space (ahead (take text.ready text.settled.items) rest)) → (more : List ℕ) → IsNextByLines header (ahead_of (seen file comment text at finished) more) (token kind spelling line space (ahead_of (seen file None text (min rest text.ready) finished) more))
  given_by_lines header kind spelling line space rest n more =
      let k = lines_end header _ n (token_not_end kind spelling line space (ahead (take text.ready text.settled.items) rest)) in
      let t = token_by_lines header lines (beyond more) all_lines short_lines k kind spelling line space (ahead (take text.ready text.settled.items) rest) n in
      subst (λ (cs : List Cell). IsNextByLines header cs (token kind spelling line space (ahead_of (seen file None text (min rest text.ready) finished) more))) (sym (ahead_is more))
      (subst (λ (cs : List Cell). IsNextByLines header (lines ++ beyond more) (token kind spelling line space cs)) (sym (rest_is rest more)) t)

  -- the line that is held is too long
  long_beyond : text.long ≡ true → (more : List ℕ) → is_any_long (beyond more) ≡ true
  long_beyond h more = any_join (as_cells (drop text.ready text.settled.items)) (text_from (edge_if finished text.edge) more) ∙ rw (held.sorted.long_is, h) refl

  held_beyond : text.long ≡ true → (more : List ℕ) → is_sound (beyond more) ≡ false
  held_beyond h more = sound_long (as_cells (drop text.ready text.settled.items)) (text_from (edge_if finished text.edge) more) (held.sorted.long_is ∙ h) held.sorted.held

  -- nothing follows the lines of a text that was finished
  none_beyond : finished ≡ true → text.long ≡ false → (more : List ℕ) → beyond more ≡ []
  none_beyond f h more =
      let r : drop text.ready text.settled.items ≡ [] = ap (λ (n : ℕ). drop n text.settled.items) (held.over f h) ∙ drop_whole text.settled.items in
      ap (λ (xs : List Settled). as_cells xs ++ text_from (edge_if finished text.edge) more) r ∙ ap (λ (t : Bool). text_from (edge_if t text.edge) more) f

  on_text : (header : Bool) (next : Next) (more : List ℕ) → IsNextByLines header (lines ++ beyond more) next → IsNextByLines header (ahead_of (seen file comment text at finished) more) next
  on_text header next more p = subst (λ (cs : List Cell). IsNextByLines header cs next) (sym (ahead_is more)) p

  whole_text : (header : Bool) (next : Next) → IsNext header lines next → finished ≡ true → text.long ≡ false → (more : List ℕ) → IsNext header (ahead_of (seen file comment text at finished) more) next
  whole_text header next n f h more = subst (λ (cs : List Cell). IsNext header cs next) (sym (ahead_is more ∙ ap (λ (cs : List Cell). lines ++ cs) (none_beyond f h more) ∙ append-nil lines)) n

  ended_text : (header : Bool) → IsNext header lines ended → finished ≡ true → text.long ≡ false → ComesByLines header (seen file comment text at finished) ended
  ended_text header n f h more = let e = none_beyond f h more in on_text header ended more (ended_by_lines header lines (beyond more) all_lines short_lines (ap is_sound e) (ap is_any_long e) n)

  open_text : (header : Bool) (line : ℕ) → IsNext header lines (open_comment line) → finished ≡ true → text.long ≡ false → ComesByLines header (seen file comment text at finished) (open_comment line)
  open_text header line n f h more = let e = none_beyond f h more in on_text header (open_comment line) more (open_by_lines header lines (beyond more) all_lines short_lines (ap is_sound e) (ap is_any_long e) line n)

  long_text : (header : Bool) → IsNext header lines ended → text.long ≡ true → ComesByLines header (seen file comment text at finished) long_line
  long_text header n h more = on_text header long_line more (long_by_lines header lines (beyond more) all_lines short_lines (held_beyond h more) (long_beyond h more) n)

  long_open_text : (header : Bool) (line : ℕ) → IsNext header lines (open_comment line) → text.long ≡ true → ComesByLines header (seen file comment text at finished) long_line
  long_open_text header line n h more = on_text header long_line more (long_open_by_lines header lines (beyond more) all_lines short_lines (held_beyond h more) (long_beyond h more) line n)

  pub over_lines : (header : Bool) (names : List (List ℕ)) (next : Next) (answer : Answer) → (finished ≡ true) × (text.long ≡ false) → IsNext header lines next → ComesByLines header (seen file comment text at finished) next → AnswersLines header (is_too_long (seen file comment text at finished)) (edge_if finished text.edge) next answer (seen file comment text at finished) names answer (seen file comment text at finished) names
  over_lines header names next answer (f, h) n c =
      let P : Bool → Option Edge → Type 0 = λ t o. AnswersLines header t o next answer (seen file comment text at finished) names answer (seen file comment text at finished) names in
      subst (λ (t : Bool). P t (edge_if finished text.edge)) (sym (long_is ∙ h)) (subst (P false) (sym (ap (λ (t : Bool). edge_if t text.edge) f)) (refl, (refl, refl), whole_text header next n f h, c))

  pub long_lines : (header : Bool) (names : List (List ℕ)) (next : Next) (answer : Answer) → text.long ≡ true → ComesByLines header (seen file comment text at finished) long_line → AnswersLines header (is_too_long (seen file comment text at finished)) (edge_if finished text.edge) next answer (seen file comment text at finished) names (Err (TooLarge Line 32768)) (seen file comment text at finished) names
  long_lines header names next answer h c =
      let P : Bool → Type 0 = λ t. AnswersLines header t (edge_if finished text.edge) next answer (seen file comment text at finished) names (Err (TooLarge Line 32768)) (seen file comment text at finished) names in
      subst P (sym (long_is ∙ h)) (refl, (refl, refl), c)

  pub wanting_lines : (header : Bool) (names : List (List ℕ)) (next : Next) (answer : Answer) (new : Pieces) → (finished ≡ false) × (text.long ≡ false) → IsWaiting (seen file comment text at finished) new → AnswersLines header (is_too_long (seen file comment text at finished)) (edge_if finished text.edge) next answer (seen file comment text at finished) names (Ok More) new names
  wanting_lines header names next answer new (f, h) w =
      let P : Bool → Option Edge → Type 0 = λ t o. AnswersLines header t o next answer (seen file comment text at finished) names (Ok More) new names in
      subst (λ (t : Bool). P t (edge_if finished text.edge)) (sym (long_is ∙ h)) (subst (P false) (sym (ap (λ (t : Bool). edge_if t text.edge) f)) (refl, w, refl))

  -- the answers where no token is left
  pub ended_over : (header : Bool) (names : List (List ℕ)) → IsNext header lines ended → stop_of finished text.long ≡ Over → IsAnswered header (seen file comment text at finished) names (Ok End) (seen file comment text at finished) names
  ended_over header names n s =
      let k = stop_over finished text.long s in
      (ended, on_lines header ended n, over_lines header names ended (Ok End) k n (ended_text header n k.0 k.1))

  pub ended_long : (header : Bool) (names : List (List ℕ)) → IsNext header lines ended → stop_of finished text.long ≡ Long → IsAnswered header (seen file comment text at finished) names (Err (TooLarge Line 32768)) (seen file comment text at finished) names
  ended_long header names n s =
      let k = stop_long finished text.long s in
      (ended, on_lines header ended n, long_lines header names ended (Ok End) k (long_text header n k))

  pub ended_wanting : (header : Bool) (names : List (List ℕ)) → IsNext header lines ended → stop_of finished text.long ≡ Wanting → IsAnswered header (seen file comment text at finished) names (Ok More) (seen file comment text at finished) names
  ended_wanting header names n s =
      let k = stop_wanting finished text.long s in
      (ended, on_lines header ended n, wanting_lines header names ended (Ok End) (seen file comment text at finished) k (waits_here header n k.1))

  pub open_over : (header : Bool) (names : List (List ℕ)) (line : ℕ) → IsNext header lines (open_comment line) → stop_of finished text.long ≡ Over → IsAnswered header (seen file comment text at finished) names (Err (At OpenComment (record { file = file; line = line }))) (seen file comment text at finished) names
  open_over header names line n s =
      let k = stop_over finished text.long s in
      (open_comment line, on_lines header (open_comment line) n, over_lines header names (open_comment line) (Err (At OpenComment (record { file = file; line = line }))) k n (open_text header line n k.0 k.1))

  pub open_long : (header : Bool) (names : List (List ℕ)) (line : ℕ) → IsNext header lines (open_comment line) → stop_of finished text.long ≡ Long → IsAnswered header (seen file comment text at finished) names (Err (TooLarge Line 32768)) (seen file comment text at finished) names
  open_long header names line n s =
      let k = stop_long finished text.long s in
      (open_comment line, on_lines header (open_comment line) n, long_lines header names (open_comment line) (Err (At OpenComment (record { file = file; line = line }))) k (long_open_text header line n k))

  pub open_wanting : (header : Bool) (names : List (List ℕ)) (line : ℕ) → IsNext header lines (open_comment line) → stop_of finished text.long ≡ Wanting → IsAnswered header (seen file comment text at finished) names (Ok More) (seen file (Some line) text text.ready finished) names
  open_wanting header names line n s =
      let k = stop_wanting finished text.long s in
      (open_comment line, on_lines header (open_comment line) n, wanting_lines header names (open_comment line) (Err (At OpenComment (record { file = file; line = line }))) (seen file (Some line) text text.ready finished) k (waits_open header line n k.1))

  -- none of the lines is too long
  pub never_long : (header : Bool) → IsNext header lines long_line → ⊥
  never_long header n = not_long_next header lines short_lines n

  pub memory_answer : (header : Bool) (names : List (List ℕ)) → NeedsMemory header lines → IsAnswered header (seen file comment text at finished) names (Err OutOfMemory) (seen file comment text at finished) names
  memory_answer header names (ended, n, t) = absurd t
  memory_answer header names (open_comment line, n, t) = absurd t
  memory_answer header names (long_line, n, t) = absurd (never_long header n)
  memory_answer header names (token kind spelling line space rest, n, t) = (token kind spelling line space rest, on_lines header _ n, (inl refl, (refl, refl)))

  pub name_answer : (header : Bool) (names after : List (List ℕ)) (kind : PpKind) (spelling : List ℕ) (line : ℕ) (space : Bool) (rest : List Cell) (refusal : Refusal) → IsNext header lines (token kind spelling line space rest) → RefusesName names spelling refusal → after ≡ names → IsAnswered header (seen file comment text at finished) names (Err refusal) (seen file comment text at finished) after
  name_answer header names after kind spelling line space rest refusal n r e = (token kind spelling line space rest, on_lines header _ n, (inr r, (refl, e)))

  pub token_answer : (header : Bool) (names after : List (List ℕ)) (kind : PpKind) (spelling : List ℕ) (line : ℕ) (space : Bool) (rest : ℕ) (given : PpToken) → IsNext header lines (token kind spelling line space (ahead (take text.ready text.settled.items) rest)) → IsNamed file names kind spelling line space given after → IsAnswered header (seen file comment text at finished) names (Ok (Token given)) (seen file None text (min rest text.ready) finished) after
  token_answer header names after kind spelling line space rest given n m =
      (token kind spelling line space (ahead (take text.ready text.settled.items) rest), on_lines header _ n, record { named = m; file_is = refl; edge_is = refl; next = given_next header kind spelling line space rest n; by_lines = given_by_lines header kind spelling line space rest n })

-- the same, where the lines are read through a slice
module _ (file : ℕ) (comment : Option ℕ) (text : Text) (at : ℕ) (finished : Bool) (held : IsHeld text at finished) (xs : List Settled) (is : xs ≡ text.settled.items) where
  pub through : (header : Bool) (next : Next) → IsNext header (opening comment ++ ahead (take text.ready xs) at) next → IsNext header (lines file comment text at finished held) next
  through header next n = subst (λ (ys : List Settled). IsNext header (opening comment ++ ahead (take text.ready ys) at) next) is n

  pub through_token : (header : Bool) (kind : PpKind) (spelling : List ℕ) (line : ℕ) (space : Bool) (rest : ℕ) → IsNext header (opening comment ++ ahead (take text.ready xs) at) (token kind spelling line space (ahead (take text.ready xs) rest)) → IsNext header (lines file comment text at finished held) (token kind spelling line space (ahead (take text.ready text.settled.items) rest))
  through_token header kind spelling line space rest n = subst (λ (ys : List Settled). IsNext header (opening comment ++ ahead (take text.ready ys) at) (token kind spelling line space (ahead (take text.ready ys) rest))) is n

  pub through_memory : (header : Bool) → NeedsMemory header (opening comment ++ ahead (take text.ready xs) at) → NeedsMemory header (lines file comment text at finished held)
  through_memory header n = subst (λ (ys : List Settled). NeedsMemory header (opening comment ++ ahead (take text.ready ys) at)) is n
