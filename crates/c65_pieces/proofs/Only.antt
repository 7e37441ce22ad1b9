-- What an answer says of the text.
use Rattle.std.proofs.Common.{◌≡◌, ℕ, List, [], ◌++◌, append-nil, refl, sym, ap, ◌∙◌, subst, Bool, true, false, inl, inr, Option, Some, None, Ok, Err, OnErr}
use Rattle.std.specs.Prelude.{◌||◌}
use Rattle.c65_base.specs.declared.refusal.Refusal.{Refusal}
use Rattle.c65_base.specs.declared.refusal.Refusal.TheVariants.{At}
use Rattle.c65_base.specs.declared.code.Code.TheVariants.{OpenComment}
use Rattle.c65_lex.specs.Cells.{Cell}
use Rattle.c65_lex.specs.Next.{Next, ended, open_comment, long_line, token, is_any_long, IsNext}
use Rattle.c65_lex.proofs.Unique.{one_next}
use Rattle.c65_pieces.specs.declared.text.Edge.{Edge}
use Rattle.c65_pieces.specs.declared.lexer.Lexed.TheVariants.{Token, More, End}
use Rattle.c65_pieces.specs.Scanned.{opening}
use Rattle.c65_pieces.specs.Lines.{sound_lines, behind_lines, unless_long, before_cells, IsNextByLines}
use Rattle.c65_pieces.specs.Pieces.{Pieces, IsOpen, TakesPiece, ahead_of, lines_of, text_from, is_too_long}
use Rattle.c65_pieces.specs.Answers.{IsWaiting, Answer, ComesByLines, AnswersLines, Answers, IsAnswered, HasNone, MayGoOn, IsKept}
use Rattle.c65_pieces.proofs.Sound.{any_join, sound_join, opening_short, opening_lines}

answers_as : (header : Bool) (old new : Pieces) (names after : List (List ℕ)) (a b : Answer) (next : Next) → a ≡ b → Answers header old names next a new after → Answers header old names next b new after
answers_as header old new names after a b next e q = subst (λ (x : Answer). Answers header old names next x new after) e q

pub only_for : (header : Bool) (old new : Pieces) (names after : List (List ℕ)) (r : Answer) → IsAnswered header old names r new after → (b : Next) → IsNext header (lines_of old) b → Answers header old names b r new after
only_for header old new names after r (a, p, q) b s = subst (λ (x : Next). Answers header old names x r new after) (one_next header (lines_of old) a b p s) q

not_more : (r : Answer) (x : Answer) → r ≡ x → r ≡ Ok More → x ≡ Ok More
not_more r x e f = sym e ∙ f

err_more : (e : Refusal) → (let r : Answer = Err e in r ≡ Ok More) → ⊥
err_more e f = cc

err_end : (e : Refusal) → (let r : Answer = Err e in r ≡ Ok End) → ⊥
err_end e f = cc

end_more : (let r : Answer = Ok End in r ≡ Ok More) → ⊥
end_more f = cc

more_end : (let r : Answer = Ok More in r ≡ Ok End) → ⊥
more_end f = cc

-- where no token is left, and the answer is that more bytes are wanted
lines_more : (header long : Bool) (edge : Option Edge) (next : Next) (finished : Answer) (old new : Pieces) (names after : List (List ℕ)) (r : Answer) → AnswersLines header long edge next finished old names r new after → r ≡ Ok More → (finished ≡ Ok More → ⊥) → IsOpen edge × (long ≡ false)
lines_more header true edge next finished old new names after r q e f = absurd (err_more _ (sym q.0 ∙ e))
lines_more header false None next finished old new names after r q e f = absurd (f (sym q.0 ∙ e))
lines_more header false (Some edge) next finished old new names after r q e f = (tt, refl)

waits : (header long : Bool) (edge : Option Edge) (next : Next) (finished : Answer) (old new : Pieces) (names after : List (List ℕ)) (r : Answer) → AnswersLines header long edge next finished old names r new after → r ≡ Ok More → (finished ≡ Ok More → ⊥) → IsWaiting old new
waits header true edge next finished old new names after r q e f = absurd (err_more _ (sym q.0 ∙ e))
waits header false None next finished old new names after r q e f = absurd (f (sym q.0 ∙ e))
waits header false (Some edge) next finished old new names after r q e f = q.1

more_lines : (header long : Bool) (edge : Option Edge) (next : Next) (finished : Answer) (old new : Pieces) (names after : List (List ℕ)) (r : Answer) → AnswersLines header long edge next finished old names r new after → IsOpen edge → long ≡ false → r ≡ Ok More
more_lines header true edge next finished old new names after r q o h = absurd cc
more_lines header false None next finished old new names after r q o h = absurd o
more_lines header false (Some edge) next finished old new names after r q o h = q.0

lines_end : (header long : Bool) (edge : Option Edge) (next : Next) (finished : Answer) (old new : Pieces) (names after : List (List ℕ)) (r : Answer) → AnswersLines header long edge next finished old names r new after → r ≡ Ok End → (edge ≡ None) × (finished ≡ Ok End) × ((more : List ℕ) → IsNext header (ahead_of old more) next) × ComesByLines header old next
lines_end header true edge next finished old new names after r q e = absurd (err_end _ (sym q.0 ∙ e))
lines_end header false None next finished old new names after r q e = (refl, sym q.0 ∙ e, q.2, q.3)
lines_end header false (Some edge) next finished old new names after r q e = absurd (more_end (sym q.0 ∙ e))

pub more_is : (header : Bool) (old new : Pieces) (names after : List (List ℕ)) (r : Answer) → IsAnswered header old names r new after → r ≡ Ok More → HasNone header old × MayGoOn old
more_is header old new names after r (ended, p, q) e = (inl p, lines_more header (is_too_long old) old.edge ended (Ok End) old new names after r q e end_more)
more_is header old new names after r (open_comment line, p, q) e = (inr (line, p), lines_more header (is_too_long old) old.edge (open_comment line) (Err (At OpenComment (record { file = old.file; line = line }))) old new names after r q e (err_more _))
more_is header old new names after r (long_line, p, q) e = absurd q
more_is header old new names after (Ok (Token given)) (token kind spelling line space rest, p, q) e = absurd cc
more_is header old new names after (Ok More) (token kind spelling line space rest, p, q) e = absurd q
more_is header old new names after (Ok End) (token kind spelling line space rest, p, q) e = absurd q
more_is header old new names after (Err refusal) (token kind spelling line space rest, p, q) e = absurd (err_more refusal e)

waits_more : (header : Bool) (old new : Pieces) (names after : List (List ℕ)) (r : Answer) → IsAnswered header old names r new after → r ≡ Ok More → IsWaiting old new
waits_more header old new names after r (ended, p, q) e = waits header (is_too_long old) old.edge ended (Ok End) old new names after r q e end_more
waits_more header old new names after r (open_comment line, p, q) e = waits header (is_too_long old) old.edge (open_comment line) (Err (At OpenComment (record { file = old.file; line = line }))) old new names after r q e (err_more _)
waits_more header old new names after r (long_line, p, q) e = absurd q
waits_more header old new names after (Ok (Token given)) (token kind spelling line space rest, p, q) e = absurd cc
waits_more header old new names after (Ok More) (token kind spelling line space rest, p, q) e = absurd q
waits_more header old new names after (Ok End) (token kind spelling line space rest, p, q) e = absurd q
waits_more header old new names after (Err refusal) (token kind spelling line space rest, p, q) e = absurd (err_more refusal e)

pub takes_piece : (header : Bool) (old new : Pieces) (names after : List (List ℕ)) (r : Answer) → IsAnswered header old names r new after → r ≡ Ok More → TakesPiece new
takes_piece header old new names after r a e =
    let w = waits_more header old new names after r a e in
    let o = (more_is header old new names after r a e).1.0 in
    record { goes_on = subst IsOpen (sym w.edge_is) o; few = w.few }

pub is_more : (header : Bool) (old new : Pieces) (names after : List (List ℕ)) (r : Answer) → IsAnswered header old names r new after → HasNone header old × MayGoOn old → r ≡ Ok More
is_more header old new names after r a (inl n, h) = more_lines header (is_too_long old) old.edge ended (Ok End) old new names after r (only_for header old new names after r a ended n) h.0 h.1
is_more header old new names after r a (inr (line, n), h) = more_lines header (is_too_long old) old.edge (open_comment line) (Err (At OpenComment (record { file = old.file; line = line }))) old new names after r (only_for header old new names after r a (open_comment line) n) h.0 h.1

-- the end of the text
module _ (header : Bool) (old new : Pieces) (names after : List (List ℕ)) where
  pub end_is : (r : Answer) → IsAnswered header old names r new after → r ≡ Ok End → (old.edge ≡ None) × ((more : List ℕ) → IsNext header (ahead_of old more) ended) × ComesByLines header old ended
  end_is r (ended, p, q) e = let k = lines_end header (is_too_long old) old.edge ended (Ok End) old new names after r q e in (k.0, k.2, k.3)
  end_is r (open_comment line, p, q) e = absurd (err_end _ (lines_end header (is_too_long old) old.edge (open_comment line) (Err (At OpenComment (record { file = old.file; line = line }))) old new names after r q e).1)
  end_is r (long_line, p, q) e = absurd q
  end_is (Ok (Token given)) (token kind spelling line space rest, p, q) e = absurd cc
  end_is (Ok More) (token kind spelling line space rest, p, q) e = absurd q
  end_is (Ok End) (token kind spelling line space rest, p, q) e = absurd q
  end_is (Err refusal) (token kind spelling line space rest, p, q) e = absurd (err_end refusal e)

  -- of a text that was finished its whole lines come next, and then the first that is too long
  finished_lines : old.edge ≡ None → sound_lines (ahead_of old []) ≡ lines_of old
  finished_lines e =
      ap (λ (x : Option Edge). sound_lines (opening old.comment ++ (old.cells ++ text_from x []))) e
      ∙ ap (λ (cs : List Cell). sound_lines (opening old.comment ++ cs)) (append-nil old.cells)
      ∙ sound_join (opening old.comment) old.cells (opening_lines old.comment) (opening_short old.comment)

  finished_long : old.edge ≡ None → is_any_long (ahead_of old []) ≡ is_too_long old
  finished_long e =
      ap (λ (x : Option Edge). is_any_long (opening old.comment ++ (old.cells ++ text_from x []))) e
      ∙ ap (λ (cs : List Cell). is_any_long (opening old.comment ++ cs)) (append-nil old.cells)
      ∙ any_join (opening old.comment) old.cells
      ∙ ap (λ (t : Bool). t || is_any_long old.cells) (opening_short old.comment)

  not_long : (t : Bool) (next : Next) → ended ≡ unless_long t next → t ≡ false
  not_long true next e = absurd cc
  not_long false next e = refl

  is_ended : (t : Bool) (cs : List Cell) (among : Next) → ended ≡ before_cells t cs among → (among ≡ ended) × (t ≡ false)
  is_ended t cs ended e = (refl, not_long t ended e)
  is_ended true cs (open_comment line) e = absurd cc
  is_ended false cs (open_comment line) e = absurd cc
  is_ended t cs long_line e = absurd cc
  is_ended t cs (token kind spelling line space rest) e = absurd cc

  over_lines : (long : Bool) (edge : Option Edge) (next : Next) (finished : Answer) (r : Answer) → AnswersLines header long edge next finished old names r new after → long ≡ false → edge ≡ None → r ≡ finished
  over_lines true edge next finished r q h e = absurd cc
  over_lines false None next finished r q h e = q.0
  over_lines false (Some edge) next finished r q h e = absurd cc

  pub is_end : (r : Answer) → IsAnswered header old names r new after → (old.edge ≡ None) × IsNextByLines header (ahead_of old []) ended → r ≡ Ok End
  is_end r a (e, (among, p, f)) =
      let k = is_ended (is_any_long (ahead_of old [])) (behind_lines (ahead_of old [])) among f in
      let n : IsNext header (lines_of old) ended = subst (λ (x : Next). IsNext header (lines_of old) x) k.0 (subst (λ (cs : List Cell). IsNext header cs among) (finished_lines e) p) in
      over_lines (is_too_long old) old.edge ended (Ok End) r (only_for header old new names after r a ended n) (sym (finished_long e) ∙ k.1) e

lines_kept : (header long : Bool) (edge : Option Edge) (next : Next) (finished : Answer) (old new : Pieces) (names after : List (List ℕ)) (x : Refusal) → AnswersLines header long edge next finished old names (Err x) new after → IsKept old names new after
lines_kept header true edge next finished old new names after x q = q.1
lines_kept header false None next finished old new names after x q = q.1
lines_kept header false (Some edge) next finished old new names after x q = absurd (err_more x q.0)

pub kept : (header : Bool) (old new : Pieces) (names after : List (List ℕ)) (r : Answer) → IsAnswered header old names r new after → OnErr r (IsKept old names new after)
kept header old new names after (Ok x) a = tt
kept header old new names after (Err x) (ended, p, q) = lines_kept header (is_too_long old) old.edge ended (Ok End) old new names after x q
kept header old new names after (Err x) (open_comment line, p, q) = lines_kept header (is_too_long old) old.edge (open_comment line) (Err (At OpenComment (record { file = old.file; line = line }))) old new names after x q
kept header old new names after (Err x) (long_line, p, q) = absurd q
kept header old new names after (Err x) (token kind spelling line space rest, p, q) = q.1
