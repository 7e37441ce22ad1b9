-- What comes next of a text that is read line by line, behind lines that are not too long.
use Rattle.std.proofs.Common.{◌≡◌, ℕ, List, ◌++◌, append_assoc, append-nil, refl, sym, ap, ◌∙◌, subst, Bool, true, false, inr, Some}
use Rattle.std.specs.Prelude.{◌||◌}
use Rattle.c65_lex.specs.declared.token.PpKind.{PpKind}
use Rattle.c65_lex.specs.Cells.{Cell, bytes}
use Rattle.c65_lex.specs.Next.{Next, ended, open_comment, long_line, token, is_any_long, IsNext}
use Rattle.c65_lex.proofs.Unique.{one_next}
use Rattle.c65_pieces.specs.Scanned.{opening}
use Rattle.c65_pieces.specs.Given.{ends, AreLines}
use Rattle.c65_pieces.specs.Lines.{is_sound, sound_lines, behind_lines, before_cells, IsNextByLines}
use Rattle.c65_pieces.proofs.Sound.{any_join, sound_join, behind_join, sound_none, sound_parts, opening_short, opening_lines}
use Rattle.c65_pieces.proofs.Further.{next_token}
use Rattle.c65_pieces.proofs.Opened.{next_opened}

module _ (header : Bool) (start xs : List Cell) (lines : AreLines start) (short : is_any_long start ≡ false) where
  any_behind : is_any_long (start ++ xs) ≡ is_any_long xs
  any_behind = any_join start xs ∙ ap (λ (t : Bool). t || is_any_long xs) short

  pub token_by_lines : ends (bytes start) ≡ true → (kind : PpKind) (spelling : List ℕ) (line : ℕ) (space : Bool) (rest : List Cell) → IsNext header start (token kind spelling line space rest) → IsNextByLines header (start ++ xs) (token kind spelling line space (rest ++ xs))
  token_by_lines h kind spelling line space rest n =
      let t = next_token header start (sound_lines xs) h kind spelling line space rest n in
      let e : rest ++ xs ≡ (rest ++ sound_lines xs) ++ behind_lines (start ++ xs) =
      sym (ap (λ (cs : List Cell). (rest ++ sound_lines xs) ++ cs) (behind_join start xs lines short) ∙ append_assoc rest (sound_lines xs) (behind_lines xs) ∙ ap (λ (cs : List Cell). rest ++ cs) (sound_parts xs)) in
      (token kind spelling line space (rest ++ sound_lines xs), subst (λ (cs : List Cell). IsNext header cs (token kind spelling line space (rest ++ sound_lines xs))) (sym (sound_join start xs lines short)) t, ap (λ (cs : List Cell). token kind spelling line space cs) e)

  -- no line follows
  lines_alone : is_sound xs ≡ false → sound_lines (start ++ xs) ≡ start
  lines_alone h = sound_join start xs lines short ∙ ap (λ (cs : List Cell). start ++ cs) (sound_none xs h) ∙ append-nil start

  pub ended_by_lines : is_sound xs ≡ false → is_any_long xs ≡ false → IsNext header start ended → IsNextByLines header (start ++ xs) ended
  ended_by_lines h l n = (ended, subst (λ (cs : List Cell). IsNext header cs ended) (sym (lines_alone h)) n, rw (any_behind, l) refl)

  pub open_by_lines : is_sound xs ≡ false → is_any_long xs ≡ false → (line : ℕ) → IsNext header start (open_comment line) → IsNextByLines header (start ++ xs) (open_comment line)
  open_by_lines h l line n = (open_comment line, subst (λ (cs : List Cell). IsNext header cs (open_comment line)) (sym (lines_alone h)) n, rw (any_behind, l) refl)

  pub long_by_lines : is_sound xs ≡ false → is_any_long xs ≡ true → IsNext header start ended → IsNextByLines header (start ++ xs) long_line
  long_by_lines h l n = (ended, subst (λ (cs : List Cell). IsNext header cs ended) (sym (lines_alone h)) n, rw (any_behind, l) refl)

  pub long_open_by_lines : is_sound xs ≡ false → is_any_long xs ≡ true → (line : ℕ) → IsNext header start (open_comment line) → IsNextByLines header (start ++ xs) long_line
  long_open_by_lines h l line n = (open_comment line, subst (λ (cs : List Cell). IsNext header cs (open_comment line)) (sym (lines_alone h)) n, rw (any_behind, l) refl)

-- a comment that goes on past lines is as one that begins behind them
module _ (header : Bool) (start xs : List Cell) (lines : ends (bytes start) ≡ true) (short : is_any_long start ≡ false) (line : ℕ) (o : IsNext header start (open_comment line)) where
  pub opened_by_lines : (next : Next) → IsNextByLines header (opening (Some line) ++ xs) next → IsNextByLines header (start ++ xs) next
  opened_by_lines next (among, p, e) =
      let q : IsNext header (opening (Some line) ++ sound_lines xs) among = subst (λ (cs : List Cell). IsNext header cs among) (sound_join (opening (Some line)) xs (opening_lines (Some line)) (opening_short (Some line))) p in
      let n = next_opened header start (sound_lines xs) lines line o among q in
      let l : is_any_long (opening (Some line) ++ xs) ≡ is_any_long (start ++ xs) = any_join (opening (Some line)) xs ∙ sym (any_join start xs ∙ ap (λ (t : Bool). t || is_any_long xs) short) in
      let b : behind_lines (opening (Some line) ++ xs) ≡ behind_lines (start ++ xs) = behind_join (opening (Some line)) xs (opening_lines (Some line)) (opening_short (Some line)) ∙ sym (behind_join start xs (inr lines) short) in
      (among, subst (λ (cs : List Cell). IsNext header cs among) (sym (sound_join start xs (inr lines) short)) n, e ∙ ap (λ (t : Bool). before_cells t (behind_lines (opening (Some line) ++ xs)) among) l ∙ ap (λ (cs : List Cell). before_cells (is_any_long (start ++ xs)) cs among) b)

pub one_by_lines : (header : Bool) (cs : List Cell) (a b : Next) → IsNextByLines header cs a → IsNextByLines header cs b → a ≡ b
one_by_lines header cs a b (n, p, e) (m, q, f) = e ∙ ap (λ (x : Next). before_cells (is_any_long cs) (behind_lines cs) x) (one_next header (sound_lines cs) n m p q) ∙ sym f
