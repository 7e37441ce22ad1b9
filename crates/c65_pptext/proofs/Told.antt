-- A token that is taken is what is read next of the text.
use Rattle.std.proofs.Common.{◌≡◌, ◌∙◌, ◌≤◌, ℕ, List, take, drop, refl, sym, ap, subst, arith, Bool, true, false, Option, Some, None}
use Rattle.std.specs.Prelude.{nat_lt, if◌then◌else◌, length}
use Rattle.std.proofs.lemmas.List.{take-append-drop}
use Rattle.c65_pieces.specs.Pieces.{Pieces}
use Rattle.c65_ppline.specs.declared.calls.Lexed.{Lexed}
use Rattle.c65_ppline.specs.Lexing.{lexing}
use Rattle.c65_pptext.specs.declared.ending.Ending.{Ending}
use Rattle.c65_pptext.specs.declared.ending.Ending.TheVariants.{Whole, Long}
use Rattle.c65_pptext.specs.declared.ending.Read.{Read}
use Rattle.c65_pptext.specs.declared.ending.Read.TheVariants as reads
use Rattle.c65_pptext.specs.declared.text.FileText.{FileText}
use Rattle.c65_pptext.specs.Kept.{kept, line_behind, ending_in, read_of, EndsFrom}
use Rattle.c65_pptext.specs.Reading.{Held, TextLeft, Agrees, IsTold, EndsSo, IsTaken, IsLeft, IsTextRead, unread_of, bytes_of, text_as, ending_for, left_behind, nothing_left}
use Rattle.c65_pptext.proofs.Lines.{line_append, line_onward, line_most}
use Rattle.c65_pptext.proofs.Pieces.{is_over}

one_within : 1 ≤ 4294967295
one_within = omega arith

-- the bytes that are kept end on the line of the next one or behind it
ends_from : (bytes : List ℕ) (line at : ℕ) → line ≡ line_behind 1 (take at (kept bytes)) → EndsFrom line (ending_in bytes)
ends_from bytes line at e = by (nat_lt 1048576 (length bytes))
  where
    far : line ≤ line_behind 1 (kept bytes)
    far =
        let on = line_onward (line_behind 1 (take at (kept bytes))) (drop at (kept bytes)) (line_most 1 (take at (kept bytes)) one_within) in
        let same = sym (line_append 1 (take at (kept bytes)) (drop at (kept bytes))) ∙ ap (λ (xs : List ℕ). line_behind 1 xs) (take-append-drop at (kept bytes)) in
        subst (λ (n : ℕ). n ≤ line_behind 1 (kept bytes)) (sym e) (subst (λ (n : ℕ). line_behind 1 (take at (kept bytes)) ≤ n) same on)

    by : (b : Bool) → EndsFrom line (if b then Long (line_behind 1 (kept bytes)) else Whole)
    by true = far
    by false = tt

module _ (held : Held) (t : FileText) where
  ends_so : (o : Option Ending) → Agrees held t o → EndsSo t.line o (ending_for (bytes_of held t) o)
  ends_so None a = ends_from (bytes_of held t) t.line t.at a.line_is
  ends_so (Some ending) a = refl

  module _ (lexer : Pieces) (edge : lexer.edge ≡ t.lexer.edge) (file : lexer.file ≡ t.lexer.file) (told : IsTold held t) where
    abbrev after : FileText
    after = record t { lexer = lexer }

    agrees_on : (o : Option Ending) → Agrees held t o → Agrees held after o
    agrees_on None a = record { there = a.there; within = a.within; line_is = a.line_is }
    agrees_on (Some ending) a = edge ∙ a

    pub told_on : IsTold held after
    told_on = (file ∙ told.0, agrees_on t.ending told.1)

    abbrev more : List ℕ
    more = drop t.at (kept (bytes_of held t))

    module _ (header : Bool) (names known : List (List ℕ)) (l : Lexed) (taken : IsTaken header t.lexer names (Some l) lexer known) where
      what_is : (r : Read) → ((ending : Ending) → EndsSo t.line t.ending ending → r ≡ read_of ending l) → r ≡ read_of (text_as held t).ending l
      what_is r e = e (ending_for (bytes_of held t) t.ending) (ends_so t.ending told.1)

      is_read : (r : Read) (left : TextLeft) → r ≡ read_of (text_as held t).ending l → left ≡ left_behind r (text_as held t) (unread_of lexer more) → IsTextRead header (text_as held t) names r left known
      is_read r left e f = (lexing l (unread_of lexer more) known, taken more, e, f, refl)

      over : (r : Read) (new : FileText) → text_as held new ≡ nothing_left t.number → left_behind r (text_as held t) (unread_of lexer more) ≡ nothing_left t.lexer.file → text_as held new ≡ left_behind r (text_as held t) (unread_of lexer more)
      over r new e f = e ∙ (ap (λ (n : ℕ). nothing_left n) (sym told.0) ∙ sym f)

      pub read_told : (r : Read) (new : FileText) → ((ending : Ending) → EndsSo t.line t.ending ending → r ≡ read_of ending l) → IsLeft r after new → IsTold held new × IsTextRead header (text_as held t) names r (text_as held new) known
      read_told (reads.Token x) new e same =
          subst (λ (u : FileText). IsTold held u × IsTextRead header (text_as held t) names (reads.Token x) (text_as held u) known) (sym same) (told_on, is_read (reads.Token x) (text_as held after) (what_is (reads.Token x) e) refl)
      read_told (reads.LineEnd x) new e same =
          subst (λ (u : FileText). IsTold held u × IsTextRead header (text_as held t) names (reads.LineEnd x) (text_as held u) known) (sym same) (told_on, is_read (reads.LineEnd x) (text_as held after) (what_is (reads.LineEnd x) e) refl)
      read_told reads.End new e left =
          let o = is_over held after new left.0 left.1 in
          (o.0, is_read reads.End (text_as held new) (what_is reads.End e) (over reads.End new o.1 refl))
      read_told (reads.Cut cut) new e left =
          let o = is_over held after new left.0 left.1 in
          (o.0, is_read (reads.Cut cut) (text_as held new) (what_is (reads.Cut cut) e) (over (reads.Cut cut) new o.1 refl))
