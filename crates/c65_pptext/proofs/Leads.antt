-- What comes next of a text stays what it was while more of it is given.
use Rattle.std.proofs.Common.{◌≡◌, ◌∙◌, ℕ, List, drop, refl, sym, ap, subst, Bool, Option, Some, None}
use Rattle.c65_base.specs.declared.names.Name.{Name}
use Rattle.c65_lex.specs.declared.token.PpKind.{PpKind}
use Rattle.c65_lex.specs.Cells.{Cell}
use Rattle.c65_lex.specs.Next.{Next, ended, open_comment, long_line, token}
use Rattle.c65_lex.specs.Unread.{Unread}
use Rattle.c65_macro.specs.Items.{Outcome, unfinished, faulty, done, learn}
use Rattle.c65_pieces.specs.declared.text.Edge.{Edge}
use Rattle.c65_pieces.specs.Lines.{IsNextByLines}
use Rattle.c65_pieces.specs.Pieces.{Pieces, IsOpen}
use Rattle.c65_pieces.specs.Answers.{IsWaiting}
use Rattle.c65_ppline.specs.declared.calls.Lexed.TheVariants as kinds
use Rattle.c65_ppline.specs.Lexing.{Lexing, named, lexed, token_of}
use Rattle.c65_pptext.specs.declared.ending.Ending.{Ending}
use Rattle.c65_pptext.specs.declared.ending.Ending.TheVariants.{Whole, Long}
use Rattle.c65_pptext.specs.declared.ending.Read.{Read}
use Rattle.c65_pptext.specs.declared.ending.Read.TheVariants as reads
use Rattle.c65_pptext.specs.declared.text.FileText.{FileText}
use Rattle.c65_pptext.specs.Kept.{kept, read_of}
use Rattle.c65_pptext.specs.Reading.{Held, TextLeft, Agrees, IsTextRead, bytes_of, text_as, left_behind}

-- what comes next of a text now is what came next at the start
pub record Leads (header : Bool) (start now : TextLeft) : Type 0 where
  pub file_is : now.unread.file ≡ start.unread.file
  pub ending_is : now.ending ≡ start.ending
  pub next : (next : Next) → IsNextByLines header now.unread.cells next → IsNextByLines header start.unread.cells next

pub leads_here : (header : Bool) (start : TextLeft) → Leads header start start
leads_here header start = record { file_is = refl; ending_is = refl; next = λ next n. n }

-- more bytes are wanted
pub leads_on : (header : Bool) (held : Held) (start : TextLeft) (t : FileText) (lexer : Pieces) → Leads header start (text_as held t) → IsWaiting t.lexer lexer → Leads header start (text_as held (record t { lexer = lexer }))
leads_on header held start t lexer l w =
    record {
      file_is = w.file_is ∙ l.file_is;
      ending_is = l.ending_is;
      next = λ next n. l.next next (w.by_lines header (drop t.at (kept (bytes_of held t))) next n);
    }

pub leads_same : (header : Bool) (start now new : TextLeft) → new ≡ now → Leads header start now → Leads header start new
leads_same header start now new e l = subst (λ (x : TextLeft). Leads header start x) (sym e) l

-- a text that takes a piece was not ended
pub not_ended : (held : Held) (t : FileText) (o : Option Ending) → t.ending ≡ o → Agrees held t o → IsOpen t.lexer.edge → t.ending ≡ None
not_ended held t None e a h = e
not_ended held t (Some ending) e a h = absurd (subst (λ (x : Option Edge). IsOpen x) a h)

-- texts of one file with the same end, whose cells may differ
module _ (file : ℕ) (ending : Ending) (cs ds : List Cell) (names : List (List ℕ)) where
  abbrev here : List Cell → TextLeft
  here xs = record { unread = record { file = file; cells = xs }; ending = ending }

  same_behind : (s : Read) (rest : Unread) → left_behind s (here cs) rest ≡ left_behind s (here ds) rest
  same_behind (reads.Token t) rest = refl
  same_behind (reads.LineEnd t) rest = refl
  same_behind reads.End rest = refl
  same_behind (reads.Cut cut) rest = refl

  abbrev Read_as : Read → TextLeft → List (List ℕ) → TextLeft → Lexing → Type 0
  Read_as r left known old l = (r ≡ read_of old.ending l.what) × (left ≡ left_behind r old l.rest) × (known ≡ l.names)

  moved : (r s : Read) (left : TextLeft) (a b : Unread) → r ≡ s → left_behind s (here cs) a ≡ left_behind s (here ds) b → left ≡ left_behind r (here cs) a → left ≡ left_behind r (here ds) b
  moved r s left a b e f h = h ∙ (ap (λ (x : Read). left_behind x (here cs) a) e ∙ (f ∙ sym (ap (λ (x : Read). left_behind x (here ds) b) e)))

  end_behind : (e : Ending) → left_behind (read_of e kinds.End) (here cs) (here cs).unread ≡ left_behind (read_of e kinds.End) (here ds) (here ds).unread
  end_behind Whole = refl
  end_behind (Long line) = refl

  named_as : (r : Read) (left : TextLeft) (known : List (List ℕ)) (kind : PpKind) (line : ℕ) (space : Bool) (rest : List Cell) (o : Outcome Name) → Read_as r left known (here cs) (named (here cs).unread names kind line space rest o) → Read_as r left known (here ds) (named (here ds).unread names kind line space rest o)
  named_as r left known kind line space rest unfinished (w, l, k) = (w, moved r _ left _ _ w refl l, k)
  named_as r left known kind line space rest (faulty fault) (w, l, k) = (w, moved r _ left _ _ w refl l, k)
  named_as r left known kind line space rest (done now name) (w, l, k) =
      let t = token_of file kind name line space in
      let left_there : Unread = record { file = file; cells = rest } in
      (w, moved r (read_of ending (kinds.Token t)) left left_there left_there w (same_behind (read_of ending (kinds.Token t)) left_there) l, k)

  lexed_as : (r : Read) (left : TextLeft) (known : List (List ℕ)) (next : Next) → Read_as r left known (here cs) (lexed (here cs).unread names next) → Read_as r left known (here ds) (lexed (here ds).unread names next)
  lexed_as r left known ended (w, l, k) = (w, moved r _ left _ _ w (end_behind ending) l, k)
  lexed_as r left known (open_comment line) (w, l, k) = (w, moved r _ left _ _ w refl l, k)
  lexed_as r left known long_line (w, l, k) = (w, moved r _ left _ _ w refl l, k)
  lexed_as r left known (token kind spelling line space rest) h = named_as r left known kind line space rest (learn names spelling) h

  read_as : (header : Bool) (r : Read) (left : TextLeft) (known : List (List ℕ)) → ((next : Next) → IsNextByLines header cs next → IsNextByLines header ds next) → IsTextRead header (here cs) names r left known → IsTextRead header (here ds) names r left known
  read_as header r left known f (l, (next, n, e), w, i, k) =
      let h : Read_as r left known (here cs) l = (w, i, k) in
      let x : Read_as r left known (here cs) (lexed (here cs).unread names next) = subst (λ (y : Lexing). Read_as r left known (here cs) y) e h in
      let z = lexed_as r left known next x in
      (lexed (here ds).unread names next, (next, f next n, refl), z.0, z.1, z.2)

pub lead_read : (header : Bool) (start now : TextLeft) (names : List (List ℕ)) (r : Read) (left : TextLeft) (known : List (List ℕ)) → Leads header start now → IsTextRead header now names r left known → IsTextRead header start names r left known
lead_read header start now names r left known l h =
    let x = read_as now.unread.file now.ending now.unread.cells start.unread.cells names header r left known l.next h in
    let y = subst (λ (n : ℕ). IsTextRead header (record { unread = record { file = n; cells = start.unread.cells }; ending = now.ending }) names r left known) l.file_is x in
    subst (λ (e : Ending). IsTextRead header (record { unread = start.unread; ending = e }) names r left known) l.ending_is y
