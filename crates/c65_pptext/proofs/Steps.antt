-- A read of a text, step by step.
use Rattle.std.proofs.Common.{◌≡◌, List, ℕ, Bool, Option, Some, None, Result, Ok, Err, refl, sym, subst}
use Rattle.std.specs.Prelude.{IfErr, IfOk, OnErr}
use Rattle.c65_base.specs.declared.refusal.Refusal.{Refusal}
use Rattle.c65_base.specs.declared.refusal.Refusal.TheVariants.{OutOfMemory}
use Rattle.c65_pieces.specs.Pieces.{Pieces, TakesPiece, IsOpen}
use Rattle.c65_pieces.specs.declared.text.Edge.{Edge}
use Rattle.c65_pieces.specs.Answers.{IsWaiting}
use Rattle.c65_ppline.specs.declared.calls.Lexed.{Lexed}
use Rattle.c65_ppline.specs.Relations.{IsFree}
use Rattle.c65_pptext.specs.declared.ending.Ending.{Ending}
use Rattle.c65_pptext.specs.declared.ending.Read.{Read}
use Rattle.c65_pptext.specs.declared.text.FileText.{FileText}
use Rattle.c65_pptext.specs.Kept.{read_of}
use Rattle.c65_pptext.specs.Reading.{Held, TextLeft, IsTold, IsSame, EndsSo, IsTaken, IsLeft, IsTextRead, ReadsText, text_as}
use Rattle.c65_pptext.proofs.Told.{told_on, read_told}
use Rattle.c65_pptext.proofs.Leads.{Leads, lead_read, leads_on, leads_same, not_ended}

module _ (held : Held) (header : Bool) (start : TextLeft) (t : FileText) (lexer : Pieces) (edge : lexer.edge ≡ t.lexer.edge) (file : lexer.file ≡ t.lexer.file) (told : IsTold held t) (leads : Leads header start (text_as held t)) where
  abbrev taken : FileText
  taken = record t { lexer = lexer }

  -- a token was taken, or the lexer refused
  pub answers : (names known : List (List ℕ)) (l : Lexed) (new : FileText) (answer : Result Read Refusal) → IsTaken header t.lexer names (Some l) lexer known → IfErr answer (λ e. e ≡ OutOfMemory) → OnErr answer (new ≡ taken)
      → IfOk answer (λ r. (ending : Ending) → EndsSo t.line t.ending ending → r ≡ read_of ending l) → IfOk answer (λ r. IsLeft r taken new) → IsTold held new × ReadsText (λ r. IsTextRead header start names r (text_as held new) known) answer
  answers names known l new (Ok r) is_taken refused kept exact left =
      let x = read_told held t lexer edge file told header names known l is_taken r new exact left in
      (x.0, lead_read header start (text_as held t) names r (text_as held new) known leads x.1)
  answers names known l new (Err e) is_taken refused kept exact left =
      (subst (λ (u : FileText). IsTold held u) (sym kept) (told_on held t lexer edge file told), subst (λ (x : Refusal). IsFree x) (sym refused) tt)

  -- more bytes are wanted
  pub not_over : TakesPiece lexer → t.ending ≡ None
  not_over takes = not_ended held t t.ending refl told.1 (subst (λ (x : Option Edge). IsOpen x) edge takes.goes_on)

  pub waits_on : IsWaiting t.lexer lexer → Leads header start (text_as held taken)
  waits_on w = leads_on header held start t lexer leads w

  pub still_told : IsTold held taken
  still_told = told_on held t lexer edge file told

  pub reads_on : (new : FileText) → IsWaiting t.lexer lexer → IsSame held taken new → IsTold held new × Leads header start (text_as held new)
  reads_on new w same = (same.0, leads_same header start (text_as held taken) (text_as held new) same.1 (waits_on w))
