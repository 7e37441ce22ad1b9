-- A code that is answered has the text.
use Rattle.std.proofs.Common.{◌≡◌, ℕ, Bool, true, false, List, [], bytes_eq, Result, Ok, Err, refl, sym, ap, ◌∙◌}
use Rattle.std.specs.Prelude.{if◌then◌else◌, MatchResult, IfOk}
use Rattle.c65_base.specs.declared.refusal.Refusal.{Refusal}
use Rattle.std.proofs.lemmas.Slice.Eq.{bytes_eq-Decides}
use Rattle.c65_code.specs.declared.code.Code.{Code}
use Rattle.c65_asm.specs.declared.reading.Answer.{Answer}
use Rattle.c65_asm.specs.declared.reading.Answer.TheVariants as answers
use Rattle.c65_asm.specs.Text.{text_of}
use Rattle.c65_asm.specs.Reading.{start}
use Rattle.c65_asm.specs.Read.{lines_in, compared, read_text, RefusesText}

compared_so : (text : List ℕ) (c code : Code) (b : Bool) → bytes_eq (text_of c) text ≡ b → (if b then answers.Code c else answers.Line 1) ≡ answers.Code code → text_of code ≡ text
compared_so text c code true e h =
    let same : code ≡ c = cc in
    ap text_of same ∙ (bytes_eq-Decides (text_of c) text).0 e
compared_so text c code false e h = absurd cc

sound_at : (text : List ℕ) (a : Answer) (code : Code) → compared text a ≡ answers.Code code → text_of code ≡ text
sound_at text (answers.Code c) code h = compared_so text c code (bytes_eq (text_of c) text) refl h
sound_at text (answers.Line n) code h = absurd cc

pub sound : (text : List ℕ) (code : Code) → read_text text ≡ answers.Code code → text_of code ≡ text
sound text code h = sound_at text (lines_in start 1 [] text) code h

-- of an answer that is a code
pub text_is : (text : List ℕ) (a : Answer) (r : Result Code Refusal) → a ≡ read_text text → MatchResult r (λ code. a ≡ answers.Code code) (λ refusal. RefusesText a refusal) → IfOk r (λ code. text_of code ≡ text)
text_is text a (Ok code) e h = sound text code (sym e ∙ h)
text_is text a (Err refusal) e h = tt
