-- What reading has come to in a unit, where files are opened.
use Rattle.std.proofs.Common.{◌≡◌, ◌∙◌, ℕ, List, [], ◌∷◌, ◌++◌, reverse, ap, sym, subst}
use Rattle.std.specs.Prelude.{map}
use Rattle.std.proofs.lemmas.List.{reverse-append}
use Rattle.c65_base.specs.declared.names.Name.{Name}
use Rattle.c65_lex.specs.declared.token.PpToken.{PpToken}
use Rattle.c65_macro.specs.Table.{Table}
use Rattle.c65_ppfile.specs.declared.headers.BuiltIn.{BuiltIn}
use Rattle.c65_ppdir.specs.declared.opened.Opened.{Opened}
use Rattle.c65_ppdir.specs.Files.{OpenFile, IsToldFile, AreTold, opened_as}
use Rattle.c65_pptext.specs.declared.text.FileText.{FileText}
use Rattle.c65_pptext.specs.Reading.{Held, TextLeft, IsTold, text_as, text_of}
use Rattle.c65_ppline.specs.NumberLines.{offset, own_count}
use Rattle.c65_ppdir.specs.Opening.{opened}
use Rattle.c65_ppdir.specs.Standing.{Standing}

abbrev pub made : Table → List PpToken → List PpToken → OpenFile → List (List ℕ) → List OpenFile → List BuiltIn → Standing
made table given list file names outer headers = record { here = record { table = table; given = given; list = list; file = file; names = names }; outer = outer; headers = headers }

pub made_is : (table table' : Table) (given given' list list' : List PpToken) (file file' : OpenFile) (names : List (List ℕ)) (outer outer' : List OpenFile) (headers headers' : List BuiltIn) → table ≡ table' → given ≡ given' → list ≡ list' → file ≡ file' → outer ≡ outer' → headers ≡ headers'
    → made table given list file names outer headers ≡ made table' given' list' file' names outer' headers'
made_is table table' given given' list list' file file' names outer outer' headers headers' a b c d e f =
    ap (λ (x : Table). made x given list file names outer headers) a
    ∙ (ap (λ (x : List PpToken). made table' x list file names outer headers) b
    ∙ (ap (λ (x : List PpToken). made table' given' x file names outer headers) c
    ∙ (ap (λ (x : OpenFile). made table' given' list' x names outer headers) d
    ∙ (ap (λ (x : List OpenFile). made table' given' list' file' names x headers) e
    ∙ ap (λ (x : List BuiltIn). made table' given' list' file' names outer' x) f))))

-- a file is put before those that include it
pub pushed : (held : Held) (outer outer' : List Opened) (replaced file : Opened) → outer' ≡ outer ++ replaced ∷ [] → replaced ≡ file → map (opened_as held) (reverse outer') ≡ opened_as held file ∷ map (opened_as held) (reverse outer)
pushed held outer outer' replaced file e f =
    ap (λ (xs : List Opened). map (opened_as held) xs) (ap (λ (xs : List Opened). reverse xs) e ∙ (reverse-append outer (replaced ∷ []) ∙ ap (λ (x : Opened). x ∷ reverse outer) f))

-- the table of a file that begins
pub counted : (table new : Table) (number : ℕ) (literal : Name) (bytes : List ℕ) (file : OpenFile) → new ≡ record table { file = literal; offset = offset file.count } → file ≡ opened number literal bytes
    → new ≡ record table { file = literal; offset = offset (opened number literal bytes).count }
counted table new number literal bytes file e f = e ∙ ap (λ (x : OpenFile). record table { file = literal; offset = offset x.count }) f

abbrev new_file : FileText → ℕ → Name → Opened
new_file text number literal = record { text = text; number = number; literal = literal; count = own_count; groups = [] }

-- a file that begins with this text
pub opened_text : (held : Held) (text : FileText) (file : Opened) (number : ℕ) (literal : Name) (bytes : List ℕ) → file ≡ new_file text number literal → text_as held text ≡ text_of number bytes → opened_as held file ≡ opened number literal bytes
opened_text held text file number literal bytes e f =
    ap (λ (o : Opened). opened_as held o) e ∙ ap (λ (t : TextLeft). record { text = t; number = number; literal = literal; count = own_count; groups = [] }) f

pub told_new : (held : Held) (text : FileText) (file : Opened) {number : ℕ} {literal : Name} → file ≡ new_file text number literal → IsTold held text → IsToldFile held file
told_new held text file e h = subst (λ (o : Opened). IsToldFile held o) (sym e) h

pub told_none : (held : Held) (outer : List Opened) → outer ≡ [] → AreTold held outer
told_none held outer e = subst (λ (os : List Opened). AreTold held os) (sym e) tt

told_last : (held : Held) (outer : List Opened) (file : Opened) → AreTold held outer → IsToldFile held file → AreTold held (outer ++ file ∷ [])
told_last held [] file h f = (f, tt)
told_last held (o ∷ os) file h f = (h.0, told_last held os file h.1 f)

-- a file is put behind those that include it
pub told_more : (held : Held) (outer outer' : List Opened) (replaced file : Opened) → outer' ≡ outer ++ replaced ∷ [] → replaced ≡ file → IsToldFile held file → AreTold held outer → AreTold held outer'
told_more held outer outer' replaced file e f here others =
    subst (λ (os : List Opened). AreTold held os) (sym e) (told_last held outer replaced others (subst (λ (o : Opened). IsToldFile held o) (sym f) here))

told_parts : (held : Held) (outer : List Opened) (file : Opened) → AreTold held (outer ++ file ∷ []) → IsToldFile held file × AreTold held outer
told_parts held [] file h = (h.0, tt)
told_parts held (o ∷ os) file h = let more = told_parts held os file h.1 in (more.0, (h.0, more.1))

-- the innermost file that includes another is gone back to
pub told_back : (held : Held) (outer outer' : List Opened) (file : Opened) → outer ≡ outer' ++ file ∷ [] → AreTold held outer → IsToldFile held file × AreTold held outer'
told_back held outer outer' file e h = told_parts held outer' file (subst (λ (os : List Opened). AreTold held os) e h)
