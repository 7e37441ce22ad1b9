-- What is read of the text of a file that is open.
use Rattle.std.proofs.Common.{◌≡◌, List, ℕ, Bool, Result, Ok, Err, refl, sym, subst}
use Rattle.std.specs.Prelude.{IfErr}
use Rattle.c65_base.specs.declared.refusal.Refusal.{Refusal}
use Rattle.c65_base.specs.declared.refusal.Refusal.TheVariants as refusals
use Rattle.c65_ppline.specs.Causes.{Stops}
use Rattle.c65_ppline.specs.Relations.{IsFree}
use Rattle.c65_pptext.specs.declared.ending.Read.{Read}
use Rattle.c65_pptext.specs.declared.text.FileText.{FileText}
use Rattle.c65_pptext.specs.Reading.{Held, IsTold, IsTextRead, ReadsText, text_as}
use Rattle.c65_ppdir.specs.declared.opened.Opened.{Opened}
use Rattle.c65_ppdir.specs.Files.{IsToldFile, IsNoMiss, OrFree, opened_as}
use Rattle.c65_ppdir.specs.Opening.{IsReadNext}

-- no refusal of these kinds is a file's that is missing
pub free_no_miss : (e : Refusal) → IsFree e → IsNoMiss e
free_no_miss (refusals.Missing path) h = absurd h
free_no_miss _ h = tt

pub stops_no_miss : (e : Refusal) → Stops e → IsNoMiss e
stops_no_miss (refusals.Missing path) h = absurd h
stops_no_miss _ h = tt

pub stops_of : {T : Type 0} (answer : Result T Refusal) → IfErr answer Stops → IfErr answer IsNoMiss
stops_of (Ok x) h = tt
stops_of (Err e) h = stops_no_miss e h

pub memory_stops : (e : Refusal) → e ≡ refusals.OutOfMemory → Stops e
memory_stops e h = subst (λ (r : Refusal). Stops r) (sym h) tt

pub memory_no_miss : {T : Type 0} (answer : Result T Refusal) → IfErr answer (λ e. e ≡ refusals.OutOfMemory) → IfErr answer IsNoMiss
memory_no_miss (Ok x) h = tt
memory_no_miss (Err e) h = subst (λ (r : Refusal). IsNoMiss r) (sym h) tt

pub text_reads : (held : Held) (file : Opened) (text : FileText) (header : Bool) (names known : List (List ℕ)) (answer : Result Read Refusal) → IsTold held text → ReadsText (λ r. IsTextRead header (text_as held file.text) names r (text_as held text) known) answer
    → IsToldFile held (record file { text = text }) × IfErr answer IsNoMiss × OrFree (λ r. IsReadNext header (opened_as held file) names r (opened_as held (record file { text = text })) known) answer
text_reads held file text header names known (Ok r) told h = (told, tt, (text_as held text, h, refl))
text_reads held file text header names known (Err e) told h = (told, free_no_miss e h, h)

-- a file whose text is the same is told still
pub told_still : (held : Held) (file new : Opened) → new.text ≡ file.text → IsToldFile held file → IsToldFile held new
told_still held file new e h = subst (λ (t : FileText). IsTold held t) (sym e) h
