-- A file that is open: what is kept of its bytes, and what is read next of it.
use Rattle.std.specs.Prelude.{◌≡◌, ℕ, zero, suc, List, [], ◌∷◌, length, take, reverse, Bool, true, false, not, ◌==◌, ◌&&◌, ◌||◌, nat_lt, if◌then◌else◌, Result, Ok, Err, codes}
use Rattle.c65_base.specs.declared.names.Name.{Name}
use Rattle.c65_base.specs.declared.refusal.Refusal.{Refusal}
use Rattle.c65_ppline.specs.declared.line.Cut.{Cut}
use Rattle.c65_ppline.specs.declared.line.Cut.TheVariants as cuts
use Rattle.c65_ppdir.specs.Files.{OpenFile}
use Rattle.c65_pptext.specs.Reading.{TextLeft, text_of, IsTextRead}
use Rattle.c65_pptext.specs.declared.ending.Read.{Read}
use Rattle.c65_pptext.specs.declared.ending.Read.TheVariants as reads
use Rattle.c65_ppdir.specs.declared.opened.Unseen.{Unseen}
use Rattle.c65_ppdir.specs.declared.opened.Unseen.TheVariants as unseens
use Rattle.c65_ppline.specs.Lines.{cut_refusal}
use Rattle.c65_ppline.specs.NumberLines.{own_count}
use Rattle.c65_ppline.specs.Relations.{Answers}
use Rattle.c65_ppline.specs.Tokens.{is_mark}

abbrev pub opened : ℕ → Name → List ℕ → OpenFile
opened number literal bytes = record { text = text_of number bytes; number = number; literal = literal; count = own_count; groups = [] }

-- what is read next, the file then, and the spellings known then
abbrev pub IsReadNext : Bool → OpenFile → List (List ℕ) → Read → OpenFile → List (List ℕ) → Type 0
IsReadNext header file names what left known = (rest : TextLeft) × IsTextRead header file.text names what rest known × (left ≡ record file { text = rest })

-- of a line that is skipped a # is looked for alone
abbrev pub unseen : List (List ℕ) → Read → Unseen
unseen names (reads.Token t) = if is_mark names (codes "#") t then unseens.Hash t.pos else unseens.Token
unseen names (reads.LineEnd t) = unseens.LineEnd
unseen names reads.End = unseens.End
unseen names (reads.Cut cut) = unseens.Cut cut

abbrev pub IsSeenNext : OpenFile → Unseen → OpenFile → Type 0
IsSeenNext file what left = (r : Read) × (known : List (List ℕ)) × IsReadNext false file [] r left known × (what ≡ unseen known r)

-- whether a line that is skipped goes on
abbrev pub has_more : Unseen → Result Bool Refusal
has_more (unseens.Hash place) = Ok true
has_more unseens.Token = Ok true
has_more unseens.LineEnd = Ok false
has_more unseens.End = Ok false
has_more (unseens.Cut cut) = Err (cut_refusal cut)

-- the rest of a line is skipped: by so many steps
abbrev pub past : (OpenFile → Answers OpenFile) → Result Bool Refusal → OpenFile → Answers OpenFile
past go (Ok true) file z = go file z
past go (Ok false) file z = z ≡ Ok file
past go (Err e) file z = z ≡ Err e

abbrev pub skipping : ℕ → OpenFile → Answers OpenFile
skipping zero file z = ⊥
skipping (suc n) file z = (u : Unseen) × (left : OpenFile) × IsSeenNext file u left × past (skipping n) (has_more u) left z

abbrev pub skipped : OpenFile → Answers OpenFile
skipped file z = (n : ℕ) × skipping n file z
