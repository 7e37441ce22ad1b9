-- The line of a directive: what is read behind its # (C90 6.8).
use Rattle.std.specs.Prelude.{◌≡◌, ℕ, zero, suc, ◌-◌, List, [], ◌∷◌, ◌++◌, length, take, Bool, false, Option, Some, None, codes}
use Rattle.c65_base.specs.declared.refusal.Pos.{Pos}
use Rattle.c65_lex.specs.declared.token.PpToken.{PpToken}
use Rattle.c65_ppline.specs.declared.line.Cut.{Cut}
use Rattle.c65_ppline.specs.declared.line.Cut.TheVariants as cuts
use Rattle.c65_ppline.specs.declared.line.Line.{Line}
use Rattle.c65_ppdir.specs.declared.opened.Opened.{Opened}
use Rattle.c65_ppdir.specs.Files.{OpenFile, opened_as}
use Rattle.c65_pptext.specs.declared.ending.Read.{Read}
use Rattle.c65_pptext.specs.declared.ending.Read.TheVariants as reads
use Rattle.c65_ppdir.specs.Opening.{IsReadNext}
use Rattle.c65_ppline.specs.Tokens.{is_word}

-- a header name may stand behind `include` alone (C90 6.1.7)
abbrev pub allows_header : List (List ℕ) → List PpToken → Bool
allows_header names [] = false
allows_header names (t ∷ []) = is_word names (codes "include") t
allows_header names (t ∷ u ∷ ts) = false

-- the last token of a file that is too long is not used
abbrev pub used : Cut → List PpToken → List PpToken
used (cuts.OpenComment place) ts = ts
used cuts.LongLine ts = ts
used cuts.LongFile ts = take (length ts - 1) ts
used cuts.Names ts = ts

abbrev pub line_of : Pos → List PpToken → ℕ → Option Cut → Line
line_of hash ts end cut = record { hash = hash; tokens = ts; end = end; cut = cut }

-- a line, the file behind it, and the spellings known then
pub record Gathering : Type 0 where
  pub line : Line
  pub file : OpenFile
  pub names : List (List ℕ)

abbrev pub gathering : Line → OpenFile → List (List ℕ) → Gathering
gathering line file names = record { line = line; file = file; names = names }

abbrev pub Gathered : (List PpToken → Type 0) → Pos → List PpToken → Read → OpenFile → List (List ℕ) → Gathering → Type 0
Gathered more hash ts (reads.Token t) file names g = more (ts ++ t ∷ [])
Gathered more hash ts (reads.LineEnd t) file names g = g ≡ gathering (line_of hash ts t.pos.line None) file names
Gathered more hash ts reads.End file names g = g ≡ gathering (line_of hash ts hash.line None) file names
Gathered more hash ts (reads.Cut cut) file names g = g ≡ gathering (line_of hash (used cut ts) hash.line (Some cut)) file names

-- with the tokens so far, by so many steps
abbrev pub Gathers : ℕ → Pos → List PpToken → OpenFile → List (List ℕ) → Gathering → Type 0
Gathers zero hash ts file names g = ⊥
Gathers (suc n) hash ts file names g = (r : Read) × (left : OpenFile) × (known : List (List ℕ)) × IsReadNext (allows_header names ts) file names r left known × Gathered (λ us. Gathers n hash us left known g) hash ts r left known g

abbrev pub IsLineRead : Pos → OpenFile → List (List ℕ) → Gathering → Type 0
IsLineRead hash file names g = (n : ℕ) × Gathers n hash [] file names g
