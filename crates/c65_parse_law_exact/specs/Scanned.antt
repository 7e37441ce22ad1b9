-- What the parser answers of the tokens that the scanner gives: no premise is left.
use Rattle.std.specs.Prelude.{◌≡◌, ℕ, List, Result, Ok, Err}
use Rattle.c65_base.specs.Limits.{limit_of}
use Rattle.c65_base.specs.declared.refusal.Size.TheVariants.{Depth}
use Rattle.c65_base.specs.Answers.{Fault, at, large}
use Rattle.c65_base.specs.declared.refusal.Refusal.{Refusal}
use Rattle.c65_base.specs.declared.refusal.Refusal.TheVariants as refusals
use Rattle.c65_lex.specs.declared.token.PpToken.{PpToken}
use Rattle.c65_scan.specs.declared.token.Token.{Token}
use Rattle.c65_scan.specs.Tokens.{tokens_of}
use Rattle.c65_tree.specs.Trees as t
use Rattle.c65_decl.specs.Units.{unit_read}
use Rattle.c65_parse_law_sound.specs.Units.{EndsOnce}
use Rattle.c65_parse_law_exact.specs.Exact.{ReadsUnit}

-- the last of scanned tokens is their only `End`
abbrev pub ScannedTokensEndOnce : Type 0
ScannedTokensEndOnce = (names : List (List ℕ)) (ts : List PpToken) (tokens : List Token) → tokens_of names ts ≡ Ok tokens → EndsOnce tokens

abbrev pub refused : Result t.UnitTree Fault → Result t.UnitTree Refusal
refused (Ok unit) = Ok unit
refused (Err (at code pos)) = Err (refusals.At code pos)
refused (Err (large size value)) = Err (refusals.TooLarge size value)

-- so the unit that stands for them is the only one, or the refusal stands where no unit goes on, or where only a deeper one does
abbrev pub ScannedUnitsAreRead : Type 0
ScannedUnitsAreRead = (names : List (List ℕ)) (ts : List PpToken) (tokens : List Token) → tokens_of names ts ≡ Ok tokens → ReadsUnit tokens (λ u. u) (refused (unit_read (limit_of Depth) tokens))
