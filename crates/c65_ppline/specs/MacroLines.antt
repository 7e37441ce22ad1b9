-- What whole lines of #define, #undef, #ifdef, #ifndef and #pragma do (C90 6.8.1, 6.8.3 and 6.8.6).
use Rattle.std.specs.Prelude.{ℕ, List, [], ◌∷◌, Bool, false, Result, Ok, Err, codes, if◌then◌else◌, is_some}
use Rattle.c65_base.specs.declared.code.Code.TheVariants as faults
use Rattle.c65_base.specs.Answers.{Fault, at, ◌>>=◌}
use Rattle.c65_lex.specs.declared.token.PpToken.{PpToken}
use Rattle.c65_macro.specs.Definitions.{define}
use Rattle.c65_macro.specs.Table.{Table, lookup, removed}
use Rattle.c65_ppline.specs.declared.line.Line.{Line}
use Rattle.c65_ppline.specs.Lines.{ending, on_line, rest}
use Rattle.c65_ppline.specs.Tokens.{is_word}
use Rattle.c65_ppline.specs.DefineLines.{definition, removal, only_name}

-- the macros behind a #define line
abbrev pub defined : Table → List (List ℕ) → Line → Result Table Fault
defined table names line = on_line line.hash line.cut (definition table names (rest line)) >>= λ d. define table d.0 d.1

-- the macros behind an #undef line
abbrev pub undefined : Table → List (List ℕ) → Line → Result Table Fault
undefined table names line = on_line line.hash line.cut (removal table names (rest line)) >>= λ name. Ok (removed table name)

-- whether the only name of an #ifdef or #ifndef line is that of a macro
abbrev pub is_defined : Table → Line → Result Bool Fault
is_defined table line = on_line line.hash line.cut (only_name (rest line)) >>= λ name. Ok (is_some (lookup table name))

-- a #pragma line does nothing, and is refused where its tokens begin with charmap
abbrev pub begins_charmap : List (List ℕ) → List PpToken → Bool
begins_charmap names [] = false
begins_charmap names (t ∷ ts) = is_word names (codes "charmap") t

abbrev pub pragma : List (List ℕ) → Line → Result (Unit {0}) Fault
pragma names line = if begins_charmap names (rest line) then Err (at faults.Charmap line.hash) else ending line.cut
