-- Lines of #define, #undef, #ifdef and #ifndef: the tokens behind the directive's name (C90 6.8.1 and 6.8.3).
use Rattle.std.specs.Prelude.{ℕ, ◌+◌, List, [], ◌∷◌, ◌++◌, length, Bool, not, ◌&&◌, ◌||◌, nat_le, if◌then◌else◌, Option, Some, None, option_map, Result, Ok, Err, codes}
use Rattle.c65_base.specs.declared.names.Name.{Name}
use Rattle.c65_base.specs.declared.refusal.Pos.{Pos}
use Rattle.c65_base.specs.declared.code.Code.TheVariants.{PredefinedName}
use Rattle.c65_base.specs.declared.refusal.Size.TheVariants.{MacroArguments}
use Rattle.c65_base.specs.Answers.{at, large}
use Rattle.c65_base.specs.Limits.{limit_of}
use Rattle.c65_lex.specs.declared.token.PpToken.{PpToken}
use Rattle.c65_macro.specs.declared.item.Macro.{Macro}
use Rattle.c65_macro.specs.Table.{Table, is_name_kind, is_predefined}
use Rattle.c65_macro.specs.Definitions.{has_name, is_nothing}
use Rattle.c65_ppline.specs.declared.definition.Shape.{Shape}
use Rattle.c65_ppline.specs.Misfits.{Trouble, short, wrong, stopped, ◌then◌}
use Rattle.c65_ppline.specs.Tokens.{is_mark, is_word, behind_first}

-- the parameters of a function-like macro, or none, and a body
abbrev pub Parts : Type 0
Parts = Option (List Name) × List PpToken

abbrev pub parts_of : Shape → Parts
parts_of s = (option_map (λ ps. ps.items) s.params, s.body.items)

-- a parameter is a name that no parameter before it has; there are at most 127
abbrev pub with_parameter : List Name → PpToken → Result (List Name) Trouble
with_parameter ps t = if not (is_name_kind t.kind) || has_name ps t.spelling then Err wrong else if nat_le (limit_of MacroArguments) (length ps) then Err (stopped (large MacroArguments (limit_of MacroArguments + 1))) else Ok (ps ++ t.spelling ∷ [])

-- parameters with commas between them, up to the closing parenthesis
abbrev pub parameters : List (List ℕ) → List Name → List PpToken → Result Parts Trouble
parameters names ps [] = Err short
parameters names ps (t ∷ []) = with_parameter ps t then λ qs. Err short
parameters names ps (t ∷ u ∷ ts) = with_parameter ps t then λ qs. if is_mark names (codes ")") u then Ok (Some qs, ts) else if is_mark names (codes ",") u then parameters names qs ts else Err wrong

abbrev pub parameter_list : List (List ℕ) → List PpToken → Result Parts Trouble
parameter_list names [] = Err short
parameter_list names (t ∷ ts) = if is_mark names (codes ")") t then Ok (Some [], ts) else parameters names [] (t ∷ ts)

-- parameters stand where a parenthesis follows the name with no white space before it
abbrev pub shape : List (List ℕ) → List PpToken → Result Parts Trouble
shape names [] = Ok (None, [])
shape names (t ∷ ts) = if is_mark names (codes "(") t && not t.space then parameter_list names ts else Ok (None, t ∷ ts)

-- predefined names, and `defined`, are neither defined nor removed
abbrev pub is_free : Table → List (List ℕ) → PpToken → Bool
is_free table names t = not (is_predefined table t.spelling) && not (is_word names (codes "defined") t)

abbrev pub free_name : Table → List (List ℕ) → List PpToken → Result PpToken Trouble
free_name table names [] = Err short
free_name table names (t ∷ ts) = if not (is_name_kind t.kind) then Err wrong else if is_free table names t then Ok t else Err (stopped (at PredefinedName t.pos))

abbrev pub macro_of : Name → Parts → Macro
macro_of name parts = record { name = name; params = parts.0; body = parts.1 }

-- the macro that a #define line defines, and where its name stands
abbrev pub definition : Table → List (List ℕ) → List PpToken → Result (Macro × Pos) Trouble
definition table names ts = free_name table names ts then λ t. shape names (behind_first ts) then λ parts. Ok (macro_of t.spelling parts, t.pos)

-- the name that an #undef line removes
abbrev pub removal : Table → List (List ℕ) → List PpToken → Result Name Trouble
removal table names ts = free_name table names ts then λ t. if is_nothing (behind_first ts) then Ok t.spelling else Err wrong

-- the only name of an #ifdef or #ifndef line
abbrev pub only_name : List PpToken → Result Name Trouble
only_name [] = Err short
only_name (t ∷ ts) = if is_name_kind t.kind && is_nothing ts then Ok t.spelling else Err wrong
