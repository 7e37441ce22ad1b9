-- The token that stands at the front of tokens, and what is behind it.
use Rattle.std.specs.Prelude.{List, Bool, false, ◌||◌, Option, Some, None, Result, Ok, Err, if◌then◌else◌}
use Rattle.c65_base.specs.Answers.{Fault}
use Rattle.c65_base.specs.declared.names.Name.{Name}
use Rattle.c65_base.specs.declared.refusal.Pos.{Pos}
use Rattle.c65_scan.specs.declared.token.Token.{Token}
use Rattle.c65_parse_names.specs.Scopes.{Blocks, is_type_in}
use Rattle.c65_parse.specs.Machine.{fault_at}
use Rattle.c65_parse.specs.Reading.{Answer, token_at, after_token}
use Rattle.c65_parse_frames.specs.declared.sign.Sign.{Sign}
use Rattle.c65_parse_frames.specs.declared.sign.Mark.{Mark}
use Rattle.c65_parse_frames.specs.declared.sign.Mark.TheVariants as marks
use Rattle.c65_parse_frames.specs.Signs.{sign_of, is_mark}
use Rattle.c65_decl.specs.Words.{name_of, is_specifier}

abbrev pub sign_here : List Token → Sign
sign_here ts = sign_of (token_at ts 0).kind

abbrev pub pos_here : List Token → Pos
pos_here ts = (token_at ts 0).pos

abbrev pub is_here : Mark → List Token → Bool
is_here mark ts = is_mark mark (sign_here ts)

abbrev pub colon_follows : List Token → Bool
colon_follows ts = is_mark marks.Colon (sign_of (token_at ts 1).kind)

abbrev pub names_type : Blocks → Option Name → Bool
names_type scope None = false
names_type scope (Some n) = is_type_in scope n

abbrev pub is_type_here : Blocks → List Token → Bool
is_type_here scope ts = names_type scope (name_of (sign_here ts))

-- C90 6.5
abbrev pub begins_specifiers : Blocks → List Token → Bool
begins_specifiers scope ts = is_specifier (sign_here ts) || is_type_here scope ts

-- the fault of the token here
abbrev pub unexpected : {A : Type 0} → List Token → Result A Fault
unexpected ts = Err (fault_at (token_at ts 0))

abbrev pub expected : Mark → Blocks → List Token → Result (List Token × Blocks) Fault
expected mark scope ts = if is_here mark ts then Ok (after_token ts, scope) else unexpected ts

abbrev pub name_by : Option Name → Blocks → List Token → Answer Name
name_by None scope ts = unexpected ts
name_by (Some n) scope ts = Ok (n, after_token ts, scope)

abbrev pub name_read : Blocks → List Token → Answer Name
name_read scope ts = name_by (name_of (sign_here ts)) scope ts
