-- The tokens of a unit, of which at most 500,000 are no line ends.
use Rattle.std.specs.Prelude.{ℕ, ◌+◌, List, [], ◌∷◌, ◌++◌, count_by, Bool, not, ◌&&◌, nat_le, if◌then◌else◌, Result, Ok, Err}
use Rattle.c65_base.specs.declared.refusal.Size.TheVariants as sizes
use Rattle.c65_base.specs.Limits.{limit_of}
use Rattle.c65_base.specs.Answers.{Fault, large, ◌>>=◌}
use Rattle.c65_lex.specs.declared.token.PpToken.{PpToken}
use Rattle.c65_macro.specs.Table.{is_line_end}

abbrev pub is_counted : PpToken → Bool
is_counted t = not (is_line_end t)

abbrev pub counted : List PpToken → ℕ
counted ts = count_by is_counted ts

-- a token is added
abbrev pub with_token : List PpToken → PpToken → Result (List PpToken) Fault
with_token tokens t = if is_counted t && nat_le (limit_of sizes.Tokens) (counted tokens) then Err (large sizes.Tokens (limit_of sizes.Tokens + 1)) else Ok (tokens ++ t ∷ [])

-- these are added in their order
abbrev pub with_tokens : List PpToken → List PpToken → Result (List PpToken) Fault
with_tokens tokens [] = Ok tokens
with_tokens tokens (t ∷ ts) = with_token tokens t >>= λ more. with_tokens more ts
