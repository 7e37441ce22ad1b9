-- Each `defined` of an #if or #elif line gives way to 1 or 0 (C90 6.8.1).
use Rattle.std.specs.Prelude.{ℕ, List, [], ◌∷◌, ◌++◌, Bool, if◌then◌else◌, Option, Some, None, is_some, codes}
use Rattle.c65_base.specs.declared.names.Name.{Name}
use Rattle.c65_lex.specs.declared.token.PpKind.TheVariants as kinds
use Rattle.c65_lex.specs.declared.token.PpToken.{PpToken}
use Rattle.c65_macro.specs.Items.{Outcome, done, learn, ◌>>=◌}
use Rattle.c65_macro.specs.Table.{Table, lookup, is_name_kind}
use Rattle.c65_ppline.specs.Tokens.{is_mark, is_word}

-- The name behind `defined`, with or without parentheses, and the tokens behind it.
abbrev pub in_parentheses : List (List ℕ) → List PpToken → Option (Name × List PpToken)
in_parentheses names [] = None
in_parentheses names (t ∷ []) = None
in_parentheses names (t ∷ u ∷ ts) = if is_name_kind t.kind then (if is_mark names (codes ")") u then Some (t.spelling, ts) else None) else None

abbrev pub behind_defined : List (List ℕ) → List PpToken → Option (Name × List PpToken)
behind_defined names [] = None
behind_defined names (t ∷ ts) = if is_name_kind t.kind then Some (t.spelling, ts) else if is_mark names (codes "(") t then in_parentheses names ts else None

-- the token 1 or 0 in the place of another
abbrev pub truth_token : List (List ℕ) → Bool → PpToken → Outcome PpToken
truth_token names b t = learn names (if b then codes "1" else codes "0") >>= λ known name. done known (record { kind = kinds.Number; spelling = name; pos = t.pos; space = t.space })

-- what may come next: anything; behind `defined` a name or a parenthesis; the name within; the closing parenthesis
pub data Looking : Type 0 where
  anything : Looking
  behind : PpToken → Looking
  within : PpToken → Looking
  closing : PpToken → Name → Looking

-- 1 or 0 in the place of each `defined` with its name; nothing where one has none
abbrev pub resolved : Table → Looking → List (List ℕ) → List PpToken → List PpToken → Outcome (Option (List PpToken))
resolved table anything names out [] = done names (Some out)
resolved table (behind d) names out [] = done names None
resolved table (within d) names out [] = done names None
resolved table (closing d name) names out [] = done names None
resolved table anything names out (t ∷ ts) = if is_word names (codes "defined") t then resolved table (behind t) names out ts else resolved table anything names (out ++ t ∷ []) ts
resolved table (behind d) names out (t ∷ ts) = if is_name_kind t.kind then (truth_token names (is_some (lookup table t.spelling)) d >>= λ known new. resolved table anything known (out ++ new ∷ []) ts) else if is_mark names (codes "(") t then resolved table (within d) names out ts else done names None
resolved table (within d) names out (t ∷ ts) = if is_name_kind t.kind then resolved table (closing d t.spelling) names out ts else done names None
resolved table (closing d name) names out (t ∷ ts) = if is_mark names (codes ")") t then (truth_token names (is_some (lookup table name)) d >>= λ known new. resolved table anything known (out ++ new ∷ []) ts) else done names None
