-- Which tokens directives look for.
use Rattle.std.specs.Prelude.{ℕ, List, [], ◌∷◌, Bool, true, false, ◌&&◌, bytes_eq}
use Rattle.c65_lex.specs.declared.token.PpKind.{PpKind}
use Rattle.c65_lex.specs.declared.token.PpKind.TheVariants as kinds
use Rattle.c65_lex.specs.declared.token.PpToken.{PpToken}
use Rattle.c65_macro.specs.Table.{is_name_kind, is_punct_kind}
use Rattle.c65_scan.specs.Tokens.{spelling_in}

abbrev pub is_mark : List (List ℕ) → List ℕ → PpToken → Bool
is_mark names spelling t = is_punct_kind t.kind && bytes_eq (spelling_in names t.spelling) spelling

abbrev pub is_word : List (List ℕ) → List ℕ → PpToken → Bool
is_word names spelling t = is_name_kind t.kind && bytes_eq (spelling_in names t.spelling) spelling

abbrev pub behind_first : List PpToken → List PpToken
behind_first [] = []
behind_first (t ∷ ts) = ts

abbrev pub is_kind_number : PpKind → Bool
is_kind_number kinds.Number = true
is_kind_number _ = false
