-- Lists of tokens, told by how they are put together.
use Rattle.std.specs.Prelude.{◌≡◌, List, [], ◌∷◌, ◌++◌}
use Rattle.c65_base.specs.declared.refusal.Pos.{Pos}
use Rattle.c65_scan.specs.declared.token.Keyword.{Keyword}
use Rattle.c65_scan.specs.declared.token.Punct.{Punct}
use Rattle.c65_scan.specs.declared.token.Token.{Token}
use Rattle.c65_scan.specs.declared.token.TokenKind.{TokenKind}
use Rattle.c65_scan.specs.declared.token.TokenKind.TheVariants as kinds

abbrev pub Phrase : Type 1
Phrase = List Token → Type 0

-- one after the other
infixr 20 ◌▸◌
abbrev pub ◌▸◌ : Phrase → Phrase → Phrase
(first ▸ second) ts = (xs ys : List Token) × (ts ≡ xs ++ ys) × first xs × second ys

abbrev pub nothing : Phrase
nothing ts = ts ≡ []

abbrev pub never : Phrase
never ts = ⊥

-- under a condition
abbrev pub given : Type 0 → Phrase → Phrase
given p phrase ts = p × phrase ts

-- of some place, as that of the token that ends the phrase
abbrev pub at_some : (Pos → Phrase) → Phrase
at_some f ts = (l : Pos) × f l ts

abbrev pub token : TokenKind → Pos → Token
token k l = record { kind = k; pos = l }

-- one token, at this place or at any
abbrev pub one : Pos → TokenKind → Phrase
one l k ts = ts ≡ token k l ∷ []

abbrev pub some : TokenKind → Phrase
some k = at_some (λ l. one l k)

abbrev pub word : Pos → Keyword → Phrase
word l k = one l (kinds.Keyword k)

abbrev pub some_word : Keyword → Phrase
some_word k = some (kinds.Keyword k)

abbrev pub mark : Pos → Punct → Phrase
mark l p = one l (kinds.Punct p)

abbrev pub some_mark : Punct → Phrase
some_mark p = some (kinds.Punct p)
