-- The same of initialisers, declarations, statements and units.
use Rattle.std.specs.Prelude.{List}
use Rattle.c65_scan.specs.declared.token.Token.{Token}
use Rattle.c65_decl.specs.Initialisers.{initialiser_read}
use Rattle.c65_decl.specs.Decls.{declaration_read}
use Rattle.c65_decl.specs.Statements.{statement_read}
use Rattle.c65_decl.specs.Units.{unit_read}
use Rattle.c65_parse_law_depth.specs.Grows.{Growing, GrowsEverywhere}

-- C90 6.5.7, in a unit of these tokens
abbrev pub InitialisersGrow : Type 0
InitialisersGrow = (unit : List Token) → GrowsEverywhere (λ limit. initialiser_read limit unit)

-- C90 6.5
abbrev pub DeclarationsGrow : Type 0
DeclarationsGrow = (unit : List Token) → GrowsEverywhere (λ limit. declaration_read limit unit)

-- C90 6.6
abbrev pub StatementsGrow : Type 0
StatementsGrow = (unit : List Token) → GrowsEverywhere (λ limit. statement_read limit unit)

-- C90 6.7
abbrev pub UnitsGrow : Type 0
UnitsGrow = (tokens : List Token) → Growing (λ limit. unit_read limit tokens)
