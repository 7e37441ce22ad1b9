-- Lines of directives (C90 6.8): the tokens behind their #.
use Rattle.std.specs.Prelude.{ℕ, List, [], ◌∷◌, Option, Some, None, find, codes, bytes_eq, if◌then◌else◌, ⊤}
use Rattle.c65_base.specs.declared.refusal.Pos.{Pos}
use Rattle.c65_lex.specs.declared.token.PpToken.{PpToken}
use Rattle.c65_ppline.specs.Causes.{IsUnitCode}
use Rattle.c65_macro.specs.Table.{is_name_kind}
use Rattle.c65_scan.specs.Tokens.{spelling_in}
use Rattle.c65_base.specs.declared.code.Code.TheVariants as faults
use Rattle.c65_ppline.specs.declared.directive.Deed.{Deed}
use Rattle.c65_ppline.specs.declared.directive.Deed.TheVariants as deeds
use Rattle.c65_ppline.specs.declared.directive.Directive.{Directive}
use Rattle.c65_ppline.specs.declared.directive.Directive.TheVariants as directives
use Rattle.c65_ppline.specs.declared.directive.Head.{Head}
use Rattle.c65_ppline.specs.declared.directive.Head.TheVariants as heads
use Rattle.c65_ppline.specs.declared.directive.Part.{Part}
use Rattle.c65_ppline.specs.declared.directive.Part.TheVariants as parts
use Rattle.c65_ppline.specs.declared.directive.Test.TheVariants as tests

abbrev pub directive_spelling : Directive → List ℕ
directive_spelling directives.Define = codes "define"
directive_spelling directives.Undef = codes "undef"
directive_spelling directives.Include = codes "include"
directive_spelling directives.If = codes "if"
directive_spelling directives.Ifdef = codes "ifdef"
directive_spelling directives.Ifndef = codes "ifndef"
directive_spelling directives.Elif = codes "elif"
directive_spelling directives.Else = codes "else"
directive_spelling directives.Endif = codes "endif"
directive_spelling directives.Line = codes "line"
directive_spelling directives.Error = codes "error"
directive_spelling directives.Pragma = codes "pragma"

abbrev pub all_directives : List Directive
all_directives = directives.Define ∷ directives.Undef ∷ directives.Include ∷ directives.If ∷ directives.Ifdef ∷ directives.Ifndef ∷ directives.Elif ∷ directives.Else ∷ directives.Endif ∷ directives.Line ∷ directives.Error ∷ directives.Pragma ∷ []

abbrev pub directive_of : List ℕ → Option Directive
directive_of spelling = find (λ d. bytes_eq (directive_spelling d) spelling) all_directives

abbrev pub known : Pos → Option Directive → Head
known place None = heads.Unknown place
known place (Some d) = heads.Known d

-- the first token names the directive; a line with no more tokens is the null directive (6.8.7)
abbrev pub head_of : List (List ℕ) → List PpToken → Head
head_of names [] = heads.Nothing
head_of names (t ∷ ts) = if is_name_kind t.kind then known t.pos (directive_of (spelling_in names t.spelling)) else heads.Misshapen

-- the part of a group that a directive begins or ends
abbrev pub part_by : Directive → Option Part
part_by directives.If = Some (parts.Begin tests.Condition)
part_by directives.Ifdef = Some (parts.Begin tests.Defined)
part_by directives.Ifndef = Some (parts.Begin tests.Undefined)
part_by directives.Elif = Some parts.Alternate
part_by directives.Else = Some parts.Otherwise
part_by directives.Endif = Some parts.End
part_by _ = None

abbrev pub part_of : Head → Option Part
part_of (heads.Known d) = part_by d
part_of _ = None

-- what a directive does
abbrev pub deed_by : Directive → Pos → Deed
deed_by directives.Define hash = deeds.Define
deed_by directives.Undef hash = deeds.Undef
deed_by directives.Include hash = deeds.Include
deed_by directives.If hash = deeds.Group (parts.Begin tests.Condition)
deed_by directives.Ifdef hash = deeds.Group (parts.Begin tests.Defined)
deed_by directives.Ifndef hash = deeds.Group (parts.Begin tests.Undefined)
deed_by directives.Elif hash = deeds.Group parts.Alternate
deed_by directives.Else hash = deeds.Group parts.Otherwise
deed_by directives.Endif hash = deeds.Group parts.End
deed_by directives.Line hash = deeds.Renumber
deed_by directives.Error hash = deeds.Refused faults.ErrorDirective hash
deed_by directives.Pragma hash = deeds.Pragma

abbrev pub deed_of : Pos → Head → Deed
deed_of hash heads.Nothing = deeds.Nothing
deed_of hash (heads.Known d) = deed_by d hash
deed_of hash (heads.Unknown place) = deeds.Refused faults.Directive place
deed_of hash heads.Misshapen = deeds.Refused faults.DirectiveForm hash

-- what a directive does that is refused is a fault of units
abbrev pub IsDeed : Deed → Type 0
IsDeed (deeds.Refused code place) = IsUnitCode code
IsDeed _ = ⊤
