-- Specifiers, members, enumerators and parameters that are being read.
use Rattle.std.specs.Prelude.{List, Bool, true, false, if◌then◌else◌, Option, None, Some}
use Rattle.c65_base.specs.declared.refusal.Pos.{Pos}
use Rattle.c65_base.specs.declared.names.Name.{Name}
use Rattle.c65_tree.specs.declared.expr.Storage.{Storage}
use Rattle.c65_tree.specs.declared.expr.Storage.TheVariants as storages
use Rattle.c65_tree.specs.Trees
use Rattle.c65_tree.specs.Trees.{SpecifierTree, SpecifierList, SpecifiersTree, MemberDeclList, MemberList, EnumeratorList, DeclaratorTree, ParamList, no_specifiers, and_specifier, no_members, the_members, no_enumerators, the_enumerators}
use Rattle.c65_parse_trees.specs.declared.sign.TagWord.{TagWord}
use Rattle.c65_parse_trees.specs.declared.sign.TagWord.TheVariants as tags
use Rattle.c65_parse_trees.specs.declared.sign.Word.{Word}
use Rattle.c65_parse_trees.specs.Signs.{word_of, is_type_word}

-- specifiers so far: the place of the first, whether a type specifier and whether typedef is among them, and whether
-- a storage class may stand there
pub record Listing : Type 0 where
  pub first : Option Pos
  pub items : SpecifierList
  pub has_type : Bool
  pub is_typedef : Bool
  pub takes_storage : Bool

-- specifiers that have ended
pub record Listed : Type 0 where
  pub tree : SpecifiersTree
  pub has_type : Bool
  pub is_typedef : Bool

-- a structure, union or enumeration whose word has been read
pub record TagPart : Type 0 where
  pub outer : Listing
  pub pos : Pos
  pub word : TagWord

-- a structure or union whose members are being read
pub record Body : Type 0 where
  pub outer : Listing
  pub pos : Pos
  pub is_union : Bool
  pub tag : Option Name
  pub decls : MemberDeclList

-- a declaration of members
pub record MembersPart : Type 0 where
  pub body : Body
  pub specifiers : Listed
  pub members : MemberList

-- an enumeration whose enumerators are being read
pub record EnumPart : Type 0 where
  pub outer : Listing
  pub pos : Pos
  pub tag : Option Name
  pub enumerators : EnumeratorList

-- a function declarator whose parameters are being read
pub record ParamsPart : Type 0 where
  pub pos : Pos
  pub declarator : DeclaratorTree
  pub params : ParamList

-- a function declarator whose identifier list is being read
pub record NamesPart : Type 0 where
  pub pos : Pos
  pub declarator : DeclaratorTree
  pub names : List (Name × Pos)

abbrev pub nothing_listed : Bool → Listing
nothing_listed takes_storage = record { first = None; items = no_specifiers; has_type = false; is_typedef = false; takes_storage = takes_storage }

abbrev pub first_or : Option Pos → Pos → Pos
first_or None l = l
first_or (Some first) l = first

abbrev pub either : Bool → Bool → Bool
either a b = if a then true else b

-- with one more specifier
abbrev pub list_with : Listing → Pos → SpecifierTree → Bool → Bool → Listing
list_with q l item is_type is_typedef = record { first = Some (first_or q.first l); items = and_specifier q.items item; has_type = either q.has_type is_type; is_typedef = either q.is_typedef is_typedef; takes_storage = q.takes_storage }

abbrev pub is_typedef_word : Storage → Bool
is_typedef_word storages.Typedef = true
is_typedef_word storages.Extern = false
is_typedef_word storages.Static = false
is_typedef_word storages.Auto = false
is_typedef_word storages.Register = false

abbrev pub with_storage : Listing → Pos → Storage → Listing
with_storage q l c = list_with q l (Trees.storage l c) false (is_typedef_word c)

abbrev pub with_word : Listing → Pos → Word → Listing
with_word q l w = list_with q l (Trees.word l (word_of w)) (is_type_word w) false

abbrev pub with_typedef_name : Listing → Pos → Name → Listing
with_typedef_name q l n = list_with q l (Trees.typedef_name l n) true false

abbrev pub tag_tree : Pos → TagWord → Name → SpecifierTree
tag_tree l tags.Struct n = Trees.tagged l false (Some n) no_members
tag_tree l tags.Union n = Trees.tagged l true (Some n) no_members
tag_tree l tags.Enum n = Trees.enum l (Some n) no_enumerators

-- a tag alone
abbrev pub with_tag : TagPart → Name → Listing
with_tag part n = list_with part.outer part.pos (tag_tree part.pos part.word n) true false

-- a structure or union with its members
abbrev pub with_body : Body → Listing
with_body b = list_with b.outer b.pos (Trees.tagged b.pos b.is_union b.tag (the_members b.decls)) true false

-- an enumeration with its enumerators
abbrev pub with_enum : EnumPart → Listing
with_enum part = list_with part.outer part.pos (Trees.enum part.pos part.tag (the_enumerators part.enumerators)) true false

-- the specifiers, before a token at this place
abbrev pub ended : Listing → Pos → Listed
ended q l = record { tree = Trees.specifiers (first_or q.first l) q.items; has_type = q.has_type; is_typedef = q.is_typedef }
