-- Which structure, union or enumeration a specifier names (C90 6.5.2.3).
use Rattle.std.specs.Prelude.{ℕ, List, [], ◌∷◌, Bool, true, false, ◌||◌, Option, Some, None, option_map, is_some, Result, Ok, Err, if◌then◌else◌}
use Rattle.c65_base.specs.declared.code.Code.TheVariants.{TagKind, Undeclared, Specifiers}
use Rattle.c65_base.specs.declared.names.Name.{Name}
use Rattle.c65_base.specs.declared.refusal.Pos.{Pos}
use Rattle.c65_base.specs.Answers.{Fault, at, ◌>>=◌}
use Rattle.c65_ints.specs.declared.types.IntType.TheVariants.{Int}
use Rattle.c65_ctype.specs.Trees.{int, QTy}
use Rattle.c65_ctype.specs.Compatible.{same_bool}
use Rattle.c65_ctype.specs.Tables.{layout_at}
use Rattle.c65_ctype.specs.Tags.{kind_of}
use Rattle.c65_csem.specs.Places.{plain}
use Rattle.c65_elab_scope.specs.declared.meaning.Bound.{Bound}
use Rattle.c65_elab_scope.specs.declared.meaning.Meaning.{Meaning}
use Rattle.c65_elab_scope.specs.declared.meaning.Meaning.TheVariants as m
use Rattle.c65_elab_scope.specs.Tables.{found, found_in}
use Rattle.c65_elab_scope.specs.Scopes.{ScopeTy, tag_bound}
use Rattle.c65_elab_scope.specs.Declaring.{tag_opened}
use Rattle.c65_tree.specs.declared.expr.Specifier.{Specifier}
use Rattle.c65_tree.specs.Trees as t
use Rattle.c65_tree.specs.View.{specifier_of}

-- a new structure or union, whose tag is of the innermost block
abbrev pub new_tag : ScopeTy → Bool → Option Name → Result (ℕ × ScopeTy) Fault
new_tag s is_union None = tag_opened s is_union
new_tag s is_union (Some n) = tag_opened s is_union >>= (λ x. tag_bound x.1 n (m.Tag x.0) >>= (λ y. Ok (x.0, y)))

abbrev pub is_kind : Option Bool → Bool → Bool
is_kind None is_union = false
is_kind (Some kind) is_union = same_bool kind is_union

-- a structure stays one, and a union too
abbrev pub same_kind : ScopeTy → Meaning → Bool → Pos → Result ℕ Fault
same_kind s (m.Tag tag) is_union p = if is_kind (kind_of s.unit.types tag) is_union then Ok tag else Err (at TagKind p)
same_kind s _ is_union p = Err (at TagKind p)

abbrev pub meaning_in : Option Bound → Option Meaning
meaning_in None = None
meaning_in (Some b) = Some b.meaning

abbrev pub meant_tag : ScopeTy → Name → Bool → Option Meaning
meant_tag s n alone = if alone then found_in s.tags n s.block else meaning_in (found s.tags n)

abbrev pub tag_meant : ScopeTy → Bool → Name → Pos → Option Meaning → Result (ℕ × ScopeTy) Fault
tag_meant s is_union n p None = new_tag s is_union (Some n)
tag_meant s is_union n p (Some a) = same_kind s a is_union p >>= (λ tag. Ok (tag, s))

-- where it stands alone in its declaration, a tag is of the innermost block
abbrev pub named_tag : ScopeTy → Bool → Option Name → Bool → Pos → Result (ℕ × ScopeTy) Fault
named_tag s is_union None alone p = new_tag s is_union None
named_tag s is_union (Some n) alone p = tag_meant s is_union n p (meant_tag s n alone)

-- a tag is defined once
abbrev pub unfinished : ScopeTy → Pos → ℕ → Result (ℕ × ScopeTy) Fault
unfinished s p tag = if is_some (layout_at s.unit.types tag) then Err (at TagKind p) else Ok (tag, s)

abbrev pub tag_begun : ScopeTy → Bool → Name → Pos → Option Meaning → Result (ℕ × ScopeTy) Fault
tag_begun s is_union n p None = new_tag s is_union (Some n)
tag_begun s is_union n p (Some a) = same_kind s a is_union p >>= (λ tag. unfinished s p tag)

abbrev pub begun_tag : ScopeTy → Bool → Option Name → Pos → Result (ℕ × ScopeTy) Fault
begun_tag s is_union None p = new_tag s is_union None
begun_tag s is_union (Some n) p = tag_begun s is_union n p (found_in s.tags n s.block)

-- an enumeration is declared with its constants before it is named
abbrev pub enumeration_kind : Pos → Meaning → Result QTy Fault
enumeration_kind p m.Enumeration = Ok (plain (int Int))
enumeration_kind p _ = Err (at TagKind p)

abbrev pub enumeration_meant : Pos → Option Bound → Result QTy Fault
enumeration_meant p None = Err (at Undeclared p)
enumeration_meant p (Some b) = enumeration_kind p b.meaning

abbrev pub named_enumeration : ScopeTy → Option Name → Pos → Result QTy Fault
named_enumeration s None p = Err (at Specifiers p)
named_enumeration s (Some n) p = enumeration_meant p (found s.tags n)

abbrev pub begun_enumeration : ScopeTy → Option Name → Pos → Result ScopeTy Fault
begun_enumeration s None p = Ok s
begun_enumeration s (Some n) p = if is_some (found_in s.tags n s.block) then Err (at TagKind p) else tag_bound s n m.Enumeration

-- the word `signed` stands among specifiers
abbrev pub is_signed_word : t.SpecifierTree → Bool
is_signed_word (t.word p t.signed) = true
is_signed_word _ = false

abbrev pub signed_among : t.SpecifierList → Bool
signed_among t.no_specifiers = false
signed_among (t.and_specifier qs q) = if signed_among qs then true else is_signed_word q

-- the same of a list of the code
abbrev pub any_signed : List Specifier → Bool
any_signed [] = false
any_signed (q ∷ qs) = if is_signed_word (specifier_of q) then true else any_signed qs

abbrev pub is_signed : t.SpecifiersTree → Bool
is_signed (t.specifiers p qs) = signed_among qs
