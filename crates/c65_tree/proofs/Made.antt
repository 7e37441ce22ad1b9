-- Specifiers and declarations of members, made from their parts.
use Rattle.std.proofs.Common.{◌≡◌, Vec, Global, ap, ◌∙◌}
use mathlib.Core.Former.{Count}
use denote.Hole.Carrier
use Rattle.c65_base.specs.declared.refusal.Pos.{Pos}
use Rattle.c65_tree.specs.declared.expr.Specifier.{Specifier}
use Rattle.c65_tree.specs.declared.expr.Specifiers.{Specifiers, Specifiers', roll-Specifiers}
use Rattle.c65_tree.specs.declared.expr.MemberDeclarator.{MemberDeclarator}
use Rattle.c65_tree.specs.declared.expr.MemberDecl.{MemberDecl, MemberDecl', roll-MemberDecl}
use Rattle.c65_tree.specs.declared.expr.DeclaratorKind.TheBlock as b
use Rattle.c65_tree.specs.Trees
use Rattle.c65_tree.specs.View as v
use Rattle.c65_tree.proofs.Views.{specifiers_row, members_row}

abbrev specifier_row : Specifiers → (n : Count) × b.Row_of-Specifier n
specifier_row (Specifiers' l shape row) = (_, row)

pub specifiers_made : (l : Pos) (items : Vec Specifier Global) → v.specifiers_of (roll-Specifiers record { pos = l; items = items }) ≡ Trees.specifiers l (v.specifiers_from Trees.no_specifiers items.items)
unfolding roll-Specifiers Carrier.roll
specifiers_made l items =
    let row = specifier_row (roll-Specifiers record { pos = l; items = items }) in
    let same = b.items_hidden-the_row-Specifier-5 items in
    ap (Trees.specifiers l) (specifiers_row row.0 Trees.no_specifiers row.1 ∙ ap (v.specifiers_from Trees.no_specifiers) same)

abbrev member_row : MemberDecl → (n : Count) × b.Row_of-MemberDeclarator n
member_row (MemberDecl' q shape row) = (_, row)

pub member_decl_made : (xs : Trees.MemberDeclList) (q : Specifiers) (items : Vec MemberDeclarator Global) → v.with_member_decl xs (roll-MemberDecl record { specifiers = q; declarators = items }) ≡ Trees.and_member_decl xs (v.specifiers_of q) (v.members_from Trees.no_more_members items.items)
unfolding roll-MemberDecl Carrier.roll
member_decl_made xs q items =
    let row = member_row (roll-MemberDecl record { specifiers = q; declarators = items }) in
    let same = b.items_hidden-the_row-MemberDeclarator-4 items in
    ap (Trees.and_member_decl xs (v.specifiers_of q)) (members_row row.0 Trees.no_more_members row.1 ∙ ap (v.members_from Trees.no_more_members) same)
