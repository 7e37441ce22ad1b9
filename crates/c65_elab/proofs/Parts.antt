-- The parts of trees, as the code takes them.
use Rattle.std.proofs.Common.{◌≡◌, ◌∙◌, ℕ, ◌+◌, ◌<◌, List, [], ◌∷◌, ◌++◌, length, map, take, reverse, get_or, refl, sym, ap}
use Rattle.std.proofs.lemmas.List.{length-map, take_more, reverse-append}
use denote.Hole.Carrier
use Rattle.c65_base.specs.declared.refusal.Pos.{Pos}
use Rattle.c65_csem.specs.declared.items.Parts.{Parts}
use Rattle.c65_csem.specs.Views.{unit_of, object_of}
use Rattle.c65_elab_declare.specs.declared.parts.Part.{Part}
use Rattle.c65_elab_declare.specs.Declarators.{part_of}
use Rattle.c65_tree.specs.declared.expr.ExprKind.{ExprKind}
use Rattle.c65_tree.specs.declared.expr.ExprKind.TheVariants as x
use Rattle.c65_tree.specs.declared.expr.DeclaratorKind.{DeclaratorKind}
use Rattle.c65_tree.specs.declared.expr.DeclaratorKind.TheVariants as d
use Rattle.c65_tree.specs.declared.expr.TypeName.{TypeName, TypeName', out-TypeName}
use Rattle.c65_tree.specs.Trees as t
use Rattle.c65_tree.specs.View as v
use Rattle.c65_elab.specs.Headings.{declarator_place}
use Rattle.c65_elab.specs.Places.{place_of}

pub place_is : (l : Pos) (k : ExprKind) → place_of (v.expr_at l k) ≡ l
place_is l (x.Name n) = refl
place_is l (x.Number k n) = refl
place_is l (x.Text bs) = refl
place_is l (x.Paren' b k e) = refl
place_is l (x.Index' b k a c j n) = refl
place_is l (x.Call' b k f shape es) = refl
place_is l (x.Member' b k e arrow n) = refl
place_is l (x.Step' how b k e) = refl
place_is l (x.Unary' op b k e) = refl
place_is l (x.SizeofExpr' b k e) = refl
place_is l (x.SizeofType' b u) = refl
place_is l (x.Cast' b u c k e) = refl
place_is l (x.Binary' op b k a c j n) = refl
place_is l (x.And' b k a c j n) = refl
place_is l (x.Or' b k a c j n) = refl
place_is l (x.Cond' b k a c j n f g o) = refl
place_is l (x.Assign' op b k a c j n) = refl
place_is l (x.Comma' b k a c j n) = refl

pub declarator_place_is : (l : Pos) (k : DeclaratorKind) → declarator_place (v.declarator_at l k) ≡ l
declarator_place_is l d.Abstract = refl
declarator_place_is l (d.Name n) = refl
declarator_place_is l (d.Paren' b k e) = refl
declarator_place_is l (d.Calling' cdecl b k e) = refl
declarator_place_is l (d.Pointer' c w b k e) = refl
declarator_place_is l (d.Array' b k e n) = refl
declarator_place_is l (d.Function' b k e ps) = refl

pub type_view : (n : TypeName) → v.type_of n ≡ t.type_name (v.specifiers_of (out-TypeName n).specifiers) (v.declarator_of (out-TypeName n).declarator)
unfolding out-TypeName Carrier.out
type_view (TypeName' q l k) = refl

pub objects_many : (u : Parts) → length (unit_of u).objects ≡ length u.objects.items
objects_many u = length-map u.objects.items object_of

pub parts_many : (ps : List Part) → length (map part_of ps) ≡ length ps
parts_many ps = length-map ps part_of

pub latest_first : {A : Type 0} (xs : List A) (k : ℕ) (x : A) → k < length xs → x ≡ get_or xs k x → reverse (take (k + 1) xs) ≡ x ∷ reverse (take k xs)
latest_first xs k x h is = ap reverse (take_more xs k x h ∙ ap (λ y. take k xs ++ y ∷ []) (sym is)) ∙ reverse-append (take k xs) (x ∷ [])
