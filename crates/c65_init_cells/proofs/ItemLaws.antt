-- The items of a list, as the code takes them.
use Rattle.std.proofs.Common.{◌≡◌, ◌≤◌, List, [], ◌∷◌, ◌++◌, length, get_or, Vec, Global, map, Bool, true, refl, sym, ap, ◌∙◌, arith, Err}
use Rattle.c65_base.specs.declared.code.Code.TheVariants.{Initialiser as InitialiserCode}
use Rattle.c65_base.specs.Answers.{at}
use Rattle.std.proofs.lemmas.List.{append-nil}
use Rattle.c65_base.specs.declared.refusal.Pos.{Pos}
use Rattle.c65_tree.specs.declared.stmt.Initialiser.{Initialiser}
use Rattle.c65_tree.specs.declared.stmt.InitKind.{InitKind}
use Rattle.c65_tree.specs.declared.stmt.InitKind.TheVariants as i
use Rattle.c65_tree.specs.Trees as t
use Rattle.c65_tree.specs.View as v
use Rattle.c65_tree.proofs.Views.{list_view}
use Rattle.c65_init_cells.specs.Items.{items_before, items_of, place_of, first_place}
use Rattle.c65_init_cells.specs.Values.{only_value, scalar_value, only_text, init_text, is_list}

items_from : (xs : t.InitList) (is : List Initialiser) (ys : List t.InitTree) → items_before (v.inits_from xs is) ys ≡ items_before xs (map v.init_of is ++ ys)
items_from xs [] ys = refl
items_from xs (i ∷ is) ys = items_from (t.and_init xs (v.init_of i)) is ys

pub items_are : (is : List Initialiser) → items_of (v.inits_from t.no_inits is) ≡ map v.init_of is
items_are is = items_from t.no_inits is [] ∙ append-nil (map v.init_of is)

pub place_is : (l : Pos) (k : InitKind) → place_of (v.init_at l k) ≡ l
place_is l (i.Value e) = refl
place_is l (i.List' shape is) = refl

pub first_is : (is : List Initialiser) (x : Initialiser) → 1 ≤ length is → x ≡ get_or is 0 x → x.pos ≡ first_place (map v.init_of is)
first_is [] x h is = absurd (omega (arith, h))
first_is (y ∷ ys) x h is = ap (λ (z : Initialiser). z.pos) is ∙ sym (place_is y.pos y.kind)

pub second_is : (p : Pos) (is : List Initialiser) (x : Initialiser) → 2 ≤ length is → x ≡ get_or is 1 x → only_value p (map v.init_of is) ≡ Err (at InitialiserCode x.pos)
second_is p [] x h is = absurd (omega (arith, h))
second_is p (y ∷ []) x h is = absurd (omega (arith, h))
second_is p (y ∷ z ∷ zs) x h is = ap (λ (l : Pos). Err (at InitialiserCode l)) (place_is z.pos z.kind ∙ ap (λ (w : Initialiser). w.pos) (sym is))

pub value_list : (l : Pos) (is : Vec Initialiser Global) → scalar_value (v.init_at l (i.List is)) ≡ only_value l (map v.init_of is.items)
value_list l is = ap scalar_value (list_view l is) ∙ ap (only_value l) (items_are is.items)

pub text_list : (l : Pos) (is : Vec Initialiser Global) → init_text (v.init_at l (i.List is)) ≡ only_text (map v.init_of is.items)
text_list l is = ap init_text (list_view l is) ∙ ap only_text (items_are is.items)

pub list_is : (l : Pos) (is : Vec Initialiser Global) → is_list (v.init_at l (i.List is)) ≡ true
list_is l is = ap is_list (list_view l is)
