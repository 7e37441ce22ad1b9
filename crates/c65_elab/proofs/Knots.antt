-- The constructs that hold a Vec, as the code takes them.
use Rattle.std.proofs.Common.{◌≡◌, ℕ, List, [], length, map, Bool, true, false, Option, Some, None, Vec, Box, Global, refl, sym, ap, ◌∙◌, subst, Ok, Err}
use Rattle.std.specs.Prelude.{Result, ℤ, not, ◌&&◌, ◌==◌, is_some}
use Rattle.c65_base.specs.declared.names.Name.{Name}
use Rattle.c65_base.specs.declared.refusal.Pos.{Pos}
use Rattle.c65_base.specs.declared.refusal.Refusal.{Refusal}
use Rattle.c65_base.specs.Answers.{Fault, Fails, Gives, ◌>>=◌}
use Rattle.c65_ints.specs.declared.types.IntType.TheVariants as ints
use Rattle.c65_ctype.specs.declared.types.QType.{QType}
use Rattle.c65_ctype.specs.Trees as y
use Rattle.c65_ctype.specs.Trees.{QTy, FieldTy}
use Rattle.c65_ctype.specs.Views.{qty_of}
use Rattle.c65_csem.specs.Places.{plain}
use Rattle.c65_csem.specs.Trees.{Typed, Nodes}
use Rattle.c65_elab_convert.specs.Calls.{call_of}
use Rattle.c65_elab_declare.specs.Declarators as d
use Rattle.c65_elab_declare.specs.Declarators.{FormalTy, FormalsTy}
use Rattle.c65_elab_declare.specs.Drafts as w
use Rattle.c65_elab_declare.specs.Drafts.{DraftTy}
use Rattle.c65_elab_declare.specs.Prototypes.{without_void}
use Rattle.c65_elab_declare.specs.Tagging.{begun_tag, begun_enumeration}
use Rattle.c65_elab_scope.specs.Scopes.{ScopeTy, opened, char_of}
use Rattle.c65_elab_scope.specs.Declaring.{tag_finished}
use Rattle.c65_tree.specs.declared.expr.Storage.{Storage}
use Rattle.c65_tree.specs.declared.expr.Expr.{Expr}
use Rattle.c65_tree.specs.declared.expr.ExprKind.TheVariants as x
use Rattle.c65_tree.specs.declared.expr.Enumerator.{Enumerator}
use Rattle.c65_tree.specs.declared.expr.MemberDecl.{MemberDecl}
use Rattle.c65_tree.specs.declared.expr.Param.{Param}
use Rattle.c65_tree.specs.declared.expr.Params.TheVariants as p
use Rattle.c65_tree.specs.declared.expr.Specifier.{Specifier}
use Rattle.c65_tree.specs.declared.expr.Specifiers.{Specifiers, out-Specifiers}
use Rattle.c65_tree.specs.declared.expr.SpecifierKind.TheVariants as k
use Rattle.c65_tree.specs.Trees as t
use Rattle.c65_tree.specs.View as v
use Rattle.c65_tree.proofs.Views.{call_view, tagged_view, enum_view, types_view, specifiers_view}
use Rattle.c65_elab.specs.Constants.{value_at}
use Rattle.c65_elab.specs.Naming.{called_first}
use Rattle.c65_elab.specs.Operators.{spilled}
use Rattle.c65_elab.specs.Places.{firsts_of}
use Rattle.c65_elab.specs.Typing.{typed, typed_list, value_in, specified, specifier_in, drafted, formals_in, prototype_in, beside, left, is_one, is_single}
use Rattle.c65_elab.proofs.Listing.{args_walk, drafts_walk, enums_walk, fields_walk, params_walk, one_of, single_of}
use Rattle.c65_elab.proofs.Parts.{place_is}
use Rattle.c65_elab.proofs.Walks.{fails_bind, then_ok, then_fails}

-- C90 6.3.2.2
pub call_is : (l : Pos) (f : Box Expr Global) (es : Vec Expr Global) (s : ScopeTy) → typed (v.expr_at l (x.Call f es)) s ≡ (called_first (v.expr_of f.value) s >>= (λ u. typed (v.expr_of f.value) u >>= (λ e. args_walk e.1 es.items >>= (λ zs. call_of zs.1.unit.types l (firsts_of (v.exprs_from t.no_exprs es.items)) e.0 zs.0 >>= (λ y. spilled zs.1 y)))))
call_is l f es s = ap (λ (e : t.ExprTree). typed e s) (call_view l f es)

-- C90 6.5.2.1
pub tagged_is : (l : Pos) (union : Bool) (tag : Option Name) (ms : Vec MemberDecl Global) (c : DraftTy) (sole : Bool) (s : ScopeTy) → specifier_in (v.specifier_at l (k.Tagged union tag (Some ms))) c sole s ≡ (begun_tag s union tag l >>= (λ u. fields_walk u.1 ms.items >>= (λ fs. tag_finished fs.1 u.0 fs.0 l >>= (λ r. beside r (w.type_in_draft c (plain (y.tag u.0)) (is_some tag) l)))))
tagged_is l union tag ms c sole s = ap (λ (q : t.SpecifierTree). specifier_in q c sole s) (tagged_view l union tag ms)

-- C90 6.5.2.2
pub enum_is : (l : Pos) (tag : Option Name) (es : Vec Enumerator Global) (c : DraftTy) (sole : Bool) (s : ScopeTy) → specifier_in (v.specifier_at l (k.Enum tag (Some es))) c sole s ≡ (begun_enumeration s tag l >>= (λ u. enums_walk u es.items >>= (λ r. beside r.1 (w.type_in_draft c (plain (y.int ints.Int)) true l))))
enum_is l tag es c sole s = ap (λ (q : t.SpecifierTree). specifier_in q c sole s) (enum_view l tag es)

-- C90 6.5.4.3
pub types_is : (ps : Vec Param Global) (more : Bool) (stays : Bool) (s : ScopeTy) → formals_in (v.params_of (p.Types ps more)) stays s ≡ (opened false s >>= (λ u. params_walk ((length ps.items == 1) && not more) u ps.items >>= (λ r. Ok (d.prototype (without_void r.0.0) more, left stays r.1 (length s.unit.objects)))))
types_is ps more stays s =
    ap (λ (qs : t.ParamsTree). formals_in qs stays s) (types_view ps more)
    ∙ ap (λ (one : Bool). opened false s >>= (λ u. params_walk (one && not more) u ps.items >>= (λ r. Ok (d.prototype (without_void r.0.0) more, left stays r.1 (length s.unit.objects))))) (single_of ps.items)

-- C90 6.5.1 to 6.5.3
pub specified_is : (q : Specifiers) (alone : Bool) (s : ScopeTy) → specified (v.specifiers_of q) alone s ≡ (drafts_walk (alone && (length (out-Specifiers q).items.items == 1)) s (out-Specifiers q).items.items >>= (λ r. beside r.1 (w.draft_finished r.0 (char_of r.1.signed_chars) alone (out-Specifiers q).pos)))
specified_is q alone s =
    ap (λ (qs : t.SpecifiersTree). specified qs alone s) (specifiers_view q)
    ∙ ap (λ (one : Bool). drafts_walk (alone && one) s (out-Specifiers q).items.items >>= (λ r. beside r.1 (w.draft_finished r.0 (char_of r.1.signed_chars) alone (out-Specifiers q).pos))) (one_of (out-Specifiers q).items.items)

-- C90 6.4: the place of a constant expression is that of its tree
abbrev after_value : Pos → Typed × ScopeTy → Result (Option ℤ × ScopeTy) Fault
after_value l r = value_at r.0 l >>= (λ z. Ok (Some z, r.1))

pub value_is : (e : Expr) (s : ScopeTy) → value_in (t.an_expr (v.expr_of e)) s ≡ (typed (v.expr_of e) s >>= after_value e.pos)
value_is e s = ap (λ (l : Pos). typed (v.expr_of e) s >>= after_value l) (place_is e.pos e.kind)

pub value_ok : (e : Expr) (s w : ScopeTy) (r : Typed) (z : ℤ) → typed (v.expr_of e) s ≡ Ok (r, w) → value_at r e.pos ≡ Ok z → value_in (t.an_expr (v.expr_of e)) s ≡ Ok (Some z, w)
value_ok e s w r z is found = value_is e s ∙ then_ok (typed (v.expr_of e) s) (r, w) (after_value e.pos) (Ok (Some z, w)) is (ap (λ (q : Result ℤ Fault). q >>= (λ n. Ok (Some n, w))) found)

pub value_stops : (e : Expr) (s : ScopeTy) (x : Refusal) → Fails x (typed (v.expr_of e) s) → Fails x (value_in (t.an_expr (v.expr_of e)) s)
value_stops e s x h = subst (Fails x) (sym (value_is e s)) (fails_bind x (typed (v.expr_of e) s) (after_value e.pos) h)

pub value_fails : (e : Expr) (s w : ScopeTy) (r : Typed) (x : Refusal) → typed (v.expr_of e) s ≡ Ok (r, w) → Fails x (value_at r e.pos) → Fails x (value_in (t.an_expr (v.expr_of e)) s)
value_fails e s w r x is h = subst (Fails x) (sym (value_is e s)) (then_fails x (typed (v.expr_of e) s) (r, w) (after_value e.pos) is (fails_bind x (value_at r e.pos) (λ z. Ok (Some z, w)) h))
