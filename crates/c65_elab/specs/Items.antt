-- The constructs of Typing, at the structures of the code.
use Rattle.std.specs.Prelude.{ℤ, List, Bool, Result}
use Rattle.c65_base.specs.Answers.{Fault}
use Rattle.c65_ctype.specs.Trees.{QTy, FieldTy}
use Rattle.c65_elab_declare.specs.Declarators.{FormalTy}
use Rattle.c65_elab_scope.specs.Scopes.{ScopeTy}
use Rattle.c65_tree.specs.Optional.{maybe_expr, maybe_declarator}
use Rattle.c65_tree.specs.Trees as t
use Rattle.c65_tree.specs.View as v
use Rattle.c65_tree.specs.declared.expr.Enumerator.{Enumerator, out-Enumerator}
use Rattle.c65_tree.specs.declared.expr.MemberDecl.{MemberDecl, out-MemberDecl}
use Rattle.c65_tree.specs.declared.expr.MemberDeclarator.{MemberDeclarator, out-MemberDeclarator}
use Rattle.c65_tree.specs.declared.expr.Param.{Param, out-Param}
use Rattle.c65_elab.specs.Typing.{enumerator_in, fields_with, a_member_in, parameter_in}

abbrev pub enumerator_of : Enumerator → ℤ → ScopeTy → Result (ℤ × ScopeTy) Fault
enumerator_of e next s = enumerator_in (maybe_expr (out-Enumerator e).value) (out-Enumerator e).pos (out-Enumerator e).name next s

abbrev pub fields_of : MemberDecl → List FieldTy → ScopeTy → Result (List FieldTy × ScopeTy) Fault
fields_of d fs s = fields_with (v.members_from t.no_more_members (out-MemberDecl d).declarators.items) (v.specifiers_of (out-MemberDecl d).specifiers) fs s

abbrev pub a_member_of : MemberDeclarator → QTy → Bool → ScopeTy → Result (FieldTy × ScopeTy) Fault
a_member_of m base signed s = a_member_in (maybe_declarator (out-MemberDeclarator m).declarator) (maybe_expr (out-MemberDeclarator m).width) (out-MemberDeclarator m).pos base signed s

abbrev pub parameter_of : Param → Bool → ScopeTy → Result (FormalTy × ScopeTy) Fault
parameter_of p sole s = parameter_in (v.specifiers_of (out-Param p).specifiers) (v.declarator_of (out-Param p).declarator) sole s
