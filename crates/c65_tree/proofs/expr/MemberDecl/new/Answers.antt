use Rattle.c65_tree.proofs.Made
use Rattle.c65_tree.proofs.expr.MemberDecl.new.Goals as goal

pub returns : goal.returns
returns c = λ xs. Made.member_decl_made xs c.args.specifiers c.args.declarators
