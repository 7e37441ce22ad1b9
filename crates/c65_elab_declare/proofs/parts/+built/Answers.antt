use Rattle.std.proofs.Common.{◌≡◌, sym, subst, rules}
use Rattle.c65_base.specs.Answers.{Gives}
use Rattle.c65_ctype.specs.Views.{qty_of, types_of}
use Rattle.c65_elab_declare.proofs.Lists.{built_base, built_more, built_fails}
use Rattle.c65_elab_declare.proofs.parts.+built.Goals as goal

pub returns-in_err-ty-in-len1-up : goal.returns-in_err-ty-in-len1-up
returns-in_err-ty-in-len1-up t c =
    let fault = built_fails c.in_err-ty-in-len1-up.field-0.0 (types_of c.args.types.now) (qty_of c.args.base.now) c.args.parts.now c.part-item.result c.args.role c.role_behind.result c.in-len1-up.len_at_least c.part-item.is c.role_behind.ensures c.in_err-ty-in-len1-up.ensures in
    search (rules, fault)

pub returns-in_ok-copy-in-empty : goal.returns-in_ok-copy-in-empty
returns-in_ok-copy-in-empty t c = built_base (types_of c.args.types.now) (qty_of c.args.base.now) (qty_of c.in_ok-copy-in-empty.field-0) c.args.parts.now c.args.role c.in-empty.len_below c.in_ok-copy-in-empty.ensures

pub returns-in_ok-ty-in-len1-up : goal.returns-in_ok-ty-in-len1-up
returns-in_ok-ty-in-len1-up t c =
    subst (Gives qty_of c.applied.result) (sym (built_more (types_of c.args.types.now) (qty_of c.args.base.now) (qty_of c.in_ok-ty-in-len1-up.ty) c.args.parts.now c.part-item.result c.args.role c.role_behind.result c.in-len1-up.len_at_least c.part-item.is c.role_behind.ensures c.in_ok-ty-in-len1-up.ensures)) c.applied.ensures
