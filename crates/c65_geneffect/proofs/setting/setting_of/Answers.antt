use Rattle.std.proofs.Common.{sym, subst}
use Rattle.c65_csem.specs.Views.{typed_of}
use Rattle.c65_genexpr.specs.Places.{place_of}
use Rattle.c65_geneffect.specs.declared.setting.Setting.{Setting}
use Rattle.c65_geneffect.specs.Setting.{SetsFree}
use Rattle.c65_geneffect.proofs.Known.{sets_free}
use Rattle.c65_geneffect.proofs.setting.setting_of.Goals as goal

pub returns-clause-free : goal.returns-clause-free
returns-clause-free c =
    let b = typed_of c.args.b.now in
    subst (λ (how : Setting). SetsFree how b) (sym c.setting_by.ensures) (sets_free c.args.frame.now c.args.pushed (place_of c.args.frame.now c.args.pushed (typed_of c.args.a.now)) c.args.access b)
