use Rattle.std.proofs.Common.{sym, ap, ◌∙◌, Bool}
use Rattle.c65_ctype.specs.Compatible.{Pairs, met, qualified_meet, each_in, agrees}
use Rattle.c65_ctype.specs.Views.{qty_of, types_of}
use Rattle.c65_ctype.proofs.table.Types.compatible.Goals as goal

pub returns-clause-always : goal.returns-clause-always
returns-clause-always c =
    let types = types_of c.args.self.now in
    let a = qty_of c.args.a.now in
    let b = qty_of c.args.b.now in
    let found = c.qualified_meet.new.pairs.items in
    λ yes. record {
      never_differ = λ n.
          ap (λ (ps : Pairs). each_in (agrees types n) (qualified_meet ps a b)) (sym c.new-pairs.ensures.items)
          ∙ ap (each_in (agrees types n)) (sym c.in_ok-qualified_meet.ensures ∙ ap (λ (d : Bool). met d found) c.if-not-branch.false)
          ∙ c.in_ok-all_agree.ensures.always yes n;
    }
