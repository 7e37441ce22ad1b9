use Rattle.std.proofs.Common.{◌∙◌, true, false, Ok, Err, inl, inr, refl, rules}
use Rattle.c65_ppdir.specs.Files.{opened_as}
use Rattle.c65_ppdir.proofs.Reading.{skips_on, is_same}
use Rattle.c65_ppdir.proofs.Texts.{stops_no_miss}
use Rattle.c65_ppdir.proofs.opened.Opened.skip_line.Goals as goal

pub loop-preserved : goal.loop-preserved
loop-preserved g c =
    record {
      serves = search rules;
      goes = λ held told here.
          let i = c.loop.invariant.goes held told here in
          let x = c.in-Ok.ensures.exact held (c.loop.invariant.serves.same ∙ told) i.0 in
          (x.0, λ n z h. skips_on (opened_as held c.args.self.now) (opened_as held c.loop.self) (opened_as held c.read_unseen.new.self) c.in-Ok.read (Ok true) i.1 x.2 (is_same c.in-Ok-has_more.is_more true _ c.if-not-is_more.false c.in-Ok-has_more.ensures.exact) n z h);
    }

pub returns-then-not-is_more-clause-exact : goal.returns-then-not-is_more-clause-exact
returns-then-not-is_more-clause-exact g c =
    λ held told here.
    let i = c.loop.invariant.goes held told here in
    let x = c.in-Ok.ensures.exact held (c.loop.invariant.serves.same ∙ told) i.0 in
    (x.0, tt, skips_on (opened_as held c.args.self.now) (opened_as held c.loop.self) (opened_as held c.read_unseen.new.self) c.in-Ok.read (Ok false) i.1 x.2 (is_same c.in-Ok-has_more.is_more false _ c.if-not-is_more.true c.in-Ok-has_more.ensures.exact) 0 (Ok (opened_as held c.read_unseen.new.self)) refl)

pub returns-in-Err-has_more-clause-exact : goal.returns-in-Err-has_more-clause-exact
returns-in-Err-has_more-clause-exact g c =
    λ held told here.
    let i = c.loop.invariant.goes held told here in
    let x = c.in-Ok.ensures.exact held (c.loop.invariant.serves.same ∙ told) i.0 in
    (x.0, stops_no_miss c.in-Err-has_more.refusal c.in-Err-has_more.ensures.stops, inr (skips_on (opened_as held c.args.self.now) (opened_as held c.loop.self) (opened_as held c.read_unseen.new.self) c.in-Ok.read (Err c.in-Err-has_more.refusal) i.1 x.2 c.in-Err-has_more.ensures.exact 0 (Err c.in-Err-has_more.refusal) refl))

pub returns-in-Err-clause-exact : goal.returns-in-Err-clause-exact
returns-in-Err-clause-exact g c =
    λ held told here.
    let i = c.loop.invariant.goes held told here in
    let x = c.in-Err.ensures.exact held (c.loop.invariant.serves.same ∙ told) i.0 in
    (x.0, x.1, inl x.2)
