use Rattle.std.proofs.Common.{◌∙◌, ap, sym, Some, List, arith, nat_eq, length, ℕ}
use Rattle.std.specs.Prelude.{Option}
use Rattle.std.specs.Global.{Vec}
use Rattle.c65_ctype.specs.declared.types.QType.{QType}
use Rattle.c65_ctype.specs.declared.types.FnType.{out-FnType}
use Rattle.c65_ctype.specs.Views.{qtys_of, params_in}
use Rattle.c65_csem_check.specs.Kinds.{same_all, same_params}
use Rattle.c65_csem_check.proofs.CodeLaws.{same_by, same_end}
use Rattle.c65_csem_check.proofs.same.+same.Goals as goal

pub same_function-loop-i-init : goal.same_function-loop-i-init
same_function-loop-i-init t c =
    let by = same_by c.args.f.now c.args.g.now c.same_bit.result c.same_bit-else-not-same_bit.result c.same.result c.same_bit.ensures c.same_bit-else-not-same_bit.ensures c.same.ensures c.if-not-same_bit.false c.if-not-same_bit-2.false c.if-not-same.false in
    record {
      within = omega arith;
      so_far =
          ap (λ (xs : List QType). same_all (qtys_of xs) (qtys_of c.as_slice-others.result.now)) c.deref-q-items.ensures.value
          ∙ ap (λ (ys : List QType). same_all (qtys_of c.in-Some-Some.a.items) (qtys_of ys)) c.as_slice-others.ensures.value
          ∙ ap (λ (o : Option (Vec QType)). same_params (params_in o) (params_in (Some c.in-Some-Some.b))) (sym c.in-Some-Some.is-0)
          ∙ ap (λ (o : Option (Vec QType)). same_params (params_in (out-FnType c.args.f.now).params) (params_in o)) (sym c.in-Some-Some.is-1)
          ∙ sym by;
    }

pub same_function-returns-after-loop-i : goal.same_function-returns-after-loop-i
same_function-returns-after-loop-i t c =
    let xs = c.deref-q-items.result.now in
    let ys = c.as_slice-others.result.now in
    ap (λ (n : ℕ). nat_eq n (length ys)) (c.len.ensures ∙ sym c.deref-q-items.ensures.len)
    ∙ same_end xs ys c.loop-i.i c.loop-i-test.false c.loop-i.auto.i-end c.loop-i.invariant.within
    ∙ c.loop-i.invariant.so_far
