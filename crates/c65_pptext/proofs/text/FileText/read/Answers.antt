use Rattle.std.proofs.Common.{◌∙◌, List, ℕ, Some, sym, subst, rules}
use Rattle.c65_base.specs.declared.refusal.Refusal.{Refusal}
use Rattle.c65_ppline.specs.Relations.{IsFree}
use Rattle.c65_pptext.specs.Reading.{IsTaken, text_as}
use Rattle.c65_pptext.proofs.Steps.{answers, still_told, not_over, reads_on}
use Rattle.c65_pptext.proofs.text.FileText.read.Goals as goal

pub returns-in-Ok-Some-clause-exact : goal.returns-in-Ok-Some-clause-exact
returns-in-Ok-Some-clause-exact g c =
    λ held told here.
    let i = c.loop.invariant.told held told here in
    let taken = subst (λ (ns : List (List ℕ)). IsTaken c.args.header c.loop.self.lexer ns (Some c.in-Ok-Some.lexed) c.next_token.new.lexer c.next_token.new.names) c.loop.invariant.named (rw c.in-Ok-Some.field-0-is at c.in-Ok-Some.ensures.exact) in
    answers held c.args.header (text_as held c.args.self.now) c.loop.self c.next_token.new.lexer c.next_token.ensures.edge c.next_token.ensures.file i.0 i.1 c.args.names.now c.next_token.new.names c.in-Ok-Some.lexed c.answer.new.self c.answer.result taken c.answer.ensures.refused c.answer.ensures.kept c.answer.ensures.exact c.answer.ensures.left

pub returns-in-Err-clause-exact : goal.returns-in-Err-clause-exact
returns-in-Err-clause-exact g c =
    λ held told here.
    let i = c.loop.invariant.told held told here in
    (still_told held c.args.header (text_as held c.args.self.now) c.loop.self c.next_token.new.lexer c.next_token.ensures.edge c.next_token.ensures.file i.0 i.1, subst (λ (e : Refusal). IsFree e) (sym c.in-Err.ensures.refused) tt)

pub returns-in-Err-read_on-clause-exact : goal.returns-in-Err-read_on-clause-exact
returns-in-Err-read_on-clause-exact g c =
    λ held told here.
    let i = c.loop.invariant.told held told here in
    let taken = rw c.in-Ok-None.field-0-is at c.in-Ok-None.ensures.exact in
    let none = not_over held c.args.header (text_as held c.args.self.now) c.loop.self c.next_token.new.lexer c.next_token.ensures.edge c.next_token.ensures.file i.0 i.1 taken.1 in
    let on = c.in-Err-read_on.ensures.exact held (c.loop.invariant.serves.same ∙ told) none (still_told held c.args.header (text_as held c.args.self.now) c.loop.self c.next_token.new.lexer c.next_token.ensures.edge c.next_token.ensures.file i.0 i.1) in
    (on.0.0, on.1)

pub loop-preserved : goal.loop-preserved
loop-preserved g c =
    let taken = rw c.in-Ok-None.field-0-is at c.in-Ok-None.ensures.exact in
    record {
      serves = search rules;
      named = taken.2 ∙ c.loop.invariant.named;
      told = λ held told here.
          let i = c.loop.invariant.told held told here in
          let none = not_over held c.args.header (text_as held c.args.self.now) c.loop.self c.next_token.new.lexer c.next_token.ensures.edge c.next_token.ensures.file i.0 i.1 taken.1 in
          let on = c.read_on.ensures.exact held (c.loop.invariant.serves.same ∙ told) none (still_told held c.args.header (text_as held c.args.self.now) c.loop.self c.next_token.new.lexer c.next_token.ensures.edge c.next_token.ensures.file i.0 i.1) in
          reads_on held c.args.header (text_as held c.args.self.now) c.loop.self c.next_token.new.lexer c.next_token.ensures.edge c.next_token.ensures.file i.0 i.1 c.read_on.new.self taken.0 on.0;
    }

pub returns-clause-exact : goal.returns-clause-exact
returns-clause-exact g c = λ held told here. ((c.loop.invariant.told held told here).0, tt)
