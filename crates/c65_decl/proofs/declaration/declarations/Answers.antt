use Rattle.std.proofs.Common.{◌≡◌, ◌+◌, List, Bool, true, Ok, drop, ap, sym, ◌∙◌}
use Rattle.std.specs.Prelude.{if◌then◌else◌}
use Rattle.std.proofs.lemmas.Result.{err_from_is_err_and}
use Rattle.c65_base.specs.Answers.{◌>>=◌}
use Rattle.c65_tree.specs.Trees.{DeclTree}
use Rattle.c65_parse.specs.Reading.{rest_of, blocks_of}
use Rattle.c65_decl.specs.Here.{begins_specifiers}
use Rattle.c65_decl.specs.Decls.{decls_of, declarations_run, declaration_read, with_decl}
use Rattle.c65_decl.proofs.Turns.{turn, refused}
use Rattle.c65_decl.proofs.declaration.declarations.Goals as goal

pub loop-step-preserved : goal.loop-step-preserved
loop-step-preserved c =
    let l = c.loop-step in
    let unit = c.args.unit.now in
    let before = decls_of l.decls.items in
    let begins : begins_specifiers (blocks_of l.parser) (rest_of l.parser) ≡ true = sym c.begins_specifiers.ensures ∙ c.if-begins_specifiers.true in
    ap (λ (ds : List DeclTree). declarations_run 256 unit (drop (l._step-index + 1) unit) ds (blocks_of c.declaration.new.parser) (rest_of c.declaration.new.parser)) c.in_ok-decls.ensures
    ∙ turn (λ us. declarations_run 256 unit us before (blocks_of l.parser) (rest_of l.parser)) (declaration_read 256 unit (blocks_of l.parser) (rest_of l.parser)) (λ us e. declarations_run 256 unit us (with_decl before e.0) e.2 e.1) unit l._step-index _ _
    (λ u rest. ap (λ (b : Bool). if b then (declaration_read 256 unit (blocks_of l.parser) (rest_of l.parser) >>= λ e. declarations_run 256 unit rest (with_decl before e.0) e.2 e.1) else Ok (before, rest_of l.parser, blocks_of l.parser)) begins) c.loop-step-test.true l.invariant c.in_ok-decl.ensures

pub returns-in_err-decl : goal.returns-in_err-decl
returns-in_err-decl c =
    let l = c.loop-step in
    let unit = c.args.unit.now in
    let before = decls_of l.decls.items in
    let begins : begins_specifiers (blocks_of l.parser) (rest_of l.parser) ≡ true = sym c.begins_specifiers.ensures ∙ c.if-begins_specifiers.true in
    let p = err_from_is_err_and c.from_residual.result c.from_residual.ensures.1 in
    rw (p.1, p.2) (refused (λ us. declarations_run 256 unit us before (blocks_of l.parser) (rest_of l.parser)) (declaration_read 256 unit (blocks_of l.parser) (rest_of l.parser)) (λ us e. declarations_run 256 unit us (with_decl before e.0) e.2 e.1) unit l._step-index _ _
    (λ u rest. ap (λ (b : Bool). if b then (declaration_read 256 unit (blocks_of l.parser) (rest_of l.parser) >>= λ e. declarations_run 256 unit rest (with_decl before e.0) e.2 e.1) else Ok (before, rest_of l.parser, blocks_of l.parser)) begins) c.loop-step-test.true l.invariant c.in_err-decl.ensures)
