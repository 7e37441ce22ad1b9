use Rattle.std.proofs.Common.{[]}
use Rattle.c65_pieces.proofs.Only.{only_for, more_is, is_more, end_is, is_end, kept, takes_piece}
use Rattle.c65_pieces.proofs.lexer.PieceLexer.next.Goals as goal

pub returns : goal.returns
returns c =
    let a = c.answer.ensures in
    record {
      some = a;
      only = λ next n. only_for c.args.header c.args.self.now c.answer.new.self c.args.names.now c.answer.new.names c.answer.result a next n;
      more = (λ e. more_is c.args.header c.args.self.now c.answer.new.self c.args.names.now c.answer.new.names c.answer.result a e, λ h. is_more c.args.header c.args.self.now c.answer.new.self c.args.names.now c.answer.new.names c.answer.result a h);
      end = (λ e. let k = end_is c.args.header c.args.self.now c.answer.new.self c.args.names.now c.answer.new.names c.answer.result a e in (k.0, k.2 []), λ h. is_end c.args.header c.args.self.now c.answer.new.self c.args.names.now c.answer.new.names c.answer.result a h);
      whole = λ e. (end_is c.args.header c.args.self.now c.answer.new.self c.args.names.now c.answer.new.names c.answer.result a e).1 [];
      kept = kept c.args.header c.args.self.now c.answer.new.self c.args.names.now c.answer.new.names c.answer.result a;
      room = λ e. takes_piece c.args.header c.args.self.now c.answer.new.self c.args.names.now c.answer.new.names c.answer.result a e;
    }
