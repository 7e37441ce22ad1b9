use Rattle.std.proofs.Common.{◌∙◌}
use Rattle.c65_macro.specs.Views.{item_of}
use Rattle.c65_macro.proofs.Gathering.{take_opening, take_closing, take_comma, take_other, take_separate}
use Rattle.c65_macro.proofs.gather.Gathered.take.Goals as goal

pub returns-in_ok-depth-in-Opening-clause-value : goal.returns-in_ok-depth-in-Opening-clause-value
returns-in_ok-depth-in-Opening-clause-value c = λ nodes w is ro put. take_opening nodes w c.args.outside c.args.self.now c.add.new.self c.in_ok-depth-in-Opening.depth (item_of nodes c.args.item) is c.add.result (ro ∙ c.in-Opening.is) c.in_ok-depth-in-Opening.ensures (c.add.ensures.value nodes w is put)

pub returns-in-Closing-2-clause-value : goal.returns-in-Closing-2-clause-value
returns-in-Closing-2-clause-value c = λ nodes w is ro put. take_closing nodes w c.args.outside c.args.self.now c.add-in-Closing-2.new.self (item_of nodes c.args.item) is c.add-in-Closing-2.result (ro ∙ c.in-Closing-2.is) c.if-self-eq0.false (c.add-in-Closing-2.ensures.value nodes w is put)

pub returns-in-Comma-clause-value : goal.returns-in-Comma-clause-value
returns-in-Comma-clause-value c = λ nodes w is ro put. take_separate nodes w c.args.outside c.args.self.now c.separate.new.self (item_of nodes c.args.item) is c.separate.result (ro ∙ c.in-Comma.is) c.if-self-eq0-2.true (c.separate.ensures.value nodes w c.args.outside is)

pub returns-in-Comma-2-clause-value : goal.returns-in-Comma-2-clause-value
returns-in-Comma-2-clause-value c = λ nodes w is ro put. take_comma nodes w c.args.outside c.args.self.now c.add-in-Comma-2.new.self (item_of nodes c.args.item) is c.add-in-Comma-2.result (ro ∙ c.in-Comma-2.is) c.if-self-eq0-2.false (c.add-in-Comma-2.ensures.value nodes w is put)

pub returns-in-Other-clause-value : goal.returns-in-Other-clause-value
returns-in-Other-clause-value c = λ nodes w is ro put. take_other nodes w c.args.outside c.args.self.now c.add-in-Other.new.self (item_of nodes c.args.item) is c.add-in-Other.result (ro ∙ c.in-Other.is) (c.add-in-Other.ensures.value nodes w is put)
