use Rattle.std.proofs.Common.{◌≡◌, true, false, inr, rules}
use Rattle.c65_lex.specs.Spellings.{class_of}
use Rattle.c65_ppdir.specs.CommandLine.{is_name_class}
use Rattle.c65_ppdir.proofs.Commands.{class_test, learned_fails, learned_is, name_stops, body_stops, macro_goes}
use Rattle.c65_ppdir.proofs.command.define_one.Goals as goal

pub returns-in-Err-clause-exact : goal.returns-in-Err-clause-exact
returns-in-Err-clause-exact c =
    let name = c.args.item.now.name in
    let spelled : c.as_slice.result.now ≡ name = search rules in
    let known : c.as_slice-2.result.now ≡ name = search rules in
    let is_name : is_name_class (class_of false name) ≡ true = class_test c.is_name_class.result c.class_of.result c.as_slice.result.now name c.is_name_class.ensures c.class_of.ensures spelled c.if-not-is_name_class.false in
    inr (name_stops c.args.item.now c.args.macros.now c.args.names.now c.in-Err.refusal is_name (learned_fails c.args.names.now c.intern.new.names c.as_slice-2.result.now name c.in-Err.refusal known c.in-Err.ensures.exact))

pub returns-in-Ok-body_of-clause-exact : goal.returns-in-Ok-body_of-clause-exact
returns-in-Ok-body_of-clause-exact c =
    let name = c.args.item.now.name in
    let spelled : c.as_slice.result.now ≡ name = search rules in
    let known : c.as_slice-2.result.now ≡ name = search rules in
    let text : c.in_ok-text.text.items ≡ c.args.item.now.body = search rules in
    let is_name : is_name_class (class_of false name) ≡ true = class_test c.is_name_class.result c.class_of.result c.as_slice.result.now name c.is_name_class.ensures c.class_of.ensures spelled c.if-not-is_name_class.false in
    macro_goes c.args.item.now c.args.macros.now c.define_plain.new.macros c.args.names.now c.intern.new.names c.body_of.new.names c.in-Ok.name c.in-Ok-body_of.body.items c.in_ok-text.text.items c.define_plain.result is_name
    (learned_is c.args.names.now c.intern.new.names c.as_slice-2.result.now name c.in-Ok.name known c.in-Ok.ensures.exact) text c.in-Ok-body_of.ensures.exact c.define_plain.ensures.exact

pub returns-in-Err-body_of-clause-exact : goal.returns-in-Err-body_of-clause-exact
returns-in-Err-body_of-clause-exact c =
    let name = c.args.item.now.name in
    let spelled : c.as_slice.result.now ≡ name = search rules in
    let known : c.as_slice-2.result.now ≡ name = search rules in
    let text : c.in_ok-text.text.items ≡ c.args.item.now.body = search rules in
    let is_name : is_name_class (class_of false name) ≡ true = class_test c.is_name_class.result c.class_of.result c.as_slice.result.now name c.is_name_class.ensures c.class_of.ensures spelled c.if-not-is_name_class.false in
    body_stops c.args.item.now c.args.macros.now c.args.names.now c.intern.new.names c.in-Ok.name c.in_ok-text.text.items c.in-Err-body_of.refusal is_name
    (learned_is c.args.names.now c.intern.new.names c.as_slice-2.result.now name c.in-Ok.name known c.in-Ok.ensures.exact) text c.in-Err-body_of.ensures.exact
