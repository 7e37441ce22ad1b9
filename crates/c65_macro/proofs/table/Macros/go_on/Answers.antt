use Rattle.std.proofs.Common.{Option, Some, None, Ok, Err, sym, subst}
use Rattle.c65_macro.specs.declared.state.Begun.{Begun}
use Rattle.c65_macro.specs.Table.{lookup}
use Rattle.c65_macro.specs.Views.{items_of}
use Rattle.c65_macro.specs.Machine.{Comes, GoesInto, begun_left, reached, stage_of, frames_of}
use Rattle.c65_macro.proofs.HideSets.{extends_trans}
use Rattle.c65_macro.proofs.Going.{into_leads}
use Rattle.c65_macro.proofs.Stepping.{leads_on}
use Rattle.c65_macro.proofs.table.Macros.go_on.Goals as goal

pub returns-in_default-clause-value : goal.returns-in_default-clause-value
returns-in_default-clause-value c = λ nodes more x.
    let table = c.args.self.now in
    let s = stage_of nodes more c.args.state.now.level in
    let fs = frames_of nodes more c.args.state.now.pending.items in
    let P : Option Begun → Type 0 = λ o. Comes nodes table (λ n. reached nodes table n c.args.names.now s fs o) c.run.result c.run.new.names (stage_of nodes more c.run.new.state.level) (frames_of nodes more c.run.new.state.pending.items) in
    subst P (sym c.in_default.is) (c.run.ensures.value nodes more x)

pub returns-in-Ok-None-clause-value : goal.returns-in-Ok-None-clause-value
returns-in-Ok-None-clause-value c = λ nodes more x.
    let table = c.args.self.now in
    let level = c.args.state.now.level in
    let fs = frames_of nodes more c.args.state.now.pending.items in
    let names = c.args.names.now in
    let b = c.in-Some.begun in
    let s = stage_of nodes more level in
    let known = c.take_up.new.names in
    let t = stage_of nodes more c.take_up.new.state.level in
    let gs = frames_of nodes more c.take_up.new.state.pending.items in
    let u = stage_of nodes more c.run-in-Ok-None.new.state.level in
    let hs = frames_of nodes more c.run-in-Ok-None.new.state.pending.items in
    let P : Option Begun → Type 0 = λ o. Comes nodes table (λ n. reached nodes table n names s fs o) c.run-in-Ok-None.result c.run-in-Ok-None.new.names u hs in
    let Q : Option Begun → Type 0 = λ o. GoesInto nodes table (items_of nodes level.out.items) fs (λ go. begun_left nodes table go names s b (lookup table b.name.token.spelling)) (Ok o) known t gs in
    let first = subst Q c.in-Ok-None.field-0-is (c.in-Ok-None.ensures.value nodes more (extends_trans c.take_up.new.state.sets c.run-in-Ok-None.new.state.sets nodes c.run-in-Ok-None.ensures.kept x)) in
    subst P (sym c.in-Some.is)
    (leads_on nodes table (λ n. reached nodes table n names s fs (Some b)) known t gs c.run-in-Ok-None.result c.run-in-Ok-None.new.names u hs
    (into_leads nodes table (items_of nodes level.out.items) fs (λ go. begun_left nodes table go names s b (lookup table b.name.token.spelling)) None known t gs first)
    (c.run-in-Ok-None.ensures.value nodes more x))

pub returns-in-Ok-Some-clause-value : goal.returns-in-Ok-Some-clause-value
returns-in-Ok-Some-clause-value c = λ nodes more x.
    let table = c.args.self.now in
    let level = c.args.state.now.level in
    let fs = frames_of nodes more c.args.state.now.pending.items in
    let names = c.args.names.now in
    let b = c.in-Some.begun in
    let s = stage_of nodes more level in
    let known = c.take_up.new.names in
    let t = stage_of nodes more c.take_up.new.state.level in
    let gs = frames_of nodes more c.take_up.new.state.pending.items in
    let P : Option Begun → Type 0 = λ o. Comes nodes table (λ n. reached nodes table n names s fs o) (Ok (Some c.in-Ok-Some.begun)) known t gs in
    let Q : Option Begun → Type 0 = λ o. GoesInto nodes table (items_of nodes level.out.items) fs (λ go. begun_left nodes table go names s b (lookup table b.name.token.spelling)) (Ok o) known t gs in
    let first = subst Q c.in-Ok-Some.field-0-is (c.in-Ok-Some.ensures.value nodes more x) in
    subst P (sym c.in-Some.is)
    (into_leads nodes table (items_of nodes level.out.items) fs (λ go. begun_left nodes table go names s b (lookup table b.name.token.spelling)) (Some c.in-Ok-Some.begun) known t gs first)

pub returns-in-Err-clause-value : goal.returns-in-Err-clause-value
returns-in-Err-clause-value c = λ nodes more x.
    let table = c.args.self.now in
    let level = c.args.state.now.level in
    let fs = frames_of nodes more c.args.state.now.pending.items in
    let names = c.args.names.now in
    let s = stage_of nodes more level in
    let known = c.take_up.new.names in
    let t = stage_of nodes more c.take_up.new.state.level in
    let gs = frames_of nodes more c.take_up.new.state.pending.items in
    let P : Option Begun → Type 0 = λ o. Comes nodes table (λ n. reached nodes table n names s fs o) (Err c.in-Err.refusal) known t gs in
    subst P (sym c.in-Some.is) (0, c.in-Err.ensures.value nodes more x 0)
