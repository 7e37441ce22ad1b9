use Rattle.std.proofs.Common.{List, None}
use Rattle.c65_lex.specs.declared.token.PpToken.{PpToken}
use Rattle.c65_macro.specs.declared.sets.Node.{Node}
use Rattle.c65_macro.specs.Sets.{Extends}
use Rattle.c65_macro.specs.Machine.{Leads, outcome, stage_of, frames_of}
use Rattle.c65_macro.proofs.table.Macros.run.Given as goal

abbrev pub invariant-loop-steps : goal.invariant-loop-steps
invariant-loop-steps l = record {
  grown : Extends l.fn.names l.names;
  kept : Extends l.fn.state.sets l.state.sets;
  leads : (nodes : List Node) (more : List PpToken) → Extends l.state.sets nodes → Leads nodes l.self (λ n. outcome l.self n l.fn.names (stage_of nodes more l.fn.state.level) (frames_of nodes more l.fn.state.pending.items)) l.names (stage_of nodes more l.state.level) (frames_of nodes more l.state.pending.items) None;
}

abbrev pub decreases-loop-steps : goal.decreases-loop-steps
decreases-loop-steps l = l.steps
