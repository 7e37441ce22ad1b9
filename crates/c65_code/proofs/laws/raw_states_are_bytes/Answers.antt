use Rattle.c65_code.proofs.CopyLaws.{raw_states_are_bytes, routines_leave_bytes}
use Rattle.c65_code.proofs.laws.raw_states_are_bytes.Goals as goal

pub returns-clause-moves : goal.returns-clause-moves
returns-clause-moves c = raw_states_are_bytes

pub returns-clause-routines : goal.returns-clause-routines
returns-clause-routines c = routines_leave_bytes
