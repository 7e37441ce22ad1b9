-- Windows of the rules on the software stack, whatever is live there.
use Rattle.std.proofs.Common.{◌+◌, ◌-◌, ◌<◌, refl, arith}
use Rattle.c65_mach.specs.declared.rows.Op.TheVariants as ops
use Rattle.c65_code.specs.declared.line.Operand.TheVariants.{Byte}
use Rattle.c65_code.specs.declared.routine.Count.{Count}
use Rattle.c65_code.specs.declared.routine.Count.TheVariants as counts
use Rattle.c65_code.specs.declared.routine.Routine.TheVariants as routines
use Rattle.c65_code.specs.Rows.{number_of}
use Rattle.c65_opt_law_stack.specs.Windows.{byte_in, PushGoes, MovesJoin, BytesMove, ZerosPush, WordsAtSp, OperatorsInLine}
use Rattle.c65_opt_law_stack.proofs.Windows.{serves_both}
use Rattle.c65_opt_law_stack.proofs.Stack.{moves_joined}
use Rattle.c65_opt_law_stack.proofs.Routines.{a_loaded, x_loaded, y_loaded, a_bytes, x_bytes, y_bytes, pusha0_serves, push0_serves, ldax0sp_serves, stax0sp_serves, incsp_serves, decsp_serves}
use Rattle.c65_opt_law_stack.proofs.Pushed.{taken_back}
use Rattle.c65_opt_law_stack.proofs.Operators.{in_line}
use Rattle.c65_opt_law_stack.proofs.InLine.{IsLoaded, loaded, IsOperated, operator_done}

pub push_goes : PushGoes
push_goes s to after = taken_back s to after

pub moves_join : MovesJoin
moves_join n m sum e = (
  λ s to after. moves_joined (routines.IncSp n) (routines.IncSp m) (routines.IncSp sum) refl refl refl (λ k. k + number_of n) (λ k. k + number_of m) (λ k. k + number_of sum) (λ t. refl) (λ t. refl) (λ t. refl)
      (λ k. omega (arith, e)) (λ k lt le. omega (arith, e, le)) s to after tt tt tt,
  λ s to after. moves_joined (routines.DecSp n) (routines.DecSp m) (routines.DecSp sum) refl refl refl (λ k. k - number_of n) (λ k. k - number_of m) (λ k. k - number_of sum) (λ t. refl) (λ t. refl) (λ t. refl)
      (λ k. omega (arith, e)) (λ k lt le. omega (arith, lt)) s to after tt tt tt,
)

few : (c : Count) → number_of c < 256
few counts.One = omega arith
few counts.Two = omega arith
few counts.Three = omega arith
few counts.Four = omega arith
few counts.Five = omega arith
few counts.Six = omega arith
few counts.Seven = omega arith
few counts.Eight = omega arith

pub bytes_move : BytesMove
bytes_move c = (
  λ s to after. serves_both s to after (byte_in ops.Ldy (number_of c)) (y_loaded (number_of c)) routines.AddYSp (routines.IncSp c) tt tt tt (λ t. refl) (λ t b. y_bytes (number_of c) t (few c) b) (λ t calm room. incsp_serves s.place t c (number_of c) refl room),
  λ s to after. serves_both s to after (byte_in ops.Ldy (number_of c)) (y_loaded (number_of c)) routines.SubYSp (routines.DecSp c) tt tt tt (λ t. refl) (λ t b. y_bytes (number_of c) t (few c) b) (λ t calm room. decsp_serves s.place t c (number_of c) refl room),
)

pub zeros_push : ZerosPush
zeros_push = (
  λ s to after. serves_both s to after (byte_in ops.Ldx 0) (x_loaded 0) routines.PushAx routines.PushA0 tt tt tt (λ t. refl) (λ t b. x_bytes 0 t (omega arith) b) (λ t calm room. pusha0_serves s.place t room),
  λ s to after. serves_both s to after (byte_in ops.Lda 0) (a_loaded 0) routines.PushA0 routines.Push0 tt tt tt (λ t. refl) (λ t b. a_bytes 0 t (omega arith) b) (λ t calm room. push0_serves s.place t room),
)

pub words_at_sp : WordsAtSp
words_at_sp = (
  λ s to after. serves_both s to after (byte_in ops.Ldy 1) (y_loaded 1) routines.LdAxYSp routines.LdAx0Sp tt tt tt (λ t. refl) (λ t b. y_bytes 1 t (omega arith) b) (λ t calm room. ldax0sp_serves s.place t room),
  λ s to after. serves_both s to after (byte_in ops.Ldy 0) (y_loaded 0) routines.StAxYSp routines.StAx0Sp tt tt tt (λ t. refl) (λ t b. y_bytes 0 t (omega arith) b) (λ t calm room. stax0sp_serves s.place t room),
)

pub operators_in_line : OperatorsInLine
operators_in_line op h l lines high low e s to after =
    let load : IsLoaded (byte_in ops.Ldx h) (byte_in ops.Lda l) (Byte h) (Byte l) = loaded (byte_in ops.Ldx h) (byte_in ops.Lda l) (Byte h, Byte l) refl in
    let done : IsOperated op (Byte h) (Byte l) lines = operator_done (Byte h) (Byte l) op lines e in
    in_line s to after op done.value (byte_in ops.Ldx h) (byte_in ops.Lda l) lines l h done.row (load.loads s low high) (done.computes s low high)
