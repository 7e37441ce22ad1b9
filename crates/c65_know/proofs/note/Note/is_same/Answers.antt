use Rattle.std.proofs.Common.{◌≡◌, ap, ◌∙◌}
use Rattle.c65_know.specs.declared.note.Note.{Note}
use Rattle.c65_know.proofs.note.Note.is_same.Goals as goal

record Same (n m : Note) : Type 0 where
  registers : (n.a ≡ m.a) × (n.x ≡ m.x) × (n.y ≡ m.y)
  bytes : (n.s0 ≡ m.s0) × (n.s1 ≡ m.s1) × (n.p0 ≡ m.p0) × (n.p1 ≡ m.p1) × (n.t1 ≡ m.t1)
  flags : (n.n ≡ m.n) × (n.v ≡ m.v) × (n.z ≡ m.z) × (n.c ≡ m.c)

same : (n m : Note) → Same n m → n ≡ m
same n m s =
    ap (λ v. record n { a = v }) s.registers.0
    ∙ (ap (λ v. record n { a = m.a; x = v }) s.registers.1
    ∙ (ap (λ v. record n { a = m.a; x = m.x; y = v }) s.registers.2
    ∙ (ap (λ v. record n { a = m.a; x = m.x; y = m.y; s0 = v }) s.bytes.0
    ∙ (ap (λ v. record n { a = m.a; x = m.x; y = m.y; s0 = m.s0; s1 = v }) s.bytes.1
    ∙ (ap (λ v. record m { p0 = v; p1 = n.p1; t1 = n.t1; n = n.n; v = n.v; z = n.z; c = n.c }) s.bytes.2
    ∙ (ap (λ v. record m { p1 = v; t1 = n.t1; n = n.n; v = n.v; z = n.z; c = n.c }) s.bytes.3
    ∙ (ap (λ v. record m { t1 = v; n = n.n; v = n.v; z = n.z; c = n.c }) s.bytes.4
    ∙ (ap (λ x. record m { n = x; v = n.v; z = n.z; c = n.c }) s.flags.0
    ∙ (ap (λ x. record m { v = x; z = n.z; c = n.c }) s.flags.1
    ∙ (ap (λ x. record m { z = x; c = n.c }) s.flags.2
    ∙ ap (λ x. record m { c = x }) s.flags.3))))))))))

pub returns-then-bytes : goal.returns-then-bytes
returns-then-bytes c = λ h. same _ _ (record {
  registers = c.has_same_registers-registers.ensures c.if-registers.true;
  bytes = c.has_same_bytes-bytes.ensures c.if-bytes.true;
  flags = c.has_same_flags-flags.ensures h;
})
