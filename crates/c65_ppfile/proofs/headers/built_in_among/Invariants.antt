use Rattle.std.proofs.Common.{◌≡◌, find, drop, bytes_eq}
use Rattle.c65_ppfile.specs.Headers
use Rattle.c65_ppfile.proofs.headers.built_in_among.Given as goal

abbrev pub invariant-loop-header : goal.invariant-loop-header
invariant-loop-header l = find (λ h. bytes_eq (Headers.name_of h) l.name) (drop l.header-index l.headers) ≡ find (λ h. bytes_eq (Headers.name_of h) l.name) l.headers
