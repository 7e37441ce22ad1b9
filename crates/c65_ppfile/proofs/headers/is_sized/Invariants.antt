use Rattle.std.proofs.Common.{◌≡◌, drop}
use Rattle.c65_ppfile.specs.Headers
use Rattle.c65_ppfile.proofs.headers.is_sized.Given as goal

abbrev pub invariant-loop-header : goal.invariant-loop-header
invariant-loop-header l = Headers.is_sized (drop l.header-index l.headers) ≡ Headers.is_sized l.headers
