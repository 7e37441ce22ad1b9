-- The bulk of a program: what its code, the runtime and its data take at most.
use Rattle.std.specs.Prelude.{ℕ, ◌+◌, ◌*◌}
use Rattle.c65_csem.specs.declared.items.Parts.{Parts}
use Rattle.c65_gen_law_lines.specs.Bulk.{functions_nodes}
use Rattle.c65_gen_law_size.specs.Data.{data_bytes}

-- 128 bytes for each node, the data, and 8,192 bytes of the runtime
abbrev pub bulk_of : Parts → ℕ
bulk_of parts = 128 * functions_nodes parts.funcs.items + data_bytes parts + 8192
