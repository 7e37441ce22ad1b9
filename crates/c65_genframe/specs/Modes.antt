-- What options ask of the lines of functions.
use Rattle.c65_base.specs.declared.options.Options.{Options}
use Rattle.c65_genframe.specs.declared.modes.Modes.{Modes}

abbrev pub modes_of : Options → Modes
modes_of o = record { honoured = o.register_vars; checked = o.check_stack }
