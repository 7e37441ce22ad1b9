-- What the code holds while it reads an expression.
use Rattle.std.specs.Prelude.{List, reverse, Option, Some, None}
use Rattle.c65_ppexpr.specs.declared.value.Value.{Value}
use Rattle.c65_ppexpr.specs.declared.expression.Frame.{Frame}
use Rattle.c65_ppexpr.specs.declared.expression.Reading.{Reading}
use Rattle.c65_ppexpr.specs.Expressions.{State, need, have}

abbrev pub state_with : Option Value → List Frame → State
state_with None fs = need fs
state_with (Some v) fs = have v fs

abbrev pub state_of : Reading → State
state_of r = state_with r.held (reverse r.frames.items)
