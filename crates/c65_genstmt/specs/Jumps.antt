-- Values, effects, tests and labels.
use Rattle.std.specs.Prelude.{ℕ, ◌+◌, ◌%◌, Bool, Some, None}
use Rattle.c65_csem.specs.Trees.{Typed}
use Rattle.c65_code.specs.Segments.{Drafted}
use Rattle.c65_genframe.specs.Frames.{Framed}
use Rattle.c65_genwide.specs.Lines.{grown}
use Rattle.c65_genexpr.specs.declared.wanted.Wanted.TheVariants.{Value, Test}
use Rattle.c65_genexpr.specs.Code.{expr_code}
use Rattle.c65_genexpr.specs.Uses.{uses}
use Rattle.c65_geneffect.specs.Effects.{effect_code, effect_uses}

-- the label behind a label
abbrev pub following : ℕ → ℕ
following l = (l + 1) % 4294967296

-- the draft with the lines of an expression, where no value waits
abbrev pub with_value : Framed → Typed → Drafted → Drafted
with_value f e d = grown d (expr_code f 0 d.labels Value e) (uses None e)

-- of one whose value is not used
abbrev pub with_effect : Framed → Typed → Drafted → Drafted
with_effect f e d = grown d (effect_code f 0 d.labels e) (effect_uses e)

-- with a test, which leads to a label where the truth of the expression is s
abbrev pub with_test : Framed → ℕ → Bool → Typed → Drafted → Drafted
with_test f to s e d = grown d (expr_code f 0 d.labels (Test to s) e) (uses (Some s) e)
