-- The types that the main function may have (C90 5.1.2.2.1), where plain char is signed or not.
use Rattle.std.specs.Prelude.{Bool, false}
use Rattle.c65_ctype.specs.Trees.{pointer, qual, Fn, fn, known, end, more}
use Rattle.c65_csem.specs.Library.{number, text}

-- int main(void)
abbrev pub main_alone : Fn
main_alone = fn number (known end) false false

-- int main(int, char **)
abbrev pub main_with_words : Bool → Fn
main_with_words is_signed = fn number (known (more number (more (qual (pointer (text is_signed)) false false) end))) false false
