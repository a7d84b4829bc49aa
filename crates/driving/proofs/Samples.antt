-- Samples, computed from the definitions. Assumes nothing.
use mathlib.Core.Path.{◌≡◌, refl}
use mathlib.Core.Bool.{true, false}
use Rattle.writing.specs.Ascii.{ascii}
use Rattle.writing.specs.Numbers.{digits, decimal}
use Rattle.prepared_cycles.specs.Drives.{plain_most, drawn_most}
use Rattle.driving.specs.Saying.{three, thousands, grouped, restless_words}
use Rattle.options.specs.declared.Way.TheVariants.{Drawn, Expressed, Counted}
use Rattle.driving.specs.declared.Line.TheVariants.{Passed, Last, Wrong}
use Rattle.driving.specs.declared.Unextracted.TheVariants.{Held, Warned}
use Rattle.driving.specs.Endings.{is_expressed, is_counted, time_of}
use Rattle.driving.specs.Going.{line_of, unextracted}

of-a-plain-run : restless_words plain_most ≡ ascii "not at rest after 65,535 choices"
unfolding ascii digits decimal three thousands grouped restless_words
of-a-plain-run = refl

of-drawn-choices : restless_words drawn_most ≡ ascii "not at rest after 4,000,000 choices"
unfolding ascii digits decimal three thousands grouped restless_words
of-drawn-choices = refl

of-few : restless_words 7 ≡ ascii "not at rest after 7 choices"
unfolding ascii digits decimal three thousands grouped restless_words
of-few = refl

-- The rise of the third cycle.
of-a-rise : time_of 2 1 ≡ 35
unfolding time_of
of-a-rise = refl

-- A blank line is passed over, and is the end where nothing is left; one that is too long is wrong in both places.
of-a-blank-line : line_of 1 false ≡ Passed
unfolding line_of
of-a-blank-line = refl

of-the-end : line_of 1 true ≡ Last
unfolding line_of
of-the-end = refl

of-a-long-line : line_of 7 true ≡ Wrong
unfolding line_of
of-a-long-line = refl

-- Where extraction refuses the module there is no run by expressions, however little it is to say; drawn choices go on behind a warning.
of-no-expressions : unextracted Expressed true ≡ Held
unfolding unextracted is_expressed is_counted
of-no-expressions = refl

of-no-work : unextracted Counted true ≡ Held
unfolding unextracted is_expressed is_counted
of-no-work = refl

of-one-order : unextracted (Drawn 7) false ≡ Warned
unfolding unextracted is_expressed is_counted
of-one-order = refl
