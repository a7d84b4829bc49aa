-- How a run goes on: behind a cycle by the extracted expressions, at a line of its inputs, and where extraction refuses its module.
use Rattle.std.specs.Prelude.{Bool, ◌||◌, ℕ, eqb}
use Rattle.values.specs.Values.{pick, ◌is◌then◌else◌}
use Rattle.options.specs.declared.Way.{Way}
use Rattle.driving.specs.declared.Rest.{Rest}
use Rattle.driving.specs.declared.Line.{Line}
use Rattle.driving.specs.declared.Line.TheVariants.{Cycle, Passed, Last, Wrong}
use Rattle.driving.specs.declared.Unextracted.{Unextracted}
use Rattle.driving.specs.declared.Unextracted.TheVariants.{Held, Warned, Silent}
use Rattle.driving.specs.Endings.{is_expressed, is_counted}
use Rattle.driving.specs.Plans.{rest}

-- ---- after_expressions: a run behind a cycle by the expressions, which gave this number. Where it is 0 the cycle was accepted, and what
-- the expressions give is at rest; the state by events, the way and the seed stay.

unfoldable pub after_expressions : Rest → ℕ → Rest
after_expressions r number = rest r.way number (eqb number 0) r.state r.seed

-- ---- line_of: what a line of the inputs is, by its error (`stimulus`) and whether nothing is left behind it. Error 0 is a row of inputs;
-- error 1 is a blank line, which is passed over, or the end of the file; more is a line that is wrong.

unfoldable pub line_of : ℕ → Bool → Line
line_of error over = error is 0 then Cycle else (error is 1 then pick over Last Passed else Wrong)

-- ---- unextracted: what becomes of a run whose module extraction refuses. By the expressions there is none, and of the work nothing is
-- claimed; by events it goes on, and is told as one order among several where that is not to be left out.

unfoldable pub unextracted : Way → Bool → Unextracted
unextracted way silent = pick (is_expressed way || is_counted way) Held (pick silent Silent Warned)
