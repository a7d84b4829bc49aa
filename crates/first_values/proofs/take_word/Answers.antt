-- `first_values::take_word` meets its contract. Assumes nothing.
use Rattle.std.proofs.Common.{sym, refl, ◌∙◌}
use Rattle.stimulus.proofs.Searching.{found-some, found-none}
use Rattle.first_values.proofs.FirstValues.{word_none, word-valued}
use Rattle.first_values.proofs.take_word.Goals as goal

pub returns-in-None : goal.returns-in-None
returns-in-None c =
    word_none _ _ _ _ _ _ _ _ _ refl refl _ refl
    (found-none _ _ (sym c.in-None.is ∙ c.register_of.ensures)) _ c.counted.ensures _ c.told.ensures

pub returns-in-Some : goal.returns-in-Some
returns-in-Some c =
    let s = found-some _ _ _ (sym c.in-Some.is ∙ c.register_of.ensures) in
    word-valued _ _ _ _ _ _ _ _ _ refl refl _ s.0
    (rw (← s.0) at s.1) _ c.byte_at.ensures _ c.value_in-p.ensures _ c.valued.ensures
