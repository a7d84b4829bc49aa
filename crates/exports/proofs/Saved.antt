-- A call on a saved state: what `load` found. Assumes nothing.
use mathlib.Core.Path.{◌≡◌, refl, sym, ap, ◌∙◌}
use mathlib.Core.Bool.{true, false, true≢false, false≢true}
use mathlib.Core.Option.{Option, none, some}
use Rattle.state.specs.declared.State.{State}
use Rattle.saved.specs.declared.Loaded.{Loaded}
use Rattle.saved.specs.Saved.{loaded_answer}
use Rattle.exports.specs.Saved.{told_on}

pub found_none : (o : Option State) (l : Loaded) → l ≡ loaded_answer o → l.found ≡ false → o ≡ none
unfolding loaded_answer
found_none none l e h = refl
found_none (some st) l e h = absurd (true≢false (sym (ap (λ (x : Loaded). x.found) e) ∙ h))

pub found_some : (o : Option State) (l : Loaded) → l ≡ loaded_answer o → l.found ≡ true → o ≡ some l.state
unfolding loaded_answer
found_some none l e h = absurd (false≢true (sym (ap (λ (x : Loaded). x.found) e) ∙ h))
found_some (some st) l e h = ap some (sym (ap (λ (x : Loaded). x.state) e))

-- Something is found exactly where the bytes are a saved state.
pub found-saved : (o : Option State) (l : Loaded) → l ≡ loaded_answer o → l.found ≡ told_on false o (λ st. true)
unfolding loaded_answer told_on
found-saved none l e = ap (λ (x : Loaded). x.found) e
found-saved (some st) l e = ap (λ (x : Loaded). x.found) e
