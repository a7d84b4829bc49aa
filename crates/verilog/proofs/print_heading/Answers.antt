-- `verilog::print_heading` meets its contract. Assumes nothing.
use Rattle.writing.specs.Ascii.{ascii}
use Rattle.verilog.proofs.Printing.{leaves_none, leaves-as, heading-empty, heading-assign, heading-later, heading-sequence, heading-opening, heading-nesting, heading-if, heading-if-else, heading-while, heading-forever, heading-wait, heading-other}
use Rattle.verilog.proofs.print_heading.Goals as goal

pub returns-in-0 : goal.returns-in-0
unfolding ascii
returns-in-0 c =
    leaves-as _ (heading-empty _ _ _ _ _ _ c.in-0.is) c.print_word.ensures

pub returns-in-3 : goal.returns-in-3
unfolding ascii
returns-in-3 c =
    leaves-as _ (heading-assign _ _ _ _ _ _ c.in-3.is) c.print_assign.ensures

pub returns-in-35 : goal.returns-in-35
unfolding ascii
returns-in-35 c =
    leaves-as _ (heading-later _ _ _ _ _ _ c.in-35.is) c.print_assign-in-35.ensures

pub returns-in-12 : goal.returns-in-12
returns-in-12 c =
    leaves_none _ _ (heading-sequence _ _ _ _ _ _ c.in-12.is)

pub returns-in-28 : goal.returns-in-28
unfolding ascii
returns-in-28 c =
    leaves-as _ (heading-opening _ _ _ _ _ _ c.in-28.is) c.print_wait.ensures

pub returns-in-44 : goal.returns-in-44
unfolding ascii
returns-in-44 c =
    leaves-as _ (heading-nesting _ _ _ _ _ _ c.in-44.is) c.print_word-in-44.ensures

pub returns-in-6 : goal.returns-in-6
unfolding ascii
returns-in-6 c =
    leaves-as _ (heading-if _ _ _ _ _ _ c.in-6.is) c.print_condition.ensures

pub returns-in-14 : goal.returns-in-14
unfolding ascii
returns-in-14 c =
    leaves-as _ (heading-if-else _ _ _ _ _ _ c.in-14.is) c.print_condition-in-14.ensures

pub returns-in-70 : goal.returns-in-70
unfolding ascii
returns-in-70 c =
    leaves-as _ (heading-while _ _ _ _ _ _ c.in-70.is) c.print_condition-in-70.ensures

pub returns-in-68 : goal.returns-in-68
unfolding ascii
returns-in-68 c =
    leaves-as _ (heading-forever _ _ _ _ _ _ c.in-68.is) c.print_word-in-68.ensures

pub returns-in-16 : goal.returns-in-16
unfolding ascii
returns-in-16 c =
    leaves-as _ (heading-wait _ _ _ _ _ _ c.in-16.is) c.print_wait-in-16.ensures

pub returns-in_default : goal.returns-in_default
returns-in_default c =
    let r = c.in_default.in_default-own.rest in
    let l = r.0.0.0.0 in
    let k = l.0.0.0.0 in
    leaves_none _ _
    (heading-other _ _ _ _ _ _ k.0.0.1 k.0.1 k.1 l.0.0.0.1 l.0.0.1 l.0.1 l.1 r.0.0.0.1
    r.0.0.1 r.0.1 r.1)
