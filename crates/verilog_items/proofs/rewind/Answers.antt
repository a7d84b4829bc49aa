-- `verilog_items::rewind` meets its contract. Assumes nothing.
use mathlib.Core.Path.{refl}
use Rattle.verilog_items.specs.Items.{rewound}
use Rattle.verilog_items.proofs.rewind.Goals as goal

pub returns : goal.returns
unfolding rewound
returns c =
    refl
