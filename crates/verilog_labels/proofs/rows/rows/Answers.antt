-- `verilog_labels::rows::rows` meets its contract. Assumes nothing.
use borrow.Author.Rules.{rules}
use native.Mathlib.Omega.{arith}
use Rattle.verilog_names.proofs.Chosen.{capped-kept}
use Rattle.verilog_labels.proofs.Laying.{first-few, second-few, all-places, all-lengths}
use Rattle.verilog_labels.proofs.rows.rows.Goals as goal

pub name_all-a-requires : goal.name_all-a-requires
name_all-a-requires c =
    record { text_len_bound = c.requires; count_bound = capped-kept _ _ c.capped-n.ensures; from_bound = omega arith }

pub name_all-b-requires : goal.name_all-b-requires
name_all-b-requires c =
    let n = c.capped-n.ensures in
    record {
      text_len_bound = c.requires;
      count_bound = capped-kept _ _ n;
      from_bound = first-few _ _ n c.name_all-a.ensures.value;
    }

pub name_all-requires : goal.name_all-requires
name_all-requires c =
    let n = c.capped-n.ensures in
    record {
      text_len_bound = c.requires;
      count_bound = capped-kept _ _ n;
      from_bound = second-few _ _ n c.name_all-a.ensures.value c.name_all-b.ensures.value;
    }

pub returns : goal.returns
returns c =
    let a = c.name_all-a.ensures in
    let b = c.name_all-b.ensures in
    let d = c.name_all.ensures in
    let n = c.capped-n.ensures in
    let text = c.args.text.now in
    record {
      places_after = all-places text _ _ _ n a.value b.value a.places_after b.places_after d.places_after;
      lengths_after = all-lengths _ _ _ _ n a.value b.value a.lengths_after b.lengths_after d.lengths_after;
    }
