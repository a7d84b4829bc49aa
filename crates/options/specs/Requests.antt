-- What a list of words asks for: a command with its options, help, or a mistake with its place.
use Rattle.std.specs.Prelude.{Bool, Option, Some, None, not, ◌&&◌, List, [], ◌∷◌, ℕ, ◌+◌, get_or, ltb, eqb}
use Rattle.values.specs.Values.{pick, ◌is◌then◌else◌}
use Rattle.options.specs.declared.Options.{Options}
use Rattle.options.specs.declared.Missing.{Missing}
use Rattle.options.specs.declared.Missing.TheVariants.{Command as MissingCommand, Sheet as MissingSheet, Inputs as MissingInputs}
use Rattle.options.specs.declared.Way.{Way}
use Rattle.options.specs.declared.Way.TheVariants.{Plain, Drawn, Expressed, Counted}
use Rattle.options.specs.declared.Shape.{Shape}
use Rattle.options.specs.declared.RunOptions.{RunOptions}
use Rattle.options.specs.declared.Command.{Command}
use Rattle.options.specs.declared.Command.TheVariants.{List as Listing, Check, Run, Extract, Compare, Verilog, Explain}
use Rattle.options.specs.declared.Request.{Request}
use Rattle.options.specs.declared.Request.TheVariants.{Help, Version, Short, Wrong, Asked}
use Rattle.options.specs.Tables.{is_fed, goes_with, goes_beside}
use Rattle.options.specs.Options.{nothing, taken_all}

abbrev pub word_of : Options → ℕ → ℕ
word_of o slot = get_or o.at slot 0

unfoldable pub is_given : Options → ℕ → Bool
is_given o slot = not (eqb (word_of o slot) 0)

-- ---- mistakes

-- A slot goes with a command, or with a kind of run, whose numbers are those above the commands'.
unfoldable pub is_fitting : ℕ → ℕ → Bool
is_fitting command slot = pick (ltb command 10) (goes_with command slot) (goes_beside command slot)

-- A slot is given by word n, not 0, and does not go with the command.
unfoldable pub is_misfit : ℕ → ℕ → ℕ → Bool
is_misfit command slot n = not (eqb n 0) && not (is_fitting command slot)

-- Of the slots from k on, the word of the first that is given and does not go with the command, 0 where all do.
unfoldable pub misfit : ℕ → ℕ → List ℕ → ℕ
misfit command k [] = 0
misfit command k (n ∷ ns) = pick (is_misfit command k n) n (misfit command (k + 1) ns)

-- Which word is missing: 1 the command, 2 the sheet, 3 the inputs; 0 none.
unfoldable pub lacking : Options → ℕ
lacking o =
    o.command is 0 then 1 else
    pick (is_given o 30) (pick (is_fed o.command) (pick (is_given o 31) 0 3) 0) 2

-- The number of the word that is missing.
abbrev pub lack_of : Option Missing → ℕ
lack_of None = 0
lack_of (Some MissingCommand) = 1
lack_of (Some MissingSheet) = 2
lack_of (Some MissingInputs) = 3

-- A run goes by a seed or by the expressions, and shows numbers in one base.
unfoldable pub clashing : Options → Bool
clashing o = is_given o 3 && is_given o 20

unfoldable pub based : Options → Bool
based o = is_given o 27 && is_given o 28

-- The kind of a run: 10 with its work, 11 by the expressions; else the command's number.
unfoldable pub kind_of : Options → ℕ
kind_of o = pick (is_given o 35) 10 (pick (is_given o 20) 11 o.command)

-- The fault of what does not go with a run of that kind.
unfoldable pub fault_of : ℕ → ℕ
fault_of kind = kind is 10 then 10 else 11

-- ---- commands

abbrev pub number_at : Options → ℕ → ℕ
number_at o slot = get_or o.value slot 0

unfoldable pub way_of : Options → Way
way_of o = pick (is_given o 20) Expressed (pick (is_given o 3) (Drawn (number_at o 3)) (pick (is_given o 35) Counted Plain))

-- The base of the numbers in the table.
unfoldable pub base_of : Options → ℕ
base_of o = pick (is_given o 27) 16 (pick (is_given o 28) 2 10)

-- The last cycle of those to be shown: where none is given, the largest number.
unfoldable pub last_of : Options → ℕ
last_of o = pick (is_given o 5) (number_at o 5) 4294967295

-- Every so many cycles.
unfoldable pub every_of : Options → ℕ
every_of o = pick (is_given o 6) (number_at o 6) 1

unfoldable pub shape_of : Options → Shape
shape_of o =
    record {
      base = base_of o;
      csv = is_given o 29;
      inputs = is_given o 26;
      wires = is_given o 21;
      only = word_of o 7;
      from = number_at o 4;
      to = last_of o;
      every = every_of o;
      last = is_given o 22;
    }

unfoldable pub run_of : Options → RunOptions
run_of o =
    record {
      sheet = word_of o 30;
      inputs = word_of o 31;
      names = word_of o 2;
      vcd = word_of o 1;
      save = word_of o 11;
      load = word_of o 12;
      init = word_of o 13;
      expect = word_of o 8;
      user = number_at o 9;
      allowance = word_of o 10;
      way = way_of o;
      shape = shape_of o;
      progress = is_given o 24;
      silent = is_given o 25;
    }

unfoldable pub commanded : Options → Command
commanded o =
    o.command is 1 then Listing (word_of o 30) else
    o.command is 2 then Check (word_of o 30) else
    o.command is 3 then Run (run_of o) else
    o.command is 4 then Extract (record { sheet = word_of o 30; names = word_of o 2; dot = is_given o 23 }) else
    o.command is 5 then Compare (record { sheet = word_of o 30; inputs = word_of o 31 }) else
    o.command is 8 then Explain (word_of o 30) (word_of o 2) else
    Verilog (word_of o 30)

-- ---- request: help or the version where it is asked for; else the first mistake, in this order, with its fault; else the command

unfoldable pub paired : Options → Request
paired o =
    let n = misfit (kind_of o) 0 o.at in
    pick (clashing o) (Wrong (word_of o 20) 6)
    (pick (based o) (Wrong (word_of o 28) 9)
    (n is 0 then Asked (commanded o) else Wrong n (fault_of (kind_of o))))

unfoldable pub fitted : Options → Request
fitted o =
    let n = misfit o.command 0 o.at in
    n is 0 then paired o else Wrong n 5

unfoldable pub judged : Options → Request
judged o =
    o.wrong is 0 then (o.wants is 0 then (lacking o is 0 then fitted o else Short (lacking o)) else Wrong o.words 8) else
    Wrong o.wrong o.fault

unfoldable pub request : Options → Request
request o = pick (is_given o 33) Help (pick (is_given o 34) Version (judged o))

-- ---- request_of: what a list of words asks for

unfoldable pub request_of : List (List ℕ) → Request
request_of ws = request (taken_all nothing ws)

-- ---- the files of a command: the words that name its sheet and its names, 0 where it has none

unfoldable pub sheet_of : Command → ℕ
sheet_of (Listing n) = n
sheet_of (Check n) = n
sheet_of (Run o) = o.sheet
sheet_of (Extract o) = o.sheet
sheet_of (Compare o) = o.sheet
sheet_of (Verilog n) = n
sheet_of (Explain n k) = n

unfoldable pub names_of : Command → ℕ
names_of (Listing n) = 0
names_of (Check n) = 0
names_of (Run o) = o.names
names_of (Extract o) = o.names
names_of (Compare o) = 0
names_of (Verilog n) = 0
names_of (Explain n k) = k
