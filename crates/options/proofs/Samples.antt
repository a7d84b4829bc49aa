-- Samples, computed from the definitions: lists of words and what they ask for. Assumes nothing.
use mathlib.Core.Path.{◌≡◌, refl}
use mathlib.Core.Bool.{Bool, true, false}
use mathlib.Core.List.{List, [], ◌∷◌}
use Prim.Native.Nat.{ℕ}
use Prim.Native.String.{String}
use Rattle.writing.specs.Ascii.{ascii}
use Rattle.hextext.specs.Characters.{digit_of}
use Rattle.stimulus.specs.Counting.{counted}
use Rattle.stimulus.specs.Numbers.{grown, grown_by, number_of}
use Rattle.options.specs.declared.Way.{Way}
use Rattle.options.specs.declared.Way.TheVariants.{Drawn, Expressed, Counted}
use Rattle.options.specs.declared.Shape.{Shape}
use Rattle.options.specs.declared.Command.TheVariants.{List as Listing, Run, Extract, Compare, Explain}
use Rattle.options.specs.declared.Request.{Request}
use Rattle.options.specs.declared.Request.TheVariants.{Help, Version, Short, Wrong, Asked}
use Rattle.options.specs.Tables.{agrees, is_found, goes_on, lettered, ended, among_from, among, command_of}
use Rattle.options.specs.Tables.{valued_option, lone_option, plain_option, short_option, either, option_of, is_number, is_written, is_fed, is_named, goes_with}
use Rattle.options.specs.Tables.{is_course, is_column, goes_beside}
use Rattle.options.specs.Options.{nothing, advanced, noted, valued, wanting, misplaced, with_command, least_of, numbered, is_dash, is_barred, filled, is_dashed}
use Rattle.options.specs.Options.{named, placed, fresh, taken, taken_all}
use Rattle.options.specs.Requests.{is_given, is_fitting, is_misfit, misfit, lacking, clashing, based, kind_of, fault_of, way_of, base_of, last_of, every_of, shape_of, run_of}
use Rattle.options.specs.Requests.{commanded, paired, fitted, judged, request, request_of}

-- The words as bytes.
abbrev bytes : List String → List (List ℕ)
bytes [] = []
bytes (w ∷ ws) = ascii w ∷ bytes ws

-- A table of the registers in decimal, of all cycles.
abbrev plain : Bool → Shape
plain wires =
    record {
      base = 10;
      csv = false;
      inputs = false;
      wires = wires;
      only = 0;
      from = 0;
      to = 4294967295;
      every = 1;
      last = false;
    }

-- A run by the words that name its module, inputs, names and waveform, its way, and what it shows.
abbrev run : ℕ → ℕ → ℕ → ℕ → Way → Shape → Request
run sheet inputs names vcd way shape =
    Asked
    (Run
    (record {
      sheet = sheet;
      inputs = inputs;
      names = names;
      vcd = vcd;
      save = 0;
      load = 0;
      init = 0;
      expect = 0;
      user = 0;
      allowance = 0;
      way = way;
      shape = shape;
      progress = false;
      silent = false;
    }))

-- The inputs in hexadecimal, with commas, from cycle 2 to 9, every third, of the variables that word 16 names.
abbrev third : Shape
third =
    record {
      base = 16;
      csv = true;
      inputs = true;
      wires = false;
      only = 16;
      from = 2;
      to = 9;
      every = 3;
      last = false;
    }

infix 4 ◌asks◌
abbrev ◌asks◌ : List String → Request → Type 0
ws asks r = request_of (bytes ws) ≡ r

-- Options stand anywhere, and `-` is a file. Help and the version come first. Then words that are missing, and words that are out of
-- place, each with its fault: no command, two commands in one word, no option, one file too many, an option or inputs that do not go with
-- the command, a number that is none, past 32 bits or too small, two bases, a seed and the expressions, a waveform on standard output, an option
-- that wants a word.
pub samples :
    (("run" ∷ "m.hex" ∷ "m.in" ∷ "--seed" ∷ "7" ∷ "--wires" ∷ []) asks run 2 3 0 0 (Drawn 7) (plain true)) ×
    (("--vcd" ∷ "w.vcd" ∷ "run" ∷ "--names" ∷ "m.names" ∷ "-" ∷ "m.in" ∷ "--by-expressions" ∷ []) asks run 6 7 5 2 Expressed (plain false)) ×
    (("run" ∷ "m.hex" ∷ "m.in" ∷ "--hex" ∷ "--csv" ∷ "--inputs" ∷ "--from" ∷ "2" ∷ "--to" ∷ "9" ∷ "--every" ∷ "3" ∷ "--seed" ∷ "7" ∷ "--only" ∷ "a" ∷ [])
    asks run 2 3 0 0 (Drawn 7) third) ×
    (("extract" ∷ "m.hex" ∷ "--dot" ∷ []) asks Asked (Extract (record { sheet = 2; names = 0; dot = true }))) ×
    (("compare" ∷ "m.hex" ∷ "m.in" ∷ "--status" ∷ []) asks Asked (Compare (record { sheet = 2; inputs = 3 }))) ×
    (("list" ∷ "-" ∷ []) asks Asked (Listing 2)) ×
    (("lift" ∷ "--help" ∷ []) asks Help) ×
    (("help" ∷ "run" ∷ []) asks Help) ×
    (("list" ∷ "help" ∷ []) asks Asked (Listing 2)) ×
    (("-V" ∷ []) asks Version) ×
    ([] asks Short 1) ×
    (("run" ∷ []) asks Short 2) ×
    (("run" ∷ "m.hex" ∷ []) asks Short 3) ×
    (("list" ∷ "m.hex" ∷ "--vcd" ∷ []) asks Wrong 3 8) ×
    (("lift" ∷ "m.hex" ∷ []) asks Wrong 1 1) ×
    (("list check" ∷ "m.hex" ∷ []) asks Wrong 1 1) ×
    (("check" ∷ "m.hex" ∷ "--wire" ∷ []) asks Wrong 3 2) ×
    (("run" ∷ "m.hex" ∷ "m.in" ∷ "more" ∷ []) asks Wrong 4 4) ×
    (("check" ∷ "m.hex" ∷ "--dot" ∷ []) asks Wrong 3 5) ×
    (("list" ∷ "m.hex" ∷ "m.in" ∷ []) asks Wrong 3 5) ×
    (("run" ∷ "m.hex" ∷ "m.in" ∷ "--seed" ∷ "1x" ∷ []) asks Wrong 5 3) ×
    (("run" ∷ "m.hex" ∷ "m.in" ∷ "--seed" ∷ "4294967296" ∷ []) asks Wrong 5 3) ×
    (("run" ∷ "m.hex" ∷ "m.in" ∷ "--vcd" ∷ "-" ∷ []) asks Wrong 5 7) ×
    (("run" ∷ "m.hex" ∷ "m.in" ∷ "--every" ∷ "0" ∷ []) asks Wrong 5 3) ×
    (("run" ∷ "m.hex" ∷ "m.in" ∷ "--user" ∷ "two" ∷ []) asks Wrong 5 3) ×
    (("compare" ∷ "m.hex" ∷ "m.in" ∷ "--allowance" ∷ "1,2,3,4" ∷ []) asks Wrong 5 5) ×
    (("run" ∷ "m.hex" ∷ "m.in" ∷ "--hex" ∷ "--binary" ∷ []) asks Wrong 5 9) ×
    (("run" ∷ "m.hex" ∷ "m.in" ∷ "--work" ∷ []) asks run 2 3 0 0 Counted (plain false)) ×
    (("explain" ∷ "m.hex" ∷ "--names" ∷ "m.names" ∷ []) asks Asked (Explain 2 4)) ×
    (("check" ∷ "m.hex" ∷ "--work" ∷ []) asks Wrong 3 5) ×
    (("run" ∷ "m.hex" ∷ "m.in" ∷ "--save" ∷ "-" ∷ []) asks Wrong 5 7) ×
    (("run" ∷ "m.hex" ∷ "m.in" ∷ "--work" ∷ "--wires" ∷ []) asks Wrong 5 10) ×
    (("run" ∷ "m.hex" ∷ "m.in" ∷ "--save" ∷ "s" ∷ "--by-expressions" ∷ []) asks Wrong 5 11) ×
    (("run" ∷ "m.hex" ∷ "m.in" ∷ "--seed" ∷ "1" ∷ "--by-expressions" ∷ []) asks Wrong 6 6)
unfolding request_of request judged fitted paired kind_of fault_of taken_all taken nothing advanced counted noted valued wanting misplaced with_command least_of numbered is_dash is_barred filled is_dashed named placed fresh option_of either valued_option lone_option plain_option short_option command_of among among_from is_found goes_on agrees lettered ended is_number is_written ascii is_given misfit is_misfit is_fitting goes_with is_fed is_named goes_beside is_course is_column lacking clashing based way_of base_of last_of every_of shape_of run_of commanded number_of grown_by grown digit_of
samples = (
  refl,
  refl,
  refl,
  refl,
  refl,
  refl,
  refl,
  refl,
  refl,
  refl,
  refl,
  refl,
  refl,
  refl,
  refl,
  refl,
  refl,
  refl,
  refl,
  refl,
  refl,
  refl,
  refl,
  refl,
  refl,
  refl,
  refl,
  refl,
  refl,
  refl,
  refl,
  refl,
  refl,
  refl,
)
