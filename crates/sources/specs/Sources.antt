-- Where a command's module comes from. Two words are added to those of `options`: `--verilog`, which says that the file is Verilog text,
-- and the command `sheet`, which takes what `check` takes.
use Rattle.std.specs.Prelude.{Bool, true, false, List, ℕ, ◌-◌, length, get_or, ltb, eqb}
use Rattle.values.specs.Values.{pick, ◌is◌then◌else◌}
use Rattle.writing.specs.Ascii.{ascii}
use Rattle.naming.specs.Naming.{same_text}
use Rattle.stimulus.specs.Counting.{counted as more}
use Rattle.options.specs.declared.Options.{Options}
use Rattle.options.specs.Options.{options, nothing as no_options, taken as options_taken}
use Rattle.sources.specs.declared.Words.{Words}

abbrev pub words : Options → Bool → Bool → Words
words o verilog sheet = record { options = o; verilog = verilog; sheet = sheet }

unfoldable pub nothing : Words
nothing = words no_options false false

-- One word more, which asks nothing of `options`; one word more, by which the command is number 2, `check`.
unfoldable pub counted : Options → Options
counted o = options (more o.words) o.command o.wants o.wrong o.fault o.value o.at

unfoldable pub commanded : Options → Options
commanded o = options (more o.words) 2 o.wants o.wrong o.fault o.value o.at

-- Is it the word `sheet`, and in the command's place?
unfoldable pub asks : Options → List ℕ → Bool
asks o word = o.command is 0 then same_text word (ascii "sheet") else false

unfoldable pub with_options : Words → List ℕ → Words
with_options w word = words (options_taken w.options word) w.verilog w.sheet

unfoldable pub fresh : Words → List ℕ → Words
fresh w word =
    pick (same_text word (ascii "--verilog")) (words (counted w.options) true w.sheet)
    (pick (asks w.options word) (words (commanded w.options) w.verilog true)
    (with_options w word))

-- ---- taken: one word. The word that an option wants is that option's.

unfoldable pub taken : Words → List ℕ → Words
taken w word = w.options.wants is 0 then fresh w word else with_options w word

-- ---- is_text: is a file of that name Verilog text? Where `--verilog` says so, or its name ends in `.v` (46, 118).

unfoldable pub is_text : Bool → List ℕ → Bool
is_text verilog path =
    pick verilog true
    (pick (ltb (length path) 2) false
    (pick (eqb (get_or path (length path - 2) 0) 46) (eqb (get_or path (length path - 1) 0) 118) false))

-- ---- mark_size: a byte order mark is the three bytes EFh BBh BFh in front of a file

unfoldable pub mark_size : List ℕ → ℕ
mark_size bytes =
    pick (ltb (length bytes) 3) 0
    (get_or bytes 0 0 is 239 then (get_or bytes 1 0 is 187 then (get_or bytes 2 0 is 191 then 3 else 0) else 0) else 0)

-- ---- starts_text: does a file start as Verilog text does: with the `m` of `module`, a comment's `/`, a directive's "`" or an attribute's
-- `(`? A sheet starts with a number up to 16, its hexadecimal text with a digit, a blank, a line end or `#`.

unfoldable pub starts_text : List ℕ → Bool
starts_text bytes =
    length bytes is 0 then false else
    get_or bytes 0 0 is 109 then true else
    get_or bytes 0 0 is 47 then true else
    get_or bytes 0 0 is 96 then true else
    eqb (get_or bytes 0 0) 40
